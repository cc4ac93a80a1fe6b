use Rattle.std.proofs.Common.{◌≡◌, [], ℕ, List, length, arith, true, sym, ap, ◌∙◌, subst}
use Rattle.std.proofs.lemmas.List.{length_push}
use Rattle.vx_alloc.specs.FreeMaps.{FreeMapView, with_bit}
use Rattle.vx_filemaps.specs.FileMaps.{IsTaken}
use Rattle.vx_filemaps.proofs.Free.{last_taken, last_used, last_given, none_left, none_taken}
use Rattle.vx_filemaps.proofs.place.give_back.Goals.{in-Some, in-None}
use Rattle.vx_filemaps.proofs.place.give_back.Goals as goal

pub give-requires : goal.give-requires
give-requires c =
    let s = c.loop-i.invariant.some in
    let b = c.in-Some.b in
    let at = subst (λ (bs : List ℕ). IsTaken s.0 bs c.loop-i.free) c.in-Some.ensures.items s.1.1 in
    last_used s.0 c.pop.new.self.items c.loop-i.free b (last_taken s.0 c.pop.new.self.items c.loop-i.free b s.1.0 at)

pub loop-i-preserved : goal.loop-i-preserved
loop-i-preserved c =
    let inv = c.loop-i.invariant in
    let s = inv.some in
    elim c.match-pop.branch [
      | in-Some w ↦
          let b = w.in-Some.b in
          let items = w.in-Some.ensures.items in
          let free : c.match-pop.free ≡ with_bit c.loop-i.free b true = w.free-is ∙ w.give.ensures in
          record {
            some = (s.0, (s.1.0, subst (λ (v : FreeMapView). IsTaken s.0 c.pop.new.self.items v) (sym free) (last_given s.0 c.pop.new.self.items c.loop-i.free b (last_taken s.0 c.pop.new.self.items c.loop-i.free b s.1.0 (subst (λ (bs : List ℕ). IsTaken s.0 bs c.loop-i.free) items s.1.1)))));
            each = λ base ready is. subst (λ (v : FreeMapView). IsTaken base c.pop.new.self.items v) (sym free) (last_given base c.pop.new.self.items c.loop-i.free b (last_taken base c.pop.new.self.items c.loop-i.free b ready (subst (λ (bs : List ℕ). IsTaken base bs c.loop-i.free) items (inv.each base ready is))));
            count = omega (arith, inv.count, ap length items, length_push c.pop.new.self.items b);
          }
      | in-None w ↦ absurd (omega (arith, inv.count, c.len-i-end.ensures, c.args.taken.now.ok.0, c.loop-i.taken.ok.0, w.in-None.ensures.cases.0))
    ]

pub returns-clause-given : goal.returns-clause-given
returns-clause-given c = λ base ready is.
    let none : c.loop-i.taken.items ≡ [] = none_left c.loop-i.taken.items (omega (arith, c.loop-i.invariant.count, c.len-i-end.ensures, c.args.taken.now.ok.0)) in
    none_taken base c.loop-i.taken.items c.loop-i.free none (c.loop-i.invariant.each base ready is)

pub returns-clause-empty : goal.returns-clause-empty
returns-clause-empty c = none_left c.loop-i.taken.items (omega (arith, c.loop-i.invariant.count, c.len-i-end.ensures, c.args.taken.now.ok.0))
