use Rattle.std.proofs.Common.{◌≡◌, ◌+◌, ℕ, Bool, arith, sym, ap, ◌∙◌, cond}
use Rattle.std.specs.Prelude.{is_none}
use Rattle.vx_extents.specs.Extents.{mapped_at}
use Rattle.vx_filemaps.proofs.Pages.{missing_more, none_of}
use Rattle.vx_filemaps.proofs.place.missing.Goals.{then-is_none, else-is_none}
use Rattle.vx_filemaps.proofs.place.missing.Goals as goal

pub loop-i-preserved : goal.loop-i-preserved
loop-i-preserved c =
    let pages = c.args.pages.now.pages in
    let inv = c.loop-i.invariant in
    let at : c.new.result ≡ c.args.from + c.loop-i.i = omega (arith, c.new.ensures, c.get.ensures) in
    let step = missing_more pages c.args.from c.args.n c.loop-i.i c.loop-i.count (omega arith) in
    let test : c.is_none.result ≡ is_none (mapped_at pages (c.args.from + c.loop-i.i)) = sym (none_of c.find.result c.is_none.result (sym c.is_none.ensures)) ∙ ap is_none c.find.ensures ∙ ap (λ (p : ℕ). is_none (mapped_at pages p)) at in
    elim c.if-is_none.branch [
      | then-is_none w ↦
          let one : ◌≡◌ {A = ℕ} (cond (is_none (mapped_at pages (c.args.from + c.loop-i.i))) 1 0) 1 = ap (λ (b : Bool). cond {A = ℕ} b 1 0) (sym test ∙ w.if-is_none.true) in
          record { counted = omega (arith, inv.counted, step, one, w.count-is); few = omega (arith, inv.few, w.count-is) }
      | else-is_none w ↦
          let none : ◌≡◌ {A = ℕ} (cond (is_none (mapped_at pages (c.args.from + c.loop-i.i))) 1 0) 0 = ap (λ (b : Bool). cond {A = ℕ} b 1 0) (sym test ∙ w.if-is_none.false) in
          record { counted = omega (arith, inv.counted, step, none, w.count-is); few = omega (arith, inv.few, w.count-is) }
    ]
