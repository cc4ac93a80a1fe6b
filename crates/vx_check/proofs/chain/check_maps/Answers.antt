use Rattle.std.proofs.Common.{◌≡◌, ◌+◌, ◌<◌, ◌++◌, ◌∷◌, [], ℕ, List, sym, subst, arith, rules}
use Rattle.std.proofs.lemmas.Grind.{common_steps}
use Rattle.std.specs.Prelude.{Option, is_some, nat_lt}
use Rattle.std.specs.List.{flat_map, AllByRecursion}
use Rattle.vx_layout.specs.Maps.{MapBlock}
use Rattle.vx_sound.specs.FirstFault.{numbers}
use Rattle.vx_sound.specs.Said.{claims_below}
use Rattle.vx_sound.specs.Checks.{Holds, map_checks}
use Rattle.vx_check.specs.Parts.{AreMarksOf}
use Rattle.vx_check.proofs.Going.{no_read, read_on, still_readable, stops_at}
use Rattle.vx_check.proofs.MapChains.{IsGoing, chain_at, chain_front, going_start, going_more, going_end}
use Rattle.vx_check.proofs.chain.check_maps.Goals as goal

pub loop-k-init : goal.loop-k-init
loop-k-init g c = record {
  read = no_read (g.D.Sectors.view c.args.dev.now);
  room = c.requires.room;
  more = c.requires.chained;
  known = λ image known.
      subst (IsGoing c.args.volume.now image c.args.ino c.args.value.now c.args.marks.now 0 c.args.value.now.map c.args.extents.now.items c.args.extents.now.items) (sym c.new-maps.ensures.items)
      (going_start c.args.volume.now image c.args.ino c.args.value.now c.args.extents.now.items c.args.marks.now c.requires.chained (c.requires.marks image known));
}

pub check_map-requires-clause-readable : goal.check_map-requires-clause-readable
check_map-requires-clause-readable g c = still_readable c.args.volume.now (g.D.Sectors.view c.args.dev.now) (g.D.Sectors.view c.loop-k.dev) c.loop-k.invariant.read c.requires.readable

pub check_map-requires-clause-said : goal.check_map-requires-clause-said
check_map-requires-clause-said g c = λ image now. c.requires.said image (c.loop-k.invariant.read.seen image now)

pub check_map-requires-clause-at : goal.check_map-requires-clause-at
check_map-requires-clause-at g c = λ image now.
    let v = c.args.volume.now in
    let less : c.loop-k.k < c.args.value.now.maps = omega arith in
    let inv = subst (λ (a : Option ℕ). IsGoing v image c.args.ino c.args.value.now c.loop-k.marks c.loop-k.k a c.args.extents.now.items c.loop-k.extents.items c.loop-k.maps.items) c.in-Some.is (c.loop-k.invariant.known image now) in
    chain_at v image c.args.ino c.args.value.now c.loop-k.marks c.loop-k.k c.in-Some.b c.loop-k.maps.items less inv.is

pub check_map-requires-clause-marks : goal.check_map-requires-clause-marks
check_map-requires-clause-marks g c = λ image now.
    let v = c.args.volume.now in
    let less : c.loop-k.k < c.args.value.now.maps = omega arith in
    let inv = subst (λ (a : Option ℕ). IsGoing v image c.args.ino c.args.value.now c.loop-k.marks c.loop-k.k a c.args.extents.now.items c.loop-k.extents.items c.loop-k.maps.items) c.in-Some.is (c.loop-k.invariant.known image now) in
    let front = chain_front v image c.args.ino c.args.value.now c.loop-k.marks c.loop-k.k c.in-Some.b c.loop-k.maps.items less inv.is in
    subst (λ (xs : List ℕ). AreMarksOf c.loop-k.marks (claims_below v image c.args.ino ++ xs)) (sym front) inv.is.marked

pub returns-in-Err-clause-finds : goal.returns-in-Err-clause-finds
returns-in-Err-clause-finds g c = λ strict image known.
    let less : c.loop-k.k < c.args.value.now.maps = omega arith in
    stops_at strict c.args.volume.now image (map_checks c.args.ino) c.args.value.now.maps c.loop-k.k c.in-Err.stop less ((c.loop-k.invariant.known image (c.check_map.ensures.read.seen image known)).is.all strict)
    (c.in-Err.ensures.finds strict image known)

pub loop-k-preserved : goal.loop-k-preserved
loop-k-preserved g c =
    let v = c.args.volume.now in
    let n = c.args.ino in
    let i = c.args.value.now in
    let k = c.loop-k.k in
    let b = c.in-Some.b in
    let m : MapBlock = c.in-Ok.map in
    let less : k < i.maps = omega arith in
    let old = c.args.extents.now.items in
    record {
      read = read_on (g.D.Sectors.view c.args.dev.now) (g.D.Sectors.view c.loop-k.dev) (g.D.Sectors.view c.check_map.new.dev) c.loop-k.invariant.read c.check_map.ensures.read;
      room = c.check_map.ensures.room;
      more = subst (λ (a : Option ℕ). is_some a ≡ nat_lt (k + 1) i.maps) (sym c.next-at.ensures) c.in-Ok.ensures.next;
      known = λ image known.
          let before = c.check_map.ensures.read.seen image known in
          let inv = subst (λ (a : Option ℕ). IsGoing v image n i c.loop-k.marks k a old c.loop-k.extents.items c.loop-k.maps.items) c.in-Some.is (c.loop-k.invariant.known image before) in
          let pushed : c.push.new.self.items ≡ c.loop-k.maps.items ++ b ∷ [] = first_of (search rules, grind (arith, common_steps)) in
          let es : c.add_extents.new.extents.items ≡ c.loop-k.extents.items ++ m.extents = first_of (search rules, grind (arith, common_steps)) in
          subst (λ (a : Option ℕ). IsGoing v image n i c.check_map.new.marks (k + 1) a old c.add_extents.new.extents.items c.push.new.self.items) (sym c.next-at.ensures)
          (subst (IsGoing v image n i c.check_map.new.marks (k + 1) m.next old c.add_extents.new.extents.items) (sym pushed)
          (going_more v image n i old c.loop-k.marks k b c.loop-k.extents.items c.loop-k.maps.items less inv m c.check_map.new.marks (c.in-Ok.ensures.map image known) c.in-Ok.ensures.next (c.in-Ok.ensures.marks image known)
          (λ strict. c.in-Ok.ensures.finds strict image known) c.add_extents.new.extents.items es));
    }

pub returns-clause-finds : goal.returns-clause-finds
returns-clause-finds g c = λ strict image known.
    let end : c.loop-k.k ≡ c.args.value.now.maps = omega arith in
    subst (λ (n : ℕ). AllByRecursion (Holds strict c.args.volume.now image) (flat_map (map_checks c.args.ino) (numbers 0 n))) end ((c.loop-k.invariant.known image known).is.all strict)

pub returns-clause-extents : goal.returns-clause-extents
returns-clause-extents g c = λ image known.
    let end : c.loop-k.k ≡ c.args.value.now.maps = omega arith in
    (going_end c.args.volume.now image c.args.ino c.args.value.now c.args.extents.now.items c.loop-k.marks c.loop-k.k c.loop-k.at c.loop-k.extents.items c.loop-k.maps.items end (c.loop-k.invariant.known image known)).1

pub returns-clause-marks : goal.returns-clause-marks
returns-clause-marks g c = λ image known.
    let end : c.loop-k.k ≡ c.args.value.now.maps = omega arith in
    (going_end c.args.volume.now image c.args.ino c.args.value.now c.args.extents.now.items c.loop-k.marks c.loop-k.k c.loop-k.at c.loop-k.extents.items c.loop-k.maps.items end (c.loop-k.invariant.known image known)).2

pub returns-clause-maps : goal.returns-clause-maps
returns-clause-maps g c = λ image known.
    let end : c.loop-k.k ≡ c.args.value.now.maps = omega arith in
    (going_end c.args.volume.now image c.args.ino c.args.value.now c.args.extents.now.items c.loop-k.marks c.loop-k.k c.loop-k.at c.loop-k.extents.items c.loop-k.maps.items end (c.loop-k.invariant.known image known)).0
