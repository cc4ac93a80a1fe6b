use Rattle.std.proofs.Common.{rules, ◌≡◌, ◌++◌, ◌∷◌, [], ℕ, sym, subst, arith}
use Rattle.std.proofs.lemmas.Grind.{common_steps}
use Rattle.std.specs.Prelude.{is_some}
use Rattle.vx_sound.specs.Said.{inode_count}
use Rattle.vx_check.specs.Slots.{IsSlotRead, AreSlotsRead}
use Rattle.vx_check.proofs.Going.{read_on}
use Rattle.vx_check.proofs.SlotLists.{forms_more, next_long, next_slots}
use Rattle.vx_check.specs.Slots.{HaveForms}
use Rattle.vx_check.proofs.slots.read_slots.Goals as goal

pub loop-n-preserved : goal.loop-n-preserved
loop-n-preserved g c =
    let v = c.args.volume.now in
    let n = c.loop-n.n in
    let o = c.in-Ok.slot.value in
    let p : c.push.new.self.items ≡ c.loop-n.values.items ++ o ∷ [] = c.in-Ok-push.ensures.items in
    let q : c.push-in-Ok.new.self.items ≡ c.loop-n.bad.items ++ c.in-Ok.slot.bad ∷ [] = c.in-Ok-push-2.ensures.items in
    let r : c.push-in-Ok-2.new.self.items ≡ c.loop-n.used.items ++ c.is_some.result ∷ [] = c.in-Ok-push-3.ensures.items in
    let is : c.is_some.result ≡ is_some o = first_of (search rules, grind (arith, common_steps)) in
    record {
      read = read_on (g.D.Sectors.view c.args.dev.now) (g.D.Sectors.view c.loop-n.dev) (g.D.Sectors.view c.read_slot.new.dev) c.loop-n.invariant.read c.read_slot.ensures.read;
      long = next_long n c.loop-n.values.items c.loop-n.bad.items c.loop-n.used.items o c.in-Ok.slot.bad c.is_some.result c.push.new.self.items c.push-in-Ok.new.self.items c.push-in-Ok-2.new.self.items p q r c.loop-n.invariant.long;
      forms = subst HaveForms (sym p) (forms_more c.loop-n.values.items o c.loop-n.invariant.forms c.in-Ok.ensures.is);
      known = λ image known.
          let slot : IsSlotRead v image n o c.in-Ok.slot.bad = subst (λ (m : ℕ). IsSlotRead v image m o c.in-Ok.slot.bad) c.new.ensures (c.in-Ok.ensures.slot image known) in
          next_slots v image n c.loop-n.values.items c.loop-n.bad.items c.loop-n.used.items o c.in-Ok.slot.bad c.is_some.result c.push.new.self.items c.push-in-Ok.new.self.items c.push-in-Ok-2.new.self.items p q r is c.loop-n.invariant.long
          (c.loop-n.invariant.known image (c.read_slot.ensures.read.seen image known)) slot;
    }

pub returns-clause-slots : goal.returns-clause-slots
returns-clause-slots g c = λ image known.
    let end : c.loop-n.n ≡ inode_count c.args.volume.now = omega arith in
    subst (λ (k : ℕ). AreSlotsRead c.args.volume.now image k c.loop-n.values.items c.loop-n.bad.items c.loop-n.used.items) end (c.loop-n.invariant.known image known)

pub returns-in-Err-clause-finds : goal.returns-in-Err-clause-finds
returns-in-Err-clause-finds g c = λ strict image known. c.in-Err.ensures.finds strict image known
