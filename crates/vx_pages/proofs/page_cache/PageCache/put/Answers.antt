use Rattle.std.proofs.Common.{◌≡◌, ℕ, List, None, true, false, nat_eq, length, refl, sym, ap, ◌∙◌, arith}
use Rattle.std.specs.Prelude.{is_some}
use Rattle.vx_pages.specs.Pages.{Pages, find}
use Rattle.std.specs.Map.{remove_entry}
use Rattle.vx_pages.specs.Indexes.{slot_at}
use Rattle.vx_pages.specs.Slots.{Slot, listed, but}
use Rattle.vx_pages.proofs.Listed.{absent}
use Rattle.vx_pages.proofs.Kept.{kept_filled, lookup_of, number_less, length_removed, key_of}
use Rattle.vx_pages.proofs.Facts.{listed_fewer}
use Rattle.vx_pages.proofs.Leaving.{not_indexed}
use Rattle.vx_pages.proofs.Spare.{spare_some, spare_none}
use Rattle.vx_pages.proofs.page_cache.PageCache.put.Goals as goal

abbrev new : ℕ → ℕ → List ℕ → Slot
new ino page bytes = record { used = true; entry = record { ino = ino; page = page; bytes = bytes; changed = false } }

pub forget-requires-clause-there : goal.forget-requires-clause-there
forget-requires-clause-there c =
    let n = c.in-Some.number in let ss = c.self.inside.slots.entries in
    let h = spare_some ss c.self.invariant.count n c.spare_slot.ensures.distinct (sym c.in-Some.ensures.spare) in
    ap is_some (lookup_of n ss h.0 h.1)

pub fill-requires-clause-there : goal.fill-requires-clause-there
fill-requires-clause-there c =
    let n = c.in-Some.number in let ss = c.self.inside.slots.entries in
    let h = spare_some ss c.self.invariant.count n c.spare_slot.ensures.distinct (sym c.in-Some.ensures.spare) in
    ap is_some (lookup_of n ss h.0 h.1)

pub insert-requires-clause-new : goal.insert-requires-clause-new
insert-requires-clause-new c =
    let ss = c.self.inside.slots.entries in let ino = c.args.ino in let p = c.args.p in
    let none : find ino p (listed ss) ≡ None = ap (λ (v : Pages). find ino p v.entries) c.self.view_is ∙ c.requires.absent in
    c.forget.ensures.others ino p ∙ ap (but c.in-Some.number) (not_indexed ino p (slot_at ino p c.self.inside.index) ss (c.self.invariant.tied.each ino p) (c.self.invariant.tied.there ino p) none)

pub insert-requires-clause-room : goal.insert-requires-clause-room
insert-requires-clause-room c =
    let n = c.in-Some.number in let ss = c.self.inside.slots.entries in
    let h = spare_some ss c.self.invariant.count n c.spare_slot.ensures.distinct (sym c.in-Some.ensures.spare) in
    omega (arith, c.forget.ensures.few, listed_fewer (remove_entry (nat_eq n) ss), length_removed (nat_eq n) ss h.0 h.1, c.self.invariant.count)

pub invariant_of-self : goal.invariant_of-self
invariant_of-self c =
    let n = c.in-Some.number in let ss = c.self.inside.slots.entries in let block = c.self.inside.block in
    let h = spare_some ss c.self.invariant.count n c.spare_slot.ensures.distinct (sym c.in-Some.ensures.spare) in
    let none : find c.args.ino c.args.p (listed ss) ≡ None = ap (λ (v : Pages). find c.args.ino c.args.p v.entries) c.self.view_is ∙ c.requires.absent in
    let size : length c.args.page.now ≡ block = c.requires.size ∙ sym (ap (λ (v : Pages). v.block) c.self.view_is) in
    rw c.fill.ensures (kept_filled block c.args.ino c.args.p n (new c.args.ino c.args.p c.args.page.now) c.self.inside.index c.forget.new.index c.insert.new.self ss h.0 h.1 c.spare_slot.ensures.distinct (absent c.args.ino c.args.p ss none)
    (number_less block n ss h.0 c.self.invariant.each h.1) refl refl refl size (key_of n ss h.0 h.1) c.forget.ensures.others c.forget.ensures.few c.insert.ensures.entered c.insert.ensures.count c.self.invariant)

pub returns-in-Some-clause-answer : goal.returns-in-Some-clause-answer
returns-in-Some-clause-answer c =
    let n = c.in-Some.number in let ss = c.self.inside.slots.entries in
    let h = spare_some ss c.self.invariant.count n c.spare_slot.ensures.distinct (sym c.in-Some.ensures.spare) in
    rw (← c.self.view_is, h.2) refl

pub returns-in-Some-clause-added : goal.returns-in-Some-clause-added
returns-in-Some-clause-added c =
    let n = c.in-Some.number in let ss = c.self.inside.slots.entries in
    let h = spare_some ss c.self.invariant.count n c.spare_slot.ensures.distinct (sym c.in-Some.ensures.spare) in
    rw (← c.self.view_is, c.fill.ensures, h.2) refl

pub returns-in-None-clause-answer : goal.returns-in-None-clause-answer
returns-in-None-clause-answer c =
    let ss = c.self.inside.slots.entries in
    rw (← c.self.view_is, spare_none ss c.self.invariant.count c.spare_slot.ensures.distinct (sym c.in-None.ensures.spare)) refl

pub returns-in-None-clause-added : goal.returns-in-None-clause-added
returns-in-None-clause-added c =
    let ss = c.self.inside.slots.entries in
    rw (← c.self.view_is, spare_none ss c.self.invariant.count c.spare_slot.ensures.distinct (sym c.in-None.ensures.spare)) refl
