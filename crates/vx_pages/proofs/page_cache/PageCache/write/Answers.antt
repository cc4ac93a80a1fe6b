use Rattle.std.proofs.Common.{◌+◌, ◌≤◌, ℕ, List, Some, nat_eq, length, refl, sym, ap, ◌∙◌, arith, None}
use Rattle.std.specs.Map.{set_value}
use Rattle.vx_pages.specs.Pages.{Entry, Pages, to_front, written}
use Rattle.vx_pages.proofs.Listed.{find_none, front_none, edit_none, there_listed, front_listed, edit_listed, missed}
use Rattle.vx_pages.proofs.Kept.{size_found, kept_promoted, kept_set, tied_set, place_written, lookup_set}
use Rattle.vx_pages.proofs.Kept.{held}
use Rattle.vx_pages.proofs.page_cache.PageCache.write.Goals as goal

abbrev view_of : ℕ → List Entry → Pages
view_of block es = record { block = block; entries = es }

pub write-requires : goal.write-requires
write-requires c =
    let size = size_found c.self.inside.block (nat_eq c.in-Some.number) c.self.inside.slots.entries c.in-Some-peek_mut.slot.now c.self.invariant.each (sym c.in-Some-peek_mut.ensures.value) in
    omega (arith, size, c.requires, ap (λ (v : Pages). v.block) c.self.view_is)

pub invariant_of-self : goal.invariant_of-self
invariant_of-self c =
    let ss = c.self.inside.slots.entries in let block = c.self.inside.block in let n = c.in-Some.number in let s = c.in-Some-peek_mut.slot.now in let w = c.write.new.self in
    let size = size_found block (nat_eq n) ss s c.self.invariant.each (sym c.in-Some-peek_mut.ensures.value) in
    let fits : c.args.from + length c.args.bytes.now ≤ length s.entry.bytes = omega (arith, size, c.requires, ap (λ (v : Pages). v.block) c.self.view_is) in
    rw c.promote.ensures.entries (kept_promoted block (nat_eq n) (set_value (nat_eq n) ss w)
    (kept_set block (nat_eq n) ss s w (sym c.in-Some-peek_mut.ensures.value) (place_written c.args.from c.args.bytes.now s w fits c.write.ensures) c.self.invariant))

pub returns-in-Some-peek_mut-clause-answer : goal.returns-in-Some-peek_mut-clause-answer
returns-in-Some-peek_mut-clause-answer c =
    let ss = c.self.inside.slots.entries in let n = c.in-Some.number in
    rw (← c.self.view_is) (c.promote.ensures.value ∙ lookup_set (nat_eq n) ss c.write.new.self ∙ there_listed c.args.ino c.args.p n ss (held c.self.invariant c.args.ino c.args.p (Some c.in-Some.number) c.in-Some.ensures))

pub returns-in-Some-peek_mut-clause-written : goal.returns-in-Some-peek_mut-clause-written
returns-in-Some-peek_mut-clause-written c =
    let ss = c.self.inside.slots.entries in let block = c.self.inside.block in let n = c.in-Some.number in let s = c.in-Some-peek_mut.slot.now in let w = c.write.new.self in
    let ino = c.args.ino in let p = c.args.p in
    let size = size_found block (nat_eq n) ss s c.self.invariant.each (sym c.in-Some-peek_mut.ensures.value) in
    let fits : c.args.from + length c.args.bytes.now ≤ length s.entry.bytes = omega (arith, size, c.requires, ap (λ (v : Pages). v.block) c.self.view_is) in
    let tied = tied_set ino p (Some n) (nat_eq n) ss s w (sym c.in-Some-peek_mut.ensures.value) (place_written c.args.from c.args.bytes.now s w fits c.write.ensures) (held c.self.invariant c.args.ino c.args.p (Some c.in-Some.number) c.in-Some.ensures) in
    rw (← c.self.view_is, c.promote.ensures.entries) (ap (view_of block) (front_listed ino p n (set_value (nat_eq n) ss w) tied
    ∙ ap (to_front ino p) (edit_listed ino p n (written c.args.from c.args.bytes.now) ss s w (held c.self.invariant c.args.ino c.args.p (Some c.in-Some.number) c.in-Some.ensures) (sym c.in-Some-peek_mut.ensures.value) c.write.ensures)))

pub returns-in-None-peek_mut-clause-answer : goal.returns-in-None-peek_mut-clause-answer
returns-in-None-peek_mut-clause-answer c =
    let ss = c.self.inside.slots.entries in
    rw (← c.self.view_is, find_none c.args.ino c.args.p ss (missed c.args.ino c.args.p c.in-Some.number ss (held c.self.invariant c.args.ino c.args.p (Some c.in-Some.number) c.in-Some.ensures) (sym c.in-None-peek_mut.ensures.value))) refl

pub returns-in-None-peek_mut-clause-written : goal.returns-in-None-peek_mut-clause-written
returns-in-None-peek_mut-clause-written c =
    let ss = c.self.inside.slots.entries in let ino = c.args.ino in let p = c.args.p in
    let nowhere = missed ino p c.in-Some.number ss (held c.self.invariant c.args.ino c.args.p (Some c.in-Some.number) c.in-Some.ensures) (sym c.in-None-peek_mut.ensures.value) in
    rw (← c.self.view_is) (ap (view_of c.self.inside.block) (sym (ap (to_front ino p) (edit_none ino p (written c.args.from c.args.bytes.now) ss nowhere) ∙ front_none ino p ss nowhere)))

pub returns-in-None-clause-answer : goal.returns-in-None-clause-answer
returns-in-None-clause-answer c = rw (← c.self.view_is, find_none c.args.ino c.args.p c.self.inside.slots.entries (held c.self.invariant c.args.ino c.args.p None c.in-None.ensures)) refl

pub returns-in-None-clause-written : goal.returns-in-None-clause-written
returns-in-None-clause-written c =
    let ss = c.self.inside.slots.entries in let ino = c.args.ino in let p = c.args.p in
    rw (← c.self.view_is) (ap (view_of c.self.inside.block) (sym (ap (to_front ino p) (edit_none ino p (written c.args.from c.args.bytes.now) ss (held c.self.invariant c.args.ino c.args.p None c.in-None.ensures)) ∙ front_none ino p ss (held c.self.invariant c.args.ino c.args.p None c.in-None.ensures))))
