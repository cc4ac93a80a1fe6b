use Rattle.std.proofs.Common.{ℕ, List, nat_eq, sym, ap, Some, None}
use Rattle.vx_pages.specs.Pages.{Entry, Pages, cleaned}
use Rattle.vx_pages.proofs.Listed.{edit_listed, edit_none, missed}
use Rattle.vx_pages.proofs.Kept.{kept_set, place_cleaned}
use Rattle.vx_pages.proofs.Kept.{held}
use Rattle.vx_pages.proofs.page_cache.PageCache.clean.Goals as goal

abbrev view_of : ℕ → List Entry → Pages
view_of block es = record { block = block; entries = es }

pub invariant_of-self : goal.invariant_of-self
invariant_of-self c =
    kept_set c.self.inside.block (nat_eq c.in-Some.number) c.self.inside.slots.entries c.in-Some-peek_mut.slot.now c.clean.new.self
    (sym c.in-Some-peek_mut.ensures.value) (place_cleaned c.in-Some-peek_mut.slot.now c.clean.new.self c.clean.ensures) c.self.invariant

pub returns-in-Some-peek_mut : goal.returns-in-Some-peek_mut
returns-in-Some-peek_mut c =
    rw (← c.self.view_is) (ap (view_of c.self.inside.block)
    (edit_listed c.args.ino c.args.p c.in-Some.number cleaned c.self.inside.slots.entries c.in-Some-peek_mut.slot.now c.clean.new.self (held c.self.invariant c.args.ino c.args.p (Some c.in-Some.number) c.in-Some.ensures) (sym c.in-Some-peek_mut.ensures.value) c.clean.ensures))

pub returns-in_default-peek_mut : goal.returns-in_default-peek_mut
returns-in_default-peek_mut c =
    let ss = c.self.inside.slots.entries in
    rw (← c.self.view_is) (ap (view_of c.self.inside.block) (sym (edit_none c.args.ino c.args.p cleaned ss (missed c.args.ino c.args.p c.in-Some.number ss (held c.self.invariant c.args.ino c.args.p (Some c.in-Some.number) c.in-Some.ensures) (sym c.in_default-peek_mut.ensures.value)))))

pub returns-in_default : goal.returns-in_default
returns-in_default c = rw (← c.self.view_is) (ap (view_of c.self.inside.block) (sym (edit_none c.args.ino c.args.p cleaned c.self.inside.slots.entries (held c.self.invariant c.args.ino c.args.p None c.in_default.ensures))))
