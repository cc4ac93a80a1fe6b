use Rattle.std.proofs.Common.{nat_eq, refl, sym, ap, ◌∙◌, Some, None}
use Rattle.vx_pages.specs.Pages.{Pages}
use Rattle.vx_pages.proofs.Listed.{find_listed, find_none}
use Rattle.vx_pages.proofs.Kept.{size_found}
use Rattle.vx_pages.proofs.Kept.{held}
use Rattle.vx_pages.proofs.page_cache.PageCache.peek.Goals as goal

pub returns-in-Some-peek-clause-bytes : goal.returns-in-Some-peek-clause-bytes
returns-in-Some-peek-clause-bytes c =
    rw (c.bytes.ensures, ← c.self.view_is, find_listed c.args.ino c.args.p c.in-Some.number c.self.inside.slots.entries (held c.self.invariant c.args.ino c.args.p (Some c.in-Some.number) c.in-Some.ensures), ← c.in-Some-peek.ensures) refl

pub returns-in-Some-peek-clause-size : goal.returns-in-Some-peek-clause-size
returns-in-Some-peek-clause-size c =
    rw (c.bytes.ensures) (size_found c.self.inside.block (nat_eq c.in-Some.number) c.self.inside.slots.entries c.in-Some-peek.slot.now c.self.invariant.each (sym c.in-Some-peek.ensures)
    ∙ ap (λ (v : Pages). v.block) c.self.view_is)

pub returns-in-None-peek-clause-bytes : goal.returns-in-None-peek-clause-bytes
returns-in-None-peek-clause-bytes c =
    rw (← c.self.view_is, find_listed c.args.ino c.args.p c.in-Some.number c.self.inside.slots.entries (held c.self.invariant c.args.ino c.args.p (Some c.in-Some.number) c.in-Some.ensures), ← c.in-None-peek.ensures) refl

pub returns-in-None-clause-bytes : goal.returns-in-None-clause-bytes
returns-in-None-clause-bytes c = rw (← c.self.view_is, find_none c.args.ino c.args.p c.self.inside.slots.entries (held c.self.invariant c.args.ino c.args.p None c.in-None.ensures)) refl
