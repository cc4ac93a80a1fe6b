use Rattle.std.proofs.Common.{refl, Some, None}
use Rattle.vx_pages.proofs.Listed.{find_listed, find_none}
use Rattle.vx_pages.proofs.Kept.{held}
use Rattle.vx_pages.proofs.page_cache.PageCache.is_changed.Goals as goal

pub returns-in-Some-peek : goal.returns-in-Some-peek
returns-in-Some-peek c =
    rw (c.is_changed.ensures, ← c.self.view_is, find_listed c.args.ino c.args.p c.in-Some.number c.self.inside.slots.entries (held c.self.invariant c.args.ino c.args.p (Some c.in-Some.number) c.in-Some.ensures), ← c.in-Some-peek.ensures) refl

pub returns-in-None-peek : goal.returns-in-None-peek
returns-in-None-peek c =
    rw (← c.self.view_is, find_listed c.args.ino c.args.p c.in-Some.number c.self.inside.slots.entries (held c.self.invariant c.args.ino c.args.p (Some c.in-Some.number) c.in-Some.ensures), ← c.in-None-peek.ensures) refl

pub returns-in-None : goal.returns-in-None
returns-in-None c = rw (← c.self.view_is, find_none c.args.ino c.args.p c.self.inside.slots.entries (held c.self.invariant c.args.ino c.args.p None c.in-None.ensures)) refl
