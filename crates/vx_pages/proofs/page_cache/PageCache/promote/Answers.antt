use Rattle.std.proofs.Common.{ℕ, List, nat_eq, refl, sym, ap, ◌∙◌, Some, None}
use Rattle.vx_pages.specs.Pages.{Entry, Pages}
use Rattle.vx_pages.proofs.Listed.{find_none, front_listed, front_none, there_listed}
use Rattle.vx_pages.proofs.Kept.{kept_promoted}
use Rattle.vx_pages.proofs.Kept.{held}
use Rattle.vx_pages.proofs.page_cache.PageCache.promote.Goals as goal

abbrev view_of : ℕ → List Entry → Pages
view_of block es = record { block = block; entries = es }

pub invariant_of-self : goal.invariant_of-self
invariant_of-self c = rw c.promote.ensures.entries (kept_promoted c.self.inside.block (nat_eq c.in-Some.number) c.self.inside.slots.entries c.self.invariant)

pub returns-in-Some-clause-answer : goal.returns-in-Some-clause-answer
returns-in-Some-clause-answer c = rw (← c.self.view_is) (c.promote.ensures.value ∙ there_listed c.args.ino c.args.p c.in-Some.number c.self.inside.slots.entries (held c.self.invariant c.args.ino c.args.p (Some c.in-Some.number) c.in-Some.ensures))

pub returns-in-Some-clause-front : goal.returns-in-Some-clause-front
returns-in-Some-clause-front c =
    rw (← c.self.view_is, c.promote.ensures.entries) (ap (view_of c.self.inside.block) (front_listed c.args.ino c.args.p c.in-Some.number c.self.inside.slots.entries (held c.self.invariant c.args.ino c.args.p (Some c.in-Some.number) c.in-Some.ensures)))

pub returns-in-None-clause-answer : goal.returns-in-None-clause-answer
returns-in-None-clause-answer c = rw (← c.self.view_is, find_none c.args.ino c.args.p c.self.inside.slots.entries (held c.self.invariant c.args.ino c.args.p None c.in-None.ensures)) refl

pub returns-in-None-clause-front : goal.returns-in-None-clause-front
returns-in-None-clause-front c = rw (← c.self.view_is) (ap (view_of c.self.inside.block) (sym (front_none c.args.ino c.args.p c.self.inside.slots.entries (held c.self.invariant c.args.ino c.args.p None c.in-None.ensures))))
