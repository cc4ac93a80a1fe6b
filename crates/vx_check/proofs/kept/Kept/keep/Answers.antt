use Rattle.std.proofs.Common.{ℕ, ◌+◌, List, Option, Some, set, ap, ap₂, ◌∙◌}
use Rattle.vx_check.proofs.Remembering.{one_kept}
use Rattle.vx_check.proofs.kept.Kept.keep.Goals as goal

pub returns-clause-ok : goal.returns-clause-ok
returns-clause-ok c =
    let sectors = c.self.inside.sectors in
    let next = c.in-Ok.ensures.1 ∙ ap (λ n. n + 1) (c.len-2.ensures ∙ sectors.ok.0) in
    one_kept sectors.items c.push.new.self.items c.args.bytes.now c.self.inside.places.items c.get-at.result c.in-Ok.place c.self.invariant c.in_ok-push.ensures.items next
    ∙ ap₂ (λ (kept : List (Option (List ℕ))) s. set kept s (Some c.args.bytes.now)) c.self.view_is c.get-at.ensures
