use Rattle.std.proofs.Common.{true, Some, sym, subst, ap, ◌∙◌}
use Rattle.vx_mount.specs.declared.turns.Turn.TheVariants.{Turned, Finished}
use Rattle.vx_mount.specs.Cores.{TakesUnmountTurn}
use Rattle.vx_mount.specs.Views.{AllFinished}
use Rattle.vx_mount.specs.Singles.{view_of}
use Rattle.vx_mount.proofs.Single.{not_over, unmounts, is_unmounted}
use Rattle.vx_mount.proofs.tests.SingleTurns.unmount_turn.Goals as goal

pub returns-in-None-clause-turn : goal.returns-in-None-clause-turn
returns-in-None-clause-turn c = absurd (not_over (subst (λ o. AllFinished (view_of o)) c.in-None.is c.requires.finished))

pub returns-then-unmounted-clause-turn : goal.returns-then-unmounted-clause-turn
returns-then-unmounted-clause-turn c =
    subst (λ o. TakesUnmountTurn (view_of o) Finished (view_of o)) (sym (c.in-Some.is ∙ ap Some c.if-unmounted.true)) is_unmounted

pub returns-else-unmounted-clause-turn : goal.returns-else-unmounted-clause-turn
returns-else-unmounted-clause-turn c =
    subst (λ o. TakesUnmountTurn (view_of o) Turned (view_of (Some true))) (sym (c.in-Some.is ∙ ap Some c.if-unmounted.false)) unmounts
