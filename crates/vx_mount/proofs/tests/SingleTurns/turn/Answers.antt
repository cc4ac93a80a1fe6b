use Rattle.std.proofs.Common.{◌≡◌, false, Some, refl, sym, subst}
use Rattle.vx_mount.specs.declared.turns.Turn.TheVariants.{Turned}
use Rattle.vx_mount.specs.Cores.{TakesTurn}
use Rattle.vx_mount.specs.Views.{standing_in}
use Rattle.vx_mount.specs.Sessions.{finished}
use Rattle.vx_mount.specs.Singles.{view_of}
use Rattle.vx_mount.proofs.Single.{answers_line, is_over}
use Rattle.vx_mount.proofs.tests.SingleTurns.turn.Goals as goal

pub returns-in-None-clause-turn : goal.returns-in-None-clause-turn
returns-in-None-clause-turn c =
    subst (λ o. TakesTurn (view_of o) c.args._actor Turned (view_of (Some false))) (sym c.in-None.is) (answers_line c.args._actor c.requires.actor)

pub returns-in-Some-clause-turn : goal.returns-in-Some-clause-turn
returns-in-Some-clause-turn c =
    (refl, subst (λ o. standing_in (view_of o) c.args._actor ≡ finished) (sym c.in-Some.is) (is_over c.in-Some.field-0 c.args._actor c.requires.actor))
