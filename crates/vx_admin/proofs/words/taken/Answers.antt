use Rattle.std.proofs.Common.{◌∙◌}
use Rattle.clap.specs.Words.{app_of}
use Rattle.vx_admin.proofs.Taking.{rows_taken, refused_taken}
use Rattle.vx_admin.proofs.words.taken.Goals as goal

pub returns-in-Ok : goal.returns-in-Ok
returns-in-Ok c = rows_taken (app_of c.in_ok-command.field-0) _ c.in-Ok.matches c.in_ok-command.ensures c.in-Ok.ensures.kinds c.in-Ok.ensures.matches

pub returns : goal.returns
returns c =
    refused_taken (app_of c.in_ok-command.field-0) _ c.in-Err.error c.in_ok-command.ensures c.in-Err.ensures.kinds (λ e. c.in_default.not-OutOfMemory (c.kind.ensures ∙ e))
