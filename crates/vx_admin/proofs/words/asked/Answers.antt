use Rattle.std.proofs.Common.{◌∙◌}
use Rattle.vx_admin.proofs.Taking.{rows_found, asked_found}
use Rattle.vx_admin.proofs.words.asked.Goals as goal

pub returns-in-Ok-Some-clause-exact : goal.returns-in-Ok-Some-clause-exact
returns-in-Ok-Some-clause-exact c =
    c.asked_of.ensures.exact ∙ asked_found _ c.in-Ok-Some.matches _ _ _ (rows_found _ _ _ c.in-Ok-Some.field-0-is c.in-Ok-Some.ensures) c.get_str.ensures c.get_str-in-Ok-Some.ensures c.get_str-in-Ok-Some-2.ensures
