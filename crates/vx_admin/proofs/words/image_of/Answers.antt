use Rattle.vx_admin.proofs.Taking.{rows_found, image_found}
use Rattle.vx_admin.proofs.words.image_of.Goals as goal

pub returns-in-Ok-Some : goal.returns-in-Ok-Some
returns-in-Ok-Some c = image_found _ c.in-Ok-Some.matches _ (rows_found _ _ _ c.in-Ok-Some.field-0-is c.in-Ok-Some.ensures) c.get_str.ensures
