use Rattle.std.proofs.Common.{◌∙◌, sym}
use Rattle.vx_modes.proofs.Commas.{elements_of-comma, elements_of-alone}
use Rattle.vx_modes.proofs.elements.first_element.Goals as goal

pub returns-in-Some : goal.returns-in-Some
returns-in-Some c = elements_of-comma _ _ (sym c.first_comma.ensures ∙ c.in-Some.is)

pub returns-in-None : goal.returns-in-None
returns-in-None c = elements_of-alone _ (sym c.first_comma.ensures ∙ c.in-None.is)
