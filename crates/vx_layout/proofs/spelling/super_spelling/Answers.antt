use Rattle.vx_layout.proofs.Supers.{super_again, super_unique}
use Rattle.vx_layout.proofs.spelling.super_spelling.Goals as goal

pub returns : goal.returns
returns c = record { unique = super_unique; again = super_again }
