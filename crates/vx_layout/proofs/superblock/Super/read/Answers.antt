use Rattle.std.proofs.Common.{ap, ◌∙◌}
use Rattle.vx_layout.specs.Supers.{super_at}
use Rattle.vx_layout.proofs.Supers.{super_again, is_found}
use Rattle.vx_layout.proofs.superblock.Super.read.Goals as goal

pub returns-clause-found : goal.returns-clause-found
returns-clause-found c = is_found c.args.sector.now c.parsed.result c.told-sector c.fits-sector c.parsed.ensures

pub returns-clause-only : goal.returns-clause-only
returns-clause-only c = λ v fits e. c.parsed.ensures ∙ ap super_at e ∙ super_again v fits
