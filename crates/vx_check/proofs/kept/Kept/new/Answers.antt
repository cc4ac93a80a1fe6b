use Rattle.std.proofs.Common.{ℕ, List, ap₂, ◌∙◌, map}
use Rattle.vx_check.specs.Kept.{bytes_at}
use Rattle.vx_check.proofs.Remembering.{nothing_kept}
use Rattle.vx_check.proofs.kept.Kept.new.Goals as goal

pub returns : goal.returns
returns c = ap₂ (λ (sectors : List (List ℕ)) places. map (bytes_at sectors) places) c.new-sectors.ensures.items (c.in_ok-places.ensures.items_if_clones_equal (λ y is. is)) ∙ nothing_kept c.args.volume_sectors
