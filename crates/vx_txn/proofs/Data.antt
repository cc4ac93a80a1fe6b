-- The data blocks of the map of free blocks are those of the volume.
use Rattle.std.proofs.Common.{◌≡◌, ℕ, ◌+◌, ◌-◌, ◌∙◌, ap}
use Rattle.vx_alloc.specs.FreeMaps.{FreeMapView, is_data as is_data_block}
use Rattle.vx_base.specs.Rules.{is_data_block as is_data_from}
use Rattle.vx_layout.specs.Places.{is_data}
use Rattle.vx_model.specs.Layout.{Layout, volume}

pub same_data : (f : FreeMapView) (l : Layout) (b : ℕ) → f.first ≡ 2 + l.log_blocks → f.units ≡ l.units → f.per_unit ≡ 4063 → is_data_block f b ≡ is_data (volume l) b
unfolding is_data
same_data f l b first units per =
    ap (λ (x : ℕ). is_data_from x f.units (4096 - f.per_unit) b) first ∙ ap (λ (x : ℕ). is_data_from (2 + l.log_blocks) x (4096 - f.per_unit) b) units
    ∙ ap (λ (x : ℕ). is_data_from (2 + l.log_blocks) l.units (4096 - x) b) per
