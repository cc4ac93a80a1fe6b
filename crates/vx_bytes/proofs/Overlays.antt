-- Records that don't name a sector leave its bytes.
use Rattle.std.proofs.Common.{◌≡◌, ℕ, false, List, [], ◌∷◌, refl, ◌∙◌}
use Rattle.std.specs.List.{AllByRecursion}
use Rattle.vx_layout.specs.LogForms.{AfterImage, overlay, overlay_all}
use Rattle.vx_model.specs.Images.{sectors_in}
use Rattle.vx_model.proofs.Standing.{missed}

pub all_unnamed : (records : List (List AfterImage)) (u : ℕ) (bytes : List ℕ) → AllByRecursion (λ r. sectors_in r u ≡ false) records → overlay_all records u bytes ≡ bytes
all_unnamed [] u bytes each = refl
all_unnamed (r ∷ rs) u bytes each = all_unnamed rs u (overlay r u bytes) each.1 ∙ missed r u bytes each.0
