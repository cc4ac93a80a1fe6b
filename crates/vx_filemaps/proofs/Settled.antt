-- Which pages last.
use Rattle.std.proofs.Common.{◌≡◌, List, [], ◌∷◌, false, refl, ap}
use Rattle.vx_extents.specs.Extents.{Mapped}
use Rattle.vx_space.specs.Leaving.{lasting}

-- of a file that keeps its reservation all do
pub all_last : (pages : List Mapped) → pages ≡ lasting false pages
all_last [] = refl
all_last (m ∷ pages) = ap (λ (ms : List Mapped). m ∷ ms) (all_last pages)
