-- The flags of a unit's blocks.
use Rattle.std.proofs.Common.{◌≡◌, ◌<◌, ℕ, Bool, true, false, not, List, get_or, Option, None, ap}
use Rattle.std.specs.Prelude.{◌||◌, ◌&&◌, nat_lt, is_some}
use Rattle.std.proofs.lemmas.Bool.{lt-ltb}

abbrev pub is_bit : List Bool → List (Option ℕ) → ℕ → ℕ → Bool
is_bit free pending lead j = nat_lt j lead || (not (get_or free j false) && not (is_some (get_or pending j None)))

-- a block that holds no data
pub is_lead : (free : List Bool) (pending : List (Option ℕ)) (lead j : ℕ) → j < lead → is_bit free pending lead j ≡ true
is_lead free pending lead j low = ap (λ (t : Bool). t || (not (get_or free j false) && not (is_some (get_or pending j None)))) (lt-ltb j lead low)
