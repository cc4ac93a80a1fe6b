-- How after-images stand in the order of their sectors, and where a further one goes.
use Rattle.std.specs.Prelude.{◌≡◌, ◌≢◌, ◌<◌, ℕ, List, length, get_or, set, insert, Contains}
use Rattle.std.specs.List.Sorted.{IsStrictlyIncreasing, IsNonDecreasingBy}
use Rattle.vx_layout.specs.LogForms.{AfterImage}
use Rattle.vx_log.specs.Batches.{sectors_of, batch_set, IsPlaceOf}

pub record OrderLaws : Type 0 where
  pub in_order : (b : List AfterImage) → IsStrictlyIncreasing (sectors_of b) → IsNonDecreasingBy (λ (e : AfterImage). e.0) b
  pub set_rises : (b : List AfterImage) (s : ℕ) (x : List ℕ) → IsStrictlyIncreasing (sectors_of b) → IsStrictlyIncreasing (sectors_of (batch_set b s x))
  -- where the sector stands already, it is replaced, and else it goes to its place
  pub set_same : (b : List AfterImage) (s i : ℕ) (x : List ℕ) → IsPlaceOf b s i → i < length b → get_or (sectors_of b) i 0 ≡ s → batch_set b s x ≡ set b i (s, x)
  pub set_new : (b : List AfterImage) (s i : ℕ) (x : List ℕ) → IsPlaceOf b s i → (i < length b → get_or (sectors_of b) i 0 ≢ s) → batch_set b s x ≡ insert b i (s, x)
  -- where it doesn't stand at its place, it stands nowhere
  pub lacks : (b : List AfterImage) (s i : ℕ) → IsStrictlyIncreasing (sectors_of b) → IsPlaceOf b s i → (i < length b → get_or (sectors_of b) i 0 ≢ s) → Contains (sectors_of b) s → ⊥
