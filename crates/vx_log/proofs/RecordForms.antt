-- The records of a batch are ones that descriptors can name.
use Rattle.std.proofs.Common.{◌≤◌, ◌<◌, ◌+◌, ◌*◌, ℕ, zero, suc, List, [], ◌∷◌, length, take, drop, arith, length-take, length-drop}
use Rattle.std.specs.List.{AllByRecursion}
use Rattle.std.specs.List.Sorted.{IsStrictlyIncreasing}
use Rattle.vx_layout.specs.LogForms.{AfterImage, IsNameable, IsRecord, record_count, records_from, records_of}
use Rattle.vx_log.specs.Batches.{sectors_of}
use Rattle.vx_log.proofs.BatchOrder.{RisesFrom, RisesFrom-of, rising}

module _ (n size : ℕ) where
  abbrev AreNameable : List AfterImage → Type 0
  AreNameable batch = AllByRecursion (IsNameable n size) (sectors_of batch)

  nameable_take : (k : ℕ) (batch : List AfterImage) → AreNameable batch → AreNameable (take k batch)
  nameable_take zero batch h = tt
  nameable_take (suc k) [] h = tt
  nameable_take (suc k) (e ∷ batch) h = (h.0, nameable_take k batch h.1)

  nameable_drop : (k : ℕ) (batch : List AfterImage) → AreNameable batch → AreNameable (drop k batch)
  nameable_drop zero batch h = h
  nameable_drop (suc k) [] h = tt
  nameable_drop (suc k) (e ∷ batch) h = nameable_drop k batch h.1

  rises_take : (low k : ℕ) (batch : List AfterImage) → RisesFrom low batch → RisesFrom low (take k batch)
  rises_take low zero batch h = tt
  rises_take low (suc k) [] h = tt
  rises_take low (suc k) (e ∷ batch) h = (h.0, rises_take (e.0 + 1) k batch h.1)

  rises_lower : (low high : ℕ) (batch : List AfterImage) → low ≤ high → RisesFrom high batch → RisesFrom low batch
  rises_lower low high [] le h = tt
  rises_lower low high (e ∷ batch) le h = (omega (arith, le, h.0), h.1)

  rises_drop : (low k : ℕ) (batch : List AfterImage) → RisesFrom low batch → RisesFrom low (drop k batch)
  rises_drop low zero batch h = h
  rises_drop low (suc k) [] h = tt
  rises_drop low (suc k) (e ∷ batch) h = rises_lower low (e.0 + 1) (drop k batch) (omega (arith, h.0)) (rises_drop (e.0 + 1) k batch h.1)

  -- there are after-images for each of k records
  form_from : (k : ℕ) (batch : List AfterImage) → 124 * k < length batch + 124 → RisesFrom 0 batch → AreNameable batch → AllByRecursion (IsRecord n size) (records_from k batch)
  form_from zero batch many rises named = tt
  form_from (suc k) batch many rises named = (
    record {
      some = omega (arith, many, length-take 124 batch);
      few = omega (arith, length-take 124 batch);
      rising = rising 0 (take 124 batch) (rises_take 0 124 batch rises);
      homes = nameable_take 124 batch named;
    },
    form_from k (drop 124 batch) (omega (arith, many, length-drop 124 batch)) (rises_drop 0 124 batch rises) (nameable_drop 124 batch named),
  )

  pub records_form : (batch : List AfterImage) → IsStrictlyIncreasing (sectors_of batch) → AreNameable batch → AllByRecursion (IsRecord n size) (records_of batch)
  unfolding records_of
  records_form batch rises named = form_from (record_count (length batch)) batch (omega arith) (RisesFrom-of 0 batch rises (λ _. omega arith)) named
