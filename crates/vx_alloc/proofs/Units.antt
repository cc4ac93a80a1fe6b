-- Free runs of a map, and runs of places counted from the start of unit 0.
use Rattle.std.proofs.Common.{◌≡◌, ℕ, ◌+◌, ◌-◌, ◌*◌, ◌%◌, ◌<◌, ◌≤◌, Bool, true, false, leb, Option, sym, ◌∙◌, ap, add_assoc, arith}
use Rattle.std.proofs.lemmas.Bool.{and_parts, or_left, leb-true, ltb-true}
use Rattle.std.proofs.lemmas.List.FromFn.{get_or-map-range_with_len}
use Rattle.vx_alloc.specs.FreeMaps.{FreeMapView, all_free, IsUnusedFrom, is_free, is_aligned, IsFreeRun}

-- n numbers from c on pass
abbrev pub Passes : (ℕ → Bool) → ℕ → ℕ → Type 0
Passes test c n = (k : ℕ) → k < n → test (c + k) ≡ true

abbrev pub free_at : FreeMapView → ℕ → Bool
free_at view i = is_free view (view.first + i)

abbrev pub aligned_at : FreeMapView → ℕ → ℕ → Bool
aligned_at view align i = is_aligned view align (view.first + i)

pub record IsWithin (view : FreeMapView) (b : ℕ) : Type 0 where
  pub low : view.first ≤ b
  pub high : b - view.first < 4096 * view.units

pub within_units : (view : FreeMapView) (b : ℕ) → is_free view b ≡ true → IsWithin view b
within_units view b free =
    let parts = and_parts _ _ ((and_parts _ _ free).0) in
    record {
      low = leb-true view.first b parts.0;
      high = ltb-true (b - view.first) (4096 * view.units) ((and_parts _ _ parts.1).0);
    }

-- a free run, by its place
pub record IsPlacedRun (view : FreeMapView) (b n : ℕ) : Type 0 where
  pub low : view.first ≤ b
  pub high : (b - view.first) + n ≤ 4096 * view.units
  pub passing : Passes (free_at view) (b - view.first) n

pub placed_run : (view : FreeMapView) (b n : ℕ) → 0 < n → IsFreeRun view b n → IsPlacedRun view b n
placed_run view b n some free =
    let first : is_free view (b + 0) ≡ true = free 0 some in
    let begins = within_units view (b + 0) first in
    let last = within_units view (b + (n - 1)) (free (n - 1) (omega arith)) in
    let low : view.first ≤ b + 0 = begins.low in
    let high : b + (n - 1) - view.first < 4096 * view.units = last.high in
    record {
      low = omega arith;
      high = omega arith;
      passing = λ k h. let same : b + k ≡ view.first + ((b - view.first) + k) = omega arith in sym (ap (is_free view) same) ∙ free k h;
    }

pub free_run : (view : FreeMapView) (i n : ℕ) → Passes (free_at view) i n → IsFreeRun view (view.first + i) n
free_run view i n passes k h = ap (is_free view) (add_assoc view.first i k) ∙ passes k h

-- in a map whose data blocks are all free, none is in use
pub none_used : (first per_unit units from : ℕ) (bar : Option ℕ) → IsUnusedFrom (record (all_free first per_unit units) { bar = bar }) from
none_used first per_unit units from bar b in_units past =
    let parts = and_parts _ _ in_units in
    let inner = and_parts _ _ parts.1 in
    or_left _ _ (get_or-map-range_with_len (λ i. leb (4096 - per_unit) (i % 4096)) 0 (4096 * units) (b - first) (b - first) false (ltb-true (b - first) (4096 * units) inner.0) (omega arith) ∙ inner.1)
