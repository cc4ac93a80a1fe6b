-- What the map of free blocks finds of runs, and where the definitions place a group.
use Rattle.std.specs.Prelude.{◌≡◌, ◌≤◌, ◌<◌, ◌+◌, ℕ, Bool, not, ◌&&◌, nat_le, nat_lt, Some, None}
use Rattle.vx_alloc.specs.FreeMaps.{FreeMapView, is_free, without_run, IsFreeRun, IsLowestRun, HasNoRun, IsLowestAligned, HasNoAligned, IsLongest}
use Rattle.vx_space.specs.Placement.{run_start, aligned_start, longest_length}
use Rattle.vx_filemaps.specs.FileMaps.{volume_in}

-- one of so many numbers from b on
abbrev pub is_in_run : ℕ → ℕ → ℕ → Bool
is_in_run b n c = nat_le b c && nat_lt c (b + n)

pub record RunLaws : Type 0 where
  pub lowest : (view : FreeMapView) (n b : ℕ) → 0 < n → IsLowestRun view n b → run_start (volume_in view) (is_free view) n ≡ Some b
  pub none : (view : FreeMapView) (n : ℕ) → HasNoRun view n → run_start (volume_in view) (is_free view) n ≡ None
  pub lowest_aligned : (view : FreeMapView) (n align b : ℕ) → 0 < n → 0 < align → IsLowestAligned view n align b → aligned_start (volume_in view) (is_free view) align n ≡ Some b
  pub none_aligned : (view : FreeMapView) (n align : ℕ) → 0 < align → HasNoAligned view n align → aligned_start (volume_in view) (is_free view) align n ≡ None
  pub longest : (view : FreeMapView) (n : ℕ) → view.per_unit ≤ 4095 → IsLongest view n → longest_length (volume_in view) (is_free view) ≡ n
  pub taken : (view : FreeMapView) (b n c : ℕ) → IsFreeRun view b n → is_free (without_run view b n) c ≡ (is_free view c && not (is_in_run b n c))
