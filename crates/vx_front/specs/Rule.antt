-- The rule of the table: what its words and the views of all its seats have to do with one another.
use Rattle.std.specs.Prelude.{ℕ, ◌≡◌, ◌+◌, ◌%◌, ◌^◌, ◌<◌, ◌≤◌, ◌⊎◌, List, [], ◌∷◌, length, slice_index}
use mathlib.Core.List.{IsPrefix}
use mathlib.Core.Option.{some}
use lib.ListN.{get_elem?}
use Rattle.atomic_table.specs.Table.{State}
use Rattle.vx_front.specs.declared.views.Entry.{Entry}
use Rattle.vx_front.specs.declared.views.View.{View}
use Rattle.vx_front.specs.declared.views.View.TheVariants.{Kernel, Caller, Note, Spent}
use Rattle.vx_front.specs.declared.views.KernelView.{KernelView}
use Rattle.vx_front.specs.declared.views.CallerView.{CallerView}
use Rattle.vx_front.specs.declared.views.NoteView.{NoteView}
use Rattle.vx_front.specs.Views.{last_of, calls_by, known_of, told_of, new_kernel}

-- each is greater than the one before it, and the first than n
abbrev pub RisesFrom : ℕ → List ℕ → Type 0
RisesFrom n [] = Unit {0}
RisesFrom n (x ∷ xs) = (n < x) × RisesFrom x xs

abbrev pub IsAmong : ℕ → List ℕ → Type 0
IsAmong f [] = ⊥
IsAmong f (x ∷ xs) = (f ≡ x) ⊎ IsAmong f xs

-- the front is 0 or was published
abbrev pub IsPublished : List ℕ → ℕ → Type 0
IsPublished fronts f = (f ≡ 0) ⊎ IsAmong f fronts

abbrev pub AllPublished : List ℕ → List ℕ → Type 0
AllPublished fronts [] = Unit {0}
AllPublished fronts (f ∷ fs) = IsPublished fronts f × AllPublished fronts fs

-- of each caller's number: the seat that has it (the kernel's, once the caller has ended), how many calls it has begun, and those that were answered
pub record Counts : Type 0 where
  pub seat_of : ℕ → ℕ
  pub begun : ℕ → ℕ
  pub mine : ℕ → List Entry

-- the seat `by` has what the caller c knows
pub record FitsCaller (k : KernelView) (t : Counts) (by : ℕ) (c : CallerView) : Type 0 where
  pub front : IsPublished k.fronts c.front
  pub reads : AllPublished k.fronts c.reads
  pub past : IsPrefix c.past k.log
  pub seen : IsPrefix c.seen k.log
  pub note : IsPrefix c.note k.log
  pub one : 0 < c.number
  pub made : c.number ≤ k.made
  pub own : t.seat_of c.number ≡ by
  pub begun : t.begun c.number ≡ c.begun
  pub mine : t.mine c.number ≡ c.mine

pub record FitsNote (k : KernelView) (t : Counts) (n : NoteView) : Type 0 where
  pub front : IsPublished k.fronts n.front
  pub log : IsPrefix n.log k.log
  pub made : n.number ≤ k.made
  pub begun : n.begun ≤ t.begun n.number
  pub mine : IsPrefix n.mine (calls_by n.number k.log)

-- one view fits, where the kernel's seat is `seat` and it knows k
abbrev pub Fits : ℕ → KernelView → Counts → ℕ → View → Type 0
Fits seat k t by (Kernel k') = by ≡ seat
Fits seat k t by (Caller c) = FitsCaller k t by c
Fits seat k t by (Note n) = FitsNote k t n
Fits seat k t by Spent = Unit {0}

-- each caller that has ended fits the kernel's seat
abbrev pub AllFit : ℕ → KernelView → Counts → List CallerView → Type 0
AllFit seat k t [] = Unit {0}
AllFit seat k t (c ∷ cs) = FitsCaller k t seat c × AllFit seat k t cs

-- the callers' words count their calls: each that was begun, opened and closed
pub record IsCounted (words : List ℕ) (k : KernelView) (t : Counts) : Type 0 where
  pub word : (n : ℕ) → 0 < n → n < length words → slice_index words n ≡ (t.begun n + length (calls_by n k.log) + length (t.mine n)) % 2 ^ 64
  -- no caller has the number 0, or one above those that were made
  pub none : t.begun 0 ≡ 0
  pub above : (n : ℕ) → k.made < n → t.begun n ≡ 0
  -- the log has no call that its caller didn't begin
  pub opened : (n : ℕ) → length (calls_by n k.log) ≤ t.begun n
  pub mine : (n : ℕ) → IsPrefix (t.mine n) (calls_by n k.log)
  pub known : (n : ℕ) → known_of k n ≤ t.begun n
  pub told : (n : ℕ) → IsPrefix (told_of k n) (calls_by n k.log)
  pub known_len : length k.known ≡ k.made + 1
  pub told_len : length k.told ≡ k.made + 1

-- a caller of this number has ended
abbrev pub IsEnded : List CallerView → ℕ → Type 0
IsEnded [] n = ⊥
IsEnded (c ∷ cs) n = (c.number ≡ n) ⊎ IsEnded cs n

-- no two of these have one number
abbrev pub AllDiffer : List CallerView → Type 0
AllDiffer [] = Unit {0}
AllDiffer (c ∷ cs) = ¬ (IsEnded cs c.number) × AllDiffer cs

-- the caller of this number has its seat
pub record HasSeat (views : List View) (t : Counts) (n : ℕ) : Type 0 where
  pub caller : CallerView
  pub there : get_elem? views (t.seat_of n) ≡ some (Caller caller)
  pub number : caller.number ≡ n

-- one seat is the kernel's, word 0 is the last front that it published, and each view fits
pub record Kept (s : State ℕ View) : Type 0 where
  pub seat : ℕ
  pub knows : KernelView
  pub counts : Counts
  pub there : get_elem? s.views seat ≡ some (Kernel knows)
  pub room : 0 < length s.words
  pub newest : slice_index s.words 0 ≡ last_of knows.fronts
  pub rises : RisesFrom 0 knows.fronts
  pub counted : IsCounted s.words knows counts
  pub ended : AllFit seat knows counts knows.ended
  -- each number up to those that were made is one caller's
  pub all : (n : ℕ) → 0 < n → n ≤ knows.made → HasSeat s.views counts n ⊎ IsEnded knows.ended n
  pub differ : AllDiffer knows.ended
  pub each : (by : ℕ) (v : View) → get_elem? s.views by ≡ some v → Fits seat knows counts by v

abbrev pub first_view : View
first_view = Kernel (new_kernel 0)
