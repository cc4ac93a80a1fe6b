-- What is reached from a root by names.
use Rattle.std.specs.Prelude.{◌≡◌, ◌⊎◌, ℕ, zero, suc, ◌+◌, ◌<◌, ◌≤◌, Bool, true, false, List, [], ◌∷◌, ◌++◌, length, get_or, set}
use Rattle.std.specs.List.{AllByRecursion}

-- the numbers that the entries of each directory name, by directory
abbrev pub Children : Type 0
Children = List (List ℕ)

abbrev pub children_of : Children → ℕ → List ℕ
children_of g d = get_or g d []

-- each number that is named is below n
abbrev pub AreInside : ℕ → Children → Type 0
AreInside n g = (d : ℕ) → AllByRecursion (λ x. x < n) (children_of g d)

-- one of these numbers is n
pub record Names (targets : List ℕ) (n : ℕ) : Type 0 where
  pub at : ℕ
  pub inside : at < length targets
  pub is : get_or targets at 0 ≡ n

-- so many names lead from the root to n
abbrev pub ReachedIn : Children → ℕ → ℕ → ℕ → Type 0
ReachedIn g root zero n = n ≡ root
ReachedIn g root (suc k) n = (d : ℕ) × ReachedIn g root k d × Names (children_of g d) n

-- names lead from the root to n
pub record IsReached (g : Children) (root n : ℕ) : Type 0 where
  pub names : ℕ
  pub way : ReachedIn g root names n

-- ---- the walk

abbrev pub unmarked : List Bool → ℕ
unmarked [] = 0
unmarked (true ∷ ms) = unmarked ms
unmarked (false ∷ ms) = suc (unmarked ms)

-- n was marked, or it is marked and listed now
abbrev pub MarksOne : List Bool → List ℕ → ℕ → List Bool → List ℕ → Type 0
MarksOne marks found n new_marks new_found =
    ((get_or marks n false ≡ true) × (new_marks ≡ marks) × (new_found ≡ found)) ⊎ ((get_or marks n false ≡ false) × (new_marks ≡ set marks n true) × (new_found ≡ found ++ n ∷ []))

-- the first t targets are marked and listed; nothing else is, beside what was
pub record Marks (marks : List Bool) (found targets : List ℕ) (t : ℕ) (new_marks : List Bool) (new_found : List ℕ) : Type 0 where
  pub length_is : length new_marks ≡ length marks
  pub kept : (n : ℕ) → get_or marks n false ≡ true → get_or new_marks n false ≡ true
  pub marked : (j : ℕ) → j < t → get_or new_marks (get_or targets j 0) false ≡ true
  pub longer : length found ≤ length new_found
  pub front : (i : ℕ) → i < length found → get_or new_found i 0 ≡ get_or found i 0
  pub from_targets : (i : ℕ) → length found ≤ i → i < length new_found → (j : ℕ) × (j < t) × (get_or targets j 0 ≡ get_or new_found i 0)
  pub listed : (n : ℕ) → get_or new_marks n false ≡ true → (get_or marks n false ≡ true) ⊎ Names new_found n
  pub spare : unmarked new_marks + length new_found ≡ unmarked marks + length found

-- what is known between two directories of the walk
pub record IsWalk (g : Children) (root : ℕ) (marks : List Bool) (found : List ℕ) (next : ℕ) : Type 0 where
  pub length_is : length marks ≡ length g
  pub root_marked : get_or marks root false ≡ true
  pub listed : (n : ℕ) → get_or marks n false ≡ true → Names found n
  pub inside : (i : ℕ) → i < length found → get_or found i 0 < length g
  pub reached : (i : ℕ) → i < length found → IsReached g root (get_or found i 0)
  pub closed : (i : ℕ) → i < next → (n : ℕ) → Names (children_of g (get_or found i 0)) n → get_or marks n false ≡ true
  pub before : next ≤ length found
