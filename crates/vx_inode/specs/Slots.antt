-- Values by number, in a list with a place for each number.
use Rattle.std.specs.Prelude.{ℕ, ◌+◌, List, [], ◌∷◌, Option, Some, None}
use Rattle.std.specs.Ordering.{nat_cmp}
use Rattle.std.specs.FinMap as map

-- what stands at the numbers from `from` on
abbrev pub slots_from : {X : Type 0} → ℕ → List (Option X) → List (ℕ × X)
slots_from from [] = []
slots_from from (None ∷ slots) = slots_from (from + 1) slots
slots_from from (Some x ∷ slots) = (from, x) ∷ slots_from (from + 1) slots

abbrev pub by_number : {X : Type 0} → List (Option X) → map.FinMap nat_cmp X
by_number slots = map.from_entries (slots_from 0 slots)
