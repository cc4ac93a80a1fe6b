-- The options that a list names.
use Rattle.std.specs.Prelude.{ℕ, ◌+◌, Bool, ◌==◌, List, [], ◌∷◌, Option, Some, None, Result, Ok, Err}
use Rattle.std.specs.List.{slice_split}
use Rattle.vx_modes.specs.declared.choices.Choices.{Choices}
use Rattle.vx_modes.specs.declared.options.Options.{Options}
use Rattle.vx_modes.specs.declared.options.OptionRefusal.{OptionRefusal}
use Rattle.vx_modes.specs.Words.{no_choices, with_word, with_defaults}

abbrev pub is_comma : ℕ → Bool
is_comma b = b == 44

-- the elements of what is left of a list, if anything is
unfoldable pub elements_of : Option (List ℕ) → List (List ℕ)
elements_of None = []
elements_of (Some rest) = slice_split is_comma rest

-- the first error, or what follows
abbrev pub and_then : Result Choices OptionRefusal → (Choices → Result Options OptionRefusal) → Result Options OptionRefusal
and_then (Ok x) next = next x
and_then (Err why) next = Err why

-- the options, once the elements from a place on have made their choices
abbrev pub options_after : ℕ → Choices → List (List ℕ) → Result Options OptionRefusal
options_after at c [] = Ok (with_defaults c)
options_after at c (word ∷ words) = and_then (with_word at c word) (λ d. options_after (at + 1) d words)

-- the options that a list with commas names, or its first error
unfoldable pub options_of : List ℕ → Result Options OptionRefusal
options_of list = options_after 0 no_choices (slice_split is_comma list)
