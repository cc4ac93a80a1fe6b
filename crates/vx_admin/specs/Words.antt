-- The words of the command line.
use Rattle.std.specs.Prelude.{◌≡◌, ℕ, ◌-◌, ◌+◌, ◌*◌, Bool, true, ◌&&◌, nat_le, List, [], ◌∷◌, length, get_or, fold, codes, Option, Some, None, option_and_then, if◌then◌else◌}
use Rattle.std.specs.List.{list_all}
use Rattle.std.specs.Str.{bytes_eq}
use Rattle.clap.specs.Words.{App, Kinds, Row, Rule, Text, fault_of, first_of, matches_of, new_app, new_rule, with_rule}
use Rattle.clap.specs.Simple.{on_top}
use Rattle.clap.specs.declared.builder.action.ArgAction.TheVariants.{Set}
use Rattle.vx_admin.specs.declared.words.Ask.{Ask}
use Rattle.vx_admin.specs.declared.words.Ask.TheVariants.{Fsck, Mkfs}
use Rattle.vx_layout.specs.Supers.{IsSuper}

-- ---- the command: two words that have to be there, and two options that take a value once

abbrev pub word_rule : Text → Rule
word_rule id = record (new_rule id) { required = true; action = Some Set }

abbrev pub option_rule : Text → Rule
option_rule id = record (new_rule id) { long = Some id; action = Some Set }

-- no program's name stands before the words
abbrev pub bare : App
bare = on_top (λ s. record s { no_binary_name = true }) (new_app (codes "vxadm"))

abbrev pub command : App
command = with_rule (with_rule (with_rule (with_rule bare (word_rule (codes "verb"))) (word_rule (codes "image"))) (option_rule (codes "units"))) (option_rule (codes "log"))

-- ---- numbers

abbrev pub is_digit : ℕ → Bool
is_digit b = nat_le 48 b && nat_le b 57

-- one to four decimal digits, of which the first is not zero
abbrev pub is_number : List ℕ → Bool
is_number word = nat_le (length word) 4 && nat_le 49 (get_or word 0 0) && list_all is_digit word

abbrev pub number_of : List ℕ → ℕ
number_of digits = fold (λ value digit. value * 10 + (digit - 48)) 0 digits

-- the number that a word spells, where it lies within the limits
unfoldable pub number_within : (low high : ℕ) → List ℕ → Option ℕ
number_within low high word =
    if is_number word && nat_le low (number_of word) && nat_le (number_of word) high then Some (number_of word) else None

-- what is made where nothing is said of the sizes
abbrev pub default_units : ℕ
default_units = 1

abbrev pub default_log_blocks : ℕ
default_log_blocks = 512

-- the allocation units of a new file system
abbrev pub units_of : Option Text → Option ℕ
units_of None = Some default_units
units_of (Some word) = number_within 1 64 word

-- the blocks of a new file system's log
abbrev pub log_blocks_of : Option Text → Option ℕ
log_blocks_of None = Some default_log_blocks
log_blocks_of (Some word) = number_within 256 2048 word

-- ---- what is asked

-- the superblock of a new file system that is left clean, where both sizes are good
unfoldable pub mkfs_of : (units log_blocks : Option ℕ) → Option Ask
mkfs_of (Some units) (Some log_blocks) = Some (Mkfs (record { log_blocks = log_blocks; units = units; clean = true }))
mkfs_of _ _ = None

-- a check has no option
abbrev pub fsck_of : (units log : Option Text) → Option Ask
fsck_of None None = Some Fsck
fsck_of _ _ = None

-- what a verb asks for, with the values of the two options
unfoldable pub asked_by : Text → (units log : Option Text) → Option Ask
asked_by verb units log =
    if bytes_eq verb (codes "fsck") then fsck_of units log
    else if bytes_eq verb (codes "mkfs") then mkfs_of (units_of units) (log_blocks_of log)
    else None

abbrev pub asked_of : (verb units log : Option Text) → Option Ask
asked_of (Some verb) units log = asked_by verb units log
asked_of None units log = None

unfoldable pub asked_in : List Row → Option Ask
asked_in rows = asked_of (first_of (codes "verb") rows) (first_of (codes "units") rows) (first_of (codes "log") rows)

-- ---- the words

-- what the command finds in words with which nothing is wrong
abbrev pub if_taken : Kinds → List Row → Option (List Row)
if_taken [] rows = Some rows
if_taken (kind ∷ kinds) rows = None

unfoldable pub taken : List Text → Option (List Row)
taken words = if_taken (fault_of command words) (matches_of command words)

-- What the words ask for, where the command takes them, and the verb and the numbers are good; else nothing.
abbrev pub asked : List Text → Option Ask
asked words = option_and_then asked_in (taken words)

-- the word that names the image, where the command takes the words
abbrev pub image_of : List Text → Option Text
image_of words = option_and_then (first_of (codes "image")) (taken words)

-- the sizes are those that a superblock may have, and it is marked clean
abbrev pub IsAsk : Ask → Type 0
IsAsk Fsck = Unit
IsAsk (Mkfs superblock) = IsSuper superblock × (superblock.clean ≡ true)
