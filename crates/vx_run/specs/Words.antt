-- The words of the command line.
use Rattle.std.specs.Prelude.{◌≡◌, ℕ, List, [], ◌∷◌, codes, Option, Some, None, Result, Ok, Err, if◌then◌else◌}
use Rattle.std.specs.Str.{bytes_eq}
use Rattle.vx_base.specs.declared.mode.Logging.{Logging}
use Rattle.vx_base.specs.declared.mode.Logging.TheVariants as logging
use Rattle.vx_modes.specs.declared.options.Options.{Options}
use Rattle.vx_modes.specs.declared.options.OptionRefusal.{OptionRefusal}
use Rattle.vx_modes.specs.Parse.{options_of}
use Rattle.vx_script.specs.Start.{start_of_options}
use Rattle.vx_script.specs.declared.start.StartRefusal.{StartRefusal}
use Rattle.vx_script.specs.declared.start.StartRefusal.TheVariants as start
use Rattle.vx_run.specs.declared.words.Asked.{Asked}
use Rattle.vx_run.specs.declared.words.Verb.{Verb}
use Rattle.vx_run.specs.declared.words.Verb.TheVariants as verb

abbrev pub logging_of : Result Options OptionRefusal → Result Logging StartRefusal
logging_of (Ok options) = Ok options.logging
logging_of (Err why) = Err (start_of_options why)

-- the verbs
abbrev pub verb_of : List ℕ → Option Verb
verb_of word = if bytes_eq word (codes "fresh") then Some verb.Fresh else (if bytes_eq word (codes "mount") then Some verb.Mount else None)

-- a wrong verb is told before a wrong list
abbrev pub with_verb : Option Verb → Result Logging StartRefusal → Result Asked StartRefusal
with_verb None logging = Err start.BadWords
with_verb (Some v) (Ok mode) = Ok (record { verb = v; logging = mode })
with_verb (Some v) (Err why) = Err why

-- the mode that -o LIST asks for
abbrev pub mode_of : List ℕ → List ℕ → Result Logging StartRefusal
mode_of option list = if bytes_eq option (codes "-o") then logging_of (options_of list) else Err start.BadWords

-- VERB IMAGE, which means delaylog, or VERB IMAGE -o LIST
unfoldable pub asked_of : List (List ℕ) → Result Asked StartRefusal
asked_of (verb ∷ image ∷ []) = with_verb (verb_of verb) (Ok logging.DelayLog)
asked_of (verb ∷ image ∷ option ∷ list ∷ []) = with_verb (verb_of verb) (mode_of option list)
asked_of _ = Err start.BadWords

-- the words ask for a mount of the image
abbrev pub AsksMount : List (List ℕ) → Type 0
AsksMount words = (mode : Logging) × (asked_of words ≡ Ok (record { verb = verb.Mount; logging = mode }))
