-- What is printed where a run is refused before its first turn.
use Rattle.std.specs.Prelude.{ℕ, List, [], ◌∷◌, ◌++◌, decimal, codes}
use Rattle.vx_grammar.specs.declared.why.ScriptRefusal.{ScriptRefusal}
use Rattle.vx_grammar.specs.declared.why.ScriptRefusal.TheVariants as script
use Rattle.vx_modes.specs.declared.options.OptionName.{OptionName}
use Rattle.vx_modes.specs.declared.options.OptionName.TheVariants as chosen
use Rattle.vx_modes.specs.declared.options.OptionRefusal.{OptionRefusal}
use Rattle.vx_modes.specs.declared.options.OptionRefusal.TheVariants as option
use Rattle.vx_script.specs.declared.start.StartRefusal.{StartRefusal}
use Rattle.vx_script.specs.declared.start.StartRefusal.TheVariants as start
use Rattle.vx_script.specs.Words.{spaced, spaced_list}

-- the exit status of the run
abbrev pub status_of : StartRefusal → ℕ
status_of start.BadWords = 1
status_of (start.BadOption at) = 1
status_of (start.Twice name) = 1
status_of (start.DeviceTooSmall have want) = 2
status_of (start.BadSuper field) = 2
status_of (start.BadLog sector) = 2
status_of (start.NotClean tail head) = 2
status_of (start.BadMeta sector) = 2
status_of (start.HasBytes ino) = 2
status_of start.TooLong = 3
status_of (start.BadLine line) = 3
status_of (start.BadOrder line) = 3
status_of start.WriteFault = 4
status_of start.ScriptFault = 7
status_of start.ReadFault = 8
status_of start.NoMemory = 6

abbrev pub name_of_start : StartRefusal → List ℕ
name_of_start start.BadWords = codes "BadWords"
name_of_start (start.BadOption at) = codes "BadOption"
name_of_start (start.Twice name) = codes "Twice"
name_of_start (start.DeviceTooSmall have want) = codes "DeviceTooSmall"
name_of_start (start.BadSuper field) = codes "BadSuper"
name_of_start (start.BadLog sector) = codes "BadLog"
name_of_start (start.NotClean tail head) = codes "NotClean"
name_of_start (start.BadMeta sector) = codes "BadMeta"
name_of_start (start.HasBytes ino) = codes "HasBytes"
name_of_start start.TooLong = codes "TooLong"
name_of_start (start.BadLine line) = codes "BadLine"
name_of_start (start.BadOrder line) = codes "BadOrder"
name_of_start start.WriteFault = codes "WriteFault"
name_of_start start.ScriptFault = codes "ScriptFault"
name_of_start start.ReadFault = codes "ReadFault"
name_of_start start.NoMemory = codes "NoMemory"

-- the word of what was chosen twice
abbrev pub word_of_option : OptionName → List ℕ
word_of_option chosen.Logging = codes "logging"
word_of_option chosen.BlkClear = codes "blkclear"
word_of_option chosen.MinCache = codes "mincache"
word_of_option chosen.ConvOSync = codes "convosync"

abbrev pub fields_of_start : StartRefusal → List (List ℕ)
fields_of_start (start.BadOption at) = decimal at ∷ []
fields_of_start (start.Twice name) = word_of_option name ∷ []
fields_of_start (start.DeviceTooSmall have want) = decimal have ∷ decimal want ∷ []
fields_of_start (start.BadSuper field) = decimal field ∷ []
fields_of_start (start.BadLog sector) = decimal sector ∷ []
fields_of_start (start.NotClean tail head) = decimal tail ∷ decimal head ∷ []
fields_of_start (start.BadMeta sector) = decimal sector ∷ []
fields_of_start (start.HasBytes ino) = decimal ino ∷ []
fields_of_start (start.BadLine line) = decimal line ∷ []
fields_of_start (start.BadOrder line) = decimal line ∷ []
fields_of_start _ = []

abbrev pub refused_line : StartRefusal → List ℕ
refused_line why =
    codes "refused"
    ++ (spaced (decimal (status_of why)) ++ (spaced (name_of_start why) ++ (spaced_list (fields_of_start why) ++ 10 ∷ [])))

-- where memory is short, nothing is printed
abbrev pub refused_text : StartRefusal → List ℕ
refused_text start.NoMemory = []
refused_text why = refused_line why

-- a refused script refuses the run; why its line is bad is not printed
abbrev pub start_of : ScriptRefusal → StartRefusal
start_of script.TooLong = start.TooLong
start_of (script.BadLine line why) = start.BadLine line
start_of (script.BadOrder line) = start.BadOrder line
start_of script.NoMemory = start.NoMemory

-- a refused list of options refuses the run
abbrev pub start_of_options : OptionRefusal → StartRefusal
start_of_options (option.BadOption at) = start.BadOption at
start_of_options (option.Twice name) = start.Twice name
