-- What the words of a list of options choose.
use Rattle.std.specs.Prelude.{ℕ, ◌+◌, Bool, true, false, List, take, drop, codes, Option, Some, None, Result, Ok, Err, is_some, unwrap_or, if◌then◌else◌}
use Rattle.std.specs.Option.{option_map}
use Rattle.std.specs.Str.{bytes_eq}
use Rattle.vx_base.specs.declared.mode.Logging.TheVariants as logging
use Rattle.vx_base.specs.declared.mode.MinCache.{MinCache}
use Rattle.vx_base.specs.declared.mode.MinCache.TheVariants as mincache
use Rattle.vx_base.specs.declared.mode.ConvOSync.{ConvOSync}
use Rattle.vx_base.specs.declared.mode.ConvOSync.TheVariants as convosync
use Rattle.vx_modes.specs.declared.choices.Choice.{Choice}
use Rattle.vx_modes.specs.declared.choices.Choice.TheVariants as choice
use Rattle.vx_modes.specs.declared.choices.Choices.{Choices}
use Rattle.vx_modes.specs.declared.options.Options.{Options}
use Rattle.vx_modes.specs.declared.options.OptionName.TheVariants as name
use Rattle.vx_modes.specs.declared.options.OptionRefusal.{OptionRefusal}
use Rattle.vx_modes.specs.declared.options.OptionRefusal.TheVariants.{BadOption, Twice}

-- ---- words

unfoldable pub mincache_of : List ℕ → Option MinCache
mincache_of value =
    if bytes_eq value (codes "closesync") then Some mincache.CloseSync
    else (if bytes_eq value (codes "direct") then Some mincache.Direct
    else (if bytes_eq value (codes "dsync") then Some mincache.DSync
    else (if bytes_eq value (codes "unbuffered") then Some mincache.Unbuffered
    else (if bytes_eq value (codes "tmpcache") then Some mincache.TmpCache else None))))

unfoldable pub convosync_of : List ℕ → Option ConvOSync
convosync_of value =
    if bytes_eq value (codes "closesync") then Some convosync.CloseSync
    else (if bytes_eq value (codes "delay") then Some convosync.Delay
    else (if bytes_eq value (codes "direct") then Some convosync.Direct
    else (if bytes_eq value (codes "dsync") then Some convosync.DSync
    else (if bytes_eq value (codes "unbuffered") then Some convosync.Unbuffered else None))))

-- a word without a value
unfoldable pub plain_choice : List ℕ → Option Choice
plain_choice word =
    if bytes_eq word (codes "log") then Some (choice.Logging logging.Log)
    else (if bytes_eq word (codes "delaylog") then Some (choice.Logging logging.DelayLog)
    else (if bytes_eq word (codes "tmplog") then Some (choice.Logging logging.TmpLog)
    else (if bytes_eq word (codes "blkclear") then Some choice.BlkClear else None)))

unfoldable pub choice_of : List ℕ → Option Choice
choice_of word =
    if bytes_eq (take 9 word) (codes "mincache=") then option_map choice.MinCache (mincache_of (drop 9 word))
    else (if bytes_eq (take 10 word) (codes "convosync=") then option_map choice.ConvOSync (convosync_of (drop 10 word))
    else plain_choice word)

-- the choices that there are by now; one that is not built yet is no option
abbrev pub is_built : Choice → Bool
is_built (choice.Logging logging.Log) = true
is_built (choice.Logging logging.DelayLog) = true
is_built _ = false

abbrev pub built : Option Choice → Option Choice
built None = None
built (Some choice) = if is_built choice then Some choice else None

-- ---- choices

abbrev pub no_choices : Choices
no_choices = record { logging = None; blkclear = false; mincache = None; convosync = None }

-- a choice more; each may be made once
abbrev pub with_choice : Choices → Choice → Result Choices OptionRefusal
with_choice c (choice.Logging mode) =
    if is_some c.logging then Err (Twice name.Logging) else Ok (record c { logging = Some mode })
with_choice c choice.BlkClear =
    if c.blkclear then Err (Twice name.BlkClear) else Ok (record c { blkclear = true })
with_choice c (choice.MinCache value) =
    if is_some c.mincache then Err (Twice name.MinCache) else Ok (record c { mincache = Some value })
with_choice c (choice.ConvOSync value) =
    if is_some c.convosync then Err (Twice name.ConvOSync) else Ok (record c { convosync = Some value })

abbrev pub with_choice_at : ℕ → Choices → Option Choice → Result Choices OptionRefusal
with_choice_at at c None = Err (BadOption at)
with_choice_at at c (Some choice) = with_choice c choice

-- the choices with that of the word at a place
unfoldable pub with_word : ℕ → Choices → List ℕ → Result Choices OptionRefusal
with_word at c word = with_choice_at at c (built (choice_of word))

abbrev pub with_defaults : Choices → Options
with_defaults c = record {
  logging = unwrap_or c.logging logging.DelayLog;
  blkclear = c.blkclear;
  mincache = c.mincache;
  convosync = c.convosync;
}

-- ---- how many choices were made

abbrev pub one_if : Bool → ℕ
one_if true = 1
one_if false = 0

abbrev pub count_of : Choices → ℕ
count_of c = one_if (is_some c.logging) + one_if c.blkclear + one_if (is_some c.mincache) + one_if (is_some c.convosync)
