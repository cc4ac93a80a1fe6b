-- The words that have names of their own.
use Rattle.std.specs.Prelude.{ℕ, ◌==◌, List, [], ◌∷◌, codes, bit_and, bit_or, Bool, true, false, Option, Some, None, if◌then◌else◌}
use Rattle.std.specs.List.{slice_split}
use Rattle.std.specs.Option.{option_or}
use Rattle.std.specs.Str.{bytes_eq}
use Rattle.vx_base.specs.declared.call.Flag.{Flag}
use Rattle.vx_base.specs.declared.call.Flag.TheVariants as flag
use Rattle.vx_base.specs.declared.call.Tunable.{Tunable}
use Rattle.vx_base.specs.declared.call.Tunable.TheVariants as tunable
use Rattle.vx_grammar.specs.declared.keywords.CommandName.{CommandName}
use Rattle.vx_grammar.specs.declared.keywords.CommandName.TheVariants as name
use Rattle.vx_grammar.specs.Words.{Word, is_word}

-- ---- flags of open files, and tunables

unfoldable pub flag_of : Word → Option Flag
flag_of word =
    if is_word word (codes "plain") then Some flag.Plain
    else if is_word word (codes "sync") then Some flag.Sync
    else if is_word word (codes "dsync") then Some flag.DSync
    else if is_word word (codes "direct") then Some flag.Direct
    else if is_word word (codes "unbuffered") then Some flag.Unbuffered
    else None

unfoldable pub tunable_of : Word → Option Tunable
tunable_of word =
    if is_word word (codes "initial_extent_size") then Some tunable.InitialExtentSize
    else if is_word word (codes "delay_ticks") then Some tunable.DelayTicks
    else if is_word word (codes "tmp_ticks") then Some tunable.TmpTicks
    else None

-- ---- flags of attributes

-- the bit of an attribute's flag, 0 for another word
abbrev pub bit_of : List ℕ → ℕ
bit_of name =
    if bytes_eq name (codes "align") then 1
    else if bytes_eq name (codes "contig") then 2
    else if bytes_eq name (codes "noextend") then 4
    else if bytes_eq name (codes "noreserve") then 8
    else if bytes_eq name (codes "trim") then 16
    else if bytes_eq name (codes "chgsize") then 32
    else 0

abbrev pub is_comma : ℕ → Bool
is_comma b = b == 44

-- these bits, and the one of a name; each stands once
abbrev pub with_flag : ℕ → List ℕ → Option ℕ
with_flag bits name = if bit_of name == 0 then None else if bit_and bits (bit_of name) == 0 then Some (bit_or bits (bit_of name)) else None

abbrev pub and_more : Option ℕ → (ℕ → Option ℕ) → Option ℕ
and_more None later = None
and_more (Some bits) later = later bits

-- these bits, and those of the names
abbrev pub bits_after : ℕ → List (List ℕ) → Option ℕ
bits_after bits [] = Some bits
bits_after bits (name ∷ names) = and_more (with_flag bits name) (λ more. bits_after more names)

abbrev pub flags_in : Word → Option ℕ
flags_in None = None
flags_in (Some word) = if bytes_eq word (codes "-") then Some 0 else bits_after 0 (slice_split is_comma word)

-- a dash, or distinct flags with commas between them
unfoldable pub flags_of : Word → Option ℕ
flags_of word = flags_in word

-- ---- commands

-- on names
unfoldable pub tree_command : Word → Option CommandName
tree_command word =
    if is_word word (codes "create") then Some name.Create
    else if is_word word (codes "mkdir") then Some name.Mkdir
    else if is_word word (codes "chmod") then Some name.Chmod
    else if is_word word (codes "unlink") then Some name.Unlink
    else if is_word word (codes "rmdir") then Some name.Rmdir
    else if is_word word (codes "stat") then Some name.Stat
    else if is_word word (codes "list") then Some name.List
    else if is_word word (codes "link") then Some name.Link
    else if is_word word (codes "rename") then Some name.Rename
    else None

-- on open files
unfoldable pub file_command : Word → Option CommandName
file_command word =
    if is_word word (codes "open") then Some name.Open
    else if is_word word (codes "close") then Some name.Close
    else if is_word word (codes "fsync") then Some name.Fsync
    else if is_word word (codes "read") then Some name.Read
    else if is_word word (codes "write") then Some name.Write
    else if is_word word (codes "truncate") then Some name.Truncate
    else None

-- on the whole mount, and on the order of lines
unfoldable pub mount_command : Word → Option CommandName
mount_command word =
    if is_word word (codes "sync") then Some name.Sync
    else if is_word word (codes "tick") then Some name.Tick
    else if is_word word (codes "stop") then Some name.Stop
    else if is_word word (codes "after") then Some name.After
    else None

-- on extents, and on settings
unfoldable pub extent_command : Word → Option CommandName
extent_command word =
    if is_word word (codes "setext") then Some name.Setext
    else if is_word word (codes "getext") then Some name.Getext
    else if is_word word (codes "tune") then Some name.Tune
    else if is_word word (codes "fsadm") then Some name.Fsadm
    else None

-- the commands that there are by now; one that is not built yet is unknown
abbrev pub is_built : CommandName → Bool
is_built name.Create = true
is_built name.Mkdir = true
is_built name.Chmod = true
is_built name.Unlink = true
is_built name.Rmdir = true
is_built name.Stat = true
is_built name.List = true
is_built name.Link = true
is_built name.Rename = true
is_built name.Sync = true
is_built name.Tick = true
is_built name.Stop = true
is_built name.After = true
is_built _ = false

abbrev pub built : Option CommandName → Option CommandName
built None = None
built (Some command) = if is_built command then Some command else None

unfoldable pub spelled_command : Word → Option CommandName
spelled_command word = option_or (option_or (option_or (tree_command word) (file_command word)) (mount_command word)) (extent_command word)

unfoldable pub command_of : Word → Option CommandName
command_of word = built (spelled_command word)
