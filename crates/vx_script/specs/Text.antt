-- What is printed for a reply.
use Rattle.std.specs.Prelude.{ℕ, List, [], ◌∷◌, length, map, decimal, codes}
use Rattle.vx_base.specs.declared.refusal.Refusal.{Refusal}
use Rattle.vx_base.specs.declared.refusal.Refusal.TheVariants as no
use Rattle.vx_base.specs.declared.reply.Reply.{Reply}
use Rattle.vx_base.specs.declared.reply.Reply.TheVariants as reply
use Rattle.vx_script.specs.Words.{name_text, hex_text, mode_text, flags_text}

abbrev pub number_of : Refusal → ℕ
number_of no.NoEnt = 1
number_of no.Exist = 2
number_of no.NotDir = 3
number_of no.IsDir = 4
number_of no.NotEmpty = 5
number_of no.BadName = 6
number_of no.BadHandle = 7
number_of (no.NoSpace need free) = 8
number_of (no.NoInodes in_use) = 9
number_of (no.TooBig end) = 10
number_of (no.TooManyLinks nlink) = 11
number_of (no.TooManyOpen open_now) = 12
number_of no.IntoItself = 13
number_of no.RootFixed = 14
number_of (no.NoExtend reserved_end) = 15
number_of (no.NoRun need longest) = 16
number_of (no.BadAttr which) = 17
number_of (no.MapFull extents) = 18
number_of no.ReadFault = 19
number_of no.WriteFault = 20
number_of (no.Disabled write_faults) = 21
number_of no.NoMemory = 22
number_of (no.ShrinkInUse inodes) = 23
number_of (no.DeviceTooSmall have want) = 24
number_of (no.Cancelled by) = 25
number_of (no.Gone ino) = 26

abbrev pub name_of : Refusal → List ℕ
name_of no.NoEnt = codes "NoEnt"
name_of no.Exist = codes "Exist"
name_of no.NotDir = codes "NotDir"
name_of no.IsDir = codes "IsDir"
name_of no.NotEmpty = codes "NotEmpty"
name_of no.BadName = codes "BadName"
name_of no.BadHandle = codes "BadHandle"
name_of (no.NoSpace need free) = codes "NoSpace"
name_of (no.NoInodes in_use) = codes "NoInodes"
name_of (no.TooBig end) = codes "TooBig"
name_of (no.TooManyLinks nlink) = codes "TooManyLinks"
name_of (no.TooManyOpen open_now) = codes "TooManyOpen"
name_of no.IntoItself = codes "IntoItself"
name_of no.RootFixed = codes "RootFixed"
name_of (no.NoExtend reserved_end) = codes "NoExtend"
name_of (no.NoRun need longest) = codes "NoRun"
name_of (no.BadAttr which) = codes "BadAttr"
name_of (no.MapFull extents) = codes "MapFull"
name_of no.ReadFault = codes "ReadFault"
name_of no.WriteFault = codes "WriteFault"
name_of (no.Disabled write_faults) = codes "Disabled"
name_of no.NoMemory = codes "NoMemory"
name_of (no.ShrinkInUse inodes) = codes "ShrinkInUse"
name_of (no.DeviceTooSmall have want) = codes "DeviceTooSmall"
name_of (no.Cancelled by) = codes "Cancelled"
name_of (no.Gone ino) = codes "Gone"

abbrev pub fields_of : Refusal → List ℕ
fields_of (no.NoSpace need free) = need ∷ free ∷ []
fields_of (no.NoInodes in_use) = in_use ∷ []
fields_of (no.TooBig end) = end ∷ []
fields_of (no.TooManyLinks nlink) = nlink ∷ []
fields_of (no.TooManyOpen open_now) = open_now ∷ []
fields_of (no.NoExtend reserved_end) = reserved_end ∷ []
fields_of (no.NoRun need longest) = need ∷ longest ∷ []
fields_of (no.BadAttr which) = which ∷ []
fields_of (no.MapFull extents) = extents ∷ []
fields_of (no.Disabled write_faults) = write_faults ∷ []
fields_of (no.ShrinkInUse inodes) = inodes ∷ []
fields_of (no.DeviceTooSmall have want) = have ∷ want ∷ []
fields_of (no.Cancelled by) = by ∷ []
fields_of (no.Gone ino) = ino ∷ []
fields_of _ = []

abbrev pub refusal_words : Refusal → List (List ℕ)
refusal_words why = codes "no" ∷ decimal (number_of why) ∷ name_of why ∷ map decimal (fields_of why)

-- bytes in hexadecimal digits; no bytes have no word
abbrev pub hex_words : List ℕ → List (List ℕ)
hex_words [] = []
hex_words (b ∷ bytes) = hex_text (b ∷ bytes) ∷ []

-- the words of a reply; Begun is never an answer
abbrev pub words_of : Reply → List (List ℕ)
words_of reply.Fine = codes "ok" ∷ []
words_of reply.Begun = codes "ok" ∷ []
words_of (reply.Made ino) = codes "ok" ∷ decimal ino ∷ []
words_of (reply.FileStat ino mode nlink size) = codes "ok" ∷ codes "file" ∷ decimal ino ∷ mode_text mode ∷ decimal nlink ∷ decimal size ∷ []
words_of (reply.DirStat ino mode entries) = codes "ok" ∷ codes "dir" ∷ decimal ino ∷ mode_text mode ∷ decimal entries ∷ []
words_of (reply.Listing names) = codes "ok" ∷ decimal (length names) ∷ map name_text names
words_of (reply.Got bytes) = codes "ok" ∷ decimal (length bytes) ∷ hex_words bytes
words_of (reply.Wrote len) = codes "ok" ∷ decimal len ∷ []
words_of (reply.Ext attrs) = codes "ok" ∷ decimal attrs.fixed ∷ decimal attrs.reserve ∷ flags_text attrs.flags ∷ []
words_of (reply.Moved from to) = codes "ok" ∷ decimal from ∷ decimal to ∷ []
words_of (reply.Extents extents pages maps) = codes "ok" ∷ decimal extents ∷ decimal pages ∷ decimal maps ∷ []
words_of (reply.DirBlocks blocks entries) = codes "ok" ∷ decimal blocks ∷ decimal entries ∷ []
words_of (reply.Refused why) = refusal_words why
