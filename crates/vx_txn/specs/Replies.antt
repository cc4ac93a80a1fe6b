-- Replies of calls that ran.
use Rattle.std.specs.Prelude.{◌≡◌, false}
use Rattle.vx_base.specs.declared.reply.Reply.{Reply}
use Rattle.vx_base.specs.declared.reply.Reply.TheVariants as say
use Rattle.vx_model.specs.Legal.{is_any_time}
use Rattle.vx_model.specs.Touching.{Touched, untouched}

-- no refusal that the device or want of memory has caused
abbrev pub IsSound : Reply → Type 0
IsSound (say.Refused why) = is_any_time why ≡ false
IsSound _ = Unit {0}

-- the same, of a reply that takes no memory
abbrev pub IsShort : Reply → Type 0
IsShort (say.Refused why) = is_any_time why ≡ false
IsShort (say.Made ino) = Unit {0}
IsShort say.Fine = Unit {0}
IsShort (say.FileStat ino mode nlink size) = Unit {0}
IsShort (say.DirStat ino mode entries) = Unit {0}
IsShort _ = ⊥

-- only what is answered Made or Fine touches anything: a refused call, stat and list touch nothing
abbrev pub FitsReply : Touched → Reply → Type 0
FitsReply t (say.Made ino) = Unit {0}
FitsReply t say.Fine = Unit {0}
FitsReply t _ = t ≡ untouched
