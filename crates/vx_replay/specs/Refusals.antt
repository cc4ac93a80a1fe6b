-- When the reading of an image is refused.
use Rattle.std.specs.Prelude.{Result, Ok, Err}
use Rattle.vx_base.specs.Faults.{Rose}
use Rattle.vx_dev.specs.Tape.{State}
use Rattle.vx_replay.specs.declared.refusal.ReplayRefusal.{ReplayRefusal}
use Rattle.vx_replay.specs.declared.refusal.ReplayRefusal.TheVariants as no

-- a read fault is answered only where one was counted, and nothing was written that could fail
abbrev pub ReadCause : State → State → ReplayRefusal → Type 0
ReadCause old new no.ReadFault = Rose old.read_faults new.read_faults
ReadCause old new no.WriteFault = ⊥
ReadCause old new (no.BadMeta sector) = ⊥
ReadCause old new _ = Unit {0}

abbrev pub IsReadRefusal : {T : Type 0} → State → State → Result T ReplayRefusal → Type 0
IsReadRefusal old new (Ok x) = Unit {0}
IsReadRefusal old new (Err why) = ReadCause old new why

-- so is it with the log, and the superblock was read before
abbrev pub LogCause : State → State → ReplayRefusal → Type 0
LogCause old new no.ReadFault = Rose old.read_faults new.read_faults
LogCause old new no.WriteFault = ⊥
LogCause old new (no.BadSuper field) = ⊥
LogCause old new (no.BadMeta sector) = ⊥
LogCause old new _ = Unit {0}

abbrev pub IsLogRefusal : {T : Type 0} → State → State → Result T ReplayRefusal → Type 0
IsLogRefusal old new (Ok x) = Unit {0}
IsLogRefusal old new (Err why) = LogCause old new why

-- nothing is read any more
abbrev pub SuperCause : ReplayRefusal → Type 0
SuperCause (no.BadSuper field) = Unit {0}
SuperCause no.NoMemory = Unit {0}
SuperCause _ = ⊥

abbrev pub IsSuperRefusal : {T : Type 0} → Result T ReplayRefusal → Type 0
IsSuperRefusal (Ok x) = Unit {0}
IsSuperRefusal (Err why) = SuperCause why
