-- The line that is printed, and the exit status.
use Rattle.std.specs.Prelude.{ℕ, Bool, List, [], ◌∷◌, ◌++◌, map, decimal, codes, if◌then◌else◌}
use Rattle.vx_admin.specs.declared.end.End.{End}
use Rattle.vx_admin.specs.declared.end.End.TheVariants.{Done, Made, BadWords, DeviceTooSmall, Refused}
use Rattle.vx_layout.specs.declared.superblock.Super.{Super}
use Rattle.vx_replay.specs.declared.refusal.ReplayRefusal.TheVariants as no
use Rattle.vx_replay.specs.declared.top.Recovered.TheVariants.{Clean, Replayed}
use Rattle.vx_script.specs.Words.{spaced, spaced_list}

-- the exit status, where the sink took the whole line
abbrev pub status_of : End → ℕ
status_of (Done found) = 0
status_of (Made superblock) = 0
status_of BadWords = 1
status_of (DeviceTooSmall have want) = 2
status_of (Refused (no.BadSuper field)) = 2
status_of (Refused (no.BadLog sector)) = 2
status_of (Refused (no.BadMeta sector)) = 2
status_of (Refused no.WriteFault) = 4
status_of (Refused no.NoMemory) = 6
status_of (Refused no.ReadFault) = 8

-- the exit status, where the sink took the whole line or failed
abbrev pub status_at : End → Bool → ℕ
status_at (Done found) written = if written then 0 else 5
status_at (Made superblock) written = if written then 0 else 5
status_at end written = status_of end

abbrev pub name_of : End → List ℕ
name_of (Done found) = []
name_of (Made superblock) = []
name_of BadWords = codes "BadWords"
name_of (DeviceTooSmall have want) = codes "DeviceTooSmall"
name_of (Refused (no.BadSuper field)) = codes "BadSuper"
name_of (Refused (no.BadLog sector)) = codes "BadLog"
name_of (Refused (no.BadMeta sector)) = codes "BadMeta"
name_of (Refused no.WriteFault) = codes "WriteFault"
name_of (Refused no.NoMemory) = codes "NoMemory"
name_of (Refused no.ReadFault) = codes "ReadFault"

abbrev pub fields_of : End → List ℕ
fields_of (DeviceTooSmall have want) = have ∷ want ∷ []
fields_of (Refused (no.BadSuper field)) = field ∷ []
fields_of (Refused (no.BadLog sector)) = sector ∷ []
fields_of (Refused (no.BadMeta sector)) = sector ∷ []
fields_of _ = []

abbrev pub refused_line : End → List ℕ
refused_line end =
    codes "refused"
    ++ (spaced (decimal (status_of end)) ++ (spaced (name_of end) ++ (spaced_list (map decimal (fields_of end)) ++ 10 ∷ [])))

-- records, sectors, and the files without a name, of which there are none
abbrev pub replayed_line : ℕ → ℕ → List ℕ
replayed_line records sectors = codes "replayed" ++ (spaced_list (map decimal (records ∷ sectors ∷ 0 ∷ [])) ++ 10 ∷ [])

-- units, and blocks of the log
abbrev pub made_line : Super → List ℕ
made_line superblock = codes "made" ++ (spaced_list (map decimal (superblock.units ∷ superblock.log_blocks ∷ [])) ++ 10 ∷ [])

-- where memory is short, nothing is printed
abbrev pub text_of : End → List ℕ
text_of (Done Clean) = codes "clean" ++ 10 ∷ []
text_of (Done (Replayed records sectors)) = replayed_line records sectors
text_of (Made superblock) = made_line superblock
text_of (Refused no.NoMemory) = []
text_of end = refused_line end
