-- How a run ends, and why.
use Rattle.std.specs.Prelude.{◌≡◌, ◌⊎◌, ◌<◌, ◌≤◌, ◌+◌, ◌*◌, ℕ, Bool, true, false, ◌&&◌, List, [], length, Option, Some, None, Ok, Err, IfSome, is_some, not, if◌then◌else◌, All, replicate}
use Rattle.std.specs.Io.KnownBytes.{Appends}
use Rattle.vx_base.specs.declared.call.Call.{Call}
use Rattle.vx_base.specs.declared.event.Event.{Event}
use Rattle.vx_base.specs.Faults.{Rose}
use Rattle.vx_dev.specs.Moments.{Told, Always}
use Rattle.vx_dev.specs.Tape as dev
use Rattle.vx_grammar.specs.Readings.{reading_of}
use Rattle.vx_grammar.specs.Scripts.{IsScript, IsScriptIn, IsBadOrder}
use Rattle.vx_grammar.specs.declared.script.Script.{Script}
use Rattle.vx_grammar.specs.declared.why.ScriptRefusal.TheVariants as no
use Rattle.vx_grammar.specs.declared.why.Why.{Why}
use Rattle.vx_layout.specs.Supers.{IsSuper, volume_of}
use Rattle.vx_layout.specs.declared.superblock.Super.{Super}
use Rattle.vx_model.specs.Allowed.{IsAllowed}
use Rattle.vx_model.specs.Contents.{parsed_of}
use Rattle.vx_model.specs.Images.{Stands}
use Rattle.vx_model.specs.LaidOut.{IsPlain}
use Rattle.vx_model.specs.Legal.{World, Phase, Legal, opening, unmounted, at_of, after_all}
use Rattle.vx_model.specs.Reads.{ImageReadsAs}
use Rattle.vx_model.specs.Replays.{IsLeft, ReplaysAs}
use Rattle.vx_model.specs.State.{State, directory_blocks, fresh_of}
use Rattle.vx_mkfs.specs.Formats.{format_operations}
use Rattle.vx_mount.specs.Cores.{IsDriven, IsUnmounted}
use Rattle.vx_mount.specs.Runs.{AnswersLines}
use Rattle.vx_mount.specs.Sessions.{is_stopped}
use Rattle.vx_mount.specs.Views.{CoreView}
use Rattle.vx_core.specs.Faults.{TellsNoFault, StopsAt}
use Rattle.vx_replay.specs.LogReads.{IsRead, Shows}
use Rattle.vx_replay.specs.declared.image_check.CheckRefusal.TheVariants as check
use Rattle.vx_stage.specs.Kernels.{device_size, IsMounted}
use Rattle.vx_script.specs.Output.{output_of}
use Rattle.vx_script.specs.Puts.{AppendsPrefix}
use Rattle.vx_script.specs.Start.{status_of, refused_text}
use Rattle.vx_script.specs.declared.start.StartRefusal.{StartRefusal}
use Rattle.vx_script.specs.declared.start.StartRefusal.TheVariants as start
use Rattle.vx_load.specs.Loads.{IsMountable, IsRefused}
use Rattle.vx_load.specs.declared.refusal.LoadRefusal.{LoadRefusal}
use Rattle.vx_load.specs.declared.refusal.LoadRefusal.TheVariants as load
use Rattle.vx_run.specs.declared.words.Asked.{Asked}
use Rattle.vx_run.specs.declared.words.Verb.{Verb}
use Rattle.vx_run.specs.declared.words.Verb.TheVariants as verb
use Rattle.vx_run.specs.Words.{asked_of}

-- what a run is given: its words, its script where the source tells it, its device, and the source's faults so far
pub record Setting : Type 0 where
  pub words : List (List ℕ)
  pub script : Option (List ℕ)
  pub device : dev.State
  pub script_faults : ℕ

-- ---- where a run begins

-- the superblock of every new file system, while it is mounted
abbrev pub new_super : Super
new_super = record { log_blocks = 512; units = 1; clean = false }

-- the sectors that it needs
abbrev pub sectors_needed : ℕ
sectors_needed = device_size new_super

-- the operations before the history begins: those of the format, or the three that mark an image as mounted
abbrev pub first_operations : Verb → ℕ
first_operations verb.Fresh = format_operations new_super
first_operations verb.Mount = 3

-- the device's operations when its history begins
abbrev pub first_of : Setting → Verb → ℕ
first_of s v = s.device.count + first_operations v

-- a new file system
abbrev pub beginning : Setting → World
beginning s = opening (first_of s verb.Fresh) (fresh_of new_super directory_blocks s.device.size)

-- A state without bytes that the image says which the device shows, where it shows one; nothing waits in it.
pub record IsFoundState (d : dev.State) (sizes : Super) (state : State) : Type 0 where
  pub is_super : IsSuper sizes
  pub room : device_size sizes ≤ d.size
  pub mounted : IsMounted sizes state
  pub plain : IsPlain state
  pub device : state.layout.device_sectors ≡ d.size
  pub nothing_waits : (b : ℕ) → state.layout.pending b ≡ None
  pub limit : state.layout.directory_limit ≡ directory_blocks
  pub mountable : (t : dev.Tape) → Shows d t → IsMountable sizes d.size (dev.now t)
  pub stands : (t : dev.Tape) → Shows d t → Stands (volume_of sizes) (parsed_of state) (dev.now t)
  pub reads : (t : dev.Tape) → Shows d t → ImageReadsAs (volume_of sizes) (dev.now t) state.tree

-- The image of a clean file system is marked as mounted. From the first barrier on, each image that a crash leaves before the history
-- begins replays as the tree that was there.
pub record IsMarked (old : dev.State) (state : State) (begun : dev.State) : Type 0 where
  pub count : begun.count ≡ old.count + first_operations verb.Mount
  pub kept : (t : dev.Tape) → Shows old t → Told begun (Always (length t.ops + 1) (λ m image. ReplaysAs old.size image state.tree))

-- the world in which the history of a mount begins, and the units of its file system
pub record IsMountOf (s : Setting) (o : World) (units : ℕ) : Type 0 where
  pub sizes : Super
  pub state : State
  pub found : IsFoundState s.device sizes state
  pub begun : dev.State
  pub marked : IsMarked s.device state begun
  pub world_is : o ≡ opening (first_of s verb.Mount) state
  pub units_are : units ≡ sizes.units

-- ... of a new file system
pub record IsNewOf (s : Setting) (o : World) (units : ℕ) : Type 0 where
  pub size : sectors_needed ≤ s.device.size
  pub world_is : o ≡ beginning s
  pub units_are : units ≡ new_super.units

abbrev pub BeginsIn : Setting → Verb → World → ℕ → Type 0
BeginsIn s verb.Fresh o units = IsNewOf s o units
BeginsIn s verb.Mount o units = IsMountOf s o units

-- ---- what it does

-- how a run ends: it is refused before the first turn, or it takes the turns of its sessions, disabled by a failed write or not
pub data End : Type 0 where
  refused : (why : StartRefusal) → End
  finished : (disabled : Bool) (history : List Event) → End

-- The words ask for this, and the script is one that is read of the bytes, where these are told.
pub record Asks (s : Setting) (asked : Asked) (script : Script) : Type 0 where
  pub words : asked_of s.words ≡ Ok asked
  pub read : IfSome s.script (λ bytes. IsScriptIn bytes script)
  pub form : IsScript script

-- the words are good
abbrev pub HasWords : Setting → Type 0
HasWords s = (asked : Asked) × (asked_of s.words ≡ Ok asked)

abbrev pub HasBadLine : ℕ → List ℕ → Type 0
HasBadLine line bytes = (why : Why) × (reading_of bytes ≡ Err (no.BadLine line why))

-- why a run is not begun, by its words and its script
abbrev pub IsUnasked : Setting → ℕ → StartRefusal → Type 0
IsUnasked s faults start.BadWords = asked_of s.words ≡ Err start.BadWords
IsUnasked s faults (start.BadOption at) = asked_of s.words ≡ Err (start.BadOption at)
IsUnasked s faults (start.Twice name) = asked_of s.words ≡ Err (start.Twice name)
IsUnasked s faults start.TooLong = HasWords s × IfSome s.script (λ bytes. reading_of bytes ≡ Err no.TooLong)
IsUnasked s faults (start.BadLine line) = HasWords s × IfSome s.script (HasBadLine line)
IsUnasked s faults (start.BadOrder line) = HasWords s × IfSome s.script (λ bytes. IsBadOrder bytes line)
IsUnasked s faults start.ScriptFault = HasWords s × Rose s.script_faults faults
IsUnasked s faults start.NoMemory = HasWords s
IsUnasked s faults _ = ⊥

-- a run that is asked for, with a good script
pub record IsAsked (s : Setting) (v : Verb) : Type 0 where
  pub asked : Asked
  pub script : Script
  pub asks : Asks s asked script
  pub verb_is : asked.verb ≡ v

-- the device is too small
pub record IsTooSmall (s : Setting) (have want : ℕ) : Type 0 where
  pub asked : IsAsked s verb.Fresh
  pub have_is : have ≡ s.device.size
  pub want_is : want ≡ sectors_needed
  pub small : s.device.size < sectors_needed

-- the format or the mark failed
pub record IsUnbegun (s : Setting) (d : dev.State) (v : Verb) : Type 0 where
  pub asked : IsAsked s v
  pub rose : Rose s.device.write_faults d.write_faults
  pub fewer : d.count < first_of s v

-- there was room for the format
pub record IsUnformatted (s : Setting) (d : dev.State) : Type 0 where
  pub size : sectors_needed ≤ s.device.size
  pub failed : IsUnbegun s d verb.Fresh

-- the image could be mounted
pub record IsUnmarked (s : Setting) (d : dev.State) : Type 0 where
  pub sizes : Super
  pub state : State
  pub found : IsFoundState s.device sizes state
  pub failed : IsUnbegun s d verb.Mount

-- how a run says why an image is not mounted
abbrev pub start_of_load : LoadRefusal → StartRefusal
start_of_load (load.Check (check.BadSuper field)) = start.BadSuper field
start_of_load (load.Check (check.BadLog sector)) = start.BadLog sector
start_of_load (load.Check (check.BadMeta sector)) = start.BadMeta sector
start_of_load (load.Check (check.NotClean tail head)) = start.NotClean tail head
start_of_load (load.Check check.ReadFault) = start.ReadFault
start_of_load (load.Check check.NoMemory) = start.NoMemory
start_of_load (load.HasBytes ino) = start.HasBytes ino

-- the image is not mounted, and was only read
pub record IsUnloaded (s : Setting) (d : dev.State) (why : LoadRefusal) : Type 0 where
  pub asked : IsAsked s verb.Mount
  pub refused_for : IsRefused s.device d why
  pub read : IsRead s.device d

-- the locks of all inode numbers, which no session holds
abbrev pub free_locks : ℕ → List (Option ℕ)
free_locks units = replicate (128 * units) None

-- the sessions whose turns come first
abbrev pub schedule_of : Option (List ℕ) → List ℕ
schedule_of None = []
schedule_of (Some actors) = actors

abbrev pub begun_view : Setting → Asked → (units : ℕ) → List (List Call) → CoreView
begun_view s asked units lines = record {
  lines = lines;
  history = [];
  logging = asked.logging;
  count = first_of s asked.verb;
  write_faults = s.device.write_faults;
  disabled = None;
  locks = free_locks units;
}

-- The turns by the script's schedule, and then of all sessions round and round until all are finished, and those of the unmount lead
-- to this history.
pub record IsTaken (begun : CoreView) (script : Script) (d : dev.State) (disabled : Bool) (history : List Event) : Type 0 where
  pub middle : CoreView
  pub driven : IsDriven begun (schedule_of script.schedule) middle
  pub end : CoreView
  pub left : IsUnmounted middle end
  pub history_is : end.history ≡ history
  pub count_is : end.count ≡ d.count
  pub write_faults_is : end.write_faults ≡ d.write_faults
  pub disabled_is : is_some end.disabled ≡ disabled

-- Where the faults of the device are told: nowhere, or one call is answered WriteFault at the operation that failed and all that come
-- behind it are Disabled; or the fault came in the unmount, which answers no call.
abbrev pub AreInOrder : Option ℕ → dev.State → List Event → Type 0
AreInOrder None d history = All TellsNoFault history
AreInOrder (Some faults) d history = (faults ≡ d.write_faults) × (StopsAt faults d.count history ⊎ All TellsNoFault history)

-- an event came when the device had done so many operations
abbrev pub CameBetween : (from to : ℕ) → Event → Type 0
CameBetween from to e = (from ≤ at_of e) × (at_of e ≤ to)

abbrev pub is_unmounted_phase : Phase → Bool
is_unmounted_phase unmounted = true
is_unmounted_phase _ = false

-- whether the file system was left clean
abbrev pub is_unmounted : World → List Event → Bool
is_unmounted o history = is_unmounted_phase (after_all o history).phase

-- The turns of a run whose history begins in this world. The history is legal, and comes from the turns of the sessions; without a
-- stop each session's lines are all answered, from the first, in order. It ends unmounted exactly where it was neither stopped nor
-- disabled by a failed write, and the faults of the device are told in order. Each event came at a moment from the first one to the end
-- of the run. Where the device tells its operations, each image that a crash may leave at any of these moments is one that the history
-- allows in the mode; and unmounted, the one image is clean and reads as the history's final tree.
pub record IsPlayed (o : World) (begun : CoreView) (script : Script) (size : ℕ) (d : dev.State) (disabled : Bool) (history : List Event) : Type 0 where
  pub legal : Legal o history
  pub taken : IsTaken begun script d disabled history
  pub answers : AnswersLines script.lines history
  pub ended_by : is_unmounted o history ≡ (not disabled && not (is_stopped history))
  pub never_both : disabled ≡ true → is_stopped history ≡ false
  -- by the number of failed writes that disabled the mount in these turns
  pub faults : AreInOrder taken.end.disabled d history
  pub fine : disabled ≡ false → d.write_faults ≡ begun.write_faults
  pub rose : disabled ≡ true → Rose begun.write_faults d.write_faults
  pub later : o.at ≤ d.count
  pub came : All (CameBetween o.at d.count) history
  pub crash : Told d (Always o.at (IsAllowed begun.logging o history))
  pub clean : is_unmounted o history ≡ true → Told d (IsLeft size (after_all o history).state.tree)

-- A run that was begun: in a new file system, or in what the image says that is mounted.
pub record IsFinished (s : Setting) (d : dev.State) (disabled : Bool) (history : List Event) : Type 0 where
  pub asked : Asked
  pub script : Script
  pub asks : Asks s asked script
  pub world : World
  pub units : ℕ
  pub begins : BeginsIn s asked.verb world units
  pub played : IsPlayed world (begun_view s asked units script.lines) script s.device.size d disabled history

-- the cause of each end
abbrev pub HasEnded : Setting → dev.State → ℕ → End → Type 0
HasEnded s d faults (refused (start.DeviceTooSmall have want)) = IsTooSmall s have want × (d ≡ s.device)
HasEnded s d faults (refused start.WriteFault) = IsUnformatted s d ⊎ IsUnmarked s d
HasEnded s d faults (refused (start.BadSuper field)) = IsUnloaded s d (load.Check (check.BadSuper field))
HasEnded s d faults (refused (start.BadLog sector)) = IsUnloaded s d (load.Check (check.BadLog sector))
HasEnded s d faults (refused (start.NotClean tail head)) = IsUnloaded s d (load.Check (check.NotClean tail head))
HasEnded s d faults (refused (start.BadMeta sector)) = IsUnloaded s d (load.Check (check.BadMeta sector))
HasEnded s d faults (refused (start.HasBytes ino)) = IsUnloaded s d (load.HasBytes ino)
HasEnded s d faults (refused start.ReadFault) = IsUnloaded s d (load.Check check.ReadFault)
HasEnded s d faults (refused start.NoMemory) = HasWords s × IsRead s.device d
HasEnded s d faults (refused why) = IsUnasked s faults why × (d ≡ s.device)
HasEnded s d faults (finished disabled history) = IsFinished s d disabled history

-- the exit status, where the sink took all of the output or failed
abbrev pub status_at : End → Bool → ℕ
status_at (refused why) written = status_of why
status_at (finished true history) written = 4
status_at (finished false history) written = if written then 0 else 5

abbrev pub history_at : End → List Event
history_at (refused why) = []
history_at (finished disabled history) = history

abbrev pub text_at : End → List ℕ
text_at (refused why) = refused_text why
text_at (finished disabled history) = output_of history

-- what a sink took before and after, and its faults
pub record Taking : Type 0 where
  pub before : Option (List ℕ)
  pub now : Option (List ℕ)
  pub faults_before : ℕ
  pub faults : ℕ

-- all of the text was taken, without a fault, or a first part of it and then a fault
abbrev pub Takes : Taking → List ℕ → Bool → Type 0
Takes t text true = Appends t.before t.now text × (t.faults ≡ t.faults_before)
Takes t text false = AppendsPrefix t.before t.now text × Rose t.faults_before t.faults

-- what is known of every run
pub record IsRan (s : Setting) (d : dev.State) (faults : ℕ) (t : Taking) (status : ℕ) (history : List Event) : Type 0 where
  pub end : End
  pub written : Bool
  pub cause : HasEnded s d faults end
  pub output : Takes t (text_at end) written
  pub status_is : status ≡ status_at end written
  pub history_is : history ≡ history_at end
