-- What a core keeps between two turns.
use Rattle.std.specs.Prelude.{◌≡◌, ◌+◌, ◌≤◌, ◌<◌, ℕ, Bool, true, false, List, [], length, set, slice_get, Option, None, Some, IsSome}
use Rattle.vx_base.specs.declared.call.Call.{Call}
use Rattle.vx_base.specs.declared.event.Event.TheVariants as event
use Rattle.vx_base.specs.declared.refusal.Refusal.{Refusal}
use Rattle.vx_base.specs.declared.reply.Reply.{Reply}
use Rattle.vx_base.specs.declared.reply.Reply.TheVariants as say
use Rattle.vx_base.specs.Lines.{lines_of, line_after}
use Rattle.std.specs.FinMap as map
use Rattle.vx_grammar.specs.Orders.{HasOrder}
use Rattle.vx_model.specs.Legal.{World, in_use, after_all, is_stop}
use Rattle.vx_mount.specs.Cores.{Opening}
use Rattle.vx_mount.specs.Sessions.{answered, standing, finished, waiting, ready}
use Rattle.vx_mount.specs.Views.{CoreView}
use Rattle.vx_core.specs.declared.session.Session.{Session}
use Rattle.vx_core.specs.declared.session.UnderWay.{UnderWay}
use Rattle.vx_core.specs.declared.engine.Next.{Next}
use Rattle.vx_core.specs.declared.engine.Next.TheVariants as next
use Rattle.vx_core.specs.Faults.{TellsInOrder}
use Rattle.vx_core.specs.Lines.{script_lines}
use Rattle.vx_core.specs.Rooms.{HasRoom}
use Rattle.vx_core.specs.Mounts.{MountView, noted}
use Rattle.vx_core.specs.Tracks.{session_at, under_way_at, Tracks, WaitForFronts, IsOnCourse}

-- the lines have an order, their calls can be done, and no session has more than 65,535
pub record IsScript (built : Call → Type 0) (lines : List (List Call)) : Type 0 where
  pub order : HasOrder lines
  pub each : (s n : ℕ) (c : Call) → line_after lines s n ≡ Some c → built c
  pub short : (s : ℕ) → length (lines_of lines s) < 65536

-- `kept` is what the mount keeps for this World
pub record Facts (built : Call → Type 0) (o : World) (kept : Type 0) (v : MountView) (lists : List (List Call)) (sessions : List Session) (ended : Bool) : Type 0 where
  pub keeps : kept
  pub tracks : Tracks (script_lines lists v.history) (after_all o v.history) v.history sessions
  pub fronts : WaitForFronts v.logging v.history sessions
  pub course : IsOnCourse ended (script_lines lists v.history) (after_all o v.history) v.history
  pub script : IsScript built (script_lines lists v.history)
  pub counts : length sessions ≡ length lists
  pub few : length lists ≤ 16
  -- the mount is being left only where no line is left
  pub over : v.leaving ≡ true → (s : ℕ) → line_after (script_lines lists v.history) s (answered s v.history) ≡ None

-- no session holds a lock: the calls on names lock nothing
abbrev pub AreFree : (locks : List (Option ℕ)) → Type 0
AreFree locks = (ino holder : ℕ) → slice_get locks ino ≡ Some (Some holder) → ⊥

-- what a core needs for its next turn: what it keeps for some world, and room in the history
pub record IsSound (built : Call → Type 0) (kept : World → Type 0) (v : MountView) (lists : List (List Call)) (sessions : List Session) (locks : List (Option ℕ)) (ended : Bool) : Type 0 where
  pub free : AreFree locks
  pub world : World
  pub facts : Facts built world (kept world) v lists sessions ended
  pub room : HasRoom v lists sessions

-- what each turn keeps, where the history began so
pub record IsKept (built : Call → Type 0) (o : Opening) (kept : Type 0) (v : MountView) (lists : List (List Call)) (sessions : List Session) (ended : Bool) : Type 0 where
  pub facts : Facts built o.world kept v lists sessions ended
  pub order : TellsInOrder o.write_faults v (script_lines lists v.history)
  pub logging : v.logging ≡ o.logging

-- a world in which a mount begins
pub record IsBegun (o : World) : Type 0 where
  pub phase : o.phase ≡ in_use
  pub next : o.next ≡ 0
  pub waiting : o.waiting ≡ map.empty

-- a mount whose history begins
pub record IsNew (v : MountView) : Type 0 where
  pub history : v.history ≡ []
  pub enabled : v.disabled ≡ None
  pub leaving : v.leaving ≡ false

abbrev pub view_of : MountView → List (List Call) → (locks : List (Option ℕ)) → CoreView
view_of v lists locks = record { lines = script_lines lists v.history; history = v.history; logging = v.logging; count = v.count; write_faults = v.write_faults; disabled = v.disabled; locks = locks }

-- what a session's turn is to do
abbrev pub IsNext : MountView → List (List Call) → List Session → ℕ → Bool → Next → Type 0
IsNext v lists sessions s ended next.Nothing = standing (script_lines lists v.history) v.history s ≡ finished
IsNext v lists sessions s ended (next.Wait other lines) = standing (script_lines lists v.history) v.history s ≡ waiting other lines
IsNext v lists sessions s ended next.Begin =
    (standing (script_lines lists v.history) v.history s ≡ ready) × ((ended ≡ false) × ((under_way_at sessions s ≡ None) × IsSome (line_after lists s (session_at sessions s).answered)))
IsNext v lists sessions s ended next.GoOn = (standing (script_lines lists v.history) v.history s ≡ ready) × ((ended ≡ false) × IsSome (under_way_at sessions s))

-- the call's answer ends the run
abbrev pub ends_run : Call → Reply → Bool
ends_run c say.Fine = is_stop c
ends_run c _ = false

abbrev pub is_fine : Reply → Bool
is_fine say.Fine = true
is_fine _ = false

abbrev pub is_stop_line : Option Call → Bool
is_stop_line None = false
is_stop_line (Some c) = is_stop c

-- a call that is answered as it said, or refused
abbrev pub answer_of : Option Refusal → Reply → Reply
answer_of None answer = answer
answer_of (Some why) answer = say.Refused why

-- the call that the session had under way is answered
pub record HasAnswered (old new : MountView) (sessions later : List Session) (s n : ℕ) (u : UnderWay) (answer : Reply) : Type 0 where
  pub view : new ≡ noted old (event.Ret old.count u.place answer)
  pub later_is : later ≡ set sessions s (record { answered = n + 1; under_way = None })
