-- The history has room for what is to come.
use Rattle.std.proofs.Common.{◌≡◌, ℕ, ◌+◌, ◌-◌, ◌<◌, ◌≤◌, set, List, [], ◌∷◌, ◌++◌, ◌∙◌, length, length-append, true, false, Bool, Some, None, sym, ap, subst, arith, if◌then◌else◌}
use Rattle.vx_base.specs.declared.call.Call.{Call}
use Rattle.vx_base.specs.Lines.{lines_of}
use Rattle.std.specs.Prelude.{slice_get}
use Rattle.vx_base.specs.declared.event.Event.TheVariants as event
use Rattle.vx_mount.specs.GrowthLaws.{GrowthLaws, one_if}
use Rattle.vx_mount.specs.Cores.{is_end}
use Rattle.vx_core.specs.declared.session.Session.{Session}
use Rattle.vx_core.specs.declared.session.UnderWay.{UnderWay}
use Rattle.vx_core.specs.Lines.{script_lines}
use Rattle.vx_core.specs.Mounts.{MountView, leaves}
use Rattle.vx_core.specs.Rooms.{last_to_come, HasRoom}
use Rattle.vx_core.specs.Tracks.{session_at, last_event}
use Rattle.vx_core.specs.Works.{work_of}
use Rattle.vx_core.proofs.Working.{work_begun, work_answered}

one_more : (lines : List (List Call)) (sessions : List Session) (k : ℕ) → work_of 2 k lines sessions ≡ work_of 2 0 lines sessions + k
unfolding work_of
one_more lines sessions k = omega arith

last_most : (b : Bool) → (if b then 0 else 1) ≤ 1
last_most true = omega arith
last_most false = omega arith

-- while the history goes on, its last event is still to come
pub room_running : (v : MountView) (lists : List (List Call)) (sessions : List Session) → is_end (last_event v.history) ≡ false → HasRoom v lists sessions → work_of 2 1 (script_lines lists v.history) sessions ≤ v.spare
room_running v lists sessions open_end room = subst (λ b. work_of 2 (if b then 0 else 1) (script_lines lists v.history) sessions ≤ v.spare) open_end room

pub has_room : (v : MountView) (lists lines : List (List Call)) (sessions : List Session) → script_lines lists v.history ≡ lines → work_of 2 1 lines sessions ≤ v.spare → HasRoom v lists sessions
has_room v lists lines sessions same room =
    subst (λ l. work_of 2 (last_to_come v.history) l sessions ≤ v.spare) (sym same)
    (let a = one_more lines sessions (last_to_come v.history) in let b = one_more lines sessions 1 in let c : last_to_come v.history ≤ 1 = last_most (is_end (last_event v.history)) in omega arith)

-- the last event has come
pub room_ended : (v : MountView) (lists lines : List (List Call)) (sessions : List Session) → script_lines lists v.history ≡ lines → is_end (last_event v.history) ≡ true → work_of 2 0 lines sessions ≤ v.spare → HasRoom v lists sessions
room_ended v lists lines sessions same end room =
    subst (λ l. work_of 2 (last_to_come v.history) l sessions ≤ v.spare) (sym same)
    (subst (λ b. work_of 2 (if b then 0 else 1) lines sessions ≤ v.spare) (sym end) room)

pub room_last : (lines : List (List Call)) (sessions : List Session) (spare : ℕ) → work_of 2 1 lines sessions ≤ spare → 0 < spare
room_last lines sessions spare room = let b = one_more lines sessions 1 in omega arith

pub room_more : (lines : List (List Call)) (sessions : List Session) (spare later : ℕ) → work_of 2 1 lines sessions ≤ spare → spare ≤ later + 1 → work_of 2 0 lines sessions ≤ later
room_more lines sessions spare later room le = let b = one_more lines sessions 1 in omega arith

-- a turn of the unmount: Unmounted takes the room of the last event
pub room_left : (v later : MountView) (lists lines : List (List Call)) (sessions : List Session) (left released : Bool) (upto : ℕ) → GrowthLaws → later.history ≡ v.history ++ leaves left released later.count upto
    → script_lines lists later.history ≡ lines → v.spare ≤ later.spare + one_if left → work_of 2 1 lines sessions ≤ v.spare → HasRoom later lists sessions
room_left v later lists lines sessions true released upto laws is same held room =
    let e = event.Unmounted later.count in
    let long : length later.history ≡ length v.history + 1 = ap length is ∙ length-append v.history (e ∷ []) in
    let place : length later.history - 1 ≡ length v.history = omega (arith, long) in
    let there : slice_get (v.history ++ e ∷ []) (length v.history) ≡ Some e = laws.here v.history e in
    let last : last_event later.history ≡ Some e = ap (slice_get later.history) place ∙ ap (λ h. slice_get h (length v.history)) is ∙ there in
    room_ended later lists lines sessions same (ap is_end last) (room_more lines sessions v.spare later.spare room held)
room_left v later lists lines sessions false released upto laws is same held room = has_room later lists lines sessions same (omega (arith, room, held))

module _ (lines : List (List Call)) (sessions : List Session) (s n : ℕ) (inside : s < length sessions) (in_lines : s < length lines) (u : UnderWay) where
  abbrev with_call : List Session
  with_call = set sessions s (record { answered = n; under_way = Some u })

  pub room_begun : (spare : ℕ) → session_at sessions s ≡ record { answered = n; under_way = None } → n < length (lines_of lines s) → work_of 2 1 lines sessions ≤ spare → work_of 2 1 lines with_call + 3 ≤ spare
  room_begun spare is lt room =
      let less : work_of 2 3 lines with_call < work_of 2 1 lines sessions = work_begun 2 lines sessions s n inside in_lines u 1 3 is lt (omega arith) in
      let a = one_more lines with_call 3 in
      let b = one_more lines with_call 1 in
      omega arith

  pub room_answered : (spare : ℕ) → session_at sessions s ≡ record { answered = n; under_way = Some u } → work_of 2 1 lines sessions ≤ spare
      → work_of 2 1 lines (set sessions s (record { answered = n + 1; under_way = None })) + 1 ≤ spare
  room_answered spare is room =
      let less : work_of 2 1 lines (set sessions s (record { answered = n + 1; under_way = None })) < work_of 2 1 lines sessions = work_answered 2 lines sessions s n inside in_lines u 1 1 is (omega arith) in
      omega arith
