-- What one turn of a session adds to the history.
use Rattle.std.specs.Prelude.{◌≡◌, ◌≢◌, ◌⊎◌, ℕ, ◌+◌, ◌-◌, ◌≤◌, Bool, true, false, not, ◌||◌, List, [], ◌∷◌, ◌++◌, All, length, slice_get, Option, Some, None, IsSome}
use Rattle.std.specs.List.{list_any}
use Rattle.vx_base.specs.declared.call.Call.{Call}
use Rattle.vx_base.specs.declared.call.Call.TheVariants as call
use Rattle.vx_base.specs.declared.event.Event.{Event}
use Rattle.vx_base.specs.declared.event.Event.TheVariants as event
use Rattle.vx_base.specs.declared.mode.Logging.{Logging}
use Rattle.vx_base.specs.declared.mode.Logging.TheVariants as logging
use Rattle.vx_base.specs.declared.refusal.Refusal.{Refusal}
use Rattle.vx_base.specs.declared.refusal.Refusal.TheVariants as no
use Rattle.vx_base.specs.declared.reply.Reply.TheVariants as say
use Rattle.vx_base.specs.Lines.{line_after}
use Rattle.vx_model.specs.Legal.{at_of}
use Rattle.vx_mount.specs.Faults.{EventTellsFault, HasFailed}
use Rattle.vx_mount.specs.Sessions.{is_call_of, IsDoOf, begun, answered, Standing, finished, waiting, ready, standing}
use Rattle.vx_mount.specs.Views.{CoreView}

-- the call is the session's, or it was cancelled for the session
abbrev pub IsOwnOrCancelled : ℕ → List Event → ℕ → Refusal → Type 0
IsOwnOrCancelled actor history place cause = (is_call_of actor history place ≡ true) ⊎ (cause ≡ no.Cancelled actor)

-- the event answers a Stop with Fine
abbrev pub is_stop_call : Option Event → Bool
is_stop_call (Some (event.Do at session line call.Stop reply)) = true
is_stop_call _ = false

abbrev pub answers_stop : List Event → Event → Bool
answers_stop history (event.Ret at place say.Fine) = is_stop_call (slice_get history place)
answers_stop history _ = false

abbrev pub answers_stop_there : List Event → Option Event → Bool
answers_stop_there history None = false
answers_stop_there history (Some e) = answers_stop history e

-- the last event answers a Stop with Fine, behind which nothing but Stopped may come
unfoldable pub is_stopping : List Event → Bool
is_stopping history = answers_stop_there history (slice_get history (length history - 1))

-- What an event that follows this history may be in a turn of this session. It begins its next line only where it has answered all
-- that it began, and answers the line that it began last: it has at most one call under way.
abbrev pub IsOwn : List (List Call) → ℕ → List Event → Event → Type 0
IsOwn lines actor history (event.Do at session line c reply) =
    (session ≡ actor) × ((line ≡ begun actor history + 1) × ((line_after lines actor (begun actor history) ≡ Some c) × (answered actor history ≡ begun actor history)))
IsOwn lines actor history (event.Ret at place answer) = IsDoOf actor (begun actor history) (slice_get history place) × (begun actor history ≡ answered actor history + 1)
IsOwn lines actor history (event.MoveTake at place ino) = is_call_of actor history place ≡ true
IsOwn lines actor history (event.MoveSwitch at place ino from to) = is_call_of actor history place ≡ true
IsOwn lines actor history (event.Bar at place units) = is_call_of actor history place ≡ true
IsOwn lines actor history (event.Resized at place units) = is_call_of actor history place ≡ true
IsOwn lines actor history (event.MoveGive at place ino cause) = IsOwnOrCancelled actor history place cause
IsOwn lines actor history (event.Unbar at place cause) = IsOwnOrCancelled actor history place cause
IsOwn lines actor history (event.Stopped at) = is_stopping history ≡ true
IsOwn lines actor history (event.Unmounted at) = ⊥
IsOwn lines actor history _ = Unit {0}

-- each event of a piece is the session's, after those before it
abbrev pub IsPiece : List (List Call) → ℕ → List Event → List Event → Type 0
IsPiece lines actor history [] = Unit {0}
IsPiece lines actor history (e ∷ events) = IsOwn lines actor history e × IsPiece lines actor (history ++ e ∷ []) events

-- calls of which a turn may do no more than read a page, or take or give a lock
abbrev pub may_do_no_more : Option Call → Bool
may_do_no_more (Some (call.Read handle offset len)) = true
may_do_no_more (Some (call.Write handle offset payload)) = true
may_do_no_more (Some (call.Truncate handle size)) = true
may_do_no_more (Some (call.Setext path attrs)) = true
may_do_no_more (Some (call.Fsync handle)) = true
may_do_no_more (Some call.Sync) = true
may_do_no_more (Some call.Tick) = true
may_do_no_more (Some (call.Close handle)) = true
may_do_no_more (Some (call.Unlink path)) = true
may_do_no_more (Some (call.Rename old new)) = true
may_do_no_more (Some (call.Reorg path)) = true
may_do_no_more (Some (call.DirReorg path)) = true
may_do_no_more (Some (call.Resize units)) = true
may_do_no_more _ = false

abbrev pub is_ready : Standing → Bool
is_ready finished = false
is_ready (waiting session lines) = false
is_ready ready = true

-- whether a turn of this session may add no event and do no operation
unfoldable pub may_rest : List (List Call) → List Event → ℕ → Bool
may_rest lines history actor = not (is_ready (standing lines history actor)) || may_do_no_more (line_after lines actor (answered actor history))

-- the most operations that one stage of the device does
abbrev pub stage_operations : ℕ
stage_operations = 8

abbrev pub is_do : Event → Bool
is_do (event.Do at session line c reply) = true
is_do _ = false

-- calls that are answered, in this mode, in the turn that does them: in `delaylog` all but those that are committed first
abbrev pub is_quiet : Logging → Call → Bool
is_quiet logging.DelayLog (call.Rename old new) = false
is_quiet logging.DelayLog (call.Fsync handle) = false
is_quiet logging.DelayLog call.Sync = false
is_quiet logging.DelayLog call.Tick = false
is_quiet logging.DelayLog c = true
is_quiet mode c = false

abbrev pub is_quiet_do : Logging → Event → Bool
is_quiet_do mode (event.Do at session line c reply) = is_quiet mode c
is_quiet_do mode _ = false

-- the session has answered all that it has begun
abbrev pub HasNoneUnderWay : (actor : ℕ) → List Event → Type 0
HasNoneUnderWay actor history = begun actor history ≡ answered actor history

-- One turn of a session leads from what a core is to what it is then. The turn has at most one stage of the device.
pub record IsTurn (old : CoreView) (actor : ℕ) (new : CoreView) : Type 0 where
  pub piece : List Event
  pub grown : new.history ≡ old.history ++ piece
  pub own : IsPiece old.lines actor old.history piece
  pub onward : old.count ≤ new.count
  pub few : new.count ≤ old.count + stage_operations
  pub inside : All (λ e. (old.count ≤ at_of e) × (at_of e ≤ new.count)) piece
  pub rests : piece ≡ [] → new.count ≡ old.count → may_rest old.lines old.history actor ≡ true
  -- the answer of a Stop and its Stopped stand in one turn
  pub whole : piece ≢ [] → is_stopping new.history ≡ false
  -- a session that is finished or waits for another one does nothing
  pub still : is_ready (standing old.lines old.history actor) ≡ false → new ≡ old
  pub same_lines : new.lines ≡ old.lines
  pub same_logging : new.logging ≡ old.logging
  -- a failed write disables the mount
  pub failing : HasFailed old.disabled new.disabled old.count new.count old.write_faults new.write_faults
  -- a call is answered WriteFault exactly where a write fails in this turn, and Disabled exactly where one had failed before
  pub tells : All (EventTellsFault old.disabled new.disabled new.write_faults) piece
  -- where a write fails, or had failed before, the session's call is answered in this turn
  pub answers : IsSome new.disabled → new ≢ old → (answered actor new.history ≡ answered actor old.history + 1) × HasNoneUnderWay actor new.history
  -- a call is done in memory alone, unless a write fails
  pub in_memory : list_any is_do piece ≡ true → new.disabled ≡ old.disabled → new.count ≡ old.count
  -- and one that waits for no commit is answered at once
  pub quiet : list_any (is_quiet_do old.logging) piece ≡ true → HasNoneUnderWay actor new.history

-- one turn of each of these sessions after another
abbrev pub Steps : CoreView → (actors : List ℕ) → CoreView → Type 0
Steps old [] new = new ≡ old
Steps old (actor ∷ actors) new = (next : CoreView) × (IsTurn old actor next × Steps next actors new)
