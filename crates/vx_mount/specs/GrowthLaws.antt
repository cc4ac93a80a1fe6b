-- How a history grows by one event: what stands in it, and what its sessions have begun and answered.
use Rattle.std.specs.Prelude.{◌≡◌, ℕ, ◌+◌, ◌<◌, ◌==◌, ◌&&◌, nat_lt, Bool, true, false, List, [], ◌∷◌, ◌++◌, All, length, slice_get, Some, if◌then◌else◌}
use Rattle.vx_base.specs.declared.call.Call.{Call}
use Rattle.vx_base.specs.declared.event.Event.{Event}
use Rattle.vx_base.specs.declared.event.Event.TheVariants as event
use Rattle.vx_base.specs.declared.reply.Reply.{Reply}
use Rattle.vx_mount.specs.Sessions.{is_call_of, begun, answered}
use Rattle.vx_mount.specs.Pieces.{answers_stop, is_stopping}
use Rattle.vx_mount.specs.Runs.{IsPlacedBelow, calls_begun}

-- neither a Do nor a Ret
abbrev pub is_other : Event → Bool
is_other (event.Do at session line c reply) = false
is_other (event.Ret at place answer) = false
is_other _ = true

abbrev pub one_if : Bool → ℕ
one_if b = if b then 1 else 0

pub record GrowthLaws : Type 0 where
  -- what stands in a history stands there when it grows
  pub stays : (history more : List Event) (place : ℕ) (e : Event) → slice_get history place ≡ Some e → slice_get (history ++ more) place ≡ Some e
  pub here : (history : List Event) (e : Event) → slice_get (history ++ e ∷ []) (length history) ≡ Some e
  pub placed : (history : List Event) (e : Event) → All (IsPlacedBelow (length history)) history → IsPlacedBelow (length history) e
      → All (IsPlacedBelow (length (history ++ e ∷ []))) (history ++ e ∷ [])
  -- whether a history waits for a Stopped is its last event's to say
  pub stopping : (history : List Event) (e : Event) → is_stopping (history ++ e ∷ []) ≡ answers_stop (history ++ e ∷ []) e
  -- a Do begins a line of its own session, if its number is above 0, and answers none
  pub begun_do : (t : ℕ) (history : List Event) (at session line : ℕ) (c : Call) (reply : Reply)
      → begun t (history ++ event.Do at session line c reply ∷ []) ≡ begun t history + one_if (session == t && nat_lt 0 line)
  pub answered_do : (t : ℕ) (history : List Event) (at session line : ℕ) (c : Call) (reply : Reply) → All (IsPlacedBelow (length history)) history
      → answered t (history ++ event.Do at session line c reply ∷ []) ≡ answered t history
  -- a Ret answers a line of the session whose call it names, and begins none
  pub begun_ret : (t : ℕ) (history : List Event) (at place : ℕ) (answer : Reply) → begun t (history ++ event.Ret at place answer ∷ []) ≡ begun t history
  pub answered_ret : (t : ℕ) (history : List Event) (at place : ℕ) (answer : Reply) → All (IsPlacedBelow (length history)) history → place < length history
      → answered t (history ++ event.Ret at place answer ∷ []) ≡ answered t history + one_if (is_call_of t history place)
  -- any other event begins and answers none
  pub begun_other : (t : ℕ) (history : List Event) (e : Event) → is_other e ≡ true → begun t (history ++ e ∷ []) ≡ begun t history
  pub answered_other : (t : ℕ) (history : List Event) (e : Event) → All (IsPlacedBelow (length history)) history → is_other e ≡ true → answered t (history ++ e ∷ []) ≡ answered t history
  -- the calls that a session has begun are as many as its lines that it has begun
  pub counted : (t : ℕ) (history : List Event) → length (calls_begun t history) ≡ begun t history
