-- Where a core begins.
use Rattle.std.proofs.Common.{◌≡◌, ℕ, zero, suc, ◌+◌, ◌-◌, ◌*◌, ◌<◌, ◌≤◌, List, [], length, get_or, false, Some, None, refl, sym, ap, subst, ◌∙◌, arith, inl, inr}
use Rattle.std.specs.Prelude.{All, slice_index_or}
use Rattle.std.specs.FinMap as finite
use Rattle.std.proofs.lemmas.Bool.{cases_lt}
use Rattle.std.proofs.lemmas.List.{ext_get_or, get_or_past}
use Rattle.std.specs.Ordering.{nat_cmp}
use Rattle.vx_base.specs.declared.call.Call.{Call}
use Rattle.vx_base.specs.declared.event.Event.{Event}
use Rattle.vx_base.specs.Lines.{lines_of}
use Rattle.vx_model.specs.Legal.{World, Waiting, after_all}
use Rattle.vx_mount.specs.Sessions.{begun, answered, is_stopped}
use Rattle.vx_mount.specs.Pieces.{is_stopping}
use Rattle.vx_mount.specs.Runs.{calls_begun}
use Rattle.vx_core.specs.declared.session.Session.{Session}
use Rattle.vx_core.specs.Facts.{IsScript, Facts, IsBegun, IsNew}
use Rattle.vx_core.specs.Faults.{TellsNoFault, AreInOrder, TellsFaults, TellsInOrder}
use Rattle.vx_core.specs.Lines.{lines_of_session, script_lines}
use Rattle.vx_core.specs.Mounts.{MountView}
use Rattle.vx_core.specs.Rooms.{HasRoom}
use Rattle.vx_core.specs.Tracks.{no_session, session_at, calls_under_way, IsAnyUnderWay, Tracks, WaitsForFront, IsRunning}
use Rattle.vx_core.specs.Works.{sum_below, left_of, work_of, line_count}
use Rattle.vx_core.proofs.ScriptLines.{length_script, script_at, lines_of_get_or}
use Rattle.vx_core.proofs.Rooming.{has_room}

-- ---- sessions that have begun nothing

pub fresh_session : (sessions : List Session) → All (λ z. z ≡ no_session) sessions → (s : ℕ) → session_at sessions s ≡ no_session
fresh_session sessions all s = elim (cases_lt s (length sessions)) [
  | inl lt ↦ all s no_session lt
  | inr ge ↦ past sessions s (omega arith)
]
  where
    past : (xs : List Session) (i : ℕ) → length xs ≤ i → slice_index_or xs i no_session ≡ no_session
    past xs i le = get_or_past xs i no_session le

-- ---- a script none of whose lines has begun

first_lines : (lists : List (List Call)) (s : ℕ) → lines_of_session lists [] s ≡ lines_of lists s
unfolding begun calls_begun
first_lines lists s = refl

pub new_script : (lists : List (List Call)) → script_lines lists [] ≡ lists
unfolding script_lines lines_of begun
new_script lists = ext_get_or [] (script_lines lists []) lists (length_script lists []) (λ s lt. lines_at s (let long = length_script lists [] in omega arith))
  where
    lines_at : (s : ℕ) → s < length lists → get_or (script_lines lists []) s [] ≡ get_or lists s []
    lines_at s lt = sym (lines_of_get_or (script_lines lists []) s) ∙ script_at lists [] s lt ∙ first_lines lists s ∙ lines_of_get_or lists s

-- ---- the facts

module _ (lists : List (List Call)) (sessions : List Session) (fresh : (s : ℕ) → session_at sessions s ≡ no_session) where
  tracks_new : (o : World) → IsBegun o → (lines : List (List Call)) → Tracks lines o [] sessions
  unfolding begun answered
  tracks_new o begins lines = record {
    next = begins.next;
    placed = λ i d lt. absurd (omega arith);
    answered_is = λ s. sym (ap (λ (z : Session). z.answered) (fresh s));
    begun_is = λ s. sym (ap (λ (z : Session). z.answered + calls_under_way z.under_way) (fresh s));
    under_way = λ s. subst (λ (z : Session). IsAnyUnderWay lines o [] s z.answered z.under_way) (sym (fresh s)) tt;
    awaited = λ place v is. absurd (
        let gone : finite.get o.waiting place ≡ None = ap (λ (m : finite.FinMap nat_cmp Waiting). finite.get m place) begins.waiting ∙ finite.get-empty nat_cmp place in
        let none : None ≡ Some v = sym gone ∙ is in
        cc
        );
  }

  running_new : (o : World) → IsBegun o → IsRunning o []
  unfolding is_stopped is_stopping
  running_new o begins = record { phase = begins.phase; runs = refl; settled = refl; open_end = refl }

  left_new : (per s : ℕ) → left_of per lists sessions s ≡ length (lines_of lists s) * (per + 2)
  left_new per s =
      let is : left_of per lists sessions s ≡ (length (lines_of lists s) - 0) * (per + 2) + 0 =
      ap (λ (z : Session). (length (lines_of lists s) - (z.answered + calls_under_way z.under_way)) * (per + 2) + calls_under_way z.under_way) (fresh s) in
      is ∙ ap (λ k. k * (per + 2) + 0) (minus_none (length (lines_of lists s))) ∙ plus_none (length (lines_of lists s) * (per + 2))
    where
      minus_none : (k : ℕ) → k - 0 ≡ k
      minus_none k = omega arith

      plus_none : (k : ℕ) → k + 0 ≡ k
      plus_none k = omega arith

  sum_new : (n : ℕ) → sum_below (left_of 2 lists sessions) n ≡ sum_below (λ s. length (lines_of lists s)) n * 4
  sum_new zero = refl
  sum_new (suc n) = let rest = sum_new n in let here : left_of 2 lists sessions n ≡ length (lines_of lists n) * 4 = left_new 2 n in omega arith

  work_new : work_of 2 1 lists sessions ≡ 4 * line_count lists + 1
  unfolding work_of line_count
  work_new = let sum = sum_new (length lists) in omega arith

  module _ (built : Call → Type 0) (v : MountView) (is : IsNew v) (script : IsScript built lists) (few : length lists ≤ 16) (counts : length sessions ≡ length lists) where
    on_empty : (P : List Event → Type 0) → P [] → P v.history
    on_empty P p = subst P (sym is.history) p

    pub lines_new : script_lines lists v.history ≡ lists
    lines_new = on_empty (λ h. script_lines lists h ≡ lists) (new_script lists)

    on_lines : (P : List (List Call) → Type 0) → P lists → P (script_lines lists v.history)
    on_lines P p = subst P (sym lines_new) p

    pub facts_new : (o : World) (kept : Type 0) → IsBegun o → kept → Facts built o kept v lists sessions false
    facts_new o kept begins keeps = record {
      keeps = keeps;
      tracks = on_lines (λ l. Tracks l (after_all o v.history) v.history sessions) (on_empty (λ h. Tracks lists (after_all o h) h sessions) (tracks_new o begins lists));
      fronts = λ s. subst (λ (z : Session). WaitsForFront v.logging v.history z.under_way) (sym (fresh s)) tt;
      course = inl (on_empty (λ h. IsRunning (after_all o h) h) (running_new o begins));
      script = on_lines (IsScript built) script;
      counts = counts;
      few = few;
      over = λ leaving. absurd (let free = is.leaving in cc);
    }

    pub room_new : 4 * line_count lists + 1 ≤ v.spare → HasRoom v lists sessions
    room_new room = has_room v lists lists sessions lines_new (subst (λ n. n ≤ v.spare) (sym work_new) room)

    pub order_new : (before : ℕ) → v.write_faults ≡ before → TellsInOrder before v (script_lines lists v.history)
    order_new before same = record {
      faults = subst (TellsFaults before v.write_faults) (sym is.enabled) same;
      order = subst (λ x. AreInOrder x v (script_lines lists v.history)) (sym is.enabled) (on_empty (λ h. All TellsNoFault h) (λ i d lt. absurd (omega arith)));
      ended = λ _. is.enabled;
    }
