-- The events of one turn, one after another.
use Rattle.std.proofs.Common.{◌≡◌, ◌≢◌, ℕ, ◌+◌, ◌≤◌, List, [], ◌∷◌, ◌++◌, true, false, Some, None, refl, sym, ap, subst, ◌∙◌, append_assoc, append-nil, arith}
use Rattle.std.specs.Prelude.{All}
use Rattle.std.proofs.lemmas.List.Elements.{All-append, All-cons}
use Rattle.vx_base.specs.declared.call.Call.{Call}
use Rattle.vx_base.specs.declared.event.Event.{Event}
use Rattle.vx_base.specs.declared.event.Event.TheVariants as event
use Rattle.vx_base.specs.declared.reply.Reply.{Reply}
use Rattle.vx_base.specs.Lines.{line_after}
use Rattle.vx_model.specs.Legal.{World, at_of}
use Rattle.vx_mount.specs.Sessions.{IsDoOf, begun, answered}
use Rattle.vx_mount.specs.Pieces.{IsOwn, IsPiece, may_rest, is_stopping, HasNoneUnderWay}
use Rattle.vx_core.specs.declared.session.Session.{Session}
use Rattle.vx_core.specs.declared.session.UnderWay.{UnderWay}
use Rattle.vx_core.specs.Tracks.{session_at, calls_under_way, IsUnderWay, IsAnyUnderWay, Tracks}

-- what a turn of a session has added so far
pub record TurnSoFar (lines : List (List Call)) (s : ℕ) (h : List Event) (m : ℕ) (now : List Event) (count : ℕ) : Type 0 where
  pub piece : List Event
  pub grown : now ≡ h ++ piece
  pub own : IsPiece lines s h piece
  pub onward : m ≤ count
  pub inside : All (λ e. (m ≤ at_of e) × (at_of e ≤ count)) piece

pub record TurnEnds (lines : List (List Call)) (s : ℕ) (h : List Event) (m : ℕ) (now : List Event) (count : ℕ) : Type 0 where
  pub so_far : TurnSoFar lines s h m now count
  pub rests : so_far.piece ≡ [] → count ≡ m → may_rest lines h s ≡ true
  pub whole : so_far.piece ≢ [] → is_stopping now ≡ false

piece_more : (lines : List (List Call)) (s : ℕ) (h piece : List Event) (e : Event) → IsPiece lines s h piece → IsOwn lines s (h ++ piece) e → IsPiece lines s h (piece ++ e ∷ [])
piece_more lines s h [] e all own = (subst (λ k. IsOwn lines s k e) (append-nil h) own, tt)
piece_more lines s h (d ∷ piece) e all own =
    (all.0, piece_more lines s (h ++ d ∷ []) piece e all.1 (subst (λ k. IsOwn lines s k e) (sym (append_assoc h (d ∷ []) piece)) own))

module _ (lines : List (List Call)) (s : ℕ) (h : List Event) (m : ℕ) where
  pub turn_begins : TurnSoFar lines s h m h m
  turn_begins = record { piece = []; grown = sym (append-nil h); own = tt; onward = omega arith; inside = λ i d lt. absurd (omega arith) }

  -- operations of the device
  pub turn_later : (now : List Event) (count later : ℕ) → count ≤ later → TurnSoFar lines s h m now count → TurnSoFar lines s h m now later
  turn_later now count later le t = record {
    piece = t.piece;
    grown = t.grown;
    own = t.own;
    onward = omega (arith, t.onward);
    inside = λ i d lt. let x = t.inside i d lt in (x.0, omega (arith, x.1));
  }

  -- one event more
  pub turn_more : (now : List Event) (count : ℕ) (e : Event) → IsOwn lines s now e → m ≤ at_of e → at_of e ≤ count → TurnSoFar lines s h m now count → TurnSoFar lines s h m (now ++ e ∷ []) count
  turn_more now count e own low high t = record {
    piece = t.piece ++ e ∷ [];
    grown = ap (λ (k : List Event). k ++ e ∷ []) t.grown ∙ append_assoc h t.piece (e ∷ []);
    own = piece_more lines s h t.piece e t.own (subst (λ k. IsOwn lines s k e) t.grown own);
    onward = t.onward;
    inside = All-append (λ x. (m ≤ at_of x) × (at_of x ≤ count)) t.piece (e ∷ []) t.inside
        (All-cons (λ x. (m ≤ at_of x) × (at_of x ≤ count)) e [] (low, high) (λ i d lt. absurd (omega arith)));
  }

  -- the whole turn of a session that is ready, but for what it tells of the device
  pub turn_ends : (now : List Event) (count : ℕ) → TurnSoFar lines s h m now count → is_stopping now ≡ false → (now ≡ h → count ≡ m → may_rest lines h s ≡ true) → TurnEnds lines s h m now count
  turn_ends now count t settled rests = record {
    so_far = t;
    rests = λ none same. rests (t.grown ∙ ap (λ (p : List Event). h ++ p) none ∙ append-nil h) same;
    whole = λ _. settled;
  }

-- ---- whose events they are

module _ (lines : List (List Call)) (w : World) (h : List Event) (sessions : List Session) (t : Tracks lines w h sessions) (s n : ℕ) where
  pub own_do : (at : ℕ) (c : Call) (reply : Reply) → session_at sessions s ≡ record { answered = n; under_way = None } → line_after lines s n ≡ Some c → IsOwn lines s h (event.Do at s (n + 1) c reply)
  own_do at c reply is line =
      let started : begun s h ≡ n = t.begun_is s ∙ ap (λ (z : Session). z.answered + calls_under_way z.under_way) is ∙ omega arith in
      let done : answered s h ≡ n = t.answered_is s ∙ ap (λ (z : Session). z.answered) is in
      (refl, (ap (λ k. k + 1) (sym started), (ap (line_after lines s) started ∙ line, done ∙ sym started)))

  pub own_ret : (at : ℕ) (u : UnderWay) (answer : Reply) → session_at sessions s ≡ record { answered = n; under_way = Some u } → IsOwn lines s h (event.Ret at u.place answer)
  own_ret at u answer is =
      let x : IsUnderWay lines w h s n u = subst (λ (z : Session). IsAnyUnderWay lines w h s z.answered z.under_way) is (t.under_way s) in
      let started : begun s h ≡ n + 1 = t.begun_is s ∙ ap (λ (z : Session). z.answered + calls_under_way z.under_way) is in
      let done : answered s h ≡ n = t.answered_is s ∙ ap (λ (z : Session). z.answered) is in
      (subst (IsDoOf s (begun s h)) (sym x.stands) (refl, sym started), started ∙ ap (λ k. k + 1) (sym done))

-- ---- where no call is under way at the end

module _ (lines : List (List Call)) (w : World) (h : List Event) (sessions : List Session) (t : Tracks lines w h sessions) (s n : ℕ) (is : session_at sessions s ≡ record { answered = n; under_way = None }) where
  pub so_many : answered s h ≡ n
  so_many = t.answered_is s ∙ ap (λ (z : Session). z.answered) is

  pub none_left : HasNoneUnderWay s h
  none_left = (let started : begun s h ≡ n + 0 = t.begun_is s ∙ ap (λ (z : Session). z.answered + calls_under_way z.under_way) is in let done = so_many in omega arith)
