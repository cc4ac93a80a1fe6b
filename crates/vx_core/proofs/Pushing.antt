-- What each event makes of what is known of the sessions.
use Rattle.std.proofs.Common.{◌≡◌, ◌≢◌, ℕ, ◌+◌, ◌<◌, ◌==◌, ◌&&◌, nat_lt, cond, set, List, [], ◌∷◌, ◌++◌, length, true, false, Option, Some, None, refl, sym, ap, subst, ◌∙◌, length-append, arith, inl, inr}
use Rattle.std.specs.Prelude.{slice_get}
use Rattle.std.proofs.lemmas.Bool.{cases_eq, ne_eqb, eq-eqb}
use Rattle.std.proofs.lemmas.Bool.Decides.{nat_tests}
use Rattle.std.proofs.lemmas.List.{get_or-set_same, get_or-set_other}
use Rattle.std.proofs.lemmas.Option.{slice_get_within}
use Rattle.std.specs.declared.cmp.Ordering.TheVariants.{Less, Equal, Greater}
use Rattle.std.specs.Ordering.{nat_cmp, eq_by_cmp, is_eq}
use Rattle.std.specs.Cmp.{tied_itself, nat_cmp_total}
use Rattle.std.specs.FinMap as map
use Rattle.vx_base.specs.declared.call.Call.{Call}
use Rattle.vx_base.specs.declared.event.Event.{Event}
use Rattle.vx_base.specs.declared.event.Event.TheVariants as event
use Rattle.vx_base.specs.declared.reply.Reply.{Reply}
use Rattle.vx_base.specs.Lines.{line_after}
use Rattle.vx_model.specs.Legal.{World, Waiting, after}
use Rattle.vx_mount.specs.GrowthLaws.{GrowthLaws, is_other, one_if}
use Rattle.vx_mount.specs.Runs.{IsPlacedBelow}
use Rattle.vx_mount.specs.Sessions.{is_line_there, begun, answered}
use Rattle.vx_core.specs.declared.session.Session.{Session}
use Rattle.vx_core.specs.declared.session.UnderWay.{UnderWay}
use Rattle.vx_core.specs.Tracks.{no_session, session_at, under_way_at, calls_under_way, IsUnderWay, IsAnyUnderWay, IsAwaited, Tracks}

-- ---- a session more or less

pub at_same : (sessions : List Session) (s : ℕ) (x : Session) → s < length sessions → session_at (set sessions s x) s ≡ x
at_same sessions s x lt = get_or-set_same sessions s x no_session lt

pub at_other : (sessions : List Session) (s t : ℕ) (x : Session) → t ≢ s → session_at (set sessions s x) t ≡ session_at sessions t
at_other sessions s t x ne = get_or-set_other sessions s t x no_session ne

-- ---- the map of calls that wait

tied : (q k : ℕ) → q ≡ k → eq_by_cmp nat_cmp q k ≡ true
tied q k e = subst (λ x. eq_by_cmp nat_cmp q x ≡ true) e (ap is_eq (tied_itself nat_cmp_total q))

apart : (q k : ℕ) → q ≢ k → eq_by_cmp nat_cmp q k ≡ false
apart q k ne = elim (nat_cmp q k) as (λ r. nat_cmp q k ≡ r → is_eq r ≡ false) [
  | Less ↦ λ e. refl
  | Equal ↦ λ e. absurd (ne (map.nat_cmp-IsAntisymmetric q k e))
  | Greater ↦ λ e. refl
] refl

module _ {X : Type 0} where
  inserted_here : (m : map.FinMap nat_cmp X) (k : ℕ) (v : X) (q : ℕ) → q ≡ k → map.get (map.insert m k v) q ≡ Some v
  inserted_here m k v q e = map.get-insert nat_cmp_total m k v q ∙ ap (λ b. cond b (Some v) (map.get m q)) (tied q k e)

  inserted_apart : (m : map.FinMap nat_cmp X) (k : ℕ) (v : X) (q : ℕ) → q ≢ k → map.get (map.insert m k v) q ≡ map.get m q
  inserted_apart m k v q ne = map.get-insert nat_cmp_total m k v q ∙ ap (λ b. cond b (Some v) (map.get m q)) (apart q k ne)

  removed_here : (m : map.FinMap nat_cmp X) (k q : ℕ) → q ≡ k → map.get (map.remove m k) q ≡ None
  removed_here m k q e = map.get-remove nat_cmp_total m k q ∙ ap (λ b. cond b None (map.get m q)) (tied q k e)

  removed_apart : (m : map.FinMap nat_cmp X) (k q : ℕ) → q ≢ k → map.get (map.remove m k) q ≡ map.get m q
  removed_apart m k q ne = map.get-remove nat_cmp_total m k q ∙ ap (λ b. cond b None (map.get m q)) (apart q k ne)

-- ---- numbers

one_here : (s t n : ℕ) → s ≡ t → one_if (s == t && nat_lt 0 (n + 1)) ≡ 1
one_here s t n e =
    let same : (s == t) ≡ true = eq-eqb s t e in
    let above : nat_lt 0 (n + 1) ≡ true = grind (arith, nat_tests) in
    rw (same, above) refl

none_apart : (s t n : ℕ) → s ≢ t → one_if (s == t && nat_lt 0 (n + 1)) ≡ 0
none_apart s t n ne = let other : (s == t) ≡ false = ne_eqb s t ne in rw other refl

next_more : (w : World) (h : List Event) (e : Event) → w.next ≡ length h → w.next + 1 ≡ length (h ++ e ∷ [])
next_more w h e is =
    let long : length (h ++ e ∷ []) ≡ length h + length (e ∷ []) = length-append h (e ∷ []) in
    omega arith

-- ---- the calls under way

under_longer : (laws : GrowthLaws) (lines : List (List Call)) (w later : World) (h : List Event) (e : Event) (s n : ℕ) (o : Option UnderWay)
    → ((u : UnderWay) → o ≡ Some u → IsUnderWay lines w h s n u → map.get later.waiting u.place ≡ map.get w.waiting u.place)
    → IsAnyUnderWay lines w h s n o → IsAnyUnderWay lines later (h ++ e ∷ []) s n o
under_longer laws lines w later h e s n None same x = tt
under_longer laws lines w later h e s n (Some u) same x = record {
  call = x.call;
  at = x.at;
  line = x.line;
  stands = laws.stays h (e ∷ []) u.place (event.Do x.at s (n + 1) x.call u.answer) x.stands;
  waits = same u refl x ∙ x.waits;
}

-- what is under way stands in the history
pub place_within : (lines : List (List Call)) (w : World) (h : List Event) (s n : ℕ) (u : UnderWay) → IsUnderWay lines w h s n u → u.place < length h
place_within lines w h s n u x = slice_get_within h u.place (event.Do x.at s (n + 1) x.call u.answer) x.stands

same_Do : (a b s t k l : ℕ) (c d : Call) (p q : Reply) → Some (event.Do a s k c p) ≡ Some (event.Do b t l d q) → s ≡ t
same_Do a b s t k l c d p q e = cc

-- ---- an event that is neither a Do nor a Ret

waiting_other : (w : World) (e : Event) → is_other e ≡ true → (after w e).waiting ≡ w.waiting
waiting_other w (event.Do at session line c reply) h = absurd (cc)
waiting_other w (event.Ret at place answer) h = absurd (cc)
waiting_other w _ h = refl

next_after : (w : World) (e : Event) → (after w e).next ≡ w.next + 1
next_after w (event.Do at session line c reply) = refl
next_after w _ = refl

placed_other : (n : ℕ) (e : Event) → is_other e ≡ true → IsPlacedBelow n e
placed_other n (event.Ret at place answer) h = absurd (cc)
placed_other n _ h = tt

module _ (laws : GrowthLaws) (lines : List (List Call)) (w : World) (h : List Event) (sessions : List Session) (t : Tracks lines w h sessions) where
  pub tracks_other : (e : Event) → is_other e ≡ true → Tracks lines (after w e) (h ++ e ∷ []) sessions
  tracks_other e other = record {
    next = next_after w e ∙ next_more w h e t.next;
    placed = laws.placed h e t.placed (placed_other (length h) e other);
    answered_is = λ s. laws.answered_other s h e t.placed other ∙ t.answered_is s;
    begun_is = λ s. laws.begun_other s h e other ∙ t.begun_is s;
    under_way = λ s. under_longer laws lines w (after w e) h e s (session_at sessions s).answered (under_way_at sessions s)
        (λ u is x. ap (λ (m : map.FinMap nat_cmp Waiting). map.get m u.place) (waiting_other w e other)) (t.under_way s);
    awaited = λ place v is. t.awaited place v (sym (ap (λ (m : map.FinMap nat_cmp Waiting). map.get m place) (waiting_other w e other)) ∙ is);
  }

  -- ---- a session's next line

  module _ (s n : ℕ) (inside : s < length sessions) (is : session_at sessions s ≡ record { answered = n; under_way = None }) where
    pub tracks_do : (at : ℕ) (c : Call) (reply : Reply) → line_after lines s n ≡ Some c
        → Tracks lines (after w (event.Do at s (n + 1) c reply)) (h ++ event.Do at s (n + 1) c reply ∷ []) (set sessions s (record { answered = n; under_way = Some (record { place = length h; answer = reply }) }))
    tracks_do at c reply line =
        let e = event.Do at s (n + 1) c reply in
        let u : UnderWay = record { place = length h; answer = reply } in
        let x : Session = record { answered = n; under_way = Some u } in
        let later = set sessions s x in
        let waits : Waiting = record { session = s; line = n + 1; call = c; reply = reply } in
        let here : session_at later s ≡ x = at_same sessions s x inside in
        record {
          next = next_more w h e t.next;
          placed = laws.placed h e t.placed tt;
          answered_is = λ r. laws.answered_do r h at s (n + 1) c reply t.placed ∙ t.answered_is r ∙ elim (cases_eq s r) [
            | inl same ↦ subst (λ y. (session_at sessions y).answered ≡ (session_at later y).answered) same (ap (λ (z : Session). z.answered) is ∙ sym (ap (λ (z : Session). z.answered) here))
            | inr other ↦ ap (λ (z : Session). z.answered) (sym (at_other sessions s r x (λ eq. other (sym eq))))
          ];
          begun_is = λ r. laws.begun_do r h at s (n + 1) c reply ∙ elim (cases_eq s r) [
            | inl same ↦
                let before : begun r h ≡ n = subst (λ y. begun y h ≡ n) same (t.begun_is s ∙ ap (λ (z : Session). z.answered + calls_under_way z.under_way) is ∙ omega arith) in
                let now : n + 1 ≡ (session_at later r).answered + calls_under_way (under_way_at later r) = subst (λ y. n + 1 ≡ (session_at later y).answered + calls_under_way (under_way_at later y)) same (ap (λ (z : Session). z.answered + calls_under_way z.under_way) (sym here)) in
                let one = one_here s r n same in
                omega arith
            | inr other ↦
                let before : begun r h ≡ (session_at later r).answered + calls_under_way (under_way_at later r) =
                t.begun_is r ∙ ap (λ (z : Session). z.answered + calls_under_way z.under_way) (sym (at_other sessions s r x (λ eq. other (sym eq)))) in
                let none = none_apart s r n other in
                omega arith
          ];
          under_way = λ r. elim (cases_eq s r) [
            | inl same ↦ subst (λ y. IsAnyUnderWay lines (after w e) (h ++ e ∷ []) y (session_at later y).answered (under_way_at later y)) same
                (subst (λ (z : Session). IsAnyUnderWay lines (after w e) (h ++ e ∷ []) s z.answered z.under_way) (sym here)
                (record { call = c; at = at; line = line; stands = laws.here h e; waits = inserted_here w.waiting w.next waits (length h) (sym t.next) }))
            | inr other ↦ subst (λ (z : Session). IsAnyUnderWay lines (after w e) (h ++ e ∷ []) r z.answered z.under_way) (sym (at_other sessions s r x (λ eq. other (sym eq))))
                (under_longer laws lines w (after w e) h e r (session_at sessions r).answered (under_way_at sessions r)
                (λ v _ y. inserted_apart w.waiting w.next waits v.place (λ eq. omega (arith, place_within lines w h r (session_at sessions r).answered v y, t.next))) (t.under_way r))
          ];
          awaited = λ place v got. elim (cases_eq place w.next) [
            | inl same ↦
                let found : Some v ≡ Some waits = sym got ∙ inserted_here w.waiting w.next waits place same in
                let equal : waits ≡ v = cc in
                subst (IsAwaited later place) equal (record {
                  numbered = omega arith;
                  answer = reply;
                  is = ap (λ (z : Session). z.under_way) here ∙ ap (λ p. Some (record { place = p; answer = reply })) (sym (same ∙ t.next));
                })
            | inr other ↦
                let old : IsAwaited sessions place v = t.awaited place v (sym (inserted_apart w.waiting w.next waits place other) ∙ got) in
                let ne : v.session ≢ s = λ eq. (
                let none : under_way_at sessions v.session ≡ None = ap (under_way_at sessions) eq ∙ ap (λ (z : Session). z.under_way) is in
                let some = old.is in
                absurd (cc)) in
                record { numbered = old.numbered; answer = old.answer; is = ap (λ (z : Session). z.under_way) (at_other sessions s v.session x ne) ∙ old.is }
          ];
        }

  -- ---- the answer of a session's call

  module _ (s n : ℕ) (u : UnderWay) (inside : s < length sessions) (is : session_at sessions s ≡ record { answered = n; under_way = Some u }) where
    pub under_way_is : IsUnderWay lines w h s n u
    under_way_is = subst (λ (z : Session). IsAnyUnderWay lines w h s z.answered z.under_way) is (t.under_way s)

    pub tracks_ret : (at : ℕ) (answer : Reply)
        → Tracks lines (after w (event.Ret at u.place answer)) (h ++ event.Ret at u.place answer ∷ []) (set sessions s (record { answered = n + 1; under_way = None }))
    tracks_ret at answer =
        let e = event.Ret at u.place answer in
        let x : Session = record { answered = n + 1; under_way = None } in
        let later = set sessions s x in
        let here : session_at later s ≡ x = at_same sessions s x inside in
        let mine = under_way_is in
        let within : u.place < length h = place_within lines w h s n u mine in
        let counts : (r : ℕ) → answered r (h ++ e ∷ []) ≡ answered r h + one_if (s == r && nat_lt 0 (n + 1)) =
        λ r. laws.answered_ret r h at u.place answer t.placed within ∙ ap (λ o. answered r h + one_if (is_line_there r o)) mine.stands in
        record {
          next = next_more w h e t.next;
          placed = laws.placed h e t.placed within;
          answered_is = λ r. counts r ∙ elim (cases_eq s r) [
            | inl same ↦
                let before : answered r h ≡ n = subst (λ y. answered y h ≡ n) same (t.answered_is s ∙ ap (λ (z : Session). z.answered) is) in
                let now : n + 1 ≡ (session_at later r).answered = subst (λ y. n + 1 ≡ (session_at later y).answered) same (ap (λ (z : Session). z.answered) (sym here)) in
                let one = one_here s r n same in
                omega arith
            | inr other ↦
                let before : answered r h ≡ (session_at later r).answered = t.answered_is r ∙ ap (λ (z : Session). z.answered) (sym (at_other sessions s r x (λ eq. other (sym eq)))) in
                let none = none_apart s r n other in
                omega arith
          ];
          begun_is = λ r. laws.begun_ret r h at u.place answer ∙ t.begun_is r ∙ elim (cases_eq s r) [
            | inl same ↦ subst (λ y. (session_at sessions y).answered + calls_under_way (under_way_at sessions y) ≡ (session_at later y).answered + calls_under_way (under_way_at later y)) same
                (ap (λ (z : Session). z.answered + calls_under_way z.under_way) is ∙ omega arith ∙ ap (λ (z : Session). z.answered + calls_under_way z.under_way) (sym here))
            | inr other ↦ ap (λ (z : Session). z.answered + calls_under_way z.under_way) (sym (at_other sessions s r x (λ eq. other (sym eq))))
          ];
          under_way = λ r. elim (cases_eq s r) [
            | inl same ↦ subst (λ y. IsAnyUnderWay lines (after w e) (h ++ e ∷ []) y (session_at later y).answered (under_way_at later y)) same
                (subst (λ (z : Session). IsAnyUnderWay lines (after w e) (h ++ e ∷ []) s z.answered z.under_way) (sym here) tt)
            | inr other ↦ subst (λ (z : Session). IsAnyUnderWay lines (after w e) (h ++ e ∷ []) r z.answered z.under_way) (sym (at_other sessions s r x (λ eq. other (sym eq))))
                (under_longer laws lines w (after w e) h e r (session_at sessions r).answered (under_way_at sessions r)
                (λ v _ y. removed_apart w.waiting u.place v.place (λ eq. other
                (same_Do mine.at y.at s r (n + 1) ((session_at sessions r).answered + 1) mine.call y.call u.answer v.answer (sym mine.stands ∙ ap (slice_get h) (sym eq) ∙ y.stands)))) (t.under_way r))
          ];
          awaited = λ place v got. elim (cases_eq place u.place) [
            | inl same ↦ let none : map.get (map.remove w.waiting u.place) place ≡ None = removed_here w.waiting u.place place same in absurd (cc)
            | inr other ↦
                let old : IsAwaited sessions place v = t.awaited place v (sym (removed_apart w.waiting u.place place other) ∙ got) in
                let ne : v.session ≢ s = λ eq. (
                let some : under_way_at sessions v.session ≡ Some u = ap (under_way_at sessions) eq ∙ ap (λ (z : Session). z.under_way) is in
                let there = old.is in
                let equal : Some u ≡ Some (record { place = place; answer = old.answer }) = sym some ∙ there in
                let same : u.place ≡ place = cc in
                other (sym same)) in
                record { numbered = old.numbered; answer = old.answer; is = ap (λ (z : Session). z.under_way) (at_other sessions s v.session x ne) ∙ old.is }
          ];
        }
