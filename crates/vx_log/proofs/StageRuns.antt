-- Stages of several operations on a device that is lent: what each operation keeps, the stage keeps, whole or broken off.
use Rattle.std.proofs.Common.{◌≡◌, ◌≢◌, ◌+◌, ◌-◌, ◌≤◌, ◌<◌, ℕ, List, [], length, drop, get_or, sym, ◌∙◌, ap, subst, inl, inr, ⊎_elim, arith, length-take, length-drop}
use Rattle.std.specs.Prelude.{Option, Some, None, IfSome, slice_range}
use Rattle.std.proofs.lemmas.Bool.{cases_lt, cases_eq}
use Rattle.std.proofs.lemmas.List.{get_or_default, get_or-take, get_or-drop}
use Rattle.vx_dev.specs.declared.device.Operation.TheVariants.{Put}
use Rattle.vx_dev.specs.Tape.{Tape, State, did, tried, IsImage}
use Rattle.vx_dev.specs.Laws.{TapeLaws}
use Rattle.vx_layout.specs.LogForms.{LogState, log_at, live}
use Rattle.vx_dev.specs.Runs.{Ran, puts, BrokeOff}
use Rattle.vx_log.specs.Writes.{log_writes}
use Rattle.vx_log.specs.Crashes.{Stands, IsFree, IsPut, IsPutHome}
use Rattle.vx_dev.specs.Moments.{Told, Past}
use Rattle.vx_log.specs.Stages.{AreHomes}
use Rattle.vx_log.proofs.Operations.{stands_put}
use Rattle.vx_log.proofs.Commits.{put_more, put_stays, body_free}
use Rattle.vx_log.proofs.HomeWrites.{home_put, home_put_other, home_free}
use Rattle.vx_dev.proofs.Claims.{past_did, stage_keeps, broken_keeps}
use Rattle.vx_log.proofs.LogWrites.{length-log_writes, get_or-log_writes}

-- the first k log sectors of a body are written, and each earlier moment was as claimed
pub record Putting (n : ℕ) (r : LogState) (body : List (List ℕ)) (first : ℕ) (P : ℕ → (ℕ → List ℕ) → Type 0) (k : ℕ) (t : Tape) : Type 0 where
  pub stands : Stands n r t
  pub put : IsPut n r.head body k t
  pub past : Past first P t

-- the first k of these writes are done, and each earlier moment was as claimed
pub record WritingHome (n : ℕ) (r : LogState) (writes : List (ℕ × List ℕ)) (first : ℕ) (P : ℕ → (ℕ → List ℕ) → Type 0) (k : ℕ) (t : Tape) : Type 0 where
  pub stands : Stands n r t
  pub home : (j : ℕ) (d : ℕ × List ℕ) → j < k → IsPutHome r (get_or writes j d).0 t
  pub past : Past first P t

-- a body is written, from one of its log sectors to before another
module _ (tape : TapeLaws) (n : ℕ) (some : 0 < n) (r : LogState) (body : List (List ℕ)) (room : r.head + length body ≤ r.tail + n) (first : ℕ) (P : ℕ → (ℕ → List ℕ) → Type 0)
    (shows : (t : Tape) → Stands n r t → (image : ℕ → List ℕ) → IsImage t image → P (length t.ops) image)
    (from end : ℕ) (order : from ≤ end) (within : end ≤ length body) where
  abbrev range : List (List ℕ)
  range = slice_range body from end

  abbrev range_writes : List (ℕ × List ℕ)
  range_writes = log_writes n (r.head + from) range

  length-writes : length range_writes ≡ end - from
  length-writes = length-log_writes n (r.head + from) range ∙ (let long : length range ≡ end - from = omega (arith, order, within, length-take (end - from) (drop from body), length-drop from body) in long)

  abbrev no_write : ℕ × List ℕ
  no_write = (0, [])

  write_is : (i : ℕ) → i < length range_writes → get_or range_writes i no_write ≡ (log_at n (r.head + (from + i)), get_or body (from + i) [])
  write_is i lt =
      let place : r.head + from + i ≡ r.head + (from + i) = omega arith in
      get_or-log_writes i n (r.head + from) range no_write (omega (arith, lt, length-log_writes n (r.head + from) range))
      ∙ ap (λ (p : ℕ). (log_at n p, get_or range i [])) place
      ∙ ap (λ (x : List ℕ). (log_at n (r.head + (from + i)), x)) (get_or-take (end - from) (drop from body) i [] (omega (arith, lt, length-writes)) ∙ get_or-drop from body i [])

  abbrev Kept : ℕ → Tape → Type 0
  Kept i t = Putting n r body first P (from + i) t

  one : (i : ℕ) (t : Tape) → i < length range_writes → Kept i t → Kept (i + 1) (did (Put (get_or range_writes i no_write).0 (get_or range_writes i no_write).1) t)
  one i t lt kept =
      let k : ℕ = from + i in
      let u : ℕ = log_at n (r.head + k) in
      let bytes : List ℕ = get_or body k [] in
      let ends : r.head ≡ r.tail + length (live r) = kept.stands.holds.ends in
      let inside : k < length body = omega (arith, lt, length-writes, order, within) in
      let done : Putting n r body first P (k + 1) (did (Put u bytes) t) = record {
        stands = stands_put tape n r t (Put u bytes) u bytes (tape.put_writes u bytes) (body_free tape n some r t kept.stands.holds k (omega (arith, room, inside))) (λ same. absurd (omega (arith, same))) kept.stands;
        put = put_more tape n some r.head body k t (omega (arith, room, inside, ends)) kept.put;
        past = past_did first P t (Put u bytes) kept.past (shows t kept.stands);
      } in
      let next : k + 1 ≡ from + (i + 1) = omega arith in
      subst (λ (w : ℕ × List ℕ). Kept (i + 1) (did (Put w.0 w.1) t)) (sym (write_is i lt)) (subst (λ (j : ℕ). Putting n r body first P j (did (Put u bytes) t)) next done)

  -- at a fault the stage counts as not begun
  fewer : (i : ℕ) (t : Tape) → Kept i t → Putting n r body first P from t
  fewer i t kept = record { stands = kept.stands; put = λ j lt. kept.put j (omega (arith, lt)); past = kept.past }

  failed_one : (i : ℕ) (t : Tape) → i < length range_writes → Kept i t → Putting n r body first P from (did (tried (get_or range_writes i no_write).0 (get_or range_writes i no_write).1) t)
  failed_one i t lt kept =
      let k : ℕ = from + i in
      let u : ℕ = log_at n (r.head + k) in
      let bytes : List ℕ = get_or body k [] in
      let ends : r.head ≡ r.tail + length (live r) = kept.stands.holds.ends in
      let inside : k < length body = omega (arith, lt, length-writes, order, within) in
      let old : Putting n r body first P from t = fewer i t kept in
      let done : Putting n r body first P from (did (tried u bytes) t) = record {
        stands = stands_put tape n r t (tried u bytes) u bytes (tape.failed_writes u bytes) (body_free tape n some r t kept.stands.holds k (omega (arith, room, inside))) (λ same. absurd (omega (arith, same))) kept.stands;
        put = put_stays tape n some r.head body from k t (tried u bytes) bytes (tape.failed_writes u bytes) (omega arith) (omega (arith, room, inside, ends)) old.put;
        past = past_did first P t (tried u bytes) kept.past (shows t kept.stands);
      } in
      subst (λ (w : ℕ × List ℕ). Putting n r body first P from (did (tried w.0 w.1) t)) (sym (write_is i lt)) done

  start : (t : Tape) → Putting n r body first P from t → Kept 0 t
  start t p = let same : from ≡ from + 0 = omega arith in subst (λ (j : ℕ). Putting n r body first P j t) same p

  told_start : (o : Option Tape) → IfSome o (Putting n r body first P from) → IfSome o (Kept 0)
  told_start None p = tt
  told_start (Some t) p = start t p

  told_end : (o : Option Tape) → IfSome o (Kept (length range_writes)) → IfSome o (Putting n r body first P end)
  told_end None p = tt
  told_end (Some t) p = let same : from + length range_writes ≡ end = omega (arith, length-writes, order) in subst (λ (j : ℕ). Putting n r body first P j t) same p

  pub body_stage : (old new : State) → Ran (puts range_writes) old new → Told old (Putting n r body first P from) → Told new (Putting n r body first P end)
  body_stage old new ran h = told_end new.told (stage_keeps Kept range_writes no_write one old new ran (told_start old.told h))

  pub body_broken : (old new : State) → BrokeOff range_writes old new → Told old (Putting n r body first P from) → Told new (Putting n r body first P from)
  body_broken old new b h = broken_keeps Kept range_writes no_write one (Putting n r body first P from) failed_one (λ i t lt kept. fewer i t kept) old new b (told_start old.told h)

-- sectors are written home
module _ (tape : TapeLaws) (n : ℕ) (some : 0 < n) (r : LogState) (writes : List (ℕ × List ℕ)) (homes : AreHomes r writes) (first : ℕ) (P : ℕ → (ℕ → List ℕ) → Type 0)
    (shows : (t : Tape) → Stands n r t → (image : ℕ → List ℕ) → IsImage t image → P (length t.ops) image) where
  abbrev nothing : ℕ × List ℕ
  nothing = (0, [])

  free : (i : ℕ) (t : Tape) → i < length writes → Stands n r t → IsFree n r (get_or writes i nothing).0
  free i t lt s = home_free n r t (get_or writes i nothing).0 some s.holds (homes.is_metadata i nothing lt) (homes.decided i nothing lt)

  not_head : (i : ℕ) (t : Tape) → i < length writes → Stands n r t → (get_or writes i nothing).0 ≢ 2
  not_head i t lt s same = ⊎_elim (λ zero. omega (arith, zero, same)) (λ high. omega (arith, high, same)) (s.holds.apart (get_or writes i nothing).0 (homes.is_metadata i nothing lt))

  stays_home : (i j : ℕ) (d : ℕ × List ℕ) (t : Tape) → i < length writes → IsPutHome r (get_or writes j d).0 t → IsPutHome r (get_or writes j d).0 (did (Put (get_or writes i nothing).0 (get_or writes i nothing).1) t)
  stays_home i j d t lt put = elim (cases_eq (get_or writes j d).0 (get_or writes i nothing).0) [
    | inl same ↦ subst (λ (s : ℕ). IsPutHome r s (did (Put (get_or writes i nothing).0 (get_or writes i nothing).1) t)) (sym same) (home_put tape r (get_or writes i nothing).0 t (get_or writes i nothing).1 (homes.contents i nothing lt))
    | inr other ↦ home_put_other tape r (get_or writes i nothing).0 (get_or writes j d).0 t (get_or writes i nothing).1 other put
  ]

  home_one : (i : ℕ) (t : Tape) → i < length writes → WritingHome n r writes first P i t → WritingHome n r writes first P (i + 1) (did (Put (get_or writes i nothing).0 (get_or writes i nothing).1) t)
  home_one i t lt kept =
      let u : ℕ = (get_or writes i nothing).0 in
      let bytes : List ℕ = (get_or writes i nothing).1 in
      record {
        stands = stands_put tape n r t (Put u bytes) u bytes (tape.put_writes u bytes) (free i t lt kept.stands) (not_head i t lt kept.stands) kept.stands;
        home = λ j d below. elim (cases_lt j i) [
          | inl old ↦ stays_home i j d t lt (kept.home j d old)
          | inr new ↦
              let same : i ≡ j = omega (arith, below, new) in
              let put : IsPutHome r u (did (Put u bytes) t) = home_put tape r u t bytes (homes.contents i nothing lt) in
              let at_d : IsPutHome r (get_or writes i d).0 (did (Put u bytes) t) = subst (λ (w : ℕ × List ℕ). IsPutHome r w.0 (did (Put u bytes) t)) (get_or_default writes i nothing d lt) put in
              subst (λ (m : ℕ). IsPutHome r (get_or writes m d).0 (did (Put u bytes) t)) same at_d
        ];
        past = past_did first P t (Put u bytes) kept.past (shows t kept.stands);
      }

  pub home_stage : (old new : State) → Ran (puts writes) old new → Told old (WritingHome n r writes first P 0) → Told new (WritingHome n r writes first P (length writes))
  home_stage old new ran h = stage_keeps (WritingHome n r writes first P) writes nothing home_one old new ran h

  -- at a fault the stage counts as not begun
  home_failed : (i : ℕ) (t : Tape) → i < length writes → WritingHome n r writes first P i t → WritingHome n r writes first P 0 (did (tried (get_or writes i nothing).0 (get_or writes i nothing).1) t)
  home_failed i t lt kept =
      let u : ℕ = (get_or writes i nothing).0 in
      let bytes : List ℕ = (get_or writes i nothing).1 in
      record {
        stands = stands_put tape n r t (tried u bytes) u bytes (tape.failed_writes u bytes) (free i t lt kept.stands) (not_head i t lt kept.stands) kept.stands;
        home = λ j d below. absurd (omega (arith, below));
        past = past_did first P t (tried u bytes) kept.past (shows t kept.stands);
      }

  pub home_broken : (old new : State) → BrokeOff writes old new → Told old (WritingHome n r writes first P 0) → Told new (WritingHome n r writes first P 0)
  home_broken old new b h = broken_keeps (WritingHome n r writes first P) writes nothing home_one (WritingHome n r writes first P 0) home_failed
      (λ i t lt kept. record { stands = kept.stands; home = λ j d below. absurd (omega (arith, below)); past = kept.past }) old new b h
