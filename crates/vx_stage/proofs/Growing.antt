-- An event more at this moment: what was allowed at earlier moments stays so, and the fact of now goes on.
use Rattle.std.proofs.Common.{◌≡◌, ℕ, zero, suc, ◌+◌, ◌<◌, ◌≤◌, Bool, true, false, cond, List, [], ◌∷◌, ◌++◌, length, take, Option, Some, None, refl, sym, ap, subst, ◌∙◌, arith, inl, inr, length-append}
use Rattle.std.specs.Prelude.{IsTrue, IfSome, slice_get, Contains, All, nat_le, filter}
use Rattle.std.specs.Option.{option_and_then}
use Rattle.std.specs.Cmp.{nat_cmp_total}
use Rattle.std.specs.FinMap as map
use Rattle.std.specs.Ordering.{nat_cmp, eq_by_cmp}
use Rattle.std.proofs.lemmas.Bool.{cases_eq, cases_lt}
use Rattle.std.proofs.lemmas.List.{take-append-le, take_all}
use Rattle.std.proofs.lemmas.List.Elements.{All-append, All-contains, All-weaker, All-cons, All-nil, Contains-append_cases, filter-append}
use Rattle.std.proofs.lemmas.List.Sums.{length-filter, count_by-le-length}
use Rattle.vx_base.proofs.Maps.{at_other}
use Rattle.vx_base.specs.declared.call.Call.{Call}
use Rattle.vx_base.specs.declared.event.Event.{Event}
use Rattle.vx_base.specs.declared.event.Event.TheVariants as event
use Rattle.vx_base.specs.declared.reply.Reply.{Reply}
use Rattle.vx_dev.specs.Tape.{Tape, State as Device, IsInStep, Settles}
use Rattle.vx_base.specs.declared.mode.Logging.{Logging}
use Rattle.vx_layout.specs.LogForms.{AfterImage, LogState, body_of}
use Rattle.vx_layout.specs.Places.{Volume, is_data, block_sector}
use Rattle.vx_layout.specs.Supers.{super_bytes, volume_of}
use Rattle.vx_layout.specs.declared.superblock.Super.{Super}
use Rattle.vx_log.specs.Logs.{LogView}
use Rattle.vx_log.specs.Batches.{noted_at}
use Rattle.vx_model.specs.Contents.{parsed_of}
use Rattle.vx_model.specs.Layout.{volume}
use Rattle.vx_model.specs.LaidOut.{HoldsData}
use Rattle.vx_model.specs.Waiting.{IsNamed}
use Rattle.vx_stage.proofs.Showing.{same_volume}
use Rattle.vx_dev.specs.Moments.{Told, Past}
use Rattle.vx_model.specs.Allowed.{come_by, call_of, call_at, is_refusal}
use Rattle.vx_model.specs.AllowedLaws.{IsPlaced, IsQuiet}
use Rattle.vx_model.specs.Legal.{World, Waiting, at_of, after, after_all, Legal}
use Rattle.vx_model.specs.Settled.{IsLeftSettled}
use Rattle.vx_model.specs.Shapes.{shape}
use Rattle.vx_model.specs.State.{State}
use Rattle.vx_model.proofs.Runs.{after_all-append, Legal-push}
use Rattle.vx_model.specs.Allowed.{has_front, HoldsFront, IsAllowed}
use Rattle.vx_stage.specs.Leads.{state_at}
use Rattle.vx_stage.specs.Growths.{next_state, IsEarned, IsGrowth, KeepsApart}
use Rattle.vx_stage.specs.Kernels.{log_size, IsMounted, IsReadingOf, IsNoted, IsLevel, clean_super, HasRun, IsLogOf, IsTurning, Now, IsLive, present}
use Rattle.vx_stage.specs.Leads.{Leads, IsYoung, AreYoung}
use Rattle.vx_log.specs.Crashes.{Stands, Turns, IsCertainBody}
use Rattle.vx_log.specs.Stages.{IsBodyPut, AreWritten}
use Rattle.vx_stage.specs.declared.kernel.Job.{Job}
use Rattle.vx_stage.specs.declared.kernel.Job.TheVariants.{Idle, Body, BodyOut, Head, HeadOut, Homes, HomesOut, Tail, TailOut, Leave, LeaveOut, Left, Broken}
use Rattle.vx_stage.specs.declared.kernel.Kernel.{Kernel}

-- ---- lists

pub slice_get-front : {A : Type 0} (xs ys : List A) (i : ℕ) → i < length xs → slice_get (xs ++ ys) i ≡ slice_get xs i
slice_get-front [] ys i lt = absurd (omega (arith, lt))
slice_get-front (x ∷ xs) ys zero lt = refl
slice_get-front (x ∷ xs) ys (suc i) lt = slice_get-front xs ys i (omega (arith, lt))

pub slice_get-last : {A : Type 0} (xs : List A) (y : A) (i : ℕ) (z : A) → length xs ≤ i → slice_get (xs ++ y ∷ []) i ≡ Some z → (i ≡ length xs) × (y ≡ z)
slice_get-last [] y zero z le is = (refl, cc)
slice_get-last [] y (suc i) z le is = absurd cc
slice_get-last (x ∷ xs) y zero z le is = absurd (omega (arith, le))
slice_get-last (x ∷ xs) y (suc i) z le is = let rest = slice_get-last xs y i z (omega (arith, le)) is in (omega (arith, rest.0), rest.1)

pub only : (x y : Event) → Contains (x ∷ []) y → x ≡ y
only x y (zero, lt, is) = is
only x y (suc i, lt, is) = absurd (omega (arith, lt))

pub one_more : {A : Type 0} (xs : List A) (y : A) → length (xs ++ y ∷ []) ≡ length xs + 1
one_more xs y = length-append xs (y ∷ [])

module _ (o : World) (d : Device) (k : Kernel) (e : Event) where
  abbrev had : List Event
  had = k.history.items

  abbrev pub with_it : List Event
  with_it = had ++ e ∷ []

  -- ---- states

  pub earlier_state : (i : ℕ) → i ≤ length had → state_at o with_it i ≡ state_at o had i
  earlier_state i le = ap (λ (es : List Event). (after_all o es).state) (take-append-le i had (e ∷ []) le)

  pub last_state : (after_all o with_it).state ≡ next_state o k e
  last_state = ap (λ (w : World). w.state) (after_all-append o had (e ∷ []))

  pub whole_state : (i : ℕ) → length had < i → i ≤ length with_it → state_at o with_it i ≡ next_state o k e
  whole_state i high low = ap (λ (es : List Event). (after_all o es).state) (take_all i with_it (omega (arith, high, one_more had e))) ∙ last_state

  -- a fact of each prefix
  pub each_prefix : (P : ℕ → State → Type 0) → ((i : ℕ) → i ≤ length had → P i (state_at o had i)) → ((i : ℕ) → length had < i → i ≤ length with_it → P i (next_state o k e)) → (i : ℕ) → i ≤ length with_it → P i (state_at o with_it i)
  each_prefix P before last i le = elim (cases_lt (length had) i) [
    | inl new ↦ subst (P i) (sym (whole_state i new le)) (last i new le)
    | inr old ↦ subst (P i) (sym (earlier_state i (omega (arith, old)))) (before i (omega (arith, old)))
  ]

  pub call_front : (place : ℕ) → place < length had → call_at with_it place ≡ call_at had place
  call_front place lt = ap (λ (x : Option Event). option_and_then call_of x) (slice_get-front had (e ∷ []) place lt)

  module _ (placed : All (IsPlaced (length had)) had) where
    -- ---- what was allowed stays so

    quiet_answer : (m at place : ℕ) (answer : Reply) → IsQuiet m (event.Ret at place answer) → at ≤ m → is_refusal answer ≡ false → ⊥
    quiet_answer m at place answer (inl late) early told = omega (arith, late, early)
    quiet_answer m at place answer (inr refused) early told = let wrong : true ≡ false = sym refused ∙ told in cc

    come-append : (m : ℕ) → come_by with_it m ≡ come_by had m + come_by (e ∷ []) m
    come-append m = let came : Event → Bool = λ x. nat_le (at_of x) m in ap (λ (es : List Event). length es) (filter-append came had (e ∷ [])) ∙ length-append (filter came had) (filter came (e ∷ []))

    pub stays : (m : ℕ) (image : ℕ → List ℕ) → IsQuiet m e → IsAllowed k.logging o had m image → IsAllowed k.logging o with_it m image
    stays m image quiet is = record {
      tree = is.tree;
      replays = is.replays;
      events = is.events;
      durable = record {
        returned = λ at place answer there early told. elim (Contains-append_cases had (e ∷ []) (event.Ret at place answer) there) [
          | inl old ↦
              let lt : place < length had = All-contains (IsPlaced (length had)) had (event.Ret at place answer) placed old in
              subst (λ (x : Option Call). IfSome x (λ c. has_front k.logging c ≡ true → place < is.events)) (sym (call_front place lt)) (is.durable.returned at place answer old early told)
          | inr new ↦ absurd (quiet_answer m at place answer (subst (IsQuiet m) (only e (event.Ret at place answer) new) quiet) early told)
        ];
        unmounted = λ at place found early. elim (cases_lt place (length had)) [
          | inl old ↦ is.durable.unmounted at place (sym (slice_get-front had (e ∷ []) place old) ∙ found) early
          | inr new ↦
              let last = slice_get-last had e place (event.Unmounted at) (omega (arith, new)) found in
              let late : m < at = subst (IsQuiet m) last.1 quiet in
              absurd (omega (arith, late, early))
        ];
      };
      come = omega (arith, is.come, come-append m);
      shape_is = λ n. is.shape_is n ∙ ap (λ (s : State). shape s.tree n) (sym (earlier_state is.events (omega (arith, is.come, come_within m))));
    }
      where
        come_within : (x : ℕ) → come_by had x ≤ length had
        come_within x = let came : Event → Bool = λ y. nat_le (at_of y) x in omega (arith, length-filter came had, count_by-le-length came had)

    -- the event is of now, so each earlier moment is quiet
    quiet_at : (x : Event) (m count : ℕ) → at_of x ≡ count → m < count → IsQuiet m x
    quiet_at (event.Ret at place answer) m count same early = inl (omega (arith, same, early))
    quiet_at (event.Unmounted at) m count same early = omega (arith, same, early)
    quiet_at _ m count same early = tt

    pub past_by : at_of e ≡ d.count → (first : ℕ) (t : Tape) → length t.ops ≡ d.count → Past first (IsAllowed k.logging o had) t → Past first (IsAllowed k.logging o with_it) t
    past_by now_is first t count past m from lt image is = stays m image (quiet_at e m d.count now_is (omega (arith, lt, count))) (past m from lt image is)

-- ---- calls that are not answered yet

abbrev AreBefore : ℕ → World → Type 0
AreBefore places w = (place : ℕ) (v : Waiting) → map.get w.waiting place ≡ Some v → place < places

removed_was : (m : map.FinMap nat_cmp Waiting) (k q : ℕ) (v : Waiting) → map.get (map.remove m k) q ≡ Some v → map.get m q ≡ Some v
removed_was m k q v is = by_cases (eq_by_cmp nat_cmp q k) (sym (map.get-remove nat_cmp_total m k q) ∙ is)
  where
    by_cases : (b : Bool) → cond b None (map.get m q) ≡ Some v → map.get m q ≡ Some v
    by_cases true h = absurd cc
    by_cases false h = h

-- the event's own place is the last one
pub waiting_on : (w : World) (e : Event) → AreBefore w.next w → AreBefore (w.next + 1) (after w e)
waiting_on w (event.Do at session line c reply) before place v is = elim (cases_eq place w.next) [
  | inl here ↦ omega (arith, here)
  | inr other ↦ omega (arith, before place v (sym (at_other w.waiting w.next (record { session = session; line = line; call = c; reply = reply }) place other) ∙ is))
]
waiting_on w (event.Ret at answered answer) before place v is = omega (arith, before place v (removed_was w.waiting answered place v is))
waiting_on w (event.Release at upto) before place v is = omega (arith, before place v is)
waiting_on w (event.Stopped at) before place v is = omega (arith, before place v is)
waiting_on w (event.Unmounted at) before place v is = omega (arith, before place v is)
waiting_on w _ before place v is = omega (arith, before place v is)

module _ (o : World) (d : Device) (k : Kernel) (e : Event) (run : HasRun o d k) (grows : IsGrowth o d k e) where
  abbrev h : List Event
  h = k.history.items

  abbrev longer : List Event
  longer = h ++ e ∷ []

  -- ---- what is durable

  -- an answer that has a front, by now, is that of a call whose event is committed
  pub front_now : (m : ℕ) → HoldsFront k.logging longer m k.committed
  front_now m = record {
    returned = λ at place answer there early told. elim (Contains-append_cases h (e ∷ []) (event.Ret at place answer) there) [
      | inl old ↦
          let lt : place < length h = All-contains (IsPlaced (length h)) h (event.Ret at place answer) run.placed old in
          subst (λ (x : Option Call). IfSome x (λ c. has_front k.logging c ≡ true → place < k.committed)) (sym (call_front o d k e place lt)) ((run.durable m).returned at place answer old early told)
      | inr new ↦
          let same : e ≡ event.Ret at place answer = only e (event.Ret at place answer) new in
          let lt : place < length h = subst (IsPlaced (length h)) same grows.placed in
          let earned : IsEarned k (event.Ret at place answer) = subst (IsEarned k) same grows.earned in
          subst (λ (x : Option Call). IfSome x (λ c. has_front k.logging c ≡ true → place < k.committed)) (sym (call_front o d k e place lt)) (earned told)
    ];
    unmounted = λ at place is early. elim (cases_lt place (length h)) [
      | inl old ↦ (run.durable m).unmounted at place (sym (slice_get-front h (e ∷ []) place old) ∙ is) early
      | inr new ↦
          let last = slice_get-last h e place (event.Unmounted at) (omega (arith, new)) is in
          let earned : IsEarned k (event.Unmounted at) = subst (IsEarned k) last.1 grows.earned in
          omega (arith, earned, last.0)
    ];
  }

  pub past_stays : (first : ℕ) (t : Tape) → length t.ops ≡ d.count → Past first (IsAllowed k.logging o h) t → Past first (IsAllowed k.logging o longer) t
  past_stays first t count past = past_by o d k e run.placed grows.at first t count past

  -- what held metadata waits for the event or does so still
  pub still_young : (place : ℕ) (batch : List AfterImage) → k.committed ≤ place → place ≤ length h → AreYoung (present o k) place batch → AreYoung (next_state o k e) place batch
  still_young place batch from inside are b i data_ lt = weaker (noted_at batch (block_sector 2 b + i)) (are b i (subst (λ (v : Volume). IsTrue (is_data v b)) same data_) lt)
    where
      same : volume (next_state o k e).layout ≡ volume (present o k).layout
      same = same_volume k.sizes (next_state o k e) grows.mounted ∙ sym (same_volume k.sizes (present o k) run.mounted_now)

      weaker : (x : Option (List ℕ)) → IfSome x (λ _. IsYoung (present o k) place b) → IfSome x (λ _. IsYoung (next_state o k e) place b)
      weaker None is = tt
      weaker (Some image) is = grows.young place b from inside is

  -- ---- the kernel with the event

  placed_on : (x : Event) → IsPlaced (length h) x → IsPlaced (length longer) x
  placed_on (event.Ret at place answer) p = omega (arith, p, one_more h e)
  placed_on _ p = tt

  module _ (k2 : Kernel) (items : k2.history.items ≡ longer) (sizes : k2.sizes ≡ k.sizes) (logging : k2.logging ≡ k.logging) (first : k2.first ≡ k.first) (log : k2.log ≡ k.log) (homes : k2.homes ≡ k.homes) (job : k2.job ≡ k.job)
      (committed : k2.committed ≡ k.committed) (closing : k2.closing ≡ k.closing) where
    on_items : (P : List Event → Type 0) → P longer → P k2.history.items
    on_items P is = subst P (sym items) is

    now_state : present o k2 ≡ next_state o k e
    now_state = ap (λ (es : List Event). (after_all o es).state) items ∙ last_state o d k e

    long : length k2.history.items ≡ length h + 1
    long = ap (λ (es : List Event). length es) items ∙ one_more h e

    pub run_grows : HasRun o d k2
    run_grows = record {
      legal = on_items (Legal o) (Legal-push o h e run.legal grows.allowed);
      next = ap (λ (es : List Event). (after_all o es).next) items ∙ ap (λ (w : World). w.next) (after_all-append o h (e ∷ [])) ∙ next_is e ∙ ap (λ (n : ℕ). n + 1) run.next ∙ sym long;
      at = omega (arith, grows.at, ap (λ (es : List Event). (after_all o es).at) items, ap (λ (w : World). w.at) (after_all-append o h (e ∷ [])), at_is e);
      come = on_items (All (λ x. at_of x ≤ d.count)) (All-append (λ x. at_of x ≤ d.count) h (e ∷ []) run.come (All-cons (λ x. at_of x ≤ d.count) e [] (omega (arith, grows.at)) (All-nil (λ x. at_of x ≤ d.count))));
      placed = on_items (λ es. All (IsPlaced (length es)) es) (All-append (IsPlaced (length longer)) h (e ∷ []) (All-weaker (IsPlaced (length h)) (IsPlaced (length longer)) placed_on h run.placed)
          (All-cons (IsPlaced (length longer)) e [] (placed_on e grows.placed) (All-nil (IsPlaced (length longer)))));
      waiting = λ place v is. omega (
        arith,
        long,
        run.next,
        waiting_on (after_all o h) e (λ p u was. omega (arith, run.next, run.waiting p u was)) place v
            (ap (λ (w : World). map.get w.waiting place) (sym (ap (after_all o) items ∙ after_all-append o h (e ∷ []))) ∙ is),
      );
      order = omega (arith, run.order, committed, closing);
      within = omega (arith, run.within, closing, long);
      durable = λ m. on_items (λ es. HoldsFront k2.logging es m k2.committed) (subst (λ (x : Logging). HoldsFront x longer m k2.committed) (sym logging) (subst (λ (n : ℕ). HoldsFront k.logging longer m n) (sym committed) (front_now m)));
      mounted = λ i le. subst (λ (v : Super). IsMounted v (state_at o k2.history.items i)) (sym sizes) (on_items (λ es. IsMounted k.sizes (state_at o es i)) (each_prefix o d k e (λ _ s. IsMounted k.sizes s) run.mounted (λ j high low. grows.mounted) i (omega (arith, le, long, one_more h e))));
      mounted_now = subst (λ (v : Super). IsMounted v (present o k2)) (sym sizes) (subst (IsMounted k.sizes) (sym now_state) grows.mounted);
      named = λ i b low le there. subst (λ (s : State). IsYoung s i b) (sym now_state)
          (each_prefix o d k e (λ j s. k.committed ≤ j → IsNamed s b → IsYoung (next_state o k e) j b)
          (λ j inside from claim. grows.young j b from inside (run.named j b from inside claim)) (λ j high low2 from claim. inl claim) i (omega (arith, le, long, one_more h e)) (omega (arith, low, committed))
          (subst (λ (es : List Event). IsNamed (state_at o es i) b) items there));
      waits = λ i b p le pends lt. on_items (λ es. (state_at o es i).layout.pending b ≡ Some p)
          (each_prefix o d k e (λ j s. p < j → s.layout.pending b ≡ Some p)
          (λ j inside below. elim (grows.pending b p (now_pending b p pends)) [
            | inl before ↦ run.waits j b p inside before below
            | inr new ↦ absurd (omega (arith, new, inside, below))
          ])
          (λ j high low below. now_pending b p pends) i (omega (arith, le, long, one_more h e)) lt);
      pending = λ b p pends. elim (grows.pending b p (now_pending b p pends)) [
        | inl before ↦ omega (arith, run.pending b p before, long)
        | inr new ↦ omega (arith, new, long)
      ];
    }
      where
        next_is : (x : Event) → (after (after_all o h) x).next ≡ (after_all o h).next + 1
        next_is (event.Do at session line c reply) = refl
        next_is (event.Ret at place answer) = refl
        next_is (event.Release at upto) = refl
        next_is (event.Unmounted at) = refl
        next_is _ = refl

        at_is : (x : Event) → (after (after_all o h) x).at ≡ at_of x
        at_is (event.Do at session line c reply) = refl
        at_is (event.Ret at place answer) = refl
        at_is (event.Release at upto) = refl
        at_is (event.Unmounted at) = refl
        at_is _ = refl

        now_pending : (b p : ℕ) → (present o k2).layout.pending b ≡ Some p → (next_state o k e).layout.pending b ≡ Some p
        now_pending b p pends = ap (λ (s : State). s.layout.pending b) (sym now_state) ∙ pends

    -- what the log stands for
    module _ (opens : (i : ℕ) (r : LogState) → IsLogOf o k i r → Leads (volume_of k.sizes) (parsed_of (state_at o h k.closing)) (parsed_of (next_state o k e)) k2.gathered × AreYoung (next_state o k e) k.closing k2.gathered) where
      at_prefix : (i : ℕ) (P : State → Type 0) → i ≤ length h → P (state_at o h i) → P (state_at o k2.history.items i)
      at_prefix i P le is = on_items (λ es. P (state_at o es i)) (subst P (sym (earlier_state o d k e i le)) is)

      pub log_grows : (i : ℕ) (r : LogState) → i ≤ length h → (l : IsLogOf o k i r) → ((b j : ℕ) → HoldsData (next_state o k e).layout b → j < 2 → r.is_metadata (block_sector 2 b + j) ≡ false) → IsLogOf o k2 i r
      log_grows i r le l apart = record {
        reading = subst (λ (v : Super). IsReadingOf v (state_at o k2.history.items i) r) (sym sizes) (at_prefix i (λ s. IsReadingOf k.sizes s r) le l.reading);
        serial = l.serial ∙ sym (ap (λ (x : LogView). x.serial) log);
        tail = l.tail ∙ sym (ap (λ (x : LogView). x.tail) log);
        head = l.head ∙ sym (ap (λ (x : LogView). x.head) log);
        noted = λ q. subst (λ (hs : List AfterImage). IsNoted r q (noted_at hs q)) (sym homes) (l.noted q);
        apart = λ b j holds lt. apart b j (subst (λ (s : State). HoldsData s.layout b) now_state holds) lt;
        leads = subst (λ (v : Super). Leads (volume_of v) (parsed_of (state_at o k2.history.items k2.closing)) (parsed_of (present o k2)) k2.gathered) (sym sizes)
            (subst (λ (n : ℕ). Leads (volume_of k.sizes) (parsed_of (state_at o k2.history.items n)) (parsed_of (present o k2)) k2.gathered) (sym closing)
            (at_prefix k.closing (λ s. Leads (volume_of k.sizes) (parsed_of s) (parsed_of (present o k2)) k2.gathered) run.within
            (subst (λ (s : State). Leads (volume_of k.sizes) (parsed_of (state_at o h k.closing)) (parsed_of s) k2.gathered) (sym now_state) (opens i r l).0)));
        young = subst (λ (s : State). AreYoung s k2.closing k2.gathered) (sym now_state) (subst (λ (n : ℕ). AreYoung (next_state o k e) n k2.gathered) (sym closing) (opens i r l).1);
        batch_leads = λ c is. subst (λ (v : Super). Leads (volume_of v) (parsed_of (state_at o k2.history.items k2.committed)) (parsed_of (state_at o k2.history.items k2.closing)) c.batch) (sym sizes)
            (subst (λ (n : ℕ). Leads (volume_of k.sizes) (parsed_of (state_at o k2.history.items n)) (parsed_of (state_at o k2.history.items k2.closing)) c.batch) (sym committed)
            (subst (λ (n : ℕ). Leads (volume_of k.sizes) (parsed_of (state_at o k2.history.items k.committed)) (parsed_of (state_at o k2.history.items n)) c.batch) (sym closing)
            (at_prefix k.committed (λ s. Leads (volume_of k.sizes) (parsed_of s) (parsed_of (state_at o k2.history.items k.closing)) c.batch) (omega (arith, run.order, run.within))
            (at_prefix k.closing (λ s. Leads (volume_of k.sizes) (parsed_of (state_at o h k.committed)) (parsed_of s) c.batch) run.within (l.batch_leads c (sym (ap (λ (x : LogView). x.closing) log) ∙ is))))));
        batch_young = λ c is. subst (λ (s : State). AreYoung s k2.committed c.batch) (sym now_state) (subst (λ (n : ℕ). AreYoung (next_state o k e) n c.batch) (sym committed)
            (still_young k.committed c.batch (omega arith) (omega (arith, run.order, run.within)) (l.batch_young c (sym (ap (λ (x : LogView). x.closing) log) ∙ is))));
      }

      turning_grows : (r : LogState) (t : Tape) → IsTurning o k r t → IsTurning o k2 r t
      turning_grows r t turning = record {
        old = turning.old;
        reading = subst (λ (v : Super). IsReadingOf v (state_at o k2.history.items k2.committed) turning.old) (sym sizes) (subst (λ (n : ℕ). IsReadingOf k.sizes (state_at o k2.history.items n) turning.old) (sym committed)
            (at_prefix k.committed (λ s. IsReadingOf k.sizes s turning.old) (omega (arith, run.order, run.within)) turning.reading));
        turns = subst (λ (v : Super). Turns (log_size v) turning.old r t) (sym sizes) turning.turns;
      }

      on_committed : (P : State → Type 0) → P (state_at o h k.committed) → P (state_at o k2.history.items k2.committed)
      on_committed P is = subst (λ (n : ℕ). P (state_at o k2.history.items n)) (sym committed) (at_prefix k.committed P (omega (arith, run.order, run.within)) is)

      level_grows : (t : Tape) → IsLevel k.sizes (state_at o h k.committed) k.log.serial k.log.head t → IsLevel k2.sizes (state_at o k2.history.items k2.committed) k2.log.serial k2.log.head t
      level_grows t is = subst (λ (v : Super). IsLevel v (state_at o k2.history.items k2.committed) k2.log.serial k2.log.head t) (sym sizes)
          (subst (λ (x : LogView). IsLevel k.sizes (state_at o k2.history.items k2.committed) x.serial x.head t) (sym log)
          (on_committed (λ s. IsLevel k.sizes s k.log.serial k.log.head t) is))

      module _ (keeps : KeepsApart o k e) where
        committed_log : (r : LogState) → IsLogOf o k k.committed r → IsLogOf o k2 k2.committed r
        committed_log r l = subst (λ (n : ℕ). IsLogOf o k2 n r) (sym committed) (log_grows k.committed r (omega (arith, run.order, run.within)) l (λ b j holds lt. l.apart b j (keeps b holds) lt))

        closing_log : (r : LogState) → IsLogOf o k k.closing r → IsLogOf o k2 k2.closing r
        closing_log r l = subst (λ (n : ℕ). IsLogOf o k2 n r) (sym closing) (log_grows k.closing r run.within l (λ b j holds lt. l.apart b j (keeps b holds) lt))

        on_size : (P : ℕ → Type 0) → P (log_size k.sizes) → P (log_size k2.sizes)
        on_size P is = subst (λ (v : Super). P (log_size v)) (sym sizes) is

        -- what is known of the tape says nothing of the history
        now_grows : (j : Job) (r : LogState) (t : Tape) → ((m : ℕ) → length t.ops ≡ m → j ≡ Broken → IsQuiet m e) → Now k j o r t → Now k2 j o r t
        now_grows Idle r t quiet is = (committed_log r is.0, on_size (λ n. Stands n r t) is.1)
        now_grows Body r t quiet is = (committed_log r is.0, on_size (λ n. Stands n r t) is.1, λ c at. on_size (λ n. IsBodyPut n r c.batch c.written t) (is.2 c (sym (ap (λ (x : LogView). x.closing) log) ∙ at)))
        now_grows BodyOut r t quiet is = (committed_log r is.0, on_size (λ n. Stands n r t) is.1, λ c at. on_size (λ n. IsBodyPut n r c.batch c.written t) (is.2 c (sym (ap (λ (x : LogView). x.closing) log) ∙ at)))
        now_grows Head r t quiet is = (committed_log r is.0, on_size (λ n. Stands n r t) is.1, λ c at. on_size (λ n. IsCertainBody n r.head (body_of r.head c.batch) t) (is.2 c (sym (ap (λ (x : LogView). x.closing) log) ∙ at)))
        now_grows HeadOut r t quiet is = (closing_log r is.0, turning_grows r t is.1)
        now_grows (Homes put) r t quiet is = (committed_log r is.0, subst (λ (hs : List AfterImage). AreWritten (log_size k2.sizes) r (take put hs) t) (sym homes) (on_size (λ n. AreWritten n r (take put k.homes) t) is.1))
        now_grows HomesOut r t quiet is = (committed_log r is.0, subst (λ (hs : List AfterImage). AreWritten (log_size k2.sizes) r hs t) (sym homes) (on_size (λ n. AreWritten n r k.homes t) is.1))
        now_grows Tail r t quiet is = (committed_log r is.0, on_size (λ n. Stands n r t) is.1, is.2)
        now_grows TailOut r t quiet is = (committed_log r is.0, turning_grows r t is.1)
        now_grows Leave r t quiet is = level_grows t is
        now_grows LeaveOut r t quiet is = (level_grows t is.0, subst (λ (v : Super). Settles t 0 (super_bytes (clean_super v))) (sym sizes) is.1)
        now_grows Left r t quiet is = (level_grows t is.0, on_committed (λ s. IsLeftSettled s t) is.1)
        now_grows Broken r t quiet is = λ image at. subst (λ (x : Logging). IsAllowed x o k2.history.items (length t.ops) image) (sym logging)
            (on_items (λ es. IsAllowed k.logging o es (length t.ops) image) (stays o d k e run.placed (length t.ops) image (quiet (length t.ops) refl refl) (is image at)))

        pub live_grows : (t : Tape) → length t.ops ≡ d.count → (k.job ≡ Broken → IsQuiet d.count e) → IsLive o k t → IsLive o k2 t
        live_grows t count quiet live = record {
          past = subst (λ (x : Logging). Past k2.first (IsAllowed x o k2.history.items) t) (sym logging) (subst (λ (n : ℕ). Past n (IsAllowed k.logging o k2.history.items) t) (sym first)
              (on_items (λ es. Past k.first (IsAllowed k.logging o es) t) (past_stays k.first t count live.past)));
          reading = live.reading;
          now = subst (λ (j : Job). Now k2 j o live.reading t) (sym job) (now_grows k.job live.reading t (λ m at broken. subst (λ (n : ℕ). IsQuiet n e) (sym count ∙ at) (quiet broken)) live.now);
        }

        pub told_grows : IsInStep d → (k.job ≡ Broken → IsQuiet d.count e) → Told d (IsLive o k) → Told d (IsLive o k2)
        told_grows step quiet told = by_cases d.told step told
          where
            by_cases : (x : Option Tape) → IfSome x (λ t. length t.ops ≡ d.count) → IfSome x (IsLive o k) → IfSome x (IsLive o k2)
            by_cases None count live = tt
            by_cases (Some t) count live = live_grows t count quiet live
