-- What a crash leaves now is an outcome of the history, and stays one as it grows.
use Rattle.std.proofs.Common.{◌≡◌, ◌+◌, ◌≤◌, ◌<◌, ℕ, zero, suc, true, false, List, [], ◌∷◌, ◌++◌, length, take, get_or, refl, sym, ◌∙◌, ap, subst, inl, inr, arith, length-append}
use Rattle.std.specs.Prelude.{All, IfSome, Option, Some, filter, slice_get, nat_le}
use Rattle.std.specs.List.{AllByRecursion}
use Rattle.std.specs.Option.{option_and_then}
use Rattle.std.proofs.lemmas.Bool.Decides.{nat_tests}
use Rattle.std.proofs.lemmas.List.{take-append-le, take_all}
use Rattle.std.proofs.lemmas.List.Elements.{All-from_recursion, All-contains, Contains-append_cases, filter-append}
use Rattle.std.proofs.lemmas.List.Sums.{length-filter, count_by-le-length}
use Rattle.vx_base.specs.declared.event.Event.{Event}
use Rattle.vx_base.specs.declared.event.Event.TheVariants as event
use Rattle.vx_base.specs.declared.mode.Logging.{Logging}
use Rattle.vx_base.specs.declared.reply.Reply.{Reply}
use Rattle.vx_dev.specs.Tape.{Tape, IsImage}
use Rattle.vx_sound.specs.Said.{block_bytes}
use Rattle.vx_model.specs.Allowed.{HoldsFront, IsAllowed, call_of, come_by, has_front, is_refusal}
use Rattle.vx_model.specs.AllowedLaws.{IsPlaced, IsQuiet}
use Rattle.vx_model.specs.Legal.{World, at_of, after_all}
use Rattle.vx_model.specs.Layout.{volume}
use Rattle.vx_model.specs.Replays.{ReplaysAs}
use Rattle.vx_model.specs.Settled.{ReplaysSettled, laid_over}
use Rattle.vx_model.specs.Shapes.{shape}
use Rattle.vx_model.specs.Tree.{Tree}
use Rattle.vx_model.proofs.Allowing.{device}
use Rattle.vx_model.proofs.SettledTrees.{settled_shape}
use Rattle.vx_bytes.specs.Stories.{Story, size_course, byte_course, IsReady}
use Rattle.vx_bytes.specs.Standings.{Standing, Shown}
use Rattle.vx_bytes.specs.Promises.{is_durable_close}
use Rattle.vx_bytes.specs.Histories.{state_at, story, seen}
use Rattle.vx_bytes.specs.Places.{place_of}
use Rattle.vx_bytes.specs.Outcomes.{HoldsDurable, HoldsCloses, HasCandidates, IsCrashOutcome}
use Rattle.vx_bytes.specs.Images.{IsClearOfFiles}
use Rattle.vx_bytes.specs.Events.{IsUnpromising}
use Rattle.vx_bytes.specs.Kept.{Progress, Sinces, memory, HoldsFiles}
use Rattle.vx_bytes.proofs.Overlays.{all_unnamed}
use Rattle.vx_bytes.proofs.ReadOut.{candidates_of}
use Rattle.vx_bytes.proofs.Courses.{may_grows, size_may_grows}
use Rattle.vx_bytes.proofs.Shows.{size_grows, byte_grows, ready_none}
use Rattle.vx_bytes.proofs.Growing.{follows, fixes_none, ends_is}
use Rattle.vx_bytes.proofs.Placed.{are_answered}

-- ---- what had come by a moment

come_within : (h : List Event) (m : ℕ) → come_by h m ≤ length h
come_within h m = omega (arith, length-filter (λ e. nat_le (at_of e) m) h, count_by-le-length (λ e. nat_le (at_of e) m) h)

come-append : (h events : List Event) (m : ℕ) → come_by (h ++ events) m ≡ come_by h m + come_by events m
come-append h events m =
    ap (λ (es : List Event). length es) (filter-append (λ e. nat_le (at_of e) m) h events) ∙ length-append (filter (λ e. nat_le (at_of e) m) h) (filter (λ e. nat_le (at_of e) m) events)

none_come : (events : List Event) (m : ℕ) → AllByRecursion (λ e. m < at_of e) events → come_by events m ≡ 0
none_come [] m late = refl
none_come (e ∷ events) m late = (let first : m < at_of e = late.0 in let test : nat_le (at_of e) m ≡ false = grind (arith, nat_tests) in rw test (none_come events m late.1))

-- events of later moments aren't seen
seen_later : (h events : List Event) (m : ℕ) → AllByRecursion (λ e. m < at_of e) events → seen (h ++ events) m ≡ seen h m
seen_later h events m late =
    let count : come_by (h ++ events) m ≡ come_by h m = omega (arith, come-append h events m, none_come events m late) in
    ap (λ (n : ℕ). take n (h ++ events)) count ∙ take-append-le (come_by h m) h events (come_within h m)

pub seen_now : (h : List Event) (m : ℕ) → come_by h m ≡ length h → seen h m ≡ h
seen_now h m all = ap (λ (n : ℕ). take n h) all ∙ take_all (length h) h (omega arith)

come_now : (h : List Event) (e : Event) (m : ℕ) → come_by h m ≡ length h → at_of e ≤ m → come_by (h ++ e ∷ []) m ≡ length (h ++ e ∷ [])
come_now h e m all early =
    let test : nat_le (at_of e) m ≡ true = grind (arith, nat_tests) in
    let one : come_by (e ∷ []) m ≡ 1 = rw test refl in
    omega (arith, come-append h (e ∷ []) m, one, all, length-append h (e ∷ []))

-- ---- now

module _ (mode : Logging) (o : World) (h : List Event) (p : Progress) (since : Sinces) (t : Tape) (files : HoldsFiles mode o h p since t) (m : ℕ) (come : come_by h m ≡ length h) (image : ℕ → List ℕ) (is : IsImage t image) where
  outcome_by : (k : ℕ) (standing : ℕ → Standing) → ((n : ℕ) → (standing n).k ≡ k) → ((n : ℕ) → (standing n).place ≡ place_of (state_at o h k) n) → ((n : ℕ) → Shown (story mode o h n) (standing n) t)
      → k ≤ length h → HoldsDurable mode o h m k → (r : ReplaysSettled (state_at o h k) image) → IsClearOfFiles (state_at o h k) r.replays.records image → IsCrashOutcome mode o h m image
  unfolding state_at
  outcome_by k standing at place shown within durable r clear = record {
    allowed = record {
      tree = r.tree;
      replays = subst (λ (n : ℕ). ReplaysAs n image r.tree) (device o (take k h)) r.replays;
      events = k;
      durable = durable.front;
      come = subst (λ (n : ℕ). k ≤ n) (sym come) within;
      shape_is = settled_shape (state_at o h k) (block_bytes (volume (state_at o h k).layout) (laid_over r.replays.records image)) r.tree r.settled;
    };
    closes = durable.closes;
    candidates = subst (λ (es : List Event). HasCandidates mode o es k r.tree) (sym (seen_now h m come))
        (candidates_of mode o h k standing t image (laid_over r.replays.records image) r.tree at place shown is (λ n q u there. all_unnamed r.replays.records u (image u) (clear.unnamed n q u there)) clear.whole r.settled);
  }

  pub outcome_committed : p.committed ≤ length h → HoldsDurable mode o h m p.committed → (r : ReplaysSettled (state_at o h p.committed) image) → IsClearOfFiles (state_at o h p.committed) r.replays.records image → IsCrashOutcome mode o h m image
  outcome_committed = outcome_by p.committed (λ n. (memory o h p since n).committed) (λ n. refl) (λ n. refl) (λ n. (files n).committed)

  pub outcome_closing : p.closing ≤ length h → HoldsDurable mode o h m p.closing → (r : ReplaysSettled (state_at o h p.closing) image) → IsClearOfFiles (state_at o h p.closing) r.replays.records image → IsCrashOutcome mode o h m image
  outcome_closing = outcome_by p.closing (λ n. (memory o h p since n).closing) (λ n. refl) (λ n. refl) (λ n. (files n).closing)

-- ---- as the history grows

slice_get-front : {A : Type 0} (xs ys : List A) (i : ℕ) → i < length xs → slice_get (xs ++ ys) i ≡ slice_get xs i
slice_get-front [] ys i lt = absurd (omega (arith, lt))
slice_get-front (x ∷ xs) ys zero lt = refl
slice_get-front (x ∷ xs) ys (suc i) lt = slice_get-front xs ys i (omega (arith, lt))

state_front : (o : World) (h events : List Event) (k : ℕ) → k ≤ length h → state_at o (h ++ events) k ≡ state_at o h k
unfolding state_at
state_front o h events k le = ap (λ (l : List Event). (after_all o l).state) (take-append-le k h events le)

late_quiet : (m : ℕ) (e : Event) → m < at_of e → IsQuiet m e
late_quiet m (event.Ret at place answer) late = inl late
late_quiet m (event.Unmounted at) late = late
late_quiet m (event.Do at session line c reply) late = tt
late_quiet m (event.Settle at ino size) late = tt
late_quiet m (event.Release at upto) late = tt
late_quiet m (event.MoveTake at place ino) late = tt
late_quiet m (event.MoveSwitch at place ino from to) late = tt
late_quiet m (event.MoveGive at place ino cause) late = tt
late_quiet m (event.Bar at place units) late = tt
late_quiet m (event.Resized at place units) late = tt
late_quiet m (event.Unbar at place cause) late = tt
late_quiet m (event.Stopped at) late = tt

all_late : (m : ℕ) (events : List Event) → AllByRecursion (λ e. m < at_of e) events → AllByRecursion (IsQuiet m) events
all_late m [] late = tt
all_late m (e ∷ events) late = (late_quiet m e late.0, all_late m events late.1)

-- an answer of such an event is a refusal, or of a later moment
quiet_answer : (m at place : ℕ) (answer : Reply) → IsQuiet m (event.Ret at place answer) → at ≤ m → is_refusal answer ≡ false → ⊥
quiet_answer m at place answer (inl late) early told = omega (arith, late, early)
quiet_answer m at place answer (inr refused) early told = (let wrong : true ≡ false = sym refused ∙ told in cc)

closes_later : (mode : Logging) (o : World) (h events : List Event) (m k : ℕ) → All (IsPlaced (length h)) h → AllByRecursion (IsQuiet m) events → HoldsCloses mode o h m k → HoldsCloses mode o (h ++ events) m k
closes_later mode o h events m k placed quiet old at place answer there early told on = elim (Contains-append_cases h events (event.Ret at place answer) there) [
  | inl was ↦
      let lt : place < length h = All-contains (IsPlaced (length h)) h (event.Ret at place answer) placed was in
      let same : is_durable_close mode (state_at o h place) (state_at o h (place + 1)) (slice_get h place) ≡ true =
      sym (λ i. is_durable_close mode (state_front o h events place (omega (arith, lt)) i) (state_front o h events (place + 1) (omega (arith, lt)) i) (slice_get-front h events place lt i)) ∙ on in
      old at place answer was early told same
  | inr new ↦ absurd (quiet_answer m at place answer (All-contains (IsQuiet m) events (event.Ret at place answer) (All-from_recursion (IsQuiet m) events quiet) new) early told)
]

quiet_at : (m : ℕ) (events : List Event) (i at : ℕ) → AllByRecursion (IsQuiet m) events → slice_get events i ≡ Some (event.Unmounted at) → m < at
quiet_at m [] i at quiet is = absurd cc
quiet_at m (e ∷ events) zero at quiet is = (let same : e ≡ event.Unmounted at = cc in subst (IsQuiet m) same quiet.0)
quiet_at m (e ∷ events) (suc i) at quiet is = quiet_at m events i at quiet.1 is

-- an unmounting by then stands in the first part
unmounted_before : (h events : List Event) (m at place : ℕ) → AllByRecursion (IsQuiet m) events → slice_get (h ++ events) place ≡ Some (event.Unmounted at) → at ≤ m → place < length h
unmounted_before [] events m at place quiet is early = (let late : m < at = quiet_at m events place at quiet is in absurd (omega (arith, late, early)))
unmounted_before (e ∷ h) events m at zero quiet is early = omega arith
unmounted_before (e ∷ h) events m at (suc place) quiet is early = omega (arith, unmounted_before h events m at place quiet is early)

front_later : (mode : Logging) (h events : List Event) (m k : ℕ) → All (IsPlaced (length h)) h → AllByRecursion (IsQuiet m) events → HoldsFront mode h m k → HoldsFront mode (h ++ events) m k
front_later mode h events m k placed quiet old = record {
  returned = λ at place answer there early told. elim (Contains-append_cases h events (event.Ret at place answer) there) [
    | inl was ↦
        let lt : place < length h = All-contains (IsPlaced (length h)) h (event.Ret at place answer) placed was in
        subst (λ (x : Option Event). IfSome (option_and_then call_of x) (λ c. has_front mode c ≡ true → place < k)) (sym (slice_get-front h events place lt)) (old.returned at place answer was early told)
    | inr new ↦ absurd (quiet_answer m at place answer (All-contains (IsQuiet m) events (event.Ret at place answer) (All-from_recursion (IsQuiet m) events quiet) new) early told)
  ];
  unmounted = λ at place is early. old.unmounted at place (sym (slice_get-front h events place (unmounted_before h events m at place quiet is early)) ∙ is) early;
}

-- what is allowed of names and attributes, by the same beginning of the history
allowed_later : (mode : Logging) (o : World) (h events : List Event) (m : ℕ) (image : ℕ → List ℕ) → All (IsPlaced (length h)) h → AllByRecursion (IsQuiet m) events
    → IsAllowed mode o h m image → IsAllowed mode o (h ++ events) m image
allowed_later mode o h events m image placed quiet is = record {
  tree = is.tree;
  replays = is.replays;
  events = is.events;
  durable = front_later mode h events m is.events placed quiet is.durable;
  come = omega (arith, is.come, come-append h events m);
  shape_is = λ n. is.shape_is n ∙ ap (λ (es : List Event). shape (after_all o es).state.tree n) (sym (take-append-le is.events h events (omega (arith, is.come, come_within h m))));
}

-- events of later moments
pub outcome_later : (mode : Logging) (o : World) (h events : List Event) (m : ℕ) (image : ℕ → List ℕ) → All (IsPlaced (length h)) h → AllByRecursion (λ e. m < at_of e) events → IsCrashOutcome mode o h m image → IsCrashOutcome mode o (h ++ events) m image
unfolding allowed_later
outcome_later mode o h events m image placed late old = record {
  allowed = allowed_later mode o h events m image placed (all_late m events late) old.allowed;
  closes = closes_later mode o h events m old.allowed.events placed (all_late m events late) old.closes;
  candidates = subst (λ (es : List Event). HasCandidates mode o es old.allowed.events old.allowed.tree) (sym (seen_later h events m late)) old.candidates;
}

-- an event of this moment that makes nothing stable
module _ (mode : Logging) (o : World) (h : List Event) (e : Event) (placed : All (IsPlaced (length h)) h) (un : IsUnpromising e) where
  candidates_more : (k : ℕ) (t : Tree) → k ≤ length h → HasCandidates mode o h k t → HasCandidates mode o (h ++ e ∷ []) k t
  candidates_more k t inside old =
      let y : ℕ → Story = λ n. story mode o h n in
      let z : ℕ → Story = λ n. story mode o (h ++ e ∷ []) n in
      let ready : (n : ℕ) → IsReady (y n) (z n) (λ i. 0) 0 = λ n. ready_none (y n) (z n) (λ i. 0) 0 (fixes_none mode o h e n (are_answered h placed) un) in
      let low : (n : ℕ) → k ≤ (y n).ends = λ n. subst (λ (x : ℕ). k ≤ x) (sym (ends_is mode o h e n)) inside in
      record {
        sizes = λ n f found. size_may_grows 0 (size_course (y n)) (size_course (z n)) (size_grows (y n) (z n) (follows mode o h e n) (λ i. 0) 0 (ready n)) k (length f.bytes) (low n) (old.sizes n f found);
        bytes = λ n i f found lt. may_grows 0 (byte_course (y n) i) (byte_course (z n) i) (byte_grows (y n) (z n) (follows mode o h e n) (λ i. 0) 0 (ready n) i) k (get_or f.bytes i 0) (low n) (old.bytes n i f found lt);
      }

  pub outcome_more : (m : ℕ) (image : ℕ → List ℕ) → come_by h m ≡ length h → at_of e ≤ m → IsQuiet m e → IsCrashOutcome mode o h m image → IsCrashOutcome mode o (h ++ e ∷ []) m image
  unfolding allowed_later
  outcome_more m image all early quiet old = record {
    allowed = allowed_later mode o h (e ∷ []) m image placed (quiet, tt) old.allowed;
    closes = closes_later mode o h (e ∷ []) m old.allowed.events placed (quiet, tt) old.closes;
    candidates = subst (λ (es : List Event). HasCandidates mode o es old.allowed.events old.allowed.tree) (sym (seen_now (h ++ e ∷ []) m (come_now h e m all early)))
        (candidates_more old.allowed.events old.allowed.tree (subst (λ (n : ℕ). old.allowed.events ≤ n) all old.allowed.come) (subst (λ (es : List Event). HasCandidates mode o es old.allowed.events old.allowed.tree) (seen_now h m all) old.candidates));
  }
