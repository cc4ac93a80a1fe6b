-- What a crash may leave, as the history grows.
use Rattle.std.proofs.Common.{◌≡◌, ℕ, zero, suc, ◌+◌, ◌<◌, ◌≤◌, Bool, true, false, nat_le, List, [], ◌∷◌, ◌++◌, length, Option, Some, None, refl, sym, ◌∙◌, ap, subst, inl, inr, arith, length-append}
use Rattle.std.specs.Prelude.{filter, slice_get, Contains, IfSome, All}
use Rattle.std.specs.List.{AllByRecursion}
use Rattle.std.specs.Option.{option_and_then}
use Rattle.std.proofs.lemmas.Bool.Decides.{nat_tests}
use Rattle.std.proofs.lemmas.List.{take-append-le}
use Rattle.std.proofs.Math.Seq.{take-append_seam}
use Rattle.std.proofs.lemmas.List.Elements.{All-append, All-from_recursion, All-contains, All-weaker, Contains-append_cases, filter-append}
use Rattle.std.proofs.lemmas.List.Sums.{length-filter, count_by-le-length}
use Rattle.vx_base.specs.declared.event.Event.{Event}
use Rattle.vx_base.specs.declared.event.Event.TheVariants as event
use Rattle.vx_base.specs.declared.mode.Logging.{Logging}
use Rattle.vx_base.specs.declared.reply.Reply.{Reply}
use Rattle.vx_model.specs.Legal.{World, at_of, after_all}
use Rattle.vx_model.specs.State.{State}
use Rattle.vx_model.specs.Shapes.{shape}
use Rattle.vx_model.specs.Replays.{ReplaysAs}
use Rattle.vx_model.specs.Allowed.{come_by, call_of, call_at, has_front, is_refusal, HoldsFront, IsAllowed}
use Rattle.vx_model.specs.AllowedLaws.{IsPlaced, IsQuiet}
use Rattle.vx_model.proofs.StepWaits.{step_waits}
use Rattle.vx_model.proofs.FileWaits.{settled_waits}
use Rattle.vx_model.proofs.Histories.{kept_all}

slice_get-front : {A : Type 0} (xs ys : List A) (i : ℕ) → i < length xs → slice_get (xs ++ ys) i ≡ slice_get xs i
slice_get-front [] ys i lt = absurd (omega (arith, lt))
slice_get-front (x ∷ xs) ys zero lt = refl
slice_get-front (x ∷ xs) ys (suc i) lt = slice_get-front xs ys i (omega (arith, lt))

quiet_at : {A : Type 0} (P : A → Type 0) (es : List A) (i : ℕ) (e : A) → AllByRecursion P es → slice_get es i ≡ Some e → P e
quiet_at P [] i e h is = absurd (cc)
quiet_at P (x ∷ es) zero e h is = let same : x ≡ e = cc in subst P same h.0
quiet_at P (x ∷ es) (suc i) e h is = quiet_at P es i e h.1 is

come_within : (history : List Event) (m : ℕ) → come_by history m ≤ length history
come_within history m = let came : Event → Bool = λ e. nat_le (at_of e) m in omega (arith, length-filter came history, count_by-le-length came history)

come-append : (history events : List Event) (m : ℕ) → come_by (history ++ events) m ≡ come_by history m + come_by events m
come-append history events m =
    let came : Event → Bool = λ e. nat_le (at_of e) m in
    ap (λ (es : List Event). length es) (filter-append came history events) ∙ length-append (filter came history) (filter came events)

all_come : (events : List Event) (m : ℕ) → AllByRecursion (λ e. at_of e ≤ m) events → come_by events m ≡ length events
all_come [] m h = refl
all_come (e ∷ events) m h =
    let first : at_of e ≤ m = h.0 in
    let test : nat_le (at_of e) m ≡ true = grind (arith, nat_tests) in
    rw test (ap suc (all_come events m h.1))

pub come : (history events : List Event) (m : ℕ) → AllByRecursion (λ e. at_of e ≤ m) events → come_by (history ++ events) m ≡ come_by history m + length events
come history events m h = come-append history events m ∙ ap (λ (n : ℕ). come_by history m + n) (all_come events m h)

-- ---- what is durable

no_answer : (m at place : ℕ) (answer : Reply) → IsQuiet m (event.Ret at place answer) → at ≤ m → is_refusal answer ≡ false → ⊥
no_answer m at place answer (inl late) early told = omega (arith, late, early)
no_answer m at place answer (inr refused) early told = let wrong : true ≡ false = sym refused ∙ told in cc

-- an answer by then stands in the first part
answered_before : (history events : List Event) (m at place : ℕ) (answer : Reply) → AllByRecursion (IsQuiet m) events → Contains (history ++ events) (event.Ret at place answer) → at ≤ m → is_refusal answer ≡ false
    → Contains history (event.Ret at place answer)
answered_before history events m at place answer quiet there early told = elim (Contains-append_cases history events (event.Ret at place answer) there) [
  | inl old ↦ old
  | inr new ↦ absurd (no_answer m at place answer (All-contains (IsQuiet m) events (event.Ret at place answer) (All-from_recursion (IsQuiet m) events quiet) new) early told)
]

-- and so does an unmounting
unmounted_before : (history events : List Event) (m at place : ℕ) → AllByRecursion (IsQuiet m) events → slice_get (history ++ events) place ≡ Some (event.Unmounted at) → at ≤ m → place < length history
unmounted_before [] events m at place quiet is early = let late : m < at = quiet_at (IsQuiet m) events place (event.Unmounted at) quiet is in absurd (omega (arith, late, early))
unmounted_before (e ∷ history) events m at zero quiet is early = omega arith
unmounted_before (e ∷ history) events m at (suc place) quiet is early = omega (arith, unmounted_before history events m at place quiet is early)

answer_placed : (history : List Event) (at place : ℕ) (answer : Reply) → All (IsPlaced (length history)) history → Contains history (event.Ret at place answer) → place < length history
answer_placed history at place answer placed there = All-contains (IsPlaced (length history)) history (event.Ret at place answer) placed there

durable_later : (mode : Logging) (history events : List Event) (m k : ℕ) → All (IsPlaced (length history)) history → AllByRecursion (IsQuiet m) events → HoldsFront mode history m k → HoldsFront mode (history ++ events) m k
durable_later mode history events m k placed quiet before = record {
  returned = λ at place answer there early told.
      let old = answered_before history events m at place answer quiet there early told in
      subst (λ (o : Option Event). IfSome (option_and_then call_of o) (λ c. has_front mode c ≡ true → place < k)) (sym (slice_get-front history events place (answer_placed history at place answer placed old)))
      (before.returned at place answer old early told);
  unmounted = λ at place is early.
      before.unmounted at place (sym (slice_get-front history events place (unmounted_before history events m at place quiet is early)) ∙ is) early;
}

of_any : {A : Type 0} (o : Option A) (P : A → Type 0) → ((x : A) → P x) → IfSome o P
of_any None P h = tt
of_any (Some x) P h = h x

durable_front : (mode : Logging) (history events : List Event) (m : ℕ) → All (IsPlaced (length history)) history → AllByRecursion (IsQuiet m) events → HoldsFront mode (history ++ events) m (length history)
durable_front mode history events m placed quiet = record {
  returned = λ at place answer there early told.
      let old = answered_before history events m at place answer quiet there early told in
      of_any (call_at (history ++ events) place) (λ c. has_front mode c ≡ true → place < length history) (λ c durable. answer_placed history at place answer placed old);
  unmounted = λ at place is early. unmounted_before history events m at place quiet is early;
}

-- ---- what is allowed

pub later : (mode : Logging) (opening : World) (history events : List Event) (m : ℕ) (image : ℕ → List ℕ) → All (IsPlaced (length history)) history → AllByRecursion (IsQuiet m) events
    → IsAllowed mode opening history m image → IsAllowed mode opening (history ++ events) m image
later mode opening history events m image placed quiet is = record {
  tree = is.tree;
  replays = is.replays;
  events = is.events;
  durable = durable_later mode history events m is.events placed quiet is.durable;
  come = omega (arith, is.come, come-append history events m);
  shape_is = λ n. is.shape_is n
      ∙ ap (λ (es : List Event). shape (after_all opening es).state.tree n) (sym (take-append-le is.events history events (omega (arith, is.come, come_within history m))));
}

pub device : (opening : World) (history : List Event) → (after_all opening history).state.layout.device_sectors ≡ opening.state.layout.device_sectors
device opening history =
    kept_all (λ (s : State). s.layout.device_sectors ≡ opening.state.layout.device_sectors)
    (λ s place session c done is stepped. (step_waits s place session c done stepped).same_device ∙ is) (λ s place ino is. (settled_waits s place ino).same_device ∙ is) (λ s upto is. is) opening history refl

pub front : (mode : Logging) (opening : World) (history events : List Event) (m : ℕ) (image : ℕ → List ℕ) (s : State) → All (IsPlaced (length history)) history → AllByRecursion (IsQuiet m) events
    → length history ≤ come_by history m → (after_all opening history).state ≡ s → ReplaysAs s.layout.device_sectors image s.tree → IsAllowed mode opening (history ++ events) m image
front mode opening history events m image s placed quiet came same replays = record {
  tree = s.tree;
  replays = subst (λ (n : ℕ). ReplaysAs n image s.tree) (ap (λ (x : State). x.layout.device_sectors) (sym same) ∙ device opening history) replays;
  events = length history;
  durable = durable_front mode history events m placed quiet;
  come = omega (arith, came, come-append history events m);
  shape_is = λ n. ap (λ (x : State). shape x.tree n) (sym same) ∙ ap (λ (es : List Event). shape (after_all opening es).state.tree n) (sym (take-append_seam history events));
}

-- ---- places

placed_in : (few many : ℕ) → few ≤ many → (e : Event) → IsPlaced few e → IsPlaced many e
placed_in few many le (event.Ret at place answer) h = omega (arith, h, le)
placed_in few many le _ h = tt

pub placed : (history events : List Event) → All (IsPlaced (length history)) history → AllByRecursion (IsPlaced (length (history ++ events))) events
    → All (IsPlaced (length (history ++ events))) (history ++ events)
placed history events before new =
    let n = length (history ++ events) in
    let le : length history ≤ n = omega (arith, length-append history events) in
    All-append (IsPlaced n) history events (All-weaker (IsPlaced (length history)) (IsPlaced n) (placed_in (length history) n le) history before) (All-from_recursion (IsPlaced n) events new)
