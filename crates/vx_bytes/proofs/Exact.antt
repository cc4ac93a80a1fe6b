-- What was made stable and has not changed since is there after a crash.
use Rattle.std.proofs.Common.{◌≡◌, ◌+◌, ◌≤◌, ◌<◌, ℕ, Bool, true, false, ◌||◌, List, [], ◌∷◌, length, get_or, Ok, refl, sym, ◌∙◌, ap, subst, inl, inr, arith}
use Rattle.std.specs.Prelude.{Contains, IfSome, Option, Some, ◌==◌, nat_lt, slice_get}
use Rattle.std.specs.List.{AllByRecursion, list_any}
use Rattle.std.specs.Option.{option_and_then}
use Rattle.std.proofs.lemmas.Bool.{cases_Bool, both_ways, eq-eqb}
use Rattle.std.proofs.lemmas.List.{ext_get_or}
use Rattle.std.proofs.lemmas.List.Elements.{All-from_recursion, All-contains}
use Rattle.vx_base.specs.declared.call.Call.TheVariants as call
use Rattle.vx_base.specs.declared.event.Event.{Event}
use Rattle.vx_base.specs.declared.event.Event.TheVariants as event
use Rattle.vx_base.specs.declared.mode.Logging.{Logging}
use Rattle.vx_base.specs.declared.reply.Reply.{Reply}
use Rattle.vx_model.specs.Allowed.{call_of, come_by, has_front, is_refusal}
use Rattle.vx_model.specs.Legal.{World}
use Rattle.vx_model.specs.Outcome.{Maybe}
use Rattle.vx_model.specs.Tree.{File, Opened, Tree}
use Rattle.vx_model.specs.Walks.{file_at}
use Rattle.vx_model.specs.Opened.{opened_at}
use Rattle.vx_bytes.specs.Stories.{Story, size_course, byte_course}
use Rattle.vx_bytes.specs.CandidateLaws.{HasBytesSince}
use Rattle.vx_bytes.specs.Histories.{state_at, file_after, size_of, byte_of, is_cut, is_removed, story, has_returned, promises_at, promises_size_at}
use Rattle.vx_bytes.specs.Outcomes.{HasCandidates, IsCrashOutcome}
use Rattle.vx_bytes.specs.Promises.{answers, fixes_bytes, fixes_size, is_on, is_unmounting}
use Rattle.vx_bytes.proofs.Courses.{may_exact, size_may_exact}
use Rattle.vx_bytes.proofs.Growing.{not_less}
use Rattle.vx_bytes.proofs.Outcoming.{seen_now}

not_cut : (a b : Maybe File) (f g : File) → a ≡ Ok f → b ≡ Ok g → f.bytes ≡ g.bytes → is_cut a b ≡ false
not_cut a b f g x z same = (λ i. is_cut (x i) (z i)) ∙ not_less (length g.bytes) (length f.bytes) (subst (λ (l : List ℕ). length f.bytes ≤ length l) same (omega arith))

not_removed : (a b : Maybe File) (f g : File) (i : ℕ) → a ≡ Ok f → b ≡ Ok g → f.bytes ≡ g.bytes → is_removed a b i ≡ false
not_removed a b f g i x z same = (λ k. is_removed (x k) (z k) i) ∙ (let low : nat_lt (length g.bytes) (length f.bytes) ≡ false = not_less (length g.bytes) (length f.bytes) (subst (λ (l : List ℕ). length f.bytes ≤ length l) same (omega arith)) in rw low refl)

module _ (mode : Logging) (o : World) (h : List Event) (n place k : ℕ) (bytes : List ℕ) (before : place < k) (within : k ≤ length h) (since : HasBytesSince o h n place bytes) where
  abbrev y : Story
  y = story mode o h n

  uncut : (i : ℕ) → place < i → i < length h → is_cut (file_after o h n i) (file_after o h n (i + 1)) ≡ false
  uncut i from to =
      let a = since i from (omega (arith, to)) in
      let b = since (i + 1) (omega (arith, from)) (omega (arith, to)) in
      not_cut (file_after o h n i) (file_after o h n (i + 1)) a.0 b.0 a.1 b.1 (a.2 ∙ sym b.2)

  kept : (j i : ℕ) → place < i → i < length h → is_removed (file_after o h n i) (file_after o h n (i + 1)) j ≡ false
  kept j i from to =
      let a = since i from (omega (arith, to)) in
      let b = since (i + 1) (omega (arith, from)) (omega (arith, to)) in
      not_removed (file_after o h n i) (file_after o h n (i + 1)) a.0 b.0 j a.1 b.1 (a.2 ∙ sym b.2)

  pub stable_file : (t : Tree) (f : File) → promises_size_at mode o h n place ≡ true → ((i : ℕ) → promises_at mode o h n i place ≡ true) → has_returned h place ≡ true → HasCandidates mode o h k t → file_at t.nodes n ≡ Ok f → f.bytes ≡ bytes
  unfolding story
  stable_file t f fixes fixes_each returned candidates found =
      let size : length f.bytes ≡ length bytes = size_may_exact (size_course y) k place (length f.bytes) (length bytes) (omega (arith, before, within)) (rw (fixes, returned) refl) (λ i low high. uncut i (omega (arith, low, before)) (omega (arith, high, within, before)))
      (λ j from to joined. let a = since j from to in ap size_of a.1 ∙ ap (λ (l : List ℕ). length l) a.2) (λ p from to. uncut p from (omega (arith, to, within))) (candidates.sizes n f found) in
      ext_get_or 0 f.bytes bytes size (λ i lt. may_exact (byte_course y i) k place (get_or f.bytes i 0) (get_or bytes i 0) (omega (arith, before, within)) (rw (fixes_each i, returned) refl) (λ j low high. kept i j (omega (arith, low, before)) (omega (arith, high, within, before)))
      (λ j from to joined. let a = since j from to in ap (λ (x : Maybe File). byte_of x i) a.1 ∙ ap (λ (l : List ℕ). get_or l i 0) a.2) (candidates.bytes n i f found lt))

-- ---- behind a fsync

none_passes : {A : Type 0} (p : A → Bool) (xs : List A) → list_any p xs ≡ false → AllByRecursion (λ x. p x ≡ false) xs
none_passes p [] off = tt
none_passes p (x ∷ xs) off = elim (cases_Bool (p x)) [
  | inl on ↦ absurd (both_ways (list_any p (x ∷ xs)) off (rw on refl))
  | inr not_it ↦ (not_it, none_passes p xs (sym (ap (λ (t : Bool). t || list_any p xs) not_it) ∙ off))
]

any_contains : {A : Type 0} (p : A → Bool) (xs : List A) (x : A) → Contains xs x → p x ≡ true → list_any p xs ≡ true
any_contains p xs x there on = elim (cases_Bool (list_any p xs)) [
  | inl any ↦ any
  | inr none ↦ absurd (both_ways (p x) (All-contains (λ y. p y ≡ false) xs x (All-from_recursion (λ y. p y ≡ false) xs (none_passes p xs none)) there) on)
]

answered_any : (h : List Event) (at place : ℕ) (answer : Reply) → is_refusal answer ≡ false → Contains h (event.Ret at place answer) → list_any (answers place) h ≡ true
answered_any h at place answer told there = any_contains (answers place) h (event.Ret at place answer) there (let same : (place == place) ≡ true = eq-eqb place place refl in rw (same, told) refl)

returned_by : (h : List Event) (at place : ℕ) (answer : Reply) → is_refusal answer ≡ false → Contains h (event.Ret at place answer) → has_returned h place ≡ true
unfolding has_returned
returned_by h at place answer told there = (let any : list_any (answers place) h ≡ true = answered_any h at place answer told there in elim (cases_Bool (is_unmounting (slice_get h place))) [ inl on ↦ rw on refl | inr off ↦ rw (off, any) refl ])

pub fsynced_file : (mode : Logging) (o : World) (h : List Event) (m : ℕ) (image : ℕ → List ℕ) (place at session line handle returned : ℕ) (reply answer : Reply) (opened : Opened) (f : File) (bytes : List ℕ)
    → slice_get h place ≡ Some (event.Do at session line (call.Fsync handle) reply) → Contains h (event.Ret returned place answer) → returned ≤ m → is_refusal answer ≡ false → opened_at (state_at o h place).tree session handle ≡ Ok opened
    → come_by h m ≡ length h → HasBytesSince o h opened.ino place bytes → (c : IsCrashOutcome mode o h m image) → file_at c.allowed.tree.nodes opened.ino ≡ Ok f → f.bytes ≡ bytes
fsynced_file mode o h m image place at session line handle returned reply answer opened f bytes is there early told on come since c found =
    let front : IfSome (option_and_then call_of (slice_get h place)) (λ c2. has_front mode c2 ≡ true → place < c.allowed.events) = c.allowed.durable.returned returned place answer there early told in
    let front_here : has_front mode (call.Fsync handle) ≡ true → place < c.allowed.events = subst (λ (x : Option Event). IfSome (option_and_then call_of x) (λ c2. has_front mode c2 ≡ true → place < c.allowed.events)) is front in
    let named : is_on (opened_at (state_at o h place).tree session handle) opened.ino ≡ true = (λ i. is_on (on i) opened.ino) ∙ eq-eqb opened.ino opened.ino refl in
    let fixes : fixes_bytes mode (state_at o h place) (slice_get h place) opened.ino ≡ true = (λ i. fixes_bytes mode (state_at o h place) (is i) opened.ino) ∙ named in
    let fixes_all : fixes_size mode (state_at o h place) (slice_get h place) opened.ino ≡ true = (λ i. fixes_size mode (state_at o h place) (is i) opened.ino) ∙ named in
    let within : c.allowed.events ≤ length h = subst (λ (k : ℕ). c.allowed.events ≤ k) come c.allowed.come in
    stable_file mode o h opened.ino place c.allowed.events bytes (front_here refl) within since c.allowed.tree f fixes_all (λ i. rw fixes refl) (returned_by h returned place answer told there)
    (subst (λ (es : List Event). HasCandidates mode o es c.allowed.events c.allowed.tree) (seen_now h m come) c.candidates) found
