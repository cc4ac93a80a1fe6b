-- What one event more does to what the files go through.
use Rattle.std.proofs.Common.{◌≡◌, ◌⊎◌, ◌+◌, ◌≤◌, ◌<◌, ℕ, zero, suc, Bool, true, false, ◌&&◌, ◌||◌, List, [], ◌∷◌, ◌++◌, length, get_or, Ok, Err, refl, sym, ◌∙◌, ap, subst, inl, inr, arith}
use Rattle.std.specs.Prelude.{Some, slice_get, nat_lt, nat_le}
use Rattle.std.specs.List.{list_any}
use Rattle.std.proofs.lemmas.Bool.{cases_lt, cases_Bool, both_ways, and_parts, or_cases, and_right}
use Rattle.std.proofs.lemmas.Bool.Decides.{nat_tests}
use Rattle.std.proofs.lemmas.List.{take-append-le, take_all, length_push}
use Rattle.std.proofs.lemmas.List.Folds.{list_any-append}
use Rattle.vx_base.specs.declared.event.Event.{Event}
use Rattle.vx_base.specs.declared.mode.Logging.{Logging}
use Rattle.vx_model.specs.Outcome.{Maybe}
use Rattle.vx_model.specs.Tree.{File}
use Rattle.vx_model.specs.Legal.{World, after_all}
use Rattle.vx_model.specs.State.{State}
use Rattle.vx_bytes.specs.Stories.{Story, Follows, IsReady, FixesNone, IsQuiet}
use Rattle.vx_bytes.specs.Promises.{file_in, fixes_bytes, fixes_size, is_tick, covers, answers, is_unmounting}
use Rattle.vx_bytes.specs.Histories.{state_at, present, size_of, byte_of, is_cut, is_removed, is_raised, has_returned, file_after, removes_at, raises_at, promises_at, promises_size_at, story}
use Rattle.vx_bytes.specs.Events.{IsSameFile, IsUnpromising}

-- ---- states and events of prefixes

pub state_old : (o : World) (h : List Event) (e : Event) (k : ℕ) → k ≤ length h → state_at o (h ++ e ∷ []) k ≡ state_at o h k
unfolding state_at
state_old o h e k le = ap (λ (l : List Event). (after_all o l).state) (take-append-le k h (e ∷ []) le)

pub state_now : (o : World) (h : List Event) → state_at o h (length h) ≡ (after_all o h).state
unfolding state_at
state_now o h = ap (λ (l : List Event). (after_all o l).state) (take_all (length h) h (omega arith))

pub event_old : (h : List Event) (e : Event) (i : ℕ) → i < length h → slice_get (h ++ e ∷ []) i ≡ slice_get h i
event_old [] e i lt = absurd (omega (arith, lt))
event_old (x ∷ xs) e zero lt = refl
event_old (x ∷ xs) e (suc i) lt = event_old xs e i (omega (arith, lt))

pub event_new : (h : List Event) (e : Event) → slice_get (h ++ e ∷ []) (length h) ≡ Some e
event_new [] e = refl
event_new (x ∷ xs) e = event_new xs e

-- ---- answers

-- each answer is of an event before it
abbrev pub AreAnswered : List Event → Type 0
AreAnswered h = (i : ℕ) → list_any (answers i) h ≡ true → i < length h

or_false : (a b : Bool) → a ≡ false → b ≡ false → (a || b) ≡ false
or_false a b x y = rw (x, y) refl

-- what has returned by then had, or is answered by the event, or is the event
pub returned_new : (h : List Event) (e : Event) (i : ℕ) → i < length h → has_returned (h ++ e ∷ []) i ≡ true → (has_returned h i ≡ true) ⊎ (answers i e ≡ true)
unfolding has_returned
returned_new h e i lt on = elim (or_cases (is_unmounting (slice_get (h ++ e ∷ []) i)) (list_any (answers i) (h ++ e ∷ [])) on) [
  | inl here ↦ inl (let same : is_unmounting (slice_get h i) ≡ true = ap is_unmounting (sym (event_old h e i lt)) ∙ here in rw same refl)
  | inr any ↦ elim (or_cases (list_any (answers i) h) (answers i e || false) (sym (list_any-append (answers i) h (e ∷ [])) ∙ any)) [
    | inl was ↦ inl (elim (cases_Bool (is_unmounting (slice_get h i))) [ inl a ↦ rw a refl | inr a ↦ rw a was ])
    | inr now ↦ elim (or_cases (answers i e) false now) [ inl is ↦ inr is | inr wrong ↦ absurd (both_ways false refl wrong) ]
  ]
]

-- the event itself has not returned, where it isn't the unmounting and no answer comes before its call
pub unreturned : (h : List Event) (e : Event) → AreAnswered h → (answers (length h) e ≡ false) → is_unmounting (Some e) ≡ false → has_returned (h ++ e ∷ []) (length h) ≡ false
unfolding has_returned
unreturned h e answered other mounted = or_false (is_unmounting (slice_get (h ++ e ∷ []) (length h))) (list_any (answers (length h)) (h ++ e ∷ [])) (ap is_unmounting (event_new h e) ∙ mounted)
    (list_any-append (answers (length h)) h (e ∷ []) ∙ or_false (list_any (answers (length h)) h) (answers (length h) e || false) none (or_false (answers (length h) e) false other refl))
  where
    none : list_any (answers (length h)) h ≡ false
    none = elim (cases_Bool (list_any (answers (length h)) h)) [ inl on ↦ absurd (omega (arith, answered (length h) on)) | inr off ↦ off ]

pub answered_new : (h : List Event) (e : Event) → AreAnswered h → ((i : ℕ) → answers i e ≡ true → i < length h) → AreAnswered (h ++ e ∷ [])
answered_new h e answered here i on = elim (or_cases (list_any (answers i) h) (answers i e || false) (sym (list_any-append (answers i) h (e ∷ [])) ∙ on)) [
  | inl was ↦ omega (arith, answered i was, length_push h e)
  | inr now ↦ elim (or_cases (answers i e) false now) [ inl is ↦ omega (arith, here i is, length_push h e) | inr wrong ↦ absurd (both_ways false refl wrong) ]
]

-- ---- one file

raised_same : (r s c d : ℕ → Bool) (i : ℕ) → ((j : ℕ) → j < i → r j ≡ s j) → ((j : ℕ) → j < i → c j ≡ d j) → is_raised r c i ≡ is_raised s d i
raised_same r s c d zero e f = refl
raised_same r s c d (suc i) e f =
    let rest : is_raised r c i ≡ is_raised s d i = raised_same r s c d i (λ j lt. e j (omega (arith, lt))) (λ j lt. f j (omega (arith, lt))) in
    let here : r i ≡ s i = e i (omega arith) in
    let cover : c i ≡ d i = f i (omega arith) in
    rw (here, cover, rest) refl

module _ (o : World) (h : List Event) (e : Event) (n : ℕ) where
  pub file_old : (k : ℕ) → k ≤ length h → file_after o (h ++ e ∷ []) n k ≡ file_after o h n k
  file_old k le = ap (λ (s : State). file_in s n) (state_old o h e k le)

  removes_old : (i j : ℕ) → j < length h → removes_at o (h ++ e ∷ []) n i j ≡ removes_at o h n i j
  removes_old i j lt = (λ x. is_removed (file_old j (omega (arith, lt)) x) (file_old (j + 1) (omega (arith, lt)) x) i)

  raises_old : (i j : ℕ) → j < length h → raises_at o (h ++ e ∷ []) n i j ≡ raises_at o h n i j
  raises_old i j lt = (λ x. nat_lt (size_of (file_old j (omega (arith, lt)) x)) (size_of (file_old (j + 1) (omega (arith, lt)) x)) && covers (state_old o h e j (omega (arith, lt)) x) (event_old h e j lt x) n i)

  -- the file before and after the event
  abbrev pub before : Maybe File
  before = file_in (present o h) n

  abbrev pub afterwards : Maybe File
  afterwards = file_in (present o (h ++ e ∷ [])) n

  pub before_is : file_after o (h ++ e ∷ []) n (length h) ≡ before
  before_is = file_old (length h) (omega arith)

  pub after_is : file_after o (h ++ e ∷ []) n (length h + 1) ≡ afterwards
  after_is = ap (λ (k : ℕ). file_after o (h ++ e ∷ []) n k) (sym (length_push h e))

module _ (mode : Logging) (o : World) (h : List Event) (e : Event) (n : ℕ) where
  abbrev old : Story
  old = story mode o h n

  abbrev new : Story
  new = story mode o (h ++ e ∷ []) n

  pub promises_old : (i j : ℕ) → j < length h → promises_at mode o (h ++ e ∷ []) n i j ≡ promises_at mode o h n i j
  promises_old i j lt =
      let raised : is_raised (removes_at o (h ++ e ∷ []) n i) (raises_at o (h ++ e ∷ []) n i) j ≡ is_raised (removes_at o h n i) (raises_at o h n i) j = raised_same _ _ _ _ j (λ a b. removes_old o h e n i a (omega (arith, b, lt))) (λ a b. raises_old o h e n i a (omega (arith, b, lt))) in
      (λ x. fixes_bytes mode (state_old o h e j (omega (arith, lt)) x) (event_old h e j lt x) n || (is_tick mode (event_old h e j lt x) && raised x))

  pub promises_size_old : (j : ℕ) → j < length h → promises_size_at mode o (h ++ e ∷ []) n j ≡ promises_size_at mode o h n j
  promises_size_old j lt = (λ x. fixes_size mode (state_old o h e j (omega (arith, lt)) x) (event_old h e j lt x) n)

  pub ends_is : old.ends ≡ length h
  unfolding story
  ends_is = refl

  pub ends_new : new.ends ≡ length h + 1
  unfolding story
  ends_new = length_push h e

  pub follows : Follows old new
  unfolding story
  follows = record {
    ends = length_push h e;
    size = λ k le. ap size_of (file_old o h e n k le);
    byte = λ i k le. ap (λ (f : Maybe File). byte_of f i) (file_old o h e n k le);
    shrinks = λ i lt x. is_cut (file_old o h e n i (omega (arith, lt)) x) (file_old o h e n (i + 1) (omega (arith, lt)) x);
    removes = λ i j lt. removes_old o h e n i j lt;
  }

  -- what is stable was, or is answered by the event and stands before these prefixes
  pub ready : AreAnswered h → (answers (length h) e ≡ false) → is_unmounting (Some e) ≡ false → (since : ℕ → ℕ) (size_since : ℕ) →
      ((i j : ℕ) → answers j e ≡ true → promises_at mode o h n i j ≡ true → j < since i) → ((j : ℕ) → answers j e ≡ true → promises_size_at mode o h n j ≡ true → j < size_since) →
      IsReady old new since size_since
  unfolding story
  ready answered other mounted since size_since bytes sizes = record {
    size = λ j lt on.
        let parts : (promises_size_at mode o (h ++ e ∷ []) n j ≡ true) × (has_returned (h ++ e ∷ []) j ≡ true) = and_parts _ _ on in
        elim (cases_lt j (length h)) [
          | inl less ↦
              let was : promises_size_at mode o h n j ≡ true = sym (promises_size_old j less) ∙ parts.0 in
              elim (returned_new h e j less parts.1) [
                | inl before ↦ inl (less, rw (was, before) refl)
                | inr here ↦ inr (sizes j here was)
              ]
          | inr more ↦
              let here : length h ≡ j = omega (arith, lt, more, length_push h e) in
              absurd (both_ways (has_returned (h ++ e ∷ []) j) (subst (λ (x : ℕ). has_returned (h ++ e ∷ []) x ≡ false) here (unreturned h e answered other mounted)) parts.1)
        ];
    bytes = λ i j lt on.
        let parts : (promises_at mode o (h ++ e ∷ []) n i j ≡ true) × (has_returned (h ++ e ∷ []) j ≡ true) = and_parts _ _ on in
        elim (cases_lt j (length h)) [
          | inl less ↦
              let was : promises_at mode o h n i j ≡ true = sym (promises_old i j less) ∙ parts.0 in
              elim (returned_new h e j less parts.1) [
                | inl before ↦ inl (less, rw (was, before) refl)
                | inr here ↦ inr (bytes i j here was)
              ]
          | inr more ↦
              let here : length h ≡ j = omega (arith, lt, more, length_push h e) in
              absurd (both_ways (has_returned (h ++ e ∷ []) j) (subst (λ (x : ℕ). has_returned (h ++ e ∷ []) x ≡ false) here (unreturned h e answered other mounted)) parts.1)
        ];
  }

  none_of : {A : Type 0} (b : Bool) → b ≡ false → b ≡ true → A
  none_of b off on = absurd (both_ways b off on)

  -- a Do, a Settle, a Release, and an answer that refuses, make nothing stable
  pub fixes_none : AreAnswered h → IsUnpromising e → FixesNone old new
  fixes_none answered un =
      let r : IsReady old new (λ i. 0) 0 = ready answered (un.silent (length h)) un.mounted (λ i. 0) 0 (λ i j on p. none_of (answers j e) (un.silent j) on) (λ j on p. none_of (answers j e) (un.silent j) on) in
      record {
        size = λ j lt on. elim (r.size j lt on) [ inl was ↦ was | inr wrong ↦ absurd (omega (arith, wrong)) ];
        bytes = λ i j lt on. elim (r.bytes i j lt on) [ inl was ↦ was | inr wrong ↦ absurd (omega (arith, wrong)) ];
      }

  pub size_now : old.size old.ends ≡ size_of (before o h e n)
  unfolding story
  size_now = refl

  pub byte_now : (i : ℕ) → old.byte i old.ends ≡ byte_of (before o h e n) i
  unfolding story
  byte_now i = refl

  pub size_next : new.size new.ends ≡ size_of (afterwards o h e n)
  unfolding story
  size_next = refl

  pub byte_next : (i : ℕ) → new.byte i new.ends ≡ byte_of (afterwards o h e n) i
  unfolding story
  byte_next i = refl

  pub shrinks_next : new.shrinks old.ends ≡ is_cut (before o h e n) (afterwards o h e n)
  unfolding story
  shrinks_next = (λ x. is_cut (before_is o h e n x) (after_is o h e n x))

  pub removes_next : (i : ℕ) → new.removes i old.ends ≡ is_removed (before o h e n) (afterwards o h e n) i
  unfolding story
  removes_next i = (λ x. is_removed (before_is o h e n x) (after_is o h e n x) i)

  pub fixes_size_next : AreAnswered h → (answers (length h) e ≡ false) → is_unmounting (Some e) ≡ false → new.fixes_size old.ends ≡ false
  unfolding story
  fixes_size_next answered other mounted = and_right (promises_size_at mode o (h ++ e ∷ []) n (length h)) (has_returned (h ++ e ∷ []) (length h)) (unreturned h e answered other mounted)

same_size : (a b : Maybe File) → IsSameFile a b → size_of b ≡ size_of a
same_size (Ok f) (Ok g) same = ap (λ (l : List ℕ). length l) (sym same)
same_size (Err f) (Err g) same = refl
same_size (Ok f) (Err g) same = absurd same
same_size (Err f) (Ok g) same = absurd same

same_byte : (a b : Maybe File) (i : ℕ) → IsSameFile a b → byte_of b i ≡ byte_of a i
same_byte (Ok f) (Ok g) i same = ap (λ (l : List ℕ). get_or l i 0) (sym same)
same_byte (Err f) (Err g) i same = refl
same_byte (Ok f) (Err g) i same = absurd same
same_byte (Err f) (Ok g) i same = absurd same

pub not_less : (a b : ℕ) → b ≤ a → nat_lt a b ≡ false
not_less a b le = grind (arith, nat_tests)

and_left : (a b : Bool) → a ≡ false → (a && b) ≡ false
and_left a b off = rw off refl

pub same_cut : (a b : Maybe File) → IsSameFile a b → is_cut a b ≡ false
same_cut (Ok f) (Ok g) same = not_less (length g.bytes) (length f.bytes) (subst (λ (l : List ℕ). length f.bytes ≤ length l) same (omega arith))
same_cut (Err f) (Err g) same = refl
same_cut (Ok f) (Err g) same = absurd same
same_cut (Err f) (Ok g) same = absurd same

same_removed : (a b : Maybe File) (i : ℕ) → IsSameFile a b → is_removed a b i ≡ false
same_removed (Ok f) (Ok g) i same = and_left (nat_lt (length g.bytes) (length f.bytes)) (nat_le (length g.bytes) i) (not_less (length g.bytes) (length f.bytes) (subst (λ (l : List ℕ). length f.bytes ≤ length l) same (omega arith)))
same_removed (Err f) (Err g) i same = refl
same_removed (Ok f) (Err g) i same = absurd same
same_removed (Err f) (Ok g) i same = absurd same

-- an event that leaves the bytes of the file
pub quiet_by : (mode : Logging) (o : World) (h : List Event) (e : Event) (n : ℕ) → IsSameFile (before o h e n) (afterwards o h e n) → IsQuiet (story mode o h n) (story mode o (h ++ e ∷ []) n)
quiet_by mode o h e n same = record {
  follows = follows mode o h e n;
  same_size = size_next mode o h e n ∙ same_size (before o h e n) (afterwards o h e n) same ∙ sym (size_now mode o h e n);
  same_byte = λ i. byte_next mode o h e n i ∙ same_byte (before o h e n) (afterwards o h e n) i same ∙ sym (byte_now mode o h e n i);
  uncut = shrinks_next mode o h e n ∙ same_cut (before o h e n) (afterwards o h e n) same;
  unremoved = λ i. removes_next mode o h e n i ∙ same_removed (before o h e n) (afterwards o h e n) i same;
}
