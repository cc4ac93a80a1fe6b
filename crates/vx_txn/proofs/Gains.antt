-- What a batch gains with a sector more.
use Rattle.std.proofs.Common.{◌≡◌, ◌⊎◌, ℕ, zero, suc, ◌+◌, ◌<◌, ◌≤◌, Bool, true, false, cond, List, [], ◌∷◌, length, take, get_or, refl, sym, ap, subst, arith, inl, inr}
use Rattle.std.specs.Prelude.{◌==◌, ◌&&◌, ◌||◌, nat_lt}
use Rattle.std.specs.List.{AllByRecursion}
use Rattle.std.proofs.lemmas.Bool.{eq-eqb, eqb-true, and_parts}
use Rattle.vx_model.specs.Touching.{BlockPlace, has_place}
use Rattle.std.proofs.lemmas.List.{take_all}
use Rattle.vx_layout.specs.LogForms.{AfterImage}
use Rattle.vx_log.specs.Batches.{batch_set}
use Rattle.vx_model.specs.Images.{among, sectors_in}
use Rattle.vx_model.specs.State.{State}
use Rattle.vx_txn.specs.Metas.{Stands}
use Rattle.vx_txn.specs.Staged.{IsRight, Adds, Each, EachPlace}
use Rattle.vx_txn.specs.declared.meta.Meta.{Meta}

-- ---- tests

or_left : (a b : Bool) → a ≡ true → (a || b) ≡ true
or_left a b h = ap (λ t. t || b) h

or_right : (a b : Bool) → b ≡ true → (a || b) ≡ true
or_right true b h = refl
or_right false b h = h

either : (a b : Bool) → (a || b) ≡ true → (a ≡ true) ⊎ (b ≡ true)
either true b h = inl refl
either false b h = inr h

-- ---- a batch with one sector more

by_cases : (b : Bool) (P : List AfterImage → Type 0) (x y : List AfterImage) → (b ≡ true → P x) → (b ≡ false → P y) → P (cond b x y)
by_cases true P x y p q = p refl
by_cases false P x y p q = q refl

few_set : (batch : List AfterImage) (s : ℕ) (x : List ℕ) → length (batch_set batch s x) ≤ length batch + 1
few_set [] s x = omega arith
few_set (e ∷ es) s x =
    let P : List AfterImage → Type 0 = λ b. length b ≤ length (e ∷ es) + 1 in
    by_cases (nat_lt e.0 s) P (e ∷ batch_set es s x) (cond (e.0 == s) ((s, x) ∷ es) ((s, x) ∷ e ∷ es)) (λ _. omega (arith, few_set es s x))
    (λ _. by_cases (e.0 == s) P ((s, x) ∷ es) ((s, x) ∷ e ∷ es) (λ _. omega arith) (λ _. omega arith))

all_set : (P : AfterImage → Type 0) (batch : List AfterImage) (s : ℕ) (x : List ℕ) → AllByRecursion P batch → P (s, x) → AllByRecursion P (batch_set batch s x)
all_set P [] s x h p = (p, tt)
all_set P (e ∷ es) s x h p =
    by_cases (nat_lt e.0 s) (AllByRecursion P) (e ∷ batch_set es s x) (cond (e.0 == s) ((s, x) ∷ es) ((s, x) ∷ e ∷ es)) (λ _. (h.0, all_set P es s x h.1 p))
    (λ _. by_cases (e.0 == s) (AllByRecursion P) ((s, x) ∷ es) ((s, x) ∷ e ∷ es) (λ _. (p, h.1)) (λ _. (p, h)))

abbrev pub Has : ℕ → List AfterImage → Type 0
Has t batch = sectors_in batch t ≡ true

has_set : (batch : List AfterImage) (s : ℕ) (x : List ℕ) → Has s (batch_set batch s x)
has_set [] s x = or_left (s == s) false (eq-eqb s s refl)
has_set (e ∷ es) s x =
    by_cases (nat_lt e.0 s) (Has s) (e ∷ batch_set es s x) (cond (e.0 == s) ((s, x) ∷ es) ((s, x) ∷ e ∷ es)) (λ _. or_right (e.0 == s) (sectors_in (batch_set es s x) s) (has_set es s x))
    (λ _. by_cases (e.0 == s) (Has s) ((s, x) ∷ es) ((s, x) ∷ e ∷ es) (λ _. or_left (s == s) (sectors_in es s) (eq-eqb s s refl))
    (λ _. or_left (s == s) (sectors_in (e ∷ es) s) (eq-eqb s s refl)))

pub still_has : (batch : List AfterImage) (s : ℕ) (x : List ℕ) (t : ℕ) → Has t batch → Has t (batch_set batch s x)
still_has [] s x t h = absurd cc
still_has (e ∷ es) s x t h =
    by_cases (nat_lt e.0 s) (Has t) (e ∷ batch_set es s x) (cond (e.0 == s) ((s, x) ∷ es) ((s, x) ∷ e ∷ es))
    (λ _. elim (either (e.0 == t) (sectors_in es t) h) [
      | inl here ↦ or_left (e.0 == t) (sectors_in (batch_set es s x) t) here
      | inr later ↦ or_right (e.0 == t) (sectors_in (batch_set es s x) t) (still_has es s x t later)
    ])
    (λ _. by_cases (e.0 == s) (Has t) ((s, x) ∷ es) ((s, x) ∷ e ∷ es) (λ same. subst (λ (w : ℕ). (w == t || sectors_in es t) ≡ true) (eqb-true e.0 s same) h)
    (λ _. or_right (s == t) (sectors_in (e ∷ es) t) h))

-- ---- gains

pub adds_none : (m : Meta) (n : ℕ) (batch : List AfterImage) → Adds m n batch batch
adds_none m n batch = record { few = omega arith; keeps = λ t h. h; right = λ s is h. h }

pub adds_more : (m : Meta) (a b n : ℕ) (x y z : List AfterImage) → Adds m a x y → Adds m b y z → a + b ≤ n → Adds m n x z
adds_more m a b n x y z one two le = record {
  few = omega (arith, one.few, two.few);
  keeps = λ t h. two.keeps t (one.keeps t h);
  right = λ s is h. two.right s is (one.right s is h);
}

pub adds_set : (m : Meta) (old new : List AfterImage) (at : ℕ) (x : List ℕ) → new ≡ batch_set old at x → ((s : State) → Stands m s → IsRight s (at, x)) → Adds m 1 old new
adds_set m old new at x is right = subst (λ (b : List AfterImage). Adds m 1 old b) (sym is) (record {
  few = few_set old at x;
  keeps = λ t h. still_has old at x t h;
  right = λ s stands h. all_set (IsRight s) old at x h (right s stands);
})

pub has_new : (old new : List AfterImage) (at t : ℕ) (x : List ℕ) → new ≡ batch_set old at x → at ≡ t → sectors_in new t ≡ true
has_new old new at t x is same = subst (λ (b : List AfterImage). Has t b) (sym is) (subst (λ (w : ℕ). Has w (batch_set old at x)) same (has_set old at x))

pub set_room : (old new : List AfterImage) (at : ℕ) (x : List ℕ) → new ≡ batch_set old at x → length old + 2 ≤ 400 → length new < 400
set_room old new at x is room = subst (λ (b : List AfterImage). length b < 400) (sym is) (omega (arith, few_set old at x, room))

-- ---- one number after another

next : (i : ℕ) → suc i + 1 ≡ suc (i + 1)
next i = omega arith

among_one_more : (xs : List ℕ) (i n : ℕ) → i < length xs → among (take (i + 1) xs) n ≡ true → (n ≡ get_or xs i 0) ⊎ (among (take i xs) n ≡ true)
among_one_more [] i n lt h = absurd (omega (arith, lt))
among_one_more (x ∷ xs) zero n lt h = elim (either (n == x) false h) [
  | inl e ↦ inl (eqb-true n x e)
  | inr other ↦ absurd cc
]
among_one_more (x ∷ xs) (suc i) n lt h = elim (either (n == x) (among (take (i + 1) xs) n) (subst (λ (k : ℕ). among (take k (x ∷ xs)) n ≡ true) (next i) h)) [
  | inl e ↦ inr (or_left (n == x) (among (take i xs) n) e)
  | inr later ↦ elim (among_one_more xs i n (omega (arith, lt)) later) [
    | inl last ↦ inl last
    | inr before ↦ inr (or_right (n == x) (among (take i xs) n) before)
  ]
]

pub each_more : (P Q : ℕ → Type 0) (xs : List ℕ) (i : ℕ) → i < length xs → Each P (take i xs) → ((n : ℕ) → P n → Q n) → Q (get_or xs i 0) → Each Q (take (i + 1) xs)
each_more P Q xs i lt before keeps here = λ n h. elim (among_one_more xs i n lt h) [
  | inl last ↦ subst Q (sym last) here
  | inr earlier ↦ keeps n (before n earlier)
]

pub each_all : (P : ℕ → Type 0) (xs : List ℕ) (i : ℕ) → length xs ≤ i → Each P (take i xs) → Each P xs
each_all P xs i le each = subst (λ (ys : List ℕ). Each P ys) (take_all i xs le) each

-- ---- one place after another

place_one_more : (ps : List BlockPlace) (i n j : ℕ) (d : BlockPlace) → i < length ps → has_place (take (i + 1) ps) n j ≡ true → (record { ino = n; index = j } ≡ get_or ps i d) ⊎ (has_place (take i ps) n j ≡ true)
place_one_more [] i n j d lt h = absurd (omega (arith, lt))
place_one_more (p ∷ ps) zero n j d lt h = elim (either (n == p.ino && j == p.index) false h) [
  | inl e ↦ inl (let parts = and_parts _ _ e in (λ k. record { ino = eqb-true n p.ino parts.0 k; index = eqb-true j p.index parts.1 k }))
  | inr other ↦ absurd cc
]
place_one_more (p ∷ ps) (suc i) n j d lt h = elim (either (n == p.ino && j == p.index) (has_place (take (i + 1) ps) n j) (subst (λ (k : ℕ). has_place (take k (p ∷ ps)) n j ≡ true) (next i) h)) [
  | inl e ↦ inr (or_left (n == p.ino && j == p.index) (has_place (take i ps) n j) e)
  | inr later ↦ elim (place_one_more ps i n j d (omega (arith, lt)) later) [
    | inl last ↦ inl last
    | inr before ↦ inr (or_right (n == p.ino && j == p.index) (has_place (take i ps) n j) before)
  ]
]

pub each_place_more : (P Q : BlockPlace → Type 0) (ps : List BlockPlace) (i : ℕ) (d : BlockPlace) → i < length ps → EachPlace P (take i ps) → ((p : BlockPlace) → P p → Q p) → Q (get_or ps i d) → EachPlace Q (take (i + 1) ps)
each_place_more P Q ps i d lt before keeps here = λ n j h. elim (place_one_more ps i n j d lt h) [
  | inl last ↦ subst Q (sym last) here
  | inr earlier ↦ keeps (record { ino = n; index = j }) (before n j earlier)
]

pub each_place_all : (P : BlockPlace → Type 0) (ps : List BlockPlace) (i : ℕ) → length ps ≤ i → EachPlace P (take i ps) → EachPlace P ps
each_place_all P ps i le each = subst (λ (qs : List BlockPlace). EachPlace P qs) (take_all i ps le) each
