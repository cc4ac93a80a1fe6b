-- Where a sector stands in a batch, and what a set leaves.
use Rattle.std.proofs.Common.{◌≡◌, ◌≢◌, ◌+◌, ◌<◌, ◌≤◌, ℕ, zero, suc, Bool, true, false, List, [], ◌∷◌, length, get_or, set, refl, sym, ◌∙◌, ap, subst, inl, inr, arith, Contains, length-set}
use Rattle.std.specs.Prelude.{◌==◌, nat_eq, nat_lt, insert}
use Rattle.std.specs.List.Sorted.{IsStrictlyIncreasing, IsNonDecreasingBy, IsPartitionPoint}
use Rattle.std.proofs.lemmas.Bool.{cases_lt, cases_eq}
use Rattle.std.proofs.lemmas.Bool.Decides.{nat_tests}
use Rattle.std.proofs.lemmas.List.{get_or-map, length-map, get_or_default}
use Rattle.std.proofs.lemmas.List.Edits.{length-insert}
use Rattle.vx_layout.specs.LogForms.{AfterImage}
use Rattle.vx_log.specs.Batches.{sectors_of, batch_set, IsBatch, HasRoom, IsPlaceOf, StandsAt, LacksAt}

-- the sectors rise, and none is below low
abbrev pub RisesFrom : ℕ → List AfterImage → Type 0
RisesFrom low [] = Unit {0}
RisesFrom low (e ∷ es) = (low ≤ e.0) × RisesFrom (e.0 + 1) es

pub RisesFrom-of : (low : ℕ) (b : List AfterImage) → IsStrictlyIncreasing (sectors_of b) → (0 < length b → low ≤ get_or (sectors_of b) 0 0) → RisesFrom low b
RisesFrom-of low [] h from = tt
RisesFrom-of low (e ∷ es) h from =
    let first : low ≤ e.0 = from (omega arith) in
    let rest : IsStrictlyIncreasing (sectors_of es) = λ k lt.
    let next : suc k + 1 ≡ suc (k + 1) = omega arith in
    subst (λ (j : ℕ). get_or (sectors_of es) k 0 < get_or (sectors_of (e ∷ es)) j 0) next (h (suc k) (omega (arith, lt))) in (
      first,
      RisesFrom-of (e.0 + 1) es rest (λ some.
          let one : 0 + 1 ≡ suc zero = refl in
          let next : e.0 < get_or (sectors_of es) 0 0 = subst (λ (j : ℕ). e.0 < get_or (sectors_of (e ∷ es)) j 0) one (h 0 (omega (arith, some, length-map es (λ (x : AfterImage). x.0)))) in
          omega (arith, next)),
    )

RisesFrom-first : (low : ℕ) (b : List AfterImage) → RisesFrom low b → 0 < length b → low ≤ get_or (sectors_of b) 0 0
RisesFrom-first low [] h some = absurd (omega (arith, some))
RisesFrom-first low (e ∷ es) h some = h.0

pub rising : (low : ℕ) (b : List AfterImage) → RisesFrom low b → IsStrictlyIncreasing (sectors_of b)
rising low [] h k lt = absurd (omega (arith, lt))
rising low (e ∷ es) h zero lt =
    let first : e.0 + 1 ≤ get_or (sectors_of es) 0 0 = RisesFrom-first (e.0 + 1) es h.1 (omega (arith, lt, length-map es (λ (x : AfterImage). x.0))) in
    let one : suc zero ≡ 0 + 1 = refl in
    let next : e.0 < get_or (sectors_of es) 0 0 = omega (arith, first) in
    subst (λ (j : ℕ). e.0 < get_or (sectors_of (e ∷ es)) j 0) one next
rising low (e ∷ es) h (suc k) lt =
    let next : suc (k + 1) ≡ suc k + 1 = omega arith in
    subst (λ (j : ℕ). get_or (sectors_of es) k 0 < get_or (sectors_of (e ∷ es)) j 0) next (rising (e.0 + 1) es h.1 k (omega (arith, lt)))

-- a set keeps the order
RisesFrom-set : (low : ℕ) (b : List AfterImage) (s : ℕ) (x : List ℕ) → RisesFrom low b → low ≤ s → RisesFrom low (batch_set b s x)
RisesFrom-set low [] s x h le = (le, tt)
RisesFrom-set low (e ∷ es) s x h le = elim (cases_lt e.0 s) [
  | inl less ↦
      let test : nat_lt e.0 s ≡ true = grind (arith, nat_tests) in
      rw test (h.0, RisesFrom-set (e.0 + 1) es s x h.1 (omega (arith, less)))
  | inr more ↦
      let test : nat_lt e.0 s ≡ false = grind (arith, nat_tests) in
      rw test (elim (cases_eq e.0 s) [
        | inl same ↦
            let equal : (e.0 == s) ≡ true = grind (arith, nat_tests) in
            rw equal (le, subst (λ (j : ℕ). RisesFrom (j + 1) es) same h.1)
        | inr other ↦
            let differ : (e.0 == s) ≡ false = grind (arith, nat_tests) in
            rw differ (let up : s + 1 ≤ e.0 = omega (arith, more, other) in (le, (up, h.1)))
      ])
]

pub rising_set : (b : List AfterImage) (s : ℕ) (x : List ℕ) → IsStrictlyIncreasing (sectors_of b) → IsStrictlyIncreasing (sectors_of (batch_set b s x))
rising_set b s x h = rising 0 (batch_set b s x) (RisesFrom-set 0 b s x (RisesFrom-of 0 b h (λ _. omega arith)) (omega arith))

at_least : (low : ℕ) (b : List AfterImage) (k : ℕ) (d : AfterImage) → RisesFrom low b → k < length b → low ≤ (get_or b k d).0
at_least low [] k d h lt = absurd (omega (arith, lt))
at_least low (e ∷ es) zero d h lt = h.0
at_least low (e ∷ es) (suc k) d h lt = let rest : e.0 + 1 ≤ (get_or es k d).0 = at_least (e.0 + 1) es k d h.1 (omega (arith, lt)) in omega (arith, h.0, rest)

in_order : (low : ℕ) (b : List AfterImage) (i j : ℕ) (d : AfterImage) → RisesFrom low b → i ≤ j → j < length b → (get_or b i d).0 ≤ (get_or b j d).0
in_order low [] i j d h le lt = absurd (omega (arith, lt))
in_order low (e ∷ es) zero zero d h le lt = omega arith
in_order low (e ∷ es) zero (suc j) d h le lt = let rest : e.0 + 1 ≤ (get_or es j d).0 = at_least (e.0 + 1) es j d h.1 (omega (arith, lt)) in omega (arith, rest)
in_order low (e ∷ es) (suc i) zero d h le lt = absurd (omega (arith, le))
in_order low (e ∷ es) (suc i) (suc j) d h le lt = in_order (e.0 + 1) es i j d h.1 (omega (arith, le)) (omega (arith, lt))

pub batch_in_order : (b : List AfterImage) → IsStrictlyIncreasing (sectors_of b) → IsNonDecreasingBy (λ (e : AfterImage). e.0) b
batch_in_order b h i j d le lt = in_order 0 b i j d (RisesFrom-of 0 b h (λ _. omega arith)) le lt

-- what a search answers
pub place_found : (b : List AfterImage) (s i : ℕ) → i ≤ length b → IsPartitionPoint (λ (e : AfterImage). nat_lt e.0 s ≡ true) (λ (e : AfterImage). nat_lt e.0 s ≡ false) b i → IsPlaceOf b s i
place_found b s i le found = record {
  bound = le;
  below = λ k lt. let d : AfterImage = (0, []) in let test : nat_lt (get_or b k d).0 s ≡ true = found.0 k d (omega arith) lt in
      let less : (get_or b k d).0 < s = grind (arith, nat_tests) in rw (get_or-map (λ (e : AfterImage). e.0) b k d 0 (omega (arith, lt, le))) less;
  above = λ k from lt. let d : AfterImage = (0, []) in let test : nat_lt (get_or b k d).0 s ≡ false = found.1 k d from lt in
      let more : s ≤ (get_or b k d).0 = grind (arith, nat_tests) in rw (get_or-map (λ (e : AfterImage). e.0) b k d 0 lt) more;
}

place_next : (e : AfterImage) (es : List AfterImage) (s i : ℕ) → IsPlaceOf (e ∷ es) s (suc i) → IsPlaceOf es s i
place_next e es s i p = record {
  bound = omega (arith, p.bound);
  below = λ k lt. p.below (suc k) (omega (arith, lt));
  above = λ k from lt. p.above (suc k) (omega (arith, from)) (omega (arith, lt));
}

-- where the sector stands already, it is replaced
pub batch_set_same : (b : List AfterImage) (s i : ℕ) (x : List ℕ) → IsPlaceOf b s i → i < length b → get_or (sectors_of b) i 0 ≡ s → batch_set b s x ≡ set b i (s, x)
batch_set_same [] s i x p lt is = absurd (omega (arith, lt))
batch_set_same (e ∷ es) s zero x p lt is =
    let test : nat_lt e.0 s ≡ false = (let same : e.0 ≡ s = is in grind (arith, nat_tests)) in
    let equal : (e.0 == s) ≡ true = (let same : e.0 ≡ s = is in grind (arith, nat_tests)) in
    rw (test, equal) refl
batch_set_same (e ∷ es) s (suc i) x p lt is =
    let less : e.0 < s = p.below 0 (omega arith) in
    let test : nat_lt e.0 s ≡ true = grind (arith, nat_tests) in
    rw test (ap (λ (l : List AfterImage). e ∷ l) (batch_set_same es s i x (place_next e es s i p) (omega (arith, lt)) is))

-- else it is put there
pub batch_set_new : (b : List AfterImage) (s i : ℕ) (x : List ℕ) → IsPlaceOf b s i → (i < length b → get_or (sectors_of b) i 0 ≢ s) → batch_set b s x ≡ insert b i (s, x)
batch_set_new [] s zero x p other = refl
batch_set_new [] s (suc i) x p other = absurd (omega (arith, p.bound))
batch_set_new (e ∷ es) s zero x p other =
    let more : s ≤ e.0 = p.above 0 (omega arith) (omega arith) in
    let differ : e.0 ≢ s = other (omega arith) in
    let test : nat_lt e.0 s ≡ false = grind (arith, nat_tests) in
    let unequal : (e.0 == s) ≡ false = grind (arith, nat_tests) in
    rw (test, unequal) refl
batch_set_new (e ∷ es) s (suc i) x p other =
    let less : e.0 < s = p.below 0 (omega arith) in
    let test : nat_lt e.0 s ≡ true = grind (arith, nat_tests) in
    rw test (ap (λ (l : List AfterImage). e ∷ l) (batch_set_new es s i x (place_next e es s i p) (λ lt. other (omega (arith, lt)))))

-- what stands at another place is another sector
pub not_contained : (b : List AfterImage) (s i : ℕ) → IsStrictlyIncreasing (sectors_of b) → IsPlaceOf b s i → (i < length b → get_or (sectors_of b) i 0 ≢ s) → Contains (sectors_of b) s → ⊥
not_contained b s i h p other (k, lt, is) =
    let within : k < length b = omega (arith, lt, length-map b (λ (e : AfterImage). e.0)) in
    let here : get_or (sectors_of b) k 0 ≡ s = get_or_default (sectors_of b) k 0 s lt ∙ is in
    elim (cases_lt k i) [
      | inl less ↦ omega (arith, p.below k less, here)
      | inr more ↦
          let place : i < length b = omega (arith, more, within) in
          let d : AfterImage = (0, []) in
          let ordered : (get_or b i d).0 ≤ (get_or b k d).0 = batch_in_order b h i k d more within in
          let at_i : get_or (sectors_of b) i 0 ≡ (get_or b i d).0 = get_or-map (λ (e : AfterImage). e.0) b i d 0 place in
          let at_k : get_or (sectors_of b) k 0 ≡ (get_or b k d).0 = get_or-map (λ (e : AfterImage). e.0) b k d 0 within in
          omega (arith, p.above i (omega arith) place, other place, ordered, at_i, at_k, here)
    ]

pub contained : (b : List AfterImage) (s i : ℕ) → i < length b → get_or (sectors_of b) i 0 ≡ s → Contains (sectors_of b) s
contained b s i lt is =
    let within : i < length (sectors_of b) = omega (arith, lt, length-map b (λ (e : AfterImage). e.0)) in
    (i, within, sym (get_or_default (sectors_of b) i 0 s within) ∙ is)

pub lacks_at : (b : List AfterImage) (s i : ℕ) → IsBatch b → IsPlaceOf b s i → (i < length b → get_or (sectors_of b) i 0 ≢ s) → LacksAt b s i
lacks_at b s i h p other = record { place = p; other = other; lacks = not_contained b s i h.rising p other }

-- what was read there is another sector
pub other_sector : (b : List AfterImage) (s i : ℕ) (d : AfterImage) (test : Bool) → test ≡ nat_eq (get_or b i d).0 s → test ≡ false → i < length b → get_or (sectors_of b) i 0 ≢ s
other_sector b s i d test compared differ lt same =
    let equal : (get_or b i d).0 ≡ s = sym (get_or-map (λ (e : AfterImage). e.0) b i d 0 lt) ∙ same in
    let unequal : nat_eq (get_or b i d).0 s ≡ false = sym compared ∙ differ in
    grind (arith, nat_tests)

pub set_same : (b : List AfterImage) (s i : ℕ) (x : List ℕ) → IsBatch b → StandsAt b s i → IsBatch (set b i (s, x))
set_same b s i x h at =
    let same : batch_set b s x ≡ set b i (s, x) = batch_set_same b s i x at.place at.within at.same in
    record {
      rising = subst (λ (l : List AfterImage). IsStrictlyIncreasing (sectors_of l)) same (rising_set b s x h.rising);
      short = omega (arith, h.short, length-set b i (s, x));
    }

-- a batch that lacks the sector has room
pub room_for : (b : List AfterImage) (s i : ℕ) → LacksAt b s i → HasRoom b s → length b < 400
room_for b s i at (inl has) = absurd (at.lacks has)
room_for b s i at (inr short) = short

pub set_new : (b : List AfterImage) (s i : ℕ) (x : List ℕ) → IsBatch b → LacksAt b s i → HasRoom b s → IsBatch (insert b i (s, x))
set_new b s i x h at room =
    let same : batch_set b s x ≡ insert b i (s, x) = batch_set_new b s i x at.place at.other in
    let short : length b < 400 = room_for b s i at room in
    record {
      rising = subst (λ (l : List AfterImage). IsStrictlyIncreasing (sectors_of l)) same (rising_set b s x h.rising);
      short = omega (arith, short, length-insert b i (s, x) at.place.bound);
    }
