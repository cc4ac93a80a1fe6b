-- What the after-images of a batch make of a sector.
use Rattle.std.proofs.Common.{◌≡◌, ◌≢◌, ◌==◌, ◌+◌, ◌*◌, ◌≤◌, ◌<◌, ℕ, zero, suc, Bool, true, false, List, [], ◌∷◌, ◌++◌, length, map, get_or, take, drop, refl, sym, ◌∙◌, ap, inl, inr, arith, length-drop, Contains}
use Rattle.std.specs.Prelude.{nat_lt, if◌then◌else◌}
use Rattle.std.proofs.lemmas.Bool.{cases_lt, cases_eq}
use Rattle.std.proofs.lemmas.Bool.Decides.{nat_tests}
use Rattle.std.proofs.lemmas.List.{take-append-drop, nil_from_length}
use Rattle.vx_layout.specs.LogForms.{AfterImage, record_count, records_from, records_of, overlay, overlay_all}
use Rattle.vx_log.specs.Batches.{sectors_of, batch_set, IsBatch}
use Rattle.vx_log.specs.Crashes.{IsDecided}
use Rattle.vx_log.proofs.BatchOrder.{RisesFrom, RisesFrom-of}

overlay-append : (xs ys : List AfterImage) (s : ℕ) (x : List ℕ) → overlay (xs ++ ys) s x ≡ overlay ys s (overlay xs s x)
overlay-append [] ys s x = refl
overlay-append (e ∷ xs) ys s x = overlay-append xs ys s (if e.0 == s then e.1 else x)

overlay_all-from : (k : ℕ) (b : List AfterImage) (s : ℕ) (x : List ℕ) → length b ≤ 124 * k → overlay_all (records_from k b) s x ≡ overlay b s x
overlay_all-from zero b s x le = ap (λ (l : List AfterImage). overlay l s x) (sym (nil_from_length b (omega (arith, le))))
overlay_all-from (suc k) b s x le =
    overlay_all-from k (drop 124 b) s (overlay (take 124 b) s x) (omega (arith, le, length-drop 124 b))
    ∙ sym (overlay-append (take 124 b) (drop 124 b) s x)
    ∙ ap (λ (l : List AfterImage). overlay l s x) (take-append-drop 124 b)

-- the records of a batch make what the batch makes
pub overlay_all-records_of : (b : List AfterImage) (s : ℕ) (x : List ℕ) → overlay_all (records_of b) s x ≡ overlay b s x
unfolding records_of
overlay_all-records_of b s x = overlay_all-from (record_count (length b)) b s x (omega arith)

-- a sector that the batch has
pub overlay_has : (b : List AfterImage) (s : ℕ) (x y : List ℕ) → Contains (sectors_of b) s → overlay b s x ≡ overlay b s y
overlay_has [] s x y (k, lt, is) = absurd (omega (arith, lt))
overlay_has (e ∷ es) s x y (zero, lt, is) =
    let same : (e.0 == s) ≡ true = (let equal : e.0 ≡ s = is in grind (arith, nat_tests)) in
    rw same refl
overlay_has (e ∷ es) s x y (suc k, lt, is) = overlay_has es s (if e.0 == s then e.1 else x) (if e.0 == s then e.1 else y) (k, omega (arith, lt), is)

-- and one that it lacks
pub overlay_lacks : (b : List AfterImage) (s : ℕ) (x : List ℕ) → (Contains (sectors_of b) s → ⊥) → overlay b s x ≡ x
overlay_lacks [] s x lacks = refl
overlay_lacks (e ∷ es) s x lacks =
    let differ : (e.0 == s) ≡ false = (let other : e.0 ≢ s = (λ same. lacks (0, omega arith, same)) in grind (arith, nat_tests)) in
    let rest : Contains (sectors_of es) s → ⊥ = (λ (k, lt, is). lacks (suc k, omega (arith, lt), is)) in
    rw differ (overlay_lacks es s x rest)

-- the records decide each sector that the batch has
pub batch_decides : (b : List AfterImage) (s : ℕ) → Contains (sectors_of b) s → IsDecided (records_of b) s
batch_decides b s has x y = overlay_all-records_of b s x ∙ overlay_has b s x y has ∙ sym (overlay_all-records_of b s y)

lacks_below : (low : ℕ) (b : List AfterImage) (s : ℕ) (x : List ℕ) → RisesFrom low b → s < low → overlay b s x ≡ x
lacks_below low [] s x h lt = refl
lacks_below low (e ∷ es) s x h lt =
    let differ : (e.0 == s) ≡ false = (let other : e.0 ≢ s = (λ same. omega (arith, h.0, lt, same)) in grind (arith, nat_tests)) in
    rw differ (lacks_below (e.0 + 1) es s x h.1 (omega (arith, h.0, lt)))

if_true : (b : Bool) (x y : List ℕ) → b ≡ true → (if b then x else y) ≡ x
if_true b x y is = ap (λ (c : Bool). if c then x else y) is

if_false : (b : Bool) (x y : List ℕ) → b ≡ false → (if b then x else y) ≡ y
if_false b x y is = ap (λ (c : Bool). if c then x else y) is

-- in place of the first sector
overlay_set_same : (e : AfterImage) (es : List AfterImage) (u : ℕ) (image : List ℕ) (s : ℕ) (x : List ℕ) → RisesFrom (e.0 + 1) es → e.0 ≡ u → overlay ((u, image) ∷ es) s x ≡ (if u == s then image else overlay (e ∷ es) s x)
overlay_set_same e es u image s x h same = elim (cases_eq u s) [
  | inl at ↦
      let here : (u == s) ≡ true = grind (arith, nat_tests) in
      ap (λ (y : List ℕ). overlay es s y) (if_true (u == s) image x here) ∙ lacks_below (e.0 + 1) es s image h (omega (arith, same, at)) ∙ sym (if_true (u == s) image (overlay (e ∷ es) s x) here)
  | inr other ↦
      let there : (u == s) ≡ false = grind (arith, nat_tests) in
      let differ : (e.0 == s) ≡ false = (let unequal : e.0 ≢ s = (λ is. other (omega (arith, is, same))) in grind (arith, nat_tests)) in
      ap (λ (y : List ℕ). overlay es s y) (if_false (u == s) image x there ∙ sym (if_false (e.0 == s) e.1 x differ)) ∙ sym (if_false (u == s) image (overlay (e ∷ es) s x) there)
]

-- before all sectors
overlay_set_first : (low : ℕ) (b : List AfterImage) (u : ℕ) (image : List ℕ) (s : ℕ) (x : List ℕ) → RisesFrom low b → u < low → overlay ((u, image) ∷ b) s x ≡ (if u == s then image else overlay b s x)
overlay_set_first low b u image s x h below = elim (cases_eq u s) [
  | inl at ↦
      let here : (u == s) ≡ true = grind (arith, nat_tests) in
      ap (λ (y : List ℕ). overlay b s y) (if_true (u == s) image x here) ∙ lacks_below low b s image h (omega (arith, below, at)) ∙ sym (if_true (u == s) image (overlay b s x) here)
  | inr other ↦
      let there : (u == s) ≡ false = grind (arith, nat_tests) in
      ap (λ (y : List ℕ). overlay b s y) (if_false (u == s) image x there) ∙ sym (if_false (u == s) image (overlay b s x) there)
]

overlay_set_from : (low : ℕ) (b : List AfterImage) (u : ℕ) (image : List ℕ) (s : ℕ) (x : List ℕ) → RisesFrom low b → overlay (batch_set b u image) s x ≡ (if u == s then image else overlay b s x)
overlay_set_from low [] u image s x h = refl
overlay_set_from low (e ∷ es) u image s x h = elim (cases_lt e.0 u) [
  | inl less ↦
      let test : nat_lt e.0 u ≡ true = grind (arith, nat_tests) in
      rw test (overlay_set_from (e.0 + 1) es u image s (if e.0 == s then e.1 else x) h.1)
  | inr more ↦
      let test : nat_lt e.0 u ≡ false = grind (arith, nat_tests) in
      rw test (elim (cases_eq e.0 u) [
        | inl same ↦
            let equal : (e.0 == u) ≡ true = grind (arith, nat_tests) in
            rw equal (overlay_set_same e es u image s x h.1 same)
        | inr apart ↦
            let unequal : (e.0 == u) ≡ false = grind (arith, nat_tests) in
            let below : u < e.0 = omega (arith, more, apart) in
            let above : RisesFrom e.0 (e ∷ es) = (omega arith, h.1) in
            rw unequal (overlay_set_first e.0 (e ∷ es) u image s x above below)
      ])
]

-- the sector that is set has the new image, and each other what it had
pub overlay-batch_set : (b : List AfterImage) (u : ℕ) (image : List ℕ) (s : ℕ) (x : List ℕ) → IsBatch b → overlay (batch_set b u image) s x ≡ (if u == s then image else overlay b s x)
overlay-batch_set b u image s x h = overlay_set_from 0 b u image s x (RisesFrom-of 0 b h.rising (λ _. omega arith))

overlay_at_from : (low : ℕ) (b : List AfterImage) (i : ℕ) (x : List ℕ) → RisesFrom low b → i < length b → overlay b (get_or (sectors_of b) i 0) x ≡ get_or (map (λ (e : AfterImage). e.1) b) i []
overlay_at_from low [] i x h lt = absurd (omega (arith, lt))
overlay_at_from low (e ∷ es) zero x h lt =
    let same : (e.0 == e.0) ≡ true = grind (arith, nat_tests) in
    rw same (lacks_below (e.0 + 1) es e.0 e.1 h.1 (omega arith))
overlay_at_from low (e ∷ es) (suc i) x h lt = overlay_at_from (e.0 + 1) es i (if e.0 == get_or (sectors_of es) i 0 then e.1 else x) h.1 (omega (arith, lt))

-- each sector of the batch has its image
pub overlay_at : (b : List AfterImage) (i : ℕ) (x : List ℕ) → IsBatch b → i < length b → overlay b (get_or (sectors_of b) i 0) x ≡ get_or (map (λ (e : AfterImage). e.1) b) i []
overlay_at b i x h lt = overlay_at_from 0 b i x (RisesFrom-of 0 b h.rising (λ _. omega arith)) lt

-- a set adds a sector at most
pub length-batch_set : (b : List AfterImage) (s : ℕ) (image : List ℕ) → (length b ≤ length (batch_set b s image)) × (length (batch_set b s image) ≤ length b + 1)
length-batch_set [] s image = (omega arith, omega arith)
length-batch_set (e ∷ es) s image = elim (cases_lt e.0 s) [
  | inl less ↦
      let test : nat_lt e.0 s ≡ true = grind (arith, nat_tests) in
      let rest = length-batch_set es s image in
      rw test (omega (arith, rest.0), omega (arith, rest.1))
  | inr more ↦
      let test : nat_lt e.0 s ≡ false = grind (arith, nat_tests) in
      rw test (elim (cases_eq e.0 s) [
        | inl same ↦ let equal : (e.0 == s) ≡ true = grind (arith, nat_tests) in rw equal (omega arith, omega arith)
        | inr other ↦ let differ : (e.0 == s) ≡ false = grind (arith, nat_tests) in rw differ (omega arith, omega arith)
      ])
]
