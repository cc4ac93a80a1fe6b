-- Blocks that are claimed once.
use Rattle.std.proofs.Common.{rules, ◌≡◌, ◌≢◌, ℕ, zero, suc, ◌+◌, ◌-◌, ◌<◌, Bool, true, false, List, [], ◌∷◌, ◌++◌, length, take, drop, get_or, refl, sym, ap, subst, ◌∙◌, arith, append_assoc}
use Rattle.std.specs.Prelude.{IsTrue, ◌==◌, ◌||◌}
use Rattle.vx_sound.specs.Said.{among}
use Rattle.std.specs.List.{flat_map, AllByRecursion}
use Rattle.std.proofs.lemmas.List.{append-nil, get_or_past}
use Rattle.std.proofs.lemmas.Grind.{flat_map-append}
use Rattle.vx_base.specs.declared.inode.Extent.{Extent}
use Rattle.vx_layout.specs.Places.{Volume, is_data}
use Rattle.vx_sound.specs.FirstFault.{numbers}
use Rattle.vx_sound.specs.Said.{extent_blocks}
use Rattle.vx_sound.specs.Facts.{IsClaimable, AreClaimable}
use Rattle.vx_check.specs.Parts.{AreMarksOf}

pub numbers_more : (a n : ℕ) → numbers a (n + 1) ≡ numbers a n ++ (a + n) ∷ []
numbers_more a zero = let e : a + 0 ≡ a = omega arith in ap (λ (x : ℕ). x ∷ []) (sym e)
numbers_more a (suc n) =
    let e : suc n + 1 ≡ suc (n + 1) = omega arith in
    let f : suc a + n ≡ a + suc n = omega arith in
    ap (numbers a) e ∙ ap (λ (xs : List ℕ). a ∷ xs) (numbers_more (suc a) n) ∙ ap (λ (x : ℕ). a ∷ (numbers (suc a) n ++ x ∷ [])) f

numbers_split : (a i k : ℕ) → numbers a (i + suc k) ≡ numbers a i ++ (a + i) ∷ numbers (suc (a + i)) k
numbers_split a zero k = let e : a + 0 ≡ a = omega arith in let f : 0 + suc k ≡ suc k = omega arith in
    ap (numbers a) f ∙ ap (λ (x : ℕ). x ∷ numbers (suc x) k) (sym e)
numbers_split a (suc i) k =
    let e : suc i + suc k ≡ suc (i + suc k) = omega arith in
    let f : suc a + i ≡ a + suc i = omega arith in
    ap (numbers a) e ∙ ap (λ (xs : List ℕ). a ∷ xs) (numbers_split (suc a) i k)
    ∙ ap (λ (x : ℕ). a ∷ (numbers (suc a) i ++ x ∷ numbers (suc x) k)) f

pub claimable_both : (v : Volume) (xs ys zs : List ℕ) → AreClaimable v xs ys → AreClaimable v (xs ++ ys) zs → AreClaimable v xs (ys ++ zs)
claimable_both v xs [] zs p q = subst (λ (l : List ℕ). AreClaimable v l zs) (append-nil xs) q
claimable_both v xs (y ∷ ys) zs p q = (p.0, claimable_both v (xs ++ y ∷ []) ys zs p.1 (subst (λ (l : List ℕ). AreClaimable v l zs) (sym (append_assoc xs (y ∷ []) ys)) q))

pub claimable_front : (v : Volume) (xs ys zs : List ℕ) → AreClaimable v xs (ys ++ zs) → AreClaimable v xs ys
claimable_front v xs [] zs h = tt
claimable_front v xs (y ∷ ys) zs h = (h.0, claimable_front v (xs ++ y ∷ []) ys zs h.1)

pub claimable_back : (v : Volume) (xs ys zs : List ℕ) → AreClaimable v xs (ys ++ zs) → AreClaimable v (xs ++ ys) zs
claimable_back v xs [] zs h = subst (λ (l : List ℕ). AreClaimable v l zs) (sym (append-nil xs)) h
claimable_back v xs (y ∷ ys) zs h = subst (λ (l : List ℕ). AreClaimable v l zs) (append_assoc xs (y ∷ []) ys) (claimable_back v (xs ++ y ∷ []) ys zs h.1)

-- what is known after i blocks
pub record IsClaimed (v : Volume) (old marks : List Bool) (start i : ℕ) : Type 0 where
  pub known : (before : List ℕ) → AreMarksOf old before → AreClaimable v before (numbers start i) × AreMarksOf marks (before ++ numbers start i)

pub claimed_none : (v : Volume) (old : List Bool) (start : ℕ) → IsClaimed v old old start 0
claimed_none v old start = record { known = λ before h. (tt, subst (AreMarksOf old) (sym (append-nil before)) h) }

module _ (v : Volume) (old marks : List Bool) (start i b : ℕ) (is : b ≡ start + i) (c : IsClaimed v old marks start i) where
  pub claimed_more : (new : List Bool) → ((before : List ℕ) → AreMarksOf marks before → IsClaimable v before b × AreMarksOf new (before ++ b ∷ [])) → IsClaimed v old new start (i + 1)
  claimed_more new more = record {
    known = λ before h.
        let known = c.known before h in
        let step = more (before ++ numbers start i) known.1 in
        let longer : numbers start i ++ b ∷ [] ≡ numbers start (i + 1) = ap (λ (x : ℕ). numbers start i ++ x ∷ []) is ∙ sym (numbers_more start i) in
        let joined : (before ++ numbers start i) ++ b ∷ [] ≡ before ++ numbers start (i + 1) = append_assoc before (numbers start i) (b ∷ []) ∙ ap (λ (ys : List ℕ). before ++ ys) longer in (
          subst (AreClaimable v before) longer (claimable_both v before (numbers start i) (b ∷ []) known.0 (step.0, tt)),
          subst (AreMarksOf new) joined step.1,
        );
  }

  pub claimed_wrong : (n : ℕ) → i < n → ((before : List ℕ) → AreMarksOf marks before → IsClaimable v before b → ⊥) → (before : List ℕ) → AreMarksOf old before → AreClaimable v before (numbers start n) → ⊥
  claimed_wrong n less wrong before h all =
      let k = n - suc i in
      let e : n ≡ i + suc k = omega arith in
      let split : numbers start n ≡ numbers start i ++ (start + i) ∷ numbers (suc (start + i)) k = ap (numbers start) e ∙ numbers_split start i k in
      let rest = claimable_back v before (numbers start i) ((start + i) ∷ numbers (suc (start + i)) k) (subst (AreClaimable v before) split all) in
      wrong (before ++ numbers start i) (c.known before h).1 (subst (IsClaimable v (before ++ numbers start i)) (sym is) rest.0)

-- ---- all extents

take_split : (es : List Extent) (t : ℕ) (d : Extent) → t < length es → es ≡ take t es ++ get_or es t d ∷ drop (t + 1) es
take_split [] t d lt = absurd (omega arith)
take_split (e ∷ es) zero d lt = refl
take_split (e ∷ es) (suc t) d lt = let e1 : suc t + 1 ≡ suc (t + 1) = omega arith in let low : t < length es = omega arith in
    ap (λ (l : List Extent). e ∷ l) (take_split es t d low) ∙ ap (λ (j : ℕ). e ∷ (take t es ++ get_or es t d ∷ drop j (e ∷ es))) (sym e1)

pub take_more : (es : List Extent) (t : ℕ) (d : Extent) → t < length es → take (t + 1) es ≡ take t es ++ get_or es t d ∷ []
take_more [] t d lt = absurd (omega arith)
take_more (e ∷ es) zero d lt = refl
take_more (e ∷ es) (suc t) d lt = let e1 : suc t + 1 ≡ suc (t + 1) = omega arith in let low : t < length es = omega arith in
    ap (λ (j : ℕ). take j (e ∷ es)) e1 ∙ ap (λ (l : List Extent). e ∷ l) (take_more es t d low)

pub record AreClaimed (v : Volume) (old marks : List Bool) (es : List Extent) (t : ℕ) : Type 0 where
  pub known : (before : List ℕ) → AreMarksOf old before → AreClaimable v before (flat_map extent_blocks (take t es)) × AreMarksOf marks (before ++ flat_map extent_blocks (take t es))

pub all_none : (v : Volume) (old : List Bool) (es : List Extent) → AreClaimed v old old es 0
all_none v old es = record { known = λ before h. (tt, subst (AreMarksOf old) (sym (append-nil before)) h) }

module _ (v : Volume) (old marks : List Bool) (es : List Extent) (t : ℕ) (e : Extent) (lt : t < length es) (is : get_or es t e ≡ e) (c : AreClaimed v old marks es t) where
  pub all_more : (new : List Bool) → ((before : List ℕ) → AreMarksOf marks before → AreClaimable v before (extent_blocks e) × AreMarksOf new (before ++ extent_blocks e)) → AreClaimed v old new es (t + 1)
  all_more new more = record {
    known = λ before h.
        let known = c.known before h in
        let front = flat_map extent_blocks (take t es) in
        let step = more (before ++ front) known.1 in
        let longer : front ++ extent_blocks e ≡ flat_map extent_blocks (take (t + 1) es) =
        ap (λ (l : List ℕ). front ++ l) (sym (append-nil (extent_blocks e))) ∙ sym (flat_map-append extent_blocks (take t es) (e ∷ []))
        ∙ ap (flat_map extent_blocks) (ap (λ (x : Extent). take t es ++ x ∷ []) (sym is) ∙ sym (take_more es t e lt)) in
        let joined : (before ++ front) ++ extent_blocks e ≡ before ++ flat_map extent_blocks (take (t + 1) es) = append_assoc before front (extent_blocks e) ∙ ap (λ (ys : List ℕ). before ++ ys) longer in (
          subst (AreClaimable v before) longer (claimable_both v before front (extent_blocks e) known.0 step.0),
          subst (AreMarksOf new) joined step.1,
        );
  }

  pub all_wrong : ((before : List ℕ) → AreMarksOf marks before → AreClaimable v before (extent_blocks e) → ⊥) → (before : List ℕ) → AreMarksOf old before → AreClaimable v before (flat_map extent_blocks es) → ⊥
  all_wrong wrong before h all =
      let front = flat_map extent_blocks (take t es) in
      let rest = flat_map extent_blocks (drop (t + 1) es) in
      let split : flat_map extent_blocks es ≡ front ++ (extent_blocks e ++ rest) =
      ap (flat_map extent_blocks) (take_split es t e lt ∙ ap (λ (x : Extent). take t es ++ x ∷ drop (t + 1) es) is) ∙ flat_map-append extent_blocks (take t es) (e ∷ drop (t + 1) es) in
      let back = claimable_back v before front (extent_blocks e ++ rest) (subst (AreClaimable v before) split all) in
      wrong (before ++ front) (c.known before h).1 (claimable_front v (before ++ front) (extent_blocks e) rest back)

pub all_all : (v : Volume) (old marks : List Bool) (es : List Extent) (t : ℕ) → take t es ≡ es → AreClaimed v old marks es t
    → (before : List ℕ) → AreMarksOf old before → AreClaimable v before (flat_map extent_blocks es) × AreMarksOf marks (before ++ flat_map extent_blocks es)
all_all v old marks es t end c before h = subst (λ (l : List Extent). AreClaimable v before (flat_map extent_blocks l) × AreMarksOf marks (before ++ flat_map extent_blocks l)) end (c.known before h)

-- what is claimed is data blocks
pub claimed_data : (v : Volume) (before xs : List ℕ) → AreClaimable v before xs → AllByRecursion (λ b. IsTrue (is_data v b)) xs
claimed_data v before [] h = tt
claimed_data v before (x ∷ xs) h = (h.0.is_data, claimed_data v (before ++ x ∷ []) xs h.1)

-- ---- marks are those of some blocks

abbrev positions : ℕ → List Bool → List ℕ
positions a [] = []
positions a (true ∷ ms) = a ∷ positions (suc a) ms
positions a (false ∷ ms) = positions (suc a) ms

same_test : (c : ℕ) → (c == c) ≡ true
same_test c = search rules

other_test : (c b : ℕ) → c ≢ b → (c == b) ≡ false
other_test c b ne = search rules

not_below : (a : ℕ) (ms : List Bool) (b : ℕ) → b < a → among (positions a ms) b ≡ false
not_below a [] b lt = refl
not_below a (true ∷ ms) b lt = let ne : b ≢ a = omega arith in let low : b < suc a = omega arith in
    ap (λ (t : Bool). t || among (positions (suc a) ms) b) (other_test b a ne) ∙ not_below (suc a) ms b low
not_below a (false ∷ ms) b lt = not_below (suc a) ms b (omega arith)

marked_at : (a : ℕ) (ms : List Bool) (k : ℕ) → get_or ms k false ≡ among (positions a ms) (a + k)
marked_at a [] k = get_or_past [] k false (omega arith)
marked_at a (true ∷ ms) zero = let e : a ≡ a + 0 = omega arith in
    sym (ap (λ (t : Bool). t || among (positions (suc a) ms) (a + 0)) (subst (λ (x : ℕ). (x == a) ≡ true) e (same_test a)))
marked_at a (true ∷ ms) (suc k) =
    let ne : a + suc k ≢ a = omega arith in
    let e : suc a + k ≡ a + suc k = omega arith in
    marked_at (suc a) ms k ∙ ap (among (positions (suc a) ms)) e ∙ sym (ap (λ (t : Bool). t || among (positions (suc a) ms) (a + suc k)) (other_test (a + suc k) a ne))
marked_at a (false ∷ ms) zero = sym (not_below (suc a) ms (a + 0) (omega arith))
marked_at a (false ∷ ms) (suc k) = let e : suc a + k ≡ a + suc k = omega arith in marked_at (suc a) ms k ∙ ap (among (positions (suc a) ms)) e

pub some_blocks : (marks : List Bool) → (xs : List ℕ) × AreMarksOf marks xs
some_blocks marks = (positions 0 marks, λ b. let e : 0 + b ≡ b = omega arith in marked_at 0 marks b ∙ ap (among (positions 0 marks)) e)
