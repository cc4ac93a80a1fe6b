-- How each block keeps one purpose, where inodes get free blocks and give blocks up.
use Rattle.std.proofs.Common.{◌≡◌, ◌≢◌, ◌⊎◌, ℕ, zero, suc, ◌+◌, ◌*◌, ◌<◌, ◌≤◌, Bool, true, false, not, cond, List, Option, Some, None, inl, inr, refl, sym, ◌∙◌, ap, subst, arith}
use Rattle.std.specs.Prelude.{◌&&◌, is_none, IsTrue}
use Rattle.std.proofs.lemmas.Bool.{cases_Bool, cases_eq, true≢false, and_parts, or_parts}
use Rattle.vx_layout.specs.Places.{Volume, is_data}
use Rattle.vx_space.specs.Uses.{uses}
use Rattle.vx_model.specs.Images.{among}
use Rattle.vx_model.specs.Layout.{Layout, volume, owned, is_owned_below, is_owned, is_free}
use Rattle.vx_model.specs.LaidOut.{Owns, IsOnceUsed}
use Rattle.vx_model.proofs.Uses.{not_among, is_among, among_uses}

-- ---- no block is used more often than before

module _ (l m : Layout) (same : volume m ≡ volume l) (fewer : (n b : ℕ) → uses (owned m n) b ≤ uses (owned l n) b) where
  pub had : (n b : ℕ) → Owns m n b → Owns l n b
  had n b owns = let some = among_uses (owned m n) b owns in let few = fewer n b in is_among (owned l n) b (omega (arith, some, few))

  pub fewer_once : IsOnceUsed l → ((n b : ℕ) → Owns m n b → m.pending b ≡ None) → IsOnceUsed m
  fewer_once is ready = record {
    once = λ n k b x y. is.once n k b (had n b x) (had k b y);
    apart = λ n b. (let few = fewer n b in let once = is.apart n b in omega (arith, few, once));
    data_blocks = λ n b owns. subst (λ (v : Volume). IsTrue (is_data v b)) (sym same) (is.data_blocks n b (had n b owns));
    not_pending = ready;
    low = λ n b owns. subst (λ (v : Volume). n < 128 * v.units) (sym same) (is.low n b (had n b owns));
  }

pub same_once : (l m : Layout) → volume m ≡ volume l → ((n : ℕ) → owned m n ≡ owned l n) → ((b : ℕ) → l.pending b ≡ None → m.pending b ≡ None) → IsOnceUsed l → IsOnceUsed m
same_once l m same owns pending is =
    let fewer : (n b : ℕ) → uses (owned m n) b ≤ uses (owned l n) b = λ n b. (let all : uses (owned m n) b ≡ uses (owned l n) b = ap (λ (xs : List ℕ). uses xs b) (owns n) in omega (arith, all)) in
    fewer_once l m same fewer is (λ n b h. pending b (is.not_pending n b (had l m same fewer n b h)))

-- ---- an inode gets free blocks

none_is : {A : Type 0} (o : Option A) → is_none o ≡ true → o ≡ None
none_is None h = refl
none_is (Some x) h = absurd cc

pub record IsFreeBlock (l : Layout) (b : ℕ) : Type 0 where
  pub data_block : is_data (volume l) b ≡ true
  pub unowned : is_owned l b ≡ false
  pub ready : l.pending b ≡ None

not_true : (t : Bool) → not t ≡ true → t ≡ false
not_true true h = absurd cc
not_true false h = refl

pub free_parts : (l : Layout) (b : ℕ) → is_free l b ≡ true → IsFreeBlock l b
unfolding is_free
free_parts l b h =
    let two = and_parts (is_data (volume l) b) (not (is_owned l b) && is_none (l.pending b)) h in
    let rest = and_parts (not (is_owned l b)) (is_none (l.pending b)) two.1 in
    record { data_block = two.0; unowned = not_true (is_owned l b) rest.0; ready = none_is (l.pending b) rest.1 }

pub unowned_below : (l : Layout) (b k : ℕ) → is_owned_below l b k ≡ false → (n : ℕ) → n < k → among (owned l n) b ≡ false
unfolding is_owned_below
unowned_below l b zero h n lt = absurd (omega (arith, lt))
unowned_below l b (suc k) h n lt =
    let two = or_parts (among (owned l k) b) (is_owned_below l b k) h in
    elim (cases_eq n k) [
      | inl e ↦ subst (λ (j : ℕ). among (owned l j) b ≡ false) (sym e) two.0
      | inr ne ↦ unowned_below l b k two.1 n (omega (arith, lt, ne))
    ]

module _ (l : Layout) (is : IsOnceUsed l) where
  -- a free block is nobody's
  pub free_unowned : (b n : ℕ) → is_free l b ≡ true → Owns l n b → {A : Type 0} → A
  free_unowned b n free owns = absurd (true≢false (sym owns ∙ unowned_below l b (128 * l.units) (free_parts l b free).unowned n (is.low n b owns)))

  module _ (m : Layout) (at : ℕ) (same : volume m ≡ volume l) (low : at < 128 * l.units) (pending : (b : ℕ) → m.pending b ≡ l.pending b) (others : (n : ℕ) → n ≢ at → owned m n ≡ owned l n)
      (grown : (b : ℕ) → uses (owned m at) b ≤ cond (is_free l b) 1 0 + uses (owned l at) b) where
    had_or_free : (n b : ℕ) → Owns m n b → Owns l n b ⊎ ((n ≡ at) × (is_free l b ≡ true))
    had_or_free n b owns = elim (cases_eq n at) [
      | inr ne ↦ inl (subst (λ (xs : List ℕ). among xs b ≡ true) (others n ne) owns)
      | inl e ↦ elim (cases_Bool (is_free l b)) [
        | inl free ↦ inr (e, free)
        | inr taken ↦
            let some = among_uses (owned m at) b (subst (λ (k : ℕ). Owns m k b) e owns) in
            let all = grown b in
            let none : ◌≡◌ {A = ℕ} (cond (is_free l b) 1 0) 0 = ap (λ (t : Bool). cond {A = ℕ} t 1 0) taken in
            inl (subst (λ (k : ℕ). Owns l k b) (sym e) (is_among (owned l at) b (omega (arith, some, all, none))))
      ]
    ]

    apart_at : (b : ℕ) (t : Bool) → is_free l b ≡ t → uses (owned m at) b ≤ 1
    apart_at b true free =
        let none = not_among (owned l at) b (unowned_below l b (128 * l.units) (free_parts l b free).unowned at low) in
        let one : ◌≡◌ {A = ℕ} (cond (is_free l b) 1 0) 1 = ap (λ (t : Bool). cond {A = ℕ} t 1 0) free in
        let all = grown b in omega (arith, none, one, all)
    apart_at b false taken =
        let none : ◌≡◌ {A = ℕ} (cond (is_free l b) 1 0) 0 = ap (λ (t : Bool). cond {A = ℕ} t 1 0) taken in
        let all = grown b in let once = is.apart at b in omega (arith, none, all, once)

    pub grown_once : IsOnceUsed m
    grown_once = record {
      once = λ n k b x y. elim (had_or_free n b x) [
        | inl p ↦ elim (had_or_free k b y) [
          | inl q ↦ is.once n k b p q
          | inr q ↦ free_unowned b n q.1 p
        ]
        | inr p ↦ elim (had_or_free k b y) [
          | inl q ↦ free_unowned b k p.1 q
          | inr q ↦ p.0 ∙ sym q.0
        ]
      ];
      apart = λ n b. elim (cases_eq n at) [
        | inl e ↦ subst (λ (k : ℕ). uses (owned m k) b ≤ 1) (sym e) (apart_at b (is_free l b) refl)
        | inr ne ↦ (let all : uses (owned m n) b ≡ uses (owned l n) b = ap (λ (xs : List ℕ). uses xs b) (others n ne) in let once = is.apart n b in omega (arith, all, once))
      ];
      data_blocks = λ n b owns. elim (had_or_free n b owns) [
        | inl p ↦ subst (λ (v : Volume). IsTrue (is_data v b)) (sym same) (is.data_blocks n b p)
        | inr p ↦ subst (λ (v : Volume). IsTrue (is_data v b)) (sym same) (free_parts l b p.1).data_block
      ];
      not_pending = λ n b owns. elim (had_or_free n b owns) [
        | inl p ↦ pending b ∙ is.not_pending n b p
        | inr p ↦ pending b ∙ (free_parts l b p.1).ready
      ];
      low = λ n b owns. elim (had_or_free n b owns) [
        | inl p ↦ subst (λ (v : Volume). n < 128 * v.units) (sym same) (is.low n b p)
        | inr p ↦ subst (λ (v : Volume). n < 128 * v.units) (sym same) (subst (λ (k : ℕ). k < 128 * l.units) (sym p.0) low)
      ];
    }
