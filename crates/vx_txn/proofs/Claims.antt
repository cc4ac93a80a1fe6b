-- Which blocks are free, by the blocks that inodes have.
use Rattle.std.proofs.Common.{◌≡◌, ℕ, zero, suc, ◌*◌, ◌<◌, true, not, ◌&&◌, Option, refl, sym, ◌∙◌, ap, arith, inl, inr}
use Rattle.std.specs.Prelude.{is_none, ◌||◌}
use Rattle.std.proofs.lemmas.Bool.{cases_Bool, cases_eq, or_left, or_right}
use Rattle.vx_layout.specs.Places.{Volume, is_data}
use Rattle.vx_model.specs.Images.{among}
use Rattle.vx_model.specs.LaidOut.{Owns}
use Rattle.vx_model.specs.Layout.{Layout, volume, owned, is_owned, is_owned_below, is_free}

pub free_is : (l : Layout) (b : ℕ) → is_free l b ≡ is_data (volume l) b && (not (is_owned l b) && is_none (l.pending b))
unfolding is_free
free_is l b = refl

pub owned_below : (l : Layout) (b n i : ℕ) → i < n → Owns l i b → is_owned_below l b n ≡ true
unfolding is_owned_below
owned_below l b zero i lt has = absurd (omega arith)
owned_below l b (suc n) i lt has = elim (cases_eq i n) [
  | inl here ↦ or_left _ _ (ap (λ (k : ℕ). among (owned l k) b) (sym here) ∙ has)
  | inr other ↦ or_right (among (owned l n) b) _ (owned_below l b n i (omega arith) has)
]

-- the inode that has a block
pub record Owner (l : Layout) (b n : ℕ) : Type 0 where
  pub ino : ℕ
  pub low : ino < n
  pub has : Owns l ino b

pub owner : (l : Layout) (b n : ℕ) → is_owned_below l b n ≡ true → Owner l b n
unfolding is_owned_below
owner l b zero is = absurd (cc)
owner l b (suc n) is = elim (cases_Bool (among (owned l n) b)) [
  | inl hit ↦ record { ino = n; low = omega arith; has = hit }
  | inr miss ↦
      let rest : is_owned_below l b n ≡ true = sym (ap (λ x. x || is_owned_below l b n) miss) ∙ is in
      let o = owner l b n rest in record { ino = o.ino; low = omega (arith, o.low); has = o.has }
]

-- the inodes have the block as they had it
pub same_owners : (l k : Layout) (b n : ℕ) → ((i : ℕ) → among (owned k i) b ≡ among (owned l i) b) → is_owned_below k b n ≡ is_owned_below l b n
unfolding is_owned_below
same_owners l k b zero same = refl
same_owners l k b (suc n) same = ap (λ x. x || is_owned_below k b n) (same n) ∙ ap (λ x. among (owned l n) b || x) (same_owners l k b n same)

-- where the units and what inodes have of the block stay as they were
pub same_free : (l k : Layout) (b : ℕ) → k.units ≡ l.units → k.log_blocks ≡ l.log_blocks → ((i : ℕ) → among (owned k i) b ≡ among (owned l i) b) → k.pending b ≡ l.pending b → is_free k b ≡ is_free l b
same_free l k b units log same pending =
    free_is k b
    ∙ ap (λ (v : Volume). is_data v b && (not (is_owned k b) && is_none (k.pending b))) (cc)
    ∙ ap (λ x. is_data (volume l) b && (not x && is_none (k.pending b))) (ap (is_owned_below k b) (ap (λ (n : ℕ). 128 * n) units) ∙ same_owners l k b (128 * l.units) same)
    ∙ ap (λ (o : Option ℕ). is_data (volume l) b && (not (is_owned l b) && is_none o)) pending
    ∙ sym (free_is l b)
