-- What stands in the map blocks of an inode.
use Rattle.std.proofs.Common.{◌≡◌, ℕ, zero, suc, ◌+◌, ◌-◌, ◌*◌, ◌<◌, min, Bool, true, false, cond, List, [], ◌∷◌, length, take, drop, get_or, Some, refl, sym, ap, ◌∙◌, arith, inl, inr}
use Rattle.std.specs.Prelude.{nat_lt, is_some, slice_get}
use Rattle.std.proofs.lemmas.Bool.{cases_lt, ltb-true, ltb-false, lt-ltb, le-ltb}
use Rattle.std.proofs.lemmas.List.{length-take, length-drop, drop-drop}
use Rattle.vx_base.specs.declared.inode.Extent.{Extent}
use Rattle.vx_layout.specs.Maps.{MapBlock}
use Rattle.vx_sound.specs.Reading.{Extents}
use Rattle.vx_model.specs.Layout.{Claimed, first_of, chain_of}

-- the k-th of them
abbrev pub link : ℕ → List Extent → List ℕ → ℕ → MapBlock
link n es ms k = record { next = first_of (drop (suc k) ms); ino = n; extents = take 63 (drop (63 * k) es) }

abbrev link_claimed : ℕ → List Extent → List ℕ → ℕ → Claimed
link_claimed n es ms k = record { block = get_or ms k 0; form = Some (Extents (link n es ms k)) }

pub chain_got : (n : ℕ) (es : List Extent) (ms : List ℕ) (k : ℕ) → k < length ms → slice_get (chain_of n es ms) k ≡ Some (link_claimed n es ms k)
chain_got n es [] k less = absurd (omega (arith, less))
chain_got n es (b ∷ bs) zero less = refl
chain_got n es (b ∷ bs) (suc k) less =
    let places : 63 + 63 * k ≡ 63 * suc k = omega arith in
    let rest : drop (63 * k) (drop 63 es) ≡ drop (63 * suc k) es = drop-drop (63 * k) 63 es ∙ ap (λ (j : ℕ). drop j es) places in
    chain_got n (drop 63 es) bs k (omega (arith, less))
    ∙ ap (λ (xs : List Extent). Some (record { block = get_or bs k 0; form = Some (Extents (record { next = first_of (drop (suc k) bs); ino = n; extents = take 63 xs })) })) rest

share_by : (left : ℕ) (t : Bool) → nat_lt left 63 ≡ t → min 63 left ≡ cond t left 63
share_by left true e = let less = ltb-true left 63 e in omega (arith, less)
share_by left false e = let more = ltb-false left 63 e in omega (arith, more)

-- each has its share of the extents behind the first six
pub share_is : (n : ℕ) (es : List Extent) (ms : List ℕ) (k : ℕ) → length (link n (drop 6 es) ms k).extents ≡ cond (nat_lt (length es - 6 - 63 * k) 63) (length es - 6 - 63 * k) 63
share_is n es ms k =
    let left : length (drop (63 * k) (drop 6 es)) ≡ length es - 6 - 63 * k = length-drop (63 * k) (drop 6 es) ∙ ap (λ (x : ℕ). x - 63 * k) (length-drop 6 es) in
    length-take 63 (drop (63 * k) (drop 6 es)) ∙ ap (min 63) left ∙ share_by (length es - 6 - 63 * k) (nat_lt (length es - 6 - 63 * k) 63) refl

below_both : (a b : ℕ) → nat_lt (suc a) (suc b) ≡ nat_lt a b
below_both a b = elim (cases_lt a b) [
  | inl less ↦ lt-ltb (suc a) (suc b) (omega (arith, less)) ∙ sym (lt-ltb a b less)
  | inr more ↦ le-ltb (suc a) (suc b) (omega (arith, more)) ∙ sym (le-ltb a b (omega (arith, more)))
]

-- and a next one where there are more
pub next_is : (k : ℕ) (ms : List ℕ) → is_some (first_of (drop k ms)) ≡ nat_lt k (length ms)
next_is zero [] = refl
next_is zero (b ∷ bs) = sym (lt-ltb 0 (suc (length bs)) (omega arith))
next_is (suc k) [] = sym (le-ltb (suc k) 0 (omega arith))
next_is (suc k) (b ∷ bs) = next_is k bs ∙ sym (below_both k (length bs))
