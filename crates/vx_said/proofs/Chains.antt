-- An inode's map blocks: each names the next, and has its share of the extents.
use Rattle.std.proofs.Common.{◌≡◌, ◌⊎◌, ℕ, zero, suc, ◌+◌, ◌-◌, ◌*◌, ◌<◌, ◌≤◌, Bool, true, false, cond, List, [], ◌∷◌, ◌++◌, length, map, take, drop, get_or, Option, Some, None, inl, inr, refl, sym, ap, ap₂, subst, ◌∙◌, arith, length-append}
use Rattle.std.specs.Prelude.{is_some, nat_lt}
use Rattle.std.specs.List.{flat_map}
use Rattle.std.proofs.lemmas.Bool.{true≢false, ltb-true, ltb-false, lt-ltb, le-ltb}
use Rattle.std.proofs.lemmas.List.{take_at, drop_at, take_all, append-nil}
use Rattle.vx_base.specs.declared.inode.Extent.{Extent}
use Rattle.vx_layout.specs.Supers.{volume_of}
use Rattle.vx_layout.specs.declared.superblock.Super.{Super}
use Rattle.vx_layout.specs.Maps.{MapBlock}
use Rattle.vx_sound.specs.Said.{Image, map_said, chain_from, share_of}
use Rattle.vx_sound.specs.Reading.{Extents}
use Rattle.vx_model.specs.Layout.{Claimed, first_of, chain_of}

none_left : (es : List Extent) → length es ≡ 0 → es ≡ []
none_left [] none = refl
none_left (e ∷ es) none = absurd (omega (arith, none))

-- a full first part, or one with nothing behind it
first_part : (xs ys : List Extent) → length xs ≤ 63 → (length xs ≡ 63) ⊎ (ys ≡ []) → take 63 (xs ++ ys) ≡ xs
first_part xs ys short (inl full) = take_at xs ys 63 full
first_part xs ys short (inr none) = ap (λ (zs : List Extent). take 63 (xs ++ zs)) none ∙ ap (take 63) (append-nil xs) ∙ take_all 63 xs short

dropped : (n : ℕ) (xs : List Extent) → length xs ≤ n → drop n xs ≡ []
dropped zero [] short = refl
dropped (suc n) [] short = refl
dropped zero (x ∷ xs) short = absurd (omega (arith, short))
dropped (suc n) (x ∷ xs) short = dropped n xs (omega (arith, short))

second_part : (xs ys : List Extent) → length xs ≤ 63 → (length xs ≡ 63) ⊎ (ys ≡ []) → drop 63 (xs ++ ys) ≡ ys
second_part xs ys short (inl full) = drop_at xs ys 63 full
second_part xs ys short (inr none) =
    ap (λ (zs : List Extent). drop 63 (xs ++ zs)) none ∙ ap (drop 63) (append-nil xs) ∙ dropped 63 xs short ∙ sym none

-- what remains behind a share
share_left : (left : ℕ) (t : Bool) → nat_lt left 63 ≡ t → cond t left 63 + (left - 63) ≡ left
share_left left true e = let low = ltb-true left 63 e in omega (arith, low)
share_left left false e = let high = ltb-false left 63 e in omega (arith, high)

share_few : (left : ℕ) (t : Bool) → nat_lt left 63 ≡ t → cond t left 63 ≤ 63
share_few left true e = let low = ltb-true left 63 e in omega (arith, low)
share_few left false e = omega arith

share_full : (left : ℕ) (t : Bool) → nat_lt left 63 ≡ t → (cond t left 63 ≡ 63) ⊎ (left - 63 ≡ 0)
share_full left true e = let low = ltb-true left 63 e in inr (omega (arith, low))
share_full left false e = inl refl

module _ (v : Super) (image : Image) where
  abbrev pub extents_in : ℕ → List Extent
  extents_in b = (map_said (volume_of v) image b).extents

  -- the k-th map block of inode n, of so many for so many extents
  pub record IsLink (n extents maps k b : ℕ) : Type 0 where
    pub owner : (map_said (volume_of v) image b).ino ≡ n
    pub share : length (extents_in b) ≡ share_of (volume_of v) extents k
    pub next : is_some (map_said (volume_of v) image b).next ≡ nat_lt (k + 1) maps

  module _ (n extents maps : ℕ) where
    abbrev pub IsChain : ℕ → List ℕ → Type 0
    IsChain k [] = Unit {0}
    IsChain k (b ∷ bs) = IsLink n extents maps k b × ((map_said (volume_of v) image b).next ≡ first_of bs) × IsChain (suc k) bs

    pub next_first : (m : ℕ) (at : Option ℕ) → is_some at ≡ nat_lt 0 m → at ≡ first_of (chain_from (volume_of v) image m at)
    next_first zero None some = refl
    next_first zero (Some b) some = absurd cc
    next_first (suc m) None some = absurd (true≢false (sym (lt-ltb 0 (suc m) (omega arith)) ∙ sym some))
    next_first (suc m) (Some b) some = refl

    later : (m k : ℕ) → suc m + k ≡ maps → nat_lt (k + 1) maps ≡ nat_lt 0 m
    later zero k all = le-ltb (k + 1) maps (omega (arith, all))
    later (suc m) k all = lt-ltb (k + 1) maps (omega (arith, all)) ∙ sym (lt-ltb 0 (suc m) (omega arith))

    pub whole_chain : (m k : ℕ) (at : Option ℕ) → m + k ≡ maps → is_some at ≡ nat_lt 0 m → ((j : ℕ) → j < m → j < length (chain_from (volume_of v) image m at) → IsLink n extents maps (k + j) (get_or (chain_from (volume_of v) image m at) j 0))
        → (length (chain_from (volume_of v) image m at) ≡ m) × IsChain k (chain_from (volume_of v) image m at)
    whole_chain zero k at all some each = (refl, tt)
    whole_chain (suc m) k None all some each = absurd (true≢false (sym (lt-ltb 0 (suc m) (omega arith)) ∙ sym some))
    whole_chain (suc m) k (Some b) all some each =
        let e : k + 0 ≡ k = omega arith in
        let here : IsLink n extents maps k b = subst (λ (j : ℕ). IsLink n extents maps j b) e (each 0 (omega arith) (omega arith)) in
        let next : Option ℕ = (map_said (volume_of v) image b).next in
        let more : is_some next ≡ nat_lt 0 m = here.next ∙ later m k all in
        let rest = whole_chain m (suc k) next (omega (arith, all)) more (λ j low inside.
        (let f : k + suc j ≡ suc k + j = omega arith in
        subst (λ (x : ℕ). IsLink n extents maps x (get_or (chain_from (volume_of v) image m next) j 0)) f (each (suc j) (omega (arith, low)) (omega (arith, inside))))) in
        (ap suc rest.0, (here, next_first m next more, rest.1))

    -- ---- the extents of a chain

    left_after : (k : ℕ) → extents - 6 - 63 * k - 63 ≡ extents - 6 - 63 * suc k
    left_after k = omega arith

    pub chain_extents : (k : ℕ) (bs : List ℕ) → IsChain k bs → length bs + k ≡ maps → extents - 6 ≤ 63 * maps → length (flat_map extents_in bs) ≡ extents - 6 - 63 * k
    chain_extents k [] chain all room = omega (arith, all, room)
    chain_extents k (b ∷ bs) chain all room =
        let rest = chain_extents (suc k) bs chain.2 (omega (arith, all)) room in
        let both = length-append (extents_in b) (flat_map extents_in bs) in
        let share = share_left (extents - 6 - 63 * k) (nat_lt (extents - 6 - 63 * k) 63) refl in
        let after = left_after k in
        both ∙ ap₂ (λ x y. x + y) chain.0.share (rest ∙ sym after) ∙ share

    abbrev pub link_with : ℕ → Claimed
    link_with b = record { block = b; form = Some (Extents (map_said (volume_of v) image b)) }

    fits : (k b : ℕ) (rest : List Extent) → IsLink n extents maps k b → length rest ≡ extents - 6 - 63 * suc k → (length (extents_in b) ≡ 63) ⊎ (rest ≡ [])
    fits k b rest link left =
        elim (share_full (extents - 6 - 63 * k) (nat_lt (extents - 6 - 63 * k) 63) refl) [
          | inl full ↦ inl (link.share ∙ full)
          | inr none ↦ inr (none_left rest (left ∙ sym (left_after k) ∙ none))
        ]

    short : (k b : ℕ) → IsLink n extents maps k b → length (extents_in b) ≤ 63
    short k b link = subst (λ (x : ℕ). x ≤ 63) (sym link.share) (share_few (extents - 6 - 63 * k) (nat_lt (extents - 6 - 63 * k) 63) refl)

    pub chain_again : (k : ℕ) (bs : List ℕ) → IsChain k bs → length bs + k ≡ maps → extents - 6 ≤ 63 * maps → chain_of n (flat_map extents_in bs) bs ≡ map link_with bs
    chain_again k [] chain all room = refl
    chain_again k (b ∷ bs) chain all room =
        let rest : List Extent = flat_map extents_in bs in
        let left = chain_extents (suc k) bs chain.2 (omega (arith, all)) room in
        let fit = fits k b rest chain.0 left in
        let low = short k b chain.0 in
        let first = first_part (extents_in b) rest low fit in
        let second = second_part (extents_in b) rest low fit in
        let here : record { next = first_of bs; ino = n; extents = take 63 (extents_in b ++ rest) } ≡ map_said (volume_of v) image b =
        λ i. record { next = sym chain.1 i; ino = sym chain.0.owner i; extents = first i } in
        ap₂ (λ (m : MapBlock) (cs : List Claimed). record { block = b; form = Some (Extents m) } ∷ cs) here
        (ap (λ (es : List Extent). chain_of n es bs) second ∙ chain_again (suc k) bs chain.2 (omega (arith, all)) room)
