-- The checks of an inode's map blocks.
use Rattle.std.proofs.Common.{◌≡◌, ℕ, suc, ◌+◌, ◌-◌, ◌<◌, Bool, true, false, List, [], ◌∷◌, ◌++◌, length, take, get_or, refl, sym, ap, ap₂, subst, ◌∙◌, inl, inr, arith, rules, append_assoc}
use Rattle.std.specs.Prelude.{Option, Some, None, is_some, ◌==◌, ◌&&◌, nat_lt}
use Rattle.std.specs.List.{flat_map, AllByRecursion}
use Rattle.std.proofs.lemmas.Bool.{eqb-true}
use Rattle.std.proofs.lemmas.List.{append-nil, length_push, take_at}
use Rattle.vx_base.specs.declared.inode.InodeValue.{InodeValue}
use Rattle.vx_layout.specs.Places.{Volume, per_block, block_sector, inode_sector, is_data}
use Rattle.vx_layout.specs.Maps.{MapBlock, IsMap, map_bytes}
use Rattle.vx_sound.specs.FirstFault.{numbers}
use Rattle.vx_sound.specs.Said.{Image, among, block_bytes, inode_said, map_said, chain_from, chain_said, claims_below, share_of}
use Rattle.vx_sound.specs.Facts.{IsWholeBlock, IsClaimable, IsMapInPlace, IsMapRight}
use Rattle.vx_sound.specs.Checks.{map_place, map_form, Holds, map_checks, map_block_of}
use Rattle.vx_sound.proofs.Sounds.{there, here}
use Rattle.vx_sound.proofs.Faults as faults
use Rattle.vx_check.specs.Parts.{NamesFirst, AreMarksOf}
use Rattle.vx_check.specs.Chains.{next_fits, map_fits, map_extents}
use Rattle.vx_base.specs.declared.inode.Extent.{Extent}
use Rattle.std.proofs.lemmas.Grind.{flat_map-append}

same_test : (c : ℕ) → (c == c) ≡ true
same_test c = search rules

-- ---- the tests

both : (a b : Bool) → (a && b) ≡ true → (a ≡ true) × (b ≡ true)
both true b h = (refl, h)
both false b h = absurd (cc)

next_is : (next : Option ℕ) (more : Bool) → next_fits next more ≡ true → is_some next ≡ more
next_is None true h = absurd (cc)
next_is None false h = refl
next_is (Some b) more h = sym h

next_does : (next : Option ℕ) (more : Bool) → is_some next ≡ more → next_fits next more ≡ true
next_does None true h = absurd (cc)
next_does None false h = refl
next_does (Some b) more h = sym h

pub fits_next : (v : Volume) (n k : ℕ) (i : InodeValue) (m : MapBlock) → map_fits v n k i m ≡ true → is_some m.next ≡ nat_lt (k + 1) i.maps
fits_next v n k i m h =
    let a = both (m.ino == n) _ h in
    let b = both (length m.extents == share_of v i.extents k) _ a.1 in
    next_is m.next (nat_lt (k + 1) i.maps) b.1

all_three : (a b c : Bool) → a ≡ true → b ≡ true → c ≡ true → (a && (b && c)) ≡ true
all_three a b c p q r = cc

test_of : (x y : ℕ) → x ≡ y → (x == y) ≡ true
test_of x y e = subst (λ (z : ℕ). (x == z) ≡ true) e (same_test x)

-- ---- the k-th map block

module _ (strict : Bool) (v : Volume) (image : Image) (n k : ℕ) (i : InodeValue) (b : ℕ) (said : inode_said v image n ≡ Some i) (at : b ≡ get_or (chain_said v image i) k 0) where
  abbrev before : List ℕ
  before = claims_below v image n ++ take k (chain_said v image i)

  place_holds : is_data v b ≡ true → among before b ≡ false → Holds strict v image (map_place n k)
  place_holds d new = here (IsMapInPlace v image n k) (inode_said v image n) i said (subst (IsClaimable v before) at (record { is_data = d; new = new }))

  place_fails : (is_data v b ≡ true → among before b ≡ false → ⊥) → Holds strict v image (map_place n k) → ⊥
  place_fails wrong h =
      let claimable = subst (IsClaimable v before) (sym at) (there (IsMapInPlace v image n k) (inode_said v image n) i said h) in
      wrong claimable.is_data claimable.new

  form_holds : (m : MapBlock) → IsMap v.block m → block_bytes v image b ≡ map_bytes v.block m → IsWholeBlock v image b → map_fits v n k i m ≡ true → Holds strict v image (map_form n k)
  form_holds m is spelled whole fits =
      let a = both (m.ino == n) _ fits in
      let share = both (length m.extents == share_of v i.extents k) _ a.1 in
      here (IsMapRight v image n k) (inode_said v image n) i said (record {
        map = m;
        is_map = is;
        spelled = subst (λ (x : ℕ). block_bytes v image x ≡ map_bytes v.block m) at spelled;
        whole = subst (IsWholeBlock v image) at whole;
        owner = eqb-true m.ino n a.0;
        share = eqb-true (length m.extents) (share_of v i.extents k) share.0;
        next = fits_next v n k i m fits;
      })

  form_fails : ((m : MapBlock) → IsMap v.block m → block_bytes v image b ≡ map_bytes v.block m → map_fits v n k i m ≡ true → ⊥) → Holds strict v image (map_form n k) → ⊥
  form_fails wrong h =
      let r = there (IsMapRight v image n k) (inode_said v image n) i said h in
      wrong r.map r.is_map (subst (λ (x : ℕ). block_bytes v image x ≡ map_bytes v.block r.map) (sym at) r.spelled)
      (all_three (r.map.ino == n) (length r.map.extents == share_of v i.extents k) (next_fits r.map.next (nat_lt (k + 1) i.maps))
      (test_of r.map.ino n r.owner) (test_of (length r.map.extents) (share_of v i.extents k) r.share) (next_does r.map.next (nat_lt (k + 1) i.maps) r.next))

  pub bad_place : (sector : ℕ) → sector ≡ inode_sector v n → (is_data v b ≡ true → among before b ≡ false → ⊥) → NamesFirst strict v image (map_checks n k) sector
  bad_place sector is wrong = record { check = map_place n k; first = inl (refl, place_fails wrong); sector_is = is }

  pub bad_form : (sector : ℕ) → sector ≡ block_sector (per_block v) b → is_data v b ≡ true → among before b ≡ false
      → ((m : MapBlock) → IsMap v.block m → block_bytes v image b ≡ map_bytes v.block m → map_fits v n k i m ≡ true → ⊥) → NamesFirst strict v image (map_checks n k) sector
  bad_form sector is d new wrong = record {
    check = map_form n k;
    first = inr (place_holds d new, inl (refl, form_fails wrong));
    sector_is = is ∙ ap (block_sector (per_block v)) (at ∙ sym (ap (map_block_of v image k) said));
  }

  pub good_map : (m : MapBlock) → is_data v b ≡ true → among before b ≡ false → IsMap v.block m → block_bytes v image b ≡ map_bytes v.block m → IsWholeBlock v image b → map_fits v n k i m ≡ true
      → AllByRecursion (Holds strict v image) (map_checks n k)
  good_map m d new is spelled whole fits = (place_holds d new, (form_holds m is spelled whole fits, tt))

-- ---- the chain

last_is : (xs : List ℕ) (y : ℕ) (ys : List ℕ) → get_or (xs ++ y ∷ ys) (length xs) 0 ≡ y
last_is [] y ys = refl
last_is (z ∷ xs) y ys = last_is xs y ys

-- what is known before the k-th map block is read
pub record IsChain (v : Volume) (image : Image) (n : ℕ) (i : InodeValue) (marks : List Bool) (k : ℕ) (at : Option ℕ) (chain : List ℕ) : Type 0 where
  pub chain_is : chain_said v image i ≡ chain ++ chain_from v image (i.maps - k) at
  pub long : length chain ≡ k
  pub more : is_some at ≡ nat_lt k i.maps
  pub marked : AreMarksOf marks (claims_below v image n ++ chain)
  pub all : (strict : Bool) → AllByRecursion (Holds strict v image) (flat_map (map_checks n) (numbers 0 k))

pub chain_start : (v : Volume) (image : Image) (n : ℕ) (i : InodeValue) (marks : List Bool) → is_some i.map ≡ nat_lt 0 i.maps → AreMarksOf marks (claims_below v image n) → IsChain v image n i marks 0 i.map []
chain_start v image n i marks chained marked = record {
  chain_is = let e : i.maps - 0 ≡ i.maps = omega arith in sym (ap (λ (r : ℕ). chain_from v image r i.map) e);
  long = refl;
  more = chained;
  marked = subst (AreMarksOf marks) (sym (append-nil (claims_below v image n))) marked;
  all = λ strict. tt;
}

module _ (v : Volume) (image : Image) (n : ℕ) (i : InodeValue) (marks : List Bool) (k b : ℕ) (chain : List ℕ) (less : k < i.maps) (c : IsChain v image n i marks k (Some b) chain) where
  rest_is : chain_said v image i ≡ chain ++ b ∷ chain_from v image (i.maps - suc k) (map_said v image b).next
  rest_is = let e : i.maps - k ≡ suc (i.maps - suc k) = omega arith in c.chain_is ∙ ap (λ (r : ℕ). chain ++ chain_from v image r (Some b)) e

  pub chain_at : b ≡ get_or (chain_said v image i) k 0
  chain_at = sym (ap₂ (λ (xs : List ℕ) (j : ℕ). get_or xs j 0) rest_is (sym c.long) ∙ last_is chain b _)

  pub chain_front : take k (chain_said v image i) ≡ chain
  chain_front = ap (take k) rest_is ∙ take_at chain _ k c.long

  pub chain_more : (m : MapBlock) (new_marks : List Bool) → map_said v image b ≡ m → is_some m.next ≡ nat_lt (k + 1) i.maps → AreMarksOf new_marks ((claims_below v image n ++ take k (chain_said v image i)) ++ b ∷ [])
      → ((strict : Bool) → AllByRecursion (Holds strict v image) (map_checks n k)) → IsChain v image n i new_marks (k + 1) m.next (chain ++ b ∷ [])
  chain_more m new_marks said next marked found = record {
    chain_is =
        let e : i.maps - suc k ≡ i.maps - (k + 1) = omega arith in
        rest_is ∙ sym (append_assoc chain (b ∷ []) (chain_from v image (i.maps - suc k) (map_said v image b).next))
        ∙ ap₂ (λ (r : ℕ) (a : Option ℕ). (chain ++ b ∷ []) ++ chain_from v image r a) e (ap (λ (x : MapBlock). x.next) said);
    long = let e = length_push chain b in let l = c.long in omega arith;
    more = next;
    marked = subst (AreMarksOf new_marks) (ap (λ (xs : List ℕ). (claims_below v image n ++ xs) ++ b ∷ []) chain_front ∙ append_assoc (claims_below v image n) chain (b ∷ [])) marked;
    all = λ strict. faults.more_from_0 (Holds strict v image) (map_checks n) k (c.all strict) (found strict);
  }

pub chain_end : (v : Volume) (image : Image) (n : ℕ) (i : InodeValue) (marks : List Bool) (k : ℕ) (at : Option ℕ) (chain : List ℕ) → k ≡ i.maps → IsChain v image n i marks k at chain → chain_said v image i ≡ chain
chain_end v image n i marks k at chain end c =
    let e : i.maps - k ≡ 0 = omega arith in
    c.chain_is ∙ ap (λ (r : ℕ). chain ++ chain_from v image r at) e ∙ append-nil chain

-- ---- with the extents that were read

pub record IsGoing (v : Volume) (image : Image) (n : ℕ) (i : InodeValue) (marks : List Bool) (k : ℕ) (at : Option ℕ) (old es : List Extent) (chain : List ℕ) : Type 0 where
  pub is : IsChain v image n i marks k at chain
  pub extents_are : es ≡ old ++ flat_map (map_extents v image) chain

module _ (v : Volume) (image : Image) (n : ℕ) (i : InodeValue) (old : List Extent) where
  pub going_start : (marks : List Bool) → is_some i.map ≡ nat_lt 0 i.maps → AreMarksOf marks (claims_below v image n) → IsGoing v image n i marks 0 i.map old old []
  going_start marks chained marked = record { is = chain_start v image n i marks chained marked; extents_are = sym (append-nil old) }

  pub going_more : (marks : List Bool) (k b : ℕ) (es : List Extent) (chain : List ℕ) → k < i.maps → IsGoing v image n i marks k (Some b) old es chain → (m : MapBlock) (new_marks : List Bool) → map_said v image b ≡ m
      → is_some m.next ≡ nat_lt (k + 1) i.maps → AreMarksOf new_marks ((claims_below v image n ++ take k (chain_said v image i)) ++ b ∷ [])
      → ((strict : Bool) → AllByRecursion (Holds strict v image) (map_checks n k)) → (new_es : List Extent) → new_es ≡ es ++ m.extents → IsGoing v image n i new_marks (k + 1) m.next old new_es (chain ++ b ∷ [])
  going_more marks k b es chain less g m new_marks said next marked found new_es is_es = record {
    is = chain_more v image n i marks k b chain less g.is m new_marks said next marked found;
    extents_are =
        let f = map_extents v image in
        let last : f b ≡ m.extents = ap (λ (x : MapBlock). x.extents) said in
        is_es ∙ ap₂ (λ (x y : List Extent). x ++ y) g.extents_are (sym last) ∙ append_assoc old (flat_map f chain) (f b)
        ∙ ap (λ (x : List Extent). old ++ x) (ap (λ (x : List Extent). flat_map f chain ++ x) (sym (append-nil (f b))) ∙ sym (flat_map-append f chain (b ∷ [])));
  }

  pub going_end : (marks : List Bool) (k : ℕ) (at : Option ℕ) (es : List Extent) (chain : List ℕ) → k ≡ i.maps → IsGoing v image n i marks k at old es chain
      → (chain ≡ chain_said v image i) × (es ≡ old ++ flat_map (map_extents v image) (chain_said v image i)) × AreMarksOf marks (claims_below v image n ++ chain_said v image i)
  going_end marks k at es chain end g =
      let whole = chain_end v image n i marks k at chain end g.is in (
        sym whole,
        g.extents_are ∙ ap (λ (xs : List ℕ). old ++ flat_map (map_extents v image) xs) (sym whole),
        subst (λ (xs : List ℕ). AreMarksOf marks (claims_below v image n ++ xs)) (sym whole) g.is.marked,
      )
