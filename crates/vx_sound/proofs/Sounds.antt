-- Sound is what passes every check.
use Rattle.std.proofs.Common.{◌≡◌, ℕ, zero, suc, ◌+◌, ◌<◌, ◌≤◌, Bool, true, false, List, [], ◌∷◌, ◌++◌, length, take, get_or, refl, sym, ap, subst, ◌∙◌, arith}
use Rattle.std.specs.Prelude.{Option, Some, None, IfSome}
use Rattle.std.specs.List.{flat_map, AllByRecursion}
use Rattle.std.proofs.lemmas.List.{append-nil}
use Rattle.std.proofs.lemmas.Grind.{flat_map-append}
use Rattle.std.proofs.Common.{append_assoc}
use Rattle.vx_base.specs.declared.kind.FileKind.{FileKind}
use Rattle.vx_base.specs.declared.kind.FileKind.TheVariants.{File, Directory}
use Rattle.vx_base.specs.declared.inode.InodeValue.{InodeValue}
use Rattle.vx_layout.specs.Places.{Volume}
use Rattle.vx_sound.specs.FirstFault.{numbers}
use Rattle.vx_sound.specs.Said.{Image, inode_count, inode_said, map_said, chain_from, chain_said, blocks_said, claimed_by, claims_below, directory_blocks}
use Rattle.vx_sound.specs.Facts.{IsMapInPlace, IsMapRight, AreExtentsRight, AreLinksRight, FitNames, IsClaimable, AreClaimable}
use Rattle.vx_sound.specs.Checks.{Check, extents, Holds, sector_of, map_checks, entry_checks, value_checks, inode_checks, link_checks, bitmap_checks, checks}
use Rattle.vx_sound.specs.Sound.{IsInodeSound, IsSound, IsBadMeta}
use Rattle.vx_sound.proofs.Faults as faults

-- what holds of an inode in use, where it is known
pub there : (P : InodeValue → Type 0) (o : Option InodeValue) (i : InodeValue) → o ≡ Some i → IfSome o P → P i
there P o i e h = subst (λ (x : Option InodeValue). IfSome x P) e h

pub here : (P : InodeValue → Type 0) (o : Option InodeValue) (i : InodeValue) → o ≡ Some i → P i → IfSome o P
here P o i e h = subst (λ (x : Option InodeValue). IfSome x P) (sym e) h

module _ (strict : Bool) (v : Volume) (image : Image) where
  abbrev All : List Check → Type 0
  All = AllByRecursion (Holds strict v image)

  -- ---- one inode

  value_passes : (n : ℕ) (o : Option InodeValue) → inode_said v image n ≡ o → IsInodeSound v image n → All (value_checks v image n o)
  value_passes n None e s = tt
  value_passes n (Some i) e s =
      let fewer : length (directory_blocks v image (inode_said v image n)) ≡ length (directory_blocks v image (Some i)) = ap (λ (x : Option InodeValue). length (directory_blocks v image x)) e in
      faults.both (Holds strict v image) (flat_map (map_checks n) (numbers 0 i.maps)) _
      (faults.all_below (Holds strict v image) (map_checks n) i.maps (λ k less. (
        here (IsMapInPlace v image n k) (inode_said v image n) i e (there (λ j. k < j.maps → IsMapInPlace v image n k j) (inode_said v image n) i e (s.map_places k) less),
        (here (IsMapRight v image n k) (inode_said v image n) i e (there (λ j. k < j.maps → IsMapRight v image n k j) (inode_said v image n) i e (s.maps k) less), tt),
      ))) (
        s.extents,
        faults.all_below (Holds strict v image) (entry_checks n) _ (λ k less.
            let inside : k < length (directory_blocks v image (inode_said v image n)) = omega arith in
            (s.entries k inside, (s.targets k inside, tt))),
      )

  inode_passes : (n : ℕ) → IsInodeSound v image n → All (inode_checks v image n)
  unfolding inode_checks
  inode_passes n s = (s.slot, value_passes n (inode_said v image n) refl s)

  -- what an inode's checks say of it
  module _ (n : ℕ) where
    abbrev rest : InodeValue → List Check
    rest i = extents n ∷ flat_map (entry_checks n) (numbers 0 (length (directory_blocks v image (Some i))))

    maps_say : (k : ℕ) (o : Option InodeValue) → inode_said v image n ≡ o → All (value_checks v image n o) → IfSome o (λ i. k < i.maps → All (map_checks n k))
    maps_say k None e all = tt
    maps_say k (Some i) e all = λ less. faults.at_below (Holds strict v image) (map_checks n) i.maps k less (faults.front (Holds strict v image) (flat_map (map_checks n) (numbers 0 i.maps)) (rest i) all)

    extents_say : (o : Option InodeValue) → inode_said v image n ≡ o → All (value_checks v image n o) → IfSome o (AreExtentsRight v image n)
    extents_say None e all = tt
    extents_say (Some i) e all = there (AreExtentsRight v image n) (inode_said v image n) i e (faults.back (Holds strict v image) (flat_map (map_checks n) (numbers 0 i.maps)) (rest i) all).0

    entries_say : (k : ℕ) (o : Option InodeValue) → inode_said v image n ≡ o → All (value_checks v image n o) → k < length (directory_blocks v image o) → All (entry_checks n k)
    entries_say k None e all less = absurd (omega arith)
    entries_say k (Some i) e all less =
        faults.at_below (Holds strict v image) (entry_checks n) (length (directory_blocks v image (Some i))) k less (faults.back (Holds strict v image) (flat_map (map_checks n) (numbers 0 i.maps)) (rest i) all).1

    place_of_map : (k : ℕ) (o : Option InodeValue) → inode_said v image n ≡ o → IfSome o (λ i. k < i.maps → All (map_checks n k)) → IfSome o (λ i. k < i.maps → IsMapInPlace v image n k i)
    place_of_map k None e h = tt
    place_of_map k (Some i) e h = λ less. there (IsMapInPlace v image n k) (inode_said v image n) i e (h less).0

    form_of_map : (k : ℕ) (o : Option InodeValue) → inode_said v image n ≡ o → IfSome o (λ i. k < i.maps → All (map_checks n k)) → IfSome o (λ i. k < i.maps → IsMapRight v image n k i)
    form_of_map k None e h = tt
    form_of_map k (Some i) e h = λ less. there (IsMapRight v image n k) (inode_said v image n) i e (h less).1.0

    inode_passed : All (inode_checks v image n) → IsInodeSound v image n
    unfolding inode_checks
    inode_passed all = record {
      slot = all.0;
      map_places = λ k. place_of_map k (inode_said v image n) refl (maps_say k (inode_said v image n) refl all.1);
      maps = λ k. form_of_map k (inode_said v image n) refl (maps_say k (inode_said v image n) refl all.1);
      extents = extents_say (inode_said v image n) refl all.1;
      entries = λ k less. (entries_say k (inode_said v image n) refl all.1 less).0;
      targets = λ k less. (entries_say k (inode_said v image n) refl all.1 less).1.0;
    }

  pub passes : IsSound strict v image → All (checks v image)
  unfolding checks
  passes s =
      faults.both (Holds strict v image) (flat_map (inode_checks v image) (numbers 0 (inode_count v))) _
      (faults.all_below (Holds strict v image) (inode_checks v image) (inode_count v) (λ n less. inode_passes n (s.inodes n less)))
      (faults.both (Holds strict v image) (flat_map link_checks (numbers 0 (inode_count v))) _
      (faults.all_below (Holds strict v image) link_checks (inode_count v) (λ n less. (s.links n less, tt)))
      (faults.all_below (Holds strict v image) bitmap_checks v.units (λ u less. (s.bitmaps u less, tt))))

  pub passed : All (checks v image) → IsSound strict v image
  unfolding checks
  passed all =
      let later = faults.back (Holds strict v image) (flat_map (inode_checks v image) (numbers 0 (inode_count v))) (flat_map link_checks (numbers 0 (inode_count v)) ++ flat_map bitmap_checks (numbers 0 v.units)) all in
      record {
        inodes = λ n less. inode_passed n (faults.at_below (Holds strict v image) (inode_checks v image) (inode_count v) n less
            (faults.front (Holds strict v image) (flat_map (inode_checks v image) (numbers 0 (inode_count v))) (flat_map link_checks (numbers 0 (inode_count v)) ++ flat_map bitmap_checks (numbers 0 v.units)) all));
        links = λ n less. (faults.at_below (Holds strict v image) link_checks (inode_count v) n less (faults.front (Holds strict v image) (flat_map link_checks (numbers 0 (inode_count v))) (flat_map bitmap_checks (numbers 0 v.units)) later)).0;
        bitmaps = λ u less. (faults.at_below (Holds strict v image) bitmap_checks v.units u less (faults.back (Holds strict v image) (flat_map link_checks (numbers 0 (inode_count v))) (flat_map bitmap_checks (numbers 0 v.units)) later)).0;
      }

  pub refused : (s : ℕ) → IsSound strict v image → IsBadMeta strict v image s → ⊥
  refused s sound bad = faults.none (Holds strict v image) (checks v image) bad.check (passes sound) bad.first

  pub one : (s t : ℕ) → IsBadMeta strict v image s → IsBadMeta strict v image t → s ≡ t
  one s t a b =
      let same : a.check ≡ b.check = faults.one (Holds strict v image) (checks v image) a.check b.check a.first b.first in
      a.sector_is ∙ ap (sector_of v image) same ∙ sym b.sector_is

-- ---- claims

claimable_both : (v : Volume) (xs ys zs : List ℕ) → AreClaimable v xs ys → AreClaimable v (xs ++ ys) zs → AreClaimable v xs (ys ++ zs)
claimable_both v xs [] zs p q = subst (λ (l : List ℕ). AreClaimable v l zs) (append-nil xs) q
claimable_both v xs (y ∷ ys) zs p q = (p.0, claimable_both v (xs ++ y ∷ []) ys zs p.1 (subst (λ (l : List ℕ). AreClaimable v l zs) (sym (append_assoc xs (y ∷ []) ys)) q))

claimable_each : (v : Volume) (before xs : List ℕ) → ((k : ℕ) → k < length xs → IsClaimable v (before ++ take k xs) (get_or xs k 0)) → AreClaimable v before xs
claimable_each v before [] each = tt
claimable_each v before (x ∷ xs) each = (
  subst (λ (l : List ℕ). IsClaimable v l x) (append-nil before) (each 0 (omega arith)),
  claimable_each v (before ++ x ∷ []) xs (λ k less. subst (λ (l : List ℕ). IsClaimable v l (get_or xs k 0)) (sym (append_assoc before (x ∷ []) (take k xs))) (each (suc k) (omega arith))),
)

pub chain_short : (v : Volume) (image : Image) (k : ℕ) (at : Option ℕ) → length (chain_from v image k at) ≤ k
chain_short v image zero at = omega arith
chain_short v image (suc k) None = omega arith
chain_short v image (suc k) (Some b) = let fewer = chain_short v image k (map_said v image b).next in omega arith

numbers_more : (a n : ℕ) → numbers a (suc n) ≡ numbers a n ++ (a + n) ∷ []
numbers_more a zero = let e : a + 0 ≡ a = omega arith in ap (λ (x : ℕ). x ∷ []) (sym e)
numbers_more a (suc n) = let f : suc a + n ≡ a + suc n = omega arith in
    ap (λ (xs : List ℕ). a ∷ xs) (numbers_more (suc a) n) ∙ ap (λ (x : ℕ). a ∷ (numbers (suc a) n ++ x ∷ [])) f

module _ (v : Volume) (image : Image) where
  pub claims_more : (n : ℕ) → claims_below v image (suc n) ≡ claims_below v image n ++ claimed_by v image (inode_said v image n)
  unfolding claims_below
  claims_more n =
      let f = λ (m : ℕ). claimed_by v image (inode_said v image m) in
      let e : 0 + n ≡ n = omega arith in
      ap (flat_map f) (numbers_more 0 n) ∙ flat_map-append f (numbers 0 n) ((0 + n) ∷ [])
      ∙ ap (λ (xs : List ℕ). flat_map f (numbers 0 n) ++ xs) (append-nil (f (0 + n)))
      ∙ ap (λ (m : ℕ). flat_map f (numbers 0 n) ++ f m) e

  pub claims_none : claims_below v image 0 ≡ []
  unfolding claims_below
  claims_none = refl

  value_claims : (n : ℕ) (o : Option InodeValue) → inode_said v image n ≡ o → IsInodeSound v image n → AreClaimable v (claims_below v image n) (claimed_by v image o)
  value_claims n None e s = tt
  value_claims n (Some i) e s =
      claimable_both v (claims_below v image n) (chain_said v image i) (blocks_said v image i)
      (claimable_each v (claims_below v image n) (chain_said v image i) (λ k less.
      let short = chain_short v image i.maps i.map in
      there (λ j. k < j.maps → IsMapInPlace v image n k j) (inode_said v image n) i e (s.map_places k) (omega arith)))
      (there (AreExtentsRight v image n) (inode_said v image n) i e s.extents).claims

  pub claims_once : (n : ℕ) → ((m : ℕ) → m < n → IsInodeSound v image m) → AreClaimable v [] (claims_below v image n)
  claims_once zero each = subst (AreClaimable v []) (sym claims_none) tt
  claims_once (suc n) each =
      subst (AreClaimable v []) (sym (claims_more n))
      (claimable_both v [] (claims_below v image n) _ (claims_once n (λ m less. each m (omega arith)))
      (value_claims n (inode_said v image n) refl (each n (omega arith))))

  fit_weaker : (n : ℕ) (i : InodeValue) (kind : FileKind) → FitNames true v image n i kind → FitNames false v image n i kind
  fit_weaker n i File h = record { links = h.links; some = λ e. absurd (cc) }
  fit_weaker n i Directory h = h

  value_weaker : (n : ℕ) (o : Option InodeValue) → IfSome o (λ i. FitNames true v image n i i.inode.kind) → IfSome o (λ i. FitNames false v image n i i.inode.kind)
  value_weaker n None h = tt
  value_weaker n (Some i) h = fit_weaker n i i.inode.kind h

  links_weaker : (n : ℕ) → AreLinksRight true v image n → AreLinksRight false v image n
  links_weaker n h = record { root_is = h.root_is; other = λ ne. value_weaker n (inode_said v image n) (h.other ne) }

  pub weaker : IsSound true v image → IsSound false v image
  weaker s = record {
    inodes = s.inodes;
    links = λ n less. links_weaker n (s.links n less);
    bitmaps = s.bitmaps;
  }
