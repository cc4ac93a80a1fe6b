-- The checks of a directory's blocks.
use Rattle.std.proofs.Common.{◌≡◌, ℕ, zero, suc, ◌+◌, ◌<◌, ◌≤◌, Bool, true, false, List, [], ◌∷◌, ◌++◌, length, take, get_or, refl, sym, ap, ap₂, subst, ◌∙◌, inl, inr, arith}
use Rattle.std.specs.List.{flat_map, AllByRecursion}
use Rattle.std.specs.Prelude.{map}
use Rattle.std.proofs.lemmas.List.{append-nil, map-append}
use Rattle.std.proofs.lemmas.Grind.{flat_map-append}
use Rattle.vx_base.specs.Paths.{FileName}
use Rattle.vx_base.specs.declared.inode.DirEntry.{DirEntry}
use Rattle.vx_layout.specs.Places.{Volume, per_block, block_sector, inode_sector}
use Rattle.vx_layout.specs.Dirs.{IsDir, dir_bytes}
use Rattle.vx_sound.specs.FirstFault.{numbers}
use Rattle.vx_sound.specs.Said.{Image, block_bytes, inode_said, directory_blocks, entries_said, entries_below, entries_of}
use Rattle.vx_sound.specs.Facts.{IsWholeBlock, block_at, AreNamesRight, AreEntriesRight, HasTarget, AreTargetsRight}
use Rattle.vx_sound.specs.Checks.{entries, targets, Holds, entry_checks}
use Rattle.vx_sound.proofs.Faults as faults
use Rattle.vx_check.specs.Parts.{NamesFirst}
use Rattle.vx_check.specs.Directories.{AreNamesOf, AreBelow, IsMarked, AreUsed, targets_of}

-- ---- one block

module _ (strict : Bool) (v : Volume) (image : Image) (n k b : ℕ) (at : b ≡ block_at v image n k) where
  entries_hold : (es : List DirEntry) → IsDir v.block es → block_bytes v image b ≡ dir_bytes v.block es → IsWholeBlock v image b → AreNamesRight (entries_below v image n k) es → Holds strict v image (entries n k)
  entries_hold es is spelled whole names = record {
    entries = es;
    is_dir = is;
    spelled = subst (λ (x : ℕ). block_bytes v image x ≡ dir_bytes v.block es) at spelled;
    whole = subst (IsWholeBlock v image) at whole;
    names = names;
  }

  -- bytes of no form, or names that are not right
  pub bad_entries : (sector : ℕ) → sector ≡ block_sector (per_block v) b
      → ((es : List DirEntry) → IsDir v.block es → block_bytes v image b ≡ dir_bytes v.block es → AreNamesRight (entries_below v image n k) es → ⊥) → NamesFirst strict v image (entry_checks n k) sector
  bad_entries sector is wrong = record {
    check = entries n k;
    first = inl (refl, λ (h : AreEntriesRight v image n k). wrong h.entries h.is_dir (subst (λ (x : ℕ). block_bytes v image x ≡ dir_bytes v.block h.entries) (sym at) h.spelled) h.names);
    sector_is = is ∙ ap (block_sector (per_block v)) at;
  }

  module _ (used : List Bool) (are_used : AreUsed used v image) where
    has_target : (es : List DirEntry) → AllByRecursion (IsMarked used) es → AllByRecursion (HasTarget v image) es
    has_target [] h = tt
    has_target (e ∷ es) h = (sym (are_used e.ino) ∙ h.0, has_target es h.1)

    is_marked : (es : List DirEntry) → AllByRecursion (HasTarget v image) es → AllByRecursion (IsMarked used) es
    is_marked [] h = tt
    is_marked (e ∷ es) h = (are_used e.ino ∙ h.0, is_marked es h.1)

    module _ (es : List DirEntry) (is : IsDir v.block es) (spelled : block_bytes v image b ≡ dir_bytes v.block es) (whole : IsWholeBlock v image b) (said : entries_said v image b ≡ es)
        (names : AreNamesRight (entries_below v image n k) es) where
      pub bad_targets : (sector : ℕ) → sector ≡ inode_sector v n → (AllByRecursion (IsMarked used) es → ⊥) → NamesFirst strict v image (entry_checks n k) sector
      bad_targets sector place wrong = record {
        check = targets n k;
        first = inr (
          entries_hold es is spelled whole names,
          inl (
            refl,
            λ (h : AreTargetsRight v image n k).
                wrong (is_marked es (subst (AllByRecursion (HasTarget v image)) said (subst (λ (x : ℕ). AllByRecursion (HasTarget v image) (entries_said v image x)) (sym at) h))),
          ),
        );
        sector_is = place;
      }

      pub good_block : AllByRecursion (IsMarked used) es → AllByRecursion (Holds strict v image) (entry_checks n k)
      good_block marked = (
        entries_hold es is spelled whole names,
        (subst (λ (x : ℕ). AllByRecursion (HasTarget v image) (entries_said v image x)) at (subst (AllByRecursion (HasTarget v image)) (sym said) (has_target es marked)), tt),
      )

-- ---- the blocks

-- what is known before the k-th block is read
pub record IsRead (v : Volume) (image : Image) (n : ℕ) (blocks : List ℕ) (names : List FileName) (ts : List ℕ) (k : ℕ) : Type 0 where
  pub named : AreNamesOf names (entries_below v image n k)
  pub targets_are : ts ≡ targets_of (entries_below v image n k)
  pub all : (strict : Bool) → AllByRecursion (Holds strict v image) (flat_map (entry_checks n) (numbers 0 k))

take_more : (xs : List ℕ) (k : ℕ) → k < length xs → take (k + 1) xs ≡ take k xs ++ get_or xs k 0 ∷ []
take_more [] k lt = absurd (omega arith)
take_more (x ∷ xs) zero lt = refl
take_more (x ∷ xs) (suc k) lt = let e : suc k + 1 ≡ suc (k + 1) = omega arith in let low : k < length xs = omega arith in
    ap (λ (j : ℕ). take j (x ∷ xs)) e ∙ ap (λ (l : List ℕ). x ∷ l) (take_more xs k low)

take_all : (xs : List ℕ) (k : ℕ) → length xs ≤ k → take k xs ≡ xs
take_all [] zero le = refl
take_all [] (suc k) le = refl
take_all (x ∷ xs) zero le = absurd (omega arith)
take_all (x ∷ xs) (suc k) le = let low : length xs ≤ k = omega arith in ap (λ (l : List ℕ). x ∷ l) (take_all xs k low)

pub targets_both : (es fs : List DirEntry) → targets_of (es ++ fs) ≡ targets_of es ++ targets_of fs
targets_both [] fs = refl
targets_both (e ∷ es) fs = ap (λ (l : List ℕ). e.ino ∷ l) (targets_both es fs)

module _ (v : Volume) (image : Image) (n : ℕ) (blocks : List ℕ) (are : blocks ≡ directory_blocks v image (inode_said v image n)) where
  pub block_is : (k b : ℕ) → get_or blocks k 0 ≡ b → b ≡ block_at v image n k
  block_is k b is = sym is ∙ ap (λ (l : List ℕ). get_or l k 0) are

  below_more : (k b : ℕ) → k < length blocks → get_or blocks k 0 ≡ b → entries_below v image n (k + 1) ≡ entries_below v image n k ++ entries_said v image b
  below_more k b lt is =
      let f = entries_said v image in
      ap (λ (l : List ℕ). flat_map f (take (k + 1) l)) (sym are) ∙ ap (flat_map f) (take_more blocks k lt) ∙ flat_map-append f (take k blocks) (get_or blocks k 0 ∷ [])
      ∙ ap (λ (l : List DirEntry). flat_map f (take k blocks) ++ l) (append-nil (f (get_or blocks k 0)))
      ∙ ap₂ (λ (l : List ℕ) (x : ℕ). flat_map f (take k l) ++ f x) are is

  pub read_none : (alloc : List FileName) → AreNamesOf alloc [] → IsRead v image n blocks alloc [] 0
  read_none alloc h = record { named = h; targets_are = refl; all = λ strict. tt }

  pub read_more : (k b : ℕ) (names : List FileName) (ts : List ℕ) (new_names : List FileName) (new_ts : List ℕ) → k < length blocks → get_or blocks k 0 ≡ b
      → IsRead v image n blocks names ts k → AreNamesOf new_names (entries_below v image n k ++ entries_said v image b) → new_ts ≡ ts ++ targets_of (entries_said v image b)
      → ((strict : Bool) → AllByRecursion (Holds strict v image) (entry_checks n k)) → IsRead v image n blocks new_names new_ts (k + 1)
  read_more k b names ts new_names new_ts lt is r named are_targets found = record {
    named = subst (AreNamesOf new_names) (sym (below_more k b lt is)) named;
    targets_are = are_targets ∙ ap (λ (l : List ℕ). l ++ targets_of (entries_said v image b)) r.targets_are ∙ sym (targets_both (entries_below v image n k) (entries_said v image b)) ∙ ap targets_of (sym (below_more k b lt is));
    all = λ strict. faults.more_from_0 (Holds strict v image) (entry_checks n) k (r.all strict) (found strict);
  }

  pub read_all : (k : ℕ) (names : List FileName) (ts : List ℕ) → length blocks ≤ k → IsRead v image n blocks names ts k → ts ≡ targets_of (entries_of v image n)
  unfolding entries_of
  read_all k names ts end r =
      r.targets_are ∙ ap (λ (l : List ℕ). targets_of (flat_map (entries_said v image) (take k l))) (sym are) ∙ ap (λ (l : List ℕ). targets_of (flat_map (entries_said v image) l)) (take_all blocks k end ∙ are)

-- ---- the entries of each block

pub listed_more : (f : ℕ → List DirEntry) (blocks : List ℕ) (k b : ℕ) (old new : List (List DirEntry)) (es : List DirEntry) → k < length blocks → get_or blocks k 0 ≡ b → old ≡ map f (take k blocks) → f b ≡ es → new ≡ old ++ es ∷ []
    → new ≡ map f (take (k + 1) blocks)
listed_more f blocks k b old new es lt is before here more =
    let last : es ∷ [] ≡ map f (get_or blocks k 0 ∷ []) = ap (λ (x : List DirEntry). x ∷ []) (sym here ∙ ap f (sym is)) in
    more ∙ ap₂ (λ (x y : List (List DirEntry)). x ++ y) before last ∙ sym (map-append f (take k blocks) (get_or blocks k 0 ∷ [])) ∙ sym (ap (map f) (take_more blocks k lt))

pub listed_all : (f : ℕ → List DirEntry) (blocks : List ℕ) (k : ℕ) (old : List (List DirEntry)) → length blocks ≤ k → old ≡ map f (take k blocks) → old ≡ map f blocks
listed_all f blocks k old end is = is ∙ ap (map f) (take_all blocks k end)

-- ---- targets are inodes

inside_of : (used : List Bool) (n : ℕ) → get_or used n false ≡ true → n < length used
inside_of [] n h = absurd (cc)
inside_of (u ∷ us) zero h = omega arith
inside_of (u ∷ us) (suc n) h = let r = inside_of us n h in omega arith

pub below_both : (used : List Bool) (xs : List ℕ) (es : List DirEntry) → AreBelow (length used) xs → AllByRecursion (IsMarked used) es → AreBelow (length used) (xs ++ targets_of es)
below_both used [] [] p q = tt
below_both used [] (e ∷ es) p q = (inside_of used e.ino q.0, below_both used [] es tt q.1)
below_both used (x ∷ xs) es p q = (p.0, below_both used xs es p.1 q)
