-- The checks of one inode.
use Rattle.std.proofs.Common.{rules, ◌≡◌, ℕ, zero, suc, ◌+◌, ◌*◌, ◌^◌, ◌/◌, ◌<◌, ◌≤◌, Bool, true, false, List, [], ◌∷◌, ◌++◌, length, get_or, refl, sym, ap, subst, ◌∙◌, inl, inr, arith}
use Rattle.std.specs.Prelude.{Option, Some, None, nat_le, IsTrue}
use Rattle.std.specs.List.{flat_map, AllByRecursion}
use Rattle.std.proofs.lemmas.Bool.{cases_lt, leb-true}
use Rattle.vx_base.specs.declared.kind.FileKind.TheVariants.{File, Directory}
use Rattle.vx_base.specs.declared.inode.InodeValue.{InodeValue}
use Rattle.vx_base.specs.declared.inode.Extent.{Extent}
use Rattle.vx_layout.specs.Places.{Volume, inode_sector, is_data, sectors_of}
use Rattle.vx_check.proofs.Marks.{data_below}
use Rattle.vx_layout.specs.Inodes.{layout1, IsSlot}
use Rattle.vx_sound.specs.FirstFault.{numbers}
use Rattle.vx_sound.specs.Said.{Image, inode_said, blocks_said, blocks_by_kind, directory_blocks, claimed_by, claims_below, entries_said, entries_of, extent_blocks}
use Rattle.vx_sound.specs.Facts.{IsInodeRight, AreExtentsRight}
use Rattle.vx_sound.specs.Checks.{Check, inode, extents, Holds, map_checks, entry_checks, value_checks, inode_checks}
use Rattle.vx_sound.proofs.Faults as faults
use Rattle.vx_sound.proofs.Sounds.{there, here, claims_more}
use Rattle.vx_check.specs.declared.stop.Stop.{Stop}
use Rattle.vx_check.specs.declared.stop.Stop.TheVariants as stop
use Rattle.std.specs.Prelude.{Result, Ok, Err, OnOk}
use Rattle.vx_check.specs.Parts.{NamesFirst, Stops, Finds}
use Rattle.vx_check.proofs.Going.{stops_left, stops_right}
use Rattle.vx_check.specs.Directories.{targets_of}
use Rattle.vx_check.specs.Slots.{IsSlotRead, slot_fits}

-- ---- an inode in use

module _ (strict : Bool) (v : Volume) (image : Image) (n : ℕ) (i : InodeValue) (said : inode_said v image n ≡ Some i) where
  abbrev maps : List Check
  maps = flat_map (map_checks n) (numbers 0 i.maps)

  abbrev dirs : List Check
  dirs = flat_map (entry_checks n) (numbers 0 (length (directory_blocks v image (Some i))))

  pub in_maps : (s : Stop) → Stops strict v image maps s → Stops strict v image (value_checks v image n (Some i)) s
  in_maps s h = stops_left strict v image maps (extents n ∷ dirs) s h

  module _ (all : AllByRecursion (Holds strict v image) maps) where
    pub bad_extents : (sector : ℕ) → sector ≡ inode_sector v n → (AreExtentsRight v image n i → ⊥) → NamesFirst strict v image (value_checks v image n (Some i)) sector
    bad_extents sector place wrong =
        let first : NamesFirst strict v image (extents n ∷ dirs) sector = record {
          check = extents n;
          first = inl (refl, λ h. wrong (there (AreExtentsRight v image n) (inode_said v image n) i said h));
          sector_is = place;
        } in
        stops_right strict v image maps (extents n ∷ dirs) (stop.BadMeta sector) all first

    module _ (right : AreExtentsRight v image n i) where
      held : Holds strict v image (extents n)
      held = here (AreExtentsRight v image n) (inode_said v image n) i said right

      pub in_file : i.inode.kind ≡ File → AllByRecursion (Holds strict v image) (value_checks v image n (Some i))
      in_file is =
          let none : directory_blocks v image (Some i) ≡ [] = ap (blocks_by_kind v image i) is in
          faults.both (Holds strict v image) maps (extents n ∷ dirs) all
          (held, subst (λ (l : List ℕ). AllByRecursion (Holds strict v image) (flat_map (entry_checks n) (numbers 0 (length l)))) (sym none) tt)

      module _ (blocks : List ℕ) (are : blocks ≡ directory_blocks v image (inode_said v image n)) where
        are_these : blocks ≡ directory_blocks v image (Some i)
        are_these = are ∙ ap (directory_blocks v image) said

        pub in_directory : AllByRecursion (Holds strict v image) (flat_map (entry_checks n) (numbers 0 (length blocks))) → AllByRecursion (Holds strict v image) (value_checks v image n (Some i))
        in_directory h =
            faults.both (Holds strict v image) maps (extents n ∷ dirs) all
            (held, subst (λ (l : List ℕ). AllByRecursion (Holds strict v image) (flat_map (entry_checks n) (numbers 0 (length l)))) are_these h)

        pub in_dirs : (s : Stop) → Stops strict v image (flat_map (entry_checks n) (numbers 0 (length blocks))) s → Stops strict v image (value_checks v image n (Some i)) s
        in_dirs s h =
            let h1 = subst (λ (l : List ℕ). Stops strict v image (flat_map (entry_checks n) (numbers 0 (length l))) s) are_these h in
            let h2 = stops_right strict v image (extents n ∷ []) dirs s (held, tt) h1 in
            stops_right strict v image maps (extents n ∷ dirs) s all h2

        pub directory_finds : {T : Type 0} (r : Result T Stop) → Finds strict v image (flat_map (entry_checks n) (numbers 0 (length blocks))) r → Finds strict v image (value_checks v image n (Some i)) r
        directory_finds (Ok x) h = in_directory h
        directory_finds (Err s) h = in_dirs s h

-- a file has no names
pub no_targets : (v : Volume) (image : Image) (n : ℕ) (i : InodeValue) → inode_said v image n ≡ Some i → i.inode.kind ≡ File → [] ≡ targets_of (entries_of v image n)
unfolding entries_of
no_targets v image n i said is =
    let none : directory_blocks v image (inode_said v image n) ≡ [] = ap (directory_blocks v image) said ∙ ap (blocks_by_kind v image i) is in
    sym (ap (λ (l : List ℕ). targets_of (flat_map (entries_said v image) l)) none)

pub free_targets : (v : Volume) (image : Image) (n : ℕ) → inode_said v image n ≡ None → [] ≡ targets_of (entries_of v image n)
unfolding entries_of
free_targets v image n said =
    sym (ap (λ (l : List ℕ). targets_of (flat_map (entries_said v image) l)) (ap (directory_blocks v image) said))

pub directory_are : (v : Volume) (image : Image) (n : ℕ) (i : InodeValue) → inode_said v image n ≡ Some i → i.inode.kind ≡ Directory → (es : List Extent) → flat_map extent_blocks es ≡ blocks_said v image i
    → (blocks : List ℕ) → blocks ≡ flat_map extent_blocks es → blocks ≡ directory_blocks v image (inode_said v image n)
directory_are v image n i said is es same blocks are = are ∙ same ∙ sym (ap (directory_blocks v image) said ∙ ap (blocks_by_kind v image i) is)

-- ---- an inode

module _ (v : Volume) (image : Image) (n : ℕ) where
  free_below : (o : Option InodeValue) → slot_fits n o ≡ true → n < 2 → o ≡ None
  free_below None h less = refl
  free_below (Some i) h less = let low : 2 ≤ n = leb-true 2 n h in absurd (omega arith)

  le_test : 2 ≤ n → nat_le 2 n ≡ true
  le_test h = search rules

  in_use_from : (i : InodeValue) → (n < 2 → Some i ≡ None) → 2 ≤ n
  in_use_from i h = elim (cases_lt n 2) [
    | inl low ↦ let bad : Some i ≡ None = h low in absurd (cc)
    | inr high ↦ high
  ]

  fits : (o : Option InodeValue) → (n < 2 → o ≡ None) → slot_fits n o ≡ true
  fits None p = refl
  fits (Some i) p = le_test (in_use_from i p)

  module _ (o : Option InodeValue) (bad : Bool) (slot : IsSlotRead v image n o bad) (is : IsSlot layout1 o) where
    pub inode_right : bad ≡ false → slot_fits n o ≡ true → IsInodeRight v image n
    inode_right good h = record {
      slot = o;
      is_slot = is;
      spelled = slot.spelled good;
      whole = slot.whole;
      first_two = free_below o h;
    }

    right_fits : bad ≡ false → IsInodeRight v image n → slot_fits n o ≡ true
    right_fits good r = subst (λ (x : Option InodeValue). slot_fits n x ≡ true) (slot.only good r.slot r.is_slot r.spelled) (fits r.slot r.first_two)

    module _ (strict : Bool) where
      bad_slot : (b : Bool) → bad ≡ b → (b ≡ false → slot_fits n o ≡ false) → IsInodeRight v image n → ⊥
      bad_slot true e h r = slot.none e r.slot r.is_slot r.spelled
      bad_slot false e h r = let wrong : true ≡ false = sym (right_fits e r) ∙ h refl in absurd (cc)

      pub bad_inode : (sector : ℕ) → sector ≡ inode_sector v n → (bad ≡ false → slot_fits n o ≡ false) → NamesFirst strict v image (inode_checks v image n) sector
      unfolding inode_checks
      bad_inode sector place h = record {
        check = inode n;
        first = inl (refl, bad_slot bad refl h);
        sector_is = place;
      }

      module _ (good : bad ≡ false) (fine : slot_fits n o ≡ true) where
        pub free_inode : o ≡ None → AllByRecursion (Holds strict v image) (inode_checks v image n)
        unfolding inode_checks
        free_inode none = (inode_right good fine, subst (λ (x : Option InodeValue). AllByRecursion (Holds strict v image) (value_checks v image n x)) (sym (slot.said ∙ none)) tt)

        pub used_inode : (i : InodeValue) → o ≡ Some i → AllByRecursion (Holds strict v image) (value_checks v image n (Some i)) → AllByRecursion (Holds strict v image) (inode_checks v image n)
        unfolding inode_checks
        used_inode i some h = (inode_right good fine, subst (λ (x : Option InodeValue). AllByRecursion (Holds strict v image) (value_checks v image n x)) (sym (slot.said ∙ some)) h)

        pub used_stops : (i : InodeValue) → o ≡ Some i → (s : Stop) → Stops strict v image (value_checks v image n (Some i)) s → Stops strict v image (inode_checks v image n) s
        unfolding inode_checks
        used_stops i some s h =
            stops_right strict v image (inode n ∷ []) (value_checks v image n (inode_said v image n)) s (inode_right good fine, tt)
            (subst (λ (x : Option InodeValue). Stops strict v image (value_checks v image n x) s) (sym (slot.said ∙ some)) h)

        pub used_finds : {T : Type 0} (i : InodeValue) → o ≡ Some i → (r : Result T Stop) → Finds strict v image (value_checks v image n (Some i)) r → Finds strict v image (inode_checks v image n) r
        used_finds i some (Ok x) h = used_inode i some h
        used_finds i some (Err s) h = used_stops i some s h

-- the claims of one inode more
pub claims_next : (v : Volume) (image : Image) (n : ℕ) → claims_below v image (n + 1) ≡ claims_below v image n ++ claimed_by v image (inode_said v image n)
claims_next v image n = let e : n + 1 ≡ suc n = omega arith in ap (claims_below v image) e ∙ claims_more v image n

-- ---- blocks of extents that are small numbers

in_run : (n a len i : ℕ) → i < len → AllByRecursion (λ b. b < n) (numbers a len) → a + i < n
in_run n a zero i lt h = absurd (omega arith)
in_run n a (suc len) zero lt h = let low = h.0 in omega arith
in_run n a (suc len) (suc i) lt h = let r = in_run n (suc a) len i (omega arith) h.1 in omega arith

pub run_below : (n : ℕ) (es : List Extent) (t : ℕ) (d : Extent) (i : ℕ) → t < length es → AllByRecursion (λ b. b < n) (flat_map extent_blocks es) → i < (get_or es t d).len → (get_or es t d).start + i < n
run_below n [] t d i lt h less = absurd (omega arith)
run_below n (e ∷ es) zero d i lt h less = in_run n e.start e.len i less (faults.front (λ (b : ℕ). b < n) (extent_blocks e) (flat_map extent_blocks es) h)
run_below n (e ∷ es) (suc t) d i lt h less = run_below n es t d i (omega arith) (faults.back (λ (b : ℕ). b < n) (extent_blocks e) (flat_map extent_blocks es) h) less

-- data blocks of a volume that has at most 2^32 sectors
data_small : (v : Volume) (xs : List ℕ) → v.first + 4096 * v.units ≤ 2 ^ 32 → AllByRecursion (λ b. IsTrue (is_data v b)) xs → AllByRecursion (λ b. b < 2 ^ 32) xs
data_small v [] fits h = tt
data_small v (x ∷ xs) fits h = let low = data_below v x h.0 in (omega arith, data_small v xs fits h.1)

sectors_two : (f u : ℕ) → (f + 4096 * u) * 2 ≤ 2 ^ 32 → f + 4096 * u ≤ 2 ^ 32
sectors_two f u h = omega arith

pub small_blocks : (v : Volume) (xs : List ℕ) → v.block ≡ 1024 → sectors_of v ≤ 2 ^ 32 → AllByRecursion (λ b. IsTrue (is_data v b)) xs → AllByRecursion (λ b. b < 2 ^ 32) xs
small_blocks v xs block fits h =
    let two : v.block / 512 ≡ 2 = ap (λ (n : ℕ). n / 512) block in
    data_small v xs (sectors_two v.first v.units (subst (λ (p : ℕ). (v.first + 4096 * v.units) * p ≤ 2 ^ 32) two fits)) h

-- ---- results

pub on_ok : {T E : Type 0} (P Q : Type 0) (r : Result T E) → (P → Q) → OnOk r P → OnOk r Q
on_ok P Q (Ok x) f h = f h
on_ok P Q (Err e) f h = tt
