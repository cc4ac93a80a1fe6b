-- All inodes, one after the other, and the whole check.
use Rattle.std.proofs.Common.{◌≡◌, ℕ, zero, suc, ◌+◌, ◌<◌, ◌≤◌, Bool, false, List, [], ◌∷◌, ◌++◌, length, get_or, replicate, sym, ap, subst, ◌∙◌, inl, inr, arith}
use Rattle.std.specs.List.{flat_map, AllByRecursion}
use Rattle.std.proofs.lemmas.Bool.{cases_eq, cases_lt}
use Rattle.std.proofs.lemmas.List.{get_or_append_left, get_or_push, get_or_past, get_or-replicate, length-replicate, length-append}
use Rattle.vx_layout.specs.Places.{Volume}
use Rattle.vx_sound.specs.FirstFault.{numbers}
use Rattle.vx_sound.specs.Said.{Image, inode_count, claims_below, entries_of}
use Rattle.vx_sound.specs.Checks.{Check, Holds, inode_checks, link_checks, bitmap_checks, checks}
use Rattle.vx_sound.specs.Sound.{IsSound}
use Rattle.vx_sound.proofs.Faults as faults
use Rattle.vx_sound.proofs.Sounds.{passed}
use Rattle.vx_check.specs.declared.stop.Stop.{Stop}
use Rattle.vx_check.specs.declared.stop.Stop.TheVariants as stop
use Rattle.vx_check.specs.Parts.{Stops, IsStopped, AreMarksOf}
use Rattle.vx_check.specs.Directories.{targets_of}
use Rattle.vx_check.specs.Reaching.{Children, children_of, AreInside}
use Rattle.vx_check.specs.Links.{AreChildren}
use Rattle.vx_check.proofs.Going.{stops_left, stops_right}
use Rattle.vx_check.proofs.SlotLists.{none_past}

-- the inodes below n have passed
pub record ArePassed (v : Volume) (image : Image) (n : ℕ) (marks : List Bool) (children : Children) : Type 0 where
  pub all : (strict : Bool) → AllByRecursion (Holds strict v image) (flat_map (inode_checks v image) (numbers 0 n))
  pub marks_are : AreMarksOf marks (claims_below v image n)
  pub children_are : (d : ℕ) → d < n → get_or children d [] ≡ targets_of (entries_of v image d)

pub inside_more : (n : ℕ) (g : Children) (ts : List ℕ) → AreInside n g → AllByRecursion (λ x. x < n) ts → AreInside n (g ++ ts ∷ [])
inside_more n g ts h is d = elim (cases_lt d (length g)) [
  | inl low ↦ subst (AllByRecursion (λ x. x < n)) (sym (get_or_append_left g (ts ∷ []) [] d low)) (h d)
  | inr high ↦ last d high
] where
  last : (d : ℕ) → length g ≤ d → AllByRecursion (λ x. x < n) (children_of (g ++ ts ∷ []) d)
  last d high = elim (cases_eq d (length g)) [
    | inl e ↦ subst (AllByRecursion (λ x. x < n)) (sym (get_or_push g ts [] d (sym e))) is
    | inr ne ↦
        let far : length (g ++ ts ∷ []) ≤ d = omega (arith, length-append g (ts ∷ [])) in
        subst (AllByRecursion (λ x. x < n)) (sym (get_or_past (g ++ ts ∷ []) d [] far)) tt
  ]

pub below_at : (n : ℕ) (xs : List ℕ) (j : ℕ) → AllByRecursion (λ x. x < n) xs → j < length xs → get_or xs j 0 < n
below_at n [] j h less = absurd (omega arith)
below_at n (x ∷ xs) zero h less = h.0
below_at n (x ∷ xs) (suc j) h less = below_at n xs j h.1 (omega arith)

module _ (v : Volume) (image : Image) where
  pub none_passed : (marks : List Bool) → AreMarksOf marks [] → ArePassed v image 0 marks []
  unfolding claims_below
  none_passed marks h = record { all = λ strict. tt; marks_are = h; children_are = λ d less. absurd (omega arith) }

  pub more_passed : (n : ℕ) (marks new_marks : List Bool) (g new_g : Children) (ts : List ℕ) → length g ≡ n → ArePassed v image n marks g → ((strict : Bool) → AllByRecursion (Holds strict v image) (inode_checks v image n))
      → AreMarksOf new_marks (claims_below v image (n + 1)) → ts ≡ targets_of (entries_of v image n) → new_g ≡ g ++ ts ∷ [] → ArePassed v image (n + 1) new_marks new_g
  more_passed n marks new_marks g new_g ts long h holds claims is e = record {
    all = λ strict. faults.more_from_0 (Holds strict v image) (inode_checks v image) n (h.all strict) (holds strict);
    marks_are = claims;
    children_are = λ d less. ap (λ (l : Children). get_or l d []) e ∙ elim (cases_eq d n) [
      | inl same ↦ get_or_push g ts [] d (long ∙ sym same) ∙ is ∙ ap (λ (x : ℕ). targets_of (entries_of v image x)) (sym same)
      | inr ne ↦
          let low : d < n = omega arith in
          let inside : d < length g = omega arith in
          get_or_append_left g (ts ∷ []) [] d inside ∙ h.children_are d low
    ];
  }

  pub all_children : (marks : List Bool) (g : Children) → length g ≡ inode_count v → ArePassed v image (inode_count v) marks g → AreChildren g v image
  all_children marks g long h d = elim (cases_lt d (inode_count v)) [
    | inl low ↦ h.children_are d low
    | inr high ↦ let far : length g ≤ d = omega arith in get_or_past g d [] far ∙ none_past v image d high
  ]

-- ---- the whole

pub no_marks : (n : ℕ) (marks : List Bool) → marks ≡ replicate n false → AreMarksOf marks []
no_marks n marks e b = ap (λ (l : List Bool). get_or l b false) e ∙ elim (cases_lt b n) [
  | inl low ↦ get_or-replicate n b false false low
  | inr high ↦ let far : length (replicate n false) ≤ b = omega (arith, length-replicate n false) in get_or_past (replicate n false) b false far
]

module _ (strict : Bool) (v : Volume) (image : Image) where
  abbrev inode_part : List Check
  inode_part = flat_map (inode_checks v image) (numbers 0 (inode_count v))

  abbrev link_part : List Check
  link_part = flat_map link_checks (numbers 0 (inode_count v))

  abbrev bitmap_part : List Check
  bitmap_part = flat_map bitmap_checks (numbers 0 v.units)

  named : (s : Stop) → Stops strict v image (checks v image) s → IsStopped strict v image s
  named (stop.BadMeta sector) h = record { check = h.check; first = h.first; sector_is = h.sector_is }
  named stop.ReadFault h = tt
  named stop.NoMemory h = tt

  -- where nothing was checked no check failed
  pub in_slots : (s : Stop) → Stops strict v image [] s → IsStopped strict v image s
  in_slots (stop.BadMeta sector) h = absurd h.first
  in_slots stop.ReadFault h = tt
  in_slots stop.NoMemory h = tt

  pub in_inodes : (s : Stop) → Stops strict v image inode_part s → IsStopped strict v image s
  unfolding checks
  in_inodes s h = named s (stops_left strict v image inode_part (link_part ++ bitmap_part) s h)

  module _ (first : AllByRecursion (Holds strict v image) inode_part) where
    pub in_links : (s : Stop) → Stops strict v image link_part s → IsStopped strict v image s
    unfolding checks
    in_links s h = named s (stops_right strict v image inode_part (link_part ++ bitmap_part) s first (stops_left strict v image link_part bitmap_part s h))

    module _ (second : AllByRecursion (Holds strict v image) link_part) where
      pub in_bitmaps : (s : Stop) → Stops strict v image bitmap_part s → IsStopped strict v image s
      unfolding checks
      in_bitmaps s h = named s (stops_right strict v image inode_part (link_part ++ bitmap_part) s first (stops_right strict v image link_part bitmap_part s second h))

      pub is_sound : AllByRecursion (Holds strict v image) bitmap_part → IsSound strict v image
      unfolding checks
      is_sound third = passed strict v image (faults.both (Holds strict v image) inode_part (link_part ++ bitmap_part) first (faults.both (Holds strict v image) link_part bitmap_part second third))
