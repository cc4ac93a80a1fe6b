-- The slots of all inodes, one after the other.
use Rattle.std.proofs.Common.{◌≡◌, ℕ, ◌+◌, ◌<◌, ◌≤◌, Bool, false, List, [], ◌∷◌, ◌++◌, length, get_or, sym, ap, subst, ◌∙◌, inl, inr, arith}
use Rattle.std.specs.Prelude.{Option, None, is_some, cond, nat_lt}
use Rattle.std.specs.Option.{option_and_then}
use Rattle.std.proofs.lemmas.Bool.Decides.{nat_tests}
use Rattle.std.proofs.lemmas.Bool.{cases_eq, cases_lt}
use Rattle.std.proofs.lemmas.List.{get_or_append_left, get_or_push, get_or_past, length-append}
use Rattle.vx_base.specs.declared.inode.InodeValue.{InodeValue}
use Rattle.vx_layout.specs.Places.{Volume}
use Rattle.vx_layout.specs.Inodes.{layout1, IsSlot}
use Rattle.vx_sound.specs.Said.{Image, inode_count, slot_said, inode_said, entries_of}
use Rattle.vx_check.specs.Directories.{AreUsed, targets_of}
use Rattle.vx_check.specs.Links.{AreInodes}
use Rattle.vx_check.proofs.OneInode.{free_targets}
use Rattle.vx_check.specs.Slots.{IsSlotRead, AreSlotsRead, HaveForms, AreLong}

pub long_more : (n : ℕ) (values : List (Option InodeValue)) (bad used : List Bool) (o : Option InodeValue) (a b : Bool) → AreLong n values bad used → AreLong (n + 1) (values ++ o ∷ []) (bad ++ a ∷ []) (used ++ b ∷ [])
long_more n values bad used o a b h = record {
  values_are = let e = h.values_are in omega (arith, length-append values (o ∷ []));
  bad_are = let e = h.bad_are in omega (arith, length-append bad (a ∷ []));
  used_are = let e = h.used_are in omega (arith, length-append used (b ∷ []));
}

pub forms_more : (values : List (Option InodeValue)) (o : Option InodeValue) → HaveForms values → IsSlot layout1 o → HaveForms (values ++ o ∷ [])
forms_more values o h is m = elim (cases_eq m (length values)) [
  | inl e ↦ subst (IsSlot layout1) (sym (get_or_push values o None m (sym e))) is
  | inr ne ↦ other m ne
] where
  past : (m : ℕ) → length values < m → IsSlot layout1 (get_or (values ++ o ∷ []) m None)
  past m less =
      let far : length (values ++ o ∷ []) ≤ m = omega (arith, length-append values (o ∷ [])) in
      subst (IsSlot layout1) (sym (get_or_past (values ++ o ∷ []) m None far)) tt

  other : (m : ℕ) → (m ≡ length values → ⊥) → IsSlot layout1 (get_or (values ++ o ∷ []) m None)
  other m ne = elim (cases_lt m (length values)) [
    | inl low ↦ subst (IsSlot layout1) (sym (get_or_append_left values (o ∷ []) None m low)) (h m)
    | inr high ↦ past m (let less : length values < m = omega arith in less)
  ]

module _ (v : Volume) (image : Image) where
  pub slots_more : (n : ℕ) (values : List (Option InodeValue)) (bad used : List Bool) (o : Option InodeValue) (a : Bool) → AreLong n values bad used → AreSlotsRead v image n values bad used → IsSlotRead v image n o a
      → AreSlotsRead v image (n + 1) (values ++ o ∷ []) (bad ++ a ∷ []) (used ++ is_some o ∷ [])
  slots_more n values bad used o a long h slot = record {
    each = λ m less. elim (cases_eq m n) [
      | inl e ↦ each_last m e
      | inr ne ↦ each_before m (let low : m < n = omega arith in low)
    ];
    used_is = λ m less. elim (cases_eq m n) [
      | inl e ↦ used_last m e
      | inr ne ↦ used_before m (let low : m < n = omega arith in low)
    ];
  } where
    value_last : (m : ℕ) → m ≡ n → get_or (values ++ o ∷ []) m None ≡ o
    value_last m e = get_or_push values o None m (long.values_are ∙ sym e)

    value_before : (m : ℕ) → m < n → get_or (values ++ o ∷ []) m None ≡ get_or values m None
    value_before m low = let e = long.values_are in let inside : m < length values = omega arith in get_or_append_left values (o ∷ []) None m inside

    bad_before : (m : ℕ) → m < n → get_or (bad ++ a ∷ []) m false ≡ get_or bad m false
    bad_before m low = let e = long.bad_are in let inside : m < length bad = omega arith in get_or_append_left bad (a ∷ []) false m inside

    used_at : (m : ℕ) → m < n → get_or (used ++ is_some o ∷ []) m false ≡ get_or used m false
    used_at m low = let e = long.used_are in let inside : m < length used = omega arith in get_or_append_left used (is_some o ∷ []) false m inside

    each_last : (m : ℕ) → m ≡ n → IsSlotRead v image m (get_or (values ++ o ∷ []) m None) (get_or (bad ++ a ∷ []) m false)
    each_last m e =
        subst (λ (x : Option InodeValue). IsSlotRead v image m x (get_or (bad ++ a ∷ []) m false)) (sym (value_last m e))
        (subst (IsSlotRead v image m o) (sym (get_or_push bad a false m (long.bad_are ∙ sym e))) (subst (λ (k : ℕ). IsSlotRead v image k o a) (sym e) slot))

    each_before : (m : ℕ) → m < n → IsSlotRead v image m (get_or (values ++ o ∷ []) m None) (get_or (bad ++ a ∷ []) m false)
    each_before m low =
        subst (λ (x : Option InodeValue). IsSlotRead v image m x (get_or (bad ++ a ∷ []) m false)) (sym (value_before m low))
        (subst (IsSlotRead v image m (get_or values m None)) (sym (bad_before m low)) (h.each m low))

    used_last : (m : ℕ) → m ≡ n → get_or (used ++ is_some o ∷ []) m false ≡ is_some (get_or (values ++ o ∷ []) m None)
    used_last m e = get_or_push used (is_some o) false m (long.used_are ∙ sym e) ∙ ap is_some (sym (value_last m e))

    used_before : (m : ℕ) → m < n → get_or (used ++ is_some o ∷ []) m false ≡ is_some (get_or (values ++ o ∷ []) m None)
    used_before m low = used_at m low ∙ h.used_is m low ∙ ap is_some (sym (value_before m low))

  pub no_slots : AreSlotsRead v image 0 [] [] []
  no_slots = record { each = λ m less. absurd (omega arith); used_is = λ m less. absurd (omega arith) }

  -- ---- all slots

  pub said_past : (n : ℕ) → inode_count v ≤ n → inode_said v image n ≡ None
  unfolding inode_said
  said_past n far =
      let t : nat_lt n (inode_count v) ≡ false = grind (arith, nat_tests) in
      ap (λ (b : Bool). cond b (option_and_then (λ s. s) (slot_said v image n)) None) t

  module _ (values : List (Option InodeValue)) (bad used : List Bool) (long : AreLong (inode_count v) values bad used) (h : AreSlotsRead v image (inode_count v) values bad used) where
    pub inodes_are : AreInodes values v image
    inodes_are n = elim (cases_lt n (inode_count v)) [
      | inl low ↦ sym (h.each n low).said
      | inr high ↦ let e = long.values_are in let far : length values ≤ n = omega arith in get_or_past values n None far ∙ sym (said_past n high)
    ]

    pub used_are : AreUsed used v image
    used_are n = elim (cases_lt n (inode_count v)) [
      | inl low ↦ h.used_is n low ∙ ap is_some (sym (h.each n low).said)
      | inr high ↦ let e = long.used_are in let far : length used ≤ n = omega arith in get_or_past used n false far ∙ ap is_some (sym (said_past n high))
    ]

-- a directory's entries past the last inode are none
pub none_past : (v : Volume) (image : Image) (n : ℕ) → inode_count v ≤ n → [] ≡ targets_of (entries_of v image n)
none_past v image n far = free_targets v image n (said_past v image n far)

-- the same, where the lists are known to be these
pub next_long : (n : ℕ) (values : List (Option InodeValue)) (bad used : List Bool) (o : Option InodeValue) (a b : Bool) (vs : List (Option InodeValue)) (bs us : List Bool)
    → vs ≡ values ++ o ∷ [] → bs ≡ bad ++ a ∷ [] → us ≡ used ++ b ∷ [] → AreLong n values bad used → AreLong (n + 1) vs bs us
next_long n values bad used o a b vs bs us p q r h =
    subst (λ (x : List (Option InodeValue)). AreLong (n + 1) x bs us) (sym p)
    (subst (λ (x : List Bool). AreLong (n + 1) (values ++ o ∷ []) x us) (sym q)
    (subst (AreLong (n + 1) (values ++ o ∷ []) (bad ++ a ∷ [])) (sym r) (long_more n values bad used o a b h)))

pub next_slots : (v : Volume) (image : Image) (n : ℕ) (values : List (Option InodeValue)) (bad used : List Bool) (o : Option InodeValue) (a b : Bool) (vs : List (Option InodeValue)) (bs us : List Bool)
    → vs ≡ values ++ o ∷ [] → bs ≡ bad ++ a ∷ [] → us ≡ used ++ b ∷ [] → b ≡ is_some o → AreLong n values bad used → AreSlotsRead v image n values bad used → IsSlotRead v image n o a
    → AreSlotsRead v image (n + 1) vs bs us
next_slots v image n values bad used o a b vs bs us p q r is long h slot =
    subst (λ (x : List (Option InodeValue)). AreSlotsRead v image (n + 1) x bs us) (sym p)
    (subst (λ (x : List Bool). AreSlotsRead v image (n + 1) (values ++ o ∷ []) x us) (sym q)
    (subst (AreSlotsRead v image (n + 1) (values ++ o ∷ []) (bad ++ a ∷ [])) (sym (r ∙ ap (λ (t : Bool). used ++ t ∷ []) is)) (slots_more v image n values bad used o a long h slot)))
