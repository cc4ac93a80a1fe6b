-- Pages that leave the index.
use Rattle.std.proofs.Common.{◌≡◌, ◌+◌, ◌≤◌, ℕ, Bool, true, false, ◌&&◌, ◌==◌, cond, nat_eq, List, [], ◌∷◌, length, Option, Some, None, is_some, refl, sym, ap, ◌∙◌, subst, arith}
use Rattle.std.specs.List.{AllByRecursion, IsDistinct}
use Rattle.std.specs.Map.{keys_of, lookup, remove_entry, set_value}
use Rattle.vx_pages.specs.Pages.{Entry, is_from, find, without, dropped_from}
use Rattle.vx_pages.specs.Indexes.{Tie, slot_at, Leaves, LacksFrom}
use Rattle.vx_pages.specs.Slots.{Slot, Slots, listed, holds, names, IsSlotOf, IsSlot, IsThere, but, AreTied, IsKept}
use Rattle.vx_pages.proofs.Rising.{same_number}
use Rattle.vx_pages.proofs.Facts.{other_slots}
use Rattle.vx_pages.proofs.Listed.{there_listed}
use Rattle.vx_pages.proofs.Kept.{length_set, all_set, there_set}

-- a page that is not listed has no entry
pub not_indexed : (ino page : ℕ) (o : Option ℕ) (ss : Slots) → IsSlotOf ino page o ss → IsThere o ss → find ino page (listed ss) ≡ None → o ≡ None
not_indexed ino page None ss h there none = refl
not_indexed ino page (Some k) ss h there none = let no : false ≡ true = sym (ap is_some none) ∙ sym (there_listed ino page k ss h) ∙ there in absurd (cc)

-- ---- the page of one slot

names_at : (k i q : ℕ) (o : Option ℕ) (ss : Slots) (s : Slot) → lookup (nat_eq k) ss ≡ Some s → IsSlotOf i q o ss → names o k ≡ holds i q s
names_at k i q o [] s found h = absurd (let no : None ≡ Some s = found in cc)
names_at k i q o (t ∷ ss) s found h = (elim (nat_eq k t.0) as (λ b. nat_eq k t.0 ≡ b → cond b (Some t.1) (lookup (nat_eq k) ss) ≡ Some s → names o k ≡ holds i q s) [
  | true ↦ λ is f. let same : t.1 ≡ s = cc in subst (λ n. names o n ≡ holds i q s) (sym (same_number k t.0 is)) (h.0 ∙ ap (holds i q) same)
  | false ↦ λ is f. names_at k i q o ss s f h.1
]) refl found

forgotten : (k ino page i q : ℕ) (o : Option ℕ) (s : Slot) → names o k ≡ holds i q s → s.used ≡ true → s.entry.ino ≡ ino → s.entry.page ≡ page → cond ((ino == i) && (page == q)) None o ≡ but k o
forgotten k ino page i q None s h used at_ino at_page = grind arith
forgotten k ino page i q (Some n) s h used at_ino at_page = grind (arith, h, used, at_ino, at_page)

remembered : (k i q : ℕ) (o : Option ℕ) (s : Slot) → names o k ≡ holds i q s → s.used ≡ false → o ≡ but k o
remembered k i q None s h unused = refl
remembered k i q (Some n) s h unused = grind (arith, h, unused)

some_named : (k : ℕ) (o : Option ℕ) → names o k ≡ true → is_some o ≡ true
some_named k None h = h
some_named k (Some n) h = refl

listed_removed : (k : ℕ) (ss : Slots) (s : Slot) → lookup (nat_eq k) ss ≡ Some s → length (listed (remove_entry (nat_eq k) ss)) + cond s.used 1 0 ≡ length (listed ss)
listed_removed k [] s found = absurd (let no : None ≡ Some s = found in cc)
listed_removed k (t ∷ ss) s found = grind (arith, found, listed_removed k ss s)

pub one_less : (a b : ℕ) (u : Bool) → a + cond u 1 0 ≡ b → u ≡ true → a + 1 ≡ b
one_less a b u h is = subst (λ x. a + cond x 1 0 ≡ b) is h

module _ (k : ℕ) (index : List Tie) (ss : Slots) (s : Slot) (found : lookup (nat_eq k) ss ≡ Some s) (tied : AreTied index ss) where
  pub forgets : (new : List Tie) → s.used ≡ true → Leaves s.entry.ino s.entry.page index new → (i q : ℕ) → slot_at i q new ≡ but k (slot_at i q index)
  forgets new used leaves i q = leaves i q ∙ forgotten k s.entry.ino s.entry.page i q (slot_at i q index) s (names_at k i q (slot_at i q index) ss s found (tied.each i q)) used refl refl

  pub keeps : s.used ≡ false → (i q : ℕ) → slot_at i q index ≡ but k (slot_at i q index)
  keeps unused i q = remembered k i q (slot_at i q index) s (names_at k i q (slot_at i q index) ss s found (tied.each i q)) unused

  pub one_forgotten : s.used ≡ true → is_some (slot_at s.entry.ino s.entry.page index) ≡ true
  one_forgotten used = some_named k (slot_at s.entry.ino s.entry.page index) (names_at k s.entry.ino s.entry.page (slot_at s.entry.ino s.entry.page index) ss s found (tied.each s.entry.ino s.entry.page) ∙ holds_itself)
    where
      holds_itself : holds s.entry.ino s.entry.page s ≡ true
      holds_itself = grind (arith, used)

  pub fewer_listed : (n : ℕ) → s.used ≡ true → n + 1 ≤ length (listed ss) → n ≤ length (listed (remove_entry (nat_eq k) ss))
  fewer_listed n used le = omega (arith, one_less (length (listed (remove_entry (nat_eq k) ss))) (length (listed ss)) s.used (listed_removed k ss s found) used, le)

  pub as_many_listed : (n : ℕ) → s.used ≡ false → n ≤ length (listed ss) → n ≤ length (listed (remove_entry (nat_eq k) ss))
  as_many_listed n unused le = let same = subst (λ u. length (listed (remove_entry (nat_eq k) ss)) + cond u 1 0 ≡ length (listed ss)) unused (listed_removed k ss s found) in omega (arith, same, le)

-- ---- a page that is dropped from its slot

length_without : (ino page : ℕ) (es : List Entry) → length es ≤ length (without ino page es) + 1
length_without ino page [] = omega arith
length_without ino page (e ∷ es) = grind (arith, length_without ino page es)

module _ (ino page n : ℕ) (s w : Slot) (unused : w.used ≡ false) where
  freed_listed : (ss : Slots) → IsSlotOf ino page (Some n) ss → lookup (nat_eq n) ss ≡ Some s → listed (set_value (nat_eq n) ss w) ≡ without ino page (listed ss)
  freed_listed [] h found = refl
  freed_listed (t ∷ ss) h found = grind (arith, h.0, found, unused, freed_listed ss h.1)

  freed_itself : (ss : Slots) → IsSlotOf ino page (Some n) ss → IsDistinct nat_eq (keys_of ss) → IsSlotOf ino page None (set_value (nat_eq n) ss w)
  unfolding IsDistinct
  freed_itself [] h d = tt
  freed_itself (t ∷ ss) h d = (elim (nat_eq n t.0) as (λ b. nat_eq n t.0 ≡ b → IsSlotOf ino page None (cond b ((t.0, w) ∷ ss) (t ∷ set_value (nat_eq n) ss w))) [
    | true ↦ λ is.
        let apart = subst (λ m. AllByRecursion (λ y. nat_eq m y ≡ false) (keys_of ss)) (sym (same_number n t.0 is)) d.0 in
        (grind (arith, unused), other_slots ino page n (Some n) ss (grind arith) apart h.1)
    | false ↦ λ other. (sym other ∙ h.0, freed_itself ss h.1 d.1)
  ]) refl

  freed_other : (i q : ℕ) (o : Option ℕ) (ss : Slots) → ((ino == i) && (page == q)) ≡ false → IsSlotOf ino page (Some n) ss → IsSlotOf i q o ss → IsSlotOf i q o (set_value (nat_eq n) ss w)
  freed_other i q o [] apart h g = tt
  freed_other i q o (t ∷ ss) apart h g = (elim (nat_eq n t.0) as (λ b. nat_eq n t.0 ≡ b → IsSlotOf i q o (cond b ((t.0, w) ∷ ss) (t ∷ set_value (nat_eq n) ss w))) [
    | true ↦ λ is. (g.0 ∙ not_held t (is ∙ sym is ∙ h.0) is, g.1)
    | false ↦ λ other. (g.0, freed_other i q o ss apart h.1 g.1)
  ]) refl
    where
      not_held : (t : ℕ × Slot) → nat_eq n t.0 ≡ holds ino page t.1 → nat_eq n t.0 ≡ true → holds i q t.1 ≡ holds i q w
      not_held t held is = grind (arith, held, is, unused, apart)

module _ (ino page n : ℕ) (index new : List Tie) (ss : Slots) (s w : Slot) (there : Some n ≡ slot_at ino page index) (tied : AreTied index ss) (distinct : IsDistinct nat_eq (keys_of ss)) (leaves : Leaves ino page index new)
    (found : lookup (nat_eq n) ss ≡ Some s) (is : w ≡ record { used = false; entry = s.entry }) where
  held_there : IsSlotOf ino page (Some n) ss
  held_there = subst (λ (k : Option ℕ). IsSlotOf ino page k ss) (sym there) (tied.each ino page)

  unused : w.used ≡ false
  unused = ap (λ (x : Slot). x.used) is

  pub page_freed : listed (set_value (nat_eq n) ss w) ≡ without ino page (listed ss)
  page_freed = freed_listed ino page n s w unused ss held_there found

  each_freed : (i q : ℕ) → IsSlotOf i q (cond ((ino == i) && (page == q)) None (slot_at i q index)) (set_value (nat_eq n) ss w)
  each_freed i q = (elim ((ino == i) && (page == q)) as (λ b. ((ino == i) && (page == q)) ≡ b → IsSlotOf i q (cond b None (slot_at i q index)) (set_value (nat_eq n) ss w)) [
    | true ↦ λ same.
        let at_ino : ino ≡ i = grind (arith, same) in let at_page : page ≡ q = grind (arith, same) in
        subst (λ x. IsSlotOf x q None (set_value (nat_eq n) ss w)) at_ino (subst (λ x. IsSlotOf ino x None (set_value (nat_eq n) ss w)) at_page (freed_itself ino page n s w unused ss held_there distinct))
    | false ↦ λ other. freed_other ino page n s w unused i q (slot_at i q index) ss other held_there (tied.each i q)
  ]) refl

  there_freed : (i q : ℕ) → IsThere (cond ((ino == i) && (page == q)) None (slot_at i q index)) (set_value (nat_eq n) ss w)
  there_freed i q = elim ((ino == i) && (page == q)) as (λ b. IsThere (cond b None (slot_at i q index)) (set_value (nat_eq n) ss w)) [
    | true ↦ tt
    | false ↦ there_set (nat_eq n) (slot_at i q index) ss w (tied.there i q)
  ]

  pub tied_freed : AreTied new (set_value (nat_eq n) ss w)
  tied_freed = record {
    each = λ i q. rw (leaves i q) (each_freed i q);
    there = λ i q. rw (leaves i q) (there_freed i q);
  }

  pub kept_freed : length new + 1 ≡ length index → (block : ℕ) → IsKept block ss index → IsKept block (set_value (nat_eq n) ss w) new
  kept_freed fewer block kept = record {
    count = length_set (nat_eq n) ss w ∙ kept.count;
    each = all_set (nat_eq n) (IsSlot block) ss s w found (λ m h. (h.0, ap (λ (x : Slot). length x.entry.bytes) is ∙ h.1)) kept.each;
    tied = tied_freed;
    few = omega (arith, fewer, kept.few, length_without ino page (listed ss), ap (length) page_freed);
  }

-- ---- the pages of a file from one on

pub dropped_without : (ino page first : ℕ) (es : List Entry) → page ≤ first → dropped_from ino page (without ino first es) ≡ dropped_from ino page es
dropped_without ino page first [] le = refl
dropped_without ino page first (e ∷ es) le = grind (arith, le, dropped_without ino page first es le)

module _ (ino page : ℕ) (index : List Tie) (lacks : LacksFrom ino page index) where
  stays : (s : ℕ × Slot) → names (slot_at ino s.1.entry.page index) s.0 ≡ holds ino s.1.entry.page s.1 → s.1.used ≡ true → is_from ino page s.1.entry ≡ false
  stays s h used = (elim (is_from ino page s.1.entry) as (λ b. is_from ino page s.1.entry ≡ b → b ≡ false) [
    | false ↦ λ is. refl
    | true ↦ λ is.
        let le : page ≤ s.1.entry.page = grind (arith, is) in
        let none : slot_at ino s.1.entry.page index ≡ None = lacks s.1.entry.page le in
        let no : false ≡ holds ino s.1.entry.page s.1 = sym (ap (λ (o : Option ℕ). names o s.0) none) ∙ h in
        absurd (grind (arith, no, used, is))
  ]) refl

  pub dropped_none : (ss : Slots) → ((i q : ℕ) → IsSlotOf i q (slot_at i q index) ss) → dropped_from ino page (listed ss) ≡ listed ss
  dropped_none [] each = refl
  dropped_none (s ∷ ss) each = grind (arith, stays s (each ino s.1.entry.page).0, dropped_none ss (λ i q. (each i q).1))

pub lacks_all : (ino page : ℕ) (index : List Tie) → length index ≤ 0 → LacksFrom ino page index
lacks_all ino page [] le q from = refl
lacks_all ino page (e ∷ es) le q from = absurd (omega (arith, le))
