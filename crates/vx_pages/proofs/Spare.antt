-- The slot that a new page gets.
use Rattle.std.proofs.Common.{◌≡◌, ◌+◌, ◌<◌, ℕ, Bool, true, false, cond, nat_eq, List, [], ◌∷◌, length, Option, Some, None, refl, sym, ap, ◌∙◌, subst, arith}
use Rattle.std.specs.List.{AllByRecursion, IsDistinct}
use Rattle.std.specs.Option.{option_map_or}
use Rattle.std.specs.Map.{keys_of, lookup_entry, remove_entry}
use Rattle.vx_pages.specs.Pages.{Entry, without_unchanged, with_room}
use Rattle.vx_pages.specs.Slots.{Slot, Slots, listed, slot_for_new}

abbrev all_used : Slots → Bool
all_used [] = true
all_used (s ∷ ss) = cond s.1.used (all_used ss) false

-- the last unchanged one
abbrev last_clean : Slots → Option (ℕ × Slot)
last_clean [] = None
last_clean (s ∷ ss) = option_map_or (λ e. Some e) (last_clean ss) (cond s.1.entry.changed None (Some s))

key_apart : (n : ℕ) (ss : Slots) (e : ℕ × Slot) → AllByRecursion (λ y. nat_eq n y ≡ false) (keys_of ss) → lookup_entry (nat_eq e.0) ss ≡ Some e → nat_eq e.0 n ≡ false
key_apart n [] e h found = absurd (cc)
key_apart n (s ∷ ss) e h found = grind (arith, h.0, found, key_apart n ss e h.1)

-- without the slot e the slots list these
abbrev Leaves : Slots → ℕ × Slot → List Entry → Type 0
Leaves ss e rest = (lookup_entry (nat_eq e.0) ss ≡ Some e) × (listed (remove_entry (nat_eq e.0) ss) ≡ rest)

leaves_first : (s : ℕ × Slot) (ss : Slots) → Leaves (s ∷ ss) s (listed ss)
leaves_first s ss = (grind arith, grind arith)

-- ---- where a slot is unused

unused_spare : (last : Option ℕ) (ss : Slots) → IsDistinct nat_eq (keys_of ss) → all_used ss ≡ false → (e : ℕ × Slot) × (slot_for_new last ss ≡ Some e.0) × Leaves ss e (listed ss) × (length (listed ss) < length ss)
unfolding IsDistinct
unused_spare last [] d is = absurd (let no : true ≡ false = is in cc)
unused_spare last (s ∷ ss) d is = (elim s.1.used as (λ u. s.1.used ≡ u → (e : ℕ × Slot) × (slot_for_new last (s ∷ ss) ≡ Some e.0) × Leaves (s ∷ ss) e (listed (s ∷ ss)) × (length (listed (s ∷ ss)) < length (s ∷ ss))) [
  | true ↦ λ u.
      let rest : all_used ss ≡ false = grind (arith, is, u) in
      let h = unused_spare (cond s.1.entry.changed last (Some s.0)) ss d.1 rest in
      let other = key_apart s.0 ss h.0 d.0 h.2.0 in
      (h.0, grind (arith, u, h.1), (grind (arith, other, h.2.0), grind (arith, u, other, h.2.1)), grind (arith, u, h.3))
  | false ↦ λ u. (s, grind (arith, u), (grind arith, grind (arith, u)), grind (arith, u, listed_less ss))
]) refl
  where
    listed_less : (ts : Slots) → length (listed ts) < length ts + 1
    listed_less [] = omega arith
    listed_less (t ∷ ts) = grind (arith, listed_less ts)

-- ---- where all are used

used_count : (ss : Slots) → all_used ss ≡ true → length (listed ss) ≡ length ss
used_count [] is = refl
used_count (s ∷ ss) is = grind (arith, is, used_count ss)

used_spare : (last : Option ℕ) (ss : Slots) → all_used ss ≡ true → slot_for_new last ss ≡ option_map_or (λ (e : ℕ × Slot). Some e.0) (last_clean ss) last
used_spare last [] is = refl
used_spare last (s ∷ ss) is = grind (arith, is, used_spare (cond s.1.entry.changed last (Some s.0)) ss)

used_none : (ss : Slots) → all_used ss ≡ true → last_clean ss ≡ None → without_unchanged (listed ss) ≡ None
used_none [] is none = refl
used_none (s ∷ ss) is none = grind (arith, is, none, used_none ss)

used_some : (ss : Slots) (e : ℕ × Slot) → IsDistinct nat_eq (keys_of ss) → all_used ss ≡ true → last_clean ss ≡ Some e → (lookup_entry (nat_eq e.0) ss ≡ Some e) × (without_unchanged (listed ss) ≡ Some (listed (remove_entry (nat_eq e.0) ss)))
unfolding IsDistinct
used_some [] e d is found = absurd (let no : None ≡ Some e = found in cc)
used_some (s ∷ ss) e d is found =
    let used : s.1.used ≡ true = grind (arith, is) in
    let rest : all_used ss ≡ true = grind (arith, is) in
    (elim (last_clean ss) as (λ o. last_clean ss ≡ o → option_map_or (λ e. Some e) o (cond s.1.entry.changed None (Some s)) ≡ Some e → (lookup_entry (nat_eq e.0) (s ∷ ss) ≡ Some e) × (without_unchanged (listed (s ∷ ss)) ≡ Some (listed (remove_entry (nat_eq e.0) (s ∷ ss))))) [
      | None ↦ λ none f.
          let none_left = used_none ss rest none in
          let same : s ≡ e = grind (arith, f) in
          let clean : s.1.entry.changed ≡ false = grind (arith, f) in
          subst (λ (x : ℕ × Slot). (lookup_entry (nat_eq x.0) (s ∷ ss) ≡ Some x) × (without_unchanged (listed (s ∷ ss)) ≡ Some (listed (remove_entry (nat_eq x.0) (s ∷ ss))))) same (grind arith, grind (arith, used, clean, none_left))
      | Some x ↦ λ some f.
          let h = used_some ss e d.1 rest (some ∙ f) in
          let other = key_apart s.0 ss e d.0 h.0 in
          (grind (arith, other, h.0), grind (arith, used, other, h.1))
    ]) refl found

-- ---- either way

module _ (ss : Slots) (count : length ss ≡ 1024) where
  pub spare_none : IsDistinct nat_eq (keys_of ss) → slot_for_new None ss ≡ None → with_room (listed ss) ≡ None
  spare_none d none = (elim (all_used ss) as (λ u. all_used ss ≡ u → with_room (listed ss) ≡ None) [
    | true ↦ λ u. grind (arith, used_count ss u, count, used_none ss u, used_spare None ss u, none)
    | false ↦ λ u. let h = unused_spare None ss d u in let no : Some h.0.0 ≡ None = sym h.1 ∙ none in absurd (cc)
  ]) refl

  pub spare_some : (k : ℕ) → IsDistinct nat_eq (keys_of ss) → slot_for_new None ss ≡ Some k → (e : ℕ × Slot) × (lookup_entry (nat_eq k) ss ≡ Some e) × (with_room (listed ss) ≡ Some (listed (remove_entry (nat_eq k) ss)))
  spare_some k d some = (elim (all_used ss) as (λ u. all_used ss ≡ u → (e : ℕ × Slot) × (lookup_entry (nat_eq k) ss ≡ Some e) × (with_room (listed ss) ≡ Some (listed (remove_entry (nat_eq k) ss)))) [
    | true ↦ λ u. full u (last_clean ss) refl
    | false ↦ λ u.
        let h = unused_spare None ss d u in
        let same : h.0.0 ≡ k = let s : Some h.0.0 ≡ Some k = sym h.1 ∙ some in cc in
        (h.0, subst (λ n. lookup_entry (nat_eq n) ss ≡ Some h.0) same h.2.0, subst (λ n. with_room (listed ss) ≡ Some (listed (remove_entry (nat_eq n) ss))) same (grind (arith, h.2.1, h.3, count)))
  ]) refl
    where
      full : all_used ss ≡ true → (o : Option (ℕ × Slot)) → last_clean ss ≡ o → (e : ℕ × Slot) × (lookup_entry (nat_eq k) ss ≡ Some e) × (with_room (listed ss) ≡ Some (listed (remove_entry (nat_eq k) ss)))
      full u None is = let no : None ≡ Some k = sym (used_spare None ss u ∙ ap (λ (o : Option (ℕ × Slot)). option_map_or (λ e. Some e.0) o None) is) ∙ some in absurd (cc)
      full u (Some e) is =
          let one : Some e.0 ≡ Some k = sym (used_spare None ss u ∙ ap (λ (o : Option (ℕ × Slot)). option_map_or (λ e. Some e.0) o None) is) ∙ some in
          let same : e.0 ≡ k = cc in
          let h = used_some ss e d u is in
          (e, subst (λ n. lookup_entry (nat_eq n) ss ≡ Some e) same h.0, subst (λ n. with_room (listed ss) ≡ Some (listed (remove_entry (nat_eq n) ss))) same (grind (arith, h.1, used_count ss u, count)))
