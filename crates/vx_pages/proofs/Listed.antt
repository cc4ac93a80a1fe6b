-- What stands in the slots, by the number of a page's slot.
use Rattle.std.proofs.Common.{◌≡◌, ℕ, count_by, true, false, ◌&&◌, cond, nat_eq, List, [], ◌∷◌, Option, Some, None, refl, ◌∙◌, arith}
use Rattle.std.specs.Prelude.{option_map, is_some}
use Rattle.std.specs.List.{AllByRecursion}
use Rattle.std.specs.Option.{option_map_or}
use Rattle.std.proofs.lemmas.List.Sums.{sum_by-cons}
use Rattle.std.specs.Map.{lookup, lookup_entry, remove_entry, set_value}
use Rattle.lru.specs.LruCache.{promoted}
use Rattle.vx_pages.specs.Pages.{Entry, is_page, find, without, to_front, edit, last_changed}
use Rattle.vx_pages.specs.Slots.{Slot, Slots, listed, IsSlotOf, changed_slots, last_changed_slot}

module _ (ino page : ℕ) where
  pub find_listed : (k : ℕ) (ss : Slots) → IsSlotOf ino page (Some k) ss → find ino page (listed ss) ≡ option_map (λ (s : Slot). s.entry) (lookup (nat_eq k) ss)
  find_listed k [] h = refl
  find_listed k (s ∷ ss) h = grind (arith, h.0, find_listed k ss h.1)

  pub find_none : (ss : Slots) → IsSlotOf ino page None ss → find ino page (listed ss) ≡ None
  find_none [] h = refl
  find_none (s ∷ ss) h = grind (arith, h.0, find_none ss h.1)

  pub without_listed : (k : ℕ) (ss : Slots) → IsSlotOf ino page (Some k) ss → listed (remove_entry (nat_eq k) ss) ≡ without ino page (listed ss)
  without_listed k [] h = refl
  without_listed k (s ∷ ss) h = grind (arith, h.0, without_listed k ss h.1)

  pub edit_listed : (k : ℕ) (f : Entry → Entry) (ss : Slots) (s w : Slot) → IsSlotOf ino page (Some k) ss → lookup (nat_eq k) ss ≡ Some s → w ≡ record { used = s.used; entry = f s.entry } → listed (set_value (nat_eq k) ss w) ≡ edit ino page f (listed ss)
  edit_listed k f [] s w h found is = refl
  edit_listed k f (t ∷ ss) s w h found is = grind (arith, h.0, found, is, edit_listed k f ss s w h.1)

  pub lookup_held : (k : ℕ) (ss : Slots) (e : ℕ × Slot) → IsSlotOf ino page (Some k) ss → lookup_entry (nat_eq k) ss ≡ Some e → (lookup (nat_eq k) ss ≡ Some e.1) × (e.0 ≡ k) × (e.1.used ≡ true)
  lookup_held k [] e h found = absurd (cc)
  lookup_held k (t ∷ ss) e h found = grind (arith, h.0, found, lookup_held k ss e h.1)

  pub lookup_missed : (k : ℕ) (ss : Slots) → lookup_entry (nat_eq k) ss ≡ None → lookup (nat_eq k) ss ≡ None
  lookup_missed k [] found = refl
  lookup_missed k (t ∷ ss) found = grind (arith, found, lookup_missed k ss)

  pub front_listed : (k : ℕ) (ss : Slots) → IsSlotOf ino page (Some k) ss → listed (promoted (nat_eq k) ss) ≡ to_front ino page (listed ss)
  front_listed k ss h = (elim (lookup_entry (nat_eq k) ss) as (λ o. lookup_entry (nat_eq k) ss ≡ o → listed (option_map_or (λ e. e ∷ remove_entry (nat_eq k) ss) o ss) ≡ to_front ino page (listed ss)) [
    | None ↦ λ none. grind (arith, find_listed k ss h, lookup_missed k ss none)
    | Some e ↦ λ found. let l = lookup_held k ss e h found in grind (arith, find_listed k ss h, l.0, l.2, without_listed k ss h)
  ]) refl

  pub front_none : (ss : Slots) → IsSlotOf ino page None ss → to_front ino page (listed ss) ≡ listed ss
  front_none ss h = rw (find_none ss h) refl

  pub edit_none : (f : Entry → Entry) (ss : Slots) → IsSlotOf ino page None ss → edit ino page f (listed ss) ≡ listed ss
  edit_none f [] h = refl
  edit_none f (t ∷ ss) h = grind (arith, h.0, edit_none f ss h.1)

  pub absent : (ss : Slots) → find ino page (listed ss) ≡ None → IsSlotOf ino page None ss
  absent [] h = tt
  absent (t ∷ ss) h = grind (arith, h, absent ss)

pub unused_listed : (ss : Slots) → AllByRecursion (λ (s : ℕ × Slot). s.1.used ≡ false) ss → listed ss ≡ []
unused_listed [] h = refl
unused_listed (s ∷ ss) h = grind (arith, h.0, unused_listed ss h.1)

pub changed_listed : (ss : Slots) → changed_slots ss ≡ count_by (λ (e : Entry). e.changed) (listed ss)
changed_listed [] = refl
changed_listed (s ∷ ss) = grind (arith, changed_listed ss, sum_by-cons (λ (e : Entry). cond e.changed 1 0) s.1.entry (listed ss))

pub last_listed : (last : Option (ℕ × ℕ)) (ss : Slots) → last_changed_slot last ss ≡ option_map_or (λ p. Some p) (last_changed (listed ss)) last
last_listed last [] = refl
last_listed last (s ∷ ss) = grind (arith, last_listed (cond (s.1.used && s.1.entry.changed) (Some (s.1.entry.ino, s.1.entry.page)) last) ss)

module _ (ino page k : ℕ) where
  pub there_listed : (ss : Slots) → IsSlotOf ino page (Some k) ss → is_some (lookup (nat_eq k) ss) ≡ is_some (find ino page (listed ss))
  there_listed ss h = (elim (lookup (nat_eq k) ss) as (λ o. lookup (nat_eq k) ss ≡ o → is_some o ≡ is_some (find ino page (listed ss))) [
    | None ↦ λ f. rw (find_listed ino page k ss h, f) refl
    | Some s ↦ λ f. rw (find_listed ino page k ss h, f) refl
  ]) refl

  -- a slot that isn't there holds no page
  pub missed : (ss : Slots) → IsSlotOf ino page (Some k) ss → lookup (nat_eq k) ss ≡ None → IsSlotOf ino page None ss
  missed [] h none = tt
  missed (s ∷ ss) h none = (grind (arith, h.0, none), missed ss h.1 (grind (arith, none)))

pub oldest_listed : (ss : Slots) → last_changed_slot None ss ≡ last_changed (listed ss)
oldest_listed ss = last_listed None ss ∙ itself (last_changed (listed ss))
  where
    itself : (o : Option (ℕ × ℕ)) → option_map_or (λ p. Some p) o None ≡ o
    itself None = refl
    itself (Some p) = refl

pub find_front : (ino page : ℕ) (es : List Entry) → find ino page (to_front ino page es) ≡ find ino page es
find_front ino page es = (elim (find ino page es) as (λ o. find ino page es ≡ o → find ino page (option_map_or (λ e. e ∷ without ino page es) o es) ≡ o) [
  | None ↦ λ none. none
  | Some e ↦ λ found. grind (arith, itself es e found)
]) refl
  where
    itself : (fs : List Entry) (e : Entry) → find ino page fs ≡ Some e → is_page ino page e ≡ true
    itself [] e f = absurd (let no : None ≡ Some e = f in cc)
    itself (g ∷ fs) e f = grind (arith, f, itself fs e)
