-- Walks from the last slot on.
use Rattle.std.proofs.Common.{◌≡◌, ◌≤◌, ◌&&◌, ℕ, suc, true, false, cond, [], ◌∷◌, ◌++◌, length, Option, Some, None, refl, sym, ap, ◌∙◌, arith}
use Rattle.vx_pages.specs.Slots.{Slot, Slots, listed, slot_for_new, last_unchanged_slot, last_changed_slot}
use Rattle.vx_pages.proofs.Facts.{listed_fewer}

module _ (ss old : Slots) (s : ℕ × Slot) (at : old ≡ ss ++ s ∷ []) where
  changed_more : (last : Option (ℕ × ℕ)) (ts : Slots) → last_changed_slot last (ts ++ s ∷ []) ≡ cond (s.1.used && s.1.entry.changed) (Some (s.1.entry.ino, s.1.entry.page)) (last_changed_slot last ts)
  changed_more last [] = refl
  changed_more last (t ∷ ts) = changed_more (cond (t.1.used && t.1.entry.changed) (Some (t.1.entry.ino, t.1.entry.page)) last) ts

  pub changed_met : s.1.used ≡ true → s.1.entry.changed ≡ true → Some (s.1.entry.ino, s.1.entry.page) ≡ last_changed_slot None old
  changed_met used changed = let is : (s.1.used && s.1.entry.changed) ≡ true = grind (arith, used, changed) in
      sym (ap (last_changed_slot None) at ∙ changed_more None ss ∙ ap (λ b. cond b (Some (s.1.entry.ino, s.1.entry.page)) (last_changed_slot None ss)) is)

  pub changed_passed : (s.1.used && s.1.entry.changed) ≡ false → last_changed_slot None ss ≡ last_changed_slot None old
  changed_passed is = sym (ap (last_changed_slot None) at ∙ changed_more None ss ∙ ap (λ b. cond b (Some (s.1.entry.ino, s.1.entry.page)) (last_changed_slot None ss)) is)

  unchanged_more : (last : Option ℕ) (ts : Slots) → last_unchanged_slot last (ts ++ s ∷ []) ≡ cond s.1.entry.changed (last_unchanged_slot last ts) (Some s.0)
  unchanged_more last [] = refl
  unchanged_more last (t ∷ ts) = unchanged_more (cond t.1.entry.changed last (Some t.0)) ts

  pub unchanged_met : s.1.entry.changed ≡ false → Some s.0 ≡ last_unchanged_slot None old
  unchanged_met is = sym (ap (last_unchanged_slot None) at ∙ unchanged_more None ss ∙ ap (λ b. cond b (last_unchanged_slot None ss) (Some s.0)) is)

  pub unchanged_passed : s.1.entry.changed ≡ true → last_unchanged_slot None ss ≡ last_unchanged_slot None old
  unchanged_passed is = sym (ap (last_unchanged_slot None) at ∙ unchanged_more None ss ∙ ap (λ b. cond b (last_unchanged_slot None ss) (Some s.0)) is)

-- where every slot is used, the new page gets the last unchanged one
pub full_spare : (last : Option ℕ) (ss : Slots) → length ss ≤ length (listed ss) → last_unchanged_slot last ss ≡ slot_for_new last ss
full_spare last [] full = refl
full_spare last (s ∷ ss) full = (elim s.1.used as (λ u. suc (length ss) ≤ length (cond u (s.1.entry ∷ listed ss) (listed ss)) → last_unchanged_slot last (s ∷ ss) ≡ cond u (slot_for_new (cond s.1.entry.changed last (Some s.0)) ss) (Some s.0)) [
  | true ↦ λ f. full_spare (cond s.1.entry.changed last (Some s.0)) ss (omega (arith, f))
  | false ↦ λ f. absurd (omega (arith, f, listed_fewer ss))
]) full
