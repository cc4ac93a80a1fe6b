-- What a search of the slots says of the handles that they hold.
use Rattle.std.proofs.Common.{◌≡◌, ◌<◌, ℕ, true, false, List, Option, Some, None, refl, sym, ap, ◌∙◌, arith, Ok, Err}
use Rattle.std.specs.Prelude.{is_some, nat_eq, IfSome, IfNone}
use Rattle.std.specs.FinMap as map
use Rattle.std.proofs.lemmas.Bool.Decides.{nat_tests}
use Rattle.vx_handles.specs.declared.handles.Entry.{Entry}
use Rattle.vx_handles.specs.declared.handles.HandleRefusal.TheVariants.{BadHandle, TooManyOpen}
use Rattle.vx_handles.specs.OpenHandles.{Key, OpenHandles, key_of, value_of, opened, add_answer}
use Rattle.vx_handles.proofs.Slots.{slot_at, IsAbsent, IsApart, at_none, at_some}

module _ (slots : List (Option Entry)) (key : Key) (handles : OpenHandles) (is : opened slots ≡ handles) where
  pub absent_key : IsAbsent slots key → map.get handles key ≡ None
  absent_key absent = ap (λ (m : OpenHandles). map.get m key) (sym is) ∙ at_none slots key absent

  pub found_key : (place : ℕ) (e : Entry) → IsApart slots → slot_at slots place ≡ Some e → key_of e ≡ key → map.get handles key ≡ Some (value_of e)
  found_key place e alone at same = ap (λ (m : OpenHandles). map.get m key) (sym is) ∙ ap (map.get (opened slots)) (sym same) ∙ at_some slots place e alone at

  pub known_key : (o : Option (ℕ × Entry)) → IsApart slots → IfSome o (λ f. (slot_at slots f.0 ≡ Some f.1) × (key_of f.1 ≡ key)) → is_some o ≡ true → map.contains_key handles key ≡ true
  known_key None alone found some = absurd (cc)
  known_key (Some f) alone found some = ap is_some (found_key f.0 f.1 alone found.0 found.1)

pub no_slot : (slots : List (Option Entry)) (key : Key) (o : Option (ℕ × Entry)) → IfNone o (IsAbsent slots key) → is_some o ≡ false → IsAbsent slots key
no_slot slots key None absent none = absent
no_slot slots key (Some f) absent none = absurd (cc)

module _ (handles : OpenHandles) (key : Key) where
  pub answers_bad : map.contains_key handles key ≡ true → add_answer handles key ≡ Err BadHandle
  answers_bad there = rw there refl

  pub answers_full : map.get handles key ≡ None → map.len handles ≡ 256 → add_answer handles key ≡ Err (TooManyOpen 256)
  answers_full none full = rw (none, full) refl

  pub answers_fine : map.get handles key ≡ None → map.len handles < 256 → add_answer handles key ≡ Ok tt
  answers_fine none few =
      let no : nat_eq (map.len handles) 256 ≡ false = grind (arith, nat_tests) in
      rw (none, no) refl
