-- What the directories are by number, after a change.
use Rattle.std.proofs.Common.{◌≡◌, ◌≢◌, ℕ, zero, suc, ◌<◌, ◌≤◌, List, [], ◌∷◌, ◌++◌, length, Option, Some, None, Result, refl, sym, ◌∙◌, ap, arith, set, get_or, subst}
use Rattle.std.specs.Prelude.{OnOk}
use Rattle.std.proofs.lemmas.Option.{same_Some, none-some}
use Rattle.std.proofs.lemmas.Result.{on_ok_weaker}
use Rattle.std.proofs.lemmas.List.{set-get_or}
use Rattle.std.specs.declared.alloc.AllocError.{AllocError}
use Rattle.vx_txn.specs.Directories.{DirectoryValue, directory_at}

abbrev pub Slots : Type 0
Slots = List (Option DirectoryValue)

pub at_set : (slots : Slots) (i : ℕ) (o : Option DirectoryValue) → i < length slots → directory_at (set slots i o) i ≡ o
at_set [] i o h = absurd (omega arith)
at_set (p ∷ slots) zero o h = refl
at_set (p ∷ slots) (suc i) o h = at_set slots i o (omega arith)

pub at_others : (slots : Slots) (i q : ℕ) (o : Option DirectoryValue) → q ≢ i → directory_at (set slots i o) q ≡ directory_at slots q
at_others [] i q o ne = refl
at_others (p ∷ slots) zero zero o ne = absurd (ne refl)
at_others (p ∷ slots) zero (suc q) o ne = refl
at_others (p ∷ slots) (suc i) zero o ne = refl
at_others (p ∷ slots) (suc i) (suc q) o ne = at_others slots i q o (λ e. ne (ap suc e))

pub at_push : (slots : Slots) (q : ℕ) → directory_at (slots ++ None ∷ []) q ≡ directory_at slots q
at_push [] zero = refl
at_push [] (suc q) = refl
at_push (o ∷ slots) zero = refl
at_push (o ∷ slots) (suc q) = at_push slots q

pub at_index : (slots : Slots) (i : ℕ) (d : Option DirectoryValue) → i < length slots → directory_at slots i ≡ get_or slots i d
at_index [] i d h = absurd (omega arith)
at_index (o ∷ slots) zero d h = refl
at_index (o ∷ slots) (suc i) d h = at_index slots i d (omega arith)

pub at_past : (slots : Slots) (i : ℕ) → length slots ≤ i → directory_at slots i ≡ None
at_past [] i h = refl
at_past (o ∷ slots) zero h = absurd (omega arith)
at_past (o ∷ slots) (suc i) h = at_past slots i (omega arith)

module _ (slots : Slots) (i : ℕ) where
  -- a slot that is written as it was
  pub same_set : (d : Option DirectoryValue) (q : ℕ) → directory_at (set slots i (get_or slots i d)) q ≡ directory_at slots q
  same_set d q = ap (λ (s : Slots). directory_at s q) (set-get_or slots i d)

  -- the directory there is changed
  pub here_set : (o : Option DirectoryValue) (old new : DirectoryValue) (f : DirectoryValue → DirectoryValue) → i < length slots → get_or slots i o ≡ Some old → new ≡ f old
      → (d : DirectoryValue) → directory_at slots i ≡ Some d → directory_at (set slots i (Some new)) i ≡ Some (f d)
  here_set o old new f h e is d there =
      at_set slots i (Some new) h ∙ ap Some (is ∙ ap f (same_Some old d (sym (at_index slots i o h ∙ e) ∙ there)))

  pub none_here : {P : Type 0} (o : Option DirectoryValue) → i < length slots → get_or slots i o ≡ None → (d : DirectoryValue) → directory_at slots i ≡ Some d → P
  none_here o h e d there = absurd (none-some d (sym (at_index slots i o h ∙ e) ∙ there))

  pub none_past : {P : Type 0} → length slots ≤ i → (d : DirectoryValue) → directory_at slots i ≡ Some d → P
  none_past h d there = absurd (none-some d (sym (at_past slots i h) ∙ there))

  pub ok_here : (r : Result (Unit {0}) AllocError) (o : Option DirectoryValue) (old new : DirectoryValue) (f : DirectoryValue → DirectoryValue) → i < length slots → get_or slots i o ≡ Some old → OnOk r (new ≡ f old)
      → (d : DirectoryValue) → directory_at slots i ≡ Some d → OnOk r (directory_at (set slots i (Some new)) i ≡ Some (f d))
  ok_here r o old new f h e is d there = on_ok_weaker r (λ (p : new ≡ f old). here_set o old new f h e p d there) is

  -- the directory there is changed, and something holds of it then
  pub grown_here : {E : Type 0} (r : Result (Unit {0}) E) (P : DirectoryValue → DirectoryValue → Type 0) (Q : DirectoryValue → Option DirectoryValue → Type 0) → ((d new : DirectoryValue) → P d new → Q d (Some new))
      → (o : Option DirectoryValue) (old new : DirectoryValue) → i < length slots → get_or slots i o ≡ Some old → OnOk r (P old new)
      → (d : DirectoryValue) → directory_at slots i ≡ Some d → OnOk r (Q d (directory_at (set slots i (Some new)) i))
  grown_here r P Q weaker o old new h e is d there =
      on_ok_weaker r (λ (p : P old new).
      subst (Q d) (sym (at_set slots i (Some new) h)) (weaker d new (subst (λ (x : DirectoryValue). P x new) (same_Some old d (sym (at_index slots i o h ∙ e) ∙ there)) p))) is

  pub same_here : (o : Option DirectoryValue) (old : DirectoryValue) → i < length slots → get_or slots i o ≡ Some old → (d : DirectoryValue) → directory_at slots i ≡ Some d → old ≡ d
  same_here o old h e d there = same_Some old d (sym (at_index slots i o h ∙ e) ∙ there)
