-- Which calls wait, by what the map of them answers.
use Rattle.std.proofs.Common.{◌≡◌, ℕ, List, [], ◌∷◌, map, cond, Bool, true, false, ◌&&◌, Some, None, length, refl, sym, ap, subst, ◌∙◌}
use Rattle.std.specs.Prelude.{T}
use Rattle.std.specs.List.{list_any}
use Rattle.std.specs.declared.cmp.Ordering.TheVariants.{Less, Equal, Greater}
use Rattle.std.specs.Ordering.{nat_cmp, is_eq, is_lt}
use Rattle.std.specs.Cmp.{tied_itself, nat_cmp_total}
use Rattle.std.specs.FinMap as map
use Rattle.std.specs.FinMap.Entries.{find, is_sorted, below_all}

first : (a b : Bool) → T (a && b) → T a
first true b p = tt
first false b p = p

second : (a b : Bool) → T (a && b) → T b
second true b p = p
second false b p = absurd p

module _ {X : Type 0} where
  find_first : (e : ℕ × X) (es : List (ℕ × X)) → find nat_cmp e.0 (e ∷ es) ≡ Some e.1
  find_first e es = ap (λ r. cond (is_eq r) (Some e.1) (find nat_cmp e.0 es)) (tied_itself nat_cmp_total e.0)

  -- a key below all is not found
  find_none : (k : ℕ) (es : List (ℕ × X)) → T (below_all nat_cmp k es) → find nat_cmp k es ≡ None
  find_none k [] below = refl
  find_none k (e ∷ es) below =
      elim (nat_cmp k e.0) as (λ o. T (is_lt o && below_all nat_cmp k es) → cond (is_eq o) (Some e.1) (find nat_cmp k es) ≡ None) [
        | Less ↦ λ h. find_none k es h
        | Equal ↦ λ h. absurd h
        | Greater ↦ λ h. absurd h
      ] below

  -- what is found in the rest is found in the whole
  find_later : (k : ℕ) (v : X) (e : ℕ × X) (es : List (ℕ × X)) → T (below_all nat_cmp e.0 es) → find nat_cmp k es ≡ Some v → find nat_cmp k (e ∷ es) ≡ Some v
  find_later k v e es below is =
      elim (nat_cmp k e.0) as (λ o. nat_cmp k e.0 ≡ o → cond (is_eq o) (Some e.1) (find nat_cmp k es) ≡ Some v) [
        | Less ↦ λ h. is
        | Equal ↦ λ h.
            let same : k ≡ e.0 = map.nat_cmp-IsAntisymmetric k e.0 h in
            let none : find nat_cmp k es ≡ None = subst (λ x. find nat_cmp x es ≡ None) (sym same) (find_none e.0 es below) in
            absurd (cc)
        | Greater ↦ λ h. is
      ] refl

  none_passes : (p : X → Bool) (es : List (ℕ × X)) → T (is_sorted nat_cmp es) → ((k : ℕ) (v : X) → find nat_cmp k es ≡ Some v → p v ≡ false) → list_any p (map (λ e. e.1) es) ≡ false
  none_passes p [] sorted each = refl
  none_passes p (e ∷ es) sorted each =
      let here : p e.1 ≡ false = each e.0 e.1 (find_first e es) in
      let rest : list_any p (map (λ x. x.1) es) ≡ false =
      none_passes p es (second (below_all nat_cmp e.0 es) (is_sorted nat_cmp es) sorted)
      (λ k v is. each k v (find_later k v e es (first (below_all nat_cmp e.0 es) (is_sorted nat_cmp es) sorted) is)) in
      rw here rest

  -- a test that no value passes which the map answers
  pub no_value_passes : (p : X → Bool) (m : map.FinMap nat_cmp X) → ((k : ℕ) (v : X) → map.get m k ≡ Some v → p v ≡ false) → list_any p (map.values m) ≡ false
  no_value_passes p m each = none_passes p (map.entries m) (map.entries_sorted m) (λ k v is. each k v (map.get-entries m k ∙ is))

  no_entry : (es : List (ℕ × X)) → ((k : ℕ) (v : X) → find nat_cmp k es ≡ Some v → ⊥) → length es ≡ 0
  no_entry [] none = refl
  no_entry (e ∷ es) none = absurd (none e.0 e.1 (find_first e es))

  -- a map that answers nothing is empty
  pub no_entries : (m : map.FinMap nat_cmp X) → ((k : ℕ) (v : X) → map.get m k ≡ Some v → ⊥) → map.len m ≡ 0
  no_entries m none = map.len-entries m ∙ no_entry (map.entries m) (λ k v is. none k v (map.get-entries m k ∙ is))
