-- Whether a block of the metadata waits.
use Rattle.std.proofs.Common.{◌≡◌, ◌∙◌, ℕ, zero, suc, ◌+◌, ◌-◌, ◌<◌, ◌≤◌, Bool, true, false, List, [], ◌∷◌, Option, Some, None, refl, sym, ap, arith}
use Rattle.std.specs.Prelude.{slice_index_or, IsSome}
use Rattle.std.proofs.lemmas.Bool.Decides.{nat_tests}
use Rattle.vx_model.specs.Layout.{kept_pending}
use Rattle.vx_model.specs.Legal.{with_released}
use Rattle.vx_model.specs.State.{State}
use Rattle.vx_txn.specs.Metas.{IsStateOf}
use Rattle.vx_txn.specs.declared.meta.Meta.{Meta}
use Rattle.vx_calls.specs.Potentials.{flag, is_waiting, waits}

none_waits : (places : List (Option ℕ)) → ((i : ℕ) → slice_index_or places i None ≡ None) → is_waiting places ≡ false
unfolding is_waiting
none_waits [] all = refl
none_waits (None ∷ places) all = none_waits places (λ i. all (suc i))
none_waits (Some place ∷ places) all = absurd (let wrong : ◌≡◌ {A = Option ℕ} (Some place) None = all 0 in cc)

waits_nowhere : (places : List (Option ℕ)) → is_waiting places ≡ false → (i : ℕ) → slice_index_or places i None ≡ None
unfolding is_waiting
waits_nowhere [] is i = refl
waits_nowhere (None ∷ places) is zero = refl
waits_nowhere (None ∷ places) is (suc i) = waits_nowhere places is i
waits_nowhere (Some place ∷ places) is i = absurd cc

flag_one : (b : Bool) → flag b ≤ 1
flag_one true = omega arith
flag_one false = omega arith

pub waits_one : (m : Meta) → waits m ≤ 1
waits_one m = flag_one (is_waiting m.free.pending)

module _ (m : Meta) (s : State) (is : IsStateOf m s) where
  none_at : is_waiting m.free.pending ≡ false → (b : ℕ) → s.layout.pending b ≡ None
  none_at none b = sym (is.pending b) ∙ waits_nowhere m.free.pending none (b - m.free.first)

  none_there : ((b : ℕ) → s.layout.pending b ≡ None) → is_waiting m.free.pending ≡ false
  none_there none = none_waits m.free.pending (λ i. ap (λ (n : ℕ). slice_index_or m.free.pending n None) (place_is i) ∙ is.pending (m.free.first + i) ∙ none (m.free.first + i))
    where
      place_is : (i : ℕ) → i ≡ (m.free.first + i) - m.free.first
      place_is i = omega arith

  pub waits_none : ((b : ℕ) → s.layout.pending b ≡ None) → waits m ≡ 0
  waits_none none = ap flag (none_there none)

  pub waits_some : (b : ℕ) → IsSome (s.layout.pending b) → waits m ≡ 1
  waits_some b some = by_test (is_waiting m.free.pending) refl
    where
      no : {x : Option ℕ} → x ≡ None → IsSome x → ⊥
      no none some = cc

      by_test : (t : Bool) → is_waiting m.free.pending ≡ t → waits m ≡ 1
      by_test true is_ = ap flag is_
      by_test false is_ = absurd (no (none_at is_ b) some)

-- what does not wait for one state does not for the other
pub fewer_wait : (m m2 : Meta) (s s2 : State) → IsStateOf m s → IsStateOf m2 s2 → ((b : ℕ) → s.layout.pending b ≡ None → s2.layout.pending b ≡ None) → waits m2 ≤ waits m
fewer_wait m m2 s s2 is is2 fewer = by_test (is_waiting m.free.pending) refl
  where
    by_test : (t : Bool) → is_waiting m.free.pending ≡ t → waits m2 ≤ waits m
    by_test true some = let one : waits m ≡ 1 = ap flag some in omega (arith, one, waits_one m2)
    by_test false none = let zero_ : waits m2 ≡ 0 = waits_none m2 s2 is2 (λ b. fewer b (none_at m s is none b)) in omega (arith, zero_)

pub same_waits : (m m2 : Meta) (s : State) → IsStateOf m s → IsStateOf m2 s → waits m2 ≡ waits m
same_waits m m2 s is is2 = omega (arith, fewer_wait m m2 s s is is2 (λ b none. none), fewer_wait m2 m s s is2 is (λ b none. none))

-- a release makes none wait, and frees all that wait for an event before it
pub released_wait : (m m2 : Meta) (s : State) (upto : ℕ) → IsStateOf m s → IsStateOf m2 (with_released s upto) → waits m2 ≤ waits m
released_wait m m2 s upto is is2 = fewer_wait m m2 s (with_released s upto) is is2 (λ b none. ap (kept_pending upto) none)

gone : (upto : ℕ) (x : Option ℕ) → ((p : ℕ) → x ≡ Some p → p < upto) → kept_pending upto x ≡ None
gone upto None before = refl
gone upto (Some p) before = let lt : p < upto = before p refl in grind (arith, nat_tests)

pub all_released : (m2 : Meta) (s : State) (upto : ℕ) → IsStateOf m2 (with_released s upto) → ((b p : ℕ) → s.layout.pending b ≡ Some p → p < upto) → waits m2 ≡ 0
all_released m2 s upto is2 before = waits_none m2 (with_released s upto) is2 (λ b. gone upto (s.layout.pending b) (before b))
