-- Whether a range has a page, by the last extent that begins before its end.
use Rattle.std.proofs.Common.{◌≡◌, ℕ, zero, suc, ◌+◌, ◌<◌, ◌≤◌, Bool, true, false, List, [], ◌∷◌, ◌++◌, length, get_or, refl, sym, ap, ◌∙◌, arith, cond, inl, inr}
use Rattle.std.specs.Prelude.{nat_lt, nat_le, ◌&&◌, ◌||◌}
use Rattle.std.proofs.lemmas.Bool.{cases_lt, and_right}
use Rattle.std.proofs.lemmas.Bool.Decides.{nat_tests}
use Rattle.vx_base.specs.declared.kind.Kind.{Kind}
use Rattle.vx_extents.specs.declared.stretch.Stretch.{Stretch}
use Rattle.vx_extents.specs.Extents.{Mapped, run, expand, begun_before, AreMaximal}
use Rattle.vx_extents.specs.Uses.{is_between, has_between}
use Rattle.vx_extents.proofs.Runs.{rest_maximal}
use Rattle.vx_extents.proofs.Cuts.{yes_less, less, more}

module _ (from to : ℕ) (some : from < to) where
  -- a page from the end on is none of the range
  outside : (p : ℕ) → to ≤ p → is_between from to p ≡ false
  outside p past = let no : nat_lt p to ≡ false = grind (arith, nat_tests) in and_right (nat_le from p) _ no

  inside : (p : ℕ) → p < to → is_between from to p ≡ nat_le from p
  inside p below = ap (λ t. nat_le from p && t) (yes_less p to below) ∙ and_true (nat_le from p)
    where
      and_true : (t : Bool) → (t && true) ≡ t
      and_true true = refl
      and_true false = refl

  run_past : (n p b : ℕ) (kind : Kind) (rest : List Mapped) → to ≤ p → has_between from to (run n p b kind ++ rest) ≡ has_between from to rest
  run_past zero p b kind rest past = refl
  run_past (suc n) p b kind rest past = ap (λ t. t || has_between from to (run n (p + 1) (b + 1) kind ++ rest)) (outside p past) ∙ run_past n (p + 1) (b + 1) kind rest (omega (arith, past))

  both_say : (x y r : Bool) → (x ≡ true → y ≡ true) → (x || (y || r)) ≡ (y || r)
  both_say true y r h = ap (λ t. t || r) (sym (h refl))
  both_say false y r h = refl

  run_in : (n p b : ℕ) (kind : Kind) (rest : List Mapped) → p < to → has_between from to (run (suc n) p b kind ++ rest) ≡ (nat_le from (p + n) || has_between from to rest)
  run_in zero p b kind rest below = let at : p ≡ p + 0 = omega arith in ap (λ t. t || has_between from to rest) (inside p below ∙ ap (nat_le from) at)
  run_in (suc n) p b kind rest below = elim (cases_lt (p + 1) to) [
    | inl next ↦
        let at : p + 1 + n ≡ p + suc n = omega arith in
        ap (λ t. t || has_between from to (run (suc n) (p + 1) (b + 1) kind ++ rest)) (inside p below)
        ∙ ap (λ t. nat_le from p || t) (run_in n (p + 1) (b + 1) kind rest next ∙ ap (λ q. nat_le from q || has_between from to rest) at)
        ∙ both_say (nat_le from p) (nat_le from (p + suc n)) (has_between from to rest) (λ is. rises p (p + suc n) (omega arith) is)
    | inr end ↦
        let low : nat_le from p ≡ true = (let le : from ≤ p = omega (arith, some, below, end) in grind (arith, nat_tests)) in
        let high : nat_le from (p + suc n) ≡ true = (let le : from ≤ p + suc n = omega (arith, some, below, end) in grind (arith, nat_tests)) in
        ap (λ t. t || has_between from to (run (suc n) (p + 1) (b + 1) kind ++ rest)) (inside p below ∙ low)
        ∙ sym (ap (λ t. t || has_between from to rest) high)
  ]
    where
      rises : (x y : ℕ) → x ≤ y → nat_le from x ≡ true → nat_le from y ≡ true
      rises x y le is = grind (arith, nat_tests)

  -- none behind an extent that begins past the end
  none_later : (extents : List Stretch) (e : Stretch) → AreMaximal (e ∷ extents) → to ≤ e.page → has_between from to (expand extents) ≡ false
  none_later [] e all past = refl
  none_later (f ∷ extents) e all past =
      let low = all.1.rises in
      let next : to ≤ f.page = omega (arith, low, past) in
      run_past (suc f.more) f.page f.start f.kind (expand extents) next ∙ none_later extents f all.2 next

  -- none where no extent begins before the end
  pub none_begun : (extents : List Stretch) → AreMaximal extents → begun_before to extents ≡ zero → has_between from to (expand extents) ≡ false
  none_begun [] all none = refl
  none_begun (e ∷ extents) all none = by (nat_lt e.page to) refl none
    where
      by : (c : Bool) → nat_lt e.page to ≡ c → cond c (suc (begun_before to extents)) zero ≡ zero → has_between from to (expand (e ∷ extents)) ≡ false
      by true is none = absurd (omega (arith, none))
      by false is none = run_past (suc e.more) e.page e.start e.kind (expand extents) (more e.page to is) ∙ none_later extents e all (more e.page to is)

  -- an extent ends before those that come after it end
  ends_later : (extents : List Stretch) (e : Stretch) (j : ℕ) (d : Stretch) → AreMaximal (e ∷ extents) → j < length extents → e.page + e.more ≤ (get_or extents j d).page + (get_or extents j d).more
  ends_later [] e j d all lt = absurd (omega (arith, lt))
  ends_later (f ∷ extents) e zero d all lt = let low = all.1.rises in omega (arith, low)
  ends_later (f ∷ extents) e (suc j) d all lt = let low = all.1.rises in let rest = ends_later extents f j d all.2 (omega (arith, lt)) in omega (arith, low, rest)

  begun_few : (extents : List Stretch) → begun_before to extents ≤ length extents
  begun_few [] = omega arith
  begun_few (e ∷ extents) = by (nat_lt e.page to) (begun_few extents)
    where
      by : (c : Bool) → begun_before to extents ≤ length extents → cond c (suc (begun_before to extents)) zero ≤ suc (length extents)
      by true rest = omega (arith, rest)
      by false rest = omega arith

  or_false : (t : Bool) → (t || false) ≡ t
  or_false true = refl
  or_false false = refl

  or_more : (x y : Bool) → (x ≡ true → y ≡ true) → (x || y) ≡ y
  or_more true y h = sym (h refl)
  or_more false y h = refl

  rises_to : (x y : ℕ) → x ≤ y → nat_le from x ≡ true → nat_le from y ≡ true
  rises_to x y le is = grind (arith, nat_tests)

  -- and else where the last that does ends in the range or past it
  pub last_begun : (extents : List Stretch) (k : ℕ) (d : Stretch) → AreMaximal extents → begun_before to extents ≡ suc k → has_between from to (expand extents) ≡ nat_le from ((get_or extents k d).page + (get_or extents k d).more)
  last_begun [] k d all begun = absurd (omega (arith, begun))
  last_begun (e ∷ extents) k d all begun = by k (nat_lt e.page to) refl begun (λ j is. last_begun extents j d (rest_maximal extents e all) is)
    where
      by : (k : ℕ) (c : Bool) → nat_lt e.page to ≡ c → cond c (suc (begun_before to extents)) zero ≡ suc k
          → ((j : ℕ) → begun_before to extents ≡ suc j → has_between from to (expand extents) ≡ nat_le from ((get_or extents j d).page + (get_or extents j d).more))
          → has_between from to (expand (e ∷ extents)) ≡ nat_le from ((get_or (e ∷ extents) k d).page + (get_or (e ∷ extents) k d).more)
      by k false is begun rest = absurd (omega (arith, begun))
      by zero true is begun rest =
          run_in e.more e.page e.start e.kind (expand extents) (less e.page to is)
          ∙ ap (λ t. nat_le from (e.page + e.more) || t) (none_begun extents (rest_maximal extents e all) (omega (arith, begun)))
          ∙ or_false (nat_le from (e.page + e.more))
      by (suc j) true is begun rest =
          let next : begun_before to extents ≡ suc j = omega (arith, begun) in
          let few = begun_few extents in
          run_in e.more e.page e.start e.kind (expand extents) (less e.page to is)
          ∙ ap (λ t. nat_le from (e.page + e.more) || t) (rest j next)
          ∙ or_more (nat_le from (e.page + e.more)) (nat_le from ((get_or extents j d).page + (get_or extents j d).more))
          (λ here. rises_to (e.page + e.more) ((get_or extents j d).page + (get_or extents j d).more) (ends_later extents e j d all (omega (arith, next, few))) here)
