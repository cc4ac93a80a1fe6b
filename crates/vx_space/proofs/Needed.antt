-- How many blocks a write needs, for a file without a fixed extent size.
use Rattle.std.proofs.Common.{◌≡◌, ℕ, zero, suc, ◌+◌, ◌-◌, ◌≤◌, ◌<◌, Bool, true, false, ◌&&◌, List, refl, sym, ap, ◌∙◌, arith, cond, inl, inr}
use Rattle.std.specs.Prelude.{◌||◌, not, min, max, nat_le, nat_lt, ◌==◌, is_none}
use Rattle.std.proofs.lemmas.Bool.{cases_lt, and_right, and_left}
use Rattle.std.proofs.lemmas.Bool.Decides.{nat_tests}
use Rattle.vx_base.specs.declared.call.ExtAttrs.{ExtAttrs}
use Rattle.vx_extents.specs.Extents.{Mapped, mapped_at}
use Rattle.vx_space.specs.Space.{most_pages}
use Rattle.vx_space.specs.Placing.{is_missing, is_within, is_empty_group, group_start, group_length, gets_block, count_pages, pages_needed, missing_in}

abbrev bit : List Mapped → ℕ → ℕ
bit pages q = cond (is_none (mapped_at pages q)) 1 0

missing_last : (pages : List Mapped) (n from : ℕ) → missing_in pages from (suc n) ≡ missing_in pages from n + bit pages (from + n)
missing_last pages zero from = let at : from ≡ from + 0 = omega arith in let one : bit pages from ≡ bit pages (from + 0) = ap (bit pages) at in omega (arith, one)
missing_last pages (suc n) from =
    let rest = missing_last pages n (from + 1) in
    let at : from + 1 + n ≡ from + suc n = omega arith in
    let one : bit pages (from + 1 + n) ≡ bit pages (from + suc n) = ap (bit pages) at in
    omega (arith, rest, one)

or_false : (w : Bool) → (w || false) ≡ w
or_false true = refl
or_false false = refl

module _ (attrs : ExtAttrs) (pages : List Mapped) (from n : ℕ) (plain : attrs.fixed ≡ 0) where
  test_is : (p : ℕ) (w : Bool) → is_within from n p ≡ w → gets_block attrs pages from n p ≡ (is_none (mapped_at pages p) && w)
  test_is p w is =
      ap (λ (k : ℕ). is_missing pages p && (is_within from n p || ((not (k == 0) && is_empty_group attrs.fixed pages p) && nat_lt (max from (group_start attrs.fixed p)) (min (from + n) (group_start attrs.fixed p + group_length attrs.fixed p))))) plain
      ∙ ap (λ (b : Bool). is_missing pages p && (b || false)) is ∙ ap (λ (b : Bool). is_missing pages p && b) (or_false w)

  low : (p : ℕ) → p < from → is_within from n p ≡ false
  low p lt = let no : nat_le from p ≡ false = grind (arith, nat_tests) in and_left _ _ no

  high : (p : ℕ) → from + n ≤ p → is_within from n p ≡ false
  high p le = let no : nat_lt p (from + n) ≡ false = grind (arith, nat_tests) in and_right (nat_le from p) _ no

  inside : (p : ℕ) → from ≤ p → p < from + n → is_within from n p ≡ true
  inside p le lt = let a : nat_le from p ≡ true = grind (arith, nat_tests) in let b : nat_lt p (from + n) ≡ true = grind (arith, nat_tests) in rw (a, b) refl

  and_false : (b : Bool) → (b && false) ≡ false
  and_false true = refl
  and_false false = refl

  and_true : (b : Bool) → (b && true) ≡ b
  and_true true = refl
  and_true false = refl

  none_at : (p : ℕ) → is_within from n p ≡ false → ◌≡◌ {A = ℕ} (cond (gets_block attrs pages from n p) 1 0) 0
  none_at p is = ap (λ (b : Bool). cond {A = ℕ} b 1 0) (test_is p false is ∙ and_false (is_none (mapped_at pages p)))

  some_at : (p : ℕ) → is_within from n p ≡ true → ◌≡◌ {A = ℕ} (cond (gets_block attrs pages from n p) 1 0) (bit pages p)
  some_at p is = ap (λ (b : Bool). cond {A = ℕ} b 1 0) (test_is p true is ∙ and_true (is_none (mapped_at pages p)))

  below : (m : ℕ) → count_pages (gets_block attrs pages from n) m ≡ missing_in pages from (min (m - from) n)
  below zero = let none : min (0 - from) n ≡ 0 = omega arith in ap (missing_in pages from) (sym none)
  below (suc m) = elim (cases_lt m from) [
    | inl lt ↦
        let one = none_at m (low m lt) in
        let both : min (m - from) n ≡ min (suc m - from) n = omega (arith, lt) in
        let rest = below m ∙ ap (missing_in pages from) both in
        omega (arith, one, rest)
    | inr le ↦ elim (cases_lt m (from + n)) [
      | inl lt ↦
          let one = some_at m (inside m le lt) in
          let now : min (m - from) n ≡ m - from = omega (arith, le, lt) in
          let next : suc (m - from) ≡ min (suc m - from) n = omega (arith, le, lt) in
          let at : from + (m - from) ≡ m = omega (arith, le) in
          let last = missing_last pages (m - from) from in
          let bits : bit pages (from + (m - from)) ≡ bit pages m = ap (bit pages) at in
          let rest = below m ∙ ap (missing_in pages from) now in
          let all = ap (missing_in pages from) next in
          omega (arith, one, last, bits, rest, all)
      | inr past ↦
          let one = none_at m (high m past) in
          let both : min (m - from) n ≡ min (suc m - from) n = omega (arith, past) in
          let rest = below m ∙ ap (missing_in pages from) both in
          omega (arith, one, rest)
    ]
  ]

  pub needed_is : from + n ≤ most_pages → pages_needed attrs pages from n ≡ missing_in pages from n
  needed_is within = let all : min (most_pages - from) n ≡ n = omega (arith, within) in below most_pages ∙ ap (missing_in pages from) all
