-- How many times a block is used.
use Rattle.std.proofs.Common.{◌≡◌, ℕ, ◌+◌, ◌≤◌, true, false, cond, List, [], ◌∷◌, ◌++◌, inl, inr, refl, sym, ◌∙◌, ap, arith}
use Rattle.std.specs.Prelude.{◌||◌, ◌==◌}
use Rattle.std.proofs.lemmas.Bool.{cases_Bool, true≢false}
use Rattle.vx_space.specs.Uses.{uses}
use Rattle.vx_model.specs.Images.{among}

-- one more use of c by b
abbrev pub one : ℕ → ℕ → ℕ
one b c = cond (b == c) 1 0

pub uses_append : (xs ys : List ℕ) (b : ℕ) → uses (xs ++ ys) b ≡ uses xs b + uses ys b
uses_append [] ys b = omega arith
uses_append (x ∷ xs) ys b = let rest = uses_append xs ys b in omega (arith, rest)

pub not_among : (xs : List ℕ) (b : ℕ) → among xs b ≡ false → uses xs b ≡ 0
not_among [] b h = refl
not_among (x ∷ xs) b h = elim (cases_Bool (b == x)) [
  | inl e ↦ absurd (true≢false (sym (ap (λ t. t || among xs b) e) ∙ h))
  | inr ne ↦
      let here : one b x ≡ 0 = ap (λ t. cond t 1 0) ne in
      let rest = not_among xs b (sym (ap (λ t. t || among xs b) ne) ∙ h) in
      omega (arith, here, rest)
]

pub is_among : (xs : List ℕ) (b : ℕ) → 1 ≤ uses xs b → among xs b ≡ true
is_among xs b h = elim (cases_Bool (among xs b)) [
  | inl here ↦ here
  | inr gone ↦ let none = not_among xs b gone in absurd (omega (arith, none, h))
]

pub among_uses : (xs : List ℕ) (b : ℕ) → among xs b ≡ true → 1 ≤ uses xs b
among_uses [] b h = absurd cc
among_uses (x ∷ xs) b h = elim (cases_Bool (b == x)) [
  | inl e ↦ let here : one b x ≡ 1 = ap (λ t. cond t 1 0) e in omega (arith, here)
  | inr ne ↦
      let rest = among_uses xs b (sym (ap (λ t. t || among xs b) ne) ∙ h) in
      omega (arith, rest)
]
