-- Numbers in a list.
use Rattle.std.proofs.Common.{◌≡◌, ℕ, Bool, true, false, List, ◌++◌, refl, sym, ap, ◌∙◌, inl, inr}
use Rattle.std.specs.Prelude.{◌⊎◌, ◌||◌, ◌==◌}
use Rattle.std.proofs.lemmas.List.Folds.{list_any-append}
use Rattle.vx_model.specs.Images.{among}

-- a number of either list
pub either : (xs ys : List ℕ) (b : ℕ) → among (xs ++ ys) b ≡ true → (among xs b ≡ true) ⊎ (among ys b ≡ true)
either xs ys b h = by (among xs b) (among ys b) (sym (list_any-append (λ y. b == y) xs ys) ∙ h)
  where
    by : (x y : Bool) → (x || y) ≡ true → (x ≡ true) ⊎ (y ≡ true)
    by true y h = inl refl
    by false y h = inr h

pub in_left : (xs ys : List ℕ) (b : ℕ) → among xs b ≡ true → among (xs ++ ys) b ≡ true
in_left xs ys b h = list_any-append (λ y. b == y) xs ys ∙ ap (λ t. t || among ys b) h

pub in_right : (xs ys : List ℕ) (b : ℕ) → among ys b ≡ true → among (xs ++ ys) b ≡ true
in_right xs ys b h = list_any-append (λ y. b == y) xs ys ∙ by (among xs b) (among ys b) h
  where
    by : (x y : Bool) → y ≡ true → (x || y) ≡ true
    by true y h = refl
    by false y h = h
