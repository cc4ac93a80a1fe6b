-- Words by number, lists by number, and functions that are set at one number.
use Rattle.std.proofs.Common.{◌≡◌, ◌≢◌, ℕ, zero, suc, ◌+◌, ◌%◌, ◌<◌, ◌≤◌, ◌⊎◌, cond, eqb, List, [], ◌∷◌, ◌++◌, length, set, refl, sym, ap, inl, inr, ⊎_elim, eq-eqb, ne_eqb, arith}
use Rattle.std.specs.Prelude.{slice_index, slice_index_or}
use mathlib.Core.Option.{some, some-ne-none, some-injective}
use lib.ListN.{get_elem?}

pub below : {A : Type 0} (l : List A) (i : ℕ) (a : A) → get_elem? l i ≡ some a → i < length l
below [] i a e = absurd (some-ne-none a (sym e))
below (x ∷ xs) zero a e = omega arith
below (x ∷ xs) (suc i) a e = let r = below xs i a e in omega arith

pub same_word : (l : List ℕ) → set l 0 (slice_index l 0) ≡ l
same_word [] = refl
same_word (x ∷ xs) = refl

pub index_set : (l : List ℕ) (i n : ℕ) → i < length l → slice_index (set l i n) i ≡ n
index_set [] i n h = absurd (omega arith)
index_set (x ∷ xs) zero n h = refl
index_set (x ∷ xs) (suc i) n h = index_set xs i n (omega arith)

pub index_else : (l : List ℕ) (i j n : ℕ) → j ≢ i → slice_index (set l i n) j ≡ slice_index l j
index_else [] i j n h = refl
index_else (x ∷ xs) zero zero n h = absurd (h refl)
index_else (x ∷ xs) zero (suc j) n h = refl
index_else (x ∷ xs) (suc i) zero n h = refl
index_else (x ∷ xs) (suc i) (suc j) n h = index_else xs i j n (λ e. h (ap suc e))

pub length_same : {A : Type 0} (l : List A) (i : ℕ) (n : A) → length (set l i n) ≡ length l
length_same [] i n = refl
length_same (x ∷ xs) zero n = refl
length_same (x ∷ xs) (suc i) n = ap suc (length_same xs i n)

pub next_mod : (x y : ℕ) → y ≡ x % 18446744073709551616 → (y + 1) % 18446744073709551616 ≡ (x + 1) % 18446744073709551616
next_mod x y e = omega arith

-- what stands at a place of a list of which one place was set
pub at_or : {A : Type 0} (l : List A) (i j : ℕ) (a d : A) → (slice_index_or (set l i a) j d ≡ slice_index_or l j d) ⊎ ((j ≡ i) × (slice_index_or (set l i a) j d ≡ a))
at_or [] i j a d = inl refl
at_or (x ∷ xs) zero zero a d = inr (refl, refl)
at_or (x ∷ xs) zero (suc j) a d = inl refl
at_or (x ∷ xs) (suc i) zero a d = inl refl
at_or (x ∷ xs) (suc i) (suc j) a d = ⊎_elim (λ e. inl e) (λ h. inr (ap suc h.0, h.1)) (at_or xs i j a d)

pub at_or_here : {A : Type 0} (l : List A) (i : ℕ) (a d : A) → i < length l → slice_index_or (set l i a) i d ≡ a
at_or_here [] i a d h = absurd (omega arith)
at_or_here (x ∷ xs) zero a d h = refl
at_or_here (x ∷ xs) (suc i) a d h = at_or_here xs i a d (omega arith)

-- one more of what stands beyond the end changes nothing
pub or_push : {A : Type 0} (l : List A) (j : ℕ) (d : A) → slice_index_or (l ++ d ∷ []) j d ≡ slice_index_or l j d
or_push [] zero d = refl
or_push [] (suc j) d = refl
or_push (x ∷ xs) zero d = refl
or_push (x ∷ xs) (suc j) d = or_push xs j d

pub or_far : {A : Type 0} (l : List A) (j : ℕ) (d : A) → length l ≤ j → slice_index_or l j d ≡ d
or_far [] j d h = refl
or_far (x ∷ xs) zero d h = absurd (omega arith)
or_far (x ∷ xs) (suc j) d h = or_far xs j d (omega arith)

-- a function that is set at one number
abbrev pub put : {A : Type 0} → (ℕ → A) → ℕ → A → ℕ → A
put f n x m = cond (eqb m n) x (f m)

pub put_here : {A : Type 0} (f : ℕ → A) (n : ℕ) (x : A) → put f n x n ≡ x
put_here f n x = ap (λ b. cond b x (f n)) (eq-eqb n n refl)

pub put_else : {A : Type 0} (f : ℕ → A) (n : ℕ) (x : A) (m : ℕ) → m ≢ n → put f n x m ≡ f m
put_else f n x m h = ap (λ b. cond b x (f m)) (ne_eqb m n h)

-- what stands at a place of a list with one more
pub at_push : {A : Type 0} (l : List A) (a b : A) (j : ℕ) → get_elem? (l ++ a ∷ []) j ≡ some b → (get_elem? l j ≡ some b) ⊎ ((j ≡ length l) × (a ≡ b))
at_push [] a b zero e = inr (refl, some-injective a b e)
at_push [] a b (suc j) e = absurd (some-ne-none b (sym e))
at_push (x ∷ xs) a b zero e = inl e
at_push (x ∷ xs) a b (suc j) e = ⊎_elim (λ h. inl h) (λ h. inr (ap suc h.0, h.1)) (at_push xs a b j e)
