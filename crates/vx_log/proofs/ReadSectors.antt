-- What is read of a descriptor, number by number.
use Rattle.std.proofs.Common.{◌≡◌, ◌+◌, ◌*◌, ◌<◌, ◌≤◌, ◌^◌, ℕ, zero, suc, List, [], ◌∷◌, length, take, get_or, refl, sym, ap, ◌∙◌, arith, length-take}
use Rattle.std.specs.Int.{w32}
use Rattle.std.specs.List.{AllByRecursion}
use Rattle.std.proofs.lemmas.List.{ext_get_or, get_or-take}
use Rattle.vx_layout.specs.Fields.{number_at}
use Rattle.vx_layout.specs.LogForms.{IsNameable, numbers_at}

pub each_from : (P : ℕ → Type 0) (xs : List ℕ) → ((k : ℕ) → k < length xs → P (get_or xs k 0)) → AllByRecursion P xs
each_from P [] h = tt
each_from P (x ∷ xs) h = (h 0 (omega arith), each_from P xs (λ k lt. h (suc k) (omega (arith, lt))))

pub each_at : (P : ℕ → Type 0) (xs : List ℕ) → AllByRecursion P xs → (k : ℕ) → k < length xs → P (get_or xs k 0)
each_at P [] h k lt = absurd (omega (arith, lt))
each_at P (x ∷ xs) h zero lt = h.0
each_at P (x ∷ xs) h (suc k) lt = each_at P xs h.1 k (omega (arith, lt))

pub length-numbers : (n at : ℕ) (s : List ℕ) → length (numbers_at n at s) ≡ n
length-numbers zero at s = refl
length-numbers (suc n) at s = ap suc (length-numbers n (at + 4) s)

number_of : (n at : ℕ) (s : List ℕ) (k : ℕ) → k < n → get_or (numbers_at n at s) k 0 ≡ number_at w32 (at + 4 * k) s
number_of zero at s k lt = absurd (omega (arith, lt))
number_of (suc n) at s zero lt = let same : at ≡ at + 4 * 0 = omega arith in ap (λ (p : ℕ). number_at w32 p s) same
number_of (suc n) at s (suc k) lt =
    let same : at + 4 + 4 * k ≡ at + 4 * suc k = omega arith in
    number_of n (at + 4) s k (omega (arith, lt)) ∙ ap (λ (p : ℕ). number_at w32 p s) same

-- numbers that were read one by one
pub numbers_are : (n at : ℕ) (s xs : List ℕ) → n ≤ length xs → ((k : ℕ) → k < n → get_or xs k 0 ≡ number_at w32 (at + 4 * k) s) → take n xs ≡ numbers_at n at s
numbers_are n at s xs long each =
    let count : length (take n xs) ≡ n = omega (arith, long, length-take n xs) in
    ext_get_or 0 (take n xs) (numbers_at n at s) (count ∙ sym (length-numbers n at s))
    (λ i lt. let low : i < n = omega (arith, lt, count) in get_or-take n xs i 0 low ∙ each i low ∙ sym (number_of n at s i low))

pub all_low : (n size : ℕ) (homes : List ℕ) → AllByRecursion (IsNameable n size) homes → AllByRecursion (λ s. s < 2 ^ 32) homes
all_low n size [] h = tt
all_low n size (s ∷ homes) h = (h.0.low, all_low n size homes h.1)
