-- Bytes and their bits.
use Rattle.std.proofs.Common.{◌≡◌, ℕ, zero, suc, ◌+◌, ◌*◌, ◌/◌, ◌%◌, ◌^◌, ◌<◌, Bool, true, false, List, [], ◌∷◌, length, get_or, refl, sym, ap, ◌∙◌, arith, lit<}
use Rattle.std.specs.Prelude.{◌==◌}
use Rattle.std.proofs.Math.Nat.{div-div-eq-div-mul}
use Rattle.std.proofs.lemmas.Nat.{div-add-mod', div-mul-add}
use Rattle.vx_layout.specs.Bits.{bit_value, bit_byte, bits_from, bits_bytes, is_set}
use Rattle.vx_layout.proofs.Numbers.{IsBytes}

digit_value : (n : ℕ) → n < 2 → bit_value (n == 1) ≡ n
digit_value zero lt = refl
digit_value (suc zero) lt = refl
digit_value (suc (suc n)) lt = absurd (omega arith)

abbrev digit : ℕ → ℕ → ℕ
digit b k = bit_value (b / 2 ^ k % 2 == 1)

digit_is : (b k : ℕ) → digit b k ≡ b / 2 ^ k % 2
digit_is b k = digit_value (b / 2 ^ k % 2) (omega arith)

halved : (b m : ℕ) → b / m ≡ 2 * (b / (m * 2)) + b / m % 2
halved b m = omega (arith, div-add-mod' (b / m) 2, div-div-eq-div-mul b m 2)

pub byte_is : (b : ℕ) → b < 256 → digit b 0 + 2 * digit b 1 + 4 * digit b 2 + 8 * digit b 3 + 16 * digit b 4 + 32 * digit b 5 + 64 * digit b 6 + 128 * digit b 7 ≡ b
byte_is b lt =
    let top : b / 256 ≡ 0 = omega arith in
    omega (
      arith,
      digit_is b 0,
      digit_is b 1,
      digit_is b 2,
      digit_is b 3,
      digit_is b 4,
      digit_is b 5,
      digit_is b 6,
      digit_is b 7,
      halved b 1,
      halved b 2,
      halved b 4,
      halved b 8,
      halved b 16,
      halved b 32,
      halved b 64,
      halved b 128,
    )

-- ---- what is read is spelled so

bit_there : (s : List ℕ) (i k : ℕ) → k < 8 → is_set s (8 * i + k) ≡ (get_or s i 0 / 2 ^ k % 2 == 1)
bit_there s i k lt =
    let q : (8 * i + k) / 8 ≡ i = omega arith in
    let r : (8 * i + k) % 8 ≡ k = omega arith in
    λ j. get_or s (q j) 0 / 2 ^ (r j) % 2 == 1

byte_there : (f : ℕ → Bool) (s : List ℕ) (i : ℕ) → i < 512 → IsBytes s → ((k : ℕ) → k < 4096 → f k ≡ is_set s k) → bit_byte f (8 * i) ≡ get_or s i 0
unfolding bit_byte
byte_there f s i lt fits h =
    let b : ℕ = get_or s i 0 in
    let zeroth : f (8 * i) ≡ is_set s (8 * i + 0) = h (8 * i) (omega arith) ∙ ap (is_set s) (let e : 8 * i ≡ 8 * i + 0 = omega arith in e) in
    let b0 = zeroth ∙ bit_there s i 0 (omega arith) in
    let b1 = h (8 * i + 1) (omega arith) ∙ bit_there s i 1 (omega arith) in
    let b2 = h (8 * i + 2) (omega arith) ∙ bit_there s i 2 (omega arith) in
    let b3 = h (8 * i + 3) (omega arith) ∙ bit_there s i 3 (omega arith) in
    let b4 = h (8 * i + 4) (omega arith) ∙ bit_there s i 4 (omega arith) in
    let b5 = h (8 * i + 5) (omega arith) ∙ bit_there s i 5 (omega arith) in
    let b6 = h (8 * i + 6) (omega arith) ∙ bit_there s i 6 (omega arith) in
    let b7 = h (8 * i + 7) (omega arith) ∙ bit_there s i 7 (omega arith) in
    (λ j. bit_value (b0 j) + 2 * bit_value (b1 j) + 4 * bit_value (b2 j) + 8 * bit_value (b3 j)
    + 16 * bit_value (b4 j) + 32 * bit_value (b5 j) + 64 * bit_value (b6 j) + 128 * bit_value (b7 j))
    ∙ byte_is (get_or s i 0) (fits i)

bytes_there : (f : ℕ → Bool) (i n : ℕ) (s : List ℕ) → length s ≡ n → ((k : ℕ) → k < n → bit_byte f (8 * (i + k)) ≡ get_or s k 0) → s ≡ bits_from f (8 * i) n
unfolding bits_from
bytes_there f i zero [] len h = refl
bytes_there f i zero (x ∷ s) len h = absurd (omega arith)
bytes_there f i (suc n) [] len h = absurd (omega arith)
bytes_there f i (suc n) (x ∷ s) len h =
    let same : 8 * (i + 0) ≡ 8 * i = omega arith in
    let here : bit_byte f (8 * i) ≡ x = ap (bit_byte f) (sym same) ∙ h 0 (omega arith) in
    let next : 8 * (i + 1) ≡ 8 * i + 8 = omega arith in
    let others = bytes_there f (i + 1) n s (omega arith) (λ k lt. ap (λ m. bit_byte f (8 * m)) (let e : i + 1 + k ≡ i + suc k = omega arith in e) ∙ h (suc k) (omega arith)) in
    let rest : s ≡ bits_from f (8 * i + 8) n = others ∙ ap (λ m. bits_from f m n) next in
    λ j. sym here j ∷ rest j

pub bits_there : (f : ℕ → Bool) (s : List ℕ) → length s ≡ 512 → IsBytes s → ((k : ℕ) → k < 4096 → f k ≡ is_set s k) → s ≡ bits_bytes f
unfolding bits_bytes
bits_there f s len fits h =
    bytes_there f 0 512 s len (λ k lt. ap (λ m. bit_byte f (8 * m)) (let e : 0 + k ≡ k = omega arith in e) ∙ byte_there f s k lt fits h)

-- ---- one spelling

value_below : (b : Bool) → bit_value b < 2
value_below true = lit< tt
value_below false = lit< tt

value_again : (b : Bool) (n : ℕ) → n ≡ bit_value b → (n == 1) ≡ b
value_again true n e = rw e refl
value_again false n e = rw e refl

digit_of : (n m low v high : ℕ) → low < m → v < 2 → n ≡ (v + 2 * high) * m + low → n / m % 2 ≡ v
digit_of n m low v high below lt e =
    let q : n / m ≡ v + 2 * high = ap (λ x. x / m) e ∙ div-mul-add (v + 2 * high) m low below in
    rw q (omega arith)

bit_again : (f : ℕ → Bool) (i k : ℕ) → k < 8 → (bit_byte f i / 2 ^ k % 2 == 1) ≡ f (i + k)
unfolding bit_byte
bit_again f i zero lt =
    let w0 = value_below (f i) in
    let w1 = value_below (f (i + 1)) in
    let w2 = value_below (f (i + 2)) in
    let w3 = value_below (f (i + 3)) in
    let w4 = value_below (f (i + 4)) in
    let w5 = value_below (f (i + 5)) in
    let w6 = value_below (f (i + 6)) in
    let w7 = value_below (f (i + 7)) in
    let same : f i ≡ f (i + 0) = ap f (let e : i ≡ i + 0 = omega arith in e) in
    value_again (f i) _ (digit_of _ 1 0 (bit_value (f i)) (bit_value (f (i + 1)) + 2 * bit_value (f (i + 2)) + 4 * bit_value (f (i + 3)) + 8 * bit_value (f (i + 4)) + 16 * bit_value (f (i + 5)) + 32 * bit_value (f (i + 6)) + 64 * bit_value (f (i + 7))) (omega arith) w0 (omega arith)) ∙ same
bit_again f i (suc zero) lt =
    let w0 = value_below (f i) in
    let w1 = value_below (f (i + 1)) in
    let w2 = value_below (f (i + 2)) in
    let w3 = value_below (f (i + 3)) in
    let w4 = value_below (f (i + 4)) in
    let w5 = value_below (f (i + 5)) in
    let w6 = value_below (f (i + 6)) in
    let w7 = value_below (f (i + 7)) in
    value_again (f (i + 1)) _ (digit_of _ 2 (bit_value (f i)) (bit_value (f (i + 1))) (bit_value (f (i + 2)) + 2 * bit_value (f (i + 3)) + 4 * bit_value (f (i + 4)) + 8 * bit_value (f (i + 5)) + 16 * bit_value (f (i + 6)) + 32 * bit_value (f (i + 7))) (omega arith) w1 (omega arith))
bit_again f i (suc (suc zero)) lt =
    let w0 = value_below (f i) in
    let w1 = value_below (f (i + 1)) in
    let w2 = value_below (f (i + 2)) in
    let w3 = value_below (f (i + 3)) in
    let w4 = value_below (f (i + 4)) in
    let w5 = value_below (f (i + 5)) in
    let w6 = value_below (f (i + 6)) in
    let w7 = value_below (f (i + 7)) in
    value_again (f (i + 2)) _ (digit_of _ 4 (bit_value (f i) + 2 * bit_value (f (i + 1))) (bit_value (f (i + 2))) (bit_value (f (i + 3)) + 2 * bit_value (f (i + 4)) + 4 * bit_value (f (i + 5)) + 8 * bit_value (f (i + 6)) + 16 * bit_value (f (i + 7))) (omega arith) w2 (omega arith))
bit_again f i (suc (suc (suc zero))) lt =
    let w0 = value_below (f i) in
    let w1 = value_below (f (i + 1)) in
    let w2 = value_below (f (i + 2)) in
    let w3 = value_below (f (i + 3)) in
    let w4 = value_below (f (i + 4)) in
    let w5 = value_below (f (i + 5)) in
    let w6 = value_below (f (i + 6)) in
    let w7 = value_below (f (i + 7)) in
    value_again (f (i + 3)) _ (digit_of _ 8 (bit_value (f i) + 2 * bit_value (f (i + 1)) + 4 * bit_value (f (i + 2))) (bit_value (f (i + 3))) (bit_value (f (i + 4)) + 2 * bit_value (f (i + 5)) + 4 * bit_value (f (i + 6)) + 8 * bit_value (f (i + 7))) (omega arith) w3 (omega arith))
bit_again f i (suc (suc (suc (suc zero)))) lt =
    let w0 = value_below (f i) in
    let w1 = value_below (f (i + 1)) in
    let w2 = value_below (f (i + 2)) in
    let w3 = value_below (f (i + 3)) in
    let w4 = value_below (f (i + 4)) in
    let w5 = value_below (f (i + 5)) in
    let w6 = value_below (f (i + 6)) in
    let w7 = value_below (f (i + 7)) in
    value_again (f (i + 4)) _ (digit_of _ 16 (bit_value (f i) + 2 * bit_value (f (i + 1)) + 4 * bit_value (f (i + 2)) + 8 * bit_value (f (i + 3))) (bit_value (f (i + 4))) (bit_value (f (i + 5)) + 2 * bit_value (f (i + 6)) + 4 * bit_value (f (i + 7))) (omega arith) w4 (omega arith))
bit_again f i (suc (suc (suc (suc (suc zero))))) lt =
    let w0 = value_below (f i) in
    let w1 = value_below (f (i + 1)) in
    let w2 = value_below (f (i + 2)) in
    let w3 = value_below (f (i + 3)) in
    let w4 = value_below (f (i + 4)) in
    let w5 = value_below (f (i + 5)) in
    let w6 = value_below (f (i + 6)) in
    let w7 = value_below (f (i + 7)) in
    value_again (f (i + 5)) _ (digit_of _ 32 (bit_value (f i) + 2 * bit_value (f (i + 1)) + 4 * bit_value (f (i + 2)) + 8 * bit_value (f (i + 3)) + 16 * bit_value (f (i + 4))) (bit_value (f (i + 5))) (bit_value (f (i + 6)) + 2 * bit_value (f (i + 7))) (omega arith) w5 (omega arith))
bit_again f i (suc (suc (suc (suc (suc (suc zero)))))) lt =
    let w0 = value_below (f i) in
    let w1 = value_below (f (i + 1)) in
    let w2 = value_below (f (i + 2)) in
    let w3 = value_below (f (i + 3)) in
    let w4 = value_below (f (i + 4)) in
    let w5 = value_below (f (i + 5)) in
    let w6 = value_below (f (i + 6)) in
    let w7 = value_below (f (i + 7)) in
    value_again (f (i + 6)) _ (digit_of _ 64 (bit_value (f i) + 2 * bit_value (f (i + 1)) + 4 * bit_value (f (i + 2)) + 8 * bit_value (f (i + 3)) + 16 * bit_value (f (i + 4)) + 32 * bit_value (f (i + 5))) (bit_value (f (i + 6))) (bit_value (f (i + 7))) (omega arith) w6 (omega arith))
bit_again f i (suc (suc (suc (suc (suc (suc (suc zero))))))) lt =
    let w0 = value_below (f i) in
    let w1 = value_below (f (i + 1)) in
    let w2 = value_below (f (i + 2)) in
    let w3 = value_below (f (i + 3)) in
    let w4 = value_below (f (i + 4)) in
    let w5 = value_below (f (i + 5)) in
    let w6 = value_below (f (i + 6)) in
    let w7 = value_below (f (i + 7)) in
    value_again (f (i + 7)) _ (digit_of _ 128 (bit_value (f i) + 2 * bit_value (f (i + 1)) + 4 * bit_value (f (i + 2)) + 8 * bit_value (f (i + 3)) + 16 * bit_value (f (i + 4)) + 32 * bit_value (f (i + 5)) + 64 * bit_value (f (i + 6))) (bit_value (f (i + 7))) (0) (omega arith) w7 (omega arith))
bit_again f i (suc (suc (suc (suc (suc (suc (suc (suc k)))))))) lt = absurd (omega arith)

byte_at : (f : ℕ → Bool) (i n k : ℕ) → k < n → get_or (bits_from f (8 * i) n) k 0 ≡ bit_byte f (8 * (i + k))
unfolding bits_from
byte_at f i zero k lt = absurd (omega arith)
byte_at f i (suc n) zero lt = ap (bit_byte f) (let e : 8 * i ≡ 8 * (i + 0) = omega arith in e)
byte_at f i (suc n) (suc k) lt =
    let next : 8 * i + 8 ≡ 8 * (i + 1) = omega arith in
    let place : 8 * (i + 1 + k) ≡ 8 * (i + suc k) = omega arith in
    ap (λ m. get_or (bits_from f m n) k 0) next ∙ byte_at f (i + 1) n k (omega arith) ∙ ap (bit_byte f) place

set_again : (f : ℕ → Bool) (j : ℕ) → j < 4096 → is_set (bits_bytes f) j ≡ f j
unfolding bits_bytes
set_again f j lt =
    let byte = byte_at f 0 512 (j / 8) (omega arith) in
    let whole : 8 * (0 + j / 8) + j % 8 ≡ j = omega arith in
    ap (λ b. b / 2 ^ (j % 8) % 2 == 1) byte ∙ bit_again f (8 * (0 + j / 8)) (j % 8) (omega arith) ∙ ap f whole

pub bits_unique : (f g : ℕ → Bool) → bits_bytes f ≡ bits_bytes g → (j : ℕ) → j < 4096 → f j ≡ g j
bits_unique f g e j lt = sym (set_again f j lt) ∙ ap (λ (s : List ℕ). is_set s j) e ∙ set_again g j lt
