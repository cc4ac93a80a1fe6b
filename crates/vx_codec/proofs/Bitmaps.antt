-- One more byte of bits.
use Rattle.std.proofs.Common.{◌≡◌, ℕ, zero, suc, ◌+◌, ◌*◌, Bool, List, [], ◌∷◌, ◌++◌, length, replicate, ◌-◌, refl, ap, ◌∙◌, arith}
use Rattle.std.proofs.lemmas.List.{append-nil}
use Rattle.vx_layout.specs.Bits.{bit_byte, bits_from, bits_bytes}

pub bits_next : (f : ℕ → Bool) (i n : ℕ) → bits_from f i n ++ bit_byte f (i + 8 * n) ∷ [] ≡ bits_from f i (suc n)
unfolding bits_from
bits_next f i zero = ap (λ j. bit_byte f j ∷ []) (let e : i + 8 * 0 ≡ i = omega arith in e)
bits_next f i (suc n) =
    let e : i + 8 * suc n ≡ i + 8 + 8 * n = omega arith in
    ap (λ (xs : List ℕ). bit_byte f i ∷ xs) (ap (λ j. bits_from f (i + 8) n ++ bit_byte f j ∷ []) e ∙ bits_next f (i + 8) n)

pub length-bits : (f : ℕ → Bool) (i n : ℕ) → length (bits_from f i n) ≡ n
unfolding bits_from
length-bits f i zero = refl
length-bits f i (suc n) = ap suc (length-bits f (i + 8) n)

pub grown : (f : ℕ → Bool) (i byte : ℕ) (sheet new : List ℕ) → sheet ≡ bits_from f 0 i → new ≡ sheet ++ byte ∷ [] → byte ≡ bit_byte f (8 * i) → new ≡ bits_from f 0 (i + 1)
grown f i byte sheet new is put bits =
    let at : bit_byte f (8 * i) ≡ bit_byte f (0 + 8 * i) = ap (bit_byte f) (let e : 8 * i ≡ 0 + 8 * i = omega arith in e) in
    put ∙ (λ d. is d ++ (bits ∙ at) d ∷ []) ∙ bits_next f 0 i ∙ ap (bits_from f 0) (let e : suc i ≡ i + 1 = omega arith in e)

pub ended : (f : ℕ → Bool) (i : ℕ) (sheet r : List ℕ) → sheet ≡ bits_from f 0 i → i ≡ 512 → length sheet ≡ i → r ≡ sheet ++ replicate (512 - length sheet) 0 → r ≡ bits_bytes f
unfolding bits_bytes
ended f i sheet r is all len e =
    let none : 512 - length sheet ≡ 0 = omega arith in
    e ∙ ap (λ n. sheet ++ replicate n 0) none ∙ append-nil sheet ∙ is ∙ ap (bits_from f 0) all
