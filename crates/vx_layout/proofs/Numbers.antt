-- A number that is read stands there in bytes.
use Rattle.std.proofs.Common.{◌≡◌, ℕ, ◌+◌, ◌<◌, ◌≤◌, List, ◌++◌, length, take, drop, get_or, sym, ap, ◌∙◌, arith, inl, inr, length-take, length-drop}
use Rattle.std.specs.Int.{w32, from_le_bytes, to_le_bytes}
use Rattle.std.proofs.lemmas.List.{take-append-drop, drop-drop, get_or-take, get_or-drop, get_or_past}
use Rattle.std.proofs.lemmas.Bool.{cases_lt}
use Rattle.std.proofs.lemmas.Nat.{le_bytes_4}
use Rattle.vx_layout.specs.Fields.{number_at}

-- from `at` on, bytes begins with text
abbrev pub StandsAt : List ℕ → ℕ → List ℕ → Type 0
StandsAt text at bytes = drop at bytes ≡ text ++ drop (at + length text) bytes

abbrev pub IsBytes : List ℕ → Type 0
IsBytes bytes = (i : ℕ) → get_or bytes i 0 < 256

pub IsBytes-take : (n : ℕ) (bytes : List ℕ) → IsBytes bytes → IsBytes (take n bytes)
IsBytes-take n bytes h i =
    elim (cases_lt i n) [
      | inl lt ↦ rw (get_or-take n bytes i 0 lt) (h i)
      | inr le ↦ rw (get_or_past (take n bytes) i 0 (omega (arith, length-take n bytes))) (omega arith)
    ]

pub IsBytes-drop : (n : ℕ) (bytes : List ℕ) → IsBytes bytes → IsBytes (drop n bytes)
IsBytes-drop n bytes h i = rw get_or-drop (h (n + i))

-- what stands at a place, from the list that begins there
pub stands : (text bytes : List ℕ) (at : ℕ) → text ≡ take (length text) (drop at bytes) → StandsAt text at bytes
stands text bytes at e =
    sym (take-append-drop (length text) (drop at bytes)) ∙ ap (λ (t : List ℕ). t ++ drop (length text) (drop at bytes)) (sym e) ∙ ap (λ (r : List ℕ). text ++ r) (drop-drop (length text) at bytes)

pub u32_stands : (bytes : List ℕ) (at n : ℕ) → at + 4 ≤ length bytes → IsBytes bytes → number_at w32 at bytes ≡ n → StandsAt (to_le_bytes w32 n) at bytes
unfolding number_at
u32_stands bytes at n le fits e =
    let len : length (take 4 (drop at bytes)) ≡ 4 = omega (arith, length-take 4 (drop at bytes), length-drop at bytes) in
    let b0 = get_or-take 4 (drop at bytes) 0 0 (omega arith) in
    let b1 = get_or-take 4 (drop at bytes) 1 0 (omega arith) in
    let b2 = get_or-take 4 (drop at bytes) 2 0 (omega arith) in
    let b3 = get_or-take 4 (drop at bytes) 3 0 (omega arith) in
    let same : n ≡ from_le_bytes w32 (take 4 (drop at bytes)) = rw (b0, b1, b2, b3) (sym e) in
    stands (to_le_bytes w32 n) bytes at (le_bytes_4 (take 4 (drop at bytes)) n len (IsBytes-take 4 (drop at bytes) (IsBytes-drop at bytes fits)) same)
