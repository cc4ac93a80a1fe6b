-- A script is read piece by piece.
use Rattle.std.proofs.Common.{◌≡◌, ℕ, ◌≤◌, List, [], ◌∷◌, ◌++◌, length, take, Option, Some, None, sym, ◌∙◌, ap, arith, append-nil}
use Rattle.std.specs.Io.KnownBytes.{Consumes, IsAtEnd}
use Rattle.std.proofs.lemmas.List.{take-append-le, take_all}
use Rattle.vx_run.specs.Reads.{HasRead}

front : (n : ℕ) (bytes rest : List ℕ) → length bytes ≡ n → take n (bytes ++ rest) ≡ bytes
front n bytes rest is = take-append-le n bytes rest (omega arith) ∙ take_all n bytes (omega arith)

-- as many bytes as may be read
pub read_full : (left now : Option (List ℕ)) (bytes : List ℕ) → Consumes left now bytes → length bytes ≤ 4194305 → 4194305 ≤ length bytes → HasRead left bytes
read_full None now bytes h most least = tt
read_full (Some all) None bytes h most least = absurd h
read_full (Some all) (Some rest) bytes h most least = sym (ap (take 4194305) h ∙ front 4194305 bytes rest (omega arith))

-- the end was reached
pub read_to_end : (left now end : Option (List ℕ)) (bytes none : List ℕ) → Consumes left now bytes → length bytes ≤ 4194305 → none ≡ [] → Consumes now end none → IsAtEnd end → HasRead left bytes
read_to_end None now end bytes none h most is last at = tt
read_to_end (Some all) None end bytes none h most is last at = absurd h
read_to_end (Some all) (Some rest) None bytes none h most is last at = absurd last
read_to_end (Some all) (Some rest) (Some []) bytes none h most is last at =
    let empty : rest ≡ [] = last ∙ ap (λ (x : List ℕ). x ++ []) is in
    sym (ap (take 4194305) (h ∙ ap (λ (x : List ℕ). bytes ++ x) empty ∙ append-nil bytes) ∙ take_all 4194305 bytes most)
read_to_end (Some all) (Some rest) (Some (x ∷ xs)) bytes none h most is last at = absurd (let no : x ∷ xs ≡ [] = at in cc)
