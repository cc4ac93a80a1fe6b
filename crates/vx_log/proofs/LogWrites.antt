-- The log sectors of a batch as writes.
use Rattle.std.proofs.Common.{◌≡◌, ◌+◌, ◌<◌, ℕ, zero, suc, List, [], ◌∷◌, ◌++◌, length, take, get_or, refl, ◌∙◌, ap, arith}
use Rattle.vx_layout.specs.LogForms.{log_at}
use Rattle.vx_log.specs.Writes.{log_writes}

pub length-log_writes : (n position : ℕ) (xs : List (List ℕ)) → length (log_writes n position xs) ≡ length xs
length-log_writes n position [] = refl
length-log_writes n position (x ∷ xs) = ap suc (length-log_writes n (position + 1) xs)

pub take-log_writes : (k n position : ℕ) (xs : List (List ℕ)) → take k (log_writes n position xs) ≡ log_writes n position (take k xs)
take-log_writes zero n position xs = refl
take-log_writes (suc k) n position [] = refl
take-log_writes (suc k) n position (x ∷ xs) = ap (λ (l : List (ℕ × List ℕ)). (log_at n position, x) ∷ l) (take-log_writes k n (position + 1) xs)

pub get_or-log_writes : (k n position : ℕ) (xs : List (List ℕ)) (d : ℕ × List ℕ) → k < length xs → get_or (log_writes n position xs) k d ≡ (log_at n (position + k), get_or xs k [])
get_or-log_writes k n position [] d lt = absurd (omega (arith, lt))
get_or-log_writes zero n position (x ∷ xs) d lt = let place : position ≡ position + 0 = omega arith in ap (λ (p : ℕ). (log_at n p, x)) place
get_or-log_writes (suc k) n position (x ∷ xs) d lt =
    let place : position + 1 + k ≡ position + suc k = omega arith in
    get_or-log_writes k n (position + 1) xs d (omega (arith, lt)) ∙ ap (λ (p : ℕ). (log_at n p, get_or xs k [])) place

pub log_writes-push : (n position : ℕ) (xs : List (List ℕ)) (x : List ℕ) → log_writes n position (xs ++ x ∷ []) ≡ log_writes n position xs ++ (log_at n (position + length xs), x) ∷ []
log_writes-push n position [] x = let place : position ≡ position + 0 = omega arith in ap (λ (p : ℕ). (log_at n p, x) ∷ []) place
log_writes-push n position (y ∷ xs) x =
    let place : position + 1 + length xs ≡ position + suc (length xs) = omega arith in
    ap (λ (l : List (ℕ × List ℕ)). (log_at n position, y) ∷ l) (log_writes-push n (position + 1) xs x ∙ ap (λ (p : ℕ). log_writes n (position + 1) xs ++ (log_at n p, x) ∷ []) place)
