-- A sector that is filled from its front, zeros behind.
use Rattle.std.proofs.Common.{◌≡◌, ℕ, ◌+◌, ◌-◌, ◌≤◌, List, length, drop, replicate, sym, ◌∙◌, refl, arith}
use Rattle.std.proofs.lemmas.List.{drop-drop, drop-replicate}
use Rattle.std.proofs.lemmas.Slice.{drop-put_mid}
use borrow.Rule.Slice.PartMut.{put_mid}

-- a write of m bytes at k leaves zeros behind them
pub zeros_stay : (k m n : ℕ) (xs ys : List ℕ) → k + m ≤ n → length xs ≡ n → length ys ≡ m → drop k xs ≡ replicate (n - k) 0
    → drop (k + m) (put_mid k (k + m - k) xs ys) ≡ replicate (n - (k + m)) 0
zeros_stay k m n xs ys le len long zeros =
    let le1 : k + (k + m - k) ≤ k + m = omega arith in
    let le2 : k ≤ length xs = omega arith in
    let same : length ys ≡ k + m - k = omega arith in
    let e : n - k - m ≡ n - (k + m) = omega arith in
    drop-put_mid k (k + m - k) xs ys (k + m) le1 le2 same ∙ sym (drop-drop m k xs) ∙ rw (zeros, drop-replicate, e) refl
