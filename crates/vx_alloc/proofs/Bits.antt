-- Lists of blocks that are data blocks or not.
use Rattle.std.proofs.Common.{◌≡◌, ℕ, ◌+◌, ◌-◌, ◌%◌, List, ◌∷◌, [], ◌++◌, Bool, true, cond, length, leb, sym, ap, ◌∙◌, append_assoc, arith}
use Rattle.std.proofs.lemmas.List.FromFn.{map-range_with_len_more, length-map-range_with_len}
use Rattle.vx_alloc.specs.FreeMaps.{data_bits}

pub data_bits_more : (p i : ℕ) (front : List Bool) → front ++ data_bits p (i + 1) ≡ (front ++ data_bits p i) ++ leb (4096 - p) (i % 4096) ∷ []
data_bits_more p i front =
    ap (λ bits. front ++ bits) (map-range_with_len_more (λ k. leb (4096 - p) (k % 4096)) 0 i i (omega arith)) ∙ sym (append_assoc front (data_bits p i) (leb (4096 - p) (i % 4096) ∷ []))

pub length-data_bits : (p n : ℕ) → length (data_bits p n) ≡ n
length-data_bits p n = length-map-range_with_len (λ k. leb (4096 - p) (k % 4096)) 0 n

-- one more block, pushed to a list that has room
pub pushed : (p i : ℕ) (front before after : List Bool) (bit ok : Bool) → before ≡ front ++ data_bits p i → ok ≡ true → bit ≡ leb (4096 - p) (i % 4096) → after ≡ cond ok (before ++ bit ∷ []) before → after ≡ front ++ data_bits p (i + 1)
pushed p i front before after bit ok known fine is_bit push = cc (data_bits_more p i front)
