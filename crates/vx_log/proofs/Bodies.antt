-- The log sectors of a batch, one by one.
use Rattle.std.proofs.Common.{◌≡◌, ◌+◌, ◌-◌, ◌*◌, ◌/◌, ◌%◌, ◌<◌, ◌≤◌, ℕ, zero, suc, List, [], length, map, get_or, take, drop, sym, ◌∙◌, ap, arith, min, length-append, length-take, length-drop}
use Rattle.std.proofs.lemmas.List.{length-map, get_or_append_left, get_or-append-add, get_or-map, get_or-take, get_or-drop, drop-drop, take_min}
use Rattle.vx_layout.specs.LogForms.{AfterImage, descriptor, record_sectors, log_sectors, record_count, log_length, records_from, records_of, body_of}

sectors : List AfterImage → List ℕ
sectors b = map (λ (e : AfterImage). e.0) b

pub length-record : (position : ℕ) (r : List AfterImage) → length (record_sectors position r) ≡ 1 + length r
length-record position r = ap suc (length-map r (λ (e : AfterImage). e.1)) ∙ omega arith

-- enough records hold the whole batch
length-from : (k position : ℕ) (b : List AfterImage) → length b ≤ 124 * k → length (log_sectors position (records_from k b)) ≡ length b + k
length-from zero position b le = omega (arith, le)
length-from (suc k) position b le =
    let r : List AfterImage = take 124 b in
    let next : ℕ = position + (1 + length r) in
    let rest : List AfterImage = drop 124 b in
    let more : length (log_sectors next (records_from k rest)) ≡ length rest + k = length-from k next rest (omega (arith, le, length-drop 124 b)) in
    omega (arith, more, length-append (record_sectors position r) (log_sectors next (records_from k rest)), length-record position r, length-take 124 b, length-drop 124 b)

pub length-body : (position : ℕ) (b : List AfterImage) → length (body_of position b) ≡ log_length (length b)
unfolding records_of
length-body position b = length-from (record_count (length b)) position b (omega arith)

-- the first sector of record number q, and after-image number j of it
first_from : (k position q : ℕ) (b : List AfterImage) → q < k → 124 * q ≤ length b → get_or (log_sectors position (records_from k b)) (125 * q) [] ≡ descriptor (position + 125 * q) (map (λ (e : AfterImage). e.0) (take 124 (drop (124 * q) b)))
first_from zero position q b lt le = absurd (omega (arith, lt))
first_from (suc k) position zero b lt le =
    let place : position ≡ position + 125 * 0 = omega arith in
    ap (λ (p : ℕ). descriptor p (map (λ (e : AfterImage). e.0) (take 124 b))) place
first_from (suc k) position (suc q) b lt le =
    let r : List AfterImage = take 124 b in
    let full : length r ≡ 124 = omega (arith, le, length-take 124 b) in
    let next : ℕ = position + (1 + length r) in
    let rest : List AfterImage = drop 124 b in
    let index : 125 * suc q ≡ length (record_sectors position r) + 125 * q = omega (arith, full, length-record position r) in
    let place : next + 125 * q ≡ position + 125 * suc q = omega (arith, full) in
    let skip : 124 + 124 * q ≡ 124 * suc q = omega arith in
    ap (λ (i : ℕ). get_or (log_sectors position (records_from (suc k) b)) i []) index
    ∙ get_or-append-add (record_sectors position r) (log_sectors next (records_from k rest)) (125 * q) []
    ∙ first_from k next q rest (omega (arith, lt)) (omega (arith, le, length-drop 124 b))
    ∙ ap (λ (p : ℕ). descriptor p (map (λ (e : AfterImage). e.0) (take 124 (drop (124 * q) rest)))) place
    ∙ ap (λ (l : List AfterImage). descriptor (position + 125 * suc q) (map (λ (e : AfterImage). e.0) (take 124 l))) (drop-drop (124 * q) 124 b ∙ ap (λ (i : ℕ). drop i b) skip)

image_from : (k position q j : ℕ) (b : List AfterImage) (d : AfterImage) → q < k → j < 124 → 124 * q + j < length b → get_or (log_sectors position (records_from k b)) (125 * q + (1 + j)) [] ≡ (get_or b (124 * q + j) d).1
image_from zero position q j b d lt short le = absurd (omega (arith, lt))
image_from (suc k) position zero j b d lt short le =
    let r : List AfterImage = take 124 b in
    let images : List (List ℕ) = map (λ (e : AfterImage). e.1) r in
    let next : ℕ = position + (1 + length r) in
    let index : 125 * 0 + (1 + j) ≡ suc j = omega arith in
    let place : j ≡ 124 * 0 + j = omega arith in
    let within : j < length r = omega (arith, short, le, length-take 124 b) in
    ap (λ (i : ℕ). get_or (log_sectors position (records_from (suc k) b)) i []) index
    ∙ get_or_append_left images (log_sectors next (records_from k (drop 124 b))) [] j (omega (arith, within, length-map r (λ (e : AfterImage). e.1)))
    ∙ get_or-map (λ (e : AfterImage). e.1) r j d [] within
    ∙ ap (λ (e : AfterImage). e.1) (get_or-take 124 b j d short ∙ ap (λ (i : ℕ). get_or b i d) place)
image_from (suc k) position (suc q) j b d lt short le =
    let r : List AfterImage = take 124 b in
    let full : length r ≡ 124 = omega (arith, le, length-take 124 b) in
    let next : ℕ = position + (1 + length r) in
    let rest : List AfterImage = drop 124 b in
    let index : 125 * suc q + (1 + j) ≡ length (record_sectors position r) + (125 * q + (1 + j)) = omega (arith, full, length-record position r) in
    let place : 124 + (124 * q + j) ≡ 124 * suc q + j = omega arith in
    ap (λ (i : ℕ). get_or (log_sectors position (records_from (suc k) b)) i []) index
    ∙ get_or-append-add (record_sectors position r) (log_sectors next (records_from k rest)) (125 * q + (1 + j)) []
    ∙ image_from k next q j rest d (omega (arith, lt)) short (omega (arith, le, length-drop 124 b))
    ∙ ap (λ (e : AfterImage). e.1) (get_or-drop 124 b (124 * q + j) d ∙ ap (λ (i : ℕ). get_or b i d) place)

-- log sector number i of a batch, by the record that it stands in
pub body-descriptor : (position i : ℕ) (b : List AfterImage) → i < log_length (length b) → i % 125 ≡ 0 → get_or (body_of position b) i [] ≡ descriptor (position + i) (map (λ (e : AfterImage). e.0) (take 124 (drop (i / 125 * 124) b)))
unfolding records_of
body-descriptor position i b lt first =
    let q : ℕ = i / 125 in
    let index : 125 * q ≡ i = omega (arith, first) in
    let skip : 124 * q ≡ q * 124 = omega arith in
    ap (λ (j : ℕ). get_or (body_of position b) j []) (sym index)
    ∙ first_from (record_count (length b)) position q b (omega (arith, lt, index)) (omega (arith, lt, index))
    ∙ ap (λ (j : ℕ). descriptor (position + j) (map (λ (e : AfterImage). e.0) (take 124 (drop (124 * q) b)))) index
    ∙ ap (λ (j : ℕ). descriptor (position + i) (map (λ (e : AfterImage). e.0) (take 124 (drop j b)))) skip

pub body-image : (position i : ℕ) (b : List AfterImage) (d : AfterImage) → i < log_length (length b) → 0 < i % 125 → (i / 125 * 124 + i % 125 - 1 < length b) × (get_or (body_of position b) i [] ≡ (get_or b (i / 125 * 124 + i % 125 - 1) d).1)
unfolding records_of
body-image position i b d lt later =
    let q : ℕ = i / 125 in
    let j : ℕ = i % 125 - 1 in
    let index : 125 * q + (1 + j) ≡ i = omega (arith, later) in
    let place : 124 * q + j ≡ q * 124 + i % 125 - 1 = omega (arith, later) in
    let within : 124 * q + j < length b = omega (arith, lt, index) in (
      omega (arith, within, place),
      ap (λ (n : ℕ). get_or (body_of position b) n []) (sym index)
          ∙ image_from (record_count (length b)) position q j b d (omega (arith, lt, index)) (omega arith) within
          ∙ ap (λ (n : ℕ). (get_or b n d).1) place,
    )

-- a record's range of the batch, where the batch may end within it
pub record-range : (first end from : ℕ) (b : List AfterImage) → first ≤ length b → end ≡ min (length b) (first + 124) → from ≡ first → take (end - from) (drop from b) ≡ take 124 (drop first b)
record-range first end from b le is at =
    let size : end - from ≡ min 124 (length (drop first b)) = omega (arith, le, is, at, length-drop first b) in
    ap (λ (j : ℕ). take (end - from) (drop j b)) at ∙ ap (λ (n : ℕ). take n (drop first b)) size ∙ take_min 124 (drop first b)
