-- What stands in a log says its records.
use Rattle.std.proofs.Common.{◌≡◌, ℕ, ◌+◌, ◌-◌, ◌*◌, ◌<◌, ◌≤◌, ◌^◌, List, [], ◌∷◌, ◌++◌, length, map, take, drop, replicate, refl, sym, ap, ◌∙◌, arith, append_assoc, length-append}
use Rattle.std.specs.Int.{w32, w64, from_le_bytes, to_le_bytes}
use Rattle.std.specs.List.{flat_map, AllByRecursion}
use Rattle.std.proofs.lemmas.List.{take_at, drop_at, length-map}
use Rattle.std.proofs.lemmas.Nat.{from_le_bytes-to_le_bytes_4, from_le_bytes-to_le_bytes_8}
use Rattle.vx_layout.specs.Fields.{number_at}
use Rattle.vx_layout.specs.LogForms.{AfterImage, IsNameable, IsRecord, record_magic, head_sector, descriptor, numbers_at, log_sectors}

-- ---- head sectors

pub head_serial : (serial tail head : ℕ) → serial < 2 ^ 64 → number_at w64 8 (head_sector serial tail head) ≡ serial
unfolding head_sector number_at
head_serial serial tail head lt = from_le_bytes-to_le_bytes_8 serial lt

pub head_tail : (serial tail head : ℕ) → tail < 2 ^ 64 → number_at w64 16 (head_sector serial tail head) ≡ tail
unfolding head_sector number_at
head_tail serial tail head lt = from_le_bytes-to_le_bytes_8 tail lt

pub head_head : (serial tail head : ℕ) → head < 2 ^ 64 → number_at w64 24 (head_sector serial tail head) ≡ head
unfolding head_sector number_at
head_head serial tail head lt = from_le_bytes-to_le_bytes_8 head lt

pub heads_same : (serial tail head serial2 tail2 head2 : ℕ) → tail < 2 ^ 64 → head < 2 ^ 64 → tail2 < 2 ^ 64 → head2 < 2 ^ 64
    → head_sector serial tail head ≡ head_sector serial2 tail2 head2 → (tail ≡ tail2) × (head ≡ head2)
heads_same serial tail head serial2 tail2 head2 lt lt_head lt2 lt_head2 e = (
  sym (head_tail serial tail head lt) ∙ ap (number_at w64 16) e ∙ head_tail serial2 tail2 head2 lt2,
  sym (head_head serial tail head lt_head) ∙ ap (number_at w64 24) e ∙ head_head serial2 tail2 head2 lt_head2,
)

-- ---- descriptors

-- the numbers that stand behind some bytes
numbers_again : (front homes rest : List ℕ) → AllByRecursion (λ s. s < 2 ^ 32) homes → numbers_at (length homes) (length front) (front ++ (flat_map (to_le_bytes w32) homes ++ rest)) ≡ homes
unfolding number_at
numbers_again front [] rest h = refl
numbers_again front (s ∷ homes) rest h =
    let bytes : List ℕ = to_le_bytes w32 s in
    let others : List ℕ = flat_map (to_le_bytes w32) homes ++ rest in
    let whole : List ℕ = front ++ (bytes ++ others) in
    let first : from_le_bytes w32 (drop (length front) whole) ≡ s = ap (from_le_bytes w32) (drop_at front (bytes ++ others) (length front) refl) ∙ from_le_bytes-to_le_bytes_4 s h.0 in
    let place : length (front ++ bytes) ≡ length front + 4 = length-append front bytes in
    let more : numbers_at (length homes) (length front + 4) whole ≡ homes =
    (λ i. numbers_at (length homes) (sym place i) (sym (append_assoc front bytes others) i)) ∙ numbers_again (front ++ bytes) homes rest h.1 in
    λ i. first i ∷ more i

pub count_again : (position : ℕ) (homes : List ℕ) → length homes ≤ 124 → number_at w32 4 (descriptor position homes) ≡ length homes
unfolding descriptor number_at
count_again position homes few = from_le_bytes-to_le_bytes_4 (length homes) (omega (arith, few))

pub homes_again : (position : ℕ) (homes : List ℕ) → AllByRecursion (λ s. s < 2 ^ 32) homes → numbers_at (length homes) 16 (descriptor position homes) ≡ homes
unfolding descriptor
homes_again position homes h = numbers_again (record_magic ++ to_le_bytes w32 (length homes) ++ to_le_bytes w64 position) homes (replicate (496 - 4 * length homes) 0) h

descriptor_same : (position : ℕ) (xs ys : List ℕ) → length xs ≤ 124 → length ys ≤ 124 → AllByRecursion (λ s. s < 2 ^ 32) xs → AllByRecursion (λ s. s < 2 ^ 32) ys
    → descriptor position xs ≡ descriptor position ys → xs ≡ ys
descriptor_same position xs ys few few2 low low2 e =
    let count : length xs ≡ length ys = sym (count_again position xs few) ∙ ap (number_at w32 4) e ∙ count_again position ys few2 in
    sym (homes_again position xs low) ∙ (λ i. numbers_at (count i) 16 (e i)) ∙ homes_again position ys low2

-- ---- records

first_same : (x y : List ℕ) (xs ys : List (List ℕ)) → x ∷ xs ≡ y ∷ ys → x ≡ y
first_same x y xs ys e = cc

rest_same : (x y : List ℕ) (xs ys : List (List ℕ)) → x ∷ xs ≡ y ∷ ys → xs ≡ ys
rest_same x y xs ys e = cc

pair_first : (a b : AfterImage) (s : List AfterImage) (t : List AfterImage) → map (λ (e : AfterImage). e.0) (a ∷ s) ≡ map (λ (e : AfterImage). e.0) (b ∷ t) → (a.0 ≡ b.0) × (map (λ (e : AfterImage). e.0) s ≡ map (λ (e : AfterImage). e.0) t)
pair_first a b s t e = (cc, cc)

pairs_same : (r q : List AfterImage) → map (λ (e : AfterImage). e.0) r ≡ map (λ (e : AfterImage). e.0) q → map (λ (e : AfterImage). e.1) r ≡ map (λ (e : AfterImage). e.1) q → r ≡ q
pairs_same [] [] homes images = refl
pairs_same [] (b ∷ q) homes images = absurd cc
pairs_same (a ∷ r) [] homes images = absurd cc
pairs_same (a ∷ r) (b ∷ q) homes images =
    let h = pair_first a b r q homes in
    let image : a.1 ≡ b.1 = first_same a.1 b.1 _ _ images in
    let rest : r ≡ q = pairs_same r q h.1 (rest_same a.1 b.1 _ _ images) in
    λ i. (h.0 i, image i) ∷ rest i

split : (xs ys us vs : List (List ℕ)) → length xs ≡ length ys → xs ++ us ≡ ys ++ vs → (xs ≡ ys) × (us ≡ vs)
split xs ys us vs count e = (
  sym (take_at xs us (length ys) count) ∙ ap (take (length ys)) e ∙ take_at ys vs (length ys) refl,
  sym (drop_at xs us (length ys) count) ∙ ap (drop (length ys)) e ∙ drop_at ys vs (length ys) refl,
)

all_low : (n size : ℕ) (homes : List ℕ) → AllByRecursion (IsNameable n size) homes → AllByRecursion (λ s. s < 2 ^ 32) homes
all_low n size [] h = tt
all_low n size (s ∷ homes) h = (h.0.low, all_low n size homes h.1)

pub records_same : (n size more position : ℕ) (rs qs : List (List AfterImage)) → AllByRecursion (IsRecord n size) rs → AllByRecursion (IsRecord n more) qs → log_sectors position rs ≡ log_sectors position qs → rs ≡ qs
records_same n size more position [] [] fr fq e = refl
records_same n size more position [] (q ∷ qs) fr fq e = absurd cc
records_same n size more position (r ∷ rs) [] fr fq e = absurd cc
records_same n size more position (r ∷ rs) (q ∷ qs) fr fq e =
    let homes_r : List ℕ = map (λ (e : AfterImage). e.0) r in
    let homes_q : List ℕ = map (λ (e : AfterImage). e.0) q in
    let images_r : List (List ℕ) = map (λ (e : AfterImage). e.1) r in
    let images_q : List (List ℕ) = map (λ (e : AfterImage). e.1) q in
    let next_r : List (List ℕ) = log_sectors (position + (1 + length r)) rs in
    let next_q : List (List ℕ) = log_sectors (position + (1 + length q)) qs in
    let long_r : length homes_r ≡ length r = length-map r (λ (e : AfterImage). e.0) in
    let long_q : length homes_q ≡ length q = length-map q (λ (e : AfterImage). e.0) in
    let homes : homes_r ≡ homes_q = descriptor_same position homes_r homes_q (omega (arith, fr.0.few, long_r)) (omega (arith, fq.0.few, long_q)) (all_low n size homes_r fr.0.homes) (all_low n more homes_q fq.0.homes)
    (first_same (descriptor position homes_r) (descriptor position homes_q) (images_r ++ next_r) (images_q ++ next_q) e) in
    let count : length r ≡ length q = sym long_r ∙ ap length homes ∙ long_q in
    let images = split images_r images_q next_r next_q (length-map r (λ (e : AfterImage). e.1) ∙ count ∙ sym (length-map q (λ (e : AfterImage). e.1)))
    (rest_same (descriptor position homes_r) (descriptor position homes_q) (images_r ++ next_r) (images_q ++ next_q) e) in
    let one : r ≡ q = pairs_same r q homes images.0 in
    let place : next_r ≡ log_sectors (position + (1 + length q)) rs = ap (λ (n : ℕ). log_sectors (position + (1 + n)) rs) count in
    let rest : rs ≡ qs = records_same n size more (position + (1 + length q)) rs qs fr.1 fq.1 (sym place ∙ images.1) in
    λ i. one i ∷ rest i
