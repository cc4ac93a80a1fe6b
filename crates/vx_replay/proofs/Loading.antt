-- Records that are noted, and the positions at which they begin.
use Rattle.std.proofs.Common.{◌≡◌, ◌+◌, ◌<◌, ◌≤◌, ℕ, zero, suc, List, [], ◌∷◌, ◌++◌, length, take, get_or, refl, sym, ap, subst, ◌∙◌, arith, length-append}
use Rattle.std.specs.List.{AllByRecursion}
use Rattle.std.proofs.lemmas.List.{take_more}
use Rattle.vx_layout.specs.LogForms.{AfterImage, IsRecord, log_sectors, record_sectors}
use Rattle.vx_log.specs.Logs.{AreStarts, AreAfter}
use Rattle.vx_log.specs.Batches.{with_notes}
use Rattle.vx_log.specs.NoteLaws.{NoteLaws}
use Rattle.vx_replay.specs.LogReads.{image_count, starts_at}
use Rattle.vx_replay.specs.Stopped.{noted_all}
use Rattle.vx_replay.proofs.LogReading.{sectors_push, length-images}

-- ---- one record more

pub noted_push : (homes : List AfterImage) (rs : List (List AfterImage)) (r : List AfterImage) → noted_all homes (rs ++ r ∷ []) ≡ with_notes (noted_all homes rs) r
noted_push homes [] r = refl
noted_push homes (q ∷ rs) r = noted_push (with_notes homes q) rs r

pub count_push : (rs : List (List AfterImage)) (r : List AfterImage) → image_count (rs ++ r ∷ []) ≡ image_count rs + length r
count_push [] r = omega arith
count_push (q ∷ rs) r = omega (arith, count_push rs r)

pub starts_push : (tail : ℕ) (rs : List (List AfterImage)) (r : List AfterImage) → starts_at tail (rs ++ r ∷ []) ≡ starts_at tail rs ++ (tail + length (log_sectors tail rs)) ∷ []
starts_push tail [] r = let same : tail ≡ tail + 0 = omega arith in ap (λ (p : ℕ). p ∷ []) same
starts_push tail (q ∷ rs) r =
    let next : ℕ = tail + (1 + length q) in
    let place : next + length (log_sectors next rs) ≡ tail + length (log_sectors tail (q ∷ rs)) =
    omega (arith, length-append (record_sectors tail q) (log_sectors next rs), length-images q) in
    ap (λ (l : List ℕ). tail ∷ l) (starts_push next rs r) ∙ ap (λ (p : ℕ). tail ∷ (starts_at next rs ++ p ∷ [])) place

pub length-push : (tail : ℕ) (rs : List (List AfterImage)) (r : List AfterImage) → length (log_sectors tail (rs ++ r ∷ [])) ≡ length (log_sectors tail rs) + (1 + length r)
length-push tail rs r =
    let place : ℕ = tail + length (log_sectors tail rs) in
    omega (arith, ap length (sectors_push tail rs r), length-append (log_sectors tail rs) (record_sectors place r), length-images r)

-- ---- parts of a list

pub count_part : (i : ℕ) (rs : List (List AfterImage)) → image_count (take i rs) ≤ image_count rs
count_part zero rs = omega arith
count_part (suc i) [] = omega arith
count_part (suc i) (r ∷ rs) = omega (arith, count_part i rs)

pub length_part : (tail i : ℕ) (rs : List (List AfterImage)) → length (log_sectors tail (take i rs)) ≤ length (log_sectors tail rs)
length_part tail zero rs = omega arith
length_part tail (suc i) [] = omega arith
length_part tail (suc i) (r ∷ rs) =
    let next : ℕ = tail + (1 + length r) in
    omega (arith, length_part next i rs, length-append (record_sectors tail r) (log_sectors next (take i rs)), length-append (record_sectors tail r) (log_sectors next rs))

-- ---- whole logs

pub length_counts : (tail : ℕ) (rs : List (List AfterImage)) → length (log_sectors tail rs) ≡ length rs + image_count rs
length_counts tail [] = refl
length_counts tail (r ∷ rs) =
    let next : ℕ = tail + (1 + length r) in
    omega (arith, length_counts next rs, length-append (record_sectors tail r) (log_sectors next rs), length-images r)

module _ (n size : ℕ) where
  are_after : (tail : ℕ) (r : List AfterImage) (rs : List (List AfterImage)) → AllByRecursion (IsRecord n size) (r ∷ rs) → AreAfter tail (starts_at (tail + (1 + length r)) rs) (tail + length (log_sectors tail (r ∷ rs)))
  are_after tail r [] h = omega (arith, h.0.some, length_counts tail (r ∷ []))
  are_after tail r (q ∷ rs) h =
      let next : ℕ = tail + (1 + length r) in
      let end : next + length (log_sectors next (q ∷ rs)) ≡ tail + length (log_sectors tail (r ∷ q ∷ rs)) =
      omega (arith, length_counts tail (r ∷ q ∷ rs), length_counts next (q ∷ rs)) in
      (omega (arith, h.0.some), subst (AreAfter next (starts_at (next + (1 + length q)) rs)) end (are_after next q rs h.1))

  pub are_starts : (tail : ℕ) (rs : List (List AfterImage)) → AllByRecursion (IsRecord n size) rs → AreStarts tail (starts_at tail rs) (tail + length (log_sectors tail rs))
  are_starts tail [] h = omega arith
  are_starts tail (r ∷ rs) h = (refl, are_after tail r rs h)

-- ---- the records so far

pub part_more : (rs : List (List AfterImage)) (i : ℕ) (r : List AfterImage) → i < length rs → r ≡ get_or rs i r → take (i + 1) rs ≡ take i rs ++ r ∷ []
part_more rs i r lt is = take_more rs i r lt ∙ ap (λ (q : List AfterImage). take i rs ++ q ∷ []) (sym is)

pub noted_more : (notes : NoteLaws) (rs : List (List AfterImage)) (i : ℕ) (r homes : List AfterImage) → i < length rs → r ≡ get_or rs i r → homes ≡ noted_all [] (take i rs) → with_notes homes r ≡ noted_all [] (take (i + 1) rs)
noted_more notes rs i r homes lt is so = ap (λ (h : List AfterImage). with_notes h r) so ∙ sym (noted_push [] (take i rs) r) ∙ sym (ap (noted_all []) (part_more rs i r lt is))

pub few_more : (notes : NoteLaws) (rs : List (List AfterImage)) (i : ℕ) (r homes : List AfterImage) → i < length rs → r ≡ get_or rs i r → length homes ≤ image_count (take i rs) → length (with_notes homes r) ≤ image_count (take (i + 1) rs)
few_more notes rs i r homes lt is few = omega (arith, few, notes.length homes r, count_push (take i rs) r, ap image_count (part_more rs i r lt is))

-- there is room for the next one
pub count_next : (rs : List (List AfterImage)) (i : ℕ) (r : List AfterImage) → i < length rs → r ≡ get_or rs i r → image_count (take i rs) + length r ≤ image_count rs
count_next rs i r lt is = omega (arith, count_push (take i rs) r, ap image_count (part_more rs i r lt is), count_part (i + 1) rs)

pub length_next : (tail : ℕ) (rs : List (List AfterImage)) (i : ℕ) (r : List AfterImage) → i < length rs → r ≡ get_or rs i r → length (log_sectors tail (take (i + 1) rs)) ≡ length (log_sectors tail (take i rs)) + (1 + length r)
length_next tail rs i r lt is = ap (λ (l : List (List AfterImage)). length (log_sectors tail l)) (part_more rs i r lt is) ∙ length-push tail (take i rs) r

pub starts_more : (tail : ℕ) (rs : List (List AfterImage)) (i : ℕ) (r : List AfterImage) (position : ℕ) (starts : List ℕ) → i < length rs → r ≡ get_or rs i r → position ≡ tail + length (log_sectors tail (take i rs)) → starts ≡ starts_at tail (take i rs)
    → starts ++ position ∷ [] ≡ starts_at tail (take (i + 1) rs)
starts_more tail rs i r position starts lt is at so =
    (λ k. so k ++ at k ∷ []) ∙ sym (starts_push tail (take i rs) r) ∙ sym (ap (starts_at tail) (part_more rs i r lt is))
