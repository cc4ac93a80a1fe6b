-- Lists of bytes after a read, a write and a change of size.
use Rattle.std.proofs.Common.{◌≡◌, ℕ, zero, suc, ◌+◌, ◌-◌, ◌<◌, ◌≤◌, List, ◌++◌, length, take, drop, get_or, refl, ◌∙◌, ap, arith, length-append, length-drop}
use Rattle.std.specs.Prelude.{replicate, max}
use Rattle.std.proofs.lemmas.List.{get_or_append_left, get_or-append_right, get_or-take, get_or-drop, get_or-replicate, length-take}
use Rattle.vx_base.specs.declared.call.Payload.{Payload}
use Rattle.vx_base.specs.declared.call.Payload.TheVariants as payload
use Rattle.vx_base.specs.Fits.{payload_len}
use Rattle.vx_model.specs.Bytes.{overwritten, resized, bytes_from, payload_bytes}
use Rattle.vx_model.specs.BytesLaws.{IsRead, IsOverwritten, IsResized}

abbrev blank : ℕ → List ℕ
blank n = replicate n 0

pub length-replicate : (n : ℕ) (x : ℕ) → length (replicate n x) ≡ n
length-replicate zero x = refl
length-replicate (suc n) x = (let rest = length-replicate n x in omega (arith, rest))

pub payload_size : (p : Payload) → length (payload_bytes p) ≡ payload_len p
payload_size (payload.Given bytes) = refl
payload_size (payload.Fill byte count) = length-replicate count byte

-- ---- read

pub read_is : (offset count : ℕ) (bytes : List ℕ) → IsRead offset count bytes (bytes_from offset count bytes)
read_is offset count bytes =
    let some = length-take count (drop offset bytes) in
    let left = length-drop offset bytes in
    record {
      size = omega (arith, some, left);
      bytes_are = λ i lt. get_or-take count (drop offset bytes) i 0 (omega (arith, some, lt)) ∙ get_or-drop offset bytes i 0;
    }

-- ---- another size

pub resized_long : (size : ℕ) (xs : List ℕ) → length (resized size xs) ≡ size
resized_long size xs =
    let all = length-append (take size xs) (blank (size - length xs)) in
    let first = length-take size xs in
    let rest = length-replicate (size - length xs) 0 in
    omega (arith, all, first, rest)

resized_kept : (size : ℕ) (xs : List ℕ) (o : ℕ) → o < size → o < length xs → get_or (resized size xs) o 0 ≡ get_or xs o 0
resized_kept size xs o lt inside =
    let long = length-take size xs in
    get_or_append_left (take size xs) (blank (size - length xs)) 0 o (omega (arith, long, lt, inside)) ∙ get_or-take size xs o 0 lt

resized_zeros : (size : ℕ) (xs : List ℕ) (o : ℕ) → length xs ≤ o → o < size → get_or (resized size xs) o 0 ≡ 0
resized_zeros size xs o outside lt =
    let long = length-take size xs in
    get_or-append_right (take size xs) (blank (size - length xs)) (length (take size xs)) o 0 refl (omega (arith, long, outside))
    ∙ get_or-replicate (size - length xs) (o - length (take size xs)) 0 0 (omega (arith, long, outside, lt))

pub resized_is : (size : ℕ) (xs : List ℕ) → IsResized size xs (resized size xs)
resized_is size xs = record { size_is = resized_long size xs; kept = resized_kept size xs; zeros = resized_zeros size xs }

pub cut_is : (size : ℕ) (xs : List ℕ) → size < length xs → IsResized size xs (take size xs)
cut_is size xs shorter =
    let long = length-take size xs in
    record {
      size_is = omega (arith, long, shorter);
      kept = λ o lt inside. get_or-take size xs o 0 lt;
      zeros = λ o outside lt. absurd (omega (arith, outside, lt, shorter));
    }

-- ---- a write

module _ (offset : ℕ) (new old : List ℕ) where
  behind : List ℕ
  behind = drop (offset + length new) old

  pub overwritten_long : length (overwritten offset new old) ≡ max (length old) (offset + length new)
  unfolding behind
  overwritten_long =
      let all = length-append (resized offset old) (new ++ behind) in
      let second = length-append new behind in
      let first = resized_long offset old in
      let rest = length-drop (offset + length new) old in
      omega (arith, all, second, first, rest)

  front : (o : ℕ) → o < offset → get_or (overwritten offset new old) o 0 ≡ get_or (resized offset old) o 0
  unfolding behind
  front o lt = let first = resized_long offset old in get_or_append_left (resized offset old) (new ++ behind) 0 o (omega (arith, first, lt))

  inside : (i : ℕ) → i < length new → get_or (overwritten offset new old) (offset + i) 0 ≡ get_or new i 0
  unfolding behind
  inside i lt =
      let at : offset + i - offset ≡ i = omega arith in
      get_or-append_right (resized offset old) (new ++ behind) offset (offset + i) 0 (resized_long offset old) (omega arith)
      ∙ ap (λ j. get_or (new ++ behind) j 0) at ∙ get_or_append_left new behind 0 i lt

  above : (o : ℕ) → offset + length new ≤ o → get_or (overwritten offset new old) o 0 ≡ get_or old o 0
  unfolding behind
  above o ge =
      let at : offset + length new + (o - offset - length new) ≡ o = omega (arith, ge) in
      get_or-append_right (resized offset old) (new ++ behind) offset o 0 (resized_long offset old) (omega (arith, ge))
      ∙ get_or-append_right new behind (length new) (o - offset) 0 refl (omega (arith, ge))
      ∙ get_or-drop (offset + length new) old (o - offset - length new) 0 ∙ ap (λ j. get_or old j 0) at

  pub overwritten_is : IsOverwritten offset new old (overwritten offset new old)
  overwritten_is = record {
    size = overwritten_long;
    inside = inside;
    below = λ o lt there. front o lt ∙ resized_kept offset old o lt there;
    between = λ o past lt. front o lt ∙ resized_zeros offset old o past lt;
    above = λ o ge there. above o ge;
  }
