-- A release, block by block.
use Rattle.std.proofs.Common.{◌≡◌, ◌≢◌, ℕ, ◌+◌, ◌<◌, ◌≤◌, Bool, true, false, cond, ◌||◌, List, length, get_or, set, take, Option, None, inl, inr, refl, sym, ◌∙◌, ap, subst, arith, get_or-set_other, get_or-set_same, length-set}
use Rattle.std.proofs.lemmas.Bool.{cases_lt}
use Rattle.std.proofs.lemmas.List.{get_or-map, length-map, take_all, ext_get_or}
use Rattle.std.proofs.lemmas.List.Sums.{count_by_more_yes, count_by_more_no}
use Rattle.std.proofs.lemmas.List.FromFn.{fill_by_all}
use Rattle.std.specs.List.{count_by}
use Rattle.vx_alloc.specs.FreeMaps.{is_before, free_with, still_pending}

-- a block's bit and place after the release, by what they were
abbrev pub bit_after : ℕ → Option ℕ → Bool → Bool
bit_after upto place bit = is_before upto place || bit

abbrev pub place_after : ℕ → Option ℕ → Option ℕ
place_after upto place = cond (is_before upto place) None place

-- the blocks below i are as they will be, and those from i on as they were
pub record IsReleasedTo (upto : ℕ) (bits_old : List Bool) (places_old : List (Option ℕ)) (count i : ℕ) (bits : List Bool) (places : List (Option ℕ)) : Type 0 where
  pub counted : count ≡ count_by (is_before upto) (take i places_old)
  pub few : count ≤ i
  pub as_many_bits : length bits ≡ length bits_old
  pub as_many_places : length places ≡ length places_old
  pub bits_done : (k : ℕ) → k < i → get_or bits k false ≡ bit_after upto (get_or places_old k None) (get_or bits_old k false)
  pub places_done : (k : ℕ) → k < i → get_or places k None ≡ place_after upto (get_or places_old k None)
  pub bits_left : (k : ℕ) → i ≤ k → get_or bits k false ≡ get_or bits_old k false
  pub places_left : (k : ℕ) → i ≤ k → get_or places k None ≡ get_or places_old k None

pub release_begins : (upto : ℕ) (bits : List Bool) (places : List (Option ℕ)) → IsReleasedTo upto bits places 0 0 bits places
release_begins upto bits places = record {
  counted = refl;
  few = omega arith;
  as_many_bits = refl;
  as_many_places = refl;
  bits_done = λ k h. absurd (omega arith);
  places_done = λ k h. absurd (omega arith);
  bits_left = λ k h. refl;
  places_left = λ k h. refl;
}

module _ (upto : ℕ) (bits_old : List Bool) (places_old : List (Option ℕ)) (count i : ℕ) (bits : List Bool) (places : List (Option ℕ)) (known : IsReleasedTo upto bits_old places_old count i bits places) (in_bits : i < length bits_old) (in_places : i < length places_old) where
  pub release_yes : is_before upto (get_or places i None) ≡ true → IsReleasedTo upto bits_old places_old (count + 1) (i + 1) (set bits i true) (set places i None)
  release_yes due =
      let due_old : is_before upto (get_or places_old i None) ≡ true = sym (ap (is_before upto) (known.places_left i (omega arith))) ∙ due in
      let in_bits' : i < length bits = let e = known.as_many_bits in omega (arith, e) in
      let in_places' : i < length places = let e = known.as_many_places in omega (arith, e) in
      record {
        counted = ap (λ n. n + 1) known.counted ∙ sym (count_by_more_yes (is_before upto) places_old i None in_places due_old);
        few = let few : count ≤ i = known.few in omega arith;
        as_many_bits = length-set bits i true ∙ known.as_many_bits;
        as_many_places = length-set places i None ∙ known.as_many_places;
        bits_done = λ k h. elim (cases_lt k i) [
          | inl below ↦ let other : k ≢ i = omega arith in get_or-set_other bits i k true false other ∙ known.bits_done k below
          | inr above ↦
              let same : i ≡ k = omega arith in
              subst (λ m. get_or (set bits i true) m false ≡ bit_after upto (get_or places_old m None) (get_or bits_old m false)) same
              (get_or-set_same bits i true false in_bits' ∙ sym (ap (λ b. b || get_or bits_old i false) due_old))
        ];
        places_done = λ k h. elim (cases_lt k i) [
          | inl below ↦ let other : k ≢ i = omega arith in get_or-set_other places i k None None other ∙ known.places_done k below
          | inr above ↦
              let same : i ≡ k = omega arith in
              subst (λ m. get_or (set places i None) m None ≡ place_after upto (get_or places_old m None)) same
              (get_or-set_same places i None None in_places' ∙ sym (ap (λ b. cond b None (get_or places_old i None)) due_old))
        ];
        bits_left = λ k h. let other : k ≢ i = omega arith in get_or-set_other bits i k true false other ∙ known.bits_left k (omega arith);
        places_left = λ k h. let other : k ≢ i = omega arith in get_or-set_other places i k None None other ∙ known.places_left k (omega arith);
      }

  pub release_no : is_before upto (get_or places i None) ≡ false → IsReleasedTo upto bits_old places_old count (i + 1) bits places
  release_no due =
      let due_old : is_before upto (get_or places_old i None) ≡ false = sym (ap (is_before upto) (known.places_left i (omega arith))) ∙ due in
      record {
        counted = known.counted ∙ sym (count_by_more_no (is_before upto) places_old i None in_places due_old);
        few = let few : count ≤ i = known.few in omega arith;
        as_many_bits = known.as_many_bits;
        as_many_places = known.as_many_places;
        bits_done = λ k h. elim (cases_lt k i) [
          | inl below ↦ known.bits_done k below
          | inr above ↦
              let same : i ≡ k = omega arith in
              subst (λ m. get_or bits m false ≡ bit_after upto (get_or places_old m None) (get_or bits_old m false)) same
              (known.bits_left i (omega arith) ∙ sym (ap (λ b. b || get_or bits_old i false) due_old))
        ];
        places_done = λ k h. elim (cases_lt k i) [
          | inl below ↦ known.places_done k below
          | inr above ↦
              let same : i ≡ k = omega arith in
              subst (λ m. get_or places m None ≡ place_after upto (get_or places_old m None)) same
              (known.places_left i (omega arith) ∙ sym (ap (λ b. cond b None (get_or places_old i None)) due_old))
        ];
        bits_left = λ k h. known.bits_left k (omega arith);
        places_left = λ k h. known.places_left k (omega arith);
      }

pub release_count : (upto : ℕ) (bits_old : List Bool) (places_old : List (Option ℕ)) (count i : ℕ) (bits : List Bool) (places : List (Option ℕ)) → IsReleasedTo upto bits_old places_old count i bits places → length places_old ≤ i → count ≡ count_by (is_before upto) places_old
release_count upto bits_old places_old count i bits places known whole = known.counted ∙ ap (count_by (is_before upto)) (take_all i places_old whole)

pub release_bits : (upto : ℕ) (bits_old : List Bool) (places_old : List (Option ℕ)) (count i : ℕ) (bits : List Bool) (places : List (Option ℕ)) → IsReleasedTo upto bits_old places_old count i bits places → length bits_old ≤ i → bits ≡ free_with upto places_old bits_old
release_bits upto bits_old places_old count i bits places known whole =
    fill_by_all (λ k. bit_after upto (get_or places_old k None) (get_or bits_old k false)) bits (length bits_old) false known.as_many_bits (λ k h. known.bits_done k (omega arith))

pub release_places : (upto : ℕ) (bits_old : List Bool) (places_old : List (Option ℕ)) (count i : ℕ) (bits : List Bool) (places : List (Option ℕ)) → IsReleasedTo upto bits_old places_old count i bits places → length places_old ≤ i → places ≡ still_pending upto places_old
release_places upto bits_old places_old count i bits places known whole =
    ext_get_or None places (still_pending upto places_old) (known.as_many_places ∙ sym (length-map places_old (place_after upto)))
    (λ k h. let e = known.as_many_places in let inside : k < length places_old = omega (arith, e) in known.places_done k (omega (arith, e)) ∙ sym (get_or-map (place_after upto) places_old k None None inside))
