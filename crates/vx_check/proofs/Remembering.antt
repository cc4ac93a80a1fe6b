-- What is kept of the sectors that were read.
use Rattle.std.proofs.Common.{◌≡◌, ℕ, zero, suc, ◌+◌, ◌<◌, ◌≤◌, List, [], ◌∷◌, ◌++◌, map, length, set, replicate, All, Option, Some, None, refl, sym, ap, ap₂, inl, inr, ◌∙◌, arith, add-one}
use Rattle.std.specs.Prelude.{slice_get}
use Rattle.std.specs.List.{AllByRecursion}
use Rattle.std.proofs.lemmas.Bool.{cases_eq}
use Rattle.std.proofs.lemmas.List.{map-set, get_or-set_same, get_or-set_other}
use Rattle.std.proofs.lemmas.List.Elements.{recursion_from_All}
use Rattle.vx_dev.specs.Tape.{Tape, now}
use Rattle.vx_sound.specs.Said.{Image}
use Rattle.vx_check.specs.Parts.{Agrees}
use Rattle.vx_check.specs.Overlays.{image_shown}
use Rattle.vx_check.specs.Kept.{bytes_at}
use Rattle.vx_check.specs.Remembering.{seen_of}

-- ---- the bytes at a place

-- an element stays where others come behind it
front : (xs ys : List (List ℕ)) (i : ℕ) → i < length xs → slice_get (xs ++ ys) i ≡ slice_get xs i
front [] ys i inside = absurd (omega arith)
front (x ∷ xs) ys zero inside = refl
front (x ∷ xs) ys (suc i) inside = front xs ys i (omega arith)

last : (xs : List (List ℕ)) (x : List ℕ) → slice_get (xs ++ x ∷ []) (length xs) ≡ Some x
last [] x = refl
last (y ∷ ys) x = last ys x

same_bytes : (sectors : List (List ℕ)) (x : List ℕ) (p : ℕ) → p ≤ length sectors → bytes_at (sectors ++ x ∷ []) p ≡ bytes_at sectors p
same_bytes sectors x zero inside = refl
same_bytes sectors x (suc i) inside = front sectors (x ∷ []) i (omega arith)

-- ---- what is kept

-- nothing, where each place is 0
pub nothing_kept : (n : ℕ) → map (bytes_at []) (replicate n 0) ≡ replicate n None
nothing_kept zero = refl
nothing_kept (suc n) = ap (λ xs. None ∷ xs) (nothing_kept n)

same_kept : (sectors : List (List ℕ)) (x : List ℕ) (places : List ℕ) → AllByRecursion (λ p. p ≤ length sectors) places → map (bytes_at (sectors ++ x ∷ [])) places ≡ map (bytes_at sectors) places
same_kept sectors x [] inside = refl
same_kept sectors x (p ∷ ps) inside = ap₂ (λ y ys. y ∷ ys) (same_bytes sectors x p inside.0) (same_kept sectors x ps inside.1)

-- one more sector
pub one_kept : (sectors more : List (List ℕ)) (x : List ℕ) (places : List ℕ) (s place : ℕ) → All (λ p. p ≤ length sectors) places → more ≡ sectors ++ x ∷ [] → place ≡ length sectors + 1 → map (bytes_at more) (set places s place) ≡ set (map (bytes_at sectors) places) s (Some x)
one_kept sectors more x places s place inside is next =
    let last_place : bytes_at (sectors ++ x ∷ []) place ≡ Some x = ap (bytes_at (sectors ++ x ∷ [])) (next ∙ add-one (length sectors)) ∙ last sectors x in
    ap (λ xs. map (bytes_at xs) (set places s place)) is ∙ (map-set (bytes_at (sectors ++ x ∷ [])) places s place ∙ ap₂ (λ ys y. set ys s y) (same_kept sectors x places (recursion_from_All (λ p. p ≤ length sectors) places inside)) last_place)

-- ---- the images that agree with what is kept

pub nothing_seen : (n s : ℕ) → seen_of (replicate n None) s ≡ None
nothing_seen zero s = refl
nothing_seen (suc n) zero = refl
nothing_seen (suc n) (suc s) = nothing_seen n s

module _ (kept : List (Option (List ℕ))) (s : ℕ) (x : List ℕ) (image : Image) where
  pub agrees_before : seen_of kept s ≡ None → Agrees (Some (seen_of (set kept s (Some x)))) image → Agrees (Some (seen_of kept)) image
  agrees_before new agrees = λ t bytes is. elim (cases_eq t s) [
    | inl same ↦ let none : None ≡ Some bytes = sym new ∙ (ap (seen_of kept) (sym same) ∙ is) in absurd (cc)
    | inr other ↦ agrees t bytes (get_or-set_other kept s t (Some x) None other ∙ is)
  ]

  pub agrees_after : image s ≡ x → s < length kept → Agrees (Some (seen_of kept)) image → Agrees (Some (seen_of (set kept s (Some x)))) image
  agrees_after right inside agrees = λ t bytes is. elim (cases_eq t s) [
    | inl same ↦
        let now : Some x ≡ Some bytes = sym (get_or-set_same kept s (Some x) None inside) ∙ (ap (seen_of (set kept s (Some x))) (sym same) ∙ is) in
        let bytes_are : x ≡ bytes = cc in
        ap image same ∙ (right ∙ bytes_are)
    | inr other ↦ agrees t bytes (sym (get_or-set_other kept s t (Some x) None other) ∙ is)
  ]

-- what the image that a device shows has at a sector
pub shown_at : (told : Option Tape) (doubt : List ℕ) (s : ℕ) (bytes : List ℕ) → ((t : Tape) → told ≡ Some t → doubt ≡ [] → now t s ≡ bytes) → (image : Image) → image_shown told doubt [] ≡ Some image → image s ≡ bytes
shown_at None doubt s bytes has image is = absurd (cc)
shown_at (Some t) [] s bytes has image is = let same : now t ≡ image = cc in ap (λ (f : Image). f s) (sym same) ∙ has t refl refl
shown_at (Some t) (x ∷ xs) s bytes has image is = absurd (cc)
