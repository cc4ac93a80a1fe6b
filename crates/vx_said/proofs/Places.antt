-- An inode's six places, and the extents in them.
use Rattle.std.proofs.Common.{◌≡◌, ℕ, zero, suc, ◌+◌, ◌-◌, ◌≤◌, List, [], ◌∷◌, ◌++◌, length, Option, Some, None, refl, sym, ap, ◌∙◌, arith}
use Rattle.std.specs.List.{flat_map}
use Rattle.vx_base.specs.declared.inode.Extent.{Extent}
use Rattle.vx_layout.specs.Inodes.{ArePlaces}
use Rattle.vx_sound.specs.Said.{in_place}
use Rattle.vx_model.specs.Contents.{places}

-- the first so many of a list, by their places
abbrev first_places : ℕ → List Extent → List (Option Extent)
first_places zero es = []
first_places (suc k) [] = None ∷ first_places k []
first_places (suc k) (e ∷ es) = Some e ∷ first_places k es

six_places : (es : List Extent) → places es ≡ first_places 6 es
six_places [] = refl
six_places (a ∷ []) = refl
six_places (a ∷ b ∷ []) = refl
six_places (a ∷ b ∷ c ∷ []) = refl
six_places (a ∷ b ∷ c ∷ d ∷ []) = refl
six_places (a ∷ b ∷ c ∷ d ∷ e ∷ []) = refl
six_places (a ∷ b ∷ c ∷ d ∷ e ∷ f ∷ es) = refl

abbrev placed : List (Option Extent) → List Extent
placed ps = flat_map in_place ps

none_placed : (n i : ℕ) (ps : List (Option Extent)) → ArePlaces n i ps → n ≤ i → placed ps ≡ []
none_placed n i [] are past = refl
none_placed n i (None ∷ ps) are past = none_placed n (i + 1) ps are.1 (omega (arith, past))
none_placed n i (Some e ∷ ps) are past = absurd (omega (arith, are.0.0, past))

none_again : (n i : ℕ) (ps : List (Option Extent)) → ArePlaces n i ps → n ≤ i → first_places (length ps) [] ≡ ps
none_again n i [] are past = refl
none_again n i (None ∷ ps) are past = ap (λ (qs : List (Option Extent)). None ∷ qs) (none_again n (i + 1) ps are.1 (omega (arith, past)))
none_again n i (Some e ∷ ps) are past = absurd (omega (arith, are.0.0, past))

-- the places say their extents, where others come only behind full ones
places_by : (n i : ℕ) (ps : List (Option Extent)) (rest : List Extent) → ArePlaces n i ps → (n ≤ i + length ps → rest ≡ []) → first_places (length ps) (placed ps ++ rest) ≡ ps
places_by n i [] rest are none = refl
places_by n i (None ∷ ps) rest are none =
    let gone : placed ps ≡ [] = none_placed n (i + 1) ps are.1 (omega (arith, are.0)) in
    let past : rest ≡ [] = none (omega (arith, are.0)) in
    (λ j. first_places (suc (length ps)) (gone j ++ past j)) ∙ ap (λ (qs : List (Option Extent)). None ∷ qs) (none_again n (i + 1) ps are.1 (omega (arith, are.0)))
places_by n i (Some e ∷ ps) rest are none =
    ap (λ (qs : List (Option Extent)). Some e ∷ qs) (places_by n (i + 1) ps rest are.1 (λ few. none (omega (arith, few))))

few_placed : (n i : ℕ) (ps : List (Option Extent)) → ArePlaces n i ps → n ≤ i + length ps → length (placed ps) ≡ n - i
few_placed n i [] are few = omega (arith, few)
few_placed n i (None ∷ ps) are few = ap length (none_placed n (i + 1) ps are.1 (omega (arith, are.0))) ∙ omega (arith, are.0)
few_placed n i (Some e ∷ ps) are few = let rest = few_placed n (i + 1) ps are.1 (omega (arith, few)) in omega (arith, rest, are.0.0)

all_placed : (n i : ℕ) (ps : List (Option Extent)) → ArePlaces n i ps → i + length ps ≤ n → length (placed ps) ≡ length ps
all_placed n i [] are many = refl
all_placed n i (None ∷ ps) are many = absurd (omega (arith, are.0, many))
all_placed n i (Some e ∷ ps) are many = let rest = all_placed n (i + 1) ps are.1 (omega (arith, many)) in omega (arith, rest)

module _ (n : ℕ) (ps : List (Option Extent)) (six : length ps ≡ 6) (are : ArePlaces n 0 ps) where
  pub places_again : (rest : List Extent) → (n ≤ 6 → rest ≡ []) → places (flat_map in_place ps ++ rest) ≡ ps
  places_again rest none =
      six_places (placed ps ++ rest) ∙ ap (λ k. first_places k (placed ps ++ rest)) (sym six)
      ∙ places_by n 0 ps rest are (λ few. none (omega (arith, few, six)))

  pub few_in_place : n ≤ 6 → length (flat_map in_place ps) ≡ n
  few_in_place few = few_placed n 0 ps are (omega (arith, few, six)) ∙ omega arith

  pub six_in_place : 6 ≤ n → length (flat_map in_place ps) ≡ 6
  six_in_place many = all_placed n 0 ps are (omega (arith, many, six)) ∙ six
