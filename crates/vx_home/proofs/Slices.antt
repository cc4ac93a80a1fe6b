-- A part of the noted sectors.
use Rattle.std.proofs.Common.{◌≡◌, ℕ, zero, suc, List, [], ◌∷◌, take, drop, get_or, refl, ◌∙◌, ap}
use Rattle.std.specs.Prelude.{All}
use Rattle.std.proofs.lemmas.List.Elements.{All-take, All-drop}
use Rattle.vx_layout.specs.LogForms.{AfterImage}
use Rattle.vx_home.specs.Indexes.{Index, named, IsUnused, ArePlaces}

unused_take : (place k : ℕ) (es : Index) → IsUnused place es → IsUnused place (take k es)
unused_take place zero es h = tt
unused_take place (suc k) [] h = tt
unused_take place (suc k) (e ∷ es) h = (h.0, unused_take place k es h.1)

places_take : (n k : ℕ) (es : Index) → ArePlaces n es → ArePlaces n (take k es)
places_take n zero es h = tt
places_take n (suc k) [] h = tt
places_take n (suc k) (e ∷ es) h = (h.0, unused_take e.1 k es h.1, places_take n k es h.2)

places_drop : (n k : ℕ) (es : Index) → ArePlaces n es → ArePlaces n (drop k es)
places_drop n zero es h = h
places_drop n (suc k) [] h = tt
places_drop n (suc k) (e ∷ es) h = places_drop n k es h.2

named_take : (images : List (List ℕ)) (k : ℕ) (es : Index) → named (take k es) images ≡ take k (named es images)
named_take images zero es = refl
named_take images (suc k) [] = refl
named_take images (suc k) (e ∷ es) = ap (λ (l : List AfterImage). (e.0, get_or images e.1 []) ∷ l) (named_take images k es)

named_drop : (images : List (List ℕ)) (k : ℕ) (es : Index) → named (drop k es) images ≡ drop k (named es images)
named_drop images zero es = refl
named_drop images (suc k) [] = refl
named_drop images (suc k) (e ∷ es) = named_drop images k es

pub places_part : (n from count : ℕ) (es : Index) → ArePlaces n es → ArePlaces n (take count (drop from es))
places_part n from count es h = places_take n count (drop from es) (places_drop n from es h)

pub named_part : (images : List (List ℕ)) (from count : ℕ) (es : Index) → named (take count (drop from es)) images ≡ take count (drop from (named es images))
named_part images from count es = named_take images count (drop from es) ∙ ap (take count) (named_drop images from es)

pub all_part : (P : AfterImage → Type 0) (from count : ℕ) (homes : List AfterImage) → All P homes → All P (take count (drop from homes))
all_part P from count homes all = All-take P count (drop from homes) (All-drop P from homes all)
