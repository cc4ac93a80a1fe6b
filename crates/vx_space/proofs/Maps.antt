-- The chain is as long as is needed.
use Rattle.std.proofs.Common.{◌≡◌, ℕ, zero, suc, ◌+◌, ◌-◌, List, length, Option, Some, None, Ok, refl, sym, subst, arith}
use Rattle.std.specs.Prelude.{nat_le}
use Rattle.std.specs.Option.{option_map, option_and_then}
use Rattle.std.proofs.lemmas.Bool.{leb-true}
use Rattle.std.proofs.lemmas.List.{length_push}
use Rattle.vx_layout.specs.Places.{Volume}
use Rattle.vx_extents.specs.Extents.{Mapped}
use Rattle.vx_space.specs.Placement.{longest_run}
use Rattle.vx_space.specs.Space.{Space, extents_in, maps_needed, most_extents}
use Rattle.vx_space.specs.Placing.{Filling, Request, with_map, place_maps, place_chain, place_fill, each_page, write_page}
use Rattle.vx_space.specs.Laws.{HasMaps}
use Rattle.vx_space.proofs.Chains.{bind_ok, unless_ok, need_ok}

-- so many map blocks more, and the same pages
abbrev IsLonger : ℕ → Filling → Option Filling → Type 0
IsLonger k f None = Unit {0}
IsLonger k f (Some g) = (g.pages ≡ f.pages) × (length g.maps ≡ length f.maps + k)

longer_on : (k : ℕ) (f : Filling) (b : ℕ) (o : Option Filling) → IsLonger k (with_map f b) o → IsLonger (suc k) f o
longer_on k f b None h = tt
longer_on k f b (Some g) h = (h.0, (let one = length_push f.maps b in let all = h.1 in omega (arith, one, all)))

longer_by : (v : Volume) (k : ℕ) (f : Filling) (o : Option ℕ) → ((g : Filling) → IsLonger k g (place_maps v k g)) → IsLonger (suc k) f (option_and_then (place_maps v k) (option_map (with_map f) o))
longer_by v k f None rest = tt
longer_by v k f (Some b) rest = longer_on k f b (place_maps v k (with_map f b)) (rest (with_map f b))

maps_longer : (v : Volume) (k : ℕ) (f : Filling) → IsLonger k f (place_maps v k f)
maps_longer v zero f = (refl, omega arith)
maps_longer v (suc k) f = longer_by v k f (longest_run v f.free) (λ g. maps_longer v k g)

pub chain_pages : (r : Request) (x : Space) (f g : Filling) → place_chain r x f ≡ Ok g → g.pages ≡ f.pages
chain_pages r x f g is =
    let y : Space = record x { present = f.pages } in
    let k : ℕ = maps_needed y - length f.maps in
    let fits = unless_ok (nat_le (extents_in y) most_extents) _ _ g is in
    let placed : place_maps r.volume k f ≡ Some g = need_ok (place_maps r.volume k f) _ g fits.1 in
    let longer : IsLonger k f (Some g) = subst (IsLonger k f) placed (maps_longer r.volume k f) in
    longer.0

chain_has : (r : Request) (x : Space) (f g : Filling) → place_chain r x f ≡ Ok g → HasMaps (record x { present = g.pages }) g.maps
chain_has r x f g is =
    let y : Space = record x { present = f.pages } in
    let k : ℕ = maps_needed y - length f.maps in
    let fits = unless_ok (nat_le (extents_in y) most_extents) _ _ g is in
    let placed : place_maps r.volume k f ≡ Some g = need_ok (place_maps r.volume k f) _ g fits.1 in
    let longer : IsLonger k f (Some g) = subst (IsLonger k f) placed (maps_longer r.volume k f) in
    subst (λ (ms : List Mapped). HasMaps (record x { present = ms }) g.maps) (sym longer.0) (record {
      extents = leb-true _ _ fits.0;
      chain = (let all = longer.1 in omega (arith, all));
    })

pub fill_has : (r : Request) (x : Space) (from n : ℕ) (f g : Filling) → place_fill r x from n f ≡ Ok g → HasMaps (record x { present = g.pages }) g.maps
fill_has r x from n f g is = let pages = bind_ok (each_page (write_page r) n from f) (place_chain r x) g is in chain_has r x pages.0 g pages.2
