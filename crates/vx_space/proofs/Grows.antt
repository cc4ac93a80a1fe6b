-- What a file is given was free, and has one purpose then.
use Rattle.std.proofs.Common.{◌≡◌, ℕ, zero, suc, ◌+◌, ◌-◌, ◌≤◌, Bool, true, false, ◌&&◌, cond, List, [], ◌∷◌, ◌++◌, length, Option, Some, None, Ok, inl, inr, refl, sym, ◌∙◌, ap, arith}
use Rattle.std.specs.Prelude.{◌==◌, not}
use Rattle.std.specs.Option.{option_map, option_and_then}
use Rattle.std.proofs.lemmas.Bool.{cases_Bool, eqb-true, ne_eqb}
use Rattle.vx_base.specs.declared.kind.Kind.{Kind}
use Rattle.vx_base.specs.declared.kind.Kind.TheVariants.{Data, Reserved}
use Rattle.vx_base.specs.declared.call.ExtAttrs.{ExtAttrs}
use Rattle.vx_base.specs.declared.refusal.Refusal.TheVariants as no
use Rattle.vx_layout.specs.Places.{Volume}
use Rattle.vx_extents.specs.Extents.{Mapped, mapped_at, with_page}
use Rattle.vx_space.specs.Outcome.{need}
use Rattle.vx_space.specs.Placement.{page_place, run_start, aligned_start, longest_run}
use Rattle.vx_space.specs.Space.{Space, page_blocks, maps_needed}
use Rattle.vx_space.specs.Placing.{Filling, Request, without, with_block, block_before, first_for, place_page, with_run, takes_group, group_start, group_length, run_for, is_set, place_group, with_data, place_missing, write_page, each_page, with_map, place_maps, place_chain, place_fill}
use Rattle.vx_space.specs.Uses.{uses, blocks_in, IsGrown}
use Rattle.vx_space.proofs.Chains.{Always, then_always, more_always, where_holds}
use Rattle.vx_space.proofs.FreeRuns.{Passes, IsAbove, page_is_free, longest_is_free, start_passes, aligned_passes}
use Rattle.vx_space.proofs.Uses.{one, uses_append, page_uses, data_blocks}

and_true : (t : Bool) → (t && true) ≡ t
and_true true = refl
and_true false = refl

-- one block more
one_more : (f g : Filling) (b : ℕ) → f.free b ≡ true → g.free ≡ without f.free b → ((c : ℕ) → uses (blocks_in g) c ≡ one c b + uses (blocks_in f) c) → IsGrown f g
one_more f g b there free count = record {
  purposes_kept = λ c. elim (cases_Bool (c == b)) [
    | inl e ↦
        let here : one c b ≡ 1 = ap (λ t. cond t 1 0) e in
        let was : ◌≡◌ {A = ℕ} (cond (f.free c) 1 0) 1 = ap (λ t. cond t 1 0) (ap f.free (eqb-true c b e) ∙ there) in
        let gone : g.free c ≡ (f.free c && false) = ap (λ (t : ℕ → Bool). t c) free ∙ ap (λ t. f.free c && not t) e in
        let none : (f.free c && false) ≡ false = and_false (f.free c) in
        let is : ◌≡◌ {A = ℕ} (cond (g.free c) 1 0) 0 = ap (λ t. cond t 1 0) (gone ∙ none) in
        let all = count c in omega (arith, here, was, is, all)
    | inr ne ↦
        let here : one c b ≡ 0 = ap (λ t. cond t 1 0) ne in
        let same : g.free c ≡ f.free c = ap (λ (t : ℕ → Bool). t c) free ∙ ap (λ t. f.free c && not t) ne ∙ and_true (f.free c) in
        let is : ◌≡◌ {A = ℕ} (cond (g.free c) 1 0) (cond (f.free c) 1 0) = ap (λ t. cond t 1 0) same in
        let all = count c in omega (arith, here, is, all)
  ];
  kept = λ c. let all = count c in omega (arith, all);
}
  where
    and_false : (t : Bool) → (t && false) ≡ false
    and_false true = refl
    and_false false = refl

then_grown : (f g h : Filling) → IsGrown f g → IsGrown g h → IsGrown f h
then_grown f g h first second = record {
  purposes_kept = λ b. second.purposes_kept b ∙ first.purposes_kept b;
  kept = λ b. (let low = first.kept b in let high = second.kept b in omega (arith, low, high));
}

same_grown : (f : Filling) → IsGrown f f
same_grown f = record { purposes_kept = λ b. refl; kept = λ b. omega arith }

block_grown : (kind : Kind) (p b : ℕ) (f : Filling) → f.free b ≡ true → IsGrown f (with_block kind p f b)
block_grown kind p b f there = one_more f (with_block kind p f b) b there refl (λ c.
    let m : Mapped = record { page = p; block = b; kind = kind } in
    let new = uses_append (page_blocks (with_page m f.pages)) f.maps c in
    let old = uses_append (page_blocks f.pages) f.maps c in
    let page = page_uses m f.pages c in
    omega (arith, new, old, page))

map_grown : (b : ℕ) (f : Filling) → f.free b ≡ true → IsGrown f (with_map f b)
map_grown b f there = one_more f (with_map f b) b there refl (λ c.
    let new = uses_append (page_blocks f.pages) (f.maps ++ b ∷ []) c in
    let last : uses (f.maps ++ b ∷ []) c ≡ uses f.maps c + (one c b + 0) = uses_append f.maps (b ∷ []) c in
    let old = uses_append (page_blocks f.pages) f.maps c in
    omega (arith, new, last, old))

data_grown : (p : ℕ) (f : Filling) → IsGrown f (with_data p f)
data_grown p f =
    let same : (b : ℕ) → uses (blocks_in (with_data p f)) b ≡ uses (blocks_in f) b = λ b. ap (λ (bs : List ℕ). uses (bs ++ f.maps) b) (data_blocks p f.pages) in
    record {
      purposes_kept = λ b. (let all = same b in omega (arith, all));
      kept = λ b. (let all = same b in omega (arith, all));
    }

-- a run of blocks
run_grown : (kind : Kind) (k p b : ℕ) (f : Filling) → Passes f.free b k → IsGrown f (with_run kind k p f b)
run_grown kind zero p b f passes = same_grown f
run_grown kind (suc k) p b f passes =
    let same : b + 0 ≡ b = omega arith in
    let here : f.free b ≡ true = sym (ap f.free same) ∙ passes 0 (omega arith) in
    then_grown f (with_block kind p f b) (with_run kind k (p + 1) (with_block kind p f b) (b + 1)) (block_grown kind p b f here)
    (run_grown kind k (p + 1) (b + 1) (with_block kind p f b)
    (λ j below.
    let next : b + 1 + j ≡ b + suc j = omega arith in
    let other : (b + 1 + j == b) ≡ false = ne_eqb (b + 1 + j) b (λ e. absurd (omega (arith, e))) in
    let stays : f.free (b + 1 + j) ≡ true = ap f.free next ∙ passes (suc j) (omega (arith, below)) in
    λ i. stays i && not (other i)))

-- what is filled, if it is
abbrev IfFilled : Filling → Option Filling → Type 0
IfFilled f None = Unit {0}
IfFilled f (Some g) = IsGrown f g

need_grown : (f : Filling) (o : Option Filling) (why : _) → IfFilled f o → Always (need o why) (IsGrown f)
need_grown f None why h = tt
need_grown f (Some g) why h = h

-- ---- a page

page_by : (kind : Kind) (p : ℕ) (f : Filling) (o : Option ℕ) → ((b : ℕ) → o ≡ Some b → f.free b ≡ true) → IfFilled f (option_map (with_block kind p f) o)
page_by kind p f None free = tt
page_by kind p f (Some b) free = block_grown kind p b f (free b refl)

above : (pages : List Mapped) (k : ℕ) → 1 ≤ k → IsAbove (first_for pages k)
above [] k some = some
above (m ∷ pages) k some = tt

page_grown : (v : Volume) (k : ℕ) (kind : Kind) (p : ℕ) (f : Filling) → 1 ≤ k → IfFilled f (place_page v k kind p f)
page_grown v k kind p f some =
    page_by kind p f (page_place v f.free (block_before f.pages p) (first_for f.pages k)) (λ b. page_is_free v f.free (block_before f.pages p) (first_for f.pages k) b (above f.pages k some))

group_by : (count start : ℕ) (f : Filling) (o : Option ℕ) → ((b : ℕ) → o ≡ Some b → Passes f.free b count) → IfFilled f (option_map (with_run Reserved count start f) o)
group_by count start f None passes = tt
group_by count start f (Some b) passes = run_grown Reserved count start b f (passes b refl)

run_by : (v : Volume) (free : ℕ → Bool) (align count : ℕ) (t : Bool) (b : ℕ) → cond t (aligned_start v free align count) (run_start v free count) ≡ Some b → Passes free b count
run_by v free align count true b = aligned_passes v free align count b
run_by v free align count false b = start_passes v free count b

group_grown : (v : Volume) (a : ExtAttrs) (p : ℕ) (f : Filling) → IfFilled f (place_group v a p f)
group_grown v a p f =
    group_by (group_length a.fixed p) (group_start a.fixed p) f (run_for v a f.free (group_length a.fixed p)) (run_by v f.free a.fixed (group_length a.fixed p) (is_set 1 a))

one_by : (r : Request) (kind : Kind) (p : ℕ) (f : Filling) (t : Bool) → 1 ≤ r.first
    → Always (cond t (need (place_group r.volume r.attrs p f) (no.NoRun (group_length r.attrs.fixed p) r.longest)) (need (place_page r.volume r.first kind p f) (no.NoSpace r.need r.free))) (IsGrown f)
one_by r kind p f true some = need_grown f (place_group r.volume r.attrs p f) _ (group_grown r.volume r.attrs p f)
one_by r kind p f false some = need_grown f (place_page r.volume r.first kind p f) _ (page_grown r.volume r.first kind p f some)

missing_grown : (r : Request) (kind : Kind) (p : ℕ) (f : Filling) (o : Option (ℕ × Kind)) → 1 ≤ r.first → Always (place_missing r kind p f o) (IsGrown f)
missing_grown r kind p f None some = one_by r kind p f (takes_group r.attrs f.pages p) some
missing_grown r kind p f (Some m) some = same_grown f

write_grown : (r : Request) (p : ℕ) (f : Filling) → 1 ≤ r.first → Always (write_page r p f) (IsGrown f)
write_grown r p f some =
    then_always (place_missing r Data p f (mapped_at f.pages p)) (λ placed. Ok (with_data p placed)) (IsGrown f) (IsGrown f) (missing_grown r Data p f (mapped_at f.pages p) some)
    (λ x h. then_grown f x (with_data p x) h (data_grown p x))

each_grown : (r : Request) → 1 ≤ r.first → (k p : ℕ) (f : Filling) → Always (each_page (write_page r) k p f) (IsGrown f)
each_grown r some zero p f = same_grown f
each_grown r some (suc k) p f =
    then_always (write_page r p f) (each_page (write_page r) k (p + 1)) (IsGrown f) (IsGrown f) (write_grown r p f some)
    (λ x h. more_always (each_page (write_page r) k (p + 1) x) (IsGrown x) (IsGrown f) (each_grown r some k (p + 1) x) (λ y more. then_grown f x y h more))

-- ---- map blocks

maps_by : (v : Volume) (k : ℕ) (f : Filling) (o : Option ℕ) → ((g : Filling) → IfFilled g (place_maps v k g)) → ((b : ℕ) → o ≡ Some b → f.free b ≡ true) → IfFilled f (option_and_then (place_maps v k) (option_map (with_map f) o))
maps_by v k f None rest free = tt
maps_by v k f (Some b) rest free = onward (place_maps v k (with_map f b)) (rest (with_map f b))
  where
    onward : (o : Option Filling) → IfFilled (with_map f b) o → IfFilled f o
    onward None h = tt
    onward (Some g) h = then_grown f (with_map f b) g (map_grown b f (free b refl)) h

maps_grown : (v : Volume) (k : ℕ) (f : Filling) → IfFilled f (place_maps v k f)
maps_grown v zero f = same_grown f
maps_grown v (suc k) f = maps_by v k f (longest_run v f.free) (maps_grown v k) (longest_is_free v f.free)

chain_grown : (r : Request) (x : Space) (f : Filling) → Always (place_chain r x f) (IsGrown f)
chain_grown r x f = where_holds _ _ _ (IsGrown f) (need_grown f (place_maps r.volume (maps_needed (record x { present = f.pages }) - length f.maps) f) _ (maps_grown r.volume (maps_needed (record x { present = f.pages }) - length f.maps) f))

-- ---- a write

pub fill_grown : (r : Request) (x : Space) (from n : ℕ) (f : Filling) → 1 ≤ r.first → Always (place_fill r x from n f) (IsGrown f)
fill_grown r x from n f some =
    then_always (each_page (write_page r) n from f) (place_chain r x) (IsGrown f) (IsGrown f) (each_grown r some n from f)
    (λ g h. more_always (place_chain r x g) (IsGrown g) (IsGrown f) (chain_grown r x g) (λ y more. then_grown f g y h more))
