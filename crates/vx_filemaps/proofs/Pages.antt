-- Pages that are placed.
use Rattle.std.proofs.Common.{◌≡◌, ℕ, zero, suc, ◌+◌, ◌-◌, ◌≤◌, ◌<◌, Bool, true, false, ◌&&◌, List, [], ◌∷◌, Option, Some, None, Ok, Err, refl, sym, ap, ◌∙◌, arith, cond}
use Rattle.std.specs.Prelude.{not, nat_eq, nat_lt, ◌==◌, is_none, is_some}
use Rattle.std.specs.Option.{option_map, option_and_then}
use Rattle.std.proofs.lemmas.Bool.Decides.{nat_tests}
use Rattle.std.proofs.lemmas.Option.{same_Some}
use Rattle.vx_base.specs.declared.kind.Kind.{Kind}
use Rattle.vx_base.specs.declared.kind.Kind.TheVariants.{Data, Reserved}
use Rattle.vx_base.specs.declared.refusal.Refusal.{Refusal}
use Rattle.vx_base.specs.declared.refusal.Refusal.TheVariants as no
use Rattle.vx_layout.specs.Places.{Volume}
use Rattle.vx_alloc.specs.FreeMaps.{FreeMapView, is_free, with_bit, free_blocks, IsPlaced}
use Rattle.vx_extents.specs.Extents.{Mapped, ExtentMapView, mapped_at, with_page, extent_count}
use Rattle.vx_extents.specs.Uses.{used_pages}
use Rattle.vx_space.specs.Outcome.{Maybe, ◌>>=◌, need}
use Rattle.vx_space.specs.Placement.{page_place}
use Rattle.vx_space.specs.Placing.{Filling, Request, with_block, block_before, first_for, place_page, takes_group, is_empty_group, place_group, group_length, place_missing, with_data, write_page, each_page, place_maps, missing_in}
use Rattle.vx_space.specs.Leaving.{is_reserved}
use Rattle.vx_filemaps.specs.FileMaps.{volume_in, filling_in, IsFor, IsReady, IsPast, Begins, place_map}
use Rattle.vx_filemaps.proofs.Free.{taken_test}
use Rattle.vx_filemaps.proofs.Placing.{IsAbove, placed, none_placed}

-- ---- pages that hold data

-- a page that holds data stays as it is
pub data_stays : (p b : ℕ) (pages : List Mapped) → mapped_at pages p ≡ Some (b, Data) → used_pages p pages ≡ pages
data_stays p b [] at = refl
data_stays p b (m ∷ pages) at = step (m.page == p) at (data_stays p b pages)
  where
    step : (c : Bool) → cond c (Some (m.block, m.kind)) (mapped_at pages p) ≡ Some (b, Data) → (mapped_at pages p ≡ Some (b, Data) → used_pages p pages ≡ pages) → cond c (record m { kind = Data } ∷ pages) (m ∷ used_pages p pages) ≡ m ∷ pages
    step true at rest = let kind : Data ≡ m.kind = sym (ap (λ (x : ℕ × Kind). x.1) (same_Some (m.block, m.kind) (b, Data) at)) in ap (λ (k : Kind). record m { kind = k } ∷ pages) kind
    step false at rest = ap (λ (ms : List Mapped). m ∷ ms) (rest at)

-- a new page holds data already
pub new_used : (p b : ℕ) (pages : List Mapped) → used_pages p (with_page (record { page = p; block = b; kind = Data }) pages) ≡ with_page (record { page = p; block = b; kind = Data }) pages
new_used p b [] = let yes : nat_eq p p ≡ true = grind (arith, nat_tests) in rw yes refl
new_used p b (m ∷ pages) = step (nat_lt m.page p) refl (new_used p b pages)
  where
    step : (c : Bool) → nat_lt m.page p ≡ c → used_pages p (with_page (record { page = p; block = b; kind = Data }) pages) ≡ with_page (record { page = p; block = b; kind = Data }) pages
        → used_pages p (cond c (m ∷ with_page (record { page = p; block = b; kind = Data }) pages) (record { page = p; block = b; kind = Data } ∷ m ∷ pages)) ≡ cond c (m ∷ with_page (record { page = p; block = b; kind = Data }) pages) (record { page = p; block = b; kind = Data } ∷ m ∷ pages)
    step true is rest = let no : nat_eq m.page p ≡ false = grind (arith, nat_tests) in rw no (ap (λ (ms : List Mapped). m ∷ ms) rest)
    step false is rest = let yes : nat_eq p p ≡ true = grind (arith, nat_tests) in rw yes refl

-- ---- the first extent

pub above : (pages : List Mapped) (first : ℕ) → 1 ≤ first → IsAbove (first_for pages first)
above [] first some = some
above (m ∷ pages) first some = tt

pub first_is : (pages : List Mapped) (first : ℕ) → extent_count pages ≡ 0 → Some first ≡ first_for pages first
first_is [] first none = refl
first_is (m ∷ pages) first none = absurd (omega (arith, none))

pub first_is_none : (pages : List Mapped) (first : ℕ) → (extent_count pages ≡ 0 → ⊥) → None ≡ first_for pages first
first_is_none [] first some = absurd (some refl)
first_is_none (m ∷ pages) first some = refl

-- ---- one page

module _ (r : Request) (v : FreeMapView) (first p : ℕ) (pages : List Mapped) (maps : List ℕ) (is : IsFor r v first) where
  no_group : takes_group r.attrs pages p ≡ false
  no_group = ap (λ (n : ℕ). not (n == 0) && is_empty_group r.attrs.fixed pages p) is.plain

  missing_is : mapped_at pages p ≡ None → write_page r p (filling_in v pages maps) ≡ (need (place_page r.volume r.first Data p (filling_in v pages maps)) (no.NoSpace r.need r.free) >>= (λ (f : Filling). Ok (with_data p f)))
  missing_is absent =
      ap (λ (o : Option (ℕ × Kind)). place_missing r Data p (filling_in v pages maps) o >>= (λ (f : Filling). Ok (with_data p f))) absent
      ∙ ap (λ (c : Bool). cond c (need (place_group r.volume r.attrs p (filling_in v pages maps)) (no.NoRun (group_length r.attrs.fixed p) r.longest)) (need (place_page r.volume r.first Data p (filling_in v pages maps)) (no.NoSpace r.need r.free)) >>= (λ (f : Filling). Ok (with_data p f))) no_group

  place_is : (o : Option ℕ) → page_place r.volume (is_free v) (block_before pages p) (first_for pages first) ≡ o
      → place_page r.volume r.first Data p (filling_in v pages maps) ≡ option_map (with_block Data p (filling_in v pages maps)) o
  place_is o goes =
      ap (λ (n : ℕ). option_map (with_block Data p (filling_in v pages maps)) (page_place r.volume (is_free v) (block_before pages p) (first_for pages n))) is.begins
      ∙ ap (option_map (with_block Data p (filling_in v pages maps))) goes

  pub page_placed : (b : ℕ) → 1 ≤ first → IsReady v → mapped_at pages p ≡ None → IsPlaced v (block_before pages p) (first_for pages first) b → is_free v b ≡ true
      → write_page r p (filling_in v pages maps) ≡ Ok (filling_in (with_bit v b false) (with_page (record { page = p; block = b; kind = Data }) pages) maps)
  page_placed b some ready absent goes free =
      let at = placed v r.volume (is_free v) (λ _. refl) (sym (ap (λ (w : Volume). w.first) is.volume)) (sym (ap (λ (w : Volume). w.units) is.volume)) ready.per_unit (block_before pages p) (first_for pages first) b (above pages first some) goes in
      missing_is absent
      ∙ ap (λ (o : Option Filling). need o (no.NoSpace r.need r.free) >>= (λ (f : Filling). Ok (with_data p f))) (place_is (Some b) at)
      ∙ (λ i. Ok (record { free = sym (taken_test v b free) i; pages = new_used p b pages i; maps = maps }))

  pub page_refused : 1 ≤ first → IsReady v → mapped_at pages p ≡ None → free_blocks v ≡ 0 → write_page r p (filling_in v pages maps) ≡ Err (no.NoSpace r.need r.free)
  page_refused some ready absent none =
      let at = none_placed v r.volume (is_free v) (λ _. refl) (sym (ap (λ (w : Volume). w.first) is.volume)) (sym (ap (λ (w : Volume). w.units) is.volume)) ready.per_unit (block_before pages p) (first_for pages first) (above pages first some) none in
      missing_is absent
      ∙ ap (λ (o : Option Filling). need o (no.NoSpace r.need r.free) >>= (λ (f : Filling). Ok (with_data p f))) (place_is None at)

  pub page_used : (m : ℕ × Kind) → mapped_at pages p ≡ Some m → write_page r p (filling_in v pages maps) ≡ Ok (filling_in v (used_pages p pages) maps)
  page_used m there =
      ap (λ (o : Option (ℕ × Kind)). place_missing r Data p (filling_in v pages maps) o >>= (λ (f : Filling). Ok (with_data p f))) there

  pub page_kept : (b : ℕ) → mapped_at pages p ≡ Some (b, Data) → write_page r p (filling_in v pages maps) ≡ Ok (filling_in v pages maps)
  page_kept b there =
      ap (λ (o : Option (ℕ × Kind)). place_missing r Data p (filling_in v pages maps) o >>= (λ (f : Filling). Ok (with_data p f))) there
      ∙ ap (λ (ms : List Mapped). Ok (filling_in v ms maps)) (data_stays p b pages there)

-- ---- one page after the other

module _ (one : ℕ → Filling → Maybe Filling) where
  pub each_step : (n p q : ℕ) (f g : Filling) → one p f ≡ Ok g → p + 1 ≡ q → each_page one (suc n) p f ≡ each_page one n q g
  each_step n p q f g is next = ap (λ (x : Maybe Filling). x >>= each_page one n (p + 1)) is ∙ ap (λ (k : ℕ). each_page one n k g) next

  pub each_stops : (n p : ℕ) (f : Filling) (why : Refusal) → one p f ≡ Err why → each_page one (suc n) p f ≡ Err why
  each_stops n p f why is = ap (λ (x : Maybe Filling). x >>= each_page one n (p + 1)) is

pub not_reserved : (kind : Kind) → is_reserved kind ≡ false → kind ≡ Data
not_reserved Data is = refl
not_reserved Reserved is = absurd (cc)

pub for_later : (r : Request) (v w : FreeMapView) (first : ℕ) → volume_in w ≡ volume_in v → IsFor r v first → IsFor r w first
for_later r v w first same is = record { volume = is.volume ∙ sym same; plain = is.plain; begins = is.begins }

pub past_then : (m n k : ℕ) (a b c : ExtentMapView) → m + n ≤ k → IsPast m a b → IsPast n b c → IsPast k a c
past_then m n k a b c le first second = record {
  limit = second.limit ∙ first.limit;
  page_limit = second.page_limit ∙ first.page_limit;
  count = omega (arith, le, first.count, second.count);
  reserved = omega (arith, le, first.reserved, second.reserved);
}

-- ---- map blocks

module _ (v : Volume) (n : ℕ) (f : Filling) where
  pub maps_step : (g : Filling) → place_map v f ≡ Some g → place_maps v (suc n) f ≡ place_maps v n g
  maps_step g is = ap (option_and_then (place_maps v n)) is

  pub maps_stop : place_map v f ≡ None → place_maps v (suc n) f ≡ None
  maps_stop is = ap (option_and_then (place_maps v n)) is

pub begins_then : (a b c : List ℕ) → Begins a b → Begins b c → Begins a c
begins_then [] b c first second = refl
begins_then (x ∷ a) [] c first second = absurd (cc)
begins_then (x ∷ a) (y ∷ b) [] first second = absurd (cc)
begins_then (x ∷ a) (y ∷ b) (z ∷ c) first second =
    let f : Begins a b = cc in
    let s : Begins b c = cc in
    let rest = begins_then a b c f s in
    cc

-- ---- missing pages

pub missing_more : (pages : List Mapped) (from n i count : ℕ) → i < n → (missing_in pages (from + i) (n - i) ≡ (cond (is_none (mapped_at pages (from + i))) 1 0) + missing_in pages (from + (i + 1)) (n - (i + 1)))
missing_more pages from n i count lt =
    let left : n - i ≡ suc (n - (i + 1)) = omega arith in
    let next : from + i + 1 ≡ from + (i + 1) = omega arith in
    ap (missing_in pages (from + i)) left ∙ ap (λ (q : ℕ). (cond (is_none (mapped_at pages (from + i))) 1 0) + missing_in pages q (n - (i + 1))) next

pub none_of : {X : Type 0} (o : Option X) (b : Bool) → not b ≡ is_some o → is_none o ≡ b
none_of None true is = refl
none_of None false is = absurd (cc)
none_of (Some x) true is = absurd (cc)
none_of (Some x) false is = refl

pub missing_most : (pages : List Mapped) (n from : ℕ) → missing_in pages from n ≤ n
missing_most pages zero from = omega arith
missing_most pages (suc n) from = step (is_none (mapped_at pages from)) (missing_most pages n (from + 1))
  where
    step : (c : Bool) → missing_in pages (from + 1) n ≤ n → cond c 1 0 + missing_in pages (from + 1) n ≤ suc n
    step true rest = omega (arith, rest)
    step false rest = omega (arith, rest)
