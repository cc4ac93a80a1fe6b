-- What a write makes of a file's pages and map blocks.
use Rattle.std.proofs.Common.{◌≡◌, ◌≢◌, ℕ, zero, suc, ◌+◌, ◌-◌, ◌*◌, ◌<◌, ◌≤◌, Bool, true, false, not, cond, List, [], ◌∷◌, ◌++◌, length, Option, Some, None, Ok, refl, sym, ap, ◌∙◌, subst, arith, append_assoc}
use Rattle.std.specs.Prelude.{◌==◌, ◌&&◌, nat_le, nat_lt, IfSome}
use Rattle.std.specs.List.{AllByRecursion, list_any}
use Rattle.std.specs.Option.{option_map, option_and_then}
use Rattle.std.proofs.lemmas.Bool.{ne_eqb, le-leb, lt-ltb, and_parts, or_parts, true≢false}
use Rattle.std.proofs.lemmas.List.{append-nil}
use Rattle.std.proofs.Math.Nat.{mul-div-le}
use Rattle.vx_base.specs.declared.kind.Kind.{Kind}
use Rattle.vx_base.specs.declared.kind.Kind.TheVariants.{Data, Reserved}
use Rattle.vx_base.specs.declared.refusal.Refusal.{Refusal}
use Rattle.vx_base.specs.declared.refusal.Refusal.TheVariants as no
use Rattle.vx_layout.specs.Places.{Volume}
use Rattle.vx_extents.specs.Extents.{Mapped, mapped_at, with_page}
use Rattle.vx_extents.specs.Uses.{used_pages}
use Rattle.vx_space.specs.Outcome.{need}
use Rattle.vx_space.specs.Placement.{page_place, longest_run}
use Rattle.vx_space.specs.Space.{Space, extents_in, maps_needed, most_extents, most_pages}
use Rattle.vx_space.specs.Placing.{Filling, Request, block_before, first_for, with_block, place_page, with_run, group_start, group_length, is_within, is_empty_group, takes_group, run_for, place_group, with_data, place_missing, write_page, each_page, with_map, place_maps, place_chain, place_fill}
use Rattle.vx_space.specs.Laws.{AreRising, IsPart}
use Rattle.vx_model.specs.LaidOut.{BeginsBelow}
use Rattle.vx_model.proofs.Chains.{Always, then_always, always_ok, bind_ok, unless_ok, need_ok}
use Rattle.vx_model.proofs.Pages.{rising_with, part_with, all_with, rising_used, part_used, all_used}

-- ---- pages one by one

-- the pages rise, those on the device are among them, and each that holds data begins below the size
pub record IsFilling (settled : List Mapped) (size : ℕ) (pages : List Mapped) : Type 0 where
  pub rises : AreRising 0 pages
  pub part : IsPart settled pages
  pub below : AllByRecursion (BeginsBelow size) pages

module _ (settled : List Mapped) (size : ℕ) where
  added : (m : Mapped) (pages : List Mapped) → m.page < most_pages → mapped_at pages m.page ≡ None → BeginsBelow size m → IsFilling settled size pages → IsFilling settled size (with_page m pages)
  added m pages high absent begins is = record {
    rises = rising_with m 0 pages (omega arith) high absent is.rises;
    part = part_with m settled pages is.part;
    below = all_with m (BeginsBelow size) pages begins is.below;
  }

  used : (p : ℕ) (pages : List Mapped) → 1024 * p < size → IsFilling settled size pages → IsFilling settled size (used_pages p pages)
  used p pages lt is = record {
    rises = rising_used p 0 pages is.rises;
    part = part_used p settled pages is.part;
    below = all_used p (BeginsBelow size) (λ m e k. (let at : m.page ≡ p = e in omega (arith, at, lt))) pages is.below;
  }

-- ---- a page that has no block

other_by : (m n : Mapped) (ms : List Mapped) (q : ℕ) (t : Bool) → q ≢ m.page → mapped_at (with_page m ms) q ≡ mapped_at ms q
    → mapped_at (cond t (n ∷ with_page m ms) (m ∷ n ∷ ms)) q ≡ cond (n.page == q) (Some (n.block, n.kind)) (mapped_at ms q)
other_by m n ms q true ne h = ap (cond (n.page == q) (Some (n.block, n.kind))) h
other_by m n ms q false ne h = ap (λ t. cond t (Some (m.block, m.kind)) (cond (n.page == q) (Some (n.block, n.kind)) (mapped_at ms q))) (ne_eqb m.page q (λ e. ne (sym e)))

with_other : (m : Mapped) (ms : List Mapped) (q : ℕ) → q ≢ m.page → mapped_at (with_page m ms) q ≡ mapped_at ms q
with_other m [] q ne = ap (λ t. cond t (Some (m.block, m.kind)) None) (ne_eqb m.page q (λ e. ne (sym e)))
with_other m (n ∷ ms) q ne = other_by m n ms q (nat_lt n.page m.page) ne (with_other m ms q ne)

none_passes : (test : ℕ → Bool) (q : ℕ) → test q ≡ true → (ms : List Mapped) → list_any (λ (m : Mapped). test m.page) ms ≡ false → mapped_at ms q ≡ None
none_passes test q passes [] none = refl
none_passes test q passes (m ∷ ms) none =
    let two = or_parts (test m.page) (list_any (λ (m : Mapped). test m.page) ms) none in
    ap (λ t. cond t (Some (m.block, m.kind)) (mapped_at ms q)) (ne_eqb m.page q (λ e. true≢false (sym passes ∙ sym (ap test e) ∙ two.0))) ∙ none_passes test q passes ms two.1

-- ---- what each step makes

if_placed : {A : Type 0} (o : Option A) (why : Refusal) (P : A → Type 0) → IfSome o P → Always (need o why) P
if_placed None why P h = tt
if_placed (Some x) why P h = h

if_mapped : {A B : Type 0} (f : A → B) (o : Option A) (P : B → Type 0) → ((x : A) → P (f x)) → IfSome (option_map f o) P
if_mapped f None P h = tt
if_mapped f (Some x) P h = h x

module _ (settled : List Mapped) (size : ℕ) where
  abbrev IsGood : Filling → Type 0
  IsGood f = IsFilling settled size f.pages

  runs : (n p : ℕ) (f : Filling) (b : ℕ) → p + n ≤ most_pages → ((q : ℕ) → p ≤ q → q < p + n → mapped_at f.pages q ≡ None) → IsGood f → IsGood (with_run Reserved n p f b)
  runs zero p f b high absent is = is
  runs (suc n) p f b high absent is =
      let m : Mapped = record { page = p; block = b; kind = Reserved } in
      runs n (p + 1) (with_block Reserved p f b) (b + 1) (omega (arith, high))
      (λ q low lt. with_other m f.pages q (λ e. absurd (omega (arith, e, low))) ∙ absent q (omega (arith, low)) (omega (arith, lt)))
      (added settled size m f.pages (omega (arith, high)) (absent p (omega arith) (omega arith)) (λ e. absurd (reserved_data e)) is)
    where
      reserved_data : Reserved ≡ Data → ⊥
      reserved_data e = cc

  not_false : (t : Bool) → not t ≡ true → t ≡ false
  not_false true h = absurd cc
  not_false false h = refl

  within_is : (from n q : ℕ) → from ≤ q → q < from + n → is_within from n q ≡ true
  within_is from n q low high = ap (λ t. t && nat_lt q (from + n)) (le-leb from q low) ∙ lt-ltb q (from + n) high

  module _ (r : Request) (p : ℕ) (low : 1024 * p < size) (high : p < most_pages) (f : Filling) (is : IsGood f) where
    group_good : takes_group r.attrs f.pages p ≡ true → (b : ℕ) → IsGood (with_run Reserved (group_length r.attrs.fixed p) (group_start r.attrs.fixed p) f b)
    group_good takes b =
        let two = and_parts (not (r.attrs.fixed == 0)) (is_empty_group r.attrs.fixed f.pages p) takes in
        let start : ℕ = group_start r.attrs.fixed p in
        let count : ℕ = group_length r.attrs.fixed p in
        let below : start ≤ p = mul-div-le p r.attrs.fixed in
        runs count start f b (omega (arith, below, high))
        (λ q from to. none_passes (is_within start count) q (within_is start count q from to) f.pages (not_false _ two.1)) is

    one_good : mapped_at f.pages p ≡ None → (t : Bool) → takes_group r.attrs f.pages p ≡ t
        → Always (cond t (need (place_group r.volume r.attrs p f) (no.NoRun (group_length r.attrs.fixed p) r.longest)) (need (place_page r.volume r.first Data p f) (no.NoSpace r.need r.free))) IsGood
    one_good absent true takes =
        if_placed (place_group r.volume r.attrs p f) _ IsGood (if_mapped (with_run Reserved (group_length r.attrs.fixed p) (group_start r.attrs.fixed p) f) (run_for r.volume r.attrs f.free (group_length r.attrs.fixed p)) IsGood (group_good takes))
    one_good absent false single =
        if_placed (place_page r.volume r.first Data p f) _ IsGood (if_mapped (with_block Data p f) (page_place r.volume f.free (block_before f.pages p) (first_for f.pages r.first)) IsGood
        (λ b. added settled size (record { page = p; block = b; kind = Data }) f.pages high absent (λ e. low) is))

    missing_good : (o : Option (ℕ × Kind)) → mapped_at f.pages p ≡ o → Always (place_missing r Data p f o) IsGood
    missing_good None absent = one_good absent (takes_group r.attrs f.pages p) refl
    missing_good (Some m) there = is

    written_good : Always (write_page r p f) IsGood
    written_good =
        then_always (place_missing r Data p f (mapped_at f.pages p)) (λ placed. Ok (with_data p placed)) IsGood IsGood (missing_good (mapped_at f.pages p) refl)
        (λ g good. used settled size p g.pages low good)

  pub each_good : (r : Request) (n from : ℕ) → ((p : ℕ) → from ≤ p → p < from + n → (1024 * p < size) × (p < most_pages)) → (f : Filling) → IsGood f → Always (each_page (write_page r) n from f) IsGood
  each_good r zero from range f is = is
  each_good r (suc n) from range f is =
      let here = range from (omega arith) (omega arith) in
      then_always (write_page r from f) (each_page (write_page r) n (from + 1)) IsGood IsGood (written_good r from here.0 here.1 f is)
      (λ g good. each_good r n (from + 1) (λ p low high. range p (omega (arith, low)) (omega (arith, high))) g good)

-- ---- pages leave the map blocks

abbrev HasMapsOf : Filling → Filling → Type 0
HasMapsOf f g = g.maps ≡ f.maps

run_maps : (kind : Kind) (n p : ℕ) (f : Filling) (b : ℕ) → HasMapsOf f (with_run kind n p f b)
run_maps kind zero p f b = refl
run_maps kind (suc n) p f b = run_maps kind n (p + 1) (with_block kind p f b) (b + 1)

module _ (r : Request) (p : ℕ) (f : Filling) where
  one_maps : (t : Bool) → Always (cond t (need (place_group r.volume r.attrs p f) (no.NoRun (group_length r.attrs.fixed p) r.longest)) (need (place_page r.volume r.first Data p f) (no.NoSpace r.need r.free))) (HasMapsOf f)
  one_maps true =
      if_placed (place_group r.volume r.attrs p f) _ (HasMapsOf f) (if_mapped (with_run Reserved (group_length r.attrs.fixed p) (group_start r.attrs.fixed p) f) (run_for r.volume r.attrs f.free (group_length r.attrs.fixed p)) (HasMapsOf f)
      (run_maps Reserved (group_length r.attrs.fixed p) (group_start r.attrs.fixed p) f))
  one_maps false =
      if_placed (place_page r.volume r.first Data p f) _ (HasMapsOf f) (if_mapped (with_block Data p f) (page_place r.volume f.free (block_before f.pages p) (first_for f.pages r.first)) (HasMapsOf f) (λ b. refl))

  missing_maps : (o : Option (ℕ × Kind)) → Always (place_missing r Data p f o) (HasMapsOf f)
  missing_maps None = one_maps (takes_group r.attrs f.pages p)
  missing_maps (Some m) = refl

  written_maps : Always (write_page r p f) (HasMapsOf f)
  written_maps = then_always (place_missing r Data p f (mapped_at f.pages p)) (λ placed. Ok (with_data p placed)) (HasMapsOf f) (HasMapsOf f) (missing_maps (mapped_at f.pages p)) (λ g same. same)

each_maps : (r : Request) (n from : ℕ) (f g : Filling) → HasMapsOf f g → Always (each_page (write_page r) n from g) (HasMapsOf f)
each_maps r zero from f g same = same
each_maps r (suc n) from f g same =
    then_always (write_page r from g) (each_page (write_page r) n (from + 1)) (HasMapsOf g) (HasMapsOf f) (written_maps r from g) (λ h next. each_maps r n (from + 1) f h (next ∙ same))

-- ---- map blocks

-- so many map blocks more, behind the others, and the same pages
pub record IsLonger (k : ℕ) (f g : Filling) : Type 0 where
  pub pages : g.pages ≡ f.pages
  pub more : List ℕ
  pub maps : g.maps ≡ f.maps ++ more
  pub count : length more ≡ k

abbrev IfLonger : ℕ → Filling → Option Filling → Type 0
IfLonger k f None = Unit {0}
IfLonger k f (Some g) = IsLonger k f g

longer_on : (k : ℕ) (f : Filling) (b : ℕ) (o : Option Filling) → IfLonger k (with_map f b) o → IfLonger (suc k) f o
longer_on k f b None h = tt
longer_on k f b (Some g) h = record {
  pages = h.pages;
  more = b ∷ h.more;
  maps = h.maps ∙ append_assoc f.maps (b ∷ []) h.more;
  count = (let count = h.count in omega (arith, count));
}

longer_by : (v : Volume) (k : ℕ) (f : Filling) (o : Option ℕ) → ((g : Filling) → IfLonger k g (place_maps v k g)) → IfLonger (suc k) f (option_and_then (place_maps v k) (option_map (with_map f) o))
longer_by v k f None rest = tt
longer_by v k f (Some b) rest = longer_on k f b (place_maps v k (with_map f b)) (rest (with_map f b))

maps_longer : (v : Volume) (k : ℕ) (f : Filling) → IfLonger k f (place_maps v k f)
maps_longer v zero f = record { pages = refl; more = []; maps = sym (append-nil f.maps); count = refl }
maps_longer v (suc k) f = longer_by v k f (longest_run v f.free) (λ g. maps_longer v k g)

pub chain_longer : (r : Request) (x : Space) (f g : Filling) → place_chain r x f ≡ Ok g → IsLonger (maps_needed (record x { present = f.pages }) - length f.maps) f g
chain_longer r x f g is =
    let y : Space = record x { present = f.pages } in
    let k : ℕ = maps_needed y - length f.maps in
    let fits = unless_ok (nat_le (extents_in y) most_extents) _ _ g is in
    let placed : place_maps r.volume k f ≡ Some g = need_ok (place_maps r.volume k f) _ g fits.1 in
    subst (IfLonger k f) placed (maps_longer r.volume k f)

-- ---- the whole

-- map blocks come behind those that were there, as many as are missing
pub record HasMoreMaps (x : Space) (f g : Filling) : Type 0 where
  pub more : List ℕ
  pub maps : g.maps ≡ f.maps ++ more
  pub count : length more ≡ maps_needed (record x { present = g.pages }) - length f.maps

pub fill_longer : (r : Request) (x : Space) (from n : ℕ) (f g : Filling) → place_fill r x from n f ≡ Ok g → HasMoreMaps x f g
fill_longer r x from n f g h =
    let placed = bind_ok (each_page (write_page r) n from f) (place_chain r x) g h in
    let same = always_ok (each_page (write_page r) n from f) (HasMapsOf f) placed.0 (each_maps r n from f f refl) placed.1 in
    let longer = chain_longer r x placed.0 g placed.2 in
    record {
      more = longer.more;
      maps = longer.maps ∙ ap (λ (ms : List ℕ). ms ++ longer.more) same;
      count = longer.count ∙ ap (λ (ms : List ℕ). maps_needed (record x { present = placed.0.pages }) - length ms) same ∙ ap (λ (ms : List Mapped). maps_needed (record x { present = ms }) - length f.maps) (sym longer.pages);
    }

pub fill_good : (r : Request) (x : Space) (size from n : ℕ) (f g : Filling) → ((p : ℕ) → from ≤ p → p < from + n → (1024 * p < size) × (p < most_pages)) → IsFilling x.settled size f.pages → place_fill r x from n f ≡ Ok g
    → IsFilling x.settled size g.pages
fill_good r x size from n f g range is h =
    let placed = bind_ok (each_page (write_page r) n from f) (place_chain r x) g h in
    let good = always_ok (each_page (write_page r) n from f) (λ (p : Filling). IsFilling x.settled size p.pages) placed.0 (each_good x.settled size r n from range f is) placed.1 in
    subst (IsFilling x.settled size) (sym (chain_longer r x placed.0 g placed.2).pages) good
