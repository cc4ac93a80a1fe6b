-- What a directory gets with its next block: a page behind the others, and the map blocks that its pages need more.
use Rattle.std.proofs.Common.{◌≡◌, ℕ, zero, suc, ◌+◌, ◌-◌, ◌<◌, ◌≤◌, Bool, true, false, not, cond, List, [], ◌∷◌, ◌++◌, length, Option, Some, None, Ok, refl, sym, ◌∙◌, ap, subst, arith}
use Rattle.std.specs.Prelude.{◌==◌, ◌&&◌, nat_le, nat_lt}
use Rattle.std.specs.Int.{div_ceil}
use Rattle.std.specs.Option.{option_map, option_and_then, unwrap_or}
use Rattle.std.proofs.lemmas.Bool.{eq-eqb, ne_eqb, lt-ltb, leb-true, leb-false}
use Rattle.std.proofs.lemmas.List.{append-nil, append_assoc}
use Rattle.std.proofs.lemmas.Option.{same_Some, none-some}
use Rattle.vx_base.specs.declared.inode.Extent.{Extent}
use Rattle.vx_base.specs.declared.kind.Kind.{Kind}
use Rattle.vx_base.specs.declared.kind.Kind.TheVariants.{Data}
use Rattle.vx_base.specs.declared.inode.DirEntry.{DirEntry}
use Rattle.vx_base.specs.declared.refusal.Refusal.TheVariants as no
use Rattle.vx_layout.specs.Places.{Volume}
use Rattle.vx_extents.specs.Extents.{Mapped, mapped_at, with_page, follows, extent_from, extents_after, extent_count}
use Rattle.vx_extents.specs.Uses.{used_pages}
use Rattle.vx_space.specs.Outcome.{Maybe, need}
use Rattle.vx_space.specs.Placement.{page_place, longest_run}
use Rattle.vx_space.specs.Space.{Space, no_space, page_blocks, extents_in, maps_needed, maps_for, most_extents}
use Rattle.vx_space.specs.Placing.{Filling, Request, block_of, block_before, first_for, with_block, place_page, is_empty_group, takes_group, place_group, group_length, with_data, place_missing, write_page, each_page, with_map, place_maps, place_chain}
use Rattle.vx_model.specs.Layout.{DirectoryBlock, Layout, blocks_at, maps_at, block_numbers, pages_from, directory_filling, directory_request, next_block, block_of_page}
use Rattle.vx_model.proofs.Chains.{bind_ok, unless_ok, need_ok}

-- ---- a directory's pages

pub page_numbers : (p : ℕ) (ds : List DirectoryBlock) → page_blocks (pages_from p ds) ≡ block_numbers ds
page_numbers p [] = refl
page_numbers p (d ∷ ds) = ap (λ (ns : List ℕ). d.block ∷ ns) (page_numbers (p + 1) ds)

absent : (q p : ℕ) (ds : List DirectoryBlock) → p + length ds ≤ q → mapped_at (pages_from p ds) q ≡ None
absent q p [] past = refl
absent q p (d ∷ ds) past =
    let other : (p == q) ≡ false = ne_eqb p q (λ e. absurd (omega (arith, e, past))) in
    ap (λ t. cond t (Some (d.block, Data)) (mapped_at (pages_from (p + 1) ds) q)) other ∙ absent q (p + 1) ds (omega (arith, past))

abbrev pub and_last : List DirectoryBlock → DirectoryBlock → List DirectoryBlock
and_last ds d = ds ++ d ∷ []

pushed : (q b p : ℕ) (es : List DirEntry) (ds : List DirectoryBlock) → q ≡ p + length ds
    → with_page (record { page = q; block = b; kind = Data }) (pages_from p ds) ≡ pages_from p (and_last ds (record { block = b; entries = es }))
pushed q b p es [] at = let same : q ≡ p = omega (arith, at) in ap (λ (x : ℕ). record { page = x; block = b; kind = Data } ∷ []) same
pushed q b p es (d ∷ ds) at =
    let m : Mapped = record { page = q; block = b; kind = Data } in
    let n : Mapped = record { page = p; block = d.block; kind = Data } in
    let low : nat_lt p q ≡ true = lt-ltb p q (omega (arith, at)) in
    ap (λ t. cond t (n ∷ with_page m (pages_from (p + 1) ds)) (m ∷ n ∷ pages_from (p + 1) ds)) low ∙ ap (λ (ms : List Mapped). n ∷ ms) (pushed q b (p + 1) es ds (omega (arith, at)))

used_by : (t : Bool) (m : Mapped) (ms : List Mapped) (q : ℕ) → m.kind ≡ Data → used_pages q ms ≡ ms → cond t (record m { kind = Data } ∷ ms) (m ∷ used_pages q ms) ≡ m ∷ ms
used_by true m ms q data_kind rest = ap (λ (k : Kind). record m { kind = k } ∷ ms) (sym data_kind)
used_by false m ms q data_kind rest = ap (λ (xs : List Mapped). m ∷ xs) rest

used_same : (q p : ℕ) (ds : List DirectoryBlock) → used_pages q (pages_from p ds) ≡ pages_from p ds
used_same q p [] = refl
used_same q p (d ∷ ds) = used_by (p == q) (record { page = p; block = d.block; kind = Data }) (pages_from (p + 1) ds) q refl (used_same q (p + 1) ds)

last_page : (q p : ℕ) (ds : List DirectoryBlock) (d : DirectoryBlock) → q ≡ p + length ds → mapped_at (pages_from p (and_last ds d)) q ≡ Some (d.block, Data)
last_page q p [] d at = let same : p ≡ q = omega (arith, at) in ap (λ t. cond t (Some (d.block, Data)) None) (eq-eqb p q same)
last_page q p (x ∷ ds) d at =
    let other : (p == q) ≡ false = ne_eqb p q (λ e. absurd (omega (arith, e, at))) in
    ap (λ t. cond t (Some (x.block, Data)) (mapped_at (pages_from (p + 1) (and_last ds d)) q)) other ∙ last_page q (p + 1) ds d (omega (arith, at))

-- ---- no fewer map blocks with a page more

after_by : (t : Bool) (xs ys : List Extent) (x y : Extent) → length xs ≤ length ys → length (cond t xs (x ∷ xs)) ≤ length (cond t ys (y ∷ ys))
after_by true xs ys x y le = le
after_by false xs ys x y le = omega (arith, le)

after_more : (m : Mapped) (p : ℕ) (ds more : List DirectoryBlock) → length (extents_after m (pages_from p ds)) ≤ length (extents_after m (pages_from p (ds ++ more)))
after_more m p [] more = omega arith
after_more m p (d ∷ ds) more =
    let n : Mapped = record { page = p; block = d.block; kind = Data } in
    after_by (follows m n) (extents_after n (pages_from (p + 1) ds)) (extents_after n (pages_from (p + 1) (ds ++ more))) (extent_from n (pages_from (p + 1) ds)) (extent_from n (pages_from (p + 1) (ds ++ more)))
    (after_more n (p + 1) ds more)

count_more : (p : ℕ) (ds more : List DirectoryBlock) → extent_count (pages_from p ds) ≤ extent_count (pages_from p (ds ++ more))
count_more p [] more = omega arith
count_more p (d ∷ ds) more = let rest = after_more (record { page = p; block = d.block; kind = Data }) (p + 1) ds more in omega (arith, rest)

chain_by : (a b : ℕ) (t u : Bool) → nat_le a 6 ≡ t → nat_le b 6 ≡ u → a ≤ b → cond t 0 (div_ceil (a - 6) 63) ≤ cond u 0 (div_ceil (b - 6) 63)
chain_by a b true u low high le = omega arith
chain_by a b false true low high le = let x : 6 < a = leb-false a 6 low in let y : b ≤ 6 = leb-true b 6 high in absurd (omega (arith, x, y, le))
chain_by a b false false low high le = omega (arith, le)

pub maps_more : (p : ℕ) (ds more : List DirectoryBlock) → maps_for (pages_from p ds) ≤ maps_for (pages_from p (ds ++ more))
maps_more p ds more = chain_by (extent_count (pages_from p ds)) (extent_count (pages_from p (ds ++ more))) _ _ refl refl (count_more p ds more)

-- ---- so many map blocks more, and the same pages

pub record IsLonger (k : ℕ) (f g : Filling) : Type 0 where
  pub pages : g.pages ≡ f.pages
  pub more : List ℕ
  pub maps : g.maps ≡ f.maps ++ more
  pub count : length more ≡ k

abbrev IfLonger : ℕ → Filling → Option Filling → Type 0
IfLonger k f None = Unit {0}
IfLonger k f (Some g) = IsLonger k f g

longer_on : (k : ℕ) (f : Filling) (b : ℕ) (o : Option Filling) → IfLonger k (with_map f b) o → IfLonger (suc k) f o
longer_on k f b None h = tt
longer_on k f b (Some g) h = record {
  pages = h.pages;
  more = b ∷ h.more;
  maps = h.maps ∙ append_assoc f.maps (b ∷ []) h.more;
  count = (let count = h.count in omega (arith, count));
}

longer_by : (v : Volume) (k : ℕ) (f : Filling) (o : Option ℕ) → ((g : Filling) → IfLonger k g (place_maps v k g)) → IfLonger (suc k) f (option_and_then (place_maps v k) (option_map (with_map f) o))
longer_by v k f None rest = tt
longer_by v k f (Some b) rest = longer_on k f b (place_maps v k (with_map f b)) (rest (with_map f b))

maps_longer : (v : Volume) (k : ℕ) (f : Filling) → IfLonger k f (place_maps v k f)
maps_longer v zero f = record { pages = refl; more = []; maps = sym (append-nil f.maps); count = refl }
maps_longer v (suc k) f = longer_by v k f (longest_run v f.free) (λ g. maps_longer v k g)

chain_longer : (r : Request) (f g : Filling) → place_chain r no_space f ≡ Ok g → IsLonger (maps_for f.pages - length f.maps) f g
chain_longer r f g is =
    let y : Space = record no_space { present = f.pages } in
    let k : ℕ = maps_needed y - length f.maps in
    let fits = unless_ok (nat_le (extents_in y) most_extents) _ _ g is in
    let placed : place_maps r.volume k f ≡ Some g = need_ok (place_maps r.volume k f) _ g fits.1 in
    let same : maps_needed y ≡ maps_for f.pages = omega arith in
    subst (λ (n : ℕ). IsLonger (n - length f.maps) f g) same (subst (IfLonger k f) placed (maps_longer r.volume k f))

-- ---- one page more

same_ok : (x y : Filling) → ◌≡◌ {A = Maybe Filling} (Ok x) (Ok y) → x ≡ y
same_ok x y e = cc

-- a page without a block gets one
record IsPlaced (p : ℕ) (f g : Filling) : Type 0 where
  block : ℕ
  pages : g.pages ≡ used_pages p (with_page (record { page = p; block = block; kind = Data }) f.pages)
  maps : g.maps ≡ f.maps

module _ (r : Request) (plain : r.attrs.fixed ≡ 0) (p : ℕ) (f g : Filling) where
  by_place : (o : Option ℕ) (placed : Filling) → option_map (with_block Data p f) o ≡ Some placed → with_data p placed ≡ g → IsPlaced p f g
  by_place None placed none done = absurd (none-some placed none)
  by_place (Some b) placed some done =
      let is : g ≡ with_data p (with_block Data p f b) = sym done ∙ ap (with_data p) (sym (same_Some (with_block Data p f b) placed some)) in
      record { block = b; pages = ap (λ (x : Filling). x.pages) is; maps = ap (λ (x : Filling). x.maps) is }

  written : mapped_at f.pages p ≡ None → write_page r p f ≡ Ok g → IsPlaced p f g
  written none is =
      let two = bind_ok (place_missing r Data p f (mapped_at f.pages p)) (λ x. Ok (with_data p x)) g is in
      let no_group : takes_group r.attrs f.pages p ≡ false = ap (λ (n : ℕ). not (n == 0) && is_empty_group r.attrs.fixed f.pages p) plain in
      let page : need (place_page r.volume r.first Data p f) (no.NoSpace r.need r.free) ≡ Ok two.0 =
      sym (ap (λ (t : Bool). cond t (need (place_group r.volume r.attrs p f) (no.NoRun (group_length r.attrs.fixed p) r.longest)) (need (place_page r.volume r.first Data p f) (no.NoSpace r.need r.free))) no_group)
      ∙ sym (ap (place_missing r Data p f) none) ∙ two.1 in
      by_place (page_place r.volume f.free (block_before f.pages p) (first_for f.pages r.first)) two.0 (need_ok (place_page r.volume r.first Data p f) _ two.0 page) (same_ok (with_data p two.0) g two.2)

-- ---- a directory's next block

pub record IsNext (l : Layout) (at : ℕ) (g : Filling) : Type 0 where
  pub block : ℕ
  pub pages : (es : List DirEntry) → g.pages ≡ pages_from 0 (and_last (blocks_at l at) (record { block = block; entries = es }))
  pub found : block_of_page g.pages (length (blocks_at l at)) ≡ block
  pub more : List ℕ
  pub maps : g.maps ≡ maps_at l at ++ more
  pub count : length more ≡ maps_for g.pages - length (maps_at l at)

pub next_is : (l : Layout) (first at : ℕ) (g : Filling) → next_block l first at ≡ Ok g → IsNext l at g
unfolding next_block
next_is l first at g is =
    let ds : List DirectoryBlock = blocks_at l at in
    let r : Request = directory_request l first in
    let f : Filling = directory_filling l at in
    let two = bind_ok (each_page (write_page r) 1 (length ds) f) (place_chain r no_space) g is in
    let one = bind_ok (write_page r (length ds) f) (each_page (write_page r) 0 (length ds + 1)) two.0 two.1 in
    let page = written r refl (length ds) f one.0 (absent (length ds) 0 ds (omega arith)) one.1 in
    let same : one.0 ≡ two.0 = same_ok one.0 two.0 one.2 in
    let longer = chain_longer r two.0 g two.2 in
    let pages : (es : List DirEntry) → g.pages ≡ pages_from 0 (and_last ds (record { block = page.block; entries = es })) = λ es.
    longer.pages ∙ ap (λ (x : Filling). x.pages) (sym same) ∙ page.pages ∙ ap (used_pages (length ds)) (pushed (length ds) page.block 0 es ds (omega arith))
    ∙ used_same (length ds) 0 (and_last ds (record { block = page.block; entries = es })) in
    let maps : two.0.maps ≡ maps_at l at = ap (λ (x : Filling). x.maps) (sym same) ∙ page.maps in
    record {
      block = page.block;
      pages = pages;
      found = ap (λ (ms : List Mapped). block_of_page ms (length ds)) (pages []) ∙ ap (λ (o : Option (ℕ × Kind)). unwrap_or (block_of o) 0) (last_page (length ds) 0 ds (record { block = page.block; entries = [] }) (omega arith));
      more = longer.more;
      maps = longer.maps ∙ ap (λ (ms : List ℕ). ms ++ longer.more) maps;
      count = longer.count ∙ ap (λ (ms : List Mapped). maps_for ms - length two.0.maps) (sym longer.pages) ∙ ap (λ (ms : List ℕ). maps_for g.pages - length ms) maps;
    }
