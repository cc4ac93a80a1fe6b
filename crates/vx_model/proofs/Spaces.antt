-- What a file has, after each change.
use Rattle.std.proofs.Common.{◌≡◌, ◌⊎◌, ℕ, ◌+◌, ◌*◌, ◌<◌, ◌≤◌, Bool, true, false, not, cond, List, [], ◌∷◌, ◌++◌, length, take, Some, Ok, inl, inr, refl, sym, ap, ◌∙◌, subst, arith, length-append}
use Rattle.std.specs.Prelude.{◌==◌, ◌&&◌, nat_le, min, max}
use Rattle.std.specs.List.{AllByRecursion}
use Rattle.std.proofs.lemmas.Bool.{eq-eqb, ne_eqb, eqb-true, le-leb, leb-true, leb-false, true≢false}
use Rattle.std.proofs.lemmas.List.{length-take}
use Rattle.std.proofs.lemmas.Option.{same_Some, none-some}
use Rattle.vx_base.specs.declared.kind.Kind.{Kind}
use Rattle.vx_base.specs.declared.kind.Kind.TheVariants.{Data, Reserved}
use Rattle.vx_extents.specs.Extents.{Mapped, mapped_at, follows, same_kind, extent_count}
use Rattle.vx_extents.specs.Uses.{is_data_kind, data_pages}
use Rattle.vx_space.specs.Space.{Space, maps_needed, most_pages}
use Rattle.vx_space.specs.Placing.{Filling, Request, place_fill}
use Rattle.vx_space.specs.Leaving.{is_reserved, is_reserved_by, is_reserved_page, reserved_from, lasts, lasting, pages_but, space_but, cut_space, settled_space, kept_maps}
use Rattle.vx_space.specs.Laws.{AreRising, IsPart, HasMaps, CloseLaws, SettleLaws}
use Rattle.vx_model.specs.Tree.{File}
use Rattle.vx_model.specs.LaidOut.{BeginsBelow, IsSpaceOf, is_unreserved, most_bytes}
use Rattle.vx_model.specs.Opened.{pages_of, with_reserve}
use Rattle.vx_model.specs.Bytes.{overwritten, first_page, page_count, cut_file}
use Rattle.vx_model.proofs.Contents.{overwritten_long}
use Rattle.vx_model.proofs.Filling.{IsFilling, HasMoreMaps, fill_good}
use Rattle.vx_model.proofs.Pages.{rising_filter, all_filter, all_passing, all_weaker, part_but, fewer_extents, fewer_maps, most_maps}

-- ---- pages past a size go

-- the page begins below the size where it is one of as many as the size takes
pub begins_below : (size p : ℕ) → p < pages_of size → 1024 * p < size
begins_below size p lt = omega (arith, lt)

pub pages_within : (size p : ℕ) → size ≤ most_bytes → p < pages_of size → p < most_pages
pages_within size p few lt = omega (arith, few, lt)

not_true : (t : Bool) → not t ≡ true → t ≡ false
not_true true h = absurd cc
not_true false h = refl

not_not : (t : Bool) → not t ≡ false → t ≡ true
not_not true h = refl
not_not false h = absurd cc

page_next : (n k : Mapped) (t : Bool) → (n.page + 1 == k.page) ≡ t → (n.page + 1 ≡ k.page → ⊥) → follows n k ≡ false
page_next n k true is ne = absurd (ne (eqb-true (n.page + 1) k.page is))
page_next n k false is ne = ap (λ t. t && ((n.block + 1 == k.block) && same_kind n.kind k.kind)) is

cut_breaks : (from : ℕ) (n k : Mapped) → not (nat_le from n.page) ≡ false → not (nat_le from k.page) ≡ true → follows n k ≡ false
cut_breaks from n k out stays =
    let past = leb-true from n.page (not_not (nat_le from n.page) out) in
    let before = leb-false from k.page (not_true (nat_le from k.page) stays) in
    page_next n k (n.page + 1 == k.page) refl (λ e. omega (arith, past, before, e))

pub cut_fewer : (from : ℕ) (ms : List Mapped) → extent_count (pages_but (nat_le from) ms) ≤ extent_count ms
cut_fewer from ms = fewer_extents (λ (m : Mapped). not (nat_le from m.page)) (cut_breaks from) ms

-- ---- reserved pages go

last_false : (a b c : Bool) → c ≡ false → (a && (b && c)) ≡ false
last_false true true c h = h
last_false true false c h = refl
last_false false b c h = refl

kinds_break : (n k : Mapped) → n.kind ≡ Reserved → k.kind ≡ Data → follows n k ≡ false
kinds_break n k was is = last_false (n.page + 1 == k.page) (n.block + 1 == k.block) (same_kind n.kind k.kind) (ap (λ (x : Kind). same_kind x k.kind) was ∙ ap (same_kind Reserved) is)

kind_data : (k : Kind) → is_data_kind k ≡ true → k ≡ Data
kind_data Data h = refl
kind_data Reserved h = absurd cc

kind_reserved : (k : Kind) → is_data_kind k ≡ false → k ≡ Reserved
kind_reserved Data h = absurd cc
kind_reserved Reserved h = refl

pub data_fewer : (ms : List Mapped) → extent_count (data_pages ms) ≤ extent_count ms
data_fewer ms = fewer_extents (λ (m : Mapped). is_data_kind m.kind) (λ n k out stays. kinds_break n k (kind_reserved n.kind out) (kind_data k.kind stays)) ms

lasts_breaks : (t : Bool) (n k : Mapped) → lasts t n ≡ false → lasts t k ≡ true → follows n k ≡ false
lasts_breaks t n k out stays = by t n.kind k.kind refl refl out stays
  where
    by : (t : Bool) (a b : Kind) → n.kind ≡ a → k.kind ≡ b → not (t && is_reserved a) ≡ false → not (t && is_reserved b) ≡ true → follows n k ≡ false
    by true Data b was is out stays = absurd cc
    by true Reserved Data was is out stays = kinds_break n k was is
    by true Reserved Reserved was is out stays = absurd cc
    by false a b was is out stays = absurd cc

pub lasting_fewer : (t : Bool) (ms : List Mapped) → extent_count (lasting t ms) ≤ extent_count ms
lasting_fewer t ms = fewer_extents (lasts t) (lasts_breaks t) ms

pub all_last : (t : Bool) (ms : List Mapped) → AllByRecursion (λ (m : Mapped). lasts t m ≡ true) (lasting t ms)
all_last t [] = tt
all_last t (m ∷ ms) = by (lasts t m) refl (all_last t ms)
  where
    by : (u : Bool) → lasts t m ≡ u → AllByRecursion (λ (m : Mapped). lasts t m ≡ true) (lasting t ms) → AllByRecursion (λ (m : Mapped). lasts t m ≡ true) (cond u (m ∷ lasting t ms) (lasting t ms))
    by true is rest = (is, rest)
    by false is rest = rest

-- ---- pages that are there

there_high : (a p : ℕ) (ms : List Mapped) (m : ℕ × Kind) → AreRising a ms → mapped_at ms p ≡ Some m → a ≤ p
there_high a p [] m rises h = absurd (none-some m h)
there_high a p (n ∷ ms) m rises h = by (n.page == p) refl h (λ later. there_high (n.page + 1) p ms m rises.2 later)
  where
    by : (t : Bool) → (n.page == p) ≡ t → cond t (Some (n.block, n.kind)) (mapped_at ms p) ≡ Some m → (mapped_at ms p ≡ Some m → n.page + 1 ≤ p) → a ≤ p
    by true is h rest = let at = eqb-true n.page p is in let low = rises.0 in omega (arith, at, low)
    by false is h rest = let later = rest h in let low = rises.0 in omega (arith, later, low)

-- what holds of each page holds of one that is there
pub all_there : (P : Mapped → Type 0) (p : ℕ) (ms : List Mapped) (m : ℕ × Kind) → AllByRecursion P ms → mapped_at ms p ≡ Some m → P (record { page = p; block = m.0; kind = m.1 })
all_there P p [] m all h = absurd (none-some m h)
all_there P p (n ∷ ms) m all h = by (n.page == p) refl h (all_there P p ms m all.1)
  where
    by : (t : Bool) → (n.page == p) ≡ t → cond t (Some (n.block, n.kind)) (mapped_at ms p) ≡ Some m → (mapped_at ms p ≡ Some m → P (record { page = p; block = m.0; kind = m.1 })) → P (record { page = p; block = m.0; kind = m.1 })
    by true is h rest =
        let same : (n.block, n.kind) ≡ m = same_Some (n.block, n.kind) m h in
        subst (λ (x : ℕ × Kind). P (record { page = p; block = x.0; kind = x.1 })) same (subst (λ (q : ℕ). P (record { page = q; block = n.block; kind = n.kind })) (eqb-true n.page p is) all.0)
    by false is h rest = rest h

abbrev IsThere : List Mapped → ℕ → Type 0
IsThere ms p = (n : ℕ × Kind) × (mapped_at ms p ≡ Some n)

here_at : (n : Mapped) (ns : List Mapped) (p : ℕ) → n.page ≡ p → mapped_at (n ∷ ns) p ≡ Some (n.block, n.kind)
here_at n ns p e = ap (λ t. cond t (Some (n.block, n.kind)) (mapped_at ns p)) (eq-eqb n.page p e)

there_later : (n : Mapped) (ns : List Mapped) (p : ℕ) (t : Bool) → (n.page == p) ≡ t → IsThere ns p → IsThere (n ∷ ns) p
there_later n ns p true is h = ((n.block, n.kind), here_at n ns p (eqb-true n.page p is))
there_later n ns p false is h = (h.0, ap (λ t. cond t (Some (n.block, n.kind)) (mapped_at ns p)) is ∙ h.1)

pub part_there : (p : ℕ) (ms ns : List Mapped) (m : ℕ × Kind) → IsPart ms ns → mapped_at ms p ≡ Some m → IsThere ns p
part_there p [] ns m part h = absurd (none-some m h)
part_there p (x ∷ ms) [] m part h = absurd part
part_there p (x ∷ ms) (n ∷ ns) m (inl part) h = by (x.page == p) refl h (part_there p ms ns m part.1)
  where
    by : (t : Bool) → (x.page == p) ≡ t → cond t (Some (x.block, x.kind)) (mapped_at ms p) ≡ Some m → (mapped_at ms p ≡ Some m → IsThere ns p) → IsThere (n ∷ ns) p
    by true is h rest = ((n.block, n.kind), here_at n ns p (sym part.0.page ∙ eqb-true x.page p is))
    by false is h rest = there_later n ns p (n.page == p) refl (rest h)
part_there p (x ∷ ms) (n ∷ ns) m (inr part) h = there_later n ns p (n.page == p) refl (part_there p (x ∷ ms) ns m part h)

-- a page that holds data on the device holds data now
pub part_data : (a p b : ℕ) (ms ns : List Mapped) → AreRising a ns → IsPart ms ns → mapped_at ms p ≡ Some (b, Data) → (c : ℕ) × (mapped_at ns p ≡ Some (c, Data))
part_data a p b [] ns rises part h = absurd (none-some (b, Data) h)
part_data a p b (x ∷ ms) [] rises part h = absurd part
part_data a p b (x ∷ ms) (n ∷ ns) rises (inl part) h = by (x.page == p) refl h (part_data (n.page + 1) p b ms ns rises.2 part.1)
  where
    still : (x.kind ≡ n.kind) ⊎ (x.kind ≡ Reserved) → x.kind ≡ Data → n.kind ≡ Data
    still (inl e) is = sym e ∙ is
    still (inr e) is = absurd (let no : Data ≡ Reserved = sym is ∙ e in cc)

    by : (t : Bool) → (x.page == p) ≡ t → cond t (Some (x.block, x.kind)) (mapped_at ms p) ≡ Some (b, Data) → (mapped_at ms p ≡ Some (b, Data) → (c : ℕ) × (mapped_at ns p ≡ Some (c, Data))) → (c : ℕ) × (mapped_at (n ∷ ns) p ≡ Some (c, Data))
    by true is h rest =
        let kind : x.kind ≡ Data = ap (λ (y : ℕ × Kind). y.1) (same_Some (x.block, x.kind) (b, Data) h) in
        (n.block, here_at n ns p (sym part.0.page ∙ eqb-true x.page p is) ∙ ap (λ k. Some (n.block, k)) (still part.0.kind kind))
    by false is h rest =
        let found = rest h in
        let above = there_high (n.page + 1) p ns (found.0, Data) rises.2 found.1 in
        (found.0, ap (λ t. cond t (Some (n.block, n.kind)) (mapped_at ns p)) (ne_eqb n.page p (λ e. absurd (omega (arith, e, above)))) ∙ found.1)
part_data a p b (x ∷ ms) (n ∷ ns) rises (inr part) h =
    let found = part_data (n.page + 1) p b (x ∷ ms) ns rises.2 part h in
    let above = there_high (n.page + 1) p ns (found.0, Data) rises.2 found.1 in
    (found.0, ap (λ t. cond t (Some (n.block, n.kind)) (mapped_at ns p)) (ne_eqb n.page p (λ e. absurd (omega (arith, e, above)))) ∙ found.1)

-- ---- a file's space with fewer pages

module _ (x : Space) (maps : List ℕ) (f : File) (is : IsSpaceOf x maps f) where
  pub but_kept : (goes : ℕ → Bool) (g : File) → g.bytes ≡ f.bytes → is_unreserved g ≡ is_unreserved f → extent_count (pages_but goes x.settled) ≤ extent_count x.settled
      → extent_count (pages_but goes x.present) ≤ extent_count x.present → IsSpaceOf (space_but goes x) maps g
  but_kept goes g bytes reserve settled present =
      let extents = is.extents in
      let chain = is.chain in
      let fewer = fewer_maps (pages_but goes x.settled) x.settled settled in
      let fewer_now = fewer_maps (pages_but goes x.present) x.present present in
      record {
        settled_rises = rising_filter (λ (m : Mapped). not (goes m.page)) 0 x.settled is.settled_rises;
        present_rises = rising_filter (λ (m : Mapped). not (goes m.page)) 0 x.present is.present_rises;
        part = part_but goes x.settled x.present is.part;
        extents = omega (arith, extents, settled, present);
        chain = omega (arith, chain, fewer, fewer_now);
        few_maps = is.few_maps;
        settled_size = is.settled_size;
        size = subst (λ (bs : List ℕ). length bs ≤ most_bytes) (sym bytes) is.size;
        settled_below = all_filter (BeginsBelow x.size) (λ (m : Mapped). not (goes m.page)) x.settled is.settled_below;
        present_below = subst (λ (bs : List ℕ). AllByRecursion (BeginsBelow (length bs)) (pages_but goes x.present)) (sym bytes) (all_filter (BeginsBelow (length f.bytes)) (λ (m : Mapped). not (goes m.page)) x.present is.present_below);
        lasting = subst (λ (t : Bool). AllByRecursion (λ (m : Mapped). lasts t m ≡ true) (pages_but goes x.settled)) (sym reserve) (all_filter (λ (m : Mapped). lasts (is_unreserved f) m ≡ true) (λ (m : Mapped). not (goes m.page)) x.settled is.lasting);
      }

  -- ---- a smaller size

  pub cut_kept : (size : ℕ) → size < length f.bytes → IsSpaceOf (cut_space (pages_of size) size x) maps (cut_file size f)
  cut_kept size smaller =
      let from : ℕ = pages_of size in
      let less = but_kept (nat_le from) f refl refl (cut_fewer from x.settled) (cut_fewer from x.present) in
      let long = length-take size f.bytes in
      let settled_size = is.settled_size in
      let most = is.size in
      record {
        settled_rises = less.settled_rises;
        present_rises = less.present_rises;
        part = less.part;
        extents = less.extents;
        chain = less.chain;
        few_maps = less.few_maps;
        settled_size = omega (arith, settled_size);
        size = omega (arith, long, most);
        settled_below = all_passing (BeginsBelow x.size) (BeginsBelow (min x.size size)) (λ (m : Mapped). not (nat_le from m.page)) (begins x.size) x.settled is.settled_below;
        present_below = all_passing (BeginsBelow (length f.bytes)) (BeginsBelow (length (take size f.bytes))) (λ (m : Mapped). not (nat_le from m.page)) now_begins x.present is.present_below;
        lasting = less.lasting;
      }
    where
      begins : (old : ℕ) (m : Mapped) → not (nat_le (pages_of size) m.page) ≡ true → BeginsBelow old m → BeginsBelow (min old size) m
      begins old m stays was k =
          let begun = was k in
          let low = begins_below size m.page (leb-false (pages_of size) m.page (not_true _ stays)) in
          omega (arith, begun, low)

      now_begins : (m : Mapped) → not (nat_le (pages_of size) m.page) ≡ true → BeginsBelow (length f.bytes) m → BeginsBelow (length (take size f.bytes)) m
      now_begins m stays was k =
          let long = length-take size f.bytes in
          let low = begins_below size m.page (leb-false (pages_of size) m.page (not_true _ stays)) in
          omega (arith, long, low, smaller)

  -- ---- a larger one

  pub grown_kept : (bytes : List ℕ) → length f.bytes ≤ length bytes → length bytes ≤ most_bytes → IsSpaceOf x maps (record f { bytes = bytes })
  grown_kept bytes larger fits = record {
    settled_rises = is.settled_rises;
    present_rises = is.present_rises;
    part = is.part;
    extents = is.extents;
    chain = is.chain;
    few_maps = is.few_maps;
    settled_size = is.settled_size;
    size = fits;
    settled_below = is.settled_below;
    present_below = all_weaker (BeginsBelow (length f.bytes)) (BeginsBelow (length bytes)) (λ m was k. (let low = was k in omega (arith, low, larger))) x.present is.present_below;
    lasting = is.lasting;
  }

  -- ---- a close

  -- with trim: all pages past the end are reserved
  pub trimmed_kept : CloseLaws → (reserve : ℕ) → IsSpaceOf (space_but (reserved_from (pages_of (length f.bytes)) x.present) x) maps (record f { attrs = with_reserve f.attrs reserve })
  trimmed_kept laws reserve =
      let from : ℕ = pages_of (length f.bytes) in
      subst (λ (y : Space). IsSpaceOf y maps (record f { attrs = with_reserve f.attrs reserve })) (sym (laws.trimmed from x reserved (λ p m there. part_there p x.settled x.present m is.part there)))
      (but_kept (nat_le from) (record f { attrs = with_reserve f.attrs reserve }) refl refl (cut_fewer from x.settled) (cut_fewer from x.present))
    where
      reserved : (p : ℕ) (m : ℕ × Kind) → pages_of (length f.bytes) ≤ p → mapped_at x.present p ≡ Some m → is_reserved m.1 ≡ true
      reserved p m past there = by m.1 refl (all_there (BeginsBelow (length f.bytes)) p x.present m is.present_below there)
        where
          by : (k : Kind) → m.1 ≡ k → BeginsBelow (length f.bytes) (record { page = p; block = m.0; kind = m.1 }) → is_reserved k ≡ true
          by Data e begins = absurd (let low = begins e in omega (arith, low, past))
          by Reserved e begins = refl

  -- with noreserve: none of the settled pages is reserved
  pub unreserved_kept : CloseLaws → is_unreserved f ≡ true → (reserve : ℕ) → IsSpaceOf (space_but (reserved_from 0 x.present) x) maps (record f { attrs = with_reserve f.attrs reserve })
  unreserved_kept laws unreserved reserve =
      let goes : ℕ → Bool = reserved_from 0 x.present in
      let same : pages_but goes x.settled ≡ x.settled = laws.settled goes x.settled stays in
      let present : pages_but goes x.present ≡ data_pages x.present = (λ i. pages_but (λ p. test p i) x.present) ∙ laws.present x.present is.present_rises in
      let settled_count : extent_count (pages_but goes x.settled) ≡ extent_count x.settled = ap extent_count same in
      let present_count : extent_count (pages_but goes x.present) ≡ extent_count (data_pages x.present) = ap extent_count present in
      let fewer = data_fewer x.present in
      but_kept goes (record f { attrs = with_reserve f.attrs reserve }) refl refl (omega (arith, settled_count)) (omega (arith, present_count, fewer))
    where
      test : (p : ℕ) → reserved_from 0 x.present p ≡ is_reserved_page x.present p
      test p = ap (λ t. is_reserved_page x.present p && t) (le-leb 0 p (omega arith)) ∙ and_true (is_reserved_page x.present p)
        where
          and_true : (t : Bool) → (t && true) ≡ t
          and_true true = refl
          and_true false = refl

      kind_lasts : (k : Kind) → not (is_unreserved f && is_reserved k) ≡ true → k ≡ Data
      kind_lasts Data h = refl
      kind_lasts Reserved h = absurd (true≢false (sym h ∙ ap (λ t. not (t && true)) unreserved))

      stays : (p : ℕ) (m : ℕ × Kind) → mapped_at x.settled p ≡ Some m → reserved_from 0 x.present p ≡ false
      stays p m there =
          let kind : m.1 ≡ Data = kind_lasts m.1 (all_there (λ (n : Mapped). lasts (is_unreserved f) n ≡ true) p x.settled m is.lasting there) in
          let found = part_data 0 p m.0 x.settled x.present is.present_rises is.part (there ∙ ap (λ k. Some (m.0, k)) kind) in
          test p ∙ ap is_reserved_by found.1

  -- ---- a settle

  pub settled_kept : SettleLaws → IsSpaceOf (settled_space (is_unreserved f) (length f.bytes) x) (kept_maps (settled_space (is_unreserved f) (length f.bytes) x) maps) f
  settled_kept laws =
      let y : Space = settled_space (is_unreserved f) (length f.bytes) x in
      let fewer = lasting_fewer (is_unreserved f) x.present in
      let fewer_now = fewer_maps (lasting (is_unreserved f) x.present) x.present fewer in
      let extents = is.extents in
      let chain = is.chain in
      let few = is.few_maps in
      let long = length-take (maps_needed y) maps in
      record {
        settled_rises = rising_filter (lasts (is_unreserved f)) 0 x.present is.present_rises;
        present_rises = is.present_rises;
        part = laws.part (is_unreserved f) (length f.bytes) x;
        extents = omega (arith, extents, fewer);
        chain = omega (arith, chain, fewer_now, long);
        few_maps = omega (arith, few, long);
        settled_size = is.size;
        size = is.size;
        settled_below = all_filter (BeginsBelow (length f.bytes)) (lasts (is_unreserved f)) x.present is.present_below;
        present_below = is.present_below;
        lasting = all_last (is_unreserved f) x.present;
      }

  -- ---- a write

  abbrev written_file : ℕ → List ℕ → File
  written_file offset new = record f { bytes = overwritten offset new f.bytes }

  pub write_filled : (r : Request) (offset : ℕ) (new : List ℕ) (free : ℕ → Bool) (g : Filling) → offset + length new ≤ most_bytes
      → place_fill r x (first_page offset) (page_count offset (length new)) (record { free = free; pages = x.present; maps = maps }) ≡ Ok g
      → IsFilling x.settled (max (length f.bytes) (offset + length new)) g.pages
  write_filled r offset new free g fits placed =
      let size : ℕ = max (length f.bytes) (offset + length new) in
      fill_good r x size (first_page offset) (page_count offset (length new)) (record { free = free; pages = x.present; maps = maps }) g
      (λ p low high. (let within : p < pages_of (offset + length new) = omega (arith, low, high) in
      ((let begins = begins_below (offset + length new) p within in omega (arith, begins)), pages_within (offset + length new) p fits within)))
      (record {
        rises = is.present_rises;
        part = is.part;
        below = all_weaker (BeginsBelow (length f.bytes)) (BeginsBelow size) (λ m was k. (let low = was k in omega (arith, low))) x.present is.present_below;
      }) placed

  pub written_kept : (offset : ℕ) (new : List ℕ) (free : ℕ → Bool) (g : Filling) → offset + length new ≤ most_bytes → IsFilling x.settled (max (length f.bytes) (offset + length new)) g.pages
      → HasMoreMaps x (record { free = free; pages = x.present; maps = maps }) g → HasMaps (record x { present = g.pages }) g.maps → IsSpaceOf (record x { present = g.pages }) g.maps (written_file offset new)
  written_kept offset new free g fits filled longer has =
      let long = overwritten_long offset new f.bytes in
      let most = is.size in
      let all : length g.maps ≡ length (maps ++ longer.more) = ap (λ (bs : List ℕ). length bs) longer.maps in
      let parts = length-append maps longer.more in
      let count = longer.count in
      let few = is.few_maps in
      let extents = has.extents in
      let settled_maps = most_maps x.settled (omega (arith, extents)) in
      let present_maps = most_maps g.pages (omega (arith, extents)) in
      record {
        settled_rises = is.settled_rises;
        present_rises = filled.rises;
        part = filled.part;
        extents = has.extents;
        chain = has.chain;
        few_maps = omega (arith, all, parts, count, few, settled_maps, present_maps);
        settled_size = is.settled_size;
        size = omega (arith, long, most, fits);
        settled_below = is.settled_below;
        present_below = subst (λ (n : ℕ). AllByRecursion (BeginsBelow n) g.pages) (sym long) filled.below;
        lasting = is.lasting;
      }
