-- The extents of pages: in order and each right where the pages are, and without a hole where the pages are a directory's.
use Rattle.std.proofs.Common.{◌≡◌, ℕ, suc, ◌+◌, ◌*◌, ◌<◌, ◌≤◌, Bool, true, false, cond, List, [], ◌∷◌, length, refl, sym, ◌∙◌, subst, arith}
use Rattle.std.specs.Prelude.{bit_and}
use Rattle.std.specs.List.{AllByRecursion}
use Rattle.std.proofs.lemmas.Bool.{eqb-true, eq-eqb, and_from, and_parts, true≢false}
use Rattle.vx_base.specs.declared.inode.Extent.{Extent}
use Rattle.vx_base.specs.declared.inode.InodeValue.{InodeValue}
use Rattle.vx_base.specs.declared.kind.Kind.{Kind}
use Rattle.vx_base.specs.declared.kind.Kind.TheVariants.{Data, Reserved}
use Rattle.vx_extents.specs.Extents.{Mapped, same_kind, follows, going_on, extent_from, extents_after, stretches}
use Rattle.vx_space.specs.Laws.{AreRising}
use Rattle.vx_space.specs.Space.{most_pages}
use Rattle.vx_sound.specs.Facts.{IsExtentRight, AreInOrder, AreWithoutHoles}
use Rattle.vx_model.specs.Layout.{DirectoryBlock, Layout, volume, pages_from}
use Rattle.vx_model.proofs.Stretching.{same_kinds}

-- ---- extents that are in order and right

-- a page that an inode may have: one of data begins below its size, and one is reserved only where the inode keeps a reservation
pub record IsPageRight (i : InodeValue) (m : Mapped) : Type 0 where
  pub low : m.page < most_pages
  pub below_size : m.kind ≡ Data → 1024 * m.page < i.inode.size
  pub kept : m.kind ≡ Reserved → bit_and i.inode.attrs.flags 8 ≡ 0

-- the first extent, begun a page earlier
longer_order : (e f : Extent) (es : List Extent) → e.page + e.len ≡ f.page + f.len → e.start + e.len ≡ f.start + f.len → e.kind ≡ f.kind → AreInOrder (e ∷ es) → AreInOrder (f ∷ es)
longer_order e f [] pages blocks kinds h = tt
longer_order e f (g ∷ es) pages blocks kinds h = (
  record {
    later = (let later = h.0.later in omega (arith, pages, later));
    apart = λ page block kind. h.0.apart (pages ∙ page) (blocks ∙ block) (kinds ∙ kind);
  },
  h.1,
)

kind_itself : (k : Kind) → same_kind k k ≡ true
kind_itself Data = refl
kind_itself Reserved = refl

follows_by : (m n : Mapped) → m.page + 1 ≡ n.page → m.block + 1 ≡ n.block → m.kind ≡ n.kind → follows m n ≡ true
follows_by m n pages blocks kinds =
    and_from _ _ (eq-eqb (m.page + 1) n.page pages) (and_from _ _ (eq-eqb (m.block + 1) n.block blocks) (subst (λ (k : Kind). same_kind m.kind k ≡ true) kinds (kind_itself m.kind)))

module _ (l : Layout) (i : InodeValue) where
  record AreRight (es : List Extent) : Type 0 where
    each : AllByRecursion (IsExtentRight (volume l) i) es
    order : AreInOrder es

  -- an extent of one page
  one_right : (m : Mapped) → IsPageRight i m → IsExtentRight (volume l) i (record { page = m.page; start = m.block; len = 1; kind = m.kind })
  one_right m h = record {
    some = omega arith;
    pages = (let low = h.low in omega (arith, low));
    below_size = λ e. (let below = h.below_size e in omega (arith, below));
    kept = h.kept;
  }

  longer_right : (m n : Mapped) (g : ℕ) → m.page + 1 ≡ n.page → m.kind ≡ n.kind → IsExtentRight (volume l) i (record { page = n.page; start = n.block; len = suc g; kind = n.kind })
      → IsExtentRight (volume l) i (record { page = m.page; start = m.block; len = suc (suc g); kind = m.kind })
  longer_right m n g next same h = record {
    some = omega arith;
    pages = (let pages = h.pages in omega (arith, next, pages));
    below_size = λ e. (let below = h.below_size (sym same ∙ e) in omega (arith, next, below));
    kept = λ e. h.kept (sym same ∙ e);
  }

  step : (m n : Mapped) (pages : List Mapped) (t : Bool) → follows m n ≡ t → IsPageRight i m → m.page + 1 ≤ n.page → AreRight (extent_from n pages ∷ extents_after n pages)
      → AreRight (record { page = m.page; start = m.block; len = suc (cond t (suc (going_on n pages)) 0); kind = m.kind } ∷ cond t (extents_after n pages) (extent_from n pages ∷ extents_after n pages))
  step m n pages true e right rises h =
      let one = and_parts _ _ e in
      let two = and_parts _ _ one.1 in
      let next : m.page + 1 ≡ n.page = eqb-true _ _ one.0 in
      let block : m.block + 1 ≡ n.block = eqb-true _ _ two.0 in
      let kind : m.kind ≡ n.kind = same_kinds _ _ two.1 in record {
        each = (longer_right m n (going_on n pages) next kind h.each.0, h.each.1);
        order = longer_order (extent_from n pages) (record { page = m.page; start = m.block; len = suc (suc (going_on n pages)); kind = m.kind }) (extents_after n pages) (omega (arith, next)) (omega (arith, block)) (sym kind) h.order;
      }
  step m n pages false e right rises h = record {
    each = (one_right m right, h.each);
    order = (record { later = rises; apart = λ next block kind. absurd (true≢false (sym (follows_by m n next block kind) ∙ e)) }, h.order);
  }

  first_right : (m : Mapped) (pages : List Mapped) → IsPageRight i m → AreRising (m.page + 1) pages → AllByRecursion (IsPageRight i) pages → AreRight (extent_from m pages ∷ extents_after m pages)
  first_right m [] right rising all = record { each = (one_right m right, tt); order = tt }
  first_right m (n ∷ pages) right rising all = step m n pages (follows m n) refl right rising.0 (first_right n pages all.0 rising.2 all.1)

  all_right : (from : ℕ) (pages : List Mapped) → AreRising from pages → AllByRecursion (IsPageRight i) pages → AreRight (stretches pages)
  all_right from [] rising all = record { each = tt; order = tt }
  all_right from (m ∷ pages) rising all = first_right m pages all.0 rising.2 all.1

  pub each_right : (pages : List Mapped) → AreRising 0 pages → AllByRecursion (IsPageRight i) pages → AllByRecursion (IsExtentRight (volume l) i) (stretches pages)
  each_right pages rising all = (all_right 0 pages rising all).each

  pub in_order : (pages : List Mapped) → AreRising 0 pages → AllByRecursion (IsPageRight i) pages → AreInOrder (stretches pages)
  in_order pages rising all = (all_right 0 pages rising all).order

-- ---- a directory's pages

pub directory_rises : (page : ℕ) (ds : List DirectoryBlock) → page + length ds ≤ 64 → AreRising page (pages_from page ds)
directory_rises page [] few = tt
directory_rises page (d ∷ ds) few = (omega arith, omega (arith, few), directory_rises (page + 1) ds (omega (arith, few)))

pub directory_right : (i : InodeValue) (page : ℕ) (ds : List DirectoryBlock) → page + length ds ≤ 64 → 1024 * (page + length ds) ≤ i.inode.size → AllByRecursion (IsPageRight i) (pages_from page ds)
directory_right i page [] few size = tt
directory_right i page (d ∷ ds) few size = (
  record { low = omega (arith, few); below_size = λ e. omega (arith, size); kept = λ e. absurd cc },
  directory_right i (page + 1) ds (omega (arith, few)) (omega (arith, size)),
)

-- the page of a directory's block
abbrev page_of : ℕ → ℕ → Mapped
page_of page block = record { page = page; block = block; kind = Data }

whole_by : (page block next : ℕ) (pages : List Mapped) (t : Bool) → AreWithoutHoles (page + 1) (extent_from (page_of (page + 1) next) pages ∷ extents_after (page_of (page + 1) next) pages)
    → AreWithoutHoles page (record { page = page; start = block; len = suc (cond t (suc (going_on (page_of (page + 1) next) pages)) 0); kind = Data }
    ∷ cond t (extents_after (page_of (page + 1) next) pages) (extent_from (page_of (page + 1) next) pages ∷ extents_after (page_of (page + 1) next) pages))
whole_by page block next pages true h =
    let g : ℕ = going_on (page_of (page + 1) next) pages in
    let at : page + 1 + suc g ≡ page + suc (suc g) = omega arith in
    (refl, refl, subst (λ (k : ℕ). AreWithoutHoles k (extents_after (page_of (page + 1) next) pages)) at h.2)
whole_by page block next pages false h = (refl, refl, h)

first_whole : (page block : ℕ) (ds : List DirectoryBlock) → AreWithoutHoles page (extent_from (page_of page block) (pages_from (page + 1) ds) ∷ extents_after (page_of page block) (pages_from (page + 1) ds))
first_whole page block [] = (refl, refl, tt)
first_whole page block (d ∷ ds) =
    whole_by page block d.block (pages_from (page + 1 + 1) ds) (follows (page_of page block) (page_of (page + 1) d.block)) (first_whole (page + 1) d.block ds)

pub without_holes : (ds : List DirectoryBlock) → AreWithoutHoles 0 (stretches (pages_from 0 ds))
without_holes [] = tt
without_holes (d ∷ ds) = first_whole 0 d.block ds
