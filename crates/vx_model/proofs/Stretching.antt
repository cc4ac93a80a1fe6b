-- The extents of pages, and the pages and blocks of extents.
use Rattle.std.proofs.Common.{◌≡◌, ℕ, zero, suc, ◌+◌, ◌-◌, ◌*◌, ◌/◌, ◌%◌, ◌<◌, ◌≤◌, ◌^◌, min, Bool, true, false, cond, List, [], ◌∷◌, ◌++◌, length, drop, refl, sym, ◌∙◌, ap, ap₂, arith, lit<}
use Rattle.std.specs.Prelude.{nat_le}
use Rattle.std.specs.List.{flat_map, AllByRecursion}
use Rattle.std.proofs.lemmas.Bool.{eqb-true, and_parts, leb-true}
use Rattle.std.proofs.lemmas.List.{map-append}
use Rattle.std.proofs.lemmas.Grind.{div_ceil_times}
use Rattle.vx_base.specs.declared.inode.Extent.{Extent}
use Rattle.vx_base.specs.declared.kind.Kind.{Kind}
use Rattle.vx_base.specs.declared.kind.Kind.TheVariants.{Data, Reserved}
use Rattle.vx_layout.specs.Inodes.{IsExtent}
use Rattle.vx_extents.specs.Extents.{Mapped, same_kind, follows, going_on, extent_from, extents_after, stretches, run, chain_len, extent_count}
use Rattle.vx_space.specs.Space.{page_blocks}
use Rattle.vx_sound.specs.FirstFault.{numbers}
use Rattle.vx_sound.specs.Said.{in_place, extent_blocks}
use Rattle.vx_model.specs.Contents.{places}
use Rattle.vx_model.specs.Reads.{extent_pages}

-- ---- extents say the pages that they were made of

pub same_kinds : (a b : Kind) → same_kind a b ≡ true → a ≡ b
same_kinds Data Data h = refl
same_kinds Data Reserved h = absurd cc
same_kinds Reserved Data h = absurd cc
same_kinds Reserved Reserved h = refl

abbrev behind : Mapped → List Mapped → List Mapped
behind m pages = run (going_on m pages) (m.page + 1) (m.block + 1) m.kind ++ flat_map extent_pages (extents_after m pages)

by_follow : (m n : Mapped) (pages : List Mapped) (t : Bool) → follows m n ≡ t → behind n pages ≡ pages
    → run (cond t (suc (going_on n pages)) 0) (m.page + 1) (m.block + 1) m.kind ++ flat_map extent_pages (cond t (extents_after n pages) (extent_from n pages ∷ extents_after n pages)) ≡ n ∷ pages
by_follow m n pages true e rest =
    let one = and_parts _ _ e in
    let two = and_parts _ _ one.1 in
    let page : m.page + 1 ≡ n.page = eqb-true _ _ one.0 in
    let block : m.block + 1 ≡ n.block = eqb-true _ _ two.0 in
    let kind : m.kind ≡ n.kind = same_kinds _ _ two.1 in
    let first : run (suc (going_on n pages)) (m.page + 1) (m.block + 1) m.kind ≡ run (suc (going_on n pages)) n.page n.block n.kind = λ i. run (suc (going_on n pages)) (page i) (block i) (kind i) in
    ap (λ (ms : List Mapped). ms ++ flat_map extent_pages (extents_after n pages)) first ∙ ap (λ (ms : List Mapped). n ∷ ms) rest
by_follow m n pages false e rest = ap (λ (ms : List Mapped). n ∷ ms) rest

behind_is : (m : Mapped) (pages : List Mapped) → behind m pages ≡ pages
behind_is m [] = refl
behind_is m (n ∷ pages) = by_follow m n pages (follows m n) refl (behind_is n pages)

pub stretches_say : (pages : List Mapped) → flat_map extent_pages (stretches pages) ≡ pages
stretches_say [] = refl
stretches_say (m ∷ pages) = ap (λ (ms : List Mapped). m ∷ ms) (behind_is m pages)

-- ---- the blocks of extents

run_blocks : (n page block : ℕ) (kind : Kind) → numbers block n ≡ page_blocks (run n page block kind)
run_blocks zero page block kind = refl
run_blocks (suc n) page block kind =
    let e : suc block ≡ block + 1 = omega arith in
    ap (λ (xs : List ℕ). block ∷ xs) (ap (λ b. numbers b n) e ∙ run_blocks n (page + 1) (block + 1) kind)

pub extents_blocks : (es : List Extent) → flat_map extent_blocks es ≡ page_blocks (flat_map extent_pages es)
extents_blocks [] = refl
extents_blocks (e ∷ es) =
    ap₂ (λ (xs ys : List ℕ). xs ++ ys) (run_blocks e.len e.page e.start e.kind) (extents_blocks es)
    ∙ sym (map-append (λ (m : Mapped). m.block) (extent_pages e) (flat_map extent_pages es))

pub stretches_blocks : (pages : List Mapped) → flat_map extent_blocks (stretches pages) ≡ page_blocks pages
stretches_blocks pages = extents_blocks (stretches pages) ∙ ap page_blocks (stretches_say pages)

-- ---- how long extents are, and how many

short_by : (t : Bool) (more all : ℕ) → more ≤ all → cond t (suc more) 0 ≤ suc all
short_by true more all h = omega arith
short_by false more all h = omega arith

pub going_short : (m : Mapped) (pages : List Mapped) → going_on m pages ≤ length pages
going_short m [] = omega arith
going_short m (n ∷ pages) = short_by (follows m n) (going_on n pages) (length pages) (going_short n pages)

few_by : (t : Bool) (e : Extent) (es : List Extent) (all : ℕ) → length es ≤ all → length (cond t es (e ∷ es)) ≤ suc all
few_by true e es all h = omega arith
few_by false e es all h = omega arith

few_after : (m : Mapped) (pages : List Mapped) → length (extents_after m pages) ≤ length pages
few_after m [] = omega arith
few_after m (n ∷ pages) = few_by (follows m n) (extent_from n pages) (extents_after n pages) (length pages) (few_after n pages)

pub few_stretches : (pages : List Mapped) → extent_count pages ≤ length pages
few_stretches [] = omega arith
few_stretches (m ∷ pages) = omega (arith, few_after m pages)

-- a page and a block with small numbers
pub record IsLowPage (m : Mapped) : Type 0 where
  pub page : m.page < 2 ^ 32
  pub block : m.block < 2 ^ 32

one_extent : (m : Mapped) (pages : List Mapped) → IsLowPage m → suc (length pages) < 2 ^ 32 → IsExtent (extent_from m pages)
one_extent m pages low short = record { page = low.page; start = low.block; some = omega arith; len = omega (arith, going_short m pages) }

after_by : (t : Bool) (n : Mapped) (pages : List Mapped) → IsLowPage n → suc (length pages) < 2 ^ 32 → AllByRecursion IsExtent (extents_after n pages)
    → AllByRecursion IsExtent (cond t (extents_after n pages) (extent_from n pages ∷ extents_after n pages))
after_by true n pages low short rest = rest
after_by false n pages low short rest = (one_extent n pages low short, rest)

after_extents : (m : Mapped) (pages : List Mapped) → AllByRecursion IsLowPage pages → length pages < 2 ^ 32 → AllByRecursion IsExtent (extents_after m pages)
after_extents m [] low short = tt
after_extents m (n ∷ pages) low short = after_by (follows m n) n pages low.0 short (after_extents n pages low.1 (omega arith))

pub are_extents : (pages : List Mapped) → AllByRecursion IsLowPage pages → length pages < 2 ^ 32 → AllByRecursion IsExtent (stretches pages)
are_extents [] low short = tt
are_extents (m ∷ pages) low short = (one_extent m pages low.0 short, after_extents m pages low.1 (omega arith))

-- ---- six in the inode, and the others in the chain

pub six : (es : List Extent) → flat_map in_place (places es) ++ drop 6 es ≡ es
six [] = refl
six (a ∷ []) = refl
six (a ∷ b ∷ []) = refl
six (a ∷ b ∷ c ∷ []) = refl
six (a ∷ b ∷ c ∷ d ∷ []) = refl
six (a ∷ b ∷ c ∷ d ∷ e ∷ []) = refl
six (a ∷ b ∷ c ∷ d ∷ e ∷ f ∷ es) = refl

-- all map blocks but the last are full, and the last has some extent
pub record FillsChain (extents maps : ℕ) : Type 0 where
  pub room : extents - 6 ≤ 63 * maps
  pub full : 63 * maps < extents - 6 + 63

chain_by : (n : ℕ) (t : Bool) → nat_le n 6 ≡ t → FillsChain n (cond t 0 ((n - 6) / 63 + min 1 ((n - 6) % 63)))
chain_by n true e = let low = leb-true n 6 e in record { room = omega (arith, low); full = omega (arith, low) }
chain_by n false e = let bound = div_ceil_times (n - 6) 63 (lit< tt) in record { room = omega (arith, bound.0); full = omega (arith, bound.1) }

pub chain_fills : (n : ℕ) → FillsChain n (chain_len 63 n)
chain_fills n = chain_by n (nat_le n 6) refl
