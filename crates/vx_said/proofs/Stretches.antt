-- Extents in order are the stretches of their pages.
use Rattle.std.proofs.Common.{◌≡◌, ℕ, zero, suc, ◌+◌, ◌-◌, ◌≤◌, true, false, List, [], ◌∷◌, ◌++◌, map, refl, ap, ap₂, subst, ◌∙◌, arith}
use Rattle.std.specs.List.{flat_map, AllByRecursion}
use Rattle.std.proofs.lemmas.Bool.{eqb-true, eq-eqb, and_parts, false_from_ne_true}
use Rattle.vx_base.specs.declared.kind.Kind.{Kind}
use Rattle.vx_base.specs.declared.kind.Kind.TheVariants.{Data, Reserved}
use Rattle.vx_base.specs.declared.inode.DirEntry.{DirEntry}
use Rattle.vx_base.specs.declared.inode.Extent.{Extent}
use Rattle.vx_sound.specs.FirstFault.{numbers}
use Rattle.vx_sound.specs.Said.{extent_blocks}
use Rattle.vx_sound.specs.Facts.{Follows, AreInOrder, AreWithoutHoles}
use Rattle.vx_extents.specs.Extents.{Mapped, same_kind, follows, stretches, run}
use Rattle.vx_model.specs.Layout.{DirectoryBlock, pages_from}
use Rattle.vx_model.specs.Reads.{extent_pages}
use Rattle.vx_model.proofs.Stretching.{same_kinds}

-- the pages don't go on from this one
abbrev IsBreak : Mapped → List Mapped → Type 0
IsBreak m [] = Unit {0}
IsBreak m (n ∷ pages) = follows m n ≡ false

kind_itself : (k : Kind) → same_kind k k ≡ true
kind_itself Data = refl
kind_itself Reserved = refl

goes_on : (page block : ℕ) (kind : Kind) → follows (record { page = page; block = block; kind = kind }) (record { page = page + 1; block = block + 1; kind = kind }) ≡ true
goes_on page block kind = rw (eq-eqb (page + 1) (page + 1) refl, eq-eqb (block + 1) (block + 1) refl, kind_itself kind) refl

one_again : (m : Mapped) (rest : List Mapped) → IsBreak m rest → stretches (m ∷ rest) ≡ record { page = m.page; start = m.block; len = 1; kind = m.kind } ∷ stretches rest
one_again m [] ends = refl
one_again m (n ∷ pages) ends = rw ends refl

-- the first extent, when a page comes before it that it goes on from
abbrev longer : ℕ → ℕ → List Extent → List Extent
longer page block [] = []
longer page block (e ∷ es) = record { page = page; start = block; len = suc e.len; kind = e.kind } ∷ es

run_again : (more page block : ℕ) (kind : Kind) (rest : List Mapped) → IsBreak (record { page = page + more; block = block + more; kind = kind }) rest
    → stretches (run (suc more) page block kind ++ rest) ≡ record { page = page; start = block; len = suc more; kind = kind } ∷ stretches rest
run_again zero page block kind rest ends =
    let p : page + 0 ≡ page = omega arith in
    let b : block + 0 ≡ block = omega arith in
    one_again (record { page = page; block = block; kind = kind }) rest (subst (λ (m : Mapped). IsBreak m rest) (λ i. record { page = p i; block = b i; kind = kind }) ends)
run_again (suc more) page block kind rest ends =
    let p : page + suc more ≡ page + 1 + more = omega arith in
    let b : block + suc more ≡ block + 1 + more = omega arith in
    let again = run_again more (page + 1) (block + 1) kind rest (subst (λ (m : Mapped). IsBreak m rest) (λ i. record { page = p i; block = b i; kind = kind }) ends) in
    rw (goes_on page block kind) (ap (longer page block) again)

long_again : (len page block : ℕ) (kind : Kind) (rest : List Mapped) → 1 ≤ len → IsBreak (record { page = page + (len - 1); block = block + (len - 1); kind = kind }) rest
    → stretches (run len page block kind ++ rest) ≡ record { page = page; start = block; len = len; kind = kind } ∷ stretches rest
long_again zero page block kind rest some ends = absurd (omega arith)
long_again (suc more) page block kind rest some ends =
    let e : suc more - 1 ≡ more = omega arith in
    run_again more page block kind rest (subst (λ (k : ℕ). IsBreak (record { page = page + k; block = block + k; kind = kind }) rest) e ends)

-- an extent that the pages don't go on into
breaks : (m : Mapped) (len page block : ℕ) (kind : Kind) (rest : List Mapped) → 1 ≤ len → follows m (record { page = page; block = block; kind = kind }) ≡ false → IsBreak m (run len page block kind ++ rest)
breaks m zero page block kind rest some new = absurd (omega arith)
breaks m (suc more) page block kind rest some new = new

abbrev last_page : Extent → Mapped
last_page e = record { page = e.page + (e.len - 1); block = e.start + (e.len - 1); kind = e.kind }

apart : (e f : Extent) → 1 ≤ e.len → Follows e f → follows (last_page e) (record { page = f.page; block = f.start; kind = f.kind }) ≡ false
apart e f some after = false_from_ne_true _ (λ h.
    let one = and_parts _ _ h in
    let two = and_parts _ _ one.1 in
    let page : e.page + (e.len - 1) + 1 ≡ f.page = eqb-true _ _ one.0 in
    let block : e.start + (e.len - 1) + 1 ≡ f.start = eqb-true _ _ two.0 in
    after.apart (omega (arith, page, some)) (omega (arith, block, some)) (same_kinds _ _ two.1))

abbrev pub HasLength : Extent → Type 0
HasLength e = 1 ≤ e.len

pub stretches_again : (es : List Extent) → AllByRecursion HasLength es → AreInOrder es → stretches (flat_map extent_pages es) ≡ es
stretches_again [] some order = refl
stretches_again (e ∷ []) some order = long_again e.len e.page e.start e.kind [] some.0 tt
stretches_again (e ∷ f ∷ es) some order =
    long_again e.len e.page e.start e.kind (flat_map extent_pages (f ∷ es)) some.0 (breaks (last_page e) f.len f.page f.start f.kind (flat_map extent_pages es) some.1.0 (apart e f some.0 order.0))
    ∙ ap (λ (xs : List Extent). e ∷ xs) (stretches_again (f ∷ es) some.1 order.1)

-- ---- pages without holes

module _ (entries : ℕ → List DirEntry) where
  abbrev pub block_with : ℕ → DirectoryBlock
  block_with b = record { block = b; entries = entries b }

  run_pages : (n at start : ℕ) (rest : List ℕ) → run n at start Data ++ pages_from (at + n) (map block_with rest) ≡ pages_from at (map block_with (numbers start n ++ rest))
  run_pages zero at start rest = let e : at + 0 ≡ at = omega arith in ap (λ p. pages_from p (map block_with rest)) e
  run_pages (suc n) at start rest =
      let e : at + suc n ≡ at + 1 + n = omega arith in
      let f : start + 1 ≡ suc start = omega arith in
      ap (λ (ms : List Mapped). record { page = at; block = start; kind = Data } ∷ ms)
      (ap (λ p. run n (at + 1) (start + 1) Data ++ pages_from p (map block_with rest)) e
      ∙ run_pages n (at + 1) (start + 1) rest
      ∙ ap (λ x. pages_from (at + 1) (map block_with (numbers x n ++ rest))) f)

  -- a directory's extents say its blocks in page order
  pub pages_again : (at : ℕ) (es : List Extent) → AreWithoutHoles at es → flat_map extent_pages es ≡ pages_from at (map block_with (flat_map extent_blocks es))
  pages_again at [] whole = refl
  pages_again at (e ∷ es) whole =
      ap₂ (λ (xs ys : List Mapped). xs ++ ys) (λ i. run e.len (whole.0 i) e.start (whole.1 i)) (pages_again (at + e.len) es whole.2)
      ∙ run_pages e.len at e.start (flat_map extent_blocks es)
