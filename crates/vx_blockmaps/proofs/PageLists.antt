-- Pages and their blocks.
use Rattle.std.proofs.Common.{◌≡◌, ◌≢◌, ℕ, ◌+◌, ◌<◌, ◌≤◌, Bool, true, false, not, cond, List, [], ◌∷◌, Option, Some, inl, inr, refl, sym, ◌∙◌, ap, arith}
use Rattle.std.specs.Prelude.{◌==◌, filter}
use Rattle.std.proofs.lemmas.Bool.{eq-eqb, ne_eqb, eqb-true}
use Rattle.std.proofs.lemmas.Option.{same_Some, none-some}
use Rattle.vx_base.specs.declared.kind.Kind.{Kind}
use Rattle.vx_extents.specs.Extents.{Mapped, mapped_at}
use Rattle.vx_space.specs.Space.{page_blocks, most_pages}
use Rattle.vx_space.specs.Leaving.{pages_but}
use Rattle.vx_space.specs.Laws.{AreRising, IsPart}
use Rattle.vx_space.specs.Uses.{uses}
use Rattle.vx_model.proofs.Uses.{one}

-- ---- pages that are there

pub there_high : (a p : ℕ) (ms : List Mapped) (m : ℕ × Kind) → AreRising a ms → mapped_at ms p ≡ Some m → a ≤ p
there_high a p [] m rises h = absurd (none-some m h)
there_high a p (n ∷ ms) m rises h = by (n.page == p) refl h (λ later. there_high (n.page + 1) p ms m rises.2 later)
  where
    by : (t : Bool) → (n.page == p) ≡ t → cond t (Some (n.block, n.kind)) (mapped_at ms p) ≡ Some m → (mapped_at ms p ≡ Some m → n.page + 1 ≤ p) → a ≤ p
    by true is h rest = let at = eqb-true n.page p is in let low = rises.0 in omega (arith, at, low)
    by false is h rest = let later = rest h in let low = rises.0 in omega (arith, later, low)

pub there_most : (a p : ℕ) (ms : List Mapped) (m : ℕ × Kind) → AreRising a ms → mapped_at ms p ≡ Some m → p < most_pages
there_most a p [] m rises h = absurd (none-some m h)
there_most a p (n ∷ ms) m rises h = by (n.page == p) refl h (λ later. there_most (n.page + 1) p ms m rises.2 later)
  where
    by : (t : Bool) → (n.page == p) ≡ t → cond t (Some (n.block, n.kind)) (mapped_at ms p) ≡ Some m → (mapped_at ms p ≡ Some m → p < most_pages) → p < most_pages
    by true is h rest = let at = eqb-true n.page p is in let high = rises.1 in omega (arith, at, high)
    by false is h rest = rest h

abbrev pub IsIn : List Mapped → (p b : ℕ) → Type 0
IsIn ms p b = (kind : Kind) × (mapped_at ms p ≡ Some (b, kind))

here_at : (n : Mapped) (ns : List Mapped) (p : ℕ) → n.page ≡ p → mapped_at (n ∷ ns) p ≡ Some (n.block, n.kind)
here_at n ns p e = ap (λ t. cond t (Some (n.block, n.kind)) (mapped_at ns p)) (eq-eqb n.page p e)

-- a page on the device has its block now
pub part_block : (a p b : ℕ) (kind : Kind) (ms ns : List Mapped) → AreRising a ns → IsPart ms ns → mapped_at ms p ≡ Some (b, kind) → IsIn ns p b
part_block a p b kind [] ns rises part h = absurd (none-some (b, kind) h)
part_block a p b kind (x ∷ ms) [] rises part h = absurd part
part_block a p b kind (x ∷ ms) (n ∷ ns) rises (inl part) h = by (x.page == p) refl h (part_block (n.page + 1) p b kind ms ns rises.2 part.1)
  where
    by : (t : Bool) → (x.page == p) ≡ t → cond t (Some (x.block, x.kind)) (mapped_at ms p) ≡ Some (b, kind) → (mapped_at ms p ≡ Some (b, kind) → IsIn ns p b) → IsIn (n ∷ ns) p b
    by true is h rest =
        let same : x.block ≡ b = ap (λ (y : ℕ × Kind). y.0) (same_Some (x.block, x.kind) (b, kind) h) in
        (n.kind, here_at n ns p (sym part.0.page ∙ eqb-true x.page p is) ∙ ap (λ (c : ℕ). Some (c, n.kind)) (sym part.0.block ∙ same))
    by false is h rest =
        let found = rest h in
        let above = there_high (n.page + 1) p ns (b, found.0) rises.2 found.1 in
        (found.0, ap (λ t. cond t (Some (n.block, n.kind)) (mapped_at ns p)) (ne_eqb n.page p (λ e. absurd (omega (arith, e, above)))) ∙ found.1)
part_block a p b kind (x ∷ ms) (n ∷ ns) rises (inr part) h =
    let found = part_block (n.page + 1) p b kind (x ∷ ms) ns rises.2 part h in
    let above = there_high (n.page + 1) p ns (b, found.0) rises.2 found.1 in
    (found.0, ap (λ t. cond t (Some (n.block, n.kind)) (mapped_at ns p)) (ne_eqb n.page p (λ e. absurd (omega (arith, e, above)))) ∙ found.1)

-- ---- how often a block is a page's

one_is : (b c : ℕ) → c ≡ b → one b c ≡ 1
one_is b c e = ap (λ t. cond t 1 0) (eq-eqb b c (sym e))

pub page_used : (p b : ℕ) (kind : Kind) (ms : List Mapped) → mapped_at ms p ≡ Some (b, kind) → 1 ≤ uses (page_blocks ms) b
page_used p b kind [] h = absurd (none-some (b, kind) h)
page_used p b kind (n ∷ ms) h = by (n.page == p) h (page_used p b kind ms)
  where
    by : (t : Bool) → cond t (Some (n.block, n.kind)) (mapped_at ms p) ≡ Some (b, kind) → (mapped_at ms p ≡ Some (b, kind) → 1 ≤ uses (page_blocks ms) b) → 1 ≤ one b n.block + uses (page_blocks ms) b
    by true h rest = let here = one_is b n.block (ap (λ (y : ℕ × Kind). y.0) (same_Some (n.block, n.kind) (b, kind) h)) in omega (arith, here)
    by false h rest = let later = rest h in omega (arith, later)

-- two pages that have the same block use it twice
pub two_pages : (p q b : ℕ) (k j : Kind) (ms : List Mapped) → p ≢ q → mapped_at ms p ≡ Some (b, k) → mapped_at ms q ≡ Some (b, j) → 2 ≤ uses (page_blocks ms) b
two_pages p q b k j [] ne first second = absurd (none-some (b, k) first)
two_pages p q b k j (n ∷ ms) ne first second = by (n.page == p) (n.page == q) refl refl first second (two_pages p q b k j ms ne)
  where
    block : (kind : Kind) → ◌≡◌ {A = Option (ℕ × Kind)} (Some (n.block, n.kind)) (Some (b, kind)) → n.block ≡ b
    block kind h = ap (λ (y : ℕ × Kind). y.0) (same_Some (n.block, n.kind) (b, kind) h)

    by : (t u : Bool) → (n.page == p) ≡ t → (n.page == q) ≡ u → cond t (Some (n.block, n.kind)) (mapped_at ms p) ≡ Some (b, k) → cond u (Some (n.block, n.kind)) (mapped_at ms q) ≡ Some (b, j)
        → (mapped_at ms p ≡ Some (b, k) → mapped_at ms q ≡ Some (b, j) → 2 ≤ uses (page_blocks ms) b) → 2 ≤ one b n.block + uses (page_blocks ms) b
    by true true ip iq hp hq rest = absurd (ne (sym (eqb-true n.page p ip) ∙ eqb-true n.page q iq))
    by true false ip iq hp hq rest = let here = one_is b n.block (block k hp) in let later = page_used q b j ms hq in omega (arith, here, later)
    by false true ip iq hp hq rest = let here = one_is b n.block (block j hq) in let later = page_used p b k ms hp in omega (arith, here, later)
    by false false ip iq hp hq rest = let later = rest hp hq in omega (arith, later)

-- ---- pages that go

abbrev pub going : (ℕ → Bool) → List Mapped → List Mapped
going goes ms = filter (λ (m : Mapped). goes m.page) ms

module _ (goes : ℕ → Bool) (b : ℕ) where
  abbrev count : List Mapped → ℕ
  count ms = uses (page_blocks ms) b

  split_by : (m : Mapped) (ns gs ms : List Mapped) (t : Bool) → count ns + count gs ≡ count ms → count (cond (not t) (m ∷ ns) ns) + count (cond t (m ∷ gs) gs) ≡ one b m.block + count ms
  split_by m ns gs ms true h = omega (arith, h)
  split_by m ns gs ms false h = omega (arith, h)

  -- what stays and what goes are all
  pub split : (ms : List Mapped) → count (pages_but goes ms) + count (going goes ms) ≡ count ms
  split [] = refl
  split (m ∷ ms) = split_by m (pages_but goes ms) (going goes ms) ms (goes m.page) (split ms)
