-- Which pages a close gives up.
use Rattle.std.proofs.Common.{◌≡◌, ℕ, ◌+◌, ◌≤◌, Bool, true, false, not, ◌&&◌, cond, List, [], ◌∷◌, Option, Some, inl, inr, refl, sym, ◌∙◌, ap, arith}
use Rattle.std.specs.Prelude.{◌==◌, filter, nat_le}
use Rattle.std.proofs.lemmas.Bool.{cases_lt, eq-eqb, ne_eqb, and_right}
use Rattle.std.proofs.lemmas.Bool.Decides.{nat_tests}
use Rattle.vx_base.specs.declared.kind.Kind.{Kind}
use Rattle.vx_base.specs.declared.kind.Kind.TheVariants.{Data, Reserved}
use Rattle.vx_extents.specs.Extents.{Mapped, mapped_at}
use Rattle.vx_extents.specs.Uses.{is_data_kind, data_pages}
use Rattle.vx_space.specs.Space.{Space}
use Rattle.vx_space.specs.Leaving.{is_reserved, is_reserved_by, is_reserved_page, pages_but, space_but, reserved_from}
use Rattle.vx_space.specs.Laws.{AreRising}

-- ---- the pages of a list are there

abbrev pub IsThere : List Mapped → ℕ → Type 0
IsThere pages q = (m : ℕ × Kind) × (mapped_at pages q ≡ Some m)

there_by : (x : Mapped) (pages : List Mapped) (q : ℕ) (t : Bool) → (x.page == q) ≡ t → IsThere pages q → IsThere (x ∷ pages) q
there_by x pages q true is h = ((x.block, x.kind), ap (λ t. cond t (Some (x.block, x.kind)) (mapped_at pages q)) is)
there_by x pages q false is h = (h.0, ap (λ t. cond t (Some (x.block, x.kind)) (mapped_at pages q)) is ∙ h.1)

at_first : (x : Mapped) (pages : List Mapped) → mapped_at (x ∷ pages) x.page ≡ Some (x.block, x.kind)
at_first x pages = ap (λ t. cond t (Some (x.block, x.kind)) (mapped_at pages x.page)) (eq-eqb x.page x.page refl)

first_there : (x : Mapped) (pages : List Mapped) → IsThere (x ∷ pages) x.page
first_there x pages = ((x.block, x.kind), at_first x pages)

-- two tests that say the same of each page of a list leave the same ones
filter_alike : (f g : Mapped → Bool) (whole pages : List Mapped) → ((q : ℕ) → IsThere pages q → IsThere whole q) → ((m : Mapped) → IsThere whole m.page → f m ≡ g m) → filter f pages ≡ filter g pages
filter_alike f g whole [] part same = refl
filter_alike f g whole (x ∷ pages) part same =
    ap (λ t. cond t (x ∷ filter f pages) (filter f pages)) (same x (part x.page (first_there x pages)))
    ∙ ap (λ (ms : List Mapped). cond (g x) (x ∷ ms) ms) (filter_alike f g whole pages (λ q h. part q (there_by x pages q (x.page == q) refl h)) same)

all_stay : (pages : List Mapped) → filter (λ (m : Mapped). true) pages ≡ pages
all_stay [] = refl
all_stay (x ∷ pages) = ap (λ (ms : List Mapped). x ∷ ms) (all_stay pages)

-- ---- none goes

pub none_goes : (goes : ℕ → Bool) (pages : List Mapped) → ((p : ℕ) (m : ℕ × Kind) → mapped_at pages p ≡ Some m → goes p ≡ false) → pages_but goes pages ≡ pages
none_goes goes pages none = filter_alike (λ m. not (goes m.page)) (λ m. true) pages pages (λ q h. h) (λ m h. ap not (none m.page h.0 h.1)) ∙ all_stay pages

-- ---- the reserved ones go

kinds_are : (kind : Kind) → not (is_reserved kind) ≡ is_data_kind kind
kinds_are Data = refl
kinds_are Reserved = refl

data_only : (whole : ℕ → Option (ℕ × Kind)) (from : ℕ) (pages : List Mapped) → AreRising from pages → ((q : ℕ) → from ≤ q → whole q ≡ mapped_at pages q) → filter (λ (m : Mapped). not (is_reserved_by (whole m.page))) pages ≡ data_pages pages
data_only whole from [] rising same = refl
data_only whole from (x ∷ pages) rising same =
    let here : whole x.page ≡ Some (x.block, x.kind) = same x.page rising.0 ∙ at_first x pages in
    let first : not (is_reserved_by (whole x.page)) ≡ is_data_kind x.kind = ap (λ (o : Option (ℕ × Kind)). not (is_reserved_by o)) here ∙ kinds_are x.kind in
    let rest = data_only whole (x.page + 1) pages rising.2 (λ q above.
    let other : (x.page == q) ≡ false = ne_eqb x.page q (λ e. absurd (omega (arith, e, above))) in
    let low = rising.0 in
    same q (omega (arith, low, above)) ∙ ap (λ t. cond t (Some (x.block, x.kind)) (mapped_at pages q)) other) in
    ap (λ t. cond t (x ∷ filter (λ (m : Mapped). not (is_reserved_by (whole m.page))) pages) (filter (λ (m : Mapped). not (is_reserved_by (whole m.page))) pages)) first
    ∙ ap (λ (ms : List Mapped). cond (is_data_kind x.kind) (x ∷ ms) ms) rest

pub reserved_go : (pages : List Mapped) → AreRising 0 pages → pages_but (is_reserved_page pages) pages ≡ data_pages pages
reserved_go pages rising = data_only (mapped_at pages) 0 pages rising (λ q above. refl)

-- ---- all from one on are reserved

module _ (from : ℕ) (x : Space) (reserved : (p : ℕ) (m : ℕ × Kind) → from ≤ p → mapped_at x.present p ≡ Some m → is_reserved m.1 ≡ true) where
  same_test : (p : ℕ) (m : ℕ × Kind) → mapped_at x.present p ≡ Some m → reserved_from from x.present p ≡ nat_le from p
  same_test p m there = elim (cases_lt p from) [
    | inl lt ↦ (let no : nat_le from p ≡ false = grind (arith, nat_tests) in and_right (is_reserved_page x.present p) _ no ∙ sym no)
    | inr le ↦ ap (λ t. t && nat_le from p) (ap is_reserved_by there ∙ reserved p m le there)
  ]

  pub trim_is : ((p : ℕ) (m : ℕ × Kind) → mapped_at x.settled p ≡ Some m → IsThere x.present p) → space_but (reserved_from from x.present) x ≡ space_but (nat_le from) x
  trim_is part = λ i. record {
    settled = filter_alike (λ m. not (reserved_from from x.present m.page)) (λ m. not (nat_le from m.page)) x.settled x.settled (λ q h. h) (λ m h. (let p = part m.page h.0 h.1 in ap not (same_test m.page p.0 p.1))) i;
    present = filter_alike (λ m. not (reserved_from from x.present m.page)) (λ m. not (nat_le from m.page)) x.present x.present (λ q h. h) (λ m h. ap not (same_test m.page h.0 h.1)) i;
    size = x.size;
  }
