-- Which pages go, in the list of them and by their numbers.
use Rattle.std.proofs.Common.{◌≡◌, ℕ, ◌+◌, ◌≤◌, ◌<◌, Bool, true, false, not, cond, List, [], ◌∷◌, Some, None, inl, inr, refl, sym, ◌∙◌, ap, arith}
use Rattle.std.specs.Prelude.{◌==◌, filter}
use Rattle.std.proofs.lemmas.Bool.{cases_Bool, eqb-true, eq-eqb, ne_eqb, both_ways}
use Rattle.std.proofs.lemmas.Option.{same_Some, none-some}
use Rattle.vx_base.specs.declared.kind.Kind.{Kind}
use Rattle.vx_extents.specs.Extents.{Mapped, mapped_at}
use Rattle.vx_space.specs.Space.{page_blocks}
use Rattle.vx_space.specs.Leaving.{pages_but}
use Rattle.vx_space.specs.Uses.{uses}
use Rattle.vx_space.specs.Laws.{AreRising, HasPage}
use Rattle.vx_space.proofs.Uses.{one}

module _ (goes : ℕ → Bool) where
  abbrev going : List Mapped → List Mapped
  going pages = filter (λ (m : Mapped). goes m.page) pages

  -- ---- the blocks of those that go

  listed_by : (p b : ℕ) (kind : Kind) (m : Mapped) (pages : List Mapped) (t u : Bool) → (m.page == p) ≡ t → goes m.page ≡ u → goes p ≡ true → cond t (Some (m.block, m.kind)) (mapped_at pages p) ≡ Some (b, kind)
      → (mapped_at pages p ≡ Some (b, kind) → 1 ≤ uses (page_blocks (going pages)) b) → 1 ≤ uses (page_blocks (cond u (m ∷ going pages) (going pages))) b
  listed_by p b kind m pages true true here test passes is rest =
      let same : b ≡ m.block = sym (ap (λ (x : ℕ × Kind). x.0) (same_Some (m.block, m.kind) (b, kind) is)) in
      let first : one b m.block ≡ 1 = ap (λ t. cond t 1 0) (eq-eqb b m.block same) in omega (arith, first)
  listed_by p b kind m pages true false here test passes is rest = absurd (both_ways _ test (ap goes (eqb-true m.page p here) ∙ passes))
  listed_by p b kind m pages false true here test passes is rest = let some = rest is in omega (arith, some)
  listed_by p b kind m pages false false here test passes is rest = rest is

  pub listed : (p b : ℕ) (kind : Kind) (pages : List Mapped) → goes p ≡ true → mapped_at pages p ≡ Some (b, kind) → 1 ≤ uses (page_blocks (going pages)) b
  listed p b kind [] passes is = absurd (none-some (b, kind) is)
  listed p b kind (m ∷ pages) passes is = listed_by p b kind m pages (m.page == p) (goes m.page) refl refl passes is (λ h. listed p b kind pages passes h)

  -- a page that rises from a number on is none below
  not_below : (from : ℕ) (pages : List Mapped) (p : ℕ) → AreRising from pages → p < from → mapped_at pages p ≡ None
  not_below from [] p rising lt = refl
  not_below from (m ∷ pages) p rising lt =
      let no : (m.page == p) ≡ false = ne_eqb m.page p (λ e. absurd (let low = rising.0 in omega (arith, e, low, lt))) in
      ap (λ t. cond t (Some (m.block, m.kind)) (mapped_at pages p)) no ∙ not_below (m.page + 1) pages p rising.2 (let low = rising.0 in omega (arith, low, lt))

  -- a page further on stands in the longer list
  further : (m : Mapped) (pages : List Mapped) (b : ℕ) → AreRising (m.page + 1) pages → HasPage goes pages b → HasPage goes (m ∷ pages) b
  further m pages b rising has = record {
    page = has.page;
    kind = has.kind;
    passes = has.passes;
    there = elim (cases_Bool (m.page == has.page)) [
      | inl e ↦ absurd (none-some (b, has.kind) (sym (not_below (m.page + 1) pages has.page rising (let same = eqb-true m.page has.page e in omega (arith, same))) ∙ has.there))
      | inr ne ↦ ap (λ t. cond t (Some (m.block, m.kind)) (mapped_at pages has.page)) ne ∙ has.there
    ];
  }

  only_by : (m : Mapped) (pages : List Mapped) (b : ℕ) (t u : Bool) → goes m.page ≡ t → (b == m.block) ≡ u → AreRising (m.page + 1) pages → 1 ≤ uses (page_blocks (cond t (m ∷ going pages) (going pages))) b
      → (1 ≤ uses (page_blocks (going pages)) b → HasPage goes pages b) → HasPage goes (m ∷ pages) b
  only_by m pages b true true test same rising some rest = record {
    page = m.page;
    kind = m.kind;
    passes = test;
    there = ap (λ t. cond t (Some (m.block, m.kind)) (mapped_at pages m.page)) (eq-eqb m.page m.page refl) ∙ ap (λ (c : ℕ). Some (c, m.kind)) (sym (eqb-true b m.block same));
  }
  only_by m pages b true false test same rising some rest = further m pages b rising (rest (let none : one b m.block ≡ 0 = ap (λ t. cond t 1 0) same in omega (arith, none, some)))
  only_by m pages b false u test same rising some rest = further m pages b rising (rest some)

  pub only : (from b : ℕ) (pages : List Mapped) → AreRising from pages → 1 ≤ uses (page_blocks (going pages)) b → HasPage goes pages b
  only from b [] rising some = absurd (omega (arith, some))
  only from b (m ∷ pages) rising some = only_by m pages b (goes m.page) (b == m.block) refl refl rising.2 some (λ h. only (m.page + 1) b pages rising.2 h)

  -- ---- the pages that are left

  stays_by : (p : ℕ) (m : Mapped) (pages : List Mapped) (t u : Bool) → (m.page == p) ≡ t → goes m.page ≡ u → goes p ≡ false → mapped_at (pages_but goes pages) p ≡ mapped_at pages p
      → mapped_at (cond (not u) (m ∷ pages_but goes pages) (pages_but goes pages)) p ≡ cond t (Some (m.block, m.kind)) (mapped_at pages p)
  stays_by p m pages true true here test stays rest = absurd (both_ways _ (ap goes (eqb-true m.page p here) ∙ stays) test)
  stays_by p m pages false true here test stays rest = rest
  stays_by p m pages t false here test stays rest = ap (λ u. cond u (Some (m.block, m.kind)) (mapped_at (pages_but goes pages) p)) here ∙ ap (cond t (Some (m.block, m.kind))) rest

  pub stays : (pages : List Mapped) (p : ℕ) → goes p ≡ false → mapped_at (pages_but goes pages) p ≡ mapped_at pages p
  stays [] p not_going = refl
  stays (m ∷ pages) p not_going = stays_by p m pages (m.page == p) (goes m.page) refl refl not_going (stays pages p not_going)

  gone_by : (p : ℕ) (m : Mapped) (pages : List Mapped) (u : Bool) → goes m.page ≡ u → goes p ≡ true → mapped_at (pages_but goes pages) p ≡ None → mapped_at (cond (not u) (m ∷ pages_but goes pages) (pages_but goes pages)) p ≡ None
  gone_by p m pages true test passes rest = rest
  gone_by p m pages false test passes rest =
      let other : (m.page == p) ≡ false = ne_eqb m.page p (λ e. both_ways _ (sym (ap goes e) ∙ test) passes) in
      ap (λ u. cond u (Some (m.block, m.kind)) (mapped_at (pages_but goes pages) p)) other ∙ rest

  pub gone : (pages : List Mapped) (p : ℕ) → goes p ≡ true → mapped_at (pages_but goes pages) p ≡ None
  gone [] p passes = refl
  gone (m ∷ pages) p passes = gone_by p m pages (goes m.page) refl passes (gone pages p passes)
