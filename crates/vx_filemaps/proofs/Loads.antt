-- Pages that come behind all others.
use Rattle.std.proofs.Common.{◌≡◌, ℕ, zero, suc, ◌+◌, ◌≤◌, List, [], ◌∷◌, ◌++◌, None, refl, sym, ◌∙◌, ap, arith, append_assoc, append-nil, inl, inr}
use Rattle.std.specs.Prelude.{◌==◌}
use Rattle.std.specs.List.{AllByRecursion}
use Rattle.std.proofs.lemmas.Bool.{eqb-true, cases_Bool, lt-ltb}
use Rattle.vx_base.specs.declared.kind.Kind.{Kind}
use Rattle.vx_extents.specs.Extents.{Mapped, mapped_at, run, with_page}
use Rattle.vx_extents.specs.Uses.{AreAbsent, with_pages}
use Rattle.vx_filemaps.specs.Loads.{IsBelow}

abbrev AreBelow : ℕ → List Mapped → Type 0
AreBelow p pages = AllByRecursion (IsBelow p) pages

more_below : (p q : ℕ) (pages : List Mapped) → p ≤ q → AreBelow p pages → AreBelow q pages
more_below p q [] le below = tt
more_below p q (m ∷ pages) le below = (omega (arith, below.0), more_below p q pages le below.1)

one_more : (m : Mapped) (pages : List Mapped) → AreBelow m.page pages → AreBelow (m.page + 1) (pages ++ m ∷ [])
one_more m [] below = (omega arith, tt)
one_more m (n ∷ pages) below = (omega (arith, below.0), one_more m pages below.1)

last_page : (m : Mapped) (pages : List Mapped) → AreBelow m.page pages → with_page m pages ≡ pages ++ m ∷ []
last_page m [] below = refl
last_page m (n ∷ pages) below = rw (lt-ltb n.page m.page below.0) (ap (λ (ms : List Mapped). n ∷ ms) (last_page m pages below.1))

pub last_pages : (n p b : ℕ) (kind : Kind) (pages : List Mapped) → AreBelow p pages → with_pages n p b kind pages ≡ pages ++ run n p b kind
last_pages zero p b kind pages below = sym (append-nil pages)
last_pages (suc n) p b kind pages below =
    let m : Mapped = record { page = p; block = b; kind = kind } in
    ap (with_pages n (p + 1) (b + 1) kind) (last_page m pages below)
    ∙ last_pages n (p + 1) (b + 1) kind (pages ++ m ∷ []) (one_more m pages below)
    ∙ append_assoc pages (m ∷ []) (run n (p + 1) (b + 1) kind)

none_from : (p q : ℕ) (pages : List Mapped) → p ≤ q → AreBelow p pages → mapped_at pages q ≡ None
none_from p q [] le below = refl
none_from p q (m ∷ pages) le below = elim (cases_Bool (m.page == q)) [
  | inl e ↦ let same : m.page ≡ q = eqb-true _ _ e in absurd (omega (arith, same, below.0))
  | inr ne ↦ rw ne (none_from p q pages le below.1)
]

pub none_behind : (p n : ℕ) (pages : List Mapped) → AreBelow p pages → AreAbsent p n pages
none_behind p n pages below q low high = none_from p q pages low below
