-- How many times a block is used.
use Rattle.std.proofs.Common.{◌≡◌, ℕ, ◌+◌, Bool, true, false, cond, List, [], ◌∷◌, ◌++◌, refl, ap, arith}
use Rattle.std.specs.Prelude.{◌==◌, nat_lt}
use Rattle.vx_base.specs.declared.kind.Kind.TheVariants.{Data}
use Rattle.vx_extents.specs.Extents.{Mapped, with_page}
use Rattle.vx_extents.specs.Uses.{used_pages}
use Rattle.vx_space.specs.Space.{page_blocks}
use Rattle.vx_space.specs.Uses.{uses}

-- one more use of c by b
abbrev pub one : ℕ → ℕ → ℕ
one b c = cond (b == c) 1 0

pub uses_append : (xs ys : List ℕ) (b : ℕ) → uses (xs ++ ys) b ≡ uses xs b + uses ys b
uses_append [] ys b = omega arith
uses_append (x ∷ xs) ys b = let rest = uses_append xs ys b in omega (arith, rest)

by_page : (m n : Mapped) (pages : List Mapped) (b : ℕ) (t : Bool) → uses (page_blocks (with_page m pages)) b ≡ one b m.block + uses (page_blocks pages) b
    → uses (page_blocks (cond t (n ∷ with_page m pages) (m ∷ n ∷ pages))) b ≡ one b m.block + (one b n.block + uses (page_blocks pages) b)
by_page m n pages b true h = omega (arith, h)
by_page m n pages b false h = omega arith

pub page_uses : (m : Mapped) (pages : List Mapped) (b : ℕ) → uses (page_blocks (with_page m pages)) b ≡ one b m.block + uses (page_blocks pages) b
page_uses m [] b = refl
page_uses m (n ∷ pages) b = by_page m n pages b (nat_lt n.page m.page) (page_uses m pages b)

data_by : (p : ℕ) (m : Mapped) (pages : List Mapped) (t : Bool) → page_blocks (used_pages p pages) ≡ page_blocks pages
    → page_blocks (cond t (record m { kind = Data } ∷ pages) (m ∷ used_pages p pages)) ≡ m.block ∷ page_blocks pages
data_by p m pages true h = refl
data_by p m pages false h = ap (λ (bs : List ℕ). m.block ∷ bs) h

pub data_blocks : (p : ℕ) (pages : List Mapped) → page_blocks (used_pages p pages) ≡ page_blocks pages
data_blocks p [] = refl
data_blocks p (m ∷ pages) = data_by p m pages (m.page == p) (data_blocks p pages)
