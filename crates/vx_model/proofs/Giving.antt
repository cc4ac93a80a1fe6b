-- What a file gives up is what it had.
use Rattle.std.proofs.Common.{◌≡◌, ℕ, ◌+◌, ◌≤◌, Bool, true, false, not, cond, List, [], ◌∷◌, ◌++◌, take, drop, inl, inr, refl, ap, arith}
use Rattle.std.specs.Prelude.{filter}
use Rattle.std.proofs.lemmas.List.{take-append-drop}
use Rattle.vx_extents.specs.Extents.{Mapped}
use Rattle.vx_space.specs.Space.{Space, page_blocks}
use Rattle.vx_space.specs.Leaving.{pages_but, waiting_then}
use Rattle.vx_space.specs.Laws.{IsPart}
use Rattle.vx_space.specs.Uses.{uses}
use Rattle.vx_model.proofs.Uses.{one, uses_append}

module _ (goes : ℕ → Bool) (b : ℕ) where
  abbrev going : List Mapped → List Mapped
  going ms = filter (λ (m : Mapped). goes m.page) ms

  abbrev count : List Mapped → ℕ
  count ms = uses (page_blocks ms) b

  split_by : (m : Mapped) (ns gs ms : List Mapped) (t : Bool) → count ns + count gs ≡ count ms → count (cond (not t) (m ∷ ns) ns) + count (cond t (m ∷ gs) gs) ≡ one b m.block + count ms
  split_by m ns gs ms true h = omega (arith, h)
  split_by m ns gs ms false h = omega (arith, h)

  -- what stays and what goes are all
  split : (ms : List Mapped) → count (pages_but goes ms) + count (going ms) ≡ count ms
  split [] = refl
  split (m ∷ ms) = split_by m (pages_but goes ms) (going ms) ms (goes m.page) (split ms)

  went_by : (m n : Mapped) (ms ns : List Mapped) (t u : Bool) → t ≡ u → m.block ≡ n.block → count ms ≤ count ns → count (cond t (m ∷ ms) ms) ≤ count (cond u (n ∷ ns) ns)
  went_by m n ms ns true true e same h = (let here : one b m.block ≡ one b n.block = ap (one b) same in omega (arith, h, here))
  went_by m n ms ns true false e same h = absurd cc
  went_by m n ms ns false true e same h = absurd cc
  went_by m n ms ns false false e same h = h

  more_by : (n : Mapped) (ms ns : List Mapped) (u : Bool) → count ms ≤ count ns → count ms ≤ count (cond u (n ∷ ns) ns)
  more_by n ms ns true h = omega (arith, h)
  more_by n ms ns false h = h

  -- the settled pages that go are among the present ones that go
  went : (ms ns : List Mapped) → IsPart ms ns → count (going ms) ≤ count (going ns)
  went [] ns h = omega arith
  went (m ∷ ms) [] h = absurd h
  went (m ∷ ms) (n ∷ ns) (inl h) = went_by m n (going ms) (going ns) (goes m.page) (goes n.page) (ap goes h.0.page) h.0.block (went ms ns h.1)
  went (m ∷ ms) (n ∷ ns) (inr h) = more_by n (going (m ∷ ms)) (going ns) (goes n.page) (went (m ∷ ms) ns h)

  pub but_less : (x : Space) (maps : List ℕ) → IsPart x.settled x.present
      → uses (page_blocks (pages_but goes x.present)) b + uses maps b + uses (waiting_then goes x) b ≤ uses (page_blocks x.present) b + uses maps b
  but_less x maps part = let all = split x.present in let some = went x.settled x.present part in omega (arith, all, some)

pub maps_less : (x : Space) (maps : List ℕ) (k b : ℕ) → uses (page_blocks x.present) b + uses (take k maps) b + uses (drop k maps) b ≤ uses (page_blocks x.present) b + uses maps b
maps_less x maps k b =
    let parts = uses_append (take k maps) (drop k maps) b in
    let all : uses (take k maps ++ drop k maps) b ≡ uses maps b = ap (λ (ms : List ℕ). uses ms b) (take-append-drop k maps) in
    omega (arith, parts, all)
