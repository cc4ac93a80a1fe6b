-- The pages that last are among those that there are.
use Rattle.std.proofs.Common.{Bool, true, false, cond, List, [], ◌∷◌, inl, inr, refl}
use Rattle.vx_extents.specs.Extents.{Mapped}
use Rattle.vx_space.specs.Leaving.{lasts, lasting}
use Rattle.vx_space.specs.Laws.{IsPart, IsSamePage}

same_page : (m : Mapped) → IsSamePage m m
same_page m = record { page = refl; block = refl; kind = inl refl }

-- a page more in the longer list
pub part_more : (ms : List Mapped) (m : Mapped) (ns : List Mapped) → IsPart ms ns → IsPart ms (m ∷ ns)
part_more [] m ns h = tt
part_more (n ∷ ms) m ns h = inr h

by_test : (t : Bool) (m : Mapped) (ms ns : List Mapped) → IsPart ms ns → IsPart (cond t (m ∷ ms) ms) (m ∷ ns)
by_test true m ms ns h = inl (same_page m, h)
by_test false m ms ns h = part_more ms m ns h

pub lasting_part : (noreserve : Bool) (pages : List Mapped) → IsPart (lasting noreserve pages) pages
lasting_part noreserve [] = tt
lasting_part noreserve (m ∷ pages) = by_test (lasts noreserve m) m (lasting noreserve pages) pages (lasting_part noreserve pages)
