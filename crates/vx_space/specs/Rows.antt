-- What the worked rows are made of.
use Rattle.std.specs.Prelude.{ℕ, zero, suc, ◌+◌, ◌-◌, ◌*◌, Bool, ◌&&◌, nat_le, nat_lt, List, [], ◌∷◌, ◌++◌, if◌then◌else◌}
use Rattle.vx_base.specs.declared.kind.Kind.TheVariants.{Data}
use Rattle.vx_layout.specs.Places.{Volume}
use Rattle.vx_extents.specs.Extents.{Mapped}

-- two files that were written a page each in turn: where the first one's pages are
abbrev pub alternate_block : ℕ → ℕ
alternate_block p = if nat_lt p 7 then 548 + 2 * p else (if nat_lt p 70 then 564 + 2 * (p - 7) else 692 + 2 * (p - 70))

abbrev pub alternate : ℕ → List Mapped
alternate zero = []
alternate (suc n) = alternate n ++ record { page = n; block = alternate_block n; kind = Data } ∷ []

abbrev pub one_unit : Volume
one_unit = record { block = 1024; first = 514; units = 1 }

-- free from a block on, to the end of the one unit
abbrev pub free_from : ℕ → ℕ → Bool
free_from b c = nat_le b c && nat_lt c 4610
