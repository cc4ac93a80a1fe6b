-- The rules of a file's attributes.
use Rattle.std.specs.Prelude.{ℕ, ◌*◌, Bool, ◌&&◌, ◌||◌, not, ◌==◌, nat_lt, if◌then◌else◌, bit_and, Result, Ok, Err}
use Rattle.vx_base.specs.declared.call.ExtAttrs.{ExtAttrs}
use Rattle.vx_base.specs.declared.geom.Geom.{Geom}
pub use Rattle.vx_base.specs.Rules.{layout1}
use Rattle.vx_inode.specs.declared.attributes.BadAttr.{BadAttr}

-- the flags are 1 align, 2 contig, 4 noextend, 8 noreserve, 16 trim, 32 chgsize
abbrev pub has_flag : ExtAttrs → ℕ → Bool
has_flag a flag = not (bit_and a.flags flag == 0)

-- the reservation has more than 65,536 blocks, or more bytes than a file may have
abbrev pub reserves_too_much : Geom → ExtAttrs → Bool
reserves_too_much g a = nat_lt 65536 a.reserve || nat_lt g.limit (a.reserve * g.block)

abbrev pub broken : ℕ → Result (Unit {0}) BadAttr
broken rule = Err (record { which = rule })

-- the rules in their order; the lowest broken one is answered
abbrev pub attr_check : Geom → Bool → ExtAttrs → Result (Unit {0}) BadAttr
attr_check g has_blocks a =
    if nat_lt g.per_unit a.fixed then broken 1
    else (if reserves_too_much g a then broken 2
    else (if has_flag a 1 && a.fixed == 0 then broken 3
    else (if has_flag a 2 && a.reserve == 0 then broken 4
    else (if has_flag a 2 && has_blocks then broken 5
    else (if has_flag a 8 && (has_flag a 32 || has_blocks) then broken 6
    else Ok tt)))))
