-- The lengths of an inode's parts.
use Rattle.std.proofs.Common.{◌≡◌, ℕ, ◌+◌, ◌-◌, List, ◌++◌, length, replicate, refl, arith, length-append}
use Rattle.std.specs.Prelude.{unwrap_or}
use Rattle.std.specs.Int.{w32, to_le_bytes}
use Rattle.std.specs.List.{flat_map}
use Rattle.vx_base.specs.declared.inode.InodeValue.{InodeValue}
use Rattle.vx_layout.specs.Inodes.{inode_head, place_bytes}

-- a text with the zeros that finish puts behind it
pub padded : (s t : List ℕ) (n k : ℕ) → s ≡ t → length t + k ≡ n → s ++ replicate (n - length s) 0 ≡ t ++ replicate k 0
padded s t n k e len =
    let left : n - length t ≡ k = omega arith in
    rw (e, left) refl

pub length-head : (v : InodeValue) → length (inode_head v) ≡ 32
unfolding inode_head
length-head v = refl

pub length-text : (v : InodeValue) → length (flat_map place_bytes v.first) ≡ 96 → length (inode_head v ++ flat_map place_bytes v.first ++ to_le_bytes w32 (unwrap_or v.map 0)) ≡ 132
length-text v six = omega (arith, length-append (inode_head v ++ flat_map place_bytes v.first) (to_le_bytes w32 (unwrap_or v.map 0)), length-append (inode_head v) (flat_map place_bytes v.first), length-head v)
