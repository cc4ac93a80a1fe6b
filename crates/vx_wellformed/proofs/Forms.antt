-- How long the spelling of an inode, of a directory's block and of a map block is.
use Rattle.std.proofs.Common.{◌≡◌, ℕ, ◌+◌, ◌-◌, ◌*◌, ◌<◌, List, [], ◌∷◌, ◌++◌, length, replicate, drop, Option, Some, None, refl, arith, lit<, lit≤, length-append}
use Rattle.std.specs.Prelude.{unwrap_or}
use Rattle.std.specs.Int.{w32, to_le_bytes}
use Rattle.std.specs.List.{flat_map}
use Rattle.std.proofs.lemmas.List.{length-replicate, length-take, length-drop}
use Rattle.vx_base.specs.declared.inode.Extent.{Extent}
use Rattle.vx_base.specs.declared.inode.InodeValue.{InodeValue}
use Rattle.vx_base.specs.declared.inode.DirEntry.{DirEntry}
use Rattle.vx_layout.specs.Places.{sector_part}
use Rattle.vx_layout.specs.Inodes.{IsInode, IsSlot, layout1, extent_bytes, place_bytes, inode_head, inode_bytes, slot_bytes}
use Rattle.vx_layout.specs.Dirs.{IsDir, entries_bytes, dir_bytes}
use Rattle.vx_layout.specs.Maps.{IsMap, MapBlock, map_bytes, map_head}
use Rattle.vx_sound.specs.Reading.{Form, Entries, Extents, form_bytes, IsForm, HasWholeBlocks}
use Rattle.vx_model.specs.Layout.{Layout, volume}

pub whole_blocks : (l : Layout) → HasWholeBlocks (volume l)
whole_blocks l = record { volume = record { some = lit< tt; even = refl }; whole = refl; high = lit≤ tt }

-- ---- inodes

length-extent : (e : Extent) → length (extent_bytes e) ≡ 16
unfolding extent_bytes
length-extent e = refl

length-place : (p : Option Extent) → length (place_bytes p) ≡ 16
length-place None = refl
length-place (Some e) = length-extent e

length-places : (ps : List (Option Extent)) → length (flat_map place_bytes ps) ≡ 16 * length ps
length-places [] = refl
length-places (p ∷ ps) = omega (arith, length-append (place_bytes p) (flat_map place_bytes ps), length-place p, length-places ps)

length-head : (i : InodeValue) → length (inode_head i) ≡ 32
unfolding inode_head
length-head i = refl

length-inode : (i : InodeValue) → IsInode layout1 i → length (inode_bytes i) ≡ 256
unfolding inode_bytes
length-inode i is =
    let six : length i.first ≡ 6 = is.six in
    omega (
      arith,
      length-append (inode_head i ++ flat_map place_bytes i.first ++ to_le_bytes w32 (unwrap_or i.map 0)) (replicate 124 0),
      length-append (inode_head i ++ flat_map place_bytes i.first) (to_le_bytes w32 (unwrap_or i.map 0)),
      length-append (inode_head i) (flat_map place_bytes i.first),
      length-head i,
      length-places i.first,
    )

pub length-slot : (o : Option InodeValue) → IsSlot layout1 o → length (slot_bytes o) ≡ 256
length-slot None is = refl
length-slot (Some i) is = length-inode i is

-- ---- blocks

length-dir : (es : List DirEntry) → IsDir 1024 es → length (dir_bytes 1024 es) ≡ 1024
unfolding dir_bytes
length-dir es is =
    omega (arith, is.room, length-append (entries_bytes es) (replicate (1024 - (4 + length (entries_bytes es))) 0), length-replicate {A = ℕ} (1024 - (4 + length (entries_bytes es))) 0)

length-extents : (es : List Extent) → length (flat_map extent_bytes es) ≡ 16 * length es
length-extents [] = refl
length-extents (e ∷ es) = omega (arith, length-append (extent_bytes e) (flat_map extent_bytes es), length-extent e, length-extents es)

length-map-head : (m : MapBlock) → length (map_head m) ≡ 16
unfolding map_head
length-map-head m = refl

length-map : (m : MapBlock) → IsMap 1024 m → length (map_bytes 1024 m) ≡ 1024
unfolding map_bytes
length-map m is =
    omega (
      arith,
      is.most,
      length-append (map_head m ++ flat_map extent_bytes m.extents) (replicate (1024 - (16 + 16 * length m.extents)) 0),
      length-append (map_head m) (flat_map extent_bytes m.extents),
      length-map-head m,
      length-extents m.extents,
      length-replicate {A = ℕ} (1024 - (16 + 16 * length m.extents)) 0,
    )

length-form : (x : Form) → IsForm 1024 x → length (form_bytes 1024 x) ≡ 1024
length-form (Entries es) is = length-dir es is
length-form (Extents m) is = length-map m is

pub length-part : (x : Form) (i : ℕ) → IsForm 1024 x → i < 2 → length (sector_part i (form_bytes 1024 x)) ≡ 512
unfolding sector_part
length-part x i is low = omega (arith, length-form x is, length-drop (512 * i) (form_bytes 1024 x), length-take 512 (drop (512 * i) (form_bytes 1024 x)))
