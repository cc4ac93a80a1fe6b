-- The state that a sound image says is laid out, and the image says it.
use Rattle.std.proofs.Common.{◌≡◌, ℕ, ◌*◌, ◌<◌, ◌≤◌, true, [], Option, Some, None, refl, sym, subst, arith, lit≤}
use Rattle.std.specs.Prelude.{IfSome}
use Rattle.std.specs.Option.{option_map, option_and_then}
use Rattle.std.specs.FinMap as map_of
use Rattle.std.proofs.Math.Path.{fun_ext}
use Rattle.vx_base.specs.declared.kind.FileKind.{FileKind}
use Rattle.vx_base.specs.declared.kind.FileKind.TheVariants.{File, Directory}
use Rattle.vx_base.specs.declared.inode.InodeValue.{InodeValue}
use Rattle.vx_layout.specs.Places.{Volume, sectors_of}
use Rattle.vx_layout.specs.Supers.{IsSuper, volume_of}
use Rattle.vx_layout.specs.declared.superblock.Super.{Super}
use Rattle.vx_sound.specs.Said.{Image, inode_count, inode_said, claims_below}
use Rattle.vx_sound.specs.Facts.{AreClaimable}
use Rattle.vx_sound.specs.Reading.{Parsed, Stands, said, HasWholeBlocks, ReadingLaws, ClaimLaws}
use Rattle.vx_sound.specs.Sound.{IsSound}
use Rattle.vx_model.specs.Tree.{Node, Opened, handle_cmp}
use Rattle.vx_model.specs.State.{State}
use Rattle.vx_model.specs.Walks.{root}
use Rattle.vx_model.specs.Legal.{IfThere}
use Rattle.vx_model.specs.Contents.{parsed_of}
use Rattle.vx_model.specs.Reads.{node_by, node_said, ImageReadsAs}
use Rattle.vx_model.specs.LaidOut.{IsDirectoryNode, IsFileNode, IsLaidOut}
use Rattle.vx_said.specs.WholePages.{HasWholePages}
use Rattle.vx_said.proofs.States.{state, has_whole_blocks, nodes_are, is_node, held, values_are}
use Rattle.vx_said.proofs.Claiming.{once_used, owners_same, forms_same}

-- what is known of an image that passes the check, of these sizes
pub record IsSoundImage (v : Super) (device_sectors : ℕ) (image : Image) : Type 0 where
  pub sizes : IsSuper v
  pub room : sectors_of (volume_of v) ≤ device_sectors
  pub sound : IsSound true (volume_of v) image
  pub pages : HasWholePages (volume_of v) image

pub record Laws : Type 0 where
  pub reading : ReadingLaws
  pub claim : ClaimLaws
  pub once : (v : Volume) (image : Image) → IsSound true v image → AreClaimable v [] (claims_below v image (inode_count v))

module _ (laws : Laws) (v : Super) (device_sectors : ℕ) (image : Image) (is : IsSoundImage v device_sectors image) where
  abbrev w : Volume
  w = volume_of v

  abbrev pub s : State
  s = state v device_sectors image

  whole : HasWholeBlocks w
  whole = has_whole_blocks v device_sectors image

  root_low : root < 128 * v.units
  root_low = let some = is.sizes.units_low in omega (arith, some)

  directory_node : (k : FileKind) (i : InodeValue) → k ≡ Directory → IsDirectoryNode (node_by k w image root i)
  directory_node File i kind = absurd cc
  directory_node Directory i kind = tt

  root_by : (o : Option InodeValue) → inode_said w image root ≡ o → option_map (λ (i : InodeValue). i.inode.kind) o ≡ Some Directory → IfThere (option_and_then (node_said w image root) o) IsDirectoryNode
  root_by None e kind = absurd cc
  root_by (Some i) e kind =
      let known : i.inode.kind ≡ Directory = cc in
      subst (λ (o : Option Node). IfThere o IsDirectoryNode) (sym (is_node v device_sectors image whole is.sound root i e)) (directory_node i.inode.kind i known)

  pub has_root : IfThere (map_of.get s.tree.nodes root) IsDirectoryNode
  has_root =
      subst (λ (o : Option Node). IfThere o IsDirectoryNode) (sym (nodes_are v device_sectors image root))
      (root_by (inode_said w image root) refl ((is.sound.links root root_low).root_is refl).directory)

  pub laid_out : IsLaidOut s
  laid_out = record {
    nodes = held v device_sectors image whole is.sound is.pages;
    use_of_blocks = once_used laws.claim laws.once v device_sectors image whole is.sound;
    has_root = has_root;
    units = is.sizes.units_low;
    units_limit = is.sizes.units_high;
    log_blocks = is.sizes.log_high;
    limit = omega arith;
    room = is.room;
    handles = λ key. subst (λ (x : Option Opened). IfSome x (λ (o : Opened). IfThere (map_of.get s.tree.nodes o.ino) IsFileNode)) (sym (map_of.get-empty handle_cmp key)) tt;
    tunables = record { some = lit≤ tt; few = lit≤ tt };
  }

  -- all that the image says the state does
  same_said : said w image ≡ parsed_of s
  same_said = λ j. record {
    inodes = fun_ext (λ n. sym (values_are v device_sectors image whole is.sound n)) j;
    forms = fun_ext (λ b. sym (forms_same laws.claim laws.once v device_sectors image whole is.sound b)) j;
    claims = fun_ext (λ b. sym (owners_same laws.claim laws.once v device_sectors image whole is.sound b)) j;
  }

  pub stands : Stands w (parsed_of s) image
  stands = subst (λ (p : Parsed). Stands w p image) same_said (laws.reading.stands true w image whole is.sound)

  pub reads : ImageReadsAs w image s.tree
  reads = record { nodes = nodes_are v device_sectors image; rest = refl }
