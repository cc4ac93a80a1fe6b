-- Where the files of a sound image have no bytes, those of the state that it says have none.
use Rattle.std.proofs.Common.{◌≡◌, ℕ, true, List, [], ◌++◌, Option, Some, None, refl, sym, ap, ap₂, subst, ◌∙◌, arith}
use Rattle.std.specs.Prelude.{IfSome}
use Rattle.std.specs.Option.{option_and_then}
use Rattle.std.specs.List.{flat_map, AllByRecursion}
use Rattle.vx_base.specs.declared.kind.FileKind.{FileKind}
use Rattle.vx_base.specs.declared.kind.FileKind.TheVariants.{File, Directory}
use Rattle.vx_base.specs.declared.inode.InodeValue.{InodeValue}
use Rattle.vx_layout.specs.Places.{Volume}
use Rattle.vx_layout.specs.Supers.{volume_of}
use Rattle.vx_layout.specs.declared.superblock.Super.{Super}
use Rattle.vx_sound.specs.Said.{Image, inode_said, chain_said, extents_said, block_bytes}
use Rattle.vx_sound.specs.Reading.{HasWholeBlocks}
use Rattle.vx_sound.specs.Sound.{IsSound}
use Rattle.vx_sound.proofs.Sounds.{there}
use Rattle.vx_space.specs.Space.{Space, no_space, page_blocks}
use Rattle.vx_model.specs.Tree.{IsFile}
use Rattle.vx_model.specs.Tree.{File as FileNode}
use Rattle.vx_model.specs.Layout.{DirectoryBlock, block_numbers, maps_at}
use Rattle.vx_model.specs.Reads.{extent_pages, pages_said, node_by, node_said, bytes_of}
use Rattle.vx_model.specs.LaidOut.{HasNothing, IsPlain, IsPlainFile}
use Rattle.vx_said.specs.Plain.{IsPlain as HasNoBytes, IsPlainIfFile, HasPlainFiles}
use Rattle.vx_said.specs.WholePages.{IsWholePage, HasWholePages}
use Rattle.vx_said.proofs.Inodes.{no_extents, no_chain, count, has_link}
use Rattle.vx_said.proofs.States.{state, layout, space_by, maps_of, nodes_are, is_node, said_file, space_is, blocks_are}

module _ (v : Super) (device_sectors : ℕ) (image : Image) (whole : HasWholeBlocks (volume_of v)) (sound : IsSound true (volume_of v) image) (plain : HasPlainFiles (volume_of v) image) where
  abbrev w : Volume
  w = volume_of v

  module _ (n : ℕ) (i : InodeValue) (e : inode_said w image n ≡ Some i) (kind : i.inode.kind ≡ File) where
    no_bytes : HasNoBytes i
    no_bytes = subst (λ (k : FileKind). IsPlainIfFile k i) kind (there (λ (j : InodeValue). IsPlainIfFile j.inode.kind j) (inode_said w image n) i e (plain n))

    no_pages : pages_said w image i ≡ []
    no_pages = ap (flat_map extent_pages) (no_extents (extents_said w image i) (count v image whole sound n i e ∙ no_bytes.extents))

    no_maps : chain_said w image i ≡ []
    no_maps = no_chain v image whole sound n i e (let none = no_bytes.extents in omega (arith, none))

    nothing_by : space_by v device_sectors image File i ≡ no_space
    nothing_by = λ j. record { settled = no_pages j; present = no_pages j; size = no_bytes.size j }

    nothing : HasNothing (layout v device_sectors image) n
    nothing = record {
      none =
          ap₂ (λ (ds : List DirectoryBlock) (x : Space). block_numbers ds ++ (page_blocks x.present ++ maps_at (layout v device_sectors image) n))
          (blocks_are v device_sectors image whole sound n i e File kind) (space_is v device_sectors image whole sound n i e File kind ∙ nothing_by)
          ∙ ap (maps_of v device_sectors image) e ∙ no_maps;
      space = space_is v device_sectors image whole sound n i e File kind ∙ nothing_by;
    }

    empty : bytes_of (block_bytes w image) (pages_said w image i) i.inode.size ≡ []
    unfolding bytes_of
    empty = ap (bytes_of (block_bytes w image) (pages_said w image i)) no_bytes.size

    plain_there : IsPlainFile (said_file v device_sectors image whole sound n i e) × HasNothing (layout v device_sectors image) n
    plain_there = (record { some_links = has_link v image whole sound n i e; attrs = no_bytes.attrs; bytes = empty }, nothing)

  plain_by : (k : FileKind) (n : ℕ) (i : InodeValue) (e : inode_said w image n ≡ Some i) → i.inode.kind ≡ k → (f : FileNode) → Some (node_by k w image n i) ≡ Some (IsFile f)
      → IsPlainFile f × HasNothing (layout v device_sectors image) n
  plain_by File n i e kind f same = let node : said_file v device_sectors image whole sound n i e ≡ f = cc in subst (λ (g : FileNode). IsPlainFile g × HasNothing (layout v device_sectors image) n) node (plain_there n i e kind)
  plain_by Directory n i e kind f same = absurd cc

  file_by : (n : ℕ) (o : Option InodeValue) (f : FileNode) → inode_said w image n ≡ o → option_and_then (node_said w image n) o ≡ Some (IsFile f) → IsPlainFile f × HasNothing (layout v device_sectors image) n
  file_by n None f e is_file = absurd cc
  file_by n (Some i) f e is_file = plain_by i.inode.kind n i e refl f (sym (is_node v device_sectors image whole sound n i e) ∙ is_file)

  pub is_plain : IsPlain (state v device_sectors image)
  is_plain = record { files = λ n f is_file. file_by n (inode_said w image n) f refl (sym (nodes_are v device_sectors image n) ∙ is_file); rest = refl }

  whole_by : (n : ℕ) (o : Option InodeValue) → inode_said w image n ≡ o → IfSome o (λ i. i.inode.kind ≡ File → AllByRecursion (IsWholePage w image) (pages_said w image i))
  whole_by n None e = tt
  whole_by n (Some i) e = λ kind. subst (AllByRecursion (IsWholePage w image)) (sym (no_pages n i e kind)) tt

  -- files without blocks have whole ones
  pub whole_pages : HasWholePages w image
  whole_pages n = whole_by n (inode_said w image n) refl
