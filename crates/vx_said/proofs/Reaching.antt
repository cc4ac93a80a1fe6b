-- Each directory of the state that a sound image says is reached from the root, so none is below itself.
use Rattle.std.proofs.Common.{◌≡◌, ◌≢◌, ℕ, zero, suc, ◌<◌, ◌≤◌, true, List, [], ◌∷◌, ◌++◌, length, map, Option, Some, None, Ok, inl, inr, refl, sym, ap, ◌∙◌, arith, length-append}
use Rattle.std.specs.Prelude.{slice_index_or}
use Rattle.std.specs.Option.{option_and_then}
use Rattle.std.specs.FinMap as map_of
use Rattle.std.proofs.lemmas.Bool.{cases_eq}
use Rattle.std.proofs.lemmas.List.{length-map}
use Rattle.vx_base.specs.Paths.{FileName}
use Rattle.vx_base.specs.declared.kind.FileKind.{FileKind}
use Rattle.vx_base.specs.declared.kind.FileKind.TheVariants.{File, Directory}
use Rattle.vx_base.specs.declared.inode.DirEntry.{DirEntry}
use Rattle.vx_base.specs.declared.inode.InodeValue.{InodeValue}
use Rattle.vx_layout.specs.Places.{Volume}
use Rattle.vx_layout.specs.Supers.{volume_of}
use Rattle.vx_layout.specs.declared.superblock.Super.{Super}
use Rattle.vx_sound.specs.Said.{Image, inode_said}
use Rattle.vx_sound.specs.Said as said
use Rattle.vx_sound.specs.Facts.{ReachedIn, FitNames, HasOneName}
use Rattle.vx_sound.proofs.Sounds.{there}
use Rattle.vx_model.specs.Tree.{Nodes, Directory as DirectoryNode, IsDirectory}
use Rattle.vx_model.specs.Walks.{root, walk}
use Rattle.vx_model.specs.Reads.{node_by, node_said}
use Rattle.vx_model.specs.NameLaws.{HasNoLoops}
use Rattle.vx_model.proofs.Lookups.{walk_first, walk_append}
use Rattle.vx_model.proofs.NameChanges.{named_directory}
use Rattle.vx_model.proofs.Walking.{walk_push}
use Rattle.vx_model.proofs.Loops.{same_path}
use Rattle.vx_wellformed.proofs.EntryNames.{naming, naming_first}
use Rattle.vx_wellformed.proofs.Naming.{one_same, counted_named}
use Rattle.vx_said.proofs.Inodes.{low}
use Rattle.vx_said.proofs.States.{state, has_whole_blocks, nodes_are, is_node}
use Rattle.vx_said.proofs.LayingOut.{IsSoundImage}
use Rattle.vx_said.proofs.Names.{counted, has_links}

-- an entry that means the inode is counted
entry_counted : (i : ℕ) (es : List DirEntry) (k : ℕ) → k < length es → slice_index_or (map (λ (e : DirEntry). e.ino) es) k i ≡ i → 1 ≤ naming i es
entry_counted i [] k less at = absurd (omega (arith, less))
entry_counted i (e ∷ es) zero less at = let first = naming_first i e es in let same = one_same e.ino i at in omega (arith, first, same)
entry_counted i (e ∷ es) (suc k) less at = let first = naming_first i e es in let rest = entry_counted i es k (omega (arith, less)) at in omega (arith, first, rest)

module _ (v : Super) (device_sectors : ℕ) (image : Image) (is : IsSoundImage v device_sectors image) where
  abbrev w : Volume
  w = volume_of v

  abbrev nodes : Nodes
  nodes = (state v device_sectors image).tree.nodes

  -- names lead from the root to the inode
  record IsWalked (n : ℕ) : Type 0 where
    names : List FileName
    walked : walk nodes root names ≡ Ok n

  way_by : (k n : ℕ) → ReachedIn w image k n → IsWalked n
  way_by zero n way = record { names = []; walked = ap Ok (sym way) }
  way_by (suc k) n way =
      let above = way_by k way.0 way.1 in
      let some = entry_counted n (said.entries_of w image way.0) way.2.0 (let less = way.2.1 in let long = length-map (said.entries_of w image way.0) (λ (e : DirEntry). e.ino) in omega (arith, less, long)) way.2.2 in
      let same = counted v device_sectors image is n way.0 in
      let name = counted_named n (map_of.get nodes way.0) (omega (arith, some, same)) in
      record { names = above.names ++ name.0 ∷ []; walked = walk_push nodes root above.names name.0 way.0 n above.walked name.1 }

  one_name : (n : ℕ) (j : InodeValue) (k : FileKind) (d : DirectoryNode) → FitNames true w image n j k → node_by k w image n j ≡ IsDirectory d → HasOneName w image n
  one_name n j File d fit e = absurd cc
  one_name n j Directory d fit e = fit

  reached_by : (n : ℕ) (o : Option InodeValue) (d : DirectoryNode) → n ≢ root → inode_said w image n ≡ o → option_and_then (node_said w image n) o ≡ Some (IsDirectory d) → IsWalked n
  reached_by n None d ne e there_ = absurd cc
  reached_by n (Some j) d ne e there_ =
      let node : Some (node_by j.inode.kind w image n j) ≡ Some (IsDirectory d) = sym (is_node v device_sectors image (has_whole_blocks v device_sectors image) is.sound n j e) ∙ there_ in
      let fit = there (λ (i : InodeValue). FitNames true w image n i i.inode.kind) (inode_said w image n) j e ((is.sound.links n (low v image (has_whole_blocks v device_sectors image) is.sound n j e)).other ne) in
      let way = (one_name n j j.inode.kind d fit cc).reached in
      way_by way.names n way.way

  reached : (n : ℕ) (d : DirectoryNode) → map_of.get nodes n ≡ Some (IsDirectory d) → IsWalked n
  reached n d there_ = elim (cases_eq n root) [
    | inl at ↦ record { names = []; walked = ap Ok (sym at) }
    | inr ne ↦ reached_by n (inode_said w image n) d ne refl (sym (nodes_are v device_sectors image n) ∙ there_)
  ]

  -- one path leads to a directory, and none leads on from it to itself
  pub no_loops : HasNoLoops nodes
  no_loops ino loop =
      let first = walk_first nodes ino loop.first loop.rest ino loop.walked in
      let d = named_directory loop.first first.0 (map_of.get nodes ino) first.1 in
      let way = reached ino d.0 d.1 in
      let longer = walk_append nodes root way.names (loop.first ∷ loop.rest) ino way.walked ∙ loop.walked in
      let same = same_path (state v device_sectors image) (has_links v device_sectors image is) way.names (way.names ++ loop.first ∷ loop.rest) ino d.0 d.1 way.walked longer in
      let long = ap (λ (names : List FileName). length names) same in
      let both = length-append way.names (loop.first ∷ loop.rest) in
      absurd (omega (arith, long, both))
