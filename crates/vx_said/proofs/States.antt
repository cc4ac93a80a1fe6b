-- The state that a sound image says: its nodes and their blocks.
use Rattle.std.proofs.Common.{◌≡◌, ℕ, suc, ◌+◌, ◌*◌, ◌<◌, ◌≤◌, Bool, true, false, cond, List, [], ◌∷◌, ◌++◌, length, map, take, get_or, Option, Some, None, refl, sym, ap, subst, ◌∙◌, arith}
use Rattle.std.specs.Prelude.{◌==◌}
use Rattle.std.specs.Option.{option_map, option_and_then, unwrap_or}
use Rattle.std.specs.List.{flat_map, AllByRecursion}
use Rattle.std.specs.FinMap as map_of
use Rattle.std.proofs.lemmas.Bool.{ne_eqb, le-ltb}
use Rattle.std.proofs.lemmas.List.{append-nil, take_all, length-map}
use Rattle.vx_base.specs.declared.kind.FileKind.{FileKind}
use Rattle.vx_base.specs.declared.kind.FileKind.TheVariants.{File, Directory}
use Rattle.vx_base.specs.declared.inode.DirEntry.{DirEntry}
use Rattle.vx_base.specs.declared.inode.Extent.{Extent}
use Rattle.vx_base.specs.declared.inode.InodeValue.{InodeValue}
use Rattle.vx_layout.specs.Places.{Volume}
use Rattle.vx_layout.specs.Supers.{volume_of}
use Rattle.vx_layout.specs.declared.superblock.Super.{Super}
use Rattle.vx_layout.specs.Inodes.{layout1, slot_at}
use Rattle.vx_layout.specs.Dirs.{IsDir, dir_at}
use Rattle.vx_sound.specs.Said.{Image, inode_count, inode_bytes_at, inode_said, chain_said, extents_said, blocks_said, blocks_by_kind, directory_blocks, entries_said, block_bytes}
use Rattle.vx_sound.specs.Said as said
use Rattle.vx_sound.specs.Facts.{AreEntriesRight}
use Rattle.vx_sound.specs.Reading.{HasWholeBlocks}
use Rattle.vx_sound.specs.Sound.{IsSound}
use Rattle.vx_sound.proofs.Sounds.{there}
use Rattle.vx_extents.specs.Extents.{stretches, chain_len, extent_count}
use Rattle.vx_space.specs.Space.{Space, no_space, page_blocks, maps_for}
use Rattle.vx_model.specs.Tree.{Node, IsFile, tree_of_nodes}
use Rattle.vx_model.specs.Tree.{File as FileNode}
use Rattle.vx_model.specs.Layout.{DirectoryBlock, Layout, blocks_at, space_at, maps_at, block_numbers, pages_from, settled_at, settled_maps, first_of}
use Rattle.vx_model.specs.State.{State}
use Rattle.vx_model.specs.State as limits
use Rattle.vx_model.specs.Contents.{settled_of, inode_for, inode_value, places}
use Rattle.vx_model.specs.Settled.{settled_node, IsSettledTree}
use Rattle.vx_model.specs.Shapes.{kept_attrs}
use Rattle.vx_model.specs.Reads.{node_by, node_said, entries_from, pages_said, bytes_of}
use Rattle.vx_model.specs.LaidOut.{BeginsBelow, HasNothing, IsSpaceOf, IsDirectoryOf, IsNodeOf, IsHeld, IsOnDevice}
use Rattle.vx_model.specs.LaidOut as laid
use Rattle.vx_model.proofs.Spelled.{whole_blocks}
use Rattle.vx_model.proofs.Stretching.{chain_fills}
use Rattle.vx_wellformed.specs.WellFormed.{AreNamed}
use Rattle.vx_said.specs.WholePages.{IsWholePage, HasWholePages}
use Rattle.vx_said.proofs.Stretches.{block_with}
use Rattle.vx_said.proofs.Collecting.{collected, collected_all}
use Rattle.vx_said.proofs.Pages.{extents_rise, begin_from_0, all_below, all_last, part_itself, bytes_length}
use Rattle.vx_said.proofs.Inodes.{again, low, high, fields, extents_right, chain_length, chain_first, places_are, count, pages_stretch, directory_pages, directory_extents, file_is, directory_is, has_link}

module _ (v : Super) (device_sectors : ℕ) (image : Image) where
  abbrev pub w : Volume
  w = volume_of v

  abbrev pub node_at : ℕ → Option Node
  node_at n = option_and_then (node_said w image n) (inode_said w image n)

  abbrev pub blocks_of : Option InodeValue → List DirectoryBlock
  blocks_of o = map (block_with (entries_said w image)) (directory_blocks w image o)

  -- a file's pages are all on the device
  abbrev pub space_by : FileKind → InodeValue → Space
  space_by File i = record { settled = pages_said w image i; present = pages_said w image i; size = i.inode.size }
  space_by Directory i = no_space

  abbrev pub space_of : Option InodeValue → Space
  space_of None = no_space
  space_of (Some i) = space_by i.inode.kind i

  abbrev pub maps_of : Option InodeValue → List ℕ
  maps_of None = []
  maps_of (Some i) = chain_said w image i

  abbrev pub layout : Layout
  layout = record {
    log_blocks = v.log_blocks;
    units = v.units;
    device_sectors = device_sectors;
    directory_limit = limits.directory_blocks;
    directories = λ n. blocks_of (inode_said w image n);
    files = λ n. space_of (inode_said w image n);
    maps = λ n. maps_of (inode_said w image n);
    pending = λ b. None;
  }

  abbrev pub state : State
  state = record { tree = tree_of_nodes (collected node_at (128 * v.units)); layout = layout }

  pub has_whole_blocks : HasWholeBlocks w
  has_whole_blocks = whole_blocks layout

  none_past : (n : ℕ) → inode_count w ≤ n → inode_said w image n ≡ None
  unfolding inode_said
  none_past n past = ap (λ (t : Bool). cond t (option_and_then (λ (o : Option InodeValue). o) (slot_at layout1 (inode_bytes_at w image n))) None) (le-ltb n (inode_count w) past)

  -- ---- the tree

  pub nodes_are : (n : ℕ) → map_of.get state.tree.nodes n ≡ node_at n
  nodes_are = collected_all node_at (128 * v.units) (λ q past. ap (option_and_then (node_said w image q)) (none_past q past))

  entries_by : (bs : List ℕ) → laid.entries_of (map (block_with (entries_said w image)) bs) ≡ flat_map (entries_said w image) bs
  entries_by [] = refl
  entries_by (b ∷ bs) = ap (λ (es : List DirEntry). entries_said w image b ++ es) (entries_by bs)

  pub entries_are : (n : ℕ) → said.entries_of w image n ≡ laid.entries_of (blocks_at layout n)
  unfolding said.entries_of
  entries_are n = sym (entries_by (directory_blocks w image (inode_said w image n)))

  all_blocks_by : (P : List DirEntry → Type 0) (bs : List ℕ) → ((k : ℕ) → k < length bs → P (entries_said w image (get_or bs k 0)))
      → AllByRecursion (λ (d : DirectoryBlock). P d.entries) (map (block_with (entries_said w image)) bs)
  all_blocks_by P [] each = tt
  all_blocks_by P (b ∷ bs) each = (each 0 (omega arith), all_blocks_by P bs (λ k less. each (suc k) (omega (arith, less))))

  module _ (whole : HasWholeBlocks w) (sound : IsSound true w image) where
    -- the entries of a block are those that it spells
    pub entries_spelled : (n k : ℕ) → (r : AreEntriesRight w image n k) → entries_said w image (get_or (directory_blocks w image (inode_said w image n)) k 0) ≡ r.entries
    entries_spelled n k r = ap (λ (o : Option (List DirEntry)). unwrap_or o []) (ap dir_at r.spelled ∙ (again v image whole sound).dirs_again r.entries r.is_dir)

    module _ (n : ℕ) (i : InodeValue) (e : inode_said w image n ≡ Some i) where
      pub space_is : (k : FileKind) → i.inode.kind ≡ k → space_at layout n ≡ space_by k i
      space_is k kind = ap space_of e ∙ ap (λ (k : FileKind). space_by k i) kind

      pub blocks_are : (k : FileKind) → i.inode.kind ≡ k → blocks_at layout n ≡ map (block_with (entries_said w image)) (blocks_by_kind w image i k)
      blocks_are k kind = ap blocks_of e ∙ ap (λ (k : FileKind). map (block_with (entries_said w image)) (blocks_by_kind w image i k)) kind

      pages_by : (k : FileKind) → i.inode.kind ≡ k → pages_from 0 (map (block_with (entries_said w image)) (blocks_by_kind w image i k)) ++ (space_by k i).settled ≡ pages_said w image i
      pages_by File kind = refl
      pages_by Directory kind =
          append-nil (pages_from 0 (map (block_with (entries_said w image)) (blocks_said w image i))) ∙ directory_pages v image whole sound n i e kind

      -- the pages on the device are those that the image says
      pub settled_pages : settled_at layout n ≡ pages_said w image i
      settled_pages = ap (λ (o : Option InodeValue). pages_from 0 (blocks_of o) ++ (space_of o).settled) e ∙ pages_by i.inode.kind refl

      pub settled_extents : stretches (settled_at layout n) ≡ extents_said w image i
      settled_extents = ap stretches settled_pages ∙ pages_stretch v image whole sound n i e

      maps_needed : maps_for (settled_at layout n) ≡ i.maps
      maps_needed = ap (λ (es : List Extent). chain_len 63 (length es)) settled_extents ∙ ap (chain_len 63) (count v image whole sound n i e) ∙ sym (fields v image whole sound n i e).maps

      pub settled_chain : settled_maps layout n ≡ chain_said w image i
      settled_chain =
          ap (λ (o : Option InodeValue). take (maps_for (settled_at layout n)) (maps_of o)) e
          ∙ take_all (maps_for (settled_at layout n)) (chain_said w image i) (let needed = maps_needed in let long = chain_length v image whole sound n i e in omega (arith, needed, long))

      chain_held : length (maps_at layout n) ≡ i.maps
      chain_held = ap (λ (o : Option InodeValue). length (maps_of o)) e ∙ chain_length v image whole sound n i e

      -- a directory has as many blocks as its size says
      block_count : i.inode.kind ≡ Directory → length (blocks_at layout n) ≡ length (blocks_said w image i)
      block_count kind = ap (λ (ds : List DirectoryBlock). length ds) (blocks_are Directory kind) ∙ length-map (blocks_said w image i) (block_with (entries_said w image))

      size_by : (k : FileKind) → i.inode.kind ≡ k → 1024 * length (blocks_at layout n) + (space_at layout n).size ≡ i.inode.size
      size_by File kind =
          let none = ap (λ (ds : List DirectoryBlock). length ds) (blocks_are File kind) in
          let size = ap (λ (x : Space). x.size) (space_is File kind) in omega (arith, none, size)
      size_by Directory kind =
          let all = block_count kind in
          let none = ap (λ (x : Space). x.size) (space_is Directory kind) in
          let size = (directory_extents v image whole sound n i e kind).size in omega (arith, all, none, size)

      size_is : (settled_of layout n).size ≡ i.inode.size
      size_is = size_by i.inode.kind refl

      value_by : (k : FileKind) → i.inode.kind ≡ k → inode_for (settled_of layout n) (node_by k w image n i) ≡ i
      value_by File kind = λ j. record {
        inode = record { kind = sym kind j; mode = i.inode.mode; nlink = i.inode.nlink; size = size_is j; attrs = (file_is v image whole sound n i e kind).kept j };
        maps = (ap length settled_chain ∙ chain_length v image whole sound n i e) j;
        extents = (ap length settled_extents ∙ count v image whole sound n i e) j;
        first = (ap places settled_extents ∙ places_are v image whole sound n i e) j;
        map = (ap first_of settled_chain ∙ sym (chain_first v image whole sound n i e)) j;
      }
      value_by Directory kind = let f = directory_is v image whole sound n i e kind in λ j. record {
        inode = record { kind = sym kind j; mode = i.inode.mode; nlink = sym f.nlink j; size = size_is j; attrs = sym f.attrs j };
        maps = (ap length settled_chain ∙ chain_length v image whole sound n i e) j;
        extents = (ap length settled_extents ∙ count v image whole sound n i e) j;
        first = (ap places settled_extents ∙ places_are v image whole sound n i e) j;
        map = (ap first_of settled_chain ∙ sym (chain_first v image whole sound n i e)) j;
      }

      -- an inode with a name is a node
      pub is_node : node_said w image n i ≡ Some (node_by i.inode.kind w image n i)
      is_node =
          let some = has_link v image whole sound n i e in
          ap (λ (t : Bool). cond t None (Some (node_by i.inode.kind w image n i))) (ne_eqb i.inode.nlink 0 (λ none. absurd (omega (arith, some, none))))

      pub value_is : option_map (inode_for (settled_of layout n)) (node_said w image n i) ≡ Some i
      value_is = ap (option_map (inode_for (settled_of layout n))) is_node ∙ ap Some (value_by i.inode.kind refl)

      -- ---- nothing of it is held

      same_present : (k : FileKind) → page_blocks (space_by k i).settled ≡ page_blocks (space_by k i).present
      same_present File = refl
      same_present Directory = refl

      pub on_device_there : IsOnDevice layout n
      on_device_there = record {
        pages = let x = space_is i.inode.kind refl in ap (λ (x : Space). page_blocks x.settled) x ∙ same_present i.inode.kind ∙ ap (λ (x : Space). page_blocks x.present) (sym x);
        maps = maps_needed ∙ sym chain_held;
      }

      -- what a file is that the image says
      abbrev pub said_file : FileNode
      said_file = record { mode = i.inode.mode; nlink = i.inode.nlink; attrs = i.inode.attrs; bytes = bytes_of (block_bytes w image) (pages_said w image i) i.inode.size }

      -- ---- the node is held

      module _ (pages : HasWholePages w image) where
        long : i.inode.kind ≡ File → length (bytes_of (block_bytes w image) (pages_said w image i) i.inode.size) ≡ i.inode.size
        long kind = bytes_length v image (pages_said w image i) i.inode.size
            (there (λ (j : InodeValue). j.inode.kind ≡ File → AllByRecursion (IsWholePage w image) (pages_said w image j)) (inode_said w image n) i e (pages n) kind)

        count_said : extent_count (pages_said w image i) ≡ i.extents
        count_said = ap (λ (es : List Extent). length es) (pages_stretch v image whole sound n i e) ∙ count v image whole sound n i e

        said_space : i.inode.kind ≡ File → IsSpaceOf (space_by File i) (chain_said w image i) said_file
        said_space kind =
            let right = extents_right v image whole sound n i e in
            let rises = extents_rise w i 0 (extents_said w image i) (begin_from_0 (extents_said w image i)) right.each right.order in
            let f = fields v image whole sound n i e in
            let size = (file_is v image whole sound n i e kind).size in
            let as_long = long kind in
            let as_many = count_said in
            let few = f.extents in
            let chain = chain_length v image whole sound n i e in
            let needed : maps_for (pages_said w image i) ≡ i.maps = ap (chain_len 63) as_many ∙ sym f.maps in
            let full = (chain_fills i.extents).full in
            let maps = f.maps in
            record {
              settled_rises = rises;
              present_rises = rises;
              part = part_itself (pages_said w image i);
              extents = omega (arith, as_many, few);
              chain = omega (arith, needed, chain);
              few_maps = omega (arith, chain, maps, full, few);
              settled_size = size;
              size = omega (arith, as_long, size);
              settled_below = all_below v i (extents_said w image i) right.each;
              present_below = subst (λ (k : ℕ). AllByRecursion (BeginsBelow k) (pages_said w image i)) (sym as_long) (all_below v i (extents_said w image i) right.each);
              lasting = all_last v i (extents_said w image i) right.each;
            }

        file_by : i.inode.kind ≡ File → IsNodeOf layout n (node_by File w image n i)
        file_by kind =
            let f = fields v image whole sound n i e in
            let a = file_is v image whole sound n i e kind in
            record {
              mode = f.mode;
              few_links = f.nlink;
              attrs = record { fixed = a.fixed; reserve = a.reserve; flags = f.flags };
              space =
                  subst (λ (x : Space). IsSpaceOf x (maps_at layout n) said_file) (sym (space_is File kind))
                  (subst (λ (o : Option InodeValue). IsSpaceOf (space_by File i) (maps_of o) said_file) (sym e) (said_space kind));
              no_blocks = blocks_are File kind;
            }

        directory_by : i.inode.kind ≡ Directory → IsDirectoryOf layout n (record { mode = i.inode.mode; entries = entries_from (said.entries_of w image n) })
        directory_by kind = record {
          mode = (fields v image whole sound n i e).mode;
          entries = ap entries_from (entries_are n);
          spelled = all_blocks_by (IsDir 1024) (directory_blocks w image (inode_said w image n)) (λ k less.
              (let r = (sound.inodes n (low v image whole sound n i e)).entries k less in subst (IsDir 1024) (sym (entries_spelled n k r)) r.is_dir));
          few = (let few = (directory_extents v image whole sound n i e kind).few in let all = block_count kind in omega (arith, few, all));
          maps =
              chain_held ∙ sym maps_needed ∙ ap (λ (x : Space). maps_for (pages_from 0 (blocks_at layout n) ++ x.settled)) (space_is Directory kind)
              ∙ ap maps_for (append-nil (pages_from 0 (blocks_at layout n)));
          space = space_is Directory kind;
        }

        node_by_kind : (k : FileKind) → i.inode.kind ≡ k → IsNodeOf layout n (node_by k w image n i)
        node_by_kind File kind = file_by kind
        node_by_kind Directory kind = directory_by kind

        pub node_held : IsHeld layout n (Some (node_by i.inode.kind w image n i))
        node_held = (node_by_kind i.inode.kind refl, high v image whole sound n i e, low v image whole sound n i e)

    nothing_there : (n : ℕ) → inode_said w image n ≡ None → HasNothing layout n
    nothing_there n e = record {
      none = ap (λ (o : Option InodeValue). block_numbers (blocks_of o) ++ (page_blocks (space_of o).present ++ maps_of o)) e;
      space = ap space_of e;
    }

    on_device_by : (n : ℕ) (o : Option InodeValue) → inode_said w image n ≡ o → IsOnDevice layout n
    on_device_by n None e = record {
      pages = ap (λ (o : Option InodeValue). page_blocks (space_of o).settled) e ∙ sym (ap (λ (o : Option InodeValue). page_blocks (space_of o).present) e);
      maps = ap (λ (o : Option InodeValue). maps_for (pages_from 0 (blocks_of o) ++ (space_of o).settled)) e ∙ sym (ap (λ (o : Option InodeValue). length (maps_of o)) e);
    }
    on_device_by n (Some i) e = on_device_there n i e

    -- nothing is held
    pub on_device : (n : ℕ) → IsOnDevice layout n
    on_device n = on_device_by n (inode_said w image n) refl

    values_by : (n : ℕ) (o : Option InodeValue) → inode_said w image n ≡ o → option_map (inode_for (settled_of layout n)) (option_and_then (node_said w image n) o) ≡ o
    values_by n None e = refl
    values_by n (Some i) e = value_is n i e

    -- the state says the inodes of the image
    pub values_are : (n : ℕ) → inode_value state n ≡ inode_said w image n
    values_are n = ap (option_map (inode_for (settled_of layout n))) (nodes_are n) ∙ values_by n (inode_said w image n) refl

    -- ---- files have names

    linked_by : (k : FileKind) (n : ℕ) (i : InodeValue) (f : FileNode) → 1 ≤ i.inode.nlink → Some (node_by k w image n i) ≡ Some (IsFile f) → 1 ≤ f.nlink
    linked_by File n i f some same =
        let nlink : i.inode.nlink ≡ f.nlink = cc in omega (arith, some, nlink)
    linked_by Directory n i f some same = absurd cc

    named_by : (n : ℕ) (o : Option InodeValue) (f : FileNode) → inode_said w image n ≡ o → option_and_then (node_said w image n) o ≡ Some (IsFile f) → 1 ≤ f.nlink
    named_by n None f e is_file = absurd cc
    named_by n (Some i) f e is_file = linked_by i.inode.kind n i f (has_link v image whole sound n i e) (sym (is_node n i e) ∙ is_file)

    pub named : AreNamed state
    named n f is_file = named_by n (inode_said w image n) f refl (sym (nodes_are n) ∙ is_file)

    -- ---- the tree is settled

    settled_there : (k : FileKind) (n : ℕ) (i : InodeValue) (e : inode_said w image n ≡ Some i) → i.inode.kind ≡ k → Some (node_by k w image n i) ≡ settled_node (block_bytes w image) (space_at layout n) (node_by k w image n i)
    settled_there File n i e kind =
        let some = has_link v image whole sound n i e in
        let linked : (i.inode.nlink == 0) ≡ false = ne_eqb i.inode.nlink 0 (λ none. absurd (omega (arith, some, none))) in
        let attrs = sym (file_is v image whole sound n i e kind).kept in
        let x = sym (space_is n i e File kind) in
        let kept : FileNode = record (said_file n i e) { attrs = kept_attrs i.inode.attrs; bytes = bytes_of (block_bytes w image) (space_at layout n).settled (space_at layout n).size } in
        (λ j. Some (IsFile (record (said_file n i e) { attrs = attrs j; bytes = bytes_of (block_bytes w image) (x j).settled (x j).size })))
        ∙ sym (ap (λ (t : Bool). cond t None (Some (IsFile kept))) linked)
    settled_there Directory n i e kind = refl

    settled_by : (n : ℕ) (o : Option InodeValue) → inode_said w image n ≡ o → option_and_then (node_said w image n) o ≡ option_and_then (settled_node (block_bytes w image) (space_at layout n)) (option_and_then (node_said w image n) o)
    settled_by n None e = refl
    settled_by n (Some i) e =
        is_node n i e ∙ settled_there i.inode.kind n i e refl ∙ ap (option_and_then (settled_node (block_bytes w image) (space_at layout n))) (sym (is_node n i e))

    pub settled : IsSettledTree state (block_bytes w image) state.tree
    settled = record {
      nodes = λ n. nodes_are n ∙ settled_by n (inode_said w image n) refl ∙ ap (option_and_then (settled_node (block_bytes w image) (space_at layout n))) (sym (nodes_are n));
      rest = refl;
    }

    -- ---- all nodes are held

    module _ (pages : HasWholePages w image) where
      held_by : (n : ℕ) (o : Option InodeValue) → inode_said w image n ≡ o → IsHeld layout n (option_and_then (node_said w image n) o)
      held_by n None e = nothing_there n e
      held_by n (Some i) e = subst (IsHeld layout n) (sym (is_node n i e)) (node_held n i e pages)

      pub held : (n : ℕ) → IsHeld layout n (map_of.get state.tree.nodes n)
      held n = subst (IsHeld layout n) (sym (nodes_are n)) (held_by n (inode_said w image n) refl)
