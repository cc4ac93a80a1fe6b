-- An image that says a state reads as the state's tree, with what is settled.
use Rattle.std.proofs.Common.{◌≡◌, ℕ, cond, List, Option, Some, None, refl, sym, ap, ◌∙◌}
use Rattle.std.specs.Prelude.{◌==◌}
use Rattle.std.specs.Option.{option_map, option_and_then}
use Rattle.std.specs.List.{flat_map}
use Rattle.std.specs.FinMap as map
use Rattle.vx_base.specs.declared.inode.InodeValue.{InodeValue}
use Rattle.vx_layout.specs.Places.{Volume}
use Rattle.vx_sound.specs.Said.{block_bytes}
use Rattle.vx_model.specs.Tree.{Node, IsFile, IsDirectory, Entries, Tree}
use Rattle.vx_model.specs.Layout.{Layout, volume, space_at, settled_at}
use Rattle.vx_model.specs.Shapes.{kept_attrs}
use Rattle.vx_model.specs.State.{State}
use Rattle.vx_model.specs.Contents.{settled_of, inode_for, inode_value}
use Rattle.vx_model.specs.LaidOut.{IsNodeOf, IsHeld}
use Rattle.vx_model.specs.Reads.{extent_pages, pages_said, bytes_of, entries_from, node_said, ImageReadsAs}
use Rattle.vx_model.specs.Saying.{IsImageOf, StateSays}
use Rattle.vx_model.specs.Settled.{settled_node, IsSettledTree}
use Rattle.vx_model.proofs.Spelled.{file_pages, file_size}
use Rattle.vx_model.proofs.Stretching.{stretches_say}

module _ (says : StateSays) (s : State) (image : ℕ → List ℕ) (h : IsImageOf s image) where
  abbrev l : Layout
  l = s.layout

  abbrev v : Volume
  v = volume s.layout

  abbrev value : ℕ → Node → InodeValue
  value n node = inode_for (settled_of l n) node

  -- the pages that are said are the settled ones
  pages : (n : ℕ) (node : Node) → inode_value s n ≡ Some (value n node) → pages_said v image (value n node) ≡ settled_at l n
  pages n node there = ap (flat_map extent_pages) (says.extents s image h n (value n node) there) ∙ stretches_say (settled_at l n)

  node_reads : (n : ℕ) (node : Node) → inode_value s n ≡ Some (value n node) → IsNodeOf l n node → settled_node (block_bytes v image) (space_at l n) node ≡ node_said v image n (value n node)
  node_reads n (IsFile f) there held =
      let bytes : bytes_of (block_bytes v image) (space_at l n).settled (space_at l n).size ≡ bytes_of (block_bytes v image) (pages_said v image (value n (IsFile f))) (settled_of l n).size =
      (λ i. bytes_of (block_bytes v image) (sym (pages n (IsFile f) there ∙ file_pages l n f held) i) (sym (file_size s h.laid_out n f held) i)) in
      ap (λ (xs : List ℕ). cond (f.nlink == 0) None (Some (IsFile (record { mode = f.mode; nlink = f.nlink; attrs = kept_attrs f.attrs; bytes = xs })))) bytes
  node_reads n (IsDirectory d) there held =
      let entries = held.entries ∙ ap entries_from (sym (says.all_entries s image h n)) in
      ap (λ (es : Entries). Some (IsDirectory (record { mode = d.mode; entries = es }))) entries

  held_reads : (n : ℕ) (o : Option Node) → map.get s.tree.nodes n ≡ o → IsHeld l n o
      → option_and_then (settled_node (block_bytes v image) (space_at l n)) o ≡ option_and_then (node_said v image n) (option_map (inode_for (settled_of l n)) o)
  held_reads n None at held = refl
  held_reads n (Some node) at held = node_reads n node (ap (option_map (inode_for (settled_of l n))) at) held.0

  pub state_reads : (t : Tree) → IsSettledTree s (block_bytes v image) t → ImageReadsAs v image t
  state_reads t settled = record {
    nodes = λ n. settled.nodes n ∙ held_reads n (map.get s.tree.nodes n) refl (h.laid_out.nodes n) ∙ ap (option_and_then (node_said v image n)) (sym (says.inodes s image h n));
    rest = settled.rest;
  }
