-- The nodes of the state that the metadata stand for.
use Rattle.std.proofs.Common.{◌≡◌, ℕ, ◌*◌, ◌<◌, ◌≤◌, List, [], ◌∷◌, ◌++◌, length, Option, Some, None, Ok, Err, refl, sym, ◌∙◌, ap, subst, arith}
use Rattle.std.specs.Option.{option_map}
use Rattle.std.specs.List.{flat_map}
use Rattle.std.specs.FinMap as map
use Rattle.std.proofs.lemmas.Option.{same_Some, none-some}
use Rattle.vx_base.specs.Paths.{FileName}
use Rattle.vx_base.specs.declared.inode.Inode.{Inode}
use Rattle.vx_base.specs.declared.inode.InodeValue.{InodeValue}
use Rattle.vx_base.specs.declared.refusal.Refusal.TheVariants as no
use Rattle.vx_dir.specs.Sizes.{Entries}
use Rattle.vx_dir.specs.Directories.{all_entries, inode_of}
use Rattle.vx_extents.specs.Extents.{Mapped}
use Rattle.vx_inode.specs.Tables.{inode_at}
use Rattle.vx_model.specs.Contents.{Held, inode_for, settled_of}
use Rattle.vx_model.specs.LaidOut.{IsHeld, HasNothing, IsFileOf, IsDirectoryOf, IsPlainFile, entries_of}
use Rattle.vx_model.specs.Layout.{Layout, DirectoryBlock, blocks_at, maps_at, space_at}
use Rattle.vx_model.specs.Outcome.{need}
use Rattle.vx_model.specs.Reads.{entries_from}
use Rattle.vx_model.specs.State.{State}
use Rattle.vx_model.specs.Tree.{Node, File, Directory, IsFile, IsDirectory}
use Rattle.vx_model.specs.Walks as walks
use Rattle.vx_txn.specs.Directories.{DirectoryValue, IsDirectory as HasShape, placed, blocks_in, maps_in}
use Rattle.vx_txn.specs.Metas.{HasDirectory, directory_of, Stands}
use Rattle.vx_txn.specs.declared.meta.Meta.{Meta}
use Rattle.vx_txn.proofs.EntryLaws.{get_entries, meaning_in}

-- the inode that a node has
abbrev pub inode_of_node : Held → Node → Inode
inode_of_node h node = (inode_for h node).inode

abbrev pub inode_of_option : Held → Option Node → Option Inode
inode_of_option h o = option_map (λ (v : InodeValue). v.inode) (option_map (inode_for h) o)

-- what an inode takes up is said by its blocks, its map blocks and its space
pub same_held : (l k : Layout) (n : ℕ) → blocks_at k n ≡ blocks_at l n → maps_at k n ≡ maps_at l n → space_at k n ≡ space_at l n → settled_of k n ≡ settled_of l n
same_held l k n blocks maps space = rw (blocks, maps, space) refl

-- ---- what stands at a number

pub record DirectoryHere (l : Layout) (n : ℕ) (o : Option Inode) (stands : Option Node) (d : DirectoryValue) : Type 0 where
  pub tree : Directory
  pub inode_there : o ≡ Some (inode_of_node (settled_of l n) (IsDirectory tree))
  pub node_there : stands ≡ Some (IsDirectory tree)
  pub is : IsDirectoryOf l n tree
  pub shape : HasShape d
  pub low : 2 ≤ n
  pub high : n < 128 * l.units

directory_by : (l : Layout) (n : ℕ) (o : Option Inode) (stands : Option Node) (d : DirectoryValue) → IsHeld l n stands → o ≡ inode_of_option (settled_of l n) stands → HasDirectory o (Some d) → DirectoryHere l n o stands d
directory_by l n None stands d held is has = absurd has
directory_by l n (Some i) None d held is has = absurd (none-some i (sym is))
directory_by l n (Some i) (Some (IsFile f)) d held is has =
    let e : i ≡ inode_of_node (settled_of l n) (IsFile f) = same_Some _ _ is in
    let k = ap (λ (x : Inode). x.kind) e in
    absurd (cc (has.0, k))
directory_by l n (Some i) (Some (IsDirectory t)) d held is has = record {
  tree = t;
  inode_there = is;
  node_there = refl;
  is = held.0;
  shape = has.1;
  low = held.1;
  high = held.2;
}

pub record FileHere (l : Layout) (n : ℕ) (o : Option Inode) (stands : Option Node) : Type 0 where
  pub file : File
  pub inode_there : o ≡ Some (inode_of_node (settled_of l n) (IsFile file))
  pub node_there : stands ≡ Some (IsFile file)
  pub is : IsFileOf l n file
  pub plain : IsPlainFile file
  pub nothing : HasNothing l n
  pub low : 2 ≤ n
  pub high : n < 128 * l.units

-- a file has no bytes and nothing on the device
abbrev IsBare : Layout → ℕ → Option Node → Type 0
IsBare l n stands = (f : File) → stands ≡ Some (IsFile f) → IsPlainFile f × HasNothing l n

file_by : (l : Layout) (n : ℕ) (o : Option Inode) (stands : Option Node) (i : Inode) → IsBare l n stands → IsHeld l n stands → o ≡ inode_of_option (settled_of l n) stands → HasDirectory o None → o ≡ Some i → FileHere l n o stands
file_by l n None stands i bare held is has there = absurd (none-some i there)
file_by l n (Some j) None i bare held is has there = absurd (none-some j (sym is))
file_by l n (Some j) (Some (IsDirectory t)) i bare held is has there =
    let e : j ≡ inode_of_node (settled_of l n) (IsDirectory t) = same_Some _ _ is in
    let k = ap (λ (x : Inode). x.kind) e in
    absurd (cc (has, k))
file_by l n (Some j) (Some (IsFile f)) i bare held is has there = record {
  file = f;
  inode_there = is;
  node_there = refl;
  is = held.0;
  plain = (bare f refl).0;
  nothing = (bare f refl).1;
  low = held.1;
  high = held.2;
}

none_by : (h : Held) (o : Option Inode) (stands : Option Node) → o ≡ inode_of_option h stands → o ≡ None → stands ≡ None
none_by h o None is none = refl
none_by h o (Some node) is none = absurd (none-some _ (sym none ∙ is))

nothing_by : (l : Layout) (n : ℕ) (o : Option Inode) (stands : Option Node) → IsBare l n stands → IsHeld l n stands → o ≡ inode_of_option (settled_of l n) stands → HasDirectory o None → HasNothing l n
nothing_by l n o None bare held is has = held
nothing_by l n o (Some (IsFile f)) bare held is has = (bare f refl).1
nothing_by l n None (Some (IsDirectory t)) bare held is has = absurd (none-some _ (is))
nothing_by l n (Some j) (Some (IsDirectory t)) bare held is has =
    let e : j ≡ inode_of_node (settled_of l n) (IsDirectory t) = same_Some _ _ is in
    let k = ap (λ (x : Inode). x.kind) e in
    absurd (cc (has, k))

-- ---- the entries of all blocks

-- the entries are those of the names
pub entries_placed : (pages : List Mapped) (blocks : List Entries) → length pages ≡ length blocks → entries_of (placed pages blocks) ≡ flat_map (λ (b : Entries). b) blocks
entries_placed [] [] same = refl
entries_placed [] (es ∷ blocks) same = absurd (omega (arith, same))
entries_placed (m ∷ pages) [] same = absurd (omega (arith, same))
entries_placed (m ∷ pages) (es ∷ blocks) same = ap (λ (x : Entries). es ++ x) (entries_placed pages blocks (omega (arith, same)))

pub entries_are : (d : DirectoryValue) → HasShape d → entries_of (blocks_in (Some d)) ≡ all_entries d.names
entries_are d shape = entries_placed d.maps.space.present d.names.blocks shape.same_count

module _ (m : Meta) (s : State) (is : Stands m s) where
  pub held : (n : ℕ) → inode_at m.inodes n ≡ inode_of_option (settled_of s.layout n) (map.get s.tree.nodes n)
  held n = is.is.inodes n

  pub directory_here : (n : ℕ) (d : DirectoryValue) → directory_of m n ≡ Some d → DirectoryHere s.layout n (inode_at m.inodes n) (map.get s.tree.nodes n) d
  directory_here n d there =
      directory_by s.layout n (inode_at m.inodes n) (map.get s.tree.nodes n) d (is.laid_out.nodes n) (held n) (subst (HasDirectory (inode_at m.inodes n)) there (is.is.kinds n))

  pub file_here : (n : ℕ) (i : Inode) → inode_at m.inodes n ≡ Some i → directory_of m n ≡ None → FileHere s.layout n (inode_at m.inodes n) (map.get s.tree.nodes n)
  file_here n i there none =
      file_by s.layout n (inode_at m.inodes n) (map.get s.tree.nodes n) i (is.plain.files n) (is.laid_out.nodes n) (held n) (subst (HasDirectory (inode_at m.inodes n)) none (is.is.kinds n)) there

  -- what is no directory has nothing on the device
  pub nothing_here : (n : ℕ) → directory_of m n ≡ None → HasNothing s.layout n
  nothing_here n none = nothing_by s.layout n (inode_at m.inodes n) (map.get s.tree.nodes n) (is.plain.files n) (is.laid_out.nodes n) (held n) (subst (HasDirectory (inode_at m.inodes n)) none (is.is.kinds n))

  pub none_here : (n : ℕ) → inode_at m.inodes n ≡ None → map.get s.tree.nodes n ≡ None
  none_here n none = none_by (settled_of s.layout n) (inode_at m.inodes n) (map.get s.tree.nodes n) (held n) none

  pub blocks_here : (n : ℕ) (o : Option DirectoryValue) → directory_of m n ≡ o → blocks_at s.layout n ≡ blocks_in o
  blocks_here n o there = is.is.blocks n ∙ ap blocks_in there

  pub maps_here : (n : ℕ) (o : Option DirectoryValue) → directory_of m n ≡ o → maps_at s.layout n ≡ maps_in o
  maps_here n o there = is.is.maps n ∙ ap maps_in there

  -- ---- names

  pub entries_here : (n : ℕ) (d : DirectoryValue) (there : directory_of m n ≡ Some d) → (directory_here n d there).tree.entries ≡ entries_from (all_entries d.names)
  entries_here n d there =
      let h = directory_here n d there in
      h.is.entries ∙ ap (λ (x : List DirectoryBlock). entries_from (entries_of x)) (blocks_here n (Some d) there) ∙ ap entries_from (entries_are d h.shape)

  pub found : (n : ℕ) (d : DirectoryValue) (name : FileName) (there : directory_of m n ≡ Some d) → map.get (directory_here n d there).tree.entries name ≡ inode_of d.names name
  found n d name there = ap (λ e. map.get e name) (entries_here n d there) ∙ get_entries name (all_entries d.names) ∙ meaning_in name d.names.blocks

  pub directory_node : (n : ℕ) (d : DirectoryValue) (there : directory_of m n ≡ Some d) → walks.directory_at s.tree.nodes n ≡ Ok (directory_here n d there).tree
  directory_node n d there = rw (directory_here n d there).node_there refl

  pub not_directory : (n : ℕ) (i : Inode) → inode_at m.inodes n ≡ Some i → directory_of m n ≡ None → walks.directory_at s.tree.nodes n ≡ Err no.NotDir
  not_directory n i there none = rw (file_here n i there none).node_there refl

  pub no_entry : (n : ℕ) → inode_at m.inodes n ≡ None → walks.directory_at s.tree.nodes n ≡ Err no.NoEnt
  no_entry n none = rw (none_here n none) refl

  pub step : (n : ℕ) (d : DirectoryValue) (name : FileName) → directory_of m n ≡ Some d → walks.step_to s.tree.nodes n name ≡ need (inode_of d.names name) no.NoEnt
  step n d name there = rw (directory_node n d there) (ap (λ (o : Option ℕ). need o no.NoEnt) (found n d name there))
