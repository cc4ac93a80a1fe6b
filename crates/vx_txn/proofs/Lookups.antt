-- What stands at an inode number, and what an edit leaves there.
use Rattle.std.proofs.Common.{◌≡◌, ◌≢◌, ℕ, ◌+◌, ◌*◌, ◌<◌, ◌≤◌, Bool, false, arith, cond, List, [], ◌∷◌, ◌++◌, map as list_map, true, Option, Some, None, Result, Ok, Err, refl, sym, ◌∙◌, ap, subst}
use Rattle.std.proofs.lemmas.Bool.{ne_eqb}
use Rattle.std.specs.declared.cmp.Ordering.{Ordering}
use Rattle.std.specs.declared.cmp.Ordering.TheVariants.{Less, Equal, Greater}
use Rattle.std.specs.Ordering.{nat_cmp, eq_by_cmp, is_eq}
use Rattle.std.specs.Cmp.{tied_itself}
use Rattle.std.specs.Cmp.Lexicographic.{slice_cmp, nat_list_cmp_total}
use Rattle.std.specs.FinMap as map
use Rattle.vx_base.specs.declared.refusal.Refusal.TheVariants as no
use Rattle.vx_base.specs.Paths.{FileName}
use Rattle.vx_base.proofs.Maps.{at_key, at_other}
use Rattle.vx_model.specs.Outcome.{Maybe, need, ◌>>=◌}
use Rattle.vx_model.specs.Tree.{Node, Nodes, Entries, File, Directory, IsFile, IsDirectory}
use Rattle.vx_model.specs.Layout.{Layout, blocks_at, add_entry, without_name as block_without}
use Rattle.vx_model.specs.State.{State}
use Rattle.vx_model.specs.Legal.{IfThere}
use Rattle.vx_model.specs.Walks.{root, as_file, as_directory, file_at, directory_at, step_to, walk}
use Rattle.vx_model.specs.Edits.{with_nodes, with_name, add_name, add_name_in, remove_name, remove_name_in, without_name}
use Rattle.vx_model.specs.LaidOut.{IsHeld, IsNodeOf, IsDirectoryNode, IsLaidOut}
use Rattle.std.specs.Prelude.{IsTrue, is_some, IfOk}
use Rattle.std.specs.Option.{option_map}
use Rattle.vx_base.specs.declared.refusal.Refusal.{Refusal}
use Rattle.vx_base.specs.declared.reply.Reply.TheVariants as say
use Rattle.vx_base.specs.declared.inode.Inode.{Inode}
use Rattle.vx_base.specs.declared.inode.InodeValue.{InodeValue}
use Rattle.vx_base.specs.declared.kind.FileKind.TheVariants as kind
use Rattle.vx_inode.specs.Tables.{inode_at, is_used, links_at, links_of}
use Rattle.vx_model.specs.State.{Done}
use Rattle.vx_model.specs.Removing.{fine}
use Rattle.vx_model.specs.Entering.{Entry, entry_in, entry_at, entry_end, entry_along}
use Rattle.vx_model.specs.Contents.{Held, inode_for, settled_of}
use Rattle.vx_model.specs.Touching.{Touched, IsTouched, untouched}
use Rattle.vx_txn.specs.declared.meta.Meta.{Meta}
use Rattle.vx_txn.specs.Calls.{HasGone, IsSettled}
use Rattle.vx_txn.specs.Directories.{DirectoryValue, IsNewIn}
use Rattle.vx_txn.specs.Metas.{Stands, IsSound, HasDirectory, directory_of}
use Rattle.vx_txn.specs.Edits.{IsEdited, IsRefused, refusal_reply}
use Rattle.vx_txn.specs.declared.edits.EditRefusal.{EditRefusal}
use Rattle.vx_txn.specs.declared.edits.EditRefusal.TheVariants as edit
use Rattle.vx_base.specs.declared.reply.Reply.{Reply}
use Rattle.std.specs.declared.alloc.AllocError.{AllocError}
use Rattle.vx_txn.proofs.CallLaws.{counted_names}
use Rattle.vx_txn.proofs.StateLaws as laws
use Rattle.vx_model.specs.Paths.{PathEnd, path_end, path_end_from}
use Rattle.vx_txn.specs.Removals.{entry_of, links_of as name_count, IsRootUsed}
use Rattle.vx_dir.specs.Directories.{inode_of, entry_count, IsKept as IsSoundDirectory}

-- ---- nodes

directory_in : (o : Option Node) (d : Directory) → (need o no.NoEnt >>= as_directory) ≡ Ok d → o ≡ Some (IsDirectory d)
directory_in None d found = absurd cc
directory_in (Some (IsFile f)) d found = absurd cc
directory_in (Some (IsDirectory e)) d found = cc

pub directory_node : (nodes : Nodes) (ino : ℕ) (d : Directory) → directory_at nodes ino ≡ Ok d → map.get nodes ino ≡ Some (IsDirectory d)
directory_node nodes ino d found = directory_in (map.get nodes ino) d found

pub node_directory : (nodes : Nodes) (ino : ℕ) (d : Directory) → map.get nodes ino ≡ Some (IsDirectory d) → directory_at nodes ino ≡ Ok d
node_directory nodes ino d found = ap (λ o. need o no.NoEnt >>= as_directory) found

file_in : (o : Option Node) (f : File) → (need o no.NoEnt >>= as_file) ≡ Ok f → o ≡ Some (IsFile f)
file_in None f found = absurd cc
file_in (Some (IsDirectory d)) f found = absurd cc
file_in (Some (IsFile g)) f found = cc

pub file_node : (nodes : Nodes) (ino : ℕ) (f : File) → file_at nodes ino ≡ Ok f → map.get nodes ino ≡ Some (IsFile f)
file_node nodes ino f found = file_in (map.get nodes ino) f found

pub node_file : (nodes : Nodes) (ino : ℕ) (f : File) → map.get nodes ino ≡ Some (IsFile f) → file_at nodes ino ≡ Ok f
node_file nodes ino f found = ap (λ o. need o no.NoEnt >>= as_file) found

-- a file and a directory have different numbers
pub apart : (nodes : Nodes) (ino at : ℕ) (f : File) (d : Directory) → map.get nodes ino ≡ Some (IsFile f) → map.get nodes at ≡ Some (IsDirectory d) → ino ≢ at
apart nodes ino at f d file directory same =
    let one : map.get nodes ino ≡ map.get nodes at = ap (map.get nodes) same in
    absurd cc

-- ---- a state that is laid out

pub record IsHeldNode (l : Layout) (n : ℕ) (node : Node) : Type 0 where
  pub kept : IsNodeOf l n node
  pub low : 2 ≤ n
  pub high : n < 128 * l.units

pub held_node : (s : State) (n : ℕ) (node : Node) → IsLaidOut s → map.get s.tree.nodes n ≡ Some node → IsHeldNode s.layout n node
held_node s n node laid found =
    let held = subst (λ o. IsHeld s.layout n o) found (laid.nodes n) in
    record { kept = held.0; low = held.1; high = held.2 }

pub record IsHeldFile (l : Layout) (n : ℕ) (f : File) : Type 0 where
  pub low : 2 ≤ n
  pub high : n < 128 * l.units
  pub not_root : n ≢ root

root_is_none : (o : Option Node) (f : File) → IfThere o IsDirectoryNode → o ≡ Some (IsFile f) → ⊥
root_is_none o f there is = subst (λ (p : Option Node). IfThere p IsDirectoryNode) is there

pub held_file : (s : State) (n : ℕ) (f : File) → IsLaidOut s → map.get s.tree.nodes n ≡ Some (IsFile f) → IsHeldFile s.layout n f
held_file s n f laid found =
    let held = held_node s n (IsFile f) laid found in
    record {
      low = held.low;
      high = held.high;
      not_root = λ same. root_is_none (map.get s.tree.nodes root) f laid.has_root (ap (map.get s.tree.nodes) (sym same) ∙ found);
    }

-- ---- a name less

removed_in : (s : State) (at : ℕ) (name : FileName) (d : Maybe Directory) (n : ℕ) → n ≢ at → map.get (remove_name_in s at name d).tree.nodes n ≡ map.get s.tree.nodes n
removed_in s at name (Err why) n other = refl
removed_in s at name (Ok d) n other = at_other s.tree.nodes at (without_name d name) n other

-- another inode stays as it was
pub removed_other : (s : State) (at : ℕ) (name : FileName) (n : ℕ) → n ≢ at → map.get (remove_name s at name).tree.nodes n ≡ map.get s.tree.nodes n
removed_other s at name n other = removed_in s at name (directory_at s.tree.nodes at) n other

pub removed_here : (s : State) (at : ℕ) (name : FileName) (d : Directory) → directory_at s.tree.nodes at ≡ Ok d → map.get (remove_name s at name).tree.nodes at ≡ Some (without_name d name)
removed_here s at name d found =
    ap (λ (m : Maybe Directory). map.get (remove_name_in s at name m).tree.nodes at) found ∙ at_key s.tree.nodes at (without_name d name)

removed_blocks_in : (s : State) (at : ℕ) (name : FileName) (d : Maybe Directory) (n : ℕ) → n ≢ at → blocks_at (remove_name_in s at name d).layout n ≡ blocks_at s.layout n
removed_blocks_in s at name (Err why) n other = refl
removed_blocks_in s at name (Ok d) n other = ap (λ b. cond b (list_map (block_without name) (blocks_at s.layout at)) (blocks_at s.layout n)) (ne_eqb n at other)

pub removed_blocks : (s : State) (at : ℕ) (name : FileName) (n : ℕ) → n ≢ at → blocks_at (remove_name s at name).layout n ≡ blocks_at s.layout n
removed_blocks s at name n other = removed_blocks_in s at name (directory_at s.tree.nodes at) n other

-- ---- the metadata in memory

pub stands_of : (base s : State) (m : Meta) (t : Touched) → HasGone base s m t → Stands m s
stands_of base s m t gone = record { laid_out = gone.laid_out; plain = gone.plain; is = gone.state }

pub sound_of : (s : State) (m : Meta) → Stands m s → IsSound m
sound_of s m stands = record { state = s; stands = stands }

same_touched : (s : State) → IsTouched s s untouched
same_touched s = record { same_volume = refl; inodes = λ n h. refl; blocks = λ n i d h got. got; maps = λ n k c h got. got; units = λ u j l h. refl }

pub begun : (s : State) (m : Meta) (t : Touched) → Stands m s → t ≡ untouched → HasGone s s m t
begun s m t stands empty = record { state = stands.is; laid_out = stands.laid_out; plain = stands.plain; touched = subst (IsTouched s s) (sym empty) (same_touched s) }

pub refused : (s : State) (chain : Maybe Done) (m : Meta) (t : Touched) (why : Refusal) → Stands m s → t ≡ untouched → chain ≡ Err why → IsSettled s chain m t (say.Refused why)
refused s chain m t why stands empty is =
    subst (λ (c : Maybe Done). IsSettled s c m t (say.Refused why)) (sym is) (record { gone = begun s m t stands empty; reply_is = refl })

pub done : (s new : State) (chain : Maybe Done) (m : Meta) (t : Touched) → chain ≡ Ok (fine new) → HasGone s new m t → IsSettled s chain m t say.Fine
done s new chain m t is gone = subst (λ (c : Maybe Done). IsSettled s c m t say.Fine) (sym is) (record { gone = gone; reply_is = refl })

directory_by : (i : Inode) (o : Option DirectoryValue) → i.kind ≡ kind.Directory → HasDirectory (Some i) o → (d : DirectoryValue) × (o ≡ Some d)
directory_by i None is has = absurd (let same : kind.Directory ≡ kind.File = sym is ∙ has in cc)
directory_by i (Some d) is has = (d, refl)

module _ (m : Meta) (s : State) (stands : Stands m s) (n : ℕ) where
  pub node_inode : (node : Node) → map.get s.tree.nodes n ≡ Some node → inode_at m.inodes n ≡ Some (inode_for (settled_of s.layout n) node).inode
  node_inode node found =
      stands.is.inodes n ∙ ap (λ (o : Option Node). option_map (λ (v : InodeValue). v.inode) (option_map (inode_for (settled_of s.layout n)) o)) found

  pub node_used : (node : Node) → map.get s.tree.nodes n ≡ Some node → IsTrue (is_used m.inodes n)
  node_used node found = ap is_some (node_inode node found)

  pub node_high : (node : Node) → map.get s.tree.nodes n ≡ Some node → n < 128 * m.inodes.units
  node_high node found =
      let high : n < 128 * s.layout.units = (held_node s n node stands.laid_out found).high in
      subst (λ (u : ℕ). n < 128 * u) stands.is.units high

  pub file_links : (f : File) → map.get s.tree.nodes n ≡ Some (IsFile f) → links_at m.inodes n ≡ f.nlink
  file_links f found = ap links_of (node_inode (IsFile f) found)

  pub directory_links : (d : Directory) → map.get s.tree.nodes n ≡ Some (IsDirectory d) → links_at m.inodes n ≡ 1
  directory_links d found = ap links_of (node_inode (IsDirectory d) found)

  pub directory_here : (d : Directory) → map.get s.tree.nodes n ≡ Some (IsDirectory d) → (v : DirectoryValue) × (directory_of m n ≡ Some v)
  directory_here d found =
      directory_by (inode_for (settled_of s.layout n) (IsDirectory d)).inode (directory_of m n) refl
      (subst (λ (o : Option Inode). HasDirectory o (directory_of m n)) (node_inode (IsDirectory d) found) (stands.is.kinds n))

-- ---- entries

step_in : (at : ℕ) (name : FileName) (m : Maybe Directory) → (m >>= entry_in at name) ≡ ((m >>= (λ (d : Directory). need (map.get d.entries name) no.NoEnt)) >>= (λ ino. Ok (entry_of at name ino)))
step_in at name (Err why) = refl
step_in at name (Ok d) = refl

-- an entry is what a step finds
pub entry_step : (nodes : Nodes) (at : ℕ) (name : FileName) → entry_at nodes name at ≡ (step_to nodes at name >>= (λ ino. Ok (entry_of at name ino)))
entry_step nodes at name = step_in at name (directory_at nodes at)

-- the directory that a step was made from, and the entry in it
pub record IsStep (nodes : Nodes) (at : ℕ) (name : FileName) (ino : ℕ) : Type 0 where
  pub directory : Directory
  pub found : map.get nodes at ≡ Some (IsDirectory directory)
  pub entry : map.get directory.entries name ≡ Some ino

needed : {X : Type 0} (o : Option X) (why : Refusal) (x : X) → need o why ≡ Ok x → o ≡ Some x
needed None why x is = absurd cc
needed (Some y) why x is = cc

stepped : (nodes : Nodes) (at : ℕ) (name : FileName) (ino : ℕ) (m : Maybe Directory) → directory_at nodes at ≡ m → (m >>= (λ (d : Directory). need (map.get d.entries name) no.NoEnt)) ≡ Ok ino → IsStep nodes at name ino
stepped nodes at name ino (Err why) is step = absurd cc
stepped nodes at name ino (Ok d) is step = record { directory = d; found = directory_node nodes at d is; entry = needed (map.get d.entries name) no.NoEnt ino step }

pub step_of : (nodes : Nodes) (at : ℕ) (name : FileName) (ino : ℕ) → step_to nodes at name ≡ Ok ino → IsStep nodes at name ino
step_of nodes at name ino step = stepped nodes at name ino (directory_at nodes at) refl step

pub entry_refused : {B : Type 0} (nodes : Nodes) (at : ℕ) (name : FileName) (why : Refusal) (k : Entry → Maybe B) → step_to nodes at name ≡ Err why → (entry_at nodes name at >>= k) ≡ Err why
entry_refused nodes at name why k step = ap (λ m. m >>= k) (entry_step nodes at name ∙ ap (λ m. m >>= (λ ino. Ok (entry_of at name ino))) step)

pub entry_found : {B : Type 0} (nodes : Nodes) (at : ℕ) (name : FileName) (ino : ℕ) (k : Entry → Maybe B) → step_to nodes at name ≡ Ok ino → (entry_at nodes name at >>= k) ≡ k (entry_of at name ino)
entry_found nodes at name ino k step = ap (λ m. m >>= k) (entry_step nodes at name ∙ ap (λ m. m >>= (λ i. Ok (entry_of at name i))) step)

-- a file, by the number of its names
pub record IsFileOf (nodes : Nodes) (ino links : ℕ) : Type 0 where
  pub file : File
  pub file_is : file_at nodes ino ≡ Ok file
  pub found : map.get nodes ino ≡ Some (IsFile file)
  pub counted : file.nlink ≡ links

file_by : (nodes : Nodes) (ino links : ℕ) (m : Maybe File) → file_at nodes ino ≡ m → (m >>= (λ (f : File). Ok f.nlink)) ≡ Ok links → IsFileOf nodes ino links
file_by nodes ino links (Err why) is counted = absurd cc
file_by nodes ino links (Ok f) is counted = record { file = f; file_is = is; found = file_node nodes ino f is; counted = cc }

pub file_of : (nodes : Nodes) (ino links : ℕ) → name_count nodes ino ≡ Ok links → IsFileOf nodes ino links
file_of nodes ino links counted = file_by nodes ino links (file_at nodes ino) refl counted

no_file_by : {B : Type 0} (m : Maybe File) (why : Refusal) (k : File → Maybe B) → (m >>= (λ (f : File). Ok f.nlink)) ≡ Err why → (m >>= k) ≡ Err why
no_file_by (Err other) why k refused = cc
no_file_by (Ok f) why k refused = absurd cc

pub no_file : {B : Type 0} (nodes : Nodes) (ino : ℕ) (why : Refusal) (k : File → Maybe B) → name_count nodes ino ≡ Err why → (file_at nodes ino >>= k) ≡ Err why
no_file nodes ino why k refused = no_file_by (file_at nodes ino) why k refused

-- ---- directories

node_by : (o : Option Node) (i : Option Inode) (v : DirectoryValue) (h : Held) → i ≡ option_map (λ (v : InodeValue). v.inode) (option_map (inode_for h) o) → HasDirectory i (Some v) → (d : Directory) × (o ≡ Some (IsDirectory d))
node_by None i v h is has = absurd (subst (λ (j : Option Inode). HasDirectory j (Some v)) is has)
node_by (Some (IsFile f)) i v h is has =
    let both = subst (λ (j : Option Inode). HasDirectory j (Some v)) is has in
    absurd (let same : kind.File ≡ kind.Directory = both.0 in cc)
node_by (Some (IsDirectory d)) i v h is has = (d, refl)

module _ (m : Meta) (s : State) (stands : Stands m s) (n : ℕ) (v : DirectoryValue) (here : directory_of m n ≡ Some v) where
  -- what a directory in memory is
  pub directory_found : (d : Directory) × (map.get s.tree.nodes n ≡ Some (IsDirectory d))
  directory_found =
      node_by (map.get s.tree.nodes n) (inode_at m.inodes n) v (settled_of s.layout n) (stands.is.inodes n)
      (subst (λ (o : Option DirectoryValue). HasDirectory (inode_at m.inodes n) o) here (stands.is.kinds n))

  tree_is : (d : Directory) → map.get s.tree.nodes n ≡ Some (IsDirectory d) → (laws.directory_here m s stands n v here).tree ≡ d
  tree_is d found = let there = (laws.directory_here m s stands n v here).node_there in cc

  -- what a name means there
  pub meaning : (d : Directory) → map.get s.tree.nodes n ≡ Some (IsDirectory d) → (name : FileName) → inode_of v.names name ≡ map.get d.entries name
  meaning d found name = sym (laws.found m s stands n v name here) ∙ ap (λ (t : Directory). map.get t.entries name) (tree_is d found)

  -- how many names there are
  pub counted : (d : Directory) → map.get s.tree.nodes n ≡ Some (IsDirectory d) → IsSoundDirectory v.names → entry_count v.names ≡ map.len d.entries
  counted d found kept =
      sym (counted_names v.names kept) ∙ ap map.len (sym (laws.entries_here m s stands n v here) ∙ ap (λ (t : Directory). t.entries) (tree_is d found))

-- ---- the root

equal_if : (r : Ordering) → is_eq r ≡ true → r ≡ Equal
equal_if Less is = absurd cc
equal_if Equal is = refl
equal_if Greater is = absurd cc

either_key : (b : Bool) (o : Option ℕ) (ino : ℕ) → (b ≡ true → o ≡ Some ino) → cond b (Some ino) (cond b None o) ≡ o
either_key true o ino same = sym (same refl)
either_key false o ino same = refl

-- a name that is taken out and put back
put_again : (es : Entries) (name : FileName) (ino : ℕ) → map.get es name ≡ Some ino → map.insert (map.remove es name) name ino ≡ es
put_again es name ino has = map.same_map nat_list_cmp_total names_differ (map.insert (map.remove es name) name ino) es (λ q.
    map.get-insert nat_list_cmp_total (map.remove es name) name ino q
    ∙ ap (cond (eq_by_cmp (slice_cmp nat_cmp) q name) (Some ino)) (map.get-remove nat_list_cmp_total es name q)
    ∙ either_key (eq_by_cmp (slice_cmp nat_cmp) q name) (map.get es q) ino (λ same. ap (map.get es) (names_differ q name (equal_if (slice_cmp nat_cmp q name) same)) ∙ has))
  where
    names_differ : map.IsAntisymmetric (slice_cmp nat_cmp)
    names_differ = map.slice_cmp-IsAntisymmetric map.nat_cmp-IsAntisymmetric

pub some_name : (d : Directory) (name : FileName) (ino : ℕ) → map.get d.entries name ≡ Some ino → map.len d.entries ≢ 0
some_name d name ino has none =
    let gone : map.contains_key (map.remove d.entries name) name ≡ false =
    ap is_some (map.get-remove nat_list_cmp_total d.entries name name) ∙ ap (λ b. is_some (cond b None (map.get d.entries name))) (ap is_eq (tied_itself nat_list_cmp_total name)) in
    let more : map.len (map.insert (map.remove d.entries name) name ino) ≡ map.len (map.remove d.entries name) + 1 =
    map.len-insert nat_list_cmp_total (map.remove d.entries name) name ino
    ∙ ap (λ b. cond b (map.len (map.remove d.entries name)) (map.len (map.remove d.entries name) + 1)) gone in
    let same : map.len (map.insert (map.remove d.entries name) name ino) ≡ map.len d.entries = ap map.len (put_again d.entries name ino has) in
    omega arith

root_here : (nodes : Nodes) (name : FileName) (ino : ℕ) → step_to nodes root name ≡ Ok ino → IsRootUsed nodes
root_here nodes name ino step d found =
    let s = step_of nodes root name ino step in
    let same : Some (IsDirectory s.directory) ≡ Some (IsDirectory d) = sym s.found ∙ directory_node nodes root d found in
    let one : d ≡ s.directory = cc in
    some_name d name ino (ap (λ (e : Directory). map.get e.entries name) one ∙ s.entry)

first_step : (m : Maybe ℕ) (k : ℕ → Maybe ℕ) (at : ℕ) → (m >>= k) ≡ Ok at → (next : ℕ) × (m ≡ Ok next)
first_step (Err why) k at is = absurd cc
first_step (Ok next) k at is = (next, refl)

-- where a name was found from the root on, the root has a name
pub root_used : (nodes : Nodes) (above : List FileName) (at : ℕ) (name : FileName) (ino : ℕ) → walk nodes root above ≡ Ok at → step_to nodes at name ≡ Ok ino → IsRootUsed nodes
root_used nodes [] at name ino walked step =
    let here : at ≡ root = cc in
    root_here nodes name ino (ap (λ (n : ℕ). step_to nodes n name) (sym here) ∙ step)
root_used nodes (first ∷ rest) at name ino walked step =
    let next = first_step (step_to nodes root first) (λ n. walk nodes n rest) at walked in
    root_here nodes first next.0 next.1

-- ---- the end of a path

end_from : (first : FileName) (rest : List FileName) (name : FileName) → path_end_from first (rest ++ name ∷ []) ≡ record { above = first ∷ rest; name = name }
end_from first [] name = refl
end_from first (next ∷ rest) name = ap (λ (e : PathEnd). record { above = first ∷ e.above; name = e.name }) (end_from next rest name)

pub end_of : (names above : List FileName) (name : FileName) → names ≡ above ++ name ∷ [] → path_end names ≡ Some (record { above = above; name = name })
end_of names [] name is = ap path_end is
end_of names (first ∷ rest) name is = ap path_end is ∙ ap Some (end_from first rest name)

module _ {B : Type 0} (nodes : Nodes) (names above : List FileName) (name : FileName) (is : names ≡ above ++ name ∷ []) (why : Refusal) (k : Entry → Maybe B) where
  ended : (entry_along nodes why names >>= k) ≡ ((walk nodes root above >>= entry_at nodes name) >>= k)
  ended = ap (λ (o : Option PathEnd). (need o why >>= entry_end nodes) >>= k) (end_of names above name is)

  pub along_found : (at : ℕ) → walk nodes root above ≡ Ok at → (entry_along nodes why names >>= k) ≡ (entry_at nodes name at >>= k)
  along_found at walked = ended ∙ ap (λ m. (m >>= entry_at nodes name) >>= k) walked

  pub along_refused : (no_way : Refusal) → walk nodes root above ≡ Err no_way → (entry_along nodes why names >>= k) ≡ Err no_way
  along_refused no_way walked = ended ∙ ap (λ m. (m >>= entry_at nodes name) >>= k) walked

-- ---- a name more

added_by : (s : State) (at n : ℕ) (name : FileName) (ino : ℕ) (new : State) (d : Directory) (m : Maybe Layout) → n ≢ at
    → (m >>= (λ (l : Layout). Ok (record { tree = with_nodes s.tree (map.insert s.tree.nodes at (with_name d name ino)); layout = l }))) ≡ Ok new → map.get new.tree.nodes n ≡ map.get s.tree.nodes n
added_by s at n name ino new d (Err why) other is = absurd cc
added_by s at n name ino new d (Ok l) other is =
    let same : record { tree = with_nodes s.tree (map.insert s.tree.nodes at (with_name d name ino)); layout = l } ≡ new = cc in
    ap (λ (x : State). map.get x.tree.nodes n) (sym same) ∙ at_other s.tree.nodes at (with_name d name ino) n other

added_in : (s : State) (at n : ℕ) (name : FileName) (ino : ℕ) (new : State) (m : Maybe Directory) → n ≢ at → (m >>= add_name_in s at name ino) ≡ Ok new → map.get new.tree.nodes n ≡ map.get s.tree.nodes n
added_in s at n name ino new (Err why) other is = absurd cc
added_in s at n name ino new (Ok d) other is = added_by s at n name ino new d (add_entry s.layout s.tree.tunables.initial_extent_size at (record { ino = ino; name = name })) other is

-- another inode stays as it was
pub added_other : (s : State) (at n : ℕ) (name : FileName) (ino : ℕ) (new : State) → n ≢ at → add_name s at name ino ≡ Ok new → map.get new.tree.nodes n ≡ map.get s.tree.nodes n
added_other s at n name ino new other is = added_in s at n name ino new (directory_at s.tree.nodes at) other is

-- the state that an edit came to
pub record IsNew (base : State) (edited : Maybe State) (m : Meta) (t : Touched) : Type 0 where
  pub new : State
  pub is : edited ≡ Ok new
  pub gone : HasGone base new m t

pub edited_to : (base : State) (edited : Maybe State) (m : Meta) (t : Touched) → IsEdited base edited m t → IsNew base edited m t
edited_to base (Ok new) m t gone = record { new = new; is = refl; gone = gone }
edited_to base (Err why) m t gone = absurd gone

pub refusal_settled : (s : State) (chain : Maybe Done) (m : Meta) (t : Touched) (edited : Maybe State) (r : EditRefusal) (result : Result Reply AllocError) → Stands m s → t ≡ untouched
    → ((why : Refusal) → edited ≡ Err why → chain ≡ Err why) → IsRefused edited r → result ≡ refusal_reply r → IfOk result (IsSettled s chain m t)
refusal_settled s chain m t edited (edit.Refused why) result stands empty carried refusal is =
    subst (λ (x : Result Reply AllocError). IfOk x (IsSettled s chain m t)) (sym is) (refused s chain m t why stands empty (carried why refusal.0))
refusal_settled s chain m t edited edit.NoMemory result stands empty carried refusal is = subst (λ (x : Result Reply AllocError). IfOk x (IsSettled s chain m t)) (sym is) tt

-- ---- directories, once more

new_by : (name : FileName) (o : Option DirectoryValue) → IsNewIn name o → (v : DirectoryValue) × ((o ≡ Some v) × (inode_of v.names name ≡ None))
new_by name None new = absurd new
new_by name (Some v) new = (v, (refl, new))

-- a directory that does not have the name
pub record IsWithout (nodes : Nodes) (n : ℕ) (name : FileName) : Type 0 where
  pub directory : Directory
  pub found : map.get nodes n ≡ Some (IsDirectory directory)
  pub absent : map.get directory.entries name ≡ None

pub without_of : (m : Meta) (s : State) → Stands m s → (n : ℕ) (name : FileName) → IsNewIn name (directory_of m n) → IsWithout s.tree.nodes n name
without_of m s stands n name new =
    let v = new_by name (directory_of m n) new in
    let d = directory_found m s stands n v.0 v.1.0 in
    record { directory = d.0; found = d.1; absent = sym (meaning m s stands n v.0 v.1.0 d.0 d.1 name) ∙ v.1.1 }

pub new_of : (m : Meta) (s : State) → Stands m s → (n : ℕ) (name : FileName) → IsWithout s.tree.nodes n name → IsNewIn name (directory_of m n)
new_of m s stands n name w =
    let v = directory_here m s stands n w.directory w.found in
    subst (IsNewIn name) (sym v.1) (meaning m s stands n v.0 v.1 w.directory w.found name ∙ w.absent)

pub used_node : (m : Meta) (s : State) → Stands m s → (n : ℕ) → IsTrue (is_used m.inodes n) → (node : Node) × (map.get s.tree.nodes n ≡ Some node)
used_node m s stands n used = node_there (map.get s.tree.nodes n) (sym (ap is_some (stands.is.inodes n)) ∙ used)
  where
    node_there : (o : Option Node) → is_some (option_map (λ (v : InodeValue). v.inode) (option_map (inode_for (settled_of s.layout n)) o)) ≡ true → (node : Node) × (o ≡ Some node)
    node_there None is = absurd cc
    node_there (Some node) is = (node, refl)

pub some_of : {X : Type 0} (o : Option X) → is_some o ≡ true → (x : X) × (o ≡ Some x)
some_of None is = absurd cc
some_of (Some x) is = (x, refl)
