-- What a call's success says of the state that it found, and which edits it made.
use Rattle.std.proofs.Common.{◌≡◌, ◌≢◌, ℕ, ◌+◌, ◌-◌, ◌*◌, ◌<◌, Bool, true, false, cond, List, Option, Some, None, Ok, refl, sym, ap, subst, ◌∙◌}
use Rattle.std.specs.Prelude.{◌==◌, ◌&&◌, not, is_none, nat_lt}
use Rattle.std.specs.FinMap as map
use Rattle.std.proofs.lemmas.Bool.{true≢false, eq-eqb, eqb-true, ltb-true}
use Rattle.vx_base.specs.Paths.{FileName, split}
use Rattle.vx_base.specs.declared.refusal.Refusal.{Refusal}
use Rattle.vx_base.specs.declared.refusal.Refusal.TheVariants as no
use Rattle.vx_base.specs.declared.reply.Reply.TheVariants as say
use Rattle.vx_model.specs.Outcome.{Maybe, unless, ◌>>=◌, need}
use Rattle.vx_model.specs.Tree.{Nodes, Node, File, Directory, IsFile, IsDirectory, lowest_unused}
use Rattle.vx_model.specs.Layout.{add_entry}
use Rattle.vx_model.specs.State.{State, Done}
use Rattle.vx_model.specs.Paths.{PathEnd, path_end}
use Rattle.vx_model.specs.Walks.{root, walk, names_of, inode_of, node_at, directory_at, file_at}
use Rattle.vx_model.specs.Edits.{with_nodes, with_name, add_name, add_name_in, remove_name, set_node, drop_node}
use Rattle.vx_model.specs.Entering.{Entry, entry_in, entry_at, entry_end, entry_along}
use Rattle.vx_model.specs.Making.{make_as, make_in, make_at, make_end, make_along}
use Rattle.vx_model.specs.Removing.{fine, is_last, unlinked, unlink_file, unlink_entry, unlink_along, unlink, remove_empty, remove_directory, rmdir_along, rmdir}
use Rattle.vx_model.specs.Linking.{most_links, link_in, link_at, link_end, link_file, link_inode, link_along, link}
use Rattle.vx_model.specs.Moving.{is_below, is_directory, Move, enter, cleared, replace_directory, replace_file, replace_by, move_onto, move_into, move_node, move_to, move_entry, move_ends, rename_along, rename}
use Rattle.vx_model.specs.Naming.{with_mode, chmod_at, chmod_along, chmod}
use Rattle.vx_model.specs.Waiting.{Waits}
use Rattle.vx_model.specs.NameLaws.{meaning_in, lookup, LeadsTo}
use Rattle.vx_model.proofs.Chains.{always_ok, bind_ok, unless_ok, need_ok}
use Rattle.vx_model.proofs.GivenUp.{add_waits}
use Rattle.vx_model.proofs.Lookups.{directory_ok, file_ok, leads_to}

none_is : {A : Type 0} (o : Option A) → is_none o ≡ true → o ≡ None
none_is None h = refl
none_is (Some x) h = absurd cc

ok_is : {A : Type 0} (x y : A) → ◌≡◌ {A = Maybe A} (Ok x) (Ok y) → x ≡ y
ok_is x y h = cc

is_ok : {A : Type 0} (x y : A) → ◌≡◌ {A = Maybe A} (Ok x) (Ok y) → y ≡ x
is_ok x y h = cc

-- ---- a name more

pub record Adds (s : State) (at : ℕ) (name : FileName) (ino : ℕ) (new : State) : Type 0 where
  pub directory : Directory
  pub there : map.get s.tree.nodes at ≡ Some (IsDirectory directory)
  pub nodes : new.tree.nodes ≡ map.insert s.tree.nodes at (with_name directory name ino)
  pub units : new.layout.units ≡ s.layout.units

pub adds : (s : State) (at : ℕ) (name : FileName) (ino : ℕ) (new : State) → add_name s at name ino ≡ Ok new → Adds s at name ino new
adds s at name ino new h =
    let found = bind_ok (directory_at s.tree.nodes at) (add_name_in s at name ino) new h in
    let nodes : Nodes = map.insert s.tree.nodes at (with_name found.0 name ino) in
    let placed = bind_ok (add_entry s.layout s.tree.tunables.initial_extent_size at (record { ino = ino; name = name })) (λ layout. Ok (record { tree = with_nodes s.tree nodes; layout = layout })) new found.2 in
    let e : record { tree = with_nodes s.tree nodes; layout = placed.0 } ≡ new = ok_is (record { tree = with_nodes s.tree nodes; layout = placed.0 }) new placed.2 in
    record {
      directory = found.0;
      there = directory_ok s.tree.nodes at found.0 found.1;
      nodes = ap (λ (b : State). b.tree.nodes) (sym e);
      units = ap (λ v. v.units) (always_ok (add_name s at name ino) (Waits 0 s) new (add_waits 0 s at ino name) h).same_volume;
    }

-- ---- create, mkdir

pub record Makes (s : State) (path : List ℕ) (node : Node) (done : Done) : Type 0 where
  pub at : ℕ
  pub name : FileName
  pub directory : Directory
  pub named : State
  pub leads : LeadsTo s.tree.nodes path at name
  pub there : map.get s.tree.nodes at ≡ Some (IsDirectory directory)
  pub new_name : map.get directory.entries name ≡ None
  pub low : lowest_unused s.layout.units s.tree.nodes < 128 * s.layout.units
  pub added : add_name s at name (lowest_unused s.layout.units s.tree.nodes) ≡ Ok named
  pub is : done ≡ record { state = set_node named (lowest_unused s.layout.units s.tree.nodes) node; reply = say.Made (lowest_unused s.layout.units s.tree.nodes) }

pub makes : (s : State) (path : List ℕ) (node : Node) (done : Done) → (names_of path >>= make_along s node) ≡ Ok done → Makes s path node done
makes s path node done h =
    let ino : ℕ = lowest_unused s.layout.units s.tree.nodes in
    let names = bind_ok (names_of path) (make_along s node) done h in
    let end = bind_ok (need (path_end names.0) no.Exist) (make_end s node) done names.2 in
    let at = bind_ok (walk s.tree.nodes root end.0.above) (make_at s end.0.name node) done end.2 in
    let found = bind_ok (directory_at s.tree.nodes at.0) (make_in s at.0 end.0.name node) done at.2 in
    let absent = unless_ok (is_none (map.get found.0.entries end.0.name)) no.Exist (make_as s at.0 end.0.name node ino) done found.2 in
    let make = λ (b : State). Ok (record { state = set_node b ino node; reply = say.Made ino }) in
    let low = unless_ok (nat_lt ino (128 * s.layout.units)) (no.NoInodes (128 * s.layout.units - 2)) (add_name s at.0 end.0.name ino >>= make) done absent.1 in
    let named = bind_ok (add_name s at.0 end.0.name ino) make done low.1 in
    record {
      at = at.0;
      name = end.0.name;
      directory = found.0;
      named = named.0;
      leads = leads_to s.tree.nodes path names.0 end.0 at.0 (need_ok (split path) no.BadName names.0 names.1) (need_ok (path_end names.0) no.Exist end.0 end.1) at.1;
      there = directory_ok s.tree.nodes at.0 found.0 found.1;
      new_name = none_is (map.get found.0.entries end.0.name) absent.0;
      low = ltb-true ino (128 * s.layout.units) low.0;
      added = named.1;
      is = is_ok (record { state = set_node named.0 ino node; reply = say.Made ino }) done named.2;
    }

-- ---- the entry at the end of a path

pub record Enters (nodes : Nodes) (path : List ℕ) (e : Entry) : Type 0 where
  pub leads : LeadsTo nodes path e.at e.name
  pub means : lookup nodes e.at e.name ≡ Some e.ino

entry_means : (nodes : Nodes) (e : Entry) (at : ℕ) (name : FileName) → entry_at nodes name at ≡ Ok e → (e.at ≡ at) × (e.name ≡ name) × (lookup nodes at name ≡ Some e.ino)
entry_means nodes e at name h =
    let found = bind_ok (directory_at nodes at) (entry_in at name) e h in
    let ino = bind_ok (need (map.get found.0.entries name) no.NoEnt) (λ ino. Ok (record { at = at; name = name; ino = ino })) e found.2 in
    let is : record { at = at; name = name; ino = ino.0 } ≡ e = ok_is (record { at = at; name = name; ino = ino.0 }) e ino.2 in (
      sym (ap (λ (x : Entry). x.at) is),
      sym (ap (λ (x : Entry). x.name) is),
      ap (meaning_in name) (directory_ok nodes at found.0 found.1) ∙ need_ok (map.get found.0.entries name) no.NoEnt ino.0 ino.1 ∙ ap Some (ap (λ (x : Entry). x.ino) is),
    )

pub enters : (nodes : Nodes) (path : List ℕ) (names : List FileName) (end : PathEnd) (e : Entry) → split path ≡ Some names → path_end names ≡ Some end → entry_end nodes end ≡ Ok e → Enters nodes path e
enters nodes path names end e is last h =
    let at = bind_ok (walk nodes root end.above) (entry_at nodes end.name) e h in
    let means = entry_means nodes e at.0 end.name at.2 in
    let leads = leads_to nodes path names end at.0 is last at.1 in
    record {
      leads = subst (λ (x : FileName). LeadsTo nodes path e.at x) (sym means.1) (subst (λ (k : ℕ). LeadsTo nodes path k end.name) (sym means.0) leads);
      means = ap (λ (k : ℕ). lookup nodes k e.name) means.0 ∙ ap (lookup nodes at.0) means.1 ∙ means.2;
    }

pub enters_along : (nodes : Nodes) (path : List ℕ) (why : Refusal) (names : List FileName) (e : Entry) → names_of path ≡ Ok names → entry_along nodes why names ≡ Ok e → Enters nodes path e
enters_along nodes path why names e is h =
    let end = bind_ok (need (path_end names) why) (entry_end nodes) e h in
    enters nodes path names end.0 e (need_ok (split path) no.BadName names is) (need_ok (path_end names) why end.0 end.1) end.2

-- ---- unlink, rmdir

pub record Unlinks (s : State) (place : ℕ) (path : List ℕ) (done : Done) : Type 0 where
  pub entry : Entry
  pub file : File
  pub enters : Enters s.tree.nodes path entry
  pub there : map.get s.tree.nodes entry.ino ≡ Some (IsFile file)
  pub is : done ≡ fine (unlinked (remove_name s entry.at entry.name) place entry.ino (is_last s.tree entry.ino file) file)

pub unlinks : (s : State) (place : ℕ) (path : List ℕ) (done : Done) → unlink s place path ≡ Ok done → Unlinks s place path done
unlinks s place path done h =
    let names = bind_ok (names_of path) (unlink_along s place) done h in
    let e = bind_ok (entry_along s.tree.nodes no.IsDir names.0) (unlink_entry s place) done names.2 in
    let f = bind_ok (file_at s.tree.nodes e.0.ino) (unlink_file s place e.0) done e.2 in
    record {
      entry = e.0;
      file = f.0;
      enters = enters_along s.tree.nodes path no.IsDir names.0 e.0 names.1 e.1;
      there = file_ok s.tree.nodes e.0.ino f.0 f.1;
      is = is_ok (fine (unlinked (remove_name s e.0.at e.0.name) place e.0.ino (is_last s.tree e.0.ino f.0) f.0)) done f.2;
    }

pub record RemovesDirectory (s : State) (place : ℕ) (path : List ℕ) (done : Done) : Type 0 where
  pub entry : Entry
  pub directory : Directory
  pub enters : Enters s.tree.nodes path entry
  pub there : map.get s.tree.nodes entry.ino ≡ Some (IsDirectory directory)
  pub empty : map.len directory.entries ≡ 0
  pub is : done ≡ fine (drop_node (remove_name s entry.at entry.name) place entry.ino)

pub removes_directory : (s : State) (place : ℕ) (path : List ℕ) (done : Done) → rmdir s place path ≡ Ok done → RemovesDirectory s place path done
removes_directory s place path done h =
    let names = bind_ok (names_of path) (rmdir_along s place) done h in
    let e = bind_ok (entry_along s.tree.nodes no.RootFixed names.0) (remove_directory s place) done names.2 in
    let d = bind_ok (directory_at s.tree.nodes e.0.ino) (remove_empty s place e.0) done e.2 in
    let empty = unless_ok (map.len d.0.entries == 0) no.NotEmpty (Ok (fine (drop_node (remove_name s e.0.at e.0.name) place e.0.ino))) done d.2 in
    record {
      entry = e.0;
      directory = d.0;
      enters = enters_along s.tree.nodes path no.RootFixed names.0 e.0 names.1 e.1;
      there = directory_ok s.tree.nodes e.0.ino d.0 d.1;
      empty = eqb-true (map.len d.0.entries) 0 empty.0;
      is = is_ok (fine (drop_node (remove_name s e.0.at e.0.name) place e.0.ino)) done empty.1;
    }

-- ---- link

pub record Links (s : State) (old new : List ℕ) (done : Done) : Type 0 where
  pub ino : ℕ
  pub file : File
  pub at : ℕ
  pub name : FileName
  pub directory : Directory
  pub named : State
  pub walked : inode_of s.tree.nodes old ≡ Ok ino
  pub there : map.get s.tree.nodes ino ≡ Some (IsFile file)
  pub leads : LeadsTo s.tree.nodes new at name
  pub directory_there : map.get s.tree.nodes at ≡ Some (IsDirectory directory)
  pub new_name : map.get directory.entries name ≡ None
  pub added : add_name s at name ino ≡ Ok named
  pub is : done ≡ fine (set_node named ino (IsFile (record file { nlink = file.nlink + 1 })))

pub links : (s : State) (old new : List ℕ) (done : Done) → link s old new ≡ Ok done → Links s old new done
links s old new done h =
    let from = bind_ok (names_of old) (λ from. names_of new >>= link_along s from) done h in
    let to = bind_ok (names_of new) (link_along s from.0) done from.2 in
    let ino = bind_ok (walk s.tree.nodes root from.0) (link_inode s to.0) done to.2 in
    let f = bind_ok (file_at s.tree.nodes ino.0) (link_file s to.0 ino.0) done ino.2 in
    let end = bind_ok (need (path_end to.0) no.Exist) (link_end s ino.0 f.0) done f.2 in
    let at = bind_ok (walk s.tree.nodes root end.0.above) (link_at s ino.0 f.0 end.0.name) done end.2 in
    let d = bind_ok (directory_at s.tree.nodes at.0) (link_in s ino.0 f.0 at.0 end.0.name) done at.2 in
    let raise = λ (b : State). Ok (fine (set_node b ino.0 (IsFile (record f.0 { nlink = f.0.nlink + 1 })))) in
    let add = add_name s at.0 end.0.name ino.0 >>= raise in
    let absent = unless_ok (is_none (map.get d.0.entries end.0.name)) no.Exist (unless (nat_lt f.0.nlink most_links) (no.TooManyLinks f.0.nlink) add) done d.2 in
    let few = unless_ok (nat_lt f.0.nlink most_links) (no.TooManyLinks f.0.nlink) add done absent.1 in
    let named = bind_ok (add_name s at.0 end.0.name ino.0) raise done few.1 in
    record {
      ino = ino.0;
      file = f.0;
      at = at.0;
      name = end.0.name;
      directory = d.0;
      named = named.0;
      walked = ap (λ m. m >>= walk s.tree.nodes root) from.1 ∙ ino.1;
      there = file_ok s.tree.nodes ino.0 f.0 f.1;
      leads = leads_to s.tree.nodes new to.0 end.0 at.0 (need_ok (split new) no.BadName to.0 to.1) (need_ok (path_end to.0) no.Exist end.0 end.1) at.1;
      directory_there = directory_ok s.tree.nodes at.0 d.0 d.1;
      new_name = none_is (map.get d.0.entries end.0.name) absent.0;
      added = named.1;
      is = is_ok (fine (set_node named.0 ino.0 (IsFile (record f.0 { nlink = f.0.nlink + 1 })))) done named.2;
    }

-- ---- chmod

pub record Modes (s : State) (path : List ℕ) (mode : ℕ) (done : Done) : Type 0 where
  pub ino : ℕ
  pub node : Node
  pub walked : inode_of s.tree.nodes path ≡ Ok ino
  pub there : map.get s.tree.nodes ino ≡ Some node
  pub is : done ≡ fine (set_node s ino (with_mode mode node))

pub modes : (s : State) (path : List ℕ) (mode : ℕ) (done : Done) → chmod s path mode ≡ Ok done → Modes s path mode done
modes s path mode done h =
    let names = bind_ok (names_of path) (chmod_along s mode) done h in
    let ino = bind_ok (walk s.tree.nodes root names.0) (chmod_at s mode) done names.2 in
    let node = bind_ok (node_at s.tree.nodes ino.0) (λ node. Ok (fine (set_node s ino.0 (with_mode mode node)))) done ino.2 in
    record {
      ino = ino.0;
      node = node.0;
      walked = ap (λ m. m >>= walk s.tree.nodes root) names.1 ∙ ino.1;
      there = need_ok (map.get s.tree.nodes ino.0) no.NoEnt node.0 node.1;
      is = is_ok (fine (set_node s ino.0 (with_mode mode node.0))) done node.2;
    }

-- ---- rename

-- what may stand in the new place
pub data Onto (s : State) (place : ℕ) (m : Move) (done : Done) : Type 0 where
  nothing : lookup s.tree.nodes m.to m.name ≡ None → enter (remove_name s m.from.at m.from.name) m ≡ Ok done → Onto s place m done
  itself : lookup s.tree.nodes m.to m.name ≡ Some m.from.ino → done ≡ fine s → Onto s place m done
  directory : (target : ℕ) (d moved : Directory) → target ≢ m.from.ino → lookup s.tree.nodes m.to m.name ≡ Some target → m.node ≡ IsDirectory moved → map.get s.tree.nodes target ≡ Some (IsDirectory d)
      → map.len d.entries ≡ 0 → enter (drop_node (cleared s m) place target) m ≡ Ok done → Onto s place m done
  file : (target : ℕ) (f moved : File) → target ≢ m.from.ino → lookup s.tree.nodes m.to m.name ≡ Some target → m.node ≡ IsFile moved → map.get s.tree.nodes target ≡ Some (IsFile f)
      → enter (unlinked (cleared s m) place target (is_last s.tree target f) f) m ≡ Ok done → Onto s place m done

pub record Renames (s : State) (place : ℕ) (old new : List ℕ) (done : Done) : Type 0 where
  pub move : Move
  pub old_names : List FileName
  pub new_names : List FileName
  pub directory : Directory
  pub old_split : split old ≡ Some old_names
  pub new_split : split new ≡ Some new_names
  pub enters : Enters s.tree.nodes old move.from
  pub leads : LeadsTo s.tree.nodes new move.to move.name
  pub there : map.get s.tree.nodes move.from.ino ≡ Some move.node
  pub directory_there : map.get s.tree.nodes move.to ≡ Some (IsDirectory directory)
  pub not_below : (is_directory move.node && is_below old_names new_names) ≡ false
  pub onto : Onto s place move done

replaces : (s : State) (place : ℕ) (m : Move) (target : ℕ) (node : Node) (done : Done) → m.node ≡ node → target ≢ m.from.ino → lookup s.tree.nodes m.to m.name ≡ Some target
    → replace_by s place m target node ≡ Ok done → Onto s place m done
replaces s place m target (IsDirectory moved) done node ne means h =
    let d = bind_ok (directory_at s.tree.nodes target) (replace_directory s place m target) done h in
    let empty = unless_ok (map.len d.0.entries == 0) no.NotEmpty (enter (drop_node (cleared s m) place target) m) done d.2 in
    directory target d.0 moved ne means node (directory_ok s.tree.nodes target d.0 d.1) (eqb-true (map.len d.0.entries) 0 empty.0) empty.1
replaces s place m target (IsFile moved) done node ne means h =
    let f = bind_ok (file_at s.tree.nodes target) (replace_file s place m target) done h in
    file target f.0 moved ne means node (file_ok s.tree.nodes target f.0 f.1) f.2

onto_some : (s : State) (place : ℕ) (m : Move) (target : ℕ) (done : Done) (t : Bool) → (target == m.from.ino) ≡ t → lookup s.tree.nodes m.to m.name ≡ Some target
    → cond t (Ok (fine s)) (replace_by s place m target m.node) ≡ Ok done → Onto s place m done
onto_some s place m target done true is means h = itself (means ∙ ap Some (eqb-true target m.from.ino is)) (is_ok (fine s) done h)
onto_some s place m target done false is means h =
    replaces s place m target m.node done refl (λ e. absurd (true≢false (sym (eq-eqb target m.from.ino e) ∙ is))) means h

onto_by : (s : State) (place : ℕ) (m : Move) (o : Option ℕ) (done : Done) → lookup s.tree.nodes m.to m.name ≡ o → move_onto s place m o ≡ Ok done → Onto s place m done
onto_by s place m None done means h = nothing means h
onto_by s place m (Some target) done means h = onto_some s place m target done (target == m.from.ino) refl means h

means_in : (nodes : Nodes) (at : ℕ) (d : Directory) (name : FileName) → map.get nodes at ≡ Some (IsDirectory d) → lookup nodes at name ≡ map.get d.entries name
means_in nodes at d name there = ap (meaning_in name) there

not_true : (t : Bool) → not t ≡ true → t ≡ false
not_true true h = absurd cc
not_true false h = refl

pub renames : (s : State) (place : ℕ) (old new : List ℕ) (done : Done) → rename s place old new ≡ Ok done → Renames s place old new done
renames s place old new done h =
    let olds = bind_ok (names_of old) (λ from. names_of new >>= rename_along s place from) done h in
    let news = bind_ok (names_of new) (rename_along s place olds.0) done olds.2 in
    let below : Bool = is_below olds.0 news.0 in
    let old_end = bind_ok (need (path_end olds.0) no.RootFixed) (λ from. need (path_end news.0) no.RootFixed >>= move_ends s place below from) done news.2 in
    let new_end = bind_ok (need (path_end news.0) no.RootFixed) (move_ends s place below old_end.0) done old_end.2 in
    let from = bind_ok (entry_end s.tree.nodes old_end.0) (move_entry s place below new_end.0) done new_end.2 in
    let to = bind_ok (walk s.tree.nodes root new_end.0.above) (move_to s place below from.0 new_end.0.name) done from.2 in
    let d = bind_ok (directory_at s.tree.nodes to.0) (λ d. node_at s.tree.nodes from.0.ino >>= move_node s place below from.0 to.0 new_end.0.name d) done to.2 in
    let node = bind_ok (node_at s.tree.nodes from.0.ino) (move_node s place below from.0 to.0 new_end.0.name d.0) done d.2 in
    let m : Move = record { from = from.0; node = node.0; to = to.0; name = new_end.0.name } in
    let apart = unless_ok (not (is_directory node.0 && below)) no.IntoItself (move_into s place m d.0) done node.2 in
    let there = directory_ok s.tree.nodes to.0 d.0 d.1 in
    let old_is = need_ok (split old) no.BadName olds.0 olds.1 in
    let new_is = need_ok (split new) no.BadName news.0 news.1 in
    record {
      move = m;
      old_names = olds.0;
      new_names = news.0;
      directory = d.0;
      old_split = old_is;
      new_split = new_is;
      enters = enters s.tree.nodes old olds.0 old_end.0 from.0 old_is (need_ok (path_end olds.0) no.RootFixed old_end.0 old_end.1) from.1;
      leads = leads_to s.tree.nodes new news.0 new_end.0 to.0 new_is (need_ok (path_end news.0) no.RootFixed new_end.0 new_end.1) to.1;
      there = need_ok (map.get s.tree.nodes from.0.ino) no.NoEnt node.0 node.1;
      directory_there = there;
      not_below = not_true (is_directory node.0 && below) apart.0;
      onto = onto_by s place m (map.get d.0.entries m.name) done (means_in s.tree.nodes to.0 d.0 m.name there) apart.1;
    }
