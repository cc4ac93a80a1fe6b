-- Link numbers are the numbers of names, whatever is called.
use Rattle.std.proofs.Common.{◌≡◌, ◌≢◌, ℕ, ◌+◌, ◌-◌, ◌*◌, ◌<◌, ◌≤◌, Bool, true, false, cond, List, Option, Some, None, Ok, refl, sym, ap, subst, ◌∙◌, arith, inl, inr}
use Rattle.std.specs.Prelude.{◌==◌, nat_le, not}
use Rattle.std.specs.Ordering.{nat_cmp}
use Rattle.std.specs.Cmp.Lexicographic.{slice_cmp}
use Rattle.std.specs.FinMap as map
use Rattle.std.proofs.lemmas.Bool.{cases_eq, and_parts, false_from_ne_true, eqb-true, leb-true}
use Rattle.vx_base.proofs.Maps.{at_key, at_other, put_twice}
use Rattle.vx_base.specs.Paths.{FileName}
use Rattle.vx_base.specs.declared.call.Call.{Call}
use Rattle.vx_base.specs.declared.call.Call.TheVariants as call
use Rattle.vx_base.specs.declared.event.Event.{Event}
use Rattle.vx_model.specs.Tree.{Tree, Nodes, Node, File, Directory, IsFile, IsDirectory, lowest_unused, new_file, new_directory}
use Rattle.vx_model.specs.Handles.{is_open}
use Rattle.vx_model.specs.State.{State, Done, fresh}
use Rattle.vx_model.specs.Walks.{root}
use Rattle.vx_model.specs.Edits.{with_name, add_name, remove_name, drop_node}
use Rattle.vx_model.specs.Making.{create, mkdir}
use Rattle.vx_model.specs.Removing.{is_last, unlinked, unlink, rmdir}
use Rattle.vx_model.specs.Linking.{link}
use Rattle.vx_model.specs.Moving.{Move, enter, cleared, rename}
use Rattle.vx_model.specs.Naming.{with_mode, chmod}
use Rattle.vx_model.specs.Settling.{settle}
use Rattle.vx_model.specs.Step.{step}
use Rattle.vx_model.specs.Legal.{opening, with_released, after_all}
use Rattle.vx_model.specs.NameLaws.{meaning_in, lookup, names_in, name_count, link_number, HasLinks}
use Rattle.vx_model.proofs.Unused.{unused_low, unused_free}
use Rattle.vx_model.proofs.StepWaits.{step_waits}
use Rattle.vx_model.proofs.Histories.{settled_keeps, kept_all}
use Rattle.vx_model.proofs.Replies.{stat_leaves, list_leaves, mount_leaves}
use Rattle.vx_model.proofs.Lookups.{node_gone, node_stays}
use Rattle.vx_model.proofs.Successes.{adds, Makes, makes, unlinks, removes_directory, Links, links, modes, Onto, nothing, itself, directory, file, renames}
use Rattle.vx_model.proofs.NameChanges.{same_directory, named_directory, file_leaf, empty_leaf, not_leaf, removed_nodes, remove_stays, unlinked_touches, unlinked_left, drop_touches, entered, clears_nothing, clears_target, target_means}
use Rattle.vx_model.proofs.FileStep.{file_step}
use Rattle.vx_model.proofs.FileTelling.{told_settle}
use Rattle.vx_model.proofs.FileNodes.{Alters, stays, sets, drops, file_alone, settled_units}
use Rattle.vx_model.proofs.Counting.{one, one_same, empty_counts, no_names, Owes, takes, puts, Relinked, relinks, loses, gains}

abbrev no_more : ℕ → ℕ
no_more i = 0

plus_none : (a l : ℕ) → a ≡ l → a + 0 ≡ l
plus_none a l e = omega arith

less_none : (a l : ℕ) → a + 0 ≡ l → a ≡ l
less_none a l e = omega arith

pub owes_none : (s : State) → HasLinks s → Owes s.tree.nodes (128 * s.layout.units) no_more
owes_none s is = record {
  low = is.low;
  links = λ i. plus_none (name_count s.tree.nodes (128 * s.layout.units) i) (link_number i (map.get s.tree.nodes i)) (is.links i);
}

pub has_links : (s : State) (n : ℕ) → n ≡ 128 * s.layout.units → Owes s.tree.nodes n no_more → HasLinks s
has_links s n same o =
    let P : ℕ → Type 0 = λ k. Owes s.tree.nodes k no_more in
    let here : Owes s.tree.nodes (128 * s.layout.units) no_more = subst P same o in
    record {
      low = here.low;
      links = λ i. less_none (name_count s.tree.nodes (128 * s.layout.units) i) (link_number i (map.get s.tree.nodes i)) (here.links i);
    }

-- ---- the edits

pub added_nodes : (s new : State) (at ino : ℕ) (name : FileName) (d : Directory) → map.get s.tree.nodes at ≡ Some (IsDirectory d) → add_name s at name ino ≡ Ok new
    → new.tree.nodes ≡ map.insert s.tree.nodes at (with_name d name ino)
added_nodes s new at ino name d there h =
    let a = adds s at name ino new h in
    a.nodes ∙ ap (λ (x : Directory). map.insert s.tree.nodes at (with_name x name ino)) (same_directory (map.get s.tree.nodes at) a.directory d a.there there)

pub remove_owes : (s : State) (at : ℕ) (name : FileName) (ino n : ℕ) (extra : ℕ → ℕ) → lookup s.tree.nodes at name ≡ Some ino → Owes s.tree.nodes n extra
    → Owes (remove_name s at name).tree.nodes n (λ i. one ino i + extra i)
remove_owes s at name ino n extra means o =
    let d = named_directory name ino (map.get s.tree.nodes at) means in
    let P : Nodes → Type 0 = λ ns. Owes ns n (λ i. one ino i + extra i) in
    subst P (sym (removed_nodes s at name d.0 d.1)) (takes s.tree.nodes n at d.0 d.1 name ino extra (sym (ap (meaning_in name) d.1) ∙ means) o)

enter_owes : (b : State) (m : Move) (done : Done) (n : ℕ) (extra : ℕ → ℕ) → enter b m ≡ Ok done → lookup b.tree.nodes m.to m.name ≡ None
    → Owes b.tree.nodes n (λ i. one m.from.ino i + extra i) → Owes done.state.tree.nodes n extra
enter_owes b m done n extra h free o =
    let e = entered b m done h in
    let a = adds b m.to m.name m.from.ino e.0 e.1 in
    let P : Nodes → Type 0 = λ ns. Owes ns n extra in
    subst P (sym (ap (λ (x : Done). x.state.tree.nodes) e.2 ∙ a.nodes))
    (puts b.tree.nodes n m.to a.directory a.there m.name m.from.ino extra (sym (ap (meaning_in m.name) a.there) ∙ free) o)

-- an inode whose node goes has no name then
absent_relinked : (nodes : Nodes) (n ino : ℕ) → ((i : ℕ) → names_in i (map.get nodes ino) ≡ 0) → Relinked nodes (map.remove nodes ino) n ino
absent_relinked nodes n ino none = record {
  low = λ node is. (let c : None ≡ Some node = sym (node_gone nodes ino) ∙ is in absurd cc);
  names = λ i. ap (names_in i) (node_gone nodes ino) ∙ sym (none i);
  others = λ k ne. node_stays nodes ino k ne;
}

set_relinked : (nodes : Nodes) (n ino : ℕ) (node : Node) → ino < n → ((i : ℕ) → names_in i (Some node) ≡ names_in i (map.get nodes ino)) → Relinked nodes (map.insert nodes ino node) n ino
set_relinked nodes n ino node lt same = record {
  low = λ other is. lt;
  names = λ i. ap (names_in i) (at_key nodes ino node) ∙ same i;
  others = λ k ne. at_other nodes ino node k ne;
}

some_owed : (a x extra l : ℕ) → x ≡ 1 → a + (x + extra) ≡ l → 1 ≤ l
some_owed a x extra l is h = omega arith

-- an inode that lacks a name has a link number
linked_once : (nodes : Nodes) (n ino : ℕ) (extra : ℕ → ℕ) (o : Option Node) → map.get nodes ino ≡ o → Owes nodes n (λ i. one ino i + extra i) → 1 ≤ link_number ino o
linked_once nodes n ino extra o is owes =
    some_owed (name_count nodes n ino) (one ino ino) (extra ino) (link_number ino o) (one_same ino) (owes.links ino ∙ ap (link_number ino) is)

unlinked_by : (t : Tree) (b : State) (place ino : ℕ) (f : File) (n : ℕ) (extra : ℕ → ℕ) (last : Bool) → is_last t ino f ≡ last → map.get b.tree.nodes ino ≡ Some (IsFile f) → Owes b.tree.nodes n (λ i. one ino i + extra i)
    → Owes (unlinked b place ino last f).tree.nodes n extra
unlinked_by t b place ino f n extra true is there o =
    let few : f.nlink ≤ 1 = leb-true f.nlink 1 (let both = and_parts (nat_le f.nlink 1) (not (is_open t ino)) is in both.0) in
    let some : 1 ≤ f.nlink = linked_once b.tree.nodes n ino extra (Some (IsFile f)) there o in
    let last : 0 + 1 ≡ f.nlink = omega arith in
    loses b.tree.nodes (map.remove b.tree.nodes ino) n ino extra (absent_relinked b.tree.nodes n ino (λ i. ap (names_in i) there))
    (ap (λ x. link_number ino x + 1) (node_gone b.tree.nodes ino) ∙ last ∙ sym (ap (link_number ino) there)) o
unlinked_by t b place ino f n extra false is there o =
    let node : Node = IsFile (record f { nlink = f.nlink - 1 }) in
    let some : 1 ≤ f.nlink = linked_once b.tree.nodes n ino extra (Some (IsFile f)) there o in
    let less : f.nlink - 1 + 1 ≡ f.nlink = omega arith in
    loses b.tree.nodes (map.insert b.tree.nodes ino node) n ino extra (set_relinked b.tree.nodes n ino node (o.low ino (IsFile f) there) (λ i. sym (ap (names_in i) there)))
    (ap (λ x. link_number ino x + 1) (at_key b.tree.nodes ino node) ∙ less ∙ sym (ap (link_number ino) there)) o

unlinked_owes : (t : Tree) (b : State) (place ino : ℕ) (f : File) (n : ℕ) (extra : ℕ → ℕ) → map.get b.tree.nodes ino ≡ Some (IsFile f) → Owes b.tree.nodes n (λ i. one ino i + extra i)
    → Owes (unlinked b place ino (is_last t ino f) f).tree.nodes n extra
unlinked_owes t b place ino f n extra there o = unlinked_by t b place ino f n extra (is_last t ino f) refl there o

only_one : (t : Bool) → 1 ≤ cond t 0 1 → 0 + 1 ≡ cond t 0 1
only_one true h = absurd (omega arith)
only_one false h = refl

drop_owes : (b : State) (place ino : ℕ) (d : Directory) (n : ℕ) (extra : ℕ → ℕ) → map.get b.tree.nodes ino ≡ Some (IsDirectory d) → map.len d.entries ≡ 0 → Owes b.tree.nodes n (λ i. one ino i + extra i)
    → Owes (drop_node b place ino).tree.nodes n extra
drop_owes b place ino d n extra there empty o =
    loses b.tree.nodes (map.remove b.tree.nodes ino) n ino extra (absent_relinked b.tree.nodes n ino (λ i. ap (names_in i) there ∙ empty_counts i d empty))
    (ap (λ x. link_number ino x + 1) (node_gone b.tree.nodes ino) ∙ only_one (ino == root) (linked_once b.tree.nodes n ino extra (Some (IsDirectory d)) there o) ∙ sym (ap (link_number ino) there)) o

-- ---- the calls

module _ (s : State) (o : Owes s.tree.nodes (128 * s.layout.units) no_more) where
  abbrev bound : ℕ
  bound = 128 * s.layout.units

  -- a new name, and a link more
  named_owes : (at : ℕ) (d : Directory) (name : FileName) (ino : ℕ) (node : Node) (named : State) → map.get s.tree.nodes at ≡ Some (IsDirectory d) → map.get d.entries name ≡ None → at ≢ ino → ino < bound
      → ((i : ℕ) → names_in i (Some node) ≡ names_in i (map.get s.tree.nodes ino)) → link_number ino (Some node) ≡ link_number ino (map.get s.tree.nodes ino) + 1 → add_name s at name ino ≡ Ok named
      → Owes (map.insert named.tree.nodes ino node) bound no_more
  named_owes at d name ino node named there none apart lt same more h =
      let nodes : Nodes = s.tree.nodes in
      let middle : Nodes = map.insert nodes ino node in
      let P : Nodes → Type 0 = λ ns. Owes ns bound no_more in
      let first = gains nodes middle bound ino no_more (set_relinked nodes bound ino node lt same) (ap (link_number ino) (at_key nodes ino node) ∙ more) o in
      let second = puts middle bound at d (at_other nodes ino node at apart ∙ there) name ino no_more none first in
      subst P (put_twice nodes ino at node (with_name d name ino) (λ e. apart (sym e)) ∙ ap (λ (ns : Nodes). map.insert ns ino node) (sym (added_nodes s named at ino name d there h))) second

  make_owes : (path : List ℕ) (node : Node) (done : Done) → ((i : ℕ) → names_in i (Some node) ≡ 0) → ((ino : ℕ) → 3 ≤ ino → link_number ino (Some node) ≡ 1) → Makes s path node done
      → Owes done.state.tree.nodes bound no_more
  make_owes path node done blank link m =
      let ino : ℕ = lowest_unused s.layout.units s.tree.nodes in
      let unused : map.get s.tree.nodes ino ≡ None = unused_free s.layout.units s.tree.nodes m.low in
      let apart : m.at ≢ ino = λ e. (let c : None ≡ Some (IsDirectory m.directory) = sym unused ∙ ap (map.get s.tree.nodes) (sym e) ∙ m.there in absurd cc) in
      subst (λ (x : Done). Owes x.state.tree.nodes bound no_more) (sym m.is)
      (named_owes m.at m.directory m.name ino node m.named m.there m.new_name apart m.low (λ i. blank i ∙ sym (ap (names_in i) unused))
      (link ino (unused_low s.layout.units s.tree.nodes) ∙ sym (ap (λ x. link_number ino x + 1) unused)) m.added)

  link_owes : (old new : List ℕ) (done : Done) → Links s old new done → Owes done.state.tree.nodes bound no_more
  link_owes old new done l =
      let node : Node = IsFile (record l.file { nlink = l.file.nlink + 1 }) in
      let apart : l.at ≢ l.ino = λ e. (let c : Some (IsDirectory l.directory) ≡ Some (IsFile l.file) = sym l.directory_there ∙ ap (map.get s.tree.nodes) e ∙ l.there in absurd cc) in
      subst (λ (x : Done). Owes x.state.tree.nodes bound no_more) (sym l.is)
      (named_owes l.at l.directory l.name l.ino node l.named l.directory_there l.new_name apart (o.low l.ino (IsFile l.file) l.there) (λ i. sym (ap (names_in i) l.there))
      (sym (ap (λ x. link_number l.ino x + 1) l.there)) l.added)

  unlink_owes : (place : ℕ) (path : List ℕ) (done : Done) → unlink s place path ≡ Ok done → Owes done.state.tree.nodes bound no_more
  unlink_owes place path done h =
      let u = unlinks s place path done h in
      let b : State = remove_name s u.entry.at u.entry.name in
      let apart = not_leaf s.tree.nodes u.entry.at u.entry.name u.entry.ino u.entry.ino u.enters.means (file_leaf s.tree.nodes u.entry.ino u.file u.there) in
      subst (λ (x : Done). Owes x.state.tree.nodes bound no_more) (sym u.is)
      (unlinked_owes s.tree b place u.entry.ino u.file bound no_more (remove_stays s u.entry.at u.entry.name u.entry.ino u.entry.ino u.enters.means apart ∙ u.there)
      (remove_owes s u.entry.at u.entry.name u.entry.ino bound no_more u.enters.means o))

  rmdir_owes : (place : ℕ) (path : List ℕ) (done : Done) → rmdir s place path ≡ Ok done → Owes done.state.tree.nodes bound no_more
  rmdir_owes place path done h =
      let u = removes_directory s place path done h in
      let b : State = remove_name s u.entry.at u.entry.name in
      let apart = not_leaf s.tree.nodes u.entry.at u.entry.name u.entry.ino u.entry.ino u.enters.means (empty_leaf s.tree.nodes u.entry.ino u.directory u.there u.empty) in
      subst (λ (x : Done). Owes x.state.tree.nodes bound no_more) (sym u.is)
      (drop_owes b place u.entry.ino u.directory bound no_more (remove_stays s u.entry.at u.entry.name u.entry.ino u.entry.ino u.enters.means apart ∙ u.there) u.empty
      (remove_owes s u.entry.at u.entry.name u.entry.ino bound no_more u.enters.means o))

  mode_names : (i mode : ℕ) (node : Node) → names_in i (Some (with_mode mode node)) ≡ names_in i (Some node)
  mode_names i mode (IsFile f) = refl
  mode_names i mode (IsDirectory d) = refl

  mode_link : (i mode : ℕ) (node : Node) → link_number i (Some (with_mode mode node)) ≡ link_number i (Some node)
  mode_link i mode (IsFile f) = refl
  mode_link i mode (IsDirectory d) = refl

  chmod_owes : (path : List ℕ) (mode : ℕ) (done : Done) → chmod s path mode ≡ Ok done → Owes done.state.tree.nodes bound no_more
  chmod_owes path mode done h =
      let m = modes s path mode done h in
      let node : Node = with_mode mode m.node in
      subst (λ (x : Done). Owes x.state.tree.nodes bound no_more) (sym m.is)
      (relinks s.tree.nodes (map.insert s.tree.nodes m.ino node) bound m.ino no_more
      (set_relinked s.tree.nodes bound m.ino node (o.low m.ino m.node m.there) (λ i. mode_names i mode m.node ∙ sym (ap (names_in i) m.there)))
      (ap (link_number m.ino) (at_key s.tree.nodes m.ino node) ∙ mode_link m.ino mode m.node ∙ sym (ap (link_number m.ino) m.there)) o)

  module _ (place : ℕ) (m : Move) (done : Done) (means : lookup s.tree.nodes m.from.at m.from.name ≡ Some m.from.ino) where
    abbrev taken : State
    taken = remove_name s m.from.at m.from.name

    taken_owes : Owes taken.tree.nodes bound (λ i. one m.from.ino i + no_more i)
    taken_owes = remove_owes s m.from.at m.from.name m.from.ino bound no_more means o

    cleared_owes : (target : ℕ) → target ≢ m.from.ino → lookup s.tree.nodes m.to m.name ≡ Some target → ((x : FileName) → lookup s.tree.nodes target x ≡ None)
        → Owes (cleared s m).tree.nodes bound (λ i. one target i + (one m.from.ino i + no_more i))
    cleared_owes target ne onto leaf = remove_owes taken m.to m.name target bound (λ i. one m.from.ino i + no_more i) (target_means s m means target onto ne leaf) taken_owes

    cleared_stays : (target : ℕ) → target ≢ m.from.ino → lookup s.tree.nodes m.to m.name ≡ Some target → ((x : FileName) → lookup s.tree.nodes target x ≡ None)
        → map.get (cleared s m).tree.nodes target ≡ map.get s.tree.nodes target
    cleared_stays target ne onto leaf =
        remove_stays taken m.to m.name target target (target_means s m means target onto ne leaf) (not_leaf s.tree.nodes m.to m.name target target onto leaf)
        ∙ remove_stays s m.from.at m.from.name m.from.ino target means (not_leaf s.tree.nodes m.from.at m.from.name m.from.ino target means leaf)

    onto_owes : Onto s place m done → Owes done.state.tree.nodes bound no_more
    onto_owes (nothing none h) = enter_owes taken m done bound no_more h (clears_nothing s m means none).free taken_owes
    onto_owes (itself onto is) = subst (λ (x : Done). Owes x.state.tree.nodes bound no_more) (sym is) o
    onto_owes (directory target d moved ne onto node there empty h) =
        let leaf = empty_leaf s.tree.nodes target d there empty in
        let less : State = drop_node (cleared s m) place target in
        enter_owes less m done bound no_more h (clears_target s m means target onto ne leaf less.tree.nodes (drop_touches (cleared s m).tree.nodes target) (IsDirectory d) there (node_gone (cleared s m).tree.nodes target)).free
        (drop_owes (cleared s m) place target d bound (λ i. one m.from.ino i + no_more i) (cleared_stays target ne onto leaf ∙ there) empty (cleared_owes target ne onto leaf))
    onto_owes (file target f moved ne onto node there h) =
        let leaf = file_leaf s.tree.nodes target f there in
        let less : State = unlinked (cleared s m) place target (is_last s.tree target f) f in
        enter_owes less m done bound no_more h (clears_target s m means target onto ne leaf less.tree.nodes (unlinked_touches (cleared s m) place target (is_last s.tree target f) f) (IsFile f) there (unlinked_left s (cleared s m) place target f)).free
        (unlinked_owes s.tree (cleared s m) place target f bound (λ i. one m.from.ino i + no_more i) (cleared_stays target ne onto leaf ∙ there) (cleared_owes target ne onto leaf))

  rename_owes : (place : ℕ) (old new : List ℕ) (done : Done) → rename s place old new ≡ Ok done → Owes done.state.tree.nodes bound no_more
  rename_owes place old new done h =
      let r = renames s place old new done h in
      onto_owes place r.move done r.enters.means r.onto

  file_link : (mode ino : ℕ) → 3 ≤ ino → link_number ino (Some (new_file mode)) ≡ 1
  file_link mode ino from = refl

  directory_link : (mode ino : ℕ) → 3 ≤ ino → link_number ino (Some (new_directory mode)) ≡ 1
  directory_link mode ino from = ap (λ t. cond t 0 1) (false_from_ne_true (ino == root) (λ e. (let is : ino ≡ 2 = eqb-true ino root e in absurd (omega arith))))

  -- ---- a call on a file

  alters_owes : (new : Nodes) → Alters s.tree.nodes new → Owes new bound no_more
  alters_owes new (stays same) = subst (λ (ns : Nodes). Owes ns bound no_more) (sym same) o
  alters_owes new (sets ino f g there links is) =
      subst (λ (ns : Nodes). Owes ns bound no_more) (sym is)
      (relinks s.tree.nodes (map.insert s.tree.nodes ino (IsFile g)) bound ino no_more
      (set_relinked s.tree.nodes bound ino (IsFile g) (o.low ino (IsFile f) there) (λ i. sym (ap (names_in i) there)))
      (ap (link_number ino) (at_key s.tree.nodes ino (IsFile g)) ∙ links ∙ sym (ap (link_number ino) there)) o)
  alters_owes new (drops ino f there none is) =
      subst (λ (ns : Nodes). Owes ns bound no_more) (sym is)
      (relinks s.tree.nodes (map.remove s.tree.nodes ino) bound ino no_more
      (absent_relinked s.tree.nodes bound ino (λ i. ap (names_in i) there))
      (ap (link_number ino) (node_gone s.tree.nodes ino) ∙ sym none ∙ sym (ap (link_number ino) there)) o)

  file_owes : (place session : ℕ) (c : Call) (done : Done) → file_step s place session c ≡ Some done → Owes done.state.tree.nodes bound no_more
  file_owes place session c done h = alters_owes done.state.tree.nodes (file_alone s place session c done h).nodes

  abbrev Kept : State → Type 0
  Kept new = Owes new.tree.nodes bound no_more

  step_owes : (place session : ℕ) (c : Call) (done : Done) → step s place session c ≡ Some done → Kept done.state
  step_owes place session (call.Create path mode) done h =
      settled_keeps s Kept (create s path mode) done o h (λ is. make_owes path (new_file mode) done (λ i. refl) (file_link mode) (makes s path (new_file mode) done is))
  step_owes place session (call.Mkdir path mode) done h =
      settled_keeps s Kept (mkdir s path mode) done o h (λ is. make_owes path (new_directory mode) done
      (λ i. empty_counts i (record { mode = mode; entries = map.empty }) (map.len-empty (slice_cmp nat_cmp) ℕ)) (directory_link mode) (makes s path (new_directory mode) done is))
  step_owes place session (call.Unlink path) done h = settled_keeps s Kept (unlink s place path) done o h (unlink_owes place path done)
  step_owes place session (call.Rmdir path) done h = settled_keeps s Kept (rmdir s place path) done o h (rmdir_owes place path done)
  step_owes place session (call.Link old new) done h = settled_keeps s Kept (link s old new) done o h (λ is. link_owes old new done (links s old new done is))
  step_owes place session (call.Rename old new) done h = settled_keeps s Kept (rename s place old new) done o h (rename_owes place old new done)
  step_owes place session (call.Chmod path mode) done h = settled_keeps s Kept (chmod s path mode) done o h (chmod_owes path mode done)
  step_owes place session (call.Stat path) done h = subst Kept (sym (stat_leaves s place session path done h)) o
  step_owes place session (call.List path) done h = subst Kept (sym (list_leaves s place session path done h)) o
  step_owes place session (call.OpenFile handle path flag) done h = file_owes place session (call.OpenFile handle path flag) done h
  step_owes place session (call.Close handle) done h = file_owes place session (call.Close handle) done h
  step_owes place session (call.Read handle offset count) done h = file_owes place session (call.Read handle offset count) done h
  step_owes place session (call.Write handle offset payload) done h = file_owes place session (call.Write handle offset payload) done h
  step_owes place session (call.Truncate handle size) done h = file_owes place session (call.Truncate handle size) done h
  step_owes place session (call.Fsync handle) done h = file_owes place session (call.Fsync handle) done h
  step_owes place session call.Sync done h = subst Kept (sym (mount_leaves s done h)) o
  step_owes place session call.Tick done h = subst Kept (sym (mount_leaves s done h)) o
  step_owes place session (call.After other lines) done h = subst Kept (sym (mount_leaves s done h)) o
  step_owes place session call.Stop done h = subst Kept (sym (mount_leaves s done h)) o
  step_owes place session _ done h = absurd cc

pub step_links : (s : State) (place session : ℕ) (c : Call) (done : Done) → HasLinks s → step s place session c ≡ Some done → HasLinks done.state
step_links s place session c done is h =
    let same : s.layout.units ≡ done.state.layout.units = sym (ap (λ v. v.units) (step_waits s place session c done h).same_volume) in
    has_links done.state (128 * s.layout.units) (ap (λ u. 128 * u) same) (step_owes s (owes_none s is) place session c done h)

pub released_links : (s : State) (upto : ℕ) → HasLinks s → HasLinks (with_released s upto)
released_links s upto is = record { low = is.low; links = is.links }

pub settled_links : (s : State) (place ino : ℕ) → HasLinks s → HasLinks (settle s place ino)
settled_links s place ino is =
    let P : Nodes → ℕ → Type 0 = λ ns n. Owes ns (128 * n) no_more in
    has_links (settle s place ino) (128 * s.layout.units) (ap (λ u. 128 * u) (sym (settled_units s place ino)))
    (subst (λ (ns : Nodes). P ns s.layout.units) (sym (ap (λ (t : Tree). t.nodes) (told_settle s place ino))) (owes_none s is))

-- ---- a new file system

module _ (log_blocks limit sectors : ℕ) where
  abbrev start : State
  start = fresh log_blocks limit sectors

  no_entries : map.len (map.empty {X = ℕ} {R = slice_cmp nat_cmp}) ≡ 0
  no_entries = map.len-empty (slice_cmp nat_cmp) ℕ

  abbrev nodes_fresh : Nodes
  nodes_fresh = map.insert map.empty 2 (new_directory 493)

  fresh_other : (k : ℕ) → k ≢ 2 → map.get nodes_fresh k ≡ None
  fresh_other k ne = at_other map.empty 2 (new_directory 493) k ne ∙ map.get-empty nat_cmp k

  fresh_low : (k : ℕ) (node : Node) → map.get nodes_fresh k ≡ Some node → k < 128 * 1
  fresh_low k node is =
      elim (cases_eq k 2) [
        | inl e ↦ omega arith
        | inr ne ↦ let c : None ≡ Some node = sym (fresh_other k ne) ∙ is in absurd cc
      ]

  fresh_names : (i k : ℕ) → names_in i (map.get nodes_fresh k) ≡ 0
  fresh_names i k =
      elim (cases_eq k 2) [
        | inl e ↦ ap (λ (x : ℕ). names_in i (map.get nodes_fresh x)) e ∙ ap (names_in i) (at_key map.empty 2 (new_directory 493)) ∙ empty_counts i (record { mode = 493; entries = map.empty }) no_entries
        | inr ne ↦ ap (names_in i) (fresh_other k ne)
      ]

  fresh_link : (i : ℕ) → link_number i (map.get nodes_fresh i) ≡ 0
  fresh_link i =
      elim (cases_eq i 2) [
        | inl e ↦ ap (λ (x : ℕ). link_number x (map.get nodes_fresh x)) e ∙ ap (link_number 2) (at_key map.empty 2 (new_directory 493))
        | inr ne ↦ ap (link_number i) (fresh_other i ne)
      ]

  pub fresh_links : HasLinks start
  fresh_links = record {
    low = fresh_low;
    links = λ i. no_names nodes_fresh i (fresh_names i) (128 * 1) ∙ sym (fresh_link i);
  }

-- ---- histories

pub history_links : (log_blocks limit sectors at : ℕ) (es : List Event) → HasLinks (after_all (opening at (fresh log_blocks limit sectors)) es).state
history_links log_blocks limit sectors at es = kept_all HasLinks step_links settled_links released_links (opening at (fresh log_blocks limit sectors)) es (fresh_links log_blocks limit sectors)
