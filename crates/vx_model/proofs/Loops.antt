-- No inode is below itself, whatever is called.
use Rattle.std.proofs.Common.{◌≡◌, ◌≢◌, ℕ, zero, suc, ◌+◌, ◌*◌, ◌≤◌, Bool, true, false, cond, List, [], ◌∷◌, ◌++◌, length, Some, None, Ok, refl, sym, ap, subst, ◌∙◌, arith, inl, inr}
use Rattle.std.specs.Prelude.{◌==◌, ◌&&◌}
use Rattle.std.specs.Ordering.{nat_cmp}
use Rattle.std.specs.Cmp.Lexicographic.{slice_cmp}
use Rattle.std.specs.FinMap as map
use Rattle.std.proofs.lemmas.Bool.{cases_eq}
use Rattle.std.proofs.lemmas.List.{length_push}
use Rattle.vx_base.proofs.Maps.{at_key, at_other}
use Rattle.vx_base.specs.Paths.{FileName}
use Rattle.vx_base.specs.declared.call.Call.{Call}
use Rattle.vx_base.specs.declared.call.Call.TheVariants as call
use Rattle.vx_base.specs.declared.event.Event.{Event}
use Rattle.vx_model.specs.Tree.{Tree, Nodes, Node, Directory, IsFile, IsDirectory, lowest_unused, new_file, new_directory}
use Rattle.vx_model.specs.State.{State, Done, fresh}
use Rattle.vx_model.specs.Walks.{root, walk}
use Rattle.vx_model.specs.Edits.{add_name, remove_name}
use Rattle.vx_model.specs.Making.{create, mkdir}
use Rattle.vx_model.specs.Removing.{unlink, rmdir}
use Rattle.vx_model.specs.Linking.{link}
use Rattle.vx_model.specs.Moving.{is_below, is_directory, Move, rename}
use Rattle.vx_model.specs.Naming.{with_mode, chmod}
use Rattle.vx_model.specs.Step.{step}
use Rattle.vx_model.specs.Legal.{opening, after_all}
use Rattle.vx_model.specs.NameLaws.{meaning_in, lookup, IsRemoved, link_number, HasLinks, HasNoLoops}
use Rattle.vx_model.proofs.Unused.{unused_free}
use Rattle.vx_model.proofs.Replies.{stat_leaves, list_leaves, mount_leaves}
use Rattle.vx_model.proofs.Histories.{settled_keeps, kept_all}
use Rattle.vx_model.proofs.Lookups.{cases_entry, IsNamed, node_gone, node_stays, set_same, walk_first, walk_append, walk_ends}
use Rattle.vx_model.proofs.Successes.{Makes, makes, Links, links, modes, Renames, renames}
use Rattle.vx_model.proofs.NameChanges.{named_directory, IsLeaf, file_leaf, absent_leaf, set_touches, touches_same, removed_nodes, removed_unnamed, unlinked_removes, directory_removes, added_named, blank_file, blank_directory, entered, Clears, Clearing, clearing}
use Rattle.vx_model.proofs.Counting.{one, one_same, edited_link}
use Rattle.vx_model.proofs.LinkNumbers.{owes_none, remove_owes, step_links, settled_links, released_links, fresh_links}
use Rattle.vx_model.proofs.FileStep.{file_step}
use Rattle.vx_model.proofs.FileTelling.{told_settle}
use Rattle.vx_model.proofs.FileNodes.{Alters, stays, sets, drops, file_alone}
use Rattle.vx_model.proofs.Walking.{last_of, walk_last, walk_push, longer_below, OneMore, no_loop_more, no_loop_less}

-- ---- a directory has one name, and the root none

removed_link : (s : State) (at : ℕ) (name : FileName) (ino i : ℕ) → lookup s.tree.nodes at name ≡ Some ino → link_number i (map.get (remove_name s at name).tree.nodes i) ≡ link_number i (map.get s.tree.nodes i)
removed_link s at name ino i means =
    let d = named_directory name ino (map.get s.tree.nodes at) means in
    ap (λ (ns : Nodes). link_number i (map.get ns i)) (removed_nodes s at name d.0 d.1) ∙ edited_link s.tree.nodes (128 * s.layout.units) at d.0 d.1 (map.remove d.0.entries name) i

some_name : (a x l : ℕ) → x ≡ 1 → a + (x + 0) ≡ l → 1 ≤ l
some_name a x l is h = omega arith

two_names : (a x l : ℕ) → x ≡ 1 → a + (x + (x + 0)) ≡ l → 2 ≤ l
two_names a x l is h = omega arith

few_links : (t : Bool) → 2 ≤ cond t 0 1 → ⊥
few_links true h = omega arith
few_links false h = omega arith

module _ (s : State) (is : HasLinks s) where
  abbrev nodes : Nodes
  nodes = s.tree.nodes

  abbrev bound : ℕ
  bound = 128 * s.layout.units

  no_root_name : (at : ℕ) (name : FileName) (d : Directory) → map.get nodes root ≡ Some (IsDirectory d) → lookup nodes at name ≡ Some root → ⊥
  no_root_name at name d there means =
      let o = remove_owes s at name root bound (λ i. 0) means (owes_none s is) in
      let link : link_number root (map.get (remove_name s at name).tree.nodes root) ≡ 0 = removed_link s at name root root means ∙ ap (link_number root) there in
      let some : 1 ≤ 0 = some_name _ (one root root) 0 (one_same root) (o.links root ∙ link) in
      omega arith

  one_name : (at : ℕ) (name : FileName) (at2 : ℕ) (name2 : FileName) (ino : ℕ) (d : Directory) → map.get nodes ino ≡ Some (IsDirectory d) → lookup nodes at name ≡ Some ino → lookup nodes at2 name2 ≡ Some ino
      → (at2 ≡ at) × (name2 ≡ name)
  one_name at name at2 name2 ino d there means means2 =
      elim (cases_entry at name at2 name2) [
        | inl same ↦ same
        | inr other ↦
            let less : State = remove_name s at name in
            let here = named_directory name ino (map.get nodes at) means in
            let u = removed_unnamed s at name here.0 here.1 in
            let still : lookup less.tree.nodes at2 name2 ≡ Some ino = u.others at2 name2 other ∙ means2 in
            let o = remove_owes s at name ino bound (λ i. 0) means (owes_none s is) in
            let p = remove_owes less at2 name2 ino bound (λ i. one ino i + 0) still o in
            let link : link_number ino (map.get (remove_name less at2 name2).tree.nodes ino) ≡ cond (ino == root) 0 1 =
            removed_link less at2 name2 ino ino still ∙ removed_link s at name ino ino means ∙ ap (link_number ino) there in
            absurd (few_links (ino == root) (two_names _ (one ino ino) (cond (ino == root) 0 1) (one_same ino) (p.links ino ∙ link)))
      ]

  shorter : (a n : ℕ) → a + 1 ≤ suc n → a ≤ n
  shorter a n h = omega arith

  -- one path leads to a directory
  same_by : (n : ℕ) (p q : List FileName) (ino : ℕ) (d : Directory) → length p ≤ n → map.get nodes ino ≡ Some (IsDirectory d) → walk nodes root p ≡ Ok ino → walk nodes root q ≡ Ok ino → p ≡ q
  same_by n [] [] ino d short there walked walked2 = refl
  same_by n [] (y ∷ q) ino d short there walked walked2 =
      let l = last_of y q in
      let last = walk_last nodes root l.front l.name ino (ap (walk nodes root) (sym l.is) ∙ walked2) in
      let e : root ≡ ino = cc in
      absurd (no_root_name last.0 l.name d (ap (map.get nodes) e ∙ there) (last.2 ∙ ap Some (sym e)))
  same_by n (x ∷ p) [] ino d short there walked walked2 =
      let l = last_of x p in
      let last = walk_last nodes root l.front l.name ino (ap (walk nodes root) (sym l.is) ∙ walked) in
      let e : root ≡ ino = cc in
      absurd (no_root_name last.0 l.name d (ap (map.get nodes) e ∙ there) (last.2 ∙ ap Some (sym e)))
  same_by zero (x ∷ p) (y ∷ q) ino d short there walked walked2 = absurd (omega arith)
  same_by (suc n) (x ∷ p) (y ∷ q) ino d short there walked walked2 =
      let l = last_of x p in
      let m = last_of y q in
      let last = walk_last nodes root l.front l.name ino (ap (walk nodes root) (sym l.is) ∙ walked) in
      let other = walk_last nodes root m.front m.name ino (ap (walk nodes root) (sym m.is) ∙ walked2) in
      let same = one_name last.0 l.name other.0 m.name ino d there last.2 other.2 in
      let above = named_directory l.name ino (map.get nodes last.0) last.2 in
      let long : length l.front + 1 ≤ suc n = subst (λ (k : ℕ). k ≤ suc n) (ap length l.is ∙ length_push l.front l.name) short in
      let fronts = same_by n l.front m.front last.0 above.0 (shorter (length l.front) n long) above.1 last.1 (other.1 ∙ ap Ok same.0) in
      l.is ∙ ap (λ (names : List FileName). names ++ l.name ∷ []) fronts ∙ ap (λ (name : FileName). m.front ++ name ∷ []) (sym same.1) ∙ sym m.is

  pub same_path : (p q : List FileName) (ino : ℕ) (d : Directory) → map.get nodes ino ≡ Some (IsDirectory d) → walk nodes root p ≡ Ok ino → walk nodes root q ≡ Ok ino → p ≡ q
  same_path p q ino d there walked walked2 = same_by (length p) p q ino d (omega arith) there walked walked2

-- ---- the calls

-- the name of a new or a linked inode
set_named : (s named : State) (at ino : ℕ) (name : FileName) (node : Node) → IsLeaf s.tree.nodes ino → ((x : FileName) → meaning_in x (Some node) ≡ None) → ino ≢ at → add_name s at name ino ≡ Ok named
    → IsNamed s.tree.nodes (map.insert named.tree.nodes ino node) at name ino
set_named s named at ino name node leaf blank apart h =
    let n = added_named s named at ino name h in
    let same = touches_same named.tree.nodes (map.insert named.tree.nodes ino node) ino (λ x. n.others ino x (λ here is. apart here) ∙ leaf x) (set_touches named.tree.nodes ino node blank) in
    record {
      here = same at name ∙ n.here;
      others = λ q x other. same q x ∙ n.others q x other;
    }

named_one : (old new : Nodes) (at ino : ℕ) (name : FileName) → IsNamed old new at name ino → OneMore old new at ino
named_one old new at ino name n q x y means =
    elim (cases_entry at name q x) [
      | inl here ↦
          let c : Some y ≡ Some ino = sym means ∙ ap (λ (k : ℕ). lookup new k x) here.0 ∙ ap (lookup new at) here.1 ∙ n.here in
          let e : y ≡ ino = cc in
          inr (here.0, e)
      | inr other ↦ inl (sym (n.others q x other) ∙ means)
    ]

removed_less : (old : Tree) (new : Nodes) (path : List ℕ) → IsRemoved old new path → (q : ℕ) (x : FileName) (y : ℕ) → lookup new q x ≡ Some y → lookup old.nodes q x ≡ Some y
removed_less old new path r q x y means =
    elim (cases_entry r.at r.name q x) [
      | inl here ↦ let c : None ≡ Some y = sym r.gone ∙ sym (ap (lookup new r.at) here.1) ∙ sym (ap (λ (k : ℕ). lookup new k x) here.0) ∙ means in absurd cc
      | inr other ↦ sym (r.others q x other) ∙ means
    ]

clears_less : (old : Tree) (less : Nodes) (m : Move) → Clears old less m → (q : ℕ) (x : FileName) (y : ℕ) → lookup less q x ≡ Some y → lookup old.nodes q x ≡ Some y
clears_less old less m c q x y means =
    elim (cases_entry m.from.at m.from.name q x) [
      | inl here ↦ let e : None ≡ Some y = sym c.gone ∙ sym (ap (lookup less m.from.at) here.1) ∙ sym (ap (λ (k : ℕ). lookup less k x) here.0) ∙ means in absurd cc
      | inr away ↦ elim (cases_entry m.to m.name q x) [
        | inl here ↦ let e : None ≡ Some y = sym c.free ∙ sym (ap (lookup less m.to) here.1) ∙ sym (ap (λ (k : ℕ). lookup less k x) here.0) ∙ means in absurd cc
        | inr toward ↦ sym (c.others q x away toward) ∙ means
      ]
    ]

either_old : (old less new : Nodes) (at ino : ℕ) → ((q : ℕ) (x : FileName) (y : ℕ) → lookup less q x ≡ Some y → lookup old q x ≡ Some y) → OneMore less new at ino → OneMore old new at ino
either_old old less new at ino fewer more q x y means =
    elim (more q x y means) [
      | inl was ↦ inl (fewer q x y was)
      | inr here ↦ inr here
    ]

-- a leaf leads to no directory
leaf_apart : (nodes : Nodes) (ino at : ℕ) → IsLeaf nodes ino → ino ≢ at → (names : List FileName) → walk nodes ino names ≡ Ok at → ⊥
leaf_apart nodes ino at leaf apart names walked = apart (walk_ends nodes ino leaf names at walked)

module _ (s : State) (is : HasLinks s) (none : HasNoLoops s.tree.nodes) where
  abbrev old : Nodes
  old = s.tree.nodes

  make_loops : (path : List ℕ) (node : Node) (done : Done) → ((x : FileName) → meaning_in x (Some node) ≡ None) → Makes s path node done → HasNoLoops done.state.tree.nodes
  make_loops path node done blank m =
      let ino : ℕ = lowest_unused s.layout.units s.tree.nodes in
      let unused : map.get old ino ≡ None = unused_free s.layout.units old m.low in
      let leaf = absent_leaf old ino unused in
      let apart : ino ≢ m.at = λ e. (let c : None ≡ Some (IsDirectory m.directory) = sym unused ∙ ap (map.get old) e ∙ m.there in absurd cc) in
      let n = set_named s m.named m.at ino m.name node leaf blank apart m.added in
      subst (λ (x : Done). HasNoLoops x.state.tree.nodes) (sym m.is)
      (no_loop_more old (map.insert m.named.tree.nodes ino node) m.at ino (named_one old (map.insert m.named.tree.nodes ino node) m.at ino m.name n) none (leaf_apart old ino m.at leaf apart))

  link_loops : (from to : List ℕ) (done : Done) → Links s from to done → HasNoLoops done.state.tree.nodes
  link_loops from to done l =
      let node : Node = IsFile (record l.file { nlink = l.file.nlink + 1 }) in
      let leaf = file_leaf old l.ino l.file l.there in
      let apart : l.ino ≢ l.at = λ e. (let c : Some (IsFile l.file) ≡ Some (IsDirectory l.directory) = sym l.there ∙ ap (map.get old) e ∙ l.directory_there in absurd cc) in
      let n = set_named s l.named l.at l.ino l.name node leaf (λ x. refl) apart l.added in
      subst (λ (x : Done). HasNoLoops x.state.tree.nodes) (sym l.is)
      (no_loop_more old (map.insert l.named.tree.nodes l.ino node) l.at l.ino (named_one old (map.insert l.named.tree.nodes l.ino node) l.at l.ino l.name n) none (leaf_apart old l.ino l.at leaf apart))

  mode_means : (mode : ℕ) (x : FileName) (node : Node) → meaning_in x (Some (with_mode mode node)) ≡ meaning_in x (Some node)
  mode_means mode x (IsFile f) = refl
  mode_means mode x (IsDirectory d) = refl

  chmod_loops : (path : List ℕ) (mode : ℕ) (done : Done) → chmod s path mode ≡ Ok done → HasNoLoops done.state.tree.nodes
  chmod_loops path mode done h =
      let m = modes s path mode done h in
      let node : Node = with_mode mode m.node in
      let same = set_same old m.ino node (λ x. mode_means mode x m.node ∙ sym (ap (meaning_in x) m.there)) in
      subst (λ (x : Done). HasNoLoops x.state.tree.nodes) (sym m.is)
      (no_loop_less old (map.insert old m.ino node) (λ q x y means. sym (same q x) ∙ means) none)

  module _ (place : ℕ) (from to : List ℕ) (done : Done) (r : Renames s place from to done) where
    abbrev ino : ℕ
    ino = r.move.from.ino

    below_false : (t u : Bool) → (t && u) ≡ false → t ≡ true → u ≡ true → ⊥
    below_false true true h t u = absurd cc
    below_false true false h t u = absurd cc
    below_false false u h t v = absurd cc

    old_walk : walk old root r.old_names ≡ Ok ino
    old_walk =
        let l = r.enters.leads in
        let c : Some r.old_names ≡ Some (l.above ++ r.move.from.name ∷ []) = sym r.old_split ∙ l.names in
        let e : r.old_names ≡ l.above ++ r.move.from.name ∷ [] = cc in
        ap (walk old root) e ∙ walk_push old root l.above r.move.from.name r.move.from.at ino l.walked r.enters.means

    new_is : r.new_names ≡ r.leads.above ++ r.move.name ∷ []
    new_is = let c : Some r.new_names ≡ Some (r.leads.above ++ r.move.name ∷ []) = sym r.new_split ∙ r.leads.names in cc

    -- what moves doesn't lead to where it goes
    apart_by : (node : Node) → r.move.node ≡ node → (names : List FileName) → walk old ino names ≡ Ok r.move.to → ⊥
    apart_by (IsFile f) node names walked =
        let there : map.get old ino ≡ Some (IsFile f) = r.there ∙ ap Some node in
        let same : ino ≡ r.move.to = walk_ends old ino (file_leaf old ino f there) names r.move.to walked in
        let c : Some (IsFile f) ≡ Some (IsDirectory r.directory) = sym there ∙ ap (map.get old) same ∙ r.directory_there in
        absurd cc
    apart_by (IsDirectory d) node names walked =
        let whole : walk old root (r.old_names ++ names) ≡ Ok r.move.to = walk_append old root r.old_names names ino old_walk ∙ walked in
        let same = same_path s is (r.old_names ++ names) r.leads.above r.move.to r.directory r.directory_there whole r.leads.walked in
        let e : r.new_names ≡ (r.old_names ++ names) ++ r.move.name ∷ [] = new_is ∙ ap (λ (front : List FileName). front ++ r.move.name ∷ []) (sym same) in
        below_false (is_directory r.move.node) (is_below r.old_names r.new_names) r.not_below (ap is_directory node) (ap (is_below r.old_names) e ∙ longer_below r.old_names names r.move.name)

    moved_loops : Clearing s place from to r.move done → HasNoLoops done.state.tree.nodes
    moved_loops c =
        let e = entered c.less r.move done c.entering in
        let less : Nodes = c.less.tree.nodes in
        let new : Nodes = e.0.tree.nodes in
        let n = added_named c.less e.0 r.move.to ino r.move.name e.1 in
        subst (λ (x : Done). HasNoLoops x.state.tree.nodes) (sym e.2)
        (no_loop_more old new r.move.to ino (either_old old less new r.move.to ino (clears_less s.tree less r.move c.clears) (named_one less new r.move.to ino r.move.name n)) none (apart_by r.move.node refl))

    rename_loops : HasNoLoops done.state.tree.nodes
    rename_loops =
        elim (clearing s place from to r.move done r.enters.means r.onto) [
          | inl c ↦ moved_loops c
          | inr same ↦ subst (λ (x : Done). HasNoLoops x.state.tree.nodes) (sym same.1) none
        ]

  -- ---- a call on a file

  dropped_means : (ino q y : ℕ) (x : FileName) → lookup (map.remove old ino) q x ≡ Some y → lookup old q x ≡ Some y
  dropped_means ino q y x means = elim (cases_eq q ino) [
    | inl e ↦ let c : None ≡ Some y = sym (ap (meaning_in x) (ap (map.get (map.remove old ino)) e ∙ node_gone old ino)) ∙ means in absurd cc
    | inr ne ↦ sym (ap (meaning_in x) (node_stays old ino q ne)) ∙ means
  ]

  alters_loops : (new : Nodes) → Alters old new → HasNoLoops new
  alters_loops new (stays same) = subst HasNoLoops (sym same) none
  alters_loops new (sets ino f g there links is) =
      let same = set_same old ino (IsFile g) (λ x. sym (ap (meaning_in x) there)) in
      subst HasNoLoops (sym is) (no_loop_less old (map.insert old ino (IsFile g)) (λ q x y means. sym (same q x) ∙ means) none)
  alters_loops new (drops ino f there links is) = subst HasNoLoops (sym is) (no_loop_less old (map.remove old ino) (λ q x y means. dropped_means ino q y x means) none)

  file_loops : (place session : ℕ) (c : Call) (done : Done) → file_step s place session c ≡ Some done → HasNoLoops done.state.tree.nodes
  file_loops place session c done h = alters_loops done.state.tree.nodes (file_alone s place session c done h).nodes

  abbrev Kept : State → Type 0
  Kept new = HasNoLoops new.tree.nodes

  pub step_loops : (place session : ℕ) (c : Call) (done : Done) → step s place session c ≡ Some done → HasNoLoops done.state.tree.nodes
  step_loops place session (call.Create path mode) done h = settled_keeps s Kept (create s path mode) done none h (λ is. make_loops path (new_file mode) done (blank_file mode) (makes s path (new_file mode) done is))
  step_loops place session (call.Mkdir path mode) done h =
      settled_keeps s Kept (mkdir s path mode) done none h (λ is. make_loops path (new_directory mode) done (blank_directory mode) (makes s path (new_directory mode) done is))
  step_loops place session (call.Unlink path) done h =
      settled_keeps s Kept (unlink s place path) done none h (λ is. no_loop_less old done.state.tree.nodes (removed_less s.tree done.state.tree.nodes path (unlinked_removes s place path done is)) none)
  step_loops place session (call.Rmdir path) done h =
      settled_keeps s Kept (rmdir s place path) done none h (λ is. no_loop_less old done.state.tree.nodes (removed_less s.tree done.state.tree.nodes path (directory_removes s place path done is)) none)
  step_loops place session (call.Link from to) done h = settled_keeps s Kept (link s from to) done none h (λ is. link_loops from to done (links s from to done is))
  step_loops place session (call.Rename from to) done h = settled_keeps s Kept (rename s place from to) done none h (λ is. rename_loops place from to done (renames s place from to done is))
  step_loops place session (call.Chmod path mode) done h = settled_keeps s Kept (chmod s path mode) done none h (chmod_loops path mode done)
  step_loops place session (call.Stat path) done h = subst Kept (sym (stat_leaves s place session path done h)) none
  step_loops place session (call.List path) done h = subst Kept (sym (list_leaves s place session path done h)) none
  step_loops place session (call.OpenFile handle path flag) done h = file_loops place session (call.OpenFile handle path flag) done h
  step_loops place session (call.Close handle) done h = file_loops place session (call.Close handle) done h
  step_loops place session (call.Read handle offset count) done h = file_loops place session (call.Read handle offset count) done h
  step_loops place session (call.Write handle offset payload) done h = file_loops place session (call.Write handle offset payload) done h
  step_loops place session (call.Truncate handle size) done h = file_loops place session (call.Truncate handle size) done h
  step_loops place session (call.Fsync handle) done h = file_loops place session (call.Fsync handle) done h
  step_loops place session call.Sync done h = subst Kept (sym (mount_leaves s done h)) none
  step_loops place session call.Tick done h = subst Kept (sym (mount_leaves s done h)) none
  step_loops place session (call.After other lines) done h = subst Kept (sym (mount_leaves s done h)) none
  step_loops place session call.Stop done h = subst Kept (sym (mount_leaves s done h)) none
  step_loops place session _ done h = absurd cc

-- ---- histories

fresh_leaf : (log_blocks limit sectors q : ℕ) → IsLeaf (fresh log_blocks limit sectors).tree.nodes q
fresh_leaf log_blocks limit sectors q x =
    let nodes : Nodes = (fresh log_blocks limit sectors).tree.nodes in
    elim (cases_eq q 2) [
      | inl e ↦ ap (λ (k : ℕ). lookup nodes k x) e ∙ ap (meaning_in x) (at_key map.empty 2 (new_directory 493)) ∙ map.get-empty (slice_cmp nat_cmp) x
      | inr ne ↦ ap (meaning_in x) (at_other map.empty 2 (new_directory 493) q ne ∙ map.get-empty nat_cmp q)
    ]

fresh_loops : (log_blocks limit sectors : ℕ) → HasNoLoops (fresh log_blocks limit sectors).tree.nodes
fresh_loops log_blocks limit sectors i r =
    let nodes : Nodes = (fresh log_blocks limit sectors).tree.nodes in
    let first = walk_first nodes i r.first r.rest i r.walked in
    let c : None ≡ Some first.0 = sym (fresh_leaf log_blocks limit sectors i r.first) ∙ first.1 in
    absurd cc

abbrev IsSound : State → Type 0
IsSound s = HasLinks s × HasNoLoops s.tree.nodes

pub history_loops : (log_blocks limit sectors at : ℕ) (es : List Event) → HasNoLoops (after_all (opening at (fresh log_blocks limit sectors)) es).state.tree.nodes
history_loops log_blocks limit sectors at es =
    (kept_all IsSound
    (λ s place session c done h is. (step_links s place session c done h.0 is, step_loops s h.0 h.1 place session c done is))
    (λ s place ino h. (settled_links s place ino h.0, subst (λ (t : Tree). HasNoLoops t.nodes) (sym (told_settle s place ino)) h.1))
    (λ s upto h. (released_links s upto h.0, h.1))
    (opening at (fresh log_blocks limit sectors)) es (fresh_links log_blocks limit sectors, fresh_loops log_blocks limit sectors)).1
