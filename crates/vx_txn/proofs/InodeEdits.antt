-- Edits of an inode.
use Rattle.std.proofs.Common.{◌≡◌, ◌≢◌, ℕ, ◌+◌, ◌-◌, ◌<◌, ◌≤◌, false, [], ◌∷◌, ◌++◌, Option, Some, None, refl, sym, ◌∙◌, ap, subst, arith}
use Rattle.std.specs.FinMap as map
use Rattle.vx_base.specs.declared.inode.Inode.{Inode}
use Rattle.std.specs.Prelude.{Result, Ok, OnOk, ◌==◌}
use Rattle.std.proofs.lemmas.Bool.{ne_eqb}
use Rattle.std.proofs.lemmas.Result.{IfOk-at_ok}
use Rattle.vx_inode.specs.declared.table.TooManyLinks.{TooManyLinks}
use Rattle.vx_inode.specs.Tables.{inode_at, with_inode, with_change, links_at, links_of, link_answer}
use Rattle.vx_model.specs.EditLaws.{EditLaws}
use Rattle.vx_model.specs.Edits.{set_node}
use Rattle.vx_model.specs.Contents.{Held, settled_of}
use Rattle.vx_model.specs.LaidOut.{IsHeld, IsDirectoryNode, IsPlainFile}
use Rattle.vx_model.specs.Legal.{IfThere}
use Rattle.vx_model.specs.Naming.{with_mode}
use Rattle.vx_model.specs.State.{State}
use Rattle.vx_model.specs.Touching.{Touched, inode_touched}
use Rattle.vx_model.specs.Tree.{Node, File, IsFile, IsDirectory}
use Rattle.vx_txn.specs.Calls.{HasGone}
use Rattle.vx_txn.specs.Directories.{blocks_in, maps_in}
use Rattle.vx_txn.specs.Metas.{HasDirectory, directory_of, IsStateOf}
use Rattle.vx_txn.specs.declared.meta.Meta.{Meta}
use Rattle.vx_txn.proofs.StateLaws.{inode_of_node, inode_of_option}
use Rattle.vx_txn.proofs.Changes.{same_kind, set_state, change_at, set_here, set_change, touched_inode, next_gone}

mode_inode : (h : Held) (mode : ℕ) (node : Node) → record (inode_of_node h node) { mode = mode } ≡ inode_of_node h (with_mode mode node)
mode_inode h mode (IsFile f) = refl
mode_inode h mode (IsDirectory d) = refl

mode_kind : (h : Held) (mode : ℕ) (node : Node) → (inode_of_node h (with_mode mode node)).kind ≡ (inode_of_node h node).kind
mode_kind h mode (IsFile f) = refl
mode_kind h mode (IsDirectory d) = refl

-- the root is no file
not_root_by : (f : File) (o : Option Node) → o ≡ Some (IsFile f) → IfThere o IsDirectoryNode → ⊥
not_root_by f None is root = root
not_root_by f (Some (IsDirectory d)) is root = cc
not_root_by f (Some (IsFile g)) is root = root

module _ (laws : EditLaws) (base s : State) (m k : Meta) (t v : Touched) (gone : HasGone base s m t) (at : ℕ) (directories : (n : ℕ) → directory_of k n ≡ directory_of m n) (free : k.free ≡ m.free) (first : k.first ≡ m.first)
    (touched : v ≡ record t { inodes = t.inodes ++ at ∷ [] }) where
  inode_there : (node : Node) → map.get s.tree.nodes at ≡ Some node → inode_at m.inodes at ≡ Some (inode_of_node (settled_of s.layout at) node)
  inode_there node there = gone.state.inodes at ∙ ap (inode_of_option (settled_of s.layout at)) there

  -- an inode that is changed keeps its kind
  changed : (f : Inode → Inode) (node new : Node) → map.get s.tree.nodes at ≡ Some node → k.inodes ≡ with_change m.inodes at f → f (inode_of_node (settled_of s.layout at) node) ≡ inode_of_node (settled_of s.layout at) new
      → (inode_of_node (settled_of s.layout at) new).kind ≡ (inode_of_node (settled_of s.layout at) node).kind → IsStateOf k (set_node s at new)
  changed f node new there inodes becomes kind =
      let j : Inode = inode_of_node (settled_of s.layout at) new in
      let set : k.inodes ≡ with_inode m.inodes at j = inodes ∙ change_at m.inodes at f (inode_of_node (settled_of s.layout at) node) (inode_there node there) ∙ ap (with_inode m.inodes at) becomes in
      let here : inode_at k.inodes at ≡ Some j = set_here m k at j set in
      let had : HasDirectory (Some (inode_of_node (settled_of s.layout at) node)) (directory_of m at) = subst (λ (i : Option Inode). HasDirectory i (directory_of m at)) (inode_there node there) (gone.state.kinds at) in
      set_state m k s at new gone.state (set_change m k at j set (λ n ne. directories n) first) free here (gone.state.blocks at ∙ ap blocks_in (sym (directories at))) (gone.state.maps at ∙ ap maps_in (sym (directories at)))
      (subst (λ (i : Option Inode). HasDirectory i (directory_of k at)) (sym here) (subst (HasDirectory (Some j)) (sym (directories at)) (same_kind (inode_of_node (settled_of s.layout at) node) j (directory_of m at) kind had)))

  pub mode_gone : (mode : ℕ) (node : Node) → mode ≤ 4095 → map.get s.tree.nodes at ≡ Some node → k.inodes ≡ with_change m.inodes at (λ i. record i { mode = mode }) → HasGone base (set_node s at (with_mode mode node)) k v
  mode_gone mode node low there inodes =
      next_gone laws base s (set_node s at (with_mode mode node)) m k t (inode_touched at) v gone
      (changed (λ i. record i { mode = mode }) node (with_mode mode node) there inodes (mode_inode (settled_of s.layout at) mode node) (mode_kind (settled_of s.layout at) mode node))
      (laws.mode_set s at mode node gone.laid_out low there) (laws.mode_plain s at mode node gone.plain there) (laws.set_touches s at (with_mode mode node)) (touched ∙ touched_inode t at)

  kept_file : (f : File) → map.get s.tree.nodes at ≡ Some (IsFile f) → IsHeld s.layout at (Some (IsFile f))
  kept_file f there = subst (IsHeld s.layout at) there (gone.laid_out.nodes at)

  not_root : (f : File) → map.get s.tree.nodes at ≡ Some (IsFile f) → at ≢ 2
  not_root f there is = not_root_by f (map.get s.tree.nodes 2) (subst (λ (n : ℕ). map.get s.tree.nodes n ≡ Some (IsFile f)) is there) gone.laid_out.has_root

  plain_links : (f : File) (links : ℕ) → 1 ≤ links → IsPlainFile f → IsPlainFile (record f { nlink = links })
  plain_links f links some plain = record { some_links = some; attrs = plain.attrs; bytes = plain.bytes }

  -- a file with another number of names
  pub links_gone : (links : ℕ) (f : File) → 1 ≤ links → links ≤ 32767 → map.get s.tree.nodes at ≡ Some (IsFile f) → k.inodes ≡ with_inode m.inodes at (inode_of_node (settled_of s.layout at) (IsFile (record f { nlink = links })))
      → HasGone base (set_node s at (IsFile (record f { nlink = links }))) k v
  links_gone links f some few there inodes =
      let held = kept_file f there in
      let bare = gone.plain.files at f there in
      let less = plain_links f links some bare.0 in
      let new : Node = IsFile (record f { nlink = links }) in
      next_gone laws base s (set_node s at new) m k t (inode_touched at) v gone
      (changed (λ i. inode_of_node (settled_of s.layout at) new) (IsFile f) new there (inodes ∙ sym (change_at m.inodes at (λ i. inode_of_node (settled_of s.layout at) new) (inode_of_node (settled_of s.layout at) (IsFile f)) (inode_there (IsFile f) there))) refl refl)
      (laws.file_set s at (record f { nlink = links }) gone.laid_out (laws.plain_file s.layout at (record f { nlink = links }) held.0.mode few less bare.1) (not_root f there) held.1 held.2)
      (laws.file_plain s at (record f { nlink = links }) gone.plain less bare.1)
      (laws.set_touches s at new) (touched ∙ touched_inode t at)

  links_are : (f : File) → map.get s.tree.nodes at ≡ Some (IsFile f) → links_at m.inodes at ≡ f.nlink
  links_are f there = ap links_of (inode_there (IsFile f) there)

  pub link_gone : (f : File) (r : Result (Unit {0}) TooManyLinks) → map.get s.tree.nodes at ≡ Some (IsFile f) → links_at m.inodes at < 32767 → r ≡ link_answer (links_at m.inodes at)
      → OnOk r (k.inodes ≡ with_change m.inodes at (λ i. record i { nlink = i.nlink + 1 })) → HasGone base (set_node s at (IsFile (record f { nlink = f.nlink + 1 }))) k v
  link_gone f r there few answer inodes =
      let links = links_are f there in
      let test : (links_at m.inodes at == 32767) ≡ false = ne_eqb (links_at m.inodes at) 32767 (λ e. absurd (omega arith)) in
      let ok : r ≡ Ok tt = answer ∙ rw test refl in
      let is = IfOk-at_ok (λ _. k.inodes ≡ with_change m.inodes at (λ i. record i { nlink = i.nlink + 1 })) ok inodes in
      links_gone (f.nlink + 1) f (omega arith) (omega arith) there
      (is ∙ change_at m.inodes at (λ i. record i { nlink = i.nlink + 1 }) (inode_of_node (settled_of s.layout at) (IsFile f)) (inode_there (IsFile f) there))

  pub unlink_gone : (f : File) → map.get s.tree.nodes at ≡ Some (IsFile f) → 1 < links_at m.inodes at → k.inodes ≡ with_change m.inodes at (λ i. record i { nlink = i.nlink - 1 }) → HasGone base (set_node s at (IsFile (record f { nlink = f.nlink - 1 }))) k v
  unlink_gone f there some inodes =
      let links = links_are f there in
      let most : f.nlink ≤ 32767 = (kept_file f there).0.few_links in
      links_gone (f.nlink - 1) f (omega arith) (omega arith) there
      (inodes ∙ change_at m.inodes at (λ i. record i { nlink = i.nlink - 1 }) (inode_of_node (settled_of s.layout at) (IsFile f)) (inode_there (IsFile f) there))
