-- An inode with one name less.
use Rattle.std.proofs.Common.{◌≡◌, ℕ, ◌-◌, ◌<◌, ◌≤◌, cond, leb, true, false, Some, sym, ap, subst, arith}
use Rattle.std.proofs.lemmas.Bool.{lt-leb, le-leb}
use Rattle.std.specs.FinMap as map
use Rattle.vx_inode.specs.Tables.{links_at}
use Rattle.vx_model.specs.Tree.{Node, File, IsFile, IsDirectory}
use Rattle.vx_model.specs.State.{State}
use Rattle.vx_model.specs.Edits.{set_node, drop_node}
use Rattle.vx_txn.specs.declared.meta.Meta.{Meta}
use Rattle.vx_txn.specs.Metas.{Stands}
use Rattle.vx_txn.specs.Removals.{unnamed}
use Rattle.vx_txn.proofs.Lookups.{file_links, directory_links}

abbrev pub with_link_less : State → ℕ → File → State
with_link_less s ino f = set_node s ino (IsFile (record f { nlink = f.nlink - 1 }))

module _ (m : Meta) (s : State) (stands : Stands m s) (place ino : ℕ) (P : State → Type 0) where
  -- a file that has more names stays
  pub more_names : (node : Node) → map.get s.tree.nodes ino ≡ Some node → 1 < links_at m.inodes ino → ((f : File) → map.get s.tree.nodes ino ≡ Some (IsFile f) → P (with_link_less s ino f)) → P (unnamed s place ino node)
  more_names (IsFile f) found more set =
      let links = file_links m s stands ino f found in
      let test : leb f.nlink 1 ≡ false = lt-leb f.nlink 1 (omega arith) in
      subst P (sym (ap (λ b. cond b (drop_node s place ino) (with_link_less s ino f)) test)) (set f found)
  more_names (IsDirectory d) found more set = let links = directory_links m s stands ino d found in absurd (omega arith)

  pub last_name : (node : Node) → map.get s.tree.nodes ino ≡ Some node → links_at m.inodes ino ≤ 1 → P (drop_node s place ino) → P (unnamed s place ino node)
  last_name (IsFile f) found last dropped =
      let links = file_links m s stands ino f found in
      let test : leb f.nlink 1 ≡ true = le-leb f.nlink 1 (omega arith) in
      subst P (sym (ap (λ b. cond b (drop_node s place ino) (with_link_less s ino f)) test)) dropped
  last_name (IsDirectory d) found last dropped = dropped
