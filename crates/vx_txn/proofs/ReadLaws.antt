-- What is read of a directory and of an inode.
use Rattle.std.proofs.Common.{◌≡◌, ℕ, true, Option, Some, None, Ok, refl, sym, ◌∙◌, ap, subst}
use Rattle.std.specs.Prelude.{is_some}
use Rattle.std.specs.Borrow.{Bor}
use Rattle.std.specs.Option.{option_copied}
use Rattle.std.specs.FinMap as map
use Rattle.std.proofs.lemmas.Option.{same_Some}
use Rattle.vx_base.specs.declared.inode.Inode.{Inode}
use Rattle.vx_base.specs.declared.refusal.Refusal.TheVariants as no
use Rattle.vx_base.specs.declared.reply.Reply.TheVariants as say
use Rattle.vx_dir.specs.Directories.{Directory as Names, IsKept, entry_count}
use Rattle.vx_inode.specs.Tables.{inode_at}
use Rattle.vx_model.specs.Contents.{Held, settled_of}
use Rattle.vx_model.specs.Edits.{set_node}
use Rattle.vx_model.specs.Naming.{stat_at, stat_reply, chmod_at, with_mode}
use Rattle.vx_model.specs.Outcome.{Maybe, ◌>>=◌, need}
use Rattle.vx_model.specs.Removing.{fine}
use Rattle.vx_model.specs.State.{State, Done}
use Rattle.vx_model.specs.Touching.{Touched, untouched}
use Rattle.vx_model.specs.Tree.{Node, IsDirectory}
use Rattle.vx_txn.specs.Calls.{HasGone, IsSettled}
use Rattle.vx_txn.specs.Directories.{DirectoryValue}
use Rattle.vx_txn.specs.Metas.{directory_of, Stands}
use Rattle.vx_txn.specs.declared.meta.Meta.{Meta}
use Rattle.vx_txn.proofs.CallLaws.{answered, counted_names}
use Rattle.vx_txn.proofs.StateLaws.{inode_of_option, held, directory_here, entries_here}

pub copied_some : {A : Type 0} (r : Option (Bor A)) → is_some (option_copied r) ≡ is_some r
copied_some None = refl
copied_some (Some x) = refl

node_by : (h : Held) (i : Option Inode) (o : Option Node) → i ≡ inode_of_option h o → is_some i ≡ true → (node : Node) × (o ≡ Some node)
node_by h i None is there = absurd (let e : is_some i ≡ is_some {T = Inode} None = ap is_some is in cc)
node_by h i (Some node) is there = (node, refl)

module _ (m : Meta) (s : State) (is : Stands m s) (at : ℕ) where
  pub node_there : is_some (inode_at m.inodes at) ≡ true → (node : Node) × (map.get s.tree.nodes at ≡ Some node)
  node_there there = node_by (settled_of s.layout at) (inode_at m.inodes at) (map.get s.tree.nodes at) (held m s is at) there

  pub count_is : (d : DirectoryValue) (there : directory_of m at ≡ Some d) → IsKept d.names → map.len (directory_here m s is at d there).tree.entries ≡ entry_count d.names
  count_is d there kept = ap map.len (entries_here m s is at d there) ∙ counted_names d.names kept

  pub directory_settled : (d : DirectoryValue) (i : Inode) (names : Names) (count : ℕ) → directory_of m at ≡ Some d → Some i ≡ inode_at m.inodes at → IsKept d.names → names ≡ d.names → count ≡ entry_count names
      → IsSettled s (stat_at s at) m untouched (say.DirStat at i.mode count)
  directory_settled d i names count there inode kept same counted =
      let h = directory_here m s is at d there in
      let mode = ap (λ (x : Inode). x.mode) (same_Some i _ (inode ∙ h.inode_there)) in
      let entries : count ≡ map.len h.tree.entries = counted ∙ ap entry_count same ∙ sym (count_is d there kept) in
      answered m s is (stat_at s at) (stat_reply at (IsDirectory h.tree)) (say.DirStat at i.mode count)
      (ap (λ (o : Option Node). need o no.NoEnt >>= (λ node. Ok (record { state = s; reply = stat_reply at node }))) h.node_there)
      (ap (λ (x : ℕ). say.DirStat at x count) mode ∙ ap (say.DirStat at h.tree.mode) entries)

  pub mode_settled : (mode : ℕ) (node : Node) (k : Meta) (v : Touched) → map.get s.tree.nodes at ≡ Some node → HasGone s (set_node s at (with_mode mode node)) k v → IsSettled s (chmod_at s mode at) k v say.Fine
  mode_settled mode node k v there gone =
      let chain : chmod_at s mode at ≡ Ok (fine (set_node s at (with_mode mode node))) = ap (λ (o : Option Node). need o no.NoEnt >>= (λ x. Ok (fine (set_node s at (with_mode mode x))))) there in
      subst (λ (c : Maybe Done). IsSettled s c k v say.Fine) (sym chain) (record { gone = gone; reply_is = refl })
