-- Edits of names give no file bytes.
use Rattle.std.proofs.Common.{◌≡◌, ◌≢◌, ℕ, List, [], Option, Some, None, Ok, Err, refl, sym, ap, subst, ◌∙◌, inl, inr}
use Rattle.std.specs.FinMap as map
use Rattle.std.specs.Prelude as prelude
use Rattle.std.proofs.lemmas.Bool.{cases_eq}
use Rattle.vx_base.proofs.Maps.{at_key, at_other}
use Rattle.vx_base.specs.Paths.{FileName}
use Rattle.vx_base.specs.declared.inode.DirEntry.{DirEntry}
use Rattle.vx_model.specs.Outcome.{Maybe}
use Rattle.vx_model.specs.Tree.{Tree, Nodes, Node, File, Directory, IsFile, IsDirectory, new_directory}
use Rattle.vx_model.specs.Layout.{DirectoryBlock, Layout, blocks_at, with_blocks, with_last, block_of_page, add_entry, freed, without_name}
use Rattle.vx_model.specs.State.{State}
use Rattle.vx_model.specs.Walks.{directory_at}
use Rattle.vx_model.specs.Edits.{with_nodes, with_name, without_name as less_name, add_name, remove_name_in, remove_name, set_node, drop_node}
use Rattle.vx_model.specs.Naming.{with_mode}
use Rattle.vx_model.specs.Legal.{with_released}
use Rattle.vx_model.specs.LaidOut.{HasNothing, IsPlain, IsPlainFile}
use Rattle.std.specs.Prelude.{length, ◌++◌, ◌∷◌}
use Rattle.vx_model.proofs.BlockClaims.{same_owned}
use Rattle.vx_model.proofs.EditKeeps.{IsSameAt, removed_key, removed_other, same_numbers, nothing_same, elsewhere, others_same, freed_others}
use Rattle.vx_model.proofs.NameEdits.{entry_added, name_added}
use Rattle.vx_model.proofs.NameKeeps.{without_numbers}

-- at most one inode has another node, which is no file with bytes
plain_after : (s t : State) (at : ℕ) → IsPlain s → t.tree ≡ with_nodes s.tree t.tree.nodes → ((n : ℕ) → n ≢ at → map.get t.tree.nodes n ≡ map.get s.tree.nodes n)
    → ((n : ℕ) → n ≢ at → HasNothing s.layout n → HasNothing t.layout n) → ((f : File) → map.get t.tree.nodes at ≡ Some (IsFile f) → IsPlainFile f × HasNothing t.layout at) → IsPlain t
plain_after s t at plain tree others none here_is = record {
  files = λ n f there. elim (cases_eq n at) [
    | inl e ↦ subst (λ (k : ℕ). IsPlainFile f × HasNothing t.layout k) (sym e) (here_is f (ap (map.get t.tree.nodes) (sym e) ∙ there))
    | inr ne ↦ let was = plain.files n f (sym (others n ne) ∙ there) in (was.0, none n ne was.1)
  ];
  rest = tree ∙ ap (λ (x : Tree). with_nodes x t.tree.nodes) plain.rest;
}

no_file : (nodes : Nodes) (at : ℕ) (d : Directory) (f : File) → map.get nodes at ≡ Some (IsDirectory d) → map.get nodes at ≡ Some (IsFile f) → ⊥
no_file nodes at d f there file = let c : ◌≡◌ {A = Option Node} (Some (IsDirectory d)) (Some (IsFile f)) = sym there ∙ file in cc

same_file : (nodes : Nodes) (at : ℕ) (f g : File) → map.get nodes at ≡ Some (IsFile f) → map.get nodes at ≡ Some (IsFile g) → f ≡ g
same_file nodes at f g there file = let c : ◌≡◌ {A = Option Node} (Some (IsFile f)) (Some (IsFile g)) = sym there ∙ file in cc

-- ---- a name more

entry_elsewhere : (l after : Layout) (first at : ℕ) (e : DirEntry) → add_entry l first at e ≡ Ok after → (n : ℕ) → n ≢ at → IsSameAt l after n
entry_elsewhere l after first at e h n ne = elim (entry_added l after first at e h) [
  | inl f ↦ subst (λ (m : Layout). IsSameAt l m n) (sym f.layout) (others_same l at f.blocks l.maps (λ k other. refl) n ne)
  | inr g ↦
      let last : DirectoryBlock = record { block = block_of_page g.filling.pages (length (blocks_at l at)); entries = e ∷ [] } in
      subst (λ (m : Layout). IsSameAt l m n) (sym g.layout)
      (others_same l at (blocks_at l at ++ last ∷ []) (with_last l at e g.filling).maps (λ k other. elsewhere k at g.filling.maps (l.maps k) other) n ne)
]

pub added_plain : (s new : State) (at ino : ℕ) (name : FileName) → IsPlain s → add_name s at name ino ≡ Ok new → IsPlain new
added_plain s new at ino name plain h =
    let a = name_added s new at ino name h in
    let node : Node = with_name a.directory name ino in
    subst IsPlain (sym a.state) (plain_after s (record { tree = with_nodes s.tree (map.insert s.tree.nodes at node); layout = a.layout }) at plain refl (at_other s.tree.nodes at node)
    (λ n ne none. nothing_same s.layout a.layout n (entry_elsewhere s.layout a.layout s.tree.tunables.initial_extent_size at (record { ino = ino; name = name }) a.added n ne) none)
    (λ f file. absurd (no_file (map.insert s.tree.nodes at node) at (record a.directory { entries = map.insert a.directory.entries name ino }) f (at_key s.tree.nodes at node) file)))

-- ---- a name less

removed_by : (s : State) (at : ℕ) (name : FileName) (m : Maybe Directory) → IsPlain s → IsPlain (remove_name_in s at name m)
removed_by s at name (Err why) plain = plain
removed_by s at name (Ok d) plain =
    let blocks : List DirectoryBlock = prelude.map (without_name name) (blocks_at s.layout at) in
    let node : Node = less_name d name in
    plain_after s (remove_name_in s at name (Ok d)) at plain refl (at_other s.tree.nodes at node)
    (λ n ne none. record { none = same_owned s.layout (with_blocks s.layout at blocks) n (same_numbers s.layout at blocks (without_numbers name (blocks_at s.layout at)) n) ∙ none.none; space = none.space })
    (λ f file. absurd (no_file (map.insert s.tree.nodes at node) at (record d { entries = map.remove d.entries name }) f (at_key s.tree.nodes at node) file))

pub removed_plain : (s : State) (at : ℕ) (name : FileName) → IsPlain s → IsPlain (remove_name s at name)
removed_plain s at name plain = removed_by s at name (directory_at s.tree.nodes at) plain

-- ---- an inode

pub file_plain : (s : State) (ino : ℕ) (f : File) → IsPlain s → IsPlainFile f → HasNothing s.layout ino → IsPlain (set_node s ino (IsFile f))
file_plain s ino f plain file none =
    plain_after s (set_node s ino (IsFile f)) ino plain refl (at_other s.tree.nodes ino (IsFile f)) (λ n ne h. h)
    (λ g there. (subst IsPlainFile (same_file (map.insert s.tree.nodes ino (IsFile f)) ino f g (at_key s.tree.nodes ino (IsFile f)) there) file, none))

pub directory_plain : (s : State) (ino mode : ℕ) → IsPlain s → IsPlain (set_node s ino (new_directory mode))
directory_plain s ino mode plain =
    plain_after s (set_node s ino (new_directory mode)) ino plain refl (at_other s.tree.nodes ino (new_directory mode)) (λ n ne h. h)
    (λ f file. absurd (let c : ◌≡◌ {A = Option Node} (Some (new_directory mode)) (Some (IsFile f)) = sym (at_key s.tree.nodes ino (new_directory mode)) ∙ file in cc))

moded : (s : State) (ino mode : ℕ) (node : Node) → IsPlain s → map.get s.tree.nodes ino ≡ Some node → (f : File) → Some (with_mode mode node) ≡ Some (IsFile f) → IsPlainFile f × HasNothing s.layout ino
moded s ino mode (IsFile g) plain there f same =
    let was = plain.files ino g there in
    let e : record g { mode = mode } ≡ f = cc in
    (subst IsPlainFile e (record { some_links = was.0.some_links; attrs = was.0.attrs; bytes = was.0.bytes }), was.1)
moded s ino mode (IsDirectory d) plain there f same = absurd cc

pub mode_plain : (s : State) (ino mode : ℕ) (node : Node) → IsPlain s → map.get s.tree.nodes ino ≡ Some node → IsPlain (set_node s ino (with_mode mode node))
mode_plain s ino mode node plain there =
    plain_after s (set_node s ino (with_mode mode node)) ino plain refl (at_other s.tree.nodes ino (with_mode mode node)) (λ n ne h. h)
    (λ f file. moded s ino mode node plain there f (sym (at_key s.tree.nodes ino (with_mode mode node)) ∙ file))

pub dropped_plain : (s : State) (place ino : ℕ) → IsPlain s → IsPlain (drop_node s place ino)
dropped_plain s place ino plain =
    plain_after s (drop_node s place ino) ino plain refl (removed_other s.tree.nodes ino) (λ n ne h. nothing_same s.layout (freed s.layout place ino) n (freed_others s.layout place ino n ne) h)
    (λ f file. absurd (let c : ◌≡◌ {A = Option Node} None (Some (IsFile f)) = sym (removed_key s.tree.nodes ino) ∙ file in cc))

pub released_plain : (s : State) (upto : ℕ) → IsPlain s → IsPlain (with_released s upto)
released_plain s upto plain = record { files = λ n f there. (let was = plain.files n f there in (was.0, record { none = was.1.none; space = was.1.space })); rest = plain.rest }
