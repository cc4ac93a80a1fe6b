-- What link and chmod change.
use Rattle.std.proofs.Common.{◌≡◌, ◌≢◌, ℕ, ◌+◌, List, [], Some, None, refl, sym, ap, subst, ◌∙◌}
use Rattle.std.specs.FinMap as map
use Rattle.vx_base.proofs.Maps.{at_key, at_other}
use Rattle.vx_base.specs.Paths.{FileName}
use Rattle.vx_base.specs.declared.call.Call.TheVariants as call
use Rattle.vx_base.specs.declared.reply.Reply.TheVariants as say
use Rattle.vx_model.specs.Tree.{Nodes, Node, Directory, IsFile, IsDirectory}
use Rattle.vx_model.specs.State.{State, Done}
use Rattle.vx_model.specs.Walks.{root}
use Rattle.vx_model.specs.Edits.{with_name}
use Rattle.vx_model.specs.Linking.{link}
use Rattle.vx_model.specs.Naming.{with_mode, chmod}
use Rattle.vx_model.specs.Step.{step}
use Rattle.vx_model.specs.NameLaws.{meaning_in, lookup, IsLinked, IsModeSet}
use Rattle.vx_model.proofs.Lookups.{walk_on, walk_more, inode_at}
use Rattle.vx_model.proofs.Successes.{adds, Links, links, Modes, modes}
use Rattle.vx_model.proofs.NameChanges.{succeeded, not_fine, same_directory, file_leaf, set_touches, touches_same, added_named, added_stays, named_more}

linked : (s : State) (from to : List ℕ) (done : Done) → Links s from to done → IsLinked s.tree.nodes done.state.tree.nodes from to
linked s from to done l =
    let old : Nodes = s.tree.nodes in
    let middle : Nodes = l.named.tree.nodes in
    let node : Node = IsFile (record l.file { nlink = l.file.nlink + 1 }) in
    let new : Nodes = map.insert middle l.ino node in
    let a = adds s l.at l.name l.ino l.named l.added in
    let d : a.directory ≡ l.directory = same_directory (map.get old l.at) a.directory l.directory a.there l.directory_there in
    let apart : l.ino ≢ l.at = λ e. (let c : Some (IsFile l.file) ≡ Some (IsDirectory l.directory) = sym l.there ∙ ap (map.get old) e ∙ l.directory_there in absurd cc) in
    let named = added_named s l.named l.at l.ino l.name l.added in
    let still : map.get middle l.ino ≡ Some (IsFile l.file) = added_stays s l.named l.at l.ino l.name l.ino l.added apart ∙ l.there in
    let same = touches_same middle new l.ino (file_leaf middle l.ino l.file still) (set_touches middle l.ino node (λ x. refl)) in
    let means : lookup new l.at l.name ≡ Some l.ino = same l.at l.name ∙ named.here in
    let free : lookup old l.at l.name ≡ None = ap (meaning_in l.name) l.directory_there ∙ l.new_name in
    let more : (q : ℕ) (x : FileName) (y : ℕ) → lookup old q x ≡ Some y → lookup new q x ≡ Some y = λ q x y is. same q x ∙ named_more old middle l.at l.ino l.name free named q x y is in
    subst (λ (x : Done). IsLinked old x.state.tree.nodes from to) (sym l.is) (record {
      ino = l.ino;
      file = l.file;
      at = l.at;
      name = l.name;
      directory = l.directory;
      walked = l.walked;
      file_was = l.there;
      leads = l.leads;
      was = l.directory_there;
      new_name = l.new_name;
      walks = inode_at old new to l.at l.name l.leads (walk_more old new more root l.leads.above l.at l.leads.walked) ∙ walk_on new l.at l.name [] l.ino means;
      file_is = at_key middle l.ino node;
      parent_is = at_other middle l.ino node l.at (λ e. apart (sym e)) ∙ ap (λ (ns : Nodes). map.get ns l.at) a.nodes ∙ at_key old l.at (with_name a.directory l.name l.ino)
          ∙ ap (λ (x : Directory). Some (with_name x l.name l.ino)) d;
      others = λ n other file. at_other middle l.ino node n file ∙ ap (λ (ns : Nodes). map.get ns n) a.nodes ∙ at_other old l.at (with_name a.directory l.name l.ino) n other;
    })

pub link_links : (s : State) (place session : ℕ) (from to : List ℕ) (done : Done) → step s place session (call.Link from to) ≡ Some done → done.reply ≡ say.Fine → IsLinked s.tree.nodes done.state.tree.nodes from to
link_links s place session from to done h reply = linked s from to done (links s from to done (succeeded s (link s from to) done h (not_fine done.reply reply)))

mode_set : (s : State) (path : List ℕ) (mode : ℕ) (done : Done) → Modes s path mode done → IsModeSet s.tree.nodes done.state.tree.nodes path mode
mode_set s path mode done m = subst (λ (x : Done). IsModeSet s.tree.nodes x.state.tree.nodes path mode) (sym m.is) (record {
  ino = m.ino;
  node = m.node;
  walked = m.walked;
  was = m.there;
  node_is = at_key s.tree.nodes m.ino (with_mode mode m.node);
  others = λ n other. at_other s.tree.nodes m.ino (with_mode mode m.node) n other;
})

pub chmod_sets : (s : State) (place session : ℕ) (path : List ℕ) (mode : ℕ) (done : Done) → step s place session (call.Chmod path mode) ≡ Some done → done.reply ≡ say.Fine
    → IsModeSet s.tree.nodes done.state.tree.nodes path mode
chmod_sets s place session path mode done h reply = mode_set s path mode done (modes s path mode done (succeeded s (chmod s path mode) done h (not_fine done.reply reply)))
