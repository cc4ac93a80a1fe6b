-- What names mean after each call.
use Rattle.std.proofs.Common.{◌≡◌, ◌≢◌, ℕ, Bool, true, false, cond, List, [], ◌∷◌, Option, Some, None, Ok, Err, refl, sym, ap, subst, ◌∙◌, inl, inr}
use Rattle.std.specs.Prelude.{◌⊎◌, ◌-◌}
use Rattle.std.specs.FinMap as map
use Rattle.std.proofs.lemmas.Bool.{cases_eq}
use Rattle.std.specs.Ordering.{nat_cmp}
use Rattle.std.specs.Cmp.Lexicographic.{slice_cmp}
use Rattle.vx_base.proofs.Maps.{at_key, at_other}
use Rattle.vx_base.specs.Paths.{FileName}
use Rattle.vx_base.specs.declared.call.Call.TheVariants as call
use Rattle.vx_base.specs.declared.refusal.Refusal.{Refusal}
use Rattle.vx_base.specs.declared.refusal.Refusal.TheVariants as no
use Rattle.vx_base.specs.declared.reply.Reply.{Reply}
use Rattle.vx_base.specs.declared.reply.Reply.TheVariants as say
use Rattle.vx_model.specs.Outcome.{Maybe, ◌>>=◌, need}
use Rattle.vx_model.specs.Tree.{Tree, Nodes, Entries, Node, File, Directory, IsFile, IsDirectory, lowest_unused, new_file, new_directory}
use Rattle.vx_model.specs.State.{State, Done, settled}
use Rattle.vx_model.specs.Walks.{root, walk, inode_of}
use Rattle.vx_model.specs.Edits.{with_name, without_name, add_name, remove_name, remove_name_in, drop_node}
use Rattle.vx_model.specs.Making.{create, mkdir}
use Rattle.vx_model.specs.Removing.{fine, is_last, unlinked, unlink, rmdir}
use Rattle.vx_model.specs.Moving.{Move, enter, cleared, rename}
use Rattle.vx_model.specs.Step.{step}
use Rattle.vx_model.specs.NameLaws.{meaning_in, lookup, IsOther, LeadsTo, IsCreated, with_name_less, StaysDirectory, IsRemoved, IsRenamed}
use Rattle.vx_model.proofs.Unused.{unused_free}
use Rattle.vx_model.proofs.Chains.{bind_ok}
use Rattle.vx_model.proofs.Lookups.{node_gone, node_stays, cases_entry, IsNamed, IsUnnamed, MeanSame, put_named, take_unnamed, at_directory, step_in, walk_on, walk_more, walk_less, inode_at}
use Rattle.vx_model.proofs.Successes.{adds, Makes, makes, unlinks, removes_directory, Onto, nothing, itself, directory, file, Renames, renames}

-- ---- a call that is answered so did it

pub succeeded : (s : State) (m : Maybe Done) (done : Done) → Some (settled s m) ≡ Some done → ((why : Refusal) → say.Refused why ≢ done.reply) → m ≡ Ok done
succeeded s (Ok x) done h ne = let e : x ≡ done = cc in ap Ok e
succeeded s (Err why) done h ne =
    let e : ◌≡◌ {A = Done} (record { state = s; reply = say.Refused why }) done = cc in
    absurd (ne why (ap (λ (d : Done). d.reply) e))

pub not_made : (reply : Reply) (ino : ℕ) → reply ≡ say.Made ino → (why : Refusal) → say.Refused why ≢ reply
not_made reply ino is why e = let c : say.Refused why ≡ say.Made ino = e ∙ is in absurd cc

pub not_fine : (reply : Reply) → reply ≡ say.Fine → (why : Refusal) → say.Refused why ≢ reply
not_fine reply is why e = let c : say.Refused why ≡ say.Fine = e ∙ is in absurd cc

-- ---- nodes

pub same_directory : (o : Option Node) (a b : Directory) → o ≡ Some (IsDirectory a) → o ≡ Some (IsDirectory b) → a ≡ b
same_directory o a b x y = let e : Some (IsDirectory a) ≡ Some (IsDirectory b) = sym x ∙ y in cc

-- whose name means something is a directory
pub named_directory : (name : FileName) (ino : ℕ) (o : Option Node) → meaning_in name o ≡ Some ino → (d : Directory) × (o ≡ Some (IsDirectory d))
named_directory name ino None h = absurd cc
named_directory name ino (Some (IsFile f)) h = absurd cc
named_directory name ino (Some (IsDirectory d)) h = (d, refl)

-- no name of the inode means anything
abbrev pub IsLeaf : Nodes → ℕ → Type 0
IsLeaf nodes ino = (x : FileName) → lookup nodes ino x ≡ None

pub file_leaf : (nodes : Nodes) (ino : ℕ) (f : File) → map.get nodes ino ≡ Some (IsFile f) → IsLeaf nodes ino
file_leaf nodes ino f is x = ap (meaning_in x) is

pub absent_leaf : (nodes : Nodes) (ino : ℕ) → map.get nodes ino ≡ None → IsLeaf nodes ino
absent_leaf nodes ino is x = ap (meaning_in x) is

pub empty_leaf : (nodes : Nodes) (ino : ℕ) (d : Directory) → map.get nodes ino ≡ Some (IsDirectory d) → map.len d.entries ≡ 0 → IsLeaf nodes ino
empty_leaf nodes ino d is empty x = ap (meaning_in x) is ∙ ap (λ es. map.get es x) (map.empty_of_len d.entries empty) ∙ map.get-empty (slice_cmp nat_cmp) x

-- a name that means something is no leaf's
pub not_leaf : (nodes : Nodes) (at : ℕ) (name : FileName) (ino leaf : ℕ) → lookup nodes at name ≡ Some ino → IsLeaf nodes leaf → leaf ≢ at
not_leaf nodes at name ino leaf means none e = let c : None ≡ Some ino = sym (none name) ∙ ap (λ (k : ℕ). lookup nodes k name) e ∙ means in absurd cc

-- only an inode that leads nowhere has changed, and it leads nowhere
pub record Touches (old new : Nodes) (ino : ℕ) : Type 0 where
  pub leaf : IsLeaf new ino
  pub others : (n : ℕ) → n ≢ ino → map.get new n ≡ map.get old n

pub set_touches : (nodes : Nodes) (ino : ℕ) (node : Node) → ((x : FileName) → meaning_in x (Some node) ≡ None) → Touches nodes (map.insert nodes ino node) ino
set_touches nodes ino node none = record {
  leaf = λ x. ap (meaning_in x) (at_key nodes ino node) ∙ none x;
  others = λ n ne. at_other nodes ino node n ne;
}

pub drop_touches : (nodes : Nodes) (ino : ℕ) → Touches nodes (map.remove nodes ino) ino
drop_touches nodes ino = record {
  leaf = λ x. ap (meaning_in x) (node_gone nodes ino);
  others = λ n ne. node_stays nodes ino n ne;
}

pub unlinked_touches : (b : State) (place ino : ℕ) (last : Bool) (f : File) → Touches b.tree.nodes (unlinked b place ino last f).tree.nodes ino
unlinked_touches b place ino true f = drop_touches b.tree.nodes ino
unlinked_touches b place ino false f = set_touches b.tree.nodes ino (IsFile (record f { nlink = f.nlink - 1 })) (λ x. refl)

left_by : (b : State) (place ino : ℕ) (last : Bool) (f : File)
    → map.get (unlinked b place ino last f).tree.nodes ino ≡ cond last None (Some (IsFile (record f { nlink = f.nlink - 1 })))
left_by b place ino true f = node_gone b.tree.nodes ino
left_by b place ino false f = at_key b.tree.nodes ino (IsFile (record f { nlink = f.nlink - 1 }))

-- what an unlink leaves of the file
pub unlinked_left : (s b : State) (place ino : ℕ) (f : File) → map.get (unlinked b place ino (is_last s.tree ino f) f).tree.nodes ino ≡ with_name_less s.tree ino (IsFile f)
unlinked_left s b place ino f = left_by b place ino (is_last s.tree ino f) f

pub touches_same : (old new : Nodes) (ino : ℕ) → IsLeaf old ino → Touches old new ino → MeanSame old new
touches_same old new ino leaf t q x =
    elim (cases_eq q ino) [
      | inl e ↦ ap (λ (k : ℕ). lookup new k x) e ∙ t.leaf x ∙ sym (leaf x) ∙ sym (ap (λ (k : ℕ). lookup old k x) e)
      | inr ne ↦ ap (meaning_in x) (t.others q ne)
    ]

-- ---- directories

keeps_then : (a b c : Nodes) (n : ℕ) → StaysDirectory a b n → StaysDirectory b c n → StaysDirectory a c n
keeps_then a b c n first second d is = let p = first d is in let q = second p.0 p.1 in (q.0, q.1, q.2 ∙ p.2)

keeps_same : (a b : Nodes) (n : ℕ) → map.get b n ≡ map.get a n → StaysDirectory a b n
keeps_same a b n same d is = (d, same ∙ is, refl)

keeps_put : (nodes : Nodes) (at : ℕ) (d : Directory) (entries : Entries) → map.get nodes at ≡ Some (IsDirectory d) → (n : ℕ) → StaysDirectory nodes (map.insert nodes at (IsDirectory (record d { entries = entries }))) n
keeps_put nodes at d entries there n e is =
    let put : Directory = record d { entries = entries } in
    elim (cases_eq n at) [
      | inl here ↦ (put, ap (map.get (map.insert nodes at (IsDirectory put))) here ∙ at_key nodes at (IsDirectory put), ap (λ (x : Directory). x.mode) (same_directory (map.get nodes n) d e (ap (map.get nodes) here ∙ there) is))
      | inr other ↦ (e, at_other nodes at (IsDirectory put) n other ∙ is, refl)
    ]

-- ---- a name less

pub removed_nodes : (s : State) (at : ℕ) (name : FileName) (d : Directory) → map.get s.tree.nodes at ≡ Some (IsDirectory d) → (remove_name s at name).tree.nodes ≡ map.insert s.tree.nodes at (without_name d name)
removed_nodes s at name d there = ap (λ m. (remove_name_in s at name m).tree.nodes) (at_directory s.tree.nodes at d there)

pub removed_unnamed : (s : State) (at : ℕ) (name : FileName) (d : Directory) → map.get s.tree.nodes at ≡ Some (IsDirectory d) → IsUnnamed s.tree.nodes (remove_name s at name).tree.nodes at name
removed_unnamed s at name d there = subst (λ (ns : Nodes). IsUnnamed s.tree.nodes ns at name) (sym (removed_nodes s at name d there)) (take_unnamed s.tree.nodes at d there name)

pub remove_stays : (s : State) (at : ℕ) (name : FileName) (ino k : ℕ) → lookup s.tree.nodes at name ≡ Some ino → k ≢ at → map.get (remove_name s at name).tree.nodes k ≡ map.get s.tree.nodes k
remove_stays s at name ino k means ne =
    let d = named_directory name ino (map.get s.tree.nodes at) means in
    ap (λ (ns : Nodes). map.get ns k) (removed_nodes s at name d.0 d.1) ∙ at_other s.tree.nodes at (without_name d.0 name) k ne

removed_keeps : (s : State) (at : ℕ) (name : FileName) (ino : ℕ) → lookup s.tree.nodes at name ≡ Some ino → (n : ℕ) → StaysDirectory s.tree.nodes (remove_name s at name).tree.nodes n
removed_keeps s at name ino means n =
    let d = named_directory name ino (map.get s.tree.nodes at) means in
    subst (λ (ns : Nodes). StaysDirectory s.tree.nodes ns n) (sym (removed_nodes s at name d.0 d.1)) (keeps_put s.tree.nodes at d.0 (map.remove d.0.entries name) d.1 n)

-- what leads nowhere leads nowhere without a name
pub unnamed_leaf : (old new : Nodes) (at : ℕ) (name : FileName) (ino : ℕ) → IsUnnamed old new at name → IsLeaf old ino → IsLeaf new ino
unnamed_leaf old new at name ino u leaf x =
    elim (cases_entry at name ino x) [
      | inl here ↦ ap (λ (k : ℕ). lookup new k x) here.0 ∙ ap (lookup new at) here.1 ∙ u.here
      | inr other ↦ u.others ino x other ∙ leaf x
    ]

walk_absent : (nodes : Nodes) (at : ℕ) (name : FileName) (d : Directory) → map.get nodes at ≡ Some (IsDirectory d) → lookup nodes at name ≡ None → walk nodes at (name ∷ []) ≡ Err no.NoEnt
walk_absent nodes at name d there none =
    let absent : map.get d.entries name ≡ None = sym (ap (meaning_in name) there) ∙ none in
    ap (λ o. step_in name o >>= (λ next. walk nodes next [])) there ∙ ap (λ o. need o no.NoEnt >>= (λ next. walk nodes next [])) absent

module _ (s : State) (path : List ℕ) (at : ℕ) (name : FileName) (ino : ℕ) (leads : LeadsTo s.tree.nodes path at name) (means : lookup s.tree.nodes at name ≡ Some ino) (leaf : IsLeaf s.tree.nodes ino) where
  gone_with : (d : Directory) → map.get s.tree.nodes at ≡ Some (IsDirectory d) → (new : Nodes) → Touches (remove_name s at name).tree.nodes new ino → (node : Node) → map.get s.tree.nodes ino ≡ Some node
      → map.get new ino ≡ with_name_less s.tree ino node → IsRemoved s.tree new path
  gone_with d there new t node was left =
      let old : Nodes = s.tree.nodes in
      let less : Nodes = (remove_name s at name).tree.nodes in
      let u = removed_unnamed s at name d there in
      let same = touches_same less new ino (unnamed_leaf old less at name ino u leaf) t in
      let apart : ino ≢ at = not_leaf old at name ino ino means leaf in
      let others : (q : ℕ) (x : FileName) → IsOther at name q x → lookup new q x ≡ lookup old q x = λ q x other. same q x ∙ u.others q x other in
      let still : map.get new at ≡ Some (without_name d name) =
      t.others at (λ e. apart (sym e)) ∙ ap (λ (ns : Nodes). map.get ns at) (removed_nodes s at name d there) ∙ at_key old at (without_name d name) in
      record {
        at = at;
        name = name;
        ino = ino;
        leads = leads;
        meant = means;
        directory = d;
        was = there;
        parent_is = still;
        node = node;
        node_was = was;
        node_is = left;
        nothing = inode_at old new path at name leads (walk_less old new at name ino means leaf others root leads.above at apart leads.walked)
            ∙ walk_absent new at name (record d { entries = map.remove d.entries name }) still (same at name ∙ u.here);
        gone = same at name ∙ u.here;
        nodes = λ n away other. t.others n other ∙ remove_stays s at name ino n means away;
        others = others;
      }

  pub gone : (new : Nodes) → Touches (remove_name s at name).tree.nodes new ino → (node : Node) → map.get s.tree.nodes ino ≡ Some node → map.get new ino ≡ with_name_less s.tree ino node → IsRemoved s.tree new path
  gone new t = let d = named_directory name ino (map.get s.tree.nodes at) means in gone_with d.0 d.1 new t

pub unlinked_removes : (s : State) (place : ℕ) (path : List ℕ) (done : Done) → unlink s place path ≡ Ok done → IsRemoved s.tree done.state.tree.nodes path
unlinked_removes s place path done h =
    let u = unlinks s place path done h in
    let b : State = remove_name s u.entry.at u.entry.name in
    subst (λ (x : Done). IsRemoved s.tree x.state.tree.nodes path) (sym u.is)
    (gone s path u.entry.at u.entry.name u.entry.ino u.enters.leads u.enters.means (file_leaf s.tree.nodes u.entry.ino u.file u.there)
    (unlinked b place u.entry.ino (is_last s.tree u.entry.ino u.file) u.file).tree.nodes (unlinked_touches b place u.entry.ino (is_last s.tree u.entry.ino u.file) u.file) (IsFile u.file) u.there
    (unlinked_left s b place u.entry.ino u.file))

pub unlink_removes : (s : State) (place session : ℕ) (path : List ℕ) (done : Done) → step s place session (call.Unlink path) ≡ Some done → done.reply ≡ say.Fine → IsRemoved s.tree done.state.tree.nodes path
unlink_removes s place session path done h reply = unlinked_removes s place path done (succeeded s (unlink s place path) done h (not_fine done.reply reply))

pub directory_removes : (s : State) (place : ℕ) (path : List ℕ) (done : Done) → rmdir s place path ≡ Ok done → IsRemoved s.tree done.state.tree.nodes path
directory_removes s place path done h =
    let u = removes_directory s place path done h in
    let b : State = remove_name s u.entry.at u.entry.name in
    subst (λ (x : Done). IsRemoved s.tree x.state.tree.nodes path) (sym u.is)
    (gone s path u.entry.at u.entry.name u.entry.ino u.enters.leads u.enters.means (empty_leaf s.tree.nodes u.entry.ino u.directory u.there u.empty)
    (drop_node b place u.entry.ino).tree.nodes (drop_touches b.tree.nodes u.entry.ino) (IsDirectory u.directory) u.there (node_gone b.tree.nodes u.entry.ino))

pub rmdir_removes : (s : State) (place session : ℕ) (path : List ℕ) (done : Done) → step s place session (call.Rmdir path) ≡ Some done → done.reply ≡ say.Fine → IsRemoved s.tree done.state.tree.nodes path
rmdir_removes s place session path done h reply = directory_removes s place path done (succeeded s (rmdir s place path) done h (not_fine done.reply reply))

-- ---- a name more

pub added_named : (s new : State) (at ino : ℕ) (name : FileName) → add_name s at name ino ≡ Ok new → IsNamed s.tree.nodes new.tree.nodes at name ino
added_named s new at ino name h =
    let a = adds s at name ino new h in
    subst (λ (ns : Nodes). IsNamed s.tree.nodes ns at name ino) (sym a.nodes) (put_named s.tree.nodes at a.directory a.there name ino)

pub added_stays : (s new : State) (at ino : ℕ) (name : FileName) (n : ℕ) → add_name s at name ino ≡ Ok new → n ≢ at → map.get new.tree.nodes n ≡ map.get s.tree.nodes n
added_stays s new at ino name n h ne =
    let a = adds s at name ino new h in
    ap (λ (ns : Nodes). map.get ns n) a.nodes ∙ at_other s.tree.nodes at (with_name a.directory name ino) n ne

added_keeps : (s new : State) (at ino : ℕ) (name : FileName) → add_name s at name ino ≡ Ok new → (n : ℕ) → StaysDirectory s.tree.nodes new.tree.nodes n
added_keeps s new at ino name h n =
    let a = adds s at name ino new h in
    subst (λ (ns : Nodes). StaysDirectory s.tree.nodes ns n) (sym a.nodes) (keeps_put s.tree.nodes at a.directory (map.insert a.directory.entries name ino) a.there n)

pub blank_file : (mode : ℕ) (x : FileName) → meaning_in x (Some (new_file mode)) ≡ None
blank_file mode x = refl

pub blank_directory : (mode : ℕ) (x : FileName) → meaning_in x (Some (new_directory mode)) ≡ None
blank_directory mode x = map.get-empty (slice_cmp nat_cmp) x

-- what a name means stays where another is new
pub named_more : (old new : Nodes) (at ino : ℕ) (name : FileName) → lookup old at name ≡ None → IsNamed old new at name ino → (q : ℕ) (x : FileName) (y : ℕ) → lookup old q x ≡ Some y → lookup new q x ≡ Some y
named_more old new at ino name free n q x y means =
    elim (cases_entry at name q x) [
      | inl here ↦ let c : None ≡ Some y = sym free ∙ sym (ap (lookup old at) here.1) ∙ sym (ap (λ (k : ℕ). lookup old k x) here.0) ∙ means in absurd cc
      | inr other ↦ n.others q x other ∙ means
    ]

module _ (s : State) (path : List ℕ) (node : Node) (blank : (x : FileName) → meaning_in x (Some node) ≡ None) where
  created : (done : Done) → Makes s path node done → IsCreated s.tree.nodes done.state.tree.nodes path node (lowest_unused s.layout.units s.tree.nodes)
  created done m =
      let ino : ℕ = lowest_unused s.layout.units s.tree.nodes in
      let old : Nodes = s.tree.nodes in
      let middle : Nodes = m.named.tree.nodes in
      let new : Nodes = map.insert middle ino node in
      let a = adds s m.at m.name ino m.named m.added in
      let d : a.directory ≡ m.directory = same_directory (map.get old m.at) a.directory m.directory a.there m.there in
      let unused : map.get old ino ≡ None = unused_free s.layout.units old m.low in
      let apart : ino ≢ m.at = λ e. (let c : None ≡ Some (IsDirectory m.directory) = sym unused ∙ ap (map.get old) e ∙ m.there in absurd cc) in
      let named = added_named s m.named m.at ino m.name m.added in
      let absent : map.get middle ino ≡ None = ap (λ (ns : Nodes). map.get ns ino) a.nodes ∙ at_other old m.at (with_name a.directory m.name ino) ino apart ∙ unused in
      let same = touches_same middle new ino (absent_leaf middle ino absent) (set_touches middle ino node blank) in
      let means : lookup new m.at m.name ≡ Some ino = same m.at m.name ∙ named.here in
      let free : lookup old m.at m.name ≡ None = ap (meaning_in m.name) m.there ∙ m.new_name in
      let more : (q : ℕ) (x : FileName) (y : ℕ) → lookup old q x ≡ Some y → lookup new q x ≡ Some y = λ q x y is. same q x ∙ named_more old middle m.at ino m.name free named q x y is in
      subst (λ (x : Done). IsCreated s.tree.nodes x.state.tree.nodes path node ino) (sym m.is) (record {
        at = m.at;
        name = m.name;
        directory = m.directory;
        leads = m.leads;
        was = m.there;
        new_name = m.new_name;
        unused = unused;
        walks = inode_at old new path m.at m.name m.leads (walk_more old new more root m.leads.above m.at m.leads.walked) ∙ walk_on new m.at m.name [] ino means;
        node_is = at_key middle ino node;
        parent_is = at_other middle ino node m.at (λ e. apart (sym e)) ∙ ap (λ (ns : Nodes). map.get ns m.at) a.nodes ∙ at_key old m.at (with_name a.directory m.name ino)
            ∙ ap (λ (x : Directory). Some (with_name x m.name ino)) d;
        others = λ n other fresh. at_other middle ino node n fresh ∙ ap (λ (ns : Nodes). map.get ns n) a.nodes ∙ at_other old m.at (with_name a.directory m.name ino) n other;
      })

  created_as : (done : Done) (ino : ℕ) → Makes s path node done → done.reply ≡ say.Made ino → IsCreated s.tree.nodes done.state.tree.nodes path node ino
  created_as done ino m reply =
      let c : say.Made (lowest_unused s.layout.units s.tree.nodes) ≡ say.Made ino = sym (ap (λ (x : Done). x.reply) m.is) ∙ reply in
      let e : lowest_unused s.layout.units s.tree.nodes ≡ ino = cc in
      subst (IsCreated s.tree.nodes done.state.tree.nodes path node) e (created done m)

pub create_creates : (s : State) (place session : ℕ) (path : List ℕ) (mode ino : ℕ) (done : Done) → step s place session (call.Create path mode) ≡ Some done → done.reply ≡ say.Made ino
    → IsCreated s.tree.nodes done.state.tree.nodes path (new_file mode) ino
create_creates s place session path mode ino done h reply =
    created_as s path (new_file mode) (blank_file mode) done ino (makes s path (new_file mode) done (succeeded s (create s path mode) done h (not_made done.reply ino reply))) reply

pub mkdir_creates : (s : State) (place session : ℕ) (path : List ℕ) (mode ino : ℕ) (done : Done) → step s place session (call.Mkdir path mode) ≡ Some done → done.reply ≡ say.Made ino
    → IsCreated s.tree.nodes done.state.tree.nodes path (new_directory mode) ino
mkdir_creates s place session path mode ino done h reply =
    created_as s path (new_directory mode) (blank_directory mode) done ino (makes s path (new_directory mode) done (succeeded s (mkdir s path mode) done h (not_made done.reply ino reply))) reply

-- ---- a name that moves

pub entered : (b : State) (m : Move) (done : Done) → enter b m ≡ Ok done → (moved : State) × (add_name b m.to m.name m.from.ino ≡ Ok moved) × (done ≡ fine moved)
entered b m done h =
    let named = bind_ok (add_name b m.to m.name m.from.ino) (λ moved. Ok (fine moved)) done h in
    let e : fine named.0 ≡ done = cc in
    (named.0, named.1, sym e)

-- the old name means nothing, and neither does the new one so far
pub record Clears (old : Tree) (less : Nodes) (m : Move) : Type 0 where
  pub gone : lookup less m.from.at m.from.name ≡ None
  pub free : lookup less m.to m.name ≡ None
  pub others : (q : ℕ) (x : FileName) → IsOther m.from.at m.from.name q x → IsOther m.to m.name q x → lookup less q x ≡ lookup old.nodes q x
  pub nodes : (n : ℕ) → n ≢ m.from.at → n ≢ m.to → lookup old.nodes m.to m.name ≢ Some n → map.get less n ≡ map.get old.nodes n
  pub directories : (n : ℕ) → lookup old.nodes m.to m.name ≢ Some n → StaysDirectory old.nodes less n
  pub replaced : (n : ℕ) (node : Node) → lookup old.nodes m.to m.name ≡ Some n → map.get old.nodes n ≡ Some node → (n ≢ m.to) × (map.get less n ≡ with_name_less old n node)

module _ (s : State) (m : Move) (means : lookup s.tree.nodes m.from.at m.from.name ≡ Some m.from.ino) where
  -- the state without the old name
  abbrev taken : State
  taken = remove_name s m.from.at m.from.name

  taken_unnamed : IsUnnamed s.tree.nodes taken.tree.nodes m.from.at m.from.name
  taken_unnamed =
      let d = named_directory m.from.name m.from.ino (map.get s.tree.nodes m.from.at) means in
      removed_unnamed s m.from.at m.from.name d.0 d.1

  pub apart_names : (o : Option ℕ) → lookup s.tree.nodes m.to m.name ≡ o → o ≢ Some m.from.ino → IsOther m.to m.name m.from.at m.from.name
  apart_names o onto ne at name = ne (sym onto ∙ sym (ap (lookup s.tree.nodes m.to) name) ∙ sym (ap (λ (k : ℕ). lookup s.tree.nodes k m.from.name) at) ∙ means)

  pub clears_nothing : lookup s.tree.nodes m.to m.name ≡ None → Clears s.tree taken.tree.nodes m
  clears_nothing none =
      let u = taken_unnamed in
      let other = apart_names None none (λ e. absurd cc) in
      record {
        gone = u.here;
        free = u.others m.to m.name (λ at name. other (sym at) (sym name)) ∙ none;
        others = λ q x away toward. u.others q x away;
        nodes = λ n away toward other. remove_stays s m.from.at m.from.name m.from.ino n means away;
        directories = λ n other_one. removed_keeps s m.from.at m.from.name m.from.ino means n;
        replaced = λ n node onto is. absurd (let c : None ≡ Some n = sym none ∙ onto in cc);
      }

  module _ (target : ℕ) (onto : lookup s.tree.nodes m.to m.name ≡ Some target) (ne : target ≢ m.from.ino) (leaf : IsLeaf s.tree.nodes target) where
    target_other : IsOther m.to m.name m.from.at m.from.name
    target_other = apart_names (Some target) onto (λ e. ne cc)

    pub target_means : lookup taken.tree.nodes m.to m.name ≡ Some target
    target_means = let u = taken_unnamed in u.others m.to m.name (λ at name. target_other (sym at) (sym name)) ∙ onto

    target_unnamed : IsUnnamed taken.tree.nodes (cleared s m).tree.nodes m.to m.name
    target_unnamed =
        let d = named_directory m.name target (map.get taken.tree.nodes m.to) target_means in
        removed_unnamed taken m.to m.name d.0 d.1

    pub cleared_leaf : IsLeaf (cleared s m).tree.nodes target
    cleared_leaf =
        unnamed_leaf taken.tree.nodes (cleared s m).tree.nodes m.to m.name target target_unnamed (unnamed_leaf s.tree.nodes taken.tree.nodes m.from.at m.from.name target taken_unnamed leaf)

    pub clears_target : (less : Nodes) → Touches (cleared s m).tree.nodes less target → (node : Node) → map.get s.tree.nodes target ≡ Some node → map.get less target ≡ with_name_less s.tree target node → Clears s.tree less m
    clears_target less t node was left =
        let u = taken_unnamed in
        let v = target_unnamed in
        let same = touches_same (cleared s m).tree.nodes less target cleared_leaf t in
        record {
          gone = same m.from.at m.from.name ∙ v.others m.from.at m.from.name target_other ∙ u.here;
          free = same m.to m.name ∙ v.here;
          others = λ q x away toward. same q x ∙ v.others q x toward ∙ u.others q x away;
          nodes = λ n away toward other. t.others n (λ e. other (onto ∙ ap Some (sym e))) ∙ remove_stays taken m.to m.name target n target_means toward
              ∙ remove_stays s m.from.at m.from.name m.from.ino n means away;
          directories = λ n other. keeps_then s.tree.nodes taken.tree.nodes less n (removed_keeps s m.from.at m.from.name m.from.ino means n)
              (keeps_then taken.tree.nodes (cleared s m).tree.nodes less n (removed_keeps taken m.to m.name target target_means n)
              (keeps_same (cleared s m).tree.nodes less n (t.others n (λ e. other (onto ∙ ap Some (sym e))))));
          replaced = λ n k on is.
              let e : Some target ≡ Some n = sym onto ∙ on in
              let same : target ≡ n = cc in
              let nodes : Some node ≡ Some k = sym was ∙ ap (map.get s.tree.nodes) same ∙ is in
              let equal : node ≡ k = cc in (
                λ here. not_leaf s.tree.nodes m.to m.name target target onto leaf (same ∙ here),
                ap (map.get less) (sym same) ∙ left ∙ ap (with_name_less s.tree target) equal ∙ ap (λ (i : ℕ). with_name_less s.tree i k) same,
              );
        }

module _ (s : State) (place : ℕ) (old new : List ℕ) where
  -- a rename onto another inode, or onto nothing
  pub record Clearing (m : Move) (done : Done) : Type 0 where
    pub less : State
    pub clears : Clears s.tree less.tree.nodes m
    pub entering : enter less m ≡ Ok done
    pub other : IsOther m.to m.name m.from.at m.from.name
    pub apart : lookup s.tree.nodes m.to m.name ≢ Some m.from.ino

  pub clearing : (m : Move) (done : Done) → lookup s.tree.nodes m.from.at m.from.name ≡ Some m.from.ino → Onto s place m done → Clearing m done ⊎ ((lookup s.tree.nodes m.to m.name ≡ Some m.from.ino) × (done ≡ fine s))
  clearing m done means (nothing none h) = inl (record {
    less = remove_name s m.from.at m.from.name;
    clears = clears_nothing s m means none;
    entering = h;
    other = apart_names s m means None none (λ e. absurd cc);
    apart = λ e. (let c : None ≡ Some m.from.ino = sym none ∙ e in absurd cc);
  })
  clearing m done means (itself onto is) = inr (onto, is)
  clearing m done means (directory target d moved ne onto node there empty h) = inl (record {
    less = drop_node (cleared s m) place target;
    clears = clears_target s m means target onto ne (empty_leaf s.tree.nodes target d there empty) (drop_node (cleared s m) place target).tree.nodes (drop_touches (cleared s m).tree.nodes target) (IsDirectory d) there
        (node_gone (cleared s m).tree.nodes target);
    entering = h;
    other = apart_names s m means (Some target) onto (λ e. ne cc);
    apart = λ e. (let c : Some target ≡ Some m.from.ino = sym onto ∙ e in ne cc);
  })
  clearing m done means (file target f moved ne onto node there h) = inl (record {
    less = unlinked (cleared s m) place target (is_last s.tree target f) f;
    clears = clears_target s m means target onto ne (file_leaf s.tree.nodes target f there) (unlinked (cleared s m) place target (is_last s.tree target f) f).tree.nodes
        (unlinked_touches (cleared s m) place target (is_last s.tree target f) f) (IsFile f) there (unlinked_left s (cleared s m) place target f);
    entering = h;
    other = apart_names s m means (Some target) onto (λ e. ne cc);
    apart = λ e. (let c : Some target ≡ Some m.from.ino = sym onto ∙ e in ne cc);
  })

  renamed : (done : Done) (r : Renames s place old new done) → Clearing r.move done → IsRenamed s.tree done.state.tree.nodes old new
  renamed done r c =
      let m : Move = r.move in
      let e = entered c.less m done c.entering in
      let named = added_named c.less e.0 m.to m.from.ino m.name e.1 in
      subst (λ (x : Done). IsRenamed s.tree x.state.tree.nodes old new) (sym e.2) (record {
        at = m.from.at;
        name = m.from.name;
        ino = m.from.ino;
        new_at = m.to;
        new_name = m.name;
        leads = r.enters.leads;
        new_leads = r.leads;
        meant = r.enters.means;
        means = named.here;
        gone = named.others m.from.at m.from.name c.other ∙ c.clears.gone;
        others = λ q x away toward. named.others q x toward ∙ c.clears.others q x away toward;
        nodes = λ n away toward other. added_stays c.less e.0 m.to m.from.ino m.name n e.1 toward ∙ c.clears.nodes n away toward other;
        directories = λ n other. keeps_then s.tree.nodes c.less.tree.nodes e.0.tree.nodes n (c.clears.directories n other) (added_keeps c.less e.0 m.to m.from.ino m.name e.1 n);
        replaced = λ n node onto is. let p = c.clears.replaced n node onto is in added_stays c.less e.0 m.to m.from.ino m.name n e.1 p.0 ∙ p.1;
      })

  old_inode : (done : Done) (r : Renames s place old new done) → inode_of s.tree.nodes old ≡ Ok r.move.from.ino
  old_inode done r =
      let nodes : Nodes = s.tree.nodes in
      inode_at nodes nodes old r.move.from.at r.move.from.name r.enters.leads r.enters.leads.walked ∙ walk_on nodes r.move.from.at r.move.from.name [] r.move.from.ino r.enters.means

  new_walk : (done : Done) (r : Renames s place old new done) → inode_of s.tree.nodes new ≡ walk s.tree.nodes r.move.to (r.move.name ∷ [])
  new_walk done r = inode_at s.tree.nodes s.tree.nodes new r.move.to r.move.name r.leads r.leads.walked

  pub rename_moves : (session : ℕ) (done : Done) → step s place session (call.Rename old new) ≡ Some done → done.reply ≡ say.Fine → inode_of s.tree.nodes new ≢ inode_of s.tree.nodes old
      → IsRenamed s.tree done.state.tree.nodes old new
  rename_moves session done h reply ne =
      let r = renames s place old new done (succeeded s (rename s place old new) done h (not_fine done.reply reply)) in
      elim (clearing r.move done r.enters.means r.onto) [
        | inl c ↦ renamed done r c
        | inr same ↦ absurd (ne (new_walk done r ∙ walk_on s.tree.nodes r.move.to r.move.name [] r.move.from.ino same.0 ∙ sym (old_inode done r)))
      ]

  not_onto : (done : Done) (r : Renames s place old new done) (o : Option ℕ) → lookup s.tree.nodes r.move.to r.move.name ≡ o → inode_of s.tree.nodes new ≡ inode_of s.tree.nodes old → o ≡ Some r.move.from.ino
  not_onto done r None onto same =
      let c : Err no.NoEnt ≡ Ok r.move.from.ino = sym (walk_absent s.tree.nodes r.move.to r.move.name r.directory r.directory_there onto) ∙ sym (new_walk done r) ∙ same ∙ old_inode done r in
      absurd cc
  not_onto done r (Some target) onto same =
      let c : ◌≡◌ {A = Maybe ℕ} (Ok target) (Ok r.move.from.ino) = sym (walk_on s.tree.nodes r.move.to r.move.name [] target onto) ∙ sym (new_walk done r) ∙ same ∙ old_inode done r in
      let e : target ≡ r.move.from.ino = cc in
      ap Some e

  pub rename_stays : (session : ℕ) (done : Done) → step s place session (call.Rename old new) ≡ Some done → done.reply ≡ say.Fine → inode_of s.tree.nodes new ≡ inode_of s.tree.nodes old → done.state ≡ s
  rename_stays session done h reply same =
      let r = renames s place old new done (succeeded s (rename s place old new) done h (not_fine done.reply reply)) in
      elim (clearing r.move done r.enters.means r.onto) [
        | inl c ↦ absurd (c.apart (not_onto done r (lookup s.tree.nodes r.move.to r.move.name) refl same))
        | inr stays ↦ ap (λ (x : Done). x.state) stays.1
      ]
