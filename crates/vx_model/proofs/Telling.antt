-- What stat and list tell.
use Rattle.std.proofs.Common.{◌≡◌, ℕ, ◌*◌, List, length, Some, Ok, Err, refl, sym, ap, ◌∙◌}
use Rattle.std.specs.Prelude.{Contains, IsSome, is_some, ◌↔◌}
use Rattle.std.specs.Cmp.{Equal-is}
use Rattle.std.specs.Ordering.{nat_cmp}
use Rattle.std.specs.Cmp.Lexicographic.{slice_cmp, nat_list_cmp_total}
use Rattle.std.specs.FinMap as map
use Rattle.std.proofs.lemmas.Cmp.{eq_by_cmp_equiv}
use Rattle.std.proofs.lemmas.Map.Views.{list_any-from_Contains, Contains-from_any}
use Rattle.vx_base.specs.Paths.{FileName}
use Rattle.vx_base.specs.declared.call.Call.TheVariants as call
use Rattle.vx_base.specs.declared.refusal.Refusal.{Refusal}
use Rattle.vx_base.specs.declared.refusal.Refusal.TheVariants as no
use Rattle.vx_base.specs.declared.reply.Reply.TheVariants as say
use Rattle.vx_model.specs.Outcome.{Maybe, ◌>>=◌, need}
use Rattle.vx_model.specs.Tree.{Nodes, Node, File, Directory, IsFile, IsDirectory}
use Rattle.vx_model.specs.State.{State, Done, settled}
use Rattle.vx_model.specs.Walks.{root, walk, names_of, inode_of, as_directory}
use Rattle.vx_model.specs.Naming.{stat, stat_reply, stat_at, list, list_at}
use Rattle.vx_model.specs.Step.{step}
use Rattle.vx_model.specs.NameLaws.{meaning_in, lookup, name_count, link_number, HasLinks}
use Rattle.vx_model.proofs.Lookups.{names_same}

-- a chain that begins with a path
along : (nodes : Nodes) (rest : ℕ → Maybe Done) (m : Maybe (List FileName)) → (m >>= (λ names. walk nodes root names >>= rest)) ≡ ((m >>= walk nodes root) >>= rest)
along nodes rest (Ok names) = refl
along nodes rest (Err why) = refl

pub answered_by : (s : State) (m n : Maybe Done) (done : Done) → Some (settled s m) ≡ Some done → m ≡ n → done.reply ≡ (settled s n).reply
answered_by s m n done h is = let e : settled s m ≡ done = cc in ap (λ (d : Done). d.reply) (sym e) ∙ ap (λ (c : Maybe Done). (settled s c).reply) is

module _ (s : State) (place session : ℕ) (path : List ℕ) (done : Done) where
  module _ (h : step s place session (call.Stat path) ≡ Some done) where
    stat_along : (m : Maybe ℕ) → inode_of s.tree.nodes path ≡ m → done.reply ≡ (settled s (m >>= stat_at s)).reply
    stat_along m is = answered_by s (stat s path) (m >>= stat_at s) done h (along s.tree.nodes (stat_at s) (names_of path) ∙ ap (λ (x : Maybe ℕ). x >>= stat_at s) is)

    pub stat_found : (ino : ℕ) (node : Node) → inode_of s.tree.nodes path ≡ Ok ino → map.get s.tree.nodes ino ≡ Some node → done.reply ≡ stat_reply ino node
    stat_found ino node is there = stat_along (Ok ino) is
        ∙ ap (λ o. (settled s (need o no.NoEnt >>= (λ (x : Node). Ok (record { state = s; reply = stat_reply ino x })))).reply) there

    pub stat_refused : (why : Refusal) → inode_of s.tree.nodes path ≡ Err why → done.reply ≡ say.Refused why
    stat_refused why is = stat_along (Err why) is

    pub stat_file : HasLinks s → (ino : ℕ) (f : File) → inode_of s.tree.nodes path ≡ Ok ino → map.get s.tree.nodes ino ≡ Some (IsFile f)
        → done.reply ≡ say.FileStat ino f.mode (name_count s.tree.nodes (128 * s.layout.units) ino) (length f.bytes)
    stat_file links ino f is there =
        let count : name_count s.tree.nodes (128 * s.layout.units) ino ≡ f.nlink = links.links ino ∙ ap (link_number ino) there in
        stat_found ino (IsFile f) is there ∙ ap (λ (n : ℕ). say.FileStat ino f.mode n (length f.bytes)) (sym count)

  module _ (h : step s place session (call.List path) ≡ Some done) where
    list_along : (m : Maybe ℕ) → inode_of s.tree.nodes path ≡ m → done.reply ≡ (settled s (m >>= list_at s)).reply
    list_along m is = answered_by s (list s path) (m >>= list_at s) done h (along s.tree.nodes (list_at s) (names_of path) ∙ ap (λ (x : Maybe ℕ). x >>= list_at s) is)

    list_node : (ino : ℕ) (node : Node) → inode_of s.tree.nodes path ≡ Ok ino → map.get s.tree.nodes ino ≡ Some node
        → done.reply ≡ (settled s (as_directory node >>= (λ (d : Directory). Ok (record { state = s; reply = say.Listing (map.keys d.entries) })))).reply
    list_node ino node is there = list_along (Ok ino) is
        ∙ ap (λ o. (settled s ((need o no.NoEnt >>= as_directory) >>= (λ (d : Directory). Ok (record { state = s; reply = say.Listing (map.keys d.entries) })))).reply) there

    pub list_found : (ino : ℕ) (d : Directory) → inode_of s.tree.nodes path ≡ Ok ino → map.get s.tree.nodes ino ≡ Some (IsDirectory d) → done.reply ≡ say.Listing (map.keys d.entries)
    list_found ino d is there = list_node ino (IsDirectory d) is there

    pub list_file : (ino : ℕ) (f : File) → inode_of s.tree.nodes path ≡ Ok ino → map.get s.tree.nodes ino ≡ Some (IsFile f) → done.reply ≡ say.Refused no.NotDir
    list_file ino f is there = list_node ino (IsFile f) is there

    pub list_refused : (why : Refusal) → inode_of s.tree.nodes path ≡ Err why → done.reply ≡ say.Refused why
    list_refused why is = list_along (Err why) is

-- a directory's names are those that mean something
pub listed_means : (nodes : Nodes) (ino : ℕ) (d : Directory) → map.get nodes ino ≡ Some (IsDirectory d) → (x : FileName) → Contains (map.keys d.entries) x ↔ IsSome (lookup nodes ino x)
listed_means nodes ino d there x =
    let means : lookup nodes ino x ≡ map.get d.entries x = ap (meaning_in x) there in (
      λ listed. ap is_some means ∙ map.contains_key-keys d.entries x ∙ list_any-from_Contains (eq_by_cmp_equiv nat_list_cmp_total) x (map.keys d.entries) listed,
      λ some. Contains-from_any (λ a b tied. names_same a b ((Equal-is (slice_cmp nat_cmp a b)).0 tied)) x (map.keys d.entries) (sym (map.contains_key-keys d.entries x) ∙ ap is_some (sym means) ∙ some),
    )
