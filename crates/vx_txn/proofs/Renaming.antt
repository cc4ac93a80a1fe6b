-- An entry that moves.
use Rattle.std.proofs.Common.{◌≡◌, ◌≢◌, ℕ, Bool, true, false, not, cond, List, [], ◌∷◌, ◌++◌, length, Option, Some, None, Ok, Err, inl, inr, refl, sym, ◌∙◌, ap, subst}
use Rattle.std.specs.Prelude.{◌==◌, nat_le}
use Rattle.std.specs.Option.{option_map}
use Rattle.std.proofs.lemmas.Bool.{cases_eq, eqb-true}
use Rattle.std.proofs.lemmas.Option.{same_Some}
use Rattle.std.specs.Ordering.{nat_cmp, eq_by_cmp, is_eq}
use Rattle.std.specs.Cmp.{tied_itself}
use Rattle.std.specs.Cmp.Lexicographic.{slice_cmp, nat_list_cmp_total}
use Rattle.std.specs.FinMap as map
use Rattle.vx_base.specs.declared.kind.FileKind.{FileKind}
use Rattle.vx_base.specs.declared.kind.FileKind.TheVariants as kind
use Rattle.vx_base.specs.declared.refusal.Refusal.{Refusal}
use Rattle.vx_base.specs.declared.refusal.Refusal.TheVariants as no
use Rattle.vx_base.specs.Paths.{FileName}
use Rattle.vx_model.specs.Outcome.{Maybe, unless, need, ◌>>=◌}
use Rattle.vx_model.specs.Tree.{Nodes, Node, File, Directory, IsFile, IsDirectory}
use Rattle.vx_model.specs.State.{State}
use Rattle.vx_model.specs.Walks.{root, walk, node_at, directory_at, file_at, step_to}
use Rattle.vx_model.specs.Edits.{add_name, remove_name, without_name, drop_node}
use Rattle.vx_model.specs.Removing.{fine, is_last, unlinked}
use Rattle.vx_model.specs.Entering.{Entry, entry_at}
use Rattle.vx_model.specs.Paths.{PathEnd, path_end, path_end_from}
use Rattle.vx_model.specs.Moving.{Move, enter, cleared, replace_by, replace_file, replace_directory, move_onto, move_into, move_node, move_to, move_entry, move_ends, rename_along, is_below}
use Rattle.vx_model.specs.LaidOut.{IsLaidOut}
use Rattle.vx_txn.specs.declared.meta.Meta.{Meta}
use Rattle.vx_dir.specs.Directories.{Directory as Names}
use Rattle.vx_txn.specs.Directories.{DirectoryValue, without}
use Rattle.vx_txn.specs.Metas.{IsUnchanged, Stands, directory_of}
use Rattle.vx_txn.specs.Removals.{unnamed, IsRootUsed, entry_of}
use Rattle.vx_txn.specs.Renames.{IsNamesOf, kind_of, replaceable, put_over, move_along}
use Rattle.vx_txn.proofs.Lookups.{IsWithout, IsStep, directory_here, removed_here, removed_other, node_directory, directory_node, file_node, held_file, apart, some_name, step_of, end_of, entry_found, entry_refused}
use Rattle.vx_txn.proofs.Moves.{added_dropped, added_unlinked, room_still}

abbrev allowed : Maybe (Unit {0})
allowed = Ok tt

-- ---- what is left of a directory

cond_none : (b : Bool) (o : Option ℕ) → o ≡ None → cond b None o ≡ None
cond_none true o is = refl
cond_none false o is = is

-- a directory without a name stays so
pub removed_without : (s : State) (a : ℕ) (x : FileName) (n : ℕ) (name : FileName) → IsWithout s.tree.nodes n name → IsWithout (remove_name s a x).tree.nodes n name
removed_without s a x n name w = elim (cases_eq n a) [
  | inl here ↦ record {
    directory = record w.directory { entries = map.remove w.directory.entries x };
    found = subst (λ (k : ℕ). map.get (remove_name s k x).tree.nodes n ≡ Some (without_name w.directory x)) here (removed_here s n x w.directory (node_directory s.tree.nodes n w.directory w.found));
    absent = map.get-remove nat_list_cmp_total w.directory.entries x name ∙ cond_none (eq_by_cmp (slice_cmp nat_cmp) name x) (map.get w.directory.entries name) w.absent;
  }
  | inr other ↦ record { directory = w.directory; found = removed_other s a x n other ∙ w.found; absent = w.absent }
]

-- and what was a directory still is one
pub removed_directory : (s : State) (a : ℕ) (x : FileName) (n : ℕ) (d : Directory) → map.get s.tree.nodes n ≡ Some (IsDirectory d) → (e : Directory) × (map.get (remove_name s a x).tree.nodes n ≡ Some (IsDirectory e))
removed_directory s a x n d found = elim (cases_eq n a) [
  | inl here ↦ (
    record d { entries = map.remove d.entries x },
    subst (λ (k : ℕ). map.get (remove_name s k x).tree.nodes n ≡ Some (without_name d x)) here (removed_here s n x d (node_directory s.tree.nodes n d found)),
  )
  | inr other ↦ (d, removed_other s a x n other ∙ found)
]

-- a name that was removed is not there
pub removed_name : (s : State) (n : ℕ) (name : FileName) (d : Directory) → map.get s.tree.nodes n ≡ Some (IsDirectory d) → IsWithout (remove_name s n name).tree.nodes n name
removed_name s n name d found = record {
  directory = record d { entries = map.remove d.entries name };
  found = removed_here s n name d (node_directory s.tree.nodes n d found);
  absent = map.get-remove nat_list_cmp_total d.entries name name ∙ ap (λ b. cond b None (map.get d.entries name)) (ap is_eq (tied_itself nat_list_cmp_total name));
}

-- ---- what an entry replaces

pub added_unnamed : (s : State) (from : ℕ) (old : FileName) (at : ℕ) (name : FileName) (ino place t : ℕ) (node : Node) (d : Directory) → IsLaidOut s → at ≢ t → map.get s.tree.nodes at ≡ Some (IsDirectory d) → map.get d.entries name ≡ Some t
    → add_name (unnamed (remove_name (remove_name s from old) at name) place t node) at name ino ≡ (add_name (remove_name (remove_name s from old) at name) at name ino >>= (λ added. Ok (unnamed added place t node)))
added_unnamed s from old at name ino place t (IsFile f) d laid ne found has =
    added_unlinked (remove_name (remove_name s from old) at name) at name ino place t (nat_le f.nlink 1) f ne (room_still s at d name t laid found has from old ino)
added_unnamed s from old at name ino place t (IsDirectory e) d laid ne found has =
    added_dropped (remove_name (remove_name s from old) at name) at name ino place t ne (room_still s at d name t laid found has from old ino)

-- what may be replaced
pub record IsReplaced (s : State) (place : ℕ) (m : Move) (t : ℕ) (node : Node) : Type 0 where
  pub old : Node
  pub found : map.get s.tree.nodes t ≡ Some old
  pub is : replace_by s place m t node ≡ put_over s place m t old

file_ok : (m : Maybe File) → (m >>= (λ (f : File). allowed)) ≡ allowed → (f : File) × (m ≡ Ok f)
file_ok (Err why) is = absurd cc
file_ok (Ok f) is = (f, refl)

pub record IsEmpty (nodes : Nodes) (t : ℕ) : Type 0 where
  pub directory : Directory
  pub directory_is : directory_at nodes t ≡ Ok directory
  pub empty : (map.len directory.entries == 0) ≡ true

test_ok : (b : Bool) → unless b no.NotEmpty allowed ≡ allowed → b ≡ true
test_ok true is = refl
test_ok false is = absurd cc

empty_ok : (nodes : Nodes) (t : ℕ) (m : Maybe Directory) → directory_at nodes t ≡ m → (m >>= (λ (d : Directory). unless (map.len d.entries == 0) no.NotEmpty allowed)) ≡ allowed → IsEmpty nodes t
empty_ok nodes t (Err why) at is = absurd cc
empty_ok nodes t (Ok d) at is = record { directory = d; directory_is = at; empty = test_ok (map.len d.entries == 0) is }

pub replaced : (s : State) (place : ℕ) (m : Move) (t : ℕ) (node : Node) → ((f : File) → is_last s.tree t f ≡ nat_le f.nlink 1) → replaceable s.tree.nodes (kind_of node) t ≡ allowed → IsReplaced s place m t node
replaced s place m t (IsFile f) last may =
    let g = file_ok (file_at s.tree.nodes t) may in
    record {
      old = IsFile g.0;
      found = file_node s.tree.nodes t g.0 g.1;
      is = ap (λ (x : Maybe File). x >>= replace_file s place m t) g.1 ∙ ap (λ (b : Bool). enter (unlinked (cleared s m) place t b g.0) m) (last g.0);
    }
replaced s place m t (IsDirectory d) last may =
    let e = empty_ok s.tree.nodes t (directory_at s.tree.nodes t) refl may in
    record {
      old = IsDirectory e.directory;
      found = directory_node s.tree.nodes t e.directory e.directory_is;
      is = ap (λ (x : Maybe Directory). x >>= replace_directory s place m t) e.directory_is ∙ ap (λ b. unless b no.NotEmpty (enter (drop_node (cleared s m) place t) m)) e.empty;
    }

no_file : {B : Type 0} (m : Maybe File) (why : Refusal) (k : File → Maybe B) → (m >>= (λ (f : File). allowed)) ≡ Err why → (m >>= k) ≡ Err why
no_file (Err other) why k is = cc
no_file (Ok f) why k is = absurd cc

unless_err : {B : Type 0} (b : Bool) (why : Refusal) (rest : Maybe B) → unless b no.NotEmpty allowed ≡ Err why → unless b no.NotEmpty rest ≡ Err why
unless_err true why rest is = absurd cc
unless_err false why rest is = cc

no_empty : (s : State) (place : ℕ) (m : Move) (t : ℕ) (x : Maybe Directory) (why : Refusal) → (x >>= (λ (d : Directory). unless (map.len d.entries == 0) no.NotEmpty allowed)) ≡ Err why → (x >>= replace_directory s place m t) ≡ Err why
no_empty s place m t (Err other) why is = cc
no_empty s place m t (Ok d) why is = unless_err (map.len d.entries == 0) why (enter (drop_node (cleared s m) place t) m) is

pub not_replaced : (s : State) (place : ℕ) (m : Move) (t : ℕ) (node : Node) (why : Refusal) → replaceable s.tree.nodes (kind_of node) t ≡ Err why → replace_by s place m t node ≡ Err why
not_replaced s place m t (IsFile f) why refused = no_file (file_at s.tree.nodes t) why (replace_file s place m t) refused
not_replaced s place m t (IsDirectory d) why refused = no_empty s place m t (directory_at s.tree.nodes t) why refused

-- it is no directory that has a name
pub not_replaced_there : (nodes : Nodes) (k : FileKind) (t at : ℕ) (name : FileName) (ino : ℕ) → replaceable nodes k t ≡ allowed → IsStep nodes at name ino → t ≢ at
not_replaced_there nodes kind.File t at name ino may step =
    let g = file_ok (file_at nodes t) may in
    apart nodes t at g.0 step.directory (file_node nodes t g.0 g.1) step.found
not_replaced_there nodes kind.Directory t at name ino may step = λ same.
    let e = empty_ok nodes t (directory_at nodes t) refl may in
    let there : map.get nodes at ≡ Some (IsDirectory e.directory) = ap (map.get nodes) (sym same) ∙ directory_node nodes t e.directory e.directory_is in
    let found = step.found in
    let one : e.directory ≡ step.directory = cc in
    some_name e.directory name ino (ap (λ (d : Directory). map.get d.entries name) one ∙ step.entry) (eqb-true _ _ e.empty)

pub not_replaced_root : (s : State) (k : FileKind) (t : ℕ) → IsLaidOut s → IsRootUsed s.tree.nodes → replaceable s.tree.nodes k t ≡ allowed → t ≢ 2
not_replaced_root s kind.File t laid used may =
    let g = file_ok (file_at s.tree.nodes t) may in (held_file s t g.0 laid (file_node s.tree.nodes t g.0 g.1)).not_root
not_replaced_root s kind.Directory t laid used may = λ same.
    let e = empty_ok s.tree.nodes t (directory_at s.tree.nodes t) refl may in
    used e.directory (ap (directory_at s.tree.nodes) (sym same) ∙ e.directory_is) (eqb-true _ _ e.empty)

-- ---- what is put back

-- the directory of a step
pub found_there : (m : Meta) (s : State) → Stands m s → (at : ℕ) (name : FileName) (ino : ℕ) → step_to s.tree.nodes at name ≡ Ok ino → (d : DirectoryValue) × (directory_of m at ≡ Some d)
found_there m s stands at name ino step = let t = step_of s.tree.nodes at name ino step in directory_here m s stands at t.directory t.found

-- nothing but a directory has changed
pub record IsChangedAt (m k : Meta) (a : ℕ) : Type 0 where
  pub inodes : k.inodes ≡ m.inodes
  pub others : (n : ℕ) → n ≢ a → directory_of k n ≡ directory_of m n
  pub free : k.free ≡ m.free
  pub first : k.first ≡ m.first

-- what stands at the number is what stood there
pub back_once : (m a b k : Meta) (at : ℕ) → IsChangedAt m a at → IsUnchanged a b → IsChangedAt b k at → directory_of k at ≡ directory_of m at → IsUnchanged m k
back_once m a b k at removed same back here = record {
  inodes = back.inodes ∙ same.inodes ∙ removed.inodes;
  directories = λ n. elim (cases_eq n at) [
    | inl there ↦ subst (λ (x : ℕ). directory_of k x ≡ directory_of m x) (sym there) here
    | inr ne ↦ back.others n ne ∙ same.directories n ∙ removed.others n ne
  ];
  free = back.free ∙ same.free ∙ removed.free;
  first = back.first ∙ same.first ∙ removed.first;
}

-- there is a directory still, with the same pages and map blocks
pub record Keeps (m : Meta) (at : ℕ) (d : DirectoryValue) : Type 0 where
  pub now : DirectoryValue
  pub there : directory_of m at ≡ Some now
  pub maps : now.maps ≡ d.maps

pub keeps_own : (m : Meta) (at : ℕ) (d : DirectoryValue) → directory_of m at ≡ Some d → Keeps m at d
keeps_own m at d there = record { now = d; there = there; maps = refl }

pub keeps_removed : (m k : Meta) (at : ℕ) (name : FileName) (n : ℕ) (d : DirectoryValue) → ((e : DirectoryValue) → directory_of m at ≡ Some e → directory_of k at ≡ Some (without name e)) → ((q : ℕ) → q ≢ at → directory_of k q ≡ directory_of m q)
    → Keeps m n d → Keeps k n d
keeps_removed m k at name n d here others keeps = elim (cases_eq n at) [
  | inl same ↦ record {
    now = without name keeps.now;
    there = ap (directory_of k) same ∙ here keeps.now (ap (directory_of m) (sym same) ∙ keeps.there);
    maps = keeps.maps;
  }
  | inr other ↦ record { now = keeps.now; there = others n other ∙ keeps.there; maps = keeps.maps }
]

pub keeps_same : (m k : Meta) (n : ℕ) (d : DirectoryValue) → IsUnchanged m k → Keeps m n d → Keeps k n d
keeps_same m k n d same keeps = record { now = keeps.now; there = same.directories n ∙ keeps.there; maps = keeps.maps }

pub keeps_named : (m k : Meta) (at : ℕ) (names : Names) (n : ℕ) (d : DirectoryValue) → ((e : DirectoryValue) → directory_of m at ≡ Some e → directory_of k at ≡ Some (record e { names = names })) → ((q : ℕ) → q ≢ at → directory_of k q ≡ directory_of m q)
    → Keeps m n d → Keeps k n d
keeps_named m k at names n d here others keeps = elim (cases_eq n at) [
  | inl same ↦ record {
    now = record keeps.now { names = names };
    there = ap (directory_of k) same ∙ here keeps.now (ap (directory_of m) (sym same) ∙ keeps.there);
    maps = keeps.maps;
  }
  | inr other ↦ record { now = keeps.now; there = others n other ∙ keeps.there; maps = keeps.maps }
]

names_by : (o : Option DirectoryValue) (d : DirectoryValue) (before : Names) → IsNamesOf o before → o ≡ Some d → before ≡ d.names
names_by None d before are is = absurd are
names_by (Some e) d before are is = are ∙ ap (λ (x : DirectoryValue). x.names) (same_Some e d is)

-- its names are put back
pub names_back : (m b k : Meta) (at : ℕ) (d : DirectoryValue) (before : Names) → directory_of m at ≡ Some d → IsNamesOf (directory_of m at) before → Keeps b at d
    → ((e : DirectoryValue) → directory_of b at ≡ Some e → directory_of k at ≡ Some (record e { names = before })) → directory_of k at ≡ directory_of m at
names_back m b k at d before was are keeps back =
    let names : before ≡ d.names = names_by (directory_of m at) d before are was in
    back keeps.now keeps.there ∙ (λ i. Some (record { names = names i; maps = keeps.maps i })) ∙ sym was

-- two directories, or one twice: the later names are put back first
pub back_twice : (m a b c e k : Meta) (from to : ℕ) → IsChangedAt m a from → IsChangedAt a b to → IsUnchanged b c → IsChangedAt c e to → IsChangedAt e k from → directory_of k from ≡ directory_of m from
    → (to ≢ from → directory_of e to ≡ directory_of m to) → IsUnchanged m k
back_twice m a b c e k from to one two same three four here_from here_to = record {
  inodes = four.inodes ∙ three.inodes ∙ same.inodes ∙ two.inodes ∙ one.inodes;
  directories = λ n. elim (cases_eq n from) [
    | inl there ↦ subst (λ (x : ℕ). directory_of k x ≡ directory_of m x) (sym there) here_from
    | inr not_from ↦ four.others n not_from ∙ elim (cases_eq n to) [
      | inl there ↦ subst (λ (x : ℕ). directory_of e x ≡ directory_of m x) (sym there) (here_to (λ at. not_from (there ∙ at)))
      | inr not_to ↦ three.others n not_to ∙ same.directories n ∙ two.others n not_to ∙ one.others n not_from
    ]
  ];
  free = four.free ∙ three.free ∙ same.free ∙ two.free ∙ one.free;
  first = four.first ∙ three.first ∙ same.first ∙ two.first ∙ one.first;
}

-- ---- what decides

needed_none : (o : Option ℕ) (why : Refusal) → need o no.NoEnt ≡ Err why → o ≡ None
needed_none None why is = refl
needed_none (Some x) why is = absurd cc

pub no_step : (nodes : Nodes) (n : ℕ) (name : FileName) (d : Directory) (why : Refusal) → map.get nodes n ≡ Some (IsDirectory d) → step_to nodes n name ≡ Err why → map.get d.entries name ≡ None
no_step nodes n name d why found step =
    needed_none (map.get d.entries name) why (sym (ap (λ (m : Maybe Directory). m >>= (λ (e : Directory). need (map.get e.entries name) no.NoEnt)) (node_directory nodes n d found)) ∙ step)

pub step_entry : (nodes : Nodes) (n : ℕ) (name : FileName) (ino : ℕ) (d : Directory) → directory_at nodes n ≡ Ok d → step_to nodes n name ≡ Ok ino → map.get d.entries name ≡ Some ino
step_entry nodes n name ino d at step =
    let t = step_of nodes n name ino step in
    let there = directory_node nodes n d at in
    let found = t.found in
    let one : d ≡ t.directory = cc in
    ap (λ (e : Directory). map.get e.entries name) one ∙ t.entry

pub kind_is : (o : Option Node) (node : Node) (k : FileKind) → option_map kind_of o ≡ Some k → o ≡ Some node → kind_of node ≡ k
kind_is o node k is found = same_Some (kind_of node) k (sym (ap (option_map kind_of) found) ∙ is)

pub no_node : (o : Option Node) → option_map kind_of o ≡ None → o ≡ None
no_node None is = refl
no_node (Some node) is = absurd cc

pub record IsDirectoryAt (o : Option Node) : Type 0 where
  pub directory : Directory
  pub is : o ≡ Some (IsDirectory directory)

pub directory_kind : (o : Option Node) → option_map kind_of o ≡ Some kind.Directory → IsDirectoryAt o
directory_kind None is = absurd cc
directory_kind (Some (IsFile f)) is = absurd (let no_file : kind.File ≡ kind.Directory = same_Some kind.File kind.Directory is in cc)
directory_kind (Some (IsDirectory d)) is = record { directory = d; is = refl }

-- another inode stands there
pub onto : (s : State) (place : ℕ) (m : Move) (o : Option ℕ) (t : ℕ) → o ≡ Some t → (t == m.from.ino) ≡ false → move_onto s place m o ≡ replace_by s place m t m.node
onto s place m o t has other = ap (move_onto s place m) has ∙ ap (λ (b : Bool). cond b (Ok (fine s)) (replace_by s place m t m.node)) other

-- the inode itself stands there
pub onto_itself : (s : State) (place : ℕ) (m : Move) (o : Option ℕ) (t : ℕ) → o ≡ Some t → (t == m.from.ino) ≡ true → move_onto s place m o ≡ Ok (fine s)
onto_itself s place m o t has same = ap (move_onto s place m) has ∙ ap (λ (b : Bool). cond b (Ok (fine s)) (replace_by s place m t m.node)) same

pub to_directory : (s : State) (place : ℕ) (below : Bool) (from : Entry) (name : FileName) (to : ℕ) (d : Directory) (o : Option Node) → directory_at s.tree.nodes to ≡ Ok d → map.get s.tree.nodes from.ino ≡ o
    → move_to s place below from name to ≡ (need o no.NoEnt >>= move_node s place below from to name d)
to_directory s place below from name to d o at found =
    ap (λ (m : Maybe Directory). m >>= (λ (e : Directory). node_at s.tree.nodes from.ino >>= move_node s place below from to name e)) at
    ∙ ap (λ (x : Option Node). need x no.NoEnt >>= move_node s place below from to name d) found

pub into_itself : (s : State) (place : ℕ) (below : Bool) (from : Entry) (name : FileName) (to : ℕ) (d e : Directory) → below ≡ true → move_node s place below from to name d (IsDirectory e) ≡ Err no.IntoItself
into_itself s place below from name to d e is =
    ap (λ (b : Bool). unless (not b) no.IntoItself (move_into s place (record { from = from; node = IsDirectory e; to = to; name = name }) d)) is

pub not_into_itself : (s : State) (place : ℕ) (below : Bool) (from : Entry) (name : FileName) (to : ℕ) (d : Directory) (node : Node) → (kind_of node ≡ kind.Directory → below ≡ false)
    → move_node s place below from to name d node ≡ move_onto s place (record { from = from; node = node; to = to; name = name }) (map.get d.entries name)
not_into_itself s place below from name to d (IsFile f) may = refl
not_into_itself s place below from name to d (IsDirectory e) may =
    ap (λ (b : Bool). unless (not b) no.IntoItself (move_into s place (record { from = from; node = IsDirectory e; to = to; name = name }) d)) (may refl)

-- ---- both paths

pub record HasEnd (names : List FileName) : Type 0 where
  pub end : PathEnd
  pub is : path_end names ≡ Some end

pub some_end : (names : List FileName) → length names ≢ 0 → HasEnd names
some_end [] some = absurd (some refl)
some_end (first ∷ rest) some = record { end = path_end_from first rest; is = refl }

module _ (s : State) (place : ℕ) (old new above : List FileName) (name : FileName) (old_is : old ≡ above ++ name ∷ []) (e : HasEnd new) where
  ends : rename_along s place old new ≡ ((walk s.tree.nodes root above >>= entry_at s.tree.nodes name) >>= move_entry s place (is_below old new) e.end)
  ends =
      ap (λ (o : Option PathEnd). need o no.RootFixed >>= (λ (from : PathEnd). need (path_end new) no.RootFixed >>= move_ends s place (is_below old new) from)) (end_of old above name old_is)
      ∙ ap (λ (o : Option PathEnd). need o no.RootFixed >>= move_ends s place (is_below old new) (record { above = above; name = name })) e.is

  pub no_way : (why : Refusal) → walk s.tree.nodes root above ≡ Err why → rename_along s place old new ≡ Err why
  no_way why walked = ends ∙ ap (λ m. (m >>= entry_at s.tree.nodes name) >>= move_entry s place (is_below old new) e.end) walked

  pub no_entry : (at : ℕ) (why : Refusal) → walk s.tree.nodes root above ≡ Ok at → step_to s.tree.nodes at name ≡ Err why → rename_along s place old new ≡ Err why
  no_entry at why walked step =
      ends ∙ ap (λ m. (m >>= entry_at s.tree.nodes name) >>= move_entry s place (is_below old new) e.end) walked
      ∙ entry_refused s.tree.nodes at name why (move_entry s place (is_below old new) e.end) step

  pub entry_moves : (at ino : ℕ) → walk s.tree.nodes root above ≡ Ok at → step_to s.tree.nodes at name ≡ Ok ino → rename_along s place old new ≡ move_along s place (is_below old new) new (entry_of at name ino)
  entry_moves at ino walked step =
      ends ∙ ap (λ m. (m >>= entry_at s.tree.nodes name) >>= move_entry s place (is_below old new) e.end) walked
      ∙ entry_found s.tree.nodes at name ino (move_entry s place (is_below old new) e.end) step
      ∙ sym (ap (λ (o : Option PathEnd). need o no.RootFixed >>= (λ (end : PathEnd). move_entry s place (is_below old new) end (entry_of at name ino))) e.is)
