-- Each call keeps a state laid out, and its names legal and distinct.
use Rattle.std.proofs.Common.{◌≡◌, ◌≢◌, ℕ, ◌+◌, ◌-◌, ◌*◌, ◌<◌, ◌≤◌, Bool, true, false, cond, List, [], Option, Some, None, Ok, Err, refl, sym, ap, subst, ◌∙◌, arith}
use Rattle.std.specs.Prelude.{◌==◌, is_none, nat_le, nat_lt}
use Rattle.std.specs.FinMap as map
use Rattle.std.proofs.lemmas.Bool.{ltb-true}
use Rattle.vx_base.proofs.Maps.{at_other}
use Rattle.vx_base.specs.Paths.{FileName}
use Rattle.vx_base.specs.declared.call.Call.{Call}
use Rattle.vx_base.specs.declared.call.Call.TheVariants as call
use Rattle.vx_base.specs.declared.refusal.Refusal.{Refusal}
use Rattle.vx_base.specs.declared.refusal.Refusal.TheVariants as no
use Rattle.vx_base.specs.declared.reply.Reply.TheVariants as say
use Rattle.vx_sound.specs.Facts.{is_legal}
use Rattle.vx_model.specs.Outcome.{Maybe, unless, ◌>>=◌, need}
use Rattle.vx_model.specs.Handles.{is_open}
use Rattle.vx_model.specs.Tree.{Tree, Nodes, Node, File, Directory, IsFile, IsDirectory, lowest_unused, new_file, new_directory, no_attrs}
use Rattle.vx_model.specs.State.{State, Done, settled}
use Rattle.vx_model.specs.Paths.{PathEnd, path_end}
use Rattle.vx_model.specs.Walks.{root, walk, names_of, node_at, directory_at, file_at, as_file}
use Rattle.vx_model.specs.Entering.{Entry, entry_in, entry_at, entry_end, entry_along}
use Rattle.vx_model.specs.Edits.{with_name, add_name, remove_name, set_node, drop_node}
use Rattle.vx_model.specs.EditLaws.{EditLaws}
use Rattle.vx_model.specs.Making.{make_as, make_in, make_at, make_end, make_along, create, mkdir}
use Rattle.vx_model.specs.Removing.{fine, is_last, unlinked, unlink_file, unlink_entry, unlink_along, unlink, remove_empty, remove_directory, rmdir_along, rmdir}
use Rattle.vx_model.specs.Linking.{most_links, link_in, link_at, link_end, link_file, link_inode, link_along, link}
use Rattle.vx_model.specs.Moving.{is_below, Move, enter, cleared, replace_directory, replace_file, replace_by, move_onto, move_into, move_node, move_to, move_entry, move_ends, rename_along, rename}
use Rattle.vx_model.specs.Naming.{with_mode, list_at, list_along, list, stat_at, stat_along, stat, chmod_at, chmod_along, chmod}
use Rattle.vx_model.specs.Step.{is_of_names, step}
use Rattle.vx_model.specs.NameLaws.{meaning_in, lookup, HasLinks}
use Rattle.vx_model.specs.LaidOut.{HasNothing, IsPlain, IsPlainFile, IsClosed, IsLaidOut}
use Rattle.vx_model.proofs.Chains.{need_ok}
use Rattle.vx_model.proofs.EditKeeps.{file_same, nothing_same, node_held, nothing_held}
use Rattle.vx_model.proofs.NameEdits.{directory_there}
use Rattle.vx_wellformed.specs.WellFormed.{HasNames, HasMode}
use Rattle.vx_wellformed.proofs.Chains.{Always, bind, where_true, always_ok}
use Rattle.vx_wellformed.proofs.Legality.{names_legal, end_legal}
use Rattle.vx_wellformed.proofs.Naming.{not_root}
use Rattle.vx_wellformed.proofs.Edits.{IsWhole, IsAbsent, holds_file, closed_directory, absent_there, adds, added_whole, spares_then, removed_spares, IsLess, removed_less, dropped_less, unlinked_less, less_whole, itself, removes, drop_lessens, unlinked_absent}

file_is : (node : Node) (f : File) → as_file node ≡ Ok f → node ≡ IsFile f
file_is (IsFile x) f h = let e : x ≡ f = cc in ap IsFile e
file_is (IsDirectory d) f h = absurd cc

file_by : (o : Option Node) (f : File) → (need o no.NoEnt >>= as_file) ≡ Ok f → o ≡ Some (IsFile f)
file_by None f h = absurd cc
file_by (Some node) f h = ap Some (file_is node f h)

none_is : (o : Option ℕ) → is_none o ≡ true → o ≡ None
none_is None h = refl
none_is (Some n) h = absurd cc

-- ---- the entry at the end of a path

abbrev Means : Nodes → Entry → Type 0
Means nodes e = lookup nodes e.at e.name ≡ Some e.ino

end_means : (nodes : Nodes) (end : PathEnd) → Always (Means nodes) (entry_end nodes end)
end_means nodes end =
    bind (Means nodes) (walk nodes root end.above) (entry_at nodes end.name) (λ at walked.
    bind (Means nodes) (directory_at nodes at) (entry_in at end.name) (λ d found.
    bind (Means nodes) (need (map.get d.entries end.name) no.NoEnt) (λ ino. Ok (record { at = at; name = end.name; ino = ino })) (λ ino there.
    ap (meaning_in end.name) (directory_there nodes at d found) ∙ need_ok (map.get d.entries end.name) no.NoEnt ino there)))

along_means : (nodes : Nodes) (why : Refusal) (names : List FileName) → Always (Means nodes) (entry_along nodes why names)
along_means nodes why names = bind (Means nodes) (need (path_end names) why) (entry_end nodes) (λ end last. end_means nodes end)

-- what a call leaves: a state whose names are legal and distinct, and that is laid out if its mode fits
pub record Leaves (Plain Fits : Type 0) (s : State) : Type 0 where
  pub laid_out : Fits → IsLaidOut s
  pub plain : Plain → IsPlain s
  pub names : HasNames s.layout

leaves : (Plain Fits : Type 0) (s : State) → IsWhole Plain s → Leaves Plain Fits s
leaves Plain Fits s w = record { laid_out = λ fits. w.laid_out; plain = w.plain; names = w.names }

-- what is made of a new name
record IsMade (Plain : Type 0) (named : State) (ino : ℕ) : Type 0 where
  whole : IsWhole Plain named
  low : 3 ≤ ino
  high : ino < 128 * named.layout.units
  none : HasNothing named.layout ino
  unused : map.get named.tree.nodes ino ≡ None

module _ (laws : EditLaws) (closed : (t : Tree) (ino : ℕ) → is_open t ino ≡ false → IsClosed t ino) (last_name : (s : State) (ino : ℕ) (f : File) → IsPlain s → is_last s.tree ino f ≡ nat_le f.nlink 1)
    (unused_low : (units : ℕ) (nodes : Nodes) → 3 ≤ lowest_unused units nodes)
    (unused_free : (units : ℕ) (nodes : Nodes) → lowest_unused units nodes < 128 * units → map.get nodes (lowest_unused units nodes) ≡ None) (Plain : Type 0) (s : State) (w : IsWhole Plain s) (links : HasLinks s) where
  abbrev nodes : Nodes
  nodes = s.tree.nodes

  abbrev is : IsLaidOut s
  is = w.laid_out

  abbrev Keeps : Done → Type 0
  Keeps done = IsWhole Plain done.state

  -- ... if the call's mode fits an inode
  abbrev KeepsIf : ℕ → Done → Type 0
  KeepsIf mode done = Leaves Plain (mode ≤ 4095) done.state

  -- ---- create, mkdir

  abbrev new_ino : ℕ
  new_ino = lowest_unused s.layout.units nodes

  made : (at : ℕ) (name : FileName) (d : Directory) (named : State) → map.get nodes at ≡ Some (IsDirectory d) → is_legal name ≡ true → map.get d.entries name ≡ None → new_ino < 128 * s.layout.units
      → add_name s at name new_ino ≡ Ok named → IsMade Plain named new_ino
  made at name d named there legal absent low h =
      let a = adds s named at new_ino name h in
      let free = unused_free s.layout.units nodes low in
      let apart : new_ino ≢ at = λ e. (let c : None ≡ Some (IsDirectory d) = sym free ∙ ap (map.get nodes) e ∙ there in absurd cc) in
      record {
        whole = added_whole laws Plain s named at new_ino name w legal (absent_there s is at d name there absent) low h;
        low = unused_low s.layout.units nodes;
        high = subst (λ (u : ℕ). new_ino < 128 * u) (sym a.grows.units) low;
        none = nothing_same s.layout named.layout new_ino (a.grows.others new_ino apart) (nothing_held s is new_ino free);
        unused = ap (λ (ns : Nodes). map.get ns new_ino) a.nodes ∙ at_other nodes at (with_name a.directory name new_ino) new_ino apart ∙ free;
      }

  make_whole : (path : List ℕ) (node : Node) (mode : ℕ) → ((named : State) → mode ≤ 4095 → IsMade Plain named new_ino → IsLaidOut (set_node named new_ino node)) → ((named : State) → IsMade Plain named new_ino → Plain → IsPlain (set_node named new_ino node)) → Always (KeepsIf mode) (names_of path >>= make_along s node)
  make_whole path node mode sets plains =
      bind (KeepsIf mode) (names_of path) (make_along s node) (λ names parts.
      bind (KeepsIf mode) (need (path_end names) no.Exist) (make_end s node) (λ end last.
      bind (KeepsIf mode) (walk nodes root end.above) (make_at s end.name node) (λ at walked.
      bind (KeepsIf mode) (directory_at nodes at) (make_in s at end.name node) (λ d found.
      where_true (KeepsIf mode) (is_none (map.get d.entries end.name)) no.Exist (make_as s at end.name node new_ino) (λ absent.
      where_true (KeepsIf mode) (nat_lt new_ino (128 * s.layout.units)) (no.NoInodes (128 * s.layout.units - 2)) (add_name s at end.name new_ino >>= (λ named. Ok (record { state = set_node named new_ino node; reply = say.Made new_ino }))) (λ low.
      bind (KeepsIf mode) (add_name s at end.name new_ino) (λ named. Ok (record { state = set_node named new_ino node; reply = say.Made new_ino })) (λ named added.
      let m = made at end.name d named (directory_there nodes at d found) (end_legal names end (names_legal path names parts) (need_ok (path_end names) no.Exist end last)) (none_is (map.get d.entries end.name) absent)
      (ltb-true new_ino (128 * s.layout.units) low) added in
      record { laid_out = λ fits. sets named fits m; plain = plains named m; names = m.whole.names })))))))

  abbrev made_file : ℕ → File
  made_file mode = record { mode = mode; nlink = 1; attrs = no_attrs; bytes = [] }

  made_plain : (mode : ℕ) → IsPlainFile (made_file mode)
  made_plain mode = record { some_links = omega arith; attrs = refl; bytes = refl }

  create_whole : (path : List ℕ) (mode : ℕ) → Always (KeepsIf mode) (create s path mode)
  create_whole path mode = make_whole path (new_file mode) mode (λ named fits m.
      let low = m.low in
      laws.file_set named new_ino (made_file mode) m.whole.laid_out
      (laws.plain_file named.layout new_ino (made_file mode) fits (omega arith) (made_plain mode) m.none) (λ e. absurd (omega arith)) (omega arith) m.high)
      (λ named m p. laws.file_plain named new_ino (made_file mode) (m.whole.plain p) (made_plain mode) m.none)

  mkdir_whole : (path : List ℕ) (mode : ℕ) → Always (KeepsIf mode) (mkdir s path mode)
  mkdir_whole path mode = make_whole path (new_directory mode) mode (λ named fits m. let low = m.low in laws.directory_set named new_ino mode m.whole.laid_out fits (omega arith) m.high m.unused)
      (λ named m p. laws.directory_plain named new_ino mode (m.whole.plain p))

  -- ---- unlink, rmdir

  unlink_whole : (place : ℕ) (path : List ℕ) → Always Keeps (unlink s place path)
  unlink_whole place path =
      bind Keeps (names_of path) (unlink_along s place) (λ names parts.
      bind Keeps (entry_along nodes no.IsDir names) (unlink_entry s place) (λ e entered.
      bind Keeps (file_at nodes e.ino) (unlink_file s place e) (λ f found.
      let there = file_by (map.get nodes e.ino) f found in
      less_whole Plain s (unlinked (remove_name s e.at e.name) place e.ino (is_last s.tree e.ino f) f) w
      (unlinked_less laws closed last_name Plain s (remove_name s e.at e.name) place e.ino f (holds_file s is e.ino f there) (removed_spares s e.at e.ino e.name f there)
      (removed_less laws closed last_name Plain s s e.at e.name (itself Plain s w))))))

  rmdir_whole : (place : ℕ) (path : List ℕ) → Always Keeps (rmdir s place path)
  rmdir_whole place path =
      bind Keeps (names_of path) (rmdir_along s place) (λ names parts.
      bind Keeps (entry_along nodes no.RootFixed names) (remove_directory s place) (λ e entered.
      let means = always_ok (Means nodes) (entry_along nodes no.RootFixed names) e (along_means nodes no.RootFixed names) entered in
      bind Keeps (directory_at nodes e.ino) (remove_empty s place e) (λ d found.
      where_true Keeps (map.len d.entries == 0) no.NotEmpty (Ok (fine (drop_node (remove_name s e.at e.name) place e.ino))) (λ empty.
      less_whole Plain s (drop_node (remove_name s e.at e.name) place e.ino) w
      (dropped_less laws closed last_name Plain s (remove_name s e.at e.name) place e.ino (not_root s links is.has_root e.at e.name e.ino means) (closed_directory s is e.ino d (directory_there nodes e.ino d found))
      (removed_less laws closed last_name Plain s s e.at e.name (itself Plain s w)))))))

  -- ---- link

  raised : (f : File) → IsPlainFile f → IsPlainFile (record f { nlink = f.nlink + 1 })
  raised f plain = record { some_links = omega arith; attrs = plain.attrs; bytes = plain.bytes }

  linked : (at ino : ℕ) (name : FileName) (f : File) (d : Directory) (named : State) → map.get nodes ino ≡ Some (IsFile f) → map.get nodes at ≡ Some (IsDirectory d) → is_legal name ≡ true → map.get d.entries name ≡ None → f.nlink < 32767
      → add_name s at name ino ≡ Ok named → IsWhole Plain (set_node named ino (IsFile (record f { nlink = f.nlink + 1 })))
  linked at ino name f d named file there legal absent few h =
      let a = adds s named at ino name h in
      let has = holds_file s is ino f file in
      let apart : ino ≢ at = λ e. (let c : Some (IsFile f) ≡ Some (IsDirectory d) = sym file ∙ ap (map.get nodes) e ∙ there in absurd cc) in
      let whole = added_whole laws Plain s named at ino name w legal (absent_there s is at d name there absent) has.high h in
      let more : File = record f { nlink = f.nlink + 1 } in
      let same = a.grows.others ino apart in
      let still : map.get named.tree.nodes ino ≡ Some (IsFile f) = ap (λ (ns : Nodes). map.get ns ino) a.nodes ∙ at_other nodes at (with_name a.directory name ino) ino apart ∙ file in
      record {
        laid_out = laws.file_set named ino more whole.laid_out (laws.links_set named.layout ino (f.nlink + 1) f (file_same s.layout named.layout ino f same has.file) (omega (arith, few))) has.not_root has.low
            (subst (λ (u : ℕ). ino < 128 * u) (sym a.grows.units) has.high);
        plain = λ p. (let both = (whole.plain p).files ino f still in laws.file_plain named ino more (whole.plain p) (raised f both.0) both.1);
        names = whole.names;
      }

  link_whole : (old new : List ℕ) → Always Keeps (link s old new)
  link_whole old new =
      bind Keeps (names_of old) (λ from. names_of new >>= link_along s from) (λ from parts.
      bind Keeps (names_of new) (link_along s from) (λ to parts_to.
      bind Keeps (walk nodes root from) (link_inode s to) (λ ino walked.
      bind Keeps (file_at nodes ino) (link_file s to ino) (λ f file.
      bind Keeps (need (path_end to) no.Exist) (link_end s ino f) (λ end last.
      bind Keeps (walk nodes root end.above) (link_at s ino f end.name) (λ at walked_to.
      bind Keeps (directory_at nodes at) (link_in s ino f at end.name) (λ d found.
      where_true Keeps (is_none (map.get d.entries end.name)) no.Exist
      (unless (nat_lt f.nlink most_links) (no.TooManyLinks f.nlink) (add_name s at end.name ino >>= (λ named. Ok (fine (set_node named ino (IsFile (record f { nlink = f.nlink + 1 }))))))) (λ absent.
      where_true Keeps (nat_lt f.nlink most_links) (no.TooManyLinks f.nlink) (add_name s at end.name ino >>= (λ named. Ok (fine (set_node named ino (IsFile (record f { nlink = f.nlink + 1 })))))) (λ few.
      bind Keeps (add_name s at end.name ino) (λ named. Ok (fine (set_node named ino (IsFile (record f { nlink = f.nlink + 1 }))))) (λ named added.
      linked at ino end.name f d named (file_by (map.get nodes ino) f file) (directory_there nodes at d found) (end_legal to end (names_legal new to parts_to) (need_ok (path_end to) no.Exist end last))
      (none_is (map.get d.entries end.name) absent) (ltb-true f.nlink most_links few) added))))))))))

  -- ---- chmod

  chmod_whole : (path : List ℕ) (mode : ℕ) → Always (KeepsIf mode) (chmod s path mode)
  chmod_whole path mode =
      bind (KeepsIf mode) (names_of path) (chmod_along s mode) (λ names parts.
      bind (KeepsIf mode) (walk nodes root names) (chmod_at s mode) (λ ino walked.
      bind (KeepsIf mode) (node_at nodes ino) (λ node. Ok (fine (set_node s ino (with_mode mode node)))) (λ node found.
      record {
        laid_out = λ fits. laws.mode_set s ino mode node is fits (need_ok (map.get nodes ino) no.NoEnt node found);
        plain = λ p. laws.mode_plain s ino mode node (w.plain p) (need_ok (map.get nodes ino) no.NoEnt node found);
        names = w.names;
      })))

  -- ---- stat, list

  stat_whole : (path : List ℕ) → Always Keeps (stat s path)
  stat_whole path =
      bind Keeps (names_of path) (stat_along s) (λ names parts.
      bind Keeps (walk nodes root names) (stat_at s) (λ ino walked.
      bind Keeps (node_at nodes ino) _ (λ node found. w)))

  list_whole : (path : List ℕ) → Always Keeps (list s path)
  list_whole path =
      bind Keeps (names_of path) (list_along s) (λ names parts.
      bind Keeps (walk nodes root names) (list_at s) (λ ino walked.
      bind Keeps (directory_at nodes ino) _ (λ d found. w)))

  -- ---- rename

  module _ (place : ℕ) (m : Move) (d : Directory) (there : map.get nodes m.to ≡ Some (IsDirectory d)) (legal : is_legal m.name ≡ true) (low : m.from.ino < 128 * s.layout.units) where
    enter_whole : (less : State) → IsLess Plain s less → IsAbsent less m.to m.name → Always Keeps (enter less m)
    enter_whole less l absent =
        bind Keeps (add_name less m.to m.name m.from.ino) (λ moved. Ok (fine moved)) (λ moved added.
        added_whole laws Plain less moved m.to m.from.ino m.name (less_whole Plain s less w l) legal absent (subst (λ (u : ℕ). m.from.ino < 128 * u) (sym l.lessens.units) low) added)

    taken_less : IsLess Plain s (remove_name s m.from.at m.from.name)
    taken_less = removed_less laws closed last_name Plain s s m.from.at m.from.name (itself Plain s w)

    cleared_less : IsLess Plain s (cleared s m)
    cleared_less = removed_less laws closed last_name Plain s (remove_name s m.from.at m.from.name) m.to m.name taken_less

    cleared_absent : IsAbsent (cleared s m) m.to m.name
    cleared_absent = (removes (remove_name s m.from.at m.from.name) m.to m.name taken_less.laid_out).gone

    -- what replaces an inode
    replace_whole : (target : ℕ) (node : Node) → map.get d.entries m.name ≡ Some target → Always Keeps (replace_by s place m target node)
    replace_whole target (IsDirectory moved) means =
        bind Keeps (directory_at nodes target) (replace_directory s place m target) (λ old found.
        where_true Keeps (map.len old.entries == 0) no.NotEmpty (enter (drop_node (cleared s m) place target) m) (λ empty.
        let apart = not_root s links is.has_root m.to m.name target (ap (meaning_in m.name) there ∙ means) in
        let less = dropped_less laws closed last_name Plain s (cleared s m) place target apart (closed_directory s is target old (directory_there nodes target old found)) cleared_less in
        enter_whole (drop_node (cleared s m) place target) less ((drop_lessens (cleared s m) place target).absent m.to m.name cleared_absent)))
    replace_whole target (IsFile moved) means =
        bind Keeps (file_at nodes target) (replace_file s place m target) (λ f found.
        let was = file_by (map.get nodes target) f found in
        let last = is_last s.tree target f in
        let taken_spares = removed_spares s m.from.at target m.from.name f was in
        let spares = spares_then s (remove_name s m.from.at m.from.name) (cleared s m) target taken_spares (removed_spares (remove_name s m.from.at m.from.name) m.to target m.name f (taken_spares.node ∙ was)) in
        let less = unlinked_less laws closed last_name Plain s (cleared s m) place target f (holds_file s is target f was) spares cleared_less in
        enter_whole (unlinked (cleared s m) place target last f) less (unlinked_absent (cleared s m) place target last f m.to m.name cleared_absent))

    onto_by : (target : ℕ) (t : Bool) → map.get d.entries m.name ≡ Some target → Always Keeps (cond t (Ok (fine s)) (replace_by s place m target m.node))
    onto_by target true means = w
    onto_by target false means = replace_whole target m.node means

    onto_whole : (o : Option ℕ) → map.get d.entries m.name ≡ o → Always Keeps (move_onto s place m o)
    onto_whole None means = enter_whole (remove_name s m.from.at m.from.name) taken_less (taken_less.lessens.absent m.to m.name (absent_there s is m.to d m.name there means))
    onto_whole (Some target) means = onto_by target (target == m.from.ino) means

  rename_whole : (place : ℕ) (old new : List ℕ) → Always Keeps (rename s place old new)
  rename_whole place old new =
      bind Keeps (names_of old) (λ from. names_of new >>= rename_along s place from) (λ from parts.
      bind Keeps (names_of new) (rename_along s place from) (λ to parts_to.
      bind Keeps (need (path_end from) no.RootFixed) (λ end. need (path_end to) no.RootFixed >>= move_ends s place (is_below from to) end) (λ end last.
      bind Keeps (need (path_end to) no.RootFixed) (move_ends s place (is_below from to) end) (λ end_to last_to.
      bind Keeps (entry_end nodes end) (move_entry s place (is_below from to) end_to) (λ e entered.
      bind Keeps (walk nodes root end_to.above) (move_to s place (is_below from to) e end_to.name) (λ at walked.
      bind Keeps (directory_at nodes at) (λ d. node_at nodes e.ino >>= move_node s place (is_below from to) e at end_to.name d) (λ d found.
      bind Keeps (node_at nodes e.ino) (move_node s place (is_below from to) e at end_to.name d) (λ node node_found.
      let m : Move = record { from = e; node = node; to = at; name = end_to.name } in
      let low = (node_held s is e.ino node (need_ok (map.get nodes e.ino) no.NoEnt node node_found)).2 in
      where_true Keeps _ no.IntoItself (move_into s place m d) (λ allowed.
      onto_whole place m d (directory_there nodes at d found) (end_legal to end_to (names_legal new to parts_to) (need_ok (path_end to) no.RootFixed end_to last_to)) low (map.get d.entries end_to.name) refl)))))))))

  -- ---- all of them

  settled_leaves : (Fits : Type 0) (m : Maybe Done) (done : Done) → Always (λ (x : Done). Leaves Plain Fits x.state) m → Some (settled s m) ≡ Some done → Leaves Plain Fits done.state
  settled_leaves Fits (Ok x) done h e = let same : x ≡ done = cc in subst (λ (y : Done). Leaves Plain Fits y.state) same h
  settled_leaves Fits (Err why) done h e =
      let same : ◌≡◌ {A = Done} (record { state = s; reply = say.Refused why }) done = cc in
      subst (λ (y : Done). Leaves Plain Fits y.state) same (leaves Plain Fits s w)

  always_leaves : (m : Maybe Done) → Always Keeps m → Always (λ (x : Done). Leaves Plain (Unit {0}) x.state) m
  always_leaves (Ok x) h = leaves Plain (Unit {0}) x.state h
  always_leaves (Err why) h = tt

  settled_whole : (m : Maybe Done) (done : Done) → Always Keeps m → Some (settled s m) ≡ Some done → Leaves Plain (Unit {0}) done.state
  settled_whole m done h e = settled_leaves (Unit {0}) m done (always_leaves m h) e

  fine_whole : (done : Done) → Some (fine s) ≡ Some done → Leaves Plain (Unit {0}) done.state
  fine_whole done e = let same : fine s ≡ done = cc in subst (λ (y : Done). Leaves Plain (Unit {0}) y.state) same (leaves Plain (Unit {0}) s w)

  pub step_leaves : (place session : ℕ) (c : Call) (done : Done) → is_of_names c ≡ true → step s place session c ≡ Some done → Leaves Plain (HasMode c) done.state
  step_leaves place session (call.Create path mode) done names h = settled_leaves (mode ≤ 4095) (create s path mode) done (create_whole path mode) h
  step_leaves place session (call.Mkdir path mode) done names h = settled_leaves (mode ≤ 4095) (mkdir s path mode) done (mkdir_whole path mode) h
  step_leaves place session (call.Unlink path) done names h = settled_whole (unlink s place path) done (unlink_whole place path) h
  step_leaves place session (call.Rmdir path) done names h = settled_whole (rmdir s place path) done (rmdir_whole place path) h
  step_leaves place session (call.Link old new) done names h = settled_whole (link s old new) done (link_whole old new) h
  step_leaves place session (call.Rename old new) done names h = settled_whole (rename s place old new) done (rename_whole place old new) h
  step_leaves place session (call.Chmod path mode) done names h = settled_leaves (mode ≤ 4095) (chmod s path mode) done (chmod_whole path mode) h
  step_leaves place session (call.Stat path) done names h = settled_whole (stat s path) done (stat_whole path) h
  step_leaves place session (call.List path) done names h = settled_whole (list s path) done (list_whole path) h
  step_leaves place session call.Sync done names h = fine_whole done h
  step_leaves place session call.Tick done names h = fine_whole done h
  step_leaves place session (call.After other lines) done names h = fine_whole done h
  step_leaves place session call.Stop done names h = fine_whole done h
  step_leaves place session _ done names h = absurd cc
