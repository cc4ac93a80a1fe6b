-- When a rename is refused as one into itself.
use Rattle.std.proofs.Common.{◌≡◌, ℕ, zero, suc, ◌+◌, ◌-◌, ◌*◌, Bool, true, false, cond, List, [], ◌∷◌, ◌++◌, length, Option, Some, None, Ok, Err, refl, sym, ap, ◌∙◌}
use Rattle.std.specs.Prelude.{◌==◌, ◌&&◌, not, nat_le, bytes_eq}
use Rattle.std.specs.FinMap as map
use Rattle.std.proofs.lemmas.Bool.{and_parts}
use Rattle.std.proofs.lemmas.Option.{same_Some}
use Rattle.std.proofs.lemmas.List.{append_assoc}
use Rattle.std.proofs.lemmas.Slice.Eq.{bytes_eq-Decides}
use Rattle.vx_base.specs.Paths.{FileName, split}
use Rattle.vx_base.specs.declared.call.Call.TheVariants as call
use Rattle.vx_base.specs.declared.inode.DirEntry.{DirEntry}
use Rattle.vx_base.specs.declared.refusal.Refusal.{Refusal}
use Rattle.vx_base.specs.declared.refusal.Refusal.TheVariants as no
use Rattle.vx_base.specs.declared.reply.Reply.TheVariants as say
use Rattle.vx_base.specs.declared.kind.Kind.{Kind}
use Rattle.vx_base.specs.declared.kind.Kind.TheVariants.{Data}
use Rattle.vx_extents.specs.Extents.{mapped_at}
use Rattle.vx_space.specs.Space.{Space, no_space, extents_in, maps_needed, most_extents}
use Rattle.vx_space.specs.Placing.{Filling, Request, each_page, group_length, place_chain, place_group, place_maps, place_missing, place_page, takes_group, with_data, write_page}
use Rattle.vx_model.specs.Outcome.{Maybe, unless, ◌>>=◌, need}
use Rattle.vx_model.specs.Tree.{Nodes, Node, Directory, IsFile, IsDirectory}
use Rattle.vx_model.specs.Layout.{Layout, DirectoryBlock, blocks_at, add_entry, filled_or_new, with_entry, with_last, directory_filling, directory_request, next_block}
use Rattle.vx_model.specs.State.{State, Done, settled}
use Rattle.vx_model.specs.Paths.{PathEnd, path_end_from, path_end}
use Rattle.vx_model.specs.Walks.{root, walk, names_of, node_at, directory_at, file_at, as_directory, as_file, step_to}
use Rattle.vx_model.specs.Entering.{Entry, entry_in, entry_at, entry_end}
use Rattle.vx_model.specs.Edits.{with_nodes, with_name, add_name, add_name_in, remove_name, drop_node}
use Rattle.vx_model.specs.Removing.{fine, is_last, unlinked}
use Rattle.vx_model.specs.Moving.{begins_with, is_below, is_directory, Move, enter, cleared, replace_directory, replace_file, replace_by, move_onto, move_into, move_node, move_to, move_entry, move_ends, rename_along, rename}
use Rattle.vx_model.specs.Step.{step}
use Rattle.vx_model.specs.NameLaws.{meaning_in, HasLinks, GoesIntoItself}
use Rattle.vx_model.proofs.Lookups.{walk_first, walk_append, directory_ok, at_directory, leads_to}
use Rattle.vx_model.proofs.Successes.{Enters, enters}
use Rattle.vx_model.proofs.Chains.{always_ok, need_ok}
use Rattle.vx_model.proofs.Loops.{same_path}
use Rattle.vx_model.proofs.NameChanges.{named_directory}
use Rattle.vx_model.proofs.Replies.{Answers, rename_answers}
use Rattle.vx_model.proofs.Telling.{answered_by}
use Rattle.vx_model.proofs.Walking.{last_of, walk_push, longer_below}

-- ---- refusals of another kind

abbrev is_into : Refusal → Bool
is_into no.IntoItself = true
is_into _ = false

-- it is not refused as one into itself
abbrev Spares : {A : Type 0} → Maybe A → Type 0
Spares (Ok x) = Unit {0}
Spares (Err why) = is_into why ≡ false

spares_bind : {A B : Type 0} (m : Maybe A) (rest : A → Maybe B) → Spares m → ((x : A) → Spares (rest x)) → Spares (m >>= rest)
spares_bind (Ok x) rest first h = h x
spares_bind (Err why) rest first h = first

spares_unless : {A : Type 0} (b : Bool) (why : Refusal) (rest : Maybe A) → is_into why ≡ false → Spares rest → Spares (unless b why rest)
spares_unless true why rest other h = h
spares_unless false why rest other h = other

spares_need : {A : Type 0} (o : Option A) (why : Refusal) → is_into why ≡ false → Spares (need o why)
spares_need None why other = other
spares_need (Some x) why other = tt

-- the chain goes on where it does not end so here
into_on : {A B : Type 0} (m : Maybe A) (rest : A → Maybe B) → Spares m → (m >>= rest) ≡ Err no.IntoItself → (x : A) × (m ≡ Ok x) × (rest x ≡ Err no.IntoItself)
into_on (Ok x) rest spares h = (x, refl, h)
into_on (Err why) rest spares h =
    let e : why ≡ no.IntoItself = cc in
    let wrong : true ≡ false = ap is_into (sym e) ∙ spares in absurd cc

not_spared : {A : Type 0} (m : Maybe A) → Spares m → m ≡ Err no.IntoItself → ⊥
not_spared (Ok x) spares h = cc
not_spared (Err why) spares h =
    let e : why ≡ no.IntoItself = cc in
    let wrong : true ≡ false = ap is_into (sym e) ∙ spares in cc

spares_as_directory : (node : Node) → Spares (as_directory node)
spares_as_directory (IsDirectory d) = tt
spares_as_directory (IsFile f) = refl

spares_as_file : (node : Node) → Spares (as_file node)
spares_as_file (IsFile f) = tt
spares_as_file (IsDirectory d) = refl

spares_node : (nodes : Nodes) (ino : ℕ) → Spares (node_at nodes ino)
spares_node nodes ino = spares_need (map.get nodes ino) no.NoEnt refl

spares_directory : (nodes : Nodes) (ino : ℕ) → Spares (directory_at nodes ino)
spares_directory nodes ino = spares_bind (node_at nodes ino) as_directory (spares_node nodes ino) spares_as_directory

spares_file : (nodes : Nodes) (ino : ℕ) → Spares (file_at nodes ino)
spares_file nodes ino = spares_bind (node_at nodes ino) as_file (spares_node nodes ino) spares_as_file

spares_walk : (nodes : Nodes) (ino : ℕ) (names : List FileName) → Spares (walk nodes ino names)
spares_walk nodes ino [] = tt
spares_walk nodes ino (name ∷ rest) = spares_bind (step_to nodes ino name) (λ next. walk nodes next rest)
    (spares_bind (directory_at nodes ino) (λ d. need (map.get d.entries name) no.NoEnt) (spares_directory nodes ino) (λ d. spares_need (map.get d.entries name) no.NoEnt refl))
    (λ next. spares_walk nodes next rest)

spares_entry : (nodes : Nodes) (end : PathEnd) → Spares (entry_end nodes end)
spares_entry nodes end = spares_bind (walk nodes root end.above) (entry_at nodes end.name) (spares_walk nodes root end.above)
    (λ at. spares_bind (directory_at nodes at) (entry_in at end.name) (spares_directory nodes at)
    (λ d. spares_bind (need (map.get d.entries end.name) no.NoEnt) (λ ino. Ok (record { at = at; name = end.name; ino = ino })) (spares_need (map.get d.entries end.name) no.NoEnt refl) (λ ino. tt)))

-- ---- placing is refused for want of blocks or of room in the map

spares_one : (r : Request) (kind : Kind) (p : ℕ) (f : Filling) (t : Bool)
    → Spares (cond t (need (place_group r.volume r.attrs p f) (no.NoRun (group_length r.attrs.fixed p) r.longest)) (need (place_page r.volume r.first kind p f) (no.NoSpace r.need r.free)))
spares_one r kind p f true = spares_need (place_group r.volume r.attrs p f) (no.NoRun (group_length r.attrs.fixed p) r.longest) refl
spares_one r kind p f false = spares_need (place_page r.volume r.first kind p f) (no.NoSpace r.need r.free) refl

spares_missing : (r : Request) (kind : Kind) (p : ℕ) (f : Filling) (o : Option (ℕ × Kind)) → Spares (place_missing r kind p f o)
spares_missing r kind p f None = spares_one r kind p f (takes_group r.attrs f.pages p)
spares_missing r kind p f (Some m) = tt

spares_pages : (r : Request) (n p : ℕ) (f : Filling) → Spares (each_page (write_page r) n p f)
spares_pages r zero p f = tt
spares_pages r (suc n) p f = spares_bind (write_page r p f) (each_page (write_page r) n (p + 1))
    (spares_bind (place_missing r Data p f (mapped_at f.pages p)) (λ placed. Ok (with_data p placed)) (spares_missing r Data p f (mapped_at f.pages p)) (λ placed. tt))
    (λ g. spares_pages r n (p + 1) g)

spares_chain : (r : Request) (x : Space) (f : Filling) → Spares (place_chain r x f)
spares_chain r x f =
    let all : Space = record x { present = f.pages } in
    spares_unless (nat_le (extents_in all) most_extents) (no.MapFull (extents_in all)) (need (place_maps r.volume (maps_needed all - length f.maps) f) (no.NoSpace (r.need + (maps_needed all - length f.maps)) r.free)) refl
    (spares_need (place_maps r.volume (maps_needed all - length f.maps) f) (no.NoSpace (r.need + (maps_needed all - length f.maps)) r.free) refl)

spares_next : (l : Layout) (first ino : ℕ) → Spares (next_block l first ino)
unfolding next_block
spares_next l first ino = spares_bind (each_page (write_page (directory_request l first)) 1 (length (blocks_at l ino)) (directory_filling l ino)) (place_chain (directory_request l first) no_space)
    (spares_pages (directory_request l first) 1 (length (blocks_at l ino)) (directory_filling l ino)) (spares_chain (directory_request l first) no_space)

spares_filled : (l : Layout) (first ino : ℕ) (e : DirEntry) (o : Option (List DirectoryBlock)) → Spares (filled_or_new l first ino e o)
spares_filled l first ino e (Some filled) = tt
spares_filled l first ino e None =
    let put : Filling → Maybe Layout = λ f. Ok (with_last l ino e f) in
    spares_unless (nat_le (length (blocks_at l ino) + 1) l.directory_limit) (no.TooBig (1024 * (length (blocks_at l ino) + 1))) (next_block l first ino >>= put) refl
    (spares_bind (next_block l first ino) put (spares_next l first ino) (λ f. tt))

spares_add : (s : State) (at : ℕ) (name : FileName) (ino : ℕ) → Spares (add_name s at name ino)
spares_add s at name ino = spares_bind (directory_at s.tree.nodes at) (add_name_in s at name ino) (spares_directory s.tree.nodes at)
    (λ d.
    let entry : DirEntry = record { ino = ino; name = name } in
    spares_bind (add_entry s.layout s.tree.tunables.initial_extent_size at entry) (λ layout. Ok (record { tree = with_nodes s.tree (map.insert s.tree.nodes at (with_name d name ino)); layout = layout }))
    (spares_filled s.layout s.tree.tunables.initial_extent_size at entry (with_entry (blocks_at s.layout at) entry)) (λ layout. tt))

spares_enter : (b : State) (m : Move) → Spares (enter b m)
spares_enter b m = spares_bind (add_name b m.to m.name m.from.ino) (λ moved. Ok (fine moved)) (spares_add b m.to m.name m.from.ino) (λ moved. tt)

module _ (s : State) (place : ℕ) (m : Move) where
  spares_replace : (target : ℕ) (node : Node) → Spares (replace_by s place m target node)
  spares_replace target (IsDirectory moved) = spares_bind (directory_at s.tree.nodes target) (replace_directory s place m target) (spares_directory s.tree.nodes target)
      (λ d. spares_unless (map.len d.entries == 0) no.NotEmpty (enter (drop_node (cleared s m) place target) m) refl (spares_enter (drop_node (cleared s m) place target) m))
  spares_replace target (IsFile moved) = spares_bind (file_at s.tree.nodes target) (replace_file s place m target) (spares_file s.tree.nodes target)
      (λ f. spares_enter (unlinked (cleared s m) place target (is_last s.tree target f) f) m)

  spares_target : (target : ℕ) (t : Bool) → Spares (cond t (Ok (fine s)) (replace_by s place m target m.node))
  spares_target target true = tt
  spares_target target false = spares_replace target m.node

  spares_onto : (o : Option ℕ) → Spares (move_onto s place m o)
  spares_onto None = spares_enter (remove_name s m.from.at m.from.name) m
  spares_onto (Some target) = spares_target target (target == m.from.ino)

-- ---- paths

end_from_of : (x : FileName) (rest : List FileName) (name : FileName) → path_end_from x (rest ++ name ∷ []) ≡ record { above = x ∷ rest; name = name }
end_from_of x [] name = refl
end_from_of x (y ∷ rest) name = ap (λ (p : PathEnd). record { above = x ∷ p.above; name = p.name }) (end_from_of y rest name)

end_of : (above : List FileName) (name : FileName) → path_end (above ++ name ∷ []) ≡ Some (record { above = above; name = name })
end_of [] name = refl
end_of (x ∷ rest) name = ap Some (end_from_of x rest name)

-- what a path begins with it goes on from
begins_so : (a b : List FileName) → begins_with a b ≡ true → (rest : List FileName) × (b ≡ a ++ rest)
begins_so [] b h = (b, refl)
begins_so (x ∷ a) [] h = absurd cc
begins_so (x ∷ a) (y ∷ b) h =
    let parts = and_parts (bytes_eq x y) (begins_with a b) h in
    let same : x ≡ y = (bytes_eq-Decides x y).0 parts.0 in
    let more = begins_so a b parts.1 in
    (more.0, ap (λ (n : FileName). n ∷ b) (sym same) ∙ ap (λ (ns : List FileName). x ∷ ns) more.1)

begins_itself : (a : List FileName) → begins_with a (a ++ []) ≡ true
begins_itself [] = refl
begins_itself (x ∷ a) = ap (λ t. t && begins_with a (a ++ [])) ((bytes_eq-Decides x x).1 refl) ∙ begins_itself a

begins_back : (a : List FileName) → begins_with (a ++ []) a ≡ true
begins_back [] = refl
begins_back (x ∷ a) = ap (λ t. t && begins_with (a ++ []) a) ((bytes_eq-Decides x x).1 refl) ∙ begins_back a

-- a longer path, by its last name
pub record Longer (a b : List FileName) : Type 0 where
  pub way : List FileName
  pub name : FileName
  pub is : b ≡ (a ++ way) ++ name ∷ []

longer_by : (a b rest : List FileName) → b ≡ a ++ rest → not (begins_with b a) ≡ true → Longer a b
longer_by a b [] is goes = absurd (let wrong : false ≡ true = sym (ap not (ap (λ (ns : List FileName). begins_with ns a) is ∙ begins_back a)) ∙ goes in cc)
longer_by a b (x ∷ rest) is goes =
    let l = last_of x rest in
    record { way = l.front; name = l.name; is = is ∙ ap (λ (ns : List FileName). a ++ ns) l.is ∙ sym (append_assoc a l.front (l.name ∷ [])) }

longer_of : (a b : List FileName) → is_below a b ≡ true → Longer a b
longer_of a b h =
    let parts = and_parts (begins_with a b) (not (begins_with b a)) h in
    let more = begins_so a b parts.0 in
    longer_by a b more.0 more.1 parts.1

-- what leads to a directory is one
walker_directory : (nodes : Nodes) (ino : ℕ) (way : List FileName) (z : ℕ) (d : Directory) → walk nodes ino way ≡ Ok z → map.get nodes z ≡ Some (IsDirectory d) → (e : Directory) × (map.get nodes ino ≡ Some (IsDirectory e))
walker_directory nodes ino [] z d walked there = let same : ino ≡ z = cc in (d, ap (map.get nodes) same ∙ there)
walker_directory nodes ino (x ∷ rest) z d walked there = let first = walk_first nodes ino x rest z walked in named_directory x first.0 (map.get nodes ino) first.1

-- ---- it is refused so

module _ (s : State) (place : ℕ) (from to : List ℕ) (links : HasLinks s) (g : GoesIntoItself s.tree.nodes from to) where
  abbrev nodes : Nodes
  nodes = s.tree.nodes

  abbrev olds : List FileName
  olds = g.leads.above ++ g.name ∷ []

  abbrev news : List FileName
  news = g.new_leads.above ++ g.new_name ∷ []

  abbrev entry : Entry
  entry = record { at = g.at; name = g.name; ino = g.ino }

  below : is_below olds news ≡ true
  below =
      let old_walk : walk nodes root olds ≡ Ok g.ino = walk_push nodes root g.leads.above g.name g.at g.ino g.leads.walked g.meant in
      let whole : walk nodes root (olds ++ g.way) ≡ Ok g.new_at = walk_append nodes root olds g.way g.ino old_walk ∙ g.walked in
      let same : olds ++ g.way ≡ g.new_leads.above = same_path s links (olds ++ g.way) g.new_leads.above g.new_at g.parent g.there whole g.new_leads.walked in
      ap (λ (front : List FileName). is_below olds (front ++ g.new_name ∷ [])) (sym same) ∙ longer_below olds g.way g.new_name

  entered : entry_end nodes (record { above = g.leads.above; name = g.name }) ≡ Ok entry
  entered =
      let d = named_directory g.name g.ino (map.get nodes g.at) g.meant in
      let means : map.get d.0.entries g.name ≡ Some g.ino = sym (ap (meaning_in g.name) d.1) ∙ g.meant in
      ap (λ m. m >>= entry_at nodes g.name) g.leads.walked
      ∙ ap (λ m. m >>= entry_in g.at g.name) (at_directory nodes g.at d.0 d.1)
      ∙ ap (λ (o : Option ℕ). need o no.NoEnt >>= (λ ino. Ok (record { at = g.at; name = g.name; ino = ino }))) means

  pub goes_into : rename s place from to ≡ Err no.IntoItself
  goes_into =
      let t : Bool = is_below olds news in
      let e = walker_directory nodes g.ino g.way g.new_at g.parent g.walked g.there in
      let m : Move = record { from = entry; node = IsDirectory e.0; to = g.new_at; name = g.new_name } in
      ap (λ (o : Option (List FileName)). need o no.BadName >>= (λ names. names_of to >>= rename_along s place names)) g.leads.names
      ∙ ap (λ (o : Option (List FileName)). need o no.BadName >>= rename_along s place olds) g.new_leads.names
      ∙ ap (λ (o : Option PathEnd). need o no.RootFixed >>= (λ end. need (path_end news) no.RootFixed >>= move_ends s place t end)) (end_of g.leads.above g.name)
      ∙ ap (λ (o : Option PathEnd). need o no.RootFixed >>= move_ends s place t (record { above = g.leads.above; name = g.name })) (end_of g.new_leads.above g.new_name)
      ∙ ap (λ r. r >>= move_entry s place t (record { above = g.new_leads.above; name = g.new_name })) entered
      ∙ ap (λ r. r >>= move_to s place t entry g.new_name) g.new_leads.walked
      ∙ ap (λ r. r >>= (λ d. node_at nodes g.ino >>= move_node s place t entry g.new_at g.new_name d)) (at_directory nodes g.new_at g.parent g.there)
      ∙ ap (λ (o : Option Node). need o no.NoEnt >>= move_node s place t entry g.new_at g.new_name g.parent) e.1
      ∙ ap (λ (b : Bool). unless (not b) no.IntoItself (move_into s place m g.parent)) below

pub refused_into : (s : State) (place session : ℕ) (from to : List ℕ) (done : Done) → HasLinks s → step s place session (call.Rename from to) ≡ Some done → GoesIntoItself s.tree.nodes from to
    → done.reply ≡ say.Refused no.IntoItself
refused_into s place session from to done links h g = answered_by s (rename s place from to) (Err no.IntoItself) done h (goes_into s place from to links g)

-- ---- and nothing else is

is_refused_into : (s : State) (m : Maybe Done) (done : Done) → Some (settled s m) ≡ Some done → done.reply ≡ say.Refused no.IntoItself → ((x : Done) → m ≡ Ok x → Answers x) → m ≡ Err no.IntoItself
is_refused_into s (Ok x) done h reply answers = let e : x ≡ done = cc in absurd (answers x refl no.IntoItself (ap (λ (d : Done). d.reply) e ∙ reply))
is_refused_into s (Err why) done h reply answers =
    let e : ◌≡◌ {A = Done} (record { state = s; reply = say.Refused why }) done = cc in
    let r : say.Refused why ≡ say.Refused no.IntoItself = ap (λ (d : Done). d.reply) e ∙ reply in
    let same : why ≡ no.IntoItself = cc in ap Err same

-- a node that would go below itself
tested : (s : State) (place : ℕ) (t : Bool) (rest : Maybe Done) → Spares rest → unless (not t) no.IntoItself rest ≡ Err no.IntoItself → t ≡ true
tested s place true rest spares h = refl
tested s place false rest spares h = absurd (not_spared rest spares h)

module _ (s : State) (place : ℕ) (from to : List ℕ) (h : rename s place from to ≡ Err no.IntoItself) where
  pub into_itself : GoesIntoItself s.tree.nodes from to
  into_itself =
      let nodes : Nodes = s.tree.nodes in
      let olds = into_on (names_of from) (λ names. names_of to >>= rename_along s place names) (spares_need (split from) no.BadName refl) h in
      let news = into_on (names_of to) (rename_along s place olds.0) (spares_need (split to) no.BadName refl) olds.2 in
      let t : Bool = is_below olds.0 news.0 in
      let old_end = into_on (need (path_end olds.0) no.RootFixed) (λ end. need (path_end news.0) no.RootFixed >>= move_ends s place t end) (spares_need (path_end olds.0) no.RootFixed refl) news.2 in
      let new_end = into_on (need (path_end news.0) no.RootFixed) (move_ends s place t old_end.0) (spares_need (path_end news.0) no.RootFixed refl) old_end.2 in
      let e = into_on (entry_end nodes old_end.0) (move_entry s place t new_end.0) (spares_entry nodes old_end.0) new_end.2 in
      let at = into_on (walk nodes root new_end.0.above) (move_to s place t e.0 new_end.0.name) (spares_walk nodes root new_end.0.above) e.2 in
      let d = into_on (directory_at nodes at.0) (λ d. node_at nodes e.0.ino >>= move_node s place t e.0 at.0 new_end.0.name d) (spares_directory nodes at.0) at.2 in
      let node = into_on (node_at nodes e.0.ino) (move_node s place t e.0 at.0 new_end.0.name d.0) (spares_node nodes e.0.ino) d.2 in
      let m : Move = record { from = e.0; node = node.0; to = at.0; name = new_end.0.name } in
      let test = tested s place (is_directory node.0 && t) (move_into s place m d.0) (spares_onto s place m (map.get d.0.entries m.name)) node.2 in
      let longer = longer_of olds.0 news.0 ((and_parts (is_directory node.0) t test).1) in
      let old_is = need_ok (split from) no.BadName olds.0 olds.1 in
      let old_end_is = need_ok (path_end olds.0) no.RootFixed old_end.0 old_end.1 in
      let new_is = need_ok (split to) no.BadName news.0 news.1 in
      let new_end_is = need_ok (path_end news.0) no.RootFixed new_end.0 new_end.1 in
      let enters_is : Enters nodes from e.0 = enters nodes from olds.0 old_end.0 e.0 old_is old_end_is e.1 in
      let names : Some olds.0 ≡ Some (enters_is.leads.above ++ e.0.name ∷ []) = sym old_is ∙ enters_is.leads.names in
      let olds_are : olds.0 ≡ enters_is.leads.above ++ e.0.name ∷ [] = same_Some olds.0 (enters_is.leads.above ++ e.0.name ∷ []) names in
      let old_walk : walk nodes root olds.0 ≡ Ok e.0.ino = ap (walk nodes root) olds_are ∙ walk_push nodes root enters_is.leads.above e.0.name e.0.at e.0.ino enters_is.leads.walked enters_is.means in
      let ends : Some new_end.0 ≡ Some (record { above = olds.0 ++ longer.way; name = longer.name }) = sym new_end_is ∙ ap path_end longer.is ∙ end_of (olds.0 ++ longer.way) longer.name in
      let end_is : new_end.0 ≡ record { above = olds.0 ++ longer.way; name = longer.name } = same_Some new_end.0 (record { above = olds.0 ++ longer.way; name = longer.name }) ends in
      record {
        at = e.0.at;
        name = e.0.name;
        ino = e.0.ino;
        new_at = at.0;
        new_name = new_end.0.name;
        parent = d.0;
        leads = enters_is.leads;
        new_leads = leads_to nodes to news.0 new_end.0 at.0 new_is new_end_is at.1;
        meant = enters_is.means;
        there = directory_ok nodes at.0 d.0 d.1;
        way = longer.way;
        walked = sym (walk_append nodes root olds.0 longer.way e.0.ino old_walk) ∙ ap (λ (p : PathEnd). walk nodes root p.above) (sym end_is) ∙ at.1;
      }

pub only_into : (s : State) (place session : ℕ) (from to : List ℕ) (done : Done) → step s place session (call.Rename from to) ≡ Some done → done.reply ≡ say.Refused no.IntoItself → GoesIntoItself s.tree.nodes from to
only_into s place session from to done h reply =
    into_itself s place from to (is_refused_into s (rename s place from to) done h reply (λ x is. always_ok (rename s place from to) Answers x (rename_answers s place from to) is))
