-- The edits that calls are made of keep a state laid out and its names legal and distinct.
use Rattle.std.proofs.Common.{◌≡◌, ◌≢◌, ℕ, ◌-◌, ◌*◌, ◌<◌, ◌≤◌, Bool, true, false, List, [], ◌∷◌, ◌++◌, length, map, filter, Option, Some, None, Ok, refl, sym, ap, subst, ◌∙◌, arith, inl, inr, append-nil}
use Rattle.std.specs.Prelude.{◌==◌, ◌&&◌, not, nat_le, nat_lt, IfSome}
use Rattle.std.specs.List.{count_by}
use Rattle.std.specs.FinMap as map
use Rattle.std.proofs.lemmas.Bool.{and_parts, cases_eq, leb-false}
use Rattle.std.proofs.lemmas.List.Concat.{flat_map-append}
use Rattle.vx_base.specs.Paths.{FileName, is_name}
use Rattle.vx_base.specs.declared.inode.DirEntry.{DirEntry}
use Rattle.vx_base.specs.declared.refusal.Refusal.TheVariants as no
use Rattle.vx_sound.specs.Facts.{is_legal, is_name_among, AreNamesRight}
use Rattle.vx_model.specs.Outcome.{◌>>=◌, need}
use Rattle.vx_model.specs.Tree.{Tree, Nodes, Opened, Handles, Node, File, Directory, IsFile, IsDirectory}
use Rattle.vx_model.specs.Layout.{DirectoryBlock, Layout, blocks_at, with_blocks, with_last, block_of_page, add_entry, freed, other_name, without_name}
use Rattle.vx_model.specs.State.{State}
use Rattle.vx_model.specs.Walks.{root, as_directory}
use Rattle.vx_model.specs.Handles.{is_open}
use Rattle.vx_model.specs.Edits.{with_name, without_name as removed_from, add_name, remove_name, remove_name_in, set_node, drop_node}
use Rattle.vx_model.specs.EditLaws.{EditLaws}
use Rattle.vx_model.specs.Removing.{is_last, unlinked}
use Rattle.vx_model.specs.Legal.{IfThere}
use Rattle.vx_model.specs.LaidOut.{HasNothing, IsFileOf, IsPlain, IsPlainFile, IsClosed, IsHeld, IsDirectoryNode, IsFileNode, IsLaidOut, entries_of}
use Rattle.vx_model.specs.Reads.{entries_from}
use Rattle.vx_model.proofs.EntryLists.{entries_without}
use Rattle.vx_base.proofs.Maps.{at_other}
use Rattle.vx_model.proofs.EditKeeps.{IsSameAt, file_same, node_held, nothing_blocks, here, elsewhere, others_same, freed_others, freed_nothing}
use Rattle.vx_model.proofs.NameEdits.{filled_is, Filled, Grown, entry_added, name_added}
use Rattle.vx_wellformed.specs.WellFormed.{HasNames}
use Rattle.vx_wellformed.proofs.EntryNames.{insert_right, filter_absent, filter_right, taken_absent, absent_none, none_absent}

-- what is asked of a state beside its link numbers; under this condition it has no bytes
pub record IsWhole (Plain : Type 0) (s : State) : Type 0 where
  pub laid_out : IsLaidOut s
  pub plain : Plain → IsPlain s
  pub names : HasNames s.layout

-- the directory has no such name
abbrev pub IsAbsent : State → ℕ → FileName → Type 0
IsAbsent s at name = is_name_among name (entries_of (blocks_at s.layout at)) ≡ false

-- ---- what stands at an inode

pub record HoldsFile (s : State) (n : ℕ) (f : File) : Type 0 where
  pub there : map.get s.tree.nodes n ≡ Some (IsFile f)
  pub file : IsFileOf s.layout n f
  pub low : 2 ≤ n
  pub high : n < 128 * s.layout.units
  pub not_root : n ≢ root

pub holds_file : (s : State) → IsLaidOut s → (n : ℕ) (f : File) → map.get s.tree.nodes n ≡ Some (IsFile f) → HoldsFile s n f
holds_file s is n f there =
    let h = node_held s is n (IsFile f) there in
    record {
      there = there;
      file = h.0;
      low = h.1;
      high = h.2;
      not_root = λ e. subst (λ (o : Option Node). IfThere o IsDirectoryNode) (ap (map.get s.tree.nodes) (sym e) ∙ there) is.has_root;
    }

-- no handle is open on a directory
closed_by : (nodes : Nodes) (n : ℕ) (d : Directory) (o : Option Opened) → map.get nodes n ≡ Some (IsDirectory d) → IfSome o (λ (x : Opened). IfThere (map.get nodes x.ino) IsFileNode)
    → IfSome o (λ (x : Opened). x.ino ≢ n)
closed_by nodes n d None there file = tt
closed_by nodes n d (Some x) there file = λ e. subst (λ (o : Option Node). IfThere o IsFileNode) (ap (map.get nodes) e ∙ there) file

pub closed_directory : (s : State) → IsLaidOut s → (n : ℕ) (d : Directory) → map.get s.tree.nodes n ≡ Some (IsDirectory d) → IsClosed s.tree n
closed_directory s is n d there key = closed_by s.tree.nodes n d (map.get s.tree.handles key) there (is.handles key)

-- a directory's names are those of its blocks
pub names_are : (s : State) → IsLaidOut s → (n : ℕ) (d : Directory) → map.get s.tree.nodes n ≡ Some (IsDirectory d) → d.entries ≡ entries_from (entries_of (blocks_at s.layout n))
names_are s is n d there = (node_held s is n (IsDirectory d) there).0.entries

pub absent_there : (s : State) → IsLaidOut s → (n : ℕ) (d : Directory) (name : FileName) → map.get s.tree.nodes n ≡ Some (IsDirectory d) → map.get d.entries name ≡ None → IsAbsent s n name
absent_there s is n d name there none =
    none_absent name (entries_of (blocks_at s.layout n)) (ap (λ es. map.get es name) (sym (names_are s is n d there)) ∙ none)

none_there : (s : State) → IsLaidOut s → (n : ℕ) (d : Directory) (name : FileName) → map.get s.tree.nodes n ≡ Some (IsDirectory d) → IsAbsent s n name → map.get d.entries name ≡ None
none_there s is n d name there absent =
    ap (λ es. map.get es name) (names_are s is n d there) ∙ absent_none name (entries_of (blocks_at s.layout n)) absent

-- ---- one directory changes

abbrev IsElsewhere : Layout → Layout → ℕ → Type 0
IsElsewhere l m at = (n : ℕ) → n ≢ at → IsSameAt l m n

-- what holds of it and of the others holds of each
each_directory : (l m : Layout) (at : ℕ) (P : List DirectoryBlock → Type 0) → IsElsewhere l m at → (n : ℕ) → (n ≡ at → P (blocks_at m at)) → P (blocks_at l n) → P (blocks_at m n)
each_directory l m at P others n changed kept = elim (cases_eq n at) [
  | inl e ↦ subst (λ (k : ℕ). P (blocks_at m k)) (sym e) (changed e)
  | inr ne ↦ subst P (sym (others n ne).blocks) kept
]

abbrev Right : List DirectoryBlock → Type 0
Right blocks = AreNamesRight [] (entries_of blocks)

names_with : (l m : Layout) (at : ℕ) → IsElsewhere l m at → HasNames l → Right (blocks_at m at) → HasNames m
names_with l m at others names right n = each_directory l m at Right others n (λ e. right) (names n)

-- ---- an entry more

-- the entry stands somewhere among those of the directory, and no other has changed
pub record Grows (l after : Layout) (at : ℕ) (e : DirEntry) : Type 0 where
  pub pre : List DirEntry
  pub post : List DirEntry
  pub before : entries_of (blocks_at l at) ≡ pre ++ post
  pub now : entries_of (blocks_at after at) ≡ pre ++ e ∷ post
  pub others : IsElsewhere l after at
  pub units : after.units ≡ l.units

filled_grows : (l after : Layout) (at : ℕ) (e : DirEntry) → Filled l at e after → Grows l after at e
filled_grows l after at e f =
    let in_one = filled_is (blocks_at l at) f.blocks e f.filled in
    subst (λ (m : Layout). Grows l m at e) (sym f.layout) (record {
      pre = in_one.pre;
      post = in_one.post;
      before = in_one.before;
      now = ap entries_of (here at f.blocks (l.directories at)) ∙ in_one.after;
      others = others_same l at f.blocks l.maps (λ n ne. refl);
      units = refl;
    })

last_grows : (l after : Layout) (first at : ℕ) (e : DirEntry) → Grown l first at e after → Grows l after at e
last_grows l after first at e g =
    let last : DirectoryBlock = record { block = block_of_page g.filling.pages (length (blocks_at l at)); entries = e ∷ [] } in
    let blocks : List DirectoryBlock = blocks_at l at ++ last ∷ [] in
    let new : Layout = with_last l at e g.filling in
    subst (λ (m : Layout). Grows l m at e) (sym g.layout) (record {
      pre = entries_of (blocks_at l at);
      post = [];
      before = sym (append-nil (entries_of (blocks_at l at)));
      now = ap entries_of (here at blocks (l.directories at)) ∙ flat_map-append (λ (b : DirectoryBlock). b.entries) (blocks_at l at) (last ∷ []);
      others = others_same l at blocks new.maps (λ n ne. elsewhere n at g.filling.maps (l.maps n) ne);
      units = refl;
    })

grows : (l after : Layout) (first at : ℕ) (e : DirEntry) → add_entry l first at e ≡ Ok after → Grows l after at e
grows l after first at e h = elim (entry_added l after first at e h) [
  | inl f ↦ filled_grows l after at e f
  | inr g ↦ last_grows l after first at e g
]

pub record Adds (s new : State) (at ino : ℕ) (name : FileName) : Type 0 where
  pub directory : Directory
  pub there : map.get s.tree.nodes at ≡ Some (IsDirectory directory)
  pub nodes : new.tree.nodes ≡ map.insert s.tree.nodes at (with_name directory name ino)
  pub grows : Grows s.layout new.layout at (record { ino = ino; name = name })

pub adds : (s new : State) (at ino : ℕ) (name : FileName) → add_name s at name ino ≡ Ok new → Adds s new at ino name
adds s new at ino name h =
    let a = name_added s new at ino name h in
    subst (λ (x : State). Adds s x at ino name) (sym a.state) (record {
      directory = a.directory;
      there = a.is_directory;
      nodes = refl;
      grows = grows s.layout a.layout s.tree.tunables.initial_extent_size at (record { ino = ino; name = name }) a.added;
    })

legal_name : (name : FileName) → is_legal name ≡ true → is_name name ≡ true
legal_name name h = (and_parts (is_name name) _ h).0

module _ (laws : EditLaws) (Plain : Type 0) where
  -- a name more
  pub added_whole : (s new : State) (at ino : ℕ) (name : FileName) → IsWhole Plain s → is_legal name ≡ true → IsAbsent s at name → ino < 128 * s.layout.units → add_name s at name ino ≡ Ok new → IsWhole Plain new
  added_whole s new at ino name w legal absent low h =
      let a = adds s new at ino name h in
      let g = a.grows in
      record {
        plain = λ p. laws.added_plain s new at ino name (w.plain p) h;
        laid_out = laws.added s new at ino name a.directory w.laid_out a.there (legal_name name legal) (none_there s w.laid_out at a.directory name a.there absent) low h;
        names = names_with s.layout new.layout at g.others w.names (subst (AreNamesRight []) (sym g.now)
            (insert_right g.pre g.post (record { ino = ino; name = name }) (subst (AreNamesRight []) g.before (w.names at)) legal (ap (is_name_among name) (sym g.before) ∙ absent)));
      }

-- ---- what only goes

-- no directory has a new name, and no handle is opened or closed
pub record Lessens (s t : State) : Type 0 where
  pub names : HasNames s.layout → HasNames t.layout
  pub absent : (n : ℕ) (name : FileName) → IsAbsent s n name → IsAbsent t n name
  pub units : t.layout.units ≡ s.layout.units
  pub handles : t.tree.handles ≡ s.tree.handles

lessens_not : (s : State) → Lessens s s
lessens_not s = record { names = λ h. h; absent = λ n name h. h; units = refl; handles = refl }

lessens_then : (a b c : State) → Lessens a b → Lessens b c → Lessens a c
lessens_then a b c p q = record {
  names = λ h. q.names (p.names h);
  absent = λ n name h. q.absent n name (p.absent n name h);
  units = q.units ∙ p.units;
  handles = q.handles ∙ p.handles;
}

-- the inode has what it had
pub record Spares (s t : State) (n : ℕ) : Type 0 where
  pub node : map.get t.tree.nodes n ≡ map.get s.tree.nodes n
  pub same : IsSameAt s.layout t.layout n

pub spares_not : (s : State) (n : ℕ) → Spares s s n
spares_not s n = record { node = refl; same = record { blocks = refl; space = refl; maps = refl } }

pub spares_then : (a b c : State) (n : ℕ) → Spares a b n → Spares b c n → Spares a c n
spares_then a b c n p q = record {
  node = q.node ∙ p.node;
  same = record { blocks = q.same.blocks ∙ p.same.blocks; space = q.same.space ∙ p.same.space; maps = q.same.maps ∙ p.same.maps };
}

-- a name goes
pub record Removes (s t : State) (at : ℕ) (name : FileName) : Type 0 where
  pub lessens : Lessens s t
  pub gone : IsAbsent t at name

no_name : (l : Layout) (n : ℕ) (name : FileName) → HasNothing l n → is_name_among name (entries_of (blocks_at l n)) ≡ false
no_name l n name h = ap (λ (bs : List DirectoryBlock). is_name_among name (entries_of bs)) (nothing_blocks l n h).0

removed_by : (s : State) (at : ℕ) (name : FileName) (o : Option Node) → IsHeld s.layout at o → Removes s (remove_name_in s at name (need o no.NoEnt >>= as_directory)) at name
removed_by s at name None h = record { lessens = lessens_not s; gone = no_name s.layout at name h }
removed_by s at name (Some (IsFile f)) h = record { lessens = lessens_not s; gone = ap (λ (bs : List DirectoryBlock). is_name_among name (entries_of bs)) h.0.no_blocks }
removed_by s at name (Some (IsDirectory d)) h =
    let l : Layout = s.layout in
    let blocks : List DirectoryBlock = map (without_name name) (blocks_at l at) in
    let new : Layout = with_blocks l at blocks in
    let others : IsElsewhere l new at = others_same l at blocks l.maps (λ n ne. refl) in
    let entries : entries_of (blocks_at new at) ≡ filter (other_name name) (entries_of (blocks_at l at)) = ap entries_of (here at blocks (l.directories at)) ∙ entries_without name (blocks_at l at) in
    record {
      lessens = record {
        names = λ names. names_with l new at others names (subst (AreNamesRight []) (sym entries) (filter_right (other_name name) (entries_of (blocks_at l at)) (names at)));
        absent = λ n x none. each_directory l new at (λ bs. is_name_among x (entries_of bs) ≡ false) others n
            (λ e. ap (is_name_among x) entries ∙ filter_absent (other_name name) x (entries_of (blocks_at l at)) (subst (λ (k : ℕ). is_name_among x (entries_of (blocks_at l k)) ≡ false) e none)) none;
        units = refl;
        handles = refl;
      };
      gone = ap (is_name_among name) entries ∙ taken_absent name (entries_of (blocks_at l at));
    }

pub removes : (s : State) (at : ℕ) (name : FileName) → IsLaidOut s → Removes s (remove_name s at name) at name
removes s at name is = removed_by s at name (map.get s.tree.nodes at) (is.nodes at)

set_lessens : (s : State) (n : ℕ) (node : Node) → Lessens s (set_node s n node)
set_lessens s n node = record { names = λ h. h; absent = λ k name h. h; units = refl; handles = refl }

-- a name that goes leaves each file
spared_by : (s : State) (at n : ℕ) (name : FileName) (f : File) (o : Option Node) → map.get s.tree.nodes at ≡ o → map.get s.tree.nodes n ≡ Some (IsFile f) → Spares s (remove_name_in s at name (need o no.NoEnt >>= as_directory)) n
spared_by s at n name f None is there = spares_not s n
spared_by s at n name f (Some (IsFile g)) is there = spares_not s n
spared_by s at n name f (Some (IsDirectory d)) is there =
    let ne : n ≢ at = λ e. (let c : Some (IsFile f) ≡ Some (IsDirectory d) = sym there ∙ ap (map.get s.tree.nodes) e ∙ is in absurd cc) in
    record {
      node = at_other s.tree.nodes at (removed_from d name) n ne;
      same = others_same s.layout at (map (without_name name) (blocks_at s.layout at)) s.layout.maps (λ k other. refl) n ne;
    }

pub removed_spares : (s : State) (at n : ℕ) (name : FileName) (f : File) → map.get s.tree.nodes n ≡ Some (IsFile f) → Spares s (remove_name s at name) n
removed_spares s at n name f = spared_by s at n name f (map.get s.tree.nodes at) refl

pub drop_lessens : (s : State) (place n : ℕ) → Lessens s (drop_node s place n)
drop_lessens s place n =
    let l : Layout = s.layout in
    let new : Layout = freed l place n in
    let others : IsElsewhere l new n = freed_others l place n in
    let empty : blocks_at new n ≡ [] = here n [] (l.directories n) in
    record {
      names = λ names. names_with l new n others names (subst Right (sym empty) tt);
      absent = λ k name h. each_directory l new n (λ bs. is_name_among name (entries_of bs) ≡ false) others k (λ e. no_name new n name (freed_nothing l place n)) h;
      units = refl;
      handles = refl;
    }

pub unlinked_absent : (t : State) (place n : ℕ) (last : Bool) (f : File) (at : ℕ) (name : FileName) → IsAbsent t at name → IsAbsent (unlinked t place n last f) at name
unlinked_absent t place n true f at name h = (drop_lessens t place n).absent at name h
unlinked_absent t place n false f at name h = h

-- a state that is laid out, after edits by which names only go
pub record IsLess (Plain : Type 0) (s t : State) : Type 0 where
  pub laid_out : IsLaidOut t
  pub plain : Plain → IsPlain t
  pub lessens : Lessens s t

-- which handles are open is for them to say
closed_still : (s t : State) (n : ℕ) → Lessens s t → IsClosed s.tree n → IsClosed t.tree n
closed_still s t n is closed key = subst (λ (hs : Handles). IfSome (map.get hs key) (λ (o : Opened). o.ino ≢ n)) (sym is.handles) (closed key)

last_still : (s t : State) (n : ℕ) (f : File) → Lessens s t → is_last t.tree n f ≡ is_last s.tree n f
last_still s t n f is = ap (λ (hs : Handles). nat_le f.nlink 1 && not (nat_lt 0 (count_by (λ (o : Opened). o.ino == n) (map.values hs)))) is.handles

not_open : (opened : Bool) → not opened ≡ true → opened ≡ false
not_open true h = absurd cc
not_open false h = refl

module _ (laws : EditLaws) (closed : (t : Tree) (ino : ℕ) → is_open t ino ≡ false → IsClosed t ino) (last_name : (s : State) (ino : ℕ) (f : File) → IsPlain s → is_last s.tree ino f ≡ nat_le f.nlink 1) (Plain : Type 0) where
  pub removed_less : (s t : State) (at : ℕ) (name : FileName) → IsLess Plain s t → IsLess Plain s (remove_name t at name)
  removed_less s t at name is = record {
    laid_out = laws.removed t at name is.laid_out;
    plain = λ p. laws.removed_plain t at name (is.plain p);
    lessens = lessens_then s t (remove_name t at name) is.lessens (removes t at name is.laid_out).lessens;
  }

  pub dropped_less : (s t : State) (place n : ℕ) → n ≢ root → IsClosed s.tree n → IsLess Plain s t → IsLess Plain s (drop_node t place n)
  dropped_less s t place n ne none is = record {
    laid_out = laws.dropped t place n is.laid_out ne (closed_still s t n is.lessens none);
    plain = λ p. laws.dropped_plain t place n (is.plain p);
    lessens = lessens_then s t (drop_node t place n) is.lessens (drop_lessens t place n);
  }

  lower : (f : File) → IsPlainFile f → 1 < f.nlink → IsPlainFile (record f { nlink = f.nlink - 1 })
  lower f plain more = record { some_links = omega arith; attrs = plain.attrs; bytes = plain.bytes }

  unlinked_by : (s t : State) (place n : ℕ) (f : File) (last : Bool) → is_last s.tree n f ≡ last → HoldsFile s n f → Spares s t n → IsLess Plain s t → IsLess Plain s (unlinked t place n last f)
  unlinked_by s t place n f true e file spares is =
      dropped_less s t place n file.not_root (closed s.tree n (not_open (is_open s.tree n) (and_parts (nat_le f.nlink 1) (not (is_open s.tree n)) e).1)) is
  unlinked_by s t place n f false e file spares is =
      let same = is.lessens.units in
      let high : n < 128 * t.layout.units = subst (λ (u : ℕ). n < 128 * u) (sym same) file.high in
      let less : File = record f { nlink = f.nlink - 1 } in
      let few = file.file.few_links in
      record {
        laid_out = laws.file_set t n less is.laid_out (laws.links_set t.layout n (f.nlink - 1) f (file_same s.layout t.layout n f spares.same file.file) (omega (arith, few))) file.not_root file.low high;
        plain = λ p.
            let both = (is.plain p).files n f (spares.node ∙ file.there) in
            let more = leb-false f.nlink 1 (sym (last_name t n f (is.plain p)) ∙ last_still s t n f is.lessens ∙ e) in
            laws.file_plain t n less (is.plain p) (lower f both.0 more) both.1;
        lessens = lessens_then s t (set_node t n (IsFile less)) is.lessens (set_lessens t n (IsFile less));
      }

  pub unlinked_less : (s t : State) (place n : ℕ) (f : File) → HoldsFile s n f → Spares s t n → IsLess Plain s t → IsLess Plain s (unlinked t place n (is_last s.tree n f) f)
  unlinked_less s t place n f = unlinked_by s t place n f (is_last s.tree n f) refl

pub less_whole : (Plain : Type 0) (s t : State) → IsWhole Plain s → IsLess Plain s t → IsWhole Plain t
less_whole Plain s t w is = record { laid_out = is.laid_out; plain = is.plain; names = is.lessens.names w.names }

pub itself : (Plain : Type 0) (s : State) → IsWhole Plain s → IsLess Plain s s
itself Plain s w = record { laid_out = w.laid_out; plain = w.plain; lessens = lessens_not s }
