-- The names of the state that a sound image says are legal, distinct, and as many as link numbers say.
use Rattle.std.proofs.Common.{◌≡◌, ◌≢◌, ℕ, zero, suc, ◌+◌, ◌*◌, ◌<◌, true, false, cond, List, [], ◌∷◌, ◌++◌, length, take, get_or, Option, Some, None, inl, inr, refl, sym, ap, subst, ◌∙◌, arith, append_assoc}
use Rattle.std.specs.Prelude.{◌==◌, is_some}
use Rattle.std.specs.Option.{option_map, option_and_then}
use Rattle.std.specs.List.{flat_map, AllByRecursion}
use Rattle.std.specs.FinMap as map_of
use Rattle.std.proofs.lemmas.Bool.{cases_eq, ne_eqb}
use Rattle.std.proofs.lemmas.Grind.{flat_map-append}
use Rattle.std.proofs.lemmas.List.{append-nil}
use Rattle.std.proofs.lemmas.List.Sums.{sum_by-append}
use Rattle.vx_base.specs.declared.kind.FileKind.{FileKind}
use Rattle.vx_base.specs.declared.kind.FileKind.TheVariants.{File, Directory}
use Rattle.vx_base.specs.declared.inode.DirEntry.{DirEntry}
use Rattle.vx_base.specs.declared.inode.InodeValue.{InodeValue}
use Rattle.vx_layout.specs.Places.{Volume}
use Rattle.vx_layout.specs.Supers.{volume_of}
use Rattle.vx_layout.specs.declared.superblock.Super.{Super}
use Rattle.vx_sound.specs.FirstFault.{numbers}
use Rattle.vx_sound.specs.Said.{Image, inode_said, blocks_by_kind, directory_blocks, entries_said, entries_below, names_of}
use Rattle.vx_sound.specs.Said as said
use Rattle.vx_sound.specs.Facts.{AreNamesRight, HasTarget, IsRoot, FitNames, AreLinksRight}
use Rattle.vx_sound.specs.Reading.{HasWholeBlocks}
use Rattle.vx_sound.proofs.Sounds.{there}
use Rattle.vx_model.specs.Tree.{Nodes, Node}
use Rattle.vx_model.specs.Walks.{root}
use Rattle.vx_model.specs.Reads.{node_by, node_said, entries_from}
use Rattle.vx_model.specs.NameLaws.{names_in, name_count, link_number, HasLinks}
use Rattle.vx_model.proofs.Counting.{no_names}
use Rattle.vx_model.proofs.Spelled.{all_both}
use Rattle.vx_wellformed.specs.WellFormed.{HasNames}
use Rattle.vx_wellformed.proofs.EntryNames.{meaning, naming, naming_first, counted_alike, one}
use Rattle.vx_said.proofs.Inodes.{low}
use Rattle.vx_said.proofs.States.{state, layout, has_whole_blocks, nodes_are, entries_are, entries_spelled, is_node}
use Rattle.vx_said.proofs.LayingOut.{IsSoundImage}

-- ---- names of several blocks

names_both : (before xs ys : List DirEntry) → AreNamesRight before xs → AreNamesRight (before ++ xs) ys → AreNamesRight before (xs ++ ys)
names_both before [] ys h k = subst (λ (es : List DirEntry). AreNamesRight es ys) (append-nil before) k
names_both before (x ∷ xs) ys h k = (h.0, h.1, names_both (before ++ x ∷ []) xs ys h.2 (subst (λ (es : List DirEntry). AreNamesRight es ys) (sym (append_assoc before (x ∷ []) xs)) k))

names_all : (es : ℕ → List DirEntry) (before : List DirEntry) (bs : List ℕ) → ((k : ℕ) → k < length bs → AreNamesRight (before ++ flat_map es (take k bs)) (es (get_or bs k 0))) → AreNamesRight before (flat_map es bs)
names_all es before [] each = tt
names_all es before (b ∷ bs) each =
    names_both before (es b) (flat_map es bs) (subst (λ (xs : List DirEntry). AreNamesRight xs (es b)) (append-nil before) (each 0 (omega arith)))
    (names_all es (before ++ es b) bs (λ k less.
    subst (λ (xs : List DirEntry). AreNamesRight xs (es (get_or bs k 0))) (sym (append_assoc before (es b) (flat_map es (take k bs)))) (each (suc k) (omega (arith, less)))))

targets_all : (P : DirEntry → Type 0) (es : ℕ → List DirEntry) (bs : List ℕ) → ((k : ℕ) → k < length bs → AllByRecursion P (es (get_or bs k 0))) → AllByRecursion P (flat_map es bs)
targets_all P es [] each = tt
targets_all P es (b ∷ bs) each = all_both P (es b) (flat_map es bs) (each 0 (omega arith)) (targets_all P es bs (λ k less. each (suc k) (omega (arith, less))))

-- ---- lists of numbers

numbers_more : (a n : ℕ) → numbers a (suc n) ≡ numbers a n ++ (a + n) ∷ []
numbers_more a zero = let e : a + 0 ≡ a = omega arith in ap (λ (x : ℕ). x ∷ []) (sym e)
numbers_more a (suc n) = let f : suc a + n ≡ a + suc n = omega arith in
    ap (λ (xs : List ℕ). a ∷ xs) (numbers_more (suc a) n) ∙ ap (λ (x : ℕ). a ∷ (numbers (suc a) n ++ x ∷ [])) f

listed_more : {X : Type 0} (f : ℕ → List X) (n : ℕ) → flat_map f (numbers 0 (suc n)) ≡ flat_map f (numbers 0 n) ++ f n
listed_more f n =
    let e : 0 + n ≡ n = omega arith in
    ap (flat_map f) (numbers_more 0 n) ∙ flat_map-append f (numbers 0 n) ((0 + n) ∷ [])
    ∙ ap (λ xs. flat_map f (numbers 0 n) ++ xs) (append-nil (f (0 + n)))
    ∙ ap (λ (m : ℕ). flat_map f (numbers 0 n) ++ f m) e

module _ (v : Super) (device_sectors : ℕ) (image : Image) (is : IsSoundImage v device_sectors image) where
  abbrev w : Volume
  w = volume_of v

  abbrev nodes : Nodes
  nodes = (state v device_sectors image).tree.nodes

  abbrev blocks_said_at : ℕ → List ℕ
  blocks_said_at n = directory_blocks w image (inode_said w image n)

  whole : HasWholeBlocks w
  whole = has_whole_blocks v device_sectors image

  -- an inode with a block is in use
  block_low : (n k : ℕ) (o : Option InodeValue) → inode_said w image n ≡ o → k < length (directory_blocks w image o) → n < 128 * v.units
  block_low n k None e less = absurd (omega (arith, less))
  block_low n k (Some i) e less = low v image whole is.sound n i e

  all_entries : (n : ℕ) → said.entries_of w image n ≡ flat_map (entries_said w image) (blocks_said_at n)
  unfolding said.entries_of
  all_entries n = refl

  names_right : (n : ℕ) → AreNamesRight [] (flat_map (entries_said w image) (blocks_said_at n))
  names_right n = names_all (entries_said w image) [] (blocks_said_at n) (λ k less.
      (let r = (is.sound.inodes n (block_low n k (inode_said w image n) refl less)).entries k less in
      subst (AreNamesRight (entries_below w image n k)) (sym (entries_spelled v device_sectors image whole is.sound n k r)) r.names))

  pub has_names : HasNames (layout v device_sectors image)
  has_names n = subst (AreNamesRight []) (sym (all_entries n) ∙ entries_are v device_sectors image n) (names_right n)

  -- ---- names are counted alike

  kind_counted : (i n : ℕ) (j : InodeValue) (k : FileKind) → inode_said w image n ≡ Some j → j.inode.kind ≡ k → naming i (flat_map (entries_said w image) (blocks_by_kind w image j k)) ≡ names_in i (Some (node_by k w image n j))
  kind_counted i n j File e kind = refl
  kind_counted i n j Directory e kind =
      let here : blocks_said_at n ≡ blocks_by_kind w image j Directory = ap (directory_blocks w image) e ∙ ap (blocks_by_kind w image j) kind in
      let es : List DirEntry = flat_map (entries_said w image) (blocks_by_kind w image j Directory) in
      let same : said.entries_of w image n ≡ es = all_entries n ∙ ap (flat_map (entries_said w image)) here in
      let right : AreNamesRight [] es = subst (AreNamesRight []) (sym (all_entries n) ∙ same) (names_right n) in
      sym (ap (λ (xs : List DirEntry). meaning i (map_of.entries (entries_from xs))) same ∙ counted_alike i [] es right)

  node_counted : (i n : ℕ) (o : Option InodeValue) → inode_said w image n ≡ o → naming i (flat_map (entries_said w image) (directory_blocks w image o)) ≡ names_in i (option_and_then (node_said w image n) o)
  node_counted i n None e = refl
  node_counted i n (Some j) e = kind_counted i n j j.inode.kind e refl ∙ ap (names_in i) (sym (is_node v device_sectors image whole is.sound n j e))

  pub counted : (i n : ℕ) → naming i (said.entries_of w image n) ≡ names_in i (map_of.get nodes n)
  counted i n = ap (naming i) (all_entries n) ∙ node_counted i n (inode_said w image n) refl ∙ ap (names_in i) (sym (nodes_are v device_sectors image n))

  counted_below : (i n : ℕ) → naming i (flat_map (said.entries_of w image) (numbers 0 n)) ≡ name_count nodes n i
  unfolding name_count
  counted_below i zero = refl
  counted_below i (suc n) =
      ap (naming i) (listed_more (said.entries_of w image) n)
      ∙ omega (
        arith,
        sum_by-append (λ (e : DirEntry). cond (e.ino == i) 1 0) (flat_map (said.entries_of w image) (numbers 0 n)) (said.entries_of w image n),
        counted i n,
        counted_below i n,
      )

  names_alike : (i : ℕ) → names_of w image i ≡ name_count nodes (128 * v.units) i
  unfolding names_of
  names_alike i = counted_below i (128 * v.units)

  -- ---- what is not in use has no name

  targets : (d : ℕ) → AllByRecursion (HasTarget w image) (flat_map (entries_said w image) (blocks_said_at d))
  targets d = targets_all (HasTarget w image) (entries_said w image) (blocks_said_at d) (λ k less.
      (is.sound.inodes d (block_low d k (inode_said w image d) refl less)).targets k less)

  unnamed_by : (i : ℕ) (es : List DirEntry) → inode_said w image i ≡ None → AllByRecursion (HasTarget w image) es → naming i es ≡ 0
  unnamed_by i [] e all = refl
  unnamed_by i (x ∷ es) e all = elim (cases_eq x.ino i) [
    | inl same ↦ absurd (let c : false ≡ true = sym (ap is_some (ap (inode_said w image) same ∙ e)) ∙ all.0 in cc)
    | inr other ↦ (let first = naming_first i x es in let none : one x.ino i ≡ 0 = ap (λ t. cond t 1 0) (ne_eqb x.ino i other) in let rest = unnamed_by i es e all.1 in omega (arith, first, none, rest))
  ]

  unnamed : (i : ℕ) → inode_said w image i ≡ None → name_count nodes (128 * v.units) i ≡ 0
  unnamed i e = no_names nodes i (λ k. sym (counted i k) ∙ ap (naming i) (all_entries k) ∙ unnamed_by i (flat_map (entries_said w image) (blocks_said_at k)) e (targets k)) (128 * v.units)

  -- ---- link numbers

  kind_links : (n : ℕ) (j : InodeValue) (k : FileKind) → n ≢ root → FitNames true w image n j k → names_of w image n ≡ link_number n (Some (node_by k w image n j))
  kind_links n j File ne fit = fit.links
  kind_links n j Directory ne fit = fit.one ∙ ap (λ t. cond t 0 1) (sym (ne_eqb n root ne))

  root_links : (k : FileKind) (j : InodeValue) → k ≡ Directory → link_number root (Some (node_by k w image root j)) ≡ 0
  root_links File j kind = absurd cc
  root_links Directory j kind = refl

  used_links : (n : ℕ) (j : InodeValue) → inode_said w image n ≡ Some j → AreLinksRight true w image n → names_of w image n ≡ link_number n (Some (node_by j.inode.kind w image n j))
  used_links n j e right = elim (cases_eq n root) [
    | inl at ↦ subst (λ (m : ℕ). inode_said w image m ≡ Some j → IsRoot w image (inode_said w image m) → names_of w image m ≡ link_number m (Some (node_by j.inode.kind w image m j))) (sym at) (at_root j) e (right.root_is at)
    | inr ne ↦ kind_links n j j.inode.kind ne (there (λ (i : InodeValue). FitNames true w image n i i.inode.kind) (inode_said w image n) j e (right.other ne))
  ]
    where
      at_root : (j : InodeValue) → inode_said w image root ≡ Some j → IsRoot w image (inode_said w image root) → names_of w image root ≡ link_number root (Some (node_by j.inode.kind w image root j))
      at_root j e is_root =
          let known : Some j.inode.kind ≡ Some Directory = sym (ap (option_map (λ (i : InodeValue). i.inode.kind)) e) ∙ is_root.directory in
          is_root.no_name ∙ sym (root_links j.inode.kind j cc)

  links_by : (n : ℕ) (o : Option InodeValue) → inode_said w image n ≡ o → name_count nodes (128 * v.units) n ≡ link_number n (option_and_then (node_said w image n) o)
  links_by n None e = unnamed n e
  links_by n (Some j) e =
      sym (names_alike n) ∙ used_links n j e (is.sound.links n (low v image whole is.sound n j e))
      ∙ ap (link_number n) (sym (is_node v device_sectors image whole is.sound n j e))

  node_low : (n : ℕ) (o : Option InodeValue) (node : Node) → inode_said w image n ≡ o → option_and_then (node_said w image n) o ≡ Some node → n < 128 * v.units
  node_low n None node e there_ = absurd cc
  node_low n (Some j) node e there_ = low v image whole is.sound n j e

  pub has_links : HasLinks (state v device_sectors image)
  has_links = record {
    low = λ n node there_. node_low n (inode_said w image n) node refl (sym (nodes_are v device_sectors image n) ∙ there_);
    links = λ n. links_by n (inode_said w image n) refl ∙ ap (link_number n) (sym (nodes_are v device_sectors image n));
  }
