-- What link numbers say of names.
use Rattle.std.proofs.Common.{◌≡◌, ◌≢◌, ℕ, zero, suc, ◌+◌, ◌*◌, ◌<◌, ◌≤◌, Bool, true, false, cond, List, [], ◌∷◌, Option, Some, None, refl, sym, ap, subst, ◌∙◌, arith, inl, inr}
use Rattle.std.specs.Prelude.{◌&&◌, IsSome, T}
use Rattle.std.specs.declared.cmp.Ordering.{Ordering}
use Rattle.std.specs.declared.cmp.Ordering.TheVariants.{Less, Equal, Greater}
use Rattle.std.specs.Ordering.{nat_cmp, is_eq, is_lt, eq_by_cmp}
use Rattle.std.specs.Cmp.{tied_itself}
use Rattle.std.specs.Cmp.Lexicographic.{slice_cmp, nat_list_cmp_total}
use Rattle.std.specs.FinMap as map
use Rattle.std.specs.FinMap.Entries.{find, below_all, is_sorted}
use Rattle.std.proofs.lemmas.Bool.{cases_eq, cases_lt, eq-eqb, ne_eqb}
use Rattle.vx_base.proofs.Maps.{apart}
use Rattle.vx_base.specs.Paths.{FileName}
use Rattle.vx_model.specs.Tree.{Nodes, Node, File, Directory, IsFile, IsDirectory}
use Rattle.vx_model.specs.State.{State}
use Rattle.vx_model.specs.Walks.{root}
use Rattle.vx_model.specs.Legal.{IfThere}
use Rattle.vx_model.specs.LaidOut.{IsDirectoryNode}
use Rattle.vx_model.specs.NameLaws.{meaning_in, lookup, names_in, name_count, link_number, HasLinks}
use Rattle.vx_wellformed.proofs.EntryNames.{names_cmp, one, meaning, meaning_first}

-- ---- the entries of one directory

names_same : map.IsAntisymmetric (slice_cmp nat_cmp)
names_same = map.slice_cmp-IsAntisymmetric map.nat_cmp-IsAntisymmetric

pub one_same : (v i : ℕ) → v ≡ i → one v i ≡ 1
one_same v i e = ap (λ t. cond t 1 0) (eq-eqb v i e)

one_other : (v i : ℕ) → v ≢ i → one v i ≡ 0
one_other v i ne = ap (λ t. cond t 1 0) (ne_eqb v i ne)

counted_by : (i : ℕ) (k : FileName) (e : FileName × ℕ) (es : List (FileName × ℕ)) (t : Bool) → (find names_cmp k es ≡ Some i → 1 ≤ meaning i es) → cond t (Some e.1) (find names_cmp k es) ≡ Some i → 1 ≤ meaning i (e ∷ es)
counted_by i k e es true rest h = let same : e.1 ≡ i = cc in omega (arith, one_same e.1 i same, meaning_first i e es)
counted_by i k e es false rest h = omega (arith, rest h, meaning_first i e es)

-- a name that means an inode is counted
found_counted : (i : ℕ) (k : FileName) (es : List (FileName × ℕ)) → find names_cmp k es ≡ Some i → 1 ≤ meaning i es
found_counted i k [] h = absurd cc
found_counted i k (e ∷ es) h = counted_by i k e es (eq_by_cmp names_cmp k e.0) (found_counted i k es) h

below_by : (r : Ordering) (k : FileName) (e : FileName × ℕ) (es : List (FileName × ℕ)) → T (is_lt r && below_all names_cmp k es) → (T (below_all names_cmp k es) → find names_cmp k es ≡ None)
    → cond (is_eq r) (Some e.1) (find names_cmp k es) ≡ None
below_by Less k e es h rest = rest h
below_by Equal k e es h rest = absurd h
below_by Greater k e es h rest = absurd h

none_below : (k : FileName) (es : List (FileName × ℕ)) → T (below_all names_cmp k es) → find names_cmp k es ≡ None
none_below k [] h = refl
none_below k (e ∷ es) h = below_by (names_cmp k e.0) k e es h (none_below k es)

first_part : (a b : Bool) → T (a && b) → T a
first_part true b h = tt
first_part false b h = h

second_part : (a b : Bool) → T (a && b) → T b
second_part true b h = h
second_part false b h = absurd h

here_found : (e : FileName × ℕ) (es : List (FileName × ℕ)) → find names_cmp e.0 (e ∷ es) ≡ Some e.1
here_found e es = ap (λ b. cond b (Some e.1) (find names_cmp e.0 es)) (ap is_eq (tied_itself nat_list_cmp_total e.0))

not_first : (i : ℕ) (k : FileName) (e : FileName × ℕ) (es : List (FileName × ℕ)) → T (below_all names_cmp e.0 es) → find names_cmp k es ≡ Some i → k ≢ e.0
not_first i k e es below is same = let c : None ≡ Some i = sym (none_below e.0 es below) ∙ ap (λ (x : FileName). find names_cmp x es) (sym same) ∙ is in absurd cc

later_found : (i : ℕ) (k : FileName) (e : FileName × ℕ) (es : List (FileName × ℕ)) → T (below_all names_cmp e.0 es) → find names_cmp k es ≡ Some i → find names_cmp k (e ∷ es) ≡ Some i
later_found i k e es below is = ap (λ b. cond b (Some e.1) (find names_cmp k es)) (apart names_cmp names_same k e.0 (not_first i k e es below is)) ∙ is

-- and what is counted has a name
counted_found : (i : ℕ) (es : List (FileName × ℕ)) → T (is_sorted names_cmp es) → 1 ≤ meaning i es → (k : FileName) × (find names_cmp k es ≡ Some i)
counted_found i [] sorted some = absurd (omega arith)
counted_found i (e ∷ es) sorted some = elim (cases_eq e.1 i) [
  | inl same ↦ (e.0, here_found e es ∙ ap Some same)
  | inr other ↦
      let rest = counted_found i es (second_part (below_all names_cmp e.0 es) (is_sorted names_cmp es) sorted) (omega (arith, meaning_first i e es, one_other e.1 i other)) in
      (rest.0, later_found i rest.0 e es (first_part (below_all names_cmp e.0 es) (is_sorted names_cmp es) sorted) rest.1)
]

-- ---- a node

pub named_counted : (i : ℕ) (name : FileName) (o : Option Node) → meaning_in name o ≡ Some i → 1 ≤ names_in i o
named_counted i name None h = absurd cc
named_counted i name (Some (IsFile f)) h = absurd cc
named_counted i name (Some (IsDirectory d)) h = found_counted i name (map.entries d.entries) (sym (map.get-entries d.entries name) ∙ h)

pub counted_named : (i : ℕ) (o : Option Node) → 1 ≤ names_in i o → (name : FileName) × (meaning_in name o ≡ Some i)
counted_named i None h = absurd (omega arith)
counted_named i (Some (IsFile f)) h = absurd (omega arith)
counted_named i (Some (IsDirectory d)) h =
    let there = counted_found i (map.entries d.entries) (map.entries_sorted d.entries) h in
    (there.0, map.get-entries d.entries there.0 ∙ there.1)

pub named_directory : (name : FileName) (i : ℕ) (o : Option Node) → meaning_in name o ≡ Some i → (d : Directory) × (o ≡ Some (IsDirectory d))
named_directory name i None h = absurd cc
named_directory name i (Some (IsFile f)) h = absurd cc
named_directory name i (Some (IsDirectory d)) h = (d, refl)

-- ---- all directories

pub counted_among : (nodes : Nodes) (i at n : ℕ) → at < n → names_in i (map.get nodes at) ≤ name_count nodes n i
unfolding name_count
counted_among nodes i at zero less = absurd (omega arith)
counted_among nodes i at (suc n) less = elim (cases_eq at n) [
  | inl e ↦ subst (λ (k : ℕ). names_in i (map.get nodes k) ≤ names_in i (map.get nodes n) + name_count nodes n i) (sym e) (omega arith)
  | inr ne ↦ omega (arith, counted_among nodes i at n (omega arith))
]

pub record Parent (nodes : Nodes) (n i : ℕ) : Type 0 where
  pub at : ℕ
  pub low : at < n
  pub name : FileName
  pub means : lookup nodes at name ≡ Some i

parent_below : (nodes : Nodes) (n i : ℕ) → Parent nodes n i → Parent nodes (suc n) i
parent_below nodes n i p = let less = p.low in record { at = p.at; low = omega arith; name = p.name; means = p.means }

-- an inode with a name is in some directory
pub parent_of : (nodes : Nodes) (n i : ℕ) → 1 ≤ name_count nodes n i → Parent nodes n i
unfolding name_count
parent_of nodes zero i some = absurd (omega arith)
parent_of nodes (suc n) i some = elim (cases_lt 0 (names_in i (map.get nodes n))) [
  | inl more ↦
      let there = counted_named i (map.get nodes n) (omega arith) in
      record { at = n; low = omega arith; name = there.0; means = there.1 }
  | inr none ↦ parent_below nodes n i (parent_of nodes n i (omega arith))
]

-- ---- link numbers

pub linked : (i : ℕ) (o : Option Node) → 1 ≤ link_number i o → IsSome o
linked i None h = absurd (omega arith)
linked i (Some node) h = refl

module _ (s : State) (links : HasLinks s) where
  -- each name is counted
  pub name_counted : (at : ℕ) (name : FileName) (i : ℕ) → lookup s.tree.nodes at name ≡ Some i → 1 ≤ link_number i (map.get s.tree.nodes i)
  name_counted at name i means =
      let d = named_directory name i (map.get s.tree.nodes at) means in
      let low = links.low at (IsDirectory d.0) d.1 in
      let one_ = named_counted i name (map.get s.tree.nodes at) means in
      let all = counted_among s.tree.nodes i at (128 * s.layout.units) low in
      let is = links.links i in
      omega arith

  pub in_use : (at : ℕ) (name : FileName) (i : ℕ) → lookup s.tree.nodes at name ≡ Some i → IsSome (map.get s.tree.nodes i)
  in_use at name i means = linked i (map.get s.tree.nodes i) (name_counted at name i means)

  unlinked : (o : Option Node) → IfThere o IsDirectoryNode → link_number root o ≡ 0
  unlinked None h = absurd h
  unlinked (Some (IsFile f)) h = absurd h
  unlinked (Some (IsDirectory d)) h = refl

  -- none is the root's
  pub not_root : IfThere (map.get s.tree.nodes root) IsDirectoryNode → (at : ℕ) (name : FileName) (i : ℕ) → lookup s.tree.nodes at name ≡ Some i → i ≢ root
  not_root is at name i means e =
      let some = name_counted at name root (means ∙ ap Some e) in
      let none = unlinked (map.get s.tree.nodes root) is in
      omega arith

  pub root_names : IfThere (map.get s.tree.nodes root) IsDirectoryNode → name_count s.tree.nodes (128 * s.layout.units) root ≡ 0
  root_names is = links.links root ∙ unlinked (map.get s.tree.nodes root) is

  pub file_names : (n : ℕ) (f : File) → map.get s.tree.nodes n ≡ Some (IsFile f) → name_count s.tree.nodes (128 * s.layout.units) n ≡ f.nlink
  file_names n f there = links.links n ∙ ap (link_number n) there

  pub directory_names : (n : ℕ) (d : Directory) → map.get s.tree.nodes n ≡ Some (IsDirectory d) → n ≢ root → name_count s.tree.nodes (128 * s.layout.units) n ≡ 1
  directory_names n d there ne = links.links n ∙ ap (link_number n) there ∙ ap (λ t. cond t 0 1) (ne_eqb n root ne)
