-- The tree of a state with what is settled: there is one, its shape is that of the state, and without bytes it is the state's own.
use Rattle.std.proofs.Common.{◌≡◌, ◌*◌, ◌≤◌, ◌<◌, ℕ, zero, suc, Bool, true, false, cond, List, [], length, refl, sym, ◌∙◌, ap, subst, inl, inr, arith}
use Rattle.std.specs.Prelude.{Option, Some, None, ◌≢◌, ◌==◌, ◌&&◌, not, nat_le, bit_and, IfSome}
use Rattle.std.proofs.Math.Bool.{and-true}
use Rattle.std.specs.Option.{option_and_then}
use Rattle.std.specs.FinMap as map
use Rattle.std.specs.Ordering.{nat_cmp}
use Rattle.std.specs.Cmp.{nat_cmp_total}
use Rattle.std.proofs.lemmas.Bool.{cases_lt, cases_eq, cases_Bool, ne_eqb}
use Rattle.vx_base.proofs.Maps.{at_key, at_other}
use Rattle.vx_base.specs.declared.call.ExtAttrs.{ExtAttrs}
use Rattle.vx_model.specs.Tree.{File, Node, IsFile, IsDirectory, Tree, Nodes, Opened, handle_cmp, tree_of_nodes}
use Rattle.vx_space.specs.Space.{Space, no_space, page_blocks, maps_for}
use Rattle.vx_model.specs.Layout.{Layout, space_at}
use Rattle.vx_model.specs.State.{State}
use Rattle.vx_model.specs.Reads.{bytes_of}
use Rattle.vx_model.specs.LaidOut.{IsLaidOut, IsHeld, IsPlain, IsPlainFile, IsPlainHeld, IsClosed, IsOnDevice, HasNothing}
use Rattle.vx_model.specs.Settled.{settled_node, IsSettledTree}
use Rattle.vx_model.specs.Shapes.{kept_attrs, node_shape, shape, FileShape}
use Rattle.vx_model.specs.Removing.{is_last}
use Rattle.vx_model.proofs.Handles.{unopened_is}
use Rattle.vx_model.proofs.Spelled.{nothing_at, no_pages, directory_pages}

-- the nodes of these numbers
abbrev with_node : ℕ → Option Node → Nodes → Nodes
with_node n None nodes = nodes
with_node n (Some x) nodes = map.insert nodes n x

abbrev nodes_below : (ℕ → Option Node) → ℕ → Nodes
nodes_below f zero = map.empty
nodes_below f (suc n) = with_node n (f n) (nodes_below f n)

with_other : (n k : ℕ) (o : Option Node) (nodes : Nodes) → (k ≡ n → ⊥) → map.get (with_node n o nodes) k ≡ map.get nodes k
with_other n k None nodes other = refl
with_other n k (Some x) nodes other = at_other nodes n x k other

with_here : (n : ℕ) (o : Option Node) (nodes : Nodes) → map.get nodes n ≡ None → map.get (with_node n o nodes) n ≡ o
with_here n None nodes none = none
with_here n (Some x) nodes none = at_key nodes n x

none_above : (f : ℕ → Option Node) (n k : ℕ) → n ≤ k → map.get (nodes_below f n) k ≡ None
none_above f zero k le = map.get-empty nat_cmp k
none_above f (suc n) k le = with_other n k (f n) (nodes_below f n) (λ e. absurd (omega (arith, e, le))) ∙ none_above f n k (omega (arith, le))

below_is : (f : ℕ → Option Node) (n k : ℕ) → k < n → map.get (nodes_below f n) k ≡ f k
below_is f zero k lt = absurd (omega (arith, lt))
below_is f (suc n) k lt = elim (cases_eq k n) [
  | inl e ↦ subst (λ (j : ℕ). map.get (nodes_below f (suc n)) j ≡ f j) (sym e) (with_here n (f n) (nodes_below f n) (none_above f n n (omega arith)))
  | inr other ↦ with_other n k (f n) (nodes_below f n) other ∙ below_is f n k (omega (arith, lt, other))
]

module _ (s : State) (is : IsLaidOut s) (data_at : ℕ → List ℕ) where
  abbrev node_at : ℕ → Option Node
  node_at n = option_and_then (settled_node data_at (space_at s.layout n)) (map.get s.tree.nodes n)

  absent : (n : ℕ) (o : Option Node) → map.get s.tree.nodes n ≡ o → IsHeld s.layout n o → 128 * s.layout.units ≤ n → option_and_then (settled_node data_at (space_at s.layout n)) o ≡ None
  absent n None at held past = refl
  absent n (Some node) at held past = (let low : n < 128 * s.layout.units = held.2 in absurd (omega (arith, low, past)))

  -- there is a tree with settled sizes
  abbrev pub settled_tree : Tree
  settled_tree = tree_of_nodes (nodes_below node_at (128 * s.layout.units))

  pub settled_tree_is : IsSettledTree s data_at settled_tree
  settled_tree_is = record {
    nodes = λ n. elim (cases_lt n (128 * s.layout.units)) [
      | inl low ↦ below_is node_at (128 * s.layout.units) n low
      | inr past ↦ none_above node_at (128 * s.layout.units) n past ∙ sym (absent n (map.get s.tree.nodes n) refl (is.nodes n) past)
    ];
    rest = refl;
  }

kept_twice : (a : ExtAttrs) → kept_attrs (kept_attrs a) ≡ kept_attrs a
kept_twice a = elim (cases_Bool (bit_and a.flags 8 == 0)) [
  | inl on ↦ rw on (rw on refl)
  | inr off ↦ rw off (rw off refl)
]

shape_by : (data_at : ℕ → List ℕ) (x : Space) (o : Option Node) → option_and_then node_shape (option_and_then (settled_node data_at x) o) ≡ option_and_then node_shape o
shape_by data_at x None = refl
shape_by data_at x (Some (IsDirectory d)) = refl
shape_by data_at x (Some (IsFile f)) = by (f.nlink == 0) refl
  where
    g : File
    g = record f { attrs = kept_attrs f.attrs; bytes = bytes_of data_at x.settled x.size }

    by : (t : Bool) → (f.nlink == 0) ≡ t → option_and_then node_shape (cond t None (Some (IsFile g))) ≡ cond t None (Some (FileShape f.mode f.nlink (kept_attrs f.attrs)))
    by true is = refl
    by false is = rw is (ap (λ (a : ExtAttrs). Some (FileShape f.mode f.nlink a)) (kept_twice f.attrs))

-- its names and attributes are those of the state
pub settled_shape : (s : State) (data_at : ℕ → List ℕ) (t : Tree) → IsSettledTree s data_at t → (n : ℕ) → shape t n ≡ shape s.tree n
settled_shape s data_at t settled n = ap (option_and_then node_shape) (settled.nodes n) ∙ shape_by data_at (space_at s.layout n) (map.get s.tree.nodes n)

-- ---- without bytes

no_bytes : (data_at : ℕ → List ℕ) (x : Space) → x ≡ no_space → bytes_of data_at x.settled x.size ≡ []
unfolding bytes_of
no_bytes data_at x none = ap (λ (y : Space). bytes_of data_at y.settled y.size) none

plain_node : (data_at : ℕ → List ℕ) (x : Space) (f : File) → IsPlainFile f → x ≡ no_space → Some (IsFile f) ≡ settled_node data_at x (IsFile f)
plain_node data_at x f plain none =
    let some = plain.some_links in
    let linked : (f.nlink == 0) ≡ false = ne_eqb f.nlink 0 (λ e. absurd (omega (arith, some, e))) in
    let attrs : f.attrs ≡ kept_attrs f.attrs = plain.attrs ∙ ap kept_attrs (sym plain.attrs) in
    let bytes : f.bytes ≡ bytes_of data_at x.settled x.size = plain.bytes ∙ sym (no_bytes data_at x none) in
    (λ i. Some (IsFile (record { mode = f.mode; nlink = f.nlink; attrs = attrs i; bytes = bytes i })))
    ∙ sym (ap (λ (t : Bool). cond t None (Some (IsFile (record { mode = f.mode; nlink = f.nlink; attrs = kept_attrs f.attrs; bytes = bytes_of data_at x.settled x.size })))) linked)

plain_by : (s : State) (data_at : ℕ → List ℕ) → IsPlain s → (n : ℕ) (o : Option Node) → map.get s.tree.nodes n ≡ o → o ≡ option_and_then (settled_node data_at (space_at s.layout n)) o
plain_by s data_at plain n None at = refl
plain_by s data_at plain n (Some (IsFile f)) at = let both = plain.files n f at in plain_node data_at (space_at s.layout n) f both.0 both.1.space
plain_by s data_at plain n (Some (IsDirectory d)) at = refl

pub plain_settled : (s : State) (data_at : ℕ → List ℕ) → IsLaidOut s → IsPlain s → IsSettledTree s data_at s.tree
plain_settled s data_at is plain = record { nodes = λ n. plain_by s data_at plain n (map.get s.tree.nodes n) refl; rest = plain.rest }

-- a tree is what it has at each number
pub settled_once : (s : State) (data_at : ℕ → List ℕ) (t u : Tree) → IsSettledTree s data_at t → IsSettledTree s data_at u → t ≡ u
settled_once s data_at t u a b =
    let nodes : t.nodes ≡ u.nodes = map.same_map nat_cmp_total map.nat_cmp-IsAntisymmetric t.nodes u.nodes (λ n. a.nodes n ∙ sym (b.nodes n)) in
    a.rest ∙ ap tree_of_nodes nodes ∙ sym b.rest

-- ---- and nothing is held

nothing_on : (l : Layout) (n : ℕ) → HasNothing l n → IsOnDevice l n
nothing_on l n h =
    let two = nothing_at l n h in record {
      pages = ap (λ (x : Space). page_blocks x.settled) h.space ∙ ap (λ (x : Space). page_blocks x.present) (sym h.space);
      maps = ap maps_for (no_pages l n h) ∙ sym (ap (λ (ms : List ℕ). length ms) two.1);
    }

device_by : (s : State) → IsPlain s → (n : ℕ) (o : Option Node) → map.get s.tree.nodes n ≡ o → IsHeld s.layout n o → IsOnDevice s.layout n
device_by s plain n None at h = nothing_on s.layout n h
device_by s plain n (Some (IsFile f)) at h = nothing_on s.layout n (plain.files n f at).1
device_by s plain n (Some (IsDirectory d)) at h = record {
  pages = ap (λ (x : Space). page_blocks x.settled) h.0.space ∙ ap (λ (x : Space). page_blocks x.present) (sym h.0.space);
  maps = ap maps_for (directory_pages s.layout n d h.0) ∙ sym h.0.maps;
}

pub plain_on_device : (s : State) → IsLaidOut s → IsPlain s → (n : ℕ) → IsOnDevice s.layout n
plain_on_device s is plain n = device_by s plain n (map.get s.tree.nodes n) refl (is.nodes n)

plain_held_by : (s : State) → IsPlain s → (n : ℕ) (o : Option Node) → map.get s.tree.nodes n ≡ o → IsHeld s.layout n o → IsPlainHeld s.layout n o
plain_held_by s plain n None at h = h
plain_held_by s plain n (Some (IsFile f)) at h = plain.files n f at
plain_held_by s plain n (Some (IsDirectory d)) at h = h.0

pub plain_held : (s : State) → IsLaidOut s → IsPlain s → (n : ℕ) → IsPlainHeld s.layout n (map.get s.tree.nodes n)
plain_held s is plain n = plain_held_by s plain n (map.get s.tree.nodes n) refl (is.nodes n)

pub plain_closed : (s : State) (ino : ℕ) → IsPlain s → IsClosed s.tree ino
plain_closed s ino plain key =
    subst (λ (x : Option Opened). IfSome x (λ (o : Opened). o.ino ≢ ino)) (sym (ap (λ (t : Tree). map.get t.handles key) plain.rest ∙ map.get-empty handle_cmp key)) tt

-- no handle is open, so a file's last name is its last hold
pub plain_last : (s : State) (ino : ℕ) (f : File) → IsPlain s → is_last s.tree ino f ≡ nat_le f.nlink 1
plain_last s ino f plain =
    ap (λ (opened : Bool). nat_le f.nlink 1 && not opened) (unopened_is s.tree ino (plain_closed s ino plain)) ∙ and-true (nat_le f.nlink 1)
