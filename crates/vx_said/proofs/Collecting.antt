-- Nodes collected from their numbers.
use Rattle.std.proofs.Common.{◌≡◌, ◌≢◌, ℕ, zero, suc, ◌<◌, ◌≤◌, Option, Some, None, inl, inr, refl, sym, subst, ◌∙◌, arith}
use Rattle.std.specs.Ordering.{nat_cmp}
use Rattle.std.specs.FinMap as map
use Rattle.std.proofs.lemmas.Bool.{cases_eq, cases_lt}
use Rattle.vx_base.proofs.Maps.{at_key, at_other}
use Rattle.vx_model.specs.Tree.{Nodes, Node}

abbrev with_node : Nodes → ℕ → Option Node → Nodes
with_node nodes n None = nodes
with_node nodes n (Some node) = map.insert nodes n node

-- those of the numbers below n
abbrev pub collected : (ℕ → Option Node) → ℕ → Nodes
collected f zero = map.empty
collected f (suc n) = with_node (collected f n) n (f n)

node_here : (nodes : Nodes) (n : ℕ) (o : Option Node) → map.get nodes n ≡ None → map.get (with_node nodes n o) n ≡ o
node_here nodes n None none = none
node_here nodes n (Some node) none = at_key nodes n node

node_there : (nodes : Nodes) (n : ℕ) (o : Option Node) (q : ℕ) → q ≢ n → map.get (with_node nodes n o) q ≡ map.get nodes q
node_there nodes n None q ne = refl
node_there nodes n (Some node) q ne = at_other nodes n node q ne

none_past : (f : ℕ → Option Node) (n q : ℕ) → n ≤ q → map.get (collected f n) q ≡ None
none_past f zero q past = map.get-empty nat_cmp q
none_past f (suc n) q past = node_there (collected f n) n (f n) q (λ e. absurd (omega (arith, e, past))) ∙ none_past f n q (omega (arith, past))

some_below : (f : ℕ → Option Node) (n q : ℕ) → q < n → map.get (collected f n) q ≡ f q
some_below f zero q low = absurd (omega (arith, low))
some_below f (suc n) q low = elim (cases_eq q n) [
  | inl e ↦ subst (λ (k : ℕ). map.get (collected f (suc n)) k ≡ f k) (sym e) (node_here (collected f n) n (f n) (none_past f n n (omega arith)))
  | inr ne ↦ node_there (collected f n) n (f n) q ne ∙ some_below f n q (omega (arith, low, ne))
]

-- where there is none past n, these are all
pub collected_all : (f : ℕ → Option Node) (n : ℕ) → ((q : ℕ) → n ≤ q → f q ≡ None) → (q : ℕ) → map.get (collected f n) q ≡ f q
collected_all f n none q = elim (cases_lt q n) [
  | inl low ↦ some_below f n q low
  | inr past ↦ none_past f n q (omega (arith, past)) ∙ sym (none q (omega (arith, past)))
]
