-- The lowest unused inode number is unused, if there is one.
use Rattle.std.proofs.Common.{◌≡◌, ℕ, zero, suc, ◌+◌, ◌*◌, ◌<◌, ◌≤◌, Bool, true, false, cond, Option, Some, None, refl, arith}
use Rattle.std.specs.Prelude.{is_some}
use Rattle.std.specs.FinMap as map
use Rattle.vx_model.specs.Tree.{Nodes, Node, lowest_absent, lowest_unused}

free_by : (nodes : Nodes) (more from : ℕ) (o : Option Node) → map.get nodes from ≡ o
    → (lowest_absent nodes more (from + 1) < from + 1 + more → map.get nodes (lowest_absent nodes more (from + 1)) ≡ None)
    → cond (is_some o) (lowest_absent nodes more (from + 1)) from < from + suc more → map.get nodes (cond (is_some o) (lowest_absent nodes more (from + 1)) from) ≡ None
free_by nodes more from None is next lt = is
free_by nodes more from (Some node) is next lt = next (omega arith)

absent_free : (nodes : Nodes) (fuel from : ℕ) → lowest_absent nodes fuel from < from + fuel → map.get nodes (lowest_absent nodes fuel from) ≡ None
absent_free nodes zero from lt = absurd (omega arith)
absent_free nodes (suc more) from lt = free_by nodes more from (map.get nodes from) refl (absent_free nodes more (from + 1)) lt

low_by : (t : Bool) (x from : ℕ) → from + 1 ≤ x → from ≤ cond t x from
low_by true x from h = omega arith
low_by false x from h = omega arith

absent_low : (nodes : Nodes) (fuel from : ℕ) → from ≤ lowest_absent nodes fuel from
absent_low nodes zero from = omega arith
absent_low nodes (suc more) from = low_by (is_some (map.get nodes from)) (lowest_absent nodes more (from + 1)) from (absent_low nodes more (from + 1))

pub unused_low : (units : ℕ) (nodes : Nodes) → 3 ≤ lowest_unused units nodes
unused_low units nodes = absent_low nodes (128 * units) 3

pub unused_free : (units : ℕ) (nodes : Nodes) → lowest_unused units nodes < 128 * units → map.get nodes (lowest_unused units nodes) ≡ None
unused_free units nodes lt = absent_free nodes (128 * units) 3 (omega arith)
