use Rattle.std.proofs.Common.{ℕ, List, Option, Some, None, IfSome, IfNone, subst}
use Rattle.std.specs.List.Sorted.{IsNonDecreasingBy}
use Rattle.vx_alloc.specs.declared.run_index.Run.{Run}
use Rattle.vx_alloc.specs.RunIndexes.{RunIndexView, rank, AreSame, IsLongestRun, HasNoneBelow, IsLastBelow}
use Rattle.vx_alloc.proofs.Fits.{longest_from_last, none_below_from}
use Rattle.vx_alloc.proofs.run_index.RunIndex.longest.Goals as goal

found_any : (runs others : List Run) (limit : ℕ) (r : Option Run) → AreSame runs others → IsNonDecreasingBy rank others → IfSome r (λ run. IsLastBelow others limit run) → IfSome r (λ run. IsLongestRun runs limit run)
found_any runs others limit (Some run) same ranked last = longest_from_last runs others limit run same ranked last
found_any runs others limit None same ranked last = tt

none_any : (runs others : List Run) (limit : ℕ) (r : Option Run) → AreSame runs others → IfNone r (HasNoneBelow others limit) → IfNone r (HasNoneBelow runs limit)
none_any runs others limit (Some run) same none = tt
none_any runs others limit None same none = none_below_from runs others limit same none

pub returns-clause-found : goal.returns-clause-found
returns-clause-found c =
    let fields = c.self.inside in
    let last = subst (λ (runs : List Run). IfSome c.last_below.result (λ run. IsLastBelow runs c.args.limit run)) c.as_slice.ensures.value c.last_below.ensures.found in
    subst (λ (v : RunIndexView). IfSome c.last_below.result (λ run. IsLongestRun v.runs c.args.limit run)) c.self.view_is (found_any fields.by_start.items fields.by_length.items c.args.limit c.last_below.result c.self.invariant.same c.self.invariant.ranked last)

pub returns-clause-none : goal.returns-clause-none
returns-clause-none c =
    let fields = c.self.inside in
    let last = subst (λ (runs : List Run). IfNone c.last_below.result (HasNoneBelow runs c.args.limit)) c.as_slice.ensures.value c.last_below.ensures.none in
    subst (λ (v : RunIndexView). IfNone c.last_below.result (HasNoneBelow v.runs c.args.limit)) c.self.view_is (none_any fields.by_start.items fields.by_length.items c.args.limit c.last_below.result c.self.invariant.same last)
