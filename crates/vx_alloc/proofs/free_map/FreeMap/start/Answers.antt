use Rattle.std.proofs.Common.{ℕ, max, Option, Some, None, IfSome, sym, subst, inr}
use Rattle.vx_alloc.specs.FreeMaps.{FreeMapView, HasNoRun, IsAtLongest, IsStart}
use Rattle.vx_alloc.proofs.free_map.FreeMap.start.Goals as goal

no_first_extent : (view : FreeMapView) (n : ℕ) (r : Option ℕ) → HasNoRun view (max n 1) → IfSome r (λ b. IsAtLongest view b) → IfSome r (λ b. IsStart view (Some n) b)
no_first_extent view n (Some b) none found = inr (none, found)
no_first_extent view n None none found = tt

pub returns-in-None-lowest_of-clause-found : goal.returns-in-None-lowest_of-clause-found
returns-in-None-lowest_of-clause-found c =
    subst (λ first. IfSome c.at_longest.result (λ b. IsStart c.args.self.now first b)) (sym c.in-Some.is)
    (no_first_extent c.args.self.now c.in-Some.n c.at_longest.result (subst (HasNoRun c.args.self.now) c.max_of.ensures c.in-None-lowest_of.ensures.none) c.at_longest.ensures.found)
