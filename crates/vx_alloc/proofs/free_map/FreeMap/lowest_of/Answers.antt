use Rattle.std.proofs.Common.{Option, Some, None, IfSome, IfNone, ℕ}
use Rattle.vx_alloc.specs.FreeMaps.{FreeMapView, IsLowestRun, HasNoRun, IsLowestAligned, HasNoAligned}
use Rattle.vx_alloc.proofs.Placing.{lowest_unaligned, none_unaligned}
use Rattle.vx_alloc.proofs.free_map.FreeMap.lowest_of.Goals as goal

found_any : (view : FreeMapView) (n : ℕ) (r : Option ℕ) → IfSome r (λ b. IsLowestAligned view n 1 b) → IfSome r (λ b. IsLowestRun view n b)
found_any view n (Some b) found = lowest_unaligned view n b found
found_any view n None found = tt

none_any : (view : FreeMapView) (n : ℕ) (r : Option ℕ) → IfNone r (HasNoAligned view n 1) → IfNone r (HasNoRun view n)
none_any view n (Some b) none = tt
none_any view n None none = none_unaligned view n none

pub returns-clause-found : goal.returns-clause-found
returns-clause-found c = found_any c.args.self.now c.args.n c.lowest_run.result c.lowest_run.ensures.found

pub returns-clause-none : goal.returns-clause-none
returns-clause-none c = none_any c.args.self.now c.args.n c.lowest_run.result c.lowest_run.ensures.none
