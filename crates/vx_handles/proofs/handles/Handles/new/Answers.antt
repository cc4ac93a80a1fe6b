use Rattle.vx_handles.proofs.Kept.{kept_empty}
use Rattle.vx_handles.proofs.handles.Handles.new.Goals as goal

pub invariant_of-result : goal.invariant_of-result
invariant_of-result c = kept_empty c.in_ok-entries.entries c.in_ok-entries.ensures.empty c.in_ok-entries.ensures.capacity
