use Rattle.std.proofs.Common.{◌≡◌, ℕ, false, get_or}
use Rattle.std.specs.Vec.{vec_capacity}
use Rattle.vx_alloc.specs.RunIndexes.{covers}
use Rattle.vx_alloc.proofs.Releases.{IsReleasedTo}
use Rattle.vx_alloc.proofs.free_map.release_before.Given as goal

abbrev pub invariant-loop-i : goal.invariant-loop-i
invariant-loop-i l = record {
  released : IsReleasedTo l.upto l.fn.free.items l.fn.pending.items l.count l.i l.free.items l.pending.items;
  covered : (k : ℕ) → covers l.runs.runs k ≡ get_or l.free.items k false;
  room : l.runs.room ≡ l.fn.runs.room;
  free_capacity : vec_capacity l.free ≡ vec_capacity l.fn.free;
  pending_capacity : vec_capacity l.pending ≡ vec_capacity l.fn.pending;
}
