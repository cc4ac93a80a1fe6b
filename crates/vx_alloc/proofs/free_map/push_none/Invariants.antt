use Rattle.std.proofs.Common.{◌≡◌, ◌≤◌, ◌++◌, replicate, None}
use Rattle.std.specs.Vec.{vec_capacity}
use Rattle.vx_alloc.proofs.free_map.push_none.Given as goal

-- the blocks so far, and no less room
abbrev pub invariant-loop-block : goal.invariant-loop-block
invariant-loop-block l = record {
  items : l.places.items ≡ l.initial.places.items ++ replicate l._block None;
  capacity : vec_capacity l.initial.places ≤ vec_capacity l.places;
}
