use Rattle.std.proofs.Common.{◌≡◌, ℕ, Some, Contains}
use Rattle.slab.specs.Slab.{get}
use Rattle.vx_handles.specs.declared.handles.Entry.{Entry}
use Rattle.vx_handles.specs.OpenHandles.{key_of}
use Rattle.vx_handles.proofs.handles.place_of.Given as goal

-- an entry with the key is among those that are left, and each of these stands at its place
abbrev pub invariant-loop-place : goal.invariant-loop-place
invariant-loop-place l =
    (goal.iterator-loop-place).can_next l.place-iterator ×
    (goal.iterator-loop-place).is_finite l.place-iterator ×
    ((place : ℕ) (entry : Entry) → get l.entries place ≡ Some entry → key_of entry ≡ (l.session, l.handle) → Contains l.place-iterator (place, entry)) ×
    ((place : ℕ) (entry : Entry) → Contains l.place-iterator (place, entry) → get l.entries place ≡ Some entry)
