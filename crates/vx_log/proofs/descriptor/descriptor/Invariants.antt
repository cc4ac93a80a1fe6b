use Rattle.std.proofs.Common.{◌≡◌, ◌+◌, ◌*◌, ◌++◌, length, take, map}
use Rattle.std.specs.Int.{w32, w64, to_le_bytes}
use Rattle.std.specs.List.{flat_map}
use Rattle.vx_layout.specs.LogForms.{AfterImage, record_magic}
use Rattle.vx_log.proofs.descriptor.descriptor.Given as goal

abbrev pub invariant-loop-entry : goal.invariant-loop-entry
invariant-loop-entry l = record {
  long : length l.sheet ≡ 16 + 4 * l.entry-index;
  text : l.sheet ≡ record_magic ++ to_le_bytes w32 (length l.images) ++ to_le_bytes w64 l.position ++ flat_map (to_le_bytes w32) (map (λ (e : AfterImage). e.0) (take l.entry-index l.images));
}
