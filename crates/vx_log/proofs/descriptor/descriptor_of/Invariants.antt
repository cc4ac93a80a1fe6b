use Rattle.std.proofs.Common.{◌≡◌, ◌+◌, ◌*◌, ◌++◌, length, take}
use Rattle.std.specs.Int.{w32, w64, to_le_bytes}
use Rattle.std.specs.List.{flat_map}
use Rattle.vx_layout.specs.LogForms.{record_magic}
use Rattle.vx_log.proofs.descriptor.descriptor_of.Given as goal

abbrev pub invariant-loop-home : goal.invariant-loop-home
invariant-loop-home l = record {
  long : length l.sheet ≡ 16 + 4 * l.home-index;
  text : l.sheet ≡ record_magic ++ to_le_bytes w32 (length l.homes) ++ to_le_bytes w64 l.position ++ flat_map (to_le_bytes w32) (take l.home-index l.homes);
}
