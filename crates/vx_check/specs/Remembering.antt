-- A device whose sectors are remembered once they are read, as a reader of sectors.
use Rattle.std.specs.Prelude.{ℕ, List, [], get_or, Option, Some, None}
use Rattle.vx_dev.specs.Tape.{State}
use Rattle.vx_check.specs.Parts.{Seen, View}
use Rattle.vx_check.specs.Overlays.{image_shown}

-- the sectors that were read, by number
abbrev pub seen_of : List (Option (List ℕ)) → Seen
seen_of kept s = get_or kept s None

-- by which reference the device is held, the device, and what was read of each sector of the volume
abbrev pub remembered_by : ℕ → State → List (Option (List ℕ)) → View
remembered_by name d kept = record {
  shown = image_shown d.told d.doubt [];
  seen = Some (seen_of kept);
  size = d.size;
  faults = d.read_faults;
  deeds = record { told = d.told; count = d.count; doubt = d.doubt; write_faults = d.write_faults };
  reference = name;
}

abbrev pub remembered : State → List (Option (List ℕ)) → View
remembered = remembered_by 0
