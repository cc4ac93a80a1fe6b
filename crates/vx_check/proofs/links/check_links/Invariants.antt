use Rattle.std.specs.List.{flat_map, AllByRecursion}
use Rattle.vx_sound.specs.FirstFault.{numbers}
use Rattle.vx_sound.specs.Said.{Image}
use Rattle.vx_sound.specs.Checks.{Holds, link_checks}
use Rattle.vx_check.specs.Links.{AreChildren, AreInodes}
use Rattle.vx_check.proofs.links.check_links.Given as goal

abbrev pub invariant-loop-n : goal.invariant-loop-n
invariant-loop-n l = (image : Image) → AreInodes l.values l.volume image → AreChildren l.children l.volume image → AllByRecursion (Holds l.strict l.volume image) (flat_map link_checks (numbers 0 l.n))
