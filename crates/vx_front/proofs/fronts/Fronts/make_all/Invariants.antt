use Rattle.std.proofs.Common.{◌≡◌}
use Rattle.vx_front.specs.Views.{new_kernel, new_seats}
use Rattle.vx_front.proofs.fronts.Fronts.make_all.Given as goal

abbrev pub invariant-loop-i : goal.invariant-loop-i
invariant-loop-i l = (l.kernel ≡ record { table = l.self; knows = new_kernel l.i }) × (l.seats.items ≡ new_seats l.self l.i)
