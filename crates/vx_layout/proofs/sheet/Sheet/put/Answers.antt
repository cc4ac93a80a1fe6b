use Rattle.std.proofs.Common.{arith, length, ◌≡◌, ◌≤◌, ◌+◌, ap, length-take}
use Rattle.vx_layout.proofs.Filling.{zeros_stay}
use Rattle.vx_layout.proofs.sheet.Sheet.put.Goals as goal

pub invariant_of-self : goal.invariant_of-self
invariant_of-self g c =
    let room : c.self.inside.filled + length c.args.text.now ≤ g.row.N = omega (arith, c.requires, c.self.invariant.0, c.self.told, ap length c.self.view_is, length-take c.self.inside.filled c.self.inside.bytes) in
    let same : length c.copy_from_slice.new.self ≡ length c.args.text.now = ap length c.copy_from_slice.ensures.after in
    (room, zeros_stay c.self.inside.filled (length c.args.text.now) g.row.N c.self.inside.bytes c.copy_from_slice.new.self room c.self.told same c.self.invariant.1)
