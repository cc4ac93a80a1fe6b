use Rattle.std.proofs.Common.{◌≡◌, ℕ, List, ◌++◌, ◌-◌, length, replicate, subst}
use Rattle.vx_layout.proofs.Filling.{zeros_behind}
use Rattle.vx_layout.proofs.sheet.Sheet.finish.Goals as goal

pub returns : goal.returns
returns g c =
    let long : length c.self.inside.bytes ≡ g.row.N = c.self.told in
    subst (λ (v : List ℕ). c.self.inside.bytes ≡ v ++ replicate (g.row.N - length v) 0) c.self.view_is (zeros_behind c.self.inside.bytes c.self.inside.filled g.row.N c.self.invariant.0 long c.self.invariant.1)
