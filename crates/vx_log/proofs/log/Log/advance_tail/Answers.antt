use Rattle.std.proofs.Common.{◌≡◌, refl, sym, subst, arith, ◌⊎◌, Contains}
use Rattle.std.specs.Prelude.{IsNone}
use Rattle.vx_log.specs.Logs.{LogView, IsBoundary}
use Rattle.vx_log.proofs.LogLemmas.{advanced_log}
use Rattle.vx_log.proofs.log.Log.advance_tail.Goals as goal

pub invariant_of-self : goal.invariant_of-self
invariant_of-self g c =
    let boundary : (c.args.to ≡ c.self.inside.head) ⊎ Contains c.self.inside.starts.items c.args.to = subst (λ (log : LogView). IsBoundary log c.args.to) (sym c.self.view_is) c.requires.boundary in
    let free = subst (λ (log : LogView). IsNone log.closing) (sym c.self.view_is) c.requires.free in (
      advanced_log _ _ c.args.to c.self.invariant.0 free boundary refl refl refl c.drop_below.ensures.items refl,
      omega (arith, c.self.invariant.1, c.drop_below.ensures.capacity),
      c.self.invariant.2,
    )
