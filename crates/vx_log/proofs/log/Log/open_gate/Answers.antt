use Rattle.std.proofs.Common.{◌<◌, ◌+◌, ◌∙◌, ℕ, refl, ap, subst, arith}
use Rattle.vx_layout.specs.LogForms.{log_length}
use Rattle.vx_log.specs.Logs.{with_start}
use Rattle.vx_log.proofs.LogLemmas.{opened_log, starts_room, emptied_is}
use Rattle.vx_log.proofs.log.Log.open_gate.Goals as goal

pub note_start-requires : goal.note_start-requires
note_start-requires g c = λ some.
    let long = c.log_length-length.ensures ∙ ap log_length c.len.ensures.number in
    omega (arith, starts_room _ c.in-Some.closing c.self.invariant.0 c.in-Some.is (subst (λ (k : ℕ). 0 < k) long some), c.self.invariant.1)

pub invariant_of-self : goal.invariant_of-self
invariant_of-self g c =
    let long = c.log_length-length.ensures ∙ ap log_length c.len.ensures.number in (
      opened_log _ _ c.in-Some.closing c.self.invariant.0 c.in-Some.is refl refl (ap (λ (k : ℕ). c.self.inside.head + k) (c.from.ensures ∙ long))
          (c.note_start.ensures.items ∙ ap (with_start c.self.inside.starts.items c.self.inside.head) long) c.take.ensures.after,
      omega (arith, c.self.invariant.1, c.note_start.ensures.capacity),
      emptied_is _ _ c.emptied.ensures,
    )
