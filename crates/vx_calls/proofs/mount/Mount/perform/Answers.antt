use Rattle.std.proofs.Common.{◌∙◌, ℕ, ◌<◌, length, Option, sym, ap, subst, arith}
use Rattle.vx_base.specs.declared.call.Call.{Call}
use Rattle.vx_base.specs.Lines.{lines_of, line_after}
use Rattle.vx_calls.specs.Calls.{HasFailed, HasReplied}
use Rattle.vx_calls.proofs.Lines.{is_there, same_line}
use Rattle.vx_calls.proofs.mount.Mount.perform.Goals as goal

pub take-call-requires : goal.take-call-requires
take-call-requires g c = subst (λ (n : ℕ). c.args.answered < length (lines_of c.args.lines.now n)) (sym c.from-in-Replied.ensures) (is_there c.args.lines.now c.args.session c.args.answered c.requires.line)

pub note-place-requires-clause-replied : goal.note-place-requires-clause-replied
note-place-requires-clause-replied g c =
    let o = c.requires.used.opening in
    let e = g.D.BlockDev.state c.ask.new.dev in (
      o,
      subst (λ (x : Call). HasReplied o e c.ask.new.self x c.in-Replied.reply) (same_line (sym c.in-Some.ensures) (ap (λ (n : ℕ). line_after c.args.lines.now n c.args.answered) (c.from.ensures ∙ sym c.from-in-Replied.ensures) ∙ c.take-call.ensures.line))
          (c.in-Replied.ensures.at o c.requires.used.at c.requires.used.in_use),
    )

pub returns-in-Replied-clause-failed : goal.returns-in-Replied-clause-failed
returns-in-Replied-clause-failed g c = subst (λ (x : Option ℕ). HasFailed c.args.self.now.disabled x (g.D.BlockDev.state c.args.dev.now) (g.D.BlockDev.state c.ask.new.dev)) (sym c.note-place.ensures.disabled) c.ask.ensures.failed

pub returns-in-Replied-clause-turn : goal.returns-in-Replied-clause-turn
returns-in-Replied-clause-turn g c = record {
  owed = omega (arith, c.in-Replied.ensures.asks.owed, c.note-place.ensures.owed);
  promised = omega (arith, c.in-Replied.ensures.asks.promised, c.note-place.ensures.promised);
  quiet = λ same. c.in-Replied.ensures.asks.quiet (sym c.note-place.ensures.disabled ∙ same);
}
