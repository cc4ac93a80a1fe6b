use Rattle.std.proofs.Common.{◌<◌, ◌≤◌, Some, sym, ap, subst, ◌∙◌}
use Rattle.std.specs.Option.{option_copied}
use Rattle.vx_base.specs.Lines.{line_after}
use Rattle.vx_core.specs.declared.engine.Next.TheVariants as next
use Rattle.vx_core.specs.Facts.{Facts, IsNext}
use Rattle.vx_core.proofs.Deciding.{next_stopped, next_under_way, next_none, next_wait, next_past_wait, next_call, no_wait}
use Rattle.vx_core.proofs.engine.Core.next.Goals as goal

pub returns-then-self : goal.returns-then-self
returns-then-self g c =
    let core = c.args.self.now in
    let o = c.requires.sound.0 in
    next_stopped g.M.Calls.built o (g.M.Calls.kept o core.mount) (g.M.Calls.view core.mount) core.lines core.sessions.items core.stopped c.if-self.true c.requires.sound.1 c.args.actor

pub returns-then-is_under_way : goal.returns-then-is_under_way
returns-then-is_under_way g c =
    let core = c.args.self.now in
    let o = c.requires.sound.0 in
    let v = g.M.Calls.view core.mount in
    let kept = g.M.Calls.kept o core.mount in
    let f = subst (Facts g.M.Calls.built o kept v core.lines core.sessions.items) c.if-self.false c.requires.sound.1 in
    subst (λ b. IsNext v core.lines core.sessions.items c.args.actor b next.GoOn) (sym c.if-self.false)
    (next_under_way g.M.Calls.built o kept v core.lines core.sessions.items c.growth_laws.ensures f c.args.actor (sym c.is_under_way.ensures ∙ c.if-is_under_way.true))

pub returns-in_default : goal.returns-in_default
returns-in_default g c =
    let core = c.args.self.now in
    let o = c.requires.sound.0 in
    let v = g.M.Calls.view core.mount in
    let kept = g.M.Calls.kept o core.mount in
    let f = subst (Facts g.M.Calls.built o kept v core.lines core.sessions.items) c.if-self.false c.requires.sound.1 in
    let there = ap (λ i. line_after core.lines i c.answered_by-answered.result) c.from.ensures ∙ ap (λ n. line_after core.lines c.args.actor n) c.answered_by-answered.ensures in
    let line = sym there ∙ sym c.get.ensures ∙ ap option_copied c.in_default.is in
    subst (λ b. IsNext v core.lines core.sessions.items c.args.actor b next.Nothing) (sym c.if-self.false)
    (next_none g.M.Calls.built o kept v core.lines core.sessions.items c.growth_laws.ensures f c.args.actor (sym c.is_under_way.ensures ∙ c.if-is_under_way.false) line)

pub returns-then-answered_by-lines : goal.returns-then-answered_by-lines
returns-then-answered_by-lines g c =
    let core = c.args.self.now in
    let o = c.requires.sound.0 in
    let v = g.M.Calls.view core.mount in
    let kept = g.M.Calls.kept o core.mount in
    let f = subst (Facts g.M.Calls.built o kept v core.lines core.sessions.items) c.if-self.false c.requires.sound.1 in
    let there = ap (λ i. line_after core.lines i c.answered_by-answered.result) c.from.ensures ∙ ap (λ n. line_after core.lines c.args.actor n) c.answered_by-answered.ensures in
    let line = sym there ∙ sym c.get.ensures ∙ ap option_copied c.in-Some.is ∙ ap Some c.in-After.is in
    subst (λ b. IsNext v core.lines core.sessions.items c.args.actor b (next.Wait c.in-After.session c.in-After.lines)) (sym c.if-self.false)
    (next_wait g.M.Calls.built o kept v core.lines core.sessions.items c.growth_laws.ensures f c.args.actor (sym c.is_under_way.ensures ∙ c.if-is_under_way.false) c.in-After.session c.in-After.lines line
    (subst (λ n. n < c.in-After.lines) c.answered_by.ensures c.if-answered_by-lines.true))

pub returns-else-answered_by-lines : goal.returns-else-answered_by-lines
returns-else-answered_by-lines g c =
    let core = c.args.self.now in
    let o = c.requires.sound.0 in
    let v = g.M.Calls.view core.mount in
    let kept = g.M.Calls.kept o core.mount in
    let f = subst (Facts g.M.Calls.built o kept v core.lines core.sessions.items) c.if-self.false c.requires.sound.1 in
    let there = ap (λ i. line_after core.lines i c.answered_by-answered.result) c.from.ensures ∙ ap (λ n. line_after core.lines c.args.actor n) c.answered_by-answered.ensures in
    let line = sym there ∙ sym c.get.ensures ∙ ap option_copied c.in-Some.is ∙ ap Some c.in-After.is in
    subst (λ b. IsNext v core.lines core.sessions.items c.args.actor b next.Begin) (sym c.if-self.false)
    (next_past_wait g.M.Calls.built o kept v core.lines core.sessions.items c.growth_laws.ensures f c.args.actor (sym c.is_under_way.ensures ∙ c.if-is_under_way.false) c.in-After.session c.in-After.lines line
    (subst (λ n. c.in-After.lines ≤ n) c.answered_by.ensures c.if-answered_by-lines.false))

pub returns-in_default-call : goal.returns-in_default-call
returns-in_default-call g c =
    let core = c.args.self.now in
    let o = c.requires.sound.0 in
    let v = g.M.Calls.view core.mount in
    let kept = g.M.Calls.kept o core.mount in
    let f = subst (Facts g.M.Calls.built o kept v core.lines core.sessions.items) c.if-self.false c.requires.sound.1 in
    let there = ap (λ i. line_after core.lines i c.answered_by-answered.result) c.from.ensures ∙ ap (λ n. line_after core.lines c.args.actor n) c.answered_by-answered.ensures in
    let line = sym there ∙ sym c.get.ensures ∙ ap option_copied c.in-Some.is in
    subst (λ b. IsNext v core.lines core.sessions.items c.args.actor b next.Begin) (sym c.if-self.false)
    (next_call g.M.Calls.built o kept v core.lines core.sessions.items c.growth_laws.ensures f c.args.actor (sym c.is_under_way.ensures ∙ c.if-is_under_way.false) c.in-Some.call.now line (no_wait c.in-Some.call.now c.in_default-call.not-After))
