use Rattle.std.proofs.Common.{◌≡◌, ◌<◌, ◌≤◌, ◌+◌, ◌-◌, set, None, length, refl, sym, ap, subst, ◌∙◌, arith}
use Rattle.vx_base.specs.declared.refusal.Refusal.TheVariants as no
use Rattle.vx_mount.specs.Cores.{GoesOn}
use Rattle.vx_core.specs.Facts.{Facts, view_of}
use Rattle.vx_core.specs.declared.session.Session.{Session}
use Rattle.vx_core.specs.Mounts.{MountView}
use Rattle.vx_core.specs.Tracks.{session_at, IsAnyUnderWay}
use Rattle.vx_model.specs.Legal.{after_all}
use Rattle.vx_core.proofs.Ending.{there_is, its_running, its_limit, staged_used, place_inside, may_refuse, may_say, refused_turn, said_turn, waiting_turn, nothing_released, same_stage, tells_refused, tells_failed}
use Rattle.vx_core.specs.Lines.{script_lines}
use Rattle.vx_core.specs.Works.{work_of}
use Rattle.vx_core.proofs.ScriptLines.{length_script}
use Rattle.vx_core.proofs.Rooming.{room_running, has_room, room_last, room_answered}
use Rattle.vx_core.proofs.Standings.{stands_under_way}
use Rattle.vx_core.proofs.Telling.{ready_left, order_staged, order_said, order_failed, order_refused}
use Rattle.vx_core.proofs.Working.{work_answered, work_staged}
use Rattle.vx_core.proofs.engine.Core.go_on.Goals as goal

pub reach-requires-clause-used : goal.reach-requires-clause-used
reach-requires-clause-used g c =
    let core = c.args.self.now in
    let s = c.args.actor in
    let v = g.M.Calls.view core.mount in
    let laws = c.growth_laws.ensures in
    let n = (session_at core.sessions.items s).answered in
    let u = there_is core.sessions.items s c.requires.under_way in
    let o = c.requires.sound.0 in
    let f = subst (Facts g.M.Calls.built o (g.M.Calls.kept o core.mount) v core.lines core.sessions.items) c.requires.running c.requires.sound.1 in
    record { opening = o; keeps = f.keeps; used = (its_running laws g.M.Calls.built o (g.M.Calls.kept o core.mount) v core.lines core.sessions.items f s n u.0 u.1).phase }

pub reach-requires-clause-there : goal.reach-requires-clause-there
reach-requires-clause-there g c =
    let core = c.args.self.now in
    let s = c.args.actor in
    let v = g.M.Calls.view core.mount in
    let laws = c.growth_laws.ensures in
    let n = (session_at core.sessions.items s).answered in
    let u = there_is core.sessions.items s c.requires.under_way in
    let o = c.requires.sound.0 in
    let f = subst (Facts g.M.Calls.built o (g.M.Calls.kept o core.mount) v core.lines core.sessions.items) c.requires.running c.requires.sound.1 in
    subst (λ p. p < length v.history) (sym (c.place_under_way-place.ensures u.0 (ap (λ z. z.under_way) u.1))) (place_inside laws g.M.Calls.built o (g.M.Calls.kept o core.mount) v core.lines core.sessions.items f s n u.0 u.1 c.requires.actor)

pub finish-requires-clause-used : goal.finish-requires-clause-used
finish-requires-clause-used g c =
    let core = c.args.self.now in
    let s = c.args.actor in
    let v = g.M.Calls.view core.mount in
    let laws = c.growth_laws.ensures in
    let n = (session_at core.sessions.items s).answered in
    let u = there_is core.sessions.items s c.requires.under_way in
    let o = c.requires.sound.0 in
    let f = subst (Facts g.M.Calls.built o (g.M.Calls.kept o core.mount) v core.lines core.sessions.items) c.requires.running c.requires.sound.1 in
    record { opening = o; keeps = f.keeps; used = (its_running laws g.M.Calls.built o (g.M.Calls.kept o core.mount) v core.lines core.sessions.items f s n u.0 u.1).phase }

pub finish-requires-clause-limit : goal.finish-requires-clause-limit
finish-requires-clause-limit g c =
    let core = c.args.self.now in
    let s = c.args.actor in
    let v = g.M.Calls.view core.mount in
    let laws = c.growth_laws.ensures in
    let n = (session_at core.sessions.items s).answered in
    let u = there_is core.sessions.items s c.requires.under_way in
    let o = c.requires.sound.0 in
    let f = subst (Facts g.M.Calls.built o (g.M.Calls.kept o core.mount) v core.lines core.sessions.items) c.requires.running c.requires.sound.1 in
    its_limit laws g.M.Calls.built o (g.M.Calls.kept o core.mount) v core.lines core.sessions.items f s n u.0 u.1

pub finish-requires-then-reached-clause-limit : goal.finish-requires-then-reached-clause-limit
finish-requires-then-reached-clause-limit g c =
    let core = c.args.self.now in
    let s = c.args.actor in
    let v = g.M.Calls.view core.mount in
    let laws = c.growth_laws.ensures in
    let n = (session_at core.sessions.items s).answered in
    let u = there_is core.sessions.items s c.requires.under_way in
    let o = c.requires.sound.0 in
    let f = subst (Facts g.M.Calls.built o (g.M.Calls.kept o core.mount) v core.lines core.sessions.items) c.requires.running c.requires.sound.1 in
    its_limit laws g.M.Calls.built o (g.M.Calls.kept o core.mount) v core.lines core.sessions.items f s n u.0 u.1

pub finish-requires-in-Err-clause-limit : goal.finish-requires-in-Err-clause-limit
finish-requires-in-Err-clause-limit g c =
    let core = c.args.self.now in
    let s = c.args.actor in
    let v = g.M.Calls.view core.mount in
    let laws = c.growth_laws.ensures in
    let n = (session_at core.sessions.items s).answered in
    let u = there_is core.sessions.items s c.requires.under_way in
    let o = c.requires.sound.0 in
    let f = subst (Facts g.M.Calls.built o (g.M.Calls.kept o core.mount) v core.lines core.sessions.items) c.requires.running c.requires.sound.1 in
    its_limit laws g.M.Calls.built o (g.M.Calls.kept o core.mount) v core.lines core.sessions.items f s n u.0 u.1

pub finish-requires-then-reached-clause-used : goal.finish-requires-then-reached-clause-used
finish-requires-then-reached-clause-used g c =
    let core = c.args.self.now in
    let s = c.args.actor in
    let v = g.M.Calls.view core.mount in
    let laws = c.growth_laws.ensures in
    let n = (session_at core.sessions.items s).answered in
    let u = there_is core.sessions.items s c.requires.under_way in
    let o = c.requires.sound.0 in
    let f = subst (Facts g.M.Calls.built o (g.M.Calls.kept o core.mount) v core.lines core.sessions.items) c.requires.running c.requires.sound.1 in
    record { opening = o; keeps = c.reach.ensures.kept o f.keeps (its_running laws g.M.Calls.built o (g.M.Calls.kept o core.mount) v core.lines core.sessions.items f s n u.0 u.1).phase; used = staged_used laws g.M.Calls.built o (g.M.Calls.kept o core.mount) v core.lines core.sessions.items f s n u.0 u.1 (g.M.Calls.view c.reach.new.self) c.reach.ensures.history c.reach.ensures.stage }

pub finish-requires-in-Err-clause-used : goal.finish-requires-in-Err-clause-used
finish-requires-in-Err-clause-used g c =
    let core = c.args.self.now in
    let s = c.args.actor in
    let v = g.M.Calls.view core.mount in
    let laws = c.growth_laws.ensures in
    let n = (session_at core.sessions.items s).answered in
    let u = there_is core.sessions.items s c.requires.under_way in
    let o = c.requires.sound.0 in
    let f = subst (Facts g.M.Calls.built o (g.M.Calls.kept o core.mount) v core.lines core.sessions.items) c.requires.running c.requires.sound.1 in
    record { opening = o; keeps = c.reach.ensures.kept o f.keeps (its_running laws g.M.Calls.built o (g.M.Calls.kept o core.mount) v core.lines core.sessions.items f s n u.0 u.1).phase; used = staged_used laws g.M.Calls.built o (g.M.Calls.kept o core.mount) v core.lines core.sessions.items f s n u.0 u.1 (g.M.Calls.view c.reach.new.self) c.reach.ensures.history c.reach.ensures.stage }

pub returns-in-Some-clause-goes : goal.returns-in-Some-clause-goes
returns-in-Some-clause-goes g c =
    let core = c.args.self.now in
    let s = c.args.actor in
    let v = g.M.Calls.view core.mount in
    let laws = c.growth_laws.ensures in
    let n = (session_at core.sessions.items s).answered in
    let u = there_is core.sessions.items s c.requires.under_way in
    let o = c.requires.sound.0 in
    let f = subst (Facts g.M.Calls.built o (g.M.Calls.kept o core.mount) v core.lines core.sessions.items) c.requires.running c.requires.sound.1 in
    subst (λ x. GoesOn (view_of v core.lines core.locks) s (view_of (g.M.Calls.view x.mount) x.lines x.locks)) (sym c.finish.ensures.same) ((refused_turn laws g.M.Calls.built o (g.M.Calls.kept o core.mount) v core.lines core.sessions.items f s n u.0 u.1 c.requires.actor (g.M.Calls.kept o c.finish.new.self.mount) v (g.M.Calls.view c.finish.new.self.mount) c.finish.new.self.sessions.items (no.Disabled c.in-Some.write_faults)
    (c.finish.ensures.kept o n u.0 u.1 f.keeps (may_refuse laws g.M.Calls.built o (g.M.Calls.kept o core.mount) v core.lines core.sessions.items f s n u.0 u.1 c.requires.actor v (no.Disabled c.in-Some.write_faults) (nothing_released v.history v.count) (same_stage v) refl))
    (nothing_released v.history v.count) (same_stage v) c.requires.free (tells_refused v.disabled c.in-Some.write_faults v.write_faults (sym c.disabled.ensures ∙ c.in-Some.is)) (c.finish.ensures.answered n u.0 u.1)).goes core.locks)

pub returns-in-Some-clause-kept : goal.returns-in-Some-clause-kept
returns-in-Some-clause-kept g c =
    let core = c.args.self.now in
    let s = c.args.actor in
    let v = g.M.Calls.view core.mount in
    let laws = c.growth_laws.ensures in
    let n = (session_at core.sessions.items s).answered in
    let u = there_is core.sessions.items s c.requires.under_way in
    λ o facts.
    let f = subst (Facts g.M.Calls.built o (g.M.Calls.kept o core.mount) v core.lines core.sessions.items) c.requires.running facts in
    subst (λ x. Facts g.M.Calls.built o (g.M.Calls.kept o x.mount) (g.M.Calls.view x.mount) x.lines x.sessions.items x.stopped) (sym c.finish.ensures.same)
    (subst (Facts g.M.Calls.built o (g.M.Calls.kept o c.finish.new.self.mount) (g.M.Calls.view c.finish.new.self.mount) core.lines c.finish.new.self.sessions.items) (sym c.requires.running) (refused_turn laws g.M.Calls.built o (g.M.Calls.kept o core.mount) v core.lines core.sessions.items f s n u.0 u.1 c.requires.actor (g.M.Calls.kept o c.finish.new.self.mount) v (g.M.Calls.view c.finish.new.self.mount) c.finish.new.self.sessions.items (no.Disabled c.in-Some.write_faults)
    (c.finish.ensures.kept o n u.0 u.1 f.keeps (may_refuse laws g.M.Calls.built o (g.M.Calls.kept o core.mount) v core.lines core.sessions.items f s n u.0 u.1 c.requires.actor v (no.Disabled c.in-Some.write_faults) (nothing_released v.history v.count) (same_stage v) refl))
    (nothing_released v.history v.count) (same_stage v) c.requires.free (tells_refused v.disabled c.in-Some.write_faults v.write_faults (sym c.disabled.ensures ∙ c.in-Some.is)) (c.finish.ensures.answered n u.0 u.1)).facts)

pub returns-then-reached-clause-goes : goal.returns-then-reached-clause-goes
returns-then-reached-clause-goes g c =
    let core = c.args.self.now in
    let s = c.args.actor in
    let v = g.M.Calls.view core.mount in
    let laws = c.growth_laws.ensures in
    let n = (session_at core.sessions.items s).answered in
    let u = there_is core.sessions.items s c.requires.under_way in
    let o = c.requires.sound.0 in
    let f = subst (Facts g.M.Calls.built o (g.M.Calls.kept o core.mount) v core.lines core.sessions.items) c.requires.running c.requires.sound.1 in
    subst (λ x. GoesOn (view_of v core.lines core.locks) s (view_of (g.M.Calls.view x.mount) x.lines x.locks)) (sym c.finish-then-reached.ensures.same) ((said_turn laws g.M.Calls.built o (g.M.Calls.kept o core.mount) v core.lines core.sessions.items f s n u.0 u.1 c.requires.actor (g.M.Calls.kept o c.finish-then-reached.new.self.mount) (g.M.Calls.view c.reach.new.self) (g.M.Calls.view c.finish-then-reached.new.self.mount) c.finish-then-reached.new.self.sessions.items
    (c.finish-then-reached.ensures.kept o n u.0 u.1 (c.reach.ensures.kept o f.keeps (its_running laws g.M.Calls.built o (g.M.Calls.kept o core.mount) v core.lines core.sessions.items f s n u.0 u.1).phase)
    (may_say laws g.M.Calls.built o (g.M.Calls.kept o core.mount) v core.lines core.sessions.items f s n u.0 u.1 c.requires.actor (g.M.Calls.view c.reach.new.self) c.reach.ensures.history c.reach.ensures.stage
    (subst (λ p. p < (g.M.Calls.view c.reach.new.self).committed) (c.place_under_way-place.ensures u.0 (ap (λ z. z.under_way) u.1)) (c.in-Ok.ensures.durable c.if-reached.true)) c.in-Ok.ensures.enabled))
    c.reach.ensures.history c.reach.ensures.stage c.reach.ensures.free (sym c.disabled.ensures ∙ c.in_default.is) c.in-Ok.ensures.enabled (c.finish-then-reached.ensures.answered n u.0 u.1)).goes core.locks)

pub returns-then-reached-clause-kept : goal.returns-then-reached-clause-kept
returns-then-reached-clause-kept g c =
    let core = c.args.self.now in
    let s = c.args.actor in
    let v = g.M.Calls.view core.mount in
    let laws = c.growth_laws.ensures in
    let n = (session_at core.sessions.items s).answered in
    let u = there_is core.sessions.items s c.requires.under_way in
    λ o facts.
    let f = subst (Facts g.M.Calls.built o (g.M.Calls.kept o core.mount) v core.lines core.sessions.items) c.requires.running facts in
    subst (λ x. Facts g.M.Calls.built o (g.M.Calls.kept o x.mount) (g.M.Calls.view x.mount) x.lines x.sessions.items x.stopped) (sym c.finish-then-reached.ensures.same)
    (subst (Facts g.M.Calls.built o (g.M.Calls.kept o c.finish-then-reached.new.self.mount) (g.M.Calls.view c.finish-then-reached.new.self.mount) core.lines c.finish-then-reached.new.self.sessions.items) (sym c.requires.running) (said_turn laws g.M.Calls.built o (g.M.Calls.kept o core.mount) v core.lines core.sessions.items f s n u.0 u.1 c.requires.actor (g.M.Calls.kept o c.finish-then-reached.new.self.mount) (g.M.Calls.view c.reach.new.self) (g.M.Calls.view c.finish-then-reached.new.self.mount) c.finish-then-reached.new.self.sessions.items
    (c.finish-then-reached.ensures.kept o n u.0 u.1 (c.reach.ensures.kept o f.keeps (its_running laws g.M.Calls.built o (g.M.Calls.kept o core.mount) v core.lines core.sessions.items f s n u.0 u.1).phase)
    (may_say laws g.M.Calls.built o (g.M.Calls.kept o core.mount) v core.lines core.sessions.items f s n u.0 u.1 c.requires.actor (g.M.Calls.view c.reach.new.self) c.reach.ensures.history c.reach.ensures.stage
    (subst (λ p. p < (g.M.Calls.view c.reach.new.self).committed) (c.place_under_way-place.ensures u.0 (ap (λ z. z.under_way) u.1)) (c.in-Ok.ensures.durable c.if-reached.true)) c.in-Ok.ensures.enabled))
    c.reach.ensures.history c.reach.ensures.stage c.reach.ensures.free (sym c.disabled.ensures ∙ c.in_default.is) c.in-Ok.ensures.enabled (c.finish-then-reached.ensures.answered n u.0 u.1)).facts)

pub returns-else-reached-clause-goes : goal.returns-else-reached-clause-goes
returns-else-reached-clause-goes g c =
    let core = c.args.self.now in
    let s = c.args.actor in
    let v = g.M.Calls.view core.mount in
    let laws = c.growth_laws.ensures in
    let n = (session_at core.sessions.items s).answered in
    let u = there_is core.sessions.items s c.requires.under_way in
    let o = c.requires.sound.0 in
    let f = subst (Facts g.M.Calls.built o (g.M.Calls.kept o core.mount) v core.lines core.sessions.items) c.requires.running c.requires.sound.1 in
    ((waiting_turn laws g.M.Calls.built o (g.M.Calls.kept o core.mount) v core.lines core.sessions.items f s n u.0 u.1 c.requires.actor (g.M.Calls.kept o c.reach.new.self) (g.M.Calls.view c.reach.new.self) (c.reach.ensures.kept o f.keeps (its_running laws g.M.Calls.built o (g.M.Calls.kept o core.mount) v core.lines core.sessions.items f s n u.0 u.1).phase)
    c.reach.ensures.history (c.in-Ok.ensures.works c.if-reached.false) c.reach.ensures.stage c.reach.ensures.free c.in-Ok.ensures.enabled).goes core.locks)

pub returns-else-reached-clause-kept : goal.returns-else-reached-clause-kept
returns-else-reached-clause-kept g c =
    let core = c.args.self.now in
    let s = c.args.actor in
    let v = g.M.Calls.view core.mount in
    let laws = c.growth_laws.ensures in
    let n = (session_at core.sessions.items s).answered in
    let u = there_is core.sessions.items s c.requires.under_way in
    λ o facts.
    let f = subst (Facts g.M.Calls.built o (g.M.Calls.kept o core.mount) v core.lines core.sessions.items) c.requires.running facts in
    subst (Facts g.M.Calls.built o (g.M.Calls.kept o c.reach.new.self) (g.M.Calls.view c.reach.new.self) core.lines core.sessions.items) (sym c.requires.running) (waiting_turn laws g.M.Calls.built o (g.M.Calls.kept o core.mount) v core.lines core.sessions.items f s n u.0 u.1 c.requires.actor (g.M.Calls.kept o c.reach.new.self) (g.M.Calls.view c.reach.new.self) (c.reach.ensures.kept o f.keeps (its_running laws g.M.Calls.built o (g.M.Calls.kept o core.mount) v core.lines core.sessions.items f s n u.0 u.1).phase)
    c.reach.ensures.history (c.in-Ok.ensures.works c.if-reached.false) c.reach.ensures.stage c.reach.ensures.free c.in-Ok.ensures.enabled).facts

pub returns-in-Err-clause-goes : goal.returns-in-Err-clause-goes
returns-in-Err-clause-goes g c =
    let core = c.args.self.now in
    let s = c.args.actor in
    let v = g.M.Calls.view core.mount in
    let laws = c.growth_laws.ensures in
    let n = (session_at core.sessions.items s).answered in
    let u = there_is core.sessions.items s c.requires.under_way in
    let o = c.requires.sound.0 in
    let f = subst (Facts g.M.Calls.built o (g.M.Calls.kept o core.mount) v core.lines core.sessions.items) c.requires.running c.requires.sound.1 in
    subst (λ x. GoesOn (view_of v core.lines core.locks) s (view_of (g.M.Calls.view x.mount) x.lines x.locks)) (sym c.finish-in-Err.ensures.same) ((refused_turn laws g.M.Calls.built o (g.M.Calls.kept o core.mount) v core.lines core.sessions.items f s n u.0 u.1 c.requires.actor (g.M.Calls.kept o c.finish-in-Err.new.self.mount) (g.M.Calls.view c.reach.new.self) (g.M.Calls.view c.finish-in-Err.new.self.mount) c.finish-in-Err.new.self.sessions.items no.WriteFault
    (c.finish-in-Err.ensures.kept o n u.0 u.1 (c.reach.ensures.kept o f.keeps (its_running laws g.M.Calls.built o (g.M.Calls.kept o core.mount) v core.lines core.sessions.items f s n u.0 u.1).phase)
    (may_refuse laws g.M.Calls.built o (g.M.Calls.kept o core.mount) v core.lines core.sessions.items f s n u.0 u.1 c.requires.actor (g.M.Calls.view c.reach.new.self) no.WriteFault c.reach.ensures.history c.reach.ensures.stage refl))
    c.reach.ensures.history c.reach.ensures.stage c.reach.ensures.free (tells_failed v.disabled (g.M.Calls.view c.reach.new.self).disabled (g.M.Calls.view c.reach.new.self).write_faults (sym c.disabled.ensures ∙ c.in_default.is) c.in-Err.ensures.disabled) (c.finish-in-Err.ensures.answered n u.0 u.1)).goes core.locks)

pub returns-in-Err-clause-kept : goal.returns-in-Err-clause-kept
returns-in-Err-clause-kept g c =
    let core = c.args.self.now in
    let s = c.args.actor in
    let v = g.M.Calls.view core.mount in
    let laws = c.growth_laws.ensures in
    let n = (session_at core.sessions.items s).answered in
    let u = there_is core.sessions.items s c.requires.under_way in
    λ o facts.
    let f = subst (Facts g.M.Calls.built o (g.M.Calls.kept o core.mount) v core.lines core.sessions.items) c.requires.running facts in
    subst (λ x. Facts g.M.Calls.built o (g.M.Calls.kept o x.mount) (g.M.Calls.view x.mount) x.lines x.sessions.items x.stopped) (sym c.finish-in-Err.ensures.same)
    (subst (Facts g.M.Calls.built o (g.M.Calls.kept o c.finish-in-Err.new.self.mount) (g.M.Calls.view c.finish-in-Err.new.self.mount) core.lines c.finish-in-Err.new.self.sessions.items) (sym c.requires.running) (refused_turn laws g.M.Calls.built o (g.M.Calls.kept o core.mount) v core.lines core.sessions.items f s n u.0 u.1 c.requires.actor (g.M.Calls.kept o c.finish-in-Err.new.self.mount) (g.M.Calls.view c.reach.new.self) (g.M.Calls.view c.finish-in-Err.new.self.mount) c.finish-in-Err.new.self.sessions.items no.WriteFault
    (c.finish-in-Err.ensures.kept o n u.0 u.1 (c.reach.ensures.kept o f.keeps (its_running laws g.M.Calls.built o (g.M.Calls.kept o core.mount) v core.lines core.sessions.items f s n u.0 u.1).phase)
    (may_refuse laws g.M.Calls.built o (g.M.Calls.kept o core.mount) v core.lines core.sessions.items f s n u.0 u.1 c.requires.actor (g.M.Calls.view c.reach.new.self) no.WriteFault c.reach.ensures.history c.reach.ensures.stage refl))
    c.reach.ensures.history c.reach.ensures.stage c.reach.ensures.free (tells_failed v.disabled (g.M.Calls.view c.reach.new.self).disabled (g.M.Calls.view c.reach.new.self).write_faults (sym c.disabled.ensures ∙ c.in_default.is) c.in-Err.ensures.disabled) (c.finish-in-Err.ensures.answered n u.0 u.1)).facts)

pub returns-in-Some-clause-less : goal.returns-in-Some-clause-less
returns-in-Some-clause-less g c =
    let core = c.args.self.now in
    let s = c.args.actor in
    let v = g.M.Calls.view core.mount in
    let n = (session_at core.sessions.items s).answered in
    let u = there_is core.sessions.items s c.requires.under_way in
    let lines = script_lines core.lines v.history in
    let long = length_script core.lines v.history in
    let counts = c.requires.sound.1.counts in
    let inside_lines : s < length lines = omega (arith, c.requires.actor) in
    let goes = returns-in-Some-clause-goes g c in
    subst (λ l. work_of g.M.Calls.per_call (g.M.Calls.owed c.finish.new.self.mount) l c.finish.new.self.sessions.items < work_of g.M.Calls.per_call (g.M.Calls.owed core.mount) lines core.sessions.items) (sym goes.turn.same_lines)
    (subst (λ ss. work_of g.M.Calls.per_call (g.M.Calls.owed c.finish.new.self.mount) lines ss < work_of g.M.Calls.per_call (g.M.Calls.owed core.mount) lines core.sessions.items) (sym (c.finish.ensures.answered n u.0 u.1).later_is)
    (work_answered g.M.Calls.per_call lines core.sessions.items s n c.requires.actor inside_lines u.0 (g.M.Calls.owed core.mount) (g.M.Calls.owed c.finish.new.self.mount) u.1 (omega (arith, c.finish.ensures.owed))))

pub returns-then-reached-clause-less : goal.returns-then-reached-clause-less
returns-then-reached-clause-less g c =
    let core = c.args.self.now in
    let s = c.args.actor in
    let v = g.M.Calls.view core.mount in
    let n = (session_at core.sessions.items s).answered in
    let u = there_is core.sessions.items s c.requires.under_way in
    let lines = script_lines core.lines v.history in
    let long = length_script core.lines v.history in
    let counts = c.requires.sound.1.counts in
    let inside_lines : s < length lines = omega (arith, c.requires.actor) in
    let goes = returns-then-reached-clause-goes g c in
    subst (λ l. work_of g.M.Calls.per_call (g.M.Calls.owed c.finish-then-reached.new.self.mount) l c.finish-then-reached.new.self.sessions.items < work_of g.M.Calls.per_call (g.M.Calls.owed core.mount) lines core.sessions.items) (sym goes.turn.same_lines)
    (subst (λ ss. work_of g.M.Calls.per_call (g.M.Calls.owed c.finish-then-reached.new.self.mount) lines ss < work_of g.M.Calls.per_call (g.M.Calls.owed core.mount) lines core.sessions.items) (sym (c.finish-then-reached.ensures.answered n u.0 u.1).later_is)
    (work_answered g.M.Calls.per_call lines core.sessions.items s n c.requires.actor inside_lines u.0 (g.M.Calls.owed core.mount) (g.M.Calls.owed c.finish-then-reached.new.self.mount) u.1 (omega (arith, c.finish-then-reached.ensures.owed, c.reach.ensures.owed))))

pub returns-in-Err-clause-less : goal.returns-in-Err-clause-less
returns-in-Err-clause-less g c =
    let core = c.args.self.now in
    let s = c.args.actor in
    let v = g.M.Calls.view core.mount in
    let n = (session_at core.sessions.items s).answered in
    let u = there_is core.sessions.items s c.requires.under_way in
    let lines = script_lines core.lines v.history in
    let long = length_script core.lines v.history in
    let counts = c.requires.sound.1.counts in
    let inside_lines : s < length lines = omega (arith, c.requires.actor) in
    let goes = returns-in-Err-clause-goes g c in
    subst (λ l. work_of g.M.Calls.per_call (g.M.Calls.owed c.finish-in-Err.new.self.mount) l c.finish-in-Err.new.self.sessions.items < work_of g.M.Calls.per_call (g.M.Calls.owed core.mount) lines core.sessions.items) (sym goes.turn.same_lines)
    (subst (λ ss. work_of g.M.Calls.per_call (g.M.Calls.owed c.finish-in-Err.new.self.mount) lines ss < work_of g.M.Calls.per_call (g.M.Calls.owed core.mount) lines core.sessions.items) (sym (c.finish-in-Err.ensures.answered n u.0 u.1).later_is)
    (work_answered g.M.Calls.per_call lines core.sessions.items s n c.requires.actor inside_lines u.0 (g.M.Calls.owed core.mount) (g.M.Calls.owed c.finish-in-Err.new.self.mount) u.1 (omega (arith, c.finish-in-Err.ensures.owed, c.reach.ensures.owed))))

pub returns-else-reached-clause-less : goal.returns-else-reached-clause-less
returns-else-reached-clause-less g c =
    let core = c.args.self.now in
    let v = g.M.Calls.view core.mount in
    let lines = script_lines core.lines v.history in
    let goes = returns-else-reached-clause-goes g c in
    subst (λ l. work_of g.M.Calls.per_call (g.M.Calls.owed c.reach.new.self) l core.sessions.items < work_of g.M.Calls.per_call (g.M.Calls.owed core.mount) lines core.sessions.items) (sym goes.turn.same_lines)
    (work_staged g.M.Calls.per_call lines core.sessions.items (g.M.Calls.owed core.mount) (g.M.Calls.owed c.reach.new.self) (c.in-Ok.ensures.less c.if-reached.false))

pub finish-requires-clause-room : goal.finish-requires-clause-room
finish-requires-clause-room g c =
    let core = c.args.self.now in
    let s = c.args.actor in
    let v = g.M.Calls.view core.mount in
    let laws = c.growth_laws.ensures in
    let n = (session_at core.sessions.items s).answered in
    let u = there_is core.sessions.items s c.requires.under_way in
    let o = c.requires.sound.0 in
    let f = subst (Facts g.M.Calls.built o (g.M.Calls.kept o core.mount) v core.lines core.sessions.items) c.requires.running c.requires.sound.1 in
    let lines = script_lines core.lines v.history in
    let runs = its_running laws g.M.Calls.built o (g.M.Calls.kept o core.mount) v core.lines core.sessions.items f s n u.0 u.1 in
    let room = room_running v core.lines core.sessions.items runs.open_end c.requires.room in
    let inside_lines : s < length lines = (let long = length_script core.lines v.history in let counts = f.counts in omega (arith, c.requires.actor)) in
    let later = set core.sessions.items s (record { answered = n + 1; under_way = None }) in
    let answered : work_of 2 1 lines later + 1 ≤ v.spare = room_answered lines core.sessions.items s n c.requires.actor inside_lines u.0 v.spare u.1 room in
    room_last lines core.sessions.items v.spare room

pub reach-requires-clause-room : goal.reach-requires-clause-room
reach-requires-clause-room g c =
    let core = c.args.self.now in
    let s = c.args.actor in
    let v = g.M.Calls.view core.mount in
    let laws = c.growth_laws.ensures in
    let n = (session_at core.sessions.items s).answered in
    let u = there_is core.sessions.items s c.requires.under_way in
    let o = c.requires.sound.0 in
    let f = subst (Facts g.M.Calls.built o (g.M.Calls.kept o core.mount) v core.lines core.sessions.items) c.requires.running c.requires.sound.1 in
    let lines = script_lines core.lines v.history in
    let runs = its_running laws g.M.Calls.built o (g.M.Calls.kept o core.mount) v core.lines core.sessions.items f s n u.0 u.1 in
    let room = room_running v core.lines core.sessions.items runs.open_end c.requires.room in
    let inside_lines : s < length lines = (let long = length_script core.lines v.history in let counts = f.counts in omega (arith, c.requires.actor)) in
    let later = set core.sessions.items s (record { answered = n + 1; under_way = None }) in
    let answered : work_of 2 1 lines later + 1 ≤ v.spare = room_answered lines core.sessions.items s n c.requires.actor inside_lines u.0 v.spare u.1 room in
    room_last lines core.sessions.items v.spare room

pub finish-requires-then-reached-clause-room : goal.finish-requires-then-reached-clause-room
finish-requires-then-reached-clause-room g c =
    let core = c.args.self.now in
    let s = c.args.actor in
    let v = g.M.Calls.view core.mount in
    let laws = c.growth_laws.ensures in
    let n = (session_at core.sessions.items s).answered in
    let u = there_is core.sessions.items s c.requires.under_way in
    let o = c.requires.sound.0 in
    let f = subst (Facts g.M.Calls.built o (g.M.Calls.kept o core.mount) v core.lines core.sessions.items) c.requires.running c.requires.sound.1 in
    let lines = script_lines core.lines v.history in
    let runs = its_running laws g.M.Calls.built o (g.M.Calls.kept o core.mount) v core.lines core.sessions.items f s n u.0 u.1 in
    let room = room_running v core.lines core.sessions.items runs.open_end c.requires.room in
    let inside_lines : s < length lines = (let long = length_script core.lines v.history in let counts = f.counts in omega (arith, c.requires.actor)) in
    let later = set core.sessions.items s (record { answered = n + 1; under_way = None }) in
    let answered : work_of 2 1 lines later + 1 ≤ v.spare = room_answered lines core.sessions.items s n c.requires.actor inside_lines u.0 v.spare u.1 room in
    let last = room_last lines core.sessions.items v.spare room in let more = c.reach.ensures.room in omega (arith, more)

pub finish-requires-in-Err-clause-room : goal.finish-requires-in-Err-clause-room
finish-requires-in-Err-clause-room g c =
    let core = c.args.self.now in
    let s = c.args.actor in
    let v = g.M.Calls.view core.mount in
    let laws = c.growth_laws.ensures in
    let n = (session_at core.sessions.items s).answered in
    let u = there_is core.sessions.items s c.requires.under_way in
    let o = c.requires.sound.0 in
    let f = subst (Facts g.M.Calls.built o (g.M.Calls.kept o core.mount) v core.lines core.sessions.items) c.requires.running c.requires.sound.1 in
    let lines = script_lines core.lines v.history in
    let runs = its_running laws g.M.Calls.built o (g.M.Calls.kept o core.mount) v core.lines core.sessions.items f s n u.0 u.1 in
    let room = room_running v core.lines core.sessions.items runs.open_end c.requires.room in
    let inside_lines : s < length lines = (let long = length_script core.lines v.history in let counts = f.counts in omega (arith, c.requires.actor)) in
    let later = set core.sessions.items s (record { answered = n + 1; under_way = None }) in
    let answered : work_of 2 1 lines later + 1 ≤ v.spare = room_answered lines core.sessions.items s n c.requires.actor inside_lines u.0 v.spare u.1 room in
    let last = room_last lines core.sessions.items v.spare room in let more = c.reach.ensures.room in omega (arith, more)

pub returns-in-Some-clause-room : goal.returns-in-Some-clause-room
returns-in-Some-clause-room g c =
    let core = c.args.self.now in
    let s = c.args.actor in
    let v = g.M.Calls.view core.mount in
    let laws = c.growth_laws.ensures in
    let n = (session_at core.sessions.items s).answered in
    let u = there_is core.sessions.items s c.requires.under_way in
    let o = c.requires.sound.0 in
    let f = subst (Facts g.M.Calls.built o (g.M.Calls.kept o core.mount) v core.lines core.sessions.items) c.requires.running c.requires.sound.1 in
    let lines = script_lines core.lines v.history in
    let runs = its_running laws g.M.Calls.built o (g.M.Calls.kept o core.mount) v core.lines core.sessions.items f s n u.0 u.1 in
    let room = room_running v core.lines core.sessions.items runs.open_end c.requires.room in
    let inside_lines : s < length lines = (let long = length_script core.lines v.history in let counts = f.counts in omega (arith, c.requires.actor)) in
    let later = set core.sessions.items s (record { answered = n + 1; under_way = None }) in
    let answered : work_of 2 1 lines later + 1 ≤ v.spare = room_answered lines core.sessions.items s n c.requires.actor inside_lines u.0 v.spare u.1 room in
    let goes = returns-in-Some-clause-goes g c in
    let fin = g.M.Calls.view c.finish.new.self.mount in
    let ha = c.finish.ensures.answered n u.0 u.1 in
    has_room fin c.finish.new.self.lines lines c.finish.new.self.sessions.items goes.turn.same_lines
    (subst (λ ss. work_of 2 1 lines ss ≤ fin.spare) (sym ha.later_is)
    (let spare : fin.spare ≡ v.spare - 1 = ap (λ (x : MountView). x.spare) ha.view in omega (arith, answered, spare)))

pub returns-then-reached-clause-room : goal.returns-then-reached-clause-room
returns-then-reached-clause-room g c =
    let core = c.args.self.now in
    let s = c.args.actor in
    let v = g.M.Calls.view core.mount in
    let laws = c.growth_laws.ensures in
    let n = (session_at core.sessions.items s).answered in
    let u = there_is core.sessions.items s c.requires.under_way in
    let o = c.requires.sound.0 in
    let f = subst (Facts g.M.Calls.built o (g.M.Calls.kept o core.mount) v core.lines core.sessions.items) c.requires.running c.requires.sound.1 in
    let lines = script_lines core.lines v.history in
    let runs = its_running laws g.M.Calls.built o (g.M.Calls.kept o core.mount) v core.lines core.sessions.items f s n u.0 u.1 in
    let room = room_running v core.lines core.sessions.items runs.open_end c.requires.room in
    let inside_lines : s < length lines = (let long = length_script core.lines v.history in let counts = f.counts in omega (arith, c.requires.actor)) in
    let later = set core.sessions.items s (record { answered = n + 1; under_way = None }) in
    let answered : work_of 2 1 lines later + 1 ≤ v.spare = room_answered lines core.sessions.items s n c.requires.actor inside_lines u.0 v.spare u.1 room in
    let goes = returns-then-reached-clause-goes g c in
    let fin = g.M.Calls.view c.finish-then-reached.new.self.mount in
    let ha = c.finish-then-reached.ensures.answered n u.0 u.1 in
    has_room fin c.finish-then-reached.new.self.lines lines c.finish-then-reached.new.self.sessions.items goes.turn.same_lines
    (subst (λ ss. work_of 2 1 lines ss ≤ fin.spare) (sym ha.later_is)
    (let spare : fin.spare ≡ (g.M.Calls.view c.reach.new.self).spare - 1 = ap (λ (x : MountView). x.spare) ha.view in let more = c.reach.ensures.room in omega (arith, answered, spare, more)))

pub returns-in-Err-clause-room : goal.returns-in-Err-clause-room
returns-in-Err-clause-room g c =
    let core = c.args.self.now in
    let s = c.args.actor in
    let v = g.M.Calls.view core.mount in
    let laws = c.growth_laws.ensures in
    let n = (session_at core.sessions.items s).answered in
    let u = there_is core.sessions.items s c.requires.under_way in
    let o = c.requires.sound.0 in
    let f = subst (Facts g.M.Calls.built o (g.M.Calls.kept o core.mount) v core.lines core.sessions.items) c.requires.running c.requires.sound.1 in
    let lines = script_lines core.lines v.history in
    let runs = its_running laws g.M.Calls.built o (g.M.Calls.kept o core.mount) v core.lines core.sessions.items f s n u.0 u.1 in
    let room = room_running v core.lines core.sessions.items runs.open_end c.requires.room in
    let inside_lines : s < length lines = (let long = length_script core.lines v.history in let counts = f.counts in omega (arith, c.requires.actor)) in
    let later = set core.sessions.items s (record { answered = n + 1; under_way = None }) in
    let answered : work_of 2 1 lines later + 1 ≤ v.spare = room_answered lines core.sessions.items s n c.requires.actor inside_lines u.0 v.spare u.1 room in
    let goes = returns-in-Err-clause-goes g c in
    let fin = g.M.Calls.view c.finish-in-Err.new.self.mount in
    let ha = c.finish-in-Err.ensures.answered n u.0 u.1 in
    has_room fin c.finish-in-Err.new.self.lines lines c.finish-in-Err.new.self.sessions.items goes.turn.same_lines
    (subst (λ ss. work_of 2 1 lines ss ≤ fin.spare) (sym ha.later_is)
    (let spare : fin.spare ≡ (g.M.Calls.view c.reach.new.self).spare - 1 = ap (λ (x : MountView). x.spare) ha.view in let more = c.reach.ensures.room in omega (arith, answered, spare, more)))

pub returns-else-reached-clause-room : goal.returns-else-reached-clause-room
returns-else-reached-clause-room g c =
    let core = c.args.self.now in
    let s = c.args.actor in
    let v = g.M.Calls.view core.mount in
    let laws = c.growth_laws.ensures in
    let n = (session_at core.sessions.items s).answered in
    let u = there_is core.sessions.items s c.requires.under_way in
    let o = c.requires.sound.0 in
    let f = subst (Facts g.M.Calls.built o (g.M.Calls.kept o core.mount) v core.lines core.sessions.items) c.requires.running c.requires.sound.1 in
    let lines = script_lines core.lines v.history in
    let runs = its_running laws g.M.Calls.built o (g.M.Calls.kept o core.mount) v core.lines core.sessions.items f s n u.0 u.1 in
    let room = room_running v core.lines core.sessions.items runs.open_end c.requires.room in
    let inside_lines : s < length lines = (let long = length_script core.lines v.history in let counts = f.counts in omega (arith, c.requires.actor)) in
    let later = set core.sessions.items s (record { answered = n + 1; under_way = None }) in
    let answered : work_of 2 1 lines later + 1 ≤ v.spare = room_answered lines core.sessions.items s n c.requires.actor inside_lines u.0 v.spare u.1 room in
    let goes = returns-else-reached-clause-goes g c in
    has_room (g.M.Calls.view c.reach.new.self) core.lines lines core.sessions.items goes.turn.same_lines (let more = c.reach.ensures.room in omega (arith, room, more))

pub returns-in-Some-clause-order : goal.returns-in-Some-clause-order
returns-in-Some-clause-order g c =
    let core = c.args.self.now in
    let s = c.args.actor in
    let v = g.M.Calls.view core.mount in
    let laws = c.growth_laws.ensures in
    let n = (session_at core.sessions.items s).answered in
    let u = there_is core.sessions.items s c.requires.under_way in
    let o = c.requires.sound.0 in
    let f = subst (Facts g.M.Calls.built o (g.M.Calls.kept o core.mount) v core.lines core.sessions.items) c.requires.running c.requires.sound.1 in
    let lines = script_lines core.lines v.history in
    λ before t.
    let runs = its_running laws g.M.Calls.built o (g.M.Calls.kept o core.mount) v core.lines core.sessions.items f s n u.0 u.1 in
    let stands = stands_under_way lines (after_all o v.history) v.history core.sessions.items f.tracks v.logging s n u.0 runs.runs u.1 f.fronts in
    let left = ready_left lines v.history s stands in
    let fin = g.M.Calls.view c.finish.new.self.mount in
    let ha = c.finish.ensures.answered n u.0 u.1 in
    order_refused before v lines (script_lines c.finish.new.self.lines fin.history) t fin u.0.place c.in-Some.write_faults (sym c.disabled.ensures ∙ c.in-Some.is) left ha.view

pub returns-then-reached-clause-order : goal.returns-then-reached-clause-order
returns-then-reached-clause-order g c =
    let core = c.args.self.now in
    let s = c.args.actor in
    let v = g.M.Calls.view core.mount in
    let laws = c.growth_laws.ensures in
    let n = (session_at core.sessions.items s).answered in
    let u = there_is core.sessions.items s c.requires.under_way in
    let o = c.requires.sound.0 in
    let f = subst (Facts g.M.Calls.built o (g.M.Calls.kept o core.mount) v core.lines core.sessions.items) c.requires.running c.requires.sound.1 in
    let lines = script_lines core.lines v.history in
    λ before t.
    let fin = g.M.Calls.view c.finish-then-reached.new.self.mount in
    let ha = c.finish-then-reached.ensures.answered n u.0 u.1 in
    let call = subst (λ (z : Session). IsAnyUnderWay lines (after_all o v.history) v.history s z.answered z.under_way) u.1 (f.tracks.under_way s) in
    order_said before v lines (script_lines c.finish-then-reached.new.self.lines fin.history) t (g.M.Calls.view c.reach.new.self) fin u.0.place call.at s (n + 1) call.call u.0.answer (sym c.disabled.ensures ∙ c.in_default.is) c.in-Ok.ensures.enabled c.reach.ensures.stage c.reach.ensures.history call.stands ha.view

pub returns-else-reached-clause-order : goal.returns-else-reached-clause-order
returns-else-reached-clause-order g c =
    let core = c.args.self.now in
    let s = c.args.actor in
    let v = g.M.Calls.view core.mount in
    let laws = c.growth_laws.ensures in
    let n = (session_at core.sessions.items s).answered in
    let u = there_is core.sessions.items s c.requires.under_way in
    let o = c.requires.sound.0 in
    let f = subst (Facts g.M.Calls.built o (g.M.Calls.kept o core.mount) v core.lines core.sessions.items) c.requires.running c.requires.sound.1 in
    let lines = script_lines core.lines v.history in
    λ before t.
    order_staged before v lines (script_lines core.lines (g.M.Calls.view c.reach.new.self).history) t (g.M.Calls.view c.reach.new.self) (sym c.disabled.ensures ∙ c.in_default.is) c.in-Ok.ensures.enabled c.reach.ensures.stage c.reach.ensures.history

pub returns-in-Err-clause-order : goal.returns-in-Err-clause-order
returns-in-Err-clause-order g c =
    let core = c.args.self.now in
    let s = c.args.actor in
    let v = g.M.Calls.view core.mount in
    let laws = c.growth_laws.ensures in
    let n = (session_at core.sessions.items s).answered in
    let u = there_is core.sessions.items s c.requires.under_way in
    let o = c.requires.sound.0 in
    let f = subst (Facts g.M.Calls.built o (g.M.Calls.kept o core.mount) v core.lines core.sessions.items) c.requires.running c.requires.sound.1 in
    let lines = script_lines core.lines v.history in
    λ before t.
    let staged = g.M.Calls.view c.reach.new.self in
    let fin = g.M.Calls.view c.finish-in-Err.new.self.mount in
    let ha = c.finish-in-Err.ensures.answered n u.0 u.1 in
    order_failed before v lines (script_lines c.finish-in-Err.new.self.lines fin.history) t staged fin u.0.place staged.write_faults (sym c.disabled.ensures ∙ c.in_default.is) c.in-Err.ensures.disabled c.reach.ensures.stage c.in-Err.ensures.still ha.view

pub returns-in-Some-clause-logging : goal.returns-in-Some-clause-logging
returns-in-Some-clause-logging g c =
    let core = c.args.self.now in
    let s = c.args.actor in
    let n = (session_at core.sessions.items s).answered in
    let u = there_is core.sessions.items s c.requires.under_way in
    let ha = c.finish.ensures.answered n u.0 u.1 in
    ap (λ (x : MountView). x.logging) ha.view

pub returns-then-reached-clause-logging : goal.returns-then-reached-clause-logging
returns-then-reached-clause-logging g c =
    let core = c.args.self.now in
    let s = c.args.actor in
    let n = (session_at core.sessions.items s).answered in
    let u = there_is core.sessions.items s c.requires.under_way in
    let ha = c.finish-then-reached.ensures.answered n u.0 u.1 in
    ap (λ (x : MountView). x.logging) ha.view ∙ c.reach.ensures.stage.logging

pub returns-in-Err-clause-logging : goal.returns-in-Err-clause-logging
returns-in-Err-clause-logging g c =
    let core = c.args.self.now in
    let s = c.args.actor in
    let n = (session_at core.sessions.items s).answered in
    let u = there_is core.sessions.items s c.requires.under_way in
    let ha = c.finish-in-Err.ensures.answered n u.0 u.1 in
    ap (λ (x : MountView). x.logging) ha.view ∙ c.reach.ensures.stage.logging
