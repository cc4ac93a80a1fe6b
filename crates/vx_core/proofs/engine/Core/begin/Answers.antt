use Rattle.std.proofs.Common.{◌≡◌, ◌<◌, ◌≤◌, ◌+◌, ◌-◌, ◌&&◌, not, set, length, true, false, Option, Some, None, sym, ap, subst, ◌∙◌, arith}
use Rattle.vx_base.specs.declared.reply.Reply.TheVariants as say
use Rattle.vx_base.specs.Lines.{line_after}
use Rattle.vx_model.specs.Allowed.{is_refusal}
use Rattle.vx_model.specs.Legal.{in_use, after_all}
use Rattle.vx_mount.specs.Cores.{GoesOn}
use Rattle.vx_core.specs.declared.session.Session.{Session}
use Rattle.vx_core.specs.declared.session.UnderWay.{UnderWay}
use Rattle.vx_core.specs.Facts.{Facts, view_of, is_fine, is_stop_line, HasAnswered}
use Rattle.vx_core.specs.Mounts.{MountView, MayBegin, MayAnswer, HasDone, IsBuilt}
use Rattle.vx_core.specs.Tracks.{session_at}
use Rattle.vx_core.proofs.Beginning.{begin_runs, may_begin, begin_built, begin_inside, begin_limit, room_turn, waits_turn, done_used, may_answer_done, answered_done_turn, may_stop, stopped_turn}
use Rattle.vx_core.proofs.Pushing.{at_same}
use Rattle.vx_core.proofs.Ending.{ends_is}
use Rattle.vx_core.specs.Lines.{script_lines}
use Rattle.vx_core.specs.Works.{work_of}
use Rattle.std.proofs.lemmas.List.{length-set}
use Rattle.vx_core.proofs.ScriptLines.{length_script}
use Rattle.vx_core.specs.Faults.{TellsInOrder}
use Rattle.vx_core.proofs.Rooming.{room_running, has_room, room_ended, room_last, room_more, room_begun, room_answered}
use Rattle.vx_core.proofs.Telling.{ready_left, no_refusal, ends_fine, order_staged, order_waits, order_done, order_stopped}
use Rattle.vx_core.proofs.Working.{work_begun, work_answered, work_staged}
use Rattle.vx_core.proofs.engine.Core.begin.Goals as goal

pub perform-requires-clause-used : goal.perform-requires-clause-used
perform-requires-clause-used g c =
    let core = c.args.self.now in
    let s = c.args.actor in
    let v = g.M.Calls.view core.mount in
    let laws = c.growth_laws.ensures in
    let n = (session_at core.sessions.items s).answered in
    let is = ap (λ (w : Option UnderWay). record { answered = n; under_way = w }) c.requires.idle in
    let o = c.requires.sound.0 in
    let f = subst (Facts g.M.Calls.built o (g.M.Calls.kept o core.mount) v core.lines core.sessions.items) c.requires.running c.requires.sound.1 in
    record { opening = o; keeps = f.keeps; used = (begin_runs laws g.M.Calls.built o (g.M.Calls.kept o core.mount) v core.lines core.sessions.items f s n c.requires.actor is c.requires.ready c.requires.line).phase }

pub perform-requires-clause-line : goal.perform-requires-clause-line
perform-requires-clause-line g c =
    let core = c.args.self.now in
    let s = c.args.actor in
    let v = g.M.Calls.view core.mount in
    let laws = c.growth_laws.ensures in
    let n = (session_at core.sessions.items s).answered in
    let is = ap (λ (w : Option UnderWay). record { answered = n; under_way = w }) c.requires.idle in
    let o = c.requires.sound.0 in
    let f = subst (Facts g.M.Calls.built o (g.M.Calls.kept o core.mount) v core.lines core.sessions.items) c.requires.running c.requires.sound.1 in
    subst (λ m. IsBuilt g.M.Calls.built (line_after core.lines s m)) (sym c.answered_by-answered.ensures) (begin_built laws g.M.Calls.built o (g.M.Calls.kept o core.mount) v core.lines core.sessions.items f s n c.requires.actor is c.requires.ready c.requires.line)

pub perform-requires-clause-limit : goal.perform-requires-clause-limit
perform-requires-clause-limit g c =
    let core = c.args.self.now in
    let s = c.args.actor in
    let v = g.M.Calls.view core.mount in
    let laws = c.growth_laws.ensures in
    let n = (session_at core.sessions.items s).answered in
    let is = ap (λ (w : Option UnderWay). record { answered = n; under_way = w }) c.requires.idle in
    let o = c.requires.sound.0 in
    let f = subst (Facts g.M.Calls.built o (g.M.Calls.kept o core.mount) v core.lines core.sessions.items) c.requires.running c.requires.sound.1 in
    subst (λ m. m < 65536) (sym c.answered_by-answered.ensures) (begin_limit laws g.M.Calls.built o (g.M.Calls.kept o core.mount) v core.lines core.sessions.items f s n c.requires.actor is c.requires.ready c.requires.line)

pub returns-in-Again-clause-goes : goal.returns-in-Again-clause-goes
returns-in-Again-clause-goes g c =
    let core = c.args.self.now in
    let s = c.args.actor in
    let v = g.M.Calls.view core.mount in
    let laws = c.growth_laws.ensures in
    let n = (session_at core.sessions.items s).answered in
    let is = ap (λ (w : Option UnderWay). record { answered = n; under_way = w }) c.requires.idle in
    let o = c.requires.sound.0 in
    let f = subst (Facts g.M.Calls.built o (g.M.Calls.kept o core.mount) v core.lines core.sessions.items) c.requires.running c.requires.sound.1 in
    subst (λ l. GoesOn (view_of v core.lines core.locks) s (view_of (g.M.Calls.view c.perform.new.self) l core.locks)) (sym c.in-Again.ensures.performed.1) ((room_turn laws g.M.Calls.built o (g.M.Calls.kept o core.mount) v core.lines core.sessions.items f s n c.requires.actor is c.requires.ready c.requires.line (g.M.Calls.kept o c.perform.new.self) (g.M.Calls.view c.perform.new.self) (c.perform.ensures.kept o f.keeps (subst (λ m. MayBegin o v s (m + 1)) (sym c.answered_by-answered.ensures) (may_begin laws g.M.Calls.built o (g.M.Calls.kept o core.mount) v core.lines core.sessions.items f s n c.requires.actor is c.requires.ready c.requires.line))) c.in-Again.ensures.performed.0 c.perform.ensures.stage c.perform.ensures.free).goes core.locks)

pub returns-in-Again-clause-kept : goal.returns-in-Again-clause-kept
returns-in-Again-clause-kept g c =
    let core = c.args.self.now in
    let s = c.args.actor in
    let v = g.M.Calls.view core.mount in
    let laws = c.growth_laws.ensures in
    let n = (session_at core.sessions.items s).answered in
    let is = ap (λ (w : Option UnderWay). record { answered = n; under_way = w }) c.requires.idle in
    λ o facts.
    let f = subst (Facts g.M.Calls.built o (g.M.Calls.kept o core.mount) v core.lines core.sessions.items) c.requires.running facts in
    subst (λ b. Facts g.M.Calls.built o (g.M.Calls.kept o c.perform.new.self) (g.M.Calls.view c.perform.new.self) c.perform.new.lines core.sessions.items b) (sym c.requires.running)
    (subst (λ l. Facts g.M.Calls.built o (g.M.Calls.kept o c.perform.new.self) (g.M.Calls.view c.perform.new.self) l core.sessions.items false) (sym c.in-Again.ensures.performed.1) (room_turn laws g.M.Calls.built o (g.M.Calls.kept o core.mount) v core.lines core.sessions.items f s n c.requires.actor is c.requires.ready c.requires.line (g.M.Calls.kept o c.perform.new.self) (g.M.Calls.view c.perform.new.self) (c.perform.ensures.kept o f.keeps (subst (λ m. MayBegin o v s (m + 1)) (sym c.answered_by-answered.ensures) (may_begin laws g.M.Calls.built o (g.M.Calls.kept o core.mount) v core.lines core.sessions.items f s n c.requires.actor is c.requires.ready c.requires.line))) c.in-Again.ensures.performed.0 c.perform.ensures.stage c.perform.ensures.free).facts)

pub returns-then-waits-clause-goes : goal.returns-then-waits-clause-goes
returns-then-waits-clause-goes g c =
    let core = c.args.self.now in
    let s = c.args.actor in
    let v = g.M.Calls.view core.mount in
    let laws = c.growth_laws.ensures in
    let n = (session_at core.sessions.items s).answered in
    let is = ap (λ (w : Option UnderWay). record { answered = n; under_way = w }) c.requires.idle in
    let o = c.requires.sound.0 in
    let f = subst (Facts g.M.Calls.built o (g.M.Calls.kept o core.mount) v core.lines core.sessions.items) c.requires.running c.requires.sound.1 in
    let w = g.M.Calls.view c.perform.new.self in
    let d = subst (λ m. HasDone v w core.lines c.perform.new.lines s m c.in-Done.place c.in-Done.answer c.in-Done.commits) c.answered_by-answered.ensures c.in-Done.ensures.performed in
    let u : UnderWay = record { place = c.in-Done.place; answer = c.in-Done.answer } in
    let with : c.put_under_way.new.self.sessions.items ≡ set core.sessions.items s (record { answered = n; under_way = Some u }) =
    c.put_under_way.ensures.sessions ∙ ap (λ m. set core.sessions.items s (record { answered = m; under_way = Some u })) c.answered_by-answered.ensures in
    subst (λ x. GoesOn (view_of v core.lines core.locks) s (view_of (g.M.Calls.view x.mount) x.lines x.locks)) (sym c.put_under_way.ensures.same) ((waits_turn laws g.M.Calls.built o (g.M.Calls.kept o core.mount) v core.lines core.sessions.items f s n c.requires.actor is c.requires.ready w c.perform.new.lines c.in-Done.place c.in-Done.answer c.in-Done.commits d c.perform.ensures.stage c.perform.ensures.free (g.M.Calls.kept o c.perform.new.self) (c.perform.ensures.kept o f.keeps (subst (λ m. MayBegin o v s (m + 1)) (sym c.answered_by-answered.ensures) (may_begin laws g.M.Calls.built o (g.M.Calls.kept o core.mount) v core.lines core.sessions.items f s n c.requires.actor is c.requires.ready c.requires.line))) (ap (λ b. c.in-Done.commits && not b) (sym c.is_refusal.ensures) ∙ c.if-waits.true)).goes core.locks)

pub returns-then-waits-clause-kept : goal.returns-then-waits-clause-kept
returns-then-waits-clause-kept g c =
    let core = c.args.self.now in
    let s = c.args.actor in
    let v = g.M.Calls.view core.mount in
    let laws = c.growth_laws.ensures in
    let n = (session_at core.sessions.items s).answered in
    let is = ap (λ (w : Option UnderWay). record { answered = n; under_way = w }) c.requires.idle in
    λ o facts.
    let f = subst (Facts g.M.Calls.built o (g.M.Calls.kept o core.mount) v core.lines core.sessions.items) c.requires.running facts in
    let w = g.M.Calls.view c.perform.new.self in
    let d = subst (λ m. HasDone v w core.lines c.perform.new.lines s m c.in-Done.place c.in-Done.answer c.in-Done.commits) c.answered_by-answered.ensures c.in-Done.ensures.performed in
    let u : UnderWay = record { place = c.in-Done.place; answer = c.in-Done.answer } in
    let with : c.put_under_way.new.self.sessions.items ≡ set core.sessions.items s (record { answered = n; under_way = Some u }) =
    c.put_under_way.ensures.sessions ∙ ap (λ m. set core.sessions.items s (record { answered = m; under_way = Some u })) c.answered_by-answered.ensures in
    subst (λ x. Facts g.M.Calls.built o (g.M.Calls.kept o x.mount) (g.M.Calls.view x.mount) x.lines x.sessions.items x.stopped) (sym c.put_under_way.ensures.same)
    (subst (λ ss. Facts g.M.Calls.built o (g.M.Calls.kept o c.perform.new.self) w c.perform.new.lines ss core.stopped) (sym with)
    (subst (Facts g.M.Calls.built o (g.M.Calls.kept o c.perform.new.self) w c.perform.new.lines (set core.sessions.items s (record { answered = n; under_way = Some u }))) (sym c.requires.running) (waits_turn laws g.M.Calls.built o (g.M.Calls.kept o core.mount) v core.lines core.sessions.items f s n c.requires.actor is c.requires.ready w c.perform.new.lines c.in-Done.place c.in-Done.answer c.in-Done.commits d c.perform.ensures.stage c.perform.ensures.free (g.M.Calls.kept o c.perform.new.self) (c.perform.ensures.kept o f.keeps (subst (λ m. MayBegin o v s (m + 1)) (sym c.answered_by-answered.ensures) (may_begin laws g.M.Calls.built o (g.M.Calls.kept o core.mount) v core.lines core.sessions.items f s n c.requires.actor is c.requires.ready c.requires.line))) (ap (λ b. c.in-Done.commits && not b) (sym c.is_refusal.ensures) ∙ c.if-waits.true)).facts))

pub finish-requires-clause-used : goal.finish-requires-clause-used
finish-requires-clause-used g c =
    let core = c.args.self.now in
    let s = c.args.actor in
    let v = g.M.Calls.view core.mount in
    let laws = c.growth_laws.ensures in
    let n = (session_at core.sessions.items s).answered in
    let is = ap (λ (w : Option UnderWay). record { answered = n; under_way = w }) c.requires.idle in
    let o = c.requires.sound.0 in
    let f = subst (Facts g.M.Calls.built o (g.M.Calls.kept o core.mount) v core.lines core.sessions.items) c.requires.running c.requires.sound.1 in
    let w = g.M.Calls.view c.perform.new.self in
    let d = subst (λ m. HasDone v w core.lines c.perform.new.lines s m c.in-Done.place c.in-Done.answer c.in-Done.commits) c.answered_by-answered.ensures c.in-Done.ensures.performed in
    let u : UnderWay = record { place = c.in-Done.place; answer = c.in-Done.answer } in
    let with : c.put_under_way.new.self.sessions.items ≡ set core.sessions.items s (record { answered = n; under_way = Some u }) =
    c.put_under_way.ensures.sessions ∙ ap (λ m. set core.sessions.items s (record { answered = m; under_way = Some u })) c.answered_by-answered.ensures in
    let pm = ap (λ x. x.mount) c.put_under_way.ensures.same in
    let at : session_at c.put_under_way.new.self.sessions.items s ≡ record { answered = n; under_way = Some u } =
    subst (λ ss. session_at ss s ≡ record { answered = n; under_way = Some u }) (sym with) (at_same core.sessions.items s (record { answered = n; under_way = Some u }) c.requires.actor) in
    let kept_done = (c.perform.ensures.kept o f.keeps (subst (λ m. MayBegin o v s (m + 1)) (sym c.answered_by-answered.ensures) (may_begin laws g.M.Calls.built o (g.M.Calls.kept o core.mount) v core.lines core.sessions.items f s n c.requires.actor is c.requires.ready c.requires.line))) in
    record {
      opening = o;
      keeps = subst (g.M.Calls.kept o) (sym pm) kept_done;
      used = subst (λ m. (after_all o (g.M.Calls.view m).history).phase ≡ in_use) (sym pm) (done_used laws g.M.Calls.built o (g.M.Calls.kept o core.mount) v core.lines core.sessions.items f s n c.requires.actor is c.requires.ready w c.perform.new.lines c.in-Done.place c.in-Done.answer c.in-Done.commits d c.perform.ensures.stage c.perform.ensures.free);
    }

pub finish-requires-clause-limit : goal.finish-requires-clause-limit
finish-requires-clause-limit g c =
    let core = c.args.self.now in
    let s = c.args.actor in
    let v = g.M.Calls.view core.mount in
    let laws = c.growth_laws.ensures in
    let n = (session_at core.sessions.items s).answered in
    let is = ap (λ (w : Option UnderWay). record { answered = n; under_way = w }) c.requires.idle in
    let o = c.requires.sound.0 in
    let f = subst (Facts g.M.Calls.built o (g.M.Calls.kept o core.mount) v core.lines core.sessions.items) c.requires.running c.requires.sound.1 in
    let w = g.M.Calls.view c.perform.new.self in
    let d = subst (λ m. HasDone v w core.lines c.perform.new.lines s m c.in-Done.place c.in-Done.answer c.in-Done.commits) c.answered_by-answered.ensures c.in-Done.ensures.performed in
    let u : UnderWay = record { place = c.in-Done.place; answer = c.in-Done.answer } in
    let with : c.put_under_way.new.self.sessions.items ≡ set core.sessions.items s (record { answered = n; under_way = Some u }) =
    c.put_under_way.ensures.sessions ∙ ap (λ m. set core.sessions.items s (record { answered = m; under_way = Some u })) c.answered_by-answered.ensures in
    let pm = ap (λ x. x.mount) c.put_under_way.ensures.same in
    let at : session_at c.put_under_way.new.self.sessions.items s ≡ record { answered = n; under_way = Some u } =
    subst (λ ss. session_at ss s ≡ record { answered = n; under_way = Some u }) (sym with) (at_same core.sessions.items s (record { answered = n; under_way = Some u }) c.requires.actor) in
    subst (λ (z : Session). z.answered < 65536) (sym at) (begin_limit laws g.M.Calls.built o (g.M.Calls.kept o core.mount) v core.lines core.sessions.items f s n c.requires.actor is c.requires.ready c.requires.line)

pub returns-else-ends-clause-goes : goal.returns-else-ends-clause-goes
returns-else-ends-clause-goes g c =
    let core = c.args.self.now in
    let s = c.args.actor in
    let v = g.M.Calls.view core.mount in
    let laws = c.growth_laws.ensures in
    let n = (session_at core.sessions.items s).answered in
    let is = ap (λ (w : Option UnderWay). record { answered = n; under_way = w }) c.requires.idle in
    let o = c.requires.sound.0 in
    let f = subst (Facts g.M.Calls.built o (g.M.Calls.kept o core.mount) v core.lines core.sessions.items) c.requires.running c.requires.sound.1 in
    let w = g.M.Calls.view c.perform.new.self in
    let d = subst (λ m. HasDone v w core.lines c.perform.new.lines s m c.in-Done.place c.in-Done.answer c.in-Done.commits) c.answered_by-answered.ensures c.in-Done.ensures.performed in
    let u : UnderWay = record { place = c.in-Done.place; answer = c.in-Done.answer } in
    let with : c.put_under_way.new.self.sessions.items ≡ set core.sessions.items s (record { answered = n; under_way = Some u }) =
    c.put_under_way.ensures.sessions ∙ ap (λ m. set core.sessions.items s (record { answered = m; under_way = Some u })) c.answered_by-answered.ensures in
    let pm = ap (λ x. x.mount) c.put_under_way.ensures.same in
    let at : session_at c.put_under_way.new.self.sessions.items s ≡ record { answered = n; under_way = Some u } =
    subst (λ ss. session_at ss s ≡ record { answered = n; under_way = Some u }) (sym with) (at_same core.sessions.items s (record { answered = n; under_way = Some u }) c.requires.actor) in
    let kept_done = (c.perform.ensures.kept o f.keeps (subst (λ m. MayBegin o v s (m + 1)) (sym c.answered_by-answered.ensures) (may_begin laws g.M.Calls.built o (g.M.Calls.kept o core.mount) v core.lines core.sessions.items f s n c.requires.actor is c.requires.ready c.requires.line))) in
    let fin = g.M.Calls.view c.finish.new.self.mount in
    let ha = subst (λ ss. HasAnswered w fin ss c.finish.new.self.sessions.items s n u u.answer) with
    (subst (λ m. HasAnswered (g.M.Calls.view m) fin c.put_under_way.new.self.sessions.items c.finish.new.self.sessions.items s n u u.answer) pm (c.finish.ensures.answered n u at)) in
    let kept_fin = c.finish.ensures.kept o n u at (subst (g.M.Calls.kept o) (sym pm) kept_done) (subst (λ m. MayAnswer o (g.M.Calls.view m) u.place u.answer) (sym pm) (may_answer_done laws g.M.Calls.built o (g.M.Calls.kept o core.mount) v core.lines core.sessions.items f s n c.requires.actor is c.requires.ready w c.perform.new.lines c.in-Done.place c.in-Done.answer c.in-Done.commits d c.perform.ensures.stage c.perform.ensures.free (ap (λ b. c.in-Done.commits && not b) (sym c.is_refusal.ensures) ∙ c.if-waits.false))) in
    let stop_is = c.is_stop_line-stops.ensures ∙ ap (λ m. is_stop_line (line_after core.lines s m)) c.answered_by-answered.ensures ∙ ap is_stop_line d.line in
    let ends_same = ends_is d.done u.answer ∙ sym (ap (λ b. b && is_fine u.answer) stop_is) ∙ sym (ap (λ b. c.is_stop_line-stops.result && b) c.is_fine.ensures) in
    let lines_same = ap (λ x. x.lines) c.finish.ensures.same ∙ ap (λ x. x.lines) c.put_under_way.ensures.same in
    let locks_same = ap (λ x. x.locks) c.finish.ensures.same ∙ ap (λ x. x.locks) c.put_under_way.ensures.same in
    subst (λ k. GoesOn (view_of v core.lines core.locks) s (view_of fin c.finish.new.self.lines k)) (sym locks_same)
    (subst (λ l. GoesOn (view_of v core.lines core.locks) s (view_of fin l core.locks)) (sym lines_same) ((answered_done_turn laws g.M.Calls.built o (g.M.Calls.kept o core.mount) v core.lines core.sessions.items f s n c.requires.actor is c.requires.ready w c.perform.new.lines c.in-Done.place c.in-Done.answer c.in-Done.commits d c.perform.ensures.stage c.perform.ensures.free (g.M.Calls.kept o c.finish.new.self.mount) fin c.finish.new.self.sessions.items kept_fin (ends_same ∙ c.if-ends.false) ha).goes core.locks))

pub returns-else-ends-clause-kept : goal.returns-else-ends-clause-kept
returns-else-ends-clause-kept g c =
    let core = c.args.self.now in
    let s = c.args.actor in
    let v = g.M.Calls.view core.mount in
    let laws = c.growth_laws.ensures in
    let n = (session_at core.sessions.items s).answered in
    let is = ap (λ (w : Option UnderWay). record { answered = n; under_way = w }) c.requires.idle in
    λ o facts.
    let f = subst (Facts g.M.Calls.built o (g.M.Calls.kept o core.mount) v core.lines core.sessions.items) c.requires.running facts in
    let w = g.M.Calls.view c.perform.new.self in
    let d = subst (λ m. HasDone v w core.lines c.perform.new.lines s m c.in-Done.place c.in-Done.answer c.in-Done.commits) c.answered_by-answered.ensures c.in-Done.ensures.performed in
    let u : UnderWay = record { place = c.in-Done.place; answer = c.in-Done.answer } in
    let with : c.put_under_way.new.self.sessions.items ≡ set core.sessions.items s (record { answered = n; under_way = Some u }) =
    c.put_under_way.ensures.sessions ∙ ap (λ m. set core.sessions.items s (record { answered = m; under_way = Some u })) c.answered_by-answered.ensures in
    let pm = ap (λ x. x.mount) c.put_under_way.ensures.same in
    let at : session_at c.put_under_way.new.self.sessions.items s ≡ record { answered = n; under_way = Some u } =
    subst (λ ss. session_at ss s ≡ record { answered = n; under_way = Some u }) (sym with) (at_same core.sessions.items s (record { answered = n; under_way = Some u }) c.requires.actor) in
    let kept_done = (c.perform.ensures.kept o f.keeps (subst (λ m. MayBegin o v s (m + 1)) (sym c.answered_by-answered.ensures) (may_begin laws g.M.Calls.built o (g.M.Calls.kept o core.mount) v core.lines core.sessions.items f s n c.requires.actor is c.requires.ready c.requires.line))) in
    let fin = g.M.Calls.view c.finish.new.self.mount in
    let ha = subst (λ ss. HasAnswered w fin ss c.finish.new.self.sessions.items s n u u.answer) with
    (subst (λ m. HasAnswered (g.M.Calls.view m) fin c.put_under_way.new.self.sessions.items c.finish.new.self.sessions.items s n u u.answer) pm (c.finish.ensures.answered n u at)) in
    let kept_fin = c.finish.ensures.kept o n u at (subst (g.M.Calls.kept o) (sym pm) kept_done) (subst (λ m. MayAnswer o (g.M.Calls.view m) u.place u.answer) (sym pm) (may_answer_done laws g.M.Calls.built o (g.M.Calls.kept o core.mount) v core.lines core.sessions.items f s n c.requires.actor is c.requires.ready w c.perform.new.lines c.in-Done.place c.in-Done.answer c.in-Done.commits d c.perform.ensures.stage c.perform.ensures.free (ap (λ b. c.in-Done.commits && not b) (sym c.is_refusal.ensures) ∙ c.if-waits.false))) in
    let stop_is = c.is_stop_line-stops.ensures ∙ ap (λ m. is_stop_line (line_after core.lines s m)) c.answered_by-answered.ensures ∙ ap is_stop_line d.line in
    let ends_same = ends_is d.done u.answer ∙ sym (ap (λ b. b && is_fine u.answer) stop_is) ∙ sym (ap (λ b. c.is_stop_line-stops.result && b) c.is_fine.ensures) in
    let lines_same = ap (λ x. x.lines) c.finish.ensures.same ∙ ap (λ x. x.lines) c.put_under_way.ensures.same in
    let still = ap (λ x. x.stopped) c.finish.ensures.same ∙ ap (λ x. x.stopped) c.put_under_way.ensures.same ∙ c.requires.running in
    subst (λ b. Facts g.M.Calls.built o (g.M.Calls.kept o c.finish.new.self.mount) fin c.finish.new.self.lines c.finish.new.self.sessions.items b) (sym still)
    (subst (λ l. Facts g.M.Calls.built o (g.M.Calls.kept o c.finish.new.self.mount) fin l c.finish.new.self.sessions.items false) (sym lines_same) (answered_done_turn laws g.M.Calls.built o (g.M.Calls.kept o core.mount) v core.lines core.sessions.items f s n c.requires.actor is c.requires.ready w c.perform.new.lines c.in-Done.place c.in-Done.answer c.in-Done.commits d c.perform.ensures.stage c.perform.ensures.free (g.M.Calls.kept o c.finish.new.self.mount) fin c.finish.new.self.sessions.items kept_fin (ends_same ∙ c.if-ends.false) ha).facts)

pub stop-requires-clause-stoppable : goal.stop-requires-clause-stoppable
stop-requires-clause-stoppable g c =
    let core = c.args.self.now in
    let s = c.args.actor in
    let v = g.M.Calls.view core.mount in
    let laws = c.growth_laws.ensures in
    let n = (session_at core.sessions.items s).answered in
    let is = ap (λ (w : Option UnderWay). record { answered = n; under_way = w }) c.requires.idle in
    let o = c.requires.sound.0 in
    let f = subst (Facts g.M.Calls.built o (g.M.Calls.kept o core.mount) v core.lines core.sessions.items) c.requires.running c.requires.sound.1 in
    let w = g.M.Calls.view c.perform.new.self in
    let d = subst (λ m. HasDone v w core.lines c.perform.new.lines s m c.in-Done.place c.in-Done.answer c.in-Done.commits) c.answered_by-answered.ensures c.in-Done.ensures.performed in
    let u : UnderWay = record { place = c.in-Done.place; answer = c.in-Done.answer } in
    let with : c.put_under_way.new.self.sessions.items ≡ set core.sessions.items s (record { answered = n; under_way = Some u }) =
    c.put_under_way.ensures.sessions ∙ ap (λ m. set core.sessions.items s (record { answered = m; under_way = Some u })) c.answered_by-answered.ensures in
    let pm = ap (λ x. x.mount) c.put_under_way.ensures.same in
    let at : session_at c.put_under_way.new.self.sessions.items s ≡ record { answered = n; under_way = Some u } =
    subst (λ ss. session_at ss s ≡ record { answered = n; under_way = Some u }) (sym with) (at_same core.sessions.items s (record { answered = n; under_way = Some u }) c.requires.actor) in
    let kept_done = (c.perform.ensures.kept o f.keeps (subst (λ m. MayBegin o v s (m + 1)) (sym c.answered_by-answered.ensures) (may_begin laws g.M.Calls.built o (g.M.Calls.kept o core.mount) v core.lines core.sessions.items f s n c.requires.actor is c.requires.ready c.requires.line))) in
    let fin = g.M.Calls.view c.finish.new.self.mount in
    let ha = subst (λ ss. HasAnswered w fin ss c.finish.new.self.sessions.items s n u u.answer) with
    (subst (λ m. HasAnswered (g.M.Calls.view m) fin c.put_under_way.new.self.sessions.items c.finish.new.self.sessions.items s n u u.answer) pm (c.finish.ensures.answered n u at)) in
    let kept_fin = c.finish.ensures.kept o n u at (subst (g.M.Calls.kept o) (sym pm) kept_done) (subst (λ m. MayAnswer o (g.M.Calls.view m) u.place u.answer) (sym pm) (may_answer_done laws g.M.Calls.built o (g.M.Calls.kept o core.mount) v core.lines core.sessions.items f s n c.requires.actor is c.requires.ready w c.perform.new.lines c.in-Done.place c.in-Done.answer c.in-Done.commits d c.perform.ensures.stage c.perform.ensures.free (ap (λ b. c.in-Done.commits && not b) (sym c.is_refusal.ensures) ∙ c.if-waits.false))) in
    let stop_is = c.is_stop_line-stops.ensures ∙ ap (λ m. is_stop_line (line_after core.lines s m)) c.answered_by-answered.ensures ∙ ap is_stop_line d.line in
    let ends_same = ends_is d.done u.answer ∙ sym (ap (λ b. b && is_fine u.answer) stop_is) ∙ sym (ap (λ b. c.is_stop_line-stops.result && b) c.is_fine.ensures) in
    record { opening = o; keeps = kept_fin; may = may_stop laws g.M.Calls.built o (g.M.Calls.kept o core.mount) v core.lines core.sessions.items f s n c.requires.actor is c.requires.ready w c.perform.new.lines c.in-Done.place c.in-Done.answer c.in-Done.commits d c.perform.ensures.stage c.perform.ensures.free fin (ends_same ∙ c.if-ends.true) ha.view }

pub stop-requires-clause-free : goal.stop-requires-clause-free
stop-requires-clause-free g c =
    let core = c.args.self.now in
    let s = c.args.actor in
    let v = g.M.Calls.view core.mount in
    let laws = c.growth_laws.ensures in
    let n = (session_at core.sessions.items s).answered in
    let w = g.M.Calls.view c.perform.new.self in
    let d = subst (λ m. HasDone v w core.lines c.perform.new.lines s m c.in-Done.place c.in-Done.answer c.in-Done.commits) c.answered_by-answered.ensures c.in-Done.ensures.performed in
    let u : UnderWay = record { place = c.in-Done.place; answer = c.in-Done.answer } in
    let with : c.put_under_way.new.self.sessions.items ≡ set core.sessions.items s (record { answered = n; under_way = Some u }) =
    c.put_under_way.ensures.sessions ∙ ap (λ m. set core.sessions.items s (record { answered = m; under_way = Some u })) c.answered_by-answered.ensures in
    let pm = ap (λ x. x.mount) c.put_under_way.ensures.same in
    let at : session_at c.put_under_way.new.self.sessions.items s ≡ record { answered = n; under_way = Some u } =
    subst (λ ss. session_at ss s ≡ record { answered = n; under_way = Some u }) (sym with) (at_same core.sessions.items s (record { answered = n; under_way = Some u }) c.requires.actor) in
    let fin = g.M.Calls.view c.finish.new.self.mount in
    let ha = subst (λ ss. HasAnswered w fin ss c.finish.new.self.sessions.items s n u u.answer) with
    (subst (λ m. HasAnswered (g.M.Calls.view m) fin c.put_under_way.new.self.sessions.items c.finish.new.self.sessions.items s n u u.answer) pm (c.finish.ensures.answered n u at)) in
    ap (λ x. x.leaving) ha.view ∙ c.perform.ensures.free

pub returns-then-ends-clause-goes : goal.returns-then-ends-clause-goes
returns-then-ends-clause-goes g c =
    let core = c.args.self.now in
    let s = c.args.actor in
    let v = g.M.Calls.view core.mount in
    let laws = c.growth_laws.ensures in
    let n = (session_at core.sessions.items s).answered in
    let is = ap (λ (w : Option UnderWay). record { answered = n; under_way = w }) c.requires.idle in
    let o = c.requires.sound.0 in
    let f = subst (Facts g.M.Calls.built o (g.M.Calls.kept o core.mount) v core.lines core.sessions.items) c.requires.running c.requires.sound.1 in
    let w = g.M.Calls.view c.perform.new.self in
    let d = subst (λ m. HasDone v w core.lines c.perform.new.lines s m c.in-Done.place c.in-Done.answer c.in-Done.commits) c.answered_by-answered.ensures c.in-Done.ensures.performed in
    let u : UnderWay = record { place = c.in-Done.place; answer = c.in-Done.answer } in
    let with : c.put_under_way.new.self.sessions.items ≡ set core.sessions.items s (record { answered = n; under_way = Some u }) =
    c.put_under_way.ensures.sessions ∙ ap (λ m. set core.sessions.items s (record { answered = m; under_way = Some u })) c.answered_by-answered.ensures in
    let pm = ap (λ x. x.mount) c.put_under_way.ensures.same in
    let at : session_at c.put_under_way.new.self.sessions.items s ≡ record { answered = n; under_way = Some u } =
    subst (λ ss. session_at ss s ≡ record { answered = n; under_way = Some u }) (sym with) (at_same core.sessions.items s (record { answered = n; under_way = Some u }) c.requires.actor) in
    let kept_done = (c.perform.ensures.kept o f.keeps (subst (λ m. MayBegin o v s (m + 1)) (sym c.answered_by-answered.ensures) (may_begin laws g.M.Calls.built o (g.M.Calls.kept o core.mount) v core.lines core.sessions.items f s n c.requires.actor is c.requires.ready c.requires.line))) in
    let fin = g.M.Calls.view c.finish.new.self.mount in
    let ha = subst (λ ss. HasAnswered w fin ss c.finish.new.self.sessions.items s n u u.answer) with
    (subst (λ m. HasAnswered (g.M.Calls.view m) fin c.put_under_way.new.self.sessions.items c.finish.new.self.sessions.items s n u u.answer) pm (c.finish.ensures.answered n u at)) in
    let kept_fin = c.finish.ensures.kept o n u at (subst (g.M.Calls.kept o) (sym pm) kept_done) (subst (λ m. MayAnswer o (g.M.Calls.view m) u.place u.answer) (sym pm) (may_answer_done laws g.M.Calls.built o (g.M.Calls.kept o core.mount) v core.lines core.sessions.items f s n c.requires.actor is c.requires.ready w c.perform.new.lines c.in-Done.place c.in-Done.answer c.in-Done.commits d c.perform.ensures.stage c.perform.ensures.free (ap (λ b. c.in-Done.commits && not b) (sym c.is_refusal.ensures) ∙ c.if-waits.false))) in
    let stop_is = c.is_stop_line-stops.ensures ∙ ap (λ m. is_stop_line (line_after core.lines s m)) c.answered_by-answered.ensures ∙ ap is_stop_line d.line in
    let ends_same = ends_is d.done u.answer ∙ sym (ap (λ b. b && is_fine u.answer) stop_is) ∙ sym (ap (λ b. c.is_stop_line-stops.result && b) c.is_fine.ensures) in
    let lines_same = ap (λ x. x.lines) c.finish.ensures.same ∙ ap (λ x. x.lines) c.put_under_way.ensures.same in
    let locks_same = ap (λ x. x.locks) c.finish.ensures.same ∙ ap (λ x. x.locks) c.put_under_way.ensures.same in
    subst (λ k. GoesOn (view_of v core.lines core.locks) s (view_of (g.M.Calls.view c.stop.new.self) c.finish.new.self.lines k)) (sym locks_same)
    (subst (λ l. GoesOn (view_of v core.lines core.locks) s (view_of (g.M.Calls.view c.stop.new.self) l core.locks)) (sym lines_same) ((stopped_turn laws g.M.Calls.built o (g.M.Calls.kept o core.mount) v core.lines core.sessions.items f s n c.requires.actor is c.requires.ready w c.perform.new.lines c.in-Done.place c.in-Done.answer c.in-Done.commits d c.perform.ensures.stage c.perform.ensures.free (g.M.Calls.kept o c.stop.new.self) fin (g.M.Calls.view c.stop.new.self) c.finish.new.self.sessions.items (c.stop.ensures.kept o kept_fin (may_stop laws g.M.Calls.built o (g.M.Calls.kept o core.mount) v core.lines core.sessions.items f s n c.requires.actor is c.requires.ready w c.perform.new.lines c.in-Done.place c.in-Done.answer c.in-Done.commits d c.perform.ensures.stage c.perform.ensures.free fin (ends_same ∙ c.if-ends.true) ha.view)) (ends_same ∙ c.if-ends.true) ha c.stop.ensures.view).goes core.locks))

pub returns-then-ends-clause-kept : goal.returns-then-ends-clause-kept
returns-then-ends-clause-kept g c =
    let core = c.args.self.now in
    let s = c.args.actor in
    let v = g.M.Calls.view core.mount in
    let laws = c.growth_laws.ensures in
    let n = (session_at core.sessions.items s).answered in
    let is = ap (λ (w : Option UnderWay). record { answered = n; under_way = w }) c.requires.idle in
    λ o facts.
    let f = subst (Facts g.M.Calls.built o (g.M.Calls.kept o core.mount) v core.lines core.sessions.items) c.requires.running facts in
    let w = g.M.Calls.view c.perform.new.self in
    let d = subst (λ m. HasDone v w core.lines c.perform.new.lines s m c.in-Done.place c.in-Done.answer c.in-Done.commits) c.answered_by-answered.ensures c.in-Done.ensures.performed in
    let u : UnderWay = record { place = c.in-Done.place; answer = c.in-Done.answer } in
    let with : c.put_under_way.new.self.sessions.items ≡ set core.sessions.items s (record { answered = n; under_way = Some u }) =
    c.put_under_way.ensures.sessions ∙ ap (λ m. set core.sessions.items s (record { answered = m; under_way = Some u })) c.answered_by-answered.ensures in
    let pm = ap (λ x. x.mount) c.put_under_way.ensures.same in
    let at : session_at c.put_under_way.new.self.sessions.items s ≡ record { answered = n; under_way = Some u } =
    subst (λ ss. session_at ss s ≡ record { answered = n; under_way = Some u }) (sym with) (at_same core.sessions.items s (record { answered = n; under_way = Some u }) c.requires.actor) in
    let kept_done = (c.perform.ensures.kept o f.keeps (subst (λ m. MayBegin o v s (m + 1)) (sym c.answered_by-answered.ensures) (may_begin laws g.M.Calls.built o (g.M.Calls.kept o core.mount) v core.lines core.sessions.items f s n c.requires.actor is c.requires.ready c.requires.line))) in
    let fin = g.M.Calls.view c.finish.new.self.mount in
    let ha = subst (λ ss. HasAnswered w fin ss c.finish.new.self.sessions.items s n u u.answer) with
    (subst (λ m. HasAnswered (g.M.Calls.view m) fin c.put_under_way.new.self.sessions.items c.finish.new.self.sessions.items s n u u.answer) pm (c.finish.ensures.answered n u at)) in
    let kept_fin = c.finish.ensures.kept o n u at (subst (g.M.Calls.kept o) (sym pm) kept_done) (subst (λ m. MayAnswer o (g.M.Calls.view m) u.place u.answer) (sym pm) (may_answer_done laws g.M.Calls.built o (g.M.Calls.kept o core.mount) v core.lines core.sessions.items f s n c.requires.actor is c.requires.ready w c.perform.new.lines c.in-Done.place c.in-Done.answer c.in-Done.commits d c.perform.ensures.stage c.perform.ensures.free (ap (λ b. c.in-Done.commits && not b) (sym c.is_refusal.ensures) ∙ c.if-waits.false))) in
    let stop_is = c.is_stop_line-stops.ensures ∙ ap (λ m. is_stop_line (line_after core.lines s m)) c.answered_by-answered.ensures ∙ ap is_stop_line d.line in
    let ends_same = ends_is d.done u.answer ∙ sym (ap (λ b. b && is_fine u.answer) stop_is) ∙ sym (ap (λ b. c.is_stop_line-stops.result && b) c.is_fine.ensures) in
    let lines_same = ap (λ x. x.lines) c.finish.ensures.same ∙ ap (λ x. x.lines) c.put_under_way.ensures.same in
    subst (λ l. Facts g.M.Calls.built o (g.M.Calls.kept o c.stop.new.self) (g.M.Calls.view c.stop.new.self) l c.finish.new.self.sessions.items true) (sym lines_same) (stopped_turn laws g.M.Calls.built o (g.M.Calls.kept o core.mount) v core.lines core.sessions.items f s n c.requires.actor is c.requires.ready w c.perform.new.lines c.in-Done.place c.in-Done.answer c.in-Done.commits d c.perform.ensures.stage c.perform.ensures.free (g.M.Calls.kept o c.stop.new.self) fin (g.M.Calls.view c.stop.new.self) c.finish.new.self.sessions.items (c.stop.ensures.kept o kept_fin (may_stop laws g.M.Calls.built o (g.M.Calls.kept o core.mount) v core.lines core.sessions.items f s n c.requires.actor is c.requires.ready w c.perform.new.lines c.in-Done.place c.in-Done.answer c.in-Done.commits d c.perform.ensures.stage c.perform.ensures.free fin (ends_same ∙ c.if-ends.true) ha.view)) (ends_same ∙ c.if-ends.true) ha c.stop.ensures.view).facts

pub returns-in-Again-clause-less : goal.returns-in-Again-clause-less
returns-in-Again-clause-less g c =
    let core = c.args.self.now in
    let s = c.args.actor in
    let v = g.M.Calls.view core.mount in
    let laws = c.growth_laws.ensures in
    let n = (session_at core.sessions.items s).answered in
    let o = c.requires.sound.0 in
    let f = subst (Facts g.M.Calls.built o (g.M.Calls.kept o core.mount) v core.lines core.sessions.items) c.requires.running c.requires.sound.1 in
    let lines = script_lines core.lines v.history in
    let owed = g.M.Calls.owed core.mount in
    let per = g.M.Calls.per_call in
    let goes = returns-in-Again-clause-goes g c in
    subst (λ l. work_of per (g.M.Calls.owed c.perform.new.self) l core.sessions.items < work_of per owed lines core.sessions.items) (sym goes.turn.same_lines)
    (work_staged per lines core.sessions.items owed (g.M.Calls.owed c.perform.new.self) c.in-Again.ensures.owed)

pub returns-then-waits-clause-less : goal.returns-then-waits-clause-less
returns-then-waits-clause-less g c =
    let core = c.args.self.now in
    let s = c.args.actor in
    let v = g.M.Calls.view core.mount in
    let laws = c.growth_laws.ensures in
    let n = (session_at core.sessions.items s).answered in
    let is = ap (λ (w : Option UnderWay). record { answered = n; under_way = w }) c.requires.idle in
    let o = c.requires.sound.0 in
    let f = subst (Facts g.M.Calls.built o (g.M.Calls.kept o core.mount) v core.lines core.sessions.items) c.requires.running c.requires.sound.1 in
    let lines = script_lines core.lines v.history in
    let owed = g.M.Calls.owed core.mount in
    let per = g.M.Calls.per_call in
    let long = length_script core.lines v.history in
    let counts = f.counts in
    let inside_lines : s < length lines = omega (arith, c.requires.actor) in
    let u : UnderWay = record { place = c.in-Done.place; answer = c.in-Done.answer } in
    let with_call = set core.sessions.items s (record { answered = n; under_way = Some u }) in
    let with : c.put_under_way.new.self.sessions.items ≡ with_call =
    c.put_under_way.ensures.sessions ∙ ap (λ m. set core.sessions.items s (record { answered = m; under_way = Some u })) c.answered_by-answered.ensures in
    let pm = ap (λ x. x.mount) c.put_under_way.ensures.same in
    let begun = work_begun per lines core.sessions.items s n c.requires.actor inside_lines u owed (g.M.Calls.owed c.perform.new.self) is (begin_inside laws g.M.Calls.built o (g.M.Calls.kept o core.mount) v core.lines core.sessions.items f s n c.requires.actor is c.requires.ready c.requires.line) c.in-Done.ensures.owed in
    let goes = returns-then-waits-clause-goes g c in
    subst (λ l. work_of per (g.M.Calls.owed c.put_under_way.new.self.mount) l c.put_under_way.new.self.sessions.items < work_of per owed lines core.sessions.items) (sym goes.turn.same_lines)
    (subst (λ ss. work_of per (g.M.Calls.owed c.put_under_way.new.self.mount) lines ss < work_of per owed lines core.sessions.items) (sym with)
    (subst (λ m. work_of per (g.M.Calls.owed m) lines with_call < work_of per owed lines core.sessions.items) (sym pm) begun))

pub returns-else-ends-clause-less : goal.returns-else-ends-clause-less
returns-else-ends-clause-less g c =
    let core = c.args.self.now in
    let s = c.args.actor in
    let v = g.M.Calls.view core.mount in
    let laws = c.growth_laws.ensures in
    let n = (session_at core.sessions.items s).answered in
    let is = ap (λ (w : Option UnderWay). record { answered = n; under_way = w }) c.requires.idle in
    let o = c.requires.sound.0 in
    let f = subst (Facts g.M.Calls.built o (g.M.Calls.kept o core.mount) v core.lines core.sessions.items) c.requires.running c.requires.sound.1 in
    let lines = script_lines core.lines v.history in
    let owed = g.M.Calls.owed core.mount in
    let per = g.M.Calls.per_call in
    let long = length_script core.lines v.history in
    let counts = f.counts in
    let inside_lines : s < length lines = omega (arith, c.requires.actor) in
    let u : UnderWay = record { place = c.in-Done.place; answer = c.in-Done.answer } in
    let with_call = set core.sessions.items s (record { answered = n; under_way = Some u }) in
    let with : c.put_under_way.new.self.sessions.items ≡ with_call =
    c.put_under_way.ensures.sessions ∙ ap (λ m. set core.sessions.items s (record { answered = m; under_way = Some u })) c.answered_by-answered.ensures in
    let pm = ap (λ x. x.mount) c.put_under_way.ensures.same in
    let begun = work_begun per lines core.sessions.items s n c.requires.actor inside_lines u owed (g.M.Calls.owed c.perform.new.self) is (begin_inside laws g.M.Calls.built o (g.M.Calls.kept o core.mount) v core.lines core.sessions.items f s n c.requires.actor is c.requires.ready c.requires.line) c.in-Done.ensures.owed in
    let w = g.M.Calls.view c.perform.new.self in
    let here : session_at with_call s ≡ record { answered = n; under_way = Some u } = at_same core.sessions.items s (record { answered = n; under_way = Some u }) c.requires.actor in
    let at : session_at c.put_under_way.new.self.sessions.items s ≡ record { answered = n; under_way = Some u } = subst (λ ss. session_at ss s ≡ record { answered = n; under_way = Some u }) (sym with) here in
    let fin = g.M.Calls.view c.finish.new.self.mount in
    let ha = subst (λ ss. HasAnswered w fin ss c.finish.new.self.sessions.items s n u u.answer) with
    (subst (λ m. HasAnswered (g.M.Calls.view m) fin c.put_under_way.new.self.sessions.items c.finish.new.self.sessions.items s n u u.answer) pm (c.finish.ensures.answered n u at)) in
    let fewer = subst (λ m. g.M.Calls.owed c.finish.new.self.mount ≤ g.M.Calls.owed m) pm c.finish.ensures.owed in
    let with_inside : s < length with_call = subst (λ k. s < k) (sym (length-set core.sessions.items s (record { answered = n; under_way = Some u }))) c.requires.actor in
    let goes = returns-else-ends-clause-goes g c in
    let answered = work_answered per lines with_call s n with_inside inside_lines u (g.M.Calls.owed c.perform.new.self) (g.M.Calls.owed c.finish.new.self.mount) here (omega (arith, fewer)) in
    subst (λ l. work_of per (g.M.Calls.owed c.finish.new.self.mount) l c.finish.new.self.sessions.items < work_of per owed lines core.sessions.items) (sym goes.turn.same_lines)
    (subst (λ ss. work_of per (g.M.Calls.owed c.finish.new.self.mount) lines ss < work_of per owed lines core.sessions.items) (sym ha.later_is) (omega (arith, answered, begun)))

pub returns-then-ends-clause-less : goal.returns-then-ends-clause-less
returns-then-ends-clause-less g c =
    let core = c.args.self.now in
    let s = c.args.actor in
    let v = g.M.Calls.view core.mount in
    let laws = c.growth_laws.ensures in
    let n = (session_at core.sessions.items s).answered in
    let is = ap (λ (w : Option UnderWay). record { answered = n; under_way = w }) c.requires.idle in
    let o = c.requires.sound.0 in
    let f = subst (Facts g.M.Calls.built o (g.M.Calls.kept o core.mount) v core.lines core.sessions.items) c.requires.running c.requires.sound.1 in
    let lines = script_lines core.lines v.history in
    let owed = g.M.Calls.owed core.mount in
    let per = g.M.Calls.per_call in
    let long = length_script core.lines v.history in
    let counts = f.counts in
    let inside_lines : s < length lines = omega (arith, c.requires.actor) in
    let u : UnderWay = record { place = c.in-Done.place; answer = c.in-Done.answer } in
    let with_call = set core.sessions.items s (record { answered = n; under_way = Some u }) in
    let with : c.put_under_way.new.self.sessions.items ≡ with_call =
    c.put_under_way.ensures.sessions ∙ ap (λ m. set core.sessions.items s (record { answered = m; under_way = Some u })) c.answered_by-answered.ensures in
    let pm = ap (λ x. x.mount) c.put_under_way.ensures.same in
    let begun = work_begun per lines core.sessions.items s n c.requires.actor inside_lines u owed (g.M.Calls.owed c.perform.new.self) is (begin_inside laws g.M.Calls.built o (g.M.Calls.kept o core.mount) v core.lines core.sessions.items f s n c.requires.actor is c.requires.ready c.requires.line) c.in-Done.ensures.owed in
    let w = g.M.Calls.view c.perform.new.self in
    let here : session_at with_call s ≡ record { answered = n; under_way = Some u } = at_same core.sessions.items s (record { answered = n; under_way = Some u }) c.requires.actor in
    let at : session_at c.put_under_way.new.self.sessions.items s ≡ record { answered = n; under_way = Some u } = subst (λ ss. session_at ss s ≡ record { answered = n; under_way = Some u }) (sym with) here in
    let fin = g.M.Calls.view c.finish.new.self.mount in
    let ha = subst (λ ss. HasAnswered w fin ss c.finish.new.self.sessions.items s n u u.answer) with
    (subst (λ m. HasAnswered (g.M.Calls.view m) fin c.put_under_way.new.self.sessions.items c.finish.new.self.sessions.items s n u u.answer) pm (c.finish.ensures.answered n u at)) in
    let fewer = subst (λ m. g.M.Calls.owed c.finish.new.self.mount ≤ g.M.Calls.owed m) pm c.finish.ensures.owed in
    let with_inside : s < length with_call = subst (λ k. s < k) (sym (length-set core.sessions.items s (record { answered = n; under_way = Some u }))) c.requires.actor in
    let goes = returns-then-ends-clause-goes g c in
    let answered = work_answered per lines with_call s n with_inside inside_lines u (g.M.Calls.owed c.perform.new.self) (g.M.Calls.owed c.stop.new.self) here (omega (arith, fewer, c.stop.ensures.owed)) in
    subst (λ l. work_of per (g.M.Calls.owed c.stop.new.self) l c.finish.new.self.sessions.items < work_of per owed lines core.sessions.items) (sym goes.turn.same_lines)
    (subst (λ ss. work_of per (g.M.Calls.owed c.stop.new.self) lines ss < work_of per owed lines core.sessions.items) (sym ha.later_is) (omega (arith, answered, begun)))

pub perform-requires-clause-room : goal.perform-requires-clause-room
perform-requires-clause-room g c =
    let core = c.args.self.now in
    let s = c.args.actor in
    let v = g.M.Calls.view core.mount in
    let laws = c.growth_laws.ensures in
    let n = (session_at core.sessions.items s).answered in
    let is = ap (λ (w : Option UnderWay). record { answered = n; under_way = w }) c.requires.idle in
    let o = c.requires.sound.0 in
    let f = subst (Facts g.M.Calls.built o (g.M.Calls.kept o core.mount) v core.lines core.sessions.items) c.requires.running c.requires.sound.1 in
    let lines = script_lines core.lines v.history in
    let runs = begin_runs laws g.M.Calls.built o (g.M.Calls.kept o core.mount) v core.lines core.sessions.items f s n c.requires.actor is c.requires.ready c.requires.line in
    let room = room_running v core.lines core.sessions.items runs.open_end c.requires.room in
    let inside_lines : s < length lines = (let long = length_script core.lines v.history in let counts = f.counts in omega (arith, c.requires.actor)) in
    let has = begin_inside laws g.M.Calls.built o (g.M.Calls.kept o core.mount) v core.lines core.sessions.items f s n c.requires.actor is c.requires.ready c.requires.line in
    let u : UnderWay = record { place = 0; answer = say.Fine } in
    let begun = room_begun lines core.sessions.items s n c.requires.actor inside_lines u v.spare is has room in
    let last = room_last lines core.sessions.items v.spare room in
    omega (arith, begun, last)

pub returns-in-Again-clause-room : goal.returns-in-Again-clause-room
returns-in-Again-clause-room g c =
    let core = c.args.self.now in
    let s = c.args.actor in
    let v = g.M.Calls.view core.mount in
    let laws = c.growth_laws.ensures in
    let n = (session_at core.sessions.items s).answered in
    let is = ap (λ (w : Option UnderWay). record { answered = n; under_way = w }) c.requires.idle in
    let o = c.requires.sound.0 in
    let f = subst (Facts g.M.Calls.built o (g.M.Calls.kept o core.mount) v core.lines core.sessions.items) c.requires.running c.requires.sound.1 in
    let lines = script_lines core.lines v.history in
    let runs = begin_runs laws g.M.Calls.built o (g.M.Calls.kept o core.mount) v core.lines core.sessions.items f s n c.requires.actor is c.requires.ready c.requires.line in
    let room = room_running v core.lines core.sessions.items runs.open_end c.requires.room in
    let goes = returns-in-Again-clause-goes g c in
    has_room (g.M.Calls.view c.perform.new.self) c.perform.new.lines lines core.sessions.items goes.turn.same_lines (omega (arith, room, c.in-Again.ensures.performed.0.room))

pub returns-then-waits-clause-room : goal.returns-then-waits-clause-room
returns-then-waits-clause-room g c =
    let core = c.args.self.now in
    let s = c.args.actor in
    let v = g.M.Calls.view core.mount in
    let laws = c.growth_laws.ensures in
    let n = (session_at core.sessions.items s).answered in
    let is = ap (λ (w : Option UnderWay). record { answered = n; under_way = w }) c.requires.idle in
    let o = c.requires.sound.0 in
    let f = subst (Facts g.M.Calls.built o (g.M.Calls.kept o core.mount) v core.lines core.sessions.items) c.requires.running c.requires.sound.1 in
    let lines = script_lines core.lines v.history in
    let runs = begin_runs laws g.M.Calls.built o (g.M.Calls.kept o core.mount) v core.lines core.sessions.items f s n c.requires.actor is c.requires.ready c.requires.line in
    let room = room_running v core.lines core.sessions.items runs.open_end c.requires.room in
    let w = g.M.Calls.view c.perform.new.self in
    let d = subst (λ m. HasDone v w core.lines c.perform.new.lines s m c.in-Done.place c.in-Done.answer c.in-Done.commits) c.answered_by-answered.ensures c.in-Done.ensures.performed in
    let u : UnderWay = record { place = c.in-Done.place; answer = c.in-Done.answer } in
    let with_call = set core.sessions.items s (record { answered = n; under_way = Some u }) in
    let with : c.put_under_way.new.self.sessions.items ≡ with_call =
    c.put_under_way.ensures.sessions ∙ ap (λ m. set core.sessions.items s (record { answered = m; under_way = Some u })) c.answered_by-answered.ensures in
    let pm = ap (λ x. x.mount) c.put_under_way.ensures.same in
    let inside_lines : s < length lines = (let long = length_script core.lines v.history in let counts = f.counts in omega (arith, c.requires.actor)) in
    let has = begin_inside laws g.M.Calls.built o (g.M.Calls.kept o core.mount) v core.lines core.sessions.items f s n c.requires.actor is c.requires.ready c.requires.line in
    let begun : work_of 2 1 lines with_call + 3 ≤ v.spare = room_begun lines core.sessions.items s n c.requires.actor inside_lines u v.spare is has room in
    let behind : work_of 2 1 lines with_call ≤ w.spare = omega (arith, begun, d.room) in
    let goes = returns-then-waits-clause-goes g c in
    has_room (g.M.Calls.view c.put_under_way.new.self.mount) c.put_under_way.new.self.lines lines c.put_under_way.new.self.sessions.items goes.turn.same_lines
    (subst (λ ss. work_of 2 1 lines ss ≤ (g.M.Calls.view c.put_under_way.new.self.mount).spare) (sym with)
    (subst (λ m. work_of 2 1 lines with_call ≤ (g.M.Calls.view m).spare) (sym pm) behind))

pub finish-requires-clause-room : goal.finish-requires-clause-room
finish-requires-clause-room g c =
    let core = c.args.self.now in
    let s = c.args.actor in
    let v = g.M.Calls.view core.mount in
    let laws = c.growth_laws.ensures in
    let n = (session_at core.sessions.items s).answered in
    let is = ap (λ (w : Option UnderWay). record { answered = n; under_way = w }) c.requires.idle in
    let o = c.requires.sound.0 in
    let f = subst (Facts g.M.Calls.built o (g.M.Calls.kept o core.mount) v core.lines core.sessions.items) c.requires.running c.requires.sound.1 in
    let lines = script_lines core.lines v.history in
    let runs = begin_runs laws g.M.Calls.built o (g.M.Calls.kept o core.mount) v core.lines core.sessions.items f s n c.requires.actor is c.requires.ready c.requires.line in
    let room = room_running v core.lines core.sessions.items runs.open_end c.requires.room in
    let w = g.M.Calls.view c.perform.new.self in
    let d = subst (λ m. HasDone v w core.lines c.perform.new.lines s m c.in-Done.place c.in-Done.answer c.in-Done.commits) c.answered_by-answered.ensures c.in-Done.ensures.performed in
    let u : UnderWay = record { place = c.in-Done.place; answer = c.in-Done.answer } in
    let with_call = set core.sessions.items s (record { answered = n; under_way = Some u }) in
    let with : c.put_under_way.new.self.sessions.items ≡ with_call =
    c.put_under_way.ensures.sessions ∙ ap (λ m. set core.sessions.items s (record { answered = m; under_way = Some u })) c.answered_by-answered.ensures in
    let pm = ap (λ x. x.mount) c.put_under_way.ensures.same in
    let inside_lines : s < length lines = (let long = length_script core.lines v.history in let counts = f.counts in omega (arith, c.requires.actor)) in
    let has = begin_inside laws g.M.Calls.built o (g.M.Calls.kept o core.mount) v core.lines core.sessions.items f s n c.requires.actor is c.requires.ready c.requires.line in
    let begun : work_of 2 1 lines with_call + 3 ≤ v.spare = room_begun lines core.sessions.items s n c.requires.actor inside_lines u v.spare is has room in
    let behind : work_of 2 1 lines with_call ≤ w.spare = omega (arith, begun, d.room) in
    subst (λ m. 0 < (g.M.Calls.view m).spare) (sym pm) (room_last lines with_call w.spare behind)

pub returns-else-ends-clause-room : goal.returns-else-ends-clause-room
returns-else-ends-clause-room g c =
    let core = c.args.self.now in
    let s = c.args.actor in
    let v = g.M.Calls.view core.mount in
    let laws = c.growth_laws.ensures in
    let n = (session_at core.sessions.items s).answered in
    let is = ap (λ (w : Option UnderWay). record { answered = n; under_way = w }) c.requires.idle in
    let o = c.requires.sound.0 in
    let f = subst (Facts g.M.Calls.built o (g.M.Calls.kept o core.mount) v core.lines core.sessions.items) c.requires.running c.requires.sound.1 in
    let lines = script_lines core.lines v.history in
    let runs = begin_runs laws g.M.Calls.built o (g.M.Calls.kept o core.mount) v core.lines core.sessions.items f s n c.requires.actor is c.requires.ready c.requires.line in
    let room = room_running v core.lines core.sessions.items runs.open_end c.requires.room in
    let w = g.M.Calls.view c.perform.new.self in
    let d = subst (λ m. HasDone v w core.lines c.perform.new.lines s m c.in-Done.place c.in-Done.answer c.in-Done.commits) c.answered_by-answered.ensures c.in-Done.ensures.performed in
    let u : UnderWay = record { place = c.in-Done.place; answer = c.in-Done.answer } in
    let with_call = set core.sessions.items s (record { answered = n; under_way = Some u }) in
    let with : c.put_under_way.new.self.sessions.items ≡ with_call =
    c.put_under_way.ensures.sessions ∙ ap (λ m. set core.sessions.items s (record { answered = m; under_way = Some u })) c.answered_by-answered.ensures in
    let pm = ap (λ x. x.mount) c.put_under_way.ensures.same in
    let inside_lines : s < length lines = (let long = length_script core.lines v.history in let counts = f.counts in omega (arith, c.requires.actor)) in
    let has = begin_inside laws g.M.Calls.built o (g.M.Calls.kept o core.mount) v core.lines core.sessions.items f s n c.requires.actor is c.requires.ready c.requires.line in
    let begun : work_of 2 1 lines with_call + 3 ≤ v.spare = room_begun lines core.sessions.items s n c.requires.actor inside_lines u v.spare is has room in
    let behind : work_of 2 1 lines with_call ≤ w.spare = omega (arith, begun, d.room) in
    let here : session_at with_call s ≡ record { answered = n; under_way = Some u } = at_same core.sessions.items s (record { answered = n; under_way = Some u }) c.requires.actor in
    let at : session_at c.put_under_way.new.self.sessions.items s ≡ record { answered = n; under_way = Some u } = subst (λ ss. session_at ss s ≡ record { answered = n; under_way = Some u }) (sym with) here in
    let fin = g.M.Calls.view c.finish.new.self.mount in
    let ha = subst (λ ss. HasAnswered w fin ss c.finish.new.self.sessions.items s n u u.answer) with
    (subst (λ m. HasAnswered (g.M.Calls.view m) fin c.put_under_way.new.self.sessions.items c.finish.new.self.sessions.items s n u u.answer) pm (c.finish.ensures.answered n u at)) in
    let with_inside : s < length with_call = subst (λ k. s < k) (sym (length-set core.sessions.items s (record { answered = n; under_way = Some u }))) c.requires.actor in
    let answered : work_of 2 1 lines (set with_call s (record { answered = n + 1; under_way = None })) + 1 ≤ w.spare = room_answered lines with_call s n with_inside inside_lines u w.spare here behind in
    let goes = returns-else-ends-clause-goes g c in
    has_room fin c.finish.new.self.lines lines c.finish.new.self.sessions.items goes.turn.same_lines
    (subst (λ ss. work_of 2 1 lines ss ≤ fin.spare) (sym ha.later_is) (subst (λ x. work_of 2 1 lines (set with_call s (record { answered = n + 1; under_way = None })) ≤ x.spare) (sym ha.view) (omega (arith, answered))))

pub stop-requires-clause-room : goal.stop-requires-clause-room
stop-requires-clause-room g c =
    let core = c.args.self.now in
    let s = c.args.actor in
    let v = g.M.Calls.view core.mount in
    let laws = c.growth_laws.ensures in
    let n = (session_at core.sessions.items s).answered in
    let is = ap (λ (w : Option UnderWay). record { answered = n; under_way = w }) c.requires.idle in
    let o = c.requires.sound.0 in
    let f = subst (Facts g.M.Calls.built o (g.M.Calls.kept o core.mount) v core.lines core.sessions.items) c.requires.running c.requires.sound.1 in
    let lines = script_lines core.lines v.history in
    let runs = begin_runs laws g.M.Calls.built o (g.M.Calls.kept o core.mount) v core.lines core.sessions.items f s n c.requires.actor is c.requires.ready c.requires.line in
    let room = room_running v core.lines core.sessions.items runs.open_end c.requires.room in
    let w = g.M.Calls.view c.perform.new.self in
    let d = subst (λ m. HasDone v w core.lines c.perform.new.lines s m c.in-Done.place c.in-Done.answer c.in-Done.commits) c.answered_by-answered.ensures c.in-Done.ensures.performed in
    let u : UnderWay = record { place = c.in-Done.place; answer = c.in-Done.answer } in
    let with_call = set core.sessions.items s (record { answered = n; under_way = Some u }) in
    let with : c.put_under_way.new.self.sessions.items ≡ with_call =
    c.put_under_way.ensures.sessions ∙ ap (λ m. set core.sessions.items s (record { answered = m; under_way = Some u })) c.answered_by-answered.ensures in
    let pm = ap (λ x. x.mount) c.put_under_way.ensures.same in
    let inside_lines : s < length lines = (let long = length_script core.lines v.history in let counts = f.counts in omega (arith, c.requires.actor)) in
    let has = begin_inside laws g.M.Calls.built o (g.M.Calls.kept o core.mount) v core.lines core.sessions.items f s n c.requires.actor is c.requires.ready c.requires.line in
    let begun : work_of 2 1 lines with_call + 3 ≤ v.spare = room_begun lines core.sessions.items s n c.requires.actor inside_lines u v.spare is has room in
    let behind : work_of 2 1 lines with_call ≤ w.spare = omega (arith, begun, d.room) in
    let here : session_at with_call s ≡ record { answered = n; under_way = Some u } = at_same core.sessions.items s (record { answered = n; under_way = Some u }) c.requires.actor in
    let at : session_at c.put_under_way.new.self.sessions.items s ≡ record { answered = n; under_way = Some u } = subst (λ ss. session_at ss s ≡ record { answered = n; under_way = Some u }) (sym with) here in
    let fin = g.M.Calls.view c.finish.new.self.mount in
    let ha = subst (λ ss. HasAnswered w fin ss c.finish.new.self.sessions.items s n u u.answer) with
    (subst (λ m. HasAnswered (g.M.Calls.view m) fin c.put_under_way.new.self.sessions.items c.finish.new.self.sessions.items s n u u.answer) pm (c.finish.ensures.answered n u at)) in
    let with_inside : s < length with_call = subst (λ k. s < k) (sym (length-set core.sessions.items s (record { answered = n; under_way = Some u }))) c.requires.actor in
    let answered : work_of 2 1 lines (set with_call s (record { answered = n + 1; under_way = None })) + 1 ≤ w.spare = room_answered lines with_call s n with_inside inside_lines u w.spare here behind in
    subst (λ x. 0 < x.spare) (sym ha.view) (let last = room_last lines (set with_call s (record { answered = n + 1; under_way = None })) (w.spare - 1) (omega (arith, answered)) in omega arith)

pub returns-then-ends-clause-room : goal.returns-then-ends-clause-room
returns-then-ends-clause-room g c =
    let core = c.args.self.now in
    let s = c.args.actor in
    let v = g.M.Calls.view core.mount in
    let laws = c.growth_laws.ensures in
    let n = (session_at core.sessions.items s).answered in
    let is = ap (λ (w : Option UnderWay). record { answered = n; under_way = w }) c.requires.idle in
    let o = c.requires.sound.0 in
    let f = subst (Facts g.M.Calls.built o (g.M.Calls.kept o core.mount) v core.lines core.sessions.items) c.requires.running c.requires.sound.1 in
    let lines = script_lines core.lines v.history in
    let runs = begin_runs laws g.M.Calls.built o (g.M.Calls.kept o core.mount) v core.lines core.sessions.items f s n c.requires.actor is c.requires.ready c.requires.line in
    let room = room_running v core.lines core.sessions.items runs.open_end c.requires.room in
    let w = g.M.Calls.view c.perform.new.self in
    let d = subst (λ m. HasDone v w core.lines c.perform.new.lines s m c.in-Done.place c.in-Done.answer c.in-Done.commits) c.answered_by-answered.ensures c.in-Done.ensures.performed in
    let u : UnderWay = record { place = c.in-Done.place; answer = c.in-Done.answer } in
    let with_call = set core.sessions.items s (record { answered = n; under_way = Some u }) in
    let with : c.put_under_way.new.self.sessions.items ≡ with_call =
    c.put_under_way.ensures.sessions ∙ ap (λ m. set core.sessions.items s (record { answered = m; under_way = Some u })) c.answered_by-answered.ensures in
    let pm = ap (λ x. x.mount) c.put_under_way.ensures.same in
    let inside_lines : s < length lines = (let long = length_script core.lines v.history in let counts = f.counts in omega (arith, c.requires.actor)) in
    let has = begin_inside laws g.M.Calls.built o (g.M.Calls.kept o core.mount) v core.lines core.sessions.items f s n c.requires.actor is c.requires.ready c.requires.line in
    let begun : work_of 2 1 lines with_call + 3 ≤ v.spare = room_begun lines core.sessions.items s n c.requires.actor inside_lines u v.spare is has room in
    let behind : work_of 2 1 lines with_call ≤ w.spare = omega (arith, begun, d.room) in
    let here : session_at with_call s ≡ record { answered = n; under_way = Some u } = at_same core.sessions.items s (record { answered = n; under_way = Some u }) c.requires.actor in
    let at : session_at c.put_under_way.new.self.sessions.items s ≡ record { answered = n; under_way = Some u } = subst (λ ss. session_at ss s ≡ record { answered = n; under_way = Some u }) (sym with) here in
    let fin = g.M.Calls.view c.finish.new.self.mount in
    let ha = subst (λ ss. HasAnswered w fin ss c.finish.new.self.sessions.items s n u u.answer) with
    (subst (λ m. HasAnswered (g.M.Calls.view m) fin c.put_under_way.new.self.sessions.items c.finish.new.self.sessions.items s n u u.answer) pm (c.finish.ensures.answered n u at)) in
    let with_inside : s < length with_call = subst (λ k. s < k) (sym (length-set core.sessions.items s (record { answered = n; under_way = Some u }))) c.requires.actor in
    let answered : work_of 2 1 lines (set with_call s (record { answered = n + 1; under_way = None })) + 1 ≤ w.spare = room_answered lines with_call s n with_inside inside_lines u w.spare here behind in
    let goes = returns-then-ends-clause-goes g c in
    let end = g.M.Calls.view c.stop.new.self in
    let facts = returns-then-ends-clause-kept g c o c.requires.sound.1 in
    let later = set with_call s (record { answered = n + 1; under_way = None }) in
    let spare : end.spare ≡ w.spare - 1 - 1 = ap (λ (x : MountView). x.spare) c.stop.ensures.view ∙ ap (λ (x : MountView). x.spare - 1) ha.view in
    room_ended end c.finish.new.self.lines lines c.finish.new.self.sessions.items goes.turn.same_lines facts.course.end
    (subst (λ ss. work_of 2 0 lines ss ≤ end.spare) (sym ha.later_is) (room_more lines later (w.spare - 1) end.spare (omega (arith, answered)) (omega (arith, spare))))

pub returns-in-Again-clause-order : goal.returns-in-Again-clause-order
returns-in-Again-clause-order g c =
    let core = c.args.self.now in
    let s = c.args.actor in
    let v = g.M.Calls.view core.mount in
    let n = (session_at core.sessions.items s).answered in
    λ before t.
    let made = c.in-Again.ensures.performed.0 in
    order_staged before v (script_lines core.lines v.history) (script_lines c.perform.new.lines (g.M.Calls.view c.perform.new.self).history) t (g.M.Calls.view c.perform.new.self) made.enabled made.still c.perform.ensures.stage made.history

pub returns-then-waits-clause-order : goal.returns-then-waits-clause-order
returns-then-waits-clause-order g c =
    let core = c.args.self.now in
    let s = c.args.actor in
    let v = g.M.Calls.view core.mount in
    let n = (session_at core.sessions.items s).answered in
    let w = g.M.Calls.view c.perform.new.self in
    let d = subst (λ m. HasDone v w core.lines c.perform.new.lines s m c.in-Done.place c.in-Done.answer c.in-Done.commits) c.answered_by-answered.ensures c.in-Done.ensures.performed in
    let u : UnderWay = record { place = c.in-Done.place; answer = c.in-Done.answer } in
    let with_call = set core.sessions.items s (record { answered = n; under_way = Some u }) in
    let with : c.put_under_way.new.self.sessions.items ≡ with_call =
    c.put_under_way.ensures.sessions ∙ ap (λ m. set core.sessions.items s (record { answered = m; under_way = Some u })) c.answered_by-answered.ensures in
    let pm = ap (λ x. x.mount) c.put_under_way.ensures.same in
    λ before t.
    let last = g.M.Calls.view c.put_under_way.new.self.mount in
    let later = script_lines c.put_under_way.new.self.lines last.history in
    subst (λ m. TellsInOrder before (g.M.Calls.view m) later) (sym pm)
    (order_waits before v (script_lines core.lines v.history) later t w core.lines c.perform.new.lines s n c.in-Done.place c.in-Done.answer c.in-Done.commits d c.perform.ensures.stage
    (no_refusal c.in-Done.commits (is_refusal c.in-Done.answer) c.is_refusal.result c.is_refusal.ensures c.if-waits.true))

pub returns-else-ends-clause-order : goal.returns-else-ends-clause-order
returns-else-ends-clause-order g c =
    let core = c.args.self.now in
    let s = c.args.actor in
    let v = g.M.Calls.view core.mount in
    let n = (session_at core.sessions.items s).answered in
    let left = ready_left (script_lines core.lines v.history) v.history s c.requires.ready in
    let w = g.M.Calls.view c.perform.new.self in
    let d = subst (λ m. HasDone v w core.lines c.perform.new.lines s m c.in-Done.place c.in-Done.answer c.in-Done.commits) c.answered_by-answered.ensures c.in-Done.ensures.performed in
    let u : UnderWay = record { place = c.in-Done.place; answer = c.in-Done.answer } in
    let with_call = set core.sessions.items s (record { answered = n; under_way = Some u }) in
    let with : c.put_under_way.new.self.sessions.items ≡ with_call =
    c.put_under_way.ensures.sessions ∙ ap (λ m. set core.sessions.items s (record { answered = m; under_way = Some u })) c.answered_by-answered.ensures in
    let pm = ap (λ x. x.mount) c.put_under_way.ensures.same in
    let here : session_at with_call s ≡ record { answered = n; under_way = Some u } = at_same core.sessions.items s (record { answered = n; under_way = Some u }) c.requires.actor in
    let at : session_at c.put_under_way.new.self.sessions.items s ≡ record { answered = n; under_way = Some u } = subst (λ ss. session_at ss s ≡ record { answered = n; under_way = Some u }) (sym with) here in
    let fin = g.M.Calls.view c.finish.new.self.mount in
    let ha = subst (λ ss. HasAnswered w fin ss c.finish.new.self.sessions.items s n u u.answer) with
    (subst (λ m. HasAnswered (g.M.Calls.view m) fin c.put_under_way.new.self.sessions.items c.finish.new.self.sessions.items s n u u.answer) pm (c.finish.ensures.answered n u at)) in
    λ before t.
    order_done before v (script_lines core.lines v.history) (script_lines c.finish.new.self.lines fin.history) t w core.lines c.perform.new.lines s n c.in-Done.place c.in-Done.answer c.in-Done.commits d c.perform.ensures.stage fin left ha.view

pub returns-then-ends-clause-order : goal.returns-then-ends-clause-order
returns-then-ends-clause-order g c =
    let core = c.args.self.now in
    let s = c.args.actor in
    let v = g.M.Calls.view core.mount in
    let n = (session_at core.sessions.items s).answered in
    let left = ready_left (script_lines core.lines v.history) v.history s c.requires.ready in
    let w = g.M.Calls.view c.perform.new.self in
    let d = subst (λ m. HasDone v w core.lines c.perform.new.lines s m c.in-Done.place c.in-Done.answer c.in-Done.commits) c.answered_by-answered.ensures c.in-Done.ensures.performed in
    let u : UnderWay = record { place = c.in-Done.place; answer = c.in-Done.answer } in
    let with_call = set core.sessions.items s (record { answered = n; under_way = Some u }) in
    let with : c.put_under_way.new.self.sessions.items ≡ with_call =
    c.put_under_way.ensures.sessions ∙ ap (λ m. set core.sessions.items s (record { answered = m; under_way = Some u })) c.answered_by-answered.ensures in
    let pm = ap (λ x. x.mount) c.put_under_way.ensures.same in
    let here : session_at with_call s ≡ record { answered = n; under_way = Some u } = at_same core.sessions.items s (record { answered = n; under_way = Some u }) c.requires.actor in
    let at : session_at c.put_under_way.new.self.sessions.items s ≡ record { answered = n; under_way = Some u } = subst (λ ss. session_at ss s ≡ record { answered = n; under_way = Some u }) (sym with) here in
    let fin = g.M.Calls.view c.finish.new.self.mount in
    let ha = subst (λ ss. HasAnswered w fin ss c.finish.new.self.sessions.items s n u u.answer) with
    (subst (λ m. HasAnswered (g.M.Calls.view m) fin c.put_under_way.new.self.sessions.items c.finish.new.self.sessions.items s n u u.answer) pm (c.finish.ensures.answered n u at)) in
    λ before t.
    let end = g.M.Calls.view c.stop.new.self in
    order_stopped before v (script_lines core.lines v.history) (script_lines c.finish.new.self.lines end.history) t w core.lines c.perform.new.lines s n c.in-Done.place c.in-Done.answer c.in-Done.commits d c.perform.ensures.stage fin left ha.view
    end (ends_fine c.is_stop_line-stops.result (is_fine u.answer) c.is_fine.result c.is_fine.ensures c.if-ends.true) c.stop.ensures.view

pub returns-else-ends-clause-logging : goal.returns-else-ends-clause-logging
returns-else-ends-clause-logging g c =
    let core = c.args.self.now in
    let s = c.args.actor in
    let v = g.M.Calls.view core.mount in
    let n = (session_at core.sessions.items s).answered in
    let w = g.M.Calls.view c.perform.new.self in
    let u : UnderWay = record { place = c.in-Done.place; answer = c.in-Done.answer } in
    let with_call = set core.sessions.items s (record { answered = n; under_way = Some u }) in
    let with : c.put_under_way.new.self.sessions.items ≡ with_call =
    c.put_under_way.ensures.sessions ∙ ap (λ m. set core.sessions.items s (record { answered = m; under_way = Some u })) c.answered_by-answered.ensures in
    let pm = ap (λ x. x.mount) c.put_under_way.ensures.same in
    let here : session_at with_call s ≡ record { answered = n; under_way = Some u } = at_same core.sessions.items s (record { answered = n; under_way = Some u }) c.requires.actor in
    let at : session_at c.put_under_way.new.self.sessions.items s ≡ record { answered = n; under_way = Some u } = subst (λ ss. session_at ss s ≡ record { answered = n; under_way = Some u }) (sym with) here in
    let fin = g.M.Calls.view c.finish.new.self.mount in
    let ha = subst (λ ss. HasAnswered w fin ss c.finish.new.self.sessions.items s n u u.answer) with
    (subst (λ m. HasAnswered (g.M.Calls.view m) fin c.put_under_way.new.self.sessions.items c.finish.new.self.sessions.items s n u u.answer) pm (c.finish.ensures.answered n u at)) in
    let mode : fin.logging ≡ v.logging = ap (λ (x : MountView). x.logging) ha.view ∙ c.perform.ensures.stage.logging in
    mode

pub returns-then-ends-clause-logging : goal.returns-then-ends-clause-logging
returns-then-ends-clause-logging g c =
    let core = c.args.self.now in
    let s = c.args.actor in
    let v = g.M.Calls.view core.mount in
    let n = (session_at core.sessions.items s).answered in
    let w = g.M.Calls.view c.perform.new.self in
    let u : UnderWay = record { place = c.in-Done.place; answer = c.in-Done.answer } in
    let with_call = set core.sessions.items s (record { answered = n; under_way = Some u }) in
    let with : c.put_under_way.new.self.sessions.items ≡ with_call =
    c.put_under_way.ensures.sessions ∙ ap (λ m. set core.sessions.items s (record { answered = m; under_way = Some u })) c.answered_by-answered.ensures in
    let pm = ap (λ x. x.mount) c.put_under_way.ensures.same in
    let here : session_at with_call s ≡ record { answered = n; under_way = Some u } = at_same core.sessions.items s (record { answered = n; under_way = Some u }) c.requires.actor in
    let at : session_at c.put_under_way.new.self.sessions.items s ≡ record { answered = n; under_way = Some u } = subst (λ ss. session_at ss s ≡ record { answered = n; under_way = Some u }) (sym with) here in
    let fin = g.M.Calls.view c.finish.new.self.mount in
    let ha = subst (λ ss. HasAnswered w fin ss c.finish.new.self.sessions.items s n u u.answer) with
    (subst (λ m. HasAnswered (g.M.Calls.view m) fin c.put_under_way.new.self.sessions.items c.finish.new.self.sessions.items s n u u.answer) pm (c.finish.ensures.answered n u at)) in
    let mode : fin.logging ≡ v.logging = ap (λ (x : MountView). x.logging) ha.view ∙ c.perform.ensures.stage.logging in
    ap (λ (x : MountView). x.logging) c.stop.ensures.view ∙ mode
