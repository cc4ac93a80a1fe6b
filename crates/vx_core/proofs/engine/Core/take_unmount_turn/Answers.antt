use Rattle.std.proofs.Common.{◌<◌, arith, false, is_some, refl, sym, ap, subst, ◌∙◌, append-nil}
use Rattle.vx_core.specs.Facts.{Facts}
use Rattle.vx_core.proofs.Rooming.{room_running, has_room, room_last, room_left}
use Rattle.vx_core.proofs.Telling.{order_left, order_left_disabled}
use Rattle.vx_core.proofs.Unmounting.{is_over_still, not_disabled, open_runs, not_ended, ended_disabled, ended_last, is_over, facts_left, unmounts}
use Rattle.vx_core.specs.Lines.{script_lines}
use Rattle.vx_core.specs.Works.{work_of}
use Rattle.vx_core.proofs.Working.{work_staged}
use Rattle.vx_core.proofs.engine.Core.take_unmount_turn.Goals as goal

pub returns-then-is_some-clause-turn : goal.returns-then-is_some-clause-turn
returns-then-is_some-clause-turn g c =
    let core = c.args.self.now in
    let v = g.M.Calls.view core.mount in
    (ended_disabled v core.lines core.locks (ap is_some (sym c.disabled.ensures) ∙ sym c.is_some.ensures ∙ c.if-is_some.true), refl)

pub returns-then-has_ended-clause-turn : goal.returns-then-has_ended-clause-turn
returns-then-has_ended-clause-turn g c =
    let core = c.args.self.now in
    let v = g.M.Calls.view core.mount in
    (ended_last v core.lines core.locks (sym c.has_ended.ensures ∙ c.if-has_ended.true), refl)

pub leave-requires-clause-leavable : goal.leave-requires-clause-leavable
leave-requires-clause-leavable g c =
    let core = c.args.self.now in
    let v = g.M.Calls.view core.mount in
    let enabled = ap is_some (sym c.disabled.ensures) ∙ sym c.is_some.ensures ∙ c.if-is_some.false in
    let open_end = sym c.has_ended.ensures ∙ c.if-has_ended.false in
    let o = c.requires.sound.0 in
    let r = open_runs g.M.Calls.built o (g.M.Calls.kept o core.mount) v core.lines core.sessions.items core.stopped c.requires.sound.1 open_end in
    let f = subst (Facts g.M.Calls.built o (g.M.Calls.kept o core.mount) v core.lines core.sessions.items) r.0 c.requires.sound.1 in
    record { opening = o; keeps = f.keeps; over = is_over c.growth_laws.ensures g.M.Calls.built o (g.M.Calls.kept o core.mount) v core.lines core.sessions.items f r.1 c.requires.finished }

pub returns-in-Ok-clause-turn : goal.returns-in-Ok-clause-turn
returns-in-Ok-clause-turn g c =
    let core = c.args.self.now in
    let v = g.M.Calls.view core.mount in
    let enabled = ap is_some (sym c.disabled.ensures) ∙ sym c.is_some.ensures ∙ c.if-is_some.false in
    let open_end = sym c.has_ended.ensures ∙ c.if-has_ended.false in
    let o = c.requires.sound.0 in
    let r = open_runs g.M.Calls.built o (g.M.Calls.kept o core.mount) v core.lines core.sessions.items core.stopped c.requires.sound.1 open_end in
    let f = subst (Facts g.M.Calls.built o (g.M.Calls.kept o core.mount) v core.lines core.sessions.items) r.0 c.requires.sound.1 in
    unmounts c.growth_laws.ensures g.M.Calls.built o (g.M.Calls.kept o core.mount) v core.lines core.sessions.items f r.1 c.requires.finished (g.M.Calls.view c.leave.new.self) c.leave.ensures.stage c.in-Ok.field-0 c.in-Ok.ensures.history.0 c.in-Ok.ensures.history.1.0 c.in-Ok.ensures.history.1.1 core.locks (not_ended v core.lines core.locks enabled open_end)

pub returns-in-Ok-clause-kept : goal.returns-in-Ok-clause-kept
returns-in-Ok-clause-kept g c =
    let core = c.args.self.now in
    let v = g.M.Calls.view core.mount in
    let enabled = ap is_some (sym c.disabled.ensures) ∙ sym c.is_some.ensures ∙ c.if-is_some.false in
    let open_end = sym c.has_ended.ensures ∙ c.if-has_ended.false in
    λ o facts.
    let r = open_runs g.M.Calls.built o (g.M.Calls.kept o core.mount) v core.lines core.sessions.items core.stopped facts open_end in
    let f = subst (Facts g.M.Calls.built o (g.M.Calls.kept o core.mount) v core.lines core.sessions.items) r.0 facts in
    subst (λ b. Facts g.M.Calls.built o (g.M.Calls.kept o c.leave.new.self) (g.M.Calls.view c.leave.new.self) core.lines core.sessions.items b) (sym r.0)
    (facts_left c.growth_laws.ensures g.M.Calls.built o (g.M.Calls.kept o core.mount) v core.lines core.sessions.items f r.1 c.requires.finished (g.M.Calls.view c.leave.new.self) c.leave.ensures.stage c.in-Ok.field-0 c.in-Ok.ensures.history.0 c.in-Ok.ensures.history.1.0 c.in-Ok.ensures.history.1.1 (g.M.Calls.kept o c.leave.new.self) (c.leave.ensures.kept o f.keeps (is_over c.growth_laws.ensures g.M.Calls.built o (g.M.Calls.kept o core.mount) v core.lines core.sessions.items f r.1 c.requires.finished)))

pub returns-in-Err-clause-turn : goal.returns-in-Err-clause-turn
returns-in-Err-clause-turn g c =
    let core = c.args.self.now in
    let v = g.M.Calls.view core.mount in
    let enabled = ap is_some (sym c.disabled.ensures) ∙ sym c.is_some.ensures ∙ c.if-is_some.false in
    let open_end = sym c.has_ended.ensures ∙ c.if-has_ended.false in
    let o = c.requires.sound.0 in
    let r = open_runs g.M.Calls.built o (g.M.Calls.kept o core.mount) v core.lines core.sessions.items core.stopped c.requires.sound.1 open_end in
    let f = subst (Facts g.M.Calls.built o (g.M.Calls.kept o core.mount) v core.lines core.sessions.items) r.0 c.requires.sound.1 in
    unmounts c.growth_laws.ensures g.M.Calls.built o (g.M.Calls.kept o core.mount) v core.lines core.sessions.items f r.1 c.requires.finished (g.M.Calls.view c.leave.new.self) c.leave.ensures.stage false false 0 (c.in-Err.ensures.still ∙ sym (append-nil v.history)) core.locks (not_ended v core.lines core.locks enabled open_end)

pub returns-in-Err-clause-kept : goal.returns-in-Err-clause-kept
returns-in-Err-clause-kept g c =
    let core = c.args.self.now in
    let v = g.M.Calls.view core.mount in
    let enabled = ap is_some (sym c.disabled.ensures) ∙ sym c.is_some.ensures ∙ c.if-is_some.false in
    let open_end = sym c.has_ended.ensures ∙ c.if-has_ended.false in
    λ o facts.
    let r = open_runs g.M.Calls.built o (g.M.Calls.kept o core.mount) v core.lines core.sessions.items core.stopped facts open_end in
    let f = subst (Facts g.M.Calls.built o (g.M.Calls.kept o core.mount) v core.lines core.sessions.items) r.0 facts in
    subst (λ b. Facts g.M.Calls.built o (g.M.Calls.kept o c.leave.new.self) (g.M.Calls.view c.leave.new.self) core.lines core.sessions.items b) (sym r.0)
    (facts_left c.growth_laws.ensures g.M.Calls.built o (g.M.Calls.kept o core.mount) v core.lines core.sessions.items f r.1 c.requires.finished (g.M.Calls.view c.leave.new.self) c.leave.ensures.stage false false 0 (c.in-Err.ensures.still ∙ sym (append-nil v.history)) (g.M.Calls.kept o c.leave.new.self) (c.leave.ensures.kept o f.keeps (is_over c.growth_laws.ensures g.M.Calls.built o (g.M.Calls.kept o core.mount) v core.lines core.sessions.items f r.1 c.requires.finished)))

pub returns-in-Ok-clause-less : goal.returns-in-Ok-clause-less
returns-in-Ok-clause-less g c = λ _.
    let core = c.args.self.now in
    let lines = script_lines core.lines (g.M.Calls.view core.mount).history in
    let turn = returns-in-Ok-clause-turn g c in
    subst (λ l. work_of g.M.Calls.per_call (g.M.Calls.owed c.leave.new.self) l core.sessions.items < work_of g.M.Calls.per_call (g.M.Calls.owed core.mount) lines core.sessions.items) (sym turn.on.same_lines)
    (work_staged g.M.Calls.per_call lines core.sessions.items (g.M.Calls.owed core.mount) (g.M.Calls.owed c.leave.new.self) c.leave.ensures.owed)

pub returns-in-Err-clause-less : goal.returns-in-Err-clause-less
returns-in-Err-clause-less g c = λ _.
    let core = c.args.self.now in
    let lines = script_lines core.lines (g.M.Calls.view core.mount).history in
    let turn = returns-in-Err-clause-turn g c in
    subst (λ l. work_of g.M.Calls.per_call (g.M.Calls.owed c.leave.new.self) l core.sessions.items < work_of g.M.Calls.per_call (g.M.Calls.owed core.mount) lines core.sessions.items) (sym turn.on.same_lines)
    (work_staged g.M.Calls.per_call lines core.sessions.items (g.M.Calls.owed core.mount) (g.M.Calls.owed c.leave.new.self) c.leave.ensures.owed)

pub leave-requires-clause-room : goal.leave-requires-clause-room
leave-requires-clause-room g c =
    let core = c.args.self.now in
    let v = g.M.Calls.view core.mount in
    let enabled = ap is_some (sym c.disabled.ensures) ∙ sym c.is_some.ensures ∙ c.if-is_some.false in
    let open_end = sym c.has_ended.ensures ∙ c.if-has_ended.false in
    let o = c.requires.sound.0 in
    let r = open_runs g.M.Calls.built o (g.M.Calls.kept o core.mount) v core.lines core.sessions.items core.stopped c.requires.sound.1 open_end in
    let f = subst (Facts g.M.Calls.built o (g.M.Calls.kept o core.mount) v core.lines core.sessions.items) r.0 c.requires.sound.1 in
    let lines = script_lines core.lines v.history in
    let room = room_running v core.lines core.sessions.items open_end c.requires.room in
    room_last lines core.sessions.items v.spare room

pub returns-in-Ok-clause-room : goal.returns-in-Ok-clause-room
returns-in-Ok-clause-room g c =
    let core = c.args.self.now in
    let v = g.M.Calls.view core.mount in
    let enabled = ap is_some (sym c.disabled.ensures) ∙ sym c.is_some.ensures ∙ c.if-is_some.false in
    let open_end = sym c.has_ended.ensures ∙ c.if-has_ended.false in
    let o = c.requires.sound.0 in
    let r = open_runs g.M.Calls.built o (g.M.Calls.kept o core.mount) v core.lines core.sessions.items core.stopped c.requires.sound.1 open_end in
    let f = subst (Facts g.M.Calls.built o (g.M.Calls.kept o core.mount) v core.lines core.sessions.items) r.0 c.requires.sound.1 in
    let lines = script_lines core.lines v.history in
    let room = room_running v core.lines core.sessions.items open_end c.requires.room in
    let later = g.M.Calls.view c.leave.new.self in
    let turn = returns-in-Ok-clause-turn g c in
    room_left v later core.lines lines core.sessions.items c.in-Ok.field-0 c.in-Ok.ensures.history.0 c.in-Ok.ensures.history.1.0 c.growth_laws.ensures c.in-Ok.ensures.history.1.1 turn.on.same_lines c.in-Ok.ensures.room room

pub returns-in-Err-clause-room : goal.returns-in-Err-clause-room
returns-in-Err-clause-room g c =
    let core = c.args.self.now in
    let v = g.M.Calls.view core.mount in
    let enabled = ap is_some (sym c.disabled.ensures) ∙ sym c.is_some.ensures ∙ c.if-is_some.false in
    let open_end = sym c.has_ended.ensures ∙ c.if-has_ended.false in
    let o = c.requires.sound.0 in
    let r = open_runs g.M.Calls.built o (g.M.Calls.kept o core.mount) v core.lines core.sessions.items core.stopped c.requires.sound.1 open_end in
    let f = subst (Facts g.M.Calls.built o (g.M.Calls.kept o core.mount) v core.lines core.sessions.items) r.0 c.requires.sound.1 in
    let lines = script_lines core.lines v.history in
    let room = room_running v core.lines core.sessions.items open_end c.requires.room in
    let later = g.M.Calls.view c.leave.new.self in
    let turn = returns-in-Err-clause-turn g c in
    has_room later core.lines lines core.sessions.items turn.on.same_lines (let held = c.in-Err.ensures.held in omega (arith, room, held))

pub returns-in-Ok-clause-order : goal.returns-in-Ok-clause-order
returns-in-Ok-clause-order g c =
    let core = c.args.self.now in
    let v = g.M.Calls.view core.mount in
    let enabled = ap is_some (sym c.disabled.ensures) ∙ sym c.is_some.ensures ∙ c.if-is_some.false in
    let open_end = sym c.has_ended.ensures ∙ c.if-has_ended.false in
    let o = c.requires.sound.0 in
    let r = open_runs g.M.Calls.built o (g.M.Calls.kept o core.mount) v core.lines core.sessions.items core.stopped c.requires.sound.1 open_end in
    let f = subst (Facts g.M.Calls.built o (g.M.Calls.kept o core.mount) v core.lines core.sessions.items) r.0 c.requires.sound.1 in
    let lines = script_lines core.lines v.history in
    let room = room_running v core.lines core.sessions.items open_end c.requires.room in
    let later = g.M.Calls.view c.leave.new.self in
    λ before t.
    order_left before v lines (script_lines core.lines later.history) t later c.in-Ok.field-0 c.in-Ok.ensures.history.0 c.in-Ok.ensures.history.1.0 (not_disabled v.disabled enabled) c.in-Ok.ensures.enabled c.leave.ensures.stage c.in-Ok.ensures.history.1.1

pub returns-in-Err-clause-order : goal.returns-in-Err-clause-order
returns-in-Err-clause-order g c =
    let core = c.args.self.now in
    let v = g.M.Calls.view core.mount in
    let enabled = ap is_some (sym c.disabled.ensures) ∙ sym c.is_some.ensures ∙ c.if-is_some.false in
    let open_end = sym c.has_ended.ensures ∙ c.if-has_ended.false in
    let o = c.requires.sound.0 in
    let r = open_runs g.M.Calls.built o (g.M.Calls.kept o core.mount) v core.lines core.sessions.items core.stopped c.requires.sound.1 open_end in
    let f = subst (Facts g.M.Calls.built o (g.M.Calls.kept o core.mount) v core.lines core.sessions.items) r.0 c.requires.sound.1 in
    let lines = script_lines core.lines v.history in
    let room = room_running v core.lines core.sessions.items open_end c.requires.room in
    let later = g.M.Calls.view c.leave.new.self in
    λ before t.
    let kept = returns-in-Err-clause-kept g c o c.requires.sound.1 in
    order_left_disabled before v lines (script_lines core.lines later.history) t later later.write_faults (not_disabled v.disabled enabled) c.in-Err.ensures.disabled c.leave.ensures.stage c.in-Err.ensures.still open_end
    (is_over_still c.growth_laws.ensures g.M.Calls.built o (g.M.Calls.kept o core.mount) v core.lines core.sessions.items f r.1 c.requires.finished later c.in-Err.ensures.still)
