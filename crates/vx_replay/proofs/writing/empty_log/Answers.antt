use Rattle.std.proofs.Common.{sym, ◌∙◌}
use Rattle.std.specs.Prelude.{Result, Ok, Err, OnOk}
use Rattle.vx_dev.specs.declared.device.DevFault.{DevFault}
use Rattle.vx_layout.specs.LogForms.{LogState}
use Rattle.vx_log.specs.Crashes.{Stands, emptied}
use Rattle.vx_dev.specs.Moments.{Told}
use Rattle.vx_replay.specs.TailMoves.{IsReading}
use Rattle.vx_log.specs.Stages.{AreHomesPut}
use Rattle.vx_replay.proofs.Steps as steps
use Rattle.vx_replay.proofs.writing.empty_log.Goals as goal

pub returns-then-tail-head-clause-kept : goal.returns-then-tail-head-clause-kept
returns-then-tail-head-clause-kept g c = λ t tree h.
    let d0 = g.D.BlockDev.state c.args.dev.now in
    let d1 = g.D.BlockDev.state c.barrier.new.self in
    steps.always c.replay_laws.ensures d0 d1 t tree c.args.stopped.now h c.requires.superblock c.in_ok-barrier.ensures.passed d1
    (steps.still c.replay_laws.ensures d0 d1 t tree c.args.stopped.now h c.requires.superblock c.in_ok-barrier.ensures.passed)

pub returns-then-tail-head-clause-emptied : goal.returns-then-tail-head-clause-emptied
returns-then-tail-head-clause-emptied g c = λ t tree h.
    let d0 = g.D.BlockDev.state c.args.dev.now in
    let d1 = g.D.BlockDev.state c.barrier.new.self in
    steps.level_first c.replay_laws.ensures d0 d1 t tree c.args.stopped.now h c.requires.superblock c.in_ok-barrier.ensures.passed
    (sym c.tail.ensures ∙ c.if-tail-head.true ∙ c.head.ensures.number)

pub returns-in_err-put_all-clause-kept : goal.returns-in_err-put_all-clause-kept
returns-in_err-put_all-clause-kept g c = λ t tree h.
    let d0 = g.D.BlockDev.state c.args.dev.now in
    let d1 = g.D.BlockDev.state c.barrier.new.self in
    let d2 = g.D.BlockDev.state c.put_all.new.dev in
    steps.always c.replay_laws.ensures d0 d1 t tree c.args.stopped.now h c.requires.superblock c.in_ok-barrier.ensures.passed d2
    (steps.homes_broke c.replay_laws.ensures d0 d1 t tree c.args.stopped.now h c.requires.superblock c.in_ok-barrier.ensures.passed d2 c.in_err-put_all.ensures.broke)

pub returns-clause-kept : goal.returns-clause-kept
returns-clause-kept g c = λ t tree h.
    let d0 = g.D.BlockDev.state c.args.dev.now in
    let d1 = g.D.BlockDev.state c.barrier.new.self in
    let d2 = g.D.BlockDev.state c.put_all.new.dev in
    let d3 = g.D.BlockDev.state c.move_tail.new.dev in
    steps.always c.replay_laws.ensures d0 d1 t tree c.args.stopped.now h c.requires.superblock c.in_ok-barrier.ensures.passed d3
    (steps.emptied_passed c.replay_laws.ensures d0 d1 t tree c.args.stopped.now h c.requires.superblock c.in_ok-barrier.ensures.passed d2 d3 c.in_ok-put_all.ensures.ran
    c.move_tail.ensures.passed c.move_tail.ensures.elsewhere)

finish : (r : Result (Unit {0}) DevFault) (P Q R : LogState → Type 0) {C : Type 0} → ((l : LogState) → P l → Q l → OnOk r (R l)) → (((l : LogState) → P l → Q l → R l) → C) → OnOk r C
finish (Ok x) P Q R stands f = f stands
finish (Err e) P Q R stands f = tt

pub returns-clause-emptied : goal.returns-clause-emptied
returns-clause-emptied g c = λ t tree h.
    let d0 = g.D.BlockDev.state c.args.dev.now in
    let d1 = g.D.BlockDev.state c.barrier.new.self in
    let d2 = g.D.BlockDev.state c.put_all.new.dev in
    let d3 = g.D.BlockDev.state c.move_tail.new.dev in
    let log = c.args.stopped.now.log in
    finish c.move_tail.result (IsReading log) (λ r. Told d2 (AreHomesPut log.sectors r)) (λ r. Told d3 (Stands log.sectors (emptied r))) c.move_tail.ensures.stands
    (λ stands. steps.emptied_left c.replay_laws.ensures d0 d1 t tree c.args.stopped.now h c.requires.superblock c.in_ok-barrier.ensures.passed d2 d3 c.in_ok-put_all.ensures.ran stands)
