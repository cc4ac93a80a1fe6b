use Rattle.std.proofs.Common.{ℕ, List, subst, Contains}
use Rattle.vx_dev.specs.declared.device.Operation.TheVariants.{Put}
use Rattle.vx_dev.specs.Tape.{Did, Failed}
use Rattle.vx_dev.proofs.Claims.{passed_join}
use Rattle.vx_layout.specs.LogForms.{head_of}
use Rattle.vx_log.specs.Crashes.{emptied}
use Rattle.vx_replay.proofs.Elsewhere as other
use Rattle.vx_replay.proofs.TailMoves.{ReadsOne, tail_is, homes_settled, ready_passed, ready_failed, head_passed, head_failed, turned_passed, turned_failed, on_ok, on_either}
use Rattle.vx_replay.proofs.writing.move_tail.Goals as goal

pub returns-in_err-barrier-clause-passed : goal.returns-in_err-barrier-clause-passed
returns-in_err-barrier-clause-passed g c = λ r reading told.
    ready_failed c.replay_laws.ensures c.args.log.now.sectors r (g.D.BlockDev.state c.args.dev.now) (g.D.BlockDev.state c.barrier.new.self) c.in_err-barrier.ensures.nothing told

pub returns-in_err-advance_tail-clause-passed : goal.returns-in_err-advance_tail-clause-passed
returns-in_err-advance_tail-clause-passed g c = λ r reading told.
    let laws = c.replay_laws.ensures in
    let n = c.args.log.now.sectors in
    let d0 = g.D.BlockDev.state c.args.dev.now in
    let d1 = g.D.BlockDev.state c.barrier.new.self in
    let d2 = g.D.BlockDev.state c.advance_tail.new.dev in
    let ready = homes_settled laws n r d0 d1 c.in_ok-barrier.ensures.passed told in
    let failed : Failed 2 (head_of (emptied r)) d1 d2 = subst (λ (b : List ℕ). Failed 2 b d1 d2) (tail_is c.args.log.now r c.head-head.result reading c.head-head.ensures.number) c.in_err-advance_tail.ensures.failed in
    passed_join (ReadsOne laws n r) d0 d1 d2 (ready_passed laws n r d0 d1 c.in_ok-barrier.ensures.passed told) (head_failed laws n r d1 d2 failed ready)

pub returns-clause-stands : goal.returns-clause-stands
returns-clause-stands g c = λ r reading told.
    let laws = c.replay_laws.ensures in
    let n = c.args.log.now.sectors in
    let d0 = g.D.BlockDev.state c.args.dev.now in
    let d1 = g.D.BlockDev.state c.barrier.new.self in
    let d2 = g.D.BlockDev.state c.advance_tail.new.dev in
    let d3 = g.D.BlockDev.state c.barrier-2.new.self in
    let ready = homes_settled laws n r d0 d1 c.in_ok-barrier.ensures.passed told in
    let put : Did (Put 2 (head_of (emptied r))) d1 d2 = subst (λ (b : List ℕ). Did (Put 2 b) d1 d2) (tail_is c.args.log.now r c.head-head.result reading c.head-head.ensures.number) c.in_ok-advance_tail.ensures.put in
    on_ok c.barrier-2.result (λ passed. laws.head_passed n r (emptied r) d2 d3 passed (laws.head_written n r (emptied r) d1 d2 put ready)) c.barrier-2.ensures.passed

pub returns-clause-passed : goal.returns-clause-passed
returns-clause-passed g c = λ r reading told.
    let laws = c.replay_laws.ensures in
    let n = c.args.log.now.sectors in
    let d0 = g.D.BlockDev.state c.args.dev.now in
    let d1 = g.D.BlockDev.state c.barrier.new.self in
    let d2 = g.D.BlockDev.state c.advance_tail.new.dev in
    let d3 = g.D.BlockDev.state c.barrier-2.new.self in
    let ready = homes_settled laws n r d0 d1 c.in_ok-barrier.ensures.passed told in
    let put : Did (Put 2 (head_of (emptied r))) d1 d2 = subst (λ (b : List ℕ). Did (Put 2 b) d1 d2) (tail_is c.args.log.now r c.head-head.result reading c.head-head.ensures.number) c.in_ok-advance_tail.ensures.put in
    let turning = laws.head_written n r (emptied r) d1 d2 put ready in
    let first = passed_join (ReadsOne laws n r) d0 d1 d2 (ready_passed laws n r d0 d1 c.in_ok-barrier.ensures.passed told) (head_passed laws n r d1 d2 put ready) in
    passed_join (ReadsOne laws n r) d0 d2 d3 first
    (on_either c.barrier-2.result c.barrier-2.ensures.passed c.barrier-2.ensures.nothing (λ passed. turned_passed laws n r d2 d3 passed turning) (λ nothing. turned_failed laws n r d2 d3 nothing turning))

pub returns-in_err-barrier-clause-elsewhere : goal.returns-in_err-barrier-clause-elsewhere
returns-in_err-barrier-clause-elsewhere g c = λ s values apart told.
    other.still c.replay_laws.ensures.tape s (Contains values) apart (g.D.BlockDev.state c.args.dev.now) (g.D.BlockDev.state c.barrier.new.self) c.in_err-barrier.ensures.nothing told

pub returns-in_err-advance_tail-clause-elsewhere : goal.returns-in_err-advance_tail-clause-elsewhere
returns-in_err-advance_tail-clause-elsewhere g c = λ s values apart told.
    let d0 = g.D.BlockDev.state c.args.dev.now in
    let d1 = g.D.BlockDev.state c.barrier.new.self in
    let d2 = g.D.BlockDev.state c.advance_tail.new.dev in
    passed_join (λ image. Contains values (image s)) d0 d1 d2 (other.barrier_step c.replay_laws.ensures.tape s (Contains values) apart d0 d1 c.in_ok-barrier.ensures.passed told)
    (other.head_failed c.replay_laws.ensures.tape s (Contains values) apart _ d1 d2 c.in_err-advance_tail.ensures.failed (other.after_barrier c.replay_laws.ensures.tape s (Contains values) apart d0 d1 c.in_ok-barrier.ensures.passed told))

pub returns-clause-elsewhere : goal.returns-clause-elsewhere
returns-clause-elsewhere g c = λ s values apart told.
    let d0 = g.D.BlockDev.state c.args.dev.now in
    let d1 = g.D.BlockDev.state c.barrier.new.self in
    let d2 = g.D.BlockDev.state c.advance_tail.new.dev in
    let d3 = g.D.BlockDev.state c.barrier-2.new.self in
    let first = other.after_barrier c.replay_laws.ensures.tape s (Contains values) apart d0 d1 c.in_ok-barrier.ensures.passed told in
    let second = other.after_head c.replay_laws.ensures.tape s (Contains values) apart _ d1 d2 c.in_ok-advance_tail.ensures.put first in
    let front = passed_join (λ image. Contains values (image s)) d0 d1 d2 (other.barrier_step c.replay_laws.ensures.tape s (Contains values) apart d0 d1 c.in_ok-barrier.ensures.passed told)
    (other.head_step c.replay_laws.ensures.tape s (Contains values) apart _ d1 d2 c.in_ok-advance_tail.ensures.put first) in
    passed_join (λ image. Contains values (image s)) d0 d2 d3 front
    (on_either c.barrier-2.result c.barrier-2.ensures.passed c.barrier-2.ensures.nothing (λ passed. other.barrier_step c.replay_laws.ensures.tape s (Contains values) apart d2 d3 passed second) (λ nothing. other.still c.replay_laws.ensures.tape s (Contains values) apart d2 d3 nothing second))
