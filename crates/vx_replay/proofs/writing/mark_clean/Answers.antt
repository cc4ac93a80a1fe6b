use Rattle.std.proofs.Common.{ℕ, List, subst}
use Rattle.vx_dev.specs.declared.device.Operation.TheVariants.{Put}
use Rattle.vx_dev.specs.Tape.{Did, Failed}
use Rattle.vx_replay.proofs.Marks.{put_failed, marked_passed, marked_left}
use Rattle.vx_replay.proofs.writing.mark_clean.Goals as goal

pub returns-in_err-write-clause-passed : goal.returns-in_err-write-clause-passed
returns-in_err-write-clause-passed g c = λ tree emptied.
    put_failed c.replay_laws.ensures (g.D.BlockDev.state c.args.dev.now).size c.args.superblock.now c.requires.is c.requires.room tree (g.D.BlockDev.state c.args.dev.now) emptied (g.D.BlockDev.state c.write-2.new.self)
    (subst (λ (b : List ℕ). Failed 0 b (g.D.BlockDev.state c.args.dev.now) (g.D.BlockDev.state c.write-2.new.self)) c.write.ensures c.in_err-write.ensures.failed)

pub returns-clause-passed : goal.returns-clause-passed
returns-clause-passed g c = λ tree emptied.
    marked_passed c.replay_laws.ensures (g.D.BlockDev.state c.args.dev.now).size c.args.superblock.now c.requires.is c.requires.room tree (g.D.BlockDev.state c.args.dev.now) emptied (g.D.BlockDev.state c.write-2.new.self) (g.D.BlockDev.state c.barrier.new.self) c.barrier.result
    (subst (λ (b : List ℕ). Did (Put 0 b) (g.D.BlockDev.state c.args.dev.now) (g.D.BlockDev.state c.write-2.new.self)) c.write.ensures c.in_ok-write.ensures.put) c.barrier.ensures.passed c.barrier.ensures.nothing

pub returns-clause-left : goal.returns-clause-left
returns-clause-left g c = λ tree emptied.
    marked_left c.replay_laws.ensures (g.D.BlockDev.state c.args.dev.now).size c.args.superblock.now c.requires.is c.requires.room tree (g.D.BlockDev.state c.args.dev.now) emptied (g.D.BlockDev.state c.write-2.new.self) (g.D.BlockDev.state c.barrier.new.self) c.barrier.result
    (subst (λ (b : List ℕ). Did (Put 0 b) (g.D.BlockDev.state c.args.dev.now) (g.D.BlockDev.state c.write-2.new.self)) c.write.ensures c.in_ok-write.ensures.put) c.barrier.ensures.passed
