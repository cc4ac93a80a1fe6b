use Rattle.std.proofs.Common.{arith}
use Rattle.vx_alloc.specs.declared.run_index.Run.{Run}
use Rattle.vx_alloc.proofs.RunLists.{holder_place, within_from}
use Rattle.vx_alloc.proofs.run_index.holder.Goals as goal

any : Run
any = record { start = 0; len = 0 }

pub overflow_sub-result : goal.overflow_sub-result
overflow_sub-result c =
    let at = holder_place c.args.runs.now c.args.block c.starts_upto.result any c.requires.apart c.starts_upto.ensures c.requires.covered in
    omega (arith, at.0)

pub returns-clause-has : goal.returns-clause-has
returns-clause-has c d =
    let at = holder_place c.args.runs.now c.args.block c.starts_upto.result d c.requires.apart c.starts_upto.ensures c.requires.covered in
    within_from _ _ c.args.block at.1.low at.1.high
