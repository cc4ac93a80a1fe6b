use Rattle.std.proofs.Common.{arith}
use Rattle.vx_run.proofs.Scripts.{few_sessions, short_lines, all_lines}
use Rattle.vx_run.proofs.begin.most_events.Goals as goal

pub line_count-requires-clause-few : goal.line_count-requires-clause-few
line_count-requires-clause-few c = few_sessions c.args.script.now c.requires

pub line_count-requires-clause-short : goal.line_count-requires-clause-short
line_count-requires-clause-short c = short_lines c.args.script.now c.requires

pub overflow_mul-result : goal.overflow_mul-result
overflow_mul-result c = let all = all_lines c.args.script.now c.requires in omega (arith, all, c.line_count.ensures)

pub overflow_add-result : goal.overflow_add-result
overflow_add-result c = let all = all_lines c.args.script.now c.requires in omega (arith, all, c.line_count.ensures)
