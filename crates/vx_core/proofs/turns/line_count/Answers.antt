use Rattle.std.proofs.Common.{◌≡◌, length, ap, ◌∙◌, arith}
use Rattle.vx_base.specs.Lines.{lines_of}
use Rattle.vx_core.specs.Works.{line_count, sum_below}
use Rattle.vx_core.proofs.turns.line_count.Goals as goal

pub returns : goal.returns
unfolding line_count
returns c = c.loop-session.invariant.sum ∙ ap (sum_below (λ s. length (lines_of c.args.lines.now s))) (let end : c.loop-session.session ≡ length c.args.lines.now = omega arith in end)
