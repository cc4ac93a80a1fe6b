use Rattle.vx_script.specs.Words.{escaped}
use Rattle.vx_script.proofs.Pieces.{puts_more, puts_broken, puts_at_err}
use Rattle.vx_script.proofs.words.put_name.Goals as goal

pub returns-in_err-put_escaped : goal.returns-in_err-put_escaped
returns-in_err-put_escaped g c =
    puts_at_err _ _ _ c.from_residual.ensures.1 (puts_broken escaped _ _ 0 c.loop-b-test.true c.loop-b.invariant c.in_err-put_escaped.ensures)

pub loop-b-preserved : goal.loop-b-preserved
loop-b-preserved g c = puts_more escaped _ _ 0 c.loop-b-test.true c.loop-b.invariant c.in_ok-put_escaped.ensures
