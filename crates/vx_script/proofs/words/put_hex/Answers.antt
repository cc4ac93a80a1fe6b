use Rattle.vx_script.specs.Words.{hex_pair}
use Rattle.vx_script.proofs.Pieces.{puts_more, puts_broken, puts_at_err}
use Rattle.vx_script.proofs.words.put_hex.Goals as goal

pub returns-in_err-put : goal.returns-in_err-put
returns-in_err-put g c =
    puts_at_err _ _ _ c.from_residual.ensures.1 (puts_broken hex_pair _ _ 0 c.loop-b-test.true c.loop-b.invariant (rw c.hex_digits.ensures at c.in_err-put.ensures))

pub loop-b-preserved : goal.loop-b-preserved
loop-b-preserved g c = puts_more hex_pair _ _ 0 c.loop-b-test.true c.loop-b.invariant (rw c.hex_digits.ensures at c.in_ok-put.ensures)
