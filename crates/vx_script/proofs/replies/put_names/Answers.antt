use Rattle.vx_script.specs.Words.{spaced_name}
use Rattle.vx_script.proofs.Pieces.{puts_more, puts_broken, puts_at_err}
use Rattle.vx_script.proofs.replies.put_names.Goals as goal

pub returns-in_err-put_spaced : goal.returns-in_err-put_spaced
returns-in_err-put_spaced g c =
    puts_at_err _ _ _ c.from_residual.ensures.1 (puts_broken spaced_name _ _ _ c.loop-name-test.true c.loop-name.invariant (rw (c.as_slice.ensures, c.name-item.is) at c.in_err-put_spaced.ensures))

pub loop-name-preserved : goal.loop-name-preserved
loop-name-preserved g c = puts_more spaced_name _ _ _ c.loop-name-test.true c.loop-name.invariant (rw (c.as_slice.ensures, c.name-item.is) at c.in_ok-put_spaced.ensures)
