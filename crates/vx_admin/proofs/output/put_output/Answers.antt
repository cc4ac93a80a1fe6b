use Rattle.vx_script.proofs.Pieces.{puts_flushed}
use Rattle.vx_admin.proofs.output.put_output.Goals as goal

pub returns-clause-puts : goal.returns-clause-puts
returns-clause-puts g c = puts_flushed _ _ _ _ c.in_ok-put_text.ensures c.flush.ensures.puts
