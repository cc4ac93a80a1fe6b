use Rattle.std.proofs.Common.{◌*◌, ◌+◌, arith}
use Rattle.std.proofs.lemmas.Result.{on_err_weaker}
use Rattle.vx_flush.proofs.PageRuns.{second_failed}
use Rattle.vx_flush.proofs.flush.write_page.Goals as goal

pub returns-clause-broke : goal.returns-clause-broke
returns-clause-broke g c =
    on_err_weaker c.write-2.result (λ failed. second_failed c.run_laws.ensures c.args.at c.args.page.now (g.D.BlockDev.state c.args.dev.now) (g.D.BlockDev.state c.write.new.self) (g.D.BlockDev.state c.write-2.new.self)
    (2 * c.from-first.result) (2 * c.from-first.result + 1) c.sector_part.result c.sector_part-2.result
    (omega (arith, c.from-first.ensures, c.get.ensures)) (omega (arith, c.from-first.ensures, c.get.ensures)) c.sector_part.ensures c.sector_part-2.ensures
    c.in_ok-write.ensures.put c.write.ensures.size c.in_ok-write.ensures.certain failed c.write-2.ensures.size) c.write-2.ensures.failed
