use Rattle.vx_stage.proofs.kernel.Kernel.want_release.Goals as goal

pub returns-clause-live : goal.returns-clause-live
returns-clause-live c = λ o d run told. c.empty.ensures.live o d (c.want_commit.ensures.run o d run) (c.want_commit.ensures.live o d run told)

pub returns-clause-run : goal.returns-clause-run
returns-clause-run c = λ o d run. c.empty.ensures.run o d (c.want_commit.ensures.run o d run)
