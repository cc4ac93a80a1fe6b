use Rattle.std.proofs.Common.{◌≡◌, ◌∙◌, true, false, sym}
use Rattle.vx_stage.proofs.kernel.Kernel.want_clean.Goals as goal

pub returns-then-not-want_commit-clause-leaves : goal.returns-then-not-want_commit-clause-leaves
returns-then-not-want_commit-clause-leaves c = λ none level. absurd (let wrong : true ≡ false = sym (c.want_commit.ensures.all none) ∙ c.if-not-want_commit.true in cc)

pub returns-then-tail-head-clause-run : goal.returns-then-tail-head-clause-run
returns-then-tail-head-clause-run c = λ o d run. c.empty.ensures.run o d (c.want_commit.ensures.run o d run)

pub returns-then-tail-head-clause-live : goal.returns-then-tail-head-clause-live
returns-then-tail-head-clause-live c = λ o d run told. c.empty.ensures.live o d (c.want_commit.ensures.run o d run) (c.want_commit.ensures.live o d run told)

pub returns-clause-run : goal.returns-clause-run
returns-clause-run c = λ o d run. c.leave.ensures.run o d (c.want_commit.ensures.run o d run)

pub returns-clause-live : goal.returns-clause-live
returns-clause-live c = λ o d run told. c.leave.ensures.live o d (c.want_commit.ensures.run o d run) (c.want_commit.ensures.live o d run told)
