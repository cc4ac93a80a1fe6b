use Rattle.vx_log.proofs.Commits.{body_free, put_more, certain_body}
use Rattle.vx_log.proofs.StageClaims.{stage_put, stage_passed, broken_passed}
use Rattle.vx_log.proofs.laws.body_laws.Goals as goal

pub returns-clause-free : goal.returns-clause-free
returns-clause-free c = λ n r t k some h room. body_free c.tape_laws.ensures n some r t h k room

pub returns-clause-more : goal.returns-clause-more
returns-clause-more c = λ n position body k t some room put. put_more c.tape_laws.ensures n some position body k t room put

pub returns-clause-certain : goal.returns-clause-certain
returns-clause-certain c = certain_body c.tape_laws.ensures

pub returns-clause-stage : goal.returns-clause-stage
returns-clause-stage c = λ n r batch from end old new fits order within ran h. (stage_put c.tape_laws.ensures n r batch fits from end order within old new ran h, stage_passed c.tape_laws.ensures n r batch fits from end order within old new ran h)

pub returns-clause-broken : goal.returns-clause-broken
returns-clause-broken c = λ n r batch from end old new fits order within broke h. broken_passed c.tape_laws.ensures n r batch fits from end order within old new broke h
