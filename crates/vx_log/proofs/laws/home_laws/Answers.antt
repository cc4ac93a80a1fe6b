use Rattle.std.proofs.Common.{[], refl, sym, ⊎_elim, inl, inr}
use Rattle.vx_log.proofs.HomeWrites.{home_free, home_put, home_stable, all_home}
use Rattle.vx_log.proofs.StageClaims.{homes_written, homes_passed, homes_broken}
use Rattle.vx_log.proofs.laws.home_laws.Goals as goal

pub returns-clause-free : goal.returns-clause-free
returns-clause-free c = home_free

pub returns-clause-put : goal.returns-clause-put
returns-clause-put c = λ r s t. home_put c.tape_laws.ensures r s t (r.contents s) refl

pub returns-clause-stable : goal.returns-clause-stable
returns-clause-stable c = home_stable

pub returns-clause-home : goal.returns-clause-home
returns-clause-home c = λ n r t h each. all_home n r [] t h (λ s meta. ⊎_elim (λ unnamed. inl (λ x. sym (unnamed x))) (λ stable. inr (λ x may. stable x may)) (each s meta))

pub returns-clause-stage : goal.returns-clause-stage
returns-clause-stage c = λ n r writes old new some homes ran h. (homes_written c.tape_laws.ensures n r some writes homes old new ran h, homes_passed c.tape_laws.ensures n r some writes homes old new ran h)

pub returns-clause-broken : goal.returns-clause-broken
returns-clause-broken c = λ n r writes old new some homes broke h. homes_broken c.tape_laws.ensures n r some writes homes old new broke h
