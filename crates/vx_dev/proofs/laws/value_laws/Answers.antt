use Rattle.vx_dev.proofs.Values.{values_kept, values_passed, values_broken}
use Rattle.vx_dev.proofs.laws.value_laws.Goals as goal

pub returns-clause-stage : goal.returns-clause-stage
returns-clause-stage c = λ s values writes old new among ran h. (values_kept s values writes among old new ran h, values_passed s values writes among old new ran h)

pub returns-clause-broken : goal.returns-clause-broken
returns-clause-broken c = λ s values writes old new among broke h. values_broken s values writes among old new broke h
