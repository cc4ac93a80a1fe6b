use Rattle.std.proofs.Common.{sym, ◌∙◌, ap, subst}
use Rattle.vx_front.specs.Views.{KernelState}
use Rattle.vx_front.specs.Steps.{KernelFacts}
use Rattle.vx_front.proofs.Meeting.{ended_facts, ended_calls}
use Rattle.vx_front.proofs.fronts.Fronts.end_caller.Goals as goal

pub returns-clause-ended : goal.returns-clause-ended
returns-clause-ended c =
    ended_facts c.args.kernel.now.knows _ c.args.caller.knows
    (ap (λ s. s.knows) c.look_as_kernel.ensures.same ∙ c.take_in.ensures.knows)
    (subst (λ (s : KernelState). KernelFacts s.knows) (sym c.look_as_kernel.ensures.same) c.look_as_kernel.ensures.facts)

pub returns-clause-all : goal.returns-clause-all
returns-clause-all c = ended_calls c.look_as_kernel.new.kernel.knows c.args.caller.knows (returns-clause-ended c)
