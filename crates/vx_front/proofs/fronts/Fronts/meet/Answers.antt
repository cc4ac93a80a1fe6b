use Rattle.std.proofs.Common.{sym, ◌∙◌, ap, subst}
use Rattle.vx_front.specs.Views.{KernelState, CallerState, kernel_note, caller_with_note}
use Rattle.vx_front.specs.Steps.{KernelFacts, CallerFacts}
use Rattle.vx_front.proofs.Meeting.{meeting_agrees, meeting_calls, meeting_later}
use Rattle.vx_front.proofs.fronts.Fronts.meet.Goals as goal

pub returns-clause-agree : goal.returns-clause-agree
returns-clause-agree c =
    meeting_agrees c.args.kernel.now.knows _ c.args.caller.now.knows _
    (ap (λ s. s.knows) (c.look_as_kernel.ensures.same ∙ c.tell_caller.ensures.kernel) ∙ c.tell_kernel.ensures.knows)
    (ap (λ s. s.knows) c.look.ensures.same ∙ (c.tell_caller.ensures.knows ∙ (λ i. caller_with_note (c.tell_kernel.ensures.caller i).knows (kernel_note (c.tell_kernel.ensures.knows i)))))
    c.requires.made
    (subst (λ (s : KernelState). KernelFacts s.knows) (sym c.look_as_kernel.ensures.same) c.look_as_kernel.ensures.facts)
    (subst (λ (s : CallerState). CallerFacts s.knows) (sym c.look.ensures.same) c.look.ensures.facts)

pub returns-clause-later : goal.returns-clause-later
returns-clause-later c =
    meeting_later c.args.kernel.now.knows c.args.caller.now.knows _
    (ap (λ s. s.knows) c.look.ensures.same ∙ (c.tell_caller.ensures.knows ∙ (λ i. caller_with_note (c.tell_kernel.ensures.caller i).knows (kernel_note (c.tell_kernel.ensures.knows i)))))
    (subst (λ (s : CallerState). CallerFacts s.knows) (sym c.look.ensures.same) c.look.ensures.facts)

pub returns-clause-all : goal.returns-clause-all
returns-clause-all c =
    meeting_calls c.args.kernel.now.knows c.look_as_kernel.new.kernel.knows c.args.caller.now.knows _
    (ap (λ s. s.knows) c.look.ensures.same ∙ (c.tell_caller.ensures.knows ∙ (λ i. caller_with_note (c.tell_kernel.ensures.caller i).knows (kernel_note (c.tell_kernel.ensures.knows i)))))
    (returns-clause-agree c)
