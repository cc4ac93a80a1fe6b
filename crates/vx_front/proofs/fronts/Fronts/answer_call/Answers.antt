use Rattle.vx_front.proofs.Meeting.{closes_next, answers_call}
use Rattle.vx_front.proofs.fronts.Fronts.answer_call.Goals as goal

pub close_call-requires-clause-seen : goal.close_call-requires-clause-seen
close_call-requires-clause-seen g c =
    closes_next {at = c.args.front} {c = c.args.caller.now.knows} (record {
      own = c.requires.entry;
      idle = c.requires.idle;
      met = c.meet.ensures.kernel;
      met_first = c.meet.ensures.caller;
      agree = c.meet.ensures.agree;
      later = c.meet.ensures.later;
      begun = c.begin_call.ensures.knows;
      met_again = c.meet-2.ensures.kernel;
      met_second = c.meet-2.ensures.caller;
      later_again = c.meet-2.ensures.later;
      published = c.publish.ensures.knows;
      opened = c.open_call.ensures.knows;
      met_last = c.meet-3.ensures.kernel;
      met_third = c.meet-3.ensures.caller;
      agree_last = c.meet-3.ensures.agree;
      later_last = c.meet-3.ensures.later;
    })

pub returns-clause-answered : goal.returns-clause-answered
returns-clause-answered g c =
    answers_call {c = c.args.caller.now.knows} (record {
      own = c.requires.entry;
      idle = c.requires.idle;
      met = c.meet.ensures.kernel;
      met_first = c.meet.ensures.caller;
      agree = c.meet.ensures.agree;
      later = c.meet.ensures.later;
      begun = c.begin_call.ensures.knows;
      met_again = c.meet-2.ensures.kernel;
      met_second = c.meet-2.ensures.caller;
      later_again = c.meet-2.ensures.later;
      published = c.publish.ensures.knows;
      opened = c.open_call.ensures.knows;
      met_last = c.meet-3.ensures.kernel;
      met_third = c.meet-3.ensures.caller;
      agree_last = c.meet-3.ensures.agree;
      later_last = c.meet-3.ensures.later;
    }) _ c.close_call.ensures.knows
