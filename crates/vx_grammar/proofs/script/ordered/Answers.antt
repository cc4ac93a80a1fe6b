use Rattle.std.proofs.Common.{arith}
use Rattle.vx_grammar.proofs.Grouping.{lines_are, numbers_are, count_of, numbered_of, stuck_of, script_is}
use Rattle.vx_grammar.proofs.script.ordered.Goals as goal

pub lowest_stuck-requires-clause-few : goal.lowest_stuck-requires-clause-few
lowest_stuck-requires-clause-few c =
    let lines = lines_are c.args.reader c.into_parts-schedule.result.1.items c.sessions-sessions.result c.in_ok-grouped.grouped.lines c.into_parts-schedule.ensures.1 c.sessions-sessions.ensures c.in_ok-grouped.ensures.lines in
    omega (arith, count_of c.args.reader c.in_ok-grouped.grouped.lines lines)

pub lowest_stuck-requires-clause-numbered : goal.lowest_stuck-requires-clause-numbered
lowest_stuck-requires-clause-numbered c =
    let lines = lines_are c.args.reader c.into_parts-schedule.result.1.items c.sessions-sessions.result c.in_ok-grouped.grouped.lines c.into_parts-schedule.ensures.1 c.sessions-sessions.ensures c.in_ok-grouped.ensures.lines in
    let numbers = numbers_are c.args.reader c.into_parts-schedule.result.1.items c.sessions-sessions.result c.in_ok-grouped.grouped.numbers c.into_parts-schedule.ensures.1 c.sessions-sessions.ensures c.in_ok-grouped.ensures.numbers in
    numbered_of c.args.reader c.in_ok-grouped.grouped.lines c.in_ok-grouped.grouped.numbers c.requires lines numbers

pub returns-in-Some-clause-err : goal.returns-in-Some-clause-err
returns-in-Some-clause-err c =
    let lines = lines_are c.args.reader c.into_parts-schedule.result.1.items c.sessions-sessions.result c.in_ok-grouped.grouped.lines c.into_parts-schedule.ensures.1 c.sessions-sessions.ensures c.in_ok-grouped.ensures.lines in
    let numbers = numbers_are c.args.reader c.into_parts-schedule.result.1.items c.sessions-sessions.result c.in_ok-grouped.grouped.numbers c.into_parts-schedule.ensures.1 c.sessions-sessions.ensures c.in_ok-grouped.ensures.numbers in
    stuck_of c.args.reader c.in_ok-grouped.grouped.lines c.in_ok-grouped.grouped.numbers c.in-Some.line lines numbers c.in-Some.ensures

pub returns-in-None-clause-ok : goal.returns-in-None-clause-ok
returns-in-None-clause-ok c =
    let lines = lines_are c.args.reader c.into_parts-schedule.result.1.items c.sessions-sessions.result c.in_ok-grouped.grouped.lines c.into_parts-schedule.ensures.1 c.sessions-sessions.ensures c.in_ok-grouped.ensures.lines in
    script_is c.args.reader (record { sessions = c.sessions-sessions.result; schedule = c.into_parts-schedule.result.0; lines = c.in_ok-grouped.grouped.lines }) c.requires c.sessions-sessions.ensures c.into_parts-schedule.ensures.0 lines c.in-None.ensures
