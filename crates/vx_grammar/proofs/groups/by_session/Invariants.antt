use Rattle.std.proofs.Common.{◌≡◌}
use Rattle.std.specs.Prelude.{map, filter}
use Rattle.vx_grammar.specs.Orders.{below}
use Rattle.vx_grammar.specs.Scripts.{calls_of, numbers_of}
use Rattle.vx_grammar.proofs.Grouping.{is_from}
use Rattle.vx_grammar.proofs.groups.by_session.Given as goal

-- the sessions so far, and the lines of the others
abbrev pub invariant-sessions : goal.invariant-sessions
invariant-sessions l = record {
  lines : l.lines ≡ map (calls_of l.fn.commands.items) (below l.session);
  numbers : l.numbers ≡ map (numbers_of l.fn.commands.items) (below l.session);
  rest : l.rest.items ≡ filter (is_from l.session) l.fn.commands.items;
}
