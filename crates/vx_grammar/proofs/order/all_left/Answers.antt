use Rattle.std.proofs.Common.{refl, ◌∙◌, arith}
use Rattle.std.proofs.lemmas.List.{length-set}
use Rattle.vx_grammar.proofs.Ordering.{left_more, all_of_them}
use Rattle.vx_grammar.proofs.order.all_left.Goals as goal

pub sessions-init : goal.sessions-init
sessions-init c = record { len = refl; so_far = λ s lt. absurd (omega arith) }

pub sessions-preserved : goal.sessions-preserved
sessions-preserved c = record {
  len = length-set c.sessions.left c.sessions.session c.count.result ∙ c.sessions.invariant.len;
  so_far = left_more c.args.lines.now c.sessions.left c.sessions.session c.count.result (omega (arith, c.sessions.invariant.len)) c.count.ensures c.sessions.invariant.so_far;
}

pub returns : goal.returns
returns c = all_of_them c.args.lines.now c.sessions.left c.sessions.session (omega (arith, c.sessions.invariant.len)) (omega arith) c.sessions.invariant.so_far
