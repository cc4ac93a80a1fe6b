use Rattle.std.proofs.Common.{refl, ◌∙◌, arith}
use Rattle.vx_flush.proofs.Zeroes.{zeroed_step, zeroed_end}
use Rattle.vx_flush.proofs.page_numbers.zero_each.Goals as goal

pub loop-i-init : goal.loop-i-init
loop-i-init c = record { items = refl; capacity = refl }

pub loop-i-preserved : goal.loop-i-preserved
loop-i-preserved c = record {
  items = zeroed_step c.loop-i.i c.args.entries.now.items c.loop-i.entries.items c.index.result.now c.loop-i.invariant.items c.index.ensures (omega (arith, c.loop-i-test.true, c.len-i-end.ensures));
  capacity = c.loop-i.invariant.capacity;
}

pub returns-clause-items : goal.returns-clause-items
returns-clause-items c = c.loop-i.invariant.items ∙ zeroed_end c.loop-i.i c.args.entries.now.items (omega (arith, c.loop-i-test.false, c.loop-i.auto.i-end, c.len-i-end.ensures))
