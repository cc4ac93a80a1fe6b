use Rattle.vx_log.proofs.BatchOrder.{batch_in_order, rising_set, batch_set_same, batch_set_new, not_contained}
use Rattle.vx_log.proofs.laws.order_laws.Goals as goal

pub returns : goal.returns
returns c = record { in_order = batch_in_order; set_rises = rising_set; set_same = batch_set_same; set_new = batch_set_new; lacks = not_contained }
