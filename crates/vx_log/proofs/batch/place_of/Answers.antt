use Rattle.std.proofs.Common.{rules}
use Rattle.std.specs.Prelude.{nat_lt}
use Rattle.std.proofs.lemmas.List.Sorted.{IsPartitionPoint-from_clause, IsPartitionedBy-ltb}
use Rattle.vx_layout.specs.LogForms.{AfterImage}
use Rattle.vx_log.proofs.BatchOrder.{batch_in_order, place_found}
use Rattle.vx_log.proofs.batch.place_of.Goals as goal

pub returns : goal.returns
returns c =
    let batch = c.args.entries.now in
    let point = IsPartitionPoint-from_clause (λ (e : AfterImage). nat_lt e.0 c.args.s) batch c.partition_point.result c.partition_point.ensures.partitioned
    (IsPartitionedBy-ltb (λ (e : AfterImage). e.0) batch c.args.s (batch_in_order batch c.requires.rising)) (λ a r f k. search rules) in
    place_found batch c.args.s c.partition_point.result c.partition_point.ensures.bound point
