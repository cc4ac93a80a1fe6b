use Rattle.std.proofs.Common.{nat_lt, rules, arith}
use Rattle.std.proofs.lemmas.Bool.{ltb-true, ltb-false}
use Rattle.std.proofs.lemmas.List.Sorted.{IsPartitionPoint-from_clause, IsPartitionedBy-ltb}
use Rattle.vx_alloc.specs.declared.run_index.Run.{Run}
use Rattle.vx_alloc.specs.RunIndexes.{rank}
use Rattle.vx_alloc.proofs.run_index.ranks_before.Goals as goal

pub returns-clause-before : goal.returns-clause-before
returns-clause-before c k d low =
    let runs = c.args.runs.now in
    let point = IsPartitionPoint-from_clause (λ (run : Run). nat_lt (rank run) c.args.of) runs c.partition_point.result c.partition_point.ensures.partitioned (IsPartitionedBy-ltb rank runs c.args.of c.requires) (λ a r f k. search rules) in
    ltb-true _ _ (point.0 k d (omega arith) low)

pub returns-clause-after : goal.returns-clause-after
returns-clause-after c k d from within =
    let runs = c.args.runs.now in
    let point = IsPartitionPoint-from_clause (λ (run : Run). nat_lt (rank run) c.args.of) runs c.partition_point.result c.partition_point.ensures.partitioned (IsPartitionedBy-ltb rank runs c.args.of c.requires) (λ a r f k. search rules) in
    ltb-false _ _ (point.1 k d from within)
