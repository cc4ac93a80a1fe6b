use Rattle.std.proofs.Common.{nat_lt, rules, arith}
use Rattle.std.proofs.lemmas.Bool.{ltb-true, ltb-false}
use Rattle.std.proofs.lemmas.List.Sorted.{IsPartitionPoint-from_clause, IsPartitionedBy-ltb}
use Rattle.vx_alloc.specs.declared.run_index.Run.{Run}
use Rattle.vx_alloc.proofs.RunLists.{starts_rise}
use Rattle.vx_alloc.proofs.run_index.starts_before.Goals as goal

pub returns : goal.returns
returns c =
    let runs = c.args.runs.now in
    let point = IsPartitionPoint-from_clause (λ (run : Run). nat_lt run.start c.args.start) runs c.partition_point.result c.partition_point.ensures.partitioned (IsPartitionedBy-ltb (λ (run : Run). run.start) runs c.args.start (starts_rise runs c.requires)) (λ a r f k. search rules) in
    record {
      bound = c.partition_point.ensures.bound;
      before = λ k d low. ltb-true _ _ (point.0 k d (omega arith) low);
      after = λ k d from within. ltb-false _ _ (point.1 k d from within);
    }
