use Rattle.std.proofs.Common.{nat_le, rules, arith}
use Rattle.std.proofs.lemmas.Bool.{leb-true, leb-false}
use Rattle.std.proofs.lemmas.List.Sorted.{IsPartitionPoint-from_clause, IsPartitionedBy-leb}
use Rattle.vx_alloc.specs.declared.run_index.Run.{Run}
use Rattle.vx_alloc.proofs.RunLists.{starts_rise}
use Rattle.vx_alloc.proofs.run_index.starts_upto.Goals as goal

pub returns : goal.returns
returns c =
    let runs = c.args.runs.now in
    let point = IsPartitionPoint-from_clause (λ (run : Run). nat_le run.start c.args.block) runs c.partition_point.result c.partition_point.ensures.partitioned (IsPartitionedBy-leb (λ (run : Run). run.start) runs c.args.block (starts_rise runs c.requires)) (λ a r f k. search rules) in
    record {
      bound = c.partition_point.ensures.bound;
      before = λ k d low. leb-true _ _ (point.0 k d (omega arith) low);
      after = λ k d from within. leb-false _ _ (point.1 k d from within);
    }
