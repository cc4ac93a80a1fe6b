use Rattle.std.proofs.Common.{rules}
use Rattle.std.proofs.lemmas.List.Sorted.{IsPartitionPoint-from_clause}
use Rattle.vx_flush.specs.Entries.{precedes}
use Rattle.vx_flush.proofs.Rising.{parted, place_found}
use Rattle.vx_flush.proofs.page_numbers.place_of.Goals as goal

pub returns-clause-place : goal.returns-clause-place
returns-clause-place c =
    let entries = c.args.entries.now in
    let point = IsPartitionPoint-from_clause (precedes c.args.ino c.args.page) entries c.partition_point.result c.partition_point.ensures.partitioned
    (parted c.args.ino c.args.page entries c.requires) (λ a r f k. search rules) in
    place_found c.args.ino c.args.page entries c.partition_point.result c.partition_point.ensures.bound point
