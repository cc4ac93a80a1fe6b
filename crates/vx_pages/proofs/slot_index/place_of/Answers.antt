use Rattle.std.proofs.Common.{rules}
use Rattle.std.proofs.lemmas.List.Sorted.{IsPartitionPoint-from_clause}
use Rattle.vx_pages.specs.Indexes.{precedes}
use Rattle.vx_pages.proofs.Rising.{parted, place_found}
use Rattle.vx_pages.proofs.slot_index.place_of.Goals as goal

pub returns-clause-place : goal.returns-clause-place
returns-clause-place c =
    let ties = c.args.ties.now in
    let point = IsPartitionPoint-from_clause (precedes c.args.ino c.args.page) ties c.partition_point.result c.partition_point.ensures.partitioned
    (parted c.args.ino c.args.page ties c.requires) (λ a r f k. search rules) in
    place_found c.args.ino c.args.page ties c.partition_point.result c.partition_point.ensures.bound point
