use Rattle.kcr_room.proofs.Common.{leb, rules, IsPartitionPoint-from_clause, IsPartitionedBy-leb}
use Rattle.kcr_room.proofs.Counting.{parted-count}
use Rattle.kcr_room.proofs.occupancy.count_until.Goals as goal

pub returns : goal.returns
returns c =
    let parted = IsPartitionedBy-leb (λ moment. moment) c.args.moments.now c.args.at c.requires in
    let point =
    IsPartitionPoint-from_clause (λ moment. leb moment c.args.at) c.args.moments.now c.partition_point.result c.partition_point.ensures.partitioned parted
    (λ a r q k. search rules) in
    parted-count (λ moment. leb moment c.args.at) c.args.moments.now c.partition_point.result c.partition_point.ensures.bound point
