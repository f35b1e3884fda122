use Rattle.std.proofs.Common.{◌≡◌, w64, SFits, ap, ◌∙◌, rules}
use Rattle.std.specs.List.{list_any}
use Rattle.std.specs.Ordering.{is_eq}
use Rattle.std.proofs.lemmas.Int.{to_z-of_z}
use Rattle.partitions.specs.declared.partition.Partition.{Partition}
use Rattle.partitions.specs.Partition.{partition_cmp, partition_of}
use Rattle.partitions.proofs.Parted.{halved}
use Rattle.partitions.proofs.rows.is_of_parts.Goals as goal

pub returns : goal.returns
returns c =
    let parts = c.args.parts.now in
    let row = c.args.row.now in
    let partition = c.partition_of-partition.result in
    let fits : SFits w64 row.key.time = search rules in
    let its : partition ≡ partition_of row.key.time row.pname = simp to_z-of_z at c.partition_of-partition.ensures in
    c.is_ok.ensures.value ∙ halved parts partition c.binary_search.result c.requires c.binary_search.ensures.bound c.binary_search.ensures.position
    ∙ ap (λ (p : Partition). list_any (λ q. is_eq (partition_cmp q p)) parts) its
