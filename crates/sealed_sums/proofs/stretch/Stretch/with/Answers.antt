use Rattle.std.proofs.Common.{◌≡◌, ◌∙◌, FitsSigned, sym, rules, w64}
use Rattle.std.proofs.lemmas.Int.{to_z-of_z}
use Rattle.partitions.specs.Partition.{partition_of}
use Rattle.sealed_sums.specs.Stretch.{GoesWith}
use Rattle.sealed_sums.proofs.Stretches.{one_more, same_interval, same_partition}
use Rattle.sealed_sums.proofs.stretch.Stretch.with.Goals as goal

pub returns : goal.returns
returns c = λ rows is.
    let row = c.args.row.now in
    let fits : FitsSigned w64 row.key.time = search rules in
    let time = to_z-of_z w64 row.key.time fits in
    let partition : c.partition_of.result ≡ partition_of row.key.time row.pname = rw time at c.partition_of.ensures in
    let goes : GoesWith c.args.exponent c.args.self.now.table c.args.self.now.interval c.args.self.now.partition row = record {
      of_table = c.if-row-self.false;
      of_interval = sym c.interval_of_row.ensures ∙ same_interval c.interval_of_row.result c.args.self.now.interval c.if-ne.ensures;
      of_partition = sym partition ∙ same_partition c.partition_of.result c.args.self.now.partition c.if-ne-2.ensures;
    } in
    one_more c.args.exponent c.args.self.now c.in_ok-span.span c.len.result rows row is goes (rw time at c.in_ok-span.ensures.near) c.len.ensures.value c.len.ensures.bound
