use Rattle.std.proofs.Common.{ℕ, sym, ap, ◌∙◌}
use Rattle.block_map.specs.Index.{Listing}
use Rattle.partitions.specs.declared.partition.Partition.{Partition}
use Rattle.partitions.proofs.Noting.{at_none, indexed_known, indexed_new, name_absent}
use Rattle.partitions.proofs.indexes.put_last.Goals as goal

pub returns-in-Some-clause-indexed : goal.returns-in-Some-clause-indexed
returns-in-Some-clause-indexed c noted are at =
    let put = ap (λ (l : Listing Partition ℕ). l.entries) c.in-Some.ensures.replaced in
    indexed_known c.args.by_day.now c.args.by_name.now noted are c.args.partition c.args.place at c.replace.new.self c.in-Some.before c.in-Some.ensures.found put c.in-Some.ensures.rising

pub returns-in-None-clause-indexed : goal.returns-in-None-clause-indexed
returns-in-None-clause-indexed c noted are at =
    let by_day = c.args.by_day.now in
    let by_name = c.args.by_name.now in
    let partition = c.args.partition in
    let none = c.in-None.ensures.found in
    let day = rw c.in-None.ensures.absent at c.insert.ensures in
    let name = rw c.of.ensures at c.insert-in-None.ensures in
    let put = at_none c.insert.result _ (day.found ∙ sym none) day.absent in
    let put_name = at_none c.insert-in-None.result _ (name_absent by_day by_name noted are partition c.args.place at none c.insert-in-None.result name.found) name.absent in
    indexed_new by_day by_name noted are partition c.args.place at none c.insert.new.self c.insert-in-None.new.self put.0 day.rising put_name.0 name.rising
