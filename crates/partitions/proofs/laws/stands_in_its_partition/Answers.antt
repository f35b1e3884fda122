use Rattle.std.proofs.Common.{◌≡◌, subst, refl}
use Rattle.std.specs.Prelude.{true}
use Rattle.std.specs.Ordering.{is_eq}
use Rattle.std.specs.declared.cmp.Ordering.{Ordering}
use Rattle.std.specs.declared.cmp.Ordering.TheVariants.{Less, Equal, Greater}
use Rattle.std.proofs.lemmas.Cmp.{tied_itself}
use Rattle.partitions.specs.declared.partition.Partition.{Partition}
use Rattle.partitions.specs.Partition.{partition_cmp, partition_of}
use Rattle.partitions.proofs.Order.{partition_cmp_total, exact_partitions}
use Rattle.partitions.proofs.laws.stands_in_its_partition.Goals as goal

equal_by : (r : Ordering) → is_eq r ≡ true → r ≡ Equal
equal_by Less is = absurd cc
equal_by Equal is = refl
equal_by Greater is = absurd cc

in_own : (partition own : Partition) → partition ≡ own → is_eq (partition_cmp partition own) ≡ true
in_own partition own same =
    let itself : is_eq (partition_cmp partition partition) ≡ true = rw (tied_itself partition_cmp_total partition) refl in
    subst (λ (q : Partition). is_eq (partition_cmp partition q) ≡ true) same itself

pub returns : goal.returns
returns c = λ partition row. (λ is. exact_partitions partition (partition_of row.key.time row.pname) (equal_by _ is), λ same. in_own partition (partition_of row.key.time row.pname) same)
