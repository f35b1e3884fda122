use Rattle.std.proofs.Common.{◌≡◌, ℤ, true, false, [], w64, SFits, sym, subst, rules, arith}
use Rattle.std.specs.Prelude.{int_lt}
use Rattle.std.specs.List.{AllByRecursion}
use Rattle.std.specs.BTreeMap.Range.{entries_from}
use Rattle.std.specs.declared.cmp.Ordering.TheVariants.{Greater}
use Rattle.std.proofs.lemmas.Int.{ints, to_z-of_z}
use Rattle.partitions.specs.declared.partition.Partition.{Partition}
use Rattle.partitions.specs.Partition.{partition_cmp}
use Rattle.partitions.specs.NameDayFilter.{is_on_days}
use Rattle.partitions.proofs.Order.{partition_cmp_total}
use Rattle.partitions.proofs.Firsts.{none_below, none_past, on_one}
use Rattle.partitions.proofs.Leaps.{IsUnderWay, begun_from, from_above, given_one, ended, ended_early}
use Rattle.partitions.proofs.indexes.on_days.Goals as goal
use Rattle.partitions.proofs.indexes.on_days.Goals.{in-Some+then-partition-days, in_default}

pub loop-partition-init : goal.loop-partition-init
loop-partition-init c =
    let days = c.args.days.now in
    let test = is_on_days days in
    let all = c.args.index.now.entries in
    let start : Partition = record { day = days.first; pname = 0 } in
    let fits : SFits w64 days.first = search rules in
    let P : ℤ → Type 0 = λ d. (let from : Partition = record { day = d; pname = 0 } in
    IsUnderWay test all (entries_from (partition_cmp from) all) [] × AllByRecursion (λ e. partition_cmp start e.0 ≡ Greater → ⊥) (entries_from (partition_cmp from) all)) in
    rw (c.from_key-entries.ensures.entries, c.new-parts.ensures)
    (subst P (sym (to_z-of_z w64 days.first fits)) (begun_from test partition_cmp_total start all c.requires (none_below days), from_above partition_cmp start all))

pub loop-partition-preserved : goal.loop-partition-preserved
loop-partition-preserved c =
    let days = c.args.days.now in
    let test = is_on_days days in
    let all = c.args.index.now.entries in
    let e = c.in-Some.field-0.now in
    let at = rw c.in-Some.ensures.steps at c.loop-partition.invariant in
    let last_fits : SFits w64 days.last = search rules in
    let day_fits : SFits w64 e.0.day = search rules in
    let last : int_lt days.last e.0.day ≡ false = simp to_z-of_z at c.if-partition-days.false in
    rw c.in_ok-push.ensures.ok (given_one test all c.next.new.self e c.loop-partition.parts at.0 (on_one days e.0 at.1.0 last), at.1.1)

pub returns : goal.returns
returns c =
    let days = c.args.days.now in
    let test = is_on_days days in
    let all = c.args.index.now.entries in
    elim c.match-next.branch [
      | in-Some+then-partition-days w ↦
          let e = w.in-Some.field-0.now in
          let at = rw w.in-Some.ensures.steps at c.loop-partition.invariant in
          let last_fits : SFits w64 days.last = search rules in
          let day_fits : SFits w64 e.0.day = search rules in
          let late : int_lt days.last e.0.day ≡ true = simp to_z-of_z at w.if-partition-days.true in
          ended_early test partition_cmp_total all c.next.new.self e c.loop-partition.parts c.requires at.0 (none_past days e.0 (grind (arith, ints)))
      | in_default w ↦ let at = rw w.in_default.ensures.steps.0 at c.loop-partition.invariant in ended test all c.loop-partition.parts at.0
    ]
