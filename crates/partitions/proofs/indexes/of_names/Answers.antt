use Rattle.std.proofs.Common.{◌≡◌, true, [], ◌∷◌, ◌++◌, map, ap, ◌∙◌}
use Rattle.std.proofs.lemmas.List.{map-append}
use Rattle.block_map.specs.Rising.{IsRising}
use Rattle.partitions.specs.declared.name_day.NameDay.{NameDay}
use Rattle.partitions.specs.NameDay.{name_day_cmp, name_day}
use Rattle.partitions.specs.NameDayFilter.{passes_filter}
use Rattle.partitions.proofs.NamedOrder.{named_cmp_total, same_named_by_test, less_named_by_test}
use Rattle.partitions.proofs.Leaps.{given_one, leap, leap_shorter, ended, ended_early}
use Rattle.partitions.proofs.indexes.of_names.Goals as goal
use Rattle.partitions.proofs.indexes.of_names.Goals.{in-Some+in-None, in_default}

pub loop-at-preserved-then-eq : goal.loop-at-preserved-then-eq
loop-at-preserved-then-eq c =
    let test = passes_filter c.args.name_day_filter.now in
    let all = c.args.index.now.entries in
    let e = c.in-Some.field-0.now in
    let way = rw c.in-Some.ensures.steps at c.loop-at.invariant in
    let same : c.in-Some-first_from.next ≡ e.0 = same_named_by_test c.in-Some-first_from.next e.0 c.if-eq.ensures in
    let passes : test e.0 ≡ true = rw same at c.in-Some-first_from.ensures.1 in
    let named : map name_day (c.loop-at.parts ++ c.partition.result ∷ []) ≡ map name_day c.loop-at.parts ++ e.0 ∷ [] =
    map-append name_day c.loop-at.parts (c.partition.result ∷ []) ∙ ap (λ (k : NameDay). map name_day c.loop-at.parts ++ k ∷ []) c.partition.ensures in
    rw (c.in_ok-push-in-Some-first_from.ensures.ok, named) (given_one test all c.next.new.self e (map name_day c.loop-at.parts) way passes)

pub loop-at-smaller : goal.loop-at-smaller
loop-at-smaller c =
    let test = passes_filter c.args.name_day_filter.now in
    let all = c.args.index.now.entries in
    let e = c.in-Some.field-0.now in
    let way = rw c.in-Some.ensures.steps at c.loop-at.invariant in
    let up : IsRising name_day_cmp all = rw c.iter-entries.ensures.entries at c.iter-entries.ensures.rising in
    let less = less_named_by_test e.0 c.in-Some-first_from.next c.in-Some-first_from.ensures.0 c.if-eq.ensures in
    rw (c.from_key-entries.ensures.entries, c.in-Some.ensures.steps) (leap_shorter test named_cmp_total all c.next.new.self e c.in-Some-first_from.next up way.past way.parted less)

pub loop-at-preserved : goal.loop-at-preserved
loop-at-preserved c =
    let test = passes_filter c.args.name_day_filter.now in
    let all = c.args.index.now.entries in
    let e = c.in-Some.field-0.now in
    let way = rw c.in-Some.ensures.steps at c.loop-at.invariant in
    let up : IsRising name_day_cmp all = rw c.iter-entries.ensures.entries at c.iter-entries.ensures.rising in
    let less = less_named_by_test e.0 c.in-Some-first_from.next c.in-Some-first_from.ensures.0 c.if-eq.ensures in
    rw c.from_key-entries.ensures.entries (leap test named_cmp_total all c.next.new.self e (map name_day c.loop-at.parts) c.in-Some-first_from.next up way less c.in-Some-first_from.ensures.2)

pub returns : goal.returns
returns c =
    let test = passes_filter c.args.name_day_filter.now in
    let all = c.args.index.now.entries in
    let given = map name_day c.loop-at.parts in
    let up : IsRising name_day_cmp all = rw c.iter-entries.ensures.entries at c.iter-entries.ensures.rising in
    elim c.match-next.branch [
      | in-Some+in-None w ↦ let way = rw w.in-Some.ensures.steps at c.loop-at.invariant in
          ended_early test named_cmp_total all c.next.new.self w.in-Some.field-0.now given up way w.in-None.ensures
      | in_default w ↦ let way = rw w.in_default.ensures.steps.0 at c.loop-at.invariant in ended test all given way
    ]
