use Rattle.std.proofs.Common.{◌≡◌, ◌∙◌, ◌<◌, arith, List, ℕ, Option, Some, ap, length, map, refl, subst, sym}
use Rattle.std.specs.Prelude.{IfSome}
use Rattle.std.specs.List.{AllByRecursion}
use Rattle.std.specs.List.Sorted.{IsSortedBy, IsStrictlySortedBy}
use Rattle.arch_types.specs.Order.{key_cmp}
use Rattle.param_segments.specs.declared.key_place.KeyPlace.{KeyPlace}
use Rattle.param_segments.specs.declared.runs.Runs.{Runs}
use Rattle.param_segments.specs.RowPlaces.{RowPlace, place_key, places_from}
use Rattle.param_segments.specs.Runs.{AreRunsSoFar, count_in_order, key_group, place_group}
use Rattle.param_segments.proofs.KeyPlaces.{all_of_places, groups_at_places, keys_at_places, places_back, sorted_places}
use Rattle.param_segments.proofs.OneGroup.{one_group}
use Rattle.param_segments.proofs.Placed.{is_place_earlier, sorted_inside}
use Rattle.param_segments.proofs.RunSteps.{numbers_len, places_numbered, runs_are}
use Rattle.param_segments.proofs.RunsComplete.{order_of_set}
use Rattle.param_segments.proofs.SegmentsOfSet.{are_of_set, places_rise}
use Rattle.param_segments.proofs.runs.are_set_segments.Goals as goal

pub returns-then-runs-eq1 : goal.returns-then-runs-eq1
returns-then-runs-eq1 c = (
  λ _. one_group c.args.segments.now c.in-Some.runs c.requires.sound (subst (λ (o : Option Runs). IfSome o (AreRunsSoFar c.args.segments.now)) c.in-Some.is c.in_ok-runs.ensures.found) c.if-runs-eq1.true,
  λ _. refl,
)

pub returns-then-not-are_rising : goal.returns-then-not-are_rising
returns-then-not-are_rising c = (
  λ e. absurd cc,
  λ set. absurd (
      let segments = c.args.segments.now in
      let sorted = c.put_in_order.new.places.items in
      let b = places_back segments c.in_ok-places.places.items sorted c.in_ok-places.ensures c.put_in_order.ensures.permutation in
      let up : IsSortedBy is_place_earlier b.0 = sorted_places b.0 sorted b.2 (λ k d high. c.in_ok-put_in_order.ensures.sorted k d (omega arith) high) in
      let rises = places_rise segments b.0 set b.1 up in
      let told = c.are_rising.ensures.1
      (subst (λ (ps : List KeyPlace). IsStrictlySortedBy key_cmp (map place_key ps)) (sym c.deref.ensures.value) (subst (IsStrictlySortedBy key_cmp) (sym (keys_at_places b.0 sorted b.2)) rises)) in
      let not_so = c.if-not-are_rising.true in
      cc),
)

pub come_in_order-requires-clause-placed : goal.come_in_order-requires-clause-placed
come_in_order-requires-clause-placed c =
    let segments = c.args.segments.now in
    let sorted = c.put_in_order.new.places.items in
    let b = places_back segments c.in_ok-places.places.items sorted c.in_ok-places.ensures c.put_in_order.ensures.permutation in
    let placed = sorted_inside segments (places_from 0 segments) b.0 c.requires.sound refl b.1 in
    let numbers = c.deref-2.result.now in
    let found : AreRunsSoFar segments c.in-Some.runs = subst (λ (o : Option Runs). IfSome o (AreRunsSoFar segments)) c.in-Some.is c.in_ok-runs.ensures.found in
    let numbered = places_numbered segments numbers b.0 (ap length c.deref-2.ensures.value ∙ numbers_len segments c.in-Some.runs found) placed in
    subst (AllByRecursion (λ (p : KeyPlace). p.segment < length numbers)) (sym c.deref-3.ensures.value) (all_of_places (λ (p : KeyPlace). p.segment < length numbers) b.0 sorted b.2 numbered)

pub come_in_order-requires-clause-within : goal.come_in_order-requires-clause-within
come_in_order-requires-clause-within c =
    let segments = c.args.segments.now in
    let runs = c.in-Some.runs in
    let found : AreRunsSoFar segments runs = subst (λ (o : Option Runs). IfSome o (AreRunsSoFar segments)) c.in-Some.is c.in_ok-runs.ensures.found in
    subst (λ (n : ℕ). AllByRecursion (λ m. m < n) c.deref-2.result.now) (sym found.count) (subst (AllByRecursion (λ m. m < length runs.groups)) (sym c.deref-2.ensures.value) found.within)

pub returns : goal.returns
returns c =
    let segments = c.args.segments.now in
    let sorted = c.put_in_order.new.places.items in
    let b = places_back segments c.in_ok-places.places.items sorted c.in_ok-places.ensures c.put_in_order.ensures.permutation in
    let placed = sorted_inside segments (places_from 0 segments) b.0 c.requires.sound refl b.1 in
    let runs = c.in-Some.runs in
    let numbers = runs.numbers.items in
    let found : AreRunsSoFar segments runs = subst (λ (o : Option Runs). IfSome o (AreRunsSoFar segments)) c.in-Some.is c.in_ok-runs.ensures.found in
    let of = runs_are segments runs found in
    let rises : IsStrictlySortedBy key_cmp (map (λ (p : RowPlace). p.key) b.0) =
    subst (IsStrictlySortedBy key_cmp) (keys_at_places b.0 sorted b.2) (subst (λ (ps : List KeyPlace). IsStrictlySortedBy key_cmp (map place_key ps)) c.deref.ensures.value (c.are_rising.ensures.0 c.if-not-are_rising.false)) in
    let groups : map (key_group c.deref-2.result.now) c.deref-3.result.now ≡ map (place_group numbers) b.0 =
    ap (λ (ns : List ℕ). map (key_group ns) c.deref-3.result.now) c.deref-2.ensures.value ∙ ap (map (key_group numbers)) c.deref-3.ensures.value ∙ groups_at_places numbers b.0 sorted b.2 in (
      λ told. are_of_set segments b.0 runs.groups numbers c.requires.sound b.1 rises of (sym (ap (count_in_order 0) groups) ∙ c.come_in_order.ensures.0 told ∙ ap (λ (n : ℕ). Some n) found.count),
      λ set. c.come_in_order.ensures.1 (ap (count_in_order 0) groups ∙ order_of_set segments b.0 runs.groups numbers c.requires.sound placed b.1 rises of set ∙ ap (λ (n : ℕ). Some n) (sym found.count)),
    )
