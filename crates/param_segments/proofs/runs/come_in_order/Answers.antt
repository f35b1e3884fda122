use Rattle.std.proofs.Common.{◌≡◌, ◌∙◌, ◌+◌, ◌<◌, ◌≤◌, List, ℕ, None, Option, Some, ap, arith, drop, get_or, length, map, sym}
use Rattle.std.proofs.lemmas.Bool.{eq-eqb, eqb-true}
use Rattle.std.proofs.lemmas.List.{drop_all}
use Rattle.std.proofs.lemmas.Option.{same_Some}
use Rattle.param_segments.specs.declared.key_place.KeyPlace.{KeyPlace}
use Rattle.param_segments.specs.Runs.{count_in_order, key_group}
use Rattle.param_segments.proofs.Asked.{item_is}
use Rattle.param_segments.proofs.Decoded.{each_at}
use Rattle.param_segments.proofs.KeyPlaces.{no_key_place}
use Rattle.param_segments.proofs.Placed.{next_dropped}
use Rattle.param_segments.proofs.RunSteps.{next_number, too_high}
use Rattle.param_segments.proofs.runs.come_in_order.Goals as goal

pub seen_with-seen-requires : goal.seen_with-seen-requires
seen_with-seen-requires c =
    let numbers = c.args.numbers.now in
    let p = get_or c.args.places.now c.loop-place.place-index no_key_place in
    let there = each_at (λ (q : KeyPlace). q.segment < length numbers) c.args.places.now c.loop-place.place-index no_key_place c.requires.placed c.loop-place-test.true in
    let below : get_or numbers p.segment 0 < c.args.count = each_at (λ (m : ℕ). m < c.args.count) numbers p.segment 0 c.requires.within there in
    omega arith

pub loop-place-preserved : goal.loop-place-preserved
loop-place-preserved c =
    let numbers = c.args.numbers.now in
    let places = c.args.places.now in
    let i = c.loop-place.place-index in
    let p = get_or places i no_key_place in
    let le : key_group numbers p ≤ c.loop-place.seen = omega arith in
    ap (λ (n : ℕ). count_in_order n (map (key_group numbers) (drop (i + 1) places))) c.seen_with-seen.ensures
    ∙ next_number numbers places i c.loop-place.seen p c.loop-place-test.true (item_is places i no_key_place c.loop-place-test.true) le ∙ c.loop-place.invariant

pub returns-then-number-seen : goal.returns-then-number-seen
returns-then-number-seen c = (
  λ never. absurd cc,
  λ is. absurd (
      let numbers = c.args.numbers.now in
      let places = c.args.places.now in
      let i = c.loop-place.place-index in
      let seen = c.loop-place.seen in
      let p = get_or places i no_key_place in
      let step = next_dropped places i p c.loop-place-test.true (item_is places i no_key_place c.loop-place-test.true) in
      let bad : ◌≡◌ {A = Option ℕ} None (Some c.args.count) =
      sym (too_high seen (key_group numbers p) (map (key_group numbers) (drop (i + 1) places)) c.if-number-seen.true) ∙ ap (λ (ps : List KeyPlace). count_in_order seen (map (key_group numbers) ps)) (sym step) ∙ c.loop-place.invariant ∙ is in
      cc),
)

pub returns : goal.returns
returns c =
    let numbers = c.args.numbers.now in
    let seen = c.loop-place.seen in
    let done : Some seen ≡ count_in_order 0 (map (key_group numbers) c.args.places.now) =
    sym (ap (λ (ps : List KeyPlace). count_in_order seen (map (key_group numbers) ps)) (drop_all c.loop-place.place-index c.args.places.now c.loop-place-test.false)) ∙ c.loop-place.invariant in (
      λ is. sym done ∙ ap (λ (n : ℕ). Some n) (eqb-true seen c.args.count is),
      λ is. eq-eqb seen c.args.count (same_Some seen c.args.count (done ∙ is)),
    )
