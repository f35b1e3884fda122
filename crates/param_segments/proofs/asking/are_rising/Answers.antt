use Rattle.std.proofs.Common.{◌≡◌, ◌∙◌, ℕ, ◌+◌, ◌-◌, ◌<◌, ap, arith, get_or, length, map, refl, rules, subst}
use Rattle.std.proofs.Math.ListN.{get_or-map}
use Rattle.std.proofs.lemmas.List.{length-map}
use Rattle.std.proofs.lemmas.Map.Keys.{sorted_from_all_adjacent}
use Rattle.std.specs.declared.cmp.Ordering.TheVariants.{Less}
use Rattle.arch_types.specs.declared.key.Key.{Key}
use Rattle.arch_types.specs.Order.{key_cmp}
use Rattle.arch_types.proofs.Ranks.{key_cmp_total}
use Rattle.param_segments.specs.declared.key_place.KeyPlace.{KeyPlace}
use Rattle.param_segments.specs.RowPlaces.{place_key}
use Rattle.param_segments.proofs.Asked.{next_above}
use Rattle.param_segments.proofs.KeyPlaces.{no_key_place}
use Rattle.param_segments.proofs.asking.are_rising.Goals as goal

-- the keys rise, so that the one that isn't below the next can't be
pub returns-then-ge : goal.returns-then-ge
returns-then-ge c = (
  λ e. absurd cc,
  λ up. absurd (
      let i = c.loop-i.i in
      let places = c.args.places.now in
      let one : (i - 1) + 1 ≡ i = omega (arith, c.loop-i.invariant.low) in
      let lt : (i - 1) + 1 < length places = omega (arith, one, c.loop-i-test.true) in
      let less : key_cmp (place_key (get_or places (i - 1) no_key_place)) (place_key (get_or places i no_key_place)) ≡ Less =
      subst (λ (k : ℕ). key_cmp (place_key (get_or places (i - 1) no_key_place)) (place_key (get_or places k no_key_place)) ≡ Less) one (next_above places (i - 1) no_key_place up lt) in
      search rules),
)

pub returns : goal.returns
returns c =
    let places = c.args.places.now in
    let key : KeyPlace → Key = λ p. place_key p in
    let len : length (map key places) ≡ length places = length-map places key in (
      λ e. sorted_from_all_adjacent key_cmp_total (map key places) (place_key no_key_place) (λ k lt.
          let inside : k + 1 < c.loop-i.i = omega (arith, len, lt, c.loop-i-test.false) in
          ap (λ (a : Key). key_cmp a (get_or (map key places) (k + 1) (place_key no_key_place))) (get_or-map key places k no_key_place)
          ∙ ap (key_cmp (place_key (get_or places k no_key_place))) (get_or-map key places (k + 1) no_key_place) ∙ c.loop-i.invariant.below k no_key_place inside),
      λ up. refl,
    )
