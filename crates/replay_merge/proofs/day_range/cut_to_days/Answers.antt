use Rattle.std.proofs.Common.{◌≡◌, ◌-◌, ◌≤ℤ◌, ◌*ℤ◌, ◌+ℤ◌, ◌-ℤ◌, ℤ, pos, false, length, get_or, w64, SFits, rules, arith}
use Rattle.std.specs.Prelude.{int_lt}
use Rattle.std.proofs.lemmas.Int.{ints, to_z-of_z}
use Rattle.partitions.proofs.Parted.{no_partition}
use Rattle.replay_merge.proofs.Cut.{cut_same}
use Rattle.replay_merge.proofs.day_range.cut_to_days.Goals as goal

not_less : (a b : ℤ) → int_lt a b ≡ false → b ≤ℤ a
not_less a b e = grind (arith, ints)

fits : (z : ℤ) → (pos 0 -ℤ pos 9_000_000_000_000_000_000) ≤ℤ z → z ≤ℤ pos 9_000_000_000_000_000_000 → SFits w64 z
fits z low high = search rules

pub returns : goal.returns
returns c row is =
    let parts = c.args.parts.now in
    let from = c.args.from in
    let to = c.args.to in
    let far : ℤ = pos 100_000_000_000 in
    let first = (get_or parts 0 no_partition).day in
    let last = (get_or parts (length parts - 1) no_partition).day in
    let first_fits : SFits w64 first = search rules in
    let last_fits : SFits w64 last = search rules in
    let first_is = to_z-of_z w64 first first_fits in
    let last_is = to_z-of_z w64 last last_fits in
    let from_is = to_z-of_z w64 from c.ranges.from in
    let to_is = to_z-of_z w64 to c.ranges.to in
    let a : (pos 0 -ℤ pos 100_000_000_000) ≤ℤ first = not_less first (pos 0 -ℤ pos 100_000_000_000) (rw first_is at c.if-first.false) in
    let b : first ≤ℤ pos 100_000_000_000 = not_less (pos 100_000_000_000) first (rw first_is at c.if-first-gt-FAR.false) in
    let d : (pos 0 -ℤ pos 100_000_000_000) ≤ℤ last = not_less last (pos 0 -ℤ pos 100_000_000_000) (rw last_is at c.if-last.false) in
    let e : last ≤ℤ pos 100_000_000_000 = not_less (pos 100_000_000_000) last (rw last_is at c.if-last-gt-FAR.false) in
    let start_fits : SFits w64 (first *ℤ pos 86_400_000) = fits (first *ℤ pos 86_400_000) (omega (arith, ints, a)) (omega (arith, ints, b)) in
    let next_fits : SFits w64 (last +ℤ pos 1) = search rules in
    let end_fits : SFits w64 ((last +ℤ pos 1) *ℤ pos 86_400_000) = fits ((last +ℤ pos 1) *ℤ pos 86_400_000) (omega (arith, ints, d)) (omega (arith, ints, e)) in
    let start_is = to_z-of_z w64 (first *ℤ pos 86_400_000) start_fits in
    let next_is = to_z-of_z w64 (last +ℤ pos 1) next_fits in
    let end_is = to_z-of_z w64 ((last +ℤ pos 1) *ℤ pos 86_400_000) end_fits in
    let later_fits : SFits w64 c.later.result = record { sfits = c.later.type_inv } in
    let earlier_fits : SFits w64 c.earlier.result = record { sfits = c.earlier.type_inv } in
    let up = rw (from_is, first_is, start_is) at c.later.ensures.not_below in
    let least = rw (from_is, first_is, start_is) at c.later.ensures.least in
    let down = rw (to_is, last_is, next_is, end_is) at c.earlier.ensures.not_above in
    let greatest = rw (to_is, last_is, next_is, end_is) at c.earlier.ensures.greatest in
    rw (to_z-of_z w64 c.later.result later_fits, to_z-of_z w64 c.earlier.result earlier_fits)
    (cut_same parts no_partition from to c.later.result c.earlier.result c.requires up.0 (λ time l s. least time l (omega (arith, ints, s))) down.0 (λ time l s. greatest time l (omega (arith, ints, s))) row is)
