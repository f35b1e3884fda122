use Rattle.std.proofs.Common.{◌≡◌, pos, ◌*ℤ◌, ◌+ℤ◌, w64, SFits, rules}
use Rattle.std.proofs.lemmas.Int.{to_z-of_z}
use Rattle.sealed_rows.proofs.Days.{on_day}
use Rattle.sealed_rows.proofs.sealed.times_of_day.Goals as goal

pub returns : goal.returns
returns c = λ row is.
    let day = c.args.day in
    let from = c.in-Some.from in
    let to = c.in-Some-checked_add.to in
    let from_fits : SFits w64 from = search rules in
    let to_fits : SFits w64 to = search rules in
    let first = rw c.in-Some.is at c.checked_mul.ensures in
    let second = rw c.in-Some-checked_add.is at c.checked_add.ensures in
    let from_is : from ≡ (day *ℤ pos 86_400_000) = rw (to_z-of_z w64 day c.ranges.day) at first.1 in
    let to_is : to ≡ (from +ℤ pos 86_400_000) = rw (to_z-of_z w64 from from_fits) at second.1 in
    rw (to_z-of_z w64 from from_fits, to_z-of_z w64 to to_fits) (on_day row day from to from_is to_is is)
