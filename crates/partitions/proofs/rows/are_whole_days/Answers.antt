use Rattle.std.proofs.Common.{◌≡◌, ◌-◌, ◌<ℤ◌, ◌-ℤ◌, ℤ, pos, Bool, true, length, get_or, w64, SFits, sym, ap, ◌∙◌, rules, arith}
use Rattle.std.specs.Prelude.{int_lt}
use Rattle.std.proofs.lemmas.Int.{ints, to_z-of_z}
use Rattle.time_text.specs.Day.{day_of}
use Rattle.partitions.proofs.Parted.{in_whole_days, no_partition}
use Rattle.partitions.proofs.rows.are_whole_days.Goals as goal
use Rattle.partitions.proofs.rows.are_whole_days.Goals.{then-from-gtminus9223372036854775808, else-from-gtminus9223372036854775808}

less : (a b : ℤ) → int_lt a b ≡ true → a <ℤ b
less a b e = grind (arith, ints)

starts : (value : Bool) (result day before : ℤ) → value ≡ int_lt result day → value ≡ true → result ≡ day_of before → day_of before <ℤ day
starts value result day before is holds same = less (day_of before) day (ap (λ (r : ℤ). int_lt r day) (sym same) ∙ sym is ∙ holds)

ends : (result day end : ℤ) → int_lt day result ≡ true → result ≡ day_of end → day <ℤ day_of end
ends result day end is same = less day (day_of end) (ap (int_lt day) (sym same) ∙ is)

pub returns-then-day_of-first : goal.returns-then-day_of-first
returns-then-day_of-first c last row is =
    let parts = c.args.parts.now in
    let from = c.args.from in
    let to = c.args.to in
    let first_fits : SFits w64 (get_or parts 0 no_partition).day = search rules in
    let last_fits : SFits w64 (get_or parts (length parts - 1) no_partition).day = search rules in
    let end_fits : SFits w64 c.day_of-then-day_of-first.result = record { sfits = c.day_of-then-day_of-first.type_inv } in
    let from_is = to_z-of_z w64 from c.ranges.from in
    let end : c.day_of-then-day_of-first.result ≡ day_of to = rw (to_z-of_z w64 to c.ranges.to) at c.day_of-then-day_of-first.ensures in
    let behind : int_lt (get_or parts (length parts - 1) no_partition).day c.day_of-then-day_of-first.result ≡ true = simp to_z-of_z at last in
    let high = ends c.day_of-then-day_of-first.result (get_or parts (length parts - 1) no_partition).day to behind end in
    elim c.if-from-gtminus9223372036854775808.branch [
      | then-from-gtminus9223372036854775808 w ↦
          let start_fits : SFits w64 w.day_of.result = record { sfits = w.day_of.type_inv } in
          let above : int_lt (pos 0 -ℤ pos 9223372036854775808) from ≡ true = rw from_is at w.if-from-gtminus9223372036854775808.true in
          let low : (pos 0 -ℤ pos 9223372036854775808) <ℤ from = less (pos 0 -ℤ pos 9223372036854775808) from above in
          let fits : SFits w64 (from -ℤ pos 1) = search rules in
          let start : w.day_of.result ≡ day_of (from -ℤ pos 1) = rw (from_is, to_z-of_z w64 (from -ℤ pos 1) fits) at w.day_of.ensures in
          let before : c.if-from-gtminus9223372036854775808.value ≡ int_lt w.day_of.result (get_or parts 0 no_partition).day = simp to_z-of_z at w.value-is in
          in_whole_days parts (from -ℤ pos 1) from to no_partition c.requires
          (starts c.if-from-gtminus9223372036854775808.value w.day_of.result (get_or parts 0 no_partition).day (from -ℤ pos 1) before c.if-day_of-first.true start) high (omega (arith, ints)) row is
      | else-from-gtminus9223372036854775808 w ↦ let same = w.value-is in let holds = c.if-day_of-first.true in absurd cc
    ]
