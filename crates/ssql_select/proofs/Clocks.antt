-- Generation times of packets whose items are octets.
use Rattle.std.proofs.Common.{ℕ, ℤ, pos, ◌+◌, ◌*◌, ◌/◌, ◌<◌, List, Bool, true, false, arith}
use Rattle.std.specs.Prelude.{◌^◌, slice_index, if◌then◌else◌}
use Rattle.std.proofs.lemmas.Int.{ints}
use Rattle.text_forms.specs.ClockTime.{IsClockTime}
use Rattle.arch_types.specs.GenerationTime.{generation_time, is_timed, number_of_2, number_of_4}

-- the clock has them, where it has the reception time
pub clocked : (p : List ℕ) (rectime : ℤ) → ((i : ℕ) → slice_index p i < 256) → IsClockTime rectime → IsClockTime (generation_time p rectime)
clocked p rectime octets clock = by (is_timed p)
  where
    by : (b : Bool) → IsClockTime (if b then pos (1000 * number_of_4 p 6 + number_of_2 p 10 * 1000 / 2 ^ 16) else rectime)
    by true =
        let a = octets 6 in let b = octets (6 + 1) in let c = octets (6 + 2) in let d = octets (6 + 2 + 1) in let e = octets 10 in let f = octets (10 + 1) in
        (omega (arith, ints), omega (arith, ints, a, b, c, d, e, f))
    by false = clock
