use Rattle.std.proofs.Common.{arith, sym, subst, w64}
use Rattle.std.proofs.lemmas.Int.{to_z-of_z}
use Rattle.text_forms.specs.ClockTime.{IsClockTime}
use Rattle.ssql_select.proofs.Clocks.{clocked}
use Rattle.ssql_select.proofs.values.clock_time.Goals as goal

pub returns-clause-clock : goal.returns-clause-clock
returns-clause-clock c =
    let same = to_z-of_z w64 c.args.time c.ranges.time in
    rw same (subst IsClockTime (sym c.requires.time) (clocked c.args.packet.now c.args.rectime (λ i. omega (arith, c.type_inv.packet i)) c.requires.clock))
