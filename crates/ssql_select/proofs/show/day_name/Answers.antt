use Rattle.std.proofs.Common.{◌≡◌, w64, SFits, rules}
use Rattle.std.proofs.lemmas.Int.{to_z-of_z}
use Rattle.time_text.specs.Day.{day_of}
use Rattle.ssql_select.proofs.ShownRows.{clock_day}
use Rattle.ssql_select.proofs.show.day_name.Goals as goal

pub day_octets-requires : goal.day_octets-requires
day_octets-requires c =
    let time = c.gentime-time.result in
    let named = clock_day time c.gentime-time.ensures.clock in
    let time_fits : SFits w64 time = search rules in
    let day_fits : SFits w64 c.day_of-day.result = search rules in
    let day : c.day_of-day.result ≡ day_of time = rw (to_z-of_z w64 time time_fits) at c.day_of-day.ensures in
    record { from = rw (to_z-of_z w64 c.day_of-day.result day_fits, day) named.0; to = rw (to_z-of_z w64 c.day_of-day.result day_fits, day) named.1 }
