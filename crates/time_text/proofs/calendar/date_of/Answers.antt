use Rattle.std.proofs.Common.{◌≡◌, pos, arith}
use Rattle.std.proofs.lemmas.Int.{ints}
use Rattle.jiff_core.specs.Date.{epoch_day}
use Rattle.time_text.proofs.CalendarFacts.{IsDateOf-epoch_day}
use Rattle.time_text.proofs.calendar.date_of.Goals as goal

pub returns : goal.returns
returns c =
    let day_is : epoch_day c.unwrap.result ≡ pos c.args.day = omega (arith, ints, rw c.unwrap.ensures at c.from_unix_epoch_day.ensures.value) in
    let is = IsDateOf-epoch_day c.unwrap.result c.args.day day_is in
    record { year = is.year; date = is.real; number = is.number; ordinal = is.ordinal }
