use Rattle.std.proofs.Common.{◌≡◌, ◌+◌, ◌-◌, rules, FitsSigned, w16, w64, unsigned_abs, ◌∙◌}
use Rattle.std.proofs.lemmas.Int.{ints, to_z-of_z}
use Rattle.time_text.specs.Calendar.{day_number, days_of_years}
use Rattle.time_text.proofs.DayFacts.{day_name_of-ordinal}
use Rattle.time_text.proofs.day.day_octets.Goals as goal

pub returns : goal.returns
returns c =
    let d = c.date_of-date.result in
    let e = c.date_of-date.ensures in
    let fits : FitsSigned w16 d.year = search rules in
    let year : c.unsigned_abs.result ≡ unsigned_abs d.year = simp to_z-of_z at c.unsigned_abs.ensures.value in
    let counted : days_of_years (unsigned_abs d.year - 1970) + c.day_of_year.result ≡ unsigned_abs c.args.day + 1 = search (rules, ints, e.ordinal) in
    let whole : FitsSigned w64 c.args.day = search rules in
    let number : day_number (unsigned_abs d.year) d.month d.day ≡ unsigned_abs c.args.day = simp to_z-of_z at e.number in
    c.octets.ensures ∙ rw year (day_name_of-ordinal c.args.day (unsigned_abs d.year) d.month d.day c.day_of_year.result e.date number counted)
