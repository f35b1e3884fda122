use Rattle.std.proofs.Common.{◌≡◌, ◌/◌, ◌%◌, arith, rules, FitsSigned, w16, unsigned_abs}
use Rattle.std.proofs.lemmas.Int.{to_z-of_z}
use Rattle.time_text.specs.Calendar.{day_number}
use Rattle.time_text.proofs.CivilFacts.{is_real-from, day_parts, millis_of-is}
use Rattle.time_text.proofs.civil.Civil.at.Goals as goal

pub returns-clause-real : goal.returns-clause-real
returns-clause-real c =
    let fits : FitsSigned w16 c.date_of-date.result.year = search rules in
    let year : c.unsigned_abs.result ≡ unsigned_abs c.date_of-date.result.year = simp to_z-of_z at c.unsigned_abs.ensures.value in
    is_real-from _ (rw year c.date_of-date.ensures.date) (day_parts (c.args.time % 86_400_000) (omega arith)).1 (omega arith) (omega arith)

pub returns-clause-moment : goal.returns-clause-moment
returns-clause-moment c =
    let fits : FitsSigned w16 c.date_of-date.result.year = search rules in
    let year : c.unsigned_abs.result ≡ unsigned_abs c.date_of-date.result.year = simp to_z-of_z at c.unsigned_abs.ensures.value in
    let date = c.date_of-date.result in
    let number : day_number c.unsigned_abs.result date.month date.day ≡ c.args.time / 86_400_000 = rw year c.date_of-date.ensures.number in
    omega (arith, millis_of-is, number, (day_parts (c.args.time % 86_400_000) (omega arith)).0)
