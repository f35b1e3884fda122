use Rattle.std.proofs.Common.{◌≡◌, ◌≤◌, arith, refl, rules, Some, pos, ap, w32, FitsSigned, unsigned_abs}
use Rattle.std.proofs.lemmas.Int.{ints, to_z-of_z}
use Rattle.time_text.specs.Calendar.{day_number}
use Rattle.time_text.proofs.CalendarFacts.{epoch_day-found}
use Rattle.time_text.proofs.calendar.day_number.Goals as goal

pub returns-in-Ok-clause-value : goal.returns-in-Ok-clause-value
returns-in-Ok-clause-value c =
    let found = epoch_day-found c.args.year c.args.month c.args.day _ _ _ c.in-Ok.date (omega arith) (omega (arith, ints)) (omega (arith, ints)) (omega (arith, ints)) (c.in-Ok.ensures.succeeds.0 refl) c.in-Ok.ensures.value in
    let number : c.to_unix_epoch_day.result ≡ pos (day_number c.args.year c.args.month c.args.day) = grind (arith, found.1) in
    let fits : FitsSigned w32 c.to_unix_epoch_day.result = search rules in
    rw found.0 (ap (λ n. Some n) (simp to_z-of_z (ap unsigned_abs number)))

pub returns-in-Ok-clause-bound : goal.returns-in-Ok-clause-bound
returns-in-Ok-clause-bound c =
    let found = epoch_day-found c.args.year c.args.month c.args.day _ _ _ c.in-Ok.date (omega arith) (omega (arith, ints)) (omega (arith, ints)) (omega (arith, ints)) (c.in-Ok.ensures.succeeds.0 refl) c.in-Ok.ensures.value in
    let number : c.to_unix_epoch_day.result ≡ pos (day_number c.args.year c.args.month c.args.day) = grind (arith, found.1) in
    let fits : FitsSigned w32 c.to_unix_epoch_day.result = search rules in
    simp to_z-of_z (omega (arith, ints, number, c.to_unix_epoch_day.ensures.bound))

pub overflow_cast-result : goal.overflow_cast-result
overflow_cast-result c =
    let found = epoch_day-found c.args.year c.args.month c.args.day _ _ _ c.in-Ok.date (omega arith) (omega (arith, ints)) (omega (arith, ints)) (omega (arith, ints)) (c.in-Ok.ensures.succeeds.0 refl) c.in-Ok.ensures.value in
    let number : c.to_unix_epoch_day.result ≡ pos (day_number c.args.year c.args.month c.args.day) = grind (arith, found.1) in
    let small : day_number c.args.year c.args.month c.args.day ≤ 2_932_896 = omega (arith, ints, number, c.to_unix_epoch_day.ensures.bound) in
    let fits : FitsSigned w32 c.to_unix_epoch_day.result = search rules in
    simp to_z-of_z (rw number (tt, search (rules, arith)))
