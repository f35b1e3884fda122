use Rattle.std.proofs.Common.{arith, sym, ◌∙◌}
use Rattle.std.proofs.lemmas.Int.{ints}
use Rattle.time_text.proofs.CivilFacts.{moment-found, moment-none, moment-no_time}
use Rattle.time_text.proofs.civil.Civil.moment.Goals as goal

pub returns-then-not-is_time_of_day : goal.returns-then-not-is_time_of_day
returns-then-not-is_time_of_day c =
    moment-no_time c.args.self.now (sym c.is_time_of_day.ensures ∙ c.if-not-is_time_of_day.true)

pub returns-in_err-day : goal.returns-in_err-day
returns-in_err-day c =
    c.from_residual.ensures ∙ moment-none c.args.self.now c.in_err-day.ensures.value

pub returns : goal.returns
returns c =
    moment-found c.args.self.now c.in_ok-day.day _ (sym c.is_time_of_day.ensures ∙ c.if-not-is_time_of_day.false) c.in_ok-day.ensures.value (omega (arith, ints, c.in_ok-day.ensures.bound))
