use Rattle.std.proofs.Common.{◌≡◌, List, ℕ, rules, FitsSigned, w64, unsigned_abs, sym, subst, ◌∙◌}
use Rattle.std.proofs.lemmas.Int.{to_z-of_z}
use Rattle.std.proofs.lemmas.Result.{IfOk-weaker}
use Rattle.time_text.specs.Day.{IsDayName}
use Rattle.time_text.specs.Spelling.{day_name_of}
use Rattle.time_text.proofs.DayFacts.{day_name_is}
use Rattle.time_text.proofs.day.day_name.Goals as goal

written : (c : goal.After-from_slice) → c.day_octets.result ≡ day_name_of c.args.day
written c = let fits : FitsSigned w64 c.args.day = search rules in simp to_z-of_z at c.day_octets.ensures

pub returns-clause-name : goal.returns-clause-name
returns-clause-name c = IfOk-weaker c.from_slice.result _ _ (λ v e. e ∙ written c) c.from_slice.ensures.items

pub returns-clause-of_day : goal.returns-clause-of_day
returns-clause-of_day c =
    let is = day_name_is c.args.day c.requires.from c.requires.to in
    IfOk-weaker c.from_slice.result _ _ (λ v e. subst (λ (text : List ℕ). IsDayName text (unsigned_abs c.args.day)) (sym (e ∙ written c)) is) c.from_slice.ensures.items
