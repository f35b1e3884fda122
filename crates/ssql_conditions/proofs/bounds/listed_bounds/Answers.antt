use Rattle.std.proofs.Common.{rules, get_or}
use Rattle.std.specs.Prelude.{pos}
use Rattle.std.proofs.lemmas.Int.{to_z-of_z}
use Rattle.std.proofs.lemmas.List.{take_rest}
use mir.Syntax.{w64}
use Rattle.ssql_conditions.proofs.ClockRanges.{listed_around}
use Rattle.ssql_conditions.proofs.bounds.listed_bounds.Goals as goal

pub returns-in-len1-up : goal.returns-in-len1-up
returns-in-len1-up c =
    listed_around c.args.times.now _ _ c.around_times.result c.in-len1-up.len_at_least (to_z-of_z w64 (get_or c.args.times.now 0 (pos 0)) (search rules)) (take_rest c.args.times.now 1)
    c.around_times.ensures
