use Rattle.std.proofs.Common.{◌≡◌, pos, ◌-ℤ◌, w64, SFits, rules, ◌∙◌}
use Rattle.std.proofs.lemmas.Int.{to_z-of_z}
use Rattle.time_text.specs.Day.{day_of}
use Rattle.partitions.proofs.Exactly.{days_exactly, days_some}
use Rattle.partitions.proofs.days.Days.of.Goals as goal

pub returns-clause-exactly : goal.returns-clause-exactly
returns-clause-exactly c =
    let bounds = c.args.bounds.now in
    let from_fits : SFits w64 bounds.from = search rules in
    let to_fits : SFits w64 bounds.to = search rules in
    let last_fits : SFits w64 (bounds.to -ℤ pos 1) = search rules in
    let first_fits : SFits w64 c.day_of.result = record { sfits = c.day_of.type_inv } in
    let end_fits : SFits w64 c.day_of-2.result = record { sfits = c.day_of-2.type_inv } in
    let first : c.day_of.result ≡ day_of bounds.from = simp to_z-of_z at c.day_of.ensures in
    let last : c.day_of-2.result ≡ day_of (bounds.to -ℤ pos 1) = simp to_z-of_z at c.day_of-2.ensures in
    days_exactly bounds.from bounds.to (record { first = _; last = _ }) c.requires (to_z-of_z w64 c.day_of.result first_fits ∙ first) (to_z-of_z w64 c.day_of-2.result end_fits ∙ last)

pub returns-clause-some : goal.returns-clause-some
returns-clause-some c =
    let bounds = c.args.bounds.now in
    let from_fits : SFits w64 bounds.from = search rules in
    let to_fits : SFits w64 bounds.to = search rules in
    let last_fits : SFits w64 (bounds.to -ℤ pos 1) = search rules in
    let first_fits : SFits w64 c.day_of.result = record { sfits = c.day_of.type_inv } in
    let end_fits : SFits w64 c.day_of-2.result = record { sfits = c.day_of-2.type_inv } in
    let first : c.day_of.result ≡ day_of bounds.from = simp to_z-of_z at c.day_of.ensures in
    let last : c.day_of-2.result ≡ day_of (bounds.to -ℤ pos 1) = simp to_z-of_z at c.day_of-2.ensures in
    days_some bounds.from bounds.to (record { first = _; last = _ }) c.requires (to_z-of_z w64 c.day_of.result first_fits ∙ first) (to_z-of_z w64 c.day_of-2.result end_fits ∙ last)
