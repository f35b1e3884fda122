use Rattle.std.proofs.Common.{◌∙◌, ℕ, Option, Ok, true, ap, sym}
use Rattle.mdb_items.specs.declared.rows.EntryPosition.TheVariants.{At}
use Rattle.mdb_items.specs.declared.rows.Reference.TheVariants.{Known}
use Rattle.mdb_items.specs.Checks.{first_broken}
use Rattle.mdb_items.specs.ContainerRows.{entry_checks, last_path, with_entry}
use Rattle.mdb_rules.proofs.ContainerSteps.{none_of}
use Rattle.mdb_model.proofs.RowsAgain.{entry_fails, entry_taken}
use Rattle.mdb_model.proofs.rechecking.recheck_entry.Goals as goal

pub returns-then-is_some : goal.returns-then-is_some
returns-then-is_some c =
    let ps = c.args.parameters.now in
    let old = c.args.containers.now.items.items in
    let e = c.args.e.now in
    let is = c.in_ok-take_entry.ensures.fault ∙ ap (λ (n : ℕ). first_broken (entry_checks ps (last_path old) true (Known e.parameter) (At n))) c.from.ensures in
    entry_fails ps old e c.in_ok-take_entry.field-0 c.requires.begun is (sym c.is_some.ensures ∙ c.if-is_some.true)

pub returns : goal.returns
returns c =
    let ps = c.args.parameters.now in
    let old = c.args.containers.now.items.items in
    let e = c.args.e.now in
    let rule = c.in_ok-take_entry.field-0 in
    let is = c.in_ok-take_entry.ensures.fault ∙ ap (λ (n : ℕ). first_broken (entry_checks ps (last_path old) true (Known e.parameter) (At n))) c.from.ensures in
    let none = sym c.is_some.ensures ∙ c.if-is_some.false in
    let went = ap (λ (o : Option ℕ). Ok o) (none_of rule none) in
    let same = c.in_ok-take_entry.ensures.added went ∙ ap (λ (n : ℕ). with_entry old (Known e.parameter) (At n)) c.from.ensures in
    let taken = entry_taken ps old c.take_entry.new.self.items.items e rule c.requires.begun is none same in
    (taken.0, taken.1, c.in_ok-take_entry.ensures.path went)
