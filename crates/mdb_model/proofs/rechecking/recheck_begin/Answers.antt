use Rattle.std.proofs.Common.{◌∙◌, ◌∷◌, ℕ, Option, Ok, ap, sym}
use Rattle.std.specs.Prelude.{not, ◌==◌}
use Rattle.mdb_items.specs.declared.rows.NewContainer.{NewContainer}
use Rattle.mdb_items.specs.declared.rows.ContainerColumns.TheVariants.{Begins}
use Rattle.mdb_items.specs.Checks.{first_broken}
use Rattle.mdb_items.specs.ContainerRows.{columns_checks, with_columns}
use Rattle.mdb_rules.proofs.ContainerSteps.{none_of}
use Rattle.mdb_model.proofs.RowsAgain.{begin_fails, begin_taken}
use Rattle.mdb_model.proofs.rechecking.recheck_begin.Goals as goal

pub returns-then-is_some : goal.returns-then-is_some
returns-then-is_some c =
    let old = c.args.containers.now.items.items in
    let is = c.in_ok-take_columns.ensures.fault ∙ ap (λ (b : NewContainer). first_broken ((2, not (6 == 6)) ∷ columns_checks old (Begins b))) c.in_ok-begun.ensures in
    begin_fails c.args.parameters.now old c.args.c.now c.in_ok-take_columns.field-0 is (sym c.is_some.ensures ∙ c.if-is_some.true)

pub returns : goal.returns
returns c =
    let old = c.args.containers.now.items.items in
    let rule = c.in_ok-take_columns.field-0 in
    let is = c.in_ok-take_columns.ensures.fault ∙ ap (λ (b : NewContainer). first_broken ((2, not (6 == 6)) ∷ columns_checks old (Begins b))) c.in_ok-begun.ensures in
    let none = sym c.is_some.ensures ∙ c.if-is_some.false in
    let went = ap (λ (o : Option ℕ). Ok o) (none_of rule none) in
    let same = c.in_ok-take_columns.ensures.added went ∙ ap (λ (b : NewContainer). with_columns old (Begins b)) c.in_ok-begun.ensures in
    let taken = begin_taken c.args.parameters.now old c.take_columns.new.self.items.items c.args.c.now rule is none same in
    (taken.0, taken.1, c.in_ok-take_columns.ensures.path went c.args.parameters.now c.requires)
