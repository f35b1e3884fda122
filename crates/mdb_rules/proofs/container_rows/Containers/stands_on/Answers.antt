use Rattle.std.proofs.Common.{◌≡◌, ◌∙◌, List, Some, None, true, false, ap, sym}
use Rattle.std.specs.Prelude.{option_copied, slice_get}
use Rattle.mdb_items.specs.declared.container.ParameterEntry.{ParameterEntry}
use Rattle.mdb_items.specs.Paths.{stands_on}
use Rattle.mdb_rules.proofs.Ancestry.{found_here, found_nothing, goes_up, not_here}
use Rattle.mdb_rules.proofs.container_rows.Containers.stands_on.Goals as goal

pub returns-in_default-get : goal.returns-in_default-get
returns-in_default-get c =
    let cs = c.args.self.now.items.items in
    let none : slice_get cs c.in-Some.number ≡ None = sym c.get.ensures ∙ ap option_copied c.in_default-get.is in
    found_nothing cs c.in-Some.number c.up.at c.args.parameter _ c.in-Some.is none c.up.invariant

pub returns-then-has_entry : goal.returns-then-has_entry
returns-then-has_entry c =
    let cs = c.args.self.now.items.items in
    let there : slice_get cs c.in-Some.number ≡ Some c.in-Some-get.container.now = sym c.get.ensures ∙ ap option_copied c.in-Some-get.is in
    let own : stands_on c.in-Some-get.container.now.entries c.args.parameter ≡ true = ap (λ (es : List ParameterEntry). stands_on es c.args.parameter) (sym c.as_slice.ensures) ∙ sym c.has_entry.ensures ∙ c.if-has_entry.true in
    found_here cs c.in-Some.number c.in-Some-get.container.now c.up.at c.args.parameter _ c.requires c.in-Some.is there own c.up.invariant

pub up-smaller : goal.up-smaller
up-smaller c =
    let cs = c.args.self.now.items.items in
    let there : slice_get cs c.in-Some.number ≡ Some c.in-Some-get.container.now = sym c.get.ensures ∙ ap option_copied c.in-Some-get.is in
    rw c.in-Some.is (goes_up cs c.in-Some.number c.in-Some-get.container.now c.requires there)

pub up-preserved : goal.up-preserved
up-preserved c =
    let cs = c.args.self.now.items.items in
    let there : slice_get cs c.in-Some.number ≡ Some c.in-Some-get.container.now = sym c.get.ensures ∙ ap option_copied c.in-Some-get.is in
    let own : stands_on c.in-Some-get.container.now.entries c.args.parameter ≡ false = ap (λ (es : List ParameterEntry). stands_on es c.args.parameter) (sym c.as_slice.ensures) ∙ sym c.has_entry.ensures ∙ c.if-has_entry.false in
    not_here cs c.in-Some.number c.in-Some-get.container.now c.up.at c.args.parameter _ c.requires c.in-Some.is there own c.up.invariant
