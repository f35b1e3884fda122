use Rattle.std.proofs.Common.{◌≡◌, ◌∙◌, List, None, ap, sym, subst}
use Rattle.mdb_items.specs.declared.calibration.Calibration.{Calibration}
use Rattle.mdb_items.specs.declared.container.Container.{Container}
use Rattle.mdb_items.specs.declared.parameter.Parameter.{Parameter}
use Rattle.mdb_items.specs.Database.{Database, IsDatabase, database_of, limit_passed}
use Rattle.mdb_items.specs.Paths.{AreEarlier}
use Rattle.mdb_lookups.specs.Lookups.{AreLookups}
use Rattle.mdb_model.proofs.Respelling.{is_database}
use Rattle.mdb_model.proofs.mdb.within_limits.Goals as goal

pub for_items-requires-clause-earlier : goal.for_items-requires-clause-earlier
for_items-requires-clause-earlier c =
    let P : List Container → Type 0 = λ cs. AreEarlier cs in
    subst P (sym c.as_slice-3.ensures.value) c.requires.earlier

pub invariant_of-shared : goal.invariant_of-shared
invariant_of-shared c =
    let small : limit_passed (database_of c.requires.rows) ≡ None = ap limit_passed c.requires.spelled ∙ sym c.limit_of.ensures ∙ c.in_default.is in
    let found = c.in_ok-lookups.lookups in
    let D : Database → Type 0 = λ d. IsDatabase d in
    let P : List Parameter → Type 0 = λ ps. AreLookups ps c.as_slice-2.result.now c.as_slice-3.result.now found in
    let K : List Calibration → Type 0 = λ ks. AreLookups c.args.parameters.items.items ks c.as_slice-3.result.now found in
    let C : List Container → Type 0 = λ cs. AreLookups c.args.parameters.items.items c.args.calibrations.items.items cs found in
    let lookups = subst C c.as_slice-3.ensures.value (subst K c.as_slice-2.ensures.value (subst P c.as_slice.ensures.value c.in_ok-lookups.ensures)) in
    record {
      kept = subst D c.requires.spelled (is_database c.requires.rows c.requires.sound small);
      parameter_order = lookups.parameter_order;
      container_order = lookups.container_order;
      children = lookups.children;
      placed_conditions = lookups.placed_conditions;
      numbered_children = lookups.numbered_children;
      label_orders = lookups.label_orders;
    }
