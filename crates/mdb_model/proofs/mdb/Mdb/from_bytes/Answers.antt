use Rattle.std.proofs.Common.{◌≡◌, ◌∙◌, Bool, true, false, refl, ap, sym, subst}
use Rattle.std.specs.Prelude.{not}
use Rattle.std.specs.Cmp.Lexicographic.{other_text, same_text}
use Rattle.std.specs.Result.{MatchResult}
use Rattle.mdb_items.specs.Database.{Database, IsDatabase}
use Rattle.mdb_octets.specs.Spelling.{database_octets}
use Rattle.octet_fields.specs.declared.fault.DecodeError.TheVariants.{OutOfMemory}
use Rattle.mdb_model.proofs.ListsAgain.{again_memory, is_given, lists_memory}
use Rattle.mdb_rules.proofs.Outcomes.{at_err}
use Rattle.mdb_model.proofs.mdb.Mdb.from_bytes.Goals as goal

unlike : (b : Bool) → not b ≡ true → false ≡ b
unlike false e = refl
unlike true e = cc

alike : (b : Bool) → not b ≡ false → true ≡ b
alike true e = refl
alike false e = cc

pub returns-in_err-lists-clause-each : goal.returns-in_err-lists-clause-each
returns-in_err-lists-clause-each c = λ a is same.
    at_err (λ r. MatchResult r (λ x. x ≡ a) (λ e. e ≡ OutOfMemory)) c.from_residual.result c.in_err-lists.field-0.0 c.from_residual.ensures.1
    (lists_memory c.args.octets.now c.in_err-lists.field-0.0 a c.in_err-lists.ensures is same)

pub returns-in_err-mdb-clause-each : goal.returns-in_err-mdb-clause-each
returns-in_err-mdb-clause-each c = λ a is same.
    let lists : Database = record { parameters = c.in_ok-lists.lists.parameters.items; calibrations = c.in_ok-lists.lists.calibrations.items; containers = c.in_ok-lists.lists.containers.items } in
    at_err (λ r. MatchResult r (λ x. x ≡ a) (λ e. e ≡ OutOfMemory)) c.from_residual-in_err-mdb.result c.in_err-mdb.field-0.0 c.from_residual-in_err-mdb.ensures.1
    (again_memory c.args.octets.now lists a c.in_err-mdb.field-0.0 c.in_ok-lists.ensures c.in_err-mdb.ensures is same)

pub returns-then-ne-clause-each : goal.returns-then-ne-clause-each
returns-then-ne-clause-each c = λ a is same.
    let lists : Database = record { parameters = c.in_ok-lists.lists.parameters.items; calibrations = c.in_ok-lists.lists.calibrations.items; containers = c.in_ok-lists.lists.containers.items } in
    let given = is_given c.args.octets.now lists a c.in_ok-lists.ensures is same in
    let made = c.in_ok-mdb.ensures.1 (subst IsDatabase (sym given) is) ∙ given in
    let own : c.as_slice.result.now ≡ c.args.octets.now = c.as_slice.ensures.value ∙ c.in_ok-own.ensures ∙ ap database_octets made ∙ sym same in
    absurd (other_text c.as_slice.result.now c.args.octets.now (unlike _ (sym c.ne.ensures ∙ c.if-ne.true)) own)

pub returns-clause-spelled : goal.returns-clause-spelled
returns-clause-spelled c =
    let own : c.as_slice.result.now ≡ c.args.octets.now = same_text c.as_slice.result.now c.args.octets.now (alike _ (sym c.ne.ensures ∙ c.if-ne.false)) in
    (c.in_ok-mdb.ensures.0, sym own ∙ c.as_slice.ensures.value ∙ c.in_ok-own.ensures)

pub returns-clause-each : goal.returns-clause-each
returns-clause-each c = λ a is same.
    let lists : Database = record { parameters = c.in_ok-lists.lists.parameters.items; calibrations = c.in_ok-lists.lists.calibrations.items; containers = c.in_ok-lists.lists.containers.items } in
    let given = is_given c.args.octets.now lists a c.in_ok-lists.ensures is same in
    c.in_ok-mdb.ensures.1 (subst IsDatabase (sym given) is) ∙ given
