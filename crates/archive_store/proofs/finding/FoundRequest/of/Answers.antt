use Rattle.std.proofs.Common.{rules, ◌≡◌, ℕ, Option, Some, None, Result, Ok, Err, sym, subst}
use Rattle.std.specs.Prelude.{IfErr}
use Rattle.std.specs.Arc.{arc_value}
use Rattle.std.specs.Option.{option_map_or}
use Rattle.asks.specs.declared.ask.Request.{Request}
use Rattle.asks.specs.declared.refusal.AskRefusal.{AskRefusal}
use Rattle.asks.specs.declared.refusal.AskRefusal.TheVariants.{UnknownParameter}
use Rattle.asks.specs.Names.{parameter_number}
use Rattle.asks.specs.Refusals.{range_refusal, request_refusal}
use Rattle.mdb_items.specs.Database.{Database}
use Rattle.refusals.specs.declared.refusal.Refusal.{Refusal}
use Rattle.refusals.specs.declared.refusal.Refusal.TheVariants.{OutOfMemory}
use Rattle.archive_store.specs.Finding.{IsNotFound}
use Rattle.archive_store.proofs.finding.FoundRequest.of.Goals as goal

-- want of memory alone keeps an ask that has an answer from being found
not_found : {X : Type 0} (db : Database) (request : Request) (n : ℕ) (r : Result X Refusal) → parameter_number db request.parameter ≡ Some n → range_refusal request.from request.to ≡ None →
    IfErr r (λ e. e ≡ OutOfMemory) → IfErr r (IsNotFound (request_refusal db request))
not_found db request n (Ok x) named none is = tt
not_found db request n (Err e) named none is =
    let answered : request_refusal db request ≡ None =
    subst (λ (o : Option ℕ). option_map_or (λ number. range_refusal request.from request.to) o (Some UnknownParameter) ≡ None) (sym named) none in
    subst (λ (o : Option AskRefusal). IsNotFound o e) (sym answered) is

pub returns-in_err-mdb-clause-refused : goal.returns-in_err-mdb-clause-refused
returns-in_err-mdb-clause-refused c =
    let named : parameter_number (arc_value c.args.mdb.now) c.args.request.parameter ≡ Some c.in-Some.number = search rules in
    let none : range_refusal c.args.request.from c.args.request.to ≡ None = search rules in
    let memory : IfErr c.from_residual.result (λ e. e ≡ OutOfMemory) = search rules in
    not_found (arc_value c.args.mdb.now) c.args.request c.in-Some.number c.from_residual.result named none memory
