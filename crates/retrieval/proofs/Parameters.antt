-- Parameters, and sheets that give none.
use Rattle.std.proofs.Common.{◌≡◌, ◌∙◌, ◌<◌, ℕ, List, length, map, Option, Some, None, inl, inr, ap, sym, refl, arith}
use Rattle.std.specs.Str.{bytes_eq}
use Rattle.std.proofs.lemmas.List.{length-map}
use Rattle.calibration.proofs.Admission.{place_within}
use Rattle.mdb_items.specs.declared.parameter.Parameter.{Parameter}
use Rattle.std.specs.Prelude.{Ok, Err}
use Rattle.refusals.specs.declared.refusal.Refusal.{Refusal}
use Rattle.refusals.specs.declared.refusal.Refusal.TheVariants as refused
use Rattle.mdb_items.specs.declared.fault.MdbFault.{MdbFault}
use Rattle.mdb_items.specs.declared.fault.MdbFault.TheVariants.{Bad, Limit, OutOfMemory}
use Rattle.mdb_items.specs.declared.fault.MdbLimit.{MdbLimit}
use Rattle.mdb_items.specs.declared.sheet.RawMdb.{RawMdb}
use Rattle.mdb_items.specs.Database.{Broken, Database, limit_passed}
use Rattle.mdb_model.specs.Sheets.{IsCheckResult, sheets_database}
use Rattle.asks.specs.Names.{parameter_number}
use Rattle.retrieval.specs.Parameter.{IsNoParameter, IsNamedParameter, first_refusal, parameter_refusal, refusal_of_sheets}

abbrev by_broken : RawMdb → List ℕ → Option Broken → Option Refusal
by_broken raw name broken = first_refusal broken (limit_passed (sheets_database raw)) (parameter_number (sheets_database raw) name)

abbrev by_passed : RawMdb → List ℕ → Option (MdbLimit × ℕ) → Option Refusal
by_passed raw name passed = first_refusal None passed (parameter_number (sheets_database raw) name)

abbrev by_number : Option ℕ → Option Refusal
by_number number = first_refusal None None number

-- the sheets are refused
pub no_database : (raw : RawMdb) (name : List ℕ) (fault : MdbFault) → IsCheckResult raw (Err fault) → IsNoParameter raw name (refusal_of_sheets fault)
unfolding parameter_refusal
no_database raw name (Bad sheet row rule) h = inl (ap (by_broken raw name) h)
no_database raw name (Limit which number) h = inl (ap (by_broken raw name) h.0 ∙ ap (by_passed raw name) h.1)
no_database raw name OutOfMemory h = inr refl

-- the sheets are admitted, and what is asked of the database decides
asked_of : (raw : RawMdb) (name : List ℕ) (db : Database) (number : Option ℕ) → IsCheckResult raw (Ok db) → number ≡ parameter_number db name → parameter_refusal raw name ≡ by_number number
unfolding parameter_refusal
asked_of raw name db number h e =
    let same : parameter_number (sheets_database raw) name ≡ number = ap (λ (d : Database). parameter_number d name) (sym h.2) ∙ sym e in
    ap (by_broken raw name) h.0 ∙ ap (by_passed raw name) h.1 ∙ ap by_number same

-- there's none of the name
pub unknown_parameter : (raw : RawMdb) (name : List ℕ) (db : Database) (number : Option ℕ) → IsCheckResult raw (Ok db) → number ≡ parameter_number db name → number ≡ None →
    IsNoParameter raw name refused.UnknownParameter
unknown_parameter raw name db number h e none = inl (asked_of raw name db number h e ∙ ap by_number none)

-- there is one
pub is_parameter : (raw : RawMdb) (name : List ℕ) (db : Database) (number : Option ℕ) (n : ℕ) → IsCheckResult raw (Ok db) → number ≡ parameter_number db name → number ≡ Some n →
    IsNamedParameter raw name db n
is_parameter raw name db number n h e some = record {
  admitted = asked_of raw name db number h e ∙ ap by_number some;
  database = h.2;
  named = sym e ∙ some;
}

-- it is one of the database's
pub number_within : (raw : RawMdb) (name : List ℕ) (db : Database) (number : ℕ) → IsNamedParameter raw name db number → number < length db.parameters
number_within raw name db number h =
    let names = map (λ (p : Parameter). p.name) db.parameters in
    let within = place_within (bytes_eq name) names number h.named in
    let len = length-map db.parameters (λ (p : Parameter). p.name) in
    omega (arith, within, len)
