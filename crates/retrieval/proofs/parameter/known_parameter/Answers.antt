use Rattle.retrieval.proofs.Parameters.{is_parameter, no_database, unknown_parameter}
use Rattle.retrieval.proofs.parameter.known_parameter.Goals as goal

pub returns-in-Err : goal.returns-in-Err
returns-in-Err c = record {
  known = tt;
  refused = rw c.refusal_of_sheets.ensures (no_database c.args.sheets.now c.args.name.now c.in-Err.fault c.in-Err.ensures);
}

pub returns-in-Some : goal.returns-in-Some
returns-in-Some c = record {
  known = is_parameter c.args.sheets.now c.args.name.now c.in-Ok.mdb c.parameter_number.result c.in-Some.number c.in-Ok.ensures c.parameter_number.ensures.value c.in-Some.is;
  refused = tt;
}

pub returns-in-None : goal.returns-in-None
returns-in-None c = record {
  known = tt;
  refused = unknown_parameter c.args.sheets.now c.args.name.now c.in-Ok.mdb c.parameter_number.result c.in-Ok.ensures c.parameter_number.ensures.value c.in-None.is;
}
