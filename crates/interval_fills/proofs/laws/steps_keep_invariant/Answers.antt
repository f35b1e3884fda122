use Rattle.interval_fills.proofs.Steps.{first, ingests, begins, installs, gives_up, settles, opens, faults, reopens}
use Rattle.interval_fills.proofs.laws.steps_keep_invariant.Goals as goal

pub returns : goal.returns
returns c = record {
  first = first;
  ingests = ingests;
  begins = begins;
  installs = installs;
  gives_up = gives_up;
  settles = settles;
  opens = opens;
  faults = faults;
  reopens = reopens;
}
