use Rattle.std.proofs.Common.{◌≡◌, ℕ, List, Some, true}
use Rattle.csv.specs.Reading.{Reached, Ready, default_config, source_of, strip_bom}
use Rattle.csv.specs.declared.parser.State.TheVariants as st
use Rattle.csv.specs.declared.reader.Trim.TheVariants as trim
use Rattle.mdb_sheets.proofs.Reached.{left_of}
use Rattle.mdb_sheets.proofs.records.records.Given as goal

abbrev pub invariant-loop-found : goal.invariant-loop-found
invariant-loop-found l = record {
  trim : l.reader.trim ≡ trim.None;
  flexible : l.reader.flexible ≡ true;
  ready : Ready l.reader;
  config : l.reader.config ≡ default_config;
  reached : (y : List ℕ) × (source_of (λ s. Some s.now) l.reader ≡ Some y) × Reached default_config st.StartRecord (strip_bom l.fn.octets) l.sheet l.reader.state y;
}

abbrev pub decreases-loop-found : goal.decreases-loop-found
decreases-loop-found l = left_of (source_of (λ s. Some s.now) l.reader) l.reader.state
