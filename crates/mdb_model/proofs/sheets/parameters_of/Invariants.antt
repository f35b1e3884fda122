use Rattle.std.proofs.Common.{◌≡◌, ◌-◌, drop, map, take}
use Rattle.mdb_items.specs.ParameterRows.{parameter_fault_at, parameters_of}
use Rattle.mdb_model.specs.Sheets.{read_parameter}
use Rattle.mdb_model.proofs.SheetLoops.{SoundBelow}
use Rattle.mdb_model.proofs.sheets.parameters_of.Given as goal

abbrev pub invariant-loop-place : goal.invariant-loop-place
invariant-loop-place l = record {
  names : l.parameters.names ≡ map (λ p. p.name) l.parameters.items.items;
  items : l.parameters.items.items ≡ parameters_of (map (read_parameter l.calibrations.names) (take (l.place - 1) (drop 1 l.sheet)));
  sound : SoundBelow (parameter_fault_at l.calibrations.items.items (map (read_parameter l.calibrations.names) (drop 1 l.sheet))) (l.place - 1);
}
