use Rattle.std.proofs.Common.{◌≡◌, ◌-◌, drop, take, []}
use Rattle.mdb_items.specs.ContainerRows.{container_fault_at, containers_of}
use Rattle.mdb_model.specs.Sheets.{read_containers}
use Rattle.mdb_rules.specs.Totals.{HasPaths}
use Rattle.mdb_model.proofs.SheetLoops.{SoundBelow}
use Rattle.mdb_model.proofs.sheets.containers_of.Given as goal

abbrev pub invariant-loop-place : goal.invariant-loop-place
invariant-loop-place l = record {
  path : HasPaths l.parameters.items.items l.containers;
  items : l.containers.items.items ≡ containers_of (take (l.place - 1) (read_containers l.parameters.items.items [] (drop 1 l.sheet)));
  sound : SoundBelow (container_fault_at l.parameters.items.items (read_containers l.parameters.items.items [] (drop 1 l.sheet))) (l.place - 1);
}
