use Rattle.std.proofs.Common.{◌≡◌, ◌+◌, ◌-◌, drop, map, take}
use Rattle.mdb_sheets.specs.Asks.{ask_of, rows_fault}
use Rattle.mdb_sheets.proofs.ask_sheet.asks_below.Given as goal

abbrev pub invariant-loop-place : goal.invariant-loop-place
invariant-loop-place l = record {
  asks : l.asks ≡ map ask_of (take (l.place - 1) (drop 1 l.sheet));
  fault : rows_fault 2 (drop 1 l.sheet) ≡ rows_fault (l.place + 1) (drop (l.place - 1) (drop 1 l.sheet));
}
