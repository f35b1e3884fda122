-- What holds of cursors.
use mathlib.Core.List.{IsPrefix}
use Rattle.std.specs.Prelude.{◌≡◌, ◌↔◌, ℕ, List, [], filter, Option, true, Contains}
use Rattle.arch_types.specs.declared.row.Row.{Row}
use Rattle.arch_types.specs.History.{is_in_table}
use Rattle.partitions.specs.declared.partition.Partition.{Partition}
use Rattle.partitions.specs.declared.bounds.Bounds.{Bounds}
use Rattle.partitions.specs.Bounds.{IsAmong, MayHold}
use Rattle.partitions.specs.Rows.{partitions_of}
use Rattle.replay_merge.specs.Replay.{is_listed_name, rows_asked, HoldsEachRow}
use Rattle.replay_merge.specs.Cursor.{CursorView, rest_of, IsAtEnd}

-- what is left is of the rows below the front alone, whatever was added behind them
abbrev pub RestAtFront : Type 0
RestAtFront = (c : CursorView) (one other : ℕ → List Row) → one c.front ≡ other c.front → rest_of c one ≡ rest_of c other

-- at the end nothing is left
abbrev pub EndHasNoRest : Type 0
EndHasNoRest = (c : CursorView) (history : ℕ → List Row) → IsAtEnd c → rest_of c history ≡ []

-- the test of packet names is whether a name is among those listed
abbrev pub ListedIsAmong : Type 0
ListedIsAmong = (names : Option (List ℕ)) (pname : ℕ) → (is_listed_name names pname ≡ true) ↔ IsAmong names pname

-- among the partitions is each that has one of the rows and may hold one in the bounds
abbrev pub HoldsPruned : Bounds → List Row → List Partition → Type 0
HoldsPruned bounds rows parts =
    (partition : Partition) → Contains (partitions_of rows) partition → MayHold bounds partition → Contains parts partition

-- such partitions of the rows of a table hold each row that is asked by the bounds, of these rows and of each beginning of them
abbrev pub PrunedIsEnough : Type 0
PrunedIsEnough = (bounds : Bounds) (table : ℕ) (parts : List Partition) (first rows : List Row) →
    HoldsPruned bounds (filter (is_in_table table) rows) parts → IsPrefix first rows →
    HoldsEachRow parts (rows_asked table bounds.from bounds.to bounds.names first)
