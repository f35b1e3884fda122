-- Where a replay stands.
use Rattle.std.specs.Prelude.{◌≡◌, ◌⊎◌, ◌↔◌, ◌-◌, ◌+◌, ◌*◌, ◌^◌, ◌<◌, ℕ, ℤ, List, length, [], ◌++◌, filter, Option, Some, None, ◌==◌, if◌then◌else◌, Contains}
use Rattle.arch_types.specs.declared.row.Row.{Row}
use Rattle.arch_types.specs.Directions.{truncated}
use Rattle.asks.specs.declared.ask.ReplayRequest.{ReplayRequest}
use Rattle.partitions.specs.declared.partition.Partition.{Partition}
use Rattle.partitions.specs.Partitions.{AreRising}
use Rattle.partitions.specs.Rows.{is_of_parts}
use Rattle.replay_merge.specs.Replay.{is_listed_name, rows_asked, IsReplayedRow}
use Rattle.replay_merge.specs.RowSource.{RowSourceState}

-- what contracts see of a cursor
pub record CursorView : Type 0 where
  -- what was asked: a table, at a front, a range of times, packet names
  pub table : ℕ
  pub front : ℕ
  pub from : ℤ
  pub to : ℤ
  pub names : Option (List ℕ)
  -- how many rows may still be given, where there is a limit
  pub left : Option ℕ
  -- the partitions that were not read yet
  pub parts : List Partition
  -- the rows that were read and not given yet
  pub ahead : List Row

-- what is left to give of a replay of a history, of which the rows below each front are given
abbrev pub rest_of : CursorView → (ℕ → List Row) → List Row
rest_of c history = truncated c.left (c.ahead ++ filter (is_of_parts c.parts) (rows_asked c.table c.from c.to c.names (history c.front)))

-- nothing is left, whatever the history: the limit is reached, or all was read and given
abbrev pub IsAtEnd : CursorView → Type 0
IsAtEnd c = (c.left ≡ Some 0) ⊎ ((c.ahead ≡ []) × (c.parts ≡ []))

-- what was asked stays
pub record AsksTheSame (old new : CursorView) : Type 0 where
  pub of_table : new.table ≡ old.table
  pub at_front : new.front ≡ old.front
  pub starts : new.from ≡ old.from
  pub ends : new.to ≡ old.to
  pub same_names : new.names ≡ old.names

-- falls with each call that gives a row
abbrev pub steps_at_most : CursorView → ℕ
steps_at_most c = 2 ^ 64 * length c.parts + length c.ahead

-- a step that was asked for so many rows: if it gave none although some were asked for, the end is reached; from the end on it gives none
pub record EndsExactly (limit : ℕ) (old new : CursorView) (rows : List Row) : Type 0 where
  pub none_is_end : rows ≡ [] → 0 < limit → IsAtEnd new
  pub end_is_none : IsAtEnd old → rows ≡ []

-- a row that is of what was asked
abbrev pub IsRowAsked : CursorView → Row → Type 0
IsRowAsked c row = IsReplayedRow c.table c.from c.to c.names row

-- a row that a step may hand on: one that was read before, or that the source may give
abbrev pub MayHandOn : CursorView → RowSourceState → Row → Type 0
MayHandOn c source row = Contains c.ahead row ⊎ source.may_give row

-- a cursor before the first row of a request to a table at a front, over these partitions and packet names
pub record IsCursorOf (request : ReplayRequest) (table front : ℕ) (parts : List Partition) (names : Option (List ℕ)) (c : CursorView) : Type 0 where
  pub of_table : c.table ≡ table
  pub at_front : c.front ≡ front
  pub starts : c.from ≡ request.from
  pub ends : c.to ≡ request.to
  pub limit : c.left ≡ request.limit
  pub listed : (pname : ℕ) → is_listed_name c.names pname ≡ is_listed_name names pname
  pub same_parts : (partition : Partition) → Contains c.parts partition ↔ Contains parts partition
  pub rising : AreRising c.parts
  pub unread : c.ahead ≡ []

-- of rows that were read, those that are kept: none once the limit is reached
abbrev pub still_ahead : Option ℕ → List Row → List Row
still_ahead None rows = rows
still_ahead (Some n) rows = if n == 0 then [] else rows

-- how many rows may still be given once so many were
abbrev pub left_after : Option ℕ → ℕ → Option ℕ
left_after None given = None
left_after (Some n) given = Some (n - given)
