-- What is answered to who asks for values or for rows, by the one answer and the one replay that the archive has.
use Rattle.std.specs.Prelude.{◌≡◌, ℕ, ◌≤ℤ◌, List, Some}
use Rattle.asks.specs.declared.ask.Answer.{Answer}
use Rattle.asks.specs.declared.ask.ReplayRequest.{ReplayRequest}
use Rattle.asks.specs.declared.ask.Request.{Request}
use Rattle.asks.specs.Names.{parameter_number, table_number}
use Rattle.arch_types.specs.declared.row.Row.{Row}
use Rattle.container_extract.specs.Answer.{answer_of}
use Rattle.mdb_items.specs.Database.{Database}
use Rattle.mdb_items.specs.Texts.{Text}
use Rattle.replay_merge.specs.Replay.{replay_of}

-- ---- values

-- the database has the parameter, the range doesn't end before it begins, and this is the answer over all of these rows,
-- which are those below a front
pub record IsAnswered (db : Database) (front : ℕ) (rows : List Row) (request : Request) (answer : Answer) : Type 0 where
  pub number : ℕ
  pub named : parameter_number db request.parameter ≡ Some number
  pub range : request.from ≤ℤ request.to
  pub front_is : answer.front ≡ front
  pub cells : answer.cells ≡ answer_of db number request rows

-- ---- replays

-- there is a table of the name, the range doesn't end before it begins, and these are the rows asked of all of the rows
-- below a front, by the packet names that stand at these numbers
pub record IsReplayed (tables names : List Text) (front : ℕ) (history : List Row) (request : ReplayRequest)
    (told : ℕ) (rows : List Row) : Type 0 where
  pub table : ℕ
  pub named : table_number tables request.table ≡ Some table
  pub range : request.from ≤ℤ request.to
  pub front_is : told ≡ front
  pub rows_are : rows ≡ replay_of names table request history
