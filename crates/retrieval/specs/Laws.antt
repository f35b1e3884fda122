-- What the definitions come to.
use Rattle.std.specs.Prelude.{◌≡◌, ℕ, List}
use Rattle.asks.specs.declared.ask.Request.{Request}
use Rattle.history_items.specs.declared.items.Item.{Item}
use Rattle.history_items.specs.Databases.{database_in}
use Rattle.history_items.specs.Items.{rows_in}
use Rattle.mdb_items.specs.declared.fault.MdbLimit.{MdbLimit}
use Rattle.mdb_items.specs.Database.{Database}
use Rattle.mdb_items.specs.Limits.{database_limit}
use Rattle.param_segments.specs.declared.plan.Plan.{Plan}
use Rattle.param_segments.specs.Rows.{SetRow}
use Rattle.store_fills.specs.Filled.{HoldsRows}
use Rattle.store_fills.specs.Sound.{AreSound, Fillings}
use Rattle.archive_store.specs.Head.{Head}
use Rattle.archive_store.specs.Plans.{IsPlanOver}
use Rattle.container_extract.specs.Answer.{answer_of}
use Rattle.retrieval.specs.FilledAnswer.{filled_answer}
use Rattle.retrieval.specs.Parameter.{limit_of_database}
use Rattle.part_answers.specs.PartCells.{answer_over_parts}
use Rattle.refusals.specs.Limits.{limit_of}

-- where the fills are sound, what is asked of a history with them is the answer over the history
abbrev pub FilledIsAnswered : Type 0
FilledIsAnswered = (db : Database) (exponent : ℕ) (history : List Item) (fillings : Fillings (List SetRow))
    (request : Request) (number : ℕ) → AreSound exponent (HoldsRows db) history fillings →
    filled_answer db number request exponent history fillings ≡ answer_of db number request (rows_in history)

-- what is answered over the parts of a store's plan is the answer over its whole history
abbrev pub PlannedIsAnswered : Type 0
PlannedIsAnswered = (head : Head) (history : List Item) (request : Request) (number : ℕ) (plan : Plan) →
    IsPlanOver head history request.from request.to plan →
    answer_over_parts (database_in head.mdb history) number request plan.parts
    ≡ answer_of (database_in head.mdb history) number request (rows_in history)

-- the limits of a database are those of the archive
abbrev pub DatabaseLimitsAgree : Type 0
DatabaseLimitsAgree = (quantity : MdbLimit) → database_limit quantity ≡ limit_of (limit_of_database quantity)
