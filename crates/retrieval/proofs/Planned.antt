-- The answer over a plan.
use Rattle.std.proofs.Common.{◌∙◌}
use Rattle.history_items.specs.Databases.{database_in}
use Rattle.history_items.specs.Items.{rows_in}
use Rattle.part_answers.proofs.OverRows.{answer_of_history, answer_over}
use Rattle.retrieval.specs.Laws.{PlannedIsAnswered}

-- the answer over a plan is that over the history
pub planned : PlannedIsAnswered
planned head history request number plan is =
    let db = database_in head.mdb history in
    answer_over db number request plan.parts is.rows is.over ∙ answer_of_history db number request is.rows (rows_in history) is.in_range
