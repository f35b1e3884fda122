-- Answers that are collected until all jobs have ended: over which histories they were given, and their text.
use Rattle.std.specs.Prelude.{ℕ, suc, List, [], ◌∷◌, ◌++◌, unwrap_or}
use Rattle.asks.specs.declared.ask.Ask.{Ask}
use Rattle.asks.specs.declared.ask.Ask.TheVariants.{Values, Replay}
use Rattle.asks.specs.Names.{parameter_number}
use Rattle.history_items.specs.declared.items.Item.{Item}
use Rattle.history_items.specs.Databases.{database_in, names_in}
use Rattle.archive_store.specs.Entries.{Archive, FilledArchive}
use Rattle.live_asks.specs.declared.answered.AskAnswer.{AskAnswer}
use Rattle.live_asks.specs.declared.answered.AskAnswer.TheVariants as collected
use Rattle.live_asks.specs.LiveAsks.{DiskFacts, IsAnsweredInTurn}
use Rattle.retrieval.specs.declared.found_asks.FoundAsk.{FoundAsk}
use Rattle.retrieval.specs.AnswerText.{answer_lines}
use Rattle.retrieval.specs.ReplayText.{replay_lines}

-- ---- over which histories

-- each ask was answered over a history that goes on from the first one and with which the last one begins
abbrev pub AreAnsweredInTurns : DiskFacts → FilledArchive → List Item → List Item → List FoundAsk → List AskAnswer
    → Type 0
AreAnsweredInTurns facts opened first last [] [] = Unit {0}
AreAnsweredInTurns facts opened first last (ask ∷ asks) (answer ∷ answers) =
    IsAnsweredInTurn facts opened first last ask answer × AreAnsweredInTurns facts opened first last asks answers
AreAnsweredInTurns facts opened first last asks answers = ⊥

-- ---- their text

-- an answer is one to such an ask: values to one for values, rows to one for a replay
abbrev pub IsAnswerTo : Ask → AskAnswer → Type 0
IsAnswerTo (Values request) (collected.Values answer) = Unit {0}
IsAnswerTo (Replay request) (collected.Replay replayed) = Unit {0}
IsAnswerTo ask other = ⊥

-- each ask has its answer
abbrev pub AreAnswersTo : List Ask → List AskAnswer → Type 0
AreAnswersTo [] [] = Unit {0}
AreAnswersTo (ask ∷ asks) (answer ∷ answers) = IsAnswerTo ask answer × AreAnswersTo asks answers
AreAnswersTo asks answers = ⊥

-- the text of the answer to the ask with a number, by the parameters and the packet names of an archive: its front, its
-- cells or rows, and how many there are
abbrev pub collected_answer_text : Archive → ℕ → Ask → AskAnswer → List ℕ
collected_answer_text archive k (Values request) (collected.Values answer) =
    let db = database_in archive.head.mdb archive.history in
    answer_lines k answer.front db (unwrap_or (parameter_number db request.parameter) 0) answer.cells
collected_answer_text archive k (Replay request) (collected.Replay replayed) =
    replay_lines k replayed.front (names_in archive.head.mdb archive.history) request.table replayed.rows
collected_answer_text archive k ask other = []

-- the texts of the answers to asks, numbered from k on
abbrev pub collected_answers_text : Archive → ℕ → List Ask → List AskAnswer → List ℕ
collected_answers_text archive k (ask ∷ asks) (answer ∷ answers) =
    collected_answer_text archive k ask answer ++ collected_answers_text archive (suc k) asks answers
collected_answers_text archive k asks answers = []
