-- The texts of answers that were collected, and over which histories they were given.
use Rattle.std.proofs.Common.{◌≡◌, ◌∙◌, ◌+◌, ◌++◌, ◌<◌, ℕ, suc, List, [], ◌∷◌, length, Option, None, arith, ap, sym, subst, refl, append_assoc}
use Rattle.std.specs.Prelude.{unwrap_or}
use Rattle.std.proofs.lemmas.List.{length-map}
use mathlib.Core.List.{IsPrefix}
use Rattle.arch_types.specs.declared.cell.Cell.{Cell}
use Rattle.arch_types.specs.declared.row.Row.{Row}
use Rattle.asks.specs.declared.ask.Ask.{Ask}
use Rattle.asks.specs.declared.ask.Answer.{Answer}
use Rattle.asks.specs.declared.ask.ReplayRequest.{ReplayRequest}
use Rattle.asks.specs.declared.ask.Request.{Request}
use Rattle.asks.specs.declared.ask.Ask.TheVariants as asked
use Rattle.asks.specs.Names.{parameter_number, table_number}
use Rattle.history_items.specs.declared.items.Item.{Item}
use Rattle.history_items.specs.Databases.{database_in, names_in}
use Rattle.history_items.specs.Items.{rows_in}
use Rattle.mdb_items.specs.Database.{Database}
use Rattle.mdb_items.specs.Texts.{Text}
use Rattle.param_segments.specs.Rows.{SetRow}
use Rattle.replay_merge.specs.Replay.{replay_of}
use Rattle.store_fills.specs.Sound.{Fillings}
use Rattle.turn_cell.proofs.Fronts.{prefix_self, prefix_trans}
use Rattle.archive_store.specs.Entries.{Archive, FilledArchive}
use Rattle.line_buffer.specs.Output.{IsBuffered}
use Rattle.live_asks.specs.declared.answered.AskAnswer.{AskAnswer}
use Rattle.live_asks.specs.declared.answered.AskAnswer.TheVariants as collected
use Rattle.live_asks.specs.declared.answered.ReplayedRows.{ReplayedRows}
use Rattle.live_asks.specs.LiveAsks.{AreAnswered, AreTold, DiskFacts, HasReplayOf, IsAnsweredInTurn, every_fourth}
use Rattle.retrieval.specs.declared.found_asks.FoundAsk.{FoundAsk}
use Rattle.retrieval.specs.declared.found_asks.FoundAsk.TheVariants as looked_up
use Rattle.retrieval.specs.FoundAsks.{ask_found, asks_found}
use Rattle.retrieval.specs.AnswerText.{answer_lines}
use Rattle.retrieval.specs.FilledAnswer.{IsFilledAnswer, filled_answer, request_text}
use Rattle.retrieval.specs.ReplayText.{replay_lines, replay_text}
use Rattle.ask_answers.specs.Collected.{AreAnsweredInTurns, AreAnswersTo, IsAnswerTo, collected_answer_text, collected_answers_text}

-- ---- one answer after the other

-- the text of the first answer, beside what is buffered
pub next_collected : (archive : Archive) (k : ℕ) (first now : Option (List ℕ)) (all held : List ℕ) (asks : List Ask) (answers : List AskAnswer) (ask : Ask) (rest : List Ask) (answer : AskAnswer) (more : List AskAnswer)
    → asks ≡ ask ∷ rest → answers ≡ answer ∷ more → IsBuffered first now all (held ++ collected_answers_text archive k asks answers)
    → IsBuffered first now all ((held ++ collected_answer_text archive k ask answer) ++ collected_answers_text archive (k + 1) rest more)
next_collected archive k first now all held asks answers ask rest answer more e f h =
    let next : suc k ≡ k + 1 = omega arith in
    let text : held ++ collected_answers_text archive k asks answers ≡ (held ++ collected_answer_text archive k ask answer) ++ collected_answers_text archive (k + 1) rest more =
    ap (λ (l : List Ask). held ++ collected_answers_text archive k l answers) e
    ∙ ap (λ (l : List AskAnswer). held ++ collected_answers_text archive k (ask ∷ rest) l) f
    ∙ sym (append_assoc held (collected_answer_text archive k ask answer) (collected_answers_text archive (suc k) rest more))
    ∙ ap (λ (n : ℕ). (held ++ collected_answer_text archive k ask answer) ++ collected_answers_text archive n rest more) next in
    subst (λ (t : List ℕ). IsBuffered first now all t) text h

-- there are as many answers as asks
pub as_many_answers : (asks : List Ask) (answers : List AskAnswer) → AreAnswersTo asks answers → length answers ≡ length asks
as_many_answers [] [] are = refl
as_many_answers [] (answer ∷ answers) are = absurd are
as_many_answers (ask ∷ asks) [] are = absurd are
as_many_answers (ask ∷ asks) (answer ∷ answers) are = ap suc (as_many_answers asks answers are.1)

pub as_many_found : (asks : List FoundAsk) (answers : List AskAnswer) → AreAnswersTo (asks_found asks) answers → length answers ≡ length asks
as_many_found asks answers are = as_many_answers (asks_found asks) answers are ∙ length-map asks ask_found

-- by the parameters and packet names of another archive that has the same
module _ (a b : Archive) (database : database_in a.head.mdb a.history ≡ database_in b.head.mdb b.history) (names : names_in a.head.mdb a.history ≡ names_in b.head.mdb b.history) where
  same_collected_text : (k : ℕ) (ask : Ask) (answer : AskAnswer) → collected_answer_text a k ask answer ≡ collected_answer_text b k ask answer
  same_collected_text k (asked.Values request) (collected.Values answer) =
      ap (λ (db : Database). answer_lines k answer.front db (unwrap_or (parameter_number db request.parameter) 0) answer.cells) database
  same_collected_text k (asked.Replay request) (collected.Replay replayed) = ap (λ (l : List Text). replay_lines k replayed.front l request.table replayed.rows) names
  same_collected_text k (asked.Values request) (collected.Replay replayed) = refl
  same_collected_text k (asked.Replay request) (collected.Values answer) = refl

  pub same_collected_texts : (k : ℕ) (asks : List Ask) (answers : List AskAnswer) → collected_answers_text a k asks answers ≡ collected_answers_text b k asks answers
  same_collected_texts k [] answers = refl
  same_collected_texts k (ask ∷ asks) [] = refl
  same_collected_texts k (ask ∷ asks) (answer ∷ answers) =
      ap (λ (t : List ℕ). t ++ collected_answers_text a (suc k) asks answers) (same_collected_text k ask answer)
      ∙ ap (λ (t : List ℕ). collected_answer_text b k ask answer ++ t) (same_collected_texts (suc k) asks answers)

-- ---- the answers of four readers

module _ (facts : DiskFacts) (opened : FilledArchive) where
  -- an answer over a history from a later one on is one from an earlier one on
  in_turn : (earlier later last : List Item) (ask : FoundAsk) (answer : AskAnswer) → IsPrefix earlier later → IsAnsweredInTurn facts opened later last ask answer → IsAnsweredInTurn facts opened earlier last ask answer
  in_turn earlier later last ask answer begins turn = record { over = turn.over; later = prefix_trans earlier later turn.over begins turn.later; begins = turn.begins; answers = turn.answers }

  -- a reader's answers, each over a history that goes on from that of the one before
  each_of_reader : (first old last : List Item) → IsPrefix first old → (asks : List FoundAsk) (answers : List AskAnswer) → AreAnswered facts opened old last asks answers None → AreAnsweredInTurns facts opened first last asks answers
  each_of_reader first old last begins [] [] are = tt
  each_of_reader first old last begins [] (answer ∷ answers) are = absurd are
  each_of_reader first old last begins (ask ∷ asks) [] are = absurd are
  each_of_reader first old last begins (ask ∷ asks) (answer ∷ answers) are =
      let turn = are.0 in
      (in_turn first old last ask answer begins turn, each_of_reader first turn.over last (prefix_trans first old turn.over begins turn.later) asks answers are.1)

  -- each fourth ask has its answer, whichever one begins with, so each ask has
  gathered : (first last : List Item) (asks : List FoundAsk) (answers : List AskAnswer) → AreAnsweredInTurns facts opened first last (every_fourth 0 asks) (every_fourth 0 answers) → AreAnsweredInTurns facts opened first last (every_fourth 1 asks) (every_fourth 1 answers)
      → AreAnsweredInTurns facts opened first last (every_fourth 2 asks) (every_fourth 2 answers) → AreAnsweredInTurns facts opened first last (every_fourth 3 asks) (every_fourth 3 answers) → AreAnsweredInTurns facts opened first last asks answers
  gathered first last [] [] a b c d = tt
  gathered first last [] (answer ∷ answers) a b c d = absurd a
  gathered first last (ask ∷ asks) [] a b c d = absurd a
  gathered first last (ask ∷ asks) (answer ∷ answers) a b c d = (a.0, gathered first last asks answers b c d a.1)

  pub each_answered : (first last : List Item) (asks : List FoundAsk) (answers : List AskAnswer) → ((b : ℕ) → b < 4 → AreAnswered facts opened first last (every_fourth b asks) (every_fourth b answers) None)
      → AreAnsweredInTurns facts opened first last asks answers
  each_answered first last asks answers readers =
      gathered first last asks answers (of_reader 0 (omega arith)) (of_reader 1 (omega arith)) (of_reader 2 (omega arith)) (of_reader 3 (omega arith))
    where
      of_reader : (b : ℕ) → b < 4 → AreAnsweredInTurns facts opened first last (every_fourth b asks) (every_fourth b answers)
      of_reader b few = each_of_reader first first last (prefix_self first) (every_fourth b asks) (every_fourth b answers) (readers b few)

  -- each is an answer to its ask
  answers_ask : (first last : List Item) (ask : FoundAsk) (answer : AskAnswer) → IsAnsweredInTurn facts opened first last ask answer → IsAnswerTo (ask_found ask) answer
  answers_ask first last (looked_up.Values found) (collected.Values answer) turn = tt
  answers_ask first last (looked_up.Values found) (collected.Replay replayed) turn = absurd turn.answers
  answers_ask first last (looked_up.Replay found) (collected.Values answer) turn = absurd turn.answers
  answers_ask first last (looked_up.Replay found) (collected.Replay replayed) turn = tt

  pub are_answers : (first last : List Item) (asks : List FoundAsk) (answers : List AskAnswer) → AreAnsweredInTurns facts opened first last asks answers → AreAnswersTo (asks_found asks) answers
  are_answers first last [] [] each = tt
  are_answers first last [] (answer ∷ answers) each = absurd each
  are_answers first last (ask ∷ asks) [] each = absurd each
  are_answers first last (ask ∷ asks) (answer ∷ answers) each = (answers_ask first last ask answer each.0, are_answers first last asks answers each.1)

-- ---- the text is that of the answer over its history

-- of cells, by the database that was in force at the opening and is so still
pub collected_values : (opened : FilledArchive) (over : List Item) (fillings : Fillings (List SetRow)) (k : ℕ) (request : Request) (answer : Answer)
    → database_in opened.plain.head.mdb over ≡ database_in opened.plain.head.mdb opened.plain.history
    → IsFilledAnswer (database_in opened.plain.head.mdb over) opened.plain.exponent over fillings request answer
    → collected_answer_text opened.plain k (asked.Values request) (collected.Values answer) ≡ request_text (database_in opened.plain.head.mdb over) opened.plain.exponent over fillings k request
collected_values opened over fillings k request answer same is =
    let db = database_in opened.plain.head.mdb over in
    let number = unwrap_or (parameter_number db request.parameter) 0 in
    let number_is : number ≡ is.number = ap (λ (o : Option ℕ). unwrap_or o 0) is.named in
    ap (λ (d : Database). answer_lines k answer.front d (unwrap_or (parameter_number d request.parameter) 0) answer.cells) (sym same)
    ∙ ap (λ (n : ℕ). answer_lines k n db number answer.cells) is.front
    ∙ ap (λ (l : List Cell). answer_lines k (length over) db number l) (is.cells ∙ ap (λ (n : ℕ). filled_answer db n request opened.plain.exponent over fillings) (sym number_is))

-- of rows, by the packet names that there were
pub collected_replay : (facts : DiskFacts) → AreTold facts → (archive : Archive) (over : List Item) (k : ℕ) (request : ReplayRequest) (replayed : ReplayedRows) → names_in archive.head.mdb over ≡ names_in archive.head.mdb archive.history
    → HasReplayOf facts archive.head over request replayed
    → collected_answer_text archive k (asked.Replay request) (collected.Replay replayed) ≡ replay_text archive.head over k request
collected_replay facts told archive over k request replayed same is =
    let names = names_in archive.head.mdb over in
    let table_is : unwrap_or (table_number archive.head.tables request.table) 0 ≡ is.table = ap (λ (o : Option ℕ). unwrap_or o 0) is.table_is in
    ap (λ (l : List Text). replay_lines k replayed.front l request.table replayed.rows) (sym same)
    ∙ ap (λ (n : ℕ). replay_lines k n names request.table replayed.rows) is.front
    ∙ ap (λ (l : List Row). replay_lines k (length over) names request.table l) (is.rows told)
    ∙ ap (λ (n : ℕ). replay_lines k (length over) names request.table (replay_of names n request (rows_in over))) (sym table_is)
