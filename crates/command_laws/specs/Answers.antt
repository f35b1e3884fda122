-- The answers to asks over the rows of a history, whatever its fills.
use Rattle.std.specs.Prelude.{◌≡◌, ◌⊎◌, ℕ, suc, List, [], ◌∷◌, ◌++◌, length, unwrap_or, Option, Some, Result, Ok, Err}
use mathlib.Core.List.{IsPrefix}
use Rattle.arch_types.specs.declared.cell.Cell.{Cell}
use Rattle.asks.specs.declared.ask.Ask.{Ask}
use Rattle.asks.specs.declared.ask.Ask.TheVariants.{Values, Replay}
use Rattle.asks.specs.declared.ask.Request.{Request}
use Rattle.asks.specs.Names.{parameter_number}
use Rattle.refusals.specs.declared.refusal.Refusal.{Refusal}
use Rattle.mdb_items.specs.Database.{Database}
use Rattle.container_extract.specs.Answer.{answer_of}
use Rattle.history_items.specs.declared.items.Item.{Item}
use Rattle.history_items.specs.Databases.{database_in}
use Rattle.history_items.specs.Items.{rows_in}
use Rattle.param_segments.specs.Rows.{SetRow}
use Rattle.store_fills.specs.Sound.{Fillings}
use Rattle.archive_store.specs.Head.{Head}
use Rattle.archive_store.specs.Entries.{Archive, FilledArchive}
use Rattle.live_asks.specs.LiveAsks.{AreFillsSince}
use Rattle.retrieval.specs.AnswerText.{answer_lines}
use Rattle.retrieval.specs.AskText.{ask_text}
use Rattle.retrieval.specs.ReplayText.{replay_text}
use Rattle.ask_answers.specs.Asks.{archive_asks_refusal}

-- the text of the answer to a request, the ask with a number: the front, and the cells of its parameter that extracting
-- the packets of its range gives, in the order and number that it asks for
abbrev pub values_answer : Database → List Item → ℕ → Request → List ℕ
values_answer db history k request =
    let number = unwrap_or (parameter_number db request.parameter) 0 in
    answer_lines k (length history) db number (answer_of db number request (rows_in history))

-- the text of the ask with a number
abbrev pub ask_answer : Head → List Item → ℕ → Ask → List ℕ
ask_answer head history k (Values request) = values_answer (database_in head.mdb history) history k request
ask_answer head history k (Replay request) = replay_text head history k request

-- the texts of asks, numbered from k on
abbrev pub asks_answers : Head → List Item → ℕ → List Ask → List ℕ
asks_answers head history k [] = []
asks_answers head history k (ask ∷ asks) = ask_answer head history k ask ++ asks_answers head history (suc k) asks

-- why a sheet of asks isn't answered: its own refusal, or that of its first ask that is refused
abbrev pub sheet_refusal : Archive → Result (List Ask) Refusal → Option Refusal
sheet_refusal archive (Ok asks) = archive_asks_refusal archive asks
sheet_refusal archive (Err refusal) = Some refusal

-- ---- while the history grows

-- the text of the answer to an ask over a history with fills, as a query gives it: each is an archive's or a right one
-- since
pub record IsAnswerByFills (before : FilledArchive) (history : List Item) (k : ℕ) (ask : Ask) (text : List ℕ) : Type 0 where
  pub fillings : Fillings (List SetRow)
  pub since : AreFillsSince before history fillings
  pub text_is : text ≡ ask_text before.plain.head before.plain.exponent history fillings k ask

-- the text of the answer to a request is some cells behind the front of a history: what is said of the answer of a reader
-- that takes no turn, whatever the fills
abbrev pub HasFrontOf : Head → List Item → ℕ → Ask → List ℕ → Type 0
HasFrontOf head history k (Values request) text =
    let db = database_in head.mdb history in
    let number = unwrap_or (parameter_number db request.parameter) 0 in
    (cells : List Cell) × (text ≡ answer_lines k (length history) db number cells)
HasFrontOf head history k (Replay request) text = ⊥

-- The text of the answer to the ask with a number, over a history that goes on from that of an archive, and with which
-- a last one begins: by fills, or with that front. Where `Sound` holds it is that of the history's rows.
pub record IsAnswerBetween (Sound : Type 0) (before : FilledArchive) (last : List Item) (k : ℕ) (ask : Ask)
    (text : List ℕ) : Type 0 where
  pub history : List Item
  pub later : IsPrefix before.plain.history history
  pub begins : IsPrefix history last
  pub said : IsAnswerByFills before history k ask text ⊎ HasFrontOf before.plain.head history k ask text
  pub over_rows : Sound → text ≡ ask_answer before.plain.head history k ask

-- a text is those of the answers to asks, numbered from k on, each over such a history
abbrev pub AreAnswersBetween : Type 0 → FilledArchive → List Item → ℕ → List Ask → List ℕ → Type 0
AreAnswersBetween Sound before last k [] text = text ≡ []
AreAnswersBetween Sound before last k (ask ∷ asks) text =
    (answer : List ℕ) × (rest : List ℕ) × (text ≡ answer ++ rest)
    × IsAnswerBetween Sound before last k ask answer × AreAnswersBetween Sound before last (suc k) asks rest
