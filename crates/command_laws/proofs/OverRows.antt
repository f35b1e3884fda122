-- What asks are answered by sound fills is what the rows give.
use Rattle.std.proofs.Common.{◌≡◌, ◌∙◌, ℕ, suc, List, [], ◌∷◌, ◌++◌, length, refl, ap}
use Rattle.std.specs.Prelude.{unwrap_or}
use Rattle.arch_types.specs.declared.cell.Cell.{Cell}
use Rattle.asks.specs.declared.ask.Ask.{Ask}
use Rattle.asks.specs.declared.ask.Ask.TheVariants.{Values, Replay}
use Rattle.asks.specs.Names.{parameter_number}
use Rattle.history_items.specs.declared.items.Item.{Item}
use Rattle.history_items.specs.Databases.{database_in}
use Rattle.param_segments.specs.Rows.{SetRow}
use Rattle.store_fills.specs.Filled.{HoldsRows}
use Rattle.store_fills.specs.Sound.{AreSound, Fillings}
use Rattle.archive_store.specs.Head.{Head}
use Rattle.retrieval.specs.AnswerText.{answer_lines}
use Rattle.retrieval.specs.AskText.{ask_text, asks_text}
use Rattle.retrieval.proofs.FilledAnswers.{filled_answered}
use Rattle.command_laws.specs.Answers.{ask_answer, asks_answers}

module _ (head : Head) (exponent : ℕ) (history : List Item) (fillings : Fillings (List SetRow)) (sound : AreSound exponent (HoldsRows (database_in head.mdb history)) history fillings) where
  one_ask : (k : ℕ) (ask : Ask) → ask_text head exponent history fillings k ask ≡ ask_answer head history k ask
  one_ask k (Values request) =
      let number = unwrap_or (parameter_number (database_in head.mdb history) request.parameter) 0 in
      ap (λ (cells : List Cell). answer_lines k (length history) (database_in head.mdb history) number cells) (filled_answered (database_in head.mdb history) exponent history fillings request number sound)
  one_ask k (Replay request) = refl

  pub asks_over_rows : (k : ℕ) (asks : List Ask) → asks_text head exponent history fillings k asks ≡ asks_answers head history k asks
  asks_over_rows k [] = refl
  asks_over_rows k (ask ∷ asks) =
      ap (λ (text : List ℕ). text ++ asks_text head exponent history fillings (suc k) asks) (one_ask k ask)
      ∙ ap (λ (text : List ℕ). ask_answer head history k ask ++ text) (asks_over_rows (suc k) asks)
