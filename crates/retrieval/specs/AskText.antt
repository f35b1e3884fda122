-- The asks of a sheet: why one isn't answered, and the text of their answers.
use Rattle.std.specs.Prelude.{ℕ, suc, List, [], ◌∷◌, ◌++◌, Option, None, option_map}
use Rattle.asks.specs.declared.ask.Ask.{Ask}
use Rattle.asks.specs.declared.ask.Ask.TheVariants.{Values, Replay}
use Rattle.asks.specs.Refusals.{ask_refusal}
use Rattle.refusals.specs.declared.refusal.Refusal.{Refusal}
use Rattle.history_items.specs.declared.items.Item.{Item}
use Rattle.history_items.specs.Databases.{database_in}
use Rattle.archive_store.specs.Head.{Head}
use Rattle.archive_store.specs.Finding.{refusal_of_ask}
use Rattle.mdb_items.specs.Checks.{or_else}
use Rattle.param_segments.specs.Rows.{SetRow}
use Rattle.store_fills.specs.Sound.{Fillings}
use Rattle.retrieval.specs.FilledAnswer.{request_text}
use Rattle.retrieval.specs.ReplayText.{replay_text}

-- the text of the ask with a number
abbrev pub ask_text : Head → ℕ → List Item → Fillings (List SetRow) → ℕ → Ask → List ℕ
ask_text head exponent history fillings k (Values request) =
    request_text (database_in head.mdb history) exponent history fillings k request
ask_text head exponent history fillings k (Replay request) = replay_text head history k request

-- the texts of asks, numbered from k on
abbrev pub asks_text : Head → ℕ → List Item → Fillings (List SetRow) → ℕ → List Ask → List ℕ
asks_text head exponent history fillings k [] = []
asks_text head exponent history fillings k (ask ∷ asks) =
    ask_text head exponent history fillings k ask ++ asks_text head exponent history fillings (suc k) asks

-- the refusal of the first ask that isn't answered
abbrev pub asks_refusal : Head → List Item → List Ask → Option Refusal
asks_refusal head history [] = None
asks_refusal head history (ask ∷ asks) =
    or_else (option_map refusal_of_ask (ask_refusal head.tables (database_in head.mdb history) ask))
    (asks_refusal head history asks)
