-- The text of a load whose jobs were not refused: what it says of the history.
use Rattle.std.proofs.Common.{◌≡◌, ◌∙◌, ◌-◌, ℕ, ℤ, suc, List, [], ◌∷◌, ◌++◌, length, Option, Some, None, inl, inr, refl, sym, ap, subst, append_assoc}
use Rattle.std.specs.Prelude.{IsTrue, unwrap_or}
use mathlib.Core.List.{IsPrefix}
use Rattle.arch_disk.specs.Disk.{Device}
use Rattle.arch_types.specs.declared.cell.Cell.{Cell}
use Rattle.arch_types.specs.declared.row.Row.{Row}
use Rattle.asks.specs.declared.ask.Ask.{Ask}
use Rattle.asks.specs.declared.ask.Ask.TheVariants as asked
use Rattle.asks.specs.declared.ask.Answer.{Answer}
use Rattle.asks.specs.declared.ask.ReplayRequest.{ReplayRequest}
use Rattle.asks.specs.declared.ask.Request.{Request}
use Rattle.asks.specs.Names.{parameter_number}
use Rattle.container_extract.specs.Answer.{answer_of}
use Rattle.mdb_items.specs.Database.{Database}
use Rattle.outer_traits.specs.Outside.{Files}
use Rattle.history_items.specs.declared.items.Item.{Item}
use Rattle.history_items.specs.Databases.{database_in, names_in}
use Rattle.history_items.specs.Items.{items_of, row_item, rows_in}
use Rattle.history_items.proofs.Databases.{rows_keep_database, rows_keep_names}
use Rattle.archive_store.specs.Head.{Head}
use Rattle.archive_store.specs.Entries.{FilledArchive}
use Rattle.archive_store.specs.Stands.{IsSoundImage}
use Rattle.live_asks.specs.declared.answered.AskAnswer.{AskAnswer}
use Rattle.live_asks.specs.declared.answered.AskAnswer.TheVariants as kept
use Rattle.live_asks.specs.declared.answered.ReplayedRows.{ReplayedRows}
use Rattle.live_asks.specs.LiveAsks.{AnswersOver, AreTold, DiskFacts, HasCellsOf, HasReplayOf, HasRowCellsOf, IsAnsweredInTurn, disk_facts}
use Rattle.live_session.specs.Outcome.{JobsOutcome, counts_of, reported_of}
use Rattle.retrieval.specs.AnswerText.{answer_lines}
use Rattle.retrieval.specs.declared.found_asks.FoundAsk.{FoundAsk}
use Rattle.retrieval.specs.declared.found_asks.FoundAsk.TheVariants as looked_up
use Rattle.retrieval.specs.FoundAsks.{ask_found, asks_found}
use Rattle.ask_answers.specs.Collected.{AreAnsweredInTurns, collected_answer_text, collected_answers_text}
use Rattle.ask_answers.proofs.CollectedTexts.{collected_replay, collected_values, each_answered}
use Rattle.command_words.specs.Job.{LoadWords}
use Rattle.load_command.specs.LoadLine.{line_of_load, load_line, load_text}
use Rattle.command_laws.specs.Answers.{AreAnswersBetween, IsAnswerBetween}
use Rattle.command_laws.specs.Calls.{Call}
use Rattle.command_laws.specs.Links.{arrived_of, packets_of}
use Rattle.command_laws.specs.Load.{AreLoadAnswers, line_of_dumps}
use Rattle.command_laws.proofs.JobsLoaded.{AreWholeFrom, CameToJobs}

-- ---- histories between two

-- the first of items that are rows are rows
rows_first : (some more : List Item) (rows : List Row) → some ++ more ≡ items_of rows → (own : List Row) × (some ≡ items_of own)
rows_first [] more rows is = ([], refl)
rows_first (item ∷ some) more [] is = absurd (cc (is))
rows_first (item ∷ some) more (row ∷ rows) is =
    let first : item ≡ row_item row = cc (is) in
    let later : some ++ more ≡ items_of rows = cc (is) in
    let own = rows_first some more rows later in
    (row ∷ own.0, ap (λ (i : Item). i ∷ some) first ∙ ap (λ (l : List Item). row_item row ∷ l) own.1)

same_behind : (first a b : List Item) → first ++ a ≡ first ++ b → a ≡ b
same_behind [] a b is = is
same_behind (item ∷ first) a b is = same_behind first a b (cc (is))

-- a history between one and that with rows behind it has rows behind the first
between : (first over last : List Item) (rows : List Row) → IsPrefix first over → IsPrefix over last → last ≡ first ++ items_of rows → (own : List Row) × (over ≡ first ++ items_of own)
between first over last rows later begins is =
    let same : first ++ (later.0 ++ begins.0) ≡ first ++ items_of rows =
    sym (append_assoc first later.0 begins.0) ∙ ap (λ (l : List Item). l ++ begins.0) later.1 ∙ begins.1 ∙ is in
    let own = rows_first later.0 begins.0 rows (same_behind first (later.0 ++ begins.0) (items_of rows) same) in
    (own.0, sym later.1 ∙ ap (λ (l : List Item). first ++ l) own.1)

-- ---- answers

module _ {D : Type 0} (device : Device D) (e : Call D) (known : IsTrue device.is_transparent) (before : FilledArchive) (reached : List Item) (rows : List Row) (grown : reached ≡ before.plain.history ++ items_of rows) (sealed : ℕ) where
  abbrev head : Head
  head = before.plain.head

  abbrev low : List Item
  low = before.plain.history

  abbrev facts : DiskFacts
  facts = disk_facts device e.disk sealed

  told : AreTold facts
  told paged = known

  abbrev Sound : Type 0
  Sound = IsSoundImage (device.reads e.disk)

  -- cells, by the database that was in force at the opening and is so still
  cells_between : (over : List Item) (k : ℕ) (request : Request) (answer : Answer) → IsPrefix low over → IsPrefix over reached → database_in head.mdb over ≡ database_in head.mdb low → HasCellsOf facts before over request answer
      → IsAnswerBetween Sound before reached k (asked.Values request) (collected_answer_text before.plain k (asked.Values request) (kept.Values answer))
  cells_between over k request answer later begins same is =
      let db = database_in head.mdb over in
      let number = unwrap_or (parameter_number db request.parameter) 0 in record {
        history = over;
        later = later;
        begins = begins;
        said = inl (record { fillings = is.fillings; since = is.since known; text_is = collected_values before over is.fillings k request answer same (is.filled told) });
        over_rows = λ sound.
            ap (λ (d : Database). answer_lines k answer.front d (unwrap_or (parameter_number d request.parameter) 0) answer.cells) (sym same)
            ∙ ap (λ (n : ℕ). answer_lines k n db number answer.cells) is.front ∙ ap (λ (cells : List Cell). answer_lines k (length over) db number cells) (given (is.cells known sound));
      }
    where
      given : ((number : ℕ) × (parameter_number (database_in head.mdb over) request.parameter ≡ Some number) × (answer.cells ≡ answer_of (database_in head.mdb over) number request (rows_in over)))
          → answer.cells ≡ answer_of (database_in head.mdb over) (unwrap_or (parameter_number (database_in head.mdb over) request.parameter) 0) request (rows_in over)
      given of_number =
          of_number.2 ∙ ap (λ (o : Option ℕ). answer_of (database_in head.mdb over) (unwrap_or o 0) request (rows_in over)) (sym of_number.1)

  -- cells that a glance gave, by the same database
  glanced_between : (over : List Item) (k : ℕ) (request : Request) (answer : Answer) → IsPrefix low over → IsPrefix over reached → database_in head.mdb over ≡ database_in head.mdb low → HasRowCellsOf facts before over request answer
      → IsAnswerBetween Sound before reached k (asked.Values request) (collected_answer_text before.plain k (asked.Values request) (kept.Values answer))
  glanced_between over k request answer later begins same is =
      let db : Database = database_in head.mdb over in
      let number : ℕ = unwrap_or (parameter_number db request.parameter) 0 in
      let by_front : collected_answer_text before.plain k (asked.Values request) (kept.Values answer) ≡ answer_lines k (length over) db number answer.cells =
      ap (λ (d : Database). answer_lines k answer.front d (unwrap_or (parameter_number d request.parameter) 0) answer.cells) (sym same)
      ∙ ap (λ (n : ℕ). answer_lines k n db number answer.cells) is.front in record {
        history = over;
        later = later;
        begins = begins;
        said = inr (answer.cells, by_front);
        over_rows = λ sound. by_front ∙ ap (λ (cells : List Cell). answer_lines k (length over) db number cells)
            (is.cells known sound ∙ ap (λ (o : Option ℕ). answer_of db (unwrap_or o 0) request (rows_in over)) (sym is.named));
      }

  -- rows, by the packet names that there were
  rows_between : (over : List Item) (k : ℕ) (request : ReplayRequest) (replayed : ReplayedRows) → IsPrefix low over → IsPrefix over reached → names_in head.mdb over ≡ names_in head.mdb low → HasReplayOf facts head over request replayed
      → IsAnswerBetween Sound before reached k (asked.Replay request) (collected_answer_text before.plain k (asked.Replay request) (kept.Replay replayed))
  rows_between over k request replayed later begins same is = record {
    history = over;
    later = later;
    begins = begins;
    said = inl (record { fillings = before.fillings; since = λ interval. inl refl; text_is = collected_replay facts told before.plain over k request replayed same is });
    over_rows = λ sound. collected_replay facts told before.plain over k request replayed same is;
  }

  between_text : (k : ℕ) (ask : FoundAsk) (answer : AskAnswer) → IsAnsweredInTurn facts before low reached ask answer → IsAnswerBetween Sound before reached k (ask_found ask) (collected_answer_text before.plain k (ask_found ask) answer)
  between_text k ask answer turn = go ask answer turn.answers
    where
      own : (own : List Row) × (turn.over ≡ low ++ items_of own)
      own = between low turn.over reached rows turn.later turn.begins grown

      database : database_in head.mdb turn.over ≡ database_in head.mdb low
      database = ap (database_in head.mdb) own.1 ∙ rows_keep_database head.mdb low own.0

      names : names_in head.mdb turn.over ≡ names_in head.mdb low
      names = ap (names_in head.mdb) own.1 ∙ rows_keep_names head.mdb low own.0

      go : (ask' : FoundAsk) (answer' : AskAnswer) → AnswersOver facts before turn.over ask' answer'
          → IsAnswerBetween Sound before reached k (ask_found ask') (collected_answer_text before.plain k (ask_found ask') answer')
      go (looked_up.Values found) (kept.Values cells) (inl is) = cells_between turn.over k found.request cells turn.later turn.begins database is
      go (looked_up.Values found) (kept.Values cells) (inr is) = glanced_between turn.over k found.request cells turn.later turn.begins database is
      go (looked_up.Replay found) (kept.Replay replayed) is = rows_between turn.over k found.request replayed turn.later turn.begins names is
      go (looked_up.Values found) (kept.Replay replayed) is = absurd is
      go (looked_up.Replay found) (kept.Values cells) is = absurd is

  pub answers_between : (k : ℕ) (asks : List FoundAsk) (answers : List AskAnswer) → AreAnsweredInTurns facts before low reached asks answers
      → AreAnswersBetween Sound before reached k (asks_found asks) (collected_answers_text before.plain k (asks_found asks) answers)
  answers_between k [] [] each = refl
  answers_between k [] (answer ∷ answers) each = absurd each
  answers_between k (ask ∷ asks) [] each = absurd each
  answers_between k (ask ∷ asks) (answer ∷ answers) each = (
    collected_answer_text before.plain k (ask_found ask) answer,
    collected_answers_text before.plain (suc k) (asks_found asks) answers,
    refl,
    between_text k ask answer each.0,
    answers_between (suc k) asks answers each.1,
  )

-- ---- the whole text

module _ (files : Files) (clock : Option ℤ) (words : LoadWords) (before : FilledArchive) {D : Type 0} (device : Device D) (e : Call D) (known : IsTrue device.is_transparent) (asks : List Ask) (c : JobsOutcome)
    (sealed : ℕ) (came : CameToJobs files clock words before (disk_facts device e.disk sealed) asks c) (none : reported_of words.link c.ends c.others ≡ None)
    (whole : AreWholeFrom files clock words before (disk_facts device e.disk sealed) asks c came words.link c.ends) where
  each : AreAnsweredInTurns (disk_facts device e.disk sealed) before before.plain.history c.reached came.g.asks c.answers
  each = each_answered (disk_facts device e.disk sealed) before before.plain.history c.reached came.g.asks c.answers (came.outcome.answered none)

  line_is : line_of_load (length before.plain.history) c ≡ line_of_dumps before c.reached whole.dumps
  line_is =
      let new = length c.reached - length before.plain.history in
      let rows = length (rows_in c.reached) in
      let counts = counts_of c.ends in
      ap (λ (n : ℕ). load_line n new (counts.routed - new) counts.idle rows) whole.packets_are
      ∙ ap (λ (n : ℕ). load_line (packets_of whole.dumps) new (n - new) counts.idle rows) whole.arrived_are
      ∙ ap (λ (n : ℕ). load_line (packets_of whole.dumps) new (arrived_of whole.dumps - new) n rows) whole.idle

  abbrev pub answers : List ℕ
  answers = collected_answers_text before.plain 1 asks c.answers

  pub whole_text : load_text before.plain asks c ≡ answers ++ line_of_dumps before c.reached whole.dumps
  whole_text = ap (λ (l : List ℕ). answers ++ l) line_is

  pub load_answers : AreLoadAnswers device e files words before c.reached answers
  load_answers = record {
    asks = asks;
    sheet = came.sheet;
    answered = subst (λ (l : List Ask). AreAnswersBetween (IsSoundImage (device.reads e.disk)) before c.reached 1 l (collected_answers_text before.plain 1 l c.answers)) came.given.asked
        (answers_between device e known before c.reached came.outcome.more came.outcome.grown sealed 1 came.g.asks c.answers each);
  }
