-- What is printed and reported of a load.
use Rattle.std.proofs.Common.{◌≡◌, ◌∙◌, ℕ, ◌-◌, List, ◌++◌, length, Option, Some, None, append_assoc, refl, sym, ap, subst}
use Rattle.asks.specs.declared.ask.Ask.{Ask}
use Rattle.refusals.specs.declared.refusal.Refusal.{Refusal}
use Rattle.history_items.specs.declared.items.Item.{Item}
use Rattle.history_items.specs.Databases.{database_in, names_in}
use Rattle.history_items.specs.Items.{rows_in}
use Rattle.archive_store.specs.Entries.{Archive}
use Rattle.outer_traits.specs.States.{OutputState}
use Rattle.ask_answers.specs.Asks.{ArePrinted}
use Rattle.ask_answers.specs.Collected.{collected_answers_text}
use Rattle.ask_answers.proofs.CollectedTexts.{same_collected_texts}
use Rattle.command_runs.specs.declared.report.Report.{Report}
use Rattle.command_runs.specs.Report.{loaded}
use Rattle.live_asks.specs.declared.answered.AskAnswer.{AskAnswer}
use Rattle.live_session.specs.declared.reported.DumpCounts.{DumpCounts}
use Rattle.live_session.specs.Outcome.{JobsOutcome, counts_of}
use Rattle.load_command.specs.LoadLine.{load_line, load_text}

-- the six pieces of a line, put one behind the other
pub six_put : (old first second third fourth fifth last a b c d e f g h i j k : List ℕ) → first ≡ old ++ a ++ b → second ≡ first ++ c ++ d → third ≡ second ++ e ++ f
    → fourth ≡ third ++ g ++ h → fifth ≡ fourth ++ i ++ j → last ≡ fifth ++ k → last ≡ old ++ ((a ++ b ++ c ++ d) ++ (e ++ f ++ g ++ h) ++ (i ++ j ++ k))
six_put old first second third fourth fifth last a b c d e f g h i j k one two three four five six = rw (six, five, four, three, two, one) (simp append_assoc refl)

-- ---- the report

-- the report of a load whose line was printed, or not
abbrev pub printed_report : Option Refusal → ℕ → ℕ → ℕ → ℕ → ℕ → Report
printed_report None before after packets routed idle = loaded None None before after packets (routed - (after - before)) idle
printed_report (Some refusal) before after packets routed idle = loaded (Some refusal) None before after 0 0 0

pub printed : (report : Report) (before after rows packets routed idle : ℕ) → after ≡ rows → report ≡ loaded None None before after packets (routed - (after - before)) idle
    → report ≡ printed_report report.refusal before rows packets routed idle
printed report before after rows packets routed idle same is =
    is ∙ ap (λ (n : ℕ). loaded None None before n packets (routed - (n - before)) idle) same
    ∙ ap (λ (o : Option Refusal). printed_report o before rows packets routed idle) (sym (ap (λ (r : Report). r.refusal) is))

pub not_printed : (report : Report) (refusal : Refusal) (before rows packets routed idle : ℕ) → report ≡ loaded (Some refusal) None before rows 0 0 0 → report ≡ printed_report report.refusal before rows packets routed idle
not_printed report refusal before rows packets routed idle is =
    is ∙ ap (λ (o : Option Refusal). printed_report o before rows packets routed idle) (sym (ap (λ (r : Report). r.refusal) is))

-- ---- the text

-- what was printed by the archive behind the fills is the text of the load
module _ (old now : Archive) (c : JobsOutcome) (database : database_in now.head.mdb now.history ≡ database_in old.head.mdb old.history) (names : names_in now.head.mdb now.history ≡ names_in old.head.mdb old.history)
    (rows : now.history ≡ c.reached) (counts : DumpCounts) (counts_are : counts ≡ counts_of c.ends) (answers : List AskAnswer) (answers_are : answers ≡ c.answers) where
  pub wrote_load : (asks : List Ask) (o : Option Refusal) (output output' : OutputState)
      → ArePrinted asks o output output' (collected_answers_text now 1 asks answers
      ++ load_line counts.packets (length now.history - length old.history) (counts.routed - (length now.history - length old.history)) counts.idle (length (rows_in now.history)))
      → ArePrinted asks o output output' (load_text old asks c)
  wrote_load asks o output output' wrote =
      let line = load_line (counts_of c.ends).packets (length c.reached - length old.history) ((counts_of c.ends).routed - (length c.reached - length old.history)) (counts_of c.ends).idle (length (rows_in c.reached)) in
      subst (λ (l : List AskAnswer). ArePrinted asks o output output' (collected_answers_text old 1 asks l ++ line)) answers_are
      (subst (λ (t : List ℕ). ArePrinted asks o output output' (t ++ line)) (same_collected_texts now old database names 1 asks answers)
      (subst (λ (n : DumpCounts). ArePrinted asks o output output' (collected_answers_text now 1 asks answers
      ++ load_line n.packets (length c.reached - length old.history) (n.routed - (length c.reached - length old.history)) n.idle (length (rows_in c.reached)))) counts_are
      (subst (λ (h : List Item). ArePrinted asks o output output' (collected_answers_text now 1 asks answers
      ++ load_line counts.packets (length h - length old.history) (counts.routed - (length h - length old.history)) counts.idle (length (rows_in h)))) rows wrote)))

  pub reports_load : (report : Report) → report ≡ printed_report report.refusal (length old.history) (length now.history) counts.packets counts.routed counts.idle
      → report ≡ printed_report report.refusal (length old.history) (length c.reached) (counts_of c.ends).packets (counts_of c.ends).routed (counts_of c.ends).idle
  reports_load report is =
      is ∙ ap (λ (h : List Item). printed_report report.refusal (length old.history) (length h) counts.packets counts.routed counts.idle) rows
      ∙ ap (λ (n : DumpCounts). printed_report report.refusal (length old.history) (length c.reached) n.packets n.routed n.idle) counts_are
