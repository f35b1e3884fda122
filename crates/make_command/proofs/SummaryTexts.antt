-- What is counted of an archive of made packets, how that is printed, and what is reported of it.
use Rattle.std.proofs.Common.{◌≡◌, ◌∙◌, ◌<◌, ◌⊎◌, inl, inr, pos, ℕ, List, [], ◌∷◌, ◌++◌, length, Option, Some, None, append_assoc, append-nil, codes, decimal, refl, sym, ap, subst, arith}
use Rattle.std.specs.Prelude.{Err, IsErrAnd, IsSome, Ok, Result, flat_map, slice_get, unwrap_or}
use Rattle.std.specs.Option.{option_map_or}
use Rattle.arch_disk.specs.Disk.{Device}
use Rattle.intervals.specs.declared.interval.Interval.{Interval}
use Rattle.asks.specs.declared.ask.Answer.{Answer}
use Rattle.asks.specs.declared.ask.Request.{Request}
use Rattle.asks.specs.declared.refusal.AskRefusal.TheVariants.{UnknownParameter}
use Rattle.asks.specs.Names.{parameter_number}
use Rattle.asks.specs.Refusals.{range_refusal, request_refusal}
use Rattle.refusals.specs.declared.refusal.Refusal.{Refusal}
use Rattle.refusals.specs.declared.refusal.Refusal.TheVariants.{Damaged, DiskFault, Mismatch, OutOfMemory, WriteFault}
use Rattle.refusals.specs.Refusal.{refusal_of_print}
use Rattle.outer_traits.specs.States.{OutputState}
use Rattle.outer_traits.specs.declared.print_fault.PrintFault.{PrintFault}
use Rattle.outer_traits.specs.declared.print_fault.PrintFault.TheVariants as unprinted
use Rattle.mdb_items.specs.Database.{Database}
use Rattle.history_items.specs.declared.items.Item.{Item}
use Rattle.history_items.specs.Fills.{base_in}
use Rattle.field_codec.specs.Entries.{AreTables}
use Rattle.param_segments.specs.Rows.{SetRow}
use Rattle.store_fills.specs.LastFills.{fillings_in}
use Rattle.store_fills.specs.Sound.{Fillings, base_of_filling}
use Rattle.line_buffer.specs.Printed.{IsPrinted, PrintsText}
use Rattle.line_buffer.proofs.PrintedTexts.{left_cut, left_written, printed_then}
use Rattle.archive_store.specs.Entries.{FilledArchive}
use Rattle.archive_store.specs.Finding.{IsNotFound}
use Rattle.archive_store.specs.Pages.{HasPages, TellsRows}
use Rattle.archive_store.specs.StoreView.{StoreView, filled_of}
use Rattle.archive_store.specs.UnreadRows.{IsLeftByAnswer, IsLeftByRefusal, IsReadRefusal, ReadsRows}
use Rattle.archive_store.proofs.ReadOn.{fault_after, left_after, reads_calm, reads_on}
use Rattle.archive_verify.specs.declared.verified.Sound.{Sound}
use Rattle.archive_verify.specs.Verified.{HoldCurrentFills, IsCounted, IsVerifyRefusal}
use Rattle.archive_verify.proofs.Counting.{late_by_bases}
use Rattle.archive_commands.specs.Verify.{sound_line, verify_line}
use Rattle.archive_commands.proofs.Comparing.{read_refused, refused_so}
use Rattle.retrieval.specs.FilledAnswer.{IsFilledAnswer, filled_answer}
use Rattle.command_runs.specs.Finishing.{IsFinished}
use Rattle.command_runs.specs.Reading.{AreUnread, WasRead}
use Rattle.command_runs.specs.declared.report.LoadCounts.{LoadCounts}
use Rattle.command_runs.specs.declared.report.Report.{Report}
use Rattle.live_session.specs.declared.reported.DumpCounts.{DumpCounts}
use Rattle.make_command.specs.declared.summary.CellCounts.{CellCounts}
use Rattle.script_answers.specs.Statements.{records_text}
use Rattle.make_command.specs.Summary.{cell_count, cells_line, counted_parameters, make_line, made_counts, summary_text, whole_request}
use Rattle.make_command.specs.Summing.{AreCellCounts, AreCountsOf, IsSummaryReply, IsSummedUp, count_lines, counts_behind, made_counts_of, summary_report}

-- ---- what is counted

-- what comparing counts of a store is what its archive has
pub counted_of : {D : Type 0} (store : StoreView D) (sound : Sound) → IsCounted store sound → ((i : Interval) → base_in i store.fills ≡ base_of_filling (fillings_in store.filled) i) → AreCountsOf (filled_of store) sound
counted_of store sound counted bases =
    record { rows = counted.rows; intervals = counted.intervals; late = counted.late ∙ ap (λ (l : List Interval). length l) (late_by_bases (filled_of store) store.fills bases) }

-- an answer has as many cells as the parameter has values
pub cells_counted : (db : Database) (exponent : ℕ) (history : List Item) (fillings : Fillings (List SetRow)) (name : List ℕ) (request : Request) (answer : Answer) → request ≡ whole_request name
    → IsFilledAnswer db exponent history fillings request answer → length answer.cells ≡ length (filled_answer db (unwrap_or (parameter_number db name) 0) (whole_request name) exponent history fillings)
cells_counted db exponent history fillings name request answer is answered =
    let whole = subst (λ (r : Request). IsFilledAnswer db exponent history fillings r answer) is answered in
    ap (λ l. length l) whole.cells ∙ ap (λ (o : Option ℕ). length (filled_answer db (unwrap_or o 0) (whole_request name) exponent history fillings)) (sym whole.named)

-- a parameter that the database has isn't found for want of memory alone
pub known_found : (db : Database) (name : List ℕ) (refusal : Refusal) → IsSome (parameter_number db name) → IsNotFound (request_refusal db (whole_request name)) refusal → refusal ≡ OutOfMemory
known_found db name refusal some not_found = go (parameter_number db name) some not_found
  where
    go : (o : Option ℕ) → IsSome o → IsNotFound (option_map_or (λ number. range_refusal (pos 0) (pos 253402300799999)) o (Some UnknownParameter)) refusal → refusal ≡ OutOfMemory
    go None some not_found = absurd cc
    go (Some number) some not_found = not_found

-- an archive has a first table
pub first_table : (tables : List (List ℕ)) → AreTables tables → 0 < length tables
first_table tables are = go tables are.first
  where
    go : (l : List (List ℕ)) → slice_get l 0 ≡ Some (codes "tm") → 0 < length l
    go [] first = absurd cc
    go (table ∷ l) first = omega arith

-- ---- the lines

-- the seven pieces of a line, put one behind the other
pub seven_put : (old first second third fourth fifth sixth last a b c d e f g h i j k l m : List ℕ) → old ≡ [] → first ≡ old ++ a ++ b → second ≡ first ++ c ++ d → third ≡ second ++ e ++ f
    → fourth ≡ third ++ g ++ h → fifth ≡ fourth ++ i ++ j → sixth ≡ fifth ++ k ++ l → last ≡ sixth ++ m → last ≡ (a ++ b ++ c ++ d) ++ (e ++ f ++ g ++ h) ++ (i ++ j ++ k ++ l ++ m)
seven_put old first second third fourth fifth sixth last a b c d e f g h i j k l m none one two three four five six seven =
    rw (seven, six, five, four, three, two, one, none) (simp append_assoc refl)

-- the counts of the first line are the archive's
made_line_is : (seed : ℕ) (counts : LoadCounts) (sound : Sound) (filled : FilledArchive) → AreCountsOf filled sound → make_line seed (made_counts_of counts sound) ≡ make_line seed (made_counts counts.packets counts.duplicates filled)
made_line_is seed counts sound filled are = rw (are.rows, are.intervals, are.late) refl

-- three lines by their parts
three_lines : (x y z a b c n : List ℕ) → x ++ a ++ (n ++ y) ++ b ++ (n ++ z) ++ c ++ n ≡ (x ++ a ++ n) ++ ((y ++ b ++ n) ++ ((z ++ c ++ n) ++ []))
three_lines x y z a b c n = simp (append_assoc, append-nil) refl

cells_are : (filled : FilledArchive) (cells : CellCounts) → AreCellCounts filled cells → count_lines cells ≡ flat_map (cells_line filled) counted_parameters
cells_are filled cells are =
    rw (are.apid, are.temp, are.level)
    (three_lines (codes "cells apid ") (codes "cells temp ") (codes "cells level ") (decimal (cell_count filled (codes "apid"))) (decimal (cell_count filled (codes "temp")))
    (decimal (cell_count filled (codes "level"))) (codes "\n"))

sound_line_is : (sound : Sound) (filled : FilledArchive) → AreCountsOf filled sound → sound_line sound.rows sound.intervals sound.late ≡ verify_line filled
sound_line_is sound filled are = rw (are.rows, are.intervals, are.late) refl

-- what is printed in front of the records
abbrev pub front_text : ℕ → LoadCounts → Sound → CellCounts → List ℕ
front_text seed counts sound cells = make_line seed (made_counts_of counts sound) ++ count_lines cells

-- what is printed is the summary
pub summary_is : (seed : ℕ) (counts : LoadCounts) (sound : Sound) (cells : CellCounts) (filled : FilledArchive) → IsSummedUp filled sound cells
    → (front_text seed counts sound cells ++ records_text filled.plain 0) ++ sound_line sound.rows sound.intervals sound.late ≡ summary_text seed counts.packets counts.duplicates filled
summary_is seed counts sound cells filled is =
    let records = records_text filled.plain 0 in
    let end = sound_line sound.rows sound.intervals sound.late in
    let line = make_line seed (made_counts counts.packets counts.duplicates filled) in
    ap (λ (t : List ℕ). ((t ++ count_lines cells) ++ records) ++ end) (made_line_is seed counts sound filled is.counts)
    ∙ ap (λ (t : List ℕ). ((line ++ t) ++ records) ++ end) (cells_are filled cells is.values)
    ∙ ap (λ (t : List ℕ). ((line ++ flat_map (cells_line filled) counted_parameters) ++ records) ++ t) (sound_line_is sound filled is.counts)

-- one text was printed, and printing another failed
pub printed_then_failed : (e : PrintFault) (first now new : OutputState) (text more left last : List ℕ) → IsPrinted first now text left → PrintsText {X = Unit {0}} (Err e) now new (left ++ more) last
    → PrintsText {X = Unit {0}} (Err e) first new (text ++ more) last
printed_then_failed e = printed_then {X = Unit {0}} (Err e)

-- ---- the reply

module _ {D : Type 0} (device : Device D) (store : StoreView D) (told : TellsRows device store) (seed : ℕ) (counts : LoadCounts) where
  abbrev NotSummed : Refusal → OutputState → Type 0
  NotSummed refusal output = IsSummaryReply (HasPages store) seed counts (filled_of store) (Some refusal) output output

  -- rows weren't read
  pub unread_so : (refusal : Refusal) (output : OutputState) → (refusal ≡ OutOfMemory) ⊎ AreUnread device store refusal → NotSummed refusal output
  unread_so refusal output (inl memory) = subst (λ (r : Refusal). NotSummed r output) (sym memory) (inl refl)
  unread_so DiskFault output (inr paged) = (paged, refl)
  unread_so (Damaged file at) output (inr unread) = absurd (unread.1 told)
  unread_so other output (inr none) = absurd none

  -- comparing was refused
  pub unsummed : (new : StoreView D) (refusal : Refusal) (output : OutputState) → IsVerifyRefusal device store new refusal → NotSummed refusal output
  unsummed new (Mismatch i n k s r) output (inl reported) = (reported.1 told, refl)
  unsummed new other output (inl reported) = absurd reported.0
  unsummed new refusal output (inr is) = unread_so refusal output (refused_so device store new refusal is)

module _ (OnPages : Type 0) (seed : ℕ) (counts : LoadCounts) (filled : FilledArchive) where
  abbrev text : List ℕ
  text = summary_text seed counts.packets counts.duplicates filled

  abbrev Reply : Option Refusal → OutputState → OutputState → Type 0
  Reply = IsSummaryReply OnPages seed counts filled

  -- nothing was found, and the lines were printed but for what is left, and then that, or not to its end
  pub summed_to_end : (refusal : Option Refusal) (first now new : OutputState) (left : List ℕ) → HoldCurrentFills filled → IsPrinted first now text left → IsFinished refusal now new left → Reply refusal first new
  summed_to_end None first now new left compared printed done = (compared, left_written first now new text left printed done)
  summed_to_end (Some WriteFault) first now new left compared printed done = (compared, left_cut first now new text left printed done)
  summed_to_end (Some other) first now new left compared printed done = absurd done

  -- or they weren't printed to their end
  pub summed_part : (fault : PrintFault) (first new : OutputState) (left : List ℕ) → HoldCurrentFills filled → PrintsText {X = Unit {0}} (Err fault) first new text left → Reply (Some (refusal_of_print fault)) first new
  summed_part unprinted.Write first new left compared printed = (compared, printed)
  summed_part unprinted.DiskFault first new left compared printed = absurd printed
  summed_part (unprinted.Damaged file at) first new left compared printed = absurd printed
  summed_part unprinted.OutOfMemory first new left compared printed = inr (compared, printed)

-- ---- what was read for it

-- lines that are in memory were printed, or not to their end
pub lines_read : {D : Type 0} (device : Device D) (old new : StoreView D) (fault : PrintFault) (first last : OutputState) (shown left : List ℕ) → ReadsRows device old new → PrintsText {X = Unit {0}} (Err fault) first last shown left
    → WasRead device old new (Some (refusal_of_print fault))
lines_read device old new unprinted.Write first last shown left reads printed = record { same = reads_on device old new reads; failed = reads_calm device old new reads }
lines_read device old new unprinted.DiskFault first last shown left reads printed = absurd printed
lines_read device old new (unprinted.Damaged file at) first last shown left reads printed = absurd printed
lines_read device old new unprinted.OutOfMemory first last shown left reads printed = record { same = reads_on device old new reads; failed = reads_calm device old new reads }

-- what is left where rows aren't read, of the refusal that is handed on
pub left_handed : {D X : Type 0} (device : Device D) (old new : StoreView D) (r : Result X Refusal) (refusal : Refusal) → IsErrAnd r (λ e. e ≡ refusal) → IsLeftByRefusal device old new refusal → IsLeftByAnswer device old new r
left_handed device old new (Ok x) refusal is left = absurd is
left_handed device old new (Err e) refusal is left = subst (IsLeftByRefusal device old new) (sym is) left

-- behind rows that were read, others weren't
module _ {D : Type 0} (device : Device D) (old mid new : StoreView D) (reads : ReadsRows device old mid) (refusal : Refusal) where
  pub refused_behind : IsReadRefusal device mid new refusal → IsReadRefusal device old new refusal
  refused_behind (fault, is, of) = (fault, fault_after device old mid new reads fault is, of)

  pub unread_behind : IsReadRefusal device mid new refusal → IsLeftByRefusal device mid new refusal → WasRead device old new (Some refusal)
  unread_behind is left = read_refused device old new refusal (refused_behind is) (left_after device old mid new reads refusal left)

-- ---- what is reported

refusal_is : (refusal : Option Refusal) (rows : ℕ) (counts : LoadCounts) → (summary_report refusal rows counts).refusal ≡ refusal
refusal_is None rows counts = refl
refusal_is (Some refusal) rows counts = refl

-- by how many rows came
module _ {D : Type 0} (device : Device D) (old new : StoreView D) (seed : ℕ) (dumps : DumpCounts) (rows front : ℕ) (same : front ≡ rows) (refusal : Option Refusal) (report : Report) (before after : OutputState)
    (is : report ≡ summary_report refusal front (counts_behind dumps front)) where
  abbrev Summed : ℕ → Option Refusal → Type 0
  Summed n o = TellsRows device old → IsSummaryReply (HasPages old) seed (counts_behind dumps n) (filled_of old) o before after

  reported : report ≡ summary_report refusal rows (counts_behind dumps rows)
  reported = subst (λ (n : ℕ). report ≡ summary_report refusal n (counts_behind dumps n)) same is

  one : refusal ≡ report.refusal
  one = sym (ap (λ (r : Report). r.refusal) reported ∙ refusal_is refusal rows (counts_behind dumps rows))

  pub summed_up : Summed front refusal → Summed rows report.refusal
  summed_up reply told =
      subst (λ (o : Option Refusal). IsSummaryReply (HasPages old) seed (counts_behind dumps rows) (filled_of old) o before after) one
      (subst (λ (n : ℕ). IsSummaryReply (HasPages old) seed (counts_behind dumps n) (filled_of old) refusal before after) same (reply told))

  pub reported_up : report ≡ summary_report report.refusal rows (counts_behind dumps rows)
  reported_up = subst (λ (o : Option Refusal). report ≡ summary_report o rows (counts_behind dumps rows)) one reported

  pub read_up : WasRead device old new refusal → WasRead device old new report.refusal
  read_up = subst (WasRead device old new) one
