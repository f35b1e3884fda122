-- The text of a replay, printed in three parts: the first line, the lines of its rows, and the last.
use Rattle.std.proofs.Common.{◌≡◌, ◌∙◌, ℕ, List, ◌++◌, length, ap, refl, subst}
use Rattle.std.specs.Prelude.{Result, Ok, Err}
use Rattle.asks.specs.declared.ask.ReplayRequest.{ReplayRequest}
use Rattle.arch_types.specs.declared.row.Row.{Row}
use Rattle.history_items.specs.declared.items.Item.{Item}
use Rattle.history_items.specs.Databases.{names_in}
use Rattle.archive_store.specs.Head.{Head}
use Rattle.archive_store.specs.Replays.{IsReplayOpened, rows_below}
use Rattle.line_buffer.specs.Printed.{IsCutOff, IsPrinted, PrintsRows}
use Rattle.line_buffer.proofs.PrintedTexts.{rows_front, rows_then}
use Rattle.outer_traits.specs.States.{OutputState}
use Rattle.outer_traits.specs.declared.print_fault.PrintFault.{PrintFault}
use Rattle.outer_traits.specs.declared.print_fault.PrintFault.TheVariants.{Write}
use Rattle.replay_merge.specs.Cursor.{CursorView, rest_of}
use Rattle.retrieval.specs.AnswerText.{end_line, front_line}
use Rattle.retrieval.specs.ReplayText.{packet_lines, replay_lines, replay_text}
use Rattle.retrieval.proofs.Replays.{opened_is}

module _ (Told : Type 0) (head : Head) (history : List Item) (k : ℕ) (request : ReplayRequest) (c : CursorView) (is : IsReplayOpened head history request c) (held : List ℕ) where
  abbrev lines : List ℕ
  lines = packet_lines (names_in head.mdb history) request.table (rest_of c (rows_below history))

  abbrev front : List ℕ
  front = front_line k c.front

  abbrev end : List ℕ
  end = end_line (length (rest_of c (rows_below history)))

  abbrev text : List ℕ
  text = replay_text head history k request

  text_is : (front ++ lines) ++ end ≡ text
  text_is =
      ap (λ (n : ℕ). (front_line k n ++ lines) ++ end) is.front
      ∙ ap (λ (rows : List Row). replay_lines k (length history) (names_in head.mdb history) request.table rows) (opened_is head history request c is)

  -- the first line was cut off
  pub front_failed : {X : Type 0} (r : Result X PrintFault) (s0 s1 : OutputState) (left : List ℕ) → r ≡ Err Write → IsCutOff s0 s1 (held ++ front) → PrintsRows Told r s0 s1 held text left
  front_failed {X} r s0 s1 left of cut =
      subst (λ (t : List ℕ). PrintsRows Told r s0 s1 held t left) text_is
      (rows_front Told {X = X} X r Write s0 s1 held (front ++ lines) end left left of
      (rows_front Told {X = X} X (Err Write) Write s0 s1 held front lines left left refl (front, λ told. refl, cut)))

  abbrev Printed : OutputState → OutputState → List ℕ → Type 0
  Printed s0 s1 left = IsPrinted s0 s1 (held ++ front) left

  begun : (s0 s1 : OutputState) (left : List ℕ) → Printed s0 s1 left → PrintsRows {X = Unit {0}} Told (Ok tt) s0 s1 held front left
  begun s0 s1 left printed = (front, λ told. refl, printed)

  -- the lines of the rows failed
  pub rest_failed : {X : Type 0} (Y : Type 0) (r : Result X PrintFault) (e : PrintFault) (s0 s1 s2 : OutputState) (left last : List ℕ) → r ≡ Err e → Printed s0 s1 left → PrintsRows {X = Y} Told (Err e) s1 s2 left lines last
      → PrintsRows Told r s0 s2 held text last
  rest_failed {X} Y r e s0 s1 s2 left last of printed failed =
      subst (λ (t : List ℕ). PrintsRows Told r s0 s2 held t last) text_is
      (rows_front Told {X = X} Y r e s0 s2 held (front ++ lines) end last last of
      (rows_then Told {X = Y} {Y = Unit {0}} tt (Err e) s0 s1 s2 held front lines left last (begun s0 s1 left printed) failed))

  module _ (s0 s1 s2 s3 : OutputState) (left last : List ℕ) (count : ℕ) (printed : Printed s0 s1 left) (rest : PrintsRows {X = ℕ} Told (Ok count) s1 s2 left lines last)
      (counted : Told → count ≡ length (rest_of c (rows_below history))) where
    both : PrintsRows {X = ℕ} Told (Ok count) s0 s2 held (front ++ lines) last
    both = rows_then Told {X = ℕ} {Y = Unit {0}} tt (Ok count) s0 s1 s2 held front lines left last (begun s0 s1 left printed) rest

    -- the last line was cut off
    pub end_failed : {X : Type 0} (r : Result X PrintFault) (still : List ℕ) → r ≡ Err Write → IsCutOff s2 s3 (last ++ end_line count) → PrintsRows Told r s0 s3 held text still
    end_failed {X} r still of cut =
        subst (λ (t : List ℕ). PrintsRows Told r s0 s3 held t still) text_is
        (rw of (rows_then Told {X = X} {Y = ℕ} count (Err Write) s0 s2 s3 held (front ++ lines) end last still both (end_line count, λ told. ap end_line (counted told), cut)))

    -- all went on but for what is buffered
    pub all_done : {X : Type 0} (x : X) (still : List ℕ) → IsPrinted s2 s3 (last ++ end_line count) still → PrintsRows {X = X} Told (Ok x) s0 s3 held text still
    all_done {X} x still done =
        subst (λ (t : List ℕ). PrintsRows {X = X} Told (Ok x) s0 s3 held t still) text_is
        (rows_then Told {X = X} {Y = ℕ} count (Ok x) s0 s2 s3 held (front ++ lines) end last still both (end_line count, λ told. ap end_line (counted told), done))
