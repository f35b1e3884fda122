-- Statements that are answered one behind the other, over a store that is only read.
use Rattle.std.proofs.Common.{◌≡◌, ℕ, ◌+◌, ◌<◌, List, [], length, get_or, take, drop, refl, ap, ◌∙◌, subst}
use Rattle.std.specs.Prelude.{flat_map, Result, Ok, Err}
use Rattle.arch_disk.specs.Disk.{Device, NoFault}
use Rattle.arch_types.specs.declared.row_fault.RowFault.TheVariants as unread
use Rattle.outer_traits.specs.States.{OutputState}
use Rattle.outer_traits.specs.declared.print_fault.PrintFault.{PrintFault}
use Rattle.outer_traits.specs.declared.print_fault.PrintFault.TheVariants as unprinted
use Rattle.archive_store.specs.Pages.{TellsRows}
use Rattle.archive_store.specs.PrintFaults.{IsPrintFault}
use Rattle.archive_store.specs.StoreView.{StoreView, archive_of}
use Rattle.archive_store.specs.UnreadRows.{IsReadOn}
use Rattle.archive_store.proofs.ReadOn.{source_fault_after, told_after}
use Rattle.line_buffer.specs.Printed.{PrintsRows}
use Rattle.line_buffer.proofs.PrintedTexts.{rows_front, rows_then}
use Rattle.ssql_select.proofs.Printings.{lines_left, lines_next}

-- a store that was read is told where it was, and stands for the same archive
module _ {D : Type 0} (device : Device D) (old new : StoreView D) (on : IsReadOn device old new) where
  pub same_archive : archive_of new ≡ archive_of old
  same_archive = ap archive_of on.same

  pub printed_later : {X : Type 0} (r : Result X PrintFault) (first last : OutputState) (buffered text left : List ℕ) → PrintsRows (TellsRows device new) r first last buffered text left → PrintsRows (TellsRows device old) r first last buffered text left
  printed_later r first last buffered text left (printed, told, is) = (printed, λ tells. told (told_after device old new on tells), is)

  pub print_fault_after : NoFault device old.disk new.disk → (behind : StoreView D) (fault : PrintFault) → IsPrintFault device new behind fault → IsPrintFault device old behind fault
  print_fault_after calm behind unprinted.Write is = is ∙ calm
  print_fault_after calm behind unprinted.DiskFault is = source_fault_after device old new behind on calm unread.DiskFault is
  print_fault_after calm behind (unprinted.Damaged file at) is = source_fault_after device old new behind on calm (unread.Damaged file at) is
  print_fault_after calm behind unprinted.OutOfMemory is = is ∙ calm

module _ {A : Type 0} (AreTold : Type 0) (line : A → List ℕ) (rows : List A) (i : ℕ) (row : A) (within : i < length rows) (is_row : row ≡ get_or rows i row) (first now new : OutputState) (buffered left last : List ℕ) where
  -- one answer more
  pub answers_then : {X Y : Type 0} (y : Y) (r : Result X PrintFault) → PrintsRows {X = Y} AreTold (Ok y) first now buffered (flat_map line (take i rows)) left → PrintsRows AreTold r now new left (line row) last
      → PrintsRows AreTold r first new buffered (flat_map line (take (i + 1) rows)) last
  answers_then y r before is =
      subst (λ (l : List ℕ). PrintsRows AreTold r first new buffered l last) (lines_next line [] rows i row within is_row (line row) refl)
      (rows_then AreTold y r first now new buffered (flat_map line (take i rows)) (line row) left last before is)

  -- one that failed
  pub answers_fail : {X Y : Type 0} (Z : Type 0) (y : Y) (r : Result X PrintFault) (e : PrintFault) → r ≡ Err e → PrintsRows {X = Y} AreTold (Ok y) first now buffered (flat_map line (take i rows)) left
      → PrintsRows {X = Z} AreTold (Err e) now new left (line row) last → PrintsRows AreTold r first new buffered (flat_map line rows) last
  answers_fail {X} {Y} Z y r e of before is =
      subst (λ (l : List ℕ). PrintsRows AreTold r first new buffered l last) (lines_left line [] rows (i + 1))
      (rows_front AreTold Z r e first new buffered (flat_map line (take (i + 1) rows)) (flat_map line (drop (i + 1) rows)) last last of (answers_then {X = Z} {Y = Y} y (Err e) before is))
