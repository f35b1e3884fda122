-- Texts that are printed one behind the other.
use Rattle.std.proofs.Common.{ℕ, List, [], ◌++◌, ◌∙◌, ◌≡◌, append-nil, append_assoc, ap, arith, refl, subst, sym}
use Rattle.std.specs.Prelude.{Result, Ok, Err}
use Rattle.outer_traits.specs.Outside.{WritesSome}
use Rattle.outer_traits.specs.States.{OutputState}
use Rattle.outer_traits.specs.declared.fault.Failed.{Failed}
use Rattle.outer_traits.specs.declared.print_fault.PrintFault.{PrintFault}
use Rattle.outer_traits.specs.declared.print_fault.PrintFault.TheVariants.{Write, DiskFault, Damaged, OutOfMemory}
use Rattle.line_buffer.specs.LineRoom.{HasLineRoom}
use Rattle.line_buffer.specs.Printed.{BuffersText, IsCutOff, IsPartPrinted, IsPrinted, IsWritten, PrintsRead, PrintsRows, PrintsText, WritesText}
use Rattle.line_buffer.proofs.LineBuffers.{buffered_all, buffered_end, buffered_front, buffered_none, buffered_then, buffered_then_some, wrote_front, wrote_none, wrote_then}

-- nothing was printed yet
pub nothing_printed : (first : OutputState) (text : List ℕ) → HasLineRoom text → IsPrinted first first text text
nothing_printed first text small = record { buffered = buffered_none first.written text; room = small; no_fault = refl }

-- ---- a text, and then another

pub printed_on : (first now new : OutputState) (text more left last : List ℕ) → IsPrinted first now text left → IsPrinted now new (left ++ more) last → IsPrinted first new (text ++ more) last
printed_on first now new text more left last is printed = record {
  buffered = buffered_then first.written now.written new.written text left more last is.buffered printed.buffered;
  room = printed.room;
  no_fault = printed.no_fault ∙ is.no_fault;
}

pub printed_cut : (first now new : OutputState) (text more left : List ℕ) → IsPrinted first now text left → IsCutOff now new (left ++ more) → IsCutOff first new (text ++ more)
printed_cut first now new text more left is cut = record {
  some = buffered_then_some first.written now.written new.written text left more is.buffered cut.some;
  later = let same = is.no_fault in let later = cut.later in omega (arith, same, later);
  failed = λ small. let same = is.no_fault in let risen = cut.failed small in omega (arith, same, risen);
}

pub printed_then : {X : Type 0} (r : Result X PrintFault) (first now new : OutputState) (text more left last : List ℕ) → IsPrinted first now text left → PrintsText r now new (left ++ more) last → PrintsText r first new (text ++ more) last
printed_then (Ok x) first now new text more left last is printed = printed_on first now new text more left last is printed
printed_then (Err Write) first now new text more left last is printed = printed_cut first now new text more left is printed
printed_then (Err DiskFault) first now new text more left last is printed = printed
printed_then (Err (Damaged file at)) first now new text more left last is printed = printed
printed_then (Err OutOfMemory) first now new text more left last is printed = record {
  some = buffered_then_some first.written now.written new.written text left more is.buffered printed.some;
  no_fault = printed.no_fault ∙ is.no_fault;
}

pub buffers_then : {X : Type 0} (r : Result X Failed) (first now new : OutputState) (text more left last : List ℕ) → IsPrinted first now text left → BuffersText r now new (left ++ more) last → BuffersText r first new (text ++ more) last
buffers_then (Ok x) first now new text more left last is printed = printed_on first now new text more left last is printed
buffers_then (Err e) first now new text more left last is cut = printed_cut first now new text more left is cut

-- and then all of it is written
pub all_then : (first now new : OutputState) (text more left : List ℕ) → IsPrinted first now text left → IsWritten now new (left ++ more) → IsWritten first new (text ++ more)
all_then first now new text more left is written = record {
  all = buffered_end first.written now.written new.written text left more is.buffered written.all;
  no_fault = written.no_fault ∙ is.no_fault;
}

pub writes_then : {X : Type 0} (r : Result X Failed) (first now new : OutputState) (text more left : List ℕ) → IsPrinted first now text left → WritesText r now new (left ++ more) → WritesText r first new (text ++ more)
writes_then (Ok x) first now new text more left is written = all_then first now new text more left is written
writes_then (Err e) first now new text more left is cut = printed_cut first now new text more left is cut

-- nothing is left of what was written
pub none_left : (first now : OutputState) (text : List ℕ) → IsWritten first now text → IsPrinted first now text []
none_left first now text written = record { buffered = (text, sym (append-nil text), written.all); room = omega arith; no_fault = written.no_fault }

-- what was left was written,
pub left_written : (first now new : OutputState) (text left : List ℕ) → IsPrinted first now text left → IsWritten now new left → IsWritten first new text
left_written first now new text left is written = record {
  all = buffered_all first.written now.written new.written text left is.buffered written.all;
  no_fault = written.no_fault ∙ is.no_fault;
}

-- or cut off
pub left_cut : (first now new : OutputState) (text left : List ℕ) → IsPrinted first now text left → IsCutOff now new left → IsCutOff first new text
left_cut first now new text left is cut = record {
  some = subst (WritesSome first.written new.written) (sym is.buffered.1) (wrote_then first.written now.written new.written is.buffered.0 left is.buffered.2 cut.some);
  later = let same = is.no_fault in let later = cut.later in omega (arith, same, later);
  failed = λ small. let same = is.no_fault in let risen = cut.failed small in omega (arith, same, risen);
}

-- where nothing is left all of it was written
pub all_went : (first now : OutputState) (text : List ℕ) → IsPrinted first now text [] → IsWritten first now text
all_went first now text is = left_written first now now text [] is (record { all = wrote_none now.written; no_fault = refl })

-- ---- the first text failed, and another was to come

pub cut_front : (first new : OutputState) (text more : List ℕ) → IsCutOff first new text → IsCutOff first new (text ++ more)
cut_front first new text more cut = record { some = wrote_front first.written new.written text more cut.some; later = cut.later; failed = cut.failed }

pub part_front : (first new : OutputState) (text more : List ℕ) → IsPartPrinted first new text → IsPartPrinted first new (text ++ more)
part_front first new text more part = record { some = wrote_front first.written new.written text more part.some; no_fault = part.no_fault }

pub failed_front : {X : Type 0} (Y : Type 0) (r : Result X PrintFault) (e : PrintFault) (first new : OutputState) (text more left last : List ℕ) → r ≡ Err e → PrintsText {X = Y} (Err e) first new text left → PrintsText r first new (text ++ more) last
failed_front Y r Write first new text more left last is printed = rw is (cut_front first new text more printed)
failed_front Y r DiskFault first new text more left last is printed = absurd printed
failed_front Y r (Damaged file at) first new text more left last is printed = absurd printed
failed_front Y r OutOfMemory first new text more left last is printed = rw is (part_front first new text more printed)

-- nothing more is printed, for want of memory
pub part_printed : (first now : OutputState) (text more left : List ℕ) → IsPrinted first now text left → IsPartPrinted first now (text ++ more)
part_printed first now text more left is = record {
  some = wrote_front first.written now.written text more (buffered_front first.written now.written text left is.buffered);
  no_fault = is.no_fault;
}

-- ---- a text whose rows are read of a disk

-- one whose rows are in memory is one
pub reads_text : {X : Type 0} (r : Result X PrintFault) (first new : OutputState) (text left : List ℕ) → PrintsText r first new text left → PrintsRead r first new text left
reads_text (Ok x) first new text left printed = printed
reads_text (Err Write) first new text left printed = printed
reads_text (Err DiskFault) first new text left printed = absurd printed
reads_text (Err (Damaged file at)) first new text left printed = absurd printed
reads_text (Err OutOfMemory) first new text left printed = printed

part_then : (first now new : OutputState) (text more left : List ℕ) → IsPrinted first now text left → IsPartPrinted now new (left ++ more) → IsPartPrinted first new (text ++ more)
part_then first now new text more left is part = record {
  some = buffered_then_some first.written now.written new.written text left more is.buffered part.some;
  no_fault = part.no_fault ∙ is.no_fault;
}

pub read_then : {X : Type 0} (r : Result X PrintFault) (first now new : OutputState) (text more left last : List ℕ) → IsPrinted first now text left → PrintsRead r now new (left ++ more) last → PrintsRead r first new (text ++ more) last
read_then (Ok x) first now new text more left last is printed = printed_on first now new text more left last is printed
read_then (Err Write) first now new text more left last is printed = printed_cut first now new text more left is printed
read_then (Err DiskFault) first now new text more left last is printed = part_then first now new text more left is printed
read_then (Err (Damaged file at)) first now new text more left last is printed = part_then first now new text more left is printed
read_then (Err OutOfMemory) first now new text more left last is printed = part_then first now new text more left is printed

read_front : (X Y : Type 0) (e : PrintFault) (first new : OutputState) (text more left last : List ℕ) → PrintsRead {X = Y} (Err e) first new text left → PrintsRead {X = X} (Err e) first new (text ++ more) last
read_front X Y Write first new text more left last printed = cut_front first new text more printed
read_front X Y DiskFault first new text more left last printed = part_front first new text more printed
read_front X Y (Damaged file at) first new text more left last printed = part_front first new text more printed
read_front X Y OutOfMemory first new text more left last printed = part_front first new text more printed

module _ (AreTold : Type 0) where
  -- a text was printed, which is this one where the rows are told
  pub rows_printed : {X : Type 0} (r : Result X PrintFault) (first new : OutputState) (buffered printed text left : List ℕ) → (AreTold → printed ≡ text) → PrintsText r first new (buffered ++ printed) left → PrintsRows AreTold r first new buffered text left
  rows_printed r first new buffered printed text left told is = (printed, told, reads_text r first new (buffered ++ printed) left is)

  -- nothing was printed, since rows aren't read
  pub rows_unread : {X : Type 0} (r : Result X PrintFault) (first : OutputState) (buffered text left : List ℕ) → PrintsRead r first first (buffered ++ text) left → PrintsRows AreTold r first first buffered text left
  rows_unread r first buffered text left is = (text, λ told. refl, is)

  -- a text, and then another
  pub rows_then : {X Y : Type 0} (y : Y) (r : Result X PrintFault) (first now new : OutputState) (buffered text more left last : List ℕ) → PrintsRows {X = Y} AreTold (Ok y) first now buffered text left → PrintsRows AreTold r now new left more last → PrintsRows AreTold r first new buffered (text ++ more) last
  rows_then y r first now new buffered text more left last (printed, told, is) (behind, also, goes) = (
    printed ++ behind,
    λ tells. ap (λ (l : List ℕ). l ++ behind) (told tells) ∙ ap (λ (l : List ℕ). text ++ l) (also tells),
    subst (λ (l : List ℕ). PrintsRead r first new l last) (append_assoc buffered printed behind) (read_then r first now new (buffered ++ printed) behind left last is goes),
  )

  -- the first text failed, and another was to come
  pub rows_front : {X : Type 0} (Y : Type 0) (r : Result X PrintFault) (e : PrintFault) (first new : OutputState) (buffered text more left last : List ℕ) → r ≡ Err e → PrintsRows {X = Y} AreTold (Err e) first new buffered text left → PrintsRows AreTold r first new buffered (text ++ more) last
  rows_front {X} Y r e first new buffered text more left last of (printed, told, is) = rw of (
    printed ++ more,
    λ tells. ap (λ (l : List ℕ). l ++ more) (told tells),
    subst (λ (l : List ℕ). PrintsRead {X = X} (Err e) first new l last) (append_assoc buffered printed more) (read_front X Y e first new (buffered ++ printed) more left last is),
  )
