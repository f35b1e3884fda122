-- Texts that are printed one behind the other.
use Rattle.std.proofs.Common.{◌≡◌, ℕ, suc, ◌+◌, ◌<◌, ◌≤◌, List, [], ◌∷◌, ◌++◌, length, get_or, take, drop, sym, ap, ◌∙◌, append-nil, append_assoc, subst, arith}
use Rattle.std.specs.Prelude.{flat_map, Result, Ok, Err}
use Rattle.std.proofs.Math.Seq.{take-suc}
use Rattle.std.proofs.lemmas.Grind.{flat_map-append}
use Rattle.std.proofs.lemmas.List.{take_all, take-append-drop}
use Rattle.partitions.proofs.Parted.{default_free}
use Rattle.outer_traits.specs.Outside.{HasRisen, Stays, WritesSome}
use Rattle.outer_traits.specs.States.{OutputState}
use Rattle.line_buffer.specs.Output.{Appends}
use Rattle.outer_traits.specs.declared.print_fault.PrintFault.{PrintFault}
use Rattle.line_buffer.proofs.LineBuffers.{wrote_both, wrote_then}
use Rattle.line_buffer.proofs.PrintedTexts.{failed_front, part_printed, printed_then}
use Rattle.line_buffer.specs.Printed.{IsPrinted, IsCutOff, IsPartPrinted, PrintsText}

-- ---- what is buffered, and then octets without the buffer

module _ (first now new : OutputState) (old octets : List ℕ) (flushed : Appends first.written now.written old) (no_fault : Stays first.faults now.faults) where
  pub all_written : Appends now.written new.written octets → Stays now.faults new.faults → IsPrinted first new (old ++ octets) []
  all_written wrote stays = record {
    buffered = (old ++ octets, sym (append-nil (old ++ octets)), wrote_both first.written now.written new.written old octets flushed wrote);
    room = omega arith;
    no_fault = stays ∙ no_fault;
  }

  pub some_written : WritesSome now.written new.written octets → now.faults ≤ new.faults → HasRisen now.faults new.faults → IsCutOff first new (old ++ octets)
  some_written wrote later risen = record {
    some = wrote_then first.written now.written new.written old octets flushed wrote;
    later = omega (arith, no_fault, later);
    failed = λ small. let more = risen small in omega (arith, no_fault, more);
  }

-- ---- lines

module _ {A : Type 0} (line : A → List ℕ) (front : List ℕ) (rows : List A) (i : ℕ) where
  pub lines_left : (front ++ flat_map line (take i rows)) ++ flat_map line (drop i rows) ≡ front ++ flat_map line rows
  lines_left =
      append_assoc front (flat_map line (take i rows)) (flat_map line (drop i rows))
      ∙ ap (λ (l : List ℕ). front ++ l) (sym (flat_map-append line (take i rows) (drop i rows)) ∙ ap (flat_map line) (take-append-drop i rows))

  -- there was no memory for a line
  pub lines_part_printed : (first now : OutputState) (left : List ℕ) → IsPrinted first now (front ++ flat_map line (take i rows)) left → IsPartPrinted first now (front ++ flat_map line rows)
  lines_part_printed first now left is =
      subst (IsPartPrinted first now) lines_left (part_printed first now (front ++ flat_map line (take i rows)) (flat_map line (drop i rows)) left is)

  pub lines_done : (first now : OutputState) (left : List ℕ) → length rows ≤ i → IsPrinted first now (front ++ flat_map line (take i rows)) left → IsPrinted first now (front ++ flat_map line rows) left
  lines_done first now left le is = subst (λ (l : List A). IsPrinted first now (front ++ flat_map line l) left) (take_all i rows le) is

module _ {A : Type 0} (line : A → List ℕ) (front : List ℕ) (rows : List A) (i : ℕ) (row : A) (within : i < length rows) (is_row : row ≡ get_or rows i row) (octets : List ℕ) (are : octets ≡ line row) where
  pub lines_next : (front ++ flat_map line (take i rows)) ++ octets ≡ front ++ flat_map line (take (i + 1) rows)
  lines_next =
      let next : i + 1 ≡ suc i = omega arith in
      append_assoc front (flat_map line (take i rows)) octets
      ∙ ap (λ (l : List ℕ). front ++ (flat_map line (take i rows) ++ l)) (are ∙ sym (append-nil (line row)))
      ∙ ap (λ (l : List ℕ). front ++ l) (sym (flat_map-append line (take i rows) (row ∷ []))
      ∙ ap (λ (y : A). flat_map line (take i rows ++ y ∷ [])) is_row ∙ ap (flat_map line) (sym (take-suc rows i row within)) ∙ ap (λ (n : ℕ). flat_map line (take n rows)) (sym next))

  -- one line more
  pub line_printed : (first now new : OutputState) (left last : List ℕ) → IsPrinted first now (front ++ flat_map line (take i rows)) left → IsPrinted now new (left ++ octets) last → IsPrinted first new (front ++ flat_map line (take (i + 1) rows)) last
  line_printed first now new left last is more =
      let r : Result A PrintFault = Ok row in
      subst (λ (l : List ℕ). IsPrinted first new l last) lines_next (printed_then r first now new (front ++ flat_map line (take i rows)) octets left last is more)

  -- a line failed
  pub line_failed : {X : Type 0} (r : Result X PrintFault) (e : PrintFault) (first now new : OutputState) (left last : List ℕ) → r ≡ Err e → IsPrinted first now (front ++ flat_map line (take i rows)) left →
      PrintsText {X = X} (Err e) now new (left ++ octets) last → PrintsText r first new (front ++ flat_map line rows) last
  line_failed {X} r e first now new left last is_err is more =
      let whole = lines_left line front rows (i + 1) in
      subst (λ (l : List ℕ). PrintsText r first new l last) (ap (λ (l : List ℕ). l ++ flat_map line (drop (i + 1) rows)) lines_next ∙ whole)
      (failed_front {X = X} X r e first new ((front ++ flat_map line (take i rows)) ++ octets) (flat_map line (drop (i + 1) rows)) last last is_err
      (printed_then {X = X} (Err e) first now new (front ++ flat_map line (take i rows)) octets left last is more))

-- what was put into a line that was cleared
pub only_added : (octets put cleared added : List ℕ) → octets ≡ put → put ≡ cleared ++ added → cleared ≡ [] → octets ≡ added
only_added octets put cleared added same is none = same ∙ is ∙ ap (λ (l : List ℕ). l ++ added) none

module _ {A : Type 0} (line : A → List ℕ) (front : List ℕ) (rows : List A) (i : ℕ) (d : A) (within : i < length rows) (octets : List ℕ) (are : octets ≡ line (get_or rows i d)) where
  -- one line more, by its place
  pub next_printed : (first now new : OutputState) (left last : List ℕ) → IsPrinted first now (front ++ flat_map line (take i rows)) left → IsPrinted now new (left ++ octets) last → IsPrinted first new (front ++ flat_map line (take (i + 1) rows)) last
  next_printed = line_printed line front rows i (get_or rows i d) within (default_free rows i d (get_or rows i d) within) octets are

  -- it failed
  pub next_failed : {X : Type 0} (r : Result X PrintFault) (e : PrintFault) (first now new : OutputState) (left last : List ℕ) → r ≡ Err e → IsPrinted first now (front ++ flat_map line (take i rows)) left →
      PrintsText {X = X} (Err e) now new (left ++ octets) last → PrintsText r first new (front ++ flat_map line rows) last
  next_failed {X} r e first now new left last = line_failed line front rows i (get_or rows i d) within (default_free rows i d (get_or rows i d) within) octets are {X = X} r e first now new left last

-- ---- lines, and then the last one

pub all_printed : {X : Type 0} (r : Result X PrintFault) (first now new : OutputState) (front lines end left last : List ℕ) → IsPrinted first now (front ++ lines) left → PrintsText r now new (left ++ end) last → PrintsText r first new (front ++ (lines ++ end)) last
all_printed r first now new front lines end left last is more =
    subst (λ (l : List ℕ). PrintsText r first new l last) (append_assoc front lines end) (printed_then r first now new (front ++ lines) end left last is more)

pub lines_failed : {X : Type 0} (r : Result X PrintFault) (e : PrintFault) (first new : OutputState) (front lines end left last : List ℕ) → r ≡ Err e → PrintsText {X = X} (Err e) first new (front ++ lines) left → PrintsText r first new (front ++ (lines ++ end)) last
lines_failed {X} r e first new front lines end left last is printed =
    subst (λ (l : List ℕ). PrintsText r first new l last) (append_assoc front lines end) (failed_front {X = X} X r e first new (front ++ lines) end left last is printed)
