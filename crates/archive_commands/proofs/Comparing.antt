-- How the plan of `verify` goes.
use Rattle.std.proofs.Common.{◌≡◌, ◌∙◌, ◌⊎◌, inl, inr, ℕ, Bool, true, false, List, length, Option, Some, None, refl, sym, ap, subst, ◌++◌, append_assoc}
use Rattle.std.specs.Prelude.{IsNone, IsTrue, map, slice_get}
use Rattle.arch_disk.specs.Disk.{Device}
use Rattle.arch_types.specs.declared.row_fault.RowFault.{RowFault}
use Rattle.arch_types.specs.declared.row_fault.RowFault.TheVariants as unread
use Rattle.refusals.specs.declared.refusal.Refusal.{Refusal}
use Rattle.refusals.specs.declared.refusal.Refusal.TheVariants.{DiskFault, Mismatch, OutOfMemory, WriteFault}
use Rattle.refusals.specs.Refusal.{refusal_of_rows}
use Rattle.intervals.specs.declared.interval.Interval.{Interval}
use Rattle.outer_traits.specs.States.{OutputState}
use Rattle.history_items.specs.Fills.{base_in}
use Rattle.store_fills.specs.LastFills.{fillings_in}
use Rattle.store_fills.specs.Sound.{base_of_filling}
use Rattle.archive_store.specs.Entries.{FilledArchive}
use Rattle.archive_store.specs.Pages.{TellsRows}
use Rattle.archive_store.specs.Replays.{source_state}
use Rattle.archive_store.specs.StoreView.{StoreView, filled_of}
use Rattle.archive_store.specs.UnreadRows.{IsLeftByRefusal, IsReadFault, IsReadRefusal, ReadsRows}
use Rattle.archive_store.proofs.ReadOn.{left_on, reads_calm, reads_on, told_is}
use Rattle.archive_verify.specs.declared.compared_sets.SetDifference.{SetDifference}
use Rattle.archive_verify.specs.declared.verified.Sound.{Sound}
use Rattle.archive_verify.specs.Verified.{IsCounted, IsMismatch, IsVerifyRefusal, ReportsMismatch, database_of_archive}
use Rattle.archive_verify.proofs.Counting.{late_by_bases}
use Rattle.archive_verify.proofs.Currents.{mismatch_unsound, one_mismatch}
use Rattle.command_plans.specs.Ledger.{RoseIf}
use Rattle.command_plans.specs.Plan.{EachEnd, IsDetermined}
use Rattle.command_plans.proofs.Plans.{determined, each_end}
use Rattle.command_runs.specs.Checking.{IsCheckRefusal, IsCheckReply, checking_plan}
use Rattle.command_runs.specs.Command.{Effects, HasDiskOutcome, Opened, Ran, archive_opened, opening_plan}
use Rattle.command_runs.specs.Finishing.{IsFinished}
use Rattle.command_runs.specs.Reading.{AreUnread, OnPages, WasRead, is_disk_fault}
use Rattle.command_runs.specs.Report.{read_only}
use Rattle.archive_commands.specs.Verify.{IsCompareReply, IsCompared, compare_plan, sound_line, verify_line, verify_plan}
use Rattle.command_runs.proofs.Checking.{check_determined, check_reads, ran_checked}
use Rattle.command_runs.proofs.Commands.{no_text}
use Rattle.command_runs.proofs.Openings.{opening_reads, opens_determined}
use Rattle.command_runs.proofs.OverInputs.{HasRead}
use Rattle.command_runs.proofs.Reading.{ran_over, ran_unread, reading_determined, reading_reads, tells_so}

-- ---- what comparing finds is one

same_name : (a b : List ℕ) → ◌≡◌ {A = Option (List ℕ)} (Some a) (Some b) → a ≡ b
same_name a b e = cc

module _ (AreTold : Type 0) (told : AreTold) (filled : FilledArchive) where
  one_named : (a b : Refusal) → IsCompared AreTold filled (Some a) → IsCompared AreTold filled (Some b) → a ≡ b
  one_named (Mismatch i n k s r) (Mismatch j m l t q) found others =
      let is = found told in
      let other = others told in
      let both = one_mismatch filled i j (record { parameter = is.parameter; cells = record { key = k; stored = s; replayed = r } }) (record { parameter = other.parameter; cells = record { key = l; stored = t; replayed = q } }) is.first other.first in
      let number : is.parameter ≡ other.parameter = ap (λ (d : SetDifference). d.parameter) both.1 in
      let name : n ≡ m = same_name n m (sym is.named ∙ ap (slice_get (map (λ p. p.name) (database_of_archive filled).parameters)) number ∙ other.named) in
      λ h. Mismatch (both.0 h) (name h) (both.1 h).cells.key (both.1 h).cells.stored (both.1 h).cells.replayed
  one_named (Mismatch i n k s r) b is none = absurd none
  one_named a b none is = absurd none

  pub compared_once : (a b : Option Refusal) → IsCompared AreTold filled a → IsCompared AreTold filled b → a ≡ b
  compared_once None None is other = refl
  compared_once None (Some (Mismatch i n k s r)) is other = absurd (mismatch_unsound filled i _ (other told).first (is told))
  compared_once None (Some b) is none = absurd none
  compared_once (Some (Mismatch i n k s r)) None is other = absurd (mismatch_unsound filled i _ (is told).first (other told))
  compared_once (Some a) None none other = absurd none
  compared_once (Some a) (Some b) is other = ap Some (one_named a b is other)

-- a mismatch that is told was found
reported_found : (AreTold : Type 0) (filled : FilledArchive) (refusal : Refusal) → IsMismatch refusal → (AreTold → ReportsMismatch filled refusal) → IsCompared AreTold filled (Some refusal)
reported_found AreTold filled (Mismatch i n k s r) is told = told
reported_found AreTold filled other is told = absurd is

-- rows that aren't read, but for want of memory
module _ {D : Type 0} (device : Device D) (old new : StoreView D) where
  unread_so : (fault : RowFault) → IsReadFault device old new fault → (refusal_of_rows fault ≡ OutOfMemory) ⊎ AreUnread device old (refusal_of_rows fault)
  unread_so unread.DiskFault is = inr is.0
  unread_so (unread.Damaged file at) is = inr (is.0, untold is.1)
    where
      untold : IsNone (source_state device old).history → TellsRows device old → ⊥
      untold none told = let no : ◌≡◌ {A = Bool} true false = rw (told_is device old told) at none in cc (no)
  unread_so unread.OutOfMemory is = inl refl

  pub refused_so : (refusal : Refusal) → IsReadRefusal device old new refusal → (refusal ≡ OutOfMemory) ⊎ AreUnread device old refusal
  refused_so refusal (fault, is, of) = subst (λ (r : Refusal). (r ≡ OutOfMemory) ⊎ AreUnread device old r) (sym of) (unread_so fault is)

  -- why verifying was refused
  pub check_refused : (refusal : Refusal) → IsVerifyRefusal device old new refusal → IsCheckRefusal (IsCompared (TellsRows device old) (filled_of old)) refusal ⊎ AreUnread device old refusal
  check_refused refusal (inl reported) = inl (inr (reported_found (TellsRows device old) (filled_of old) refusal reported.0 reported.1))
  check_refused refusal (inr is) = elim (refused_so refusal is) [
    | inl memory ↦ inl (inl memory)
    | inr pages ↦ inr pages
  ]

  -- ---- what comparing reads

  -- rows were read, and a text printed behind it, or not to its end
  pub read_finished : (refusal : Option Refusal) (before after : OutputState) (text : List ℕ) → ReadsRows device old new → IsFinished refusal before after text → WasRead device old new refusal
  read_finished None before after text reads done = record { same = reads_on device old new reads; failed = reads_calm device old new reads }
  read_finished (Some WriteFault) before after text reads done = record { same = reads_on device old new reads; failed = reads_calm device old new reads }
  read_finished (Some other) before after text reads done = absurd done

  -- rows weren't read, or a mismatch was found
  of_fault : (fault : RowFault) → IsReadFault device old new fault → IsLeftByRefusal device old new (refusal_of_rows fault) → RoseIf (is_disk_fault (Some (refusal_of_rows fault))) (device.fault_count old.disk) (device.fault_count new.disk)
  of_fault unread.DiskFault is left = is.1.rose
  of_fault (unread.Damaged file at) is left = reads_calm device old new left
  of_fault unread.OutOfMemory is left = reads_calm device old new left

  pub read_refused : (refusal : Refusal) → IsReadRefusal device old new refusal → IsLeftByRefusal device old new refusal → WasRead device old new (Some refusal)
  read_refused refusal (fault, is, of) left = record {
    same = left_on device old new refusal (fault, is, of) left;
    failed = subst (λ (r : Refusal). RoseIf (is_disk_fault (Some r)) (device.fault_count old.disk) (device.fault_count new.disk)) (sym of) (of_fault fault is (subst (IsLeftByRefusal device old new) of left));
  }

  pub verify_read : (refusal : Refusal) → IsVerifyRefusal device old new refusal → IsLeftByRefusal device old new refusal → WasRead device old new (Some refusal)
  verify_read (Mismatch i n k s r) (inl reported) left = record { same = reads_on device old new left; failed = reads_calm device old new left }
  verify_read other (inl reported) left = absurd reported.0
  verify_read refusal (inr is) left = read_refused refusal is left

-- ---- the plan

module _ {D : Type 0} (device : Device D) (disk : D) where
  abbrev Tells : Type 0
  Tells = IsTrue device.is_transparent

  -- one answer is due
  pub verify_determined : IsTrue device.is_transparent → IsDetermined (verify_plan device disk)
  verify_determined known = determined (opening_plan 0 device disk) (compare_plan Tells) (opens_determined 0 device disk known)
      (λ filled. reading_determined (OnPages Tells) (archive_opened 0 filled) (checking_plan 0 filled (IsCompared Tells filled) (verify_line filled)) known
      (check_determined 0 filled (IsCompared Tells filled) (verify_line filled) (compared_once Tells known filled)))

  -- nothing is asked of the inputs
  pub verify_reads : EachEnd (HasRead 0) (verify_plan device disk)
  verify_reads = (
    (refl, refl),
    each_end (HasRead 0) (opening_plan 0 device disk) (compare_plan Tells) (opening_reads 0 device disk)
        (λ filled. reading_reads 0 (OnPages Tells) (archive_opened 0 filled) (checking_plan 0 filled (IsCompared Tells filled) (verify_line filled)) (refl, refl) (check_reads 0 filled (IsCompared Tells filled) (verify_line filled))),
  )

-- ---- an archive was opened

module _ {D : Type 0} (device : Device D) (e : Effects D) (store : StoreView D) where
  compared_so : (refusal : Option Refusal) → HasDiskOutcome device e.disk e.disk' (is_disk_fault refusal) (Opened (filled_of store)) → IsCheckReply (IsCompared (TellsRows device store) (filled_of store)) (verify_line (filled_of store)) refusal e.output e.output'
      → e.report ≡ read_only refusal (length store.history) → Ran device (checking_plan 0 (filled_of store) (IsCompared (IsTrue device.is_transparent) (filled_of store)) (verify_line (filled_of store))) e
  compared_so refusal disk reply is =
      ran_checked device e 0 (filled_of store) (IsCompared (IsTrue device.is_transparent) (filled_of store)) (verify_line (filled_of store)) (not_failed refusal reply disk) refusal (weaker refusal reply) is
    where
      not_failed : (o : Option Refusal) → IsCheckReply (IsCompared (TellsRows device store) (filled_of store)) (verify_line (filled_of store)) o e.output e.output' → HasDiskOutcome device e.disk e.disk' (is_disk_fault o) (Opened (filled_of store))
          → HasDiskOutcome device e.disk e.disk' false (Opened (filled_of store))
      not_failed (Some DiskFault) (inl passed) outcome = absurd passed.printed
      not_failed (Some DiskFault) (inr (inl memory, silent)) outcome = absurd (cc (memory))
      not_failed (Some DiskFault) (inr (inr found, silent)) outcome = absurd found
      not_failed None any outcome = outcome
      not_failed (Some other) any outcome = outcome

      found_weaker : (o : Option Refusal) → IsCompared (TellsRows device store) (filled_of store) o → IsCompared (IsTrue device.is_transparent) (filled_of store) o
      found_weaker None is = λ known. is (λ paged. known)
      found_weaker (Some (Mismatch i n k s r)) is = λ known. is (λ paged. known)
      found_weaker (Some other) is = absurd is

      weaker : (o : Option Refusal) → IsCheckReply (IsCompared (TellsRows device store) (filled_of store)) (verify_line (filled_of store)) o e.output e.output'
          → IsCheckReply (IsCompared (IsTrue device.is_transparent) (filled_of store)) (verify_line (filled_of store)) o e.output e.output'
      weaker o (inl passed) = inl (record { found = found_weaker None passed.found; printed = passed.printed })
      weaker None (inr refused) = absurd refused.0
      weaker (Some r) (inr (inl memory, silent)) = inr (inl memory, silent)
      weaker (Some r) (inr (inr found, silent)) = inr (inr (found_weaker (Some r) found), silent)

  -- rows were compared, or not read
  pub ran_compared : (refusal : Option Refusal) → HasDiskOutcome device e.disk e.disk' (is_disk_fault refusal) (Opened (filled_of store)) → IsCompareReply device store refusal e.output e.output' → e.report ≡ read_only refusal (length store.history)
      → Ran device (compare_plan (IsTrue device.is_transparent) (filled_of store)) e
  ran_compared refusal disk (inl reply) is =
      ran_over device e (archive_opened 0 (filled_of store)) (OnPages (IsTrue device.is_transparent)) _ (compared_so refusal disk reply is)
  ran_compared None disk (inr never) is = absurd never.0
  ran_compared (Some refusal) disk (inr (pages, silent)) is =
      ran_unread device e (archive_opened 0 (filled_of store)) (IsTrue device.is_transparent) store _ (tells_so device store) refl refl (refl, refl)
      (rw silent (no_text e.output.written)) (record { counted = rw silent refl }) refusal pages disk is

-- the four pieces of a line, put behind a text one after the other
pub four_behind : (old first second third last a b c d e f g : List ℕ) → first ≡ old ++ a ++ b → second ≡ first ++ c ++ d → third ≡ second ++ e ++ f → last ≡ third ++ g
    → last ≡ old ++ (a ++ b ++ c ++ d ++ e ++ f ++ g)
four_behind old first second third last a b c d e f g one two three four = rw (four, three, two, one) (simp append_assoc refl)

-- the line of what was counted
pub counted_line : {D : Type 0} (store : StoreView D) (sound : Sound) → IsCounted store sound → ((i : Interval) → base_in i store.fills ≡ base_of_filling (fillings_in store.filled) i)
    → sound_line sound.rows sound.intervals sound.late ≡ verify_line (filled_of store)
counted_line store sound counted bases =
    rw (counted.rows, counted.intervals, counted.late, late_by_bases (filled_of store) store.fills bases) refl
