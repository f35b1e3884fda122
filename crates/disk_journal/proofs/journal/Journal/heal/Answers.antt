use Rattle.std.proofs.Common.{rules, ◌⊎◌, ◌++◌, List, ℕ, refl, sym, ap, subst}
use Rattle.std.specs.Prelude.{IsTrue}
use Rattle.arch_disk.specs.Image.{Image}
use Rattle.arch_disk.specs.Disk.{LeavesOnly}
use Rattle.arch_disk.proofs.Moments.{weakens, started, at_end}
use Rattle.disk_journal.specs.Calls.{records_of, next_body_of, unhealed_records_of}
use Rattle.disk_journal.specs.Format.{HasRecords, HasStaged}
use Rattle.disk_journal.specs.State.{faults_of}
use Rattle.disk_journal.specs.declared.journal.PendingFault.{PendingFault}
use Rattle.disk_journal.proofs.Files.{closed_done}
use Rattle.disk_journal.proofs.Appending.{touched_state, gate_moments, keeps_state}
use Rattle.disk_journal.proofs.Calls.{has_records, alone, heal_failed, heal_refused, left_now, left_alone, left_staged}
use Rattle.disk_journal.proofs.journal.Journal.heal.Given.{Over}
use Rattle.disk_journal.proofs.journal.Journal.heal.Goals.{In-GateClosed, After-put}
use Rattle.disk_journal.proofs.journal.Journal.heal.Goals as goal

-- where the gate was never written, the records stand alone
closed : (g : Over) (c : In-GateClosed g) → IsTrue g.D.Disk.device.is_transparent → (i : Image) → g.D.Disk.device.images c.args.disk.now i → HasRecords (i c.args.self.now.file) (records_of g.D.Disk.device c.args.self.now c.args.disk.now)
closed g c transparent = left_alone g.D.Disk.device c.args.self.now c.args.disk.now transparent (c.requires.sound transparent) c.in-GateClosed.is refl

-- where it may have been, the one whose append failed stands behind them
module _ (g : Over) (c : After-put g) (transparent : IsTrue g.D.Disk.device.is_transparent) where
  staged : (i : Image) → g.D.Disk.device.images c.args.disk.now i → HasStaged (i c.args.self.now.file) (records_of g.D.Disk.device c.args.self.now c.args.disk.now) (next_body_of g.D.Disk.device c.args.self.now c.args.disk.now)
  staged = touched_state g.D.Disk.device c.args.self.now _ _ c.args.disk.now c.in-GateWritten.field-0 c.in-GateWritten.is (has_records g.D.Disk.device c.args.self.now c.args.disk.now transparent (c.requires.sound transparent))

  again : LeavesOnly g.D.Disk.device c.args.disk.now c.put.new.disk (λ i. HasStaged (i c.args.self.now.file) (records_of g.D.Disk.device c.args.self.now c.args.disk.now) (next_body_of g.D.Disk.device c.args.self.now c.args.disk.now))
  again = gate_moments g.D.Disk.device c.args.self.now.file c.args.self.now.end _ _ c.args.disk.now c.put.new.disk (has_records g.D.Disk.device c.args.self.now c.args.disk.now transparent (c.requires.sound transparent)).end staged c.put.ensures.moments

  crash : LeavesOnly g.D.Disk.device c.args.disk.now c.put.new.disk (λ i. HasRecords (i c.args.self.now.file) (records_of g.D.Disk.device c.args.self.now c.args.disk.now) ⊎ HasRecords (i c.args.self.now.file) (records_of g.D.Disk.device c.args.self.now c.args.disk.now ++ unhealed_records_of g.D.Disk.device c.args.self.now c.args.disk.now))
  crash = weakens g.D.Disk.device c.args.disk.now c.put.new.disk _ _ again (λ i has. left_staged g.D.Disk.device c.args.self.now c.args.disk.now c.in-GateWritten.field-0 (i c.args.self.now.file) c.in-GateWritten.is has)

pub returns-in-Absent-clause-healed : goal.returns-in-Absent-clause-healed
returns-in-Absent-clause-healed g c = record {
  journal = ap (λ (t : PendingFault). record c.args.self.now { pending_fault = t }) c.in-Absent.is;
  records = λ transparent. alone g.D.Disk.device c.args.self.now c.args.disk.now transparent (c.requires.sound transparent) (ap faults_of c.in-Absent.is);
  no_call = λ none. refl;
  no_failed_write = refl;
}

pub returns-in-Absent-clause-crash : goal.returns-in-Absent-clause-crash
returns-in-Absent-clause-crash g c transparent = started g.D.Disk.device c.args.disk.now _ (left_now g.D.Disk.device c.args.self.now c.args.disk.now transparent (c.requires.sound transparent))

pub returns-in-Ok-clause-healed : goal.returns-in-Ok-clause-healed
returns-in-Ok-clause-healed g c = record {
  journal = refl;
  records = λ transparent.
      let device = g.D.Disk.device in
      let old = c.args.disk.now in
      let keeps = has_records device c.args.self.now old transparent (c.requires.sound transparent) in
      let has = closed g (goal.at.returns-in-Ok-clause-healed g c).In-GateClosed transparent (device.reads old) (device.reads_as_image old transparent) in
      record { extents = keeps.extents; end = keeps.end; state = (subst (λ (x : Image). HasRecords (x c.args.self.now.file) (records_of device c.args.self.now old)) (sym c.flush.ensures.reads) has, c.in-Ok.ensures.durable) };
  no_call = λ none. absurd (cc (ap faults_of c.in-GateClosed.is, none));
  no_failed_write = search rules;
}

pub returns-in-Ok-clause-crash : goal.returns-in-Ok-clause-crash
returns-in-Ok-clause-crash g c transparent =
    weakens g.D.Disk.device c.args.disk.now c.flush.new.disk _ _ c.flush.ensures.moments (left_now g.D.Disk.device c.args.self.now c.args.disk.now transparent (c.requires.sound transparent))

pub returns-in-Err-clause-refused : goal.returns-in-Err-clause-refused
returns-in-Err-clause-refused g c = heal_refused g.D.Disk.device c.in-Err.ensures.only (record {
  unhealed = λ none. cc (ap faults_of c.in-GateClosed.is, none);
  journal = refl;
  records = λ transparent.
      let has = closed g (goal.at.returns-in-Err-clause-refused g c).In-GateClosed transparent in
      keeps_state g.D.Disk.device c.flush.new.disk (has_records g.D.Disk.device c.args.self.now c.args.disk.now transparent (c.requires.sound transparent)) c.in-GateClosed.is (λ i left. has i (c.flush.ensures.images i left));
  rose = search rules;
  wrote = search rules;
})

pub returns-in-Err-clause-crash : goal.returns-in-Err-clause-crash
returns-in-Err-clause-crash g c transparent =
    weakens g.D.Disk.device c.args.disk.now c.flush.new.disk _ _ c.flush.ensures.moments (left_now g.D.Disk.device c.args.self.now c.args.disk.now transparent (c.requires.sound transparent))

pub returns-in-Ok-put-clause-healed : goal.returns-in-Ok-put-clause-healed
returns-in-Ok-put-clause-healed g c = record {
  journal = refl;
  records = λ transparent.
      let device = g.D.Disk.device in
      let now = c.args.self.now in
      let old = c.args.disk.now in
      let keeps = has_records device now old transparent (c.requires.sound transparent) in
      let there = staged g (goal.at.returns-in-Ok-put-clause-healed g c).After-put transparent (device.reads old) (device.reads_as_image old transparent) in
      let has = closed_done (device.reads old now.file) (records_of device now old) (next_body_of device now old) now.end there keeps.end in
      record { extents = keeps.extents; end = keeps.end; state = (subst (λ (l : List ℕ). HasRecords l (records_of device now old)) (sym (c.in-Ok-put.ensures.written transparent).here) has, c.in-Ok-put.ensures.durable) };
  no_call = λ none. absurd (cc (ap faults_of c.in-GateWritten.is, none));
  no_failed_write = search rules;
}

pub returns-in-Ok-put-clause-sound : goal.returns-in-Ok-put-clause-sound
returns-in-Ok-put-clause-sound g c transparent = record { bodies = _; pending = _; keeps = (returns-in-Ok-put-clause-healed g c).records transparent }

pub returns-in-Ok-put-clause-crash : goal.returns-in-Ok-put-clause-crash
returns-in-Ok-put-clause-crash g c = crash g (goal.at.returns-in-Ok-put-clause-crash g c).After-put

pub returns-in-Err-put-clause-refused : goal.returns-in-Err-put-clause-refused
returns-in-Err-put-clause-refused g c = heal_refused g.D.Disk.device c.in-Err-put.ensures.only (record {
  unhealed = λ none. cc (ap faults_of c.in-GateWritten.is, none);
  journal = refl;
  records = λ transparent.
      let left = at_end g.D.Disk.device c.args.disk.now c.put.new.disk _ (again g (goal.at.returns-in-Err-put-clause-refused g c).After-put transparent) in
      keeps_state g.D.Disk.device c.put.new.disk (has_records g.D.Disk.device c.args.self.now c.args.disk.now transparent (c.requires.sound transparent)) c.in-GateWritten.is left;
  rose = search rules;
  wrote = search rules;
})

pub returns-in-Err-put-clause-sound : goal.returns-in-Err-put-clause-sound
returns-in-Err-put-clause-sound g c transparent = record { bodies = _; pending = _; keeps = (heal_failed g.D.Disk.device c.in-Err-put.ensures.only (returns-in-Err-put-clause-refused g c)).records transparent }

pub returns-in-Err-put-clause-crash : goal.returns-in-Err-put-clause-crash
returns-in-Err-put-clause-crash g c = crash g (goal.at.returns-in-Err-put-clause-crash g c).After-put
