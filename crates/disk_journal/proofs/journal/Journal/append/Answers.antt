use Rattle.std.proofs.Common.{rules, ◌≡◌, ℕ, ◌+◌, [], ◌∷◌, ◌++◌, List, length, inl, refl, sym, ◌∙◌, ap, subst, arith, length-append}
use Rattle.std.specs.Prelude.{IsTrue}
use Rattle.arch_disk.specs.Image.{Image}
use Rattle.arch_disk.specs.Disk.{LeavesOnly, LeavesOthers}
use Rattle.arch_disk.proofs.Moments.{joins, weakens, started, at_end}
use Rattle.disk_journal.specs.Format.{framed, HasRecords, HasStaged, IsBeforeOrAfter}
use Rattle.disk_journal.specs.Calls.{records_of}
use Rattle.disk_journal.specs.State.{StateIs, faults_of}
use Rattle.disk_journal.specs.declared.journal.PendingFault.{PendingFault}
use Rattle.disk_journal.proofs.Files.{length-framed, length-written, opened_done, record_inside, staged_either, sum_is}
use Rattle.disk_journal.proofs.Reading.{pushed}
use Rattle.disk_journal.proofs.Appending.{extent, first_moments, first_done, gate_moments, elsewhere_two}
use Rattle.disk_journal.proofs.Calls.{append_failed, append_refused, has_records, left_alone}
use Rattle.disk_journal.proofs.journal.Journal.append.Given.{Over}
use Rattle.disk_journal.proofs.journal.Journal.append.Goals.{After-put, After-put-2}
use Rattle.disk_journal.proofs.journal.Journal.append.Goals as goal

-- the first write leaves the records from before, however it ends
first : (g : Over) (c : After-put g) (transparent : IsTrue g.D.Disk.device.is_transparent) → LeavesOnly g.D.Disk.device c.args.disk.now c.put.new.disk (λ i. HasRecords (i c.args.self.now.file) (records_of g.D.Disk.device c.args.self.now c.args.disk.now))
first g c transparent =
    let device = g.D.Disk.device in
    let now = c.args.self.now in
    let old = c.args.disk.now in
    first_moments device now.file now.end (records_of device now old) old transparent (has_records device now old transparent (c.requires.sound transparent)).end (left_alone device now old transparent (c.requires.sound transparent) c.in-Absent.is refl) c.saturating_add-behind.result c.saturating_add-behind.ensures c.put.new.disk _ c.put.ensures.moments

module _ (g : Over) (c : After-put-2 g) (transparent : IsTrue g.D.Disk.device.is_transparent) where
  -- done, it left the new one behind them,
  staged : (i : Image) → g.D.Disk.device.images c.put.new.disk i → HasStaged (i c.args.self.now.file) (records_of g.D.Disk.device c.args.self.now c.args.disk.now) c.args.frame.now
  staged =
      let device = g.D.Disk.device in
      let now = c.args.self.now in
      let old = c.args.disk.now in
      first_done device now.file now.end (records_of device now old) old transparent (has_records device now old transparent (c.requires.sound transparent)).end (left_alone device now old transparent (c.requires.sound transparent) c.in-Absent.is refl) c.saturating_add-behind.result c.saturating_add-behind.ensures c.put.new.disk c.octets-octets.result.now c.args.frame.now c.octets-octets.ensures (omega (arith, c.len-size.ensures, c.len-size.type_inv)) (c.in_default.ensures.written transparent) c.in_default.ensures.durable

  -- and the second keeps it there
  second : LeavesOnly g.D.Disk.device c.put.new.disk c.put-2.new.disk (λ i. HasStaged (i c.args.self.now.file) (records_of g.D.Disk.device c.args.self.now c.args.disk.now) c.args.frame.now)
  second = gate_moments g.D.Disk.device c.args.self.now.file c.args.self.now.end _ _ c.put.new.disk c.put-2.new.disk (has_records g.D.Disk.device c.args.self.now c.args.disk.now transparent (c.requires.sound transparent)).end staged c.put-2.ensures.moments

  crash : LeavesOnly g.D.Disk.device c.args.disk.now c.put.new.disk (λ i. HasRecords (i c.args.self.now.file) (records_of g.D.Disk.device c.args.self.now c.args.disk.now)) → LeavesOnly g.D.Disk.device c.args.disk.now c.put-2.new.disk (λ i. IsBeforeOrAfter (records_of g.D.Disk.device c.args.self.now c.args.disk.now) c.args.frame.now (i c.args.self.now.file))
  crash before = joins g.D.Disk.device c.args.disk.now c.put.new.disk c.put-2.new.disk _ _ (weakens g.D.Disk.device c.args.disk.now c.put.new.disk _ _ before (λ i has. inl has)) second (λ i has. staged_either (i c.args.self.now.file) _ _ has)

others : (g : Over) (c : After-put-2 g) → LeavesOthers g.D.Disk.device c.args.self.now.file c.args.disk.now c.put-2.new.disk
others g c = record {
  reads = search rules;
  crash = elsewhere_two g.D.Disk.device c.args.disk.now c.put.new.disk c.put-2.new.disk c.args.self.now.file _ _ _ _ c.put.ensures.moments c.put-2.ensures.moments;
}

pub returns-then-place-ge-MAX_RECORDS-clause-crash : goal.returns-then-place-ge-MAX_RECORDS-clause-crash
returns-then-place-ge-MAX_RECORDS-clause-crash g c no_pending_fault transparent =
    started g.D.Disk.device c.args.disk.now _ (λ i left. inl (left_alone g.D.Disk.device c.args.self.now c.args.disk.now transparent (c.requires.sound transparent) c.in-Absent.is refl i left))

pub returns-in-Err-clause-refused : goal.returns-in-Err-clause-refused
returns-in-Err-clause-refused g c = append_refused g.D.Disk.device c.in-Err.ensures.only (record {
  healed = ap faults_of c.in-Absent.is;
  below = search rules;
  count = refl;
  room = c.requires.room;
  records = λ transparent.
      let keeps = has_records g.D.Disk.device c.args.self.now c.args.disk.now transparent (c.requires.sound transparent) in
      record { extents = keeps.extents; end = keeps.end; state = at_end g.D.Disk.device c.args.disk.now c.put.new.disk _ (first g (goal.at.returns-in-Err-clause-refused g c).After-put transparent) };
  pending_fault = search rules;
  rose = search rules;
  wrote = search rules;
})

pub returns-in-Err-clause-crash : goal.returns-in-Err-clause-crash
returns-in-Err-clause-crash g c no_pending_fault transparent =
    weakens g.D.Disk.device c.args.disk.now c.put.new.disk _ _ (first g (goal.at.returns-in-Err-clause-crash g c).After-put transparent) (λ i has. inl has)

pub returns-in-Err-clause-sound : goal.returns-in-Err-clause-sound
returns-in-Err-clause-sound g c transparent = record { bodies = _; pending = _; keeps = (append_failed g.D.Disk.device c.in-Err.ensures.only (returns-in-Err-clause-refused g c)).records transparent }

pub returns-in-Err-put-clause-refused : goal.returns-in-Err-put-clause-refused
returns-in-Err-put-clause-refused g c = append_refused g.D.Disk.device c.in-Err-put.ensures.only (record {
  healed = ap faults_of c.in-Absent.is;
  below = search rules;
  count = refl;
  room = c.requires.room;
  records = λ transparent.
      let keeps = has_records g.D.Disk.device c.args.self.now c.args.disk.now transparent (c.requires.sound transparent) in
      record { extents = keeps.extents; end = keeps.end; state = at_end g.D.Disk.device c.put.new.disk c.put-2.new.disk _ (second g (goal.at.returns-in-Err-put-clause-refused g c).After-put-2 transparent) };
  pending_fault = search rules;
  rose = search rules;
  wrote = search rules;
})

pub returns-in-Err-put-clause-crash : goal.returns-in-Err-put-clause-crash
returns-in-Err-put-clause-crash g c no_pending_fault transparent =
    let at = goal.at.returns-in-Err-put-clause-crash g c in crash g at.After-put-2 transparent (first g at.After-put transparent)

pub returns-in-Err-put-clause-others : goal.returns-in-Err-put-clause-others
returns-in-Err-put-clause-others g c = others g (goal.at.returns-in-Err-put-clause-others g c).After-put-2

pub returns-in-Err-put-clause-sound : goal.returns-in-Err-put-clause-sound
returns-in-Err-put-clause-sound g c transparent = record { bodies = _; pending = _; keeps = (append_failed g.D.Disk.device c.in-Err-put.ensures.only (returns-in-Err-put-clause-refused g c)).records transparent }

pub returns-clause-appended : goal.returns-clause-appended
returns-clause-appended g c = record {
  healed = ap faults_of c.in-Absent.is;
  below = search rules;
  place_is = search rules;
  count = search rules;
  records = λ transparent.
      let device = g.D.Disk.device in
      let now = c.args.self.now in
      let old = c.args.disk.now in
      let mid = c.put.new.disk in
      let n = length c.octets-octets.result.now in
      let bodies = records_of device now old in
      let keeps = has_records device now old transparent (c.requires.sound transparent) in
      let there = staged g (goal.at.returns-clause-appended g c).After-put-2 transparent (device.reads mid) (device.reads_as_image mid transparent) in
      let has = opened_done (device.reads mid now.file) bodies c.args.frame.now now.end there keeps.end in
      let inside = record_inside (device.reads mid now.file) bodies c.args.frame.now there in
      let fit = device.lengths_fit mid now.file transparent in
      let long : n ≡ 5 + length c.args.frame.now = omega (arith, ap length c.octets-octets.ensures, length-append (framed c.args.frame.now) (0 ∷ []), length-framed c.args.frame.now) in
      let five : c.saturating_add.result ≡ now.end + 5 = sum_is now.end 5 c.saturating_add.result c.saturating_add.ensures (omega (arith, inside, fit, keeps.end)) in
      let sum : c.saturating_add-self.result ≡ now.end + n = sum_is now.end n c.saturating_add-self.result c.saturating_add-self.ensures (omega (arith, inside, fit, keeps.end, long)) in
      record {
        extents = pushed bodies c.args.frame.now now.extents.items c.push_reserved.new.self.items now.end c.len-size.result keeps.extents keeps.end c.len-size.ensures (c.push_reserved.ensures.items ∙ ap (λ (k : ℕ). now.extents.items ++ extent k c.len-size.result ∷ []) five);
        end = omega (arith, sum, keeps.end, long, length-written bodies c.args.frame.now);
        state = subst (λ (t : PendingFault). StateIs device t now.file (bodies ++ c.args.frame.now ∷ []) [] c.put-2.new.disk) (sym c.in-Absent.is) (subst (λ (l : List ℕ). HasRecords l (bodies ++ c.args.frame.now ∷ [])) (sym (c.in_default-put.ensures.written transparent).here) has, c.in_default-put.ensures.durable);
      };
  no_pending_fault = search rules;
  no_failed_write = search rules;
}

pub returns-clause-crash : goal.returns-clause-crash
returns-clause-crash g c no_pending_fault transparent =
    let at = goal.at.returns-clause-crash g c in crash g at.After-put-2 transparent (first g at.After-put transparent)

pub returns-clause-others : goal.returns-clause-others
returns-clause-others g c = others g (goal.at.returns-clause-others g c).After-put-2

pub returns-clause-sound : goal.returns-clause-sound
returns-clause-sound g c transparent = record { bodies = _; pending = _; keeps = (returns-clause-appended g c).records transparent }
