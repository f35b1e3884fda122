use Rattle.std.proofs.Common.{◌≡◌, true, ◌∙◌, ap}
use Rattle.disk_journal.specs.Faults.{wrote_of}
use Rattle.disk_journal.proofs.Calls.{refusal_failed}
use Rattle.archive_store.proofs.appending.append_entry.Goals as goal

-- an append to a journal that is healed and not full fails at a write alone, and the fault that is noted says so
pub returns-in-Err-clause-failed : goal.returns-in-Err-clause-failed
returns-in-Err-clause-failed g c =
    let journal = c.args.journal.now in
    let refused = refusal_failed g.D.Disk.device journal c.append.new.self c.args.disk.now c.append.new.disk c.args.frame.now c.in-Err.fault c.requires.healed c.requires.below c.in-Err.ensures.refused in
    let wrote : c.wrote.result ≡ true = c.wrote.ensures ∙ ap wrote_of refused.0 in
    record { failed = refused.1; count_is = c.faults-count.ensures; fault = cc (c.note_fault.ensures.fills, wrote, c.into_addition.ensures) }
