use Rattle.std.proofs.Common.{ℕ, List, [], sym, ap, ◌∙◌, subst}
use Rattle.arch_disk.specs.Image.{Image}
use Rattle.disk_journal.specs.Calls.{BeginsOpen}
use Rattle.disk_journal.specs.Reading.{IsAt}
use Rattle.disk_journal.proofs.Bodies.{weaker}
use Rattle.disk_journal.proofs.Told.{err_too, not_begun, told_behind}
use Rattle.disk_journal.proofs.opening.Opening.begin.Goals as goal

pub returns-clause-begun : goal.returns-clause-begun
returns-clause-begun g c =
    let file = c.args.file in
    let looked = c.begin_synced.ensures.looked in
    weaker c.begin_synced.result
    (λ opening at. record {
      in_file = at.in_file;
      none_read = λ transparent. subst (λ (r : Image). IsAt opening (r file) []) c.flush.ensures.reads (at.none_read transparent);
      open_gate = λ transparent. subst (λ (r : Image). BeginsOpen (r file)) c.flush.ensures.reads (at.open_gate transparent);
      durable = λ d now. c.in_ok-flush.ensures.durable d (looked.images d now) ∙ sym (ap (λ (r : Image). r file) looked.reads_same);
      no_failed_write = looked.no_write ∙ c.in_ok-flush.ensures.writes;
    })
    c.begin_synced.ensures.begun

pub returns-clause-refused : goal.returns-clause-refused
returns-clause-refused g c =
    err_too c.begin_synced.result
    (λ e h. not_begun g.D.Disk.device c.args.file c.args.disk.now c.flush.new.disk c.begin_synced.new.disk e c.flush.ensures.reads c.in_ok-flush.ensures.cause.told c.in_ok-flush.ensures.writes c.begin_synced.ensures.looked.no_write h)
    c.begin_synced.ensures.refused

pub returns-clause-told : goal.returns-clause-told
returns-clause-told g c =
    told_behind g.D.Disk.device c.begin_synced.result c.args.disk.now c.flush.new.disk c.begin_synced.new.disk c.in_ok-flush.ensures.cause.told c.begin_synced.ensures.told
