use Rattle.std.proofs.Common.{[], sym, ap, ◌∙◌, subst}
use Rattle.arch_disk.specs.Image.{Image}
use Rattle.run_files.specs.Opening.{IsReadingRun}
use Rattle.run_files.proofs.OpenCalls.{err_too, not_started, ok_too}
use Rattle.run_files.proofs.opening.RunOpening.begin.Goals as goal

pub returns-clause-begun : goal.returns-clause-begun
returns-clause-begun g c =
    let flushed = c.in_ok-flush.ensures in
    let looked = c.begin_synced.ensures.looked in
    ok_too c.begin_synced.result _ _
    (λ opening at. record {
      in_file = at.in_file;
      none_read = at.none_read;
      reading = λ transparent. subst (λ (r : Image). IsReadingRun opening (r c.args.file) []) flushed.reads (at.reading transparent);
      durable = λ d now. flushed.durable d (looked.images d now) ∙ sym (ap (λ (r : Image). r c.args.file) looked.reads_same);
      no_failed_write = looked.no_write ∙ flushed.no_failed_write;
    })
    c.begin_synced.ensures.begun

pub returns-clause-refused : goal.returns-clause-refused
returns-clause-refused g c =
    let flushed = c.in_ok-flush.ensures in
    err_too c.begin_synced.result _ _
    (λ e h. not_started g.D.Disk.device c.args.file c.args.disk.now c.flush.new.disk c.begin_synced.new.disk e flushed.reads flushed.told flushed.no_failed_write c.begin_synced.ensures.looked.no_write h)
    c.begin_synced.ensures.refused
