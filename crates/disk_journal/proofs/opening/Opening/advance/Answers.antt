use Rattle.std.proofs.Common.{arith}
use Rattle.disk_journal.proofs.Reading.{one_more, more_extents}
use Rattle.disk_journal.proofs.opening.Opening.advance.Goals as goal

pub returns-clause-at : goal.returns-clause-at
returns-clause-at c content bodies is whole =
    let old = c.args.self.now in
    let e = c.args.extent in
    record {
      extents = more_extents content old.at bodies e old.extents.items c.push.new.self.items whole is.up_to is.extents c.in_ok-push.ensures.items;
      up_to = one_more content old.at bodies e whole is.up_to;
      len = is.len;
      piece = is.piece;
      inside = omega (arith, is.len, whole.fits, whole.body_at);
      begins_open = λ zero_at. absurd (omega (arith, zero_at, whole.body_at));
    }
