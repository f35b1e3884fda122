use Rattle.std.proofs.Common.{◌≡◌, None, FitsSigned, ◌∙◌, rules, w64}
use Rattle.std.proofs.lemmas.Int.{to_z-of_z}
use Rattle.histogram.proofs.OneName.{put_last, records_behind}
use Rattle.histogram.proofs.one_name.put_behind.Goals as goal

pub returns : goal.returns
returns c spans held after =
    let pname = c.args.pname in
    let span = c.args.span in
    let fits_first : FitsSigned w64 span.first = search rules in
    let first = to_z-of_z w64 span.first fits_first in
    let fits_last : FitsSigned w64 span.last = search rules in
    let last = to_z-of_z w64 span.last fits_last in
    let free = put_last pname spans span c.args.index.now held after in
    let none : c.insert.result ≡ None = (rw last at c.insert.ensures.found) ∙ free.absent in
    let is = rw none at (rw (first, last) at c.insert.ensures.absent) in
    records_behind pname spans span c.args.index.now held after c.insert.new.self is c.insert.ensures.rising
