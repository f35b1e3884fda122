use Rattle.std.specs.Arc.{arc_value}
use Rattle.store_shelf.proofs.Marking.{has_set}
use Rattle.store_shelf.proofs.contents.published_mark.Goals as goal

pub returns-clause-mark : goal.returns-clause-mark
returns-clause-mark g c =
    let i = c.args.mark.interval in
    let bases = c.is_kept.ensures.bases i in
    let set = c.in_ok-set in record {
      last = c.requires.last;
      base = c.requires.base;
      fits = λ in_time. has_set c.args.store.now i c.args.mark.last c.args.mark.base arc_value set.set c.requires.last c.requires.base bases set.ensures.some set.ensures.none in_time;
      holds = λ in_time sound. set.ensures.holds sound.0 sound.1;
    }
