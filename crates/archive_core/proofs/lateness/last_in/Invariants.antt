use Rattle.std.proofs.Common.{◌≡◌, take}
use Rattle.history_items.specs.Items.{items_of}
use Rattle.history_items.specs.Late.{last_in}
use Rattle.archive_core.proofs.lateness.last_in.Given as goal

abbrev pub invariant-loop-i : goal.invariant-loop-i
invariant-loop-i l = l.last ≡ last_in l.exponent l.interval (items_of (take l.i l.rows))
