use Rattle.std.proofs.Common.{◌≡◌, ◌<◌, None, length, sym, ap, ◌∙◌, subst}
use mathlib.Core.List.{IsPrefix}
use Rattle.history_items.specs.Fills.{in_flight}
use Rattle.interval_fills.proofs.Freed.{all_free}
use Rattle.live_archive.specs.GoesOn.{GoesOn}
use Rattle.live_archive.proofs.Going.{goes_settled, goes_trans, settled_is}
use Rattle.live_archive.proofs.Shelving.{stays_alone}
use Rattle.live_archive.proofs.live.LiveOver+HeldStore+D.close.Goals as goal

pub into_alone-store-requires : goal.into_alone-store-requires
into_alone-store-requires g c = record { alone = stays_alone g.D.Disk.device _ c.close-held.result c.requires.alone c.close-held.ensures.value }

pub returns-clause-value : goal.returns-clause-value
returns-clause-value g c =
    let left = c.close-held.result.store in
    let is = settled_is g.D.Disk.device c.settled.result c.into_alone-store.result left c.settled.ensures c.into_alone-store.ensures in
    goes_trans g.D.Disk.device _ _ _ c.close-held.ensures.value.store (subst (GoesOn g.D.Disk.device left) (sym is) (goes_settled g.D.Disk.device left))

pub returns-clause-closed : goal.returns-clause-closed
returns-clause-closed g c =
    let closed = c.close-held.ensures in
    let is = settled_is g.D.Disk.device c.settled.result c.into_alone-store.result c.close-held.result.store c.settled.ensures c.into_alone-store.ensures in
    record {
      last = c.close-held.result.store.fills;
      settled = ap (λ s. s.fills) is;
      begins = subst (λ s. IsPrefix c.args.pass.history.seen s.history) (sym is) closed.begins.0;
      fills_begin = closed.begins.1;
      added = ap (λ s. length s.history) is ∙ closed.added.0;
      fills_added = closed.added.1;
      placed = λ place low. closed.placed place (subst (λ s. place < length s.history) is low);
      fills_placed = closed.fills_placed;
    }

pub returns-clause-idle : goal.returns-clause-idle
returns-clause-idle g c =
    let is = settled_is g.D.Disk.device c.settled.result c.into_alone-store.result c.close-held.result.store c.settled.ensures c.into_alone-store.ensures in
    λ interval. subst (λ s. in_flight interval s.fills ≡ None) (sym is) (all_free interval c.close-held.result.store.fills)
