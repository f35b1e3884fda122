use Rattle.std.proofs.Common.{ℕ, List, sym, subst}
use Rattle.archive_store.specs.declared.batch.Arrival.{Arrival}
use Rattle.store_shelf.specs.Renewing.{CameBy}
use Rattle.live_archive.proofs.Closings.{none_ingest}
use Rattle.live_archive.proofs.Going.{goes_ingest}
use Rattle.live_archive.proofs.Later.{batch_later}
use Rattle.live_archive.proofs.Shelving.{came_ingested, held_beside}
use Rattle.live_archive.proofs.Turning.{leaving_published, left_by, matched, took}
use Rattle.live_archive.proofs.ingesting.LiveOver+HeldStore+D.ingest.Goals as goal

pub ingest-result-requires : goal.ingest-result-requires
ingest-result-requires g c = batch_later _ _ _ _ c.args.batch.now c.enter-held.ensures.value.store.appends.head c.enter-held.ensures.begins c.requires.batch

pub published_since-held-requires : goal.published_since-held-requires
published_since-held-requires g c =
    let go = goes_ingest g.D.Disk.device c.enter-held.result.store c.ingest-result.new.self _ c.ingest-result.result (λ i. i.outcomes) c.ingest-result.ensures.grows c.ingest-result.ensures.crash (matched c.ingest-result.result _ _ c.ingest-result.ensures.ingested c.ingest-result.ensures.refused) in
    let came = came_ingested g.D.Disk.device c.enter-held.result.store c.ingest-result.new.self c.args.batch.now.arrivals c.ingest-result.result (λ i. i.outcomes) (matched c.ingest-result.result _ _ c.ingest-result.ensures.ingested c.ingest-result.ensures.refused) in
    record {
      beside = held_beside g.D.Disk.device _ c.enter-held.result c.ingest-result.new.self c.enter-held.ensures.value go;
      last = c.enter-held.ensures.value.last;
      came = subst (λ (arrivals : List Arrival). CameBy c.ingest-result.new.self c.front-front.result arrivals) (sym c.as_slice.ensures)
          (subst (λ (n : ℕ). CameBy c.ingest-result.new.self n c.args.batch.now.arrivals) (sym c.front-front.ensures) came);
    }

pub leave-requires : goal.leave-requires
leave-requires g c =
    let go = goes_ingest g.D.Disk.device c.enter-held.result.store c.ingest-result.new.self _ c.ingest-result.result (λ i. i.outcomes) c.ingest-result.ensures.grows c.ingest-result.ensures.crash (matched c.ingest-result.result _ _ c.ingest-result.ensures.ingested c.ingest-result.ensures.refused) in
    let none = none_ingest g.D.Disk.device c.enter-held.result.store c.ingest-result.new.self _ c.ingest-result.result (λ i. i.outcomes) (matched c.ingest-result.result _ _ c.ingest-result.ensures.ingested c.ingest-result.ensures.refused) in
    let left = leaving_published g.D.Disk.device _ c.enter-held.result c.published_since-held.result.0 c.ingest-result.new.self c.args.pass.now c.enter-held.new.pass c.enter-held.ensures.value go none c.published_since-held.ensures.closing c.published_since-held.ensures.shelf c.published_since-held.ensures.last c.enter-held.ensures.found in
    record { turn = c.enter-held.ensures.turn; begins = left.begins; fills_begin = left.fills_begin; value = left.value }

pub returns-clause-turn : goal.returns-clause-turn
returns-clause-turn g c =
    let go = goes_ingest g.D.Disk.device c.enter-held.result.store c.ingest-result.new.self _ c.ingest-result.result (λ i. i.outcomes) c.ingest-result.ensures.grows c.ingest-result.ensures.crash (matched c.ingest-result.result _ _ c.ingest-result.ensures.ingested c.ingest-result.ensures.refused) in
    let entered = c.enter-held.ensures in
    took g.D.Disk.device _ c.enter-held.result.store c.ingest-result.new.self c.args.pass.now c.enter-held.new.pass c.leave.new.pass _
    entered.value.store go entered.begins entered.fills_begin entered.found
    (left_by g.D.Disk.device c.published_since-held.result.0 c.ingest-result.new.self c.enter-held.new.pass c.leave.new.pass c.published_since-held.ensures.closing.store c.leave.ensures.left)
    (matched c.ingest-result.result _ _ c.ingest-result.ensures.ingested c.ingest-result.ensures.refused)
