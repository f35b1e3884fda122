use Rattle.std.proofs.Common.{false, refl, ◌∙◌, sym, subst}
use Rattle.archive_store.specs.StoreView.{StoreView}
use Rattle.store_shelf.specs.Renewing.{CameBy}
use Rattle.live_archive.proofs.Shelving.{left_keeps, left_last, left_published}
use Rattle.live_archive.proofs.held.HeldStore.published_since.Goals as goal

pub publish_since-shelved-requires : goal.publish_since-shelved-requires
publish_since-shelved-requires g c =
    subst (λ (s : StoreView g.row.D.Denot). CameBy s c.args.front c.args.arrivals.now) (sym c.beside.ensures.store) c.requires.came

pub returns-clause-closing : goal.returns-clause-closing
returns-clause-closing g c = record { store = c.of.ensures.store ∙ c.publish_since-shelved.ensures.store ∙ c.beside.ensures.store; closing = c.of.ensures.closing }

pub returns-clause-shelf : goal.returns-clause-shelf
returns-clause-shelf g c =
    let published = c.publish_since-shelved in
    left_keeps false c.args.self _ c.in-Some.is c.requires.beside c.beside.result published.result.0 c.beside.ensures.store c.beside.ensures.shelf published.result.1 c.of.result.shelf published.ensures.made published.ensures.refused c.of.ensures.shelf

pub returns-clause-last : goal.returns-clause-last
returns-clause-last g c =
    let published = c.publish_since-shelved in
    left_last false c.args.self _ c.in-Some.is c.requires.beside c.beside.result published.result.0 c.beside.ensures.store c.beside.ensures.shelf published.result.1 c.of.result refl published.ensures.made published.ensures.refused c.of.ensures.shelf c.of.ensures.closing c.requires.last

pub returns-clause-note : goal.returns-clause-note
returns-clause-note g c =
    let published = c.publish_since-shelved in
    left_published false c.args.self _ c.in-Some.is c.requires.beside c.beside.result published.result.0 c.beside.ensures.store c.beside.ensures.shelf published.result.1 c.of.result.shelf published.ensures.made published.ensures.shown published.ensures.note c.of.ensures.shelf
