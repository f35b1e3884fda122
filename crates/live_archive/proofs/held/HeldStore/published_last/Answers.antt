use Rattle.std.proofs.Common.{true, inl, inr, IfOk, refl, sym, ◌∙◌, subst}
use Rattle.archive_store.specs.StoreView.{StoreView}
use Rattle.live_archive.specs.Shelving.{IsBeside, IsPublished, KeepsShelf}
use Rattle.live_archive.proofs.Shelving.{beside_closed, keeps_start, last_closing, left_keeps, left_published, when_err, when_ok}
use Rattle.live_archive.proofs.held.HeldStore.published_last.Goals as goal

pub beside-requires : goal.beside-requires
beside-requires g c =
    let store = c.take_closing.new.store in
    subst (λ o. IsBeside o store) c.in-Some.is (subst (IsBeside c.args.self.shelf) (sym c.in_default-take_closing.ensures.noted) (beside_closed c.args.self c.requires.beside))

pub returns-in-Err-clause-refused : goal.returns-in-Err-clause-refused
returns-in-Err-clause-refused g c = inr (record { store = c.in-Err.ensures.refused; closing = refl })

pub returns-in-Err-clause-shelf : goal.returns-in-Err-clause-shelf
returns-in-Err-clause-shelf g c =
    rw c.in-Err.ensures.refused (subst (λ o. KeepsShelf c.args.self.shelf o c.args.self.store) c.in-Some.is (keeps_start c.args.self.shelf c.args.self.store c.requires.beside))

pub returns-clause-closed : goal.returns-clause-closed
returns-clause-closed g c =
    let published = c.publish_last-shelved in
    let is = c.of.ensures.store ∙ published.ensures.store ∙ c.beside.ensures.store in
    when_ok published.result.1 (record { store = is ∙ c.in_default-take_closing.ensures.noted; closing = c.of.ensures.closing })

pub returns-clause-refused : goal.returns-clause-refused
returns-clause-refused g c =
    let published = c.publish_last-shelved in
    let is = c.of.ensures.store ∙ published.ensures.store ∙ c.beside.ensures.store in
    when_err published.result.1 (inl (record { store = is ∙ c.in_default-take_closing.ensures.noted; closing = c.of.ensures.closing }))

pub returns-clause-shelf : goal.returns-clause-shelf
returns-clause-shelf g c =
    let published = c.publish_last-shelved in
    let is = c.of.ensures.store ∙ published.ensures.store ∙ c.beside.ensures.store in
    let store = c.take_closing.new.store in
    let beside = subst (IsBeside c.args.self.shelf) (sym c.in_default-take_closing.ensures.noted) (beside_closed c.args.self c.requires.beside) in
    subst (KeepsShelf c.args.self.shelf c.of.result.shelf) (sym is)
    (left_keeps true (record c.args.self { store = store }) _ c.in-Some.is beside c.beside.result published.result.0 c.beside.ensures.store c.beside.ensures.shelf published.result.1 c.of.result.shelf published.ensures.made published.ensures.refused c.of.ensures.shelf)

pub returns-clause-last : goal.returns-clause-last
returns-clause-last g c = last_closing c.of.result c.of.ensures.closing

pub returns-clause-note : goal.returns-clause-note
returns-clause-note g c =
    let published = c.publish_last-shelved in
    let is = c.of.ensures.store ∙ published.ensures.store ∙ c.beside.ensures.store in
    let store = c.take_closing.new.store in
    let beside = subst (IsBeside c.args.self.shelf) (sym c.in_default-take_closing.ensures.noted) (beside_closed c.args.self c.requires.beside) in
    subst (λ (s : StoreView g.row.D.Denot). IfOk published.result.1 (IsPublished true (record c.args.self { store = s }) c.of.result.shelf)) (sym is)
    (left_published true (record c.args.self { store = store }) _ c.in-Some.is beside c.beside.result published.result.0 c.beside.ensures.store c.beside.ensures.shelf published.result.1 c.of.result.shelf published.ensures.made published.ensures.shown published.ensures.note c.of.ensures.shelf)
