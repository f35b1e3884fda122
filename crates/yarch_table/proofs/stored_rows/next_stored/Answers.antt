use Rattle.std.proofs.Common.{◌≡◌, ◌∷◌, sym, ◌∙◌, ap}
use Rattle.yarch_table.specs.declared.table.Stored.{Stored}
use Rattle.yarch_table.specs.Index.{stored_at, stored_left}
use Rattle.yarch_table.proofs.ByKey.{stored_left-first}
use Rattle.yarch_table.proofs.stored_rows.next_stored.Goals as goal

pub returns-clause-taken : goal.returns-clause-taken
returns-clause-taken c =
    let stored = c.args.stored.now in
    let e = c.in_ok-entry.entry.now in
    let d = c.index-stored-entry.result in
    let named = rw c.in_ok-entry.ensures.steps at c.requires in
    let is : d ≡ stored_at stored d e = c.index-stored-entry.is in
    ap (stored_left stored) c.in_ok-entry.ensures.steps
    ∙ stored_left-first stored e c.next.new.self d named.0.0
    ∙ ap (λ (s : Stored). s ∷ stored_left stored c.next.new.self) (sym is)
