use Rattle.std.proofs.Common.{◌++◌, ◌∷◌, [], sym, ap, ◌∙◌}
use Rattle.arch_types.specs.declared.row.Row.{Row}
use Rattle.run_pages.specs.Placed.{row_placed}
use Rattle.sealed_rows.proofs.WantedRows.{none_added, one_added}
use Rattle.sealed_rows.proofs.wanted.add_row.Goals as goal

pub returns-then-not-is_wanted : goal.returns-then-not-is_wanted
returns-then-not-is_wanted c = none_added c.args.wanted (row_placed c.args.position c.args.row.now) c.args.rows.items (sym c.is_wanted.ensures ∙ c.if-not-is_wanted.true)

pub returns : goal.returns
returns c =
    let more = c.in_ok-push.ensures.items ∙ ap (λ (row : Row). c.args.rows.items ++ row ∷ []) c.in_ok-copy.ensures in
    one_added c.args.wanted (row_placed c.args.position c.args.row.now) c.args.rows.items _ (sym c.is_wanted.ensures ∙ c.if-not-is_wanted.false) more
