use Rattle.std.proofs.Common.{◌≡◌, [], ◌∷◌, get_or, w64, SFits, sym, subst, arith, rules}
use Rattle.std.proofs.lemmas.Int.{to_z-of_z}
use Rattle.std.specs.List.{AllByRecursion}
use Rattle.replay_merge.specs.RowSource.{IsKeyedRow}
use Rattle.replay_merge.proofs.Giving.{each_moved}
use Rattle.ssql_select.proofs.Merged.{one_told, merged_told, one_of_tables, keyed_between}
use Rattle.ssql_select.proofs.merge.merged_rows.Goals as goal

pub returns-in-len1-clause-rows : goal.returns-in-len1-clause-rows
returns-in-len1-clause-rows g c =
    let told = (g.R.RowSource.state c.args.source.now).history in
    let tables = c.args.tables.now in
    let parts = c.args.parts.now in
    let bounds = c.args.bounds.now in
    let from_fits : SFits w64 bounds.from = search rules in
    let to_fits : SFits w64 bounds.to = search rules in
    let low = to_z-of_z w64 bounds.from from_fits in
    let high = to_z-of_z w64 bounds.to to_fits in
    let table = get_or tables 0 0 in
    let at_least = c.in-len1.len_at_least in
    let below = c.in-len1.len_below in
    let one : tables ≡ table ∷ [] = one_of_tables tables (omega (arith, at_least, below)) in
    let got = c.in_ok-rows.ensures in
    rw (c.into_vec.ensures, one) (one_told parts bounds.from bounds.to c.args.front told table c.in_ok-rows.rows got.in_key_order (rw (low, high) at got.told))

pub returns-in-len1-clause-each : goal.returns-in-len1-clause-each
returns-in-len1-clause-each g c =
    let bounds = c.args.bounds.now in
    let from_fits : SFits w64 bounds.from = search rules in
    let to_fits : SFits w64 bounds.to = search rules in
    let low = to_z-of_z w64 bounds.from from_fits in
    let high = to_z-of_z w64 bounds.to to_fits in
    subst (AllByRecursion IsKeyedRow) (sym c.into_vec.ensures) (keyed_between (get_or c.args.tables.now 0 0) c.args.parts.now bounds.from bounds.to c.in_ok-rows.rows (rw (low, high) at c.in_ok-rows.ensures.each))

pub returns-in-len1-clause-given : goal.returns-in-len1-clause-given
returns-in-len1-clause-given g c = subst (AllByRecursion (g.R.RowSource.state c.args.source.now).may_give) (sym c.into_vec.ensures) c.in_ok-rows.ensures.given

pub returns-clause-rows : goal.returns-clause-rows
returns-clause-rows g c =
    let told = (g.R.RowSource.state c.args.source.now).history in
    let bounds = c.args.bounds.now in
    let moved = c.in_ok-merged.ensures in
    rw c.into_vec-2.ensures (merged_told c.args.parts.now bounds.from bounds.to c.args.front told c.args.tables.now c.in_ok-rows-2.rows.items c.in_ok-merged.merged moved.sorted moved.stable c.in_ok-rows-2.ensures.rows)

pub returns-clause-each : goal.returns-clause-each
returns-clause-each g c =
    subst (AllByRecursion IsKeyedRow) (sym c.into_vec-2.ensures) (each_moved IsKeyedRow c.in_ok-rows-2.rows.items c.in_ok-merged.merged c.in_ok-merged.ensures.same c.in_ok-rows-2.ensures.each)

pub returns-clause-given : goal.returns-clause-given
returns-clause-given g c =
    let may_give = (g.R.RowSource.state c.args.source.now).may_give in
    subst (AllByRecursion may_give) (sym c.into_vec-2.ensures) (each_moved may_give c.in_ok-rows-2.rows.items c.in_ok-merged.merged c.in_ok-merged.ensures.same c.in_ok-rows-2.ensures.given)
