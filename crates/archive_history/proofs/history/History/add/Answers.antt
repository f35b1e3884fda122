use Rattle.std.proofs.Common.{◌≡◌, ◌+◌, ◌-◌, ℕ, ◌++◌, [], ◌∷◌, refl, sym, ◌∙◌, ap, subst, arith}
use Rattle.history_items.specs.Items.{rows_in}
use Rattle.archive_history.specs.History.{HistoryView}
use Rattle.archive_history.specs.Limits.{IsWithin}
use Rattle.archive_history.specs.LimitCounts.{LimitCountsView, interval_row_count, one_at}
use Rattle.archive_history.specs.Tables.{AreRowTables, items_in}
use Rattle.archive_history.proofs.Growing.{adds_here, adds_nothing, row_counted, row_known}
use Rattle.archive_history.proofs.history.History.add.Goals as goal

pub insert_row-requires-clause-table : goal.insert_row-requires-clause-table
insert_row-requires-clause-table c = omega (arith, c.requires.table, ap (λ (x : HistoryView). x.tables) c.self.view_is)

pub insert_row-requires-clause-hold : goal.insert_row-requires-clause-hold
insert_row-requires-clause-hold c =
    let s = c.self.inside in
    let one : s.room ≡ (s.room - 1) + 1 = omega (arith, c.requires.room, ap (λ (x : HistoryView). x.room) c.self.view_is) in
    (s.room - 1, subst (AreRowTables 0 s.tables.items s.order) one c.self.invariant.tables_hold)

pub invariant_of-self : goal.invariant_of-self
invariant_of-self c =
    let s = c.self.inside in
    let one : s.room ≡ (s.room - 1) + 1 = omega (arith, c.requires.room, ap (λ (x : HistoryView). x.room) c.self.view_is) in
    record {
      tables_hold = c.insert_row.ensures.hold (s.room - 1) (subst (AreRowTables 0 s.tables.items s.order) one c.self.invariant.tables_hold);
      counted = row_known s.exponent (items_in s.order.items) (items_in c.insert_row.new.order.items) s.room (s.room - 1) s.limit_counts c.self.invariant.counted (c.if-not-insert_row.ensures.known refl) one;
    }

pub invariant_of-self-then-table-eq-TM : goal.invariant_of-self-then-table-eq-TM
invariant_of-self-then-table-eq-TM c =
    let s = c.self.inside in
    let row = c.args.row in
    let added = c.add_octets.ensures in
    let one : s.room ≡ (s.room - 1) + 1 = omega (arith, c.requires.room, ap (λ (x : HistoryView). x.room) c.self.view_is) in
    let within = subst (λ (x : HistoryView). IsWithin x.exponent (rows_in x.items ++ row ∷ [])) (sym c.self.view_is) c.requires.within in
    record {
      tables_hold = c.insert_row.ensures.hold (s.room - 1) (subst (AreRowTables 0 s.tables.items s.order) one c.self.invariant.tables_hold);
      counted = row_counted s.exponent (items_in s.order.items) (items_in c.insert_row.new.order.items) s.room (s.room - 1) s.limit_counts c.add_row.new.self row c.self.invariant.counted c.insert_row.ensures.items (c.if-not-insert_row.ensures.fresh refl) within one
          (c.add_row.ensures.octets ∙ ap (λ (m : LimitCountsView). m.octets) added ∙ ap (λ (n : ℕ). s.limit_counts.octets + n) c.len-octets.ensures.value)
          (λ i. c.add_row.ensures.rows i ∙ ap (λ (m : LimitCountsView). interval_row_count m.rows i + one_at c.interval_of_row-interval.result i) added ∙ ap (λ (n : ℕ). interval_row_count s.limit_counts.rows i + n) (adds_here s.exponent row c.interval_of_row-interval.result i (omega (arith, c.if-table-eq-TM.true)) c.interval_of_row-interval.ensures))
          (omega (arith, c.add_row.ensures.room, ap (λ (m : LimitCountsView). m.room) added));
    }

pub invariant_of-self-else-table-eq-TM : goal.invariant_of-self-else-table-eq-TM
invariant_of-self-else-table-eq-TM c =
    let s = c.self.inside in
    let row = c.args.row in
    let added = c.add_octets.ensures in
    let one : s.room ≡ (s.room - 1) + 1 = omega (arith, c.requires.room, ap (λ (x : HistoryView). x.room) c.self.view_is) in
    let within = subst (λ (x : HistoryView). IsWithin x.exponent (rows_in x.items ++ row ∷ [])) (sym c.self.view_is) c.requires.within in
    record {
      tables_hold = c.insert_row.ensures.hold (s.room - 1) (subst (AreRowTables 0 s.tables.items s.order) one c.self.invariant.tables_hold);
      counted = row_counted s.exponent (items_in s.order.items) (items_in c.insert_row.new.order.items) s.room (s.room - 1) s.limit_counts c.add_octets.new.self row c.self.invariant.counted c.insert_row.ensures.items (c.if-not-insert_row.ensures.fresh refl) within one
          (ap (λ (m : LimitCountsView). m.octets) added ∙ ap (λ (n : ℕ). s.limit_counts.octets + n) c.len-octets.ensures.value)
          (λ i. let none = adds_nothing s.exponent row i (λ is. omega (arith, is, c.if-table-eq-TM.false)) in omega (arith, none, ap (λ (m : LimitCountsView). interval_row_count m.rows i) added))
          (omega (arith, ap (λ (m : LimitCountsView). m.room) added));
    }
