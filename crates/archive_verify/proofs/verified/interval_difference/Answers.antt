use Rattle.std.proofs.Common.{◌≡◌, ◌∙◌, ◌⊎◌, ◌<◌, ℕ, List, length, Option, Some, None, ap, subst}
use Rattle.std.specs.Prelude.{IfSome, IfNone}
use Rattle.std.specs.List.{filter_map}
use Rattle.std.specs.Arc.{arc_value}
use Rattle.arch_types.specs.declared.row.Row.{Row}
use Rattle.container_extract.specs.Extraction.{cell_of}
use Rattle.history_items.specs.Databases.{database_in}
use Rattle.history_items.specs.Late.{IsLate}
use Rattle.interval_fills.specs.Intervals.{rows_of_interval}
use Rattle.mdb_items.specs.Database.{Database}
use Rattle.param_segments.specs.Cells.{set_cells}
use Rattle.param_segments.specs.Rows.{SetRow}
use Rattle.store_fills.specs.LastFills.{fill_over, fillings_in}
use Rattle.archive_store.specs.CurrentSets.{IsCurrentSet}
use Rattle.archive_store.specs.StoreView.{StoreView, filled_of}
use Rattle.archive_store.proofs.ReadOn.{reads_but_disk}
use Rattle.archive_verify.specs.ComparedSets.{IsFirstSetDifference}
use Rattle.archive_verify.specs.Verified.{HoldsWhereCurrent, IsIntervalMismatch}
use Rattle.archive_verify.proofs.Currents.{current_of, holds_of_sets, mismatch_of_sets, none_current}
use Rattle.archive_verify.proofs.verified.interval_difference.Goals as goal

some_weaker : {A : Type 0} (P Q : A → Type 0) → ((a : A) → P a → Q a) → (o : Option A) → IfSome o P → IfSome o Q
some_weaker P Q by None is = tt
some_weaker P Q by (Some a) is = by a is

none_weaker : {A : Type 0} (P Q : Type 0) → (P → Q) → (o : Option A) → IfNone o P → IfNone o Q
none_weaker P Q by None is = by is
none_weaker P Q by (Some a) is = tt

-- what the rows of an interval give, under other names of its database and of them
gives_named : (db named : Database) (rows_named rows : List Row) (replayed : List SetRow) → named ≡ db → rows_named ≡ rows
    → ((q : ℕ) → set_cells named q replayed ≡ filter_map (cell_of named q) rows_named) → (q : ℕ) → set_cells db q replayed ≡ filter_map (cell_of db q) rows
gives_named db named rows_named rows replayed same_db same_rows gives q =
    subst (λ (x : Database). set_cells x q replayed ≡ filter_map (cell_of x q) rows) same_db
    (subst (λ (l : List Row). set_cells named q replayed ≡ filter_map (cell_of named q) l) same_rows (gives q))

pub returns-clause-some : goal.returns-clause-some
returns-clause-some g c = λ tells.
    let device = g.D.Disk.device in
    let store = c.args.store.now in
    let i = c.args.interval in
    let set = arc_value c.in-Some.stored in
    let db = database_in store.head.mdb store.history in
    let named = c.mdb-mdb.result.now in
    let left = reads_but_disk device store c.interval_rows.new.self c.in_ok-rows.ensures.same in
    let same_db : named ≡ db = c.mdb-mdb.ensures ∙ ap (λ (s : StoreView g.row.D.Denot). database_in s.head.mdb s.history) left in
    let current : IsCurrentSet store i set = subst (λ o. IfSome o (λ s. IsCurrentSet store i (arc_value s))) c.in-Some.is c.in_ok-stored.ensures.some in
    let fill = current_of store i set c.is_kept.ensures.bases c.requires current in
    let replayed = c.in_ok-replayed.replayed in
    let rows = c.in_ok-rows.ensures.rows tells in
    let gives = gives_named db named c.in_ok-rows.rows (rows_of_interval store.exponent i store.history) replayed same_db rows c.in_ok-replayed.ensures.cells in
    let answer = c.in_ok-set_difference.field-0 in
    let found = subst (λ (x : Database). IfSome answer (IsFirstSetDifference x set replayed)) same_db
    (subst (λ (s : List SetRow). IfSome answer (IsFirstSetDifference named s replayed)) c.deref.ensures c.in_ok-set_difference.ensures.some) in
    some_weaker (IsFirstSetDifference db set replayed) (IsIntervalMismatch (filled_of store) i)
    (λ d is. mismatch_of_sets (filled_of store) i (fill_over current.base set) replayed d fill gives is) answer found

pub returns-clause-none : goal.returns-clause-none
returns-clause-none g c = λ tells.
    let device = g.D.Disk.device in
    let store = c.args.store.now in
    let i = c.args.interval in
    let set = arc_value c.in-Some.stored in
    let db = database_in store.head.mdb store.history in
    let named = c.mdb-mdb.result.now in
    let left = reads_but_disk device store c.interval_rows.new.self c.in_ok-rows.ensures.same in
    let same_db : named ≡ db = c.mdb-mdb.ensures ∙ ap (λ (s : StoreView g.row.D.Denot). database_in s.head.mdb s.history) left in
    let current : IsCurrentSet store i set = subst (λ o. IfSome o (λ s. IsCurrentSet store i (arc_value s))) c.in-Some.is c.in_ok-stored.ensures.some in
    let fill = current_of store i set c.is_kept.ensures.bases c.requires current in
    let replayed = c.in_ok-replayed.replayed in
    let rows = c.in_ok-rows.ensures.rows tells in
    let gives = gives_named db named c.in_ok-rows.rows (rows_of_interval store.exponent i store.history) replayed same_db rows c.in_ok-replayed.ensures.cells in
    let answer = c.in_ok-set_difference.field-0 in
    let same = subst (λ (x : Database). IfNone answer ((q : ℕ) → set_cells x q set ≡ set_cells x q replayed)) same_db
    (subst (λ (s : List SetRow). IfNone answer ((q : ℕ) → set_cells named q s ≡ set_cells named q replayed)) c.deref.ensures c.in_ok-set_difference.ensures.none) in
    none_weaker ((q : ℕ) → set_cells db q set ≡ set_cells db q replayed) (HoldsWhereCurrent (filled_of store) i)
    (λ all. holds_of_sets (filled_of store) i (fill_over current.base set) replayed fill gives all) answer same

pub returns-in_default-clause-none : goal.returns-in_default-clause-none
returns-in_default-clause-none g c = λ tells.
    let store = c.args.store.now in
    let i = c.args.interval in
    none_current store i c.is_kept.ensures.bases (subst (λ o. IfNone o (IsLate store.exponent i store.history store.fills ⊎ (fillings_in store.filled i ≡ None))) c.in_default.is c.in_ok-stored.ensures.none)

-- its parameter is one of the database in force
pub returns-clause-known : goal.returns-clause-known
returns-clause-known g c =
    let device = g.D.Disk.device in
    let store = c.args.store.now in
    let set = arc_value c.in-Some.stored in
    let db = database_in store.head.mdb store.history in
    let named = c.mdb-mdb.result.now in
    let left = reads_but_disk device store c.interval_rows.new.self c.in_ok-rows.ensures.same in
    let same_db : named ≡ db = c.mdb-mdb.ensures ∙ ap (λ (s : StoreView g.row.D.Denot). database_in s.head.mdb s.history) left in
    let replayed = c.in_ok-replayed.replayed in
    let answer = c.in_ok-set_difference.field-0 in
    let found = subst (λ (x : Database). IfSome answer (IsFirstSetDifference x set replayed)) same_db
    (subst (λ (s : List SetRow). IfSome answer (IsFirstSetDifference named s replayed)) c.deref.ensures c.in_ok-set_difference.ensures.some) in
    some_weaker (IsFirstSetDifference db set replayed) (λ d. d.parameter < length db.parameters) (λ d is. is.known) answer found
