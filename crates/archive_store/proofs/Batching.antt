-- The rows of a batch are rows that a record may add.
use Rattle.std.proofs.Common.{◌≡◌, ℕ, ℤ, ◌*◌, ◌<◌, ◌≤◌, ◌^◌, List, [], ◌∷◌, ◌++◌, length, map, refl, sym, ap, subst, ◌∙◌, arith, length-append}
use Rattle.std.specs.List.{flat_map, AllByRecursion}
use Rattle.block_map.proofs.Rising.{all_append}
use Rattle.arch_types.specs.declared.inserted.Inserted.{Inserted}
use Rattle.arch_types.specs.declared.inserted.Inserted.TheVariants.{New, Duplicate}
use Rattle.arch_types.specs.declared.row.Row.{Row}
use Rattle.arch_types.specs.GenerationTime.{key_of}
use Rattle.octet_fields.specs.Exact.{IsOctets}
use Rattle.history_items.specs.declared.items.Item.{Item}
use Rattle.history_items.specs.Items.{rows_in}
use Rattle.history_items.specs.Databases.{names_in}
use Rattle.history_items.specs.Outcomes.{answered_new, outcomes_of, fresh_of}
use Rattle.history_items.proofs.Outcomes.{fresh_new, length-fresh}
use Rattle.field_codec.specs.declared.entry.Entry.TheVariants as entries
use Rattle.row_codec.specs.Rows.{IsStored}
use Rattle.field_codec.specs.Entries.{IsArchiveEntry}
use Rattle.text_forms.specs.ClockTime.{IsClockTime}
use Rattle.archive_store.specs.declared.batch.Arrival.{Arrival}
use Rattle.archive_store.specs.declared.batch.Batch.{Batch}
use Rattle.archive_images.specs.declared.head.Head.{Head}
use Rattle.archive_store.specs.Batches.{arrival_rows, batch_rows, in_table, IsArrival, IsBatch}
use Rattle.archive_images.specs.Entries.{archive, IsPlaced, AreAdmitted}
use Rattle.archive_history.specs.Limits.{IsWithin}

all_answered : (P : Row → Type 0) (outcomes : List Inserted) (rows : List Row) → AllByRecursion P rows → AllByRecursion P (answered_new outcomes rows)
all_answered P [] rows all = tt
all_answered P (o ∷ outcomes) [] all = tt
all_answered P (New p ∷ outcomes) (row ∷ rows) all = (all.0, all_answered P outcomes rows all.1)
all_answered P (Duplicate p ∷ outcomes) (row ∷ rows) all = all_answered P outcomes rows all.1

all_weaker : {X : Type 0} (P Q : X → Type 0) (xs : List X) → ((x : X) → P x → Q x) → AllByRecursion P xs → AllByRecursion Q xs
all_weaker P Q [] f all = tt
all_weaker P Q (x ∷ xs) f all = (f x all.0, all_weaker P Q xs f all.1)

module _ (head : Head) (history : List Item) (rectime : ℤ) (clock : IsClockTime rectime) (few : length head.tables ≤ 16) (names : length (names_in head.mdb history) < 2 ^ 16) where
  -- a row that a record may hold, with its table and name
  abbrev Fits : Row → Type 0
  Fits row = IsStored row × IsPlaced head history row

  row_fits : (arrival : Arrival) (table : ℕ) → IsArrival head history rectime arrival → table < length head.tables → Fits (in_table arrival.row table)
  row_fits arrival table is within = (
    record {
      table = omega (arith, within, few);
      rectime = subst IsClockTime (sym is.received) clock;
      link = (is.link_low, omega (arith, is.link_high));
      pname = omega (arith, is.pname, names);
      packet = is.packet;
      kept = is.carries;
      key = is.key ∙ ap (key_of arrival.row.packet) (sym is.received);
    },
    record { table = within; pname = is.pname },
  )

  tables_fit : (arrival : Arrival) (tables : List ℕ) → IsArrival head history rectime arrival → AllByRecursion (λ table. table < length head.tables) tables → AllByRecursion Fits (map (in_table arrival.row) tables)
  tables_fit arrival [] is all = tt
  tables_fit arrival (t ∷ tables) is all = (row_fits arrival t is all.0, tables_fit arrival tables is all.1)

  rows_fit : (arrivals : List Arrival) → AllByRecursion (IsArrival head history rectime) arrivals → AllByRecursion Fits (flat_map arrival_rows arrivals)
  rows_fit [] all = tt
  rows_fit (a ∷ arrivals) all = all_append Fits (arrival_rows a) (flat_map arrival_rows arrivals) (tables_fit a a.tables all.0 all.0.tables) (rows_fit arrivals all.1)

length-map-row : (f : ℕ → Row) (xs : List ℕ) → length (map f xs) ≡ length xs
length-map-row f [] = refl
length-map-row f (x ∷ xs) = omega (arith, length-map-row f xs)

few_rows : (head : Head) (history : List Item) (rectime : ℤ) (arrivals : List Arrival) → AllByRecursion (IsArrival head history rectime) arrivals → length (flat_map arrival_rows arrivals) ≤ 16 * length arrivals
few_rows head history rectime [] all = omega arith
few_rows head history rectime (a ∷ arrivals) all =
    let few : length a.tables ≤ 16 = all.0.few_tables in
    omega (arith, few_rows head history rectime arrivals all.1, length-append (arrival_rows a) (flat_map arrival_rows arrivals), length-map-row (in_table a.row) a.tables, few)

-- the new rows of a batch may be added
pub admitted : (head : Head) (exponent : ℕ) (history : List Item) (batch : Batch) → IsArchiveEntry (entries.Head head.tables head.mdb) → length (names_in head.mdb history) < 2 ^ 16 → IsBatch head history batch
    → 1 ≤ length (fresh_of history (batch_rows batch)) → IsWithin exponent (rows_in history ++ fresh_of history (batch_rows batch))
    → AllByRecursion (λ row. IsOctets row.packet) (fresh_of history (batch_rows batch)) → AreAdmitted (archive head exponent history) (fresh_of history (batch_rows batch))
admitted head exponent history batch fits names is some within octets =
    let rows = batch_rows batch in
    let all : AllByRecursion (Fits head history batch.rectime is.rectime fits.0.few names) (fresh_of history rows) =
    all_answered (Fits head history batch.rectime is.rectime fits.0.few names) (outcomes_of history rows) rows (rows_fit head history batch.rectime is.rectime fits.0.few names batch.arrivals is.each) in
    record {
      spelled = record {
        some = some;
        few = omega (arith, length-fresh history rows, few_rows head history batch.rectime batch.arrivals is.each, is.few);
        each = all_weaker (Fits head history batch.rectime is.rectime fits.0.few names) IsStored (fresh_of history rows) (λ row p. p.0) all;
      };
      placed = all_weaker (Fits head history batch.rectime is.rectime fits.0.few names) (IsPlaced head history) (fresh_of history rows) (λ row p. p.1) all;
      octets = octets;
      fresh = fresh_new history rows;
      within = within;
    }

-- the tables of rows that are placed
pub placed_tables : (head : Head) (history : List Item) (rows : List Row) (tables : ℕ) → tables ≡ length head.tables → AllByRecursion (IsPlaced head history) rows → AllByRecursion (λ row. row.table < tables) rows
placed_tables head history rows tables same all = all_weaker (IsPlaced head history) (λ row. row.table < tables) rows (λ row p. omega (arith, p.table, same)) all
