-- The rows of all runs are judged as they were read.
use Rattle.std.proofs.Common.{◌≡◌, ℕ, List, [], ◌∷◌, ◌++◌, length, map, true, None, refl, sym, ◌∙◌, subst}
use Rattle.std.specs.Prelude.{◌==◌, ◌&&◌, Option, Some}
use Rattle.std.specs.List.{AllByRecursion, flat_map}
use Rattle.std.proofs.lemmas.Bool.{and_parts}
use Rattle.arch_disk.specs.Image.{Image}
use Rattle.arch_types.specs.declared.key.Key.{Key}
use Rattle.arch_types.specs.declared.row.Row.{Row}
use Rattle.octet_fields.specs.Exact.{IsOctets}
use Rattle.history_items.specs.Items.{items_of}
use Rattle.history_items.proofs.ItemLists.{no_databases}
use Rattle.run_pages.specs.Order.{are_ordered, follows}
use Rattle.run_pages.specs.Placed.{Placed, behind_positions, rows_of_placed}
use Rattle.run_pages.specs.Runs.{IsRunFile, first_row_key}
use Rattle.run_pages.proofs.OrderedRows.{eq_true}
use Rattle.seal_codec.specs.declared.seal.Seal.{Seal}
use Rattle.seal_codec.specs.declared.seal.SealedRun.{SealedRun}
use Rattle.sealed_sums.specs.InOrder.{AreInOrder}
use Rattle.archive_images.specs.declared.head.Head.{Head}
use Rattle.archive_images.specs.Entries.{Archive, FilledArchive, IsPlaced, filled_archive}
use Rattle.archive_images.specs.SealFiles.{HaveParts, HaveRuns, Part}
use Rattle.archive_images.proofs.Archived.{all_more}
use Rattle.archive_images.specs.Below.{AreSealedFills, PartsMake, fillings_of, rows_of_part, rows_of_parts}
use Rattle.sealed_images.specs.Damage.{AreRunsIn, AreSealsIn, rows_of_placed_runs}
use Rattle.sealed_images.specs.Laws.{RowsAreJudgedAsRead}
use Rattle.sealed_images.specs.Verdict.{AreAllPlaced, ArePositions, AreRunsPlaced, MaySealAsRead}
use Rattle.sealed_images.proofs.AnyOrder.{all_in_order, all_of_order, history_in_order, history_of_order, within_in_order, within_of_order}
use Rattle.sealed_images.proofs.LogReads.{placed_same}
use Rattle.sealed_images.proofs.Positions.{positions_of_order, rows_in_order}

-- ---- the table of a run

each_table : (table : ℕ) (first : Key) (last : Option Key) (rows : List Placed) → are_ordered table first None last (rows_of_placed rows) ≡ true → AllByRecursion (λ (at : Placed). at.row.table ≡ table) rows
each_table table first last [] ordered = tt
each_table table first last (at ∷ rows) ordered =
    let own = and_parts (at.row.table == table) (follows first last at.row.key && are_ordered table first None (Some at.row.key) (rows_of_placed rows)) ordered in
    let rest = and_parts (follows first last at.row.key) (are_ordered table first None (Some at.row.key) (rows_of_placed rows)) own.1 in
    (eq_true at.row.table table own.0, each_table table first (Some at.row.key) rows rest.1)

tables_of_run : (content : List ℕ) (table : ℕ) (rows : List Placed) → IsRunFile content table rows → AllByRecursion (λ (at : Placed). at.row.table ≡ table) rows
tables_of_run content table rows run = each_table table (first_row_key rows) None rows run.run_rows.ordered

-- a run has a row, so it has one table
table_is : (head : Head) (named table : ℕ) (rows : List Placed) → AllByRecursion (λ (at : Placed). at.row.table ≡ table) rows → are_ordered table (first_row_key rows) None None (rows_of_placed rows) ≡ true
    → AllByRecursion (λ (at : Placed). (at.row.table ≡ named) × IsPlaced head [] at.row) rows → table ≡ named
table_is head named table [] tables ordered placed = absurd cc
table_is head named table (at ∷ rows) tables ordered placed = sym tables.0 ∙ placed.0.0

-- ---- from files that were read to parts

runs_had : (image : Image) (head : Head) (runs : List SealedRun) (rows : List (List Placed)) → AreRunsIn image runs rows → AreRunsPlaced head runs rows → HaveRuns image runs rows
runs_had image head [] [] are placed = tt
runs_had image head [] (x ∷ rows) are placed = absurd cc
runs_had image head (run ∷ runs) [] are placed = absurd are
runs_had image head (run ∷ runs) (x ∷ rows) are placed = (
  subst (λ (t : ℕ). IsRunFile (image run.file) t x) (table_is head run.table are.0.0 x (tables_of_run (image run.file) are.0.0 x are.0.1) are.0.1.run_rows.ordered placed.0) are.0.1,
  runs_had image head runs rows are.1 placed.1,
)

parts_had : (image : Image) (old : Archive) (before : List Row) (all : List Seal) (parts : List Part) → AreSealsIn image old before all parts → AreAllPlaced old.head all parts → HaveParts image all parts
parts_had image old before [] [] are placed = tt
parts_had image old before [] (part ∷ parts) are placed = absurd cc
parts_had image old before (seal ∷ all) [] are placed = absurd are
parts_had image old before (seal ∷ all) (part ∷ parts) are placed =
    (runs_had image old.head seal.runs part.runs are.0 placed.0, are.1.has, parts_had image old (before ++ rows_of_placed_runs part.runs) all parts are.2 placed.1)

fills_had : (image : Image) (old : Archive) (before : List Row) (all : List Seal) (parts : List Part) → AreSealsIn image old before all parts → AreSealedFills old before all parts
fills_had image old before [] parts are = are
fills_had image old before (seal ∷ all) [] are = absurd are
fills_had image old before (seal ∷ all) (part ∷ parts) are = (are.1.may, fills_had image old (before ++ rows_of_placed_runs part.runs) all parts are.2)

-- ---- tables and packet names, run by run

all_front : {X : Type 0} (P : X → Type 0) (xs ys : List X) → AllByRecursion P (xs ++ ys) → AllByRecursion P xs × AllByRecursion P ys
all_front P [] ys all = (tt, all)
all_front P (x ∷ xs) ys all = let rest = all_front P xs ys all.1 in ((all.0, rest.0), rest.1)

abbrev HasPlacedRow : Head → Placed → Type 0
HasPlacedRow head at = IsPlaced head [] at.row

both_placed : (head : Head) (named : ℕ) (rows : List Placed) → AllByRecursion (λ (at : Placed). at.row.table ≡ named) rows → AllByRecursion (HasPlacedRow head) rows → AllByRecursion (λ (at : Placed). (at.row.table ≡ named) × IsPlaced head [] at.row) rows
both_placed head named [] tables placed = tt
both_placed head named (at ∷ rows) tables placed = ((tables.0, placed.0), both_placed head named rows tables.1 placed.1)

runs_placed : (image : Image) (head : Head) (runs : List SealedRun) (rows : List (List Placed)) → HaveRuns image runs rows → AllByRecursion (HasPlacedRow head) (flat_map (λ (run : List Placed). run) rows) → AreRunsPlaced head runs rows
runs_placed image head [] [] have placed = refl
runs_placed image head [] (x ∷ rows) have placed = absurd have
runs_placed image head (run ∷ runs) [] have placed = absurd have
runs_placed image head (run ∷ runs) (x ∷ rows) have placed =
    let parts = all_front (HasPlacedRow head) x (flat_map (λ (r : List Placed). r) rows) placed in
    (both_placed head run.table x (tables_of_run (image run.file) run.table x have.0) parts.0, runs_placed image head runs rows have.1 parts.1)

parts_placed : (image : Image) (head : Head) (all : List Seal) (parts : List Part) → HaveParts image all parts → AllByRecursion (HasPlacedRow head) (rows_of_parts parts) → AreAllPlaced head all parts
parts_placed image head [] [] have placed = refl
parts_placed image head [] (part ∷ parts) have placed = absurd have
parts_placed image head (seal ∷ all) [] have placed = absurd have
parts_placed image head (seal ∷ all) (part ∷ parts) have placed =
    let split = all_front (HasPlacedRow head) (rows_of_part part) (rows_of_parts parts) placed in
    (runs_placed image head seal.runs part.runs have.0 split.0, parts_placed image head all parts have.2 split.1)

-- and of all rows
rows_placed : (head : Head) (runs : List SealedRun) (rows : List (List Placed)) → AreRunsPlaced head runs rows → AllByRecursion (HasPlacedRow head) (flat_map (λ (run : List Placed). run) rows)
rows_placed head [] rows placed = subst (λ (l : List (List Placed)). AllByRecursion (HasPlacedRow head) (flat_map (λ (run : List Placed). run) l)) (sym placed) tt
rows_placed head (run ∷ runs) [] placed = absurd placed
rows_placed head (run ∷ runs) (x ∷ rows) placed = all_more (HasPlacedRow head) x (flat_map (λ (r : List Placed). r) rows) (only_placed x placed.0) (rows_placed head runs rows placed.1)
  where
    only_placed : (l : List Placed) → AllByRecursion (λ (at : Placed). (at.row.table ≡ run.table) × IsPlaced head [] at.row) l → AllByRecursion (HasPlacedRow head) l
    only_placed [] all = tt
    only_placed (at ∷ l) all = (all.0.1, only_placed l all.1)

all_parts_placed : (head : Head) (all : List Seal) (parts : List Part) → AreAllPlaced head all parts → AllByRecursion (HasPlacedRow head) (rows_of_parts parts)
all_parts_placed head [] parts placed = subst (λ (l : List Part). AllByRecursion (HasPlacedRow head) (rows_of_parts l)) (sym placed) tt
all_parts_placed head (seal ∷ all) [] placed = absurd placed
all_parts_placed head (seal ∷ all) (part ∷ parts) placed =
    all_more (HasPlacedRow head) (rows_of_part part) (rows_of_parts parts) (rows_placed head seal.runs part.runs placed.0) (all_parts_placed head all parts placed.1)

-- rows, with their positions or without
bare_all : (P : Row → Type 0) (placed : List Placed) → AllByRecursion (λ (at : Placed). P at.row) placed → AllByRecursion P (rows_of_placed placed)
bare_all P [] all = tt
bare_all P (at ∷ placed) all = (all.0, bare_all P placed all.1)

all_bare : (P : Row → Type 0) (placed : List Placed) → AllByRecursion P (rows_of_placed placed) → AllByRecursion (λ (at : Placed). P at.row) placed
all_bare P [] all = tt
all_bare P (at ∷ placed) all = (all.0, all_bare P placed all.1)

-- ---- the law

-- rows that may be sealed as they were read may be in the order of their positions
in_order : (image : Image) (old : Archive) (all : List Seal) (sealed : ℕ) (parts : List Part) → AreSealsIn image old [] all parts → (may : MaySealAsRead old all sealed parts)
    → (rows : List Row) → AreInOrder (behind_positions (rows_of_parts parts)) rows → length rows ≡ sealed → PartsMake old all sealed parts (filled_archive old.head old.exponent (items_of rows) (fillings_of parts))
in_order image old all sealed parts are may rows order count =
    let placed : List Placed = rows_of_parts parts in
    record {
      rows = rows;
      in_order = order;
      count = count;
      admitted = record {
        history = history_in_order placed rows order may.history;
        placed = placed_same old.head [] (items_of rows) refl (no_databases rows) rows
            (all_in_order placed rows order (IsPlaced old.head []) (bare_all (IsPlaced old.head []) placed (all_parts_placed old.head all parts may.placed)));
        octets = all_in_order placed rows order (λ (row : Row). IsOctets row.packet) may.octets;
        within = within_in_order placed rows order old.exponent may.within;
      };
      fills = fills_had image old [] all parts are;
      made_is = refl;
    }

pub judged_as_read : RowsAreJudgedAsRead
judged_as_read image old all sealed parts are = (there, back)
  where
    there : MaySealAsRead old all sealed parts → HaveParts image all parts × (made : FilledArchive) × PartsMake old all sealed parts made
    there may =
        let found = rows_in_order (rows_of_parts parts) sealed may.positions in (
          parts_had image old [] all parts are may.placed,
          filled_archive old.head old.exponent (items_of found.0) (fillings_of parts),
          in_order image old all sealed parts are may found.0 found.1 found.2,
        )

    back : HaveParts image all parts × (made : FilledArchive) × PartsMake old all sealed parts made → MaySealAsRead old all sealed parts
    back (have, made, make) =
        let placed : List Placed = rows_of_parts parts in
        record {
          placed = parts_placed image old.head all parts have (all_bare (IsPlaced old.head []) placed
              (all_of_order placed make.rows make.in_order (IsPlaced old.head [])
              (placed_same old.head (items_of make.rows) [] (no_databases make.rows) refl make.rows make.admitted.placed)));
          positions = subst (ArePositions (map (λ (at : Placed). at.position) placed)) make.count (positions_of_order placed make.rows make.in_order);
          history = history_of_order placed make.rows make.in_order make.admitted.history;
          octets = all_of_order placed make.rows make.in_order (λ (row : Row). IsOctets row.packet) make.admitted.octets;
          within = within_of_order placed make.rows make.in_order old.exponent make.admitted.within;
        }
