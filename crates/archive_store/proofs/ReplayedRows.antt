-- What a store gives as a source, and that the partitions of a replay hold its rows.
use Rattle.std.proofs.Common.{◌≡◌, ℕ, ◌<◌, ◌≤◌, ◌+◌, ◌↔◌, List, [], ◌∷◌, ◌++◌, length, get_or, take, drop, Option, Some, None, refl, sym, ap, ◌∙◌, subst, append-nil, append_assoc, drop-cons, add-one}
use Rattle.std.specs.Prelude.{filter, Contains}
use Rattle.std.specs.List.{AllByRecursion, filter_map, cons_option}
use mathlib.Core.List.{IsPrefix}
use Rattle.std.proofs.Math.ListN.{get_or-map}
use Rattle.std.proofs.Math.Seq.{take-append_seam}
use Rattle.std.proofs.lemmas.List.{length-map, take-append-drop, take-append-le}
use Rattle.std.proofs.lemmas.List.Elements.{recursion_from_All, All-from_recursion}
use Rattle.arch_types.specs.declared.row.Row.{Row}
use Rattle.arch_types.specs.History.{IsHistory, is_in_table}
use Rattle.partitions.specs.Rows.{partitions_of}
use Rattle.archive_history.proofs.Steps.{default_free}
use Rattle.partitions.specs.declared.bounds.Bounds.{Bounds}
use Rattle.partitions.specs.declared.partition.Partition.{Partition}
use Rattle.partitions.specs.Bounds.{MayHold}
use Rattle.replay_merge.specs.Cursor.{CursorView, rest_of}
use Rattle.replay_merge.specs.Replay.{rows_asked, HoldsEachRow}
use Rattle.replay_merge.specs.RowSource.{AreRowSourceHistories, IsKeyedRow, IsRowSourceHistory}
use Rattle.replay_merge.proofs.Bounds.{own_partition, pruned_is_enough}
use Rattle.replay_merge.proofs.Opening.{rest_at_front}
use Rattle.replay_merge.proofs.Pieces.{all_among, all_first}
use Rattle.replay_merge.proofs.Sources.{each_tested}
use Rattle.replay_merge.proofs.Tied.{first_rows}
use Rattle.history_items.specs.declared.items.Item.{Item}
use Rattle.history_items.specs.Items.{rows_in}
use Rattle.history_items.proofs.ItemLists.{rows_in-append}
use Rattle.archive_images.specs.declared.head.Head.{Head}
use Rattle.archive_images.specs.Entries.{IsArchivedRow}
use Rattle.archive_store.specs.Replays.{IsNamedPartition, rows_below}

-- ---- the rows below a front

-- they are the first rows of all
first_of_rows : (front : ℕ) (history : List Item) → take (length (rows_below history front)) (rows_in history) ≡ rows_below history front
first_of_rows front history =
    let first = take front history in
    let rest = drop front history in
    ap (take (length (rows_in first))) (ap rows_in (sym (take-append-drop front history)) ∙ rows_in-append first rest) ∙ take-append_seam (rows_in first) (rows_in rest)

-- they are its rows
pub below_are_its : (front : ℕ) (history : List Item) → AllByRecursion (Contains (rows_in history)) (rows_below history front)
below_are_its front history =
    let rows = rows_in history in
    subst (AllByRecursion (Contains rows)) (first_of_rows front history) (all_first (Contains rows) (length (rows_below history front)) rows (all_among rows))

-- at the end of a history they are its own, also once more came behind it
pub below_its_end : (history later : List Item) (front : ℕ) → front ≡ length history → IsPrefix history later → rows_below later front ≡ rows_in history
below_its_end history later front is begins =
    ap rows_in (ap (λ (n : ℕ). take n later) is ∙ ap (take (length history)) (sym begins.1) ∙ take-append_seam history begins.0)

-- ---- rows of a source

keyed_rows : (head : Head) (history : List Item) (rows : List Row) → AllByRecursion (IsArchivedRow head history) rows → AllByRecursion IsKeyedRow rows
keyed_rows head history [] all = tt
keyed_rows head history (row ∷ rows) all =
    let stored = all.0.stored in
    (record { packet = stored.packet; rectime = stored.rectime; key = stored.key }, keyed_rows head history rows all.1)

-- the rows below each front are a history of such rows
pub source_histories : (head : Head) (history : List Item) → IsHistory (rows_in history) → AllByRecursion (IsArchivedRow head history) (rows_in history) → AreRowSourceHistories (rows_below history)
source_histories head history once all = λ front.
    let rows = rows_in history in
    let n = length (rows_below history front) in
    subst IsRowSourceHistory (first_of_rows front history) (record { once = first_rows n rows once; each = all_first IsKeyedRow n rows (keyed_rows head history rows all) })

in_tables : (head : Head) (history : List Item) (rows : List Row) → AllByRecursion (IsArchivedRow head history) rows → AllByRecursion (λ row. row.table < length head.tables) rows
in_tables head history [] all = tt
in_tables head history (row ∷ rows) all = (all.0.placed.table, in_tables head history rows all.1)

pub below_in_tables : (head : Head) (history : List Item) (front : ℕ) → AllByRecursion (IsArchivedRow head history) (rows_in history) → AllByRecursion (λ row. row.table < length head.tables) (rows_below history front)
below_in_tables head history front all =
    let P : Row → Type 0 = λ row. row.table < length head.tables in
    subst (AllByRecursion P) (first_of_rows front history) (all_first P (length (rows_below history front)) (rows_in history) (in_tables head history (rows_in history) all))

-- ---- a history that grew

-- what is left of a replay is the same over a history that grew behind its front
pub rest_of_later : (c : CursorView) (history later : List Item) → c.front ≤ length history → IsPrefix history later → rest_of c (rows_below later) ≡ rest_of c (rows_below history)
rest_of_later c history later within begins =
    rest_at_front c (rows_below later) (rows_below history) (ap rows_in (ap (take c.front) (sym begins.1) ∙ take-append-le c.front history begins.0 within))

-- ---- the partitions of a replay

-- the partitions that hold a row of the table and may hold one in the bounds hold each row that is asked
pub hold_each : (bounds : Bounds) (table : ℕ) (parts : List Partition) (rows : List Row)
    → ((p : Partition) → Contains parts p ↔ (Contains (partitions_of (filter (is_in_table table) rows)) p × MayHold bounds p))
    → HoldsEachRow parts (rows_asked table bounds.from bounds.to bounds.names rows)
hold_each bounds table parts rows exactly =
    pruned_is_enough bounds table parts rows rows (λ p noted may. (exactly p).1 (noted, may)) ([], append-nil rows)

-- the packet names of partitions that hold a row of a store are those of its history
pub each_named : (head : Head) (history : List Item) (table : ℕ) (whole : List Row) (bounds : Bounds) (parts : List Partition) → AllByRecursion (IsArchivedRow head history) whole
    → ((p : Partition) → Contains parts p ↔ (Contains (partitions_of (filter (is_in_table table) whole)) p × MayHold bounds p))
    → AllByRecursion (IsNamedPartition head history) parts
each_named head history table whole bounds parts all exactly =
    let rows = filter (is_in_table table) whole in
    let archived : AllByRecursion (IsArchivedRow head history) rows = each_tested (IsArchivedRow head history) (IsArchivedRow head history) (is_in_table table) (λ row is e. is) whole all in
    recursion_from_All (IsNamedPartition head history) parts (λ k d h.
    let partition = get_or parts k d in
    let noted = ((exactly partition).0 (k, h, default_free parts k partition d h)).0 in
    let row : Row = get_or rows noted.0 (no_row partition) in
    let within : noted.0 < length rows = rw (length-map rows own_partition) at noted.1 in
    let its : own_partition row ≡ partition = sym (get_or-map own_partition rows noted.0 (no_row partition)) ∙ default_free (partitions_of rows) noted.0 (own_partition (no_row partition)) partition noted.1 ∙ noted.2 in
    subst (IsNamedPartition head history) its (All-from_recursion (IsArchivedRow head history) rows archived noted.0 (no_row partition) within).placed.pname)
  where
    no_row : Partition → Row
    no_row partition = record { key = record { time = partition.day; seq = 0 }; rectime = partition.day; packet = []; link = 0; pname = 0; table = 0 }

-- ---- names that are looked up in a row

module _ {X Y : Type 0} (f : X → Option Y) (xs : List X) (i : ℕ) (d : X) (done all : List Y) (within : i < length xs) (so_far : done ++ filter_map f (drop i xs) ≡ all) where
  next_is : filter_map f (drop i xs) ≡ cons_option (f (get_or xs i d)) (filter_map f (drop (i + 1) xs))
  next_is = rw (add-one, drop-cons xs i d within) refl

  pub one_more : (y : Y) → f (get_or xs i d) ≡ Some y → (done ++ y ∷ []) ++ filter_map f (drop (i + 1) xs) ≡ all
  one_more y is =
      append_assoc done (y ∷ []) (filter_map f (drop (i + 1) xs))
      ∙ ap (λ (rest : List Y). done ++ rest) (sym (next_is ∙ ap (λ (o : Option Y). cons_option o (filter_map f (drop (i + 1) xs))) is)) ∙ so_far

  pub none_more : f (get_or xs i d) ≡ None → done ++ filter_map f (drop (i + 1) xs) ≡ all
  none_more is = ap (λ (rest : List Y). done ++ rest) (sym (next_is ∙ ap (λ (o : Option Y). cons_option o (filter_map f (drop (i + 1) xs))) is)) ∙ so_far
