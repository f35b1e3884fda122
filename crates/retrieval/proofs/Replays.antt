-- The replay of a request, printed step by step.
use Rattle.std.proofs.Common.{◌≡◌, ◌∙◌, ◌+◌, ◌≤◌, ℕ, List, [], ◌∷◌, ◌++◌, length, Bool, true, false, not, Option, Some, None, refl, ap, sym, subst, arith, append_assoc, append-nil, length-append, length-take}
use Rattle.std.specs.Prelude.{filter, fold, unwrap_or, if◌then◌else◌}
use Rattle.std.proofs.lemmas.Grind.{flat_map-append}
use Rattle.std.proofs.lemmas.List.{nil_from_length}
use Rattle.std.proofs.lemmas.List.Filters.{length-filter_both}
use Rattle.asks.specs.declared.ask.ReplayRequest.{ReplayRequest}
use Rattle.arch_types.specs.declared.row.Row.{Row}
use Rattle.arch_types.specs.History.{is_in_table}
use Rattle.arch_types.specs.Order.{is_before, order_by, place_by}
use Rattle.arch_types.specs.Table.{is_in_time_range}
use Rattle.arch_types.specs.Directions.{truncated}
use Rattle.history_items.specs.declared.items.Item.{Item}
use Rattle.history_items.specs.declared.items.Item.TheVariants as items
use Rattle.history_items.specs.Databases.{names_in}
use Rattle.history_items.specs.Items.{rows_in}
use Rattle.archive_store.specs.Head.{Head}
use Rattle.asks.specs.Names.{packet_name_numbers, table_number}
use Rattle.archive_store.specs.Replays.{IsReplayOpened, rows_below}
use Rattle.mdb_items.specs.Texts.{Text}
use Rattle.replay_merge.specs.Cursor.{CursorView, rest_of}
use Rattle.replay_merge.specs.Replay.{has_listed_name, replay_of}
use Rattle.line_buffer.specs.Printed.{IsCutOff, IsPartPrinted, IsPrinted}
use Rattle.line_buffer.proofs.PrintedTexts.{cut_front, part_printed, printed_cut, printed_on}
use Rattle.outer_traits.specs.States.{OutputState}
use Rattle.retrieval.specs.ReplayText.{packet_line, packet_lines}

-- ---- there are at most as many rows as in the history

few_filter : {X : Type 0} (p : X → Bool) (xs : List X) → length (filter p xs) ≤ length xs
few_filter {X} p xs = omega (arith, length-filter_both p (λ (x : X). not (p x)) (λ x. refl) xs)

place-cases : (b : Bool) (row first : Row) (rows placed : List Row) → length placed ≡ length rows + 1 →
    length (if b then row ∷ first ∷ rows else first ∷ placed) ≡ length (first ∷ rows) + 1
place-cases true row first rows placed e = omega arith
place-cases false row first rows placed e = omega arith

length-place : (rows : List Row) (row : Row) → length (place_by is_before rows row) ≡ length rows + 1
length-place [] row = omega arith
length-place (first ∷ rows) row = place-cases (is_before row first) row first rows (place_by is_before rows row) (length-place rows row)

-- putting rows in the order of their keys leaves out none
pub length-order : (done rows : List Row) → length (fold (place_by is_before) done rows) ≡ length done + length rows
length-order done [] = omega arith
length-order done (row ∷ rows) =
    let placed = length-place done row in
    let more = length-order (place_by is_before done row) rows in
    omega (arith, placed, more)

few_truncated : (limit : Option ℕ) (rows : List Row) → length (truncated limit rows) ≤ length rows
few_truncated None rows = omega arith
few_truncated (Some n) rows = omega (arith, length-take n rows)

pub few_replayed : (all : List Text) (table : ℕ) (request : ReplayRequest) (history : List Row) → length (replay_of all table request history) ≤ length history
few_replayed all table request history =
    let names = packet_name_numbers all request.names in
    let rows = filter (is_in_table table) history in
    let ordered = order_by is_before rows in
    let ranged = filter (is_in_time_range request.from request.to) ordered in
    let named = filter (has_listed_name names) ranged in
    let e1 = few_truncated request.limit named in
    let e2 = few_filter (has_listed_name names) ranged in
    let e3 = few_filter (is_in_time_range request.from request.to) ordered in
    let e4 = length-order [] rows in
    let e5 = few_filter (is_in_table table) history in
    omega (arith, e1, e2, e3, e4, e5)

-- ---- a cursor that was opened

-- what it has to give is the replay
pub opened_is : (head : Head) (history : List Item) (request : ReplayRequest) (c : CursorView) → IsReplayOpened head history request c →
    rest_of c (rows_below history) ≡ replay_of (names_in head.mdb history) (unwrap_or (table_number head.tables request.table) 0) request (rows_in history)
opened_is head history request c is =
    let table : c.table ≡ unwrap_or (table_number head.tables request.table) 0 = sym (ap (λ (place : Option ℕ). unwrap_or place 0) is.table) in
    is.replay history ([], append-nil history) ∙ ap (λ (number : ℕ). replay_of (names_in head.mdb history) number request (rows_in history)) table

-- the rows among items
few_rows : (history : List Item) → length (rows_in history) ≤ length history
few_rows [] = omega arith
few_rows (items.Row row ∷ history) = let few = few_rows history in omega (arith, few)
few_rows (items.Mdb database ∷ history) = let few = few_rows history in omega (arith, few)

-- no more rows than the history has items
pub few_rest : (head : Head) (history : List Item) (request : ReplayRequest) (c : CursorView) → IsReplayOpened head history request c → length (rest_of c (rows_below history)) ≤ length history
few_rest head history request c is =
    let few = few_replayed (names_in head.mdb history) c.table request (rows_in history) in
    let same = ap (λ (rows : List Row). length rows) (is.replay history ([], append-nil history)) in
    omega (arith, few, same, few_rows history)

-- ---- a step of it

-- a step that gave no row, behind which nothing is left
pub nothing_left : (rows rest left : List Row) → rows ++ rest ≡ left → length rows ≡ 0 → (rows ≡ [] → rest ≡ []) → left ≡ []
nothing_left rows rest left step none end =
    let here = nil_from_length rows none in
    sym step ∙ ap (λ (rs : List Row). rs ++ rest) here ∙ end here

-- and it is counted
pub all_counted : (count total : ℕ) (left : List Row) → left ≡ [] → count + length left ≡ total → count ≡ total
all_counted count total left none e =
    let zero : length left ≡ 0 = ap (λ (rows : List Row). length rows) none in
    omega (arith, zero, e)

-- the rows of a step are
pub step_counted : (count total : ℕ) (rows rest left : List Row) → rows ++ rest ≡ left → count + length left ≡ total → (count + length rows) + length rest ≡ total
step_counted count total rows rest left step e =
    let parts : length left ≡ length rows + length rest = ap (λ (rs : List Row). length rs) (sym step) ∙ length-append rows rest in
    omega (arith, parts, e)

-- A text was printed, and where rows are told the lines of those that are left stand behind it.
module _ (Told : Type 0) (names : List Text) (table : List ℕ) (first now : OutputState) (buffered printed held : List ℕ) (left all : List Row)
    (tells : Told → printed ++ packet_lines names table left ≡ packet_lines names table all) (is : IsPrinted first now (buffered ++ printed) held) where
  abbrev lines : List Row → List ℕ
  lines = packet_lines names table

  -- none is left, so it is all of it
  pub rows_ended : (Told → left ≡ []) → Told → printed ≡ lines all
  rows_ended none told = sym (append-nil printed) ∙ sym (ap (λ (rows : List Row). printed ++ lines rows) (none told)) ∙ tells told

  -- no more were read
  pub rows_part : (text : List ℕ) × (Told → text ≡ lines all) × IsPartPrinted first now (buffered ++ text)
  rows_part = (
    printed ++ lines left,
    tells,
    subst (IsPartPrinted first now) (append_assoc buffered printed (lines left)) (part_printed first now (buffered ++ printed) (lines left) held is),
  )

  module _ (rows rest : List Row) (step : Told → rows ++ rest ≡ left) (new : OutputState) where
    told_more : Told → (printed ++ lines rows) ++ lines rest ≡ lines all
    told_more told =
        append_assoc printed (lines rows) (lines rest) ∙ ap (λ (l : List ℕ). printed ++ l) (sym (flat_map-append (packet_line names table) rows rest))
        ∙ ap (λ (rs : List Row). printed ++ lines rs) (step told) ∙ tells told

    -- the lines of a step's rows were printed,
    pub rows_on : (last : List ℕ) → IsPrinted now new (held ++ lines rows) last → (more : List ℕ) × (Told → more ++ lines rest ≡ lines all) × IsPrinted first new (buffered ++ more) last
    rows_on last put = (
      printed ++ lines rows,
      told_more,
      subst (λ (t : List ℕ). IsPrinted first new t last) (append_assoc buffered printed (lines rows)) (printed_on first now new (buffered ++ printed) (lines rows) held last is put),
    )

    in_three : ((buffered ++ printed) ++ lines rows) ++ lines rest ≡ buffered ++ ((printed ++ lines rows) ++ lines rest)
    in_three = ap (λ (t : List ℕ). t ++ lines rest) (append_assoc buffered printed (lines rows)) ∙ append_assoc buffered (printed ++ lines rows) (lines rest)

    -- or cut off
    pub rows_cut : IsCutOff now new (held ++ lines rows) → (text : List ℕ) × (Told → text ≡ lines all) × IsCutOff first new (buffered ++ text)
    rows_cut cut = (
      (printed ++ lines rows) ++ lines rest,
      told_more,
      subst (IsCutOff first new) in_three (cut_front first new ((buffered ++ printed) ++ lines rows) (lines rest) (printed_cut first now new (buffered ++ printed) (lines rows) held is cut)),
    )
