-- Partitions that hold what is selected.
use Rattle.std.proofs.Common.{◌≡◌, ℕ, ◌+◌, ◌<◌, List, [], ◌∷◌, ◌++◌, length, get_or, map, take, zero, suc, refl, sym, ap, ◌∙◌, subst, arith, append-nil, append_assoc}
use Rattle.std.specs.Prelude.{filter, flat_map, Result, Ok, Err, IfOk}
use Rattle.std.specs.List.{AllByRecursion, range_with_len}
use Rattle.std.proofs.Math.Seq.{take-suc}
use Rattle.std.proofs.lemmas.List.{map-append, take_all}
use Rattle.std.proofs.lemmas.List.Elements.{Contains-append_left, Contains-append_right}
use Rattle.text_forms.specs.ClockTime.{IsClockTime}
use Rattle.arch_types.specs.declared.row.Row.{Row}
use Rattle.arch_types.specs.declared.spans.Span.{Span}
use Rattle.arch_types.specs.History.{is_in_table}
use Rattle.history_items.specs.declared.items.Item.{Item}
use Rattle.history_items.specs.Items.{rows_in}
use Rattle.partitions.specs.declared.bounds.Bounds.{Bounds}
use Rattle.partitions.specs.declared.partition.Partition.{Partition}
use Rattle.replay_merge.specs.Laws.{HoldsPruned}
use Rattle.ssql_select.specs.declared.show.ShowLine.{ShowLine}
use Rattle.ssql_select.specs.declared.show.ShowLine.TheVariants.{Histogram}
use Rattle.ssql_select.specs.Selection.{HoldsSelected}
use Rattle.ssql_select.specs.SelectionText.{selection_text}
use Rattle.ssql_types.specs.declared.query.TypedSelect.{TypedSelect}
use Rattle.archive_store.specs.Head.{Head}
use Rattle.archive_store.specs.Entries.{IsArchivedRow}
use Rattle.archive_store.specs.Replays.{ArePartitions, rows_below}
use Rattle.archive_store.proofs.Times.{archived_time}
use Rattle.script_answers.specs.Statements.{AreSourceParts, name_spans}

-- each row of an archive has a moment of the clock
pub all_clocked : (head : Head) (history : List Item) (rows : List Row) → AllByRecursion (IsArchivedRow head history) rows → AllByRecursion (λ row. IsClockTime row.key.time) rows
all_clocked head history [] all = tt
all_clocked head history (row ∷ rows) all = (archived_time head history row all.0, all_clocked head history rows all.1)

-- the rows below the front are all of them
pub whole_rows : (history : List Item) (front : ℕ) → front ≡ length history → rows_below history front ≡ rows_in history
whole_rows history front is = ap rows_in (take_all front history (omega (arith, is)))

-- ---- the partitions of tables

module _ (bounds : Bounds) (history : List Item) where
  -- those of one table more
  behind_sources : (tables : List ℕ) (table : ℕ) (parts more : List Partition) → AreSourceParts history bounds tables parts → ArePartitions history table bounds more →
      AreSourceParts history bounds (tables ++ table ∷ []) (parts ++ more)
  behind_sources [] table parts more are found = (more, [], found, refl, ap (λ (l : List Partition). l ++ more) are ∙ sym (append-nil more))
  behind_sources (first ∷ tables) table parts more (own, others, of_first, of_others, are) found =
      (own, others ++ more, of_first, behind_sources tables table others more of_others found, ap (λ (l : List Partition). l ++ more) are ∙ append_assoc own others more)

  pub one_table_more : (parts more all : List Partition) (tables : List ℕ) (i table : ℕ) → i < length tables → table ≡ get_or tables i table → ArePartitions history table bounds more → all ≡ parts ++ more →
      AreSourceParts history bounds (take i tables) parts → AreSourceParts history bounds (take (i + 1) tables) all
  one_table_more parts more all tables i table within is found put are =
      let next : i + 1 ≡ suc i = omega arith in
      let taken : take i tables ++ table ∷ [] ≡ take (i + 1) tables = ap (λ (t : ℕ). take i tables ++ t ∷ []) is ∙ sym (take-suc tables i table within) ∙ ap (λ (n : ℕ). take n tables) (sym next) in
      subst (AreSourceParts history bounds (take (i + 1) tables)) (sym put)
      (subst (λ (l : List ℕ). AreSourceParts history bounds l (parts ++ more)) taken (behind_sources (take i tables) table parts more are found))

  -- some partitions hold those of each of some tables
  abbrev HoldsTables : List Partition → List ℕ → Type 0
  HoldsTables parts tables = AllByRecursion (λ (table : ℕ). HoldsPruned bounds (filter (is_in_table table) (rows_in history)) parts) tables

  -- and so do more
  held_behind : (before parts : List Partition) (tables : List ℕ) → HoldsTables parts tables → HoldsTables (before ++ parts) tables
  held_behind before parts [] all = tt
  held_behind before parts (table ∷ tables) all = (λ partition noted may. Contains-append_right before parts partition (all.0 partition noted may), held_behind before parts tables all.1)

  pub sources_held : (tables : List ℕ) (parts : List Partition) → AreSourceParts history bounds tables parts → HoldsTables parts tables
  sources_held [] parts are = tt
  sources_held (table ∷ tables) parts (own, others, of_first, of_others, are) =
      subst (λ (l : List Partition). HoldsTables l (table ∷ tables)) (sym are)
      (λ partition noted may. Contains-append_left own others partition ((of_first.exactly partition).1 (noted, may)), held_behind own others tables (sources_held tables others of_others))

-- ---- what is selected at the front is what is selected of all rows

pub whole_selection : {E : Type 0} (names : List (List ℕ)) (select : TypedSelect) (parts : List Partition) (history : List Item) (front : ℕ) (r : Result (List ℕ) E) → front ≡ length history →
    HoldsSelected select parts (rows_in history) → IfOk r (λ text. HoldsSelected select parts (rows_below history front) → text ≡ selection_text names select (rows_below history front)) →
    IfOk r (λ text. text ≡ selection_text names select (rows_in history))
whole_selection names select parts history front (Err e) at_end held is = tt
whole_selection names select parts history front (Ok text) at_end held is =
    let whole = whole_rows history front at_end in
    is (subst (HoldsSelected select parts) (sym whole) held) ∙ ap (selection_text names select) whole

-- ---- records name after name

pub flat_range : {A : Type 0} (f : ℕ → List A) (a n : ℕ) → flat_map f (range_with_len a n) ++ f (a + n) ≡ flat_map f (range_with_len a (suc n))
flat_range f a zero = let none : a + 0 ≡ a = omega arith in ap f none ∙ sym (append-nil (f a))
flat_range {A} f a (suc n) =
    let moved : a + suc n ≡ (a + 1) + n = omega arith in
    append_assoc (f a) (flat_map f (range_with_len (a + 1) n)) (f (a + suc n))
    ∙ ap (λ (l : List A). f a ++ l) (ap (λ (k : ℕ). flat_map f (range_with_len (a + 1) n) ++ f k) moved ∙ flat_range f (a + 1) n)

pub records_more : (rows : List Row) (n : ℕ) (lines all : List ShowLine) → lines ≡ flat_map (name_spans rows) (range_with_len 0 n) → all ≡ lines ++ name_spans rows n →
    all ≡ flat_map (name_spans rows) (range_with_len 0 (n + 1))
records_more rows n lines all so_far put =
    let next : suc n ≡ n + 1 = omega arith in
    let here : n ≡ 0 + n = omega arith in
    put ∙ ap (λ (l : List ShowLine). l ++ name_spans rows n) so_far ∙ ap (λ (k : ℕ). flat_map (name_spans rows) (range_with_len 0 n) ++ name_spans rows k) here ∙ flat_range (name_spans rows) 0 n ∙ ap (λ (k : ℕ). flat_map (name_spans rows) (range_with_len 0 k)) next

pub spans_more : (pname : ℕ) (spans : List Span) (i : ℕ) (span : Span) (old lines all : List ShowLine) → i < length spans → span ≡ get_or spans i span → lines ≡ old ++ map (Histogram pname) (take i spans) →
    all ≡ lines ++ Histogram pname span ∷ [] → all ≡ old ++ map (Histogram pname) (take (i + 1) spans)
spans_more pname spans i span old lines all within is so_far put =
    let next : i + 1 ≡ suc i = omega arith in
    put ∙ ap (λ (l : List ShowLine). l ++ Histogram pname span ∷ []) so_far ∙ append_assoc old (map (Histogram pname) (take i spans)) (Histogram pname span ∷ [])
    ∙ ap (λ (l : List ShowLine). old ++ l) (ap (λ (s : Span). map (Histogram pname) (take i spans) ++ Histogram pname s ∷ []) is
    ∙ sym (map-append (Histogram pname) (take i spans) (get_or spans i span ∷ []))
    ∙ ap (map (Histogram pname)) (sym (take-suc spans i span within)) ∙ ap (λ (n : ℕ). map (Histogram pname) (take n spans)) (sym next))
