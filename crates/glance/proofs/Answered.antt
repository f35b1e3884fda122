-- The answer over a publication is the answer over its history.
use Rattle.std.proofs.Common.{◌≡◌, ℕ, ℤ, ◌<ℤ◌, ◌≤ℤ◌, Bool, true, false, cond, true≢false, List, [], ◌∷◌, Some, None, refl, sym, ◌∙◌, ap, subst, arith}
use Rattle.std.specs.Prelude.{◌||◌, filter, int_lt, length}
use Rattle.std.specs.List.{list_any, AllByRecursion}
use Rattle.std.proofs.lemmas.Bool.{and_parts}
use Rattle.std.proofs.lemmas.Bool.Decides.{Decides-int_eq}
use Rattle.std.proofs.lemmas.Int.{ints}
use Rattle.asks.specs.declared.ask.Answer.{Answer}
use Rattle.asks.specs.declared.ask.Request.{Request}
use Rattle.asks.specs.Names.{parameter_number}
use Rattle.asks.specs.Refusals.{request_refusal}
use Rattle.arch_types.specs.declared.row.Row.{Row}
use Rattle.arch_types.specs.Table.{is_in_time_range, range_of, table_of}
use Rattle.intervals.specs.declared.interval.Interval.{Interval}
use Rattle.history_items.specs.declared.fills.Fill.{Fill}
use Rattle.history_items.specs.declared.items.Item.{Item}
use Rattle.history_items.specs.Fills.{is_same}
use Rattle.history_items.specs.Items.{rows_in}
use Rattle.history_items.proofs.Late.{late_by_last}
use Rattle.interval_walks.specs.Turns.{CoverRange, IntervalsRise, rows_in_turn}
use Rattle.interval_walks.proofs.Rising.{range_is}
use Rattle.interval_walks.proofs.Turns.{ranges}
use Rattle.late_marks.specs.Mark.{is_late_by}
use Rattle.part_answers.specs.PartCells.{answer_over_rows}
use Rattle.part_answers.proofs.OverRows.{answer_of_history}
use Rattle.glance_board.specs.declared.contents.PublishedMark.{PublishedMark}
use Rattle.glance_board.specs.Listings.{AreListedMarks, IsMarkOf, StayingFacts, database_of, intervals_of}
use Rattle.glance.specs.Answers.{IsLateAsked, IsLeastLate, IsTimelyAnswer}
use Rattle.glance.specs.Asked.{AreSetsOver, is_asked, is_late_where, late_where, sets_where}
use Rattle.glance.proofs.Asked.{all_both, late_is, late_least, late_there, mark_there, none_late, sets_over}
use Rattle.glance.proofs.Spans.{asked_from, asked_is}

-- ---- intervals that pass a test

all_kept : (P : Interval → Type 0) (test : Interval → Bool) (is : List Interval) → AllByRecursion P is → AllByRecursion P (filter test is)
all_kept P test [] all = tt
all_kept P test (i ∷ is) all = either (test i) (all_kept P test is all.1)
  where
    either : (b : Bool) → AllByRecursion P (filter test is) → AllByRecursion P (cond b (i ∷ filter test is) (filter test is))
    either true rest = (all.0, rest)
    either false rest = rest

rise_kept : (test : Interval → Bool) (is : List Interval) → IntervalsRise is → IntervalsRise (filter test is)
rise_kept test [] rising = tt
rise_kept test (i ∷ is) rising = either (test i) (rise_kept test is rising.1)
  where
    either : (b : Bool) → IntervalsRise (filter test is) → IntervalsRise (cond b (i ∷ filter test is) (filter test is))
    either true rest = (all_kept (λ (j : Interval). i.0 <ℤ j.0) test is rising.0, rest)
    either false rest = rest

or_last : (a b : Bool) → b ≡ true → (a || b) ≡ true
or_last true b e = refl
or_last false b e = e

same_one : (j i : Interval) → is_same j i ≡ true → j ≡ i
same_one j i t = ap (λ (n : ℤ). let k : Interval = record { 0 = n } in k) ((Decides-int_eq j.0 i.0).0 t)

any_kept : (test : Interval → Bool) (j : Interval) (is : List Interval) → test j ≡ true → list_any (is_same j) is ≡ true → list_any (is_same j) (filter test is) ≡ true
any_kept test j [] passes any = any
any_kept test j (i ∷ is) passes any = go (is_same j i) refl (test i) refl any (any_kept test j is passes)
  where
    go : (b : Bool) → is_same j i ≡ b → (c : Bool) → test i ≡ c → (b || list_any (is_same j) is) ≡ true → (list_any (is_same j) is ≡ true → list_any (is_same j) (filter test is) ≡ true)
        → list_any (is_same j) (cond c (i ∷ filter test is) (filter test is)) ≡ true
    go true t true u any rest = ap (λ (b : Bool). b || list_any (is_same j) (filter test is)) t
    go true t false u any rest = absurd (true≢false (sym (subst (λ (k : Interval). test k ≡ true) (same_one j i t) passes) ∙ u))
    go false t true u any rest = or_last (is_same j i) (list_any (is_same j) (filter test is)) (rest any)
    go false t false u any rest = rest any

-- a range that ends no later than it begins has no rows
none_in_range : (low high : ℤ) → high ≤ℤ low → (rows : List Row) → filter (is_in_time_range low high) rows ≡ []
none_in_range low high empty [] = refl
none_in_range low high empty (row ∷ rows) = go (is_in_time_range low high row) refl (none_in_range low high empty rows)
  where
    go : (b : Bool) → is_in_time_range low high row ≡ b → filter (is_in_time_range low high) rows ≡ [] → cond b (row ∷ filter (is_in_time_range low high) rows) (filter (is_in_time_range low high) rows) ≡ []
    go true within rest = absurd (let p = range_is low high row within in omega (arith, ints, p.0, p.1, empty))
    go false without rest = rest

module _ (archive : StayingFacts) (history : List Item) (fills : List Fill) (marks : List PublishedMark) (are : AreListedMarks archive history fills marks) (request : Request) where
  abbrev Asked : Interval → Bool
  Asked = is_asked archive.exponent request

  abbrev IsLateOne : Interval → Type 0
  IsLateOne = IsLateAsked archive history fills request

  -- a mark of an interval that is late and asked for is late
  late_test : (j : Interval) (m : PublishedMark) → IsMarkOf archive history fills m → m.interval ≡ j → IsLateOne j → is_late_where Asked m ≡ true
  late_test j m of_it same late =
      let here = subst IsLateOne (sym same) late in
      let tested = (late_by_last archive.exponent m.interval history fills).1 here.late in
      let by_mark : is_late_by m.last m.base ≡ true = sym (late_is archive history fills m of_it) ∙ tested in
      let asked : Asked m.interval ≡ true = asked_is archive.exponent request m.interval here.some here.meets in
      rw (asked, by_mark) refl

  there : (j : Interval) → IsLateOne j → list_any (is_same j) (intervals_of marks) ≡ true
  there j late = are.cover j late.late.row.position late.late.row.stands

  pub no_late : late_where Asked marks ≡ None → (j : Interval) → IsLateOne j → ⊥
  no_late none j late =
      let both = all_both (IsMarkOf archive history fills) (λ m. is_late_where Asked m ≡ false) marks are.each (none_late Asked marks none) in
      let m = mark_there (λ m. IsMarkOf archive history fills m × (is_late_where Asked m ≡ false)) marks j both (there j late) in
      true≢false (sym (late_test j m.0 m.1.0 m.2 late) ∙ m.1.1)

  pub least_late : (i : Interval) → late_where Asked marks ≡ Some i → IsLeastLate archive history fills request i
  least_late i some =
      let m = late_there Asked (IsMarkOf archive history fills) marks i are.each some in
      let tests = and_parts (Asked m.0.interval) (is_late_by m.0.last m.0.base) m.3 in
      let asked = asked_from archive.exponent request m.0.interval tests.0 in
      let late = (late_by_last archive.exponent m.0.interval history fills).0 (late_is archive history fills m.0 m.1 ∙ tests.1) in
      let here : IsLateOne m.0.interval = record { late = late; some = asked.0; meets = asked.1 } in
      record {
        here = subst IsLateOne m.2 here;
        least = λ j late.
            let both = all_both (IsMarkOf archive history fills) (λ k. is_late_where Asked k ≡ true → i.0 ≤ℤ k.interval.0) marks are.each (late_least Asked marks i are.rising some) in
            let k = mark_there (λ k. IsMarkOf archive history fills k × (is_late_where Asked k ≡ true → i.0 ≤ℤ k.interval.0)) marks j both (there j late) in
            subst (λ (x : Interval). i.0 ≤ℤ x.0) k.2 (k.1.1 (late_test j k.0 k.1.0 k.2 late));
      }

  -- ---- the rows of the range

  abbrev Met : List Interval
  Met = filter Asked (intervals_of marks)

  covers : request.from <ℤ request.to → CoverRange archive.exponent Met request.from request.to history
  covers some j position stands meets = any_kept Asked j (intervals_of marks) (asked_is archive.exponent request j some meets) (are.cover j position stands)

  in_range : filter (is_in_time_range request.from request.to) (rows_in_turn archive.exponent Met history) ≡ range_of 0 request.from request.to (rows_in history)
  in_range = go (int_lt request.from request.to) refl
    where
      go : (b : Bool) → int_lt request.from request.to ≡ b → filter (is_in_time_range request.from request.to) (rows_in_turn archive.exponent Met history) ≡ range_of 0 request.from request.to (rows_in history)
      go true test =
          let less : request.from <ℤ request.to = grind (arith, ints, test) in
          ranges archive.exponent Met request.from request.to history (rise_kept Asked (intervals_of marks) are.rising) (covers less)
      go false test =
          let empty : request.to ≤ℤ request.from = grind (arith, ints, test) in
          none_in_range request.from request.to empty (rows_in_turn archive.exponent Met history) ∙ sym (none_in_range request.from request.to empty (table_of 0 (rows_in history)))

  pub timely_answer : (number : ℕ) (answer : Answer) → request_refusal (database_of archive history) request ≡ None → parameter_number (database_of archive history) request.parameter ≡ Some number → late_where Asked marks ≡ None
      → answer.front ≡ length history → ((rows : List Row) → AreSetsOver (database_of archive history) (sets_where Asked marks) rows → answer.cells ≡ answer_over_rows (database_of archive history) number request rows)
      → IsTimelyAnswer archive history fills request answer
  timely_answer number answer asked named none front over = record {
    asked = asked;
    front = front;
    in_time = no_late none;
    number = number;
    named = named;
    cells = λ sound.
        over (rows_in_turn archive.exponent Met history) (sets_over archive history fills Asked sound marks are.each (none_late Asked marks none))
        ∙ answer_of_history (database_of archive history) number request (rows_in_turn archive.exponent Met history) (rows_in history) in_range;
  }
