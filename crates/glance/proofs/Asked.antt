-- What a request asks of the marks of a publication.
use Rattle.std.proofs.Common.{◌≡◌, ◌+◌, ◌<◌, ℕ, ℤ, ◌≤ℤ◌, ◌<ℤ◌, Bool, true, false, cond, true≢false, List, [], ◌∷◌, ◌++◌, length, get_or, drop, Option, Some, None, refl, sym, subst, ◌∙◌, ap, arith, append_assoc}
use Rattle.std.specs.Prelude.{IfSome, IsSomeAnd, ◌&&◌, ◌||◌, filter, int_le, map}
use Rattle.std.specs.Arc.{arc_value}
use Rattle.std.specs.List.{list_any, AllByRecursion}
use Rattle.std.specs.Option.{option_map_or, option_to_list}
use Rattle.std.proofs.lemmas.Bool.Decides.{Decides-int_eq}
use Rattle.std.proofs.lemmas.Int.{ints}
use Rattle.std.proofs.lemmas.List.{drop_more}
use Rattle.std.proofs.lemmas.Option.{same_Some}
use Rattle.arch_types.specs.declared.row.Row.{Row}
use Rattle.intervals.specs.declared.interval.Interval.{Interval}
use Rattle.history_items.specs.declared.fills.Fill.{Fill}
use Rattle.history_items.specs.declared.items.Item.{Item}
use Rattle.history_items.specs.Fills.{base_in, is_same}
use Rattle.history_items.specs.Late.{is_late_in}
use Rattle.interval_fills.specs.Intervals.{rows_of_interval}
use Rattle.interval_walks.specs.Turns.{IntervalsRise, rows_in_turn}
use Rattle.late_marks.specs.Mark.{is_late_by}
use Rattle.mdb_items.specs.Database.{Database}
use Rattle.param_segments.specs.declared.plan.Part.{Part}
use Rattle.param_segments.specs.declared.plan.Part.TheVariants.{Rows, Set}
use Rattle.param_segments.specs.Plans.{ArePartsOver, HasValuesOf}
use Rattle.param_segments.specs.Extracted.{IsSetOf}
use Rattle.param_segments.specs.Rows.{SetRow}
use Rattle.store_fills.specs.Filled.{HoldsRows}
use Rattle.shared_items.specs.Blocks.{items_of_blocks}
use Rattle.shared_items.specs.Order.{AllAbove, AllBelow, AreFrom, RiseBy}
use Rattle.shared_items.proofs.Order.{below_from_test, rise_second}
use Rattle.glance_board.specs.declared.contents.PublishedMark.{PublishedMark}
use Rattle.glance_board.specs.Listings.{IsInTime, IsMarkOf, StayingFacts, database_of, intervals_of}
use Rattle.glance.specs.declared.span.Span.{Span}
use Rattle.glance.specs.Asked.{AreSetsOver, HasSeenValues, SeenSet, begin_behind, is_late_where, is_within, late_where, seen_part, set_of_mark, set_where, sets_where}

-- ---- two tests that are one

module _ (f g : Interval → Bool) (same : (i : Interval) → f i ≡ g i) where
  pub late_same : (marks : List PublishedMark) → late_where f marks ≡ late_where g marks
  late_same [] = refl
  late_same (m ∷ ms) = rw (same m.interval) (ap (λ (o : Option Interval). cond (g m.interval && is_late_by m.last m.base) (Some m.interval) o) (late_same ms))

  pub sets_same : (marks : List PublishedMark) → sets_where f marks ≡ sets_where g marks
  sets_same [] = refl
  sets_same (m ∷ ms) = rw (same m.interval) (ap (λ (l : List SeenSet). set_where g m ++ l) (sets_same ms))

-- ---- marks behind marks

module _ (test : Interval → Bool) where
  pub late_first : (ms more : List PublishedMark) (i : Interval) → late_where test ms ≡ Some i → late_where test (ms ++ more) ≡ Some i
  late_first [] more i e = absurd cc
  late_first (m ∷ ms) more i e = go (is_late_where test m) e (late_first ms more i)
    where
      go : (b : Bool) → cond b (Some m.interval) (late_where test ms) ≡ Some i → (late_where test ms ≡ Some i → late_where test (ms ++ more) ≡ Some i) → cond b (Some m.interval) (late_where test (ms ++ more)) ≡ Some i
      go true e rest = e
      go false e rest = rest e

  pub late_behind : (ms more : List PublishedMark) → late_where test ms ≡ None → late_where test (ms ++ more) ≡ late_where test more
  late_behind [] more e = refl
  late_behind (m ∷ ms) more e = go (is_late_where test m) e (late_behind ms more)
    where
      go : (b : Bool) → cond b (Some m.interval) (late_where test ms) ≡ None → (late_where test ms ≡ None → late_where test (ms ++ more) ≡ late_where test more) → cond b (Some m.interval) (late_where test (ms ++ more)) ≡ late_where test more
      go true e rest = absurd cc
      go false e rest = rest e

  pub sets_append : (ms more : List PublishedMark) → sets_where test (ms ++ more) ≡ sets_where test ms ++ sets_where test more
  sets_append [] more = refl
  sets_append (m ∷ ms) more = ap (λ (l : List SeenSet). set_where test m ++ l) (sets_append ms more) ∙ sym (append_assoc (set_where test m) (sets_where test ms) (sets_where test more))

-- ---- marks outside a span

abbrev number : PublishedMark → ℤ
number mark = mark.interval.0

and_false : (b c : Bool) → c ≡ false → (b && c) ≡ false
and_false true c e = e
and_false false c e = refl

module _ (span : Span) where
  abbrev Outside : PublishedMark → Type 0
  Outside mark = is_within span mark.interval ≡ false

  before_span : (mark : PublishedMark) → number mark <ℤ span.first.0 → Outside mark
  before_span mark less = let no : int_le span.first.0 mark.interval.0 ≡ false = grind (arith, ints, less) in ap (λ (b : Bool). b && int_le mark.interval.0 span.last.0) no

  behind_span : (mark : PublishedMark) → span.last.0 <ℤ number mark → Outside mark
  behind_span mark more = let no : int_le mark.interval.0 span.last.0 ≡ false = grind (arith, ints, more) in and_false (int_le span.first.0 mark.interval.0) (int_le mark.interval.0 span.last.0) no

  all_before : (ms : List PublishedMark) → AllBelow number span.first.0 ms → AllByRecursion Outside ms
  all_before [] below = tt
  all_before (m ∷ ms) below = (before_span m below.0, all_before ms below.1)

  all_behind : (low : ℤ) (ms : List PublishedMark) → span.last.0 <ℤ low → AllAbove number low ms → AllByRecursion Outside ms
  all_behind low [] less above = tt
  all_behind low (m ∷ ms) less above = (behind_span m (omega (arith, ints, less, above.0)), all_behind low ms less above.1)

  none_outside : (ms : List PublishedMark) → AllByRecursion Outside ms → late_where (is_within span) ms ≡ None
  none_outside [] out = refl
  none_outside (m ∷ ms) out =
      ap (λ (b : Bool). cond (b && is_late_by m.last m.base) (Some m.interval) (late_where (is_within span) ms)) out.0 ∙ none_outside ms out.1

  no_sets : (ms : List PublishedMark) → AllByRecursion Outside ms → sets_where (is_within span) ms ≡ []
  no_sets [] out = refl
  no_sets (m ∷ ms) out =
      ap (λ (b : Bool). cond b (set_of_mark m) [] ++ sets_where (is_within span) ms) out.0 ∙ no_sets ms out.1

  -- what stands before the block in which the span begins
  pub late_from : (all rest : List PublishedMark) → AreFrom number span.first.0 all rest → late_where (is_within span) rest ≡ late_where (is_within span) all
  late_from all rest from =
      sym (ap (late_where (is_within span)) from.whole ∙ late_behind (is_within span) from.before rest (none_outside from.before (all_before from.before from.below)))

  pub sets_from : (all rest : List PublishedMark) → AreFrom number span.first.0 all rest → sets_where (is_within span) rest ≡ sets_where (is_within span) all
  sets_from all rest from =
      sym (ap (sets_where (is_within span)) from.whole ∙ sets_append (is_within span) from.before rest ∙ ap (λ (l : List SeenSet). l ++ sets_where (is_within span) rest) (no_sets from.before (all_before from.before from.below)))

  -- marks that begin behind it, and those behind them
  behind_all : (ms more : List PublishedMark) → begin_behind span ms ≡ true → RiseBy number (ms ++ more) → AllByRecursion Outside (ms ++ more)
  behind_all [] more begins rise = absurd (true≢false (sym begins))
  behind_all (m ∷ ms) more begins rise =
      let less : span.last.0 <ℤ number m = below_from_test span.last.0 m.interval.0 begins in
      (behind_span m less, all_behind (number m) (ms ++ more) less rise.0)

  pub late_behind_span : (ms more : List PublishedMark) → begin_behind span ms ≡ true → RiseBy number (ms ++ more) → late_where (is_within span) (ms ++ more) ≡ None
  late_behind_span ms more begins rise = none_outside (ms ++ more) (behind_all ms more begins rise)

  pub sets_behind_span : (ms more : List PublishedMark) → begin_behind span ms ≡ true → RiseBy number (ms ++ more) → sets_where (is_within span) (ms ++ more) ≡ []
  sets_behind_span ms more begins rise = no_sets (ms ++ more) (behind_all ms more begins rise)

-- the marks behind some rise as all do
pub rise_from : (span_first : ℤ) (all rest : List PublishedMark) → AreFrom number span_first all rest → RiseBy number all → RiseBy number rest
rise_from span_first all rest from rise = rise_second number from.before rest (subst (RiseBy number) from.whole rise)

-- the items from a block on are its own and those of the blocks behind it
pub from_block : {A X : Type 0} (f : A → List X) (bs : List A) (k : ℕ) (b : A) (items : List X) → k < length bs → b ≡ get_or bs k b → items ≡ f b
    → items_of_blocks (map f (drop k bs)) ≡ items ++ items_of_blocks (map f (drop (k + 1) bs))
from_block {A} {X} f bs k b items within is same =
    ap (λ (l : List A). items_of_blocks (map f l)) (drop_more bs k b within ∙ ap (λ (y : A). y ∷ drop (k + 1) bs) (sym is))
    ∙ ap (λ (l : List X). l ++ items_of_blocks (map f (drop (k + 1) bs))) (sym same)

-- ---- late marks

-- a mark tells whether its interval is late
pub late_is : (archive : StayingFacts) (history : List Item) (fills : List Fill) (m : PublishedMark) → IsMarkOf archive history fills m → is_late_in archive.exponent m.interval history fills ≡ is_late_by m.last m.base
late_is archive history fills m of_it =
    ap (λ (o : Option ℕ). option_map_or (λ last. is_late_by last (base_in m.interval fills)) o false) of_it.last ∙ ap (is_late_by m.last) of_it.base

module _ (test : Interval → Bool) where
  pub none_late : (marks : List PublishedMark) → late_where test marks ≡ None → AllByRecursion (λ m. is_late_where test m ≡ false) marks
  none_late [] e = tt
  none_late (m ∷ ms) e = go (is_late_where test m) refl e (none_late ms)
    where
      go : (b : Bool) → is_late_where test m ≡ b → cond b (Some m.interval) (late_where test ms) ≡ None → (late_where test ms ≡ None → AllByRecursion (λ k. is_late_where test k ≡ false) ms)
          → AllByRecursion (λ k. is_late_where test k ≡ false) (m ∷ ms)
      go true t e rest = absurd cc
      go false t e rest = (t, rest e)

  later : (m : PublishedMark) (i : Interval) (ms : List PublishedMark) → m.interval ≡ i → AllByRecursion (λ other. m.interval.0 <ℤ other.0) (intervals_of ms) → AllByRecursion (λ k. is_late_where test k ≡ true → i.0 ≤ℤ k.interval.0) ms
  later m i [] same rise = tt
  later m i (k ∷ ms) same rise = ((λ late. let e = ap (λ (x : Interval). x.0) same in omega (arith, ints, e, rise.0)), later m i ms same rise.1)

  -- the first that is late is the least
  pub late_least : (marks : List PublishedMark) (i : Interval) → IntervalsRise (intervals_of marks) → late_where test marks ≡ Some i → AllByRecursion (λ k. is_late_where test k ≡ true → i.0 ≤ℤ k.interval.0) marks
  late_least [] i rise e = tt
  late_least (m ∷ ms) i rise e = go (is_late_where test m) refl e (late_least ms i rise.1)
    where
      go : (b : Bool) → is_late_where test m ≡ b → cond b (Some m.interval) (late_where test ms) ≡ Some i → (late_where test ms ≡ Some i → AllByRecursion (λ k. is_late_where test k ≡ true → i.0 ≤ℤ k.interval.0) ms)
          → AllByRecursion (λ k. is_late_where test k ≡ true → i.0 ≤ℤ k.interval.0) (m ∷ ms)
      go true t e rest = let same = same_Some m.interval i e in ((λ late. let z = ap (λ (x : Interval). x.0) same in omega (arith, ints, z)), later m i ms same rise.0)
      go false t e rest = ((λ late. absurd (true≢false (sym late ∙ t))), rest e)

  -- it is one of the marks
  pub late_there : (P : PublishedMark → Type 0) (marks : List PublishedMark) (i : Interval) → AllByRecursion P marks → late_where test marks ≡ Some i → (m : PublishedMark) × P m × (m.interval ≡ i) × (is_late_where test m ≡ true)
  late_there P [] i all e = absurd cc
  late_there P (m ∷ ms) i all e = go (is_late_where test m) refl e (late_there P ms i all.1)
    where
      go : (b : Bool) → is_late_where test m ≡ b → cond b (Some m.interval) (late_where test ms) ≡ Some i → (late_where test ms ≡ Some i → (k : PublishedMark) × P k × (k.interval ≡ i) × (is_late_where test k ≡ true))
          → (k : PublishedMark) × P k × (k.interval ≡ i) × (is_late_where test k ≡ true)
      go true t e rest = (m, all.0, same_Some m.interval i e, t)
      go false t e rest = rest e

-- an interval among those of marks is that of one
pub mark_there : (P : PublishedMark → Type 0) (marks : List PublishedMark) (j : Interval) → AllByRecursion P marks → list_any (is_same j) (intervals_of marks) ≡ true → (m : PublishedMark) × P m × (m.interval ≡ j)
mark_there P [] j all any = absurd cc
mark_there P (m ∷ ms) j all any = go (is_same j m.interval) refl any (mark_there P ms j all.1)
  where
    go : (b : Bool) → is_same j m.interval ≡ b → (b || list_any (is_same j) (intervals_of ms)) ≡ true → (list_any (is_same j) (intervals_of ms) ≡ true → (k : PublishedMark) × P k × (k.interval ≡ j))
        → (k : PublishedMark) × P k × (k.interval ≡ j)
    go true t any rest = (m, all.0, let e = (Decides-int_eq j.0 m.interval.0).0 t in ap (λ (n : ℤ). let k : Interval = record { 0 = n } in k) (sym e))
    go false t any rest = rest any

pub all_both : (P Q : PublishedMark → Type 0) (marks : List PublishedMark) → AllByRecursion P marks → AllByRecursion Q marks → AllByRecursion (λ m. P m × Q m) marks
all_both P Q [] p q = tt
all_both P Q (m ∷ ms) p q = ((p.0, q.0), all_both P Q ms p.1 q.1)

-- ---- sets

-- the set of a mark, whose interval isn't late
set_values : {T : Type 0} (db : Database) (exponent : ℕ) (i : Interval) (rows_in_set : T → List SetRow) (o : Option T) → IsSomeAnd o (λ set. IsSetOf db exponent i.0 (rows_in_set set))
    → AllByRecursion (HasSeenValues db) (map (λ set. (let s : SeenSet = (i, Some (rows_in_set set)) in s)) (option_to_list o))
set_values db exponent i rows_in_set None fits = absurd fits
set_values db exponent i rows_in_set (Some set) fits = (fits.values, tt)

set_over : {T : Type 0} (db : Database) (exponent : ℕ) (i : Interval) (rows_in_set : T → List SetRow) (o : Option T) (first behind : List Row) (others : List SeenSet) → IsSomeAnd o (λ set. IsSetOf db exponent i.0 (rows_in_set set))
    → IfSome o (λ set. HoldsRows db (rows_in_set set) first) → AreSetsOver db others behind → AreSetsOver db (map (λ set. (let s : SeenSet = (i, Some (rows_in_set set)) in s)) (option_to_list o) ++ others) (first ++ behind)
set_over db exponent i rows_in_set None first behind others fits holds over = absurd fits
set_over db exponent i rows_in_set (Some set) first behind others fits holds over = (first, behind, refl, holds, over)

all_join : (P : SeenSet → Type 0) (xs ys : List SeenSet) → AllByRecursion P xs → AllByRecursion P ys → AllByRecursion P (xs ++ ys)
all_join P [] ys here rest = rest
all_join P (x ∷ xs) ys here rest = (here.0, all_join P xs ys here.1 rest)

module _ (archive : StayingFacts) (history : List Item) (fills : List Fill) (test : Interval → Bool) where
  abbrev Db : Database
  Db = database_of archive history

  -- an interval that passes the test and isn't late
  in_time : (m : PublishedMark) → is_late_where test m ≡ false → test m.interval ≡ true → IsInTime m
  in_time m none passes = sym (ap (λ (b : Bool). b && is_late_by m.last m.base) passes) ∙ none

  pub sets_values : (marks : List PublishedMark) → AllByRecursion (IsMarkOf archive history fills) marks → AllByRecursion (λ m. is_late_where test m ≡ false) marks → AllByRecursion (HasSeenValues Db) (sets_where test marks)
  sets_values [] all none = tt
  sets_values (m ∷ ms) all none = go (test m.interval) refl (sets_values ms all.1 none.1)
    where
      go : (b : Bool) → test m.interval ≡ b → AllByRecursion (HasSeenValues Db) (sets_where test ms) → AllByRecursion (HasSeenValues Db) (cond b (set_of_mark m) [] ++ sets_where test ms)
      go true passes rest = all_join (HasSeenValues Db) (set_of_mark m) (sets_where test ms) (set_values Db archive.exponent m.interval arc_value m.set (all.0.fits (in_time m none.0 passes))) rest
      go false passes rest = rest

  pub sets_over : archive.sound → (marks : List PublishedMark) → AllByRecursion (IsMarkOf archive history fills) marks → AllByRecursion (λ m. is_late_where test m ≡ false) marks
      → AreSetsOver Db (sets_where test marks) (rows_in_turn archive.exponent (filter test (intervals_of marks)) history)
  sets_over sound [] all none = refl
  sets_over sound (m ∷ ms) all none = go (test m.interval) refl (sets_over sound ms all.1 none.1)
    where
      go : (b : Bool) → test m.interval ≡ b → AreSetsOver Db (sets_where test ms) (rows_in_turn archive.exponent (filter test (intervals_of ms)) history)
          → AreSetsOver Db (cond b (set_of_mark m) [] ++ sets_where test ms) (rows_in_turn archive.exponent (cond b (m.interval ∷ filter test (intervals_of ms)) (filter test (intervals_of ms))) history)
      go true passes rest =
          let time = in_time m none.0 passes in
          set_over Db archive.exponent m.interval arc_value m.set (rows_of_interval archive.exponent m.interval history) (rows_in_turn archive.exponent (filter test (intervals_of ms)) history) (sets_where test ms) (all.0.fits time) (all.0.holds time sound) rest
      go false passes rest = rest

-- ---- parts

pub parts_values : (db : Database) (parts : List Part) → AllByRecursion (HasSeenValues db) (map seen_part parts) → AllByRecursion (HasValuesOf db) parts
parts_values db [] all = tt
parts_values db (Set interval set ∷ parts) all = (all.0, parts_values db parts all.1)
parts_values db (Rows interval rows ∷ parts) all = (tt, parts_values db parts all.1)

pub parts_over : (db : Database) (parts : List Part) (rows : List Row) → AreSetsOver db (map seen_part parts) rows → ArePartsOver db parts rows
parts_over db [] rows over = over
parts_over db (Set interval set ∷ parts) rows over = (over.0, over.1, over.2, over.3, parts_over db parts over.1 over.4)
parts_over db (Rows interval held ∷ parts) rows over = absurd over.3
