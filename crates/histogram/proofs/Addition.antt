-- One more time among sorted times is one more time among their records.
use Rattle.std.proofs.Common.{◌≡◌, ℕ, suc, ℤ, pos, ◌≤ℤ◌, ◌<ℤ◌, ◌+◌, List, [], ◌∷◌, ◌++◌, length, Bool, true, false, cond, refl, sym, ◌∙◌, ap, arith}
use Rattle.std.specs.Prelude.{map, ◌+ℤ◌, int_lt, if◌then◌else◌}
use Rattle.std.specs.List.{AllByRecursion}
use Rattle.std.specs.Int.{int_min, int_max}
use Rattle.std.proofs.lemmas.Int.{ints, clamps}
use Rattle.arch_types.specs.declared.spans.Span.{Span}
use Rattle.histogram.specs.Times.{AreSorted}
use Rattle.histogram.proofs.Times.{HasOneMore}
use Rattle.histogram.specs.Spans.{is_near, with_first, pieces_of, last_time, span_of, histogram_of}
use Rattle.histogram.specs.Near.{is_apart, span_of_time, joined, joined_near, with_span}

-- ---- what the tests say

pub lt_true : (x y : ℤ) → int_lt x y ≡ true → x <ℤ y
lt_true x y h = grind (arith, ints, h)

pub lt_false : (x y : ℤ) → int_lt x y ≡ false → y ≤ℤ x
lt_false x y h = grind (arith, ints, h)

pub true_lt : (x y : ℤ) → x <ℤ y → int_lt x y ≡ true
true_lt x y h = grind (arith, ints)

pub false_lt : (x y : ℤ) → y ≤ℤ x → int_lt x y ≡ false
false_lt x y h = grind (arith, ints)

pub near_true : (a b : ℤ) → a ≤ℤ b → b ≤ℤ (a +ℤ pos 60_000) → is_near a b ≡ true
near_true a b up near = grind (arith, ints)

pub near_false : (a b : ℤ) → (a +ℤ pos 60_000) <ℤ b → is_near a b ≡ false
near_false a b far = grind (arith, ints)

pub true_near : (a b : ℤ) → a ≤ℤ b → is_near a b ≡ true → b ≤ℤ (a +ℤ pos 60_000)
true_near a b up h = grind (arith, ints, h)

pub false_near : (a b : ℤ) → a ≤ℤ b → is_near a b ≡ false → (a +ℤ pos 60_000) <ℤ b
false_near a b up h = grind (arith, ints, h)

pub min_second : (x y : ℤ) → y ≤ℤ x → int_min x y ≡ y
min_second x y h = omega (arith, ints, clamps)

min_first : (x y : ℤ) → x ≤ℤ y → int_min x y ≡ x
min_first x y h = omega (arith, ints, clamps)

pub max_first : (x y : ℤ) → y ≤ℤ x → int_max x y ≡ x
max_first x y h = omega (arith, ints, clamps)

-- the lesser of two numbers has what both have
min_has : (P : ℤ → Type 0) (x y : ℤ) → P x → P y → P (int_min x y)
min_has P x y p q = by (int_lt y x)
  where
    by : (b : Bool) → P (cond b y x)
    by true = q
    by false = p

-- one time put in
abbrev pub with_time : ℤ → List Span → List Span
with_time t = with_span (span_of_time t) (span_of_time t)

-- ---- the records, one time before the other

-- a time before all others, in the first record or in one of its own
abbrev pub before : ℤ → List Span → List Span
before a [] = span_of_time a ∷ []
before a (s ∷ spans) =
    if is_near a s.first then (record { first = a; last = s.last; count = s.count + 1 }) ∷ spans else (span_of_time a ∷ s ∷ spans)

BeginsWith : ℤ → List (List ℤ) → Type 0
BeginsWith t pieces = (piece : List ℤ) × (others : List (List ℤ)) × (pieces ≡ (t ∷ piece) ∷ others)

first_piece : (t : ℤ) (pieces : List (List ℤ)) → BeginsWith t (with_first t pieces)
unfolding BeginsWith
first_piece t [] = ([], [], refl)
first_piece t ([] ∷ pieces) = ([], pieces, refl)
first_piece t ((next ∷ piece) ∷ pieces) = by (is_near t next)
  where
    by : (b : Bool) → (p : List ℤ) × (others : List (List ℤ)) × (cond b ((t ∷ next ∷ piece) ∷ pieces) ((t ∷ []) ∷ (next ∷ piece) ∷ pieces) ≡ (t ∷ p) ∷ others)
    by true = (next ∷ piece, pieces, refl)
    by false = ([], (next ∷ piece) ∷ pieces, refl)

-- a span
abbrev span : ℤ → ℤ → ℕ → Span
span f l n = record { first = f; last = l; count = n }

pub histogram_of-first : (t : ℤ) (times : List ℤ) → histogram_of (t ∷ times) ≡ before t (histogram_of times)
unfolding BeginsWith
histogram_of-first t [] = refl
histogram_of-first t (u ∷ times) =
    let head = first_piece u (pieces_of times) in
    by (is_near t u) head.0 head.1 head.2 refl
  where
    by : (b : Bool) (piece : List ℤ) (others : List (List ℤ)) → pieces_of (u ∷ times) ≡ (u ∷ piece) ∷ others → is_near t u ≡ b →
        map span_of (with_first t (pieces_of (u ∷ times))) ≡ before t (map span_of (pieces_of (u ∷ times)))
    by true piece others head near =
        let same : suc (length piece) + 1 ≡ length piece + 1 + 1 = omega arith in
        rw (head, near) (ap (λ (n : ℕ). span t (last_time u piece) n ∷ map span_of others) same)
    by false piece others head near = rw (head, near) refl

-- ---- what is true of records

-- each begins at a time or after it
abbrev pub IsFrom : ℤ → List Span → Type 0
IsFrom a spans = AllByRecursion (λ s. a ≤ℤ s.first) spans

-- each ends no earlier than it begins, and more than 60,000 ms before the later ones
abbrev pub AreApart : List Span → Type 0
AreApart [] = Unit {0}
AreApart (s ∷ spans) = (s.first ≤ℤ s.last) × AllByRecursion (λ r. (s.last +ℤ pos 60_000) <ℤ r.first) spans × AreApart spans

all_weaker : (P Q : Span → Type 0) → ((s : Span) → P s → Q s) → (spans : List Span) → AllByRecursion P spans → AllByRecursion Q spans
all_weaker P Q f [] all = tt
all_weaker P Q f (s ∷ spans) all = (f s all.0, all_weaker P Q f spans all.1)

from_before : (b a : ℤ) (spans : List Span) → b ≤ℤ a → IsFrom b spans → IsFrom b (before a spans)
from_before b a [] low all = (low, tt)
from_before b a (s ∷ spans) low all = by (is_near a s.first)
  where
    by : (near : Bool) → IsFrom b (cond near (span a s.last (s.count + 1) ∷ spans) (span_of_time a ∷ s ∷ spans))
    by true = (low, all.1)
    by false = (low, all)

apart_before : (a : ℤ) (spans : List Span) → IsFrom a spans → AreApart spans → AreApart (before a spans)
apart_before a [] low apart = (omega (arith, ints), tt, tt)
apart_before a (s ∷ spans) low apart = by (is_near a s.first) refl
  where
    by : (near : Bool) → is_near a s.first ≡ near → AreApart (cond near (span a s.last (s.count + 1) ∷ spans) (span_of_time a ∷ s ∷ spans))
    by true near = (omega (arith, ints, low.0, apart.0), apart.1, apart.2)
    by false far =
        let gap = false_near a s.first low.0 far in
        (omega (arith, ints), (gap, all_weaker (λ r. (s.last +ℤ pos 60_000) <ℤ r.first) (λ r. (a +ℤ pos 60_000) <ℤ r.first) (λ r h. omega (arith, ints, h, gap, apart.0)) spans apart.1), apart)

pub from_histogram : (a : ℤ) (times : List ℤ) → AllByRecursion (λ t. a ≤ℤ t) times → IsFrom a (histogram_of times)
from_histogram a [] all = tt
from_histogram a (t ∷ times) all = rw histogram_of-first (from_before a t (histogram_of times) all.0 (from_histogram a times all.1))

pub apart_histogram : (times : List ℤ) → AreSorted times → AreApart (histogram_of times)
apart_histogram [] sorted = tt
apart_histogram (t ∷ times) sorted =
    rw histogram_of-first (apart_before t (histogram_of times) (from_histogram t times sorted.0) (apart_histogram times sorted.1))

-- ---- a time before a record that grows

grown_near : (a t : ℤ) (current : Span) (spans : List Span) → a ≤ℤ current.first → is_near a current.first ≡ true → IsFrom a spans →
    before a (joined_near t current spans) ≡ joined_near t (span a current.last (current.count + 1)) spans
grown_near a t current [] low near all = rw near refl
grown_near a t current (s ∷ spans) low near all =
    let limit = true_near a current.first low near in
    let least = min_has (λ x. a ≤ℤ x) current.first s.first low all.0 in
    let first : is_near a (int_min current.first s.first) ≡ true = near_true a (int_min current.first s.first) least (omega (arith, ints, clamps, limit)) in
    by (is_apart t s.first) (grown_near a t (joined current s) spans least first all.1)
  where
    by : (b : Bool) → before a (joined_near t (joined current s) spans) ≡ joined_near t (span a (int_max current.last s.last) (current.count + s.count + 1)) spans →
        before a (cond b (current ∷ s ∷ spans) (joined_near t (joined current s) spans)) ≡ cond b (span a current.last (current.count + 1) ∷ s ∷ spans) (joined_near t (joined (span a current.last (current.count + 1)) s) spans)
    by true later = rw near refl
    by false later =
        let count : current.count + s.count + 1 ≡ current.count + 1 + s.count = omega arith in
        let first = min_first a s.first all.0 in
        later ∙ ap (λ (n : ℕ). joined_near t (span a (int_max current.last s.last) n) spans) count
        ∙ ap (λ (f : ℤ). joined_near t (span f (int_max current.last s.last) (current.count + 1 + s.count)) spans) (sym first)

grown_far : (a t : ℤ) (current : Span) (spans : List Span) → is_near a current.first ≡ false → AllByRecursion (λ s. is_near a s.first ≡ false) spans →
    before a (joined_near t current spans) ≡ span_of_time a ∷ joined_near t current spans
grown_far a t current [] far all = rw far refl
grown_far a t current (s ∷ spans) far all =
    by (is_apart t s.first) (grown_far a t (joined current s) spans (min_has (λ x. is_near a x ≡ false) current.first s.first far all.0) all.1)
  where
    by : (b : Bool) → before a (joined_near t (joined current s) spans) ≡ span_of_time a ∷ joined_near t (joined current s) spans →
        before a (cond b (current ∷ s ∷ spans) (joined_near t (joined current s) spans)) ≡ span_of_time a ∷ cond b (current ∷ s ∷ spans) (joined_near t (joined current s) spans)
    by true later = rw far refl
    by false later = later

-- ---- the time put in

module _ (t : ℤ) where
  -- before all records
  at_head : (spans : List Span) → IsFrom t spans → AreApart spans → with_time t spans ≡ before t spans
  at_head [] low apart = refl
  at_head (s ∷ spans) low apart =
      let ahead : is_apart s.last t ≡ false = false_lt (s.last +ℤ pos 60_000) t (omega (arith, ints, low.0, apart.0)) in
      rw ahead (by (is_near t s.first) refl)
    where
      stops : (current : Span) (rest : List Span) → AllByRecursion (λ r. (s.last +ℤ pos 60_000) <ℤ r.first) rest → joined_near t current rest ≡ current ∷ rest
      stops current [] all = refl
      stops current (r ∷ rest) all =
          let far : is_apart t r.first ≡ true = true_lt (t +ℤ pos 60_000) r.first (omega (arith, ints, all.0, low.0, apart.0)) in
          rw far refl

      by : (b : Bool) → is_near t s.first ≡ b → joined_near t (span_of_time t) (s ∷ spans) ≡ cond b (span t s.last (s.count + 1) ∷ spans) (span_of_time t ∷ s ∷ spans)
      by true near =
          let limit = true_near t s.first low.0 near in
          let reached : is_apart t s.first ≡ false = false_lt (t +ℤ pos 60_000) s.first limit in
          let first = min_first t s.first low.0 in
          let last : int_max t s.last ≡ s.last = omega (arith, ints, clamps, low.0, apart.0) in
          let count : 1 + s.count ≡ s.count + 1 = omega arith in
          rw (reached, first, last) (stops (span t s.last (1 + s.count)) spans apart.1 ∙ ap (λ (n : ℕ). span t s.last n ∷ spans) count)
      by false far =
          let past : is_apart t s.first ≡ true = true_lt (t +ℤ pos 60_000) s.first (false_near t s.first low.0 far) in
          rw past refl

  module _ (a : ℤ) (up : a ≤ℤ t) where
    reached : is_apart t a ≡ false
    reached = false_lt (t +ℤ pos 60_000) a (omega (arith, ints))

    least : int_min t a ≡ a
    least = min_second t a up

    greatest : int_max t a ≡ t
    greatest = max_first t a up

    past_false : (b : Bool) → is_apart a t ≡ b → is_near a t ≡ (cond b false true)
    past_false true far = near_false a t (lt_true (a +ℤ pos 60_000) t far)
    past_false false near = near_true a t up (lt_false (a +ℤ pos 60_000) t near)

    in_none : with_time t (span_of_time a ∷ []) ≡ before a (span_of_time t ∷ [])
    in_none = by (is_apart a t) refl
      where
        by : (b : Bool) → is_apart a t ≡ b → with_time t (span_of_time a ∷ []) ≡ before a (span_of_time t ∷ [])
        by true far = rw (far, past_false true far) refl
        by false near = rw (near, reached, least, greatest, past_false false near) refl

    module _ (s : Span) (spans : List Span) (low : a ≤ℤ s.first) (lows : IsFrom a spans) (ordered : s.first ≤ℤ s.last)
        (later : AllByRecursion (λ r. (s.last +ℤ pos 60_000) <ℤ r.first) spans) where
      -- the time before is in the first record
      in_first : is_near a s.first ≡ true → with_time t (span a s.last (s.count + 1) ∷ spans) ≡ before a (with_time t (s ∷ spans))
      in_first near = by (is_apart s.last t) refl
        where
          by : (b : Bool) → is_apart s.last t ≡ b → cond b (span a s.last (s.count + 1) ∷ with_time t spans) (joined_near t (span_of_time t) (span a s.last (s.count + 1) ∷ spans)) ≡ before a (cond b (s ∷ with_time t spans) (joined_near t (span_of_time t) (s ∷ spans)))
          by true past = rw near refl
          by false there =
              let limit = true_near a s.first low near in
              let begins : is_apart t s.first ≡ false = false_lt (t +ℤ pos 60_000) s.first (omega (arith, ints, limit)) in
              let floor = min_has (λ x. a ≤ℤ x) t s.first up low in
              let first : is_near a (int_min t s.first) ≡ true = near_true a (int_min t s.first) floor (omega (arith, ints, clamps, limit)) in
              let count : 1 + (s.count + 1) ≡ 1 + s.count + 1 = omega arith in
              rw (reached, begins, least) (ap (λ (n : ℕ). joined_near t (span a (int_max t s.last) n) spans) count
              ∙ sym (grown_near a t (joined (span_of_time t) s) spans floor first lows))

      -- it is in a record of its own
      in_own : is_near a s.first ≡ false → with_time t (span_of_time a ∷ s ∷ spans) ≡ before a (with_time t (s ∷ spans))
      in_own far = by (is_apart a t) refl (is_apart s.last t) refl
        where
          gap : (a +ℤ pos 60_000) <ℤ s.first
          gap = false_near a s.first low far

          all_far : AllByRecursion (λ r. is_near a r.first ≡ false) spans
          all_far = all_weaker (λ r. (s.last +ℤ pos 60_000) <ℤ r.first) (λ r. is_near a r.first ≡ false) (λ r h. near_false a r.first (omega (arith, ints, h, gap, ordered))) spans later

          by : (b : Bool) → is_apart a t ≡ b → (c : Bool) → is_apart s.last t ≡ c → with_time t (span_of_time a ∷ s ∷ spans) ≡ before a (with_time t (s ∷ spans))
          by true past true ended = rw (past, ended, far) refl
          by true past false there = rw (past, there) (sym (grown_far a t (span_of_time t) (s ∷ spans) (past_false true past) (far, all_far)))
          by false near true ended =
              let no : (s.last +ℤ pos 60_000) <ℤ t = lt_true (s.last +ℤ pos 60_000) t ended in
              let yes = lt_false (a +ℤ pos 60_000) t near in
              absurd (omega (arith, ints, no, yes, gap, ordered))
          by false near false there =
              rw (near, there, reached, least, greatest) (sym (grown_near a t (span_of_time t) (s ∷ spans) up (past_false false near) (low, lows)))

    -- after an earlier time
    behind : (spans : List Span) → IsFrom a spans → AreApart spans → with_time t (before a spans) ≡ before a (with_time t spans)
    behind [] low apart = in_none
    behind (s ∷ spans) low apart = by (is_near a s.first) refl
      where
        by : (b : Bool) → is_near a s.first ≡ b → with_time t (cond b (span a s.last (s.count + 1) ∷ spans) (span_of_time a ∷ s ∷ spans)) ≡ before a (with_time t (s ∷ spans))
        by true near = in_first s spans low.0 low.1 apart.0 apart.1 near
        by false far = in_own s spans low.0 low.1 apart.0 apart.1 far

  all_without : (P : ℤ → Type 0) (xs ys : List ℤ) → AllByRecursion P (xs ++ t ∷ ys) → AllByRecursion P (xs ++ ys) × P t
  all_without P [] ys all = (all.1, all.0)
  all_without P (x ∷ xs) ys all = let later = all_without P xs ys all.1 in ((all.0, later.0), later.1)

  sorted_without : (xs ys : List ℤ) → AreSorted (xs ++ t ∷ ys) → AreSorted (xs ++ ys)
  sorted_without [] ys sorted = sorted.1
  sorted_without (x ∷ xs) ys sorted = ((all_without (λ u. x ≤ℤ u) xs ys sorted.0).0, sorted_without xs ys sorted.1)

  put_in : (xs ys : List ℤ) → AreSorted (xs ++ t ∷ ys) → histogram_of (xs ++ t ∷ ys) ≡ with_time t (histogram_of (xs ++ ys))
  put_in [] ys sorted = histogram_of-first t ys ∙ sym (at_head (histogram_of ys) (from_histogram t ys sorted.0) (apart_histogram ys sorted.1))
  put_in (x ∷ xs) ys sorted =
      let rest = all_without (λ u. x ≤ℤ u) xs ys sorted.0 in
      histogram_of-first x (xs ++ t ∷ ys) ∙ ap (before x) (put_in xs ys sorted.1)
      ∙ sym (behind x rest.1 (histogram_of (xs ++ ys)) (from_histogram x (xs ++ ys) rest.0) (apart_histogram (xs ++ ys) (sorted_without xs ys sorted.1)))
      ∙ ap (with_time t) (sym (histogram_of-first x (xs ++ ys)))

-- the records of sorted times and one more
pub one_more : (old new : List ℤ) (t : ℤ) → HasOneMore old new t → AreSorted new → histogram_of new ≡ with_time t (histogram_of old)
one_more old new t more sorted =
    ap histogram_of more.is ∙ put_in t more.before more.after (rw more.is at sorted) ∙ ap (λ (l : List ℤ). with_time t (histogram_of l)) (sym more.was)
