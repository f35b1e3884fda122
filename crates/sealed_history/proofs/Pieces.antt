-- Times among others are the pieces that they make among others, one behind the other.
use Rattle.std.proofs.Common.{◌≡◌, ℕ, suc, zero, ℤ, ◌≤ℤ◌, ◌+◌, ◌<◌, ◌≤◌, List, [], ◌∷◌, ◌++◌, length, take, get_or, map, Bool, true, false, cond, refl, sym, ap, ◌∙◌, subst, arith, append_assoc, append-nil}
use Rattle.std.specs.Prelude.{int_lt}
use Rattle.std.specs.List.{AllByRecursion}
use Rattle.std.proofs.lemmas.Int.{ints}
use Rattle.std.proofs.lemmas.List.{length-map, take_all}
use Rattle.arch_types.specs.Order.{order_by, place_by}
use Rattle.arch_types.specs.declared.spans.Span.{Span}
use Rattle.histogram.specs.Spans.{histogram_of, is_near, pieces_of, span_of, with_first}
use Rattle.histogram.specs.Times.{AreOneSpan, AreSorted, spans_of_times}
use Rattle.histogram.proofs.Addition.{lt_false}
use Rattle.histogram.proofs.Times.{one_more_placed, sorted_in_order}
use Rattle.sealed_sums.proofs.OrderBlind.{order_between, order_first}

-- ---- the pieces of sorted times

-- the times of pieces, one piece behind the other
abbrev pub all_of : List (List ℤ) → List ℤ
all_of [] = []
all_of (piece ∷ pieces) = piece ++ all_of pieces

all_first : (t : ℤ) (pieces : List (List ℤ)) → all_of (with_first t pieces) ≡ t ∷ all_of pieces
all_first t [] = refl
all_first t ([] ∷ pieces) = refl
all_first t ((next ∷ piece) ∷ pieces) = by (is_near t next)
  where
    by : (b : Bool) → all_of (cond b ((t ∷ next ∷ piece) ∷ pieces) ((t ∷ []) ∷ (next ∷ piece) ∷ pieces)) ≡ t ∷ all_of ((next ∷ piece) ∷ pieces)
    by true = refl
    by false = refl

pub all_pieces : (times : List ℤ) → all_of (pieces_of times) ≡ times
all_pieces [] = refl
all_pieces (t ∷ times) = all_first t (pieces_of times) ∙ ap (λ (l : List ℤ). t ∷ l) (all_pieces times)

-- times that aren't cut
abbrev IsUncut : List ℤ → Type 0
IsUncut piece = pieces_of piece ≡ piece ∷ []

uncut_first : (t : ℤ) (pieces : List (List ℤ)) → AllByRecursion IsUncut pieces → AllByRecursion IsUncut (with_first t pieces)
uncut_first t [] all = (refl, tt)
uncut_first t ([] ∷ pieces) all = let no = all.0 in absurd cc
uncut_first t ((next ∷ piece) ∷ pieces) all = by (is_near t next) refl
  where
    by : (b : Bool) → is_near t next ≡ b → AllByRecursion IsUncut (cond b ((t ∷ next ∷ piece) ∷ pieces) ((t ∷ []) ∷ (next ∷ piece) ∷ pieces))
    by true near = (ap (with_first t) all.0 ∙ ap (λ (b : Bool). cond b ((t ∷ next ∷ piece) ∷ []) ((t ∷ []) ∷ (next ∷ piece) ∷ [])) near, all.1)
    by false far = (refl, all)

uncut_pieces : (times : List ℤ) → AllByRecursion IsUncut (pieces_of times)
uncut_pieces [] = tt
uncut_pieces (t ∷ times) = uncut_first t (pieces_of times) (uncut_pieces times)

-- ---- sorted times

all_front : (P : ℤ → Type 0) (xs ys : List ℤ) → AllByRecursion P (xs ++ ys) → AllByRecursion P xs
all_front P [] ys all = tt
all_front P (x ∷ xs) ys all = (all.0, all_front P xs ys all.1)

sorted_parts : (xs ys : List ℤ) → AreSorted (xs ++ ys) → AreSorted xs × AreSorted ys
sorted_parts [] ys sorted = (tt, sorted)
sorted_parts (x ∷ xs) ys sorted = let rest = sorted_parts xs ys sorted.1 in ((all_front (λ later. x ≤ℤ later) xs ys sorted.0, rest.0), rest.1)

sorted_pieces : (pieces : List (List ℤ)) → AreSorted (all_of pieces) → AllByRecursion AreSorted pieces
sorted_pieces [] sorted = tt
sorted_pieces (piece ∷ pieces) sorted = let parts = sorted_parts piece (all_of pieces) sorted in (parts.0, sorted_pieces pieces parts.1)

place_least : (t : ℤ) (xs : List ℤ) → AllByRecursion (λ later. t ≤ℤ later) xs → place_by int_lt xs t ≡ t ∷ xs
place_least t [] all = refl
place_least t (y ∷ ys) all = by (int_lt t y) refl (place_least t ys all.1)
  where
    by : (b : Bool) → int_lt t y ≡ b → place_by int_lt ys t ≡ t ∷ ys → cond b (t ∷ y ∷ ys) (y ∷ place_by int_lt ys t) ≡ t ∷ y ∷ ys
    by true less later = refl
    by false last later =
        let above = lt_false t y last in
        let same : y ≡ t = omega (arith, ints, above, all.0) in
        ap (λ (l : List ℤ). y ∷ l) later ∙ subst (λ (x : ℤ). x ∷ t ∷ ys ≡ t ∷ x ∷ ys) (sym same) refl

pub order_sorted : (xs : List ℤ) → AreSorted xs → order_by int_lt xs ≡ xs
order_sorted [] sorted = refl
order_sorted (t ∷ xs) sorted = order_first t xs ∙ ap (λ (l : List ℤ). place_by int_lt l t) (order_sorted xs sorted.1) ∙ place_least t xs sorted.0

-- the span of a piece is that of its times
one_span : (piece : List ℤ) → IsUncut piece → AreSorted piece → AreOneSpan (span_of piece) piece
one_span piece uncut sorted = ap histogram_of (order_sorted piece sorted) ∙ ap (map span_of) uncut

-- the pieces of times in their order
abbrev pub pieces_in_order : List ℤ → List (List ℤ)
pieces_in_order times = pieces_of (order_by int_lt times)

all_both : (P Q : List ℤ → Type 0) (R : List ℤ → Type 0) → ((p : List ℤ) → P p → Q p → R p) → (pieces : List (List ℤ)) → AllByRecursion P pieces → AllByRecursion Q pieces → AllByRecursion R pieces
all_both P Q R f [] ps qs = tt
all_both P Q R f (p ∷ pieces) ps qs = (f p ps.0 qs.0, all_both P Q R f pieces ps.1 qs.1)

pub each_one_span : (times : List ℤ) → AllByRecursion (λ piece. AreOneSpan (span_of piece) piece) (pieces_in_order times)
each_one_span times =
    let sorted = order_by int_lt times in
    let parts = sorted_pieces (pieces_of sorted) (subst AreSorted (sym (all_pieces sorted)) (sorted_in_order times)) in
    all_both IsUncut AreSorted (λ piece. AreOneSpan (span_of piece) piece) one_span (pieces_of sorted) (uncut_pieces sorted) parts

-- ---- one piece behind the other

pub all_more : (pieces : List (List ℤ)) (i : ℕ) (d : List ℤ) → i < length pieces → all_of (take (i + 1) pieces) ≡ all_of (take i pieces) ++ get_or pieces i d
all_more [] i d within = absurd (omega (arith, within))
all_more (p ∷ pieces) zero d within = append-nil p
all_more (p ∷ pieces) (suc i) d within =
    let next : suc i + 1 ≡ suc (i + 1) = omega arith in
    ap (λ (n : ℕ). all_of (take n (p ∷ pieces))) next ∙ ap (λ (l : List ℤ). p ++ l) (all_more pieces i d (omega (arith, within))) ∙ sym (append_assoc p (all_of (take i pieces)) (get_or pieces i d))

-- the span at a place is that of the piece there
pub one_at : (pieces : List (List ℤ)) (spans : List Span) (i : ℕ) (d : Span) → spans ≡ map span_of pieces → AllByRecursion (λ piece. AreOneSpan (span_of piece) piece) pieces → i < length spans → AreOneSpan (get_or spans i d) (get_or pieces i [])
one_at pieces spans i d same each within =
    subst (λ (l : List Span). AreOneSpan (get_or l i d) (get_or pieces i [])) (sym same) (by pieces i each (let few : length spans ≡ length pieces = ap length same ∙ length-map pieces span_of in omega (arith, few, within)))
  where
    by : (pieces : List (List ℤ)) (i : ℕ) → AllByRecursion (λ piece. AreOneSpan (span_of piece) piece) pieces → i < length pieces → AreOneSpan (get_or (map span_of pieces) i d) (get_or pieces i [])
    by [] i each within = absurd (omega (arith, within))
    by (p ∷ pieces) zero each within = each.0
    by (p ∷ pieces) (suc i) each within = by pieces i each.1 (omega (arith, within))

-- all of them
pub all_there : (pieces : List (List ℤ)) (spans : List Span) (i : ℕ) → spans ≡ map span_of pieces → length spans ≤ i → all_of (take i pieces) ≡ all_of pieces
all_there pieces spans i same whole =
    let few : length spans ≡ length pieces = ap length same ∙ length-map pieces span_of in
    ap all_of (take_all i pieces (omega (arith, few, whole)))

-- ---- times in any order

order_placed : (a ys : List ℤ) (t : ℤ) → order_by int_lt (a ++ place_by int_lt ys t) ≡ place_by int_lt (order_by int_lt (a ++ ys)) t
order_placed a ys t =
    let at = one_more_placed t ys in
    ap (λ (l : List ℤ). order_by int_lt (a ++ l)) at.is
    ∙ ap (order_by int_lt) (sym (append_assoc a at.before (t ∷ at.after)))
    ∙ order_between (a ++ at.before) t at.after
    ∙ ap (λ (l : List ℤ). place_by int_lt (order_by int_lt l) t) (append_assoc a at.before at.after ∙ ap (λ (l : List ℤ). a ++ l) (sym at.was))

-- others that are put in order first
pub order_inner : (a b : List ℤ) → order_by int_lt (a ++ order_by int_lt b) ≡ order_by int_lt (a ++ b)
order_inner a [] = refl
order_inner a (t ∷ b) =
    ap (λ (l : List ℤ). order_by int_lt (a ++ l)) (order_first t b)
    ∙ order_placed a (order_by int_lt b) t
    ∙ ap (λ (l : List ℤ). place_by int_lt l t) (order_inner a b)
    ∙ sym (order_between a t b)

-- times before others, and behind them
order_comm : (a b : List ℤ) → order_by int_lt (a ++ b) ≡ order_by int_lt (b ++ a)
order_comm [] b = ap (order_by int_lt) (sym (append-nil b))
order_comm (t ∷ a) b = order_first t (a ++ b) ∙ ap (λ (l : List ℤ). place_by int_lt l t) (order_comm a b) ∙ sym (order_between b t a)

-- times that are the same in their order are the same before others
pub order_before : (xs ys more : List ℤ) → order_by int_lt xs ≡ order_by int_lt ys → order_by int_lt (xs ++ more) ≡ order_by int_lt (ys ++ more)
order_before xs ys more same =
    order_comm xs more ∙ sym (order_inner more xs) ∙ ap (λ (l : List ℤ). order_by int_lt (more ++ l)) same ∙ order_inner more ys ∙ order_comm more ys

-- all pieces of times behind others
pub spans_with_pieces : (in_runs times : List ℤ) → spans_of_times (in_runs ++ all_of (pieces_in_order times)) ≡ spans_of_times (in_runs ++ times)
spans_with_pieces in_runs times =
    ap (λ (l : List ℤ). spans_of_times (in_runs ++ l)) (all_pieces (order_by int_lt times)) ∙ ap histogram_of (order_inner in_runs times)
