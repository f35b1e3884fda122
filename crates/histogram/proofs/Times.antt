-- Times in their order, with one more of them.
use Rattle.std.proofs.Common.{◌≡◌, ◌≢◌, ℕ, ℤ, ◌≤ℤ◌, eqb, List, [], ◌∷◌, ◌++◌, Bool, true, false, cond, refl, sym, ◌∙◌, ap, arith, append-nil}
use Rattle.std.specs.Prelude.{map, filter, fold, int_lt}
use Rattle.std.specs.List.{AllByRecursion}
use Rattle.std.proofs.lemmas.Bool.{eq-eqb, ne_eqb}
use Rattle.std.proofs.lemmas.Int.{ints}
use Rattle.std.proofs.lemmas.List.{map-append}
use Rattle.std.proofs.lemmas.List.Elements.{filter-append}
use Rattle.std.proofs.lemmas.List.Sums.{fold-append}
use Rattle.arch_types.specs.Order.{place_by, order_by}
use Rattle.histogram.specs.declared.histogram.NamedTime.{NamedTime}
use Rattle.histogram.specs.Times.{named_times, times_of, AreSorted}

-- a list with one more time, at some place
pub record HasOneMore (old new : List ℤ) (time : ℤ) : Type 0 where
  pub before : List ℤ
  pub after : List ℤ
  pub was : old ≡ before ++ after
  pub is : new ≡ before ++ time ∷ after

-- ---- a time put in its place

module _ (t : ℤ) where
  pub one_more_placed : (times : List ℤ) → HasOneMore times (place_by int_lt times t) t
  one_more_placed [] = record { before = []; after = []; was = refl; is = refl }
  one_more_placed (u ∷ times) = by (int_lt t u) (one_more_placed times)
    where
      by : (b : Bool) → HasOneMore times (place_by int_lt times t) t → HasOneMore (u ∷ times) (cond b (t ∷ u ∷ times) (u ∷ place_by int_lt times t)) t
      by true later = record { before = []; after = u ∷ times; was = refl; is = refl }
      by false later = record { before = u ∷ later.before; after = later.after; was = ap (λ (l : List ℤ). u ∷ l) later.was; is = ap (λ (l : List ℤ). u ∷ l) later.is }

  all_placed : (P : ℤ → Type 0) (times : List ℤ) → P t → AllByRecursion P times → AllByRecursion P (place_by int_lt times t)
  all_placed P [] here all = (here, tt)
  all_placed P (u ∷ times) here all = by (int_lt t u) (all_placed P times here all.1)
    where
      by : (b : Bool) → AllByRecursion P (place_by int_lt times t) → AllByRecursion P (cond b (t ∷ u ∷ times) (u ∷ place_by int_lt times t))
      by true later = (here, all)
      by false later = (all.0, later)

  weaker : (low : ℤ) (times : List ℤ) → t ≤ℤ low → AllByRecursion (λ u. low ≤ℤ u) times → AllByRecursion (λ u. t ≤ℤ u) times
  weaker low [] below all = tt
  weaker low (u ∷ times) below all = (omega (arith, ints, below, all.0), weaker low times below all.1)

  pub sorted_placed : (times : List ℤ) → AreSorted times → AreSorted (place_by int_lt times t)
  sorted_placed [] sorted = (tt, tt)
  sorted_placed (u ∷ times) sorted = by (int_lt t u) refl (sorted_placed times sorted.1)
    where
      by : (b : Bool) → int_lt t u ≡ b → AreSorted (place_by int_lt times t) → AreSorted (cond b (t ∷ u ∷ times) (u ∷ place_by int_lt times t))
      by true first later = let below : t ≤ℤ u = grind (arith, ints, first) in ((below, weaker u times below sorted.0), sorted)
      by false last later = let above : u ≤ℤ t = grind (arith, ints, last) in (all_placed (λ v. u ≤ℤ v) times above sorted.0, later)

-- ---- all times in their order

sorted_from : (before times : List ℤ) → AreSorted before → AreSorted (fold (place_by int_lt) before times)
sorted_from before [] sorted = sorted
sorted_from before (t ∷ times) sorted = sorted_from (place_by int_lt before t) times (sorted_placed t before sorted)

pub sorted_in_order : (times : List ℤ) → AreSorted (order_by int_lt times)
sorted_in_order times = sorted_from [] times tt

pub order-push : (times : List ℤ) (t : ℤ) → order_by int_lt (times ++ t ∷ []) ≡ place_by int_lt (order_by int_lt times) t
order-push times t = fold-append (place_by int_lt) [] times (t ∷ [])

-- ---- the times of a packet name, with one more

abbrev is_of : ℕ → NamedTime → Bool
is_of pname at = eqb at.pname pname

pub times_of-append : (pname : ℕ) (xs ys : List NamedTime) → times_of pname (xs ++ ys) ≡ times_of pname xs ++ times_of pname ys
times_of-append pname xs ys =
    ap (map (λ (at : NamedTime). at.time)) (filter-append (is_of pname) xs ys) ∙ map-append (λ (at : NamedTime). at.time) (filter (is_of pname) xs) (filter (is_of pname) ys)

pub own_named : (pname : ℕ) (times : List ℤ) → times_of pname (named_times pname times) ≡ times
own_named pname [] = refl
own_named pname (time ∷ times) = rw (eq-eqb pname pname refl) (ap (λ (l : List ℤ). time ∷ l) (own_named pname times))

pub other_named : (pname other : ℕ) → other ≢ pname → (times : List ℤ) → times_of other (named_times pname times) ≡ []
other_named pname other ne [] = refl
other_named pname other ne (time ∷ times) = rw (ne_eqb pname other (λ same. ne (sym same))) (other_named pname other ne times)

pub own_times : (pname : ℕ) (times : List NamedTime) (more : List ℤ) → times_of pname (times ++ named_times pname more) ≡ times_of pname times ++ more
own_times pname times more = times_of-append pname times (named_times pname more) ∙ ap (λ (l : List ℤ). times_of pname times ++ l) (own_named pname more)

pub other_times : (pname other : ℕ) → other ≢ pname → (times : List NamedTime) (more : List ℤ) → times_of other (times ++ named_times pname more) ≡ times_of other times
other_times pname other ne times more =
    times_of-append other times (named_times pname more) ∙ ap (λ (l : List ℤ). times_of other times ++ l) (other_named pname other ne more) ∙ append-nil (times_of other times)
