-- The rows of a page, as far as they were told.
use Rattle.std.proofs.Common.{◌≡◌, ℕ, suc, zero, ◌+◌, ◌<◌, List, [], ◌∷◌, ◌++◌, length, take, drop, refl, sym, ap, subst, ◌∙◌, arith, append_assoc, append-nil, length-append}
use Rattle.std.specs.List.{AllByRecursion, zip}
use Rattle.std.proofs.lemmas.List.{take-append-drop}
use Rattle.arch_types.specs.declared.row.Row.{Row}
use Rattle.fill_tracker.specs.FillTracker.{FillTrackerView}
use Rattle.fill_tracker.specs.Placed.{AreMarksOfPlaced}
use Rattle.sealed_sums.specs.declared.stretch.Stretch.{Stretch}
use Rattle.sealed_sums.specs.Stretch.{GoesWith, IsStretchOf}
use Rattle.sealed_sums.specs.Sums.{AreSumsOf, SumsView}

-- rows and their positions were told up to some of them, which are left
pub record Told (rows : List Row) (positions : List ℕ) (rest : List Row) (places : List ℕ) (old now : SumsView) (was is : FillTrackerView) : Type 0 where
  pub done : List Row
  pub done_at : List ℕ
  pub split : rows ≡ done ++ rest
  pub split_at : positions ≡ done_at ++ places
  pub beside : length done_at ≡ length done
  pub sums : (before : List Row) → AreSumsOf before old → AreSumsOf (before ++ done) now
  pub marks : (placed : List (ℕ × Row)) → AreMarksOfPlaced old.exponent placed was.fills was.marks → AreMarksOfPlaced old.exponent (placed ++ zip done_at done) is.fills is.marks
  pub count : now.count ≡ old.count + length done
  pub exponent : now.exponent ≡ old.exponent
  pub tables : length now.tables ≡ length old.tables
  pub fills : is.fills ≡ was.fills

zip-append : (ps qs : List ℕ) (xs ys : List Row) → length ps ≡ length xs → zip (ps ++ qs) (xs ++ ys) ≡ zip ps xs ++ zip qs ys
zip-append [] qs [] ys same = refl
zip-append [] qs (x ∷ xs) ys same = absurd (omega (arith, same))
zip-append (p ∷ ps) qs [] ys same = absurd (omega (arith, same))
zip-append (p ∷ ps) qs (x ∷ xs) ys same = ap (λ (l : List (ℕ × Row)). (p, x) ∷ l) (zip-append ps qs xs ys (omega (arith, same)))

pub told_none : (rows : List Row) (positions : List ℕ) (old : SumsView) (was : FillTrackerView) → Told rows positions rows positions old old was was
told_none rows positions old was = record {
  done = [];
  done_at = [];
  split = refl;
  split_at = refl;
  beside = refl;
  sums = λ before are. subst (λ (l : List Row). AreSumsOf l old) (sym (append-nil before)) are;
  marks = λ placed are. subst (λ (l : List (ℕ × Row)). AreMarksOfPlaced old.exponent l was.fills was.marks) (sym (append-nil placed)) are;
  count = omega arith;
  exponent = refl;
  tables = refl;
  fills = refl;
}

module _ {rows : List Row} {positions : List ℕ} {rest : List Row} {places : List ℕ} {old now : SumsView} {was is : FillTrackerView} (told : Told rows positions rest places old now was is) where
  pub told_more : (part more : List Row) (part_at more_at : List ℕ) (next : SumsView) (then : FillTrackerView) → rest ≡ part ++ more → places ≡ part_at ++ more_at → length part_at ≡ length part
      → ((before : List Row) → AreSumsOf before now → AreSumsOf (before ++ part) next)
      → ((placed : List (ℕ × Row)) → AreMarksOfPlaced now.exponent placed is.fills is.marks → AreMarksOfPlaced now.exponent (placed ++ zip part_at part) then.fills then.marks)
      → next.count ≡ now.count + length part → next.exponent ≡ now.exponent → length next.tables ≡ length now.tables → then.fills ≡ is.fills → Told rows positions more more_at old next was then
  told_more part more part_at more_at next then split split_at beside sums marks count exponent tables fills = record {
    done = told.done ++ part;
    done_at = told.done_at ++ part_at;
    split = told.split ∙ ap (λ (l : List Row). told.done ++ l) split ∙ sym (append_assoc told.done part more);
    split_at = told.split_at ∙ ap (λ (l : List ℕ). told.done_at ++ l) split_at ∙ sym (append_assoc told.done_at part_at more_at);
    beside = omega (arith, told.beside, beside, length-append told.done part, length-append told.done_at part_at);
    sums = λ before are. subst (λ (l : List Row). AreSumsOf l next) (append_assoc before told.done part) (sums (before ++ told.done) (told.sums before are));
    marks = λ placed are.
        subst (λ (l : List (ℕ × Row)). AreMarksOfPlaced old.exponent l then.fills then.marks)
        (append_assoc placed (zip told.done_at told.done) (zip part_at part) ∙ ap (λ (l : List (ℕ × Row)). placed ++ l) (sym (zip-append told.done_at part_at told.done part told.beside)))
        (marked placed (told.marks placed are));
    count = omega (arith, count, told.count, length-append told.done part);
    exponent = exponent ∙ told.exponent;
    tables = tables ∙ told.tables;
    fills = fills ∙ told.fills;
  }
    where
      marked : (placed : List (ℕ × Row)) → AreMarksOfPlaced old.exponent (placed ++ zip told.done_at told.done) is.fills is.marks → AreMarksOfPlaced old.exponent ((placed ++ zip told.done_at told.done) ++ zip part_at part) then.fills then.marks
      marked placed = subst (λ (e : ℕ). AreMarksOfPlaced e (placed ++ zip told.done_at told.done) is.fills is.marks → AreMarksOfPlaced e ((placed ++ zip told.done_at told.done) ++ zip part_at part) then.fills then.marks) told.exponent (marks (placed ++ zip told.done_at told.done))

  -- at the end none is left
  all_done : length rest ≡ 0 → length positions ≡ length rows → (rows ≡ told.done) × (positions ≡ told.done_at)
  all_done none same = (
    told.split ∙ ap (λ (l : List Row). told.done ++ l) (empty rest none) ∙ append-nil told.done,
    told.split_at ∙ ap (λ (l : List ℕ). told.done_at ++ l) (empty places (omega (arith, none, same, told.beside, ap length told.split, ap length told.split_at, length-append told.done rest, length-append told.done_at places))) ∙ append-nil told.done_at,
  )
    where
      empty : {X : Type 0} (xs : List X) → length xs ≡ 0 → xs ≡ []
      empty [] same = refl
      empty (x ∷ xs) same = absurd (omega (arith, same))

  pub told_sums : length rest ≡ 0 → length positions ≡ length rows → (before : List Row) → AreSumsOf before old → AreSumsOf (before ++ rows) now
  told_sums none same before are = subst (λ (l : List Row). AreSumsOf (before ++ l) now) (sym (all_done none same).0) (told.sums before are)

  pub told_marks : length rest ≡ 0 → length positions ≡ length rows → (placed : List (ℕ × Row)) → AreMarksOfPlaced old.exponent placed was.fills was.marks → AreMarksOfPlaced old.exponent (placed ++ zip positions rows) is.fills is.marks
  told_marks none same placed are =
      let all = all_done none same in
      subst (λ (l : List ℕ). AreMarksOfPlaced old.exponent (placed ++ zip l rows) is.fills is.marks) (sym all.1)
      (subst (λ (l : List Row). AreMarksOfPlaced old.exponent (placed ++ zip told.done_at l) is.fills is.marks) (sym all.0) (told.marks placed are))

  -- as many are left as positions
  pub left_beside : length positions ≡ length rows → length places ≡ length rest
  left_beside same = omega (arith, same, told.beside, ap length told.split, ap length told.split_at, length-append told.done rest, length-append told.done_at places)

  pub left : length rows ≡ length told.done + length rest
  left = ap length told.split ∙ length-append told.done rest

-- what is taken and what is dropped
pub taken : {X : Type 0} (n : ℕ) (xs front back : List X) → front ≡ take n xs → back ≡ drop n xs → xs ≡ front ++ back
taken n xs front back is_front is_back = rw (is_front, is_back) (sym (take-append-drop n xs))
