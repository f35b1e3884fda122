-- Rows, as far as they were added to sums.
use Rattle.std.proofs.Common.{◌≡◌, ℕ, ◌+◌, List, [], ◌∷◌, ◌++◌, length, refl, sym, ap, subst, ◌∙◌, arith, append_assoc, append-nil, length-append}
use Rattle.arch_types.specs.declared.row.Row.{Row}
use Rattle.sealed_sums.specs.Sums.{AreSumsOf, SumsView}

-- rows were added up to some of them, which are left
pub record Summed (rows rest : List Row) (old now : SumsView) : Type 0 where
  pub done : List Row
  pub split : rows ≡ done ++ rest
  pub sums : (before : List Row) → AreSumsOf before old → AreSumsOf (before ++ done) now
  pub count : now.count ≡ old.count + length done
  pub exponent : now.exponent ≡ old.exponent
  pub tables : length now.tables ≡ length old.tables

pub summed_none : (rows : List Row) (old : SumsView) → Summed rows rows old old
summed_none rows old = record {
  done = [];
  split = refl;
  sums = λ before are. subst (λ (l : List Row). AreSumsOf l old) (sym (append-nil before)) are;
  count = omega arith;
  exponent = refl;
  tables = refl;
}

module _ {rows rest : List Row} {old now : SumsView} (summed : Summed rows rest old now) where
  pub summed_more : (part more : List Row) (next : SumsView) → rest ≡ part ++ more → ((before : List Row) → AreSumsOf before now → AreSumsOf (before ++ part) next) → next.count ≡ now.count + length part → next.exponent ≡ now.exponent
      → length next.tables ≡ length now.tables → Summed rows more old next
  summed_more part more next split sums count exponent tables = record {
    done = summed.done ++ part;
    split = summed.split ∙ ap (λ (l : List Row). summed.done ++ l) split ∙ sym (append_assoc summed.done part more);
    sums = λ before are. subst (λ (l : List Row). AreSumsOf l next) (append_assoc before summed.done part) (sums (before ++ summed.done) (summed.sums before are));
    count = omega (arith, count, summed.count, length-append summed.done part);
    exponent = exponent ∙ summed.exponent;
    tables = tables ∙ summed.tables;
  }

  pub summed_left : length rows ≡ length summed.done + length rest
  summed_left = ap length summed.split ∙ length-append summed.done rest

  pub summed_all : length rest ≡ 0 → (before : List Row) → AreSumsOf before old → AreSumsOf (before ++ rows) now
  summed_all none before are = subst (λ (l : List Row). AreSumsOf (before ++ l) now) (sym (summed.split ∙ ap (λ (l : List Row). summed.done ++ l) (empty rest none) ∙ append-nil summed.done)) (summed.sums before are)
    where
      empty : (xs : List Row) → length xs ≡ 0 → xs ≡ []
      empty [] none = refl
      empty (x ∷ xs) none = absurd (omega (arith, none))
