-- What any number of reads of a store leaves is what one leaves: laws of a source, which its code cites.
use Rattle.std.proofs.Common.{◌≡◌, List, [], ◌∷◌, ◌++◌, append_assoc, refl, sym, ap, ◌∙◌, subst}
use Rattle.std.specs.List.{AllByRecursion}
use Rattle.std.proofs.lemmas.List.{append-nil}
use Rattle.arch_disk.specs.Disk.{Device}
use Rattle.arch_disk.proofs.Moments.{looked_none, looked_on}
use Rattle.history_items.specs.declared.fills.Fill.{Fill}
use Rattle.archive_store.specs.StoreView.{StoreView}
use Rattle.archive_store.specs.UnreadRows.{IsFaultOfRead, IsReadOn}

all_both : {X : Type 0} (P : X → Type 0) (xs ys : List X) → AllByRecursion P xs → AllByRecursion P ys → AllByRecursion P (xs ++ ys)
all_both P [] ys first second = second
all_both P (x ∷ xs) ys first second = (first.0, all_both P xs ys first.1 second)

IsNil : {X : Type 0} → List X → Type 0
IsNil [] = Unit {0}
IsNil (x ∷ xs) = ⊥

-- lists that are none together are none each
first_none : {X : Type 0} (xs ys : List X) → xs ++ ys ≡ [] → xs ≡ []
unfolding IsNil
first_none [] ys none = refl
first_none (x ∷ xs) ys none = absurd (subst IsNil (sym none) tt)

then_none : {X : Type 0} (xs ys : List X) → xs ++ ys ≡ [] → ys ≡ []
unfolding IsNil
then_none [] ys none = none
then_none (x ∷ xs) ys none = absurd (subst IsNil (sym none) tt)

module _ {D : Type 0} (device : Device D) where
  -- nothing was read
  pub read_none : (store : StoreView D) → IsReadOn device store store
  read_none store = record {
    faults = [];
    each = tt;
    same = ap (λ (fills : List Fill). record store { fills = fills }) (sym (append-nil store.fills));
    disk = looked_none device store.disk;
    no_fault = λ none. refl;
    plain = λ none. refl;
  }

  -- more was read
  pub read_more : (a b c : StoreView D) → IsReadOn device a b → IsReadOn device b c → IsReadOn device a c
  read_more a b c one two = record {
    faults = one.faults ++ two.faults;
    each = all_both IsFaultOfRead one.faults two.faults one.each two.each;
    same = two.same ∙ ap (λ (s : StoreView D). record s { disk = c.disk; fills = s.fills ++ two.faults }) one.same
        ∙ ap (λ (fills : List Fill). record a { disk = c.disk; fills = fills }) (append_assoc a.fills one.faults two.faults);
    disk = looked_on device a.disk b.disk c.disk one.disk two.disk;
    no_fault = λ none. two.no_fault (then_none one.faults two.faults none) ∙ one.no_fault (first_none one.faults two.faults none);
    plain = λ none. two.plain (ap (λ (s : StoreView D). s.sealed) (one.plain none) ∙ none) ∙ one.plain none;
  }
