-- A number more in a tree, and behind those that were noted.
use Rattle.std.proofs.Common.{◌≡◌, ◌∙◌, List, [], ◌∷◌, ◌++◌, Bool, true, false, cond, refl, ap, sym}
use Rattle.std.specs.Prelude.{ℤ, ◌||◌}
use Rattle.std.specs.declared.snapshot.Snapshot.{Snapshot}
use Rattle.std.specs.Ordering.{int_eq}
use Rattle.std.proofs.lemmas.Cmp.{int_eq_equiv}
use Rattle.std.proofs.lemmas.List.{map-append}
use Rattle.std.proofs.lemmas.List.Folds.{list_any-append}
use Rattle.mdb_items.specs.Numbers.{has_number}
use Rattle.mdb_rules.specs.NotedNumbers.{HaveSameNumbers, noted_numbers}

or_last : (a b : Bool) → cond b true a ≡ (a || (b || false))
or_last true true = refl
or_last true false = refl
or_last false true = refl
or_last false false = refl

pub noted_more : (order : List (Snapshot ℤ)) (noted : Snapshot ℤ) (number : ℤ) → noted.value ≡ number → noted_numbers (order ++ noted ∷ []) ≡ noted_numbers order ++ number ∷ []
noted_more order noted number is = map-append (λ (s : Snapshot ℤ). s.value) order (noted ∷ []) ∙ ap (λ (x : ℤ). noted_numbers order ++ x ∷ []) is

-- where the tree has one number more, so have those noted
pub same_more : (keys more noted : List ℤ) (number : ℤ) → HaveSameNumbers keys noted → ((x : ℤ) → has_number x more ≡ cond (int_eq number x) true (has_number x keys)) → HaveSameNumbers more (noted ++ number ∷ [])
same_more keys more noted number same grown x =
    grown x ∙ ap (λ (b : Bool). cond (int_eq number x) true b) (same x) ∙ or_last (has_number x noted) (int_eq number x)
    ∙ ap (λ (b : Bool). has_number x noted || (b || false)) (int_eq_equiv.symm number x) ∙ sym (list_any-append (int_eq x) noted (number ∷ []))
