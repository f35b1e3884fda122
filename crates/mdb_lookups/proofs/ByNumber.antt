-- Children by number: one more child, and one more list.
use Rattle.std.proofs.Common.{◌≡◌, ◌∙◌, ◌<◌, ◌+◌, ℕ, List, [], ◌∷◌, ◌++◌, length, take, get_or, Option, Some, ap, sym, subst}
use Rattle.std.specs.Prelude.{ℤ, slice_get, if◌then◌else◌}
use Rattle.std.specs.List.{filter}
use Rattle.std.proofs.lemmas.List.Elements.{filter_more}
use Rattle.std.proofs.lemmas.Option.{same_Some}
use Rattle.mdb_items.specs.declared.container.Comparison.{Comparison}
use Rattle.mdb_lookups.specs.declared.numbered_children.NumberedChildren.{NumberedChildren}
use Rattle.mdb_lookups.specs.NumberedChildren.{AreByNumber, children_at, is_number, is_other, number_at}
use Rattle.mdb_lookups.proofs.LabelOrders.{each_more}

-- one more child stands behind those of its number, or behind the others
pub one_more_child : (conditions : List (List (Comparison × ℕ))) (children : List ℕ) (i : ℕ) (old new : NumberedChildren) (number : Option ℤ) → i < length children → AreByNumber conditions (take i children) old
    → number ≡ number_at conditions old.place (get_or children i 0) → new.place ≡ old.place
    → ((x : ℤ) → children_at new.by_number x ≡ children_at old.by_number x ++ (if is_number x number then get_or children i 0 ∷ [] else []))
    → new.others.items ≡ old.others.items ++ (if is_other number then get_or children i 0 ∷ [] else []) → AreByNumber conditions (take (i + 1) children) new
one_more_child conditions children i old new number lt so_far asked place numbered others =
    let child = get_or children i 0 in
    record {
      by_number = λ x.
          numbered x ∙ ap (λ (xs : List ℕ). xs ++ (if is_number x number then child ∷ [] else [])) (so_far.by_number x)
          ∙ ap (λ (o : Option ℤ). filter (λ c. is_number x (number_at conditions old.place c)) (take i children) ++ (if is_number x o then child ∷ [] else [])) asked
          ∙ sym (filter_more (λ c. is_number x (number_at conditions old.place c)) children i 0 lt)
          ∙ ap (λ (p : ℕ). filter (λ c. is_number x (number_at conditions p c)) (take (i + 1) children)) (sym place);
      others =
          others ∙ ap (λ (xs : List ℕ). xs ++ (if is_other number then child ∷ [] else [])) so_far.others
          ∙ ap (λ (o : Option ℤ). filter (λ c. is_other (number_at conditions old.place c)) (take i children) ++ (if is_other o then child ∷ [] else [])) asked
          ∙ sym (filter_more (λ c. is_other (number_at conditions old.place c)) children i 0 lt)
          ∙ ap (λ (p : ℕ). filter (λ c. is_other (number_at conditions p c)) (take (i + 1) children)) (sym place);
    }

-- each of the lists at its place is by number
abbrev pub AreOwn : List (List (Comparison × ℕ)) → List (List ℕ) → List NumberedChildren → Type 0
AreOwn conditions lists all = (n : ℕ) (c : NumberedChildren) → slice_get all n ≡ Some c → (children : List ℕ) → slice_get lists n ≡ Some children → AreByNumber conditions children c

pub one_more_list : (conditions : List (List (Comparison × ℕ))) (lists : List (List ℕ)) (all : List NumberedChildren) (c : NumberedChildren) (children : List ℕ) → AreOwn conditions lists all
    → slice_get lists (length all) ≡ Some children → AreByNumber conditions children c → AreOwn conditions lists (all ++ c ∷ [])
one_more_list conditions lists all c children own at by =
    each_more (λ n c. (children : List ℕ) → slice_get lists n ≡ Some children → AreByNumber conditions children c) all c own
    (λ given here. subst (λ (xs : List ℕ). AreByNumber conditions xs c) (same_Some children given (sym at ∙ here)) by)
