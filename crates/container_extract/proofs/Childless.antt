-- Containers without a child.
use Rattle.std.proofs.Common.{◌≡◌, ◌∙◌, ◌++◌, ℕ, List, [], ◌∷◌, map, Option, Some, None, true, inl, inr, refl, ap, sym}
use Rattle.std.specs.Prelude.{ℤ, if◌then◌else◌}
use Rattle.std.specs.BTreeMap.{btree_map_len}
use Rattle.std.specs.List.{filter, find, list_all, take_while}
use Rattle.std.specs.Ordering.{int_eq}
use Rattle.std.proofs.lemmas.Bool.{cases_Bool}
use Rattle.std.proofs.lemmas.Cmp.{int_eq_equiv}
use Rattle.std.proofs.lemmas.List.{nil_from_length}
use Rattle.mdb_items.specs.Database.{Database}
use Rattle.mdb_items.specs.declared.container.Comparison.{Comparison}
use Rattle.mdb_lookups.specs.Children.{children_of}
use Rattle.mdb_lookups.specs.NumberedChildren.{AreByNumber, children_at, is_number, is_other, number_at}
use Rattle.mdb_lookups.specs.declared.numbered_children.NumberedChildren.{NumberedChildren}
use Rattle.container_extract.specs.declared.values.RawValue.{RawValue}
use Rattle.container_extract.specs.Chain.{entries_at, first_child}
use Rattle.container_extract.specs.Step.{AreAbove, IsStep, holds_at}
use Rattle.container_extract.specs.Values.{fits, raw_value_of}
use Rattle.container_extract.proofs.Children.{first_of_children}
use Rattle.container_extract.proofs.Placed.{of_path}

-- a map without entries has no number
none_in_map : (c : NumberedChildren) → btree_map_len c.by_number ≡ 0 → (x : ℤ) → children_at c.by_number x ≡ []
none_in_map c none x = let empty = nil_from_length c.by_number.entries none in rw empty refl

-- where no child asks for any number, and there are no others, there are none
pub none_by_number : (conditions : List (List (Comparison × ℕ))) (children : List ℕ) (c : NumberedChildren) → AreByNumber conditions children c → btree_map_len c.by_number ≡ 0 → c.others.items ≡ [] → children ≡ []
none_by_number conditions [] c by none others = refl
none_by_number conditions (child ∷ children) c by none others = first_asks (number_at conditions c.place child) refl where
  first_asks : (o : Option ℤ) → number_at conditions c.place child ≡ o → child ∷ children ≡ []
  first_asks None is =
      let here : filter (λ m. is_other (number_at conditions c.place m)) (child ∷ children) ≡ child ∷ filter (λ m. is_other (number_at conditions c.place m)) children = rw is refl in
      let bad : child ∷ filter (λ m. is_other (number_at conditions c.place m)) children ≡ [] = sym here ∙ sym by.others ∙ others in
      cc
  first_asks (Some z) is =
      let same : int_eq z z ≡ true = int_eq_equiv.refl z in
      let asked : is_number z (number_at conditions c.place child) ≡ true = ap (is_number z) is ∙ same in
      let here : filter (λ m. is_number z (number_at conditions c.place m)) (child ∷ children) ≡ child ∷ filter (λ m. is_number z (number_at conditions c.place m)) children = rw asked refl in
      let bad : child ∷ filter (λ m. is_number z (number_at conditions c.place m)) children ≡ [] = sym here ∙ sym (by.by_number z) ∙ none_in_map c none z in
      cc

-- nothing comes after a container without a child, whatever its entries say
pub childless_step : (db : Database) (packet : List ℕ) (values : List RawValue) (n : ℕ) → AreAbove db n values → children_of db.containers n ≡ []
    → IsStep db packet values n (values ++ map (raw_value_of db packet) (take_while (fits db packet) (entries_at db n))) None
childless_step db packet values n above none =
    let own = entries_at db n in
    let more = values ++ map (raw_value_of db packet) (take_while (fits db packet) own) in
    record {
      values_are = refl;
      next_is = elim (cases_Bool (list_all (fits db packet) own)) [
        | inl is ↦
            let path = of_path db packet n values more more own refl refl is above refl in
            let ends : first_child db.containers n more ≡ None = first_of_children db n more path ∙ ap (find (holds_at db.containers more)) none in
            sym (ap (λ b. if b then first_child db.containers n more else None) is ∙ ends)
        | inr isnt ↦ sym (ap (λ b. if b then first_child db.containers n more else None) isnt)
      ];
    }
