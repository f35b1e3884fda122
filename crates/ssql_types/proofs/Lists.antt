-- The items of a list, typed one after the other.
use Rattle.std.proofs.Common.{◌≡◌, inl, inr, ℕ, zero, suc, arith, ◌+◌, ◌<◌, ◌≤◌, List, [], ◌∷◌, ◌++◌, map, length, get_or, drop, drop-cons, add-one, refl, sym, ap, subst, ◌∙◌, append_assoc}
use Rattle.std.specs.Prelude.{flat_map}
use Rattle.std.proofs.lemmas.List.{append-nil, drop_all}
use Rattle.ssql_types.specs.declared.not_typed.NotTyped.{NotTyped}
use Rattle.ssql_types.specs.Rules.{TokenFault, no_fault, first_sql_fault, later_places, places_behind}
use Rattle.ssql_types.specs.Faults.{listed_faults}
use Rattle.ssql_types.specs.Typing.{IsTypedPart, IsPartNotTyped}
use Rattle.ssql_types.proofs.Joined.{first_behind, places_append, refused_before}

-- what is left of a list at an item that is at its place
pub drop_item : {A : Type 0} (xs : List A) (i : ℕ) (x : A) → i < length xs → x ≡ get_or xs i x → drop i xs ≡ x ∷ drop (i + 1) xs
drop_item {A} xs i x within is =
    let next : i + 1 ≡ suc i = add-one i in
    drop-cons xs i x within ∙ ap (λ (y : A). y ∷ drop (suc i) xs) (sym is) ∙ ap (λ (k : ℕ). x ∷ drop k xs) (sym next)

-- Of a list some items are typed and these are left: together they are all, and what is wrong first is wrong with what is left.
pub record IsListLeft {A B : Type 0} (faults : A → List TokenFault) (value : A → B) (all : List A) (places : List ℕ) (items : List B) (left : List A) (rest : List ℕ) : Type 0 where
  pub same : items ++ map value left ≡ map value all
  pub first : first_sql_fault (flat_map faults left) rest ≡ first_sql_fault (flat_map faults all) places
  pub behind : places_behind (flat_map faults left) rest ≡ places_behind (flat_map faults all) places

-- a token and the sign behind it
pub with_sign : {B : Type 0} (fault : TokenFault) (places : List ℕ) (value v : B) (later next : List ℕ) → IsTypedPart (fault ∷ []) places value (v, later) → next ≡ later_places later →
    IsTypedPart (fault ∷ no_fault ∷ []) places value (v, next)
with_sign fault places value v later next part is = record {
  sound = first_behind (fault ∷ []) (no_fault ∷ []) places part.sound;
  same = part.same;
  rest = is ∙ ap later_places part.rest;
}

pub refused_with_sign : (fault : TokenFault) (places : List ℕ) (refusal : NotTyped) → IsPartNotTyped (fault ∷ []) places refusal → IsPartNotTyped (fault ∷ no_fault ∷ []) places refusal
refused_with_sign fault places refusal why = refused_before (fault ∷ []) (no_fault ∷ []) places refusal why

module _ {A B : Type 0} (faults : A → List TokenFault) (value : A → B) (all : List A) (places : List ℕ) where
  pub list_begins : IsListLeft faults value all places [] all places
  list_begins = record { same = refl; first = refl; behind = refl }

  pub list_goes_on : (items : List B) (x : A) (left : List A) (rest : List ℕ) (v : B) (later : List ℕ) (longer : List B) →
      IsListLeft faults value all places items (x ∷ left) rest → IsTypedPart (faults x) rest (value x) (v, later) → longer ≡ items ++ v ∷ [] →
      IsListLeft faults value all places longer left later
  list_goes_on items x left rest v later longer sofar part is = record {
    same = ap (λ (ys : List B). ys ++ map value left) (is ∙ ap (λ (y : B). items ++ y ∷ []) part.same) ∙ append_assoc items (value x ∷ []) (map value left) ∙ sofar.same;
    first = ap (first_sql_fault (flat_map faults left)) part.rest ∙ sym (first_behind (faults x) (flat_map faults left) rest part.sound) ∙ sofar.first;
    behind = ap (places_behind (flat_map faults left)) part.rest ∙ sym (places_append (faults x) (flat_map faults left) rest) ∙ sofar.behind;
  }

  pub list_ends : (items : List B) (left : List A) (rest : List ℕ) → IsListLeft faults value all places items left rest → left ≡ [] → IsTypedPart (flat_map faults all) places (map value all) (items, rest)
  list_ends items left rest sofar none = record {
    sound = sym sofar.first ∙ ap (λ (l : List A). first_sql_fault (flat_map faults l) rest) none;
    same = sym (append-nil items) ∙ ap (λ (l : List A). items ++ map value l) (sym none) ∙ sofar.same;
    rest = ap (λ (l : List A). places_behind (flat_map faults l) rest) (sym none) ∙ sofar.behind;
  }

  pub list_stops : (items : List B) (x : A) (left : List A) (rest : List ℕ) (refusal : NotTyped) →
      IsListLeft faults value all places items (x ∷ left) rest → IsPartNotTyped (faults x) rest refusal → IsPartNotTyped (flat_map faults all) places refusal
  list_stops items x left rest refusal sofar why =
      elim (refused_before (faults x) (flat_map faults left) rest refusal why) as (λ h. IsPartNotTyped (flat_map faults all) places refusal) [
        | inl e ↦ inl e
        | inr e ↦ inr (sym sofar.first ∙ e)
      ]

-- ---- by the place of the item, as a loop over the list stands

module _ {A B : Type 0} (faults : A → List TokenFault) (value : A → B) (all : List A) (places : List ℕ) where
  left_at : (items : List B) (i : ℕ) (x : A) (rest : List ℕ) → i < length all → x ≡ get_or all i x → IsListLeft faults value all places items (drop i all) rest →
      IsListLeft faults value all places items (x ∷ drop (i + 1) all) rest
  left_at items i x rest within is sofar = subst (λ (left : List A). IsListLeft faults value all places items left rest) (drop_item all i x within is) sofar

  pub item_stops : (items : List B) (i : ℕ) (x : A) (rest : List ℕ) (refusal : NotTyped) → i < length all → x ≡ get_or all i x → IsListLeft faults value all places items (drop i all) rest →
      IsPartNotTyped (faults x) rest refusal → IsPartNotTyped (flat_map faults all) places refusal
  item_stops items i x rest refusal within is sofar why =
      list_stops faults value all places items x (drop (i + 1) all) rest refusal (left_at items i x rest within is sofar) why

  pub item_goes_on : (items : List B) (i : ℕ) (x : A) (rest : List ℕ) (v : B) (later : List ℕ) (longer : List B) → i < length all → x ≡ get_or all i x →
      IsListLeft faults value all places items (drop i all) rest → IsTypedPart (faults x) rest (value x) (v, later) → longer ≡ items ++ v ∷ [] →
      IsListLeft faults value all places longer (drop (i + 1) all) later
  item_goes_on items i x rest v later longer within is sofar part pushed =
      list_goes_on faults value all places items x (drop (i + 1) all) rest v later longer (left_at items i x rest within is sofar) part pushed

  pub items_end : (items : List B) (i : ℕ) (rest : List ℕ) → length all ≤ i → IsListLeft faults value all places items (drop i all) rest → IsTypedPart (flat_map faults all) places (map value all) (items, rest)
  items_end items i rest behind sofar = list_ends faults value all places items (drop i all) rest sofar (drop_all i all behind)

-- the same for tokens with a sign behind each
module _ {A B : Type 0} (fault : A → TokenFault) (value : A → B) (all : List A) (places : List ℕ) where
  abbrev with_signs : A → List TokenFault
  with_signs x = fault x ∷ no_fault ∷ []

  pub token_stops : (items : List B) (i : ℕ) (x : A) (rest : List ℕ) (refusal : NotTyped) → i < length all → x ≡ get_or all i x → IsListLeft with_signs value all places items (drop i all) rest →
      IsPartNotTyped (fault x ∷ []) rest refusal → IsPartNotTyped (listed_faults fault all) places refusal
  token_stops items i x rest refusal within is sofar why =
      item_stops with_signs value all places items i x rest refusal within is sofar (refused_with_sign (fault x) rest refusal why)

  pub token_goes_on : (items : List B) (i : ℕ) (x : A) (rest : List ℕ) (v : B) (later next : List ℕ) (longer : List B) → i < length all → x ≡ get_or all i x →
      IsListLeft with_signs value all places items (drop i all) rest → IsTypedPart (fault x ∷ []) rest (value x) (v, later) → longer ≡ items ++ v ∷ [] → next ≡ later_places later →
      IsListLeft with_signs value all places longer (drop (i + 1) all) next
  token_goes_on items i x rest v later next longer within is sofar part pushed behind =
      item_goes_on with_signs value all places items i x rest v next longer within is sofar (with_sign (fault x) rest (value x) v later next part behind) pushed

  pub tokens_end : (items : List B) (i : ℕ) (rest : List ℕ) → length all ≤ i → IsListLeft with_signs value all places items (drop i all) rest → IsTypedPart (listed_faults fault all) places (map value all) (items, rest)
  tokens_end items i rest behind sofar = items_end with_signs value all places items i rest behind sofar

-- ---- listed columns, with which nothing is wrong

map_itself : {A : Type 0} (xs : List A) → map (λ (x : A). x) xs ≡ xs
map_itself [] = refl
map_itself {A} (x ∷ xs) = ap (λ (ys : List A). x ∷ ys) (map_itself xs)

-- an item at its place is the same beside any other
item_at : {A : Type 0} (xs : List A) (i : ℕ) (a b : A) → i < length xs → get_or xs i a ≡ get_or xs i b
item_at [] i a b within = absurd (omega (arith, within))
item_at (x ∷ xs) zero a b within = refl
item_at (x ∷ xs) (suc i) a b within = item_at xs i a b (omega (arith, within))

module _ {A : Type 0} (all : List A) (places : List ℕ) where
  pub column_goes_on : (items : List A) (i : ℕ) (x : A) (rest : List ℕ) (next : List ℕ) (longer : List A) → i < length all → x ≡ get_or all i x →
      IsListLeft (λ (y : A). no_fault ∷ no_fault ∷ []) (λ (y : A). y) all places items (drop i all) rest → longer ≡ items ++ x ∷ [] → next ≡ later_places (later_places rest) →
      IsListLeft (λ (y : A). no_fault ∷ no_fault ∷ []) (λ (y : A). y) all places longer (drop (i + 1) all) next
  column_goes_on items i x rest next longer within is sofar pushed at =
      item_goes_on (λ (y : A). no_fault ∷ no_fault ∷ []) (λ (y : A). y) all places items i x rest x next longer within is sofar (record { sound = refl; same = refl; rest = at }) pushed

  pub columns_end : (items : List A) (i : ℕ) (rest : List ℕ) → length all ≤ i → IsListLeft (λ (y : A). no_fault ∷ no_fault ∷ []) (λ (y : A). y) all places items (drop i all) rest →
      IsTypedPart (listed_faults (λ (y : A). no_fault) all) places all (items, rest)
  columns_end items i rest behind sofar =
      let part = items_end (λ (y : A). no_fault ∷ no_fault ∷ []) (λ (y : A). y) all places items i rest behind sofar in
      record { sound = part.sound; same = part.same ∙ map_itself all; rest = part.rest }

  -- the same for a column that is read at its place
  pub column_at_goes_on : (items : List A) (i : ℕ) (other : A) (rest : List ℕ) (next : List ℕ) (longer : List A) → i < length all →
      IsListLeft (λ (y : A). no_fault ∷ no_fault ∷ []) (λ (y : A). y) all places items (drop i all) rest → longer ≡ items ++ get_or all i other ∷ [] → next ≡ later_places (later_places rest) →
      IsListLeft (λ (y : A). no_fault ∷ no_fault ∷ []) (λ (y : A). y) all places longer (drop (i + 1) all) next
  column_at_goes_on items i other rest next longer within sofar pushed at =
      column_goes_on items i (get_or all i other) rest next longer within (item_at all i other (get_or all i other) within) sofar pushed at
