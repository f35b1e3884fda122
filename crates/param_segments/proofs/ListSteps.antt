-- A list more in a tree, and behind those that were noted.
use Rattle.std.proofs.Common.{◌≡◌, ◌∙◌, ℕ, suc, List, [], ◌∷◌, ◌++◌, length, Option, Some, None, Bool, true, false, cond, inl, inr, refl, ap, sym}
use Rattle.std.specs.Prelude.{nat_eq, option_map}
use Rattle.std.specs.Global.{Vec}
use Rattle.std.specs.declared.snapshot.Snapshot.{Snapshot}
use Rattle.std.specs.BTreeMap.{is_at}
use Rattle.std.specs.Cmp.Lexicographic.{same_text, slice_cmp}
use Rattle.std.specs.List.{position}
use Rattle.std.specs.Map.{KeepsOthers}
use Rattle.std.specs.Ordering.{eq_by_cmp, is_eq, nat_cmp}
use lib.Pointwise.{pointwise}
use Rattle.std.specs.declared.cmp.Ordering.{Ordering}
use Rattle.std.proofs.lemmas.Bool.{cases_Bool}
use Rattle.std.proofs.lemmas.List.{map-append}
use Rattle.std.proofs.lemmas.Map.Text.{is_eq-slice_cmp}
use Rattle.container_extract.proofs.Positions.{position_cons}
use Rattle.param_segments.specs.NotedLists.{AreNumbered, noted_lists, number_in}

abbrev key_cmp : Vec ℕ → Vec ℕ → Ordering
key_cmp a b = slice_cmp nat_cmp a.items b.items

abbrev is_list : List ℕ → Vec ℕ → Bool
is_list numbers = is_at (λ (key : Vec ℕ). slice_cmp nat_cmp numbers key.items)

pub noted_more : (order : List (Snapshot (Vec ℕ))) (noted : Snapshot (Vec ℕ)) (key : Vec ℕ) → noted.value ≡ key → noted_lists (order ++ noted ∷ []) ≡ noted_lists order ++ key.items ∷ []
noted_more order noted key is = map-append (λ (s : Snapshot (Vec ℕ)). s.value.items) order (noted ∷ []) ∙ ap (λ (v : Vec ℕ). noted_lists order ++ v.items ∷ []) is

-- ---- the place of one more

position_skip : {X : Type 0} (p : X → Bool) (xs : List X) (y : X) → p y ≡ false → position p (xs ++ y ∷ []) ≡ position p xs
position_skip p [] y fails = position_cons p y [] ∙ ap (λ b. cond b (Some 0) (option_map suc (position p []))) fails
position_skip p (x ∷ xs) y fails = position_cons p x (xs ++ y ∷ []) ∙ ap (λ (o : Option ℕ). cond (p x) (Some 0) (option_map suc o)) (position_skip p xs y fails) ∙ sym (position_cons p x xs)

none_before : (o : Option ℕ) → option_map suc o ≡ None → o ≡ None
none_before None e = refl
none_before (Some i) e = cc

position_last : {X : Type 0} (p : X → Bool) (xs : List X) (y : X) → p y ≡ true → position p xs ≡ None → position p (xs ++ y ∷ []) ≡ Some (length xs)
position_last p [] y passes none = position_cons p y [] ∙ ap (λ b. cond b (Some 0) (option_map suc (position p []))) passes
position_last p (x ∷ xs) y passes none = elim (cases_Bool (p x)) [
  | inl is ↦ let bad : Path (Option ℕ) (Some 0) None = ap (λ b. cond b (Some 0) (option_map suc (position p xs))) (sym is) ∙ sym (position_cons p x xs) ∙ none in cc
  | inr isnt ↦
      let rest : option_map suc (position p xs) ≡ None = ap (λ b. cond b (Some 0) (option_map suc (position p xs))) (sym isnt) ∙ sym (position_cons p x xs) ∙ none in
      position_cons p x (xs ++ y ∷ []) ∙ ap (λ b. cond b (Some 0) (option_map suc (position p (xs ++ y ∷ [])))) isnt ∙ ap (option_map suc) (position_last p xs y passes (none_before (position p xs) rest))
]

-- ---- the tree

same_list : (xs ys : List ℕ) → is_eq (slice_cmp nat_cmp xs ys) ≡ true → xs ≡ ys
same_list xs ys e = same_text xs ys (sym (sym (is_eq-slice_cmp xs ys) ∙ e))

-- where the tree has one list more, with the number of the next place, so have those noted
pub numbered_more : (entries more : List (Vec ℕ × ℕ)) (lists : List (List ℕ)) (key : Vec ℕ) → AreNumbered entries lists → position (pointwise nat_eq key.items) lists ≡ None
    → number_in more key.items ≡ Some (length lists) → KeepsOthers (eq_by_cmp key_cmp) (is_at (key_cmp key)) entries more → AreNumbered more (lists ++ key.items ∷ [])
unfolding KeepsOthers
numbered_more entries more lists key numbered new there kept numbers = elim (cases_Bool (pointwise nat_eq numbers key.items)) [
  | inl same ↦
      let is : numbers ≡ key.items = same_text numbers key.items (sym same) in
      ap (number_in more) is ∙ there ∙ sym (position_last (pointwise nat_eq numbers) lists key.items same (ap (λ (ns : List ℕ). position (pointwise nat_eq ns) lists) is ∙ new))
  | inr other ↦
      let test : (x y : Vec ℕ) → is_list numbers x ≡ true → is_list numbers y ≡ eq_by_cmp key_cmp x y = λ x y e. ap (λ (ns : List ℕ). is_eq (slice_cmp nat_cmp ns y.items)) (same_list numbers x.items e) in
      let apart : (k : Vec ℕ) → is_at (key_cmp key) k ≡ true → is_list numbers k ≡ false = λ k e.
      is_eq-slice_cmp numbers k.items ∙ ap (λ (ns : List ℕ). pointwise nat_eq numbers ns) (sym (same_list key.items k.items e)) ∙ other in
      kept (is_list numbers) test apart ∙ numbered numbers ∙ sym (position_skip (pointwise nat_eq numbers) lists key.items other)
]
