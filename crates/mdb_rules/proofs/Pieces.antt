-- The pieces of a text between its `;`.
use Rattle.std.proofs.Common.{◌≡◌, ◌∙◌, ◌+◌, ◌<◌, ◌≤◌, ℕ, suc, List, [], ◌∷◌, ◌++◌, length, map, take, drop, Option, Some, None, Bool, false, inl, inr, refl, ap, sym, arith, append_assoc, add-one, length-take}
use Rattle.std.specs.Prelude.{◌==◌}
use Rattle.std.specs.List.{prefix_len}
use Rattle.std.proofs.Math.Numerals.{one-add}
use Rattle.std.proofs.lemmas.Bool.{cases_Bool}
use Rattle.mdb_items.specs.declared.container.Comparison.{Comparison}
use Rattle.mdb_items.specs.Conditions.{all_of, comparison, condition, front_len, is_no_semicolon, pieces, put}
use Rattle.mdb_items.specs.Texts.{Text}

-- the items so far and those to come
abbrev pub joined : {X : Type 0} → List X → Option (List X) → Option (List X)
joined done None = None
joined done (Some items) = Some (done ++ items)

pub joined-none : {X : Type 0} (items : Option (List X)) → joined [] items ≡ items
joined-none None = refl
joined-none (Some items) = refl

-- one more item is there
pub joined-put : {X : Type 0} (done : List X) (x : X) (items : Option (List X)) → joined (done ++ x ∷ []) items ≡ joined done (put (Some x) items)
joined-put done x None = refl
joined-put done x (Some items) = ap (λ xs. Some xs) (append_assoc done (x ∷ []) items)

prefix_within : (test : ℕ → Bool) (text : Text) → prefix_len test text ≤ length text
prefix_within test [] = omega arith
prefix_within test (b ∷ text) = elim (cases_Bool (test b)) [
  | inl is ↦ let less = prefix_within test text in rw is (omega arith)
  | inr isnt ↦ rw isnt (omega arith)
]

pub front_len-is : (test : ℕ → Bool) (text : Text) → front_len test text ≡ prefix_len test text
front_len-is test text = omega (arith, length-take (prefix_len test text) text, prefix_within test text)

end_of : (text : Text) → prefix_len is_no_semicolon text ≡ length text → pieces text ≡ text ∷ []
end_of [] e = refl
end_of (b ∷ text) e = elim (cases_Bool (b == 59)) [
  | inl is ↦ let z : 0 ≡ suc (length text) = rw is at e in absurd (omega arith)
  | inr isnt ↦
      let f : 1 + prefix_len is_no_semicolon text ≡ suc (length text) = rw isnt at e in
      let g : prefix_len is_no_semicolon text ≡ length text = omega arith in
      rw (isnt, end_of text g) refl
]

more_of : (text : Text) → prefix_len is_no_semicolon text < length text
    → pieces text ≡ take (prefix_len is_no_semicolon text) text ∷ pieces (drop (prefix_len is_no_semicolon text + 1) text)
more_of [] e = absurd (omega arith)
more_of (b ∷ text) e = elim (cases_Bool (b == 59)) [
  | inl is ↦ rw is refl
  | inr isnt ↦
      let f : 1 + prefix_len is_no_semicolon text < suc (length text) = rw isnt at e in
      let g : prefix_len is_no_semicolon text < length text = omega arith in
      let more = more_of text g in
      rw (isnt, more, one-add, add-one, add-one) refl
]

-- no `;` is left
pub pieces_end : (text : Text) (n : ℕ) → n ≡ front_len is_no_semicolon text → n ≡ length text → pieces text ≡ text ∷ []
pieces_end text n is all = end_of text (sym (front_len-is is_no_semicolon text) ∙ sym is ∙ all)

-- the piece before the first `;`, and those after it
pub pieces_more : (text : Text) (n : ℕ) → n ≡ front_len is_no_semicolon text → n < length text → pieces text ≡ take n text ∷ pieces (drop (n + 1) text)
pieces_more text n is less =
    let same : prefix_len is_no_semicolon text ≡ n = sym (front_len-is is_no_semicolon text) ∙ sym is in
    let more = more_of text (omega arith) in
    rw same at more

pub condition_empty : (parameters : List Text) (text : Text) → length text ≡ 0 → condition parameters text ≡ Some []
condition_empty parameters [] e = refl
condition_empty parameters (b ∷ text) e = absurd (omega arith)

pub condition_more : (parameters : List Text) (text : Text) → 0 < length text → condition parameters text ≡ all_of (map (comparison parameters) (pieces text))
condition_more parameters [] e = absurd (omega arith)
condition_more parameters (b ∷ text) e = refl

-- a piece that is no comparison
pub step_none : (parameters : List Text) (done : List Comparison) (rest piece : Text) (later : List Text) (whole : Option (List Comparison)) → pieces rest ≡ piece ∷ later → comparison parameters piece ≡ None
    → joined done (all_of (map (comparison parameters) (pieces rest))) ≡ whole → None ≡ whole
step_none parameters done rest piece later whole cut is all =
    let now : joined done (all_of (map (comparison parameters) (piece ∷ later))) ≡ whole = rw cut at all in
    let none : joined done (put (comparison parameters piece) (all_of (map (comparison parameters) later))) ≡ whole = now in
    rw is at none

-- a piece that is one
pub step_some : (parameters : List Text) (done : List Comparison) (rest piece : Text) (later : List Text) (x : Comparison) (whole : Option (List Comparison)) → pieces rest ≡ piece ∷ later → comparison parameters piece ≡ Some x
    → joined done (all_of (map (comparison parameters) (pieces rest))) ≡ whole → joined (done ++ x ∷ []) (all_of (map (comparison parameters) later)) ≡ whole
step_some parameters done rest piece later x whole cut is all =
    let now : joined done (put (comparison parameters piece) (all_of (map (comparison parameters) later))) ≡ whole = rw cut at all in
    let some : joined done (put (Some x) (all_of (map (comparison parameters) later))) ≡ whole = rw is at now in
    joined-put done x (all_of (map (comparison parameters) later)) ∙ some

pub some_octet : (text : Text) → (length text == 0) ≡ false → 0 < length text
some_octet [] e = cc
some_octet (b ∷ text) e = omega arith
