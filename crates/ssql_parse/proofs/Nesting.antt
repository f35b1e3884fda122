-- The NOT and the parentheses that are open, as the code keeps them: the innermost stands last.
use Rattle.std.proofs.Common.{◌≡◌, ◌<◌, ◌+◌, ◌-◌, ℕ, Bool, true, false, List, [], ◌∷◌, ◌++◌, length, drop, get_or, reverse, max, slice_get, option_to_list, Option, Some, None, MatchOption, refl, sym, ap, ◌∙◌, arith}
use Rattle.std.proofs.lemmas.List.{append-nil, reverse-append, get_or-reverse, drop_more}
use Rattle.std.proofs.lemmas.Option.{get_or_from_slice_get, slice_get-get_or}
use Rattle.ssql_parse.specs.declared.condition.Piece.{Piece}
use Rattle.ssql_parse.specs.declared.statement.Statement.{Statement}
use Rattle.ssql_parse.specs.Depth.{not_first, ended, closed, nesting_behind, depth_at, deepest, statement_depth, script_depth}

-- ---- the last of them

pub pushed_first : (nesting : List Bool) (mark : Bool) → reverse (nesting ++ mark ∷ []) ≡ mark ∷ reverse nesting
pushed_first nesting mark = reverse-append nesting (mark ∷ [])

first_is : (nesting : List Bool) → not_first nesting ≡ get_or nesting 0 false
first_is [] = refl
first_is (mark ∷ nesting) = refl

pub last_is_first : (nesting : List Bool) (mark : Bool) → slice_get nesting (length nesting - 1) ≡ Some mark → not_first (reverse nesting) ≡ mark
last_is_first [] mark e = absurd cc
last_is_first (m ∷ nesting) mark e =
    let xs = m ∷ nesting in
    let place : length xs - 1 - 0 ≡ length xs - 1 = omega arith in
    first_is (reverse xs) ∙ get_or-reverse xs 0 false (omega arith) ∙ ap (λ (k : ℕ). get_or xs k false) place ∙ get_or_from_slice_get xs (length xs - 1) mark false e

pub none_is_first : (nesting : List Bool) → slice_get nesting (length nesting - 1) ≡ None → not_first (reverse nesting) ≡ false
none_is_first [] e = refl
none_is_first (m ∷ nesting) e =
    let xs = m ∷ nesting in
    let there = slice_get-get_or xs (length xs - 1) false (omega arith) in
    absurd (let both : None ≡ Some (get_or xs (length xs - 1) false) = sym e ∙ there in cc)

-- ---- what ends

pub some_open : (nesting : List Bool) → not_first (reverse nesting) ≡ true → 0 < length nesting
some_open [] e = absurd cc
some_open (m ∷ nesting) e = omega arith

pub popped_less : (n m : ℕ) (r : Option Bool) → 0 < n → MatchOption r ((n ≡ 0) × (m ≡ 0)) (λ x. m + 1 ≡ n) → m < n
popped_less n m None some h = absurd (omega arith)
popped_less n m (Some x) some h = omega arith

-- a NOT
pub not_off : (old new : List Bool) (last : Option Bool) → old ≡ new ++ option_to_list last → not_first (reverse old) ≡ true → ended (reverse old) ≡ ended (reverse new)
not_off old new None e t = ap (λ (xs : List Bool). ended (reverse xs)) (e ∙ append-nil new)
not_off old new (Some mark) e t =
    let parts : reverse old ≡ mark ∷ reverse new = ap reverse e ∙ pushed_first new mark in
    let is : mark ≡ true = sym (ap not_first parts) ∙ t in
    ap ended (parts ∙ ap (λ (m : Bool). m ∷ reverse new) is)

pub all_off : (nesting : List Bool) → not_first nesting ≡ false → nesting ≡ ended nesting
all_off [] e = refl
all_off (true ∷ nesting) e = absurd cc
all_off (false ∷ nesting) e = refl

-- the last one, if there is one
pub one_off : (old new : List Bool) (last : Option Bool) → old ≡ new ++ option_to_list last → length new ≡ length old - 1 → reverse new ≡ drop 1 (reverse old)
one_off [] new None e len = let none : new ≡ [] = sym (append-nil new) ∙ sym e in ap reverse none
one_off (m ∷ old) new None e len = let same : length (m ∷ old) ≡ length new = ap length (e ∙ append-nil new) in absurd (omega arith)
one_off old new (Some mark) e len = sym (ap (drop 1) (ap reverse e ∙ pushed_first new mark))

pub both_ended : (first second third last : List Bool) → second ≡ ended first → third ≡ drop 1 second → last ≡ ended third → last ≡ closed first
both_ended first second third last a b c = c ∙ ap ended (b ∙ ap (drop 1) a)

-- ---- the loops

pub deeper : (pieces : List Piece) (i depth all : ℕ) (piece : Piece) (nesting next : List Bool) → i < length pieces → get_or pieces i piece ≡ piece → max depth (deepest (drop i pieces) nesting) ≡ all → next ≡ nesting_behind piece nesting →
    max (max depth (depth_at piece nesting)) (deepest (drop (i + 1) pieces) next) ≡ all
deeper pieces i depth all piece nesting next lt is so_far e =
    let parts : drop i pieces ≡ piece ∷ drop (i + 1) pieces = drop_more pieces i piece lt ∙ ap (λ (p : Piece). p ∷ drop (i + 1) pieces) is in
    let step : deepest (drop i pieces) nesting ≡ max (depth_at piece nesting) (deepest (drop (i + 1) pieces) (nesting_behind piece nesting)) = ap (λ (ps : List Piece). deepest ps nesting) parts in
    let here : deepest (drop (i + 1) pieces) next ≡ deepest (drop (i + 1) pieces) (nesting_behind piece nesting) = ap (deepest (drop (i + 1) pieces)) e in
    omega (arith, so_far, step, here)

pub deeper_script : (statements : List Statement) (i depth all : ℕ) (statement : Statement) → i < length statements → get_or statements i statement ≡ statement → max depth (script_depth (drop i statements)) ≡ all →
    max (max depth (statement_depth statement)) (script_depth (drop (i + 1) statements)) ≡ all
deeper_script statements i depth all statement lt is so_far =
    let parts : drop i statements ≡ statement ∷ drop (i + 1) statements = drop_more statements i statement lt ∙ ap (λ (s : Statement). s ∷ drop (i + 1) statements) is in
    let step : script_depth (drop i statements) ≡ max (statement_depth statement) (script_depth (drop (i + 1) statements)) = ap script_depth parts in
    omega (arith, so_far, step)
