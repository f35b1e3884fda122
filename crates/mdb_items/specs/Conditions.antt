-- The text of a condition: comparisons joined by `;`.
use Rattle.std.specs.Prelude.{ℕ, ◌==◌, ◌||◌, not, Bool, List, [], ◌∷◌, length, take, drop, take_while, map, Option, Some, None, if◌then◌else◌, codes, ℤ}
use Rattle.std.specs.List.{list_all}
use Rattle.std.specs.Str.{bytes_eq}
use Rattle.text_forms.specs.Names.{is_name_octet}
use Rattle.mdb_items.specs.declared.container.Comparison.{Comparison}
use Rattle.mdb_items.specs.declared.container.Operator.{Operator}
use Rattle.mdb_items.specs.declared.container.Operator.TheVariants.{Equal, NotEqual, Less, LessOrEqual, Greater, GreaterOrEqual}
use Rattle.mdb_items.specs.Texts.{Text, place_of, whole_number}

-- the front of a text, whose octets pass a test, and what comes after it
abbrev pub front_len : (ℕ → Bool) → Text → ℕ
front_len test text = length (take_while test text)

-- the octets of a text up to the first that fails the test
abbrev pub front : (ℕ → Bool) → Text → Text
front test text = take (front_len test text) text

-- the octets of a text from the first that fails the test on
abbrev pub after : (ℕ → Bool) → Text → Text
after test text = drop (front_len test text) text

-- the octet is a blank
abbrev pub is_space : ℕ → Bool
is_space b = b == 32

-- the octet is no blank
abbrev pub is_no_space : ℕ → Bool
is_no_space b = not (b == 32)

-- the octet doesn't part two comparisons
abbrev pub is_no_semicolon : ℕ → Bool
is_no_semicolon b = not (b == 59)

-- `!`, `<`, `=` or `>`
abbrev pub is_operator_octet : ℕ → Bool
is_operator_octet b = (b == 33) || (b == 60) || (b == 61) || (b == 62)

-- the operator that a text spells
abbrev pub operator_of : Text → Option Operator
operator_of text =
    if bytes_eq text (codes "==") then Some Equal
    else (if bytes_eq text (codes "!=") then Some NotEqual
    else (if bytes_eq text (codes "<") then Some Less
    else (if bytes_eq text (codes "<=") then Some LessOrEqual
    else (if bytes_eq text (codes ">") then Some Greater
    else (if bytes_eq text (codes ">=") then Some GreaterOrEqual else None)))))

-- all three parts, and nothing else
abbrev pub compared : Option ℕ → Option Operator → Option ℤ → Bool → Option Comparison
compared None operator number ends = None
compared (Some p) None number ends = None
compared (Some p) (Some o) None ends = None
compared (Some p) (Some o) (Some n) ends = if ends then Some (record { parameter = p; operator = o; number = n }) else None

-- a number, and then spaces alone
abbrev pub comparison_with : Option ℕ → Option Operator → Text → Option Comparison
comparison_with parameter operator text =
    compared parameter operator (whole_number (front is_no_space text)) (list_all is_space (after is_no_space text))

-- an operator, with spaces around it, and then a number
abbrev pub comparison_of : Option ℕ → Text → Option Comparison
comparison_of parameter text =
    comparison_with parameter (operator_of (front is_operator_octet text)) (after is_space (after is_operator_octet text))

-- a parameter's name, and then that
abbrev pub comparison_named : List Text → Text → Option Comparison
comparison_named parameters text = comparison_of (place_of (front is_name_octet text) parameters) (after is_space (after is_name_octet text))

-- a parameter's name, an operator and a whole number, with spaces around each
abbrev pub comparison : List Text → Text → Option Comparison
comparison parameters text = comparison_named parameters (after is_space text)

-- a piece with one more octet at its front
abbrev pub grown : ℕ → List Text → List Text
grown b [] = (b ∷ []) ∷ []
grown b (piece ∷ pieces) = (b ∷ piece) ∷ pieces

-- the pieces of a text between its `;`
abbrev pub pieces : Text → List Text
pieces [] = [] ∷ []
pieces (b ∷ text) = if b == 59 then [] ∷ pieces text else grown b (pieces text)

-- the pieces of what comes after a `;`, if anything does
abbrev pub pieces_after : Option Text → List Text
pieces_after None = []
pieces_after (Some text) = pieces text

-- the item before the items, where both are
abbrev pub put : {X : Type 0} → Option X → Option (List X) → Option (List X)
put None items = None
put (Some x) None = None
put (Some x) (Some items) = Some (x ∷ items)

-- all items, where each is
abbrev pub all_of : {X : Type 0} → List (Option X) → Option (List X)
all_of [] = Some []
all_of (item ∷ items) = put item (all_of items)

-- comparisons joined by `;`, and none where the text is empty
abbrev pub condition : List Text → Text → Option (List Comparison)
condition parameters [] = Some []
condition parameters (b ∷ text) = all_of (map (comparison parameters) (pieces (b ∷ text)))
