-- The opening of a head is read exactly.
use Rattle.std.proofs.Common.{◌≡◌, ◌≢◌, ℕ, ◌<◌, ◌^◌, Bool, true, false, eqb, leb, true≢false, not, ◌&&◌, List, [], ◌∷◌, length, Option, Some, refl, sym, ap, ◌∙◌, arith}
use Rattle.std.specs.Prelude.{slice_get, ◌||◌}
use Rattle.std.specs.Int.{w8}
use Rattle.std.specs.List.{AllByRecursion, list_any}
use Rattle.std.specs.Str.{bytes_eq}
use Rattle.std.proofs.lemmas.Bool.{eqb-true, leb-true, le-leb}
use Rattle.std.proofs.lemmas.Slice.Eq.{bytes_eq-Decides}
use Rattle.text_forms.specs.Names.{is_name}
use Rattle.octet_fields.specs.Exact.{IsExact}
use Rattle.octet_fields.specs.Spelling.{counted, name, number}
use Rattle.octet_fields.proofs.Exact.{IsExact-as, IsExact-both, IsExact-mapped, IsExact-tested}
use Rattle.octet_fields.proofs.Numbers.{exact8, exact_counted8, exact_name}
use Rattle.field_codec.specs.Entries.{tm, AreDistinct, AreTables}
use Rattle.field_codec.specs.Spelling.{opening_octets}
use Rattle.field_codec.specs.Reading.{are_tables, begins_with_tm, is_distinct, opening_at, table_name_at, tables_at, this_at}

and_true : (a b : Bool) → (a && b) ≡ true → (a ≡ true) × (b ≡ true)
and_true true b e = (refl, e)
and_true false b e = absurd cc

not_true : (b : Bool) → not b ≡ true → b ≡ false
not_true true e = absurd cc
not_true false e = refl

or_false : (a b : Bool) → (a || b) ≡ false → (a ≡ false) × (b ≡ false)
or_false true b e = absurd cc
or_false false b e = (refl, e)

-- ---- names that differ

differ : (a b : List ℕ) → bytes_eq a b ≡ false → b ≢ a
differ a b e same = true≢false (sym ((bytes_eq-Decides a b).1 (sym same)) ∙ e)

unlike : (a b : List ℕ) → b ≢ a → bytes_eq a b ≡ false
unlike a b other = go (bytes_eq a b) refl
  where
    go : (t : Bool) → bytes_eq a b ≡ t → bytes_eq a b ≡ false
    go true e = absurd (other (sym ((bytes_eq-Decides a b).0 e)))
    go false e = e

none_same : (x : List ℕ) (names : List (List ℕ)) → list_any (bytes_eq x) names ≡ false → AllByRecursion (λ other. other ≢ x) names
none_same x [] e = tt
none_same x (y ∷ names) e = let p = or_false (bytes_eq x y) (list_any (bytes_eq x) names) e in (differ x y p.0, none_same x names p.1)

same_none : (x : List ℕ) (names : List (List ℕ)) → AllByRecursion (λ other. other ≢ x) names → list_any (bytes_eq x) names ≡ false
same_none x [] all = refl
same_none x (y ∷ names) all = rw (unlike x y all.0, same_none x names all.1) refl

distinct_true : (names : List (List ℕ)) → is_distinct names ≡ true → AreDistinct names
distinct_true [] e = tt
distinct_true (x ∷ names) e =
    let p = and_true (not (list_any (bytes_eq x) names)) (is_distinct names) e in
    (none_same x names (not_true (list_any (bytes_eq x) names) p.0), distinct_true names p.1)

true_distinct : (names : List (List ℕ)) → AreDistinct names → is_distinct names ≡ true
true_distinct [] all = refl
true_distinct (x ∷ names) all = rw (same_none x names all.0, true_distinct names all.1) refl

-- ---- names of tables

tm_first : (tables : List (List ℕ)) → begins_with_tm tables ≡ true → slice_get tables 0 ≡ Some tm
tm_first [] e = absurd cc
tm_first (t ∷ tables) e = ap Some ((bytes_eq-Decides t tm).0 e)

some_is : {A : Type 0} (x y : A) → ◌≡◌ {A = Option A} (Some x) (Some y) → x ≡ y
some_is x y e = cc

first_tm : (tables : List (List ℕ)) → slice_get tables 0 ≡ Some tm → begins_with_tm tables ≡ true
first_tm [] e = absurd cc
first_tm (t ∷ tables) e = (bytes_eq-Decides t tm).1 (some_is t tm e)

name_short : (t : List ℕ) → is_name t ≡ true → length t < 2 ^ 8
name_short t h = grind arith

table_exact : IsExact (λ t. is_name t ≡ true) name table_name_at
unfolding table_name_at
table_exact = IsExact-as (IsExact-tested exact_name is_name) (λ t. is_name t ≡ true) name (λ t h. (h.1, refl)) (λ t h. (name_short t h, h))

tables_there : (tables : List (List ℕ)) → ((length tables < 2 ^ 8) × AllByRecursion (λ t. is_name t ≡ true) tables) × (are_tables tables ≡ true) → AreTables tables × (counted w8 name tables ≡ counted w8 name tables)
unfolding are_tables
tables_there tables h =
    let p = and_true (begins_with_tm tables) (leb (length tables) 16 && is_distinct tables) h.1 in
    let q = and_true (leb (length tables) 16) (is_distinct tables) p.1 in
    (record { names = h.0.1; few = leb-true (length tables) 16 q.0; first = tm_first tables p.0; distinct = distinct_true tables q.1 }, refl)

tables_here : (tables : List (List ℕ)) → AreTables tables → ((length tables < 2 ^ 8) × AllByRecursion (λ t. is_name t ≡ true) tables) × (are_tables tables ≡ true)
unfolding are_tables
tables_here tables h = ((omega (arith, h.few), h.names), rw (first_tm tables h.first, le-leb (length tables) 16 h.few, true_distinct tables h.distinct) refl)

tables_exact : IsExact AreTables (counted w8 name) tables_at
unfolding tables_at
tables_exact = IsExact-as (IsExact-tested (exact_counted8 table_exact) are_tables) AreTables (counted w8 name) tables_there tables_here

-- ---- the opening

abbrev IsThis : ℕ → ℕ → Type 0
IsThis n m = (m < 2 ^ 8) × (eqb m n ≡ true)

this_exact : (n : ℕ) → IsExact (IsThis n) (number w8) (this_at n)
unfolding this_at
this_exact n = IsExact-tested exact8 (λ m. eqb m n)

abbrev Numbered : Type 0
Numbered = ℕ × (ℕ × List (List ℕ))

opening_there : (p : Numbered) → IsThis 1 p.0 × (IsThis 22 p.1.0 × AreTables p.1.1) → AreTables p.1.1 × (◌≡◌ {A = Numbered} (1, (22, p.1.1)) p)
opening_there p h =
    let one : 1 ≡ p.0 = sym (eqb-true p.0 1 h.0.1) in
    let two : 22 ≡ p.1.0 = sym (eqb-true p.1.0 22 h.1.0.1) in
    (h.1.1, ap (λ (n : ℕ). (n, (22, p.1.1))) one ∙ ap (λ (n : ℕ). (p.0, (n, p.1.1))) two)

opening_here : (tables : List (List ℕ)) → AreTables tables → (IsThis 1 1 × (IsThis 22 22 × AreTables tables)) × (tables ≡ tables)
opening_here tables h = (((omega arith, refl), ((omega arith, refl), h)), refl)

pub opening_exact : IsExact AreTables opening_octets opening_at
unfolding opening_octets opening_at
opening_exact = IsExact-mapped (IsExact-both (this_exact 1) (λ _ _. IsExact-both (this_exact 22) (λ _ _. tables_exact))) AreTables (λ (p : Numbered). p.1.1) (λ tables. (1, (22, tables))) opening_there opening_here

-- ---- names that are put

-- any name has a spelling
pub any_fits : (names : List (List ℕ)) → AllByRecursion (λ name. Unit {0}) names
any_fits [] = tt
any_fits (name ∷ names) = (tt, any_fits names)
