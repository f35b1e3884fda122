-- What an ingest answers, and what it adds.
use Rattle.std.proofs.Common.{◌≡◌, ℕ, zero, suc, ◌+◌, ◌≤◌, List, [], ◌∷◌, ◌++◌, length, take, Bool, true, false, eqb, true≢false, Option, Some, None, refl, sym, ap, subst, ◌∙◌, arith, append-nil, append_assoc, length-append, add-one}
use mathlib.Core.List.{Sublist}
use mathlib.Core.List.Sublist as sublist
use Rattle.std.specs.Prelude.{slice_get, if◌then◌else◌, ◌↔◌, option_map}
use Rattle.std.specs.List.{list_any}
use Rattle.std.specs.Ordering.{is_eq}
use Rattle.std.specs.declared.cmp.Ordering.{Ordering}
use Rattle.std.specs.declared.cmp.Ordering.TheVariants.{Less, Equal, Greater}
use Rattle.std.proofs.lemmas.Option.{same_Some}
use Rattle.std.proofs.lemmas.Bool.{eqb-true, and_parts}
use Rattle.std.proofs.lemmas.Bool.Decides.{nat_tests}
use Rattle.std.proofs.lemmas.List.Sums.{fold-append}
use Rattle.arch_types.specs.declared.row.Row.{Row}
use Rattle.arch_types.specs.declared.inserted.Inserted.{Inserted}
use Rattle.arch_types.specs.declared.inserted.Inserted.TheVariants.{New, Duplicate}
use Rattle.arch_types.specs.Order.{key_cmp}
use Rattle.arch_types.specs.History.{is_duplicate_of, firsts, IsHistory}
use Rattle.arch_types.proofs.Histories.{same_key}
use Rattle.arch_types.proofs.Ranks.{key_cmp_total}
use Rattle.history_items.specs.declared.items.Item.{Item}
use Rattle.history_items.specs.declared.items.Item.TheVariants as items
use Rattle.history_items.specs.Items.{after_row, after_rows, has_key_of, items_of, row_item, rows_in}
use Rattle.history_items.specs.Outcomes.{outcome_at, outcome_of, outcomes_of, Says, answered_new, fresh_of}
use Rattle.history_items.specs.Places.{first_place}
use Rattle.history_items.proofs.Places.{first_none, first_some, first_there}
use Rattle.history_items.proofs.ItemLists.{all_in, items_of-append, keeps_rows, length-items_of, rows_after_rows, rows_of_rows}

-- ---- batches in parts

pub length-outcomes : (history : List Item) (rows : List Row) → length (outcomes_of history rows) ≡ length rows
length-outcomes history [] = refl
length-outcomes history (row ∷ rows) = ap suc (length-outcomes (after_row history row) rows)

pub after_rows-append : (history : List Item) (a b : List Row) → after_rows history (a ++ b) ≡ after_rows (after_rows history a) b
after_rows-append history a b = fold-append after_row history a b

pub outcomes-append : (history : List Item) (a b : List Row) → outcomes_of history (a ++ b) ≡ outcomes_of history a ++ outcomes_of (after_rows history a) b
outcomes-append history [] b = refl
outcomes-append history (row ∷ a) b = ap (λ (l : List Inserted). outcome_of history row ∷ l) (outcomes-append (after_row history row) a b)

-- ---- what is added

-- the row whose table and key are there is not added
pub kept_same : (history : List Item) (row : Row) (place : ℕ) → first_place (has_key_of row) history ≡ Some place → after_row history row ≡ history
kept_same history row place is = rw (first_some (has_key_of row) history place is) refl

-- the row whose table and key aren't there is
pub kept_new : (history : List Item) (row : Row) → first_place (has_key_of row) history ≡ None → after_row history row ≡ history ++ row_item row ∷ []
kept_new history row is = rw (first_none (has_key_of row) history is) refl

abbrev fresh_after : Option ℕ → List Item → Row → List Row → List Row
fresh_after o history row rows = answered_new (outcome_at o (length history) ∷ outcomes_of (after_row history row) rows) (row ∷ rows)

pub fresh_added : (history : List Item) (rows : List Row) → after_rows history rows ≡ history ++ items_of (fresh_of history rows)
fresh_added history [] = sym (append-nil history)
fresh_added history (row ∷ rows) = go (first_place (has_key_of row) history) refl (fresh_added (after_row history row) rows)
  where
    go : (o : Option ℕ) → first_place (has_key_of row) history ≡ o → after_rows (after_row history row) rows ≡ after_row history row ++ items_of (fresh_of (after_row history row) rows) → after_rows (after_row history row) rows ≡ history ++ items_of (fresh_after o history row rows)
    go (Some place) is others = others ∙ ap (λ (l : List Item). l ++ items_of (fresh_of (after_row history row) rows)) (kept_same history row place is)
    go None is others =
        others ∙ ap (λ (l : List Item). l ++ items_of (fresh_of (after_row history row) rows)) (kept_new history row is)
        ∙ append_assoc history (row_item row ∷ []) (items_of (fresh_of (after_row history row) rows))

-- of a row and more rows those are new that are new behind it, and the row itself where no item has its table and key
pub fresh_of_cons : (history : List Item) (row : Row) (rows : List Row) →
    fresh_of history (row ∷ rows) ≡ (if list_any (has_key_of row) history then fresh_of history rows else row ∷ fresh_of (history ++ row_item row ∷ []) rows)
fresh_of_cons history row rows = go (first_place (has_key_of row) history) refl
  where
    by_test : Bool → List Row
    by_test there = if there then fresh_of history rows else row ∷ fresh_of (history ++ row_item row ∷ []) rows

    go : (o : Option ℕ) → first_place (has_key_of row) history ≡ o → fresh_after o history row rows ≡ by_test (list_any (has_key_of row) history)
    go (Some place) is = ap (λ (h : List Item). fresh_of h rows) (kept_same history row place is) ∙ sym (ap by_test (first_some (has_key_of row) history place is))
    go None is = ap (λ (h : List Item). row ∷ fresh_of h rows) (kept_new history row is) ∙ sym (ap by_test (first_none (has_key_of row) history is))

-- of rows alone the first of each table and key are new
pub fresh_firsts : (rows : List Row) → fresh_of [] rows ≡ firsts rows
fresh_firsts rows = sym (rows_of_rows (fresh_of [] rows)) ∙ (sym (ap rows_in (fresh_added [] rows)) ∙ rows_after_rows [] rows)

pub fresh_new : (history : List Item) (rows : List Row) → after_rows history (fresh_of history rows) ≡ history ++ items_of (fresh_of history rows)
fresh_new history [] = sym (append-nil history)
fresh_new history (row ∷ rows) = go (first_place (has_key_of row) history) refl (fresh_new (after_row history row) rows)
  where
    go : (o : Option ℕ) → first_place (has_key_of row) history ≡ o → after_rows (after_row history row) (fresh_of (after_row history row) rows) ≡ after_row history row ++ items_of (fresh_of (after_row history row) rows) →
        after_rows history (fresh_after o history row rows) ≡ history ++ items_of (fresh_after o history row rows)
    go (Some place) is others =
        sym (ap (λ (l : List Item). after_rows l (fresh_of (after_row history row) rows)) (kept_same history row place is)) ∙ others
        ∙ ap (λ (l : List Item). l ++ items_of (fresh_of (after_row history row) rows)) (kept_same history row place is)
    go None is others =
        others ∙ ap (λ (l : List Item). l ++ items_of (fresh_of (after_row history row) rows)) (kept_new history row is)
        ∙ append_assoc history (row_item row ∷ []) (items_of (fresh_of (after_row history row) rows))

pub length-fresh : (history : List Item) (rows : List Row) → length (fresh_of history rows) ≤ length rows
length-fresh history [] = omega arith
length-fresh history (row ∷ rows) = go (first_place (has_key_of row) history) (length-fresh (after_row history row) rows)
  where
    go : (o : Option ℕ) → length (fresh_of (after_row history row) rows) ≤ length rows → length (fresh_after o history row rows) ≤ length (row ∷ rows)
    go (Some place) others = omega (arith, others)
    go None others = omega (arith, others)

-- the rows that are new are rows of the batch, in its order
pub fresh_sublist : (history : List Item) (rows : List Row) → Sublist (fresh_of history rows) rows
fresh_sublist history [] = sublist.refl []
fresh_sublist history (row ∷ rows) = go (first_place (has_key_of row) history) (fresh_sublist (after_row history row) rows)
  where
    go : (o : Option ℕ) → Sublist (fresh_of (after_row history row) rows) rows → Sublist (fresh_after o history row rows) (row ∷ rows)
    go (Some place) others = sublist.cons row others
    go None others = sublist.cons-cons row others

-- as many new rows as rows are all of them
fresh_all : (history : List Item) (rows : List Row) → length (fresh_of history rows) ≡ length rows → fresh_of history rows ≡ rows
fresh_all history [] same = refl
fresh_all history (row ∷ rows) same = go (first_place (has_key_of row) history) same (fresh_all (after_row history row) rows)
  where
    go : (o : Option ℕ) → length (fresh_after o history row rows) ≡ length (row ∷ rows) → (length (fresh_of (after_row history row) rows) ≡ length rows → fresh_of (after_row history row) rows ≡ rows) → fresh_after o history row rows ≡ row ∷ rows
    go (Some place) same others = absurd (omega (arith, same, length-fresh (after_row history row) rows))
    go None same others = ap (λ (l : List Row). row ∷ l) (others (omega (arith, same)))

pub length-after_rows : (history : List Item) (rows : List Row) → length (after_rows history rows) ≤ length history + length rows
length-after_rows history rows =
    omega (arith, ap length (fresh_added history rows), length-append history (items_of (fresh_of history rows)), length-items_of (fresh_of history rows), length-fresh history rows)

pub all_new : (history : List Item) (rows : List Row) → length (after_rows history rows) ≡ length history + length rows → after_rows history rows ≡ history ++ items_of rows
all_new history rows full =
    let same : length (fresh_of history rows) ≡ length rows =
    omega (arith, full, ap length (fresh_added history rows), length-append history (items_of (fresh_of history rows)), length-items_of (fresh_of history rows)) in
    fresh_added history rows ∙ ap (λ (l : List Row). history ++ items_of l) (fresh_all history rows same)

pub new_in_turn : (history : List Item) (first second : List Row) →
    (after_rows history (first ++ second) ≡ history ++ items_of (first ++ second))
    ↔ ((after_rows history first ≡ history ++ items_of first) × (after_rows (history ++ items_of first) second ≡ (history ++ items_of first) ++ items_of second))
new_in_turn history first second = (there, back)
  where
    apart : history ++ items_of (first ++ second) ≡ (history ++ items_of first) ++ items_of second
    apart = ap (λ (l : List Item). history ++ l) (items_of-append first second) ∙ sym (append_assoc history (items_of first) (items_of second))

    there : after_rows history (first ++ second) ≡ history ++ items_of (first ++ second)
        → (after_rows history first ≡ history ++ items_of first) × (after_rows (history ++ items_of first) second ≡ (history ++ items_of first) ++ items_of second)
    there all =
        let whole : length (after_rows (after_rows history first) second) ≡ length history + (length first + length second) =
        ap length (sym (after_rows-append history first second) ∙ all) ∙ length-append history (items_of (first ++ second))
        ∙ ap (λ (n : ℕ). length history + n) (length-items_of (first ++ second) ∙ length-append first second) in
        let one = all_new history first (omega (arith, whole, length-after_rows history first, length-after_rows (after_rows history first) second)) in
        (one, ap (λ (l : List Item). after_rows l second) (sym one) ∙ sym (after_rows-append history first second) ∙ all ∙ apart)

    back : (after_rows history first ≡ history ++ items_of first) × (after_rows (history ++ items_of first) second ≡ (history ++ items_of first) ++ items_of second)
        → after_rows history (first ++ second) ≡ history ++ items_of (first ++ second)
    back both = after_rows-append history first second ∙ ap (λ (l : List Item). after_rows l second) both.0 ∙ both.1 ∙ sym apart

-- ---- the row that has a table and key is one

equal_true : (o : Ordering) → is_eq o ≡ true → o ≡ Equal
equal_true Less e = absurd cc
equal_true Equal e = refl
equal_true Greater e = absurd cc

-- two rows that have the table and key of a third have each other's
pub each_other : (row a b : Row) → is_duplicate_of row a ≡ true → is_duplicate_of row b ≡ true → is_duplicate_of a b ≡ true
each_other row a b one two =
    let p = and_parts (eqb row.table a.table) (is_eq (key_cmp row.key a.key)) one in
    let q = and_parts (eqb row.table b.table) (is_eq (key_cmp row.key b.key)) two in
    let first : row.table ≡ a.table = eqb-true row.table a.table p.0 in
    let second : row.table ≡ b.table = eqb-true row.table b.table q.0 in
    let table : eqb a.table b.table ≡ true = grind (arith, nat_tests) in
    let key : key_cmp a.key b.key ≡ Equal = sym (key_cmp_total.congr row.key a.key b.key (equal_true (key_cmp row.key a.key) p.1)) ∙ equal_true (key_cmp row.key b.key) q.1 in
    rw (table, key) refl

-- a row has the table and key of each that has its own
pub duplicate_back : (a b : Row) → is_duplicate_of a b ≡ true → is_duplicate_of b a ≡ true
duplicate_back a b same = each_other a b a same (same_key a)

place_is : (history : List Item) (row : Row) (there : Item) (place : ℕ) → IsHistory (rows_in history) → slice_get history place ≡ Some there → has_key_of row there ≡ true → first_place (has_key_of row) history ≡ Some place
place_is [] row there place is at passes = absurd cc
place_is (x ∷ xs) row there zero is at passes =
    let same : x ≡ there = cc in
    let here : has_key_of row x ≡ true = ap (has_key_of row) same ∙ passes in
    rw here refl
place_is (items.Mdb database ∷ xs) row there (suc place) is at passes = ap (option_map (λ p. p + 1)) (place_is xs row there place is at passes) ∙ ap Some (add-one place)
place_is (items.Row x ∷ xs) row (items.Mdb database) (suc place) is at passes = absurd (true≢false (sym passes))
place_is (items.Row x ∷ xs) row (items.Row there) (suc place) is at passes = go (is_duplicate_of row x) refl (place_is xs row (items.Row there) place is.1 at passes)
  where
    go : (b : Bool) → is_duplicate_of row x ≡ b → first_place (has_key_of row) xs ≡ Some place → (if b then Some 0 else option_map (λ p. p + 1) (first_place (has_key_of row) xs)) ≡ Some (suc place)
    go true here later = absurd (true≢false (sym (each_other row there x passes here) ∙ all_in (λ later. is_duplicate_of later x ≡ false) xs place there is.0 at))
    go false here later = ap (option_map (λ p. p + 1)) later ∙ ap Some (add-one place)

-- ---- an outcome says the truth

not_longer : (history : List Item) (item : Item) → history ≡ history ++ item ∷ [] → ⊥
not_longer history item e = omega (arith, ap length e, length-append history (item ∷ []))

says_there : (history : List Item) (row : Row) → Says history row (outcome_of history row)
says_there history row = go (first_place (has_key_of row) history) refl
  where
    go : (o : Option ℕ) → first_place (has_key_of row) history ≡ o → Says history row (outcome_at o (length history))
    go None is = (kept_new history row is, refl)
    go (Some place) is = first_there (has_key_of row) history place is

says_back : (history : List Item) (row : Row) (outcome : Inserted) → IsHistory (rows_in history) → Says history row outcome → outcome_of history row ≡ outcome
says_back history row (New position) is says = go (first_place (has_key_of row) history) refl
  where
    go : (o : Option ℕ) → first_place (has_key_of row) history ≡ o → outcome_at o (length history) ≡ New position
    go None at = ap New (sym says.1)
    go (Some place) at = absurd (not_longer history (row_item row) (sym (kept_same history row place at) ∙ says.0))
says_back history row (Duplicate position) is says = ap (λ (o : Option ℕ). outcome_at o (length history)) (place_is history row says.0 position is says.1 says.2)

says_one : (history : List Item) (row : Row) (outcome : Inserted) → IsHistory (rows_in history) → (◌≡◌ {A = Option Inserted} (Some (outcome_of history row)) (Some outcome)) ↔ Says history row outcome
says_one history row outcome is = (
  λ e. subst (Says history row) (same_Some (outcome_of history row) outcome e) (says_there history row),
  λ says. ap Some (says_back history row outcome is says),
)

pub outcomes_say : (history : List Item) (rows : List Row) (i : ℕ) (row : Row) (outcome : Inserted) → IsHistory (rows_in history) → slice_get rows i ≡ Some row →
    (slice_get (outcomes_of history rows) i ≡ Some outcome) ↔ Says (after_rows history (take i rows)) row outcome
outcomes_say history [] i row outcome is at = absurd cc
outcomes_say history (r ∷ rows) zero row outcome is at =
    let same : r ≡ row = same_Some r row at in
    subst (λ (x : Row). (◌≡◌ {A = Option Inserted} (Some (outcome_of history r)) (Some outcome)) ↔ Says history x outcome) same (says_one history r outcome is)
outcomes_say history (r ∷ rows) (suc i) row outcome is at = outcomes_say (after_row history r) rows i row outcome (keeps_rows history (r ∷ []) is) at
