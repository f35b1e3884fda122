-- Rows ingested into a history.
use Rattle.std.proofs.Common.{◌≡◌, List, [], ◌∷◌, ◌++◌, Bool, true, false, true≢false, sym, refl, ap, ◌∙◌, append-nil, append_assoc, arith}
use Rattle.std.specs.Prelude.{◌||◌, if◌then◌else◌}
use Rattle.std.specs.List.{list_any, AllByRecursion}
use Rattle.std.proofs.lemmas.List.Folds.{list_any-append}
use Rattle.std.proofs.lemmas.Cmp.{tied_itself}
use Rattle.std.proofs.lemmas.Bool.Decides.{nat_tests}
use Rattle.std.specs.Prelude.{nat_eq}
use Rattle.arch_types.proofs.Ranks.{key_cmp_total}
use Rattle.arch_types.specs.declared.row.Row.{Row}
use Rattle.arch_types.specs.History.{is_duplicate_of, with_row, ingested, IsHistory}

added : (history : List Row) (row : Row) (b : Bool) → (more : List Row) × ((if b then history else history ++ row ∷ []) ≡ history ++ more)
added history row true = ([], sym (append-nil history))
added history row false = (row ∷ [], refl)

-- an ingest only adds rows at the end
pub only_adds : (history rows : List Row) → (more : List Row) × (ingested history rows ≡ history ++ more)
only_adds history [] = ([], sym (append-nil history))
only_adds history (row ∷ rows) =
    let one = added history row (list_any (is_duplicate_of row) history) in
    let others = only_adds (with_row history row) rows in
    (one.0 ++ others.0, others.1 ∙ ap (λ (l : List Row). l ++ others.0) one.1 ∙ append_assoc history one.0 others.0)

or_true : (a b : Bool) → a ≡ true → (a || b) ≡ true
or_true a b h = rw h

-- what passes in a history passes after an ingest
stays : (test : Row → Bool) (history rows : List Row) → list_any test history ≡ true → list_any test (ingested history rows) ≡ true
stays test history rows h =
    let more = only_adds history rows in
    rw (more.1, list_any-append test history more.0) (or_true (list_any test history) (list_any test more.0) h)

pub same_key : (row : Row) → is_duplicate_of row row ≡ true
same_key row =
    let table : nat_eq row.table row.table ≡ true = grind (arith, nat_tests) in
    rw (table, tied_itself key_cmp_total row.key)

there_cases : (history : List Row) (row : Row) (b : Bool) → list_any (is_duplicate_of row) history ≡ b →
    list_any (is_duplicate_of row) (if b then history else history ++ row ∷ []) ≡ true
there_cases history row true h = h
there_cases history row false h = rw (list_any-append (is_duplicate_of row) history (row ∷ []), h, same_key row)

-- after an ingest the table and key of each row are there
pub each_key : (history rows : List Row) → AllByRecursion (λ row. list_any (is_duplicate_of row) (ingested history rows) ≡ true) rows
each_key history [] = tt
each_key history (row ∷ rows) =
    (stays (is_duplicate_of row) (with_row history row) rows (there_cases history row (list_any (is_duplicate_of row) history) refl), each_key (with_row history row) rows)

left_of_or : (a b : Bool) → (a || b) ≡ false → a ≡ false
left_of_or false b h = refl
left_of_or true b h = absurd (true≢false h)

right_of_or : (a b : Bool) → (a || b) ≡ false → b ≡ false
right_of_or false b h = h
right_of_or true b h = absurd (true≢false h)

later_push : (first : Row) (rows : List Row) (row : Row) → AllByRecursion (λ later. is_duplicate_of later first ≡ false) rows → is_duplicate_of row first ≡ false →
    AllByRecursion (λ later. is_duplicate_of later first ≡ false) (rows ++ row ∷ [])
later_push first [] row all h = (h, tt)
later_push first (r ∷ rows) row all h = (all.0, later_push first rows row all.1 h)

history_push : (history : List Row) (row : Row) → IsHistory history → list_any (is_duplicate_of row) history ≡ false → IsHistory (history ++ row ∷ [])
history_push [] row is none = (tt, tt)
history_push (first ∷ rows) row is none = (
  later_push first rows row is.0 (left_of_or (is_duplicate_of row first) (list_any (is_duplicate_of row) rows) none),
  history_push rows row is.1 (right_of_or (is_duplicate_of row first) (list_any (is_duplicate_of row) rows) none),
)

with_cases : (history : List Row) (row : Row) (b : Bool) → list_any (is_duplicate_of row) history ≡ b → IsHistory history → IsHistory (if b then history else history ++ row ∷ [])
with_cases history row true h is = is
with_cases history row false h is = history_push history row is h

-- a history stays one
pub keeps_history : (history rows : List Row) → IsHistory history → IsHistory (ingested history rows)
keeps_history history [] is = is
keeps_history history (row ∷ rows) is = keeps_history (with_row history row) rows (with_cases history row (list_any (is_duplicate_of row) history) refl is)
