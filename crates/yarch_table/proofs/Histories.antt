-- The stored rows of a table, where they are the table's rows of a history at their positions.
use Rattle.std.proofs.Common.{◌≡◌, ℕ, zero, suc, ℤ, ◌+◌, ◌≤◌, ◌<◌, List, [], ◌∷◌, ◌++◌, length, map, take, drop, Bool, true, false, cond, refl, sym, ◌∙◌, ap, subst, arith}
use Rattle.std.specs.Prelude.{filter, ◌&&◌, ◌||◌, ◌==◌, if◌then◌else◌, nat_lt, slice_index_or}
use Rattle.std.specs.List.{list_any, enumerate_from}
use Rattle.std.proofs.Math.Seq.{take-length}
use Rattle.std.proofs.lemmas.Bool.Decides.{nat_tests}
use Rattle.std.proofs.lemmas.List.Folds.{list_any-from_Any}
use Rattle.arch_types.specs.declared.row.Row.{Row}
use Rattle.arch_types.specs.declared.key.Key.{Key}
use Rattle.arch_types.specs.declared.inserted.Inserted.{Inserted}
use Rattle.arch_types.specs.declared.inserted.Inserted.TheVariants.{New, Duplicate}
use Rattle.arch_types.specs.History.{is_in_table, has_key, is_duplicate_of, with_row}
use Rattle.arch_types.specs.Table.{sorted, table_of, table_at_front, range_of, is_in_time_range}
use Rattle.yarch_table.specs.declared.table.Stored.{Stored}
use Rattle.yarch_table.specs.Stored.{TableView, rows_of, rows_below, seen_at, seen_between, IsKeptAt, IsInserted}
use Rattle.yarch_table.specs.Placed.{placed, stored_from, stored_rest, at_position}

-- ---- the rows below a front

skip_cases : (front n : ℕ) (b : Bool) (row : Row) (ps : List (ℕ × Row)) → nat_lt n front ≡ false → rows_below front (map at_position ps) ≡ [] →
    rows_below front (map at_position (cond b ((n, row) ∷ ps) ps)) ≡ []
skip_cases front n true row ps past more = rw past more
skip_cases front n false row ps past more = more

none_below : (front n table : ℕ) (rows : List Row) → front ≤ n → rows_below front (stored_rest n table rows) ≡ []
none_below front n table [] h = refl
none_below front n table (row ∷ rows) h =
    let past : nat_lt n front ≡ false = grind (arith, nat_tests, h) in
    skip_cases front n (is_in_table table row) row (filter (λ p. is_in_table table p.1) (enumerate_from (n + 1) rows)) past (none_below front (n + 1) table rows (omega (arith, h)))

take_cases : (front n : ℕ) (b : Bool) (row : Row) (ps : List (ℕ × Row)) (rows : List Row) → nat_lt n front ≡ true → rows_below front (map at_position ps) ≡ rows →
    rows_below front (map at_position (cond b ((n, row) ∷ ps) ps)) ≡ cond b (row ∷ rows) rows
take_cases front n true row ps rows within more = rw (within, more)
take_cases front n false row ps rows within more = more

below_from : (front n k table : ℕ) (rows : List Row) → front ≡ n + k → rows_below front (stored_rest n table rows) ≡ filter (is_in_table table) (take k rows)
below_from front n zero table rows e = none_below front n table rows (omega (arith, e))
below_from front n (suc k) table [] e = refl
below_from front n (suc k) table (row ∷ rows) e =
    let within : nat_lt n front ≡ true = grind (arith, nat_tests, e) in
    take_cases front n (is_in_table table row) row (filter (λ p. is_in_table table p.1) (enumerate_from (n + 1) rows)) (filter (is_in_table table) (take k rows)) within (below_from front (n + 1) k table rows (omega (arith, e)))

rows_below-placed : (front table : ℕ) (history : List Row) → rows_below front (placed table history) ≡ filter (is_in_table table) (take front history)
rows_below-placed front table history = below_from front 0 front table history (omega arith)

-- what a table answers at a front is the table of the history's prefix
pub seen_at-placed : (front table : ℕ) (history : List Row) → seen_at front (placed table history) ≡ table_at_front front table history
seen_at-placed front table history = ap sorted (rows_below-placed front table history)

-- and in a range it is the prefix's range
pub seen_between-placed : (front table : ℕ) (low high : ℤ) (history : List Row) → seen_between front low high (placed table history) ≡ range_of table low high (take front history)
seen_between-placed front table low high history = ap (filter (is_in_time_range low high)) (seen_at-placed front table history)

-- at the front of the whole history it is the table
pub seen_at-whole : (table : ℕ) (history : List Row) → seen_at (length history) (placed table history) ≡ table_of table history
seen_at-whole table history = seen_at-placed (length history) table history ∙ ap (table_of table) (take-length history)

-- ---- one row more

push_cases : (b : Bool) (p : ℕ × Row) (ps : List (ℕ × Row)) (xs more : List Stored) → map at_position ps ≡ xs ++ more →
    map at_position (cond b (p ∷ ps) ps) ≡ (map at_position (cond b (p ∷ []) []) ++ xs) ++ more
push_cases true p ps xs more h = ap (λ (l : List Stored). at_position p ∷ l) h
push_cases false p ps xs more h = h

cons_cases : (b : Bool) (p : ℕ × Row) (ps : List (ℕ × Row)) → map at_position (cond b (p ∷ ps) ps) ≡ map at_position (cond b (p ∷ []) []) ++ map at_position ps
cons_cases true p ps = refl
cons_cases false p ps = refl

abbrev one_from : ℕ → ℕ → Row → List Stored
one_from n table row = map at_position (cond (is_in_table table row) ((n, row) ∷ []) [])

seam_from : (n table : ℕ) (rows : List Row) (row : Row) → stored_rest n table (rows ++ row ∷ []) ≡ stored_rest n table rows ++ one_from (n + length rows) table row
seam_from n table [] row = let same : n + 0 ≡ n = omega arith in rw same
seam_from n table (r ∷ rows) row =
    let same : n + 1 + length rows ≡ n + suc (length rows) = omega arith in
    let ps = filter (λ p. is_in_table table p.1) (enumerate_from (n + 1) (rows ++ row ∷ [])) in
    let more : map at_position ps ≡ stored_rest (n + 1) table rows ++ one_from (n + suc (length rows)) table row = let seam = seam_from (n + 1) table rows row in rw same at seam in
    push_cases (is_in_table table r) (n, r) ps (stored_rest (n + 1) table rows) (one_from (n + suc (length rows)) table row) more
    ∙ ap (λ (l : List Stored). l ++ one_from (n + suc (length rows)) table row) (sym (cons_cases (is_in_table table r) (n, r) (filter (λ p. is_in_table table p.1) (enumerate_from (n + 1) rows))))

one_cases : (b : Bool) (xs : List Stored) (p : ℕ × Row) → b ≡ true → xs ++ map at_position (cond b (p ∷ []) []) ≡ xs ++ at_position p ∷ []
one_cases true xs p h = refl
one_cases false xs p h = absurd cc

none_cases : (b : Bool) (xs : List Stored) (p : ℕ × Row) → b ≡ false → xs ++ map at_position (cond b (p ∷ []) []) ≡ xs ++ []
none_cases true xs p h = absurd cc
none_cases false xs p h = refl

nothing_more : (xs : List Stored) → xs ++ [] ≡ xs
nothing_more [] = refl
nothing_more (x ∷ xs) = ap (λ (l : List Stored). x ∷ l) (nothing_more xs)

seam : (table : ℕ) (history : List Row) (row : Row) → placed table (history ++ row ∷ []) ≡ placed table history ++ one_from (length history) table row
seam table history row =
    let s = seam_from 0 table history row in
    let same : 0 + length history ≡ length history = omega arith in
    rw same at s

-- a row of the table stands behind the others, at the history's end
pub placed-push : (table : ℕ) (history : List Row) (row : Row) → is_in_table table row ≡ true →
    placed table (history ++ row ∷ []) ≡ placed table history ++ record { row = row; position = length history } ∷ []
placed-push table history row h = seam table history row ∙ one_cases (is_in_table table row) (placed table history) (length history, row) h

-- a row of another table leaves them
pub placed-other : (table : ℕ) (history : List Row) (row : Row) → is_in_table table row ≡ false → placed table (history ++ row ∷ []) ≡ placed table history
placed-other table history row h = seam table history row ∙ none_cases (is_in_table table row) (placed table history) (length history, row) h ∙ nothing_more (placed table history)

-- ---- the keys

any_cases : (b c : Bool) (key : Key) (p : ℕ × Row) (ps : List (ℕ × Row)) (rest : Bool) → has_key key p.1 ≡ c → list_any (has_key key) (rows_of (map at_position ps)) ≡ rest →
    list_any (has_key key) (rows_of (map at_position (cond b (p ∷ ps) ps))) ≡ ((b && c) || rest)
any_cases true c key p ps rest h more = rw (h, more)
any_cases false c key p ps rest h more = more

any_from : (n : ℕ) (rows : List Row) (row : Row) → list_any (has_key row.key) (rows_of (stored_rest n row.table rows)) ≡ list_any (is_duplicate_of row) rows
any_from n [] row = refl
any_from n (r ∷ rows) row =
    any_cases (is_in_table row.table r) (has_key row.key r) row.key (n, r) (filter (λ p. is_in_table row.table p.1) (enumerate_from (n + 1) rows)) (list_any (is_duplicate_of row) rows) refl (any_from (n + 1) rows row)

-- a key is stored exactly where the history has it in the table
pub any-placed : (history : List Row) (row : Row) → list_any (has_key row.key) (rows_of (placed row.table history)) ≡ list_any (is_duplicate_of row) history
any-placed history row = any_from 0 history row

own_table : (n : ℕ) → (n == n) ≡ true
own_table n = grind (arith, nat_tests)

-- ---- the row at a position

-- whether a stored row has a key and a position
abbrev is_kept_at : Key → ℕ → Stored → Bool
is_kept_at key p s = has_key key s.row && (s.position == p)

-- a row at a place, counted from a position on, has the table and the key of another
abbrev StandsFrom : ℕ → ℕ → List Row → Row → Type 0
StandsFrom n p rows row = (j : ℕ) × (n + j ≡ p) × (j < length rows) × ((d : Row) → is_duplicate_of row (slice_index_or rows j d) ≡ true)

stands_later : (n p : ℕ) (r : Row) (rows : List Row) (row : Row) → StandsFrom (n + 1) p rows row → StandsFrom n p (r ∷ rows) row
stands_later n p r rows row (j, at, within, same) = (suc j, omega (arith, at), omega (arith, within), λ (d : Row). same d)

stands_cases : (n p : ℕ) (r : Row) (rows : List Row) (row : Row) (ps : List (ℕ × Row)) (b c e : Bool) → is_in_table row.table r ≡ b → has_key row.key r ≡ c → (n == p) ≡ e →
    (list_any (is_kept_at row.key p) (map at_position ps) ≡ true → StandsFrom (n + 1) p rows row) →
    list_any (is_kept_at row.key p) (map at_position (cond b ((n, r) ∷ ps) ps)) ≡ true → StandsFrom n p (r ∷ rows) row
stands_cases n p r rows row ps true true true hb hc he later h =
    let at : n + 0 ≡ p = grind (arith, nat_tests, he) in
    (0, at, omega arith, λ (d : Row). rw (hb, hc))
stands_cases n p r rows row ps true true false hb hc he later h = let rest = rw (hc, he) at h in stands_later n p r rows row (later rest)
stands_cases n p r rows row ps true false e hb hc he later h = let rest = rw hc at h in stands_later n p r rows row (later rest)
stands_cases n p r rows row ps false c e hb hc he later h = stands_later n p r rows row (later h)

stands_from : (n p : ℕ) (rows : List Row) (row : Row) → list_any (is_kept_at row.key p) (stored_rest n row.table rows) ≡ true → StandsFrom n p rows row
stands_from n p [] row h = absurd cc
stands_from n p (r ∷ rows) row h =
    stands_cases n p r rows row (filter (λ q. is_in_table row.table q.1) (enumerate_from (n + 1) rows)) (is_in_table row.table r) (has_key row.key r) (n == p) refl refl refl (stands_from (n + 1) p rows row) h

kept_test : (stored : List Stored) (key : Key) (p : ℕ) → IsKeptAt stored key p → list_any (is_kept_at key p) stored ≡ true
kept_test stored key p (k, s, within, is, both) =
    let position : (s.position == p) ≡ true = grind (arith, nat_tests, both.1) in
    list_any-from_Any (is_kept_at key p) stored (k, s, within, is, rw (both.0, position))

-- the row at a position that has a key, where the history has the row of its table
pub kept_placed : (history : List Row) (row : Row) (p : ℕ) → IsKeptAt (placed row.table history) row.key p →
    (p < length history) × ((d : Row) → is_duplicate_of row (slice_index_or history p d) ≡ true)
kept_placed history row p kept = place_of (stands_from 0 p history row (kept_test (placed row.table history) row.key p kept))
  where
    place_of : StandsFrom 0 p history row → (p < length history) × ((d : Row) → is_duplicate_of row (slice_index_or history p d) ≡ true)
    place_of (j, at, within, same) =
        let is : j ≡ p = omega (arith, at) in
        let P : ℕ → Type 0 = λ k. (k < length history) × ((d : Row) → is_duplicate_of row (slice_index_or history k d) ≡ true) in
        subst P is (within, same)

-- ---- an insert at a history's end

any_known : (old : TableView) (history : List Row) (row : Row) (b : Bool) → old.stored ≡ placed row.table history →
    list_any (has_key row.key) (rows_of old.stored) ≡ b → list_any (is_duplicate_of row) history ≡ b
any_known old history row b h any = sym (any-placed history row) ∙ ap (λ (l : List Stored). list_any (has_key row.key) (rows_of l)) (sym h) ∙ any

-- a new row comes to the history's end
pub new-placed : (old new : TableView) (history : List Row) (row : Row) (p : ℕ) → old.stored ≡ placed row.table history →
    IsInserted old new row (length history) (New p) → (p ≡ length history) × (with_row history row ≡ history ++ row ∷ [])
new-placed old new history row p h i =
    let any = any_known old history row false h i.0 in
    (i.1, rw any)

-- a duplicate leaves the history, in which a row of its table and key stands at the position told
pub duplicate-placed : (old new : TableView) (history : List Row) (row : Row) (position p : ℕ) → old.stored ≡ placed row.table history →
    IsInserted old new row position (Duplicate p) → (with_row history row ≡ history) × (p < length history) × ((d : Row) → is_duplicate_of row (slice_index_or history p d) ≡ true)
duplicate-placed old new history row position p h i =
    let any = any_known old history row true h i.0 in
    let at = kept_placed history row p (subst (λ (l : List Stored). IsKeptAt l row.key p) h i.1) in
    (rw any, at.0, at.1)

-- an insert at the history's end ingests the row
pub inserted-placed : (old new : TableView) (history : List Row) (row : Row) (result : Inserted) → old.stored ≡ placed row.table history →
    IsInserted old new row (length history) result → new.stored ≡ placed row.table (with_row history row)
inserted-placed old new history row (New p) h i =
    let is = new-placed old new history row p h i in
    i.2 ∙ ap (λ (l : List Stored). l ++ record { row = row; position = length history } ∷ []) h ∙ sym (placed-push row.table history row (own_table row.table)) ∙ ap (placed row.table) (sym is.1)
inserted-placed old new history row (Duplicate p) h i =
    let is = duplicate-placed old new history row (length history) p h i in
    ap (λ (t : TableView). t.stored) i.2 ∙ h ∙ ap (placed row.table) (sym is.0)

other_cases : (b : Bool) (table : ℕ) (history : List Row) (row : Row) → is_in_table table row ≡ false → placed table (if b then history else history ++ row ∷ []) ≡ placed table history
other_cases true table history row h = refl
other_cases false table history row h = placed-other table history row h

-- and leaves the other tables
pub inserted-other : (table : ℕ) (history : List Row) (row : Row) → is_in_table table row ≡ false → placed table (with_row history row) ≡ placed table history
inserted-other table history row h = other_cases (list_any (is_duplicate_of row) history) table history row h

-- ---- from a place of the history on

-- what is seen of it at a front
pub seen_at-from : (n k table : ℕ) (history : List Row) → seen_at (n + k) (stored_from n table history) ≡ table_of table (take k (drop n history))
seen_at-from n k table history = ap sorted (below_from (n + k) n k table (drop n history) refl)

or_false : (a b : Bool) → (a || b) ≡ false → (a ≡ false) × (b ≡ false)
or_false true b e = absurd cc
or_false false b e = (refl, e)

-- what no row before a place has, a row has where one behind it does
any_behind : (p : Row → Bool) (n : ℕ) (history : List Row) → list_any p (take n history) ≡ false → list_any p history ≡ list_any p (drop n history)
any_behind p zero history none = refl
any_behind p (suc n) [] none = refl
any_behind p (suc n) (row ∷ history) none =
    let e = or_false (p row) (list_any p (take n history)) none in
    ap (λ (b : Bool). b || list_any p history) e.0 ∙ any_behind p n history e.1

drop_more : (n : ℕ) (history : List Row) (row : Row) → n ≤ length history → drop n (history ++ row ∷ []) ≡ drop n history ++ row ∷ []
drop_more zero history row within = refl
drop_more (suc n) [] row within = absurd (omega (arith, within))
drop_more (suc n) (r ∷ history) row within = drop_more n history row (omega (arith, within))

length_behind : (n : ℕ) (history : List Row) → n ≤ length history → n + length (drop n history) ≡ length history
length_behind zero history within = let same : 0 + length history ≡ length history = omega arith in same
length_behind (suc n) [] within = absurd (omega (arith, within))
length_behind (suc n) (r ∷ history) within =
    let less : n ≤ length history = omega (arith, within) in
    let more : n + length (drop n history) ≡ length history = length_behind n history less in
    let same : suc n + length (drop n history) ≡ suc (length history) = omega (arith, more) in
    same

-- a row more at the history's end
seam_behind : (n table : ℕ) (history : List Row) (row : Row) → n ≤ length history → stored_from n table (history ++ row ∷ []) ≡ stored_from n table history ++ one_from (length history) table row
seam_behind n table history row within =
    ap (stored_rest n table) (drop_more n history row within)
    ∙ seam_from n table (drop n history) row
    ∙ ap (λ (k : ℕ). stored_from n table history ++ one_from k table row) (length_behind n history within)

any_known_behind : (n : ℕ) (old : TableView) (history : List Row) (row : Row) (b : Bool) → old.stored ≡ stored_from n row.table history →
    list_any (is_duplicate_of row) (take n history) ≡ false → list_any (has_key row.key) (rows_of old.stored) ≡ b → list_any (is_duplicate_of row) history ≡ b
any_known_behind n old history row b h none any =
    any_behind (is_duplicate_of row) n history none
    ∙ sym (any_from n (drop n history) row)
    ∙ ap (λ (l : List Stored). list_any (has_key row.key) (rows_of l)) (sym h)
    ∙ any

-- an insert at the history's end ingests the row, where none before the place has its table and key
pub inserted-from : (n : ℕ) (old new : TableView) (history : List Row) (row : Row) (result : Inserted) → n ≤ length history → list_any (is_duplicate_of row) (take n history) ≡ false →
    old.stored ≡ stored_from n row.table history → IsInserted old new row (length history) result → new.stored ≡ stored_from n row.table (with_row history row)
inserted-from n old new history row (New p) within none h i =
    let any = any_known_behind n old history row false h none i.0 in
    let grown : with_row history row ≡ history ++ row ∷ [] = rw any in
    i.2 ∙ ap (λ (l : List Stored). l ++ record { row = row; position = length history } ∷ []) h
    ∙ sym (seam_behind n row.table history row within ∙ one_cases (is_in_table row.table row) (stored_from n row.table history) (length history, row) (own_table row.table))
    ∙ ap (stored_from n row.table) (sym grown)
inserted-from n old new history row (Duplicate p) within none h i =
    let any = any_known_behind n old history row true h none i.0 in
    let same : with_row history row ≡ history = rw any in
    ap (λ (t : TableView). t.stored) i.2 ∙ h ∙ ap (stored_from n row.table) (sym same)

other_cases_behind : (b : Bool) (n table : ℕ) (history : List Row) (row : Row) → n ≤ length history → is_in_table table row ≡ false → stored_from n table (if b then history else history ++ row ∷ []) ≡ stored_from n table history
other_cases_behind true n table history row within h = refl
other_cases_behind false n table history row within h =
    seam_behind n table history row within
    ∙ none_cases (is_in_table table row) (stored_from n table history) (length history, row) h
    ∙ nothing_more (stored_from n table history)

-- and leaves the other tables
pub other-from : (n table : ℕ) (history : List Row) (row : Row) → n ≤ length history → is_in_table table row ≡ false → stored_from n table (with_row history row) ≡ stored_from n table history
other-from n table history row within h = other_cases_behind (list_any (is_duplicate_of row) history) n table history row within h
