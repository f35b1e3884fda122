-- The entries of packets, with one packet more.
use Rattle.std.proofs.Common.{◌≡◌, ℕ, ℤ, List, [], ◌∷◌, ◌++◌, length, map, Bool, true, false, cond, Option, Some, None, refl, sym, ◌∙◌, ap}
use Rattle.std.specs.Prelude.{filter, fold, ◌||◌, ◌&&◌, if◌then◌else◌}
use Rattle.std.specs.List.{list_any}
use Rattle.std.specs.Option.{is_some}
use Rattle.std.specs.declared.cmp.Ordering.{Ordering}
use Rattle.std.specs.declared.cmp.Ordering.TheVariants.{Less, Equal, Greater}
use Rattle.std.specs.Ordering.{is_eq, is_lt, match_ordering}
use Rattle.std.specs.Map.{lookup}
use Rattle.std.specs.BTreeMap.{insert_entry, is_at}
use Rattle.std.proofs.lemmas.List.Sums.{fold-append}
use Rattle.std.proofs.Math.Bool.{or-false}
use Rattle.arch_types.specs.declared.key.Key.{Key}
use Rattle.arch_types.specs.declared.row.Row.{Row}
use Rattle.arch_types.specs.Packet.{is_idle}
use Rattle.arch_types.specs.History.{firsts, has_key, is_duplicate_of, is_in_table}
use Rattle.arch_types.specs.Order.{is_before, key_cmp, place_by}
use Rattle.arch_types.specs.Table.{sorted, table_of}
use Rattle.dump_lines.specs.declared.counts.PacketOutcome.TheVariants.{Idle, New, Duplicate}
use Rattle.dump_lines.specs.Counting.{IsOutcomeOf, scanned_row}
use Rattle.dump_lines.specs.DumpIndex.{PutsKey, entries_of_packets, entry_of}
use Rattle.dump_lines.specs.Text.{scanned_rows}
use Rattle.dump_lines.proofs.Scanned.{firsts_idle, firsts_new, firsts_duplicate}

-- ---- a key among the entries

or_swap : (a b c : Bool) → (b || (a || c)) ≡ (a || (b || c))
or_swap true true c = refl
or_swap true false c = refl
or_swap false true c = refl
or_swap false false c = refl

or_turn : (a b c : Bool) → ((a || b) || c) ≡ (b || (a || c))
or_turn true true c = refl
or_turn true false c = refl
or_turn false true c = refl
or_turn false false c = refl

placed_cases : (test : Row → Bool) (less : Bool) (x : Row) (xs : List Row) (r : Row) → list_any test (place_by is_before xs r) ≡ (test r || list_any test xs) →
    list_any test (if less then r ∷ x ∷ xs else x ∷ place_by is_before xs r) ≡ (test r || (test x || list_any test xs))
placed_cases test true x xs r h = refl
placed_cases test false x xs r h = rw h (or_swap (test r) (test x) (list_any test xs))

-- a test finds a placed row, or one of those before
any-placed : (test : Row → Bool) (rs : List Row) (r : Row) → list_any test (place_by is_before rs r) ≡ (test r || list_any test rs)
any-placed test [] r = refl
any-placed test (x ∷ xs) r = placed_cases test (is_before r x) x xs r (any-placed test xs r)

any-fold_placed : (test : Row → Bool) (acc rs : List Row) → list_any test (fold (place_by is_before) acc rs) ≡ (list_any test acc || list_any test rs)
any-fold_placed test acc [] = sym (or-false (list_any test acc))
any-fold_placed test acc (r ∷ rs) =
    any-fold_placed test (place_by is_before acc r) rs ∙ ap (λ (b : Bool). b || list_any test rs) (any-placed test acc r) ∙ or_turn (test r) (list_any test acc) (list_any test rs)

-- a test finds one of the sorted rows where it finds one of the rows
any-sorted : (test : Row → Bool) (rs : List Row) → list_any test (sorted rs) ≡ list_any test rs
any-sorted test rs = any-fold_placed test [] rs

table_cases : (same : Bool) (equal : Bool) (duplicates keys : Bool) (key : Key) (row : Row) (rows : List Row) → duplicates ≡ list_any (has_key key) rows → has_key key row ≡ equal →
    ((same && equal) || duplicates) ≡ list_any (has_key key) (cond same (row ∷ rows) rows)
table_cases true equal duplicates keys key row rows more is = rw (is, more) refl
table_cases false equal duplicates keys key row rows more is = more

-- a row of table 0 is a duplicate where a row of that table has its key
any-in_table : (moment : ℤ) (p : List ℕ) (rows : List Row) →
    list_any (is_duplicate_of (scanned_row moment p)) rows ≡ list_any (has_key (scanned_row moment p).key) (filter (is_in_table 0) rows)
any-in_table moment p [] = refl
any-in_table moment p (row ∷ rows) =
    table_cases (is_in_table 0 row) (has_key (scanned_row moment p).key row) (list_any (is_duplicate_of (scanned_row moment p)) rows) true
    (scanned_row moment p).key row (filter (is_in_table 0) rows) (any-in_table moment p rows) refl

some_cases : (b : Bool) (i : ℕ) (o : Option ℕ) → (b || is_some o) ≡ is_some (cond b (Some i) o)
some_cases true i o = refl
some_cases false i o = refl

any-entries : (key : Key) (rows : List Row) → list_any (has_key key) rows ≡ is_some (lookup (is_at (key_cmp key)) (map entry_of rows))
any-entries key [] = refl
any-entries key (row ∷ rows) =
    ap (λ (b : Bool). has_key key row || b) (any-entries key rows)
    ∙ some_cases (has_key key row) (length row.packet) (lookup (is_at (key_cmp key)) (map entry_of rows))

-- the row of a packet is a duplicate of those of others exactly where their entries have its key
duplicate_found : (packets : List (List ℕ)) (moment : ℤ) (p : List ℕ) →
    list_any (is_duplicate_of (scanned_row moment p)) (firsts (scanned_rows packets moment))
    ≡ is_some (lookup (is_at (key_cmp (scanned_row moment p).key)) (entries_of_packets packets moment))
duplicate_found packets moment p =
    let rows = firsts (scanned_rows packets moment) in
    let key = (scanned_row moment p).key in
    any-in_table moment p rows ∙ sym (any-sorted (has_key key) (filter (is_in_table 0) rows)) ∙ any-entries key (table_of 0 rows)

-- ---- an entry more

choose : (o : Ordering) (less same more : List (Key × ℕ)) (x y : List Row) (v : ℕ) (w : Option ℕ) → cond (is_eq o) (Some v) w ≡ None →
    less ≡ map entry_of x → (w ≡ None → more ≡ map entry_of y) → match_ordering o less same more ≡ map entry_of (if is_lt o then x else y)
choose Less less same more x y v w none e h = e
choose Equal less same more x y v w none e h = cc
choose Greater less same more x y v w none e h = h none

entries-insert : (rows : List Row) (row : Row) → lookup (is_at (key_cmp row.key)) (map entry_of rows) ≡ None →
    insert_entry key_cmp (map entry_of rows) row.key (length row.packet) ≡ map entry_of (place_by is_before rows row)
entries-insert [] row none = refl
entries-insert (x ∷ rows) row none =
    choose (key_cmp row.key x.key) (entry_of row ∷ entry_of x ∷ map entry_of rows) ((x.key, length row.packet) ∷ map entry_of rows)
    (entry_of x ∷ insert_entry key_cmp (map entry_of rows) row.key (length row.packet)) (row ∷ x ∷ rows) (x ∷ place_by is_before rows row)
    (length x.packet) (lookup (is_at (key_cmp row.key)) (map entry_of rows)) none refl
    (λ absent. ap (λ (es : List (Key × ℕ)). entry_of x ∷ es) (entries-insert rows row absent))

filter_cases : (b : Bool) (x : Row) (rows more : List Row) (row : Row) → more ≡ rows ++ row ∷ [] → cond b (x ∷ more) more ≡ cond b (x ∷ rows) rows ++ row ∷ []
filter_cases true x rows more row h = ap (λ (rs : List Row). x ∷ rs) h
filter_cases false x rows more row h = h

-- a row of table 0 behind others is the last of it
filter-push : (moment : ℤ) (p : List ℕ) (rows : List Row) → filter (is_in_table 0) (rows ++ scanned_row moment p ∷ []) ≡ filter (is_in_table 0) rows ++ scanned_row moment p ∷ []
filter-push moment p [] = refl
filter-push moment p (x ∷ rows) =
    filter_cases (is_in_table 0 x) x (filter (is_in_table 0) rows) (filter (is_in_table 0) (rows ++ scanned_row moment p ∷ [])) (scanned_row moment p) (filter-push moment p rows)

table-push : (moment : ℤ) (p : List ℕ) (rows : List Row) → table_of 0 (rows ++ scanned_row moment p ∷ []) ≡ place_by is_before (table_of 0 rows) (scanned_row moment p)
table-push moment p rows = ap sorted (filter-push moment p rows) ∙ fold-append (place_by is_before) [] (filter (is_in_table 0) rows) (scanned_row moment p ∷ [])

-- ---- a packet more

module _ (old : List (Key × ℕ)) (moment : ℤ) (p : List ℕ) where
  abbrev key : Key
  key = (scanned_row moment p).key

  pub puts_idle : is_idle p ≡ true → PutsKey old old moment p Idle
  puts_idle idle packets are = (idle, are ∙ ap (λ (rows : List Row). map entry_of (table_of 0 rows)) (sym (firsts_idle packets moment p idle)))

  pub puts_new : is_idle p ≡ false → lookup (is_at (key_cmp key)) old ≡ None → PutsKey old (insert_entry key_cmp old key (length p)) moment p New
  puts_new kept none packets are =
      let absent : lookup (is_at (key_cmp key)) (entries_of_packets packets moment) ≡ None = rw are at none in
      let outcome : IsOutcomeOf packets moment p New = (kept, duplicate_found packets moment p ∙ ap is_some absent) in
      let rows = firsts (scanned_rows packets moment) in (
        outcome,
        ap (λ (es : List (Key × ℕ)). insert_entry key_cmp es key (length p)) are
            ∙ entries-insert (table_of 0 rows) (scanned_row moment p) absent
            ∙ ap (map entry_of) (sym (table-push moment p rows))
            ∙ ap (λ (rs : List Row). map entry_of (table_of 0 rs)) (sym (firsts_new packets moment p outcome)),
      )

  pub puts_duplicate : (len : ℕ) → is_idle p ≡ false → lookup (is_at (key_cmp key)) old ≡ Some len → PutsKey old old moment p Duplicate
  puts_duplicate len kept some packets are =
      let present : lookup (is_at (key_cmp key)) (entries_of_packets packets moment) ≡ Some len = rw are at some in
      let outcome : IsOutcomeOf packets moment p Duplicate = (kept, duplicate_found packets moment p ∙ ap is_some present) in
      (outcome, are ∙ ap (λ (rows : List Row). map entry_of (table_of 0 rows)) (sym (firsts_duplicate packets moment p outcome)))
