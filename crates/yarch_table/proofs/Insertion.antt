-- An insertion into the index of a table.
use Rattle.std.proofs.Common.{◌≡◌, ℕ, ◌<◌, List, [], ◌∷◌, ◌++◌, length, map, Bool, true, false, cond, Option, Some, None, refl, sym, ◌∙◌, ap, subst, arith}
use Rattle.std.specs.Prelude.{slice_index_or, ◌||◌, if◌then◌else◌, fold}
use Rattle.std.specs.List.{list_any, AllByRecursion}
use Rattle.std.specs.Option.{is_some}
use Rattle.std.specs.declared.cmp.Ordering.{Ordering}
use Rattle.std.specs.declared.cmp.Ordering.TheVariants.{Less, Equal, Greater}
use Rattle.std.specs.Ordering.{is_eq, is_lt, match_ordering}
use Rattle.std.specs.Map.{lookup}
use Rattle.std.specs.BTreeMap.{insert_entry, is_at}
use Rattle.std.proofs.Math.Seq.{get_or-append_seam}
use Rattle.std.proofs.lemmas.List.{get_or_append_left}
use Rattle.std.proofs.lemmas.List.Sums.{fold-append}
use Rattle.std.proofs.lemmas.Grind.{common_steps}
use Rattle.std.proofs.Math.Bool.{or-false}
use Rattle.arch_types.specs.declared.key.Key.{Key}
use Rattle.arch_types.specs.Order.{key_cmp, place_by, order_by}
use Rattle.arch_types.specs.History.{has_key}
use Rattle.yarch_table.specs.declared.table.Stored.{Stored}
use Rattle.yarch_table.specs.Stored.{rows_of}
use Rattle.yarch_table.specs.Index.{stored_at, comes_before, IsEntryOf, IsKeyIndex}

-- the parts of an insertion, by where the new key stands to the first
choose : {V : Type 0} (f : Key × ℕ → Stored) (o : Ordering) (less same more : List (Key × ℕ)) (x y : List Stored) (v : V) (w : Option V) →
    cond (is_eq o) (Some v) w ≡ None → map f less ≡ x → (w ≡ None → map f more ≡ y) →
    map f (match_ordering o less same more) ≡ (if is_lt o then x else y)
choose f Less less same more x y v w none e h = e
choose f Equal less same more x y v w none e h = cc
choose f Greater less same more x y v w none e h = h none

pub order-push : (stored : List Stored) (s : Stored) → order_by comes_before (stored ++ s ∷ []) ≡ place_by comes_before (order_by comes_before stored) s
order-push stored s = fold-append (place_by comes_before) [] stored (s ∷ [])

any-map : (key : Key) (stored : List Stored) → list_any (has_key key) (rows_of stored) ≡ list_any (λ s. has_key key s.row) stored
any-map key [] = refl
any-map key (s ∷ stored) = ap (λ (b : Bool). has_key key s.row || b) (any-map key stored)

or_swap : (a b c : Bool) → (b || (a || c)) ≡ (a || (b || c))
or_swap true true c = refl
or_swap true false c = refl
or_swap false true c = refl
or_swap false false c = refl

or_turn : (a b c : Bool) → ((a || b) || c) ≡ (b || (a || c))
or_turn true true c = refl
or_turn true false c = refl
or_turn false true c = refl
or_turn false false c = refl

any_cases : (p : Stored → Bool) (less : Bool) (x : Stored) (xs : List Stored) (r : Stored) → list_any p (place_by comes_before xs r) ≡ (p r || list_any p xs) →
    list_any p (if less then r ∷ x ∷ xs else x ∷ place_by comes_before xs r) ≡ (p r || (p x || list_any p xs))
any_cases p true x xs r h = refl
any_cases p false x xs r h = rw h (or_swap (p r) (p x) (list_any p xs))

-- a test finds a placed row, or one of those before
any-placed : (p : Stored → Bool) (rs : List Stored) (r : Stored) → list_any p (place_by comes_before rs r) ≡ (p r || list_any p rs)
any-placed p [] r = refl
any-placed p (x ∷ xs) r = any_cases p (comes_before r x) x xs r (any-placed p xs r)

any-fold_placed : (p : Stored → Bool) (acc rs : List Stored) → list_any p (fold (place_by comes_before) acc rs) ≡ (list_any p acc || list_any p rs)
any-fold_placed p acc [] = sym (or-false (list_any p acc))
any-fold_placed p acc (r ∷ rs) = rw (any-fold_placed p (place_by comes_before acc r) rs, any-placed p acc r) (or_turn (p r) (list_any p acc) (list_any p rs))

-- a test finds one of the sorted rows where it finds one of the rows
pub any-sorted : (p : Stored → Bool) (rs : List Stored) → list_any p (order_by comes_before rs) ≡ list_any p rs
any-sorted p rs = any-fold_placed p [] rs

test_cases : (b : Bool) (i : ℕ) (o : Option ℕ) → (b || is_some o) ≡ is_some (cond b (Some i) o)
test_cases true i o = refl
test_cases false i o = refl

any-entries : (key : Key) (d : Stored) (stored : List Stored) (es : List (Key × ℕ)) → AllByRecursion (IsEntryOf stored) es →
    list_any (λ s. has_key key s.row) (map (stored_at stored d) es) ≡ is_some (lookup (is_at (key_cmp key)) es)
any-entries key d stored [] all = refl
any-entries key d stored (e ∷ es) all =
    let P : Key → Type 0 = λ k. (is_eq (key_cmp key k) || list_any (λ s. has_key key s.row) (map (stored_at stored d) es)) ≡ is_some (lookup (is_at (key_cmp key)) (e ∷ es)) in
    subst P (all.0.1 d) (rw (any-entries key d stored es all.1) (test_cases (is_eq (key_cmp key e.0)) e.1 (lookup (is_at (key_cmp key)) es)))

-- the index has a key exactly where the rows have it
pub any-rows : (key : Key) (d : Stored) (stored : List Stored) (es : List (Key × ℕ)) → IsKeyIndex stored es →
    list_any (has_key key) (rows_of stored) ≡ is_some (lookup (is_at (key_cmp key)) es)
any-rows key d stored es index = any-map key stored ∙ sym (any-sorted (λ s. has_key key s.row) stored) ∙ ap (list_any (λ s. has_key key s.row)) (sym (index.order d)) ∙ any-entries key d stored es index.each

found_cases : (key : Key) (stored : List Stored) (e : Key × ℕ) (b : Bool) (o : Option ℕ) (i : ℕ) → IsEntryOf stored e → is_eq (key_cmp key e.0) ≡ b →
    (o ≡ Some i → (i < length stored) × ((d : Stored) → has_key key (slice_index_or stored i d).row ≡ true)) → cond b (Some e.1) o ≡ Some i →
    (i < length stored) × ((d : Stored) → has_key key (slice_index_or stored i d).row ≡ true)
found_cases key stored e true o i n test rest found =
    let same : e.1 ≡ i = cc in
    let P : ℕ → Type 0 = λ j. (j < length stored) × ((d : Stored) → has_key key (slice_index_or stored j d).row ≡ true) in
    subst P same (n.0, λ (d : Stored). rw (← n.1 d) test)
found_cases key stored e false o i n test rest found = rest found

-- a key that the index has is the key of the row that its entry names
pub found_row : (key : Key) (stored : List Stored) (es : List (Key × ℕ)) (i : ℕ) → AllByRecursion (IsEntryOf stored) es →
    lookup (is_at (key_cmp key)) es ≡ Some i → (i < length stored) × ((d : Stored) → has_key key (slice_index_or stored i d).row ≡ true)
found_row key stored [] i all found = cc
found_row key stored (e ∷ es) i all found =
    found_cases key stored e (is_eq (key_cmp key e.0)) (lookup (is_at (key_cmp key)) es) i all.0 refl (λ (h : lookup (is_at (key_cmp key)) es ≡ Some i). found_row key stored es i all.1 h) found

-- more rows leave what an entry names
pub same_row : (d : Stored) (stored : List Stored) (s : Stored) (e : Key × ℕ) → IsEntryOf stored e → stored_at (stored ++ s ∷ []) d e ≡ stored_at stored d e
same_row d stored s e n = get_or_append_left stored (s ∷ []) d e.1 n.0

pub same_rows : (d : Stored) (stored : List Stored) (s : Stored) (es : List (Key × ℕ)) → AllByRecursion (IsEntryOf stored) es →
    map (stored_at (stored ++ s ∷ []) d) es ≡ map (stored_at stored d) es
same_rows d stored s [] all = refl
same_rows d stored s (e ∷ es) all = let h = same_row d stored s e all.0 in let t = same_rows d stored s es all.1 in cc

pub new_row : (d : Stored) (stored : List Stored) (s : Stored) (key : Key) → stored_at (stored ++ s ∷ []) d (key, length stored) ≡ s
new_row d stored s key = get_or-append_seam stored s [] d

pub rows-insert : (d : Stored) (stored : List Stored) (s : Stored) (es : List (Key × ℕ)) → AllByRecursion (IsEntryOf stored) es →
    lookup (is_at (key_cmp s.row.key)) es ≡ None →
    map (stored_at (stored ++ s ∷ []) d) (insert_entry key_cmp es s.row.key (length stored)) ≡ place_by comes_before (map (stored_at stored d) es) s
rows-insert d stored s [] all none = let n = new_row d stored s s.row.key in cc
rows-insert d stored s (e ∷ es) all none =
    let n = new_row d stored s s.row.key in
    let r = same_row d stored s e all.0 in
    let t = same_rows d stored s es all.1 in
    let first : map (stored_at (stored ++ s ∷ []) d) ((s.row.key, length stored) ∷ e ∷ es) ≡ s ∷ stored_at stored d e ∷ map (stored_at stored d) es = cc in
    let more : lookup (is_at (key_cmp s.row.key)) es ≡ None → map (stored_at (stored ++ s ∷ []) d) (e ∷ insert_entry key_cmp es s.row.key (length stored)) ≡ stored_at stored d e ∷ place_by comes_before (map (stored_at stored d) es) s =
    λ absent. (let m = rows-insert d stored s es all.1 absent in cc) in
    let P : Key → Type 0 = λ k. map (stored_at (stored ++ s ∷ []) d) (insert_entry key_cmp (e ∷ es) s.row.key (length stored)) ≡ (if is_lt (key_cmp s.row.key k) then s ∷ stored_at stored d e ∷ map (stored_at stored d) es else stored_at stored d e ∷ place_by comes_before (map (stored_at stored d) es) s) in
    subst P (all.0.1 d)
    (choose {V = ℕ} (stored_at (stored ++ s ∷ []) d) (key_cmp s.row.key e.0) ((s.row.key, length stored) ∷ e ∷ es) ((e.0, length stored) ∷ es) (e ∷ insert_entry key_cmp es s.row.key (length stored))
    (s ∷ stored_at stored d e ∷ map (stored_at stored d) es) (stored_at stored d e ∷ place_by comes_before (map (stored_at stored d) es) s)
    e.1 (lookup (is_at (key_cmp s.row.key)) es) none first more)

-- an entry goes on to name its row
pub names_more : (stored : List Stored) (s : Stored) (e : Key × ℕ) → IsEntryOf stored e → IsEntryOf (stored ++ s ∷ []) e
names_more stored s e n = (grind (arith, common_steps), λ (d : Stored). n.1 d ∙ ap (λ (r : Stored). r.row.key) (sym (same_row d stored s e n)))

pub all_names_more : (stored : List Stored) (s : Stored) (es : List (Key × ℕ)) → AllByRecursion (IsEntryOf stored) es → AllByRecursion (IsEntryOf (stored ++ s ∷ [])) es
all_names_more stored s [] all = tt
all_names_more stored s (e ∷ es) all = (names_more stored s e all.0, all_names_more stored s es all.1)

pub names_new : (stored : List Stored) (s : Stored) → IsEntryOf (stored ++ s ∷ []) (s.row.key, length stored)
names_new stored s = (grind (arith, common_steps), λ (d : Stored). ap (λ (r : Stored). r.row.key) (sym (new_row d stored s s.row.key)))

choose_names : (P : Key × ℕ → Type 0) (o : Ordering) (less same more : List (Key × ℕ)) (v : ℕ) (w : Option ℕ) →
    cond (is_eq o) (Some v) w ≡ None → AllByRecursion P less → (w ≡ None → AllByRecursion P more) → AllByRecursion P (match_ordering o less same more)
choose_names P Less less same more v w none h m = h
choose_names P Equal less same more v w none h m = cc
choose_names P Greater less same more v w none h m = m none

pub names-insert : (stored : List Stored) (s : Stored) (es : List (Key × ℕ)) → AllByRecursion (IsEntryOf stored) es →
    lookup (is_at (key_cmp s.row.key)) es ≡ None →
    AllByRecursion (IsEntryOf (stored ++ s ∷ [])) (insert_entry key_cmp es s.row.key (length stored))
names-insert stored s [] all none = (names_new stored s, tt)
names-insert stored s (e ∷ es) all none =
    let more : lookup (is_at (key_cmp s.row.key)) es ≡ None → AllByRecursion (IsEntryOf (stored ++ s ∷ [])) (e ∷ insert_entry key_cmp es s.row.key (length stored)) =
    λ absent. (names_more stored s e all.0, names-insert stored s es all.1 absent) in
    choose_names (IsEntryOf (stored ++ s ∷ [])) (key_cmp s.row.key e.0) ((s.row.key, length stored) ∷ e ∷ es) ((e.0, length stored) ∷ es) (e ∷ insert_entry key_cmp es s.row.key (length stored))
    e.1 (lookup (is_at (key_cmp s.row.key)) es) none (names_new stored s, all_names_more stored s (e ∷ es) all) more

-- an index after the insertion of a key that was absent
pub index-insert : (stored : List Stored) (s : Stored) (es : List (Key × ℕ)) → IsKeyIndex stored es →
    lookup (is_at (key_cmp s.row.key)) es ≡ None →
    IsKeyIndex (stored ++ s ∷ []) (insert_entry key_cmp es s.row.key (length stored))
index-insert stored s es index none = record {
  each = names-insert stored s es index.each none;
  order = λ (d : Stored). rows-insert d stored s es index.each none ∙ ap (λ (rs : List Stored). place_by comes_before rs s) (index.order d) ∙ sym (order-push stored s);
}
