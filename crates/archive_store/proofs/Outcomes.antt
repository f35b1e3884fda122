-- New rows and duplicates of a batch.
use Rattle.std.proofs.Common.{◌≡◌, ℕ, zero, suc, ◌+◌, ◌<◌, List, [], ◌∷◌, ◌++◌, length, Bool, true, false, true≢false, Option, Some, None, refl, sym, ◌∙◌, ap, subst, arith, length-append}
use Rattle.std.specs.Prelude.{◌==◌, ◌&&◌, slice_get}
use Rattle.std.specs.List.{list_any}
use Rattle.std.specs.Ordering.{nat_cmp, int_cmp, int_eq, is_eq, is_gt, ordering_then, ordering_reverse, MatchOrdering}
use Rattle.std.specs.Cmp.{IsTotalOrder, then_total, on_total, nat_cmp_total, ranks}
use Rattle.std.specs.declared.cmp.Ordering.{Ordering}
use Rattle.std.specs.declared.cmp.Ordering.TheVariants.{Less, Equal, Greater}
use Rattle.std.proofs.lemmas.Cmp.{int_eq_equiv, nat_eq_equiv, tied_itself, upto}
use Rattle.std.proofs.lemmas.Bool.{and_parts, eqb-true, or_from}
use Rattle.std.proofs.lemmas.Bool.Decides.{nat_tests}
use Rattle.std.proofs.lemmas.List.Folds.{list_any-append}
use Rattle.block_map.proofs.Rising.{all_append}
use Rattle.arch_types.specs.declared.inserted.Inserted.{Inserted}
use Rattle.arch_types.specs.declared.inserted.Inserted.TheVariants.{New, Duplicate}
use Rattle.arch_types.specs.declared.row.Row.{Row}
use Rattle.arch_types.specs.History.{IsHistory}
use Rattle.arch_types.specs.Order.{key_cmp}
use Rattle.arch_types.proofs.Ranks.{key_cmp_total}
use Rattle.history_items.specs.declared.items.Item.{Item}
use Rattle.history_items.specs.Items.{after_rows, has_key_of, items_of, row_item, rows_in}
use Rattle.history_items.proofs.ItemLists.{keeps_rows, length-items_of}
use Rattle.history_items.specs.Outcomes.{Says, outcome_of, outcomes_of, fresh_of, answered_new}
use Rattle.history_items.proofs.Outcomes.{outcomes_say, outcomes-append, length-outcomes, fresh_added}
use Rattle.archive_history.specs.History.{is_at_key}
use Rattle.archive_store.specs.Classifying.{IsFoundAt, NoneAbove, is_above, table_key_cmp, table_key_of}
use Rattle.archive_store.specs.declared.classifying.TableKey.{TableKey}

-- ---- items at places

pub at_left : {X : Type 0} (xs ys : List X) (i : ℕ) (x : X) → slice_get xs i ≡ Some x → slice_get (xs ++ ys) i ≡ Some x
at_left [] ys i x e = absurd cc
at_left (y ∷ xs) ys zero x e = e
at_left (y ∷ xs) ys (suc i) x e = at_left xs ys i x e

pub at_right : {X : Type 0} (xs ys : List X) (i : ℕ) (x : X) → slice_get ys i ≡ Some x → slice_get (xs ++ ys) (length xs + i) ≡ Some x
at_right {X} [] ys i x e =
    let same : 0 + i ≡ i = omega arith in
    ap (λ (k : ℕ). slice_get ys k) same ∙ e
at_right {X} (y ∷ xs) ys i x e =
    let same : length (y ∷ xs) + i ≡ suc (length xs + i) = omega arith in
    ap (λ (k : ℕ). slice_get (y ∷ xs ++ ys) k) same ∙ at_right xs ys i x e

-- ---- the last key of a batch

table_key_total : IsTotalOrder table_key_cmp
table_key_total = then_total (on_total (λ (a : TableKey). a.key) key_cmp_total) (on_total (λ (a : TableKey). a.table) nat_cmp_total)

equal_true : (o : Ordering) → is_eq o ≡ true → o ≡ Equal
equal_true Less e = absurd cc
equal_true Equal e = refl
equal_true Greater e = absurd cc

-- the key of a row of that table and key compares equal with it
same_key : (at : TableKey) (row : Row) → is_at_key at.table at.key (row_item row) ≡ true → table_key_cmp at (table_key_of row) ≡ Equal
same_key at row passes =
    let p = and_parts (at.table == row.table) (is_eq (key_cmp at.key row.key)) passes in
    let table : at.table ≡ row.table = eqb-true at.table row.table p.0 in
    let key : key_cmp at.key row.key ≡ Equal = equal_true (key_cmp at.key row.key) p.1 in
    rw (key, table) (tied_itself nat_cmp_total row.table)

-- a key above the last one is that of no row
pub none_at_key : (at : TableKey) (last : Option TableKey) (rows : List Row) → NoneAbove last rows → is_above at last ≡ true → IsFoundAt rows at None
none_at_key at None rows none above = subst (λ (l : List Row). IsFoundAt l at None) (sym none) refl
none_at_key at (Some last) [] none above = refl
none_at_key at (Some last) (row ∷ rows) none above =
    or_from (is_at_key at.table at.key (row_item row)) (list_any (is_at_key at.table at.key) (items_of rows)) (other (is_at_key at.table at.key (row_item row)) refl) (none_at_key at (Some last) rows none.1 above)
  where
    other : (b : Bool) → is_at_key at.table at.key (row_item row) ≡ b → b ≡ false
    other false is = refl
    other true is = absurd (true≢false (sym above ∙ ap is_gt (table_key_total.congr at (table_key_of row) last (same_key at row is)) ∙ none.0))

eq_then : (r s : Ordering) → is_eq (ordering_then r s) ≡ (is_eq r && is_eq s)
eq_then Less s = refl
eq_then Equal s = refl
eq_then Greater s = refl

eq_nat : (a b : ℕ) (r : Ordering) → MatchOrdering r (a < b) (a ≡ b) (b < a) → is_eq r ≡ (b == a)
eq_nat a b Less less = sym (let far : (b == a) ≡ false = grind (arith, nat_tests, less) in far)
eq_nat a b Equal same = sym (let near : (b == a) ≡ true = grind (arith, nat_tests, same) in near)
eq_nat a b Greater more = sym (let far : (b == a) ≡ false = grind (arith, nat_tests, more) in far)

swapped : (a b : Bool) → (a && b) ≡ (b && a)
swapped false false = refl
swapped false true = refl
swapped true false = refl
swapped true true = refl

-- whether two keys are one, part by part
abbrev parts_same : TableKey → TableKey → Bool
parts_same a b = (int_eq a.key.time b.key.time && (a.key.seq == b.key.seq)) && (a.table == b.table)

-- the key of a row is one exactly where the row has that table and key
pub key_test : (at key : TableKey) (row : Row) (test : Bool) → key ≡ table_key_of row → test ≡ parts_same key at → is_at_key at.table at.key (row_item row) ≡ test
key_test at key row test is same =
    ap (λ (b : Bool). (at.table == row.table) && b) (eq_then (int_cmp at.key.time row.key.time) (nat_cmp at.key.seq row.key.seq))
    ∙ ap (λ (b : Bool). (at.table == row.table) && (int_eq at.key.time row.key.time && b)) (eq_nat at.key.seq row.key.seq (nat_cmp at.key.seq row.key.seq) (ranks at.key.seq row.key.seq))
    ∙ ap (λ (b : Bool). (at.table == row.table) && (b && (row.key.seq == at.key.seq))) (int_eq_equiv.symm at.key.time row.key.time)
    ∙ ap (λ (b : Bool). b && (int_eq row.key.time at.key.time && (row.key.seq == at.key.seq))) (nat_eq_equiv.symm at.table row.table)
    ∙ swapped (row.table == at.table) (int_eq row.key.time at.key.time && (row.key.seq == at.key.seq))
    ∙ ap (λ (k : TableKey). parts_same k at) (sym is)
    ∙ sym same

not_above_itself : (at : TableKey) → is_above at (Some at) ≡ false
not_above_itself at = ap is_gt (tied_itself table_key_total at)

turned : (o : Ordering) → is_gt o ≡ true → is_gt (ordering_reverse o) ≡ false
turned Less e = absurd cc
turned Equal e = absurd cc
turned Greater e = refl

-- with a row more, the last key is the old one where the row's is not above it,
pub last_kept : (last : Option TableKey) (rows : List Row) (row : Row) → NoneAbove last rows → is_above (table_key_of row) last ≡ false → NoneAbove last (rows ++ row ∷ [])
last_kept None rows row none below = absurd (true≢false below)
last_kept (Some last) rows row none below = all_append (λ r. is_above (table_key_of r) (Some last) ≡ false) rows (row ∷ []) none (below, tt)

-- and else the row's
pub last_raised : (last : Option TableKey) (rows : List Row) (row : Row) → NoneAbove last rows → is_above (table_key_of row) last ≡ true
    → NoneAbove (Some (table_key_of row)) (rows ++ row ∷ [])
last_raised None rows row none above = subst (λ (l : List Row). NoneAbove (Some (table_key_of row)) (l ++ row ∷ [])) (sym none) (not_above_itself (table_key_of row), tt)
last_raised (Some last) rows row none above =
    all_append (λ r. is_above (table_key_of r) (Some (table_key_of row)) ≡ false) rows (row ∷ []) (lower rows none) (not_above_itself (table_key_of row), tt)
  where
    below : is_gt (table_key_cmp last (table_key_of row)) ≡ false
    below = ap is_gt (table_key_total.antisymm last (table_key_of row)) ∙ turned (table_key_cmp (table_key_of row) last) above

    lower : (rs : List Row) → NoneAbove (Some last) rs → NoneAbove (Some (table_key_of row)) rs
    lower [] all = tt
    lower (r ∷ rs) all = (upto table_key_total (table_key_of r) last (table_key_of row) all.0 below, lower rs all.1)

-- ---- what an outcome says

-- a row at a place is the item there
row_at : (rows : List Row) (i : ℕ) (there : Row) → slice_get rows i ≡ Some there → slice_get (items_of rows) i ≡ Some (row_item there)
row_at [] i there found = absurd cc
row_at (row ∷ rows) zero there found = let same : row ≡ there = cc in ap (λ (r : Row). Some (row_item r)) same
row_at (row ∷ rows) (suc i) there found = row_at rows i there found

-- the test by a row is that by its table and key
test_is : (at : TableKey) (row : Row) (items : List Item) (b : Bool) → table_key_of row ≡ at → list_any (is_at_key at.table at.key) items ≡ b → list_any (has_key_of row) items ≡ b
test_is at row items b same is = ap (λ (k : TableKey). list_any (is_at_key k.table k.key) items) same ∙ is

pub says_known : (items : List Item) (fresh : List Row) (at : TableKey) (p : ℕ) (there : Item) → slice_get items p ≡ Some there → is_at_key at.table at.key there ≡ true →
    (row : Row) → table_key_of row ≡ at → Says (items ++ items_of fresh) row (Duplicate p)
says_known items fresh at p there found passes row same = (there, at_left items (items_of fresh) p there found, ap (λ (k : TableKey). is_at_key k.table k.key there) same ∙ passes)

pub says_fresh : (items : List Item) (fresh : List Row) (at : TableKey) (i : ℕ) (there : Row) → slice_get fresh i ≡ Some there → is_at_key at.table at.key (row_item there) ≡ true →
    (row : Row) → table_key_of row ≡ at → Says (items ++ items_of fresh) row (Duplicate (length items + i))
says_fresh items fresh at i there found passes row same =
    (row_item there, at_right items (items_of fresh) i (row_item there) (row_at fresh i there found), ap (λ (k : TableKey). is_at_key k.table k.key (row_item there)) same ∙ passes)

pub says_new : (items : List Item) (fresh : List Row) (at : TableKey) (n : ℕ) → list_any (is_at_key at.table at.key) items ≡ false → list_any (is_at_key at.table at.key) (items_of fresh) ≡ false → n ≡ length items + length fresh →
    (row : Row) → table_key_of row ≡ at → Says (items ++ items_of fresh) row (New n)
says_new items fresh at n first second long row same =
    let one = test_is at row items false same first in
    let two = test_is at row (items_of fresh) false same second in
    let none : list_any (has_key_of row) (items ++ items_of fresh) ≡ false = rw (list_any-append (has_key_of row) items (items_of fresh), one, two) refl in
    (rw none refl, long ∙ ap (λ (k : ℕ). length items + k) (sym (length-items_of fresh)) ∙ sym (length-append items (items_of fresh)))

-- ---- one row more

some_is : (x y : Inserted) → ◌≡◌ {A = Option Inserted} (Some x) (Some y) → x ≡ y
some_is x y e = cc

-- the outcome that says the truth is the one
outcome_is : (there : List Item) (row : Row) (outcome : Inserted) → IsHistory (rows_in there) → Says there row outcome → outcome_of there row ≡ outcome
outcome_is there row outcome is says = some_is (outcome_of there row) outcome ((outcomes_say there (row ∷ []) 0 row outcome is refl).1 says)

answered_more : (outcomes : List Inserted) (rows : List Row) (outcome : Inserted) (row : Row) → length outcomes ≡ length rows → answered_new (outcomes ++ outcome ∷ []) (rows ++ row ∷ []) ≡ answered_new outcomes rows ++ answered_new (outcome ∷ []) (row ∷ [])
answered_more [] [] outcome row same = refl
answered_more [] (r ∷ rows) outcome row same = absurd (omega (arith, same))
answered_more (o ∷ outcomes) [] outcome row same = absurd (omega (arith, same))
answered_more (New p ∷ outcomes) (r ∷ rows) outcome row same = ap (λ (l : List Row). r ∷ l) (answered_more outcomes rows outcome row (omega (arith, same)))
answered_more (Duplicate p ∷ outcomes) (r ∷ rows) outcome row same = answered_more outcomes rows outcome row (omega (arith, same))

module _ (items : List Item) (rows : List Row) (row : Row) (outcome : Inserted) (is : IsHistory (rows_in items)) where
  outcome_there : Says (items ++ items_of (fresh_of items rows)) row outcome → outcome_of (after_rows items rows) row ≡ outcome
  outcome_there says = outcome_is (after_rows items rows) row outcome (keeps_rows items rows is) (subst (λ (l : List Item). Says l row outcome) (sym (fresh_added items rows)) says)

  pub outcomes_more : Says (items ++ items_of (fresh_of items rows)) row outcome → outcomes_of items (rows ++ row ∷ []) ≡ outcomes_of items rows ++ outcome ∷ []
  outcomes_more says = outcomes-append items rows (row ∷ []) ∙ ap (λ (o : Inserted). outcomes_of items rows ++ o ∷ []) (outcome_there says)

  pub fresh_more : Says (items ++ items_of (fresh_of items rows)) row outcome → fresh_of items (rows ++ row ∷ []) ≡ fresh_of items rows ++ answered_new (outcome ∷ []) (row ∷ [])
  fresh_more says =
      ap (λ (l : List Inserted). answered_new l (rows ++ row ∷ [])) (outcomes_more says)
      ∙ answered_more (outcomes_of items rows) rows outcome row (length-outcomes items rows)
