-- What a link knows of the rows that it has sent.
use Rattle.std.proofs.Common.{◌≡◌, ◌⊎◌, inl, inr, List, [], ◌∷◌, ◌++◌, Bool, true, false, ◌||◌, refl, sym, ap, subst, ◌∙◌, append_assoc}
use Rattle.std.specs.Prelude.{if◌then◌else◌}
use Rattle.std.specs.List.{AllByRecursion, list_any}
use mathlib.Core.List.{IsPrefix}
use Rattle.arch_types.specs.declared.row.Row.{Row}
use Rattle.arch_types.specs.History.{IsHistory, firsts, ingested, is_duplicate_of, with_row}
use Rattle.arch_types.proofs.Histories.{same_key}
use Rattle.history_items.specs.declared.items.Item.{Item}
use Rattle.history_items.specs.Items.{after_rows, items_of, rows_in}
use Rattle.history_items.specs.Outcomes.{fresh_of}
use Rattle.history_items.proofs.ItemLists.{any_row_with, rows_after_rows, rows_behind, rows_in-append}
use Rattle.history_items.proofs.Outcomes.{duplicate_back, each_other, fresh_added}
use Rattle.shared_history.specs.Laws.{BatchIsSent, OneLinkIngests, SentStays}
use Rattle.shared_history.specs.Sent.{AreKept, AreSomeOf}
use Rattle.shared_history.proofs.Fresh as law
use Rattle.shared_history.proofs.Fresh.{IsLikeness, any_append, any_left, any_like, any_right, batch_goes_on, covers_batch, fresh_is_some, ingested_fresh, or_cases, or_left, or_right}
use Rattle.shared_history.proofs.OneLink.{all_put}

likeness : IsLikeness is_duplicate_of
likeness = record { back = duplicate_back; each_other = each_other }

-- ---- the definitions for any kind of item, over rows

same_ingested : (history rows : List Row) → law.ingested is_duplicate_of history rows ≡ ingested history rows
same_ingested history [] = refl
same_ingested history (row ∷ rows) = same_ingested (with_row history row) rows

cancel : {X : Type 0} (xs ys zs : List X) → xs ++ ys ≡ xs ++ zs → ys ≡ zs
cancel [] ys zs e = e
cancel (x ∷ xs) ys zs e = cancel xs ys zs (cc e)

rows_after : (history : List Item) (rows : List Row) → rows_in (after_rows history rows) ≡ law.ingested is_duplicate_of (rows_in history) rows
rows_after history rows = rows_after_rows history rows ∙ sym (same_ingested (rows_in history) rows)

same_fresh : (history : List Item) (rows : List Row) → law.fresh_of is_duplicate_of (rows_in history) rows ≡ fresh_of history rows
same_fresh history rows =
    let whole : rows_in history ++ fresh_of history rows ≡ rows_in (after_rows history rows) = sym (rows_behind history (fresh_of history rows)) ∙ sym (ap rows_in (fresh_added history rows)) in
    cancel (rows_in history) _ _ (sym (ingested_fresh is_duplicate_of likeness (rows_in history) rows) ∙ (sym (rows_after history rows) ∙ sym whole))

-- ---- what is kept

abbrev Covers : List Row → List Row → Type 0
Covers = law.Covers is_duplicate_of

kept_covers : (history : List Item) (rows : List Row) → AreKept history rows → Covers (rows_in history) rows
kept_covers history [] kept x e = absurd cc
kept_covers history (row ∷ rows) kept x e = go (or_cases (is_duplicate_of x row) (list_any (is_duplicate_of x) rows) e) (kept_covers history rows kept.1 x)
  where
    go : (is_duplicate_of x row ≡ true) ⊎ (list_any (is_duplicate_of x) rows ≡ true) → (list_any (is_duplicate_of x) rows ≡ true → list_any (is_duplicate_of x) (rows_in history) ≡ true)
        → list_any (is_duplicate_of x) (rows_in history) ≡ true
    go (inl like) deep = any_like is_duplicate_of likeness row x (rows_in history) (duplicate_back x row like) (sym (any_row_with (is_duplicate_of row) history) ∙ kept.0)
    go (inr later) deep = deep later

covers_kept : (history : List Item) (rows : List Row) → Covers (rows_in history) rows → AreKept history rows
covers_kept history [] covers = tt
covers_kept history (row ∷ rows) covers = (
  any_row_with (is_duplicate_of row) history ∙ covers row (or_left (is_duplicate_of row row) (list_any (is_duplicate_of row) rows) (same_key row)),
  covers_kept history rows (λ x e. covers x (or_right (is_duplicate_of x row) (list_any (is_duplicate_of x) rows) e)),
)

rows_begin : (seen later : List Item) → IsPrefix seen later → IsPrefix (rows_in seen) (rows_in later)
rows_begin seen later begins = (rows_in begins.0, sym (rows_in-append seen begins.0) ∙ ap rows_in begins.1)

pub sent_stays : SentStays
sent_stays arrived put seen later begins sent =
    let more = rows_begin seen later begins in
    let covers = kept_covers seen arrived sent.kept in
    record {
      some = sent.some;
      kept = covers_kept later arrived (λ x e. subst (λ (l : List Row). list_any (is_duplicate_of x) l ≡ true) more.1 (any_left is_duplicate_of likeness x (rows_in seen) more.0 (covers x e)));
    }

pub batch_is_sent : BatchIsSent
batch_is_sent arrived put batch seen found begins sent =
    let before : law.HasSentItems is_duplicate_of arrived (rows_in seen) put = record {
      some = subst (λ (l : List Row). AreSomeOf put l) (sym (same_ingested [] arrived)) sent.some;
      kept = kept_covers seen arrived sent.kept;
    } in
    let after = batch_goes_on is_duplicate_of likeness arrived (rows_in seen) put (rows_in found) batch before (rows_begin seen found begins) in
    record {
      some = subst (λ (l : List Row). AreSomeOf (put ++ l) (firsts (arrived ++ batch))) (same_fresh found batch)
          (subst (λ (l : List Row). AreSomeOf (put ++ law.fresh_of is_duplicate_of (rows_in found) batch) l) (same_ingested [] (arrived ++ batch)) after.some);
      kept = covers_kept (after_rows found batch) (arrived ++ batch) (subst (λ (l : List Row). Covers l (arrived ++ batch)) (sym (rows_after found batch)) after.kept);
    }

-- ---- one link

all_middle : (P : Row → Type 0) (xs ys : List Row) (y : Row) → AllByRecursion P (xs ++ y ∷ ys) → P y
all_middle P [] ys y all = all.0
all_middle P (x ∷ xs) ys y all = all_middle P xs ys y all.1

both_false : (a b : Bool) → a ≡ false → b ≡ false → (a || b) ≡ false
both_false true b e f = absurd cc
both_false false b e f = f

-- a row of a history is unlike those before it
unlike : (xs ys : List Row) (y : Row) → IsHistory (xs ++ y ∷ ys) → list_any (is_duplicate_of y) xs ≡ false
unlike [] ys y is = refl
unlike (x ∷ xs) ys y is =
    both_false (is_duplicate_of y x) (list_any (is_duplicate_of y) xs) (all_middle (λ later. is_duplicate_of later x ≡ false) xs ys y is.0) (unlike xs ys y is.1)

new_behind : (xs ys : List Row) → IsHistory (xs ++ ys) → law.fresh_of is_duplicate_of xs ys ≡ ys
new_behind xs [] is = refl
new_behind xs (y ∷ ys) is =
    let others = new_behind (xs ++ y ∷ []) ys (subst IsHistory (sym (append_assoc xs (y ∷ []) ys)) is) in
    go (list_any (is_duplicate_of y) xs) (unlike xs ys y is) others
  where
    go : (b : Bool) → b ≡ false → law.fresh_of is_duplicate_of (xs ++ y ∷ []) ys ≡ ys
        → (if b then law.fresh_of is_duplicate_of xs ys else y ∷ law.fresh_of is_duplicate_of (xs ++ y ∷ []) ys) ≡ y ∷ ys
    go true e others = absurd cc
    go false e others = ap (λ (l : List Row). y ∷ l) others

pub one_link_ingests : OneLinkIngests
one_link_ingests before after arrived put is_history whole sent =
    let rows : rows_in after ≡ rows_in before ++ put = ap rows_in whole ∙ rows_behind before put in
    let some : AreSomeOf put (law.fresh_of is_duplicate_of [] arrived) =
    subst (λ (l : List Row). AreSomeOf put l) (sym (same_ingested [] arrived) ∙ ingested_fresh is_duplicate_of likeness [] arrived) sent.some in
    let covers : Covers (rows_in before ++ put) arrived = subst (λ (l : List Row). Covers l arrived) rows (kept_covers after arrived sent.kept) in
    let new = new_behind (rows_in before) put (subst IsHistory rows is_history) in
    let fresh = all_put is_duplicate_of likeness arrived (rows_in before) [] put (λ z e. absurd cc) some covers new same_key in
    whole ∙ (ap (λ (l : List Row). before ++ items_of l) (sym (sym (same_fresh before arrived) ∙ fresh)) ∙ sym (fresh_added before arrived))

-- ---- rows that nothing came between

-- The rows of a batch that were new to a history are those that are new to a longer one, where they are all new to that
-- too.
pub fresh_stays : (history later : List Item) (batch : List Row) → IsPrefix history later → after_rows later (fresh_of history batch) ≡ later ++ items_of (fresh_of history batch)
    → fresh_of later batch ≡ fresh_of history batch
fresh_stays history later batch begins new =
    let put = fresh_of history batch in
    let some : AreSomeOf put (law.fresh_of is_duplicate_of [] batch) =
    subst (λ (l : List Row). AreSomeOf l (law.fresh_of is_duplicate_of [] batch)) (same_fresh history batch) (fresh_is_some is_duplicate_of likeness batch (rows_in history) [] (λ z e. absurd cc)) in
    let covers : Covers (rows_in history ++ put) batch =
    subst (λ (l : List Row). Covers l batch) (ingested_fresh is_duplicate_of likeness (rows_in history) batch ∙ ap (λ (l : List Row). rows_in history ++ l) (same_fresh history batch))
    (covers_batch is_duplicate_of likeness (rows_in history) batch) in
    let longer = rows_begin history later begins in
    let more : Covers (rows_in later ++ put) batch = λ z e. wider z (rows_in history) (rows_in later) put longer (covers z e) in
    let all : law.fresh_of is_duplicate_of (rows_in later) put ≡ put =
    cancel (rows_in later) _ _ (sym (ingested_fresh is_duplicate_of likeness (rows_in later) put) ∙ (sym (rows_after later put) ∙ (ap rows_in new ∙ rows_behind later put))) in
    sym (same_fresh later batch) ∙ all_put is_duplicate_of likeness batch (rows_in later) [] put (λ z e. absurd cc) some more all same_key
  where
    wider : (z : Row) (xs ys put : List Row) → IsPrefix xs ys → list_any (is_duplicate_of z) (xs ++ put) ≡ true → list_any (is_duplicate_of z) (ys ++ put) ≡ true
    wider z xs ys put (more, is) e = go (any_append is_duplicate_of likeness z xs put e)
      where
        go : (list_any (is_duplicate_of z) xs ≡ true) ⊎ (list_any (is_duplicate_of z) put ≡ true) → list_any (is_duplicate_of z) (ys ++ put) ≡ true
        go (inl h) = any_left is_duplicate_of likeness z ys put (subst (λ (l : List Row). list_any (is_duplicate_of z) l ≡ true) is (any_left is_duplicate_of likeness z xs more h))
        go (inr h) = any_right is_duplicate_of likeness z ys put h
