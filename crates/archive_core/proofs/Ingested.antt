-- A row that comes in.
use Rattle.std.proofs.Common.{◌≡◌, ℕ, zero, suc, ◌+◌, ◌≤◌, List, [], ◌∷◌, ◌++◌, length, take, drop, Bool, true, false, Option, Some, None, option_map, refl, sym, ◌∙◌, ap, arith, append_assoc, length-append}
use Rattle.std.specs.Prelude.{slice_get, if◌then◌else◌}
use Rattle.std.proofs.lemmas.Option.{same_Some}
use Rattle.std.proofs.lemmas.List.{take-append-le}
use Rattle.arch_types.specs.declared.row.Row.{Row}
use Rattle.arch_types.proofs.Histories.{only_adds}
use Rattle.arch_types.specs.declared.inserted.Inserted.{Inserted}
use Rattle.arch_types.specs.declared.inserted.Inserted.TheVariants.{New, Duplicate}
use Rattle.history_items.specs.declared.items.Item.{Item}
use Rattle.arch_types.specs.History.{ingested, is_duplicate_of, with_row}
use Rattle.history_items.specs.Items.{after_row, items_of}
use Rattle.history_items.specs.Outcomes.{outcome_of, outcome_at, outcomes_of}
use Rattle.history_items.specs.Places.{first_place}
use Rattle.history_items.proofs.ItemLists.{items_with_row}
use Rattle.history_items.proofs.Places.{first_some, first_none as none_first}
use Rattle.archive_core.proofs.OfRows.{as_long, first_item}

-- ---- the first place, counted on

module _ {X : Type 0} (test : X → Bool) where
  -- the first place of an item that passes, of items whose first stands at this place
  abbrev pub first_from : ℕ → List X → Option ℕ
  first_from place [] = None
  first_from place (x ∷ xs) = if test x then Some place else first_from (place + 1) xs

  first_shifted : (xs : List X) (place : ℕ) → first_from place xs ≡ option_map (λ p. p + place) (first_place test xs)
  first_shifted [] place = refl
  first_shifted (x ∷ xs) place = go (test x) (first_place test xs) (first_shifted xs (place + 1))
    where
      go : (b : Bool) (o : Option ℕ) → first_from (place + 1) xs ≡ option_map (λ p. p + (place + 1)) o
          → (if b then Some place else first_from (place + 1) xs) ≡ option_map (λ p. p + place) (if b then Some 0 else option_map (λ p. p + 1) o)
      go true o rest = ap Some (omega arith)
      go false None rest = rest
      go false (Some p) rest = rest ∙ ap Some (omega arith)

  not_moved : (o : Option ℕ) → option_map (λ p. p + 0) o ≡ o
  not_moved None = refl
  not_moved (Some p) = ap Some (omega arith)

  pub first_is : (xs : List X) → first_from 0 xs ≡ first_place test xs
  first_is xs = first_shifted xs 0 ∙ not_moved (first_place test xs)

-- ---- an item at a place

-- the items from a place on are the item there and those behind it
pub cut_at : {X : Type 0} (xs : List X) (i : ℕ) (x : X) → slice_get xs i ≡ Some x → drop i xs ≡ x ∷ drop (i + 1) xs
cut_at [] i x at = absurd cc
cut_at (y ∷ xs) zero x at =
    let one : zero + 1 ≡ suc zero = omega arith in
    ap (λ (z : _). z ∷ xs) (same_Some y x at) ∙ ap (λ (k : ℕ). x ∷ drop k (y ∷ xs)) (sym one)
cut_at (y ∷ xs) (suc i) x at =
    let next : suc i + 1 ≡ suc (i + 1) = omega arith in
    cut_at xs i x at ∙ ap (λ (k : ℕ). x ∷ drop k (y ∷ xs)) (sym next)

pub none_from : {X : Type 0} (xs : List X) (i : ℕ) → length xs ≤ i → drop i xs ≡ []
none_from [] zero all = refl
none_from [] (suc i) all = refl
none_from (x ∷ xs) zero all = absurd (omega (arith, all))
none_from (x ∷ xs) (suc i) all = none_from xs i (omega (arith, all))

pub first_skip : {X : Type 0} (test : X → Bool) (xs : List X) (i : ℕ) (x : X) → slice_get xs i ≡ Some x → test x ≡ false → first_from test (i + 1) (drop (i + 1) xs) ≡ first_from test i (drop i xs)
first_skip test xs i x at fails = sym (ap (first_from test i) (cut_at xs i x at) ∙ (rw fails refl))

pub first_hit : {X : Type 0} (test : X → Bool) (xs : List X) (i : ℕ) (x : X) → slice_get xs i ≡ Some x → test x ≡ true → Some i ≡ first_from test i (drop i xs)
first_hit test xs i x at passes = sym (ap (first_from test i) (cut_at xs i x at) ∙ (rw passes refl))

pub first_none : {X : Type 0} (test : X → Bool) (xs : List X) (i : ℕ) → length xs ≤ i → None ≡ first_from test i (drop i xs)
first_none test xs i all = sym (ap (first_from test i) (none_from xs i all))

-- ---- one row

-- a row whose table and key are there
pub row_there : (rows : List Row) (row : Row) (place : ℕ) → first_place (is_duplicate_of row) rows ≡ Some place → (outcome_of (items_of rows) row ≡ Duplicate place) × (with_row rows row ≡ rows)
row_there rows row place is =
    (ap (λ (o : Option ℕ). outcome_at o (length (items_of rows))) (first_item row rows ∙ is), rw (first_some (is_duplicate_of row) rows place is) refl)

-- and one whose table and key aren't
pub row_new : (rows : List Row) (row : Row) → first_place (is_duplicate_of row) rows ≡ None → (outcome_of (items_of rows) row ≡ New (length rows)) × (with_row rows row ≡ rows ++ row ∷ [])
row_new rows row is = (
  ap (λ (o : Option ℕ). outcome_at o (length (items_of rows))) (first_item row rows ∙ is) ∙ ap New (as_long rows),
  rw (none_first (is_duplicate_of row) rows is) refl,
)

-- ---- one row more of a batch

pub outcomes_more : (before now : List Inserted) (rows grown batch : List Row) (i : ℕ) (row : Row) (outcome : Inserted) → slice_get batch i ≡ Some row → outcome ≡ outcome_of (items_of rows) row
    → grown ≡ with_row rows row → now ≡ before ++ outcome ∷ [] → now ++ outcomes_of (items_of grown) (drop (i + 1) batch) ≡ before ++ outcomes_of (items_of rows) (drop i batch)
outcomes_more before now rows grown batch i row outcome at is grows pushed =
    ap (λ (l : List Inserted). l ++ outcomes_of (items_of grown) (drop (i + 1) batch)) pushed
    ∙ append_assoc before (outcome ∷ []) (outcomes_of (items_of grown) (drop (i + 1) batch))
    ∙ ap (λ (l : List Item). before ++ (outcome ∷ outcomes_of l (drop (i + 1) batch))) (ap items_of grows ∙ items_with_row rows row)
    ∙ ap (λ (o : Inserted). before ++ (o ∷ outcomes_of (after_row (items_of rows) row) (drop (i + 1) batch))) is
    ∙ ap (λ (l : List Row). before ++ outcomes_of (items_of rows) l) (sym (cut_at batch i row at))

pub rows_more : (rows grown batch : List Row) (i : ℕ) (row : Row) → slice_get batch i ≡ Some row → grown ≡ with_row rows row → ingested grown (drop (i + 1) batch) ≡ ingested rows (drop i batch)
rows_more rows grown batch i row at grows =
    ap (λ (l : List Row). ingested l (drop (i + 1) batch)) grows ∙ ap (ingested rows) (sym (cut_at batch i row at))

pub longer : (now : List Row) (row : Row) → length now ≤ length (with_row now row)
longer now row =
    let more = only_adds now (row ∷ []) in
    omega (arith, ap length more.1, length-append now more.0)

-- ---- the rows that were there

-- rows that begin with some begin with these once one more came
pub still_first : (first now : List Row) (row : Row) → take (length first) now ≡ first → length first ≤ length now → take (length first) (with_row now row) ≡ first
still_first first now row is within =
    let more = only_adds now (row ∷ []) in
    ap (take (length first)) more.1 ∙ take-append-le (length first) now more.0 within ∙ is
