-- The rows of runs that are wanted, page after page and run after run.
use Rattle.std.proofs.Common.{◌≡◌, ℕ, zero, suc, ◌+◌, ◌-◌, ◌*◌, ◌<◌, ◌≤◌, Bool, true, false, List, [], ◌∷◌, ◌++◌, length, get_or, take, drop, Option, Some, None, refl, sym, ap, ◌∙◌, subst, append-nil, append_assoc, arith}
use Rattle.std.specs.Prelude.{◌&&◌, ◌==◌, nat_lt}
use Rattle.std.specs.List.{AllByRecursion}
use Rattle.std.proofs.lemmas.Bool.Decides.{nat_tests}
use Rattle.std.proofs.lemmas.List.{drop-drop, take_all, take-append-drop}
use Rattle.arch_disk.specs.Image.{Image}
use Rattle.arch_types.specs.declared.key.Key.{Key}
use Rattle.arch_types.specs.declared.row.Row.{Row}
use Rattle.replay_merge.proofs.Reading.{all_both}
use Rattle.run_pages.specs.Order.{are_ordered, follows}
use Rattle.run_pages.specs.Placed.{Placed, rows_of_placed}
use Rattle.run_pages.specs.Pages.{FitsPage, rows_of_page}
use Rattle.run_pages.specs.Runs.{page_of_rows}
use Rattle.run_pages.specs.declared.page_rows.PageRows.{PageRows}
use Rattle.run_pages.proofs.Beside.{flat_more, rows_back}
use Rattle.run_pages.proofs.Joins.{both_true}
use Rattle.run_pages.proofs.OrderedRows.{eq_true}
use Rattle.run_files.specs.Calls.{IsRisingPage}
use Rattle.run_files.specs.Run.{run_file, run_table}
use Rattle.run_files.specs.declared.run.Run.{Run}
use Rattle.sealed_rows.specs.Gathered.{gathered_of, wanted_of}
use Rattle.sealed_rows.specs.Rows.{rows_in}
use Rattle.sealed_rows.specs.Wanted.{IsRowWanted, is_in_times, is_wanted, rows_wanted}
use Rattle.sealed_rows.specs.Calls.{IsOutside}
use Rattle.sealed_rows.specs.declared.wanted.Wanted.{Wanted}
use Rattle.sealed_rows.proofs.WantedRows.{none_wanted, wanted_append}

-- ---- parts of lists

take_nil : {X : Type 0} (n : ℕ) → take {A = X} n [] ≡ []
take_nil zero = refl
take_nil (suc n) = refl

pub take_more : {X : Type 0} (a b : ℕ) (xs : List X) → take (a + b) xs ≡ take a xs ++ take b (drop a xs)
take_more zero b xs = let same : 0 + b ≡ b = omega arith in ap (λ (n : ℕ). take n xs) same
take_more {X} (suc a) b [] = take_nil {X = X} (suc a + b) ∙ sym (take_nil {X = X} b)
take_more {X} (suc a) b (x ∷ xs) = let next : suc a + b ≡ suc (a + b) = omega arith in ap (λ (n : ℕ). take n (x ∷ xs)) next ∙ ap (λ (l : List X). x ∷ l) (take_more a b xs)

all_drop : {X : Type 0} (P : X → Type 0) (n : ℕ) (xs : List X) → AllByRecursion P xs → AllByRecursion P (drop n xs)
all_drop P zero xs all = all
all_drop P (suc n) [] all = tt
all_drop P (suc n) (x ∷ xs) all = all_drop P n xs all.1

-- ---- the rows of a page

pub in_table : (table : ℕ) (first : Key) (next last : Option Key) (rows : List Row) → are_ordered table first next last rows ≡ true → AllByRecursion (λ row. row.table ≡ table) rows
in_table table first next last [] e = tt
in_table table first next last (row ∷ rows) e =
    let a = both_true (row.table == table) _ e in
    let b = both_true (follows first last row.key) _ a.1 in
    (eq_true row.table table a.0, in_table table first next (Some row.key) rows b.1)

module _ (wanted : Wanted) where
  are_wanted : (placed : List Placed) → AllByRecursion FitsPage placed → AllByRecursion (λ row. row.table ≡ wanted.table) (rows_of_placed placed) → AllByRecursion (IsRowWanted wanted) (rows_wanted wanted placed)
  are_wanted [] fits in_table = tt
  are_wanted (at ∷ placed) fits in_table = by (is_wanted wanted at) refl (are_wanted placed fits.1 in_table.1)
    where
      by : (b : Bool) → is_wanted wanted at ≡ b → AllByRecursion (IsRowWanted wanted) (rows_wanted wanted placed) → AllByRecursion (IsRowWanted wanted) (rows_wanted wanted (at ∷ placed))
      by true e later =
          let stored = fits.0.stored in
          rw e (record { keyed = record { packet = stored.packet; rectime = stored.rectime; key = stored.key }; in_table = in_table.0; in_times = (both_true (nat_lt at.position wanted.front) _ e).1 }, later)
      by false e later = rw e later

  module _ (run : Run) (of_table : run_table run ≡ wanted.table) where
    pub page_wanted : (page : ℕ) (held : PageRows) (rows all : List Row) → IsRisingPage run page held → AllByRecursion (IsRowWanted wanted) rows → all ≡ rows ++ rows_wanted wanted (rows_of_page held) → AllByRecursion (IsRowWanted wanted) all
    page_wanted page held rows all is so_far more =
        let of_run : AllByRecursion (λ row. row.table ≡ run_table run) (rows_of_placed (rows_of_page held)) =
        subst (AllByRecursion (λ (row : Row). row.table ≡ run_table run)) (sym (rows_back held.positions held.rows held.beside)) (in_table (run_table run) is.entry.first _ None held.rows is.ordered) in
        let of : AllByRecursion (λ row. row.table ≡ wanted.table) (rows_of_placed (rows_of_page held)) = subst (λ (t : ℕ). AllByRecursion (λ (row : Row). row.table ≡ t) (rows_of_placed (rows_of_page held))) of_table of_run in
        subst (AllByRecursion (IsRowWanted wanted)) (sym more) (all_both (IsRowWanted wanted) rows (rows_wanted wanted (rows_of_page held)) so_far (are_wanted (rows_of_page held) is.stored of))

  -- ---- the pages of a run

  fails : (a b : Bool) → b ≡ false → (a && b) ≡ false
  fails true b e = e
  fails false b e = refl

  not_wanted : (placed : List Placed) → AllByRecursion (IsOutside wanted.times) placed → AllByRecursion (λ at. is_wanted wanted at ≡ false) placed
  not_wanted [] all = tt
  not_wanted (at ∷ placed) all = (fails (nat_lt at.position wanted.front) (is_in_times wanted.times at.row) all.0, not_wanted placed all.1)

  -- before the first page there is none that is wanted
  pub before_first : (placed : List Placed) (before : List Row) (first : ℕ) → AllByRecursion (IsOutside wanted.times) (take (64 * first) placed) → before ≡ before ++ rows_wanted wanted (take (64 * first) placed)
  before_first placed before first none = sym (ap (λ (l : List Row). before ++ l) (none_wanted wanted (take (64 * first) placed) (not_wanted (take (64 * first) placed) none)) ∙ append-nil before)

  -- one page more
  pub page_more : (placed : List Placed) (before so_far all : List Row) (page : ℕ) (held : List Placed) → so_far ≡ before ++ rows_wanted wanted (take (64 * page) placed) → held ≡ page_of_rows page placed →
      all ≡ so_far ++ rows_wanted wanted held → all ≡ before ++ rows_wanted wanted (take (64 * (page + 1)) placed)
  page_more placed before so_far all page held got is more =
      let number : 64 * page + 64 ≡ 64 * (page + 1) = omega arith in
      more ∙ ap (λ (l : List Row). l ++ rows_wanted wanted held) got ∙ append_assoc before (rows_wanted wanted (take (64 * page) placed)) (rows_wanted wanted held)
      ∙ ap (λ (l : List Row). before ++ l) (ap (λ (l : List Placed). rows_wanted wanted (take (64 * page) placed) ++ rows_wanted wanted l) is ∙ sym (wanted_append wanted (take (64 * page) placed) (page_of_rows page placed))
      ∙ ap (rows_wanted wanted) (sym (take_more (64 * page) 64 placed) ∙ ap (λ (n : ℕ). take n placed) number))

  -- from the end on there is none that is wanted
  pub all_pages : (placed : List Placed) (before so_far : List Row) (end page : ℕ) → so_far ≡ before ++ rows_wanted wanted (take (64 * page) placed) → end ≤ page →
      AllByRecursion (IsOutside wanted.times) (drop (64 * end) placed) → so_far ≡ before ++ rows_wanted wanted placed
  all_pages placed before so_far end page got le none =
      let number : 64 * end + (64 * page - 64 * end) ≡ 64 * page = omega (arith, le) in
      let behind : AllByRecursion (IsOutside wanted.times) (drop (64 * page) placed) =
      subst (AllByRecursion (IsOutside wanted.times)) (drop-drop (64 * page - 64 * end) (64 * end) placed ∙ ap (λ (n : ℕ). drop n placed) number) (all_drop (IsOutside wanted.times) (64 * page - 64 * end) (drop (64 * end) placed) none) in
      let rest = none_wanted wanted (drop (64 * page) placed) (not_wanted (drop (64 * page) placed) behind) in
      got ∙ ap (λ (l : List Row). before ++ l) (sym (append-nil (rows_wanted wanted (take (64 * page) placed))) ∙ ap (λ (l : List Row). rows_wanted wanted (take (64 * page) placed) ++ l) (sym rest)
      ∙ sym (wanted_append wanted (take (64 * page) placed) (drop (64 * page) placed)) ∙ ap (rows_wanted wanted) (take-append-drop (64 * page) placed))

  -- ---- run after run

  -- of a run of the table
  pub wanted_run : (image : Image) (run : Run) (before all : List Row) → run_table run ≡ wanted.table → all ≡ before ++ rows_wanted wanted (rows_in (image (run_file run)) run) → all ≡ before ++ wanted_of wanted image run
  wanted_run image run before all of is =
      let one : (run_table run == wanted.table) ≡ true = grind (arith, nat_tests, of) in
      let its : wanted_of wanted image run ≡ rows_wanted wanted (rows_in (image (run_file run)) run) = rw one refl in
      is ∙ ap (λ (l : List Row). before ++ l) (sym its)

  -- of one of another table
  pub other_run : (image : Image) (run : Run) (before : List Row) → (run_table run ≡ wanted.table → ⊥) → before ≡ before ++ wanted_of wanted image run
  other_run image run before apart =
      let other : (run_table run == wanted.table) ≡ false = grind (arith, nat_tests, apart) in
      let none : wanted_of wanted image run ≡ [] = rw other refl in
      sym (ap (λ (l : List Row). before ++ l) none ∙ append-nil before)

  -- one run more
  pub run_more : (image : Image) (runs : List Run) (i : ℕ) (run : Run) (so_far all : List Row) → i < length runs → run ≡ get_or runs i run → so_far ≡ gathered_of wanted image (take i runs) →
      all ≡ so_far ++ wanted_of wanted image run → all ≡ gathered_of wanted image (take (i + 1) runs)
  run_more image runs i run so_far all lt is got more =
      more ∙ ap (λ (l : List Row). l ++ wanted_of wanted image run) got ∙ sym (flat_more (wanted_of wanted image) runs i run run lt (sym is))

  pub all_runs : (image : Image) (runs : List Run) (i : ℕ) (rows : List Row) → length runs ≤ i → rows ≡ gathered_of wanted image (take i runs) → rows ≡ gathered_of wanted image runs
  all_runs image runs i rows le got = got ∙ ap (gathered_of wanted image) (take_all i runs le)
