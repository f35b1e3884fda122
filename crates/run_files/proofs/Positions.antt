-- The position of a key's row.
use Rattle.std.proofs.Common.{◌≡◌, ℕ, ◌+◌, ◌-◌, ◌*◌, ◌<◌, ◌≤◌, Bool, true, List, [], ◌∷◌, length, get_or, take, drop, Option, Some, None, refl, sym, ap, ◌∙◌, subst, arith}
use Rattle.std.specs.List.{Contains, position, position_or_len}
use Rattle.std.specs.Ordering.{is_le, is_lt}
use Rattle.std.proofs.lemmas.Grind.{common_steps}
use Rattle.std.proofs.lemmas.List.{get_or-take, get_or-drop, length-take, length-drop}
use Rattle.std.proofs.lemmas.List.Quantifiers.{position-Some}
use Rattle.std.proofs.lemmas.List.Sums.{fails_before_first}
use Rattle.arch_types.specs.declared.key.Key.{Key}
use Rattle.arch_types.specs.declared.row.Row.{Row}
use Rattle.arch_types.specs.Order.{key_cmp}
use Rattle.octet_fields.proofs.Exact.{some_is}
use Rattle.run_pages.specs.Placed.{Placed, placed_rows, row_placed, rows_of_placed}
use Rattle.run_pages.specs.Order.{is_same_key}
use Rattle.run_pages.specs.Pages.{rows_of_page}
use Rattle.run_pages.specs.Runs.{page_of_rows}
use Rattle.run_pages.specs.declared.page_rows.PageRows.{PageRows}
use Rattle.run_pages.proofs.Beside.{placed_get, placed_rows_len, rows_back}
use Rattle.run_pages.proofs.OrderedRows.{same_key, same_key_is}
use Rattle.run_files.specs.Lookup.{IsPageFor, IsPositionOf}
use Rattle.run_files.specs.Run.{IsRunInMemory}
use Rattle.run_files.specs.declared.run.Run.{Run}
use Rattle.run_files.proofs.OwnPages.{at_most_last, not_both, own_page}

-- whether a row has a key
abbrev pub has_this_key : Key → Row → Bool
has_this_key key row = is_same_key row.key key

-- no row that fails a test passes it
no_row : (key : Key) (rows : List Row) (k : ℕ) (d : Row) → position (has_this_key key) rows ≡ None → k < length rows → (get_or rows k d).key ≡ key → ⊥
no_row key rows k d none lt same =
    let all : length rows ≤ position_or_len (has_this_key key) rows = grind (arith, common_steps, none) in
    let fails = fails_before_first (has_this_key key) rows k d (omega (arith, all, lt)) in
    let passes : has_this_key key (get_or rows k d) ≡ true = subst (λ (q : Key). is_same_key q key ≡ true) (sym same) (same_key key) in
    cc (fails, passes)

row_at : (positions : List ℕ) (rows : List Row) (at : Placed) (k : ℕ) → length positions ≡ length rows → k < length rows → get_or (placed_rows positions rows) k at ≡ at → get_or rows k at.row ≡ at.row
row_at positions rows at k beside lt is =
    let row = get_or rows k at.row in
    let same : row ≡ get_or rows k row = get_or_any rows k at.row row lt in
    ap (λ (p : Placed). p.row) (sym (placed_get positions rows k (get_or positions k 0) row at beside lt refl same) ∙ is)
  where
    get_or_any : (rows : List Row) (k : ℕ) (d e : Row) → k < length rows → get_or rows k d ≡ get_or rows k e
    get_or_any rows k d e lt = grind (arith, common_steps)

-- a row of a page is one of all rows
of_page : (page : ℕ) (rows : List Placed) (at : Placed) → Contains (page_of_rows page rows) at → Contains rows at
of_page page rows at (i, lt, is) =
    let within : i < 64 = omega (arith, lt, length-take 64 (drop (64 * page) rows)) in (
      64 * page + i,
      omega (arith, lt, length-take 64 (drop (64 * page) rows), length-drop (64 * page) rows),
      sym (get_or-drop (64 * page) rows i at) ∙ sym (get_or-take 64 (drop (64 * page) rows) i at within) ∙ is,
    )

module _ (content : List ℕ) (run : Run) (rows : List Placed) (k : IsRunInMemory content run rows) (key : Key) where
  -- a key above the last is none of the run's,
  pub above_all : is_lt (key_cmp run.last key) ≡ true → IsPositionOf rows key None
  above_all above at has same = not_both at.row.key run.last (at_most_last content run rows k at has) (subst (λ (q : Key). is_lt (key_cmp run.last q) ≡ true) (sym same) above)

  -- nor is one below the first,
  pub below_all : IsPageFor run.index.entries.items key None → IsPositionOf rows key None
  below_all none at has same =
      let own = own_page content run rows k at None has (subst (λ (q : Key). IsPageFor run.index.entries.items q None) (sym same) none) in
      absurd (cc own.1)

  module _ (page : ℕ) (may : IsPageFor run.index.entries.items key (Some page)) (held : PageRows) (held_is : rows_of_page held ≡ page_of_rows page rows) where
    -- nor one that its page hasn't
    pub not_on_page : position (has_this_key key) held.rows ≡ None → IsPositionOf rows key None
    not_on_page none at has same =
        let own = own_page content run rows k at (Some page) has (subst (λ (q : Key). IsPageFor run.index.entries.items q (Some page)) (sym same) may) in
        let here : Contains (page_of_rows page rows) at = subst (λ (n : ℕ). Contains (page_of_rows n rows) at) (sym (some_is page own.0 own.1)) own.2.there in
        let on : Contains (rows_of_page held) at = subst (λ (l : List Placed). Contains l at) (sym held_is) here in
        let lt : on.0 < length held.rows = omega (arith, on.1, placed_rows_len held.positions held.rows held.beside) in
        no_row key held.rows on.0 at.row none lt (ap (λ (r : Row). r.key) (row_at held.positions held.rows at on.0 held.beside lt on.2) ∙ same)

    on_page_by : (place : ℕ) (d : Row) → position (has_this_key key) held.rows ≡ Some place → IsPositionOf rows key (Some (get_or held.positions place 0))
    on_page_by place d found =
        let some = position-Some (has_this_key key) held.rows place d found in
        let row = get_or held.rows place d in
        let at = row_placed (get_or held.positions place 0) row in
        let long = placed_rows_len held.positions held.rows held.beside in
        let same : row ≡ get_or held.rows place row = grind (arith, common_steps, some.0) in
        let on : Contains (rows_of_page held) at = (place, omega (arith, some.0, long), placed_get held.positions held.rows place (get_or held.positions place 0) row at held.beside some.0 refl same) in
        (row, same_key_is row.key key some.1, of_page page rows at (subst (λ (l : List Placed). Contains l at) held_is on))

    pub on_page : (place : ℕ) → position (has_this_key key) held.rows ≡ Some place → IsPositionOf rows key (Some (get_or held.positions place 0))
    on_page place found = by held.rows refl
      where
        by : (l : List Row) → held.rows ≡ l → IsPositionOf rows key (Some (get_or held.positions place 0))
        by [] is = let none : Some place ≡ None = sym found ∙ ap (position (has_this_key key)) is in absurd (cc none)
        by (d ∷ l) is = on_page_by place d found
