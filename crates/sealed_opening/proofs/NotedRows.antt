-- Rows that are noted, page after page.
use Rattle.std.proofs.Common.{◌≡◌, ℕ, List, [], ◌∷◌, ◌++◌, length, map, Bool, refl, sym, ◌∙◌, ap, subst, append_assoc, append-nil, arith}
use Rattle.std.specs.List.{AllByRecursion, flat_map, zip}
use Rattle.std.specs.declared.snapshot.Snapshot.{Snapshot}
use Rattle.std.proofs.lemmas.List.{map-append}
use Rattle.std.proofs.lemmas.List.Concat.{flat_map-append}
use Rattle.arch_types.specs.declared.row.Row.{Row}
use Rattle.octet_fields.specs.Exact.{IsOctets}
use Rattle.fill_tracker.specs.FillTracker.{FillTrackerView}
use Rattle.fill_tracker.specs.Placed.{AreMarksOfPlaced}
use Rattle.run_pages.specs.Pages.{FitsPage, rows_of_page}
use Rattle.run_pages.specs.Placed.{Placed, behind_positions, placed_rows, rows_of_placed}
use Rattle.run_pages.specs.declared.page_rows.PageRows.{PageRows}
use Rattle.run_pages.proofs.Beside.{rows_back}
use Rattle.sealed_sums.specs.Sums.{AreSumsOf, SumsView}
use Rattle.sealed_opening.specs.Positions.{AreFlagsOf}
use Rattle.sealed_opening.specs.SoFar.{ArePlacedIf, AreRowsNoted, rows_so_far}
use Rattle.sealed_opening.specs.declared.so_far.SealedSoFar.{SealedSoFar}

-- ---- rows beside positions

pub zip_of : (positions : List ℕ) (rows : List Row) → behind_positions (placed_rows positions rows) ≡ zip positions rows
zip_of [] rows = refl
zip_of (p ∷ positions) [] = refl
zip_of (p ∷ positions) (row ∷ rows) = ap (λ (l : List (ℕ × Row)). (p, row) ∷ l) (zip_of positions rows)

pub positions_back : (positions : List ℕ) (rows : List Row) → length positions ≡ length rows → map (λ (at : Placed). at.position) (placed_rows positions rows) ≡ positions
positions_back [] [] beside = refl
positions_back [] (row ∷ rows) beside = absurd (omega (arith, beside))
positions_back (p ∷ positions) [] beside = absurd (omega (arith, beside))
positions_back (p ∷ positions) (row ∷ rows) beside = ap (λ (l : List ℕ). p ∷ l) (positions_back positions rows (omega (arith, beside)))

pub octets_beside : (positions : List ℕ) (rows : List Row) → AllByRecursion (λ row. IsOctets row.packet) rows → AllByRecursion (λ (at : Placed). IsOctets at.row.packet) (placed_rows positions rows)
octets_beside [] rows all = tt
octets_beside (p ∷ positions) [] all = tt
octets_beside (p ∷ positions) (row ∷ rows) all = (all.0, octets_beside positions rows all.1)

pub all_both : {X : Type 0} (P : X → Type 0) (xs ys : List X) → AllByRecursion P xs → AllByRecursion P ys → AllByRecursion P (xs ++ ys)
all_both P [] ys a b = b
all_both P (x ∷ xs) ys a b = (a.0, all_both P xs ys a.1 b)

pub all_parts : {X : Type 0} (P : X → Type 0) (xs ys : List X) → AllByRecursion P (xs ++ ys) → AllByRecursion P xs × AllByRecursion P ys
all_parts P [] ys all = (tt, all)
all_parts P (x ∷ xs) ys all = let rest = all_parts P xs ys all.1 in ((all.0, rest.0), rest.1)

-- ---- none, and more

abbrev pub row_at : Placed → Row
row_at at = at.row

abbrev pub position_at : Placed → ℕ
position_at at = at.position

abbrev pub beside : Placed → ℕ × Row
beside at = (at.position, at.row)

pub none_noted : (was now : SealedSoFar) → rows_so_far now ≡ rows_so_far was → now.sums ≡ was.sums → now.tracker ≡ was.tracker → now.sets ≡ was.sets → now.positions ≡ was.positions → AreRowsNoted [] was now
none_noted was now told sums tracker sets positions = record {
  told = told ∙ sym (append-nil (rows_so_far was));
  sums = λ before are. subst (λ (l : List Row). AreSumsOf l now.sums) (sym (append-nil before)) (subst (AreSumsOf before) (sym sums) are);
  marks = λ placed are. subst (λ (l : List (ℕ × Row)). AreMarksOfPlaced was.sums.exponent l now.tracker.fills now.tracker.marks) (sym (append-nil placed))
      (subst (λ (t : FillTrackerView). AreMarksOfPlaced was.sums.exponent placed t.fills t.marks) (sym tracker) are);
  positions = λ limit told are. subst (λ (l : List ℕ). AreFlagsOf limit l now.positions) (sym (append-nil told)) (subst (AreFlagsOf limit told) (sym positions) are);
  fit = tt;
  octets = tt;
  fills = (ap (λ (t : FillTrackerView). t.fills) tracker, sets);
  exponent = ap (λ (s : SumsView). s.exponent) sums;
  tables = ap (λ (s : SumsView). length s.tables) sums;
}

-- nothing was noted but whether all are in their places
pub no_rows_noted : (was mid now : SealedSoFar) → mid ≡ record was { are_placed = mid.are_placed } → now.told.items ≡ mid.told.items → now.sums ≡ mid.sums → now.tracker ≡ mid.tracker → now.sets ≡ mid.sets → now.positions ≡ mid.positions → AreRowsNoted [] was now
no_rows_noted was mid now rest told sums tracker sets positions =
    none_noted was now
    (ap (λ (l : List (Snapshot PageRows)). flat_map (λ (page : Snapshot PageRows). rows_of_page page.value) l) told ∙ ap rows_so_far rest)
    (sums ∙ ap (λ (s : SealedSoFar). s.sums) rest) (tracker ∙ ap (λ (s : SealedSoFar). s.tracker) rest) (sets ∙ ap (λ (s : SealedSoFar). s.sets) rest) (positions ∙ ap (λ (s : SealedSoFar). s.positions) rest)

pub both_noted : (a b : List Placed) (was mid now : SealedSoFar) → AreRowsNoted a was mid → AreRowsNoted b mid now → AreRowsNoted (a ++ b) was now
both_noted a b was mid now p q = record {
  told = q.told ∙ ap (λ (l : List Placed). l ++ b) p.told ∙ append_assoc (rows_so_far was) a b;
  sums = λ before are. subst (λ (l : List Row). AreSumsOf l now.sums) (append_assoc before (rows_of_placed a) (rows_of_placed b) ∙ ap (λ (l : List Row). before ++ l) (sym (map-append row_at a b)))
      (q.sums (before ++ rows_of_placed a) (p.sums before are));
  marks = λ placed are.
      let first = p.marks placed are in
      let next = q.marks (placed ++ behind_positions a) (subst (λ (e : ℕ). AreMarksOfPlaced e (placed ++ behind_positions a) mid.tracker.fills mid.tracker.marks) (sym p.exponent) first) in
      subst (λ (l : List (ℕ × Row)). AreMarksOfPlaced was.sums.exponent l now.tracker.fills now.tracker.marks)
      (append_assoc placed (behind_positions a) (behind_positions b) ∙ ap (λ (l : List (ℕ × Row)). placed ++ l) (sym (map-append beside a b)))
      (subst (λ (e : ℕ). AreMarksOfPlaced e ((placed ++ behind_positions a) ++ behind_positions b) now.tracker.fills now.tracker.marks) p.exponent next);
  positions = λ limit told are. subst (λ (l : List ℕ). AreFlagsOf limit l now.positions) (append_assoc told (map position_at a) (map position_at b) ∙ ap (λ (l : List ℕ). told ++ l) (sym (map-append position_at a b)))
      (q.positions limit (told ++ map position_at a) (p.positions limit told are));
  fit = all_both FitsPage a b p.fit q.fit;
  octets = all_both (λ (at : Placed). IsOctets at.row.packet) a b p.octets q.octets;
  fills = (q.fills.0 ∙ p.fills.0, q.fills.1 ∙ p.fills.1);
  exponent = q.exponent ∙ p.exponent;
  tables = q.tables ∙ p.tables;
}

-- ---- whether all are in their places

pub both_placed : (A B : Type 0) (was mid now : SealedSoFar) → ArePlacedIf A was mid → ArePlacedIf B mid now → ArePlacedIf (A × B) was now
both_placed A B was mid now p q = (
  λ all. let last = q.0 all in let first = p.0 last.0 in (first.0, (first.1, last.1)),
  λ all. q.1 (p.1 (all.0, all.1.0), all.1.1),
)

pub placed_as : (A B : Type 0) (was now : SealedSoFar) → (A → B) → (B → A) → ArePlacedIf A was now → ArePlacedIf B was now
placed_as A B was now to back p = (λ all. let both = p.0 all in (both.0, to both.1), λ all. p.1 (all.0, back all.1))

pub same_placed : (A : Type 0) (was now : SealedSoFar) → now.are_placed ≡ was.are_placed → A → ArePlacedIf A was now
same_placed A was now same holds = (λ all. (sym same ∙ all, holds), λ all. same ∙ all.0)

pub placed_rows_both : (P : Row → Type 0) (a b : List Placed) (was mid now : SealedSoFar) → ArePlacedIf (AllByRecursion P (rows_of_placed a)) was mid → ArePlacedIf (AllByRecursion P (rows_of_placed b)) mid now → ArePlacedIf (AllByRecursion P (rows_of_placed (a ++ b))) was now
placed_rows_both P a b was mid now p q =
    let A : Type 0 = AllByRecursion P (rows_of_placed a) in
    let B : Type 0 = AllByRecursion P (rows_of_placed b) in
    placed_as (A × B) (AllByRecursion P (rows_of_placed (a ++ b))) was now
    (λ both. subst (AllByRecursion P) (sym (map-append row_at a b)) (all_both P (rows_of_placed a) (rows_of_placed b) both.0 both.1))
    (λ all. all_parts P (rows_of_placed a) (rows_of_placed b) (subst (AllByRecursion P) (map-append row_at a b) all))
    (both_placed A B was mid now p q)

-- ---- a page

pub noted_page : (page : PageRows) (snap : Snapshot PageRows) (was mid : SealedSoFar) (b : Bool) → mid.told.items ≡ was.told.items ++ snap ∷ [] → snap.value ≡ page
    → ((before : List Row) → AreSumsOf before was.sums → AreSumsOf (before ++ page.rows) mid.sums)
    → ((placed : List (ℕ × Row)) → AreMarksOfPlaced was.sums.exponent placed was.tracker.fills was.tracker.marks → AreMarksOfPlaced was.sums.exponent (placed ++ zip page.positions page.rows) mid.tracker.fills mid.tracker.marks)
    → ((limit : ℕ) (told : List ℕ) → AreFlagsOf limit told was.positions → AreFlagsOf limit (told ++ page.positions) mid.positions)
    → AllByRecursion FitsPage (rows_of_page page) → AllByRecursion (λ row. IsOctets row.packet) page.rows → (mid.tracker.fills ≡ was.tracker.fills) × (mid.sets ≡ was.sets) → mid.sums.exponent ≡ was.sums.exponent → length mid.sums.tables ≡ length was.sums.tables
    → AreRowsNoted (rows_of_page page) was (record mid { are_placed = b })
noted_page page snap was mid b told is sums marks positions fit octets fills exponent tables =
    let rows : List Placed = rows_of_page page in
    let said : List (Snapshot PageRows) → List Placed = λ l. flat_map (λ (s : Snapshot PageRows). rows_of_page s.value) l in
    record {
      told = ap said told ∙ flat_map-append (λ (s : Snapshot PageRows). rows_of_page s.value) was.told.items (snap ∷ []) ∙ ap (λ (l : List Placed). rows_so_far was ++ l) (append-nil (rows_of_page snap.value) ∙ ap rows_of_page is);
      sums = λ before are. subst (λ (l : List Row). AreSumsOf (before ++ l) mid.sums) (sym (rows_back page.positions page.rows page.beside)) (sums before are);
      marks = λ placed are. subst (λ (l : List (ℕ × Row)). AreMarksOfPlaced was.sums.exponent (placed ++ l) mid.tracker.fills mid.tracker.marks) (sym (zip_of page.positions page.rows)) (marks placed are);
      positions = λ limit told are. subst (λ (l : List ℕ). AreFlagsOf limit (told ++ l) mid.positions) (sym (positions_back page.positions page.rows page.beside)) (positions limit told are);
      fit = fit;
      octets = octets_beside page.positions page.rows octets;
      fills = fills;
      exponent = exponent;
      tables = tables;
    }
