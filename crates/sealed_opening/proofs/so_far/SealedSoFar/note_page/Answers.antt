use Rattle.std.proofs.Common.{◌≡◌, ◌++◌, [], ℕ, List, length, true, refl, sym, ◌∙◌, ap, subst, arith}
use Rattle.std.specs.List.{AllByRecursion, zip}
use Rattle.arch_types.specs.declared.row.Row.{Row}
use Rattle.octet_fields.specs.Exact.{IsOctets}
use Rattle.archive_images.specs.Entries.{IsPlaced}
use Rattle.fill_tracker.specs.Placed.{AreMarksOfPlaced}
use Rattle.run_pages.specs.Pages.{rows_of_page}
use Rattle.run_pages.specs.Placed.{rows_of_placed}
use Rattle.run_pages.proofs.Beside.{rows_back}
use Rattle.sealed_sums.specs.Sums.{AreSumsOf}
use Rattle.sealed_opening.specs.Positions.{AreFlagsOf}
use Rattle.sealed_opening.specs.SoFar.{AreRowsNoted}
use Rattle.sealed_opening.specs.declared.so_far.SealedSoFar.{SealedSoFar}
use Rattle.sealed_opening.proofs.NotedRows.{noted_page, placed_as}
use Rattle.sealed_opening.proofs.so_far.SealedSoFar.note_page.Goals as goal

pub add_page-requires-clause-beside : goal.add_page-requires-clause-beside
add_page-requires-clause-beside c = ap length c.as_slice-positions.ensures ∙ c.args.page.now.beside ∙ sym (ap length c.as_slice-rows.ensures)

pub add_page-requires-clause-few : goal.add_page-requires-clause-few
add_page-requires-clause-few c = omega (arith, c.count.ensures, c.saturating_add.ensures, c.if-saturating_add-ge-TOO_MANY.false)

pub returns-clause-noted : goal.returns-clause-noted
returns-clause-noted c =
    let was = c.args.self.now in
    let page = c.args.page.now in
    let marked = c.note_places.new.self in
    let mid : SealedSoFar = record { sums = c.add_page.new.self; tracker = c.add_page.new.tracker; sets = was.sets; runs = was.runs; told = c.push.new.self; positions = c.add_all.new.self; are_placed = was.are_placed } in
    let rows_are : c.as_slice-rows.result.now ≡ page.rows = c.as_slice-rows.ensures in
    let places_are : c.as_slice-positions.result.now ≡ page.positions = c.as_slice-positions.ensures in
    subst (AreRowsNoted (rows_of_page page) was) (sym c.note_places.ensures.rest)
    (noted_page page c.of.result was mid marked.are_placed c.in_ok-push.ensures.items c.of.ensures
    (λ before are. subst (λ (l : List Row). AreSumsOf (before ++ l) mid.sums) rows_are (c.in_ok-add_page.ensures.sums before are))
    (λ placed are. subst (λ (l : List Row). AreMarksOfPlaced was.sums.exponent (placed ++ zip page.positions l) mid.tracker.fills mid.tracker.marks) rows_are
    (subst (λ (l : List ℕ). AreMarksOfPlaced was.sums.exponent (placed ++ zip l c.as_slice-rows.result.now) mid.tracker.fills mid.tracker.marks) places_are (c.in_ok-add_page.ensures.marks placed are)))
    (λ limit told are. subst (λ (l : List ℕ). AreFlagsOf limit (told ++ l) mid.positions) places_are (c.add_all.ensures limit told are))
    c.requires.each (subst (AllByRecursion (λ (row : Row). IsOctets row.packet)) rows_are c.have_octets.ensures) (c.add_page.ensures.fills, refl) c.add_page.ensures.exponent c.add_page.ensures.same_tables)

pub returns-clause-placed : goal.returns-clause-placed
returns-clause-placed c =
    let page = c.args.page.now in
    let rows_are : c.as_slice-rows.result.now ≡ page.rows = c.as_slice-rows.ensures in
    let back : rows_of_placed (rows_of_page page) ≡ page.rows = rows_back page.positions page.rows page.beside in
    let All : List Row → Type 0 = AllByRecursion (IsPlaced c.args.head.now []) in
    placed_as (c.have_places.result ≡ true) (All (rows_of_placed (rows_of_page page))) c.args.self.now c.note_places.new.self
    (λ said. subst All (sym back) (subst All rows_are (c.have_places.ensures.0 said)))
    (λ all. c.have_places.ensures.1 (subst All (sym rows_are) (subst All back all)))
    c.note_places.ensures.placed

pub returns-clause-runs : goal.returns-clause-runs
returns-clause-runs c = ap (λ (s : SealedSoFar). s.runs.items) c.note_places.ensures.rest
