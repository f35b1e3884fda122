use Rattle.std.proofs.Common.{◌≡◌, ◌∙◌, ◌++◌, ◌∷◌, [], List, ℕ, append_assoc, ap, sym}
use Rattle.std.specs.Prelude.{flat_map, option_copied}
use Rattle.arch_types.specs.declared.cell.Cell.{Cell}
use Rattle.retrieval.specs.CellText.{cell_line}
use Rattle.retrieval.proofs.answer_text.cells_text.Goals as goal

-- the line of the next cell, moved behind those before
next_moved : (line : Cell → List ℕ) (left behind : List Cell) (cell : Cell) (held put text moved all : List ℕ) → left ≡ cell ∷ behind → held ≡ [] →
    put ≡ held ++ line cell → moved ≡ text ++ put → text ++ flat_map line left ≡ all → moved ++ flat_map line behind ≡ all
next_moved line left behind cell held put text moved all step empty is_put is_moved h =
    ap (λ (l : List ℕ). l ++ flat_map line behind) (is_moved ∙ ap (λ (l : List ℕ). text ++ l) (is_put ∙ ap (λ (l : List ℕ). l ++ line cell) empty))
    ∙ append_assoc text (line cell) (flat_map line behind)
    ∙ ap (λ (xs : List Cell). text ++ flat_map line xs) (sym step)
    ∙ h

pub loop-cell-preserved : goal.loop-cell-preserved
loop-cell-preserved c =
    let step : c.loop-cell.cell-iterator ≡ c.in-Some.cell ∷ c.next.new.self = let s = c.in-Some.ensures.steps in cc in
    let line = cell_line (option_copied c.args.calibration) in
    record {
      empty = c.in_ok-append_to.ensures.empty;
      text = next_moved line c.loop-cell.cell-iterator c.next.new.self c.in-Some.cell c.loop-cell.line_buffer c.put_cell.new.line_buffer c.loop-cell.text.items c.append_to.new.text.items (flat_map line c.args.cells.now)
          step c.loop-cell.invariant.empty c.put_cell.ensures c.in_ok-append_to.ensures.all c.loop-cell.invariant.text;
    }
