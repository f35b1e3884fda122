use Rattle.std.proofs.Common.{◌≡◌, ◌∙◌, ℕ, List, ap, subst, sym}
use Rattle.std.specs.List.{AllByRecursion, filter_map}
use Rattle.std.proofs.lemmas.Result.{IfOk-weaker}
use Rattle.container_extract.specs.Extraction.{cell_of}
use Rattle.container_extract.proofs.Extracting.{value_is_calibrated}
use Rattle.param_segments.specs.Cells.{set_cells}
use Rattle.param_segments.specs.Extracted.{IsSetOf, extracted_rows}
use Rattle.param_segments.specs.Rows.{IsSetRow, SetRow}
use Rattle.param_segments.proofs.Extracted.{built_is, extracted_cells}
use Rattle.param_segments.proofs.set.SegSet.build.Goals as goal

pub returns-clause-rows : goal.returns-clause-rows
returns-clause-rows c =
    IfOk-weaker c.set.result (λ (s : List SetRow). s ≡ c.put_extracted.new.builder) (λ s. s ≡ extracted_rows c.args.mdb.now c.args.rows.now) (λ s e. e ∙ c.in_ok-put_extracted.ensures ∙ ap (extracted_rows c.args.mdb.now) c.as_slice.ensures) c.set.ensures

pub returns-clause-sound : goal.returns-clause-sound
returns-clause-sound c =
    let db = c.args.mdb.now in
    let rows = c.args.rows.now in
    IfOk-weaker c.set.result (λ (s : List SetRow). s ≡ c.put_extracted.new.builder) (IsSetOf db c.args._exponent c.args._interval.0)
    (λ s e. built_is db c.args._exponent c.args._interval.0 rows s c.is_sound.ensures (e ∙ c.in_ok-put_extracted.ensures ∙ ap (extracted_rows db) c.as_slice.ensures) (subst (AllByRecursion IsSetRow) (sym e) c.rows_are_sound.ensures.each) c.requires.rising c.requires.inside) c.set.ensures

pub returns-clause-cells : goal.returns-clause-cells
returns-clause-cells c =
    IfOk-weaker c.set.result (λ (s : List SetRow). s ≡ c.put_extracted.new.builder) (λ s. (q : ℕ) → set_cells c.args.mdb.now q s ≡ filter_map (cell_of c.args.mdb.now q) c.args.rows.now)
    (λ s e q. ap (set_cells c.args.mdb.now q) (e ∙ c.in_ok-put_extracted.ensures ∙ ap (extracted_rows c.args.mdb.now) c.as_slice.ensures) ∙ extracted_cells value_is_calibrated c.args.mdb.now q c.args.rows.now) c.set.ensures
