use Rattle.std.proofs.Common.{◌≡◌, ◌∙◌, ◌++◌, List, ap, subst, sym}
use Rattle.container_extract.specs.declared.values.RawValue.{RawValue}
use Rattle.container_extract.specs.Extraction.{raw_extraction}
use Rattle.container_extract.proofs.Extracting.{raw_extraction_keeps_rules}
use Rattle.param_segments.specs.Extracted.{kept_row}
use Rattle.param_segments.specs.Rows.{AreSetRows, set_row}
use Rattle.param_segments.proofs.Extracted.{next_rows, rows_so_far}
use Rattle.param_segments.proofs.build.put_extracted.Goals as goal

pub put_values-requires : goal.put_values-requires
put_values-requires g c = λ key.
    let db = c.args.mdb.now in
    let row = c.row-item.result in
    let are : c.as_slice-in-loop-row.result.now ≡ raw_extraction db row.packet = c.as_slice-in-loop-row.ensures.value ∙ c.extract-extracted.ensures.values ∙ ap (raw_extraction db) c.as_slice.ensures in
    subst (λ (vs : List RawValue). AreSetRows (c.loop-row.builder ++ kept_row (set_row row.key vs))) (sym are)
    (rows_so_far db c.args.rows.now c.loop-row.row-index row c.loop-row.builder c.is_sound.ensures c.loop-row-test.true c.row-item.is key (raw_extraction_keeps_rules db row.packet c.is_sound.ensures) c.requires.rising c.loop-row.invariant c.rows_are_sound.ensures.each)

pub loop-row-preserved : goal.loop-row-preserved
loop-row-preserved g c =
    let db = c.args.mdb.now in
    let row = c.row-item.result in
    let are : c.as_slice-in-loop-row.result.now ≡ raw_extraction db row.packet = c.as_slice-in-loop-row.ensures.value ∙ c.extract-extracted.ensures.values ∙ ap (raw_extraction db) c.as_slice.ensures in
    next_rows db c.args.rows.now c.loop-row.row-index row c.loop-row.builder c.put_values.new.builder c.as_slice-in-loop-row.result.now c.loop-row-test.true c.row-item.is are c.loop-row.invariant c.in_ok-put_values.ensures
