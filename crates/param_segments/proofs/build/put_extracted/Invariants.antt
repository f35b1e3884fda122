use Rattle.std.proofs.Common.{◌≡◌, take}
use Rattle.param_segments.specs.Extracted.{extracted_rows}
use Rattle.param_segments.proofs.build.put_extracted.Given as goal

abbrev pub invariant-loop-row : goal.invariant-loop-row
invariant-loop-row g l = l.builder ≡ extracted_rows l.mdb (take l.row-index l.rows)
