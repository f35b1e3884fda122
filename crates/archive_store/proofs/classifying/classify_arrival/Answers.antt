use Rattle.std.proofs.Common.{◌<◌, ◌++◌, ℕ, length, List, map, take, sym, ◌∙◌, ap, subst, append_assoc, [], ◌∷◌, get_or}
use Rattle.arch_types.specs.declared.row.Row.{Row}
use Rattle.replay_merge.proofs.Giving.{fault_before, fault_passed, used_twice}
use Rattle.archive_store.specs.Batches.{in_table}
use Rattle.archive_store.specs.Classifying.{IsClassified}
use Rattle.archive_history.proofs.Steps.{map_more}
use Rattle.archive_store.proofs.Positions.{tells_later}
use Rattle.archive_store.proofs.classifying.classify_arrival.Goals as goal

pub loop-table-preserved : goal.loop-table-preserved
loop-table-preserved g c =
    let state = g.R.RowSource.state in
    let inv = c.loop-table.invariant in
    record {
      used = used_twice inv.used c.classify_row.ensures.source;
      calm = c.in_ok-classify_row.ensures.no_fault ∙ inv.calm;
      left = g.met.R.RowSource.both_left c.args.source.now c.loop-table.source c.classify_row.new.source inv.left c.classify_row.ensures.left;
      classified = λ items rows tells was.
          let row = in_table c.args.arrival.now.row in
          let tables = c.args.arrival.now.tables in
          let i = c.loop-table.table-index in
          let within : i < length tables = subst (λ (l : List ℕ). i < length l) c.as_slice-table-items.ensures c.loop-table-test.true in
          let more = ap (λ (l : List Row). rows ++ l) (map_more row tables i within) ∙ sym (append_assoc rows (map row (take i tables)) (row (get_or tables i 0) ∷ [])) in
          let later = tells_later (state c.args.source.now) items c.args.known tells (state c.loop-table.source) inv.used in
          subst (λ (l : List Row). IsClassified items l c.classify_row.new.classified) (sym more)
          (subst (λ (l : List ℕ). IsClassified items ((rows ++ map row (take i tables)) ++ row (get_or l i 0) ∷ []) c.classify_row.new.classified) c.as_slice-table-items.ensures
          (c.in_ok-classify_row.ensures.classified items (rows ++ map row (take i tables)) later (inv.classified items rows tells was)));
      last = c.in_ok-classify_row.ensures.last;
    }

pub returns-in_err-classify_row-clause-refused : goal.returns-in_err-classify_row-clause-refused
returns-in_err-classify_row-clause-refused g c =
    let fault = c.in_err-classify_row.field-0.0 in
    fault_passed c.from_residual.result fault (g.R.RowSource.state c.args.source.now) (g.R.RowSource.state c.classify_row.new.source) c.from_residual.ensures.1
    (fault_before c.loop-table.invariant.used c.loop-table.invariant.calm (g.R.RowSource.state c.classify_row.new.source) fault c.in_err-classify_row.ensures.refused)
