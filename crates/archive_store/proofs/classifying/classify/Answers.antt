use Rattle.std.proofs.Common.{◌∙◌, ◌≡◌, ◌<◌, length, get_or, List, take, sym, subst}
use Rattle.std.specs.List.{flat_map}
use Rattle.arch_types.specs.declared.row.Row.{Row}
use Rattle.replay_merge.proofs.Giving.{fault_before, fault_passed, used_twice}
use Rattle.archive_store.specs.declared.batch.Arrival.{Arrival}
use Rattle.archive_store.specs.Batches.{arrival_rows}
use Rattle.archive_store.specs.Classifying.{IsClassified}
use Rattle.archive_history.proofs.Steps.{flat_more}
use Rattle.archive_store.proofs.Positions.{tells_later}
use Rattle.archive_store.proofs.classifying.classify.Goals as goal

pub loop-arrival-preserved : goal.loop-arrival-preserved
loop-arrival-preserved g c =
    let state = g.R.RowSource.state in
    let inv = c.loop-arrival.invariant in
    record {
      used = used_twice inv.used c.classify_arrival.ensures.source;
      calm = c.in_ok-classify_arrival.ensures.no_fault ∙ inv.calm;
      left = g.met.R.RowSource.both_left c.args.source.now c.loop-arrival.source c.classify_arrival.new.source inv.left c.classify_arrival.ensures.left;
      classified = λ items tells.
          let arrivals = c.args.batch.now.arrivals in
          let i = c.loop-arrival.arrival-index in
          let within : i < length arrivals = subst (λ (l : List Arrival). i < length l) c.as_slice-arrival-items.ensures c.loop-arrival-test.true in
          let is = subst (λ (l : List Arrival). c.arrival-item.result ≡ get_or l i c.arrival-item.result) c.as_slice-arrival-items.ensures c.arrival-item.is in
          let later = tells_later (state c.args.source.now) items c.args.known tells (state c.loop-arrival.source) inv.used in
          subst (λ (l : List Row). IsClassified items l c.classify_arrival.new.classified) (sym (flat_more arrival_rows arrivals i c.arrival-item.result within is))
          (c.in_ok-classify_arrival.ensures.classified items (flat_map arrival_rows (take i arrivals)) later (inv.classified items tells));
      last = c.in_ok-classify_arrival.ensures.last;
    }

pub returns-in_err-classify_arrival-clause-refused : goal.returns-in_err-classify_arrival-clause-refused
returns-in_err-classify_arrival-clause-refused g c =
    let fault = c.in_err-classify_arrival.field-0.0 in
    fault_passed c.from_residual-in_err-classify_arrival.result fault (g.R.RowSource.state c.args.source.now) (g.R.RowSource.state c.classify_arrival.new.source) c.from_residual-in_err-classify_arrival.ensures.1
    (fault_before c.loop-arrival.invariant.used c.loop-arrival.invariant.calm (g.R.RowSource.state c.classify_arrival.new.source) fault c.in_err-classify_arrival.ensures.refused)
