use Rattle.std.proofs.Common.{◌≡◌, ◌==◌, ◌++◌, ℤ, List, true, false, take, sym, ◌∙◌, ap, w64, SFits, rules, arith}
use Rattle.std.proofs.lemmas.Bool.Decides.{nat_tests}
use Rattle.std.proofs.lemmas.Int.{to_z-of_z}
use Rattle.std.proofs.lemmas.List.{append-nil}
use Rattle.histogram.specs.declared.histogram.NamedTime.{NamedTime}
use Rattle.histogram.specs.Times.{spans_of, spans_of_times, times_of}
use Rattle.yarch_table.specs.Stored.{rows_of}
use Rattle.archive_history.specs.PartitionedTable.{named_times_of}
use Rattle.archive_history.proofs.Partitioned.{times_with_more}
use Rattle.archive_history.proofs.partitioned_table.histogram_of_name.Goals as goal
use Rattle.archive_history.proofs.partitioned_table.histogram_of_name.Goals.{then-kept-pname+in_ok-reserve, else-kept-pname}

pub loop-kept-init : goal.loop-kept-init
loop-kept-init c past is =
    c.in_ok-histogram.ensures.same ∙ is c.args.pname ∙ ap (λ (l : List NamedTime). spans_of_times (times_of c.args.pname l)) (sym (append-nil past))

pub loop-kept-preserved : goal.loop-kept-preserved
loop-kept-preserved c =
    let stored = c.args.stored.now in
    let pname = c.args.pname in
    let i = c.loop-kept.kept-index in
    let kept = c.kept-item.result in
    elim c.if-kept-pname.branch [
      | then-kept-pname+in_ok-reserve w ↦
          let of : (kept.row.pname == pname) ≡ true = grind (arith, nat_tests, w.if-kept-pname.true) in
          let fits : SFits w64 kept.row.key.time = search rules in
          rw w.histogram-is (λ past is.
          let so_far : List ℤ = times_of pname (past ++ named_times_of (rows_of (take i stored))) in
          let was : spans_of pname w.reserve.new.self ≡ spans_of_times so_far = rw w.in_ok-reserve.ensures.ok (c.loop-kept.invariant past is) in
          let added = simp to_z-of_z at w.add.ensures.added so_far was in
          added ∙ ap spans_of_times (sym (times_with_more pname past stored i kept true c.loop-kept-test.true c.kept-item.is of)))
      | else-kept-pname w ↦
          let of : (kept.row.pname == pname) ≡ false = grind (arith, nat_tests, w.if-kept-pname.false) in
          rw w.histogram-is (λ past is.
          let so_far : List ℤ = times_of pname (past ++ named_times_of (rows_of (take i stored))) in
          c.loop-kept.invariant past is ∙ ap spans_of_times (sym (times_with_more pname past stored i kept false c.loop-kept-test.true c.kept-item.is of ∙ append-nil so_far)))
    ]
