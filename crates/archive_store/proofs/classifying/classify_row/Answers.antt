use Rattle.std.proofs.Common.{◌++◌, [], ◌∷◌, List, refl, sym, ◌∙◌, ap, subst}
use Rattle.std.specs.List.{AllByRecursion}
use Rattle.std.proofs.lemmas.List.{append-nil}
use Rattle.block_map.proofs.Rising.{all_append}
use Rattle.octet_fields.specs.Exact.{IsOctets}
use Rattle.arch_types.specs.declared.inserted.Inserted.{Inserted}
use Rattle.arch_types.specs.declared.inserted.Inserted.TheVariants.{New, Duplicate}
use Rattle.arch_types.specs.declared.row.Row.{Row}
use Rattle.arch_types.specs.declared.row_fault.RowFault.TheVariants.{OutOfMemory}
use Rattle.history_items.specs.Items.{items_of}
use Rattle.history_items.specs.Outcomes.{Says, fresh_of}
use Rattle.replay_merge.proofs.Giving.{fault_passed}
use Rattle.archive_store.specs.Batches.{in_table}
use Rattle.archive_store.proofs.Outcomes.{outcomes_more, fresh_more}
use Rattle.archive_store.proofs.Positions.{told_history}
use Rattle.archive_store.proofs.classifying.classify_row.Goals as goal

pub returns-in-Duplicate-clause-classified : goal.returns-in-Duplicate-clause-classified
returns-in-Duplicate-clause-classified g c items rows tells s =
    let old = c.args.classified.now in
    let row : Row = in_table c.args.row.now c.args.table in
    let history = told_history (g.R.RowSource.state c.args.source.now) items c.args.known tells c.in_ok-outcome.ensures.history in
    let says = subst (λ (l : List Row). Says (items ++ items_of l) row (Duplicate c.in-Duplicate.field-0)) s.fresh (subst (Says (items ++ items_of old.fresh) row) c.in-Duplicate.is (c.in_ok-outcome.ensures.says items row tells refl)) in
    let outcomes = outcomes_more items rows row (Duplicate c.in-Duplicate.field-0) history says in
    let fresh = fresh_more items rows row (Duplicate c.in-Duplicate.field-0) history says in
    record {
      outcomes = c.in_ok-push.ensures.ok ∙ ap (λ (o : Inserted). old.outcomes ++ o ∷ []) c.in-Duplicate.is ∙ ap (λ (l : List Inserted). l ++ Duplicate c.in-Duplicate.field-0 ∷ []) s.outcomes ∙ sym outcomes;
      fresh = s.fresh ∙ sym (append-nil (fresh_of items rows)) ∙ sym fresh;
      last = s.last;
      octets = s.octets;
    }

pub returns-in_ok-keep-in-New-clause-classified : goal.returns-in_ok-keep-in-New-clause-classified
returns-in_ok-keep-in-New-clause-classified g c items rows tells s =
    let old = c.args.classified.now in
    let n = c.in-New.field-0 in
    let row : Row = in_table c.args.row.now c.args.table in
    let history = told_history (g.R.RowSource.state c.args.source.now) items c.args.known tells c.in_ok-outcome.ensures.history in
    let says = subst (λ (l : List Row). Says (items ++ items_of l) row (New n)) s.fresh (subst (Says (items ++ items_of old.fresh) row) c.in-New.is (c.in_ok-outcome.ensures.says items row tells refl)) in
    let outcomes = outcomes_more items rows row (New n) history says in
    let fresh = fresh_more items rows row (New n) history says in
    let is = c.in_ok-keep-in-New.ensures.fresh in
    record {
      outcomes = c.keep.ensures.outcomes ∙ c.in_ok-push.ensures.ok ∙ ap (λ (o : Inserted). old.outcomes ++ o ∷ []) c.in-New.is ∙ ap (λ (l : List Inserted). l ++ New n ∷ []) s.outcomes ∙ sym outcomes;
      fresh = is ∙ ap (λ (r : Row). old.fresh ++ r ∷ []) c.in_ok-fresh-in-New.ensures ∙ ap (λ (l : List Row). l ++ row ∷ []) s.fresh ∙ sym fresh;
      last = c.in_ok-keep-in-New.ensures.last;
      octets = subst (AllByRecursion (λ r. IsOctets r.packet)) (sym (is ∙ ap (λ (r : Row). old.fresh ++ r ∷ []) c.in_ok-fresh-in-New.ensures))
          (all_append (λ r. IsOctets r.packet) old.fresh (row ∷ []) s.octets (c.is_octets.ensures, tt));
    }

-- ---- there was no memory, once its place was told

pub returns-in_err-push-clause-refused : goal.returns-in_err-push-clause-refused
returns-in_err-push-clause-refused g c =
    fault_passed c.from_residual-in_err-push.result OutOfMemory (g.R.RowSource.state c.args.source.now) (g.R.RowSource.state c.outcome.new.source) c.from_residual-in_err-push.ensures.1 c.in_ok-outcome.ensures.no_fault

pub returns-in_err-fresh-in-New-clause-refused : goal.returns-in_err-fresh-in-New-clause-refused
returns-in_err-fresh-in-New-clause-refused g c =
    fault_passed c.from_residual-in_err-fresh-in-New.result OutOfMemory (g.R.RowSource.state c.args.source.now) (g.R.RowSource.state c.outcome.new.source) c.from_residual-in_err-fresh-in-New.ensures.1 c.in_ok-outcome.ensures.no_fault

pub returns-in_err-keep-in-New-clause-refused : goal.returns-in_err-keep-in-New-clause-refused
returns-in_err-keep-in-New-clause-refused g c =
    fault_passed c.from_residual-in_err-keep-in-New.result OutOfMemory (g.R.RowSource.state c.args.source.now) (g.R.RowSource.state c.outcome.new.source) c.from_residual-in_err-keep-in-New.ensures.1 c.in_ok-outcome.ensures.no_fault
