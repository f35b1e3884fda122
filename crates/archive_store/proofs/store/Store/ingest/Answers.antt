use Rattle.std.proofs.Common.{◌≡◌, ◌≢◌, ◌⊎◌, ◌≤◌, ◌++◌, inl, List, [], length, None, Some, refl, sym, ◌∙◌, ap, subst, arith}
use Rattle.arch_disk.specs.Disk.{LeavesOnly}
use Rattle.arch_types.specs.declared.row.Row.{Row}
use Rattle.std.specs.List.{AllByRecursion}
use Rattle.octet_fields.specs.Exact.{IsOctets}
use Rattle.refusals.specs.Refusal.{refusal_of_rows}
use Rattle.field_codec.specs.declared.entry.Entry.TheVariants as entries
use Rattle.history_items.specs.Fills.{pending_fault_of}
use Rattle.history_items.specs.declared.items.Item.{Item}
use Rattle.history_items.specs.Items.{rows_in}
use Rattle.history_items.specs.Outcomes.{fresh_of}
use Rattle.history_items.proofs.Outcomes.{length-outcomes}
use Rattle.archive_store.specs.Batches.{batch_rows}
use Rattle.archive_store.specs.Calls.{IsIngestRefusal, archive_with}
use Rattle.archive_store.specs.Classifying.{IsClassified, TellsItems}
use Rattle.store_fills.specs.LastFills.{fillings_in}
use Rattle.archive_images.specs.Entries.{archive, filled_archive, AreAdmitted}
use Rattle.archive_history.specs.Limits.{IsWithin}
use Rattle.archive_store.specs.Limits.{IsLimit}
use Rattle.archive_store.specs.Replays.{memory_state, rows_below}
use Rattle.archive_store.specs.StoreView.{StoreView, filled_of}
use Rattle.archive_images.specs.Stands.{StandsFilled}
use Rattle.archive_store.proofs.Batching.{admitted}
use Rattle.archive_store.proofs.Calls.{batch_unread, passed_on, rows_refused}
use Rattle.archive_store.proofs.Ingesting.{added, few_fresh, fresh_in, nothing_added, below_none, below_some, no_row}
use Rattle.archive_store.proofs.KeptFills.{unharmed}
use Rattle.archive_store.proofs.store.Store.ingest.Given.{Over}
use Rattle.archive_store.proofs.store.Store.ingest.Goals.{In_ok-classified, Else-len-eq0}
use Rattle.archive_store.proofs.store.Store.ingest.Goals as goal

pub classify-requires : goal.classify-requires
classify-requires g c =
    let few = c.len-known.ensures.within.few in
    omega (arith, few, c.len-known.ensures.rows)

-- the source tells the rows of the history, so the batch is classified by it
module _ (g : Over) (c : In_ok-classified g) where
  abbrev now : StoreView g.row.D.Denot
  now = c.args.self.now

  tells : TellsItems (memory_state c.source-source.result) now.history c.len-known.result
  tells = record { told = ap (λ (l : List Item). Some (rows_below l)) c.source-source.ensures; all = c.len-known.ensures.len ∙ ap (λ (x : StoreView g.row.D.Denot). length x.history) c.self.view_is }

  is_classified : IsClassified now.history (batch_rows c.args.batch.now) c.in_ok-classified.classified
  is_classified = c.in_ok-classified.ensures.classified now.history tells

  healed : pending_fault_of now.fills ≡ None
  healed = subst (λ (x : StoreView g.row.D.Denot). pending_fault_of x.fills ≡ None) c.self.view_is (sym c.self.invariant.0.pending_fault_is ∙ c.in-None.is)

-- some rows are new
module _ (g : Over) (c : Else-len-eq0 g) where
  some_new : c.in_ok-classified.classified.fresh ≢ []
  some_new none = absurd (omega (arith, ap length none, c.len.ensures, c.if-len-eq0.false))

pub append-requires-clause-admitted : goal.append-requires-clause-admitted
append-requires-clause-admitted g c =
    let there = (goal.at.append-requires-clause-admitted g c).In_ok-classified in
    let rows = batch_rows c.args.batch.now in
    let now = c.args.self.now in
    let classified = c.in_ok-classified.classified in
    let is = is_classified g there in
    let some : 1 ≤ length (fresh_of now.history rows) = omega (arith, ap length is.fresh, c.len.ensures, c.if-len-eq0.false) in
    let within : IsWithin now.exponent (rows_in now.history ++ fresh_of now.history rows) = subst (λ (l : List Row). IsWithin now.exponent (rows_in now.history ++ l)) (c.as_slice.ensures ∙ is.fresh) c.in_default.ensures.none.0 in
    let octets = subst (AllByRecursion (λ row. IsOctets row.packet)) is.fresh is.octets in
    subst (AreAdmitted (archive now.head now.exponent now.history)) (sym is.fresh)
    (admitted now.head now.exponent now.history c.args.batch.now c.is_kept.ensures.head c.is_kept.ensures.few_names c.requires some within octets)

pub returns-in_err-append-clause-crash : goal.returns-in_err-append-clause-crash
returns-in_err-append-clause-crash g c no_failed_write transparent =
    let there = (goal.at.returns-in_err-append-clause-crash g c).In_ok-classified in
    let rows = batch_rows c.args.batch.now in
    let now = c.args.self.now in
    subst (λ (l : List Item). LeavesOnly g.D.Disk.device now.disk c.append.new.self.disk (λ c'. StandsFilled c' (filled_of now) ⊎ StandsFilled c' (filled_archive now.head now.exponent l (fillings_in now.filled)))) (added now.history rows c.in_ok-classified.classified.fresh (is_classified g there).fresh) (c.append.ensures.crash transparent)

pub returns-clause-crash : goal.returns-clause-crash
returns-clause-crash g c no_failed_write transparent =
    let there = (goal.at.returns-clause-crash g c).In_ok-classified in
    let rows = batch_rows c.args.batch.now in
    let now = c.args.self.now in
    subst (λ (l : List Item). LeavesOnly g.D.Disk.device now.disk c.append.new.self.disk (λ c'. StandsFilled c' (filled_of now) ⊎ StandsFilled c' (filled_archive now.head now.exponent l (fillings_in now.filled)))) (added now.history rows c.in_ok-classified.classified.fresh (is_classified g there).fresh) (c.append.ensures.crash transparent)

pub returns-in_err-classified-clause-crash : goal.returns-in_err-classified-clause-crash
returns-in_err-classified-clause-crash g c no_failed_write transparent =
    let s = c.self.inside in
    unharmed g.D.Disk.device s.disk s.opened.value s.journal s.head s.history.exponent s.history.items s.tracker.fills s.sets.filled s.pending_fault c.self.invariant.0 c.args.self.now c.self.view_is (λ x. archive_with x (batch_rows c.args.batch.now)) c.args.self.now.disk refl no_failed_write transparent

pub returns-then-len-eq0-clause-crash : goal.returns-then-len-eq0-clause-crash
returns-then-len-eq0-clause-crash g c no_failed_write transparent =
    let s = c.self.inside in
    unharmed g.D.Disk.device s.disk s.opened.value s.journal s.head s.history.exponent s.history.items s.tracker.fills s.sets.filled s.pending_fault c.self.invariant.0 c.args.self.now c.self.view_is (λ x. archive_with x (batch_rows c.args.batch.now)) c.args.self.now.disk refl no_failed_write transparent

pub returns-in-Some-limit_passed-clause-crash : goal.returns-in-Some-limit_passed-clause-crash
returns-in-Some-limit_passed-clause-crash g c no_failed_write transparent =
    let s = c.self.inside in
    unharmed g.D.Disk.device s.disk s.opened.value s.journal s.head s.history.exponent s.history.items s.tracker.fills s.sets.filled s.pending_fault c.self.invariant.0 c.args.self.now c.self.view_is (λ x. archive_with x (batch_rows c.args.batch.now)) c.args.self.now.disk refl no_failed_write transparent

pub returns-in_err-classified-clause-refused : goal.returns-in_err-classified-clause-refused
returns-in_err-classified-clause-refused g c =
    let now = c.args.self.now in
    let healed = subst (λ (x : StoreView g.row.D.Denot). pending_fault_of x.fills ≡ None) c.self.view_is (sym c.self.invariant.0.pending_fault_is ∙ c.in-None.is) in
    let fault = c.in_err-classified.field-0.0 in
    passed_on c.from_residual.result (refusal_of_rows fault) (IsIngestRefusal g.D.Disk.device now now (batch_rows c.args.batch.now)) c.from_residual.ensures.1
    (batch_unread g.D.Disk.device now (batch_rows c.args.batch.now) c.source-source.result c.classify.new.source fault healed c.in_err-classified.ensures.refused)

pub returns-then-len-eq0-clause-ingested : goal.returns-then-len-eq0-clause-ingested
returns-then-len-eq0-clause-ingested g c =
    let at = (goal.at.returns-then-len-eq0-clause-ingested g c).In_ok-classified in
    let rows = batch_rows c.args.batch.now in
    let now = c.args.self.now in
    let fresh = c.in_ok-classified.classified.fresh in
    let is = is_classified g at in
    let zero : length fresh ≡ 0 = omega (arith, c.len.ensures, c.if-len-eq0.true) in
    record {
      healed = healed g at;
      fresh = fresh;
      of_batch = fresh_in now.history rows fresh is.fresh;
      few = few_fresh now.history rows fresh is.fresh;
      told = λ _. record { fresh_is = is.fresh; below = below_none now.exponent now.records now.history rows fresh is.fresh zero c.is_kept.ensures.history.1 };
      each = ap length is.outcomes ∙ length-outcomes now.history rows;
      outcomes_are = λ _. is.outcomes;
      history = nothing_added now.history rows fresh is.fresh zero ∙ sym (added now.history rows fresh is.fresh);
      fills = refl;
      filled = refl;
      one_record = λ some. absurd (some (no_row fresh zero));
      no_write = λ _. inl refl;
      no_failed_write = refl;
      no_fault = refl;
    }

pub returns-in-Some-limit_passed-clause-refused : goal.returns-in-Some-limit_passed-clause-refused
returns-in-Some-limit_passed-clause-refused g c =
    let branch = (goal.at.returns-in-Some-limit_passed-clause-refused g c).Else-len-eq0 in
    let there = (goal.at.returns-in-Some-limit_passed-clause-refused g c).In_ok-classified in
    let rows = batch_rows c.args.batch.now in
    let now = c.args.self.now in
    let which = c.in-Some-limit_passed.which in
    let is = is_classified g there in (
      healed g there,
      λ _. record {
        some_new = λ none. some_new g branch (is.fresh ∙ none);
        number_is = c.limit.ensures;
        first = subst (IsLimit now.exponent which now.records) (added now.history rows c.as_slice.result.now (c.as_slice.ensures ∙ is.fresh)) c.in-Some-limit_passed.ensures.first;
      },
      inl refl,
    )

pub returns-in_err-append-clause-refused : goal.returns-in_err-append-clause-refused
returns-in_err-append-clause-refused g c =
    let branch = (goal.at.returns-in_err-append-clause-refused g c).Else-len-eq0 in
    let there = (goal.at.returns-in_err-append-clause-refused g c).In_ok-classified in
    let device = g.D.Disk.device in
    let rows = batch_rows c.args.batch.now in
    let now = c.args.self.now in
    let none = c.in_default.ensures.none in
    let is = is_classified g there in
    let below = below_some now.exponent now.records now.history rows c.as_slice.result.now (c.as_slice.ensures ∙ is.fresh) none.0 none.1 in
    passed_on c.from_residual-in_err-append.result c.in_err-append.field-0.0 (IsIngestRefusal device now c.append.new.self rows) c.from_residual-in_err-append.ensures.1
    (rows_refused device now c.append.new.self rows c.in_ok-classified.classified.fresh c.in_err-append.field-0.0 is.fresh (healed g there) (λ none. some_new g branch (is.fresh ∙ none)) below c.in_err-append.ensures.refused)

pub returns-clause-ingested : goal.returns-clause-ingested
returns-clause-ingested g c =
    let branch = (goal.at.returns-clause-ingested g c).Else-len-eq0 in
    let there = (goal.at.returns-clause-ingested g c).In_ok-classified in
    let rows = batch_rows c.args.batch.now in
    let now = c.args.self.now in
    let none = c.in_default.ensures.none in
    let is = is_classified g there in
    let appended = c.in_ok-append.ensures.appended in
    record {
      healed = healed g there;
      fresh = c.in_ok-classified.classified.fresh;
      of_batch = fresh_in now.history rows c.in_ok-classified.classified.fresh is.fresh;
      few = few_fresh now.history rows c.in_ok-classified.classified.fresh is.fresh;
      told = λ _. record { fresh_is = is.fresh; below = below_some now.exponent now.records now.history rows c.as_slice.result.now (c.as_slice.ensures ∙ is.fresh) none.0 none.1 };
      each = ap length is.outcomes ∙ length-outcomes now.history rows;
      outcomes_are = λ _. is.outcomes;
      history = appended.history;
      fills = appended.fills;
      filled = appended.filled;
      one_record = λ some. appended.records;
      no_write = λ nothing. absurd (some_new g branch nothing);
      no_failed_write = appended.no_failed_write;
      no_fault = appended.no_fault;
    }
