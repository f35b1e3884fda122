-- The fills that came in a session, and a fault that did.
use Rattle.std.proofs.Common.{◌≡◌, ◌⊎◌, inl, inr, ℕ, zero, suc, ◌≤◌, List, [], ◌∷◌, ◌++◌, length, take, Bool, true, false, Contains, Option, Some, None, Result, Ok, refl, sym, ap, ◌∙◌, subst, arith}
use Rattle.std.specs.Prelude.{slice_get, IfNone}
use Rattle.std.specs.List.{AllByRecursion}
use Rattle.std.specs.Result.{result_err}
use mathlib.Core.List.{IsPrefix}
use Rattle.arch_disk.specs.Disk.{Device}
use Rattle.arch_types.specs.declared.row.Row.{Row}
use Rattle.arch_types.specs.Dump.{IsDump}
use Rattle.outer_traits.specs.States.{SourceState}
use Rattle.intervals.specs.declared.interval.Interval.{Interval}
use Rattle.refusals.specs.declared.refusal.Refusal.{Refusal}
use Rattle.refusals.specs.declared.refusal.Refusal.TheVariants.{DiskFault}
use Rattle.refusals.specs.declared.refusal.Which.TheVariants.{DumpOctets}
use Rattle.refusals.specs.Limits.{limit_of}
use Rattle.history_items.specs.declared.fills.Addition.{Addition}
use Rattle.history_items.specs.declared.fills.Addition.TheVariants.{Nothing, Rows}
use Rattle.history_items.specs.declared.fills.Fill.{Fill}
use Rattle.history_items.specs.declared.fills.Fill.TheVariants.{Done, Fault}
use Rattle.history_items.specs.declared.items.Item.{Item}
use Rattle.store_fills.specs.Faults.{is_fault}
use Rattle.turn_cell.specs.Pass.{PassView}
use Rattle.archive_store.specs.Pages.{TellsRows}
use Rattle.archive_store.specs.StoreView.{StoreView}
use Rattle.live_archive.specs.declared.held.HeldStore.{HeldStore}
use Rattle.live_archive.proofs.Going.{goes_settled, prefix_trans}
use Rattle.live_fills.specs.Filler.{AreWorksDone, FillsAlone, IsFillNote, IsNoBatchFault, IsOfFill}
use Rattle.live_fills.specs.Laws.{WereLate}
use Rattle.live_fills.specs.LiveTarget.{WasLate}
use Rattle.live_fills.proofs.Calm.{IsCalmAt, works_note_no_fault}
use Rattle.live_fills.proofs.Late.{settling_adds_none}
use Rattle.live_fills.proofs.Notes.{note_stays}
use Rattle.load_session.specs.declared.session.DumpSummary.{DumpSummary}
use Rattle.load_session.specs.Receiving.{Receiving}
use Rattle.load_session.specs.Session.{IsBetweenBatches, SessionResult, next_fresh_rows}
use Rattle.load_jobs.specs.declared.ending.LinkEnd.{LinkEnd}
use Rattle.load_jobs.specs.declared.ending.LinkEnd.TheVariants.{Whole, Rest, Unread, TooLong, Refused}
use Rattle.load_jobs.specs.Ends.{IsEndOf, IsLinkRun, refusal_of_end}
use Rattle.load_jobs.specs.Reading.{IsReadOf}
use Rattle.load_jobs.proofs.Pieces.{read_of_end}
use Rattle.load_jobs.specs.Links.{FailedAt, HasNoted}
use Rattle.live_archive.specs.Reads.{IsReadFaultAt}
use Rattle.live_asks.specs.LiveAsks.{OnlySees}
use Rattle.live_session.specs.declared.order.JobEnd.{JobEnd}
use Rattle.live_session.specs.declared.order.JobEnd.TheVariants as Ended
use Rattle.live_session.specs.declared.order.Order.{Order}
use Rattle.live_session.specs.declared.order.Order.TheVariants as Ordered
use Rattle.live_session.specs.Jobs.{AreOutcomesOf, IsOutcomeOf, JobPass, JobSetting, received_by}
use Rattle.live_session.specs.Session.{BeganWith, EndedWithin, IsSessionOver}
use Rattle.live_session.proofs.Lists.{below, same_at, stands_on}
use Rattle.live_session.proofs.Works.{none_there}

-- a fill stands at the place
abbrev IsDoneAt : List Fill → ℕ → Interval → ℕ → Type 0
IsDoneAt fills place interval base = slice_get fills place ≡ Some (Done interval base)

only_one : (x : ℕ) (place : ℕ) → Contains (x ∷ []) place → place ≡ x
only_one x place (zero, low, e) = sym e
only_one x place (suc k, low, e) = absurd (omega (arith, low))

-- ---- what a link notes

-- the fault of the batch in hand of a dump, over the history that was seen, as far as that is told
pub record IsBatchOf (told : Type 0) (r : Receiving) (left : Option (List ℕ)) (seen : List Item) (item : Fill) : Type 0 where
  pub read : List ℕ
  pub read_of : IsReadOf left read
  pub short : length read ≤ limit_of DumpOctets
  pub came_to : SessionResult
  pub parts : IsDump read came_to.packets came_to.rest
  pub within : came_to.place ≤ length came_to.packets
  pub between : IsBetweenBatches came_to.place came_to.packets
  pub reached : came_to.reached ≡ seen
  pub count : ℕ
  pub rows : List Row
  pub is : item ≡ Fault count true (Rows rows)
  pub known : told → rows ≡ next_fresh_rows r came_to

module _ {D T : Type 0} (device : Device D) (first : StoreView D) (r : Receiving) (left : Option (List ℕ)) (old new : PassView Item Fill T) (fills : List Fill) (place : ℕ) (item : Fill) (later : IsPrefix new.fills.seen fills) (none : old.fills.places ≡ [])
    (has : Contains new.fills.places place) (there : slice_get fills place ≡ Some item) where
  -- where it noted nothing, there is no such place
  nothing_noted : new.fills.places ≡ old.fills.places → ⊥
  nothing_noted noted = none_there new.fills.places place (noted ∙ none) has

  -- where the disk failed, the item is the fault of the batch in hand, or of a read
  abbrev IsBatchItem : SessionResult → Type 0
  IsBatchItem s = (count : ℕ) × (rows : List Row) × (item ≡ Fault count true (Rows rows)) × (TellsRows device first → rows ≡ next_fresh_rows r s)

  abbrev IsReadItem : Type 0
  IsReadItem = (count : ℕ) × (item ≡ Fault count false Nothing)

  noted_item : (s : SessionResult) (refusal : Option Refusal) → HasNoted device first r s old new refusal → (refusal ≡ Some DiskFault) × (IsBatchItem s ⊎ IsReadItem)
  noted_item s None noted = absurd (nothing_noted noted)
  noted_item s (Some DiskFault) noted =
      let one = only_one noted.0 place (subst (λ (l : List ℕ). Contains l place) (noted.1 ∙ ap (λ (l : List ℕ). l ++ noted.0 ∷ []) none) has) in
      (refl, go (subst (λ (n : ℕ). slice_get fills n ≡ Some item) one there) noted.2)
    where
      same : (fault : Fill) → slice_get fills noted.0 ≡ Some item → slice_get new.fills.seen noted.0 ≡ Some fault → item ≡ fault
      same fault here at = same_at fills noted.0 fault item (stands_on new.fills.seen fills noted.0 fault later at) here

      go : slice_get fills noted.0 ≡ Some item → FailedAt device first r s new.fills.seen noted.0 → IsBatchItem s ⊎ IsReadItem
      go here (inl (count, rows, at, known)) = inl (count, rows, same (Fault count true (Rows rows)) here at, known)
      go here (inr (paged, (count, at))) = inr (count, same (Fault count false Nothing) here at)
  noted_item s (Some other) noted = absurd (nothing_noted noted)

  -- a link at whose sending the disk failed is refused by that
  fault_end : (answer : Result DumpSummary Refusal) (end : LinkEnd) → IsEndOf answer end → result_err answer ≡ Some DiskFault → refusal_of_end end ≡ Some DiskFault
  fault_end answer (Whole summary) ended is = absurd (let e : result_err (Ok summary) ≡ Some DiskFault = ap result_err (sym ended.0) ∙ is in cc e)
  fault_end answer (Rest at kind) ended is = absurd (let e : result_err (Ok ended.0) ≡ Some DiskFault = ap result_err (sym ended.1) ∙ is in cc e)
  fault_end answer (Unread None) ended is = absurd (let e : ◌≡◌ {A = Option Refusal} None (Some DiskFault) = ended ∙ is in cc e)
  fault_end answer (Unread (Some refusal)) ended is = ended ∙ is
  fault_end answer TooLong ended is = absurd (let e : result_err (Ok ended.0) ≡ Some DiskFault = ap result_err (sym ended.1) ∙ is in cc e)
  fault_end answer (Refused refusal) ended is = ap result_err (sym ended) ∙ is

  module _ (end : LinkEnd) where
    pub link_batch : {left' : Option (List ℕ)} → IsLinkRun device first r left left' old new end → IsBatchOf (TellsRows device first) r left new.history.seen item ⊎ IsReadItem
    link_batch run = go (noted_item s s.refusal run.sent.noted).1
      where
        s : SessionResult
        s = run.sent.came_to

        go : IsBatchItem s ⊎ IsReadItem → IsBatchOf (TellsRows device first) r left new.history.seen item ⊎ IsReadItem
        go (inr read) = inr read
        go (inl (count, rows, is, known)) = inl (record {
          read = run.read;
          read_of = read_of_end left run.read end run.read_to;
          short = run.short;
          came_to = s;
          parts = run.sent.parts;
          within = run.sent.within;
          between = run.sent.between;
          reached = run.sent.reached;
          count = count;
          rows = rows;
          is = is;
          known = known;
        })

    -- it is refused by that fault then
    pub link_faulted : {left' : Option (List ℕ)} → IsLinkRun device first r left left' old new end → refusal_of_end end ≡ Some DiskFault
    link_faulted run =
        let s = run.sent.came_to in
        fault_end run.answer end run.ended (sym run.sent.answer_is ∙ (noted_item s s.refusal run.sent.noted).0)

    pub link_refused : {left' : Option (List ℕ)} → IsLinkRun device first r left left' old new end → refusal_of_end end ≡ None → ⊥
    link_refused run calm = let none : ◌≡◌ {A = Option Refusal} None (Some DiskFault) = sym calm ∙ link_faulted run in absurd (cc none)

-- what holds of each item of a list holds of one of them
member : {X : Type 0} (P : X → Type 0) (xs : List X) (x : X) → AllByRecursion P xs → Contains xs x → P x
member P [] x all (i, low, is) = absurd (omega (arith, low))
member P (y ∷ ys) x all (zero, low, is) = subst P is all.0
member P (y ∷ ys) x all (suc i, low, is) = member P ys x all.1 (i, omega (arith, low), is)

-- what a reader noted is the fault of a read
pub reader_noted : {T : Type 0} (sealed : ℕ) (old new : PassView Item Fill T) (fills : List Fill) (place : ℕ) (item : Fill) → OnlySees sealed old new → old.fills.places ≡ [] → IsPrefix new.fills.seen fills
    → Contains new.fills.places place → slice_get fills place ≡ Some item → (count : ℕ) × (item ≡ Fault count false Nothing)
reader_noted sealed old new fills place item sees none later has there =
    let notes = sees.notes in
    let own = subst (λ (l : List ℕ). Contains l place) (notes.noted ∙ ap (λ (l : List ℕ). l ++ notes.places) none) has in
    let at = member (IsReadFaultAt new.fills.seen) notes.places place notes.each own in
    (at.0, same_at fills place (Fault at.0 false Nothing) item (stands_on new.fills.seen fills place (Fault at.0 false Nothing) later at.1) there)

-- of what is old or a note, and where nothing is old
is_note : {D T : Type 0} (first : StoreView D) (old new : PassView Item Fill T) (place : ℕ) → old.fills.places ≡ [] → Contains old.fills.places place ⊎ IsFillNote first new.history.seen new.fills.seen place
    → IsFillNote first new.history.seen new.fills.seen place
is_note first old new place none (inl before) = absurd (none_there old.fills.places place none before)
is_note first old new place none (inr note) = note

-- ---- jobs

-- the refusal of a job
abbrev pub refusal_of_job : {S : Type 0} → JobEnd S → Option Refusal
refusal_of_job (Ended.Link number back end) = refusal_of_end end
refusal_of_job (Ended.Reader answers refusal) = refusal
refusal_of_job (Ended.Filler refusal) = refusal

module _ {D S : Type 0} (device : Device D) (state : S → SourceState) (first : StoreView D) (g : JobSetting) where
  -- a fill at a place of a job's pass is a filler's
  of_filler : (p : JobPass (HeldStore D)) (order : Order S) (end : JobEnd S) (fills : List Fill) (place : ℕ) (interval : Interval) (base : ℕ) → p.began.fills.places ≡ []
      → IsPrefix p.ended.fills.seen fills → IsOutcomeOf device state first g p order end → Contains p.ended.fills.places place → IsDoneAt fills place interval base
      → IsFillNote first p.ended.history.seen p.ended.fills.seen place
  of_filler p (Ordered.Link link source wake) (Ended.Link number back end) fills place interval base none later came has there =
      absurd (go (link_batch device first (received_by g link p.began) (state source).left p.began p.ended fills place (Done interval base) later none has there end came.0))
    where
      go : IsBatchOf (TellsRows device first) (received_by g link p.began) (state source).left p.ended.history.seen (Done interval base) ⊎ ((count : ℕ) × (Done interval base ≡ Fault count false Nothing)) → ⊥
      go (inl batch) = let is = batch.is in cc is
      go (inr (count, is)) = cc is
  of_filler p (Ordered.Reader before) (Ended.Reader answers refusal) fills place interval base none later came has there =
      absurd (let is = (reader_noted first.sealed p.began p.ended fills place (Done interval base) came.0 none later has there).1 in cc is)
  of_filler p (Ordered.Filler wakes) (Ended.Filler refusal) fills place interval base none later came has there = is_note first p.began p.ended place none (came.0.noted place has)
  of_filler p order end fills place interval base none later came has there = absurd came

  -- the job that a pass is of
  pub record IsJobOf (history : List Item) (last : List Fill) (orders : List (Order S)) (ends : List (JobEnd S)) (p : JobPass (HeldStore D)) : Type 0 where
    pub number : ℕ
    pub order : Order S
    pub end : JobEnd S
    pub ordered : slice_get orders number ≡ Some order
    pub ended : slice_get ends number ≡ Some end
    pub came : IsOutcomeOf device state first g p order end
    pub began : BeganWith first p
    pub within : EndedWithin history last p

  pub of_pass : (history : List Item) (last : List Fill) (passes : List (JobPass (HeldStore D))) (orders : List (Order S)) (ends : List (JobEnd S)) → AreOutcomesOf device state first g passes orders ends
      → AllByRecursion (BeganWith first) passes → AllByRecursion (EndedWithin history last) passes → (q : JobPass (HeldStore D)) → Contains passes q → IsJobOf history last orders ends q
  of_pass history last [] orders ends each began within q (k, low, e) = absurd (omega (arith, low))
  of_pass history last (p ∷ passes) [] ends each began within q inside = absurd each
  of_pass history last (p ∷ passes) (order ∷ orders) [] each began within q inside = absurd each
  of_pass history last (p ∷ passes) (order ∷ orders) (end ∷ ends) each began within q (zero, low, e) =
      subst (IsJobOf history last (order ∷ orders) (end ∷ ends)) e (record { number = 0; order = order; end = end; ordered = refl; ended = refl; came = each.0; began = began.0; within = within.0 })
  of_pass history last (p ∷ passes) (order ∷ orders) (end ∷ ends) each began within q (suc k, low, e) =
      let job = of_pass history last passes orders ends each.1 began.1 within.1 q (k, omega (arith, low), e) in
      record { number = suc job.number; order = job.order; end = job.end; ordered = job.ordered; ended = job.ended; came = job.came; began = job.began; within = job.within }

  -- ---- a fault

  module _ (p : JobPass (HeldStore D)) (history : List Item) (last : List Fill) (began : BeganWith first p) (within : EndedWithin history last p) (place count : ℕ) (wrote : Bool) (addition : Addition) (has : Contains p.ended.fills.places place)
      (there : slice_get last place ≡ Some (Fault count wrote addition)) where
    -- is a refused job's
    pub fault_refuses : (order : Order S) (end : JobEnd S) → IsOutcomeOf device state first g p order end → refusal_of_job end ≡ None → ⊥
    fault_refuses (Ordered.Link link source wake) (Ended.Link number back end) came calm =
        link_refused device first (received_by g link p.began) (state source).left p.began p.ended last place (Fault count wrote addition) within.1 began.none.1 has there end came.0 calm
    fault_refuses (Ordered.Reader before) (Ended.Reader answers refusal) came calm = none_there p.ended.fills.places place (came.3 calm ∙ began.none.1) has
    fault_refuses (Ordered.Filler wakes) (Ended.Filler refusal) came calm = go (works_note_no_fault device first p.began p.ended (subst (λ (o : Option Refusal). IfNone o (AreWorksDone device first p.began p.ended)) calm came.1) place has)
      where
        go : Contains p.began.fills.places place ⊎ IsCalmAt p.ended.fills.seen place → ⊥
        go (inl before) = none_there p.began.fills.places place began.none.1 before
        go (inr (item, at, calm_item)) =
            let same = same_at last place item (Fault count wrote addition) (stands_on p.ended.fills.seen last place item within.1 at) there in
            absurd (let e : is_fault (Fault count wrote addition) ≡ false = ap is_fault same ∙ calm_item in cc e)
    fault_refuses order end came calm = absurd came

  module _ (p : JobPass (HeldStore D)) (history : List Item) (last : List Fill) (began : BeganWith first p) (within : EndedWithin history last p) (place count : ℕ) (addition : Addition) (has : Contains p.ended.fills.places place)
      (there : slice_get last place ≡ Some (Fault count true addition)) where
    -- that of a filler's failed write is that of a fill
    pub filler_fault : FillsAlone first p.began p.ended → IsOfFill addition
    filler_fault alone =
        let note = is_note first p.began p.ended place began.none.1 (alone.noted place has) in
        of_note note.item (same_at last place note.item (Fault count true addition) (stands_on p.ended.fills.seen last place note.item within.1 note.there) there) note.of_fill
      where
        fill_only : IsNoBatchFault first.sealed (Fault count true addition) → IsOfFill addition
        fill_only (inl is) = is
        fill_only (inr (paged, (c, e))) = absurd (cc e)

        of_note : (item : Fill) → Fault count true addition ≡ item → IsNoBatchFault first.sealed item → IsOfFill addition
        of_note item same is = fill_only (subst (IsNoBatchFault first.sealed) (sym same) is)

-- ---- the fills

-- the item of a note is the fill that stands there
late_by : {D : Type 0} (first : StoreView D) (history : List Item) (fills : List Fill) (place : ℕ) (interval : Interval) (base : ℕ) → IsFillNote first history fills place → IsDoneAt fills place interval base
    → WasLate first.exponent first.fills history (take place fills) interval
late_by first history fills place interval base note there = note.late interval base (sym (same_at fills place note.item (Done interval base) note.there there))

module _ {D S : Type 0} (device : Device D) (state : S → SourceState) where
  pub fills_were_late : (first closed : StoreView D) (g : JobSetting) (orders : List (Order S)) (ends : List (JobEnd S)) → IsSessionOver device state first closed g orders ends → WereLate first closed
  fills_were_late first closed g orders ends over place interval base since there =
      let settled : IsPrefix over.last closed.fills = subst (IsPrefix over.last) (sym over.settled) (goes_settled device (record first { fills = over.last })).appends.fills in
      let kept : IsDoneAt over.last place interval base = settling_adds_none over.last place interval base (subst (λ (l : List Fill). IsDoneAt l place interval base) over.settled there) in
      let found = over.fills_placed place since (below over.last place (Done interval base) kept) in
      let pass = found.0 in
      let job = of_pass device state first g closed.history over.last over.passes orders ends over.each over.began over.within pass found.1 in
      let later = prefix_trans pass.ended.fills.seen over.last closed.fills job.within.1 settled in
      let note = of_filler device state first g pass job.order job.end closed.fills place interval base job.began.none.1 later job.came found.2 there in
      late_by first closed.history closed.fills place interval base (note_stays first pass.ended.history.seen closed.history pass.ended.fills.seen closed.fills place job.within.0 later note) there
