-- What the jobs of a load come to.
use Rattle.std.proofs.Common.{◌≡◌, ◌⊎◌, inl, inr, ℕ, suc, ◌+◌, ◌<◌, ◌≤◌, List, [], ◌∷◌, ◌++◌, length, take, drop, min, Bool, true, false, Contains, Option, Some, None, refl, sym, ap, ◌∙◌, subst, append-nil, arith}
use Rattle.std.specs.Prelude.{slice_get, option_map, IfSome, IsSome}
use Rattle.std.specs.List.{AllByRecursion, filter_map}
use Rattle.std.proofs.Math.Seq.{drop-append_seam}
use Rattle.std.proofs.lemmas.List.{length-map}
use Rattle.std.proofs.lemmas.Option.{slice_get-map}
use mathlib.Core.List.{IsPrefix}
use Rattle.arch_disk.specs.Disk.{Device}
use Rattle.arch_types.specs.declared.row.Row.{Row}
use Rattle.arch_types.specs.History.{IsHistory}
use Rattle.outer_traits.specs.States.{SourceState}
use Rattle.refusals.specs.declared.refusal.Refusal.{Refusal}
use Rattle.refusals.specs.declared.refusal.Refusal.TheVariants.{DiskFault}
use Rattle.history_items.specs.declared.fills.Addition.{Addition}
use Rattle.history_items.specs.declared.fills.Addition.TheVariants as additions
use Rattle.history_items.specs.declared.fills.Addition.TheVariants.{Rows}
use Rattle.history_items.specs.declared.fills.Fill.{Fill}
use Rattle.history_items.specs.declared.fills.Fill.TheVariants.{Fault}
use Rattle.history_items.specs.declared.items.Item.{Item}
use Rattle.history_items.specs.declared.items.Item.TheVariants as items
use Rattle.history_items.specs.Items.{after_rows, items_of, row_item, rows_in}
use Rattle.history_items.specs.Outcomes.{fresh_of}
use Rattle.shared_history.specs.Turns.{ArePlaced, HasPut, LinkWork}
use Rattle.shared_history.proofs.Own.{each_row_is_of_a_link, get_drop, rows_of_a_link}
use Rattle.shared_history.proofs.Sending.{fresh_stays}
use Rattle.store_fills.specs.Faults.{IsDone, faults_in}
use Rattle.store_fills.proofs.Faults.{faults_in-done}
use Rattle.archive_store.specs.Pages.{TellsRows}
use Rattle.archive_store.specs.StoreView.{StoreView, filled_of}
use Rattle.live_archive.specs.declared.held.HeldStore.{HeldStore}
use Rattle.live_archive.specs.GoesOn.{AreNewTo}
use Rattle.live_fills.specs.Filler.{IsOfFill}
use Rattle.load_session.specs.Receiving.{receiving}
use Rattle.load_session.specs.Session.{SessionResult, next_rows}
use Rattle.load_jobs.specs.declared.ending.LinkEnd.{LinkEnd}
use Rattle.load_jobs.specs.Ends.{refusal_of_end}
use Rattle.live_asks.specs.declared.answered.AskAnswer.{AskAnswer}
use Rattle.live_asks.specs.LiveAsks.{AreAnswered, DiskFacts, disk_facts, every_fourth}
use Rattle.live_session.specs.declared.order.JobEnd.{JobEnd}
use Rattle.live_session.specs.declared.order.JobEnd.TheVariants as Ended
use Rattle.live_session.specs.declared.order.Order.{Order}
use Rattle.live_session.specs.declared.order.Order.TheVariants as Ordered
use Rattle.live_session.specs.Interleaving.{AreEveryFourth, HaveAnswersFor, answers_at}
use Rattle.live_session.specs.Jobs.{IsOutcomeOf, JobPass, JobSetting, received_by}
use Rattle.live_session.specs.Links.{IsBatchInHand}
use Rattle.live_session.specs.Orders.{AreOrdersFor}
use Rattle.live_session.specs.declared.reported.ReportedRefusal.{ReportedRefusal}
use Rattle.live_session.specs.Outcome.{HasFailed, HasLoaded, IsFailedAddition, IsFillerCause, IsJobsOutcome, IsReaderCause, IsSeenIn, JobsOutcome, lefts_of, reported_of, reported_of_link, reported_of_others}
use Rattle.live_session.specs.Results.{answers_in, end_in, other_in}
use Rattle.live_session.specs.Session.{BeganWith, EndedWithin, IsSessionOver}
use Rattle.live_session.proofs.Answered.{all_answered, have_as_many}
use Rattle.live_session.proofs.Failing.{failed_addition, fault_counted, fault_there, of_fault, of_pending, pending_in, read_there, settled_on}
use Rattle.live_session.proofs.Filled.{IsBatchOf, IsJobOf, fault_refuses, filler_fault, fills_were_late, link_batch, link_faulted, of_pass, reader_noted, refusal_of_job}
use Rattle.live_session.proofs.ByKind.{AreEnds, ends_of_load}
use Rattle.live_session.proofs.Lists.{all_at, below, contains_at}
use Rattle.live_session.proofs.Loads.{each_comes}
use Rattle.live_session.proofs.Ordered.{link_there, links_apart}
use Rattle.live_session.proofs.Works.{IsLinkOf, all_put, placed_by, work_is_of_link, works_differ, works_of}

-- ---- rows that came

-- items that are rows, of each of which this is so
rows_all : (P : Row → Type 0) (xs : List Item) → ((i : ℕ) (item : Item) → slice_get xs i ≡ Some item → (row : Row) × (item ≡ row_item row) × P row) → (xs ≡ items_of (rows_in xs)) × AllByRecursion P (rows_in xs)
rows_all P [] each = (refl, tt)
rows_all P (items.Mdb database ∷ xs) each = let is = (each 0 (items.Mdb database) refl).1 in absurd (cc is)
rows_all P (items.Row row ∷ xs) each =
    let here = each 0 (items.Row row) refl in
    let is = here.1 in
    let same : here.0 ≡ row = cc is in
    let rest = rows_all P xs (λ i item at. each (suc i) item at) in
    (ap (λ (l : List Item). items.Row row ∷ l) rest.0, (subst P same here.2, rest.1))

-- ---- what is reported

others_unrefused : (others : List (Option Refusal)) → reported_of_others others ≡ None → AllByRecursion (λ refusal. refusal ≡ None) others
others_unrefused [] none = tt
others_unrefused (None ∷ others) none = (refl, others_unrefused others none)
others_unrefused (Some refusal ∷ others) none = absurd (cc none)

-- nothing is reported where no job was refused
pub unrefused : (link : ℕ) (ends : List LinkEnd) (others : List (Option Refusal)) → reported_of link ends others ≡ None
    → AllByRecursion (λ end. refusal_of_end end ≡ None) ends × AllByRecursion (λ refusal. refusal ≡ None) others
unrefused link [] others none = (tt, others_unrefused others none)
unrefused link (end ∷ ends) others none = go (refusal_of_end end) refl (λ later. unrefused (suc link) ends others later) none
  where
    go : (o : Option Refusal) → refusal_of_end end ≡ o
        → (reported_of (suc link) ends others ≡ None → AllByRecursion (λ end. refusal_of_end end ≡ None) ends × AllByRecursion (λ refusal. refusal ≡ None) others) → reported_of_link link end o (reported_of (suc link) ends others) ≡ None
        → AllByRecursion (λ end. refusal_of_end end ≡ None) (end ∷ ends) × AllByRecursion (λ refusal. refusal ≡ None) others
    go None is later none = let rest = later none in ((is, rest.0), rest.1)
    go (Some refusal) is later none = absurd (cc none)

-- what is known of each refusal is of the one that is reported
others_reported : (P : Refusal → Type 0) (others : List (Option Refusal)) → AllByRecursion (λ refusal. IfSome refusal P) others → IfSome (reported_of_others others) (λ t. P t.refusal)
others_reported P [] all = tt
others_reported P (None ∷ others) all = others_reported P others all.1
others_reported P (Some refusal ∷ others) all = all.0

reported_known : (P : Refusal → Type 0) (link : ℕ) (ends : List LinkEnd) (others : List (Option Refusal)) → AllByRecursion (λ end. IfSome (refusal_of_end end) P) ends → AllByRecursion (λ refusal. IfSome refusal P) others
    → IfSome (reported_of link ends others) (λ t. P t.refusal)
reported_known P link [] others all more = others_reported P others more
reported_known P link (end ∷ ends) others all more = go (refusal_of_end end) all.0 (reported_known P (suc link) ends others all.1 more)
  where
    go : (o : Option Refusal) → IfSome o P → IfSome (reported_of (suc link) ends others) (λ t. P t.refusal) → IfSome (reported_of_link link end o (reported_of (suc link) ends others)) (λ t. P t.refusal)
    go None p rest = rest
    go (Some refusal) p rest = p

-- of each job, by its parts
jobs_unrefused : {S : Type 0} (ends : List (JobEnd S)) → AllByRecursion (λ end. refusal_of_end end ≡ None) (filter_map end_in ends) → AllByRecursion (λ refusal. refusal ≡ None) (filter_map other_in ends)
    → AllByRecursion (λ end. refusal_of_job end ≡ None) ends
jobs_unrefused [] links others = tt
jobs_unrefused (Ended.Link number back end ∷ ends) links others = (links.0, jobs_unrefused ends links.1 others)
jobs_unrefused (Ended.Reader answers refusal ∷ ends) links others = (others.0, jobs_unrefused ends links others.1)
jobs_unrefused (Ended.Filler refusal ∷ ends) links others = (others.0, jobs_unrefused ends links others.1)

-- ---- a write that failed

of_fill_failed : (facts : DiskFacts) (low reached : List Item) (g : JobSetting) (link : ℕ) (lefts : List (Option (List ℕ))) (ends : List LinkEnd) (addition : Addition) → IsOfFill addition → IsFailedAddition facts low reached g link lefts ends addition
of_fill_failed facts low reached g link lefts ends (Rows rows) is = absurd is
of_fill_failed facts low reached g link lefts ends additions.Nothing is = is
of_fill_failed facts low reached g link lefts ends (additions.Fill interval base) is = is

module _ {D S : Type 0} (device : Device D) (state : S → SourceState) (first closed : StoreView D) (g : JobSetting) (orders : List (Order S)) (ends : List (JobEnd S)) (over : IsSessionOver device state first closed g orders ends)
    (link : ℕ) (sources : List S) (readers fillers : ℕ) (are : AreOrdersFor link sources readers fillers orders) (done : AllByRecursion IsDone first.fills) (is_history : IsHistory (rows_in closed.history)) where
  none_failed : faults_in first.fills ≡ []
  none_failed = faults_in-done first.fills done

  on : IsPrefix over.last closed.fills
  on = settled_on device first closed over.last none_failed over.goes over.settled

  -- what a failed write was to add, and whether a read failed
  pub what_failed : (failed : Option Addition) × (unread : Bool) × HasFailed device first closed failed unread
  what_failed = failed_addition device first closed over.last none_failed over.goes over.settled

  abbrev works : List LinkWork
  works = works_of device state first g over.passes orders ends over.each

  put_all : AllByRecursion (HasPut (length first.history) closed.history) works
  put_all = all_put device state first g closed.history over.last over.passes orders ends over.each over.began over.within

  placed_all : ArePlaced (length first.history) closed.history works
  placed_all place low high = let p = over.placed place low high in placed_by device state first g over.passes orders ends over.each over.began p.0 p.1 place p.2

  -- ---- the rows

  abbrev OfLinks : Row → Type 0
  OfLinks row = (link ≤ row.link) × (row.link < link + length (lefts_of state sources))

  of_order : (number : ℕ) (order : Order S) → Contains orders order → IsLinkOf number order → (link ≤ number) × (number < link + length (lefts_of state sources))
  of_order number order inside is =
      let at = contains_at orders order inside in
      let there = link_there link sources readers fillers orders are at.0 number order at.1 is in
      let low = below sources at.0 there.source there.there in
      let many = length-map sources (λ (source : S). (state source).left) in
      let numbered = there.number_is in
      (omega (arith, numbered), omega (arith, numbered, low, many))

  came_row : (i : ℕ) (item : Item) → slice_get (drop (length first.history) closed.history) i ≡ Some item → (row : Row) × (item ≡ row_item row) × OfLinks row
  came_row i item at =
      let found = each_row_is_of_a_link (length first.history) closed.history works put_all placed_all (length first.history + i) item (omega arith) (sym (get_drop (length first.history) closed.history i) ∙ at) in
      let order = work_is_of_link device state first g over.passes orders ends over.each found.0 found.1 in
      let row = found.2 in
      (row.0, row.1, of_order row.0.link order.0 order.1 (subst (λ (n : ℕ). IsLinkOf n order.0) (sym row.2) order.2))

  abbrev pub came_rows : List Row
  came_rows = rows_in (drop (length first.history) closed.history)

  pub all_of_links : AllByRecursion OfLinks came_rows
  all_of_links = (rows_all OfLinks (drop (length first.history) closed.history) came_row).1

  pub grown : closed.history ≡ first.history ++ items_of came_rows
  grown =
      let begins = over.goes.appends.history in
      let rest : drop (length first.history) closed.history ≡ begins.0 = ap (drop (length first.history)) (sym begins.1) ∙ drop-append_seam first.history begins.0 in
      sym begins.1 ∙ ap (λ (l : List Item). first.history ++ l) (sym rest ∙ (rows_all OfLinks (drop (length first.history) closed.history) came_row).0)

  module _ (failed : Option Addition) (unread : Bool) (has : HasFailed device first closed failed unread) where
    abbrev lefts : List (Option (List ℕ))
    lefts = lefts_of state sources

    abbrev link_ends : List LinkEnd
    link_ends = filter_map end_in ends

    -- ---- what came of each job

    pub parts : AreEnds device state first closed g failed link sources readers ends
    parts =
        ends_of_load device state first closed g failed link sources readers fillers orders ends are
        (each_comes device state first closed g failed over.last over.goes.recorded on
        (of_fault device first closed over.last none_failed over.goes over.settled failed unread has) (of_pending device first closed over.last none_failed over.goes over.settled failed unread has)
        (pending_in device first closed over.last none_failed over.goes over.settled) (fault_counted device first closed over.last none_failed over.goes over.settled) is_history over.passes orders ends over.each over.began over.within
        (rows_of_a_link (length first.history) closed.history works put_all placed_all (works_differ device state first g over.passes orders ends over.each (links_apart link sources readers fillers orders are))))

    -- ---- a write that failed

    -- the job whose pass has its fault
    record IsAtFault (addition : Addition) : Type 0 where
      pub place : ℕ
      pub count : ℕ
      pub there : slice_get over.last place ≡ Some (Fault count true addition)
      pub pass : JobPass (HeldStore D)
      pub has_place : Contains pass.ended.fills.places place
      pub job : IsJobOf device state first g closed.history over.last orders ends pass

    at_fault : (addition : Addition) → failed ≡ Some addition → IsAtFault addition
    at_fault addition is =
        let at = fault_there device first closed over.last none_failed over.goes over.settled failed unread has addition is in
        let found = over.fills_placed at.0 at.2 (below over.last at.0 (Fault at.1 true addition) at.3) in
        record {
          place = at.0;
          count = at.1;
          there = at.3;
          pass = found.0;
          has_place = found.2;
          job = of_pass device state first g closed.history over.last over.passes orders ends over.each over.began over.within found.0 found.1;
        }

    -- where nothing is reported no job was refused
    all_calm : reported_of link (filter_map end_in ends) (filter_map other_in ends) ≡ None → AllByRecursion (λ end. refusal_of_job end ≡ None) ends
    all_calm none = let calm = unrefused link (filter_map end_in ends) (filter_map other_in ends) none in jobs_unrefused ends calm.0 calm.1

    no_failed_write : reported_of link (filter_map end_in ends) (filter_map other_in ends) ≡ None → failed ≡ None
    no_failed_write none = go failed refl
      where
        go : (o : Option Addition) → failed ≡ o → failed ≡ None
        go None is = is
        go (Some addition) is =
            let at = at_fault addition is in
            let job = at.job in
            absurd (fault_refuses device state first g at.pass closed.history over.last job.began job.within at.place at.count true addition at.has_place at.there job.order job.end job.came
            (all_at (λ end. refusal_of_job end ≡ None) ends job.number job.end (all_calm none) job.ended))

    no_failed_read : reported_of link (filter_map end_in ends) (filter_map other_in ends) ≡ None → failed ≡ None → unread ≡ false
    no_failed_read none unwritten = go unread refl (subst (λ (o : Option Addition). HasFailed device first closed o unread) unwritten has)
      where
        go : (b : Bool) → unread ≡ b → HasFailed device first closed None unread → unread ≡ false
        go false is unfailed = is
        go true is unfailed =
            let at = read_there device first closed over.last none_failed over.goes over.settled unfailed.0 (unfailed.2 is) in
            let found = over.fills_placed at.0 at.2 (below over.last at.0 (Fault at.1 false additions.Nothing) at.3) in
            let job = of_pass device state first g closed.history over.last over.passes orders ends over.each over.began over.within found.0 found.1 in
            absurd (fault_refuses device state first g found.0 closed.history over.last job.began job.within at.0 at.1 false additions.Nothing found.2 at.3 job.order job.end job.came
            (all_at (λ end. refusal_of_job end ≡ None) ends job.number job.end (all_calm none) job.ended))

    pub reported_so : reported_of link (filter_map end_in ends) (filter_map other_in ends) ≡ None → (failed ≡ None) × (unread ≡ false)
    reported_so none = let unwritten = no_failed_write none in (unwritten, no_failed_read none unwritten)

    -- where rows are told, its rows are all new to the history
    still_new : (addition : Addition) → failed ≡ Some addition → TellsRows device first → AreNewTo closed.history addition
    still_new addition is told = go failed has is
      where
        go : (o : Option Addition) → HasFailed device first closed o unread → o ≡ Some addition → AreNewTo closed.history addition
        go None unfailed e = absurd (cc e)
        go (Some a) (one, same, some_read) e = let b : a ≡ addition = cc e in subst (AreNewTo closed.history) (same ∙ b) (one.new_to told)

    -- the rows of a batch, whichever history the link began with
    abbrev batch_rows_of : List Item → ℕ → SessionResult → List Row
    batch_rows_of began n s = next_rows (receiving g.head began g.route n g.moment) s

    batch_in_hand : (addition : Addition) → (TellsRows device first → AreNewTo closed.history addition) → (began seen : List Item) (n k count : ℕ) (source : S) → IsPrefix seen closed.history → began ≡ first.history
        → n ≡ link + k → slice_get sources k ≡ Some source → (end : LinkEnd) → slice_get link_ends k ≡ Some end → refusal_of_end end ≡ Some DiskFault → IsBatchOf (TellsRows device first) (receiving g.head began g.route n g.moment) (state source).left seen (Fault count true addition)
        → IsFailedAddition (disk_facts device first.opened first.sealed) first.history closed.history g link lefts link_ends addition
    batch_in_hand addition new began seen n k count source within same numbered there end ended faulted batch =
        let s = batch.came_to in
        let rows = batch.rows in
        let is : addition ≡ Rows rows = (let e = batch.is in cc e) in
        let reached : IsPrefix s.reached closed.history = subst (λ (l : List Item). IsPrefix l closed.history) (sym batch.reached) within in
        let known : TellsRows device first → rows ≡ fresh_of closed.history (batch_rows_of first.history (link + k) s) = λ told.
        let new_rows : after_rows closed.history rows ≡ closed.history ++ items_of rows = subst (AreNewTo closed.history) is (new told) in
        let own = batch.known told in
        let stays = fresh_stays s.reached closed.history (batch_rows_of began n s) reached (subst (λ (l : List Row). after_rows closed.history l ≡ closed.history ++ items_of l) own new_rows) in
        let moved : fresh_of closed.history (batch_rows_of began n s) ≡ fresh_of closed.history (batch_rows_of first.history (link + k) s) =
        ap (λ (h : List Item). fresh_of closed.history (batch_rows_of h n s)) same ∙ ap (λ (m : ℕ). fresh_of closed.history (batch_rows_of first.history m s)) numbered in
        own ∙ (sym stays ∙ moved) in
        let hand : IsBatchInHand (disk_facts device first.opened first.sealed) first.history closed.history g link lefts link_ends rows = record {
          place = k;
          left = (state source).left;
          of_link = slice_get-map (λ (x : S). (state x).left) sources k ∙ ap (option_map (λ (x : S). (state x).left)) there;
          end = end;
          ended = ended;
          end_is = faulted;
          read = batch.read;
          read_of = batch.read_of;
          short = batch.short;
          came_to = record s { reached = closed.history };
          parts = batch.parts;
          within = batch.within;
          between = batch.between;
          reached_is = refl;
          rows_are = known;
        } in
        subst (IsFailedAddition (disk_facts device first.opened first.sealed) first.history closed.history g link lefts link_ends) (sym is) hand

    failed_by : (addition : Addition) → (TellsRows device first → AreNewTo closed.history addition) → (p : JobPass (HeldStore D)) (place count k : ℕ) → Contains p.ended.fills.places place → slice_get over.last place ≡ Some (Fault count true addition)
        → BeganWith first p → EndedWithin closed.history over.last p → (order : Order S) (end : JobEnd S) → slice_get orders k ≡ Some order → slice_get ends k ≡ Some end → IsOutcomeOf device state first g p order end
        → IsFailedAddition (disk_facts device first.opened first.sealed) first.history closed.history g link lefts link_ends addition
    failed_by addition new p place count k has_place there began within (Ordered.Link n source wake) (Ended.Link number back end) ordered ended came =
        by_item (link_batch device first (received_by g n p.began) (state source).left p.began p.ended over.last place (Fault count true addition) within.1 began.none.1 has_place there end came.0)
      where
        by_batch : IsBatchOf (TellsRows device first) (received_by g n p.began) (state source).left p.ended.history.seen (Fault count true addition) → IsFailedAddition (disk_facts device first.opened first.sealed) first.history closed.history g link lefts link_ends addition
        by_batch batch =
            let linked = link_there link sources readers fillers orders are k n (Ordered.Link n source wake) ordered refl in
            let of_source : source ≡ linked.source = linked.of_order in
            let faulted = link_faulted device first (received_by g n p.began) (state source).left p.began p.ended over.last place (Fault count true addition) within.1 began.none.1 has_place there end came.0 in
            let stands = parts.stands k (below sources k linked.source linked.there) (Ended.Link number back end) end ended refl in
            batch_in_hand addition new p.began.history.seen p.ended.history.seen n k count linked.source within.0 began.history linked.number_is linked.there end stands faulted
            (subst (λ (x : S). IsBatchOf (TellsRows device first) (receiving g.head p.began.history.seen g.route n g.moment) (state x).left p.ended.history.seen (Fault count true addition)) of_source batch)

        by_item : IsBatchOf (TellsRows device first) (received_by g n p.began) (state source).left p.ended.history.seen (Fault count true addition) ⊎ ((counted : ℕ) × (Fault count true addition ≡ Fault counted false additions.Nothing))
            → IsFailedAddition (disk_facts device first.opened first.sealed) first.history closed.history g link lefts link_ends addition
        by_item (inl batch) = by_batch batch
        by_item (inr (counted, is)) = absurd (cc is)
    failed_by addition new p place count k has_place there began within (Ordered.Reader before) (Ended.Reader answers refusal) ordered ended came =
        absurd (let is = (reader_noted first.sealed p.began p.ended over.last place (Fault count true addition) came.0 began.none.1 within.1 has_place there).1 in cc is)
    failed_by addition new p place count k has_place there began within (Ordered.Filler wakes) (Ended.Filler refusal) ordered ended came =
        of_fill_failed (disk_facts device first.opened first.sealed) first.history closed.history g link lefts link_ends addition (filler_fault device state first g p closed.history over.last began within place count addition has_place there came.0)
    failed_by addition new p place count k has_place there began within order end ordered ended came = absurd came

    pub failed_so : IfSome failed (IsFailedAddition (disk_facts device first.opened first.sealed) first.history closed.history g link lefts link_ends)
    failed_so = go failed refl
      where
        go : (o : Option Addition) → failed ≡ o → IfSome o (IsFailedAddition (disk_facts device first.opened first.sealed) first.history closed.history g link lefts link_ends)
        go None is = tt
        go (Some addition) is =
            let at = at_fault addition is in
            let job = at.job in
            failed_by addition (still_new addition is) at.pass at.place at.count job.number at.has_place at.there job.began job.within job.order job.end job.ordered job.ended job.came

    -- ---- the whole

    module _ (many_readers : readers ≡ min 4 (length g.asks)) (answers : List AskAnswer)
        (interleaved : HaveAnswersFor g.asks (answers_at 0 (filter_map answers_in ends)) (answers_at 1 (filter_map answers_in ends)) (answers_at 2 (filter_map answers_in ends)) (answers_at 3 (filter_map answers_in ends))
        → AreEveryFourth answers (answers_at 0 (filter_map answers_in ends)) (answers_at 1 (filter_map answers_in ends)) (answers_at 2 (filter_map answers_in ends)) (answers_at 3 (filter_map answers_in ends))) where
      abbrev pub outcome : JobsOutcome
      outcome = record { reached = closed.history; ends = filter_map end_in ends; answers = answers; others = filter_map other_in ends; failed = failed; unread = unread }

      answered : reported_of link outcome.ends outcome.others ≡ None → (before : ℕ) → before < 4
          → AreAnswered (disk_facts device first.opened first.sealed) (filled_of first) first.history closed.history (every_fourth before g.asks) (every_fourth before answers) None
      answered none =
          let calm = (unrefused link outcome.ends outcome.others none).1 in
          let lists = filter_map answers_in ends in
          let each : (k : ℕ) → k < min 4 (length g.asks) → AreAnswered (disk_facts device first.opened first.sealed) (filled_of first) first.history closed.history (every_fourth k g.asks) (answers_at k lists) None =
          λ k low. parts.answered calm k (omega (arith, low, many_readers)) in
          let many : length lists ≡ min 4 (length g.asks) = parts.many ∙ many_readers in
          all_answered (disk_facts device first.opened first.sealed) (filled_of first) first.history closed.history g.asks lists many each answers
          (interleaved (have_as_many (disk_facts device first.opened first.sealed) (filled_of first) first.history closed.history g.asks lists many each))

      refused_seen : IfSome (reported_of link outcome.ends outcome.others) (λ reported. IsSeenIn device first closed reported.refusal)
      refused_seen = reported_known (IsSeenIn device first closed) link outcome.ends outcome.others parts.seen parts.others_seen

      -- a fault of the disk is reported where a call of it failed
      faulted : (t : ReportedRefusal) → reported_of link outcome.ends outcome.others ≡ Some t → t.refusal ≡ DiskFault → IsSome failed ⊎ (unread ≡ true)
      faulted t is fault = by failed unread has
        where
          seen : IsSeenIn device first closed DiskFault
          seen = subst (IsSeenIn device first closed) fault (subst (λ (o : Option ReportedRefusal). IfSome o (λ reported. IsSeenIn device first closed reported.refusal)) is refused_seen)

          by : (o : Option Addition) (b : Bool) → HasFailed device first closed o b → IsSome o ⊎ (b ≡ true)
          by (Some addition) b one = inl refl
          by None true unfailed = inr refl
          by None false (unfailed, none_read, some_read) = absurd (seen.0 (unfailed.faults ∙ (ap (λ (l : List Fill). faults_in first.fills ++ l) (none_read refl) ∙ append-nil (faults_in first.fills))))

      pub possible : IsJobsOutcome (disk_facts device first.opened first.sealed) (filled_of first) g link lefts outcome
      possible = record {
        more = came_rows;
        grown = grown;
        of_links = all_of_links;
        links = parts.loaded;
        answered = answered;
        readers = subst (λ (n : ℕ). AllByRecursion (IsReaderCause (disk_facts device first.opened first.sealed)) (take n (filter_map other_in ends))) many_readers parts.causes;
        fillers = subst (λ (n : ℕ). AllByRecursion (IsFillerCause (disk_facts device first.opened first.sealed) failed) (drop n (filter_map other_in ends))) many_readers parts.filler_causes;
        reported_so = reported_so;
        faulted = faulted;
        failed = failed_so;
      }

      pub loaded : HasLoaded device first closed link outcome
      loaded = record {
        goes = over.goes;
        idle = over.idle;
        late = fills_were_late device state first closed g orders ends over;
        history = refl;
        failed = has;
        refused = refused_seen;
      }
