-- The load of made packets: what it is given, and what its jobs came to.
use Rattle.std.proofs.Common.{◌≡◌, ◌∙◌, ℕ, ℤ, Bool, true, false, List, [], ◌∷◌, ◌++◌, codes, length, Option, Some, None, refl, ap, arith}
use Rattle.std.specs.Prelude.{IfSome, drop, min, take}
use Rattle.std.specs.List.{list_any}
use Rattle.arch_disk.specs.Disk.{Device}
use Rattle.outer_traits.specs.States.{SourceState}
use Rattle.field_codec.specs.Entries.{AreTables}
use Rattle.mdb_items.specs.CalibrationRows.{calibration_fault_at}
use Rattle.mdb_items.specs.Checks.{first_at}
use Rattle.mdb_items.specs.ContainerRows.{container_fault_at}
use Rattle.mdb_items.specs.ParameterRows.{parameter_fault_at}
use Rattle.mdb_items.specs.Paths.{paths_of}
use Rattle.history_items.specs.declared.fills.Addition.{Addition}
use Rattle.history_items.specs.declared.fills.Fill.{Fill}
use Rattle.history_items.specs.declared.items.Item.{Item}
use Rattle.archive_store.specs.Entries.{FilledArchive}
use Rattle.archive_store.specs.StoreView.{StoreView}
use Rattle.live_asks.specs.declared.answered.AskAnswer.{AskAnswer}
use Rattle.live_asks.specs.LiveAsks.{AreAnswered, DiskFacts}
use Rattle.live_session.specs.Jobs.{IsSourceRead, job_setting}
use Rattle.live_session.specs.Outcome.{AreSourcesRead, HasFailed, IsFailedAddition, IsJobsOutcome, JobsOutcome, extension_by}
use Rattle.load_jobs.specs.declared.ending.LinkEnd.{LinkEnd}
use Rattle.load_jobs.specs.declared.ending.LinkEnd.TheVariants.{Unread}
use Rattle.load_session.specs.Receiving.{IsRouteOver}
use Rattle.stream_graph.specs.Routes.{every_packet_route}
use Rattle.load_command.specs.Loading.{is_unread}
use Rattle.make_command.specs.Made.{IsMadeOutcome, made_archive, made_contents, made_head, no_facts, two_dumps}
use Rattle.make_command.specs.Summing.{KnowsParameters}
use Rattle.make_command.proofs.PlainFacts.{failed_addition, fillers, links, readers}

-- ---- what it is given

-- there are two sources, however many packets their dumps have
pub dumps_are_two : (seed packets : ℕ) → length (two_dumps seed packets) ≡ 2
unfolding two_dumps
dumps_are_two seed packets = refl

-- the one table is `tm`
pub made_tables : AreTables (codes "tm" ∷ [])
made_tables = record { names = (refl, tt); few = omega arith; first = refl; distinct = (tt, tt) }

-- the route is one over the archive's tables
pub made_route : IsRouteOver made_head every_packet_route
unfolding made_head
made_route = (omega arith, tt)

-- the database has the parameters whose values are counted
pub made_parameters_known : KnowsParameters made_head.mdb
unfolding made_head first_at calibration_fault_at container_fault_at parameter_fault_at paths_of
made_parameters_known = (refl, (refl, (refl, tt)))

-- ---- what its jobs came to

-- where nothing is asked an answer says nothing
no_ask : (facts other : DiskFacts) (opened : FilledArchive) (low reached : List Item) (answers : List AskAnswer) → AreAnswered facts opened low reached [] answers None → AreAnswered other opened low reached [] answers None
no_ask facts other opened low reached [] is = tt
no_ask facts other opened low reached (answer ∷ answers) is = absurd is

-- a source that never fails was read to where its link stopped
module _ {S : Type 0} (state : S → SourceState) where
  read_on : (end : LinkEnd) (old new : SourceState) → old.never_fails → IsSourceRead end old new → old.faults ≡ 0 → is_unread end ≡ false
  read_on (Unread refused) old new never read none =
      let still = read.2 never in
      let risen = read.1 (omega (arith, still, none)) in
      absurd (omega (arith, still, risen))
  read_on other old new never read none = refl

  pub none_unread : (ends : List LinkEnd) (olds news : List S) → ((source : S) → (state source).never_fails) → ((source : S) → (state source).faults ≡ 0) → AreSourcesRead state ends olds news → list_any is_unread ends ≡ false
  none_unread [] [] [] never none read = refl
  none_unread (end ∷ ends) (old ∷ olds) (new ∷ news) never none read =
      rw (read_on end (state old) (state new) (never old) read.0 (none old)) (none_unread ends olds news never none read.1)
  none_unread ends olds news never none read = absurd read

-- no read of a disk failed where no row stands in a run
pub calm_reads : {D : Type 0} (device : Device D) (first closed : StoreView D) → first.sealed ≡ 0 → (failed : Option Addition) (unread : Bool) → HasFailed device first closed failed unread → unread ≡ false
calm_reads device first closed plain failed false has = refl
calm_reads device first closed plain None true has = absurd (has.2 refl (has.0.plain plain))
calm_reads device first closed plain (Some addition) true has =
    let none = has.0.plain plain in
    absurd (has.2 refl (ap (λ (l : List Fill). l ++ has.0.behind) none.0 ∙ none.1))

pub made_outcome : (facts : DiskFacts) → facts.sealed ≡ 0 → (seed : ℕ) (moment : ℤ) (c : JobsOutcome) → IsJobsOutcome facts made_archive (job_setting made_head every_packet_route moment []) 1 (made_contents seed) c
    → (list_any is_unread c.ends ≡ false) × (c.unread ≡ false) → IsMadeOutcome seed moment c
made_outcome facts plain seed moment c is read = record {
  came = record {
    more = is.more;
    grown = is.grown;
    of_links = is.of_links;
    links = links facts no_facts plain (extension_by made_archive c) (job_setting made_head every_packet_route moment []) 1 (made_contents seed) c.ends is.links;
    answered = λ none before few. no_ask facts no_facts made_archive [] c.reached _ (is.answered none before few);
    readers = readers facts no_facts plain (take (min 4 (length (job_setting made_head every_packet_route moment []).asks)) c.others) is.readers;
    fillers = fillers facts no_facts plain c.failed (drop (min 4 (length (job_setting made_head every_packet_route moment []).asks)) c.others) is.fillers;
    reported_so = is.reported_so;
    faulted = is.faulted;
    failed = failed_so c.failed is.failed;
  };
  read = read;
}
  where
    failed_so : (failed : Option Addition) → IfSome failed (IsFailedAddition facts [] c.reached (job_setting made_head every_packet_route moment []) 1 (made_contents seed) c.ends)
        → IfSome failed (IsFailedAddition no_facts [] c.reached (job_setting made_head every_packet_route moment []) 1 (made_contents seed) c.ends)
    failed_so None has = tt
    failed_so (Some addition) has = failed_addition facts no_facts plain [] c.reached (job_setting made_head every_packet_route moment []) 1 (made_contents seed) c.ends addition has
