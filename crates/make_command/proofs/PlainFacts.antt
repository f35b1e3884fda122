-- What the jobs came to over an archive none of whose rows stands in a run is said whatever is known of its disk.
use Rattle.std.proofs.Common.{◌≡◌, inl, inr, ℕ, ◌<◌, suc, List, [], ◌∷◌, Option, Some, None, arith}
use Rattle.std.specs.List.{AllByRecursion}
use Rattle.refusals.specs.declared.refusal.Refusal.{Refusal}
use Rattle.refusals.specs.declared.refusal.Refusal.TheVariants.{Damaged, DiskFault, Limit, NeedsReopen, OutOfMemory}
use Rattle.history_items.specs.declared.fills.Addition.{Addition}
use Rattle.history_items.specs.declared.fills.Addition.TheVariants.{Rows}
use Rattle.history_items.specs.declared.items.Item.{Item}
use Rattle.arch_types.specs.declared.row.Row.{Row}
use Rattle.live_asks.specs.LiveAsks.{AreTold, DiskFacts}
use Rattle.live_session.specs.Jobs.{JobSetting}
use Rattle.live_session.specs.Links.{AreLinksLoaded, Extension, IsBatchInHand, IsSentCause, IsSentInto, LinkLoads}
use Rattle.live_session.specs.Outcome.{IsFailedAddition, IsFillerCause, IsReaderCause}
use Rattle.load_jobs.specs.declared.ending.LinkEnd.{LinkEnd}
use Rattle.load_session.specs.Receiving.{Receiving, receiving}
use Rattle.load_session.specs.Session.{SessionResult}

module _ (facts other : DiskFacts) (plain : facts.sealed ≡ 0) where
  no_runs : 0 < facts.sealed → ⊥
  no_runs paged = omega (arith, paged, plain)

  told : AreTold facts
  told paged = absurd (no_runs paged)

  cause : (exponent : ℕ) (failed : Option Addition) (r : Receiving) (s : SessionResult) (refusal : Option Refusal) → IsSentCause facts exponent failed r s refusal → IsSentCause other exponent failed r s refusal
  cause exponent failed r s None is = tt
  cause exponent failed r s (Some (Limit which number)) is = λ any. is told
  cause exponent failed r s (Some (NeedsReopen faults)) is = is
  cause exponent failed r s (Some DiskFault) (inl (rows, also, are)) = inl (rows, also, λ any. are told)
  cause exponent failed r s (Some DiskFault) (inr paged) = absurd (no_runs paged)
  cause exponent failed r s (Some (Damaged file at)) is = absurd (is told)
  cause exponent failed r s (Some OutOfMemory) is = tt
  cause exponent failed r s (Some rest) is = absurd is

  -- what a link put
  module _ (exponent : ℕ) (failed : Option Addition) (history : List Item) (r : Receiving) where
    sent : (left : Option (List ℕ)) (put : List Row) (end : LinkEnd) → IsSentInto facts exponent failed history r left put end → IsSentInto other exponent failed history r left put end
    sent left put end is = record {
      read = is.read;
      read_to = is.read_to;
      short = is.short;
      came_to = is.came_to;
      parts = is.parts;
      within = is.within;
      between = is.between;
      since = is.since;
      reached = is.reached;
      few = is.few;
      sent = λ any. is.sent told;
      sent_to = is.sent_to;
      cause = cause exponent failed r is.came_to is.came_to.refusal is.cause;
      alone = λ any. is.alone told;
    }

    loads : (left : Option (List ℕ)) (end : LinkEnd) → LinkLoads facts exponent failed history r left end → LinkLoads other exponent failed history r left end
    loads left end is = record { put = is.put; own = is.own; sent = sent left is.put end is.sent }

  pub links : (came : Extension) (setting : JobSetting) (link : ℕ) (dumps : List (Option (List ℕ))) (ends : List LinkEnd) → AreLinksLoaded facts came setting link dumps ends → AreLinksLoaded other came setting link dumps ends
  links came setting link [] [] are = tt
  links came setting link [] (end ∷ ends) are = absurd are
  links came setting link (left ∷ dumps) [] are = absurd are
  links came setting link (left ∷ dumps) (end ∷ ends) are = (
    loads came.exponent came.failed came.reached (receiving setting.head came.first setting.route link setting.moment) left end are.0,
    links came setting (suc link) dumps ends are.1,
  )

  -- why readers and fillers were refused
  reader : (refusal : Option Refusal) → IsReaderCause facts refusal → IsReaderCause other refusal
  reader None is = tt
  reader (Some DiskFault) paged = absurd (no_runs paged)
  reader (Some (Damaged file at)) is = absurd (is told)
  reader (Some OutOfMemory) is = tt
  reader (Some rest) is = absurd is

  pub readers : (refusals : List (Option Refusal)) → AllByRecursion (IsReaderCause facts) refusals → AllByRecursion (IsReaderCause other) refusals
  readers [] are = tt
  readers (refusal ∷ refusals) are = (reader refusal are.0, readers refusals are.1)

  filler : (failed : Option Addition) (refusal : Option Refusal) → IsFillerCause facts failed refusal → IsFillerCause other failed refusal
  filler failed None is = tt
  filler failed (Some OutOfMemory) is = tt
  filler failed (Some (NeedsReopen faults)) is = is
  filler failed (Some (Limit which number)) is = is
  filler failed (Some DiskFault) (inl fill) = inl fill
  filler failed (Some DiskFault) (inr paged) = absurd (no_runs paged)
  filler failed (Some (Damaged file at)) is = absurd (is told)
  filler failed (Some rest) is = absurd is

  pub fillers : (failed : Option Addition) (refusals : List (Option Refusal)) → AllByRecursion (IsFillerCause facts failed) refusals → AllByRecursion (IsFillerCause other failed) refusals
  fillers failed [] are = tt
  fillers failed (refusal ∷ refusals) are = (filler failed refusal are.0, fillers failed refusals are.1)

  -- what a failed write was to add
  module _ (first reached : List Item) (setting : JobSetting) (link : ℕ) (dumps : List (Option (List ℕ))) (ends : List LinkEnd) where
    in_hand : (rows : List Row) → IsBatchInHand facts first reached setting link dumps ends rows → IsBatchInHand other first reached setting link dumps ends rows
    in_hand rows is = record {
      place = is.place;
      left = is.left;
      of_link = is.of_link;
      end = is.end;
      ended = is.ended;
      end_is = is.end_is;
      read = is.read;
      read_of = is.read_of;
      short = is.short;
      came_to = is.came_to;
      parts = is.parts;
      within = is.within;
      between = is.between;
      reached_is = is.reached_is;
      rows_are = λ any. is.rows_are told;
    }

    pub failed_addition : (addition : Addition) → IsFailedAddition facts first reached setting link dumps ends addition → IsFailedAddition other first reached setting link dumps ends addition
    failed_addition (Rows rows) is = in_hand rows is
    failed_addition rest is = is
