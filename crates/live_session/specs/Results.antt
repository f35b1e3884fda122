-- The results of jobs, sorted by what they are.
use Rattle.std.specs.Prelude.{List, Option, Some, None}
use Rattle.refusals.specs.declared.refusal.Refusal.{Refusal}
use Rattle.load_jobs.specs.declared.ending.LinkEnd.{LinkEnd}
use Rattle.live_asks.specs.declared.answered.AskAnswer.{AskAnswer}
use Rattle.live_session.specs.declared.order.JobEnd.{JobEnd}
use Rattle.live_session.specs.declared.order.JobEnd.TheVariants as Ended
use Rattle.live_session.specs.declared.order.Order.{Order}
use Rattle.live_session.specs.declared.order.Order.TheVariants as Ordered

module _ {S : Type 0} where
  -- the source of a link that is ordered
  abbrev pub source_of : Order S → Option S
  source_of (Ordered.Link link source wake) = Some source
  source_of other = None

  -- the source of a link that has ended
  abbrev pub source_in : JobEnd S → Option S
  source_in (Ended.Link link source end) = Some source
  source_in other = None

  -- how it ended
  abbrev pub end_in : JobEnd S → Option LinkEnd
  end_in (Ended.Link link source end) = Some end
  end_in other = None

  -- the answers of a reader
  abbrev pub answers_in : JobEnd S → Option (List AskAnswer)
  answers_in (Ended.Reader answers refusal) = Some answers
  answers_in other = None

  -- why a reader or a filler was refused, if it was
  abbrev pub other_in : JobEnd S → Option (Option Refusal)
  other_in (Ended.Link link source end) = None
  other_in (Ended.Reader answers refusal) = Some refusal
  other_in (Ended.Filler refusal) = Some refusal
