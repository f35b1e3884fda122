use Rattle.std.proofs.Common.{◌≤◌, inl, length, true≢false, sym, ◌∙◌, subst, arith}
use Rattle.std.specs.Prelude.{IsSome}
use Rattle.intervals.specs.declared.interval.Interval.{Interval}
use Rattle.history_items.specs.Late.{last_in}
use Rattle.interval_fills.proofs.Intervals.{database_below}
use Rattle.archive_store.proofs.CurrentSets.{has_last, last_row}
use Rattle.archive_store.proofs.store.Store.may_stand.Goals as goal

-- a base that a fill may have is above a row
pub returns-then-not-has_row : goal.returns-then-not-has_row
returns-then-not-has_row g c = (
  λ may. absurd (true≢false (sym may)),
  λ may.
      let now = c.args.self.now in
      let done = c.args.done.now in
      let last = has_last now.exponent now.history done.interval (record { position = may.0.row.position; stands = may.0.row.stands }) in
      let some = c.has_row.ensures.1 (subst (λ (i : Interval). IsSome (last_in now.exponent i now.history)) (sym c.interval.ensures) last) in
      absurd (true≢false (sym some ∙ c.if-not-has_row.true)),
)

pub returns-then-base-front : goal.returns-then-base-front
returns-then-base-front g c = (
  λ may. absurd (true≢false (sym may)),
  λ may. absurd (omega (arith, may.0.within, c.if-base-front.true, c.base-base.ensures, c.front-front.ensures)),
)

-- The interval has a row, and nothing changed it since the base, so the row stands below that, and the database in force
-- is the one below it.
pub returns : goal.returns
returns g c =
    let now = c.args.self.now in
    let done = c.args.done.now in
    let mdb = c.mdb.ensures ∙ database_below now.head.mdb now.exponent done.interval done.base now.history c.requires in (
      λ own.
          let some = subst (λ (i : Interval). IsSome (last_in now.exponent i now.history)) c.interval.ensures (c.has_row.ensures.0 c.if-not-has_row.false) in
          let row = last_row now.exponent now.history done.interval some in
          let within : done.base ≤ length now.history = omega (arith, c.if-base-front.false, c.base-base.ensures, c.front-front.ensures) in
          let is = c.is_of.ensures.0 own in (
            record { within = within; row = record { position = row.position; stands = row.stands; below = c.requires row.position (inl row.stands) } },
            (is.0 ∙ mdb, is.1 ∙ c.exponent.ensures),
          ),
      λ may. c.is_of.ensures.1 (may.1.0 ∙ sym mdb, may.1.1 ∙ sym c.exponent.ensures),
    )
