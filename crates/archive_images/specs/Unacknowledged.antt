-- What a write that failed may have made.
use Rattle.std.specs.Prelude.{◌≡◌, ℕ, List, ◌++◌, Option, Some, None, MatchOption, IsSomeAnd}
use Rattle.intervals.specs.declared.interval.Interval.{Interval}
use Rattle.history_items.specs.declared.fills.Addition.{Addition}
use Rattle.history_items.specs.declared.items.Item.{Item}
use Rattle.history_items.specs.Noted.{Added, added_of}
use Rattle.interval_fills.specs.Intervals.{NoneSince}
use Rattle.param_segments.specs.Rows.{SetRow}
use Rattle.store_fills.specs.Filled.{IsRightFill}
use Rattle.store_fills.specs.LastFills.{fill_over}
use Rattle.store_fills.specs.Sound.{with_filling}
use Rattle.archive_images.specs.Entries.{FilledArchive, filled_archive}

-- an archive with more rows, and the fills that it has
abbrev pub with_rows : FilledArchive → List Item → FilledArchive
with_rows now more = filled_archive now.plain.head now.plain.exponent (now.plain.history ++ more) now.fillings

-- an archive with one fill more, over so many of its items, which is right for its history and over all rows of its
-- interval
pub record IsFilledOnce (now : FilledArchive) (interval : Interval) (base : ℕ) (after : FilledArchive) : Type 0 where
  pub set : List SetRow
  pub right : IsRightFill now.plain.exponent now.plain.head.mdb now.plain.history interval base set
  pub none_since : NoneSince now.plain.exponent interval base now.plain.history
  pub after_is : after ≡ filled_archive now.plain.head now.plain.exponent now.plain.history
      (with_filling now.fillings interval (fill_over base set))

-- an archive with what an addition adds: with the items, or with the fill
abbrev pub IsWith : FilledArchive → Added → FilledArchive → Type 0
IsWith now added after =
    MatchOption added.items (IsSomeAnd added.fill (λ fill. IsFilledOnce now fill.interval fill.base after))
    (λ more. after ≡ with_rows now more)

-- what a failed write may have made of an archive, by what its call would have added
abbrev pub IsUnacknowledged : FilledArchive → Option Addition → FilledArchive → Type 0
IsUnacknowledged now None after = ⊥
IsUnacknowledged now (Some addition) after = IsWith now (added_of addition) after
