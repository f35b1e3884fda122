-- Which intervals are late by their fills.
use Rattle.std.specs.Prelude.{ℕ, Bool, false, List, filter}
use Rattle.std.specs.Option.{option_map_or}
use Rattle.intervals.specs.declared.interval.Interval.{Interval}
use Rattle.history_items.specs.declared.items.Item.{Item}
use Rattle.history_items.specs.Late.{last_in}
use Rattle.late_marks.specs.Mark.{is_late_by}
use Rattle.param_segments.specs.Rows.{SetRow}
use Rattle.store_fills.specs.Sound.{Fillings, base_of_filling}
use Rattle.interval_walks.specs.Counts.{intervals_in}
use Rattle.archive_images.specs.Entries.{FilledArchive}

-- whether an interval is late by the base of its last fill
abbrev pub is_late_by_fill : ℕ → List Item → Fillings (List SetRow) → Interval → Bool
is_late_by_fill exponent history fillings interval =
    option_map_or (λ last. is_late_by last (base_of_filling fillings interval)) (last_in exponent interval history)
    false

-- whether an interval of an archive is
abbrev pub is_late_in_archive : FilledArchive → Interval → Bool
is_late_in_archive filled interval = is_late_by_fill filled.plain.exponent filled.plain.history filled.fillings interval

-- the late intervals of an archive
abbrev pub late_in_archive : FilledArchive → List Interval
late_in_archive filled = filter (is_late_in_archive filled) (intervals_in filled.plain.exponent filled.plain.history)
