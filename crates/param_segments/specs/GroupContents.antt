-- What is kept of the rows of each group while rows come one after the other.
use Rattle.std.specs.Prelude.{◌≡◌, ℕ, zero, suc, ℤ, pos, ◌+◌, ◌*◌, ◌==◌, nat_eq, List, [], ◌∷◌, ◌++◌, length, map, take, drop, filter, flat_map, replicate, slice_index_or, Option, Some, None, if◌then◌else◌}
use lib.Pointwise.{pointwise}
use Rattle.arch_types.specs.declared.key.Key.{Key}
use Rattle.octet_fields.specs.Reading.{times_at}
use Rattle.segment_codec.specs.Segment.{IsSegment, segment_at, segment_octets}
use Rattle.segment_codec.specs.declared.segment.Segment.{Segment}
use Rattle.param_segments.specs.declared.group.Group.{Group}
use Rattle.param_segments.specs.Rows.{SetRow, AreSetRows, row_parameters, row_raws}
use Rattle.param_segments.specs.Groups.{cut_rows, groups_of, is_of_group, segment_of, with_raws}
use Rattle.param_segments.specs.Segments.{rows_of_segments}
use Rattle.param_segments.specs.Octets.{starts_from}

-- the octets of a group's full segments and where each begins; behind them keys, and raw numbers row by row
pub record GroupContents : Type 0 where
  pub parameters : List ℕ
  pub octets : List ℕ
  pub starts : List ℕ
  pub keys : List Key
  pub raws : List ℤ

-- what a group keeps
abbrev pub group_contents : Group → GroupContents
group_contents g = record { parameters = g.parameters.items; octets = g.octets.items; starts = g.starts.items; keys = g.keys.items; raws = g.raws.items }

-- ---- the open segment

-- every width-th number from a place on, so many
abbrev pub every_nth : ℕ → ℕ → ℕ → List ℤ → List ℤ
every_nth from width zero raws = []
every_nth from width (suc count) raws = slice_index_or raws from (pos 0) ∷ every_nth from width count (drop width raws)

-- the columns of so many rows of numbers
abbrev pub columns_by_rows : ℕ → ℕ → List ℤ → List (List ℤ)
columns_by_rows width zero raws = replicate width []
columns_by_rows width (suc count) raws = with_raws (take width raws) (columns_by_rows width count (drop width raws))

-- the segment of keys, and of raw numbers row by row
abbrev pub segment_by_rows : List ℕ → List Key → List ℤ → Segment
segment_by_rows parameters keys raws = record { parameters = parameters; keys = keys; columns = columns_by_rows (length parameters) (length keys) raws }

-- the segment of the rows that no full segment has
abbrev pub open_segment : GroupContents → Segment
open_segment c = segment_by_rows c.parameters c.keys c.raws

-- a raw number for each parameter in each row, and rows that make a segment
pub record AreContents (c : GroupContents) : Type 0 where
  pub raw_count : length c.raws ≡ length c.keys * length c.parameters
  pub segment : IsSegment (open_segment c)

-- ---- a row more

-- what a group keeps once its open segment is closed
abbrev pub segment_closed : GroupContents → GroupContents
segment_closed c = record { parameters = c.parameters; octets = c.octets ++ segment_octets (open_segment c); starts = c.starts ++ length c.octets ∷ []; keys = []; raws = [] }

-- an open segment of 4,096 rows is closed before the next row
abbrev pub with_room : GroupContents → GroupContents
with_room c = if length c.keys == 4096 then segment_closed c else c

-- a row more of the open segment
abbrev pub with_open_row : GroupContents → Key → List ℤ → GroupContents
with_open_row c key raws = record { parameters = c.parameters; octets = c.octets; starts = c.starts; keys = c.keys ++ key ∷ []; raws = c.raws ++ raws }

-- a row more of the group
abbrev pub with_values : GroupContents → Key → List ℤ → GroupContents
with_values c key raws = with_open_row (with_room c) key raws

-- what a group keeps of its first row
abbrev pub first_contents : SetRow → GroupContents
first_contents row = record { parameters = row_parameters row; octets = []; starts = []; keys = row.key ∷ []; raws = row_raws row }

-- a row more in its group, or in a new one behind all
abbrev pub with_set_row : List GroupContents → SetRow → List GroupContents
with_set_row [] row = first_contents row ∷ []
with_set_row (c ∷ cs) row = if pointwise nat_eq (row_parameters row) c.parameters then with_values c row.key (row_raws row) ∷ cs else c ∷ with_set_row cs row

-- ---- all rows

-- what a group keeps of its rows
abbrev pub contents_of : List ℕ → List SetRow → GroupContents
contents_of group rows =
    let p = cut_rows rows in
    let full = map (segment_of group) p.full in
    record { parameters = group; octets = flat_map segment_octets full; starts = starts_from 0 full; keys = map (λ row. row.key) p.last; raws = flat_map row_raws p.last }

-- what the groups of rows keep
abbrev pub all_contents : List SetRow → List GroupContents
all_contents rows = map (λ group. contents_of group (filter (is_of_group group) rows)) (groups_of rows)

-- the segments that a reader gave, or none
abbrev pub segments_read : Option (List Segment × List ℕ) → List Segment
segments_read None = []
segments_read (Some read) = read.0

-- the segments of a group
abbrev pub segments_in : GroupContents → List Segment
segments_in c = segments_read (times_at segment_at (length c.starts) c.octets) ++ open_segment c ∷ []

-- the rows that groups keep
unfoldable pub rows_in_groups : List Group → List SetRow
rows_in_groups groups = rows_of_segments (flat_map (λ g. segments_in (group_contents g)) groups)

-- groups keep rows of a set, and their parameters are numbered in the groups' order
pub record AreGroups (numbers : List (List ℕ)) (groups : List Group) : Type 0 where
  pub rows : AreSetRows (rows_in_groups groups)
  pub contents : map group_contents groups ≡ all_contents (rows_in_groups groups)
  pub numbered : numbers ≡ map (λ g. g.parameters.items) groups

-- ---- the set

-- the octets of a group's segments
abbrev pub group_octets : GroupContents → List ℕ
group_octets c = c.octets ++ segment_octets (open_segment c)

-- where a group's segments begin, the first at a place
abbrev pub group_starts : ℕ → GroupContents → List ℕ
group_starts at c = map (λ start. at + start) c.starts ++ (at + length c.octets) ∷ []

-- where the segments of groups begin, the first at a place
abbrev pub all_starts : ℕ → List GroupContents → List ℕ
all_starts at [] = []
all_starts at (c ∷ cs) = group_starts at c ++ all_starts (at + length (group_octets c)) cs

-- the number of the segments of groups
abbrev pub segment_count : List GroupContents → ℕ
segment_count [] = 0
segment_count (c ∷ cs) = (length c.starts + 1) + segment_count cs
