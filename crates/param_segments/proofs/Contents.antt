-- What the groups keep of rows: their segments, the octets of these, and where each begins.
use Rattle.std.proofs.Common.{◌≡◌, ◌∙◌, ℕ, suc, ◌+◌, ◌<◌, ◌^◌, List, [], ◌∷◌, ◌++◌, length, map, Some, refl, sym, ap, subst, append-nil, length-append, arith}
use Rattle.std.specs.Prelude.{nat_eq, filter, flat_map, Result, Ok, Err, OnOk, OnErr}
use Rattle.std.specs.List.{AllByRecursion, IsDistinct}
use Rattle.std.specs.List.Sorted.{IsStrictlySortedBy}
use Rattle.std.specs.Int.{w32}
use lib.Pointwise.{pointwise}
use Rattle.std.proofs.lemmas.List.{map_push}
use Rattle.std.proofs.lemmas.List.Concat.{flat_map-append}
use Rattle.std.proofs.lemmas.List.Folds.{flat_map-map}
use Rattle.octet_fields.specs.Reading.{times_at}
use Rattle.octet_fields.specs.Spelling.{counted, number}
use Rattle.octet_fields.proofs.Exact.{IsExact-times}
use Rattle.segment_codec.specs.Segment.{IsSegment, segment_at, segment_octets}
use Rattle.segment_codec.specs.declared.segment.Segment.{Segment}
use Rattle.segment_codec.proofs.Segments.{segment_exact}
use Rattle.param_segments.specs.declared.group.Group.{Group}
use Rattle.param_segments.specs.GroupContents.{AreContents, AreGroups, GroupContents, all_contents, all_starts, contents_of, group_contents, group_octets, group_starts, open_segment, rows_in_groups, segment_count, segments_in, segments_read, with_set_row}
use Rattle.param_segments.specs.Groups.{cut_rows, group_segments, groups_of, is_of_group, row_pieces, segment_of, set_of}
use Rattle.param_segments.specs.Octets.{IsSpelledSet, rows_in_octets, set_octets, starts_from}
use Rattle.param_segments.specs.Rows.{AreSetRows, SetRow}
use Rattle.param_segments.specs.Segments.{rows_of_segments}
use Rattle.param_segments.proofs.Grouped.{filter_of, groups_distinct, rows_again_in_order}
use Rattle.param_segments.proofs.Inverse.{AreOf}
use Rattle.param_segments.proofs.Places.{seen_parameters}
use Rattle.param_segments.proofs.Steps.{contents_step, made_is, octets_push, open_of, raw_count_of, starts_append}
use Rattle.param_segments.proofs.Stored.{HasSegments, groups_have_segments, read_again, spelled_set}

-- ---- one group

pub length-starts : (at : ℕ) (ss : List Segment) → length (starts_from at ss) ≡ length ss
length-starts at [] = refl
length-starts at (s ∷ ss) = ap suc (length-starts (at + length (segment_octets s)) ss)

-- segments are read back from their octets
read_full : (ss : List Segment) → AllByRecursion IsSegment ss → segments_read (times_at segment_at (length (starts_from 0 ss)) (flat_map segment_octets ss)) ≡ ss
read_full ss all =
    let read : times_at segment_at (length ss) (flat_map segment_octets ss ++ []) ≡ Some (ss, []) = (IsExact-times segment_exact (length ss)).again ss [] tt (refl, all) in
    ap (λ (n : ℕ). segments_read (times_at segment_at n (flat_map segment_octets ss))) (length-starts 0 ss)
    ∙ ap (λ (octets : List ℕ). segments_read (times_at segment_at (length ss) octets)) (sym (append-nil (flat_map segment_octets ss)))
    ∙ ap segments_read read

split_last : (xs : List Segment) (y : Segment) → AllByRecursion IsSegment (xs ++ y ∷ []) → AllByRecursion IsSegment xs × IsSegment y
split_last [] y all = (tt, all.0)
split_last (x ∷ xs) y all = let more = split_last xs y all.1 in ((all.0, more.0), more.1)

-- the segments of a group are its full ones and the open one
pushed : (g : List ℕ) (rows : List SetRow) → map (segment_of g) (row_pieces rows) ≡ map (segment_of g) (cut_rows rows).full ++ segment_of g (cut_rows rows).last ∷ []
pushed g rows = map_push (segment_of g) (cut_rows rows).full (cut_rows rows).last

segments_again : (g : List ℕ) (rows : List SetRow) → AreOf g rows → AllByRecursion IsSegment (map (segment_of g) (row_pieces rows)) → segments_in (contents_of g rows) ≡ map (segment_of g) (row_pieces rows)
segments_again g rows are all =
    let full = map (segment_of g) (cut_rows rows).full in
    let parts = split_last full (segment_of g (cut_rows rows).last) (subst (AllByRecursion IsSegment) (pushed g rows) all) in
    ap (λ (ss : List Segment). ss ++ open_segment (contents_of g rows) ∷ []) (read_full full parts.0)
    ∙ ap (λ (s : Segment). full ++ s ∷ []) (made_is g (cut_rows rows).last (open_of g rows are)) ∙ sym (pushed g rows)

contents_are : (g : List ℕ) (rows : List SetRow) → AreOf g rows → AllByRecursion IsSegment (map (segment_of g) (row_pieces rows)) → AreContents (contents_of g rows)
contents_are g rows are all =
    let full = map (segment_of g) (cut_rows rows).full in
    let parts = split_last full (segment_of g (cut_rows rows).last) (subst (AllByRecursion IsSegment) (pushed g rows) all) in
    record { raw_count = raw_count_of g rows are; segment = subst IsSegment (sym (made_is g (cut_rows rows).last (open_of g rows are))) parts.1 }

octets_are : (g : List ℕ) (rows : List SetRow) → AreOf g rows → group_octets (contents_of g rows) ≡ flat_map segment_octets (map (segment_of g) (row_pieces rows))
octets_are g rows are =
    let full = map (segment_of g) (cut_rows rows).full in
    ap (λ (s : Segment). flat_map segment_octets full ++ segment_octets s) (made_is g (cut_rows rows).last (open_of g rows are))
    ∙ sym (octets_push full (segment_of g (cut_rows rows).last)) ∙ ap (flat_map segment_octets) (sym (pushed g rows))

starts_further : (at k : ℕ) (ss : List Segment) → map (λ start. at + start) (starts_from k ss) ≡ starts_from (at + k) ss
starts_further at k [] = refl
starts_further at k (s ∷ ss) =
    ap (λ (ns : List ℕ). (at + k) ∷ ns) (starts_further at (k + length (segment_octets s)) ss
    ∙ ap (λ (n : ℕ). starts_from n ss) (let e : at + (k + length (segment_octets s)) ≡ (at + k) + length (segment_octets s) = omega arith in e))

starts_are : (at : ℕ) (g : List ℕ) (rows : List SetRow) → group_starts at (contents_of g rows) ≡ starts_from at (map (segment_of g) (row_pieces rows))
starts_are at g rows =
    let full = map (segment_of g) (cut_rows rows).full in
    let last = segment_of g (cut_rows rows).last in
    ap (λ (ns : List ℕ). ns ++ (at + length (flat_map segment_octets full)) ∷ []) (starts_further at 0 full ∙ ap (λ (n : ℕ). starts_from n full) (let e : at + 0 ≡ at = omega arith in e))
    ∙ sym (starts_append at full (last ∷ [])) ∙ ap (starts_from at) (sym (pushed g rows))

count_is : (g : List ℕ) (rows : List SetRow) → length (contents_of g rows).starts + 1 ≡ length (map (segment_of g) (row_pieces rows))
count_is g rows =
    let full = map (segment_of g) (cut_rows rows).full in
    let last = segment_of g (cut_rows rows).last in
    let long = length-starts 0 full in
    let more = length-append full (last ∷ []) in
    (let e : length (starts_from 0 full) + 1 ≡ length (full ++ last ∷ []) = omega (arith, long, more) in e) ∙ ap length (sym (pushed g rows))

-- ---- all groups

abbrev group_of_rows : List SetRow → List ℕ → GroupContents
group_of_rows ts g = contents_of g (filter (is_of_group g) ts)

all_segments : (ts : List SetRow) (gs : List (List ℕ)) → AllByRecursion (HasSegments ts) gs → flat_map segments_in (map (group_of_rows ts) gs) ≡ flat_map (group_segments ts) gs
all_segments ts [] all = refl
all_segments ts (g ∷ gs) all =
    ap (λ (ss : List Segment). ss ++ flat_map segments_in (map (group_of_rows ts) gs)) (segments_again g (filter (is_of_group g) ts) (filter_of g ts) all.0)
    ∙ ap (λ (ss : List Segment). group_segments ts g ++ ss) (all_segments ts gs all.1)

all_are : (ts : List SetRow) (gs : List (List ℕ)) → AllByRecursion (HasSegments ts) gs → AllByRecursion AreContents (map (group_of_rows ts) gs)
all_are ts [] all = tt
all_are ts (g ∷ gs) all = (contents_are g (filter (is_of_group g) ts) (filter_of g ts) all.0, all_are ts gs all.1)

pub all_contents_are : (ts : List SetRow) → AreSetRows ts → AllByRecursion AreContents (all_contents ts)
all_contents_are ts are = all_are ts (groups_of ts) (groups_have_segments ts are)

all_octets : (ts : List SetRow) (gs : List (List ℕ)) → flat_map group_octets (map (group_of_rows ts) gs) ≡ flat_map segment_octets (flat_map (group_segments ts) gs)
all_octets ts [] = refl
all_octets ts (g ∷ gs) =
    ap (λ (octets : List ℕ). octets ++ flat_map group_octets (map (group_of_rows ts) gs)) (octets_are g (filter (is_of_group g) ts) (filter_of g ts))
    ∙ ap (λ (octets : List ℕ). flat_map segment_octets (group_segments ts g) ++ octets) (all_octets ts gs)
    ∙ sym (flat_map-append segment_octets (group_segments ts g) (flat_map (group_segments ts) gs))

starts_of_all : (at : ℕ) (ts : List SetRow) (gs : List (List ℕ)) → all_starts at (map (group_of_rows ts) gs) ≡ starts_from at (flat_map (group_segments ts) gs)
starts_of_all at ts [] = refl
starts_of_all at ts (g ∷ gs) =
    let here = group_segments ts g in
    let len : length (group_octets (group_of_rows ts g)) ≡ length (flat_map segment_octets here) = ap length (octets_are g (filter (is_of_group g) ts) (filter_of g ts)) in
    ap (λ (ns : List ℕ). ns ++ all_starts (at + length (group_octets (group_of_rows ts g))) (map (group_of_rows ts) gs)) (starts_are at g (filter (is_of_group g) ts))
    ∙ ap (λ (n : ℕ). starts_from at here ++ all_starts (at + n) (map (group_of_rows ts) gs)) len
    ∙ ap (λ (ns : List ℕ). starts_from at here ++ ns) (starts_of_all (at + length (flat_map segment_octets here)) ts gs)
    ∙ sym (starts_append at here (flat_map (group_segments ts) gs))

count_of_all : (ts : List SetRow) (gs : List (List ℕ)) → segment_count (map (group_of_rows ts) gs) ≡ length (flat_map (group_segments ts) gs)
count_of_all ts [] = refl
count_of_all ts (g ∷ gs) =
    let one = count_is g (filter (is_of_group g) ts) in
    let more = count_of_all ts gs in
    let both = length-append (group_segments ts g) (flat_map (group_segments ts) gs) in
    omega (arith, one, more, both)

-- ---- the groups of a builder

pub groups_keep : (groups : List Group) (ts : List SetRow) → AreSetRows ts → map group_contents groups ≡ all_contents ts → rows_in_groups groups ≡ ts
unfolding rows_in_groups
groups_keep groups ts are is =
    ap rows_of_segments (sym (flat_map-map segments_in group_contents groups) ∙ ap (flat_map segments_in) is ∙ all_segments ts (groups_of ts) (groups_have_segments ts are)) ∙ rows_again_in_order ts are

pub groups_are : (numbered : List (List ℕ)) (groups : List Group) (ts : List SetRow) → AreSetRows ts → map group_contents groups ≡ all_contents ts → numbered ≡ map (λ g. g.parameters.items) groups → AreGroups numbered groups
groups_are numbered groups ts are is numbers =
    let back = groups_keep groups ts are is in
    record { rows = subst AreSetRows (sym back) are; contents = is ∙ ap all_contents (sym back); numbered = numbers }

-- a row more
pub row_more : (groups more : List Group) (ts : List SetRow) (t : SetRow) → map group_contents groups ≡ all_contents ts → map group_contents more ≡ with_set_row (map group_contents groups) t → map group_contents more ≡ all_contents (ts ++ t ∷ [])
row_more groups more ts t is step = step ∙ ap (λ (cs : List GroupContents). with_set_row cs t) is ∙ sym (contents_step ts t)

parameters_again : (ts : List SetRow) (gs : List (List ℕ)) → map (λ c. c.parameters) (map (group_of_rows ts) gs) ≡ gs
parameters_again ts [] = refl
parameters_again ts (g ∷ gs) = ap (λ (hs : List (List ℕ)). g ∷ hs) (parameters_again ts gs)

-- no two groups have the same parameters
pub numbers_distinct : (numbered : List (List ℕ)) (groups : List Group) → AreGroups numbered groups → IsDistinct (pointwise nat_eq) numbered
numbers_distinct numbered groups are =
    let ts = rows_in_groups groups in
    let is : numbered ≡ groups_of ts = are.numbered ∙ seen_parameters groups ∙ ap (map (λ (c : GroupContents). c.parameters)) are.contents ∙ parameters_again ts (groups_of ts) in
    subst (IsDistinct (pointwise nat_eq)) (sym is) (groups_distinct ts)

pub contents_kept : (numbered : List (List ℕ)) (groups : List Group) → AreGroups numbered groups → AllByRecursion AreContents (map group_contents groups)
contents_kept numbered groups are = subst (AllByRecursion AreContents) (sym are.contents) (all_contents_are (rows_in_groups groups) are.rows)

-- ---- the set of the groups

pub number_length : (n : ℕ) → length (number w32 n) ≡ 4
unfolding number
number_length n = refl

whole_is : (rows : List SetRow) → number w32 (length (set_of rows)) ++ flat_map segment_octets (set_of rows) ≡ set_octets rows
unfolding set_octets counted
whole_is rows = refl

-- the octets of their segments, behind their number, are the spelling of their rows
octets_of_groups : (groups : List Group) (ts : List SetRow) (octets : List ℕ) (count : ℕ) → map group_contents groups ≡ all_contents ts → count ≡ segment_count (map group_contents groups) →
    octets ≡ number w32 count ++ flat_map group_octets (map group_contents groups) → (octets ≡ set_octets ts) × (count ≡ length (set_of ts))
octets_of_groups groups ts octets count is counted spelled =
    let total : count ≡ length (set_of ts) = counted ∙ ap segment_count is ∙ count_of_all ts (groups_of ts) in (
      spelled ∙ ap (λ (n : ℕ). number w32 n ++ flat_map group_octets (map group_contents groups)) total
          ∙ ap (λ (xs : List ℕ). number w32 (length (set_of ts)) ++ xs) (ap (flat_map group_octets) is ∙ all_octets ts (groups_of ts)) ∙ whole_is ts,
      total,
    )

pub set_spelled : (groups : List Group) (ts : List SetRow) (octets starts : List ℕ) (count : ℕ) → AreSetRows ts → map group_contents groups ≡ all_contents ts → count < 2 ^ 32 → count ≡ segment_count (map group_contents groups) →
    octets ≡ number w32 count ++ flat_map group_octets (map group_contents groups) → starts ≡ all_starts (length (number w32 count)) (map group_contents groups) → IsSpelledSet octets starts
set_spelled groups ts octets starts count are is few counted spelled at =
    let e = octets_of_groups groups ts octets count is counted spelled in
    spelled_set ts octets starts are (subst (λ n. n < 2 ^ 32) e.1 few) e.0
    (at ∙ ap (λ (n : ℕ). all_starts n (map group_contents groups)) (number_length count) ∙ ap (all_starts 4) is ∙ starts_of_all 4 ts (groups_of ts))

-- and they are read as these rows
pub set_read : (groups : List Group) (ts : List SetRow) (octets : List ℕ) (count : ℕ) → AreSetRows ts → map group_contents groups ≡ all_contents ts → count < 2 ^ 32 → count ≡ segment_count (map group_contents groups) →
    octets ≡ number w32 count ++ flat_map group_octets (map group_contents groups) → rows_in_octets octets ≡ ts
set_read groups ts octets count are is few counted spelled =
    let e = octets_of_groups groups ts octets count is counted spelled in
    ap rows_in_octets e.0 ∙ read_again ts are (subst (λ n. n < 2 ^ 32) e.1 few)

-- ---- a row that is added or refused

rows_by_contents : (groups more : List Group) → map group_contents more ≡ map group_contents groups → rows_in_groups more ≡ rows_in_groups groups
unfolding rows_in_groups
rows_by_contents groups more is =
    ap rows_of_segments (sym (flat_map-map segments_in group_contents more) ∙ ap (flat_map segments_in) is ∙ flat_map-map segments_in group_contents groups)

pub push_keeps : {E : Type 0} (result : Result (Unit {0}) E) (numbered further : List (List ℕ)) (groups more : List Group) (t : SetRow) → AreGroups numbered groups → AreSetRows (rows_in_groups groups ++ t ∷ []) →
    OnOk result (map group_contents more ≡ with_set_row (map group_contents groups) t) → OnErr result (map group_contents more ≡ map group_contents groups) → further ≡ map (λ g. g.parameters.items) more → AreGroups further more
push_keeps (Ok u) numbered further groups more t are rows ok err numbers = groups_are further more (rows_in_groups groups ++ t ∷ []) rows (row_more groups more (rows_in_groups groups) t are.contents ok) numbers
push_keeps (Err e) numbered further groups more t are rows ok err numbers = groups_are further more (rows_in_groups groups) are.rows (err ∙ are.contents) numbers

pub push_adds : {E : Type 0} (result : Result (Unit {0}) E) (numbered : List (List ℕ)) (groups more : List Group) (t : SetRow) → AreGroups numbered groups → AreSetRows (rows_in_groups groups ++ t ∷ []) →
    OnOk result (map group_contents more ≡ with_set_row (map group_contents groups) t) → OnOk result (rows_in_groups more ≡ rows_in_groups groups ++ t ∷ [])
push_adds (Ok u) numbered groups more t are rows ok = groups_keep more (rows_in_groups groups ++ t ∷ []) rows (row_more groups more (rows_in_groups groups) t are.contents ok)
push_adds (Err e) numbered groups more t are rows ok = tt

pub push_leaves : {E : Type 0} (result : Result (Unit {0}) E) (groups more : List Group) → OnErr result (map group_contents more ≡ map group_contents groups) → OnErr result (rows_in_groups more ≡ rows_in_groups groups)
push_leaves (Ok u) groups more err = tt
push_leaves (Err e) groups more err = rows_by_contents groups more err

-- ---- no row yet

pub no_rows : AreSetRows []
unfolding IsStrictlySortedBy
no_rows = record { each = tt; rising = tt }
