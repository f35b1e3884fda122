-- The set of rows is segments, and its spelling is read as its rows.
use Rattle.std.proofs.Common.{◌≡◌, ◌∙◌, ℕ, zero, suc, ◌<◌, ◌≤◌, ◌^◌, ℤ, List, [], ◌∷◌, ◌++◌, length, map, Bool, true, false, cond, Option, append_assoc, refl, sym, ap, subst, arith}
use Rattle.std.specs.Prelude.{filter, flat_map, fold, replicate, unwrap_or, nat_eq, if◌then◌else◌}
use Rattle.std.specs.List.{AllByRecursion, IsDistinct, list_any}
use lib.Pointwise.{pointwise}
use Rattle.std.specs.Int.{w128}
use Rattle.std.specs.Int.RustNames.{FitsSigned}
use Rattle.std.proofs.lemmas.List.{length-map}
use Rattle.octet_fields.proofs.Exact.{whole_again}
use Rattle.octet_fields.proofs.Numbers.{exact_counted32}
use Rattle.segment_codec.specs.RawColumn.{IsRawColumn}
use Rattle.segment_codec.specs.Segment.{IsSegment}
use Rattle.segment_codec.specs.declared.segment.Segment.{Segment}
use Rattle.segment_codec.proofs.Segments.{segment_exact}
use Rattle.param_segments.specs.Groups.{group_segments, groups_of, is_of_group, raw_columns, row_pieces, segment_of, set_of, with_group, with_raws}
use Rattle.param_segments.specs.Laws.{SetIsSegments, SpellingIsOne}
use Rattle.param_segments.specs.Octets.{IsSpelledSet, rows_in_octets, set_octets, starts_from}
use Rattle.param_segments.specs.Rows.{AreSetRows, IsSetRow, SetRow, is_earlier, row_parameters, row_raws}
use Rattle.param_segments.specs.Segments.{rows_of_segments}
use Rattle.param_segments.proofs.Grouped.{filter_of, itself, rising_rows, rows_again_in_order}
use Rattle.param_segments.proofs.Inverse.{AreOf, flat, length-columns, pieces_joined, split_left}
use Rattle.param_segments.proofs.KeyOrder.{key_fields, keys_rise}
use Rattle.param_segments.proofs.Ordering.{IsRising}
use Rattle.param_segments.proofs.Rereading.{IsPiece, are_pieces}

-- ---- columns

fit_more : (rs : List ℤ) (cs : List (List ℤ)) (n : ℕ) → AllByRecursion (FitsSigned w128) rs → AllByRecursion (IsRawColumn n) cs → AllByRecursion (IsRawColumn (suc n)) (with_raws rs cs)
fit_more [] cs n fit all = tt
fit_more (r ∷ rs) [] n fit all = tt
fit_more (r ∷ rs) (c ∷ cs) n fit all = ((ap suc all.0.0, (fit.0, all.0.1)), fit_more rs cs n fit.1 all.1)

fit_none : (n : ℕ) → AllByRecursion (IsRawColumn 0) (replicate {A = List ℤ} n [])
fit_none zero = tt
fit_none (suc n) = ((refl, tt), fit_none n)

are_columns : (g : List ℕ) (rows : List SetRow) → AllByRecursion IsSetRow rows → AllByRecursion (IsRawColumn (length rows)) (raw_columns (length g) rows)
are_columns g [] all = fit_none (length g)
are_columns g (t ∷ ts) all = fit_more (row_raws t) (raw_columns (length g) ts) (length ts) all.0.raws (are_columns g ts all.1)

-- ---- a segment

pub piece_is : (g : List ℕ) (p : List SetRow) → AreOf g p → AllByRecursion IsSetRow p → IsPiece p → IsRising is_earlier p → IsSegment (segment_of g p)
piece_is g [] of all is up = absurd (omega (arith, is.0))
piece_is g (t ∷ ts) of all is up =
    let rows = t ∷ ts in
    let one = all.0 in
    let len : length t.values ≡ length g = sym (length-map t.values (λ v. v.parameter)) ∙ ap length of.0 in
    let keys : length (map (λ u. u.key) rows) ≡ length rows = length-map rows (λ u. u.key) in
    record {
      some_parameters = omega (arith, one.some, len);
      few_parameters = subst (λ n. n < 2 ^ 16) len one.few;
      parameters = subst (AllByRecursion (λ n. n < 2 ^ 16)) of.0 one.parameters;
      distinct = subst (IsDistinct nat_eq) of.0 one.distinct;
      some_rows = omega (arith, is.0, keys);
      few_rows = omega (arith, is.1, keys);
      key_fields = key_fields rows all;
      rising = keys_rise rows up;
      column_count = length-columns g rows of;
      columns = subst (λ (n : ℕ). AllByRecursion (IsRawColumn n) (raw_columns (length g) rows)) (sym keys) (are_columns g rows all);
    }

-- ---- pieces and groups

pub left_rises : (xs ys : List SetRow) → IsRising is_earlier (xs ++ ys) → IsRising is_earlier xs × IsRising is_earlier ys
left_rises [] ys up = (tt, up)
left_rises (x ∷ xs) ys up = let more = left_rises xs ys up.1 in (((split_left (λ z. is_earlier x z ≡ true) xs ys up.0).0, more.0), more.1)

pieces_are : (g : List ℕ) (ps : List (List SetRow)) → AreOf g (flat ps) → AllByRecursion IsSetRow (flat ps) → AllByRecursion IsPiece ps → IsRising is_earlier (flat ps) → AllByRecursion IsSegment (map (segment_of g) ps)
pieces_are g [] of all is up = tt
pieces_are g (p ∷ ps) of all is up =
    let o = split_left (λ t. row_parameters t ≡ g) p (flat ps) of in
    let a = split_left IsSetRow p (flat ps) all in
    let u = left_rises p (flat ps) up in
    (piece_is g p o.0 a.0 is.0 u.0, pieces_are g ps o.1 a.1 is.1 u.1)

keep_cases : (P : SetRow → Type 0) (z : SetRow) (zs : List SetRow) (b : Bool) → P z → AllByRecursion P zs → AllByRecursion P (cond b (z ∷ zs) zs)
keep_cases P z zs true p all = (p, all)
keep_cases P z zs false p all = all

pub keep : (P : SetRow → Type 0) (q : SetRow → Bool) (zs : List SetRow) → AllByRecursion P zs → AllByRecursion P (filter q zs)
keep P q [] all = tt
keep P q (z ∷ zs) all = keep_cases P z (filter q zs) (q z) all.0 (keep P q zs all.1)

rise_cases : (z : SetRow) (zs : List SetRow) (b : Bool) → AllByRecursion (λ y. is_earlier z y ≡ true) zs → IsRising is_earlier zs → IsRising is_earlier (cond b (z ∷ zs) zs)
rise_cases z zs true all up = (all, up)
rise_cases z zs false all up = up

pub keep_rising : (q : SetRow → Bool) (zs : List SetRow) → IsRising is_earlier zs → IsRising is_earlier (filter q zs)
keep_rising q [] up = tt
keep_rising q (z ∷ zs) up = rise_cases z (filter q zs) (q z) (keep (λ y. is_earlier z y ≡ true) q zs up.0) (keep_rising q zs up.1)

-- each group of these has a row
abbrev HasRow : List SetRow → List (List ℕ) → Type 0
HasRow ts gs = AllByRecursion (λ g. 0 < length (filter (is_of_group g) ts)) gs

-- the segments of a group are segments
abbrev pub HasSegments : List SetRow → List ℕ → Type 0
HasSegments ts g = AllByRecursion IsSegment (group_segments ts g)

group_is : (ts : List SetRow) (g : List ℕ) → AllByRecursion IsSetRow ts → IsRising is_earlier ts → 0 < length (filter (is_of_group g) ts) → HasSegments ts g
group_is ts g all up some =
    let rows = filter (is_of_group g) ts in
    let j = sym (pieces_joined rows) in
    pieces_are g (row_pieces rows) (subst (AreOf g) j (filter_of g ts)) (subst (AllByRecursion IsSetRow) j (keep IsSetRow (is_of_group g) ts all)) (are_pieces rows some) (subst (IsRising is_earlier) j (keep_rising (is_of_group g) ts up))

groups_are : (ts : List SetRow) (gs : List (List ℕ)) → AllByRecursion IsSetRow ts → IsRising is_earlier ts → HasRow ts gs → AllByRecursion (HasSegments ts) gs
groups_are ts [] all up some = tt
groups_are ts (g ∷ gs) all up some = (group_is ts g all up some.0, groups_are ts gs all up some.1)

-- ---- each group has a row

more_kept : (b : Bool) (u : SetRow) (us : List SetRow) → length us ≤ length (cond b (u ∷ us) us)
more_kept true u us = omega arith
more_kept false u us = omega arith

first_kept : (t : SetRow) (ts : List SetRow) (b : Bool) → b ≡ true → 0 < length (cond b (t ∷ ts) ts)
first_kept t ts true e = omega arith
first_kept t ts false e = absurd cc

own_row : (t : SetRow) (front back : List SetRow) → 0 < length (filter (is_of_group (row_parameters t)) (front ++ t ∷ back))
own_row t [] back = first_kept t (filter (is_of_group (row_parameters t)) back) (is_of_group (row_parameters t) t) (itself (row_parameters t))
own_row t (u ∷ us) back =
    let more = own_row t us back in
    let kept = more_kept (is_of_group (row_parameters t) u) u (filter (is_of_group (row_parameters t)) (us ++ t ∷ back)) in
    omega (arith, more, kept)

each_own : (front ts : List SetRow) → AllByRecursion (λ t. 0 < length (filter (is_of_group (row_parameters t)) (front ++ ts))) ts
each_own front [] = tt
each_own front (t ∷ ts) =
    (own_row t front ts, subst (λ (all : List SetRow). AllByRecursion (λ u. 0 < length (filter (is_of_group (row_parameters u)) all)) ts) (append_assoc front (t ∷ []) ts) (each_own (front ++ t ∷ []) ts))

put_group : (all : List SetRow) (gs : List (List ℕ)) (g : List ℕ) → HasRow all gs → 0 < length (filter (is_of_group g) all) → HasRow all (gs ++ g ∷ [])
put_group all [] g has one = (one, tt)
put_group all (h ∷ hs) g has one = (has.0, put_group all hs g has.1 one)

group_cases : (all : List SetRow) (gs : List (List ℕ)) (g : List ℕ) (b : Bool) → HasRow all gs → 0 < length (filter (is_of_group g) all) → HasRow all (if b then gs else gs ++ g ∷ [])
group_cases all gs g true has one = has
group_cases all gs g false has one = put_group all gs g has one

have_rows : (all : List SetRow) (gs : List (List ℕ)) (ts : List SetRow) → HasRow all gs → AllByRecursion (λ t. 0 < length (filter (is_of_group (row_parameters t)) all)) ts → HasRow all (fold with_group gs (map row_parameters ts))
have_rows all gs [] has own = has
have_rows all gs (t ∷ ts) has own = have_rows all (with_group gs (row_parameters t)) ts (group_cases all gs (row_parameters t) (list_any (pointwise nat_eq (row_parameters t)) gs) has own.0) own.1

-- the segments of each group are segments
pub groups_have_segments : (ts : List SetRow) → AreSetRows ts → AllByRecursion (HasSegments ts) (groups_of ts)
groups_have_segments ts are = groups_are ts (groups_of ts) are.each (rising_rows ts are.rising) (have_rows ts [] ts tt (each_own [] ts))

join : (xs ys : List Segment) → AllByRecursion IsSegment xs → AllByRecursion IsSegment ys → AllByRecursion IsSegment (xs ++ ys)
join [] ys all more = more
join (x ∷ xs) ys all more = (all.0, join xs ys all.1 more)

joined : (ts : List SetRow) (gs : List (List ℕ)) → AllByRecursion (HasSegments ts) gs → AllByRecursion IsSegment (flat_map (group_segments ts) gs)
joined ts [] all = tt
joined ts (g ∷ gs) all = join (group_segments ts g) (flat_map (group_segments ts) gs) all.0 (joined ts gs all.1)

-- the set of rows is segments
pub set_is_segments : SetIsSegments
set_is_segments ts are = joined ts (groups_of ts) (groups_have_segments ts are)

-- ---- read back

pub read_again : (ts : List SetRow) → AreSetRows ts → length (set_of ts) < 2 ^ 32 → rows_in_octets (set_octets ts) ≡ ts
unfolding rows_in_octets set_octets
read_again ts are few =
    let read = whole_again (exact_counted32 segment_exact) (set_of ts) tt (few, set_is_segments ts are) in
    ap (λ (o : Option (List Segment)). rows_of_segments (unwrap_or o [])) read ∙ rows_again_in_order ts are

pub one_spelling : SpellingIsOne
one_spelling a b are be few fewer e = sym (read_again a are few) ∙ ap rows_in_octets e ∙ read_again b be fewer

-- what rows are spelled as is a spelled set
pub spelled_set : (ts : List SetRow) (octets starts : List ℕ) → AreSetRows ts → length (set_of ts) < 2 ^ 32 → octets ≡ set_octets ts → starts ≡ starts_from 4 (set_of ts) → IsSpelledSet octets starts
spelled_set ts octets starts are few spelled at =
    let back : rows_in_octets octets ≡ ts = ap rows_in_octets spelled ∙ read_again ts are few in
    record {
      rows = subst AreSetRows (sym back) are;
      spelled = spelled ∙ ap set_octets (sym back);
      places = at ∙ ap (λ (rows : List SetRow). starts_from 4 (set_of rows)) (sym back);
      few = subst (λ (rows : List SetRow). length (set_of rows) < 2 ^ 32) (sym back) few;
    }
