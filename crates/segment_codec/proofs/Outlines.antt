-- The range of a column, and the outline of a segment, are read as the column and the segment are.
use Rattle.std.proofs.Common.{◌≡◌, ◌∙◌, ℕ, zero, suc, ℤ, pos, ◌+◌, ◌-◌, ◌*◌, ◌/◌, ◌%◌, ◌<◌, ◌≤◌, ◌^◌, Bool, true, false, cond, eqb, ◌&&◌, List, [], ◌∷◌, ◌++◌, append_assoc, length, take, take_all, drop, get_or, Option, Some, None, FitsSigned, inl, refl, sym, ap, subst, arith}
use Rattle.std.specs.Prelude.{◌+ℤ◌, ◌-ℤ◌, ◌≤ℤ◌, flat_map, fold, IfSome, int_lt, map, max, replicate}
use Rattle.std.specs.Int.{w8, w16, w128, int_max, int_min}
use Rattle.std.specs.Int.RustNames.{unsigned_abs}
use Rattle.std.specs.List.{list_any}
use Rattle.std.proofs.lemmas.Bool.{le-leb, le-ltb, lt-ltb}
use Rattle.std.proofs.lemmas.Int.{clamps, ints}
use Rattle.std.proofs.lemmas.List.{drop_all, length-take-le}
use Rattle.octet_fields.specs.declared.fault.DecodeError.{DecodeError}
use Rattle.octet_fields.specs.declared.fault.DecodeError.TheVariants as errors
use Rattle.octet_fields.specs.Answers.{Fails}
use Rattle.octet_fields.specs.Exact.{IsOctets}
use Rattle.octet_fields.specs.Spelling.{counted, number}
use Rattle.octet_fields.specs.Reading.{Reader, ◌>>=◌, both_at, mapped_at, number_at, signed_at, tested_at, times_at}
use Rattle.octet_fields.proofs.Exact.{bind_some, some_is}
use Rattle.octet_fields.proofs.Numbers.{exact16, exact_counted16}
use Rattle.arch_types.specs.declared.key.Key.{Key}
use Rattle.segment_codec.specs.Bits.{digits_of, number_from_digits, octet_count, packed_at, spare_bits}
use Rattle.segment_codec.specs.KeyColumn.{first_key_at, key_after_at, key_column, keys_after_at, keys_at}
use Rattle.segment_codec.specs.Outline.{IsOutlineOf, front_segment, key_ends, keys_of, last_of, outline, outline_at, outline_of, range_at, range_of, scanned, segment_read, value_range, varied_range_at}
use Rattle.segment_codec.specs.RawColumn.{ColumnParts, bit_len, column_parts_at, greatest, is_tight, is_width, raw_column, raw_column_at, same_at, unpacked, value_above, values_of_parts}
use Rattle.segment_codec.specs.Segment.{HasSegmentAt, IsSegment, SegmentParts, parameters_at, row_count_at, segment_at, segment_octets, segment_of_parts}
use Rattle.segment_codec.specs.declared.column_range.ColumnRange.{ColumnRange}
use Rattle.segment_codec.specs.declared.column_range.Scanned.{Scanned}
use Rattle.segment_codec.specs.declared.key_column.KeyEnds.{KeyEnds}
use Rattle.segment_codec.specs.declared.outline.OutlineParts.{OutlineParts}
use Rattle.segment_codec.specs.declared.segment.Segment.{Segment}
use Rattle.segment_codec.specs.declared.unpack.Unpacked.{Unpacked}
use Rattle.segment_codec.proofs.Columns.{all_same, and_true, any_among, fits_between, high_of, least_is, raised_above, refl_le, tight_as, value_fits}
use Rattle.segment_codec.proofs.Keys.{in_order_rise}
use Rattle.segment_codec.proofs.Packing.{AreUnpacked, all_read}
use Rattle.segment_codec.proofs.Places.{read_at, stands_at}
use Rattle.segment_codec.proofs.Segments.{keys_exact, row_count_exact, true_rows}

-- ---- what is kept of numbers

seen_as : (w n : ℕ) (octets rest numbers : List ℕ) → packed_at w n octets ≡ Some (numbers, rest) → mapped_at scanned (packed_at w n) octets ≡ Some (scanned numbers, rest)
seen_as w n octets rest numbers e = rw e refl

-- numbers that were unpacked were scanned
pub scanned_of : (w n : ℕ) (octets rest : List ℕ) (low : ℤ) (values : List ℤ) (top : ℕ) (has : Bool) → (let kept : Unpacked = record { values = values; top = top; has_zero = has } in mapped_at (unpacked low) (packed_at w n) octets ≡ Some (kept, rest)) →
    (let kept : Scanned = record { top = top; has_zero = has } in mapped_at scanned (packed_at w n) octets ≡ Some (kept, rest))
scanned_of w n octets rest low values top has e =
    let kept : Unpacked = record { values = values; top = top; has_zero = has } in
    let p = bind_some (packed_at w n octets) (λ x. Some (unpacked low x.0, x.1)) (kept, rest) e in
    let made : Unpacked × List ℕ = (unpacked low p.0.0, p.0.1) in
    let same = some_is made (kept, rest) p.2 in
    seen_as w n octets p.0.1 p.0.0 p.1 ∙ ap (λ (x : Unpacked × List ℕ). let seen : Scanned = record { top = x.0.top; has_zero = x.0.has_zero } in Some (seen, x.1)) same

pub none_scanned : (w n : ℕ) (octets : List ℕ) → packed_at w n octets ≡ None → mapped_at scanned (packed_at w n) octets ≡ None
none_scanned w n octets none = rw none refl

-- what a loop over all numbers of octets ends with
pub scan_ends : (w i n : ℕ) (octets rest : List ℕ) (b c : ℕ) (values : List ℤ) (top : ℕ) (has : Bool) (numbers : List ℕ) → length octets ≡ octet_count (w * n) → i ≡ n → b < 2 ^ c → c + 8 * length rest + w * i ≡ 8 * octet_count (w * n) →
    AreUnpacked w (pos 0) i (c + 8 * length rest) (b * 2 ^ (8 * length rest) + number_from_digits 8 rest) (number_from_digits 8 octets) values top has numbers → packed_at w n octets ≡ cond (eqb b 0) (Some (numbers, [])) None
scan_ends w i n octets rest b c values top has numbers len all below bits are =
    let k = octet_count (w * n) in
    let whole : take k octets ≡ octets = take_all k octets (omega (arith, len)) in
    let none : drop k octets ≡ [] = drop_all k octets (omega (arith, len)) in
    let e = all_read w n octets numbers rest b c (omega (arith, len)) (are.count ∙ all) are.below below (subst (λ (j : ℕ). c + 8 * length rest + w * j ≡ 8 * k) all bits) (are.ahead ∙ ap (number_from_digits 8) (sym whole)) in
    e ∙ ap (λ (after : List ℕ). cond (eqb b 0) (Some (numbers, after)) None) none

front_cases : (b : Bool) (numbers after other : List ℕ) → (◌>>=◌ {A = List ℕ × List ℕ} {B = Scanned × List ℕ} (cond b (Some (numbers, after)) None) (λ a. Some (scanned a.0, a.1)))
    ≡ (◌>>=◌ {A = Scanned × List ℕ} {B = Scanned × List ℕ} (◌>>=◌ {A = List ℕ × List ℕ} {B = Scanned × List ℕ} (cond b (Some (numbers, other)) None) (λ a. Some (scanned a.0, a.1))) (λ x. Some (x.0, after)))
front_cases true numbers after other = refl
front_cases false numbers after other = refl

-- numbers are scanned as in the octets that they take alone
scanned_in_front : (w n : ℕ) (octets front : List ℕ) → octet_count (w * n) ≤ length octets → front ≡ take (octet_count (w * n)) octets →
    mapped_at scanned (packed_at w n) octets ≡ (◌>>=◌ {A = Scanned × List ℕ} {B = Scanned × List ℕ} (mapped_at scanned (packed_at w n) front) (λ x. Some (x.0, drop (octet_count (w * n)) octets)))
unfolding packed_at
scanned_in_front w n octets front long is =
    let k = octet_count (w * n) in
    let len : length front ≡ k = ap length is ∙ length-take-le k octets long in
    let whole : take k front ≡ take k octets = take_all k front (omega (arith, len)) ∙ is in
    let number = number_from_digits 8 (take k octets) in
    let unit = 2 ^ spare_bits (w * n) in
    rw (le-ltb (length octets) k long, le-ltb (length front) k (omega (arith, len)), whole) (front_cases (eqb (number % unit) 0) (digits_of w n (number / unit)) (drop k octets) (drop k front))

pub front_scanned : (w n : ℕ) (octets front : List ℕ) (kept : Scanned) → octet_count (w * n) ≤ length octets → front ≡ take (octet_count (w * n)) octets → mapped_at scanned (packed_at w n) front ≡ Some (kept, []) →
    mapped_at scanned (packed_at w n) octets ≡ Some (kept, drop (octet_count (w * n)) octets)
front_scanned w n octets front kept long is e = scanned_in_front w n octets front long is ∙ ap (λ (o : Option (Scanned × List ℕ)). ◌>>=◌ {A = Scanned × List ℕ} {B = Scanned × List ℕ} o (λ x. Some (x.0, drop (octet_count (w * n)) octets))) e

pub front_fails : (w n : ℕ) (octets front : List ℕ) (fault : DecodeError) → octet_count (w * n) ≤ length octets → front ≡ take (octet_count (w * n)) octets → Fails fault (mapped_at scanned (packed_at w n) front) → Fails fault (mapped_at scanned (packed_at w n) octets)
front_fails w n octets front errors.OutOfMemory long is fails = fails
front_fails w n octets front errors.Malformed long is fails = scanned_in_front w n octets front long is ∙ ap (λ (o : Option (Scanned × List ℕ)). ◌>>=◌ {A = Scanned × List ℕ} {B = Scanned × List ℕ} o (λ x. Some (x.0, drop (octet_count (w * n)) octets))) fails

-- ---- the range of values above a least one

greater : (low : ℤ) (a b : ℕ) → int_max (low +ℤ pos a) (low +ℤ pos b) ≡ low +ℤ pos (max a b)
greater low a b = omega (arith, ints, clamps)

most_above : (low : ℤ) (a : ℕ) (ds : List ℕ) → fold int_max (low +ℤ pos a) (map (λ d. low +ℤ pos d) ds) ≡ low +ℤ pos (fold max a ds)
most_above low a [] = refl
most_above low a (d ∷ ds) = ap (λ (z : ℤ). fold int_max z (map (λ x. low +ℤ pos x) ds)) (greater low a d) ∙ most_above low (max a d) ds

above_least : (low : ℤ) (d : ℕ) → low ≤ℤ (low +ℤ pos d)
above_least low d = omega (arith, ints)

from_none : (d : ℕ) → max 0 d ≡ d
from_none d = omega arith

raised_range : (low : ℤ) (ds : List ℕ) → list_any (λ d. eqb d 0) ds ≡ true → range_of (map (λ d. low +ℤ pos d) ds) ≡ value_range low (low +ℤ pos (greatest ds))
raised_range low [] e = absurd cc
raised_range low (d ∷ ds) e =
    let values = map (λ x. low +ℤ pos x) ds in
    let least : fold int_min (low +ℤ pos d) values ≡ low = least_is low (low +ℤ pos d) values (above_least low d) (raised_above low ds) (any_among low (d ∷ ds) e) in
    let most : fold int_max (low +ℤ pos d) values ≡ low +ℤ pos (greatest (d ∷ ds)) = most_above low d ds ∙ ap (λ (n : ℕ). low +ℤ pos (fold max n ds)) (sym (from_none d)) in
    ap (λ (z : ℤ). value_range z (fold int_max (low +ℤ pos d) values)) least ∙ ap (value_range low) most

same_most : (v : ℤ) → int_max v v ≡ v
same_most v = omega (arith, ints, clamps)

most_same : (v : ℤ) (m : ℕ) → fold int_max v (replicate m v) ≡ v
most_same v zero = refl
most_same v (suc m) = ap (λ (z : ℤ). fold int_max z (replicate m v)) (same_most v) ∙ most_same v m

same_range : (v : ℤ) (n : ℕ) → 1 ≤ n → range_of (replicate n v) ≡ value_range v v
same_range v zero some = absurd (omega (arith, some))
same_range v (suc m) some =
    let least : fold int_min v (replicate m v) ≡ v = least_is v v (replicate m v) (refl_le v) (all_same v m) (inl refl) in
    ap (λ (z : ℤ). value_range z (fold int_max v (replicate m v))) least ∙ ap (value_range v) (most_same v m)

-- ---- a column's range, by its form

pub range_same : (rows : ℕ) (octets r1 r2 : List ℕ) (low : ℤ) → 1 ≤ rows → number_at w8 octets ≡ Some (0, r1) → signed_at w128 r1 ≡ Some (low, r2) → range_at rows octets ≡ Some (value_range low low, r2)
unfolding range_at raw_column_at same_at
range_same rows octets r1 r2 low some form value = rw (form, value) (ap (λ (r : ColumnRange). Some (r, r2)) (same_range low rows some))

abbrev Varied : Type 0
Varied = (ℕ × List ℕ) × List ℕ

tight_cases : (low : ℤ) (p : Varied) (b : Bool) → is_tight (low, p.0) ≡ b →
    (◌>>=◌ {A = List ℤ × List ℕ} {B = ColumnRange × List ℕ} (◌>>=◌ {A = ColumnParts × List ℕ} {B = List ℤ × List ℕ} (cond b (Some ((low, p.0), p.1)) None) (λ a. Some (values_of_parts a.0, a.1))) (λ a. Some (range_of a.0, a.1)))
    ≡ (◌>>=◌ {A = Varied} {B = ColumnRange × List ℕ} (cond b (Some p) None) (λ a. Some (value_range low (low +ℤ pos (greatest a.0.1)), a.1)))
tight_cases low p false e = refl
tight_cases low p true e =
    let zero = (and_true (list_any (λ d. eqb d 0) p.0.1) (eqb (bit_len (greatest p.0.1)) p.0.0 && int_lt (low +ℤ pos (greatest p.0.1)) (pos (2 ^ 127))) e).0 in
    ap (λ (r : ColumnRange). Some (r, p.1)) (raised_range low p.0.1 zero)

varied_cases : (low : ℤ) (read : Option Varied) →
    (◌>>=◌ {A = List ℤ × List ℕ} {B = ColumnRange × List ℕ} (◌>>=◌ {A = ColumnParts × List ℕ} {B = List ℤ × List ℕ} (◌>>=◌ {A = ColumnParts × List ℕ} {B = ColumnParts × List ℕ} (◌>>=◌ {A = Varied} {B = ColumnParts × List ℕ} read (λ b. Some ((low, b.0), b.1))) (λ a. cond (is_tight a.0) (Some a) None)) (λ a. Some (values_of_parts a.0, a.1))) (λ a. Some (range_of a.0, a.1)))
    ≡ (◌>>=◌ {A = Varied} {B = ColumnRange × List ℕ} (◌>>=◌ {A = Varied} {B = Varied} read (λ a. cond (is_tight (low, a.0)) (Some a) None)) (λ a. Some (value_range low (low +ℤ pos (greatest a.0.1)), a.1)))
varied_cases low None = refl
varied_cases low (Some p) = tight_cases low p (is_tight (low, p.0)) refl

pub range_varied : (rows : ℕ) (octets r1 r2 : List ℕ) (low : ℤ) → number_at w8 octets ≡ Some (1, r1) → signed_at w128 r1 ≡ Some (low, r2) → range_at rows octets ≡ varied_range_at rows low r2
unfolding range_at raw_column_at column_parts_at varied_range_at
range_varied rows octets r1 r2 low form value = rw (form, value) (varied_cases low (both_at (tested_at is_width (number_at w8)) (λ width. packed_at width rows) r2))

-- where no value stands behind the form there's no column
pub range_none : (rows : ℕ) (octets r1 : List ℕ) (form : ℕ) → number_at w8 octets ≡ Some (form, r1) → signed_at w128 r1 ≡ None → range_at rows octets ≡ None
unfolding range_at raw_column_at same_at column_parts_at
range_none rows octets r1 form read none = rw (read, none) (neither (eqb form 0) (eqb form 1))
  where
    neither : (a b : Bool) → ◌>>=◌ {A = List ℤ × List ℕ} {B = ColumnRange × List ℕ} (cond a None (cond b None None)) (λ x. Some (range_of x.0, x.1)) ≡ None
    neither true b = refl
    neither false true = refl
    neither false false = refl

-- ---- what a column of form 1 is read as, by what was kept of its differences

abbrev pub is_tight_by : ℤ → ℕ → Scanned → Bool
is_tight_by low w kept = kept.has_zero && (eqb (bit_len kept.top) w && int_lt (low +ℤ pos kept.top) (pos (2 ^ 127)))

settled : (low : ℤ) (p : Varied) (b : Bool) → (◌>>=◌ {A = Varied} {B = ColumnRange × List ℕ} (cond b (Some p) None) (λ a. Some (value_range low (low +ℤ pos (greatest a.0.1)), a.1))) ≡ cond b (Some (value_range low (low +ℤ pos (greatest p.0.1)), p.1)) None
settled low p true = refl
settled low p false = refl

read_by : (rows : ℕ) (octets r1 r2 : List ℕ) (low : ℤ) (w : ℕ) (ds : List ℕ) → number_at w8 octets ≡ Some (w, r1) → is_width w ≡ true → packed_at w rows r1 ≡ Some (ds, r2) →
    varied_range_at rows low octets ≡ cond (is_tight (low, (w, ds))) (Some (value_range low (low +ℤ pos (greatest ds)), r2)) None
unfolding varied_range_at
read_by rows octets r1 r2 low w ds a width d = rw (a, width, d) (settled low ((w, ds), r2) (is_tight (low, (w, ds))))

pub read_range : (rows : ℕ) (octets r1 r2 : List ℕ) (low : ℤ) (w : ℕ) (kept : Scanned) → number_at w8 octets ≡ Some (w, r1) → 1 ≤ w → w ≤ 128 → mapped_at scanned (packed_at w rows) r1 ≡ Some (kept, r2) →
    varied_range_at rows low octets ≡ cond (is_tight_by low w kept) (Some (value_range low (low +ℤ pos kept.top), r2)) None
read_range rows octets r1 r2 low w kept a one most d =
    let p = bind_some (packed_at w rows r1) (λ x. Some (scanned x.0, x.1)) (kept, r2) d in
    let made : Scanned × List ℕ = (scanned p.0.0, p.0.1) in
    let width : is_width w ≡ true = rw (lt-ltb 0 w (omega (arith, one)), le-leb w 128 most) refl in
    subst (λ (y : Scanned × List ℕ). varied_range_at rows low octets ≡ cond (is_tight_by low w y.0) (Some (value_range low (low +ℤ pos y.0.top), y.1)) None) (some_is made (kept, r2) p.2)
    (read_by rows octets r1 p.0.1 low w p.0.0 a width p.1)

pub tight_by : (low : ℤ) (w : ℕ) (kept : Scanned) → FitsSigned w128 low → kept.has_zero ≡ true → bit_len kept.top ≡ w → kept.top ≤ unsigned_abs (pos (2 ^ 127 - 1) -ℤ low) → is_tight_by low w kept ≡ true
tight_by low w kept h some width le = tight_as low w (record { values = []; top = kept.top; has_zero = kept.has_zero }) h some width le

-- the greatest value, as the code adds it
pub greatest_is : (low : ℤ) (top : ℕ) → FitsSigned w128 low → top ≤ unsigned_abs (pos (2 ^ 127 - 1) -ℤ low) → value_above low top ≡ low +ℤ pos top
greatest_is low top h le = value_fits low top h (fits_between low top top h (high_of low top h le) (omega arith))

-- ---- ranges of columns

more_mapped : {A B : Type 0} (f : A → B) (a : A) (more : Option (List A × List ℕ)) →
    (◌>>=◌ {A = List B × List ℕ} {B = List B × List ℕ} (◌>>=◌ {A = List A × List ℕ} {B = List B × List ℕ} more (λ x. Some (map f x.0, x.1))) (λ x. Some (f a ∷ x.0, x.1)))
    ≡ (◌>>=◌ {A = List A × List ℕ} {B = List B × List ℕ} (◌>>=◌ {A = List A × List ℕ} {B = List A × List ℕ} more (λ x. Some (a ∷ x.0, x.1))) (λ x. Some (map f x.0, x.1)))
more_mapped f a None = refl
more_mapped f a (Some x) = refl

first_mapped : {A B : Type 0} (f : A → B) (first : Option (A × List ℕ)) (left : List ℕ → Option (List B × List ℕ)) (right : List ℕ → Option (List A × List ℕ)) →
    ((o : List ℕ) → left o ≡ ◌>>=◌ {A = List A × List ℕ} {B = List B × List ℕ} (right o) (λ x. Some (map f x.0, x.1))) →
    (◌>>=◌ {A = B × List ℕ} {B = List B × List ℕ} (◌>>=◌ {A = A × List ℕ} {B = B × List ℕ} first (λ a. Some (f a.0, a.1))) (λ a. ◌>>=◌ {A = List B × List ℕ} {B = List B × List ℕ} (left a.1) (λ more. Some (a.0 ∷ more.0, more.1))))
    ≡ (◌>>=◌ {A = List A × List ℕ} {B = List B × List ℕ} (◌>>=◌ {A = A × List ℕ} {B = List A × List ℕ} first (λ a. ◌>>=◌ {A = List A × List ℕ} {B = List A × List ℕ} (right a.1) (λ more. Some (a.0 ∷ more.0, more.1)))) (λ x. Some (map f x.0, x.1)))
first_mapped f None left right same = refl
first_mapped {A} {B} f (Some a) left right same =
    ap (λ (more : Option (List B × List ℕ)). ◌>>=◌ {A = List B × List ℕ} {B = List B × List ℕ} more (λ x. Some (f a.0 ∷ x.0, x.1))) (same a.1) ∙ more_mapped f a.0 (right a.1)

-- what is made of each of so many values that are read is read at once
times_mapped : {A B : Type 0} (f : A → B) (read : Reader A) (n : ℕ) (octets : List ℕ) → times_at (mapped_at f read) n octets ≡ mapped_at (map f) (times_at read n) octets
unfolding times_at
times_mapped f read zero octets = refl
times_mapped f read (suc n) octets = first_mapped f (read octets) (times_at (mapped_at f read) n) (times_at read n) (times_mapped f read n)

ranges_mapped : (rows n : ℕ) (octets : List ℕ) → times_at (range_at rows) n octets ≡ mapped_at (map range_of) (times_at (raw_column_at rows) n) octets
unfolding range_at
ranges_mapped rows n octets = times_mapped range_of (raw_column_at rows) n octets

-- ---- a segment's outline

abbrev segment_with : List ℕ → List Key → List (List ℤ) → Segment
segment_with parameters keys columns = record { parameters = parameters; keys = keys; columns = columns }

segment_by : (octets r1 r2 r3 r4 : List ℕ) (parameters : List ℕ) (rows : ℕ) (keys : List Key) (columns : List (List ℤ)) → parameters_at octets ≡ Some (parameters, r1) → row_count_at r1 ≡ Some (rows, r2) → keys_at rows r2 ≡ Some (keys, r3) →
    times_at (raw_column_at rows) (length parameters) r3 ≡ Some (columns, r4) → segment_at octets ≡ Some (segment_with parameters keys columns, r4)
unfolding segment_at
segment_by octets r1 r2 r3 r4 parameters rows keys columns a b c d = rw (a, b, c, d) refl

ranges_read : (rows n : ℕ) (octets rest : List ℕ) (columns : List (List ℤ)) → times_at (raw_column_at rows) n octets ≡ Some (columns, rest) → times_at (range_at rows) n octets ≡ Some (map range_of columns, rest)
ranges_read rows n octets rest columns e = ranges_mapped rows n octets ∙ rw e refl

outline_by : (octets r1 r2 r3 r4 : List ℕ) (parameters : List ℕ) (rows : ℕ) (keys : List Key) (ranges : List ColumnRange) → parameters_at octets ≡ Some (parameters, r1) → row_count_at r1 ≡ Some (rows, r2) → keys_at rows r2 ≡ Some (keys, r3) →
    times_at (range_at rows) (length parameters) r3 ≡ Some (ranges, r4) → outline_at octets ≡ Some ((outline parameters rows (key_ends keys) ranges, keys), r4)
unfolding outline_at
outline_by octets r1 r2 r3 r4 parameters rows keys ranges a b c d = rw (a, b, c, d) refl

-- so many keys are read
keys_after_len : (n : ℕ) (last : Key) (octets : List ℕ) (x : List Key × List ℕ) → keys_after_at n last octets ≡ Some x → length x.0 ≡ n
keys_after_len zero last octets x e =
    let made : List Key × List ℕ = ([], octets) in
    ap (λ (y : List Key × List ℕ). length y.0) (sym (some_is made x e))
keys_after_len (suc n) last octets x e =
    let p = bind_some (key_after_at last octets) (λ k. keys_after_at n k.0 k.1 >>= λ more. Some (k.0 ∷ more.0, more.1)) x e in
    let q = bind_some (keys_after_at n p.0.0 p.0.1) (λ more. Some (p.0.0 ∷ more.0, more.1)) x p.2 in
    let made : List Key × List ℕ = (p.0.0 ∷ q.0.0, q.0.1) in
    ap (λ (y : List Key × List ℕ). length y.0) (sym (some_is made x q.2)) ∙ ap suc (keys_after_len n p.0.0 p.0.1 q.0 q.1)

pub keys_len : (n : ℕ) (octets : List ℕ) (x : List Key × List ℕ) → keys_at n octets ≡ Some x → length x.0 ≡ n
unfolding keys_at
keys_len zero octets x e = absurd cc
keys_len (suc n) octets x e =
    let m = bind_some (both_at first_key_at (λ key. keys_after_at n key) octets) (λ a. Some (a.0.0 ∷ a.0.1, a.1)) x e in
    let p = bind_some (first_key_at octets) _ m.0 m.1 in
    let q = bind_some (keys_after_at n p.0.0 p.0.1) _ m.0 p.2 in
    let first : (Key × List Key) × List ℕ = ((p.0.0, q.0.0), q.0.1) in
    let made : List Key × List ℕ = (m.0.0.0 ∷ m.0.0.1, m.0.1) in
    ap (λ (y : List Key × List ℕ). length y.0) (sym (some_is made x m.2)) ∙ ap (λ (y : (Key × List Key) × List ℕ). suc (length y.0.1)) (sym (some_is first m.0 q.2)) ∙ ap suc (keys_after_len n p.0.0 p.0.1 q.0 q.1)

-- an outline and keys are those of a segment
abbrev pub AreOf : Segment → OutlineParts × List Key → Type 0
AreOf s x = (x.0 ≡ outline_of s) × (x.1 ≡ s.keys)

-- where an outline was read a segment is, and it is the segment's
pub outlined : (octets rest : List ℕ) (x : OutlineParts × List Key) → outline_at octets ≡ Some (x, rest) → (s : Segment) × (segment_at octets ≡ Some (s, rest)) × AreOf s x
unfolding outline_at
outlined octets rest x e =
    let p = bind_some (parameters_at octets) _ (x, rest) e in
    let q = bind_some (row_count_at p.0.1) _ (x, rest) p.2 in
    let r = bind_some (keys_at q.0.0 q.0.1) _ (x, rest) q.2 in
    let t = bind_some (times_at (range_at q.0.0) (length p.0.0) r.0.1) _ (x, rest) r.2 in
    let made : (OutlineParts × List Key) × List ℕ = ((outline p.0.0 q.0.0 (key_ends r.0.0) t.0.0, r.0.0), t.0.1) in
    let same = some_is made (x, rest) t.2 in
    let c = bind_some (times_at (raw_column_at q.0.0) (length p.0.0) r.0.1) (λ y. Some (map range_of y.0, y.1)) t.0 (sym (ranges_mapped q.0.0 (length p.0.0) r.0.1) ∙ t.1) in
    let columns : List ColumnRange × List ℕ = (map range_of c.0.0, c.0.1) in
    let seen = some_is columns t.0 c.2 in
    let s = segment_with p.0.0 r.0.0 c.0.0 in
    let read : segment_at octets ≡ Some (s, c.0.1) = segment_by octets p.0.1 q.0.1 r.0.1 c.0.1 p.0.0 q.0.0 r.0.0 c.0.0 p.1 q.1 r.1 c.1 in
    let end : c.0.1 ≡ rest = ap (λ (y : List ColumnRange × List ℕ). y.1) seen ∙ ap (λ (y : (OutlineParts × List Key) × List ℕ). y.1) same in
    let rows : length r.0.0 ≡ q.0.0 = keys_len q.0.0 q.0.1 r.0 r.1 in
    let whole : outline_of s ≡ outline p.0.0 q.0.0 (key_ends r.0.0) t.0.0 =
    ap (λ (n : ℕ). outline p.0.0 n (key_ends r.0.0) (map range_of c.0.0)) rows ∙ ap (λ (y : List ColumnRange × List ℕ). outline p.0.0 q.0.0 (key_ends r.0.0) y.0) seen in
    (s, read ∙ ap (λ (o : List ℕ). Some (s, o)) end, (sym (whole ∙ ap (λ (y : (OutlineParts × List Key) × List ℕ). y.0.0) same), sym (ap (λ (y : (OutlineParts × List Key) × List ℕ). y.0.1) same)))

-- the outline of a segment is read where the segment is
pub outline_read : (octets rest : List ℕ) (s : Segment) → segment_at octets ≡ Some (s, rest) → outline_at octets ≡ Some ((outline_of s, s.keys), rest)
unfolding segment_at
outline_read octets rest s e =
    let m = bind_some (both_at parameters_at (λ parameters. both_at row_count_at (λ rows. both_at (keys_at rows) (λ _. times_at (raw_column_at rows) (length parameters)))) octets) (λ a. Some (segment_of_parts a.0, a.1)) (s, rest) e in
    let p = bind_some (parameters_at octets) _ m.0 m.1 in
    let pm = bind_some (both_at row_count_at (λ rows. both_at (keys_at rows) (λ _. times_at (raw_column_at rows) (length p.0.0))) p.0.1) _ m.0 p.2 in
    let q = bind_some (row_count_at p.0.1) _ pm.0 pm.1 in
    let qm = bind_some (both_at (keys_at q.0.0) (λ _. times_at (raw_column_at q.0.0) (length p.0.0)) q.0.1) _ pm.0 q.2 in
    let r = bind_some (keys_at q.0.0 q.0.1) _ qm.0 qm.1 in
    let t = bind_some (times_at (raw_column_at q.0.0) (length p.0.0) r.0.1) _ qm.0 r.2 in
    let made1 : (List Key × List (List ℤ)) × List ℕ = ((r.0.0, t.0.0), t.0.1) in
    let made2 : (ℕ × (List Key × List (List ℤ))) × List ℕ = ((q.0.0, qm.0.0), qm.0.1) in
    let made3 : SegmentParts × List ℕ = ((p.0.0, pm.0.0), pm.0.1) in
    let made4 : Segment × List ℕ = (segment_of_parts m.0.0, m.0.1) in
    let e1 = some_is made1 qm.0 t.2 in
    let e2 = some_is made2 pm.0 qm.2 in
    let e3 = some_is made3 m.0 pm.2 in
    let e4 = some_is made4 (s, rest) m.2 in
    let whole : ◌≡◌ {A = Segment × List ℕ} (segment_with p.0.0 r.0.0 t.0.0, t.0.1) (s, rest) =
    ap (λ (y : (List Key × List (List ℤ)) × List ℕ). let z : Segment × List ℕ = (segment_of_parts (p.0.0, (q.0.0, y.0)), y.1) in z) e1
    ∙ ap (λ (y : (ℕ × (List Key × List (List ℤ))) × List ℕ). let z : Segment × List ℕ = (segment_of_parts (p.0.0, y.0), y.1) in z) e2
    ∙ ap (λ (y : SegmentParts × List ℕ). let z : Segment × List ℕ = (segment_of_parts y.0, y.1) in z) e3 ∙ e4 in
    let ranges = ranges_read q.0.0 (length p.0.0) r.0.1 t.0.1 t.0.0 t.1 in
    let rows : q.0.0 ≡ length r.0.0 = sym (keys_len q.0.0 q.0.1 r.0 r.1) in
    let read : outline_at octets ≡ Some ((outline p.0.0 q.0.0 (key_ends r.0.0) (map range_of t.0.0), r.0.0), t.0.1) =
    outline_by octets p.0.1 q.0.1 r.0.1 t.0.1 p.0.0 q.0.0 r.0.0 (map range_of t.0.0) p.1 q.1 r.1 ranges in
    read ∙ ap (λ (n : ℕ). Some ((outline p.0.0 n (key_ends r.0.0) (map range_of t.0.0), r.0.0), t.0.1)) rows ∙ ap (λ (y : Segment × List ℕ). Some ((outline_of y.0, y.0.keys), y.1)) whole

-- ---- at a place

kept_are : (kept : Option (List Key)) (keys own : List Key) → IfSome kept (λ ks. ks ≡ keys) → keys ≡ own → IfSome kept (λ ks. ks ≡ own)
kept_are None keys own is e = tt
kept_are (Some ks) keys own is e = is ∙ e

-- the outline that was read is that of the segment at the front, which stands there, and ends where the rest begins
pub outline_stands : (octets front : List ℕ) (at : ℕ) (x : OutlineParts × List Key) (rest : List ℕ) (kept : Option (List Key)) → at ≤ length octets → IsOctets octets → front ≡ drop at octets → outline_at front ≡ Some (x, rest) → IfSome kept (λ keys. keys ≡ x.1) →
    IsOutlineOf x.0 kept front × HasSegmentAt octets at (front_segment front) × (length octets - length rest ≡ at + length (segment_octets (front_segment front))) × (length rest ≤ length octets)
outline_stands octets front at x rest kept le are is read keeps =
    let o = outlined front rest x read in
    let t = stands_at octets front at o.0 rest le are is o.1 in
    let same : front_segment front ≡ o.0 = ap segment_read o.1 in
    let there : HasSegmentAt octets at (front_segment front) = subst (HasSegmentAt octets at) (sym same) t.0 in (
      record {
        parts = o.2.0 ∙ ap outline_of (sym same);
        keys = kept_are kept x.1 (front_segment front).keys keeps (o.2.1 ∙ ap (λ (s : Segment). s.keys) (sym same));
        stands = (there.0, there.1, is ∙ there.2);
      },
      there,
      t.1 ∙ ap (λ (s : Segment). at + length (segment_octets s)) (sym same),
      t.2,
    )

-- ---- the keys of a segment

keys_of_segment : (s : Segment) (rest : List ℕ) → IsSegment s → keys_of (segment_octets s ++ rest) ≡ Some s.keys
unfolding keys_of segment_octets
keys_of_segment s rest is =
    let ps = s.parameters in
    let n = length s.keys in
    let few = is.few_rows in
    let columns = flat_map raw_column s.columns in
    let tail = key_column s.keys ++ columns in
    let a2 = append_assoc (key_column s.keys) columns rest in
    let a1 = append_assoc (number w16 n) tail rest in
    let a0 = append_assoc (counted w16 (number w16) ps) (number w16 n ++ tail) rest in
    let parameters = (exact_counted16 exact16).again ps ((number w16 n ++ tail) ++ rest) tt (is.few_parameters, is.parameters) in
    let rows = row_count_exact.again n (tail ++ rest) tt (omega arith, true_rows n is.some_rows is.few_rows) in
    let keys = (keys_exact n is.some_rows).again s.keys (columns ++ rest) tt (refl, in_order_rise s.keys is.key_fields is.rising) in
    rw (a0, parameters, a1, rows, a2, keys) refl

-- the keys of the segment that stands at the front are read there
pub front_keys_are : (octets : List ℕ) (s : Segment) (keys : List Key) → HasSegmentAt octets 0 s → keys_of octets ≡ Some keys → keys ≡ s.keys
front_keys_are octets s keys has given = some_is keys s.keys (sym given ∙ ap keys_of has.2 ∙ keys_of_segment s has.1 has.0)

-- the last of keys
pub last_at : (k : Key) (ks : List Key) (d : Key) → last_of (k ∷ ks) ≡ get_or (k ∷ ks) (length ks) d
last_at k [] d = refl
last_at k (j ∷ ks) d = last_at j ks d

pub ends_are : (keys : List Key) (first last d : Key) → 1 ≤ length keys → first ≡ get_or keys 0 d → last ≡ get_or keys (length keys - 1) d → (let ends : KeyEnds = record { first = first; last = last } in ends ≡ key_ends keys)
ends_are [] first last d some a b = absurd (omega (arith, some))
ends_are (k ∷ ks) first last d some a b =
    let n : length (k ∷ ks) - 1 ≡ length ks = omega arith in
    let behind : last ≡ last_of (k ∷ ks) = b ∙ ap (λ (i : ℕ). get_or (k ∷ ks) i d) n ∙ sym (last_at k ks d) in
    ap (λ (x : Key). let ends : KeyEnds = record { first = x; last = last } in ends) a ∙ ap (λ (x : Key). let ends : KeyEnds = record { first = k; last = x } in ends) behind

-- and is the one that stands there
pub front_is : (octets front : List ℕ) (at : ℕ) (s : Segment) → HasSegmentAt octets at s → front ≡ drop at octets → front_segment front ≡ s
front_is octets front at s has is = ap segment_read (read_at octets front at s has is)

outline_there : (octets front : List ℕ) (at : ℕ) (s : Segment) (has : HasSegmentAt octets at s) → front ≡ drop at octets → outline_at front ≡ Some ((outline_of s, s.keys), has.1)
outline_there octets front at s has is = outline_read front has.1 s (read_at octets front at s has is)

pub outline_memory : (octets front : List ℕ) (at : ℕ) (s : Segment) (fault : DecodeError) → HasSegmentAt octets at s → front ≡ drop at octets → Fails fault (outline_at front) → fault ≡ errors.OutOfMemory
outline_memory octets front at s errors.OutOfMemory has is fails = refl
outline_memory octets front at s errors.Malformed has is fails =
    absurd (let bad : ◌≡◌ {A = Option ((OutlineParts × List Key) × List ℕ)} None (Some ((outline_of s, s.keys), has.1)) = sym fails ∙ outline_there octets front at s has is in cc)
