-- What stands of segments while they are read one after the other.
use Rattle.std.proofs.Common.{◌≡◌, ◌∙◌, ℕ, zero, suc, ◌+◌, ◌<◌, ◌≤◌, ◌^◌, List, [], ◌∷◌, ◌++◌, length, take, take_all, drop, drop-cons, get_or, add-one, append_assoc, append-nil, length-append, Option, Some, None, true, sym, ap, arith}
use Rattle.std.specs.Prelude.{flat_map}
use Rattle.std.specs.Int.{w32}
use Rattle.std.specs.List.{AllByRecursion}
use Rattle.std.proofs.Math.Seq.{drop-append_seam, take-suc}
use Rattle.std.proofs.lemmas.List.{drop-drop, drop_all, drop_at}
use Rattle.std.proofs.lemmas.List.Concat.{flat_map-append}
use Rattle.octet_fields.specs.Exact.{IsOctets}
use Rattle.octet_fields.specs.Reading.{number_at}
use Rattle.octet_fields.specs.Spelling.{counted, number}
use Rattle.octet_fields.proofs.Exact.{some_is}
use Rattle.octet_fields.proofs.Numbers.{exact32}
use Rattle.segment_codec.specs.Segment.{HasSegmentAt, segment_octets}
use Rattle.segment_codec.specs.declared.segment.Segment.{Segment}
use Rattle.mdb_items.specs.Database.{Database}
use Rattle.param_segments.specs.RowPlaces.{IsKnownSegment, are_known_parameters}
use Rattle.param_segments.specs.Groups.{set_of}
use Rattle.param_segments.specs.Octets.{set_octets, starts_from}
use Rattle.param_segments.specs.Rows.{SetRow}
use Rattle.param_segments.proofs.Contents.{number_length}
use Rattle.param_segments.proofs.Known.{spelled_as_counted}
use Rattle.param_segments.proofs.Steps.{starts_append}
use Rattle.param_segments.proofs.Starts.{no_segment}

pub each_at : {X : Type 0} (P : X → Type 0) (xs : List X) (i : ℕ) (d : X) → AllByRecursion P xs → i < length xs → P (get_or xs i d)
each_at P [] i d all lt = absurd (omega arith)
each_at P (x ∷ xs) zero d all lt = all.0
each_at P (x ∷ xs) (suc i) d all lt = each_at P xs i d all.1 (omega arith)

-- ---- the loop over segments

-- known segments that stand there, so many, are those that were read as far as they were, and the others stand at a place
abbrev pub AreReadSoFar : Database → ℕ → List ℕ → List Segment → ℕ → ℕ → Type 0
AreReadSoFar db count octets read i at =
    (segments : List Segment) → AllByRecursion (IsKnownSegment db) segments → count ≡ length segments → drop 4 octets ≡ flat_map segment_octets segments →
    (read ≡ take i segments) × (drop at octets ≡ flat_map segment_octets (drop i segments))

pub read_none : (db : Database) (count : ℕ) (octets : List ℕ) (read : List Segment) → read ≡ [] → AreReadSoFar db count octets read 0 4
read_none db count octets read none = λ segments known len there. (none, there)

-- the next one stands there
pub next_stands : (db : Database) (octets : List ℕ) (segments : List Segment) (i at : ℕ) → AllByRecursion (IsKnownSegment db) segments → i < length segments → drop at octets ≡ flat_map segment_octets (drop i segments) →
    HasSegmentAt octets at (get_or segments i no_segment) × (are_known_parameters db (get_or segments i no_segment).parameters ≡ true)
next_stands db octets segments i at known lt there =
    let own = each_at (IsKnownSegment db) segments i no_segment known lt in
    ((own.0, flat_map segment_octets (drop (suc i) segments), there ∙ ap (flat_map segment_octets) (drop-cons segments i no_segment lt)), own.1)

behind_next : (octets : List ℕ) (segments : List Segment) (i at : ℕ) → i < length segments → drop at octets ≡ flat_map segment_octets (drop i segments) → drop (at + length (segment_octets (get_or segments i no_segment))) octets ≡ flat_map segment_octets (drop (i + 1) segments)
behind_next octets segments i at lt there =
    let s = get_or segments i no_segment in
    let rest = flat_map segment_octets (drop (suc i) segments) in
    let here : drop at octets ≡ segment_octets s ++ rest = there ∙ ap (flat_map segment_octets) (drop-cons segments i no_segment lt) in
    sym (drop-drop (length (segment_octets s)) at octets) ∙ ap (drop (length (segment_octets s))) here ∙ drop-append_seam (segment_octets s) rest
    ∙ ap (λ (k : ℕ). flat_map segment_octets (drop k segments)) (sym (add-one i))

-- one more was read
pub read_more : (db : Database) (count : ℕ) (octets : List ℕ) (read new : List Segment) (i at after : ℕ) (s : Segment) → i < count → new ≡ read ++ s ∷ [] → after ≡ at + length (segment_octets s) →
    ((that : Segment) → HasSegmentAt octets at that → are_known_parameters db that.parameters ≡ true → s ≡ that) → AreReadSoFar db count octets read i at → AreReadSoFar db count octets new (i + 1) after
read_more db count octets read new i at after s lt more ends same so_far = λ segments known len there.
    let so = so_far segments known len there in
    let inside : i < length segments = omega (arith, lt, len) in
    let next = next_stands db octets segments i at known inside so.1 in
    let that = get_or segments i no_segment in
    let is : s ≡ that = same that next.0 next.1 in (
      more ∙ ap (λ (xs : List Segment). xs ++ s ∷ []) so.0 ∙ ap (λ (x : Segment). take i segments ++ x ∷ []) is ∙ sym (ap (λ (k : ℕ). take k segments) (add-one i) ∙ take-suc segments i no_segment inside),
      ap (λ (k : ℕ). drop k octets) (ends ∙ ap (λ (x : Segment). at + length (segment_octets x)) is) ∙ behind_next octets segments i at inside so.1,
    )

-- ---- what they were read from

octets_more : (ss : List Segment) (s : Segment) → flat_map segment_octets (ss ++ s ∷ []) ≡ flat_map segment_octets ss ++ segment_octets s
octets_more ss s = flat_map-append segment_octets ss (s ∷ []) ∙ ap (λ (xs : List ℕ). flat_map segment_octets ss ++ xs) (append-nil (segment_octets s))

pub place_more : (ss : List Segment) (s : Segment) (at : ℕ) → at ≡ 4 + length (flat_map segment_octets ss) → at + length (segment_octets s) ≡ 4 + length (flat_map segment_octets (ss ++ s ∷ []))
place_more ss s at is =
    let joined = length-append (flat_map segment_octets ss) (segment_octets s) in
    let whole = ap length (octets_more ss s) in
    omega (arith, joined, whole, is)

pub spelled_more : (octets : List ℕ) (ss : List Segment) (s : Segment) (at end : ℕ) → HasSegmentAt octets at s → end ≡ at + length (segment_octets s) → drop 4 octets ≡ flat_map segment_octets ss ++ drop at octets →
    drop 4 octets ≡ flat_map segment_octets (ss ++ s ∷ []) ++ drop end octets
spelled_more octets ss s at end has ends so_far =
    let rest = has.1 in
    let behind : drop end octets ≡ rest =
    ap (λ (n : ℕ). drop n octets) ends ∙ sym (drop-drop (length (segment_octets s)) at octets) ∙ ap (drop (length (segment_octets s))) has.2 ∙ drop-append_seam (segment_octets s) rest in
    so_far ∙ ap (λ (xs : List ℕ). flat_map segment_octets ss ++ xs) (has.2 ∙ ap (λ (xs : List ℕ). segment_octets s ++ xs) (sym behind))
    ∙ sym (append_assoc (flat_map segment_octets ss) (segment_octets s) (drop end octets)) ∙ ap (λ (xs : List ℕ). xs ++ drop end octets) (sym (octets_more ss s))

-- the place where one more begins
pub starts_more : (ss : List Segment) (s : Segment) (at : ℕ) → at ≡ 4 + length (flat_map segment_octets ss) → starts_from 4 ss ++ at ∷ [] ≡ starts_from 4 (ss ++ s ∷ [])
starts_more ss s at is = ap (λ (n : ℕ). starts_from 4 ss ++ n ∷ []) is ∙ sym (starts_append 4 ss (s ∷ []))

-- octets are the count of segments and these, where they end behind them
pub all_counted : (octets : List ℕ) (ss : List Segment) (read : ℕ × List ℕ) (end : ℕ) → IsOctets octets → number_at w32 octets ≡ Some read → length ss ≡ read.0 → drop 4 octets ≡ flat_map segment_octets ss ++ drop end octets → end ≡ length octets →
    octets ≡ counted w32 segment_octets ss
unfolding counted
all_counted octets ss read end are given len spelled ends =
    let front : octets ≡ number w32 read.0 ++ read.1 = (exact32.takes octets read are given).0 in
    let behind : drop 4 octets ≡ read.1 = ap (drop 4) front ∙ drop_at (number w32 read.0) read.1 4 (number_length read.0) in
    let none : drop end octets ≡ [] = ap (λ (n : ℕ). drop n octets) ends ∙ drop_all (length octets) octets (omega arith) in
    front ∙ ap (λ (xs : List ℕ). number w32 read.0 ++ xs) (sym behind ∙ spelled ∙ ap (λ (xs : List ℕ). flat_map segment_octets ss ++ xs) none ∙ append-nil (flat_map segment_octets ss))
    ∙ ap (λ (n : ℕ). number w32 n ++ flat_map segment_octets ss) (sym len)

-- all were read
pub all_read : (db : Database) (count : ℕ) (octets : List ℕ) (read : List Segment) (i at : ℕ) → count ≤ i → AreReadSoFar db count octets read i at →
    (segments : List Segment) → AllByRecursion (IsKnownSegment db) segments → count ≡ length segments → drop 4 octets ≡ flat_map segment_octets segments → read ≡ segments
all_read db count octets read i at le so_far = λ segments known len there.
    let most : length segments ≤ i = omega (arith, le, len) in
    (so_far segments known len there).0 ∙ take_all i segments most

-- ---- the count before them

count_read : (octets : List ℕ) (segments : List Segment) → length segments < 2 ^ 32 → octets ≡ counted w32 segment_octets segments → number_at w32 octets ≡ Some (length segments, flat_map segment_octets segments)
unfolding counted
count_read octets segments few is = ap (number_at w32) is ∙ exact32.again (length segments) (flat_map segment_octets segments) tt few

pub is_count : (octets : List ℕ) (segments : List Segment) (read : ℕ × List ℕ) → length segments < 2 ^ 32 → octets ≡ counted w32 segment_octets segments → number_at w32 octets ≡ Some read → read.0 ≡ length segments
is_count octets segments read few is given = ap (λ (x : ℕ × List ℕ). x.0) (some_is read (length segments, flat_map segment_octets segments) (sym given ∙ count_read octets segments few is))

pub some_count : (octets : List ℕ) (segments : List Segment) → length segments < 2 ^ 32 → octets ≡ counted w32 segment_octets segments → number_at w32 octets ≡ None → ⊥
some_count octets segments few is none =
    absurd (let bad : ◌≡◌ {A = Option (ℕ × List ℕ)} None (Some (length segments, flat_map segment_octets segments)) = sym none ∙ count_read octets segments few is in cc)

pub behind_count : (octets : List ℕ) (segments : List Segment) → octets ≡ counted w32 segment_octets segments → drop 4 octets ≡ flat_map segment_octets segments
unfolding counted
behind_count octets segments is = ap (drop 4) is ∙ drop_at (number w32 (length segments)) (flat_map segment_octets segments) 4 (number_length (length segments))

-- octets of a set end behind its segments
pub counted_end : (ts : List SetRow) (octets : List ℕ) (ss : List Segment) → ss ≡ set_of ts → octets ≡ set_octets ts → 4 + length (flat_map segment_octets ss) ≡ length octets
unfolding counted
counted_end ts octets ss are same =
    let own = set_of ts in
    let whole : length octets ≡ length (number w32 (length own) ++ flat_map segment_octets own) = ap length (same ∙ spelled_as_counted ts) in
    let joined = length-append (number w32 (length own)) (flat_map segment_octets own) in
    let four = number_length (length own) in
    ap (λ (xs : List Segment). 4 + length (flat_map segment_octets xs)) are ∙ (omega (arith, whole, joined, four))
