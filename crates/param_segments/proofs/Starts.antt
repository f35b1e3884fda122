-- The segments of a set stand in its octets where they're said to begin.
use Rattle.std.proofs.Common.{◌≡◌, ◌∙◌, ℕ, zero, suc, ◌+◌, ◌<◌, ◌≤◌, List, [], ◌∷◌, ◌++◌, length, take, take_all, get_or, add-one, refl, sym, ap, subst, append_assoc, append-nil, length-append, arith}
use Rattle.std.specs.Prelude.{flat_map}
use Rattle.std.specs.List.{AllByRecursion}
use Rattle.std.specs.Int.{w32}
use Rattle.std.proofs.Math.Seq.{take-suc}
use Rattle.std.proofs.lemmas.List.{drop_at}
use Rattle.std.proofs.lemmas.List.Concat.{flat_map-append}
use Rattle.octet_fields.specs.Spelling.{counted, number}
use Rattle.segment_codec.specs.Segment.{HasSegmentAt, IsSegment, segment_octets}
use Rattle.segment_codec.specs.declared.segment.Segment.{Segment}
use Rattle.param_segments.specs.declared.raw_cell.RawCell.{RawCell}
use Rattle.param_segments.specs.Groups.{set_of}
use Rattle.param_segments.specs.Octets.{IsSpelledSet, rows_in_octets, set_octets, starts_from}
use Rattle.param_segments.specs.Rows.{SetRow}
use Rattle.param_segments.proofs.Contents.{length-starts, number_length}
use Rattle.param_segments.proofs.Stored.{set_is_segments}

has_at : (front : List ℕ) (at : ℕ) (ss : List Segment) (i : ℕ) (d : Segment) → length front ≡ at → AllByRecursion IsSegment ss → i < length ss →
    HasSegmentAt (front ++ flat_map segment_octets ss) (get_or (starts_from at ss) i 0) (get_or ss i d)
has_at front at [] i d len all lt = absurd (omega arith)
has_at front at (s ∷ ss) zero d len all lt = (all.0, flat_map segment_octets ss, drop_at front (segment_octets s ++ flat_map segment_octets ss) at len)
has_at front at (s ∷ ss) (suc i) d len all lt =
    let more = length-append front (segment_octets s) in
    let further : length (front ++ segment_octets s) ≡ at + length (segment_octets s) = omega (arith, more, len) in
    subst (λ (octets : List ℕ). HasSegmentAt octets (get_or (starts_from (at + length (segment_octets s)) ss) i 0) (get_or ss i d)) (append_assoc front (segment_octets s) (flat_map segment_octets ss))
    (has_at (front ++ segment_octets s) (at + length (segment_octets s)) ss i d further all.1 (omega arith))

abbrev pub no_segment : Segment
no_segment = record { parameters = []; keys = []; columns = [] }

-- the segment with a number
abbrev pub segment_number : List ℕ → ℕ → Segment
segment_number octets i = get_or (set_of (rows_in_octets octets)) i no_segment

spelled_as : (rows : List SetRow) → set_octets rows ≡ number w32 (length (set_of rows)) ++ flat_map segment_octets (set_of rows)
unfolding set_octets counted
spelled_as rows = refl

pub length-of_starts : (octets starts : List ℕ) → IsSpelledSet octets starts → length starts ≡ length (set_of (rows_in_octets octets))
length-of_starts octets starts is = ap length is.places ∙ length-starts 4 (set_of (rows_in_octets octets))

-- at each start the segment of its number stands
pub at_start : (octets starts : List ℕ) (i : ℕ) → IsSpelledSet octets starts → i < length starts → HasSegmentAt octets (get_or starts i 0) (segment_number octets i)
at_start octets starts i is lt =
    let rows = rows_in_octets octets in
    let ss = set_of rows in
    let inside : i < length ss = subst (λ (n : ℕ). i < n) (length-of_starts octets starts is) lt in
    let whole : octets ≡ number w32 (length ss) ++ flat_map segment_octets ss = is.spelled ∙ spelled_as rows in
    subst (λ (o : List ℕ). HasSegmentAt o (get_or starts i 0) (get_or ss i no_segment)) (sym whole)
    (subst (λ (ns : List ℕ). HasSegmentAt (number w32 (length ss) ++ flat_map segment_octets ss) (get_or ns i 0) (get_or ss i no_segment)) (sym is.places)
    (has_at (number w32 (length ss)) 4 ss i no_segment (number_length (length ss)) (set_is_segments rows is.rows) inside))

-- what is gathered of one segment more
pub cells_more : (f : Segment → List RawCell) (octets starts : List ℕ) (i : ℕ) (old new : List RawCell) → IsSpelledSet octets starts → i < length starts → new ≡ old ++ f (segment_number octets i) → old ≡ flat_map f (take i (set_of (rows_in_octets octets))) →
    new ≡ flat_map f (take (i + 1) (set_of (rows_in_octets octets)))
cells_more f octets starts i old new is lt more so_far =
    let ss = set_of (rows_in_octets octets) in
    let inside : i < length ss = subst (λ (n : ℕ). i < n) (length-of_starts octets starts is) lt in
    more ∙ ap (λ (cs : List RawCell). cs ++ f (segment_number octets i)) so_far
    ∙ sym (ap (flat_map f) (ap (λ (k : ℕ). take k ss) (add-one i) ∙ take-suc ss i no_segment inside)
    ∙ flat_map-append f (take i ss) (segment_number octets i ∷ [])
    ∙ ap (λ (cs : List RawCell). flat_map f (take i ss) ++ cs) (append-nil (f (segment_number octets i))))

pub cells_done : (f : Segment → List RawCell) (octets starts : List ℕ) (i : ℕ) (cells : List RawCell) → IsSpelledSet octets starts → length starts ≤ i → cells ≡ flat_map f (take i (set_of (rows_in_octets octets))) → cells ≡ flat_map f (set_of (rows_in_octets octets))
cells_done f octets starts i cells is le so_far =
    let ss = set_of (rows_in_octets octets) in
    so_far ∙ ap (flat_map f) (take_all i ss (subst (λ (n : ℕ). n ≤ i) (length-of_starts octets starts is) le))

pub spelled_by : (octets o starts s : List ℕ) → octets ≡ o → starts ≡ s → IsSpelledSet o s → IsSpelledSet octets starts
spelled_by octets o starts s e f is = subst (λ (ns : List ℕ). IsSpelledSet octets ns) (sym f) (subst (λ (xs : List ℕ). IsSpelledSet xs s) (sym e) is)
