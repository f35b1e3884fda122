-- How the parts of a list follow its items and the places where they end.
use Rattle.std.proofs.Common.{◌≡◌, ◌≤◌, ◌<◌, ◌-◌, ◌+◌, ◌∙◌, ℕ, zero, suc, Some, get_or, List, [], ◌∷◌, ◌++◌, take, drop, length, map, slice_get, refl, ap, sym, arith}
use Rattle.std.proofs.lemmas.List.{drop-append-le, length-drop, length-take, take-append-drop, take-append-le}
use Rattle.std.proofs.Math.Seq.{drop-append-add, drop-append_seam, take-length}
use Rattle.std.specs.Option.{unwrap_or}
use Rattle.mdb_items.specs.Records.{AreEnds, parts_from, start_at}

-- one part for each place
pub length-parts : {A : Type 0} (start : ℕ) (ends : List ℕ) (items : List A) → length (parts_from start ends items) ≡ length ends
length-parts start [] items = refl
length-parts start (end ∷ ends) items = ap suc (length-parts end ends items)

-- a start is no more than the size
pub start_in : (start : ℕ) (ends : List ℕ) (size : ℕ) → AreEnds start ends size → start ≤ size
start_in start [] size h = omega (arith, h)
start_in start (end ∷ ends) size h =
    let rest = start_in end ends size h.1 in
    let low = h.0 in
    omega arith

-- a part starts no later than it ends, and ends inside the items
pub bounds_at : (start : ℕ) (ends : List ℕ) (size i : ℕ) → AreEnds start ends size → i < length ends → (start_at start ends i ≤ get_or ends i 0) × (get_or ends i 0 ≤ size)
bounds_at start [] size i h lt = absurd (omega (arith, lt))
bounds_at start (end ∷ ends) size zero h lt = (h.0, start_in end ends size h.1)
bounds_at start (end ∷ ends) size (suc zero) h lt = bounds_at end ends size zero h.1 (omega (arith, lt))
bounds_at start (end ∷ ends) size (suc (suc i)) h lt = bounds_at end ends size (suc i) h.1 (omega (arith, lt))

-- the part at a place
pub part_in : {A : Type 0} (start : ℕ) (ends : List ℕ) (items : List A) (i : ℕ) → i < length ends
    → slice_get (parts_from start ends items) i ≡ Some (take (get_or ends i 0 - start_at start ends i) (drop (start_at start ends i) items))
part_in start [] items i lt = absurd (omega (arith, lt))
part_in start (end ∷ ends) items zero lt = refl
part_in start (end ∷ ends) items (suc zero) lt = part_in end ends items zero (omega (arith, lt))
part_in start (end ∷ ends) items (suc (suc i)) lt = part_in end ends items (suc i) (omega (arith, lt))

-- there is no part past the last
pub part_past : (start : ℕ) (ends octets : List ℕ) (i : ℕ) → length ends ≤ i → unwrap_or (slice_get (parts_from start ends octets) i) [] ≡ []
part_past start [] octets i le = refl
part_past start (end ∷ ends) octets zero le = absurd (omega (arith, le))
part_past start (end ∷ ends) octets (suc i) le = part_past end ends octets i (omega (arith, le))

-- one more part, with its items behind the others
pub parts_push : {A : Type 0} (start : ℕ) (ends : List ℕ) (items slice : List A) → AreEnds start ends (length items)
    → parts_from start (ends ++ (length items + length slice) ∷ []) (items ++ slice) ≡ parts_from start ends items ++ slice ∷ []
parts_push start [] items slice h =
    let at : drop start (items ++ slice) ≡ slice = ap (λ s. drop s (items ++ slice)) h ∙ drop-append_seam items slice in
    let long : length items + length slice - start ≡ length slice = omega (arith, h) in
    rw (at, long, take-length slice) refl
parts_push start (end ∷ ends) items slice h =
    let up = start_in end ends (length items) h.1 in
    let low = h.0 in
    let at : start ≤ length items = omega arith in
    let size = length-drop start items in
    let fits : end - start ≤ length (drop start items) = omega (arith, size) in
    rw (drop-append-le start items slice at, take-append-le (end - start) (drop start items) slice fits, parts_push end ends items slice h.1) refl

-- the end of the items is the last place
pub ends_push : (start : ℕ) (ends : List ℕ) (size more : ℕ) → AreEnds start ends size → AreEnds start (ends ++ (size + more) ∷ []) (size + more)
ends_push start [] size more h = (omega (arith, h), refl)
ends_push start (end ∷ ends) size more h = (h.0, ends_push end ends size more h.1)

-- places, each so much later
abbrev pub later_ends : ℕ → List ℕ → List ℕ
later_ends size ends = map (λ end. size + end) ends

-- items in front make each place later
parts_behind : {A : Type 0} (front items : List A) (start : ℕ) (ends : List ℕ) → parts_from (length front + start) (later_ends (length front) ends) (front ++ items) ≡ parts_from start ends items
parts_behind front items start [] = refl
parts_behind front items start (end ∷ ends) =
    let same : length front + end - (length front + start) ≡ end - start = omega arith in
    rw (drop-append-add front items start, same, parts_behind front items end ends) refl

ends_behind : (front start : ℕ) (ends : List ℕ) (size : ℕ) → AreEnds start ends size → AreEnds (front + start) (later_ends front ends) (front + size)
ends_behind front start [] size h = ap (λ n. front + n) h
ends_behind front start (end ∷ ends) size h = let low = h.0 in (omega arith, ends_behind front end ends size h.1)

-- more parts, with their items behind the others
pub parts_append : {A : Type 0} (start : ℕ) (ends : List ℕ) (items : List A) (more : List ℕ) (others : List A) → AreEnds start ends (length items)
    → parts_from start (ends ++ later_ends (length items) more) (items ++ others) ≡ parts_from start ends items ++ parts_from 0 more others
parts_append start [] items more others h =
    let at : start ≡ length items + 0 = omega (arith, h) in
    rw at (parts_behind items others 0 more)
parts_append start (end ∷ ends) items more others h =
    let up = start_in end ends (length items) h.1 in
    let low = h.0 in
    let at : start ≤ length items = omega arith in
    let size = length-drop start items in
    let fits : end - start ≤ length (drop start items) = omega (arith, size) in
    rw (drop-append-le start items others at, take-append-le (end - start) (drop start items) others fits, parts_append end ends items more others h.1) refl

pub ends_append : (start : ℕ) (ends : List ℕ) (size : ℕ) (more : List ℕ) (added : ℕ) → AreEnds start ends size → AreEnds 0 more added → AreEnds start (ends ++ later_ends size more) (size + added)
ends_append start [] size more added h g =
    let at : start ≡ size + 0 = omega (arith, h) in
    rw at (ends_behind size 0 more added g)
ends_append start (end ∷ ends) size more added h g = (h.0, ends_append end ends size more added h.1 g)

-- behind the first part
start_next : (start end : ℕ) (ends : List ℕ) (i : ℕ) → start_at start (end ∷ ends) (suc i) ≡ start_at end ends i
start_next start end ends zero = refl
start_next start end ends (suc i) = refl

-- a start lies inside the items
pub start_within : (start : ℕ) (ends : List ℕ) (size i : ℕ) → AreEnds start ends size → i ≤ length ends → start_at start ends i ≤ size
start_within start ends size zero h le = start_in start ends size h
start_within start [] size (suc i) h le = absurd (omega (arith, le))
start_within start (end ∷ ends) size (suc i) h le = rw (start_next start end ends i) (start_within end ends size i h.1 (omega (arith, le)))

-- the first ends
ends_take : (start : ℕ) (ends : List ℕ) (size n : ℕ) → AreEnds start ends size → n ≤ length ends → AreEnds start (take n ends) (start_at start ends n)
ends_take start ends size zero h le = refl
ends_take start [] size (suc n) h le = absurd (omega (arith, le))
ends_take start (end ∷ ends) size (suc n) h le = (h.0, rw (start_next start end ends n) (ends_take end ends size n h.1 (omega (arith, le))))

-- the ends from one place to another
pub ends_between : (start : ℕ) (ends : List ℕ) (size i n : ℕ) → AreEnds start ends size → i + n ≤ length ends → AreEnds (start_at start ends i) (take n (drop i ends)) (start_at start ends (i + n))
ends_between start ends size zero n h le = let same : 0 + n ≡ n = omega arith in rw same (ends_take start ends size n h (omega (arith, le)))
ends_between start [] size (suc i) n h le = absurd (omega (arith, le))
ends_between start (end ∷ ends) size (suc i) n h le =
    let same : suc i + n ≡ suc (i + n) = omega arith in
    rw (same, start_next start end ends i, start_next start end ends (i + n)) (ends_between end ends size i n h.1 (omega (arith, le)))

-- the parts from one place on
parts_take : {A : Type 0} (start : ℕ) (ends : List ℕ) (items : List A) (n : ℕ) → take n (parts_from start ends items) ≡ parts_from start (take n ends) items
parts_take start ends items zero = refl
parts_take start [] items (suc n) = refl
parts_take start (end ∷ ends) items (suc n) = rw (parts_take end ends items n) refl

pub parts_between : {A : Type 0} (start : ℕ) (ends : List ℕ) (items : List A) (i n : ℕ) → i ≤ length ends
    → take n (drop i (parts_from start ends items)) ≡ parts_from (start_at start ends i) (take n (drop i ends)) items
parts_between start ends items zero n le = parts_take start ends items n
parts_between start [] items (suc i) n le = absurd (omega (arith, le))
parts_between start (end ∷ ends) items (suc i) n le = rw (start_next start end ends i) (parts_between end ends items i n (omega (arith, le)))

-- items behind the last end are in no part
parts_cut : {A : Type 0} (start : ℕ) (ends : List ℕ) (items others : List A) → AreEnds start ends (length items) → parts_from start ends (items ++ others) ≡ parts_from start ends items
parts_cut start [] items others h = refl
parts_cut start (end ∷ ends) items others h =
    let up = start_in end ends (length items) h.1 in
    let low = h.0 in
    let at : start ≤ length items = omega arith in
    let size = length-drop start items in
    let fits : end - start ≤ length (drop start items) = omega (arith, size) in
    rw (drop-append-le start items others at, take-append-le (end - start) (drop start items) others fits, parts_cut end ends items others h.1) refl

-- nor are the items behind a size
pub parts_within : {A : Type 0} (start : ℕ) (ends : List ℕ) (items : List A) (size : ℕ) → AreEnds start ends size → size ≤ length items → parts_from start ends (take size items) ≡ parts_from start ends items
parts_within start ends items size h le =
    let long : size ≡ length (take size items) = omega (arith, length-take size items) in
    sym (parts_cut start ends (take size items) (drop size items) (rw long at h)) ∙ ap (parts_from start ends) (take-append-drop size items)

-- the ends of a record of a sheet, where its octets are all up to its end
pub ends_of_record : (record_ends field_ends octets : List ℕ) (i first last end : ℕ) → AreEnds 0 record_ends (length field_ends) → AreEnds 0 field_ends (length octets) → i < length record_ends
    → first ≡ start_at 0 record_ends i → last ≡ get_or record_ends i 0 → end ≡ start_at 0 field_ends last
    → AreEnds (start_at 0 field_ends first) (take (last - first) (drop first field_ends)) (length (take (end - 0) (drop 0 octets)))
ends_of_record record_ends field_ends octets i first last end h g lt begins ends_at cut =
    let bounds = bounds_at 0 record_ends (length field_ends) i h lt in
    let up : first ≤ last = rw (begins, ends_at) bounds.0 in
    let within : last ≤ length field_ends = rw ends_at bounds.1 in
    let size = start_within 0 field_ends (length octets) last g within in
    let whole : first + (last - first) ≡ last = omega arith in
    let long : length (take (end - 0) (drop 0 octets)) ≡ start_at 0 field_ends last = omega (arith, length-take (end - 0) octets, cut, size) in
    rw long (rw whole at (ends_between 0 field_ends (length octets) first (last - first) g (omega arith)))

-- the record of a sheet at a place
pub record_in : (record_ends field_ends octets : List ℕ) (i first last end : ℕ) → AreEnds 0 record_ends (length field_ends) → AreEnds 0 field_ends (length octets) → i < length record_ends
    → first ≡ start_at 0 record_ends i → last ≡ get_or record_ends i 0 → end ≡ start_at 0 field_ends last
    → slice_get (parts_from 0 record_ends (parts_from 0 field_ends octets)) i ≡ Some (parts_from (start_at 0 field_ends first) (take (last - first) (drop first field_ends)) (take (end - 0) (drop 0 octets)))
record_in record_ends field_ends octets i first last end h g lt begins ends_at cut =
    let bounds = bounds_at 0 record_ends (length field_ends) i h lt in
    let up : first ≤ last = rw (begins, ends_at) bounds.0 in
    let within : last ≤ length field_ends = rw ends_at bounds.1 in
    let size = start_within 0 field_ends (length octets) last g within in
    let whole : first + (last - first) ≡ last = omega arith in
    let same : end - 0 ≡ start_at 0 field_ends last = omega (arith, cut) in
    let between = ends_between 0 field_ends (length octets) first (last - first) g (omega arith) in
    rw (part_in 0 record_ends (parts_from 0 field_ends octets) i lt, ← begins, ← ends_at, parts_between 0 field_ends octets first (last - first) (omega arith), same)
    (ap Some (sym (parts_within (start_at 0 field_ends first) (take (last - first) (drop first field_ends)) octets (start_at 0 field_ends last) (rw whole at between) size)))

-- one more record, with its octets behind the others
pub records_push : (record_ends field_ends octets ends others : List ℕ) → AreEnds 0 record_ends (length field_ends) → AreEnds 0 field_ends (length octets)
    → parts_from 0 (record_ends ++ (length field_ends + length ends) ∷ []) (parts_from 0 (field_ends ++ later_ends (length octets) ends) (octets ++ others))
    ≡ parts_from 0 record_ends (parts_from 0 field_ends octets) ++ parts_from 0 ends others ∷ []
records_push record_ends field_ends octets ends others h g =
    let before = sym (length-parts 0 field_ends octets) in
    let added = sym (length-parts 0 ends others) in
    rw (parts_append 0 field_ends octets ends others g, before, added)
    (parts_push 0 record_ends (parts_from 0 field_ends octets) (parts_from 0 ends others) (rw before at h))
