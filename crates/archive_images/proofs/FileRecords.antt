-- The records of a file make one thing, by those that it begins with and by what its entries go on from.
use Rattle.std.proofs.Common.{◌≡◌, ℕ, ◌+◌, List, [], ◌∷◌, ◌++◌, length, map, drop, Option, Some, None, refl, sym, ◌∙◌, ap, subst, append_assoc, length-append}
use Rattle.std.specs.Prelude.{◌↔◌}
use Rattle.arch_disk.specs.Image.{Image}
use Rattle.disk_journal.specs.Format.{written, framed, AreSmall}
use Rattle.disk_journal.proofs.Once.{records_once}
use Rattle.field_codec.specs.declared.entry.Entry.{Entry}
use Rattle.field_codec.specs.Spelling.{entry_octets}
use Rattle.archive_images.specs.Entries.{FilledArchive, Replays}
use Rattle.archive_images.specs.Stands.{StandsFilled, StandsInFile, IsFileDamagedAt}
use Rattle.archive_images.proofs.Exact.{entries_once, not_both, replays_once, same_place}

-- ---- behind the first records

same_behind : {X : Type 0} (front a b : List X) → front ++ a ≡ front ++ b → a ≡ b
same_behind [] a b is = is
same_behind (x ∷ front) a b is = same_behind front a b (ap (drop 1) is)

written-append : (front bodies : List (List ℕ)) → written (front ++ bodies) ≡ written front ++ written bodies
written-append [] bodies = refl
written-append (body ∷ front) bodies =
    ap (λ (l : List ℕ). 1 ∷ framed body ++ l) (written-append front bodies) ∙ sym (append_assoc (1 ∷ framed body) (written front) (written bodies))

small_behind : (front bodies : List (List ℕ)) → AreSmall (front ++ bodies) → AreSmall bodies
small_behind [] bodies small = small
small_behind (body ∷ front) bodies small = small_behind front bodies small.1

parted : (front bodies : List (List ℕ)) (rest : List ℕ) → written (front ++ bodies) ++ rest ≡ written front ++ (written bodies ++ rest)
parted front bodies rest = ap (λ (l : List ℕ). l ++ rest) (written-append front bodies) ∙ append_assoc (written front) (written bodies) rest

-- what two readings of one file have behind the first records is the same
parted_once : (content : List ℕ) (front es fs : List (List ℕ)) (p r : List ℕ) → content ≡ written (front ++ es) ++ p → content ≡ written (front ++ fs) ++ r → written es ++ p ≡ written fs ++ r
parted_once content front es fs p r is other =
    same_behind (written front) (written es ++ p) (written fs ++ r) (sym (parted front es p) ∙ sym is ∙ other ∙ parted front fs r)

long_behind : (front es fs : List (List ℕ)) → length (written es) ≡ length (written fs) → length (written (front ++ es)) ≡ length (written (front ++ fs))
long_behind front es fs same =
    ap length (written-append front es) ∙ length-append (written front) (written es)
    ∙ ap (λ (n : ℕ). length (written front) + n) same
    ∙ sym (length-append (written front) (written fs)) ∙ sym (ap length (written-append front fs))

-- ---- one thing

some_is : (x y : FilledArchive) → ◌≡◌ {A = Option FilledArchive} (Some x) (Some y) → x ≡ y
some_is x y e = cc

-- one archive
pub file_once : (image : Image) (file : ℕ) (beginning : List (List ℕ)) (base : Option FilledArchive) (a b : FilledArchive) → StandsInFile image file beginning base a → StandsInFile image file beginning base b → a ≡ b
file_once image file beginning base a b p q =
    let es = map entry_octets p.entries in
    let fs = map entry_octets q.entries in
    let bodies : beginning ++ es ≡ beginning ++ fs = records_once (image file) (beginning ++ es) (beginning ++ fs) p.has q.has in
    let same : p.entries ≡ q.entries = entries_once base (Some a) (Some b) p.entries q.entries p.replays q.replays (same_behind beginning es fs bodies) in
    some_is a b (replays_once base (Some a) (Some b) q.entries (subst (λ (l : List Entry). Replays base l (Some a)) same p.replays) q.replays)

-- or damage at one gate,
pub file_damaged_once : (image : Image) (file : ℕ) (beginning : List (List ℕ)) (base : Option FilledArchive) (at other : ℕ) → IsFileDamagedAt image file beginning base at → IsFileDamagedAt image file beginning base other → at ≡ other
file_damaged_once image file beginning base at other d e =
    let es = map entry_octets d.entries in
    let fs = map entry_octets e.entries in
    let place = same_place base d.before e.before d.entries e.entries d.rest e.rest d.replays e.replays (small_behind beginning es d.small) (small_behind beginning fs e.small) d.bad e.bad
    (parted_once (image file) beginning es fs (1 ∷ d.rest) (1 ∷ e.rest) d.file_is e.file_is) in
    d.at_is ∙ long_behind beginning es fs place ∙ sym e.at_is

-- and not both
pub file_not_damaged : (image : Image) (file : ℕ) (beginning : List (List ℕ)) (base : Option FilledArchive) (filled : FilledArchive) (at : ℕ) → StandsInFile image file beginning base filled → IsFileDamagedAt image file beginning base at → ⊥
file_not_damaged image file beginning base filled at p d =
    let es = map entry_octets p.entries in
    let fs = map entry_octets d.entries in
    not_both base (Some filled) d.before p.entries d.entries p.has.tail d.rest p.replays d.replays (small_behind beginning es p.has.small) (small_behind beginning fs d.small) p.has.closed d.bad
    (parted_once (image file) beginning es fs p.has.tail (1 ∷ d.rest) p.has.file_is d.file_is)

-- ---- file 0

pub file_zero : (image : Image) (filled : FilledArchive) → StandsFilled image filled ↔ StandsInFile image 0 [] None filled
file_zero image filled = (
  λ stands. record { entries = stands.entries; has = stands.has; replays = stands.replays },
  λ stands. record { entries = stands.entries; has = stands.has; replays = stands.replays },
)
