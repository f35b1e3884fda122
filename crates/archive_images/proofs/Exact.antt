-- An image stands for one thing: for no archive, for an archive, or for damage at one gate.
use Rattle.std.proofs.Common.{◌≡◌, ◌⊎◌, inl, inr, ℕ, ◌<◌, ◌≤◌, ◌^◌, List, [], ◌∷◌, ◌++◌, length, map, take, drop, get_or, Option, Some, None, refl, sym, ◌∙◌, ap, subst, arith, append_assoc, length-append}
use Rattle.std.specs.Int.{w32, from_be_bytes}
use Rattle.arch_disk.specs.Image.{Image}
use Rattle.disk_journal.specs.Format.{HasRecords, HoldsNone, IsClosed, written, framed, AreSmall}
use Rattle.disk_journal.proofs.Files.{length-framed}
use Rattle.disk_journal.proofs.Once.{records_once, frame_size, frame_body_once, frame_rest_once}
use Rattle.field_codec.specs.declared.entry.Entry.{Entry}
use Rattle.field_codec.specs.declared.entry.Entry.TheVariants as entries
use Rattle.field_codec.specs.Entries.{IsArchiveEntry}
use Rattle.field_codec.specs.Spelling.{entry_octets}
use Rattle.field_codec.proofs.EntryKinds.{one_spelling}
use Rattle.archive_images.specs.Entries.{Archive, FilledArchive, Applies, Replays}
use Rattle.archive_images.specs.Stands.{StandsFilled, StandsFor, IsWrong, IsCutShort, IsArchiveDamagedAt}

-- an entry that is taken has a spelling
pub takes_entry : (old : Option FilledArchive) (entry : Entry) (new : FilledArchive) → Applies old entry new → IsArchiveEntry entry
takes_entry None (entries.Head tables mdb) new takes = takes.0
takes_entry None (entries.Rows rows) new takes = absurd takes
takes_entry None (entries.Fill interval base octets) new takes = absurd takes
takes_entry None (entries.Seal seal) new takes = absurd takes
takes_entry None (entries.LogHead rows) new takes = absurd takes
takes_entry (Some old) (entries.Fill interval base octets) new takes = takes.0.fits
takes_entry (Some old) (entries.Head tables mdb) new takes = absurd takes
takes_entry (Some old) (entries.Rows rows) new takes = takes.0.spelled
takes_entry (Some old) (entries.Seal seal) new takes = absurd takes
takes_entry (Some old) (entries.LogHead rows) new takes = absurd takes

-- an entry makes one archive
takes_once : (old : Option FilledArchive) (b c : FilledArchive) (entry : Entry) → Applies old entry b → Applies old entry c → b ≡ c
takes_once None b c (entries.Head tables mdb) p q = p.1 ∙ sym q.1
takes_once None b c (entries.Rows rows) p q = absurd p
takes_once None b c (entries.Fill interval base octets) p q = absurd p
takes_once None b c (entries.Seal seal) p q = absurd p
takes_once None b c (entries.LogHead rows) p q = absurd p
takes_once (Some old) b c (entries.Fill interval base octets) p q = p.1 ∙ sym q.1
takes_once (Some old) b c (entries.Head tables mdb) p q = absurd p
takes_once (Some old) b c (entries.Rows rows) p q = p.1 ∙ sym q.1
takes_once (Some old) b c (entries.Seal seal) p q = absurd p
takes_once (Some old) b c (entries.LogHead rows) p q = absurd p

pub replays_once : (a b c : Option FilledArchive) (es : List Entry) → Replays a es b → Replays a es c → b ≡ c
replays_once a b c [] p q = p ∙ sym q
replays_once a b c (e ∷ es) p q =
    replays_once (Some p.0) b c es p.2 (subst (λ (x : FilledArchive). Replays (Some x) es c) (takes_once a q.0 p.0 e q.1 p.1) q.2)

-- two entries with one spelling that are taken are the same, and make the same
same_entry : (a : Option FilledArchive) (b c : FilledArchive) (x y : Entry) → Applies a x b → Applies a y c → entry_octets x ≡ entry_octets y → x ≡ y
same_entry a b c x y p q is = one_spelling x y (takes_entry a x b p) (takes_entry a y c q) is

same_mid : (a : Option FilledArchive) (b c : FilledArchive) (x y : Entry) → Applies a x b → Applies a y c → x ≡ y → c ≡ b
same_mid a b c x y p q same = takes_once a c b x (subst (λ (e : Entry). Applies a e c) (sym same) q) p

pub entries_once : (a b c : Option FilledArchive) (es fs : List Entry) → Replays a es b → Replays a fs c → map entry_octets es ≡ map entry_octets fs → es ≡ fs
entries_once a b c [] [] p q is = refl
entries_once a b c [] (y ∷ fs) p q is = absurd (cc (is))
entries_once a b c (x ∷ es) [] p q is = absurd (cc (is))
entries_once a b c (x ∷ es) (y ∷ fs) p q is =
    let head : entry_octets x ≡ entry_octets y = cc (is) in
    let rest : map entry_octets es ≡ map entry_octets fs = cc (is) in
    let same = same_entry a p.0 q.0 x y p.1 q.1 head in
    let mid = same_mid a p.0 q.0 x y p.1 q.1 same in
    ap (λ (e : Entry). e ∷ es) same ∙ ap (λ (l : List Entry). y ∷ l) (entries_once (Some p.0) b c es fs p.2 (subst (λ (z : FilledArchive). Replays (Some z) fs c) mid q.2) rest)

some_is : (x y : FilledArchive) → ◌≡◌ {A = Option FilledArchive} (Some x) (Some y) → x ≡ y
some_is x y e = cc

-- an image stands for one archive with one fill of each interval
pub filled_once : (c : Image) (x y : FilledArchive) → StandsFilled c x → StandsFilled c y → x ≡ y
filled_once c x y p q =
    let same : p.entries ≡ q.entries = entries_once None (Some x) (Some y) p.entries q.entries p.replays q.replays (records_once (c 0) (map entry_octets p.entries) (map entry_octets q.entries) p.has q.has) in
    some_is x y (replays_once None (Some x) (Some y) q.entries (subst (λ (es : List Entry). Replays None es (Some x)) same p.replays) q.replays)

-- and so for one archive
pub stands_once : (c : Image) (x y : Archive) → StandsFor c x → StandsFor c y → x ≡ y
stands_once c x y p q =
    sym p.plain_is ∙ ap (λ (a : FilledArchive). a.plain) (filled_once c p.filled q.filled p.stands q.stands) ∙ q.plain_is

abbrev pub IsBad : Option FilledArchive → List ℕ → Type 0
IsBad before rest = IsCutShort rest ⊎ IsWrong before rest

-- a record that is taken is not bad
good : (a : Option FilledArchive) (mid : FilledArchive) (entry : Entry) (r q : List ℕ) → Applies a entry mid → length (entry_octets entry) < 2 ^ 32 → 0 < length q → r ≡ framed (entry_octets entry) ++ q → IsBad a r → ⊥
good a mid entry r q takes small some is (inl short) =
    let size : from_be_bytes w32 (take 4 r) ≡ length (entry_octets entry) = ap (λ (l : List ℕ). from_be_bytes w32 (take 4 l)) is ∙ frame_size (entry_octets entry) q small in
    absurd (omega (arith, short, size, ap length is, length-append (framed (entry_octets entry)) q, length-framed (entry_octets entry), some))
good a mid entry r q takes small some is (inr wrong) =
    wrong.breaks entry mid (frame_body_once wrong.body (entry_octets entry) wrong.more q wrong.small small (sym wrong.is ∙ is)) takes

not_open : (tail rest : List ℕ) → IsClosed tail → tail ≡ 1 ∷ rest → ⊥
not_open tail rest shut is = let open_gate : IsClosed (1 ∷ rest) = subst IsClosed is shut in open_gate refl

some_left : (w t : List ℕ) → IsClosed t → 0 < length (w ++ t)
some_left w [] none = absurd none
some_left w (g ∷ t) shut = omega (arith, length-append w (g ∷ t))

-- what stands behind the gate of the first record
behind : (x : Entry) (es : List Entry) (p : List ℕ) → drop 1 (written (map entry_octets (x ∷ es)) ++ p) ≡ framed (entry_octets x) ++ (written (map entry_octets es) ++ p)
behind x es p = append_assoc (framed (entry_octets x)) (written (map entry_octets es)) p

pub not_both : (a b d : Option FilledArchive) (es fs : List Entry) (p r : List ℕ) → Replays a es b → Replays a fs d → AreSmall (map entry_octets es) → AreSmall (map entry_octets fs) → IsClosed p → IsBad d r → written (map entry_octets es) ++ p ≡ written (map entry_octets fs) ++ 1 ∷ r → ⊥
not_both a b d [] [] p r replays replays' small small' shut bad is = not_open p r shut is
not_both a b d [] (y ∷ fs) p r replays replays' small small' shut bad is = not_open p (framed (entry_octets y) ++ written (map entry_octets fs) ++ 1 ∷ r) shut is
not_both a b d (x ∷ es) [] p r replays replays' small small' shut bad is =
    good a replays.0 x r (written (map entry_octets es) ++ p) replays.1 small.0 (some_left (written (map entry_octets es)) p shut) (sym (ap (drop 1) is) ∙ behind x es p) (subst (λ (z : Option FilledArchive). IsBad z r) replays' bad)
not_both a b d (x ∷ es) (y ∷ fs) p r replays replays' small small' shut bad is =
    let inside : framed (entry_octets x) ++ (written (map entry_octets es) ++ p) ≡ framed (entry_octets y) ++ (written (map entry_octets fs) ++ 1 ∷ r) = sym (behind x es p) ∙ ap (drop 1) is ∙ behind y fs (1 ∷ r) in
    let body = frame_body_once (entry_octets x) (entry_octets y) (written (map entry_octets es) ++ p) (written (map entry_octets fs) ++ 1 ∷ r) small.0 small'.0 inside in
    let same = same_entry a replays.0 replays'.0 x y replays.1 replays'.1 body in
    let mid = same_mid a replays.0 replays'.0 x y replays.1 replays'.1 same in
    not_both (Some replays.0) b d es fs p r replays.2 (subst (λ (z : FilledArchive). Replays (Some z) fs d) mid replays'.2) small.1 small'.1 shut bad
    (frame_rest_once (entry_octets x) (entry_octets y) (written (map entry_octets es) ++ p) (written (map entry_octets fs) ++ 1 ∷ r) small.0 small'.0 inside)

-- an image that stands for an archive is nowhere damaged
pub filled_not_damaged : (c : Image) (x : FilledArchive) (at : ℕ) → StandsFilled c x → IsArchiveDamagedAt c at → ⊥
filled_not_damaged c x at s d = not_both None (Some x) d.before s.entries d.entries s.has.tail d.rest s.replays d.replays s.has.small d.small s.has.closed d.bad (sym s.has.file_is ∙ d.file_is)

pub stands_not_damaged : (c : Image) (x : Archive) (at : ℕ) → StandsFor c x → IsArchiveDamagedAt c at → ⊥
stands_not_damaged c x at s d = filled_not_damaged c s.filled at s.stands d

pub same_place : (a b d : Option FilledArchive) (es fs : List Entry) (p r : List ℕ) → Replays a es b → Replays a fs d → AreSmall (map entry_octets es) → AreSmall (map entry_octets fs) → IsBad b p → IsBad d r → written (map entry_octets es) ++ 1 ∷ p ≡ written (map entry_octets fs) ++ 1 ∷ r → length (written (map entry_octets es)) ≡ length (written (map entry_octets fs))
same_place a b d [] [] p r replays replays' small small' bad bad' is = refl
same_place a b d [] (y ∷ fs) p r replays replays' small small' bad bad' is =
    absurd (good a replays'.0 y p (written (map entry_octets fs) ++ 1 ∷ r) replays'.1 small'.0 (omega (arith, length-append (written (map entry_octets fs)) (1 ∷ r))) (ap (drop 1) is ∙ behind y fs (1 ∷ r)) (subst (λ (z : Option FilledArchive). IsBad z p) replays bad))
same_place a b d (x ∷ es) [] p r replays replays' small small' bad bad' is =
    absurd (good a replays.0 x r (written (map entry_octets es) ++ 1 ∷ p) replays.1 small.0 (omega (arith, length-append (written (map entry_octets es)) (1 ∷ p))) (sym (ap (drop 1) is) ∙ behind x es (1 ∷ p)) (subst (λ (z : Option FilledArchive). IsBad z r) replays' bad'))
same_place a b d (x ∷ es) (y ∷ fs) p r replays replays' small small' bad bad' is =
    let inside : framed (entry_octets x) ++ (written (map entry_octets es) ++ 1 ∷ p) ≡ framed (entry_octets y) ++ (written (map entry_octets fs) ++ 1 ∷ r) = sym (behind x es (1 ∷ p)) ∙ ap (drop 1) is ∙ behind y fs (1 ∷ r) in
    let body : entry_octets x ≡ entry_octets y = frame_body_once (entry_octets x) (entry_octets y) (written (map entry_octets es) ++ 1 ∷ p) (written (map entry_octets fs) ++ 1 ∷ r) small.0 small'.0 inside in
    let same = same_entry a replays.0 replays'.0 x y replays.1 replays'.1 body in
    let mid = same_mid a replays.0 replays'.0 x y replays.1 replays'.1 same in
    let rest = same_place (Some replays.0) b d es fs p r replays.2 (subst (λ (z : FilledArchive). Replays (Some z) fs d) mid replays'.2) small.1 small'.1 bad bad'
    (frame_rest_once (entry_octets x) (entry_octets y) (written (map entry_octets es) ++ 1 ∷ p) (written (map entry_octets fs) ++ 1 ∷ r) small.0 small'.0 inside) in
    omega (arith, rest, ap length body, length-append (framed (entry_octets x)) (written (map entry_octets es)), length-append (framed (entry_octets y)) (written (map entry_octets fs)), length-framed (entry_octets x), length-framed (entry_octets y))

-- an image is damaged at one gate
pub damaged_once : (c : Image) (at other : ℕ) → IsArchiveDamagedAt c at → IsArchiveDamagedAt c other → at ≡ other
damaged_once c at other d e = d.at_is ∙ same_place None d.before e.before d.entries e.entries d.rest e.rest d.replays e.replays d.small e.small d.bad e.bad (sym d.file_is ∙ e.file_is) ∙ sym e.at_is

first_octet : (bodies : List (List ℕ)) (rest : List ℕ) → get_or (written bodies ++ 1 ∷ rest) 0 0 ≡ 1
first_octet [] rest = refl
first_octet (body ∷ bodies) rest = refl

-- an open gate with an octet behind it
holds_none : (file : List ℕ) → 2 ≤ length file → get_or file 0 0 ≡ 1 → HoldsNone file → ⊥
holds_none [] long one none = absurd (omega arith)
holds_none (gate ∷ []) long one none = absurd (omega arith)
holds_none (gate ∷ next ∷ rest) long one none = none one

-- where there is no archive there is no damage, and no archive
pub none_not_damaged : (c : Image) (at : ℕ) → HoldsNone (c 0) → IsArchiveDamagedAt c at → ⊥
none_not_damaged c at none d = holds_none (c 0) d.long (ap (λ (l : List ℕ). get_or l 0 0) d.file_is ∙ first_octet (map entry_octets d.entries) d.rest) none

pub none_not_stands : (c : Image) (x : Archive) → HoldsNone (c 0) → StandsFor c x → ⊥
none_not_stands c x none s = go s.stands.entries s.stands.replays s.stands.has
  where
    go : (es : List Entry) → Replays None es (Some s.filled) → HasRecords (c 0) (map entry_octets es) → ⊥
    go [] replays has = absurd (cc (replays))
    go (e ∷ es) replays has = holds_none (c 0)
        (omega (arith, ap length has.file_is, length-append (written (map entry_octets (e ∷ es))) has.tail, length-append (framed (entry_octets e)) (written (map entry_octets es)), length-framed (entry_octets e)))
        (ap (λ (l : List ℕ). get_or l 0 0) has.file_is) none
