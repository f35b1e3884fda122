-- A file's octets mean one thing.
use Rattle.std.proofs.Common.{◌≡◌, inl, inr, ℕ, ◌+◌, ◌^◌, ◌<◌, ◌≤◌, List, [], ◌∷◌, ◌++◌, length, take, drop, refl, sym, ◌∙◌, ap, subst, arith, append_assoc, length-append}
use Rattle.std.proofs.lemmas.List.{take_at, drop_at}
use Rattle.std.proofs.lemmas.Nat.{from_be_bytes-to_be_bytes_4}
use Rattle.std.specs.Int.{w32, to_be_bytes, from_be_bytes}
use Rattle.disk_journal.specs.Format.{framed, written, AreSmall, IsClosed, HasRecords, IsDamagedAt, HoldsNone}
use Rattle.std.specs.Prelude.{Result, Ok, Err, IfOk, IfErr, IsErrAnd, IsTrue, true, false}
use Rattle.arch_disk.specs.Disk.{Device}
use Rattle.disk_journal.specs.Faults.{IsFailure}
use Rattle.disk_journal.specs.Calls.{BeginsOpen, IsOrFails, IsReadWhole, IsReadWholeRefusal, content_read}
use Rattle.disk_journal.specs.declared.journal.Journal.{Journal}
use Rattle.disk_journal.specs.declared.opening.Opening.{Opening}
use Rattle.disk_journal.specs.declared.fault.JournalFault.{JournalFault}
use Rattle.disk_journal.specs.declared.fault.JournalFault.TheVariants.{Exists, NoArchive, Damaged, NeedsReopen, Limit, DiskFault, OutOfMemory}
use Rattle.disk_journal.proofs.Files.{length-framed}

-- what follows a frame, and its body
pub frame_head : (body rest : List ℕ) → take 4 (framed body ++ rest) ≡ to_be_bytes w32 (length body)
unfolding framed
frame_head body rest = ap (take 4) (append_assoc (to_be_bytes w32 (length body)) body rest) ∙ take_at (to_be_bytes w32 (length body)) (body ++ rest) 4 refl

pub frame_tail : (body rest : List ℕ) → drop 4 (framed body ++ rest) ≡ body ++ rest
unfolding framed
frame_tail body rest = ap (drop 4) (append_assoc (to_be_bytes w32 (length body)) body rest) ∙ drop_at (to_be_bytes w32 (length body)) (body ++ rest) 4 refl

-- the length that stands there
pub frame_size : (body rest : List ℕ) → length body < 2 ^ 32 → from_be_bytes w32 (take 4 (framed body ++ rest)) ≡ length body
frame_size body rest small = ap (from_be_bytes w32) (frame_head body rest) ∙ from_be_bytes-to_be_bytes_4 (length body) small

pub frame_body_once : (a b p q : List ℕ) → length a < 2 ^ 32 → length b < 2 ^ 32 → framed a ++ p ≡ framed b ++ q → a ≡ b
frame_body_once a b p q small_a small_b same =
    let size : length a ≡ length b = sym (frame_size a p small_a) ∙ ap (λ (l : List ℕ). from_be_bytes w32 (take 4 l)) same ∙ frame_size b q small_b in
    let rest : a ++ p ≡ b ++ q = sym (frame_tail a p) ∙ ap (drop 4) same ∙ frame_tail b q in
    sym (take_at a p (length a) refl) ∙ ap (take (length a)) rest ∙ take_at b q (length a) (sym size)

pub frame_rest_once : (a b p q : List ℕ) → length a < 2 ^ 32 → length b < 2 ^ 32 → framed a ++ p ≡ framed b ++ q → p ≡ q
frame_rest_once a b p q small_a small_b same =
    let size : length a ≡ length b = sym (frame_size a p small_a) ∙ ap (λ (l : List ℕ). from_be_bytes w32 (take 4 l)) same ∙ frame_size b q small_b in
    let rest : a ++ p ≡ b ++ q = sym (frame_tail a p) ∙ ap (drop 4) same ∙ frame_tail b q in
    sym (drop_at a p (length a) refl) ∙ ap (drop (length a)) rest ∙ drop_at b q (length a) (sym size)

-- a closed gate is no open one
not_open : (tail rest : List ℕ) → IsClosed tail → tail ≡ 1 ∷ rest → ⊥
not_open tail rest shut is = let open_gate : IsClosed (1 ∷ rest) = subst IsClosed is shut in open_gate refl

-- the records of a file are its only ones
pub same_records : (a b : List (List ℕ)) (p q : List ℕ) → AreSmall a → AreSmall b → IsClosed p → IsClosed q → written a ++ p ≡ written b ++ q → a ≡ b
same_records [] [] p q small_a small_b shut_p shut_q same = refl
same_records [] (y ∷ b) p q small_a small_b shut_p shut_q same = absurd (not_open p (framed y ++ written b ++ q) shut_p (same))
same_records (x ∷ a) [] p q small_a small_b shut_p shut_q same = absurd (not_open q (framed x ++ written a ++ p) shut_q (sym same))
same_records (x ∷ a) (y ∷ b) p q small_a small_b shut_p shut_q same =
    let inside : framed x ++ (written a ++ p) ≡ framed y ++ (written b ++ q) = sym (append_assoc (framed x) (written a) p) ∙ ap (drop 1) same ∙ append_assoc (framed y) (written b) q in
    let body : x ≡ y = frame_body_once x y (written a ++ p) (written b ++ q) small_a.0 small_b.0 inside in
    let rest = frame_rest_once x y (written a ++ p) (written b ++ q) small_a.0 small_b.0 inside in
    ap (λ (z : List ℕ). z ∷ a) body ∙ ap (λ (l : List (List ℕ)). y ∷ l) (same_records a b p q small_a.1 small_b.1 shut_p shut_q rest)

pub records_once : (file : List ℕ) (a b : List (List ℕ)) → HasRecords file a → HasRecords file b → a ≡ b
records_once file a b h k = same_records a b h.tail k.tail h.small k.small h.closed k.closed (sym h.file_is ∙ k.file_is)

-- a damaged file has no records
pub broken : (a b : List (List ℕ)) (p r : List ℕ) → AreSmall a → AreSmall b → IsClosed p → length r ≤ 4 + from_be_bytes w32 (take 4 r) → written a ++ p ≡ written b ++ 1 ∷ r → ⊥
broken [] [] p r small_a small_b shut short same = not_open p r shut same
broken [] (y ∷ b) p r small_a small_b shut short same = not_open p (framed y ++ written b ++ 1 ∷ r) shut same
broken (x ∷ a) [] p r small_a small_b shut short same =
    let inside : framed x ++ (written a ++ p) ≡ r = sym (append_assoc (framed x) (written a) p) ∙ ap (drop 1) same in
    let size = frame_size x (written a ++ p) small_a.0 in
    let some : 0 < length (written a ++ p) = some_left (written a) p shut in
    omega (arith, short, ap length inside, length-append (framed x) (written a ++ p), length-framed x, size, ap (λ (l : List ℕ). from_be_bytes w32 (take 4 l)) inside, some)
  where
    some_left : (w t : List ℕ) → IsClosed t → 0 < length (w ++ t)
    some_left w [] none = absurd none
    some_left w (g ∷ t) shut = omega (arith, length-append w (g ∷ t))
broken (x ∷ a) (y ∷ b) p r small_a small_b shut short same =
    let inside : framed x ++ (written a ++ p) ≡ framed y ++ (written b ++ 1 ∷ r) = sym (append_assoc (framed x) (written a) p) ∙ ap (drop 1) same ∙ append_assoc (framed y) (written b) (1 ∷ r) in
    broken a b p r small_a.1 small_b.1 shut short (frame_rest_once x y (written a ++ p) (written b ++ 1 ∷ r) small_a.0 small_b.0 inside)

-- a whole record is no damaged one
too_short : (y w p r : List ℕ) → length y < 2 ^ 32 → length p ≤ 4 + from_be_bytes w32 (take 4 p) → p ≡ framed y ++ (w ++ 1 ∷ r) → ⊥
too_short y w p r small short is =
    omega (arith, short, ap length is, length-append (framed y) (w ++ 1 ∷ r), length-append w (1 ∷ r), length-framed y, frame_size y (w ++ 1 ∷ r) small, ap (λ (l : List ℕ). from_be_bytes w32 (take 4 l)) is)

pub no_records : (file : List ℕ) (bodies : List (List ℕ)) (at : ℕ) → HasRecords file bodies → IsDamagedAt file at → ⊥
no_records file bodies at h d = broken bodies d.bodies h.tail d.rest h.small d.small h.closed d.short (sym h.file_is ∙ d.file_is)

-- a file is damaged at one place
pub same_place : (a b : List (List ℕ)) (p r : List ℕ) → AreSmall a → AreSmall b → length p ≤ 4 + from_be_bytes w32 (take 4 p) → length r ≤ 4 + from_be_bytes w32 (take 4 r) → written a ++ 1 ∷ p ≡ written b ++ 1 ∷ r → length (written a) ≡ length (written b)
same_place [] [] p r small_a small_b short_p short_r same = refl
same_place [] (y ∷ b) p r small_a small_b short_p short_r same = absurd (too_short y (written b) p r small_b.0 short_p (ap (drop 1) same ∙ append_assoc (framed y) (written b) (1 ∷ r)))
same_place (x ∷ a) [] p r small_a small_b short_p short_r same = absurd (too_short x (written a) r p small_a.0 short_r (sym (ap (drop 1) same) ∙ append_assoc (framed x) (written a) (1 ∷ p)))
same_place (x ∷ a) (y ∷ b) p r small_a small_b short_p short_r same =
    let inside : framed x ++ (written a ++ 1 ∷ p) ≡ framed y ++ (written b ++ 1 ∷ r) = sym (append_assoc (framed x) (written a) (1 ∷ p)) ∙ ap (drop 1) same ∙ append_assoc (framed y) (written b) (1 ∷ r) in
    let body : x ≡ y = frame_body_once x y (written a ++ 1 ∷ p) (written b ++ 1 ∷ r) small_a.0 small_b.0 inside in
    let rest = same_place a b p r small_a.1 small_b.1 short_p short_r (frame_rest_once x y (written a ++ 1 ∷ p) (written b ++ 1 ∷ r) small_a.0 small_b.0 inside) in
    omega (arith, rest, ap length body, length-append (framed x) (written a), length-append (framed y) (written b), length-framed x, length-framed y)

pub place_once : (file : List ℕ) (at other : ℕ) → IsDamagedAt file at → IsDamagedAt file other → at ≡ other
place_once file at other d e = d.at_is ∙ same_place d.bodies e.bodies d.rest e.rest d.small e.small d.short e.short (sym d.file_is ∙ e.file_is) ∙ sym e.at_is

module _ {D : Type 0} (device : Device D) (opening : Opening) (before after : D) (transparent : IsTrue device.is_transparent) where
  -- what reading a damaged file answers
  pub exactly : (at : ℕ) (r : Result Journal JournalFault) → IsDamagedAt (content_read device opening before) at → IfOk r (IsReadWhole device opening before) → IfErr r (IsReadWholeRefusal device opening before after) → IsErrAnd r (IsOrFails (Damaged at))
  exactly at (Ok journal) d ok refused = let r = ok.records transparent in absurd (no_records (content_read device opening before) r.bodies at r.has d)
  exactly at (Err Exists) d ok refused = absurd refused
  exactly at (Err NoArchive) d ok refused = absurd refused
  exactly at (Err (Damaged other)) d ok refused = inl (ap Damaged (place_once (content_read device opening before) other at (refused transparent) d))
  exactly at (Err (NeedsReopen faults)) d ok refused = absurd refused
  exactly at (Err Limit) d ok refused = absurd refused
  exactly at (Err (DiskFault true)) d ok refused = absurd refused
  exactly at (Err (DiskFault false)) d ok refused = inr tt
  exactly at (Err OutOfMemory) d ok refused = inr tt

  -- and reading one with records
  pub undamaged : (bodies : List (List ℕ)) (r : Result Journal JournalFault) → HasRecords (content_read device opening before) bodies → IfErr r (IsReadWholeRefusal device opening before after) → IfErr r IsFailure
  undamaged bodies (Ok journal) has refused = tt
  undamaged bodies (Err Exists) has refused = absurd refused
  undamaged bodies (Err NoArchive) has refused = absurd refused
  undamaged bodies (Err (Damaged other)) has refused = absurd (no_records (content_read device opening before) bodies other has (refused transparent))
  undamaged bodies (Err (NeedsReopen faults)) has refused = absurd refused
  undamaged bodies (Err Limit) has refused = absurd refused
  undamaged bodies (Err (DiskFault true)) has refused = absurd refused
  undamaged bodies (Err (DiskFault false)) has refused = tt
  undamaged bodies (Err OutOfMemory) has refused = tt

-- a file without a journal doesn't begin with an open gate
pub none_not_open : (content : List ℕ) → HoldsNone content → BeginsOpen content → ⊥
none_not_open [] none begins = absurd (omega (arith, begins.0))
none_not_open (gate ∷ []) none begins = absurd (omega (arith, begins.0))
none_not_open (gate ∷ next ∷ rest) none begins = none begins.1
