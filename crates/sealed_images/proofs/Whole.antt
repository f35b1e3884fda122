-- An image that stands for an archive is damaged nowhere, and neither is one that holds none.
use Rattle.std.proofs.Common.{◌≡◌, inl, inr, ⊎_elim, ℕ, ◌<◌, ◌≤◌, List, [], ◌∷◌, ◌++◌, length, map, Option, Some, None, refl, sym, ap, subst, arith, append-nil, length-append}
use Rattle.std.proofs.lemmas.List.{same_from_push}
use Rattle.arch_disk.specs.Image.{Image}
use Rattle.disk_journal.specs.Format.{HasRecords, HoldsNone, framed, written}
use Rattle.disk_journal.proofs.Files.{length-framed}
use Rattle.field_codec.specs.declared.entry.Entry.{Entry}
use Rattle.field_codec.specs.Spelling.{entry_octets}
use Rattle.run_pages.specs.Placed.{rows_of_placed}
use Rattle.seal_codec.specs.declared.seal.Seal.{Seal}
use Rattle.archive_images.specs.Entries.{FilledArchive, Replays}
use Rattle.archive_images.specs.Images.{IsPlainLog}
use Rattle.archive_images.specs.SealFiles.{seal_record}
use Rattle.archive_images.specs.Below.{IsSealed, StandsSealed, rows_of_parts}
use Rattle.sealed_images.specs.Damage.{FollowsInLog, FollowsInZero, InLogOrRows, InSeals, IsBehindZero, IsImageDamagedAt, IsZeroDamagedAt, Manifest, SaysManifest}
use Rattle.sealed_images.specs.Laws.{NoneIsNowhereDamaged, SealedArchivesAreWhole}
use Rattle.sealed_images.specs.Sealing.{rows_of_entries}
use Rattle.sealed_images.proofs.Behind.{through_seals}
use Rattle.sealed_images.proofs.LogReads.{entries_read_as_log}
use Rattle.sealed_images.proofs.Manifests.{bodies_of_manifest, manifest_once, manifest_reads}
use Rattle.sealed_images.proofs.RecordsOnce.{heads_are_whole, records_are_whole}
use Rattle.sealed_images.proofs.Rules.{log_once, zero_once, zero_so_far}

-- ---- behind what file 0 says

pub zero_is_whole : (image : Image) (m : Manifest) (at : ℕ) → SaysManifest (image 0) m → IsZeroDamagedAt image at → ⊥
zero_is_whole image m at says broken =
    records_are_whole FollowsInZero zero_once (image 0) [] (bodies_of_manifest m) (zero_so_far None []) (zero_so_far (Some m.old) m.all) at says.has.has (manifest_reads (image 0) m says) broken

behind_manifest : (image : Image) (m : Manifest) (file at : ℕ) → SaysManifest (image 0) m → IsImageDamagedAt image file at → IsBehindZero image m file at
behind_manifest image m file at says (inl here) = absurd (zero_is_whole image m at says here.1)
behind_manifest image m file at says (inr later) = subst (λ (x : Manifest). IsBehindZero image x file at) (manifest_once (image 0) later.0 m later.1 says) later.2

pub not_none : (xs : List Seal) (x : Seal) → [] ≡ xs ++ x ∷ [] → ⊥
not_none [] x is = absurd cc
not_none (y ∷ xs) x is = absurd cc

-- ---- an image that stands for an archive

-- file 0 says its entries alone
pub plain_says : (image : Image) (filled : FilledArchive) (s : StandsSealed image filled) → IsPlainLog {A = FilledArchive} image s.log s.beginning s.base → SaysManifest (image 0) (record { before = s.entries; old = filled; all = [] })
plain_says image filled s plain = record {
  has = record {
    has = subst (λ (l : List (List ℕ)). HasRecords (image 0) l) (sym (append-nil (map entry_octets s.entries)))
        (subst (λ (b : List (List ℕ)). HasRecords (image 0) (b ++ map entry_octets s.entries)) plain.1
        (subst (λ (f : ℕ). HasRecords (image f) (s.beginning ++ map entry_octets s.entries)) plain.0 s.has));
    fit = tt;
    rising = refl;
    grown = tt;
  };
  replays = subst (λ (b : Option FilledArchive). Replays b s.entries (Some filled)) plain.2 s.replays;
}

abbrev pub manifest_of : {image : Image} {log : ℕ} {beginning : List (List ℕ)} {base : Option FilledArchive} → IsSealed image log beginning base → Manifest
manifest_of x = record { before = x.before; old = x.old; all = x.earlier ++ x.last ∷ [] }

-- the log isn't broken, and the rows of all runs may be sealed
not_in_log_or_rows : (image : Image) (filled : FilledArchive) (s : StandsSealed image filled) (x : IsSealed image s.log s.beginning s.base) (file at : ℕ) → InLogOrRows image (manifest_of x) x.earlier x.last x.parts file at → ⊥
not_in_log_or_rows image filled s x file at (inl here) =
    heads_are_whole (FollowsInLog x.old.plain x.last.rows (rows_of_placed (rows_of_parts x.parts))) (log_once x.old.plain x.last.rows (rows_of_placed (rows_of_parts x.parts))) (image x.last.log) x.last.rows
    (map entry_octets s.entries) [] (rows_of_entries s.entries) at
    (subst (λ (b : List (List ℕ)). HasRecords (image x.last.log) (b ++ map entry_octets s.entries)) x.beginning_is
    (subst (λ (f : ℕ). HasRecords (image f) (s.beginning ++ map entry_octets s.entries)) x.log_is s.has))
    (entries_read_as_log x.old.plain (x.earlier ++ x.last ∷ []) x.last.rows x.parts x.made x.make s.entries filled
    (subst (λ (b : Option FilledArchive). Replays b s.entries (Some filled)) x.base_is s.replays)) here.1
not_in_log_or_rows image filled s x file at (inr later) = later.2.1.none x.made x.have x.make

not_behind_seals : (image : Image) (filled : FilledArchive) (s : StandsSealed image filled) (x : IsSealed image s.log s.beginning s.base) (file at : ℕ) → IsBehindZero image (manifest_of x) file at → ⊥
not_behind_seals image filled s x file at b =
    let all : List Seal = x.earlier ++ x.last ∷ [] in
    let same = same_from_push b.earlier x.earlier b.last x.last (sym b.split) in
    not_in_log_or_rows image filled s x file at
    (through_seals image x.old.plain [] all x.parts (InLogOrRows image (manifest_of x) x.earlier x.last) file at x.have x.make.fills
    (subst (λ (l : Seal). InSeals image x.old.plain [] all (InLogOrRows image (manifest_of x) x.earlier l) file at) same.1
    (subst (λ (l : List Seal). InSeals image x.old.plain [] all (InLogOrRows image (manifest_of x) l b.last) file at) same.0 b.bad)))

pub archives_are_whole : SealedArchivesAreWhole
archives_are_whole image filled file at s bad = ⊎_elim
    (λ plain. let b = behind_manifest image (record { before = s.entries; old = filled; all = [] }) file at (plain_says image filled s plain) bad in not_none b.earlier b.last b.split)
    (λ x. not_behind_seals image filled s x file at (behind_manifest image (manifest_of x) file at (record { has = x.manifest; replays = x.replays }) bad))
    s.has_base

-- ---- an image that holds none

-- an open gate with an octet behind it
some_held : (rest : List ℕ) → 0 < length rest → HoldsNone (1 ∷ rest) → ⊥
some_held [] some none = absurd (omega (arith, some))
some_held (x ∷ rest) some none = none refl

-- with a record
record_held : (content : List ℕ) (body : List ℕ) (bodies : List (List ℕ)) → HasRecords content (body ∷ bodies) → HoldsNone content → ⊥
record_held content body bodies has none =
    some_held ((framed body ++ written bodies) ++ has.tail)
    (omega (arith, length-append (framed body ++ written bodies) has.tail, length-append (framed body) (written bodies), length-framed body))
    (subst HoldsNone has.file_is none)

-- what says a manifest has the record of a head
manifest_held : (content : List ℕ) (before : List Entry) (old : FilledArchive) (all : List Seal) → Replays None before (Some old) → HasRecords content (map entry_octets before ++ map seal_record all) → HoldsNone content → ⊥
manifest_held content [] old all replays has none = absurd (cc (replays))
manifest_held content (e ∷ before) old all replays has none = record_held content (entry_octets e) (map entry_octets before ++ map seal_record all) has none

zero_held : (content : List ℕ) (bodies : List (List ℕ)) (rest : List ℕ) → content ≡ written bodies ++ 1 ∷ rest → 2 ≤ length content → HoldsNone content → ⊥
zero_held content [] rest is long none = some_held rest (omega (arith, long, ap length is)) (subst HoldsNone is none)
zero_held content (body ∷ bodies) rest is long none =
    some_held ((framed body ++ written bodies) ++ 1 ∷ rest)
    (omega (arith, length-append (framed body ++ written bodies) (1 ∷ rest))) (subst HoldsNone is none)

pub none_is_nowhere_damaged : NoneIsNowhereDamaged
none_is_nowhere_damaged image none = (
  λ filled s. ⊎_elim
      (λ plain. let says = plain_says image filled s plain in manifest_held (image 0) s.entries filled [] says.replays says.has.has none)
      (λ x. manifest_held (image 0) x.before x.old (x.earlier ++ x.last ∷ []) x.replays x.manifest.has none)
      s.has_base,
  λ file at bad. ⊎_elim
      (λ here. zero_held (image 0) here.1.bodies here.1.rest here.1.content_is here.1.long none)
      (λ later. manifest_held (image 0) later.0.before later.0.old later.0.all later.1.replays later.1.has.has none)
      bad,
)
