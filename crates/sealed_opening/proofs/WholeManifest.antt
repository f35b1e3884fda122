-- File 0 that was read to its end.
use Rattle.std.proofs.Common.{◌≡◌, ℕ, List, [], ◌++◌, length, map, get_or, Option, Some, None, sym, ◌∙◌, ap, subst}
use Rattle.arch_disk.specs.Disk.{Device}
use Rattle.disk_journal.specs.Calls.{content_read, read_so_far}
use Rattle.disk_journal.specs.Format.{HasRecords, written}
use Rattle.disk_journal.specs.Reading.{file_read}
use Rattle.disk_journal.specs.declared.opening.Opening.{Opening}
use Rattle.disk_journal.specs.State.{extents_from}
use Rattle.field_codec.specs.Spelling.{entry_octets}
use Rattle.history_items.specs.declared.fills.Fill.{Fill}
use Rattle.seal_codec.specs.declared.seal.Seal.{Seal}
use Rattle.archive_images.specs.Entries.{FilledArchive, Replays, dones_of}
use Rattle.archive_images.specs.Moments.{MayFollow}
use Rattle.archive_images.specs.SealFiles.{seal_record}
use Rattle.archive_reading.specs.declared.partial.PartialArchive.{PartialArchive}
use Rattle.archive_reading.specs.PartialArchive.{archive_made, fills_made}
use Rattle.archive_reading.proofs.Archives.{opens_some}
use Rattle.sealed_images.specs.Damage.{FollowsInZero, ZeroSoFar}
use Rattle.sealed_images.specs.Records.{CanFollow, ReadsTo, StopsAt}
use Rattle.sealed_images.proofs.Rules.{zero_so_far}
use Rattle.sealed_opening.specs.Manifest.{IsDamagedZero, IsManifestRead}
use Rattle.sealed_opening.specs.Records.{IsStop}
use Rattle.sealed_opening.specs.Zero.{IsTakenInZero, zero_said}
use Rattle.sealed_opening.specs.declared.manifest.ReadManifest.{ReadManifest}
use Rattle.sealed_opening.specs.declared.zero.ZeroRecords.{ZeroRecords}
use Rattle.sealed_opening.proofs.Reading.{stops_as}
use Rattle.sealed_opening.proofs.ZeroTaken.{AreZeroRecords, all_taken, taken_follows}

module _ (content : List ℕ) (start said : ZeroRecords) (bodies : List (List ℕ)) (unmade : start.made ≡ None) (unsealed : start.seals.items ≡ []) (reads : ReadsTo IsTakenInZero start bodies said) (has : HasRecords content bodies) where
  all : AreZeroRecords start bodies said
  all = all_taken start said bodies reads

  seals_are : said.seals.items ≡ all.more
  seals_are = all.seals_are ∙ ap (λ (l : List Seal). l ++ all.more) unsealed

  -- all records are entries, and behind them the seals
  bodies_are : bodies ≡ map entry_octets all.before ++ map seal_record said.seals.items
  bodies_are = all.bodies_are ∙ ap (λ (l : List Seal). map entry_octets all.before ++ map seal_record l) (sym seals_are)

  pub manifest_read : (manifest : ReadManifest) → said.made ≡ Some manifest.made → said.seals.items ≡ manifest.seals.items → MayFollow said.seals.items → manifest.journal.extents.items ≡ extents_from 0 bodies → manifest.journal.end ≡ length (written bodies)
      → IsManifestRead content manifest
  manifest_read manifest made seals follow extents end =
      let each : bodies ≡ map entry_octets all.before ++ map seal_record manifest.seals.items = bodies_are ∙ ap (λ (l : List Seal). map entry_octets all.before ++ map seal_record l) seals in
      let may : MayFollow manifest.seals.items = subst MayFollow seals follow in
      record {
        before = all.before;
        has = record { has = subst (HasRecords content) each has; fit = may.fit; rising = may.rising; grown = may.grown };
        replays = subst (λ (o : Option FilledArchive). Replays None all.before o) (ap archive_made made) (subst (λ (o : Option FilledArchive). Replays o all.before (archive_made said.made)) (ap archive_made unmade) all.replays);
        fills = sym (ap fills_made made) ∙ all.fills ∙ ap (λ (l : List Fill). l ++ dones_of all.before) (ap fills_made unmade);
        extents = extents ∙ ap (extents_from 0) each;
        end = end ∙ ap (λ (l : List (List ℕ)). length (written l)) each;
      }

  -- a file that begins with an open gate makes an archive
  pub manifest_some : get_or content 0 0 ≡ 1 → said.made ≡ None → ⊥
  manifest_some begun none = opens_some content begun (subst (HasRecords content) (all.none (ap archive_made none)) has)

-- ---- where file 0 is damaged

module _ {D : Type 0} (device : Device D) where
  pub zero_damaged : (disk : D) (opening : Opening) (start : ZeroRecords) (file at : ℕ) → start.made ≡ None → start.seals.items ≡ [] → file_read opening ≡ 0 → read_so_far device opening disk ≡ []
      → IsStop (λ was body. CanFollow FollowsInZero (zero_said was) body) IsTakenInZero device disk opening start file at → IsDamagedZero (device.reads disk) file at
  zero_damaged disk opening start file at unmade unsealed zero first stop =
      let May : ZeroRecords → List ℕ → Type 0 = λ was body. CanFollow FollowsInZero (zero_said was) body in
      let content : List ℕ = content_read device opening disk in
      let stops : StopsAt (CanFollow FollowsInZero) FollowsInZero content (read_so_far device opening disk) (zero_said start) at =
      stops_as zero_said IsTakenInZero FollowsInZero taken_follows May (CanFollow FollowsInZero) (λ was body can. can) content (read_so_far device opening disk) start at stop.1 in
      let begins : zero_said start ≡ zero_so_far None [] = ap (λ (m : Option PartialArchive). zero_so_far (archive_made m) start.seals.items) unmade ∙ ap (zero_so_far None) unsealed in (
        stop.0 ∙ zero,
        subst (λ (s : ZeroSoFar). StopsAt (CanFollow FollowsInZero) FollowsInZero (device.reads disk 0) [] s at) begins
            (subst (λ (l : List (List ℕ)). StopsAt (CanFollow FollowsInZero) FollowsInZero (device.reads disk 0) l (zero_said start) at) first
            (subst (λ (n : ℕ). StopsAt (CanFollow FollowsInZero) FollowsInZero (device.reads disk n) (read_so_far device opening disk) (zero_said start) at) zero stops)),
      )
