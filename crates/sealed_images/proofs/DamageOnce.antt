-- An image is damaged at one octet of one file at most.
use Rattle.std.proofs.Common.{◌≡◌, ℕ, List, [], ◌∷◌, Some, None, sym, ◌∙◌, subst}
use Rattle.std.proofs.lemmas.List.{same_from_push}
use Rattle.arch_disk.specs.Image.{Image}
use Rattle.arch_types.specs.declared.row.Row.{Row}
use Rattle.disk_journal.proofs.Once.{records_once}
use Rattle.run_pages.specs.Placed.{rows_of_placed}
use Rattle.seal_codec.specs.declared.seal.Seal.{Seal}
use Rattle.archive_images.specs.Entries.{Archive}
use Rattle.archive_images.specs.SealFiles.{Part, log_head_record}
use Rattle.archive_images.specs.Below.{rows_of_parts}
use Rattle.sealed_images.specs.Records.{ReadsTo}
use Rattle.sealed_images.specs.Damage.{AreRowsBroken, FollowsInLog, FollowsInZero, InLogOrRows, InSeals, IsBehindZero, IsLogBroken, IsLogOfRows, IsZeroDamagedAt, Manifest, SaysManifest}
use Rattle.sealed_images.specs.Laws.{SealedDamageIsOne}
use Rattle.sealed_images.proofs.Manifests.{bodies_of_manifest, manifest_once, manifest_reads}
use Rattle.sealed_images.proofs.Places.{IsOnce, here_or_behind_once, in_seals_once}
use Rattle.sealed_images.proofs.RecordsOnce.{head_damage_once, heads_are_whole, reads_once, record_damage_once, records_are_whole}
use Rattle.sealed_images.proofs.Rules.{log_once, zero_once, zero_so_far}

-- ---- the log, and the rows of all runs

log_rows_once : (content : List ℕ) (old : Archive) (sealed : ℕ) (in_runs x y : List Row) → IsLogOfRows content old sealed in_runs x → IsLogOfRows content old sealed in_runs y → x ≡ y
log_rows_once content old sealed in_runs x y p q =
    let all : log_head_record sealed ∷ p.bodies ≡ log_head_record sealed ∷ q.bodies = records_once content (log_head_record sealed ∷ p.bodies) (log_head_record sealed ∷ q.bodies) p.has q.has in
    let bodies : p.bodies ≡ q.bodies = cc in
    reads_once (FollowsInLog old sealed in_runs) (log_once old sealed in_runs) [] x y q.bodies
    (subst (λ (l : List (List ℕ)). ReadsTo (FollowsInLog old sealed in_runs) [] l x) bodies p.reads) q.reads

log_or_rows_once : (image : Image) (m : Manifest) (earlier : List Seal) (last : Seal) (parts : List Part) → IsOnce (InLogOrRows image m earlier last parts)
log_or_rows_once image m earlier last parts =
    here_or_behind_once (IsLogOfRows (image last.log) m.old.plain last.rows in_runs) (IsLogBroken (image last.log) m.old.plain last.rows in_runs) last.log
    (λ rows f a. (f ≡ 0) × AreRowsBroken image m earlier last parts a)
    (λ x y p q. log_rows_once (image last.log) m.old.plain last.rows in_runs x y p q)
    (λ a b p q. head_damage_once (FollowsInLog m.old.plain last.rows in_runs) (log_once m.old.plain last.rows in_runs) (image last.log) last.rows [] a b p q)
    (λ rows at log broken. heads_are_whole (FollowsInLog m.old.plain last.rows in_runs) (log_once m.old.plain last.rows in_runs) (image last.log) last.rows log.bodies [] rows at log.has log.reads broken)
    (λ rows log f g a b p q. (p.0 ∙ sym q.0, p.1.at_is ∙ sym q.1.at_is))
  where
    in_runs : List Row
    in_runs = rows_of_placed (rows_of_parts parts)

-- ---- an image

behind_zero_once : (image : Image) (m : Manifest) → IsOnce (IsBehindZero image m)
behind_zero_once image m f g a b p q =
    let same = same_from_push p.earlier q.earlier p.last q.last (sym p.split ∙ q.split) in
    in_seals_once image m.old.plain [] m.all (InLogOrRows image m p.earlier p.last) (log_or_rows_once image m p.earlier p.last) f g a b p.bad
    (subst (λ (s : Seal). InSeals image m.old.plain [] m.all (InLogOrRows image m p.earlier s) g b) (sym same.1)
    (subst (λ (l : List Seal). InSeals image m.old.plain [] m.all (InLogOrRows image m l q.last) g b) (sym same.0) q.bad))

pub image_damage_once : SealedDamageIsOne
image_damage_once image f g a b =
    here_or_behind_once (SaysManifest (image 0)) (IsZeroDamagedAt image) 0 (IsBehindZero image)
    (λ x y p q. manifest_once (image 0) x y p q)
    (λ c d p q. record_damage_once FollowsInZero zero_once (image 0) [] (zero_so_far None []) c d p q)
    (λ m at says broken. records_are_whole FollowsInZero zero_once (image 0) [] (bodies_of_manifest m) (zero_so_far None []) (zero_so_far (Some m.old) m.all) at says.has.has (manifest_reads (image 0) m says) broken)
    (λ m says. behind_zero_once image m) f g a b
