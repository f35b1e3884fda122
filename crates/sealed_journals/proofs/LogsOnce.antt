-- An image has one log, with one list of entries.
use Rattle.std.proofs.Common.{◌≡◌, inl, inr, ℕ, List, [], ◌∷◌, ◌++◌, length, map, Option, Some, refl, sym, ◌∙◌, ap, subst}
use Rattle.std.proofs.lemmas.List.{append_cancel_left, same_from_push}
use Rattle.arch_disk.specs.Image.{Image}
use Rattle.disk_journal.specs.Format.{HasRecords}
use Rattle.disk_journal.proofs.Once.{records_once}
use Rattle.field_codec.specs.declared.entry.Entry.{Entry}
use Rattle.field_codec.specs.Spelling.{entry_octets}
use Rattle.field_codec.proofs.EntryKinds.{one_spelling}
use Rattle.seal_codec.specs.declared.seal.Seal.{Seal}
use Rattle.archive_images.specs.Entries.{FilledArchive, Replays}
use Rattle.archive_images.specs.Images.{IsPlainLog}
use Rattle.archive_images.specs.SealFiles.{log_head_record}
use Rattle.archive_images.specs.Below.{IsBelow, IsSealed, StandsSealed}
use Rattle.archive_images.proofs.Exact.{takes_entry}
use Rattle.sealed_images.specs.Damage.{Manifest}
use Rattle.sealed_images.specs.Sealing.{rows_of_entries}
use Rattle.sealed_images.proofs.Manifests.{manifest_once}
use Rattle.sealed_images.proofs.Whole.{manifest_of, not_none, plain_says}
use Rattle.sealed_journals.specs.Laws.{LogRowsAreOne}

-- entries that are taken are one list by their octets, whatever they go on from
spelled_once : (a b c d : Option FilledArchive) (es fs : List Entry) → Replays a es b → Replays c fs d → map entry_octets es ≡ map entry_octets fs → es ≡ fs
spelled_once a b c d [] [] p q is = refl
spelled_once a b c d [] (f ∷ fs) p q is = absurd cc
spelled_once a b c d (e ∷ es) [] p q is = absurd cc
spelled_once a b c d (e ∷ es) (f ∷ fs) p q is =
    let head : entry_octets e ≡ entry_octets f = cc in
    let rest : map entry_octets es ≡ map entry_octets fs = cc in
    ap (λ (x : Entry). x ∷ es) (one_spelling e f (takes_entry a e p.0 p.1) (takes_entry c f q.0 q.1) head)
    ∙ ap (λ (l : List Entry). f ∷ l) (spelled_once (Some p.0) b (Some q.0) d es fs p.2 q.2 rest)

-- the same log, which begins with the same records
abbrev AreSameLog : ℕ → ℕ → List (List ℕ) → List (List ℕ) → Type 0
AreSameLog log other beginning begun = (log ≡ other) × (beginning ≡ begun)

sealed_log_once : (image : Image) (log other : ℕ) (beginning begun : List (List ℕ)) (base over : Option FilledArchive) → IsSealed image log beginning base → IsSealed image other begun over → AreSameLog log other beginning begun
sealed_log_once image log other beginning begun base over x y =
    let same : manifest_of x ≡ manifest_of y = manifest_once (image 0) (manifest_of x) (manifest_of y) (record { has = x.manifest; replays = x.replays }) (record { has = y.manifest; replays = y.replays }) in
    let last = same_from_push x.earlier y.earlier x.last y.last (ap (λ (m : Manifest). m.all) same) in (
      x.log_is ∙ ap (λ (s : Seal). s.log) last.1 ∙ sym y.log_is,
      x.beginning_is ∙ ap (λ (s : Seal). log_head_record s.rows ∷ []) last.1 ∙ sym y.beginning_is,
    )

-- file 0 isn't a log and a manifest
not_plain : (image : Image) (filled : FilledArchive) (s : StandsSealed image filled) (log : ℕ) (beginning : List (List ℕ)) (base : Option FilledArchive) → IsPlainLog {A = FilledArchive} image s.log s.beginning s.base → IsSealed image log beginning base → ⊥
not_plain image filled s log beginning base plain x =
    let m : Manifest = record { before = s.entries; old = filled; all = [] } in
    let same : m ≡ manifest_of x = manifest_once (image 0) m (manifest_of x) (plain_says image filled s plain) (record { has = x.manifest; replays = x.replays }) in
    not_none x.earlier x.last (ap (λ (l : Manifest). l.all) same)

log_once : (image : Image) (a b : FilledArchive) (s : StandsSealed image a) (t : StandsSealed image b) → IsBelow image s.log s.beginning s.base → IsBelow image t.log t.beginning t.base → AreSameLog s.log t.log s.beginning t.beginning
log_once image a b s t (inl p) (inl q) = (p.0 ∙ sym q.0, p.1 ∙ sym q.1)
log_once image a b s t (inl p) (inr q) = absurd (not_plain image a s t.log t.beginning t.base p q)
log_once image a b s t (inr p) (inl q) = absurd (not_plain image b t s.log s.beginning s.base q p)
log_once image a b s t (inr p) (inr q) = sealed_log_once image s.log t.log s.beginning t.beginning s.base t.base p q

-- an image's log has one list of entries
pub log_entries_once : (image : Image) (a b : FilledArchive) (s : StandsSealed image a) (t : StandsSealed image b) → s.entries ≡ t.entries
log_entries_once image a b s t =
    let same = log_once image a b s t s.has_base t.has_base in
    let has : HasRecords (image t.log) (t.beginning ++ map entry_octets s.entries) =
    subst (λ (l : List (List ℕ)). HasRecords (image t.log) (l ++ map entry_octets s.entries)) same.1
    (subst (λ (f : ℕ). HasRecords (image f) (s.beginning ++ map entry_octets s.entries)) same.0 s.has) in
    spelled_once s.base (Some a) t.base (Some b) s.entries t.entries s.replays t.replays
    (append_cancel_left t.beginning (map entry_octets s.entries) (map entry_octets t.entries)
    (records_once (image t.log) (t.beginning ++ map entry_octets s.entries) (t.beginning ++ map entry_octets t.entries) has t.has))

pub log_rows_once : LogRowsAreOne
log_rows_once image rows other p q =
    p.rows_are ∙ ap (λ (es : List Entry). length (rows_of_entries es)) (log_entries_once image p.filled q.filled p.stands q.stands) ∙ sym q.rows_are
