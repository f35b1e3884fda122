-- What file 0 says, as records that follow one another.
use Rattle.std.proofs.Common.{◌≡◌, inl, inr, ℕ, List, [], ◌∷◌, ◌++◌, map, true, Option, Some, None, refl, sym, ◌∙◌, ap, subst, append_assoc, append-nil}
use Rattle.std.specs.Prelude.{nat_lt}
use Rattle.std.specs.List.{AllByRecursion}
use Rattle.std.proofs.lemmas.Bool.{and_parts}
use Rattle.std.proofs.lemmas.List.{append_cancel_right}
use Rattle.std.proofs.lemmas.List.Concat.{flat_map-append}
use Rattle.disk_journal.proofs.Once.{records_once}
use Rattle.field_codec.specs.declared.entry.Entry.{Entry}
use Rattle.field_codec.specs.Spelling.{entry_octets}
use Rattle.seal_codec.specs.declared.seal.Seal.{Seal}
use Rattle.seal_codec.specs.Files.{are_rising, files_named}
use Rattle.seal_codec.specs.Seals.{IsSeal}
use Rattle.archive_images.specs.Entries.{FilledArchive, Replays}
use Rattle.archive_images.specs.SealFiles.{AreGrown, files_of_seals, seal_record}
use Rattle.archive_images.specs.Moments.{MayFollow}
use Rattle.archive_images.proofs.Exact.{entries_once}
use Rattle.sealed_images.specs.Records.{ReadsTo}
use Rattle.sealed_images.specs.Damage.{FollowsInZero, Manifest, SaysManifest, ZeroSoFar}
use Rattle.sealed_images.proofs.RecordsOnce.{reads_once}
use Rattle.sealed_images.proofs.Rules.{zero_once, zero_so_far}

-- ---- the first of seals that may follow one another

fit_front : (xs ys : List Seal) → AllByRecursion IsSeal (xs ++ ys) → AllByRecursion IsSeal xs
fit_front [] ys fit = tt
fit_front (x ∷ xs) ys fit = (fit.0, fit_front xs ys fit.1)

rising_front : (low : ℕ) (xs ys : List ℕ) → are_rising low (xs ++ ys) ≡ true → are_rising low xs ≡ true
rising_front low [] ys rising = refl
rising_front low (x ∷ xs) ys rising =
    let parts = and_parts (nat_lt low x) (are_rising x (xs ++ ys)) rising in
    rw (parts.0) (rising_front x xs ys parts.1)

grown_front : (rows : ℕ) (xs ys : List Seal) → AreGrown rows (xs ++ ys) → AreGrown rows xs
grown_front rows [] ys grown = tt
grown_front rows (x ∷ xs) ys grown = (grown.0, grown_front x.rows xs ys grown.1)

may_follow_front : (xs ys : List Seal) → MayFollow (xs ++ ys) → MayFollow xs
may_follow_front xs ys may = record {
  fit = fit_front xs ys may.fit;
  rising = rising_front 0 (files_of_seals xs) (files_of_seals ys) (subst (λ (l : List ℕ). are_rising 0 l ≡ true) (flat_map-append files_named xs ys) may.rising);
  grown = grown_front 0 xs ys may.grown;
}

-- ---- records

pub reads_append : {S : Type 0} (Follows : S → List ℕ → S → Type 0) (a b c : S) (es fs : List (List ℕ)) → ReadsTo Follows a es b → ReadsTo Follows b fs c → ReadsTo Follows a (es ++ fs) c
reads_append {S} Follows a b c [] fs p q = subst (λ (s : S). ReadsTo Follows s fs c) p q
reads_append Follows a b c (e ∷ es) fs p q = (p.0, p.1, reads_append Follows p.0 b c es fs p.2 q)

entries_read : (a b : Option FilledArchive) (es : List Entry) → Replays a es b → ReadsTo FollowsInZero (zero_so_far a []) (map entry_octets es) (zero_so_far b [])
entries_read a b [] r = ap (λ (o : Option FilledArchive). zero_so_far o []) r
entries_read a b (e ∷ es) r = (
  zero_so_far (Some r.0) [],
  inl (record { entry = e; after = r.0; body_is = refl; no_seal = refl; applies = r.1; now_is = refl }),
  entries_read (Some r.0) b es r.2,
)

seals_read : (filled : FilledArchive) (done more : List Seal) → MayFollow (done ++ more) → ReadsTo FollowsInZero (zero_so_far (Some filled) done) (map seal_record more) (zero_so_far (Some filled) (done ++ more))
seals_read filled done [] may = ap (zero_so_far (Some filled)) (append-nil done)
seals_read filled done (seal ∷ more) may =
    let next : (done ++ seal ∷ []) ++ more ≡ done ++ seal ∷ more = append_assoc done (seal ∷ []) more in
    let all = subst MayFollow (sym next) may in (
      zero_so_far (Some filled) (done ++ seal ∷ []),
      inr (record { seal = seal; filled = filled; archive_is = refl; body_is = refl; follows = may_follow_front (done ++ seal ∷ []) more all; now_is = refl }),
      subst (λ (l : List Seal). ReadsTo FollowsInZero (zero_so_far (Some filled) (done ++ seal ∷ [])) (map seal_record more) (zero_so_far (Some filled) l)) next
          (seals_read filled (done ++ seal ∷ []) more all),
    )

-- the bodies of the records of a manifest
abbrev pub bodies_of_manifest : Manifest → List (List ℕ)
bodies_of_manifest m = map entry_octets m.before ++ map seal_record m.all

pub manifest_reads : (content : List ℕ) (m : Manifest) → SaysManifest content m → ReadsTo FollowsInZero (zero_so_far None []) (bodies_of_manifest m) (zero_so_far (Some m.old) m.all)
manifest_reads content m says =
    reads_append FollowsInZero (zero_so_far None []) (zero_so_far (Some m.old) []) (zero_so_far (Some m.old) m.all) (map entry_octets m.before) (map seal_record m.all)
    (entries_read None (Some m.old) m.before says.replays)
    (seals_read m.old [] m.all (record { fit = says.has.fit; rising = says.has.rising; grown = says.has.grown }))

-- file 0 says one manifest
pub manifest_once : (content : List ℕ) (x y : Manifest) → SaysManifest content x → SaysManifest content y → x ≡ y
manifest_once content x y p q =
    let bodies : bodies_of_manifest x ≡ bodies_of_manifest y = records_once content (bodies_of_manifest x) (bodies_of_manifest y) p.has.has q.has.has in
    let end : zero_so_far (Some x.old) x.all ≡ zero_so_far (Some y.old) y.all =
    reads_once FollowsInZero zero_once (zero_so_far None []) (zero_so_far (Some x.old) x.all) (zero_so_far (Some y.old) y.all) (bodies_of_manifest y)
    (subst (λ (l : List (List ℕ)). ReadsTo FollowsInZero (zero_so_far None []) l (zero_so_far (Some x.old) x.all)) bodies (manifest_reads content x p)) (manifest_reads content y q) in
    let olds : ◌≡◌ {A = Option FilledArchive} (Some x.old) (Some y.old) = ap (λ (s : ZeroSoFar). s.archive) end in
    let old : x.old ≡ y.old = cc in
    let all : x.all ≡ y.all = ap (λ (s : ZeroSoFar). s.seals) end in
    let front : map entry_octets x.before ≡ map entry_octets y.before =
    append_cancel_right (map entry_octets x.before) (map entry_octets y.before) (map seal_record y.all)
    (ap (λ (l : List Seal). map entry_octets x.before ++ map seal_record l) (sym all) ∙ bodies) in
    let before : x.before ≡ y.before = entries_once None (Some x.old) (Some y.old) x.before y.before p.replays q.replays front in
    ap (λ (es : List Entry). let m : Manifest = record { before = es; old = x.old; all = x.all } in m) before
    ∙ ap (λ (o : FilledArchive). let m : Manifest = record { before = y.before; old = o; all = x.all } in m) old
    ∙ ap (λ (l : List Seal). let m : Manifest = record { before = y.before; old = y.old; all = l } in m) all
