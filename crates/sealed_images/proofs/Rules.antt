-- A record may be followed by what it is in one way: of each file's records.
use Rattle.std.proofs.Common.{◌≡◌, inl, inr, ℕ, List, [], ◌∷◌, ◌++◌, Option, Some, refl, sym, ◌∙◌, ap, subst}
use Rattle.std.specs.List.{AllByRecursion}
use Rattle.arch_types.specs.declared.row.Row.{Row}
use Rattle.field_codec.specs.declared.entry.Entry.{Entry}
use Rattle.field_codec.specs.declared.entry.Entry.TheVariants as entries
use Rattle.field_codec.proofs.EntryKinds.{one_spelling}
use Rattle.seal_codec.specs.declared.seal.Seal.{Seal}
use Rattle.seal_codec.specs.Seals.{IsSeal}
use Rattle.archive_images.specs.Entries.{Applies, Archive, FilledArchive}
use Rattle.archive_images.specs.SealFiles.{fill_entry}
use Rattle.archive_images.proofs.Exact.{replays_once, takes_entry}
use Rattle.sealed_images.specs.Damage.{FollowsInFills, FollowsInLog, FollowsInZero, IsEntryInZero, IsSealInZero, ZeroSoFar}

last_of : {X : Type 0} (P : X → Type 0) (xs : List X) (x : X) → AllByRecursion P (xs ++ x ∷ []) → P x
last_of P [] x all = all.0
last_of P (y ∷ xs) x all = last_of P xs x all.1

-- ---- file 0

abbrev pub zero_so_far : Option FilledArchive → List Seal → ZeroSoFar
zero_so_far archive seals = record { archive = archive; seals = seals }

seal_fits : (was now : ZeroSoFar) (body : List ℕ) (p : IsSealInZero was body now) → IsSeal p.seal
seal_fits was now body p = last_of IsSeal was.seals p.seal p.follows.fit

-- an entry that makes an archive is no seal
not_seal : (was x y : ZeroSoFar) (body : List ℕ) → IsEntryInZero was body x → IsSealInZero was body y → ⊥
not_seal was x y body p q =
    let same : p.entry ≡ entries.Seal q.seal = one_spelling p.entry (entries.Seal q.seal) (takes_entry was.archive p.entry p.after p.applies) (seal_fits was y body q) (sym p.body_is ∙ q.body_is) in
    subst (λ (o : Option FilledArchive). Applies o (entries.Seal q.seal) p.after) q.archive_is (subst (λ (e : Entry). Applies was.archive e p.after) same p.applies)

pub zero_once : (was : ZeroSoFar) (body : List ℕ) (x y : ZeroSoFar) → FollowsInZero was body x → FollowsInZero was body y → x ≡ y
zero_once was body x y (inl p) (inl q) =
    let same : p.entry ≡ q.entry = one_spelling p.entry q.entry (takes_entry was.archive p.entry p.after p.applies) (takes_entry was.archive q.entry q.after q.applies) (sym p.body_is ∙ q.body_is) in
    let after : ◌≡◌ {A = Option FilledArchive} (Some p.after) (Some q.after) =
    replays_once was.archive (Some p.after) (Some q.after) (q.entry ∷ []) (p.after, subst (λ (e : Entry). Applies was.archive e p.after) same p.applies, refl) (q.after, q.applies, refl) in
    p.now_is ∙ ap (λ (o : Option FilledArchive). zero_so_far o []) after ∙ sym q.now_is
zero_once was body x y (inl p) (inr q) = absurd (not_seal was x y body p q)
zero_once was body x y (inr p) (inl q) = absurd (not_seal was y x body q p)
zero_once was body x y (inr p) (inr q) =
    let same : entries.Seal p.seal ≡ entries.Seal q.seal = one_spelling (entries.Seal p.seal) (entries.Seal q.seal) (seal_fits was x body p) (seal_fits was y body q) (sym p.body_is ∙ q.body_is) in
    let seal : p.seal ≡ q.seal = cc in
    p.now_is ∙ ap (λ (s : Seal). zero_so_far was.archive (was.seals ++ s ∷ [])) seal ∙ sym q.now_is

-- ---- a fill file, and the log

pub fills_once : (old : Archive) (sealed : ℕ) (so_far : List Row) (was : Unit {0}) (body : List ℕ) (x y : Unit {0}) → FollowsInFills old sealed so_far was body x → FollowsInFills old sealed so_far was body y → x ≡ y
fills_once old sealed so_far was body x y p q = refl

pub log_once : (old : Archive) (sealed : ℕ) (in_runs was : List Row) (body : List ℕ) (x y : List Row) → FollowsInLog old sealed in_runs was body x → FollowsInLog old sealed in_runs was body y → x ≡ y
log_once old sealed in_runs was body x y (inl p) (inl q) =
    let same : entries.Rows p.rows ≡ entries.Rows q.rows = one_spelling (entries.Rows p.rows) (entries.Rows q.rows) p.may.spelled q.may.spelled (sym p.body_is ∙ q.body_is) in
    let rows : p.rows ≡ q.rows = cc in
    p.now_is ∙ ap (λ (l : List Row). was ++ l) rows ∙ sym q.now_is
log_once old sealed in_runs was body x y (inl p) (inr q) =
    let same : entries.Rows p.rows ≡ fill_entry q.fill = one_spelling (entries.Rows p.rows) (fill_entry q.fill) p.may.spelled q.fits (sym p.body_is ∙ q.body_is) in
    absurd cc
log_once old sealed in_runs was body x y (inr p) (inl q) =
    let same : entries.Rows q.rows ≡ fill_entry p.fill = one_spelling (entries.Rows q.rows) (fill_entry p.fill) q.may.spelled p.fits (sym q.body_is ∙ p.body_is) in
    absurd cc
log_once old sealed in_runs was body x y (inr p) (inr q) = p.now_is ∙ sym q.now_is
