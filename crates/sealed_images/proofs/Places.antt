-- A place is damaged once, and so is what is read place behind place.
use Rattle.std.proofs.Common.{◌≡◌, inl, inr, ℕ, List, [], ◌∷◌, ◌++◌, map, refl, sym, ◌∙◌, subst}
use Rattle.std.specs.List.{AllByRecursion}
use Rattle.arch_disk.specs.Image.{Image}
use Rattle.arch_types.specs.declared.row.Row.{Row}
use Rattle.field_codec.specs.Entries.{IsArchiveEntry}
use Rattle.run_pages.specs.Placed.{Placed}
use Rattle.run_pages.specs.Damage.{IsRunDamagedAt}
use Rattle.run_pages.proofs.DamageOnce.{damage_once, run_is_whole}
use Rattle.run_pages.proofs.RunOnce.{run_once}
use Rattle.seal_codec.specs.declared.seal.Seal.{Seal}
use Rattle.seal_codec.specs.declared.seal.SealedRun.{SealedRun}
use Rattle.archive_images.specs.Entries.{Archive}
use Rattle.archive_images.specs.SealFiles.{Part, StoredFill, fill_entry, fill_record}
use Rattle.archive_images.specs.Below.{IsSealedFill}
use Rattle.archive_images.proofs.SealedOnce.{fill_file_once}
use Rattle.sealed_images.specs.Records.{ReadsTo}
use Rattle.sealed_images.specs.Damage.{AreFillsBroken, AreFillsIn, FollowsInFills, HereOrBehind, InRuns, InSeals, IsAnyRun, part_of, rows_of_placed_runs}
use Rattle.sealed_images.proofs.RecordsOnce.{head_damage_once, heads_are_whole}
use Rattle.sealed_images.proofs.Rules.{fills_once}

-- at most one file, and one octet of it
abbrev pub IsOnce : (ℕ → ℕ → Type 0) → Type 0
IsOnce Damage = (f g a b : ℕ) → Damage f a → Damage g b → (f ≡ g) × (a ≡ b)

-- where a place is read as one thing, is broken at one octet, and is never both, there is one damage where behind it is
pub here_or_behind_once : {X : Type 0} (Reads : X → Type 0) (Broken : ℕ → Type 0) (place : ℕ) (Behind : X → ℕ → ℕ → Type 0)
    → ((x y : X) → Reads x → Reads y → x ≡ y) → ((a b : ℕ) → Broken a → Broken b → a ≡ b) → ((x : X) (a : ℕ) → Reads x → Broken a → ⊥)
    → ((x : X) → Reads x → IsOnce (Behind x)) → IsOnce (HereOrBehind Reads Broken place Behind)
here_or_behind_once Reads Broken place Behind one octet never behind f g a b (inl p) (inl q) = (p.0 ∙ sym q.0, octet a b p.1 q.1)
here_or_behind_once Reads Broken place Behind one octet never behind f g a b (inl p) (inr q) = absurd (never q.0 a q.1 p.1)
here_or_behind_once Reads Broken place Behind one octet never behind f g a b (inr p) (inl q) = absurd (never p.0 b p.1 q.1)
here_or_behind_once {X} Reads Broken place Behind one octet never behind f g a b (inr p) (inr q) =
    behind p.0 p.1 f g a b p.2 (subst (λ (x : X). Behind x g b) (one q.0 p.0 q.1 p.1) q.2)

-- ---- the files of seals

pub in_runs_once : (image : Image) (runs : List SealedRun) (Behind : List (List Placed) → ℕ → ℕ → Type 0) → ((x : List (List Placed)) → IsOnce (Behind x)) → IsOnce (InRuns image runs Behind)
in_runs_once image [] Behind behind f g a b x y = behind [] f g a b x y
in_runs_once image (run ∷ more) Behind behind f g a b x y =
    here_or_behind_once (IsAnyRun (image run.file)) (IsRunDamagedAt (image run.file)) run.file (λ rows. InRuns image more (λ runs. Behind (rows ∷ runs)))
    (λ p q r s. (run_once (image run.file) r.0 s.0 p q r.1 s.1).0) (λ p q r s. damage_once (image run.file) p q r s) (λ rows at r broken. run_is_whole (image run.file) r.0 rows at r.1 broken)
    (λ rows r. in_runs_once image more (λ runs. Behind (rows ∷ runs)) (λ runs. behind (rows ∷ runs))) f g a b x y

-- in the fill file of a seal whose runs were read, or behind it
abbrev pub BehindRuns : Image → Archive → List Row → Seal → List Seal → (List Part → ℕ → ℕ → Type 0) → List (List Placed) → ℕ → ℕ → Type 0
BehindRuns image old before seal all Behind runs =
    HereOrBehind (AreFillsIn image old (before ++ rows_of_placed_runs runs) seal) (AreFillsBroken image old (before ++ rows_of_placed_runs runs) seal) seal.fills
    (λ fills. InSeals image old (before ++ rows_of_placed_runs runs) all (λ parts. Behind (part_of runs fills ∷ parts)))

module _ (image : Image) (old : Archive) where
  -- fills that may stand there are read one after the other
  pub fills_read : (sealed : ℕ) (so_far : List Row) (fills : List StoredFill) → AllByRecursion (λ fill. IsArchiveEntry (fill_entry fill)) fills → AllByRecursion (IsSealedFill old sealed so_far) fills
      → ReadsTo (FollowsInFills old sealed so_far) tt (map fill_record fills) tt
  fills_read sealed so_far [] fit may = refl
  fills_read sealed so_far (fill ∷ fills) fit may = (tt, record { fill = fill; body_is = refl; fits = fit.0; may = may.0 }, fills_read sealed so_far fills fit.1 may.1)

  pub fills_are_whole : (so_far : List Row) (seal : Seal) (fills : List StoredFill) (at : ℕ) → AreFillsIn image old so_far seal fills → AreFillsBroken image old so_far seal at → ⊥
  fills_are_whole so_far seal fills at are broken =
      heads_are_whole (FollowsInFills old seal.rows so_far) (fills_once old seal.rows so_far) (image seal.fills) seal.rows (map fill_record fills) tt tt at are.has.has
      (fills_read seal.rows so_far fills are.has.fit are.may) broken

  pub in_seals_once : (before : List Row) (all : List Seal) (Behind : List Part → ℕ → ℕ → Type 0) → ((x : List Part) → IsOnce (Behind x)) → IsOnce (InSeals image old before all Behind)
  in_seals_once before [] Behind behind = behind []
  in_seals_once before (seal ∷ all) Behind behind =
      in_runs_once image seal.runs (BehindRuns image old before seal all Behind)
      (λ runs. let so_far : List Row = before ++ rows_of_placed_runs runs in
      here_or_behind_once (AreFillsIn image old so_far seal) (AreFillsBroken image old so_far seal) seal.fills
      (λ fills. InSeals image old so_far all (λ parts. Behind (part_of runs fills ∷ parts)))
      (λ p q r s. fill_file_once image seal p q r.has s.has)
      (λ p q r s. head_damage_once (FollowsInFills old seal.rows so_far) (fills_once old seal.rows so_far) (image seal.fills) seal.rows tt p q r s)
      (λ fills at are broken. fills_are_whole so_far seal fills at are broken)
      (λ fills are. in_seals_once so_far all (λ parts. Behind (part_of runs fills ∷ parts)) (λ parts. behind (part_of runs fills ∷ parts))))
