-- The fills of parts, and of one part more.
use Rattle.std.proofs.Common.{◌≡◌, List, [], ◌∷◌, ◌++◌, Some, refl, sym, ◌∙◌, ap, subst, append-nil}
use Rattle.std.specs.Prelude.{fold}
use Rattle.std.specs.List.{AllByRecursion, flat_map}
use Rattle.std.proofs.lemmas.List.Concat.{flat_map-append}
use Rattle.std.proofs.lemmas.List.Sums.{fold-append}
use Rattle.arch_types.specs.declared.row.Row.{Row}
use Rattle.field_codec.specs.declared.entry.Entry.{Entry}
use Rattle.param_segments.specs.Rows.{SetRow}
use Rattle.run_pages.specs.Placed.{Placed, rows_of_placed}
use Rattle.seal_codec.specs.declared.seal.Seal.{Seal}
use Rattle.store_fills.specs.Sound.{Fillings, no_fillings}
use Rattle.archive_images.specs.Entries.{Archive, FilledArchive, Replays}
use Rattle.archive_images.specs.SealFiles.{Part, StoredFill}
use Rattle.archive_images.specs.Below.{AreSealedFills, IsSealedFill, after_fill, fillings_of, rows_of_part, rows_of_parts}
use Rattle.sealed_images.specs.Sealing.{fills_of_entries}
use Rattle.sealed_images.proofs.Behind.{rows_first}
use Rattle.sealed_images.proofs.EntrySums.{replays_fills}

fills_more : (parts : List Part) (part : Part) → flat_map (λ (p : Part). p.fills) (parts ++ part ∷ []) ≡ flat_map (λ (p : Part). p.fills) parts ++ part.fills
fills_more parts part =
    flat_map-append (λ (p : Part). p.fills) parts (part ∷ []) ∙ ap (λ (l : List StoredFill). flat_map (λ (p : Part). p.fills) parts ++ l) (append-nil part.fills)

-- the fills of parts and of the log's entries as one part more are those that the entries come to
pub fillings_more : (parts : List Part) (part : Part) (es : List Entry) (made filled : FilledArchive) → made.fillings ≡ fillings_of parts →
    Replays (Some made) es (Some filled) → part.fills ≡ fills_of_entries es → fillings_of (parts ++ part ∷ []) ≡ filled.fillings
fillings_more parts part es made filled is r fills =
    ap (λ (l : List StoredFill). fold after_fill no_fillings l) (fills_more parts part)
    ∙ fold-append after_fill no_fillings (flat_map (λ (p : Part). p.fills) parts) part.fills
    ∙ ap (λ (f : Fillings (List SetRow)). fold after_fill f part.fills) (sym is)
    ∙ ap (λ (l : List StoredFill). fold after_fill made.fillings l) fills
    ∙ sym (replays_fills es made filled r)

-- and they may stand in fill files
pub sealed_fills_more : (old : Archive) (before : List Row) (all : List Seal) (parts : List Part) (seal : Seal) (part : Part) → AreSealedFills old before all parts
    → AllByRecursion (IsSealedFill old seal.rows (before ++ rows_of_placed (rows_of_parts (parts ++ part ∷ [])))) part.fills
    → AreSealedFills old before (all ++ seal ∷ []) (parts ++ part ∷ [])
sealed_fills_more old before [] [] seal part are fills =
    (subst (λ (l : List Placed). AllByRecursion (IsSealedFill old seal.rows (before ++ rows_of_placed l)) part.fills) (append-nil (rows_of_part part)) fills, refl)
sealed_fills_more old before [] (p ∷ parts) seal part are fills = absurd cc
sealed_fills_more old before (s ∷ all) [] seal part are fills = absurd are
sealed_fills_more old before (s ∷ all) (p ∷ parts) seal part are fills = (
  are.0,
  sealed_fills_more old (before ++ rows_of_placed (rows_of_part p)) all parts seal part are.1
      (subst (λ (l : List Row). AllByRecursion (IsSealedFill old seal.rows l) part.fills) (sym (rows_first before p (parts ++ part ∷ []))) fills),
)
