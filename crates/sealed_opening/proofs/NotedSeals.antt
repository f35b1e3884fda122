-- The files of seals, those of one more seal at a time.
use Rattle.std.proofs.Common.{◌≡◌, inl, inr, ⊎_elim, ℕ, ◌+◌, ◌<◌, List, [], ◌∷◌, ◌++◌, length, map, take, drop, get_or, refl, sym, ◌∙◌, ap, subst, append_assoc, append-nil}
use Rattle.std.specs.Prelude.{IsTrue}
use Rattle.std.specs.List.{AllByRecursion, flat_map}
use Rattle.std.specs.declared.snapshot.Snapshot.{Snapshot}
use Rattle.std.proofs.lemmas.List.{drop_more, map-append, take-append-drop}
use Rattle.std.proofs.lemmas.List.Concat.{flat_map-append}
use Rattle.arch_disk.specs.Disk.{Device}
use Rattle.arch_disk.specs.Image.{Image}
use Rattle.arch_types.specs.declared.row.Row.{Row}
use Rattle.octet_fields.specs.Exact.{IsOctets}
use Rattle.history_items.specs.declared.fills.Fill.{Fill}
use Rattle.history_items.specs.declared.fills.Fill.TheVariants.{Done}
use Rattle.fill_tracker.specs.Placed.{AreMarksOfPlaced}
use Rattle.param_segments.specs.Rows.{SetRow}
use Rattle.run_pages.specs.Pages.{FitsPage, rows_of_page}
use Rattle.run_pages.specs.declared.page_rows.PageRows.{PageRows}
use Rattle.run_pages.specs.Placed.{Placed, behind_positions, rows_of_placed}
use Rattle.seal_codec.specs.declared.seal.Seal.{Seal}
use Rattle.seal_codec.specs.declared.seal.SealedRun.{SealedRun}
use Rattle.sealed_sums.specs.Sums.{AreSumsOf, SumsView}
use Rattle.store_fills.specs.LastFills.{LastFillsView, fillings_in}
use Rattle.store_fills.specs.Sound.{Fillings}
use Rattle.archive_images.specs.declared.head.Head.{Head}
use Rattle.archive_images.specs.Below.{after_fill, rows_of_part, rows_of_parts}
use Rattle.archive_images.specs.Entries.{Archive}
use Rattle.archive_images.specs.SealFiles.{Part, StoredFill}
use Rattle.sealed_images.specs.Damage.{AreFillsBroken, AreFillsIn, AreSealsIn, InRuns, InSeals, part_of, rows_of_placed_runs}
use Rattle.sealed_images.proofs.Behind.{behind_runs, behind_seals, rows_first}
use Rattle.sealed_images.proofs.Places.{BehindRuns}
use Rattle.sealed_opening.specs.Fills.{AreFillsNoted, IsInFillFile, after_fills, bare, dones_of_stored}
use Rattle.sealed_opening.specs.Positions.{AreFlagsOf}
use Rattle.sealed_opening.specs.Seals.{AreRunsNoted, AreSealsRead, IsInRuns, IsInSeals, NoneBehind}
use Rattle.sealed_opening.specs.SoFar.{AreRowsNoted, HasOwnMarks, rows_so_far}
use Rattle.sealed_opening.specs.declared.so_far.SealedSoFar.{SealedSoFar}
use Rattle.sealed_opening.proofs.NotedRows.{all_both}
use Rattle.sealed_opening.proofs.NotedRuns.{runs_as, runs_in}

abbrev row_at : Placed → Row
row_at at = at.row

abbrev position_at : Placed → ℕ
position_at at = at.position

abbrev beside : Placed → ℕ × Row
beside at = (at.position, at.row)

-- ---- the marks of the rows so far

marks_on : (rows : List Placed) (was now : SealedSoFar) → AreRowsNoted rows was now → HasOwnMarks was → HasOwnMarks now
marks_on rows was now n are =
    let front : List Placed = rows_so_far was in
    let here = n.marks (behind_positions front) are in
    let same : behind_positions front ++ behind_positions rows ≡ behind_positions (rows_so_far now) = sym (map-append beside front rows) ∙ ap behind_positions (sym n.told) in
    subst (λ (e : ℕ). AreMarksOfPlaced e (behind_positions (rows_so_far now)) now.tracker.fills now.tracker.marks) (sym n.exponent)
    (subst (λ (l : List (ℕ × Row)). AreMarksOfPlaced was.sums.exponent l now.tracker.fills now.tracker.marks) same here)

-- ---- one seal

-- the rows of runs behind those before
rows_now : (runs : List (List Placed)) (was now : SealedSoFar) → rows_so_far now ≡ rows_so_far was ++ flat_map (λ (run : List Placed). run) runs → rows_of_placed (rows_so_far now) ≡ rows_of_placed (rows_so_far was) ++ rows_of_placed_runs runs
rows_now runs was now told = ap rows_of_placed told ∙ map-append row_at (rows_so_far was) (flat_map (λ (run : List Placed). run) runs)

part_rows : (runs : List (List Placed)) (fills : List StoredFill) → rows_of_parts (part_of runs fills ∷ []) ≡ flat_map (λ (run : List Placed). run) runs
part_rows runs fills = append-nil (flat_map (λ (run : List Placed). run) runs)

part_fills : (runs : List (List Placed)) (fills : List StoredFill) → flat_map (λ (part : Part). part.fills) (part_of runs fills ∷ []) ≡ fills
part_fills runs fills = append-nil fills

module _ {D : Type 0} (device : Device D) (disk other : D) (head : Head) (seal : Seal) (was mid : SealedSoFar) (reads : device.reads other ≡ device.reads disk) (r : AreRunsNoted device disk head seal.runs was mid) where
  -- the fill file's rule is over these rows
  fills_as : (P : Image → ℕ → List Row → Type 0) → P (device.reads other) mid.sums.exponent (rows_of_placed (rows_so_far mid)) → P (device.reads disk) was.sums.exponent (rows_of_placed (rows_so_far was) ++ rows_of_placed_runs r.rows)
  fills_as P is =
      subst (λ (l : List Row). P (device.reads disk) was.sums.exponent l) (rows_now r.rows was mid r.noted.told)
      (subst (λ (e : ℕ). P (device.reads disk) e (rows_of_placed (rows_so_far mid))) r.noted.exponent
      (subst (λ (image : Image). P image mid.sums.exponent (rows_of_placed (rows_so_far mid))) reads is))

  pub seal_read : (now : SealedSoFar) → AreFillsNoted device other head seal mid now → AreSealsRead device disk head (seal ∷ []) was now
  seal_read now f =
      let all : List Placed = flat_map (λ (run : List Placed). run) r.rows in
      let parts : List Part = part_of r.rows f.fills ∷ [] in
      let rows : rows_of_parts parts ≡ all = part_rows r.rows f.fills in
      let fills : flat_map (λ (part : Part). part.fills) parts ≡ f.fills = part_fills r.rows f.fills in
      let told : rows_so_far now ≡ rows_so_far mid = ap (λ (l : List (Snapshot PageRows)). flat_map (λ (page : Snapshot PageRows). rows_of_page page.value) l) f.told in
      record {
        parts = parts;
        read = λ transparent are. (
          runs_in (device.reads disk) seal.runs r.runs r.rows (r.held transparent),
          fills_as (λ (image : Image) (e : ℕ) (l : List Row). AreFillsIn image (bare head e) l seal f.fills) (f.file transparent (marks_on all was mid r.noted are)),
          refl,
        );
        told = told ∙ r.noted.told ∙ ap (λ (l : List Placed). rows_so_far was ++ l) (sym rows);
        sums = λ before are. subst (λ (l : List Placed). AreSumsOf (before ++ rows_of_placed l) now.sums) (sym rows) (subst (AreSumsOf (before ++ rows_of_placed all)) (sym f.sums) (r.noted.sums before are));
        marks = λ are.
            let here = f.marks mid.sums.exponent (behind_positions (rows_so_far mid)) (marks_on all was mid r.noted are) in
            subst (λ (s : SumsView). AreMarksOfPlaced s.exponent (behind_positions (rows_so_far now)) now.tracker.fills now.tracker.marks) (sym f.sums)
            (subst (λ (l : List Placed). AreMarksOfPlaced mid.sums.exponent (behind_positions l) now.tracker.fills now.tracker.marks) (sym told) here);
        positions = λ limit said are. subst (λ (l : List Placed). AreFlagsOf limit (said ++ map position_at l) now.positions) (sym rows)
            (subst (AreFlagsOf limit (said ++ map position_at all)) (sym f.positions) (r.noted.positions limit said are));
        fit = subst (AllByRecursion FitsPage) (sym rows) r.noted.fit;
        octets = subst (AllByRecursion (λ (at : Placed). IsOctets at.row.packet)) (sym rows) r.noted.octets;
        dones = f.dones ∙ ap (λ (l : List Fill). l ++ dones_of_stored f.fills) r.noted.fills.0 ∙ ap (λ (l : List StoredFill). was.tracker.fills ++ dones_of_stored l) (sym fills);
        sets = f.sets ∙ ap (λ (z : LastFillsView). after_fills (fillings_in z.filled) f.fills) r.noted.fills.1 ∙ ap (λ (l : List StoredFill). after_fills (fillings_in was.sets.filled) l) (sym fills);
        exponent = ap (λ (s : SumsView). s.exponent) f.sums ∙ r.noted.exponent;
      }

  -- a run is damaged, or the fill file
  pub fill_file_damaged : IsTrue device.is_transparent → (file at : ℕ) → IsInFillFile (device.reads other) head seal mid file at → IsInSeals (device.reads disk) head (seal ∷ []) was file at
  fill_file_damaged transparent file at bad are =
      let old : Archive = bare head was.sums.exponent in
      let before : List Row = rows_of_placed (rows_so_far was) in
      let here = bad (marks_on (flat_map (λ (run : List Placed). run) r.rows) was mid r.noted are) in
      let broken = fills_as (λ (image : Image) (e : ℕ) (l : List Row). AreFillsBroken image (bare head e) l seal at) here.1 in
      subst (λ (l : List SealedRun). InRuns (device.reads disk) l (BehindRuns (device.reads disk) old before seal [] NoneBehind) file at) (append-nil seal.runs)
      (behind_runs (device.reads disk) seal.runs [] r.rows (BehindRuns (device.reads disk) old before seal [] NoneBehind) file at (runs_in (device.reads disk) seal.runs r.runs r.rows (r.held transparent))
      (subst (λ (runs : List (List Placed)). BehindRuns (device.reads disk) old before seal [] NoneBehind runs file at) (sym (append-nil r.rows)) (inl (here.0, broken))))

pub runs_damaged : (image : Image) (head : Head) (seal : Seal) (was : SealedSoFar) (file at : ℕ) → IsInRuns image seal.runs file at → IsInSeals image head (seal ∷ []) was file at
runs_damaged image head seal was file at bad are =
    runs_as image seal.runs NoneBehind (BehindRuns image (bare head was.sums.exponent) (rows_of_placed (rows_so_far was)) seal [] NoneBehind) (λ rows f a none. absurd none) file at bad

-- ---- seals, and more of them

-- a list by an item, what stands before and what stands behind it
pub split_item : {X : Type 0} (xs : List X) (i : ℕ) (x : X) → i < length xs → x ≡ get_or xs i x → xs ≡ take i xs ++ x ∷ drop (i + 1) xs
split_item {X} xs i x within is =
    sym (take-append-drop i xs) ∙ ap (λ (l : List X). take i xs ++ l) (drop_more xs i x within ∙ ap (λ (y : X). y ∷ drop (i + 1) xs) (sym is))

fillings_more : (f : Fillings (List SetRow)) (xs ys : List StoredFill) → after_fills f (xs ++ ys) ≡ after_fills (after_fills f xs) ys
fillings_more f [] ys = refl
fillings_more f (x ∷ xs) ys = fillings_more (after_fill f x) xs ys

-- parts of seals, and of those behind them
parts_more : (image : Image) (old : Archive) (before : List Row) (xs ys : List Seal) (parts more : List Part) → AreSealsIn image old before xs parts → AreSealsIn image old (before ++ rows_of_placed (rows_of_parts parts)) ys more → AreSealsIn image old before (xs ++ ys) (parts ++ more)
parts_more image old before [] ys parts more are rest =
    let here = subst (λ (l : List Part). AreSealsIn image old (before ++ rows_of_placed (rows_of_parts l)) ys more) are rest in
    subst (λ (l : List Part). AreSealsIn image old before ys (l ++ more)) (sym are) (subst (λ (l : List Row). AreSealsIn image old l ys more) (append-nil before) here)
parts_more image old before (seal ∷ xs) ys [] more are rest = absurd are
parts_more image old before (seal ∷ xs) ys (part ∷ parts) more are rest = (
  are.0,
  are.1,
  parts_more image old (before ++ rows_of_placed_runs part.runs) xs ys parts more are.2 (subst (λ (l : List Row). AreSealsIn image old l ys more) (sym (rows_first before part parts)) rest),
)

-- damage in the files of a seal is damage in those of it and of others behind it
first_as : (image : Image) (old : Archive) (before : List Row) (seal : Seal) (ys : List Seal) (C : List Part → ℕ → ℕ → Type 0) (file at : ℕ) → InSeals image old before (seal ∷ []) NoneBehind file at → InSeals image old before (seal ∷ ys) C file at
first_as image old before seal ys C file at bad =
    runs_as image seal.runs (BehindRuns image old before seal [] NoneBehind) (BehindRuns image old before seal ys C) (λ runs f a is. ⊎_elim (λ here. inl here) (λ later. absurd later.2) is) file at bad

-- damage in the files of seals, whatever stands behind them
pub seals_whatever : (image : Image) (old : Archive) (before : List Row) (all : List Seal) (B C : List Part → ℕ → ℕ → Type 0) → ((parts : List Part) (f a : ℕ) → B parts f a → C parts f a) → (file at : ℕ) → InSeals image old before all B file at → InSeals image old before all C file at
seals_whatever image old before [] B C to file at bad = to [] file at bad
seals_whatever image old before (seal ∷ all) B C to file at bad =
    runs_as image seal.runs (BehindRuns image old before seal all B) (BehindRuns image old before seal all C)
    (λ runs f a is. ⊎_elim (λ here. inl here)
    (λ later. inr (
      later.0,
      later.1,
      seals_whatever image old (before ++ rows_of_placed_runs runs) all (λ (parts : List Part). B (part_of runs later.0 ∷ parts)) (λ (parts : List Part). C (part_of runs later.0 ∷ parts)) (λ parts g b held. to (part_of runs later.0 ∷ parts) g b held) f a later.2,
    )) is)
    file at bad

module _ {D : Type 0} (device : Device D) (disk other : D) (head : Head) (xs : List Seal) (was mid : SealedSoFar) (reads : device.reads other ≡ device.reads disk) (r : AreSealsRead device disk head xs was mid) where
  rows_mid : rows_of_placed (rows_so_far mid) ≡ rows_of_placed (rows_so_far was) ++ rows_of_placed (rows_of_parts r.parts)
  rows_mid = ap rows_of_placed r.told ∙ map-append row_at (rows_so_far was) (rows_of_parts r.parts)

  seals_as : (P : Image → ℕ → List Row → Type 0) → P (device.reads other) mid.sums.exponent (rows_of_placed (rows_so_far mid)) → P (device.reads disk) was.sums.exponent (rows_of_placed (rows_so_far was) ++ rows_of_placed (rows_of_parts r.parts))
  seals_as P is =
      subst (λ (l : List Row). P (device.reads disk) was.sums.exponent l) rows_mid
      (subst (λ (e : ℕ). P (device.reads disk) e (rows_of_placed (rows_so_far mid))) r.exponent
      (subst (λ (image : Image). P image mid.sums.exponent (rows_of_placed (rows_so_far mid))) reads is))

  pub seals_more : (ys : List Seal) (now : SealedSoFar) → AreSealsRead device other head ys mid now → AreSealsRead device disk head (xs ++ ys) was now
  seals_more ys now s =
      let a : List Placed = rows_of_parts r.parts in
      let b : List Placed = rows_of_parts s.parts in
      let rows : rows_of_parts (r.parts ++ s.parts) ≡ a ++ b = flat_map-append rows_of_part r.parts s.parts in
      let af : List StoredFill = flat_map (λ (part : Part). part.fills) r.parts in
      let bf : List StoredFill = flat_map (λ (part : Part). part.fills) s.parts in
      let fills : flat_map (λ (part : Part). part.fills) (r.parts ++ s.parts) ≡ af ++ bf = flat_map-append (λ (part : Part). part.fills) r.parts s.parts in
      record {
        parts = r.parts ++ s.parts;
        read = λ transparent are.
            parts_more (device.reads disk) (bare head was.sums.exponent) (rows_of_placed (rows_so_far was)) xs ys r.parts s.parts (r.read transparent are)
            (seals_as (λ (image : Image) (e : ℕ) (l : List Row). AreSealsIn image (bare head e) l ys s.parts) (s.read transparent (r.marks are)));
        told = s.told ∙ ap (λ (l : List Placed). l ++ b) r.told ∙ append_assoc (rows_so_far was) a b ∙ ap (λ (l : List Placed). rows_so_far was ++ l) (sym rows);
        sums = λ before are.
            subst (λ (l : List Placed). AreSumsOf (before ++ rows_of_placed l) now.sums) (sym rows)
            (subst (λ (l : List Row). AreSumsOf l now.sums) (append_assoc before (rows_of_placed a) (rows_of_placed b) ∙ ap (λ (l : List Row). before ++ l) (sym (map-append row_at a b)))
            (s.sums (before ++ rows_of_placed a) (r.sums before are)));
        marks = λ are. s.marks (r.marks are);
        positions = λ limit said are.
            subst (λ (l : List Placed). AreFlagsOf limit (said ++ map position_at l) now.positions) (sym rows)
            (subst (λ (l : List ℕ). AreFlagsOf limit l now.positions) (append_assoc said (map position_at a) (map position_at b) ∙ ap (λ (l : List ℕ). said ++ l) (sym (map-append position_at a b)))
            (s.positions limit (said ++ map position_at a) (r.positions limit said are)));
        fit = subst (AllByRecursion FitsPage) (sym rows) (all_both FitsPage a b r.fit s.fit);
        octets = subst (AllByRecursion (λ (at : Placed). IsOctets at.row.packet)) (sym rows) (all_both (λ (at : Placed). IsOctets at.row.packet) a b r.octets s.octets);
        dones = s.dones ∙ ap (λ (l : List Fill). l ++ dones_of_stored bf) r.dones ∙ append_assoc was.tracker.fills (dones_of_stored af) (dones_of_stored bf)
            ∙ ap (λ (l : List Fill). was.tracker.fills ++ l) (sym (map-append (λ (fill : StoredFill). Done fill.interval fill.base) af bf)) ∙ ap (λ (l : List StoredFill). was.tracker.fills ++ dones_of_stored l) (sym fills);
        sets = s.sets ∙ ap (λ (f : Fillings (List SetRow)). after_fills f bf) r.sets ∙ sym (fillings_more (fillings_in was.sets.filled) af bf) ∙ ap (λ (l : List StoredFill). after_fills (fillings_in was.sets.filled) l) (sym fills);
        exponent = s.exponent ∙ r.exponent;
      }

  pub seals_damaged : (seal : Seal) (ys : List Seal) → IsTrue device.is_transparent → (file at : ℕ) → IsInSeals (device.reads other) head (seal ∷ []) mid file at → IsInSeals (device.reads disk) head (xs ++ seal ∷ ys) was file at
  seals_damaged seal ys transparent file at bad are =
      let old : Archive = bare head was.sums.exponent in
      let before : List Row = rows_of_placed (rows_so_far was) in
      behind_seals (device.reads disk) old before xs (seal ∷ ys) r.parts NoneBehind file at (r.read transparent are)
      (first_as (device.reads disk) old (before ++ rows_of_placed (rows_of_parts r.parts)) seal ys NoneBehind file at
      (seals_as (λ (image : Image) (e : ℕ) (l : List Row). InSeals image (bare head e) l (seal ∷ []) NoneBehind file at) (bad (r.marks are))))

pub no_seals : {D : Type 0} (device : Device D) (disk : D) (head : Head) (was : SealedSoFar) → AreSealsRead device disk head [] was was
no_seals device disk head was = record {
  parts = [];
  read = λ transparent are. refl;
  told = sym (append-nil (rows_so_far was));
  sums = λ before are. subst (λ (l : List Row). AreSumsOf l was.sums) (sym (append-nil before)) are;
  marks = λ are. are;
  positions = λ limit said are. subst (λ (l : List ℕ). AreFlagsOf limit l was.positions) (sym (append-nil said)) are;
  fit = tt;
  octets = tt;
  dones = sym (append-nil was.tracker.fills);
  sets = refl;
  exponent = refl;
}
