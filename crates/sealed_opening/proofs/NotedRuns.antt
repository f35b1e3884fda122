-- The runs of a seal, one more at a time.
use Rattle.std.proofs.Common.{◌≡◌, inl, inr, ℕ, ◌+◌, ◌<◌, List, [], ◌∷◌, ◌++◌, length, map, take, drop, get_or, refl, sym, ◌∙◌, ap, subst, append_assoc, append-nil, length-append, arith}
use Rattle.std.specs.Prelude.{IsTrue}
use Rattle.std.specs.List.{AllByRecursion, flat_map}
use Rattle.std.proofs.lemmas.List.{drop_more, map-append, take-append-drop, take_more}
use Rattle.std.proofs.lemmas.List.Concat.{flat_map-append}
use Rattle.arch_disk.specs.Disk.{Device}
use Rattle.arch_disk.specs.Image.{Image}
use Rattle.run_files.specs.Run.{IsRunInMemory, run_file, run_table}
use Rattle.run_files.specs.declared.run.Run.{Run}
use Rattle.run_pages.specs.Placed.{Placed, rows_of_placed}
use Rattle.seal_codec.specs.declared.seal.SealedRun.{SealedRun}
use Rattle.archive_images.specs.declared.head.Head.{Head}
use Rattle.archive_images.specs.Entries.{IsPlaced}
use Rattle.sealed_images.specs.Damage.{AreRunsIn, InRuns}
use Rattle.sealed_images.proofs.Behind.{behind_runs}
use Rattle.sealed_opening.specs.Runs.{IsDamagedRun, IsRunNoted}
use Rattle.sealed_opening.specs.Seals.{AreNamedRuns, AreNotedRunsPlaced, AreRunsNoted, IsInRuns, NoneBehind}
use Rattle.sealed_opening.specs.SoFar.{AreRowsNoted}
use Rattle.sealed_opening.specs.declared.so_far.SealedSoFar.{SealedSoFar}
use Rattle.sealed_opening.proofs.NotedRows.{both_noted, both_placed, none_noted, placed_as, same_placed}

-- ---- lists beside each other

named_more : (image : Image) (named : List SealedRun) (runs : List Run) (rows : List (List Placed)) (one : SealedRun) (run : Run) (placed : List Placed) → AreNamedRuns image named runs rows → IsRunInMemory (image one.file) run placed
    → AreNamedRuns image (named ++ one ∷ []) (runs ++ run ∷ []) (rows ++ placed ∷ [])
named_more image [] runs rows one run placed are is =
    subst (λ (l : List Run). AreNamedRuns image (one ∷ []) (l ++ run ∷ []) (rows ++ placed ∷ [])) (sym are.0)
    (subst (λ (l : List (List Placed)). AreNamedRuns image (one ∷ []) (run ∷ []) (l ++ placed ∷ [])) (sym are.1) (is, (refl, refl)))
named_more image (x ∷ named) [] rows one run placed are is = absurd are
named_more image (x ∷ named) (r ∷ runs) [] one run placed are is = absurd are
named_more image (x ∷ named) (r ∷ runs) (p ∷ rows) one run placed are is = (are.0, named_more image named runs rows one run placed are.1 is)

pub runs_in : (image : Image) (named : List SealedRun) (runs : List Run) (rows : List (List Placed)) → AreNamedRuns image named runs rows → AreRunsIn image named rows
runs_in image [] runs rows are = are.1
runs_in image (x ∷ named) [] rows are = absurd are
runs_in image (x ∷ named) (r ∷ runs) [] are = absurd are
runs_in image (x ∷ named) (r ∷ runs) (p ∷ rows) are = ((run_table r, are.0.is), runs_in image named runs rows are.1)

-- damage in runs, whatever stands behind them
pub runs_as : (image : Image) (runs : List SealedRun) (B C : List (List Placed) → ℕ → ℕ → Type 0) → ((rows : List (List Placed)) (f a : ℕ) → B rows f a → C rows f a) → (file at : ℕ) → InRuns image runs B file at → InRuns image runs C file at
runs_as image [] B C to file at bad = to [] file at bad
runs_as image (run ∷ runs) B C to file at (inl here) = inl here
runs_as image (run ∷ runs) B C to file at (inr later) =
    inr (later.0, later.1, runs_as image runs (λ (rows : List (List Placed)). B (later.0 ∷ rows)) (λ (rows : List (List Placed)). C (later.0 ∷ rows)) (λ rows f a is. to (later.0 ∷ rows) f a is) file at later.2)

-- a run is of the table that is named, and the head has the tables and packet names of its rows
abbrev IsNotedRunPlaced : Head → SealedRun → Run → List Placed → Type 0
IsNotedRunPlaced head one run placed = (run_table run ≡ one.table) × AllByRecursion (IsPlaced head []) (rows_of_placed placed)

placed_last : (head : Head) (named : List SealedRun) (runs : List Run) (rows : List (List Placed)) (one : SealedRun) (run : Run) (placed : List Placed) → length runs ≡ length named → length rows ≡ length named
    → AreNotedRunsPlaced head named runs rows × IsNotedRunPlaced head one run placed → AreNotedRunsPlaced head (named ++ one ∷ []) (runs ++ run ∷ []) (rows ++ placed ∷ [])
placed_last head [] [] [] one run placed many long both = (both.1, tt)
placed_last head [] (r ∷ runs) rows one run placed many long both = absurd (omega (arith, many))
placed_last head [] [] (p ∷ rows) one run placed many long both = absurd (omega (arith, long))
placed_last head (x ∷ named) [] rows one run placed many long both = absurd (omega (arith, many))
placed_last head (x ∷ named) (r ∷ runs) [] one run placed many long both = absurd (omega (arith, long))
placed_last head (x ∷ named) (r ∷ runs) (p ∷ rows) one run placed many long both =
    (both.0.0, placed_last head named runs rows one run placed (omega (arith, many)) (omega (arith, long)) (both.0.1, both.1))

last_placed : (head : Head) (named : List SealedRun) (runs : List Run) (rows : List (List Placed)) (one : SealedRun) (run : Run) (placed : List Placed) → length runs ≡ length named → length rows ≡ length named
    → AreNotedRunsPlaced head (named ++ one ∷ []) (runs ++ run ∷ []) (rows ++ placed ∷ []) → AreNotedRunsPlaced head named runs rows × IsNotedRunPlaced head one run placed
last_placed head [] [] [] one run placed many long all = (tt, all.0)
last_placed head [] (r ∷ runs) rows one run placed many long all = absurd (omega (arith, many))
last_placed head [] [] (p ∷ rows) one run placed many long all = absurd (omega (arith, long))
last_placed head (x ∷ named) [] rows one run placed many long all = absurd (omega (arith, many))
last_placed head (x ∷ named) (r ∷ runs) [] one run placed many long all = absurd (omega (arith, long))
last_placed head (x ∷ named) (r ∷ runs) (p ∷ rows) one run placed many long all =
    let rest = last_placed head named runs rows one run placed (omega (arith, many)) (omega (arith, long)) all.1 in
    ((all.0, rest.0), rest.1)

-- ---- runs that were noted

module _ {D : Type 0} (device : Device D) (disk : D) (head : Head) where
  pub no_runs : (was : SealedSoFar) → AreRunsNoted device disk head [] was was
  no_runs was = record {
    runs = [];
    rows = [];
    noted = none_noted was was refl refl refl refl refl;
    placed = same_placed (AreNotedRunsPlaced head [] [] []) was was refl tt;
    runs_are = sym (append-nil was.runs.items);
    many = (refl, refl);
    files = refl;
    held = λ transparent. (refl, refl);
  }

  pub runs_more : (named : List SealedRun) (one : SealedRun) (was mid now : SealedSoFar) → AreRunsNoted device disk head named was mid → IsRunNoted device disk head one mid now → AreRunsNoted device disk head (named ++ one ∷ []) was now
  runs_more named one was mid now r o =
      let all : List Placed = flat_map (λ (run : List Placed). run) r.rows in
      let more : flat_map (λ (run : List Placed). run) (r.rows ++ o.rows ∷ []) ≡ all ++ o.rows =
      flat_map-append (λ (run : List Placed). run) r.rows (o.rows ∷ []) ∙ ap (λ (l : List Placed). all ++ l) (append-nil o.rows) in
      record {
        runs = r.runs ++ o.run ∷ [];
        rows = r.rows ++ o.rows ∷ [];
        noted = subst (λ (l : List Placed). AreRowsNoted l was now) (sym more) (both_noted all o.rows was mid now r.noted o.noted);
        placed = placed_as (AreNotedRunsPlaced head named r.runs r.rows × IsNotedRunPlaced head one o.run o.rows) (AreNotedRunsPlaced head (named ++ one ∷ []) (r.runs ++ o.run ∷ []) (r.rows ++ o.rows ∷ [])) was now
            (placed_last head named r.runs r.rows one o.run o.rows r.many.0 r.many.1) (last_placed head named r.runs r.rows one o.run o.rows r.many.0 r.many.1)
            (both_placed (AreNotedRunsPlaced head named r.runs r.rows) (IsNotedRunPlaced head one o.run o.rows) was mid now r.placed o.placed);
        runs_are = o.runs ∙ ap (λ (l : List Run). l ++ o.run ∷ []) r.runs_are ∙ append_assoc was.runs.items r.runs (o.run ∷ []);
        many = (
          omega (arith, length-append r.runs (o.run ∷ []), length-append named (one ∷ []), r.many.0),
          omega (arith, length-append r.rows (o.rows ∷ []), length-append named (one ∷ []), r.many.1),
        );
        files = map-append run_file r.runs (o.run ∷ []) ∙ ap (λ (l : List ℕ). l ++ run_file o.run ∷ []) r.files
            ∙ ap (λ (f : ℕ). map (λ (run : SealedRun). run.file) named ++ f ∷ []) o.in_file ∙ sym (map-append (λ (run : SealedRun). run.file) named (one ∷ []));
        held = λ transparent. named_more (device.reads disk) named r.runs r.rows one o.run o.rows (r.held transparent) (o.is_run transparent);
      }

  -- the next one is damaged
  pub run_damaged : (done more : List SealedRun) (one : SealedRun) (was mid : SealedSoFar) → AreRunsNoted device disk head done was mid → IsTrue device.is_transparent → (file at : ℕ) → IsDamagedRun (device.reads disk) one.file file at
      → IsInRuns (device.reads disk) (done ++ one ∷ more) file at
  run_damaged done more one was mid r transparent file at bad =
      behind_runs (device.reads disk) done (one ∷ more) r.rows NoneBehind file at (runs_in (device.reads disk) done r.runs r.rows (r.held transparent)) (inl bad)

-- runs on a disk that reads as before
pub run_noted_on : {D : Type 0} (device : Device D) (disk other : D) (head : Head) (one : SealedRun) (was now : SealedSoFar) → device.reads other ≡ device.reads disk → IsRunNoted device other head one was now → IsRunNoted device disk head one was now
run_noted_on device disk other head one was now same o = record {
  rows = o.rows;
  run = o.run;
  noted = o.noted;
  placed = o.placed;
  runs = o.runs;
  in_file = o.in_file;
  is_run = λ transparent. subst (λ (image : Image). IsRunInMemory (image one.file) o.run o.rows) same (o.is_run transparent);
}

-- ---- runs of a slice

module _ {D : Type 0} (device : Device D) (disk other : D) (head : Head) (all : List SealedRun) (i : ℕ) (d : SealedRun) (within : i < length all) (was mid : SealedSoFar) (same : device.reads other ≡ device.reads disk) (noted : AreRunsNoted device disk head (take i all) was mid) where
  pub next_noted : (now : SealedSoFar) → IsRunNoted device other head (get_or all i d) mid now → AreRunsNoted device disk head (take (i + 1) all) was now
  next_noted now o =
      subst (λ (l : List SealedRun). AreRunsNoted device disk head l was now) (sym (take_more all i d within))
      (runs_more device disk head (take i all) (get_or all i d) was mid now noted (run_noted_on device disk other head (get_or all i d) mid now same o))

  pub next_damaged : IsTrue device.is_transparent → (file at : ℕ) → IsDamagedRun (device.reads other) (get_or all i d).file file at → IsInRuns (device.reads disk) all file at
  next_damaged transparent file at bad =
      let split : all ≡ take i all ++ get_or all i d ∷ drop (i + 1) all = sym (take-append-drop i all) ∙ ap (λ (l : List SealedRun). take i all ++ l) (drop_more all i d within) in
      subst (λ (l : List SealedRun). IsInRuns (device.reads disk) l file at) (sym split)
      (run_damaged device disk head (take i all) (drop (i + 1) all) (get_or all i d) was mid noted transparent file at
      (subst (λ (image : Image). IsDamagedRun image (get_or all i d).file file at) same bad))
