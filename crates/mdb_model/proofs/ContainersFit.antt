-- Containers that break no rule fit the widths of their octets.
use Rattle.std.proofs.Common.{◌≡◌, ◌∙◌, ◌+◌, ◌<◌, ◌≤◌, ◌^◌, ℕ, zero, suc, List, [], ◌∷◌, ◌++◌, length, map, Option, Some, None, Bool, true, false, refl, ap, sym, arith, append_assoc, length-append}
use Rattle.std.specs.Prelude.{◌&&◌, ◌||◌, ◌==◌, not, nat_le, slice_get, flat_map, fold, is_none, unwrap_or}
use Rattle.std.specs.List.{AllByRecursion, list_all}
use Rattle.std.proofs.lemmas.Bool.{ltb-true, leb-true, leb-false, eqb-true}
use Rattle.std.proofs.lemmas.List.{append-nil}
use Rattle.text_forms.specs.Names.{is_name}
use Rattle.mdb_items.specs.declared.container.Comparison.{Comparison}
use Rattle.mdb_items.specs.declared.container.Container.{Container}
use Rattle.mdb_items.specs.declared.container.ParameterEntry.{ParameterEntry}
use Rattle.mdb_items.specs.declared.parameter.Parameter.{Parameter}
use Rattle.mdb_items.specs.declared.rows.NewContainer.{NewContainer}
use Rattle.mdb_items.specs.declared.rows.ContainerColumns.TheVariants.{Begins, Continues}
use Rattle.mdb_items.specs.declared.rows.EntryPosition.TheVariants as place
use Rattle.mdb_items.specs.declared.rows.EntryPosition.TheVariants.{At}
use Rattle.mdb_items.specs.declared.rows.Reference.TheVariants.{Nothing, Known}
use Rattle.mdb_items.specs.Checks.{first_broken}
use Rattle.mdb_items.specs.ContainerRows.{ContainerRow, begin_row, new_container_checks, compares_other, entry_checks, entry_row, columns_checks, is_condition, is_parent, last_path, path_up, row_fault, rows_of_container, with_container_row, with_columns, with_new_entry}
use Rattle.mdb_items.specs.Paths.{ContainerPath, bits_at, last_number, path_at, path_below, paths_of, no_path, stands_on, with_path}
use Rattle.mdb_items.specs.Numbers.{is_in_range}
use Rattle.mdb_items.specs.ParameterRows.{is_reference, referenced_number, reference_to}
use Rattle.mdb_model.specs.Rechecking.{are_sound, containers_sound}
use Rattle.mdb_octets.specs.Spelling.{FitsComparison, FitsContainer, FitsEntry, link}
use Rattle.mdb_items.proofs.ContainerPaths.{length-paths_of, paths_of-push}
use Rattle.mdb_model.proofs.DatabaseFits.{all_join, name_short, range_fits}
use Rattle.mdb_items.proofs.Ends.{at_last-push, length-push, slice_get-end}
use Rattle.mdb_rules.proofs.Passing.{all_pass, is_true, or_else-none}

pub none_is : {X : Type 0} (o : Option X) → is_none o ≡ true → o ≡ None
none_is None e = refl
none_is (Some x) e = cc

pub both_true : (a b : Bool) → (a && b) ≡ true → (a ≡ true) × (b ≡ true)
both_true true b e = (refl, e)
both_true false b e = cc

-- the entries of a list name parameters below a number
abbrev AreBelow : ℕ → List ParameterEntry → Type 0
AreBelow count entries = AllByRecursion (λ e. e.parameter < count) entries

abbrev LineIsBelow : ℕ → ContainerPath → Type 0
LineIsBelow count path = AreBelow count path.entries

abbrev ContainerIsBelow : ℕ → Container → Type 0
ContainerIsBelow count c = AreBelow count c.entries

path_here : (count : ℕ) (ls : List ContainerPath) (n : ℕ) → AllByRecursion (LineIsBelow count) ls → LineIsBelow count (unwrap_or (slice_get ls n) no_path)
path_here count [] n h = tt
path_here count (l ∷ ls) zero h = h.0
path_here count (l ∷ ls) (suc n) h = path_here count ls n h.1

path_named : (count : ℕ) (ls : List ContainerPath) (o : Option ℕ) → AllByRecursion (LineIsBelow count) ls → LineIsBelow count (path_at ls o)
path_named count ls None h = tt
path_named count ls (Some n) h = path_here count ls n h

paths_below : (count : ℕ) (cs : List Container) (ls : List ContainerPath) → AllByRecursion (LineIsBelow count) ls → AllByRecursion (ContainerIsBelow count) cs → AllByRecursion (LineIsBelow count) (fold with_path ls cs)
paths_below count [] ls h k = h
paths_below count (c ∷ cs) ls h k =
    let up = path_at ls c.parent in
    let own : LineIsBelow count (path_below up c) = all_join (λ e. e.parameter < count) up.entries c.entries (path_named count ls c.parent h) k.0 in
    paths_below count cs (with_path ls c) (all_join (LineIsBelow count) ls (path_below up c ∷ []) h (own, tt)) k.1

path_is_below : (count : ℕ) (cs : List Container) (o : Option ℕ) → AllByRecursion (ContainerIsBelow count) cs → LineIsBelow count (path_at (paths_of cs) o)
unfolding paths_of
path_is_below count cs o h = path_named count (fold with_path [] cs) o (paths_below count cs [] tt h)

first_stands : (count : ℕ) (e : ParameterEntry) (entries : List ParameterEntry) (n : ℕ) → e.parameter < count → (b : Bool) → (e.parameter == n) ≡ b → stands_on (e ∷ entries) n ≡ true → (stands_on entries n ≡ true → n < count) → n < count
first_stands count e entries n lt true same is more = let q = eqb-true e.parameter n same in omega arith
first_stands count e entries n lt false other is more = more (rw other at is)

-- what stands among such entries is below the number
stands_below : (count : ℕ) (entries : List ParameterEntry) (n : ℕ) → AreBelow count entries → stands_on entries n ≡ true → n < count
stands_below count [] n h is = cc
stands_below count (e ∷ entries) n h is = first_stands count e entries n h.0 (e.parameter == n) refl is (λ k. stands_below count entries n h.1 k)

either_false : (a b : Bool) → (not a || b) ≡ false → (a ≡ true) × (b ≡ false)
either_false true b e = (refl, e)
either_false false b e = cc

comparisons_fit : (count : ℕ) (entries : List ParameterEntry) (cs : List Comparison) → count ≤ 4096 → AreBelow count entries → compares_other entries cs ≡ false → list_all (λ c. is_in_range c.number) cs ≡ true → AllByRecursion FitsComparison cs
comparisons_fit count entries [] few h known ranged = tt
comparisons_fit count entries (c ∷ cs) few h known ranged =
    let k = either_false (stands_on entries c.parameter) (compares_other entries cs) known in
    let r = both_true (is_in_range c.number) (list_all (λ c. is_in_range c.number) cs) ranged in
    let lt = stands_below count entries c.parameter h k.0 in
    (record { parameter = omega arith; number = range_fits c.number r.0 }, comparisons_fit count entries cs few h k.1 r.1)

-- ---- one entry after the other

abbrev pub with_entries : Container → List ParameterEntry → Container
with_entries c entries = record { name = c.name; parent = c.parent; archive = c.archive; condition = c.condition; entries = entries }

last_number-push : (cs : List Container) (c : Container) → last_number (cs ++ c ∷ []) ≡ Some (length cs)
last_number-push [] c = refl
last_number-push (d ∷ cs) c = ap Some (length-push cs c)

pub last_path-push : (above : List Container) (c : Container) → last_path (above ++ c ∷ []) ≡ path_below (path_at (paths_of above) c.parent) c
last_path-push above c =
    let ls = paths_of above in
    let l = path_below (path_at ls c.parent) c in
    let at : slice_get (ls ++ l ∷ []) (length above) ≡ Some l = ap (slice_get (ls ++ l ∷ [])) (sym (length-paths_of above)) ∙ slice_get-end ls l [] in
    ap (path_at (paths_of (above ++ c ∷ []))) (last_number-push above c) ∙ ap (λ (xs : List ContainerPath). path_at xs (Some (length above))) (paths_of-push above c) ∙ ap (λ (o : Option ContainerPath). unwrap_or o no_path) at

record EntryIsSound (parameters : List Parameter) (above : List Container) (e : ParameterEntry) : Type 0 where
  parameter : e.parameter < length parameters
  at : e.at ≤ 524336
  room : length (last_path above).entries < 256

entry_is_sound : (parameters : List Parameter) (above : List Container) (e : ParameterEntry) → row_fault parameters above (entry_row e) ≡ None → EntryIsSound parameters above e
entry_is_sound parameters above e sound =
    let both = or_else-none (first_broken ((2, false) ∷ columns_checks above (Continues false))) (first_broken (entry_checks parameters (last_path above) true (Known e.parameter) (At e.at))) sound in
    let q = all_pass (entry_checks parameters (last_path above) true (Known e.parameter) (At e.at)) both.1 in
    let known = ltb-true e.parameter (length parameters) (is_true (is_reference (length parameters) (Known e.parameter)) q.0) in
    let room = leb-false 256 (length (last_path above).entries) q.1.1.1.0 in
    let near = leb-true (e.at + bits_at parameters e.parameter) 524336 (is_true (nat_le (e.at + bits_at parameters e.parameter) 524336) q.1.1.1.1.1.0) in
    record { parameter = known; at = omega arith; room = room }

record EntriesFit (parameters : List Parameter) (above : List Container) (c : Container) (front es : List ParameterEntry) (more : List ContainerRow) : Type 0 where
  below : AreBelow (length parameters) es
  fits : AllByRecursion FitsEntry es
  few : length front + length es ≤ 256
  left : containers_sound parameters (above ++ with_entries c (front ++ es) ∷ []) more ≡ true

entries_fit : (parameters : List Parameter) (above : List Container) (c : Container) (front es : List ParameterEntry) (more : List ContainerRow) → length parameters ≤ 4096 → length front ≤ 256
    → containers_sound parameters (above ++ with_entries c front ∷ []) (map entry_row es ++ more) ≡ true → EntriesFit parameters above c front es more
unfolding are_sound
entries_fit parameters above c front [] more few le sound =
    record { below = tt; fits = tt; few = omega arith; left = ap (λ (xs : List ParameterEntry). containers_sound parameters (above ++ with_entries c xs ∷ []) more) (append-nil front) ∙ sound }
entries_fit parameters above c front (e ∷ es) more few le sound =
    let now = above ++ with_entries c front ∷ [] in
    let next = above ++ with_entries c (front ++ e ∷ []) ∷ [] in
    let p = both_true (is_none (row_fault parameters now (entry_row e))) (containers_sound parameters (with_container_row now (entry_row e)) (map entry_row es ++ more)) sound in
    let s = entry_is_sound parameters now e (none_is (row_fault parameters now (entry_row e)) p.0) in
    let up = path_at (paths_of above) c.parent in
    let path : (last_path now).entries ≡ up.entries ++ front = ap (λ (l : ContainerPath). l.entries) (last_path-push above (with_entries c front)) in
    let room : length front < 256 = omega (arith, s.room, ap length path, length-append up.entries front) in
    let step : with_container_row now (entry_row e) ≡ next = at_last-push (with_new_entry e) above (with_entries c front) in
    let rest = entries_fit parameters above c (front ++ e ∷ []) es more few (omega (arith, length-push front e)) (ap (λ (cs : List Container). containers_sound parameters cs (map entry_row es ++ more)) (sym step) ∙ p.1) in
    let lt = s.parameter in
    let near = s.at in
    record {
      below = (s.parameter, rest.below);
      fits = (record { parameter = omega arith; at = omega arith }, rest.fits);
      few = omega (arith, rest.few, length-push front e);
      left = ap (λ (xs : List ParameterEntry). containers_sound parameters (above ++ with_entries c xs ∷ []) more) (sym (append_assoc front (e ∷ []) es)) ∙ rest.left;
    }

-- ---- one container after the other

abbrev pub new_container_of : Container → NewContainer
new_container_of c = record { name = c.name; parent = reference_to c.parent; condition = Some c.condition; archive = Some c.archive }

pub number_back : (o : Option ℕ) → referenced_number (reference_to o) ≡ o
number_back None = refl
number_back (Some n) = refl

parent_small : (count : ℕ) (o : Option ℕ) → count ≤ 4096 → is_parent count (reference_to o) ≡ true → link o < 2 ^ 16
parent_small count None few h = omega arith
parent_small count (Some n) few h = let lt = ltb-true n count h in omega arith

pub begin_step : (above : List Container) (c : Container) → with_container_row above (begin_row c) ≡ above ++ with_entries c [] ∷ []
begin_step above c = ap (λ (o : Option ℕ). above ++ record { name = c.name; parent = o; archive = c.archive; condition = c.condition; entries = [] } ∷ []) (number_back c.parent)

pub containers_fit : (parameters : List Parameter) (cs above : List Container) → length parameters ≤ 4096 → length above + length cs ≤ 4096 → AllByRecursion (ContainerIsBelow (length parameters)) above
    → containers_sound parameters above (flat_map rows_of_container cs) ≡ true → AllByRecursion FitsContainer cs
unfolding are_sound
containers_fit parameters [] above few le below sound = tt
containers_fit parameters (c ∷ cs) above few le below sound =
    let more = flat_map rows_of_container cs in
    let b = new_container_of c in
    let p = both_true (is_none (row_fault parameters above (begin_row c))) (containers_sound parameters (with_container_row above (begin_row c)) (map entry_row c.entries ++ more)) sound in
    let both = or_else-none (first_broken ((2, false) ∷ columns_checks above (Begins b))) (first_broken (entry_checks parameters (last_path (with_columns above (Begins b))) false Nothing place.Nothing)) (none_is (row_fault parameters above (begin_row c)) p.0) in
    let q = all_pass ((2, false) ∷ new_container_checks above (path_up above b) b) both.0 in
    let condition = both_true (nat_le (length c.condition) 255) (list_all (λ c. is_in_range c.number) c.condition) (is_true (is_condition (Some c.condition)) q.1.1.1.1.1.1.0) in
    let short = leb-true (length c.condition) 255 condition.0 in
    let started : containers_sound parameters (above ++ with_entries c [] ∷ []) (map entry_row c.entries ++ more) ≡ true = ap (λ (xs : List Container). containers_sound parameters xs (map entry_row c.entries ++ more)) (sym (begin_step above c)) ∙ p.1 in
    let entries = entries_fit parameters above c [] c.entries more few (omega arith) started in
    let few_entries = entries.few in
    let now = above ++ c ∷ [] in
    let own : FitsContainer c = record {
      name = name_short c.name (is_true (is_name c.name) q.1.0);
      parent = parent_small (length above) c.parent (omega arith) (is_true (is_parent (length above) (reference_to c.parent)) q.1.1.1.1.0);
      condition = (omega arith, comparisons_fit (length parameters) (path_up above b).entries c.condition few (path_is_below (length parameters) above (referenced_number (reference_to c.parent)) below) q.1.1.1.1.1.1.1.0 condition.1);
      entries = (omega arith, entries.fits);
    } in
    (own, containers_fit parameters cs now few (omega (arith, length-push above c)) (all_join (ContainerIsBelow (length parameters)) above (c ∷ []) below (entries.below, tt)) entries.left)
