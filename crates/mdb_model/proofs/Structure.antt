-- The structure of a database.
use Rattle.std.proofs.Common.{◌≡◌, ◌∙◌, ◌+◌, ◌<◌, ◌≤◌, ℕ, zero, suc, List, [], ◌∷◌, ◌++◌, length, map, take, Option, Some, None, true, false, refl, ap, sym, arith, subst, append_assoc, length-append}
use Rattle.std.specs.Prelude.{◌&&◌, not, nat_le, slice_get, option_map, flat_map, fold, is_none, unwrap_or}
use Rattle.std.specs.List.{AllByRecursion, IsDistinct, list_all}
use Rattle.std.proofs.lemmas.Bool.{leb-false, leb-true, ltb-true}
use Rattle.std.proofs.lemmas.Cmp.{nat_eq_equiv}
use Rattle.std.proofs.lemmas.List.{append-nil}
use Rattle.std.proofs.lemmas.List.Sums.{fold-append}
use Rattle.std.proofs.lemmas.Option.{slice_get-map, slice_get_within}
use Rattle.text_forms.specs.Names.{is_name}
use Rattle.mdb_items.specs.declared.calibration.Calibration.{Calibration}
use Rattle.mdb_items.specs.declared.container.Comparison.{Comparison}
use Rattle.mdb_items.specs.declared.container.Container.{Container}
use Rattle.mdb_items.specs.declared.container.ParameterEntry.{ParameterEntry}
use Rattle.mdb_items.specs.declared.parameter.Parameter.{Parameter}
use Rattle.mdb_items.specs.declared.rows.ContainerColumns.TheVariants.{Begins, Continues}
use Rattle.mdb_items.specs.declared.rows.ParameterRow.{ParameterRow}
use Rattle.mdb_items.specs.declared.rows.EntryPosition.TheVariants as place
use Rattle.mdb_items.specs.declared.rows.EntryPosition.TheVariants.{At}
use Rattle.mdb_items.specs.declared.rows.Reference.TheVariants.{Nothing, Known}
use Rattle.mdb_items.specs.Checks.{first_at, first_broken}
use Rattle.mdb_items.specs.ContainerRows.{ContainerRow, begin_row, new_container_checks, compares_other, entry_checks, entry_row, columns_checks, is_condition, is_nothing, is_parent, last_path, path_up, row_fault, rows_of_container, with_container_row, with_columns, with_new_entry}
use Rattle.mdb_items.specs.Database.{Database, IsDatabase, containers_fault}
use Rattle.mdb_items.specs.Paths.{ContainerPath, bits_at, path_at, path_below, paths_of, no_path, stands_on, with_path}
use Rattle.mdb_items.specs.Lists.{is_empty}
use Rattle.mdb_items.specs.Numbers.{is_in_range}
use Rattle.mdb_items.specs.ParameterRows.{admits, fits_coding, is_reference, parameter_checks, parameter_fault, parameter_fault_at, parameters_of, reference_to, row_of_parameter, referenced_calibrator}
use Rattle.mdb_model.specs.Rechecking.{are_sound, containers_sound, parameters_sound, with_parameter_row}
use Rattle.mdb_items.specs.Structure.{AreDistinctEntries, AreDistinctNames, IsBelowParent, IsContainer, IsEntry, IsParameter, IsPath, IsStructured, IsWhole}
use Rattle.mdb_items.specs.Texts.{Text}
use Rattle.mdb_items.proofs.ContainerPaths.{length-paths_of, paths_extend, paths_of-push}
use Rattle.mdb_model.proofs.Calibrators.{calibrations_are}
use Rattle.mdb_model.proofs.ContainersFit.{begin_step, new_container_of, both_true, last_path-push, none_is, number_back, with_entries}
use Rattle.mdb_model.proofs.Counts.{counts}
use Rattle.mdb_model.proofs.DatabaseFits.{all_join}
use Rattle.mdb_model.proofs.DatabaseOctets.{containers_are_sound, containers_first, parameters_are_sound, parts_of}
use Rattle.mdb_model.proofs.Distinct.{new_name, text_equiv, with_new, with_other}
use Rattle.mdb_items.proofs.Ends.{at_last-push, length-push, slice_get-end}
use Rattle.mdb_rules.proofs.Passing.{all_pass, each_none, is_true, or_else-none}
use Rattle.mdb_model.proofs.RowsAgain.{parameter_back}

-- ---- parameters

parameter_sound : (cs : List Calibration) (above : List Parameter) (o : Option ParameterRow) (row : ParameterRow) → o ≡ Some row → parameter_fault cs above o ≡ None → first_broken (parameter_checks cs above row) ≡ None
parameter_sound cs above o row is sound = rw is at sound

parameter_at : (d : Database) (n : ℕ) (p : Parameter) → first_at (parameter_fault_at d.calibrations (map row_of_parameter d.parameters)) (length (map row_of_parameter d.parameters)) ≡ None → slice_get d.parameters n ≡ Some p → IsParameter d p
unfolding parameter_fault_at
parameter_at d n p none at =
    let rows = map row_of_parameter d.parameters in
    let row : slice_get rows n ≡ Some (row_of_parameter p) = slice_get-map row_of_parameter d.parameters n ∙ ap (option_map row_of_parameter) at in
    let here = each_none (parameter_fault_at d.calibrations rows) (length rows) none n (slice_get_within rows n (row_of_parameter p) row) in
    let above = parameters_of (take n rows) in
    let q = all_pass (parameter_checks d.calibrations above (row_of_parameter p)) (parameter_sound d.calibrations above (slice_get rows n) (row_of_parameter p) row here) in
    record {
      named = is_true (is_name p.name) q.1.0;
      width = is_true (fits_coding (Some p.coding) (Some p.bits)) q.1.1.1.1.0;
      calibration = is_true (is_reference (length d.calibrations) (reference_to p.calibration)) q.1.1.1.1.1.0;
      admitted = is_true (admits p.bits (referenced_calibrator d.calibrations (reference_to p.calibration))) q.1.1.1.1.1.1.0;
    }

-- rows that are sound add parameters of other names
names_differ : (cs : List Calibration) (above ps : List Parameter) → parameters_sound cs above (map row_of_parameter ps) ≡ true → AreDistinctNames (map (λ p. p.name) above) → AreDistinctNames (map (λ p. p.name) (above ++ ps))
unfolding are_sound
names_differ cs above [] sound distinct = subst (λ (xs : List Parameter). AreDistinctNames (map (λ p. p.name) xs)) (sym (append-nil above)) distinct
names_differ cs above (p ∷ ps) sound distinct =
    let name : Parameter → Text = λ x. x.name in
    let row = row_of_parameter p in
    let more = map row_of_parameter ps in
    let b = both_true (is_none (first_broken (parameter_checks cs above row))) (parameters_sound cs (with_parameter_row above row) more) sound in
    let q = all_pass (parameter_checks cs above row) (none_is (first_broken (parameter_checks cs above row)) b.0) in
    let next : with_parameter_row above row ≡ above ++ p ∷ [] = ap (λ (x : Parameter). above ++ x ∷ []) (parameter_back p) in
    let now = with_new text_equiv name above p distinct (new_name p.name (map name above) q.1.1.0) in
    let rest = names_differ cs (above ++ p ∷ []) ps (ap (λ (xs : List Parameter). parameters_sound cs xs more) (sym next) ∙ b.1) now in
    subst (λ (xs : List Parameter). AreDistinctNames (map name xs)) (append_assoc above (p ∷ []) ps) rest

-- ---- entries

-- a path's entries are at most 256, and no parameter stands twice
abbrev AreShort : List ParameterEntry → Type 0
AreShort entries = (length entries ≤ 256) × AreDistinctEntries entries

record EntryIsSound (parameters : List Parameter) (above : List Container) (e : ParameterEntry) : Type 0 where
  parameter : e.parameter < length parameters
  near : e.at + bits_at parameters e.parameter ≤ 524336
  room : length (last_path above).entries < 256
  other : stands_on (last_path above).entries e.parameter ≡ false

entry_is_sound : (parameters : List Parameter) (above : List Container) (e : ParameterEntry) → row_fault parameters above (entry_row e) ≡ None → EntryIsSound parameters above e
entry_is_sound parameters above e sound =
    let both = or_else-none (first_broken ((2, false) ∷ columns_checks above (Continues false))) (first_broken (entry_checks parameters (last_path above) true (Known e.parameter) (At e.at))) sound in
    let q = all_pass (entry_checks parameters (last_path above) true (Known e.parameter) (At e.at)) both.1 in
    record {
      parameter = ltb-true e.parameter (length parameters) (is_true (is_reference (length parameters) (Known e.parameter)) q.0);
      near = leb-true (e.at + bits_at parameters e.parameter) 524336 (is_true (nat_le (e.at + bits_at parameters e.parameter) 524336) q.1.1.1.1.1.0);
      room = leb-false 256 (length (last_path above).entries) q.1.1.1.0;
      other = q.1.0;
    }

record EntriesPlaced (d : Database) (above : List Container) (c : Container) (front es : List ParameterEntry) (more : List ContainerRow) : Type 0 where
  placed : AllByRecursion (IsEntry d) es
  short : AreShort ((path_at (paths_of above) c.parent).entries ++ (front ++ es))
  left : containers_sound d.parameters (above ++ with_entries c (front ++ es) ∷ []) more ≡ true

entries_placed : (d : Database) (above : List Container) (c : Container) (front es : List ParameterEntry) (more : List ContainerRow) → AreShort ((path_at (paths_of above) c.parent).entries ++ front)
    → containers_sound d.parameters (above ++ with_entries c front ∷ []) (map entry_row es ++ more) ≡ true → EntriesPlaced d above c front es more
unfolding are_sound
entries_placed d above c front [] more short sound =
    let whole : front ++ [] ≡ front = append-nil front in
    record {
      placed = tt;
      short = subst (λ (xs : List ParameterEntry). AreShort ((path_at (paths_of above) c.parent).entries ++ xs)) (sym whole) short;
      left = ap (λ (xs : List ParameterEntry). containers_sound d.parameters (above ++ with_entries c xs ∷ []) more) whole ∙ sound;
    }
entries_placed d above c front (e ∷ es) more short sound =
    let ps = d.parameters in
    let now = above ++ with_entries c front ∷ [] in
    let next = above ++ with_entries c (front ++ e ∷ []) ∷ [] in
    let up = path_at (paths_of above) c.parent in
    let p = both_true (is_none (row_fault ps now (entry_row e))) (containers_sound ps (with_container_row now (entry_row e)) (map entry_row es ++ more)) sound in
    let s = entry_is_sound ps now e (none_is (row_fault ps now (entry_row e)) p.0) in
    let path : (last_path now).entries ≡ up.entries ++ front = ap (λ (l : ContainerPath). l.entries) (last_path-push above (with_entries c front)) in
    let few : length (up.entries ++ (front ++ e ∷ [])) ≤ 256 = omega (arith, s.room, ap length path, length-append up.entries front, length-append up.entries (front ++ e ∷ []), length-push front e) in
    let other : stands_on (up.entries ++ front) e.parameter ≡ false = ap (λ (xs : List ParameterEntry). stands_on xs e.parameter) (sym path) ∙ s.other in
    let joined : (up.entries ++ front) ++ e ∷ [] ≡ up.entries ++ (front ++ e ∷ []) = append_assoc up.entries front (e ∷ []) in
    let distinct = subst AreDistinctEntries joined (with_other nat_eq_equiv (λ (x : ParameterEntry). x.parameter) (up.entries ++ front) e short.1 other) in
    let step : with_container_row now (entry_row e) ≡ next = at_last-push (with_new_entry e) above (with_entries c front) in
    let rest = entries_placed d above c (front ++ e ∷ []) es more (few, distinct) (ap (λ (cs : List Container). containers_sound ps cs (map entry_row es ++ more)) (sym step) ∙ p.1) in
    let whole : (front ++ e ∷ []) ++ es ≡ front ++ e ∷ es = append_assoc front (e ∷ []) es in
    record {
      placed = (record { parameter = s.parameter; near = s.near }, rest.placed);
      short = subst (λ (xs : List ParameterEntry). AreShort (up.entries ++ xs)) whole rest.short;
      left = ap (λ (xs : List ParameterEntry). containers_sound ps (above ++ with_entries c xs ∷ []) more) (sym whole) ∙ rest.left;
    }

-- ---- containers

abbrev AreContainers : Database → ℕ → List Container → Type 0
AreContainers d n [] = Unit {0}
AreContainers d n (c ∷ cs) = IsContainer d n c × AreContainers d (suc n) cs

container_at : (d : Database) (k : ℕ) (cs : List Container) (n : ℕ) (c : Container) → AreContainers d k cs → slice_get cs n ≡ Some c → IsContainer d (k + n) c
container_at d k [] n c all is = cc
container_at d k (x ∷ cs) zero c all is =
    let same : x ≡ c = cc in
    let at : k ≡ k + 0 = omega arith in
    subst (λ (j : ℕ). IsContainer d j c) at (subst (λ (y : Container). IsContainer d k y) same all.0)
container_at d k (x ∷ cs) (suc n) c all is =
    let at : suc k + n ≡ k + suc n = omega arith in
    subst (λ (j : ℕ). IsContainer d j c) at (container_at d (suc k) cs n c all.1 is)

nothing_above : IsPath no_path
unfolding IsDistinct
nothing_above = record { few_containers = omega arith; few_entries = omega arith; distinct = tt }

path_here : (ls : List ContainerPath) (n : ℕ) → AllByRecursion IsPath ls → IsPath (unwrap_or (slice_get ls n) no_path)
path_here [] n h = nothing_above
path_here (l ∷ ls) zero h = h.0
path_here (l ∷ ls) (suc n) h = path_here ls n h.1

path_of : (ls : List ContainerPath) (o : Option ℕ) → AllByRecursion IsPath ls → IsPath (path_at ls o)
path_of ls None h = nothing_above
path_of ls (Some n) h = path_here ls n h

nothing_before : (above : List Container) → is_empty above ≡ true → length above ≡ 0
nothing_before [] is = refl
nothing_before (c ∷ cs) is = cc

below_parent : (above : List Container) (o : Option ℕ) → is_parent (length above) (reference_to o) ≡ true → (is_nothing (reference_to o) && not (is_empty above)) ≡ false → IsBelowParent (length above) o
below_parent above None is one = nothing_before above (is_true (is_empty above) one)
below_parent above (Some p) is one = ltb-true p (length above) is

-- what a test finds of all numbers
all_whole : (cs : List Comparison) → list_all (λ c. is_in_range c.number) cs ≡ true → AllByRecursion (λ c. IsWhole c.number) cs
all_whole [] h = tt
all_whole (c ∷ cs) h = let p = both_true (is_in_range c.number) (list_all (λ c. is_in_range c.number) cs) h in (p.0, all_whole cs p.1)

parent_before : (count : ℕ) (o : Option ℕ) (p : ℕ) → is_parent count (reference_to o) ≡ true → o ≡ Some p → p < count
parent_before count None p is e = cc
parent_before count (Some n) p is e = let same : n ≡ p = cc in let less = ltb-true n count is in omega arith

-- the paths of the first containers are paths of all
path_kept : (above cs : List Container) (o : Option ℕ) → ((p : ℕ) → o ≡ Some p → p < length above) → path_at (paths_of (above ++ cs)) o ≡ path_at (paths_of above) o
unfolding paths_of
path_kept above cs None below = refl
path_kept above cs (Some p) below =
    let less = below p refl in
    let many = length-paths_of above in
    let all : fold with_path [] (above ++ cs) ≡ fold with_path (fold with_path [] above) cs = fold-append with_path [] above cs in
    ap (λ (o : Option ContainerPath). unwrap_or o no_path) (ap (λ (ls : List ContainerPath). slice_get ls p) all ∙ paths_extend cs (fold with_path [] above) p (omega arith))

last_kept : (above : List Container) (c : Container) (cs : List Container) → path_at (paths_of (above ++ c ∷ cs)) (Some (length above)) ≡ path_below (path_at (paths_of above) c.parent) c
last_kept above c cs =
    let ls = paths_of above in
    let l = path_below (path_at ls c.parent) c in
    let split : above ++ c ∷ cs ≡ (above ++ c ∷ []) ++ cs = sym (append_assoc above (c ∷ []) cs) in
    let there : path_at (paths_of ((above ++ c ∷ []) ++ cs)) (Some (length above)) ≡ path_at (paths_of (above ++ c ∷ [])) (Some (length above)) = path_kept (above ++ c ∷ []) cs (Some (length above)) (λ p e. let same : length above ≡ p = cc in omega (arith, length-push above c)) in
    let at : slice_get (ls ++ l ∷ []) (length above) ≡ Some l = ap (slice_get (ls ++ l ∷ [])) (sym (length-paths_of above)) ∙ slice_get-end ls l [] in
    ap (λ (xs : List Container). path_at (paths_of xs) (Some (length above))) split ∙ there
    ∙ ap (λ (xs : List ContainerPath). path_at xs (Some (length above))) (paths_of-push above c) ∙ ap (λ (o : Option ContainerPath). unwrap_or o no_path) at

-- no two containers have one name
abbrev HaveDistinctNames : List Container → Type 0
HaveDistinctNames cs = AreDistinctNames (map (λ c. c.name) cs)

containers_placed : (d : Database) (above cs : List Container) → d.containers ≡ above ++ cs → AllByRecursion IsPath (paths_of above) → HaveDistinctNames above → containers_sound d.parameters above (flat_map rows_of_container cs) ≡ true
    → AreContainers d (length above) cs × HaveDistinctNames (above ++ cs)
unfolding are_sound
containers_placed d above [] whole paths names sound = (tt, subst HaveDistinctNames (sym (append-nil above)) names)
containers_placed d above (c ∷ cs) whole paths names sound =
    let ps = d.parameters in
    let more = flat_map rows_of_container cs in
    let b = new_container_of c in
    let up = path_at (paths_of above) c.parent in
    let p = both_true (is_none (row_fault ps above (begin_row c))) (containers_sound ps (with_container_row above (begin_row c)) (map entry_row c.entries ++ more)) sound in
    let both = or_else-none (first_broken ((2, false) ∷ columns_checks above (Begins b))) (first_broken (entry_checks ps (last_path (with_columns above (Begins b))) false Nothing place.Nothing)) (none_is (row_fault ps above (begin_row c)) p.0) in
    let q = all_pass ((2, false) ∷ new_container_checks above (path_up above b) b) both.0 in
    let back : path_up above b ≡ up = ap (path_at (paths_of above)) (number_back c.parent) in
    let depth : nat_le 32 up.containers ≡ false = ap (λ (l : ContainerPath). nat_le 32 l.containers) (sym back) ∙ q.1.1.1.0 in
    let low : up.containers < 32 = leb-false 32 up.containers depth in
    let earlier : (n : ℕ) → c.parent ≡ Some n → n < length above = λ n e. parent_before (length above) c.parent n (is_true (is_parent (length above) (reference_to c.parent)) q.1.1.1.1.0) e in
    let compared : compares_other up.entries c.condition ≡ false = ap (λ (l : ContainerPath). compares_other l.entries c.condition) (sym back) ∙ q.1.1.1.1.1.1.1.0 in
    let started : containers_sound ps (above ++ with_entries c [] ∷ []) (map entry_row c.entries ++ more) ≡ true = ap (λ (xs : List Container). containers_sound ps xs (map entry_row c.entries ++ more)) (sym (begin_step above c)) ∙ p.1 in
    let condition = both_true (nat_le (length c.condition) 255) (list_all (λ k. is_in_range k.number) c.condition) (is_true (is_condition (Some c.condition)) q.1.1.1.1.1.1.0) in
    let over = path_of (paths_of above) c.parent paths in
    let entries = entries_placed d above c [] c.entries more (subst AreShort (sym (append-nil up.entries)) (over.few_entries, over.distinct)) started in
    let path : IsPath (path_below up c) = record { few_containers = omega arith; few_entries = entries.short.0; distinct = entries.short.1 } in
    let kept : path_at (paths_of d.containers) c.parent ≡ up = ap (λ (xs : List Container). path_at (paths_of xs) c.parent) whole ∙ path_kept above (c ∷ cs) c.parent earlier in
    let own : path_at (paths_of d.containers) (Some (length above)) ≡ path_below up c = ap (λ (xs : List Container). path_at (paths_of xs) (Some (length above))) whole ∙ last_kept above c cs in
    let here : IsContainer d (length above) c = record {
      named = is_true (is_name c.name) q.1.0;
      parent = below_parent above c.parent (is_true (is_parent (length above) (reference_to c.parent)) q.1.1.1.1.0) q.1.1.1.1.1.0;
      condition = record {
        few = leb-true (length c.condition) 255 condition.0;
        whole = all_whole c.condition condition.1;
        above = ap (λ (l : ContainerPath). compares_other l.entries c.condition) kept ∙ compared;
      };
      entries = entries.placed;
      path = subst IsPath (sym own) path;
      below = own ∙ ap (λ (l : ContainerPath). path_below l c) (sym kept);
    } in
    let now = above ++ c ∷ [] in
    let name : Container → Text = λ k. k.name in
    let split = append_assoc above (c ∷ []) cs in
    let more_paths : AllByRecursion IsPath (paths_of now) = subst (AllByRecursion IsPath) (sym (paths_of-push above c)) (all_join IsPath (paths_of above) (path_below up c ∷ []) paths (path, tt)) in
    let more_names : HaveDistinctNames now = with_new text_equiv name above c names (new_name c.name (map name above) q.1.1.0) in
    let rest = containers_placed d now cs (whole ∙ sym split) more_paths more_names entries.left in
    ((here, subst (λ (k : ℕ). AreContainers d k cs) (length-push above c) rest.0), subst HaveDistinctNames split rest.1)

some_container : (ps : List Parameter) (cs : List Container) → containers_fault ps (flat_map rows_of_container cs) ≡ None → 0 < length cs
some_container ps [] none = cc
some_container ps (c ∷ cs) none = omega arith

no_paths : AllByRecursion IsPath (paths_of [])
unfolding paths_of
no_paths = tt

no_names : AreDistinctNames []
unfolding IsDistinct
no_names = tt

pub structured : (d : Database) → IsDatabase d → IsStructured d
structured d is =
    let p = parts_of d is in
    let few = counts d is.small in
    let rows = flat_map rows_of_container d.containers in
    let calibrations = calibrations_are d is in
    let containers = containers_placed d [] d.containers refl no_paths no_names (containers_are_sound d.parameters rows (containers_first d.parameters rows p.containers_none)) in
    record {
      few_calibrations = few.calibrations;
      few_rows = few.rows;
      few_parameters = few.parameters;
      few_containers = few.containers;
      few_entries = few.entries;
      root = some_container d.parameters d.containers p.containers_none;
      calibration_names = calibrations.names;
      parameter_names = names_differ d.calibrations [] d.parameters (parameters_are_sound d.calibrations (map row_of_parameter d.parameters) p.parameters_none) no_names;
      container_names = containers.1;
      calibrations = calibrations.each;
      parameters = λ n x at. parameter_at d n x p.parameters_none at;
      containers = λ n c at. let same : 0 + n ≡ n = omega arith in subst (λ (k : ℕ). IsContainer d k c) same (container_at d 0 d.containers n c containers.0 at);
    }
