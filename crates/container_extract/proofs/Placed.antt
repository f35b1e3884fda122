-- What holds by places holds of the values.
use Rattle.std.proofs.Common.{◌≡◌, ◌∙◌, ◌+◌, ℕ, List, [], ◌∷◌, ◌++◌, length, map, Option, Some, Bool, true, false, cond, refl, ap, sym, lt-ltb}
use Rattle.std.specs.Prelude.{◌==◌, ◌&&◌, not, nat_lt, slice_get}
use Rattle.std.specs.List.{list_all, position_or_len, take_while}
use Rattle.std.proofs.lemmas.List.{map-append}
use Rattle.std.proofs.lemmas.List.Folds.{find_at}
use Rattle.std.proofs.lemmas.Option.{slice_get_within}
use Rattle.mdb_items.specs.declared.container.Comparison.{Comparison}
use Rattle.mdb_items.specs.declared.container.Container.{Container}
use Rattle.mdb_items.specs.declared.container.ParameterEntry.{ParameterEntry}
use Rattle.mdb_items.specs.Database.{Database}
use Rattle.mdb_items.specs.Paths.{path_at, paths_of}
use Rattle.mdb_lookups.specs.PlacedConditions.{path_parameters, placed_condition, placed_of, with_place}
use Rattle.container_extract.specs.declared.values.RawValue.{RawValue}
use Rattle.container_extract.specs.Chain.{entries_at}
use Rattle.container_extract.specs.Step.{AreAbove, AreOfPath, holds_at, holds_by_places, is_met_at, parameters_of_values}
use Rattle.container_extract.specs.Values.{fits, holds, is_met, raw_among, raw_value_of}
use Rattle.container_extract.proofs.Walk.{if_true, take_while_all}

position_map : {X : Type 0} (f : X → ℕ) (q : ℕ → Bool) (xs : List X) → position_or_len q (map f xs) ≡ position_or_len (λ x. q (f x)) xs
position_map f q [] = refl
position_map f q (x ∷ xs) = ap (λ (n : ℕ). cond (not (q (f x))) (1 + n) 0) (position_map f q xs)

-- the value at the place of a parameter is its value
raw_at_place : (values : List RawValue) (n : ℕ) → slice_get values (position_or_len (λ p. p == n) (parameters_of_values values)) ≡ raw_among n values
raw_at_place values n = ap (slice_get values) (position_map (λ (v : RawValue). v.parameter) (λ p. p == n) values) ∙ sym (find_at (λ (v : RawValue). v.parameter == n) values)

holds_placed : (values : List RawValue) (ps : List ℕ) (condition : List Comparison) → parameters_of_values values ≡ ps → holds_by_places values (map (with_place ps) condition) ≡ holds values condition
holds_placed values ps [] same = refl
holds_placed values ps (x ∷ xs) same =
    let here : is_met_at values (with_place ps x) ≡ is_met x (raw_among x.parameter values) =
    ap (λ (qs : List ℕ). is_met x (slice_get values (position_or_len (λ p. p == x.parameter) qs))) (sym same) ∙ ap (is_met x) (raw_at_place values x.parameter) in
    ap (λ b. b && list_all (is_met_at values) (map (with_place ps) xs)) here ∙ ap (λ b. is_met x (raw_among x.parameter values) && b) (holds_placed values ps xs same)

-- the condition of a child, of the values of the path above it
pub holds_of_child : (db : Database) (n m : ℕ) (c : Container) (values : List RawValue) → slice_get db.containers m ≡ Some c → c.parent ≡ Some n → AreOfPath db n values → holds_at db.containers values m ≡ holds values c.condition
holds_of_child db n m c values at parent same =
    let cs = db.containers in
    let ps = path_parameters (path_at (paths_of cs) (Some n)) in
    let there : placed_condition cs m ≡ map (with_place ps) c.condition = ap (placed_of (paths_of cs)) at ∙ ap (λ (o : Option ℕ). map (with_place (path_parameters (path_at (paths_of cs) o))) c.condition) parent in
    if_true (nat_lt m (length cs)) (holds_by_places values (placed_condition cs m)) false (lt-ltb m (length cs) (slice_get_within cs m c at)) ∙ ap (holds_by_places values) there ∙ holds_placed values ps c.condition same

-- the parameters of the raw values of entries
pub parameters_of_raw : (db : Database) (packet : List ℕ) (es : List ParameterEntry) → parameters_of_values (map (raw_value_of db packet) es) ≡ map (λ (e : ParameterEntry). e.parameter) es
parameters_of_raw db packet [] = refl
parameters_of_raw db packet (e ∷ es) = ap (λ (ps : List ℕ). e.parameter ∷ ps) (parameters_of_raw db packet es)

-- once all entries of a container are taken the values are those of its path
pub of_path : (db : Database) (packet : List ℕ) (n : ℕ) (values more given : List RawValue) (es : List ParameterEntry) → es ≡ entries_at db n → more ≡ values ++ map (raw_value_of db packet) (take_while (fits db packet) es)
    → list_all (fits db packet) es ≡ true → AreAbove db n values → given ≡ more → AreOfPath db n given
of_path db packet n values more given es same taken all above is =
    let own = entries_at db n in
    let whole : more ≡ values ++ map (raw_value_of db packet) own = taken ∙ ap (λ (xs : List ParameterEntry). values ++ map (raw_value_of db packet) xs) (take_while_all (fits db packet) es all ∙ same) in
    ap parameters_of_values (is ∙ whole) ∙ map-append (λ (v : RawValue). v.parameter) values (map (raw_value_of db packet) own)
    ∙ ap (λ (ps : List ℕ). parameters_of_values values ++ ps) (parameters_of_raw db packet own) ∙ above
