-- A script of `create` in which nothing is wrong gives its tables names that no table has.
use Rattle.std.proofs.Common.{◌≡◌, ℕ, suc, ◌+◌, ◌≤◌, List, [], ◌∷◌, ◌++◌, length, Some, None, Bool, true, false, not, cond, ltb, refl, sym, subst, append_assoc, append-nil, arith}
use Rattle.std.specs.Prelude.{is_some, if◌then◌else◌, ◌||◌}
use Rattle.std.specs.List.{AllByRecursion, IsDistinct, list_any, position_or_len}
use Rattle.std.specs.Str.{bytes_eq}
use Rattle.std.proofs.lemmas.Bool.{ltb-false}
use Rattle.std.proofs.lemmas.Cmp.{nat_list_eq_equiv}
use Rattle.std.proofs.lemmas.List.Folds.{list_any-append}
use Rattle.std.proofs.lemmas.Map.Keys.{IsDistinct-push}
use Rattle.ssql_parse.specs.declared.statement.Statement.{Statement}
use Rattle.ssql_parse.specs.declared.statement.Statement.TheVariants as st
use Rattle.ssql_types.specs.declared.place.ScriptPlace.TheVariants.{Create}
use Rattle.ssql_types.specs.declared.rules.Rule.TheVariants.{NameTaken}
use Rattle.ssql_types.specs.Rules.{TokenFault, broken, no_fault, first_sql_fault, later_places}
use Rattle.ssql_types.specs.Faults.{created_fault, script_faults}
use Rattle.ssql_types.specs.Names.{is_known_name, is_name_taken, is_tm_in}
use Rattle.ssql_types.specs.Typed.{typed_script}
use Rattle.ssql_types.specs.CreatedTables.{created_tables, CreatedTablesAreDistinct}

-- nothing is wrong with any of some tokens
abbrev AreSound : List TokenFault → Type 0
AreSound faults = AllByRecursion (λ (fault : TokenFault). fault ≡ None) faults

each_sound : (faults : List TokenFault) (places : List ℕ) → first_sql_fault faults places ≡ None → AreSound faults
each_sound [] places none = tt
each_sound (None ∷ faults) places none = (refl, each_sound faults (later_places places) none)
each_sound (Some fault ∷ faults) places none = absurd (cc (none))

-- ---- names

pass_or_not : (b more : Bool) (rest place : ℕ) → (rest ≤ place → more ≡ false) → suc rest ≤ cond (not b) (1 + place) 0 → (b || more) ≡ false
pass_or_not true more rest place none past = absurd (omega (arith, past))
pass_or_not false more rest place none past = none (omega (arith, past))

none_passes : {X : Type 0} (p : X → Bool) (xs : List X) → length xs ≤ position_or_len p xs → list_any p xs ≡ false
none_passes p [] past = refl
none_passes p (x ∷ xs) past = pass_or_not (p x) (list_any p xs) (length xs) (position_or_len p xs) (λ later. none_passes p xs later) past

not_placed : (n len : ℕ) (b : Bool) → ltb n len ≡ b → is_some (cond b (Some n) None) ≡ false → len ≤ n
not_placed n len true e some = absurd (cc (some))
not_placed n len false e none = ltb-false n len e

-- a name that isn't among names is equal to none of them
equal_to_none : (names : List (List ℕ)) (name : List ℕ) → is_known_name names name ≡ false → list_any (bytes_eq name) names ≡ false
equal_to_none names name unknown =
    let place = position_or_len (bytes_eq name) names in
    none_passes (bytes_eq name) names (not_placed place (length names) (ltb place (length names)) refl unknown)

neither : (a b : Bool) → (a || b) ≡ false → (a ≡ false) × (b ≡ false)
neither true b e = absurd (cc (e))
neither false b e = (refl, e)

is_free : (taken : Bool) → (if taken then Some (broken NameTaken) else no_fault) ≡ None → taken ≡ false
is_free true e = absurd (cc (e))
is_free false e = refl

-- a name that isn't taken is equal to that of no table, and to none that was created
new_name : (tables created : List (List ℕ)) (name : List ℕ) → created_fault tables created name ≡ None → list_any (bytes_eq name) (tables ++ created) ≡ false
new_name tables created name sound =
    let free = is_free (is_name_taken tables created name) sound in
    let parts = neither (is_tm_in name || is_known_name tables name) (is_known_name created name) free in
    let others = neither (is_tm_in name) (is_known_name tables name) parts.0 in
    rw (list_any-append (bytes_eq name) tables created, equal_to_none tables name others.1, equal_to_none created name parts.1) refl

-- ---- scripts

all_distinct : (tables names created : List (List ℕ)) (statements : List Statement) → IsDistinct bytes_eq (tables ++ created) → AreSound (script_faults Create tables created statements) →
    IsDistinct bytes_eq (tables ++ (created ++ created_tables (typed_script tables names created statements)))
all_distinct tables names created [] distinct sound = subst (λ (l : List (List ℕ)). IsDistinct bytes_eq (tables ++ l)) (sym (append-nil created)) distinct
all_distinct tables names created (st.CreateTable name like ∷ statements) distinct sound =
    let more = created ++ name ∷ [] in
    let longer : IsDistinct bytes_eq (tables ++ more) =
    subst (λ (l : List (List ℕ)). IsDistinct bytes_eq l) (append_assoc tables created (name ∷ [])) (IsDistinct-push nat_list_eq_equiv (tables ++ created) name distinct (new_name tables created name sound.1.1.0)) in
    subst (λ (l : List (List ℕ)). IsDistinct bytes_eq (tables ++ l)) (append_assoc created (name ∷ []) (created_tables (typed_script tables names more statements)))
    (all_distinct tables names more statements longer sound.1.1.1.1.1.1)
all_distinct tables names created (st.CreateStream name query ∷ statements) distinct sound = absurd (cc (sound.0))
all_distinct tables names created (st.Insert table query ∷ statements) distinct sound = absurd (cc (sound.0))
all_distinct tables names created (st.Query query ∷ statements) distinct sound = absurd (cc (sound.0))
all_distinct tables names created (st.ShowHistogram table ∷ statements) distinct sound = absurd (cc (sound.0))
all_distinct tables names created (st.ShowPartitions table ∷ statements) distinct sound = absurd (cc (sound.0))

pub distinct_tables : CreatedTablesAreDistinct
distinct_tables tables names script distinct none =
    all_distinct tables names [] script.statements (subst (λ (l : List (List ℕ)). IsDistinct bytes_eq l) (sym (append-nil tables)) distinct)
    (each_sound (script_faults Create tables [] script.statements) script.places none)
