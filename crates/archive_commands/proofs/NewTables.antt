-- The tables of a new archive have distinct names.
use Rattle.std.proofs.Common.{◌≡◌, ◌≢◌, ◌∙◌, ℕ, List, [], ◌∷◌, codes, false, true≢false, sym}
use Rattle.std.specs.Prelude.{Ok}
use Rattle.std.specs.List.{AllByRecursion, IsDistinct}
use Rattle.std.specs.Str.{bytes_eq}
use Rattle.std.proofs.lemmas.Slice.Eq.{bytes_eq-Decides}
use Rattle.field_codec.specs.Entries.{AreDistinct}
use Rattle.ssql_types.proofs.DistinctTables.{distinct_tables}
use Rattle.archive_commands.specs.Create.{IsTablesAnswer}

differ : (a b : List ℕ) → bytes_eq a b ≡ false → b ≢ a
differ a b e same = true≢false (sym ((bytes_eq-Decides a b).1 (sym same)) ∙ e)

each_differs : (name : List ℕ) (names : List (List ℕ)) → AllByRecursion (λ (other : List ℕ). bytes_eq name other ≡ false) names → AllByRecursion (λ (other : List ℕ). other ≢ name) names
each_differs name [] all = tt
each_differs name (other ∷ names) all = (differ name other all.0, each_differs name names all.1)

all_differ : (names : List (List ℕ)) → IsDistinct bytes_eq names → AreDistinct names
unfolding IsDistinct
all_differ [] distinct = tt
all_differ (name ∷ names) distinct = (each_differs name names distinct.0, all_differ names distinct.1)

tm_alone : IsDistinct bytes_eq (codes "tm" ∷ [])
unfolding IsDistinct
tm_alone = (tt, tt)

-- where nothing is wrong with a script, `tm` and its tables have distinct names
pub new_tables_differ : (text : List ℕ) (tables : List (List ℕ)) → IsTablesAnswer text (Ok tables) → AreDistinct tables
new_tables_differ text tables is =
    let typed = is.1 in
    let distinct = distinct_tables (codes "tm" ∷ []) [] typed.0 tm_alone typed.2 in
    all_differ tables (rw (is.2, typed.3) distinct)
