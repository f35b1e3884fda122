-- The statements of a script, typed one after the other.
use Rattle.std.proofs.Common.{◌≡◌, inl, inr, ℕ, ◌+◌, ◌<◌, ◌≤◌, List, [], ◌∷◌, ◌++◌, length, get_or, drop, None, refl, sym, ap, subst, ◌∙◌, append_assoc, length-append, arith}
use Rattle.std.proofs.lemmas.List.{append-nil, drop_all}
use Rattle.ssql_types.specs.declared.not_typed.NotTyped.{NotTyped}
use Rattle.ssql_parse.specs.declared.statement.Statement.{Statement}
use Rattle.ssql_parse.specs.declared.statement.Statement.TheVariants as st
use Rattle.ssql_parse.specs.Depth.{script_depth, statement_depth}
use Rattle.ssql_parse.specs.Grammar.{AreStatements, IsStatement}
use Rattle.ssql_types.specs.declared.place.ScriptPlace.{ScriptPlace}
use Rattle.ssql_types.specs.declared.statement.TypedStatement.{TypedStatement}
use Rattle.ssql_types.specs.Rules.{no_fault, first_sql_fault, later_places}
use Rattle.ssql_types.specs.Names.{names_created}
use Rattle.ssql_types.specs.Faults.{statement_faults, script_faults}
use Rattle.ssql_types.specs.Typed.{typed_statement, typed_script}
use Rattle.ssql_types.specs.Typing.{IsTypedPart, IsPartNotTyped}
use Rattle.ssql_types.proofs.Joined.{first_behind, refused_before}
use Rattle.ssql_types.proofs.Lists.{drop_item}

-- Of a script some statements are typed and these are left: together they are all, and what is wrong first is wrong with what is left.
pub record AreStatementsLeft (place : ScriptPlace) (tables names : List (List ℕ)) (all : List Statement) (places : List ℕ) (typed : List TypedStatement) (created : List (List ℕ)) (left : List Statement) (rest : List ℕ) : Type 0 where
  pub same : typed ++ typed_script tables names created left ≡ typed_script tables names [] all
  pub first : first_sql_fault (script_faults place tables created left) rest ≡ first_sql_fault (script_faults place tables [] all) places
  pub few : length created + length left ≤ length all
  pub are : AreStatements left
  pub shallow : script_depth left ≤ 32

pub statements_begin : (place : ScriptPlace) (tables names : List (List ℕ)) (all : List Statement) (places : List ℕ) → AreStatements all → script_depth all ≤ 32 →
    AreStatementsLeft place tables names all places [] [] all places
statements_begin place tables names all places are shallow = record { same = refl; first = refl; few = omega arith; are = are; shallow = shallow }

one_at_most : (statement : Statement) → length (names_created statement) ≤ 1
one_at_most (st.CreateTable name like) = omega arith
one_at_most (st.CreateStream name query) = omega arith
one_at_most (st.Insert table query) = omega arith
one_at_most (st.Query query) = omega arith
one_at_most (st.ShowHistogram table) = omega arith
one_at_most (st.ShowPartitions table) = omega arith

module _ (place : ScriptPlace) (tables names : List (List ℕ)) (all : List Statement) (places : List ℕ) where
  pub statements_go_on : (typed : List TypedStatement) (created : List (List ℕ)) (x : Statement) (left : List Statement) (rest : List ℕ) (v : TypedStatement) (later : List ℕ)
      (longer : List TypedStatement) (more : List (List ℕ)) (next : List ℕ) →
      AreStatementsLeft place tables names all places typed created (x ∷ left) rest → IsTypedPart (statement_faults place tables created x) rest (typed_statement tables names created x) (v, later) →
      longer ≡ typed ++ v ∷ [] → more ≡ created ++ names_created x → next ≡ later_places later →
      AreStatementsLeft place tables names all places longer more left next
  statements_go_on typed created x left rest v later longer more next sofar part is creates behind = record {
    same = ap (λ (cs : List (List ℕ)). longer ++ typed_script tables names cs left) creates
        ∙ ap (λ (ys : List TypedStatement). ys ++ typed_script tables names (created ++ names_created x) left) (is ∙ ap (λ (y : TypedStatement). typed ++ y ∷ []) part.same)
        ∙ append_assoc typed (typed_statement tables names created x ∷ []) (typed_script tables names (created ++ names_created x) left) ∙ sofar.same;
    first = ap (λ (cs : List (List ℕ)). first_sql_fault (script_faults place tables cs left) next) creates
        ∙ ap (first_sql_fault (script_faults place tables (created ++ names_created x) left)) (behind ∙ ap later_places part.rest)
        ∙ sym (first_behind (statement_faults place tables created x) (no_fault ∷ script_faults place tables (created ++ names_created x) left) rest part.sound) ∙ sofar.first;
    few = let long = ap length creates in let parts = length-append created (names_created x) in let one = one_at_most x in let few = sofar.few in omega (arith, long, parts, one, few);
    are = sofar.are.1;
    shallow = let all_shallow = sofar.shallow in omega (arith, all_shallow);
  }

  -- the next statement is one, and its condition isn't too deep
  pub next_is_statement : (typed : List TypedStatement) (created : List (List ℕ)) (x : Statement) (left : List Statement) (rest : List ℕ) →
      AreStatementsLeft place tables names all places typed created (x ∷ left) rest → IsStatement x × (statement_depth x ≤ 32)
  next_is_statement typed created x left rest sofar = (sofar.are.0, let shallow = sofar.shallow in omega (arith, shallow))

  pub statements_end : (typed : List TypedStatement) (created : List (List ℕ)) (left : List Statement) (rest : List ℕ) → AreStatementsLeft place tables names all places typed created left rest → left ≡ [] →
      (first_sql_fault (script_faults place tables [] all) places ≡ None) × (typed ≡ typed_script tables names [] all)
  statements_end typed created left rest sofar none = (
    sym sofar.first ∙ ap (λ (l : List Statement). first_sql_fault (script_faults place tables created l) rest) none,
    sym (append-nil typed) ∙ ap (λ (l : List Statement). typed ++ typed_script tables names created l) (sym none) ∙ sofar.same,
  )

  pub statements_stop : (typed : List TypedStatement) (created : List (List ℕ)) (x : Statement) (left : List Statement) (rest : List ℕ) (refusal : NotTyped) →
      AreStatementsLeft place tables names all places typed created (x ∷ left) rest → IsPartNotTyped (statement_faults place tables created x) rest refusal →
      IsPartNotTyped (script_faults place tables [] all) places refusal
  statements_stop typed created x left rest refusal sofar why =
      elim (refused_before (statement_faults place tables created x) (no_fault ∷ script_faults place tables (created ++ names_created x) left) rest refusal why)
      as (λ h. IsPartNotTyped (script_faults place tables [] all) places refusal) [ inl e ↦ inl e | inr e ↦ inr (sym sofar.first ∙ e) ]

  -- ---- by the place of the statement, as the loop over them stands

  left_at : (typed : List TypedStatement) (created : List (List ℕ)) (i : ℕ) (x : Statement) (rest : List ℕ) → i < length all → x ≡ get_or all i x →
      AreStatementsLeft place tables names all places typed created (drop i all) rest → AreStatementsLeft place tables names all places typed created (x ∷ drop (i + 1) all) rest
  left_at typed created i x rest within is sofar = subst (λ (left : List Statement). AreStatementsLeft place tables names all places typed created left rest) (drop_item all i x within is) sofar

  pub statement_at_is : (typed : List TypedStatement) (created : List (List ℕ)) (i : ℕ) (x : Statement) (rest : List ℕ) → i < length all → x ≡ get_or all i x →
      AreStatementsLeft place tables names all places typed created (drop i all) rest → IsStatement x × (statement_depth x ≤ 32)
  statement_at_is typed created i x rest within is sofar = next_is_statement typed created x (drop (i + 1) all) rest (left_at typed created i x rest within is sofar)

  pub statement_at_stops : (typed : List TypedStatement) (created : List (List ℕ)) (i : ℕ) (x : Statement) (rest : List ℕ) (refusal : NotTyped) → i < length all → x ≡ get_or all i x →
      AreStatementsLeft place tables names all places typed created (drop i all) rest → IsPartNotTyped (statement_faults place tables created x) rest refusal →
      IsPartNotTyped (script_faults place tables [] all) places refusal
  statement_at_stops typed created i x rest refusal within is sofar why =
      statements_stop typed created x (drop (i + 1) all) rest refusal (left_at typed created i x rest within is sofar) why

  pub statement_at_goes_on : (typed : List TypedStatement) (created : List (List ℕ)) (i : ℕ) (x : Statement) (rest : List ℕ) (v : TypedStatement) (later : List ℕ)
      (longer : List TypedStatement) (more : List (List ℕ)) (next : List ℕ) → i < length all → x ≡ get_or all i x →
      AreStatementsLeft place tables names all places typed created (drop i all) rest → IsTypedPart (statement_faults place tables created x) rest (typed_statement tables names created x) (v, later) →
      longer ≡ typed ++ v ∷ [] → more ≡ created ++ names_created x → next ≡ later_places later →
      AreStatementsLeft place tables names all places longer more (drop (i + 1) all) next
  statement_at_goes_on typed created i x rest v later longer more next within is sofar part pushed creates behind =
      statements_go_on typed created x (drop (i + 1) all) rest v later longer more next (left_at typed created i x rest within is sofar) part pushed creates behind

  pub statements_done : (typed : List TypedStatement) (created : List (List ℕ)) (i : ℕ) (rest : List ℕ) → length all ≤ i →
      AreStatementsLeft place tables names all places typed created (drop i all) rest → (first_sql_fault (script_faults place tables [] all) places ≡ None) × (typed ≡ typed_script tables names [] all)
  statements_done typed created i rest behind sofar = statements_end typed created (drop i all) rest sofar (drop_all i all behind)
