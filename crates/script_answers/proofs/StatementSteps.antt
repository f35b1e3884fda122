-- The steps that the answer to a query takes.
use Rattle.std.proofs.Common.{◌≡◌, inl, inr, ℕ, ◌+◌, ◌≤◌, List, [], ◌∷◌, length, Bool, true, false, cond, refl, sym, ap, ◌∙◌, length-append, subst, arith}
use Rattle.std.specs.Prelude.{filter, flat_map, Contains}
use Rattle.std.proofs.lemmas.List.Elements.{Contains-append_cases}
use Rattle.std.proofs.lemmas.List.Folds.{Any-from_list_any}
use Rattle.arch_types.specs.declared.row.Row.{Row}
use Rattle.arch_types.specs.Table.{range_of}
use Rattle.history_items.specs.declared.items.Item.{Item}
use Rattle.history_items.specs.Items.{rows_in}
use Rattle.partitions.specs.declared.bounds.Bounds.{Bounds}
use Rattle.partitions.specs.declared.partition.Partition.{Partition}
use Rattle.partitions.specs.Bounds.{IsAmong}
use Rattle.partitions.specs.Rows.{is_of_partition, is_of_parts}
use Rattle.partitions.proofs.Parted.{its_partition}
use Rattle.replay_merge.specs.Replay.{has_listed_name, is_listed_name}
use Rattle.replay_merge.proofs.Bounds.{listed_is_among}
use Rattle.ssql_conditions.specs.ConditionBounds.{bounds_of}
use Rattle.ssql_select.specs.Selection.{ranged_in_parts, rows_between_of, rows_looked_at}
use Rattle.ssql_types.specs.declared.query.TypedSelect.{TypedSelect}
use Rattle.ssql_types.specs.declared.statement.TypedStatement.TheVariants.{Select}
use Rattle.archive_store.specs.Replays.{rows_below}
use Rattle.script_answers.specs.Statements.{AreSourceParts, rows_in_bounds, steps_of_statement}
use Rattle.script_answers.proofs.HeldParts.{whole_rows}

-- where one test passes another does, no more pass the first
fewer : (p q : Row → Bool) → ((row : Row) → p row ≡ true → q row ≡ true) → (rows : List Row) → length (filter p rows) ≤ length (filter q rows)
fewer p q also [] = omega arith
fewer p q also (row ∷ rows) = by (p row) (q row) refl refl (fewer p q also rows)
  where
    by : (a b : Bool) → p row ≡ a → q row ≡ b → length (filter p rows) ≤ length (filter q rows) → length (cond a (row ∷ filter p rows) (filter p rows)) ≤ length (cond b (row ∷ filter q rows) (filter q rows))
    by true true ea eb le = omega (arith, le)
    by true false ea eb le = let other = also row ea in absurd cc
    by false true ea eb le = omega (arith, le)
    by false false ea eb le = le

module _ (bounds : Bounds) (history : List Item) where
  -- the partitions of tables have packet names of the bounds
  parts_named : (tables : List ℕ) (parts : List Partition) → AreSourceParts history bounds tables parts → (partition : Partition) → Contains parts partition → IsAmong bounds.names partition.pname
  parts_named [] parts none partition is = let some = is.1 in let empty = ap length none in absurd (omega (arith, some, empty))
  parts_named (table ∷ tables) parts (own, others, of_first, of_others, are) partition is =
      elim (Contains-append_cases own others partition (subst (λ (l : List Partition). Contains l partition) are is)) [
        | inl first ↦ ((of_first.exactly partition).0 first).1.name
        | inr later ↦ parts_named tables others of_others partition later
      ]

  row_named : (tables : List ℕ) (parts : List Partition) → AreSourceParts history bounds tables parts → (row : Row) → is_of_parts parts row ≡ true → has_listed_name bounds.names row ≡ true
  row_named tables parts are row is =
      let any = Any-from_list_any (λ partition. is_of_partition partition row) parts is in
      let name = parts_named tables parts are any.1 (any.0, any.2, any.3) in
      sym (ap (λ (p : Partition). is_listed_name bounds.names p.pname) (its_partition any.1 row any.4)) ∙ (listed_is_among bounds.names any.1.pname).1 name

  -- so their rows with a time in the bounds are rows in the bounds
  few_rows : (sources : List ℕ) (parts : List Partition) → AreSourceParts history bounds sources parts → (tables : List ℕ) (rows : List Row) →
      length (rows_between_of tables parts bounds.from bounds.to rows) ≤ length (flat_map (rows_in_bounds bounds rows) tables)
  few_rows sources parts are [] rows = omega arith
  few_rows sources parts are (table ∷ tables) rows =
      let first = fewer (is_of_parts parts) (has_listed_name bounds.names) (row_named sources parts are) (range_of table bounds.from bounds.to rows) in
      let later = few_rows sources parts are tables rows in
      let a = length-append (ranged_in_parts parts bounds.from bounds.to rows table) (rows_between_of tables parts bounds.from bounds.to rows) in
      let b = length-append (rows_in_bounds bounds rows table) (flat_map (rows_in_bounds bounds rows) tables) in
      omega (arith, first, later, a, b)

-- what a selection takes at the end of a history is no more than the answer to its query may take
pub few_steps : (history : List Item) (query : TypedSelect) (parts : List Partition) (front first now : ℕ) → front ≡ length history → AreSourceParts history (bounds_of query.condition) query.sources parts →
    now ≤ first + length (rows_looked_at query parts (rows_below history front)) → now ≤ first + steps_of_statement history (Select query)
few_steps history query parts front first now at_end are took =
    let same = ap (λ (rows : List Row). length (rows_looked_at query parts rows)) (whole_rows history front at_end) in
    let few = few_rows (bounds_of query.condition) history query.sources parts are query.sources (rows_in history) in
    omega (arith, took, same, few)
