-- A table with its partitions, as it grows.
use Rattle.std.proofs.Common.{◌≡◌, ℕ, ℤ, ◌+◌, ◌<◌, ◌≤◌, List, [], ◌∷◌, ◌++◌, length, map, take, get_or, append_assoc, Bool, true, false, cond, sym, ◌∙◌, ap, refl, arith}
use Rattle.std.specs.Prelude.{◌==◌, filter, IsSortedByKey}
use Rattle.std.specs.Fn.{Called, ComputesKey}
use Rattle.std.specs.List.{list_any, IsDistinct}
use Rattle.std.proofs.lemmas.Fn.{always_returns_same}
use Rattle.std.proofs.lemmas.List.{map-append, take_more}
use denote.Param.Members.{Mut}
use denote.Ref.{Bor}
use Rattle.arch_types.specs.declared.key.Key.{Key}
use Rattle.arch_types.specs.declared.row.Row.{Row}
use Rattle.arch_types.specs.History.{has_key, is_in_table}
use Rattle.arch_types.specs.Order.{key_cmp}
use Rattle.histogram.specs.declared.histogram.NamedTime.{NamedTime}
use Rattle.histogram.specs.Times.{times_of, HistogramView, IsHistogramOf}
use Rattle.histogram.proofs.Times.{times_of-append}
use Rattle.partitions.specs.declared.partition.Partition.{Partition}
use Rattle.partitions.specs.Partition.{partition_of}
use Rattle.partitions.specs.Partitions.{PartitionsView}
use Rattle.yarch_table.specs.declared.table.Stored.{Stored}
use Rattle.yarch_table.specs.Stored.{TableView, rows_of}
use Rattle.yarch_table.specs.Placed.{placed}
use Rattle.yarch_table.proofs.ByKey.{rows-stored_rest}
use Rattle.partitions.specs.Rows.{partitions_of}
use Rattle.archive_history.specs.PartitionedTable.{HaveOwnKeys, IsPartitioned, named_times_of}
use Rattle.archive_history.proofs.KeyOrder.{own-push}

-- what a sort by the key ensures
pub sorted_by_key : {F : Type 0} {g : Mut F (Bor Row × Unit {0}) Key} {f : F} (rows : List Row) → ((key : Row → Key) → ComputesKey g key f → IsSortedByKey key key_cmp rows)
    → ((a : Bor Row × Unit {0}) (r : Key) (f' : F) → Called g f a r f' → (r ≡ a.0.now.key) × (f' ≡ f)) → IsSortedByKey (λ row. row.key) key_cmp rows
sorted_by_key {g = g} {f = f} rows up h = up (λ row. row.key) (always_returns_same g (λ a r. r ≡ a.0.now.key) f h)

none_own : HaveOwnKeys []
unfolding IsDistinct
none_own = tt

-- no rows
pub partitioned_none : (table : TableView) (partitions : PartitionsView) (gone : HistogramView) → table ≡ record { stored = []; room = 0 } → partitions ≡ record { noted = []; room = 0 } → IsHistogramOf gone [] → IsPartitioned [] table partitions gone
partitioned_none table partitions gone empty none kept = rw (empty, none) (record { own_keys = none_own; noted = refl; has_room = omega arith; kept = kept })

-- a row more, of a key that none has
pub partitioned_push : (old new : TableView) (partitions noting : PartitionsView) (past : List NamedTime) (gone : HistogramView) (row : Row) (position : ℕ) → IsPartitioned past old partitions gone →
    list_any (has_key row.key) (rows_of old.stored) ≡ false → new.stored ≡ old.stored ++ record { row = row; position = position } ∷ [] → new.room + 1 ≡ old.room →
    noting.noted ≡ partitions.noted ++ partition_of row.key.time row.pname ∷ [] → partitions.room ≤ noting.room + 1 → IsPartitioned past new noting gone
partitioned_push old new partitions noting past gone row position was fresh stored left noted left_noted =
    let s : Stored = record { row = row; position = position } in
    let rows : rows_of new.stored ≡ rows_of old.stored ++ row ∷ [] = ap rows_of stored ∙ map-append (λ (t : Stored). t.row) old.stored (s ∷ []) in
    record {
      own_keys = rw rows (own-push (rows_of old.stored) row was.own_keys fresh);
      noted =
          noted ∙ ap (λ (l : List Partition). l ++ partition_of row.key.time row.pname ∷ []) was.noted
          ∙ sym (map-append (λ (r : Row). partition_of r.key.time r.pname) (rows_of old.stored) (row ∷ [])) ∙ ap partitions_of (sym rows);
      has_room = omega (arith, left, left_noted, was.has_room);
      kept = was.kept;
    }

-- ---- the times of a packet name

module _ (pname : ℕ) where
  -- those of a row more
  times_push : (stored : List Stored) (s : Stored) (b : Bool) → (s.row.pname == pname) ≡ b →
      times_of pname (named_times_of (rows_of (stored ++ s ∷ []))) ≡ times_of pname (named_times_of (rows_of stored)) ++ cond b (s.row.key.time ∷ []) []
  times_push [] s true is = rw is
  times_push [] s false is = rw is
  times_push (t ∷ stored) s b is = by (t.row.pname == pname) (times_push stored s b is)
    where
      by : (d : Bool) → times_of pname (named_times_of (rows_of (stored ++ s ∷ []))) ≡ times_of pname (named_times_of (rows_of stored)) ++ cond b (s.row.key.time ∷ []) [] →
          map (λ (at : NamedTime). at.time) (cond d ((let at : NamedTime = record { pname = t.row.pname; time = t.row.key.time } in at) ∷ filter (λ at. at.pname == pname) (named_times_of (rows_of (stored ++ s ∷ [])))) (filter (λ at. at.pname == pname) (named_times_of (rows_of (stored ++ s ∷ [])))))
          ≡ map (λ (at : NamedTime). at.time) (cond d ((let at : NamedTime = record { pname = t.row.pname; time = t.row.key.time } in at) ∷ filter (λ at. at.pname == pname) (named_times_of (rows_of stored))) (filter (λ at. at.pname == pname) (named_times_of (rows_of stored)))) ++ cond b (s.row.key.time ∷ []) []
      by true later = ap (λ (l : List ℤ). t.row.key.time ∷ l) later
      by false later = later

  pub times_more : (stored : List Stored) (i : ℕ) (s : Stored) (b : Bool) → i < length stored → s ≡ get_or stored i s → (s.row.pname == pname) ≡ b →
      times_of pname (named_times_of (rows_of (take (i + 1) stored))) ≡ times_of pname (named_times_of (rows_of (take i stored))) ++ cond b (s.row.key.time ∷ []) []
  times_more stored i s b within is of =
      ap (λ (l : List Stored). times_of pname (named_times_of (rows_of l))) (take_more stored i s within ∙ ap (λ (t : Stored). take i stored ++ t ∷ []) (sym is)) ∙ times_push (take i stored) s b of

  -- and behind others
  pub times_with_more : (past : List NamedTime) (stored : List Stored) (i : ℕ) (s : Stored) (b : Bool) → i < length stored → s ≡ get_or stored i s → (s.row.pname == pname) ≡ b →
      times_of pname (past ++ named_times_of (rows_of (take (i + 1) stored))) ≡ times_of pname (past ++ named_times_of (rows_of (take i stored))) ++ cond b (s.row.key.time ∷ []) []
  times_with_more past stored i s b within is of =
      let so_far = named_times_of (rows_of (take i stored)) in
      let more : List ℤ = cond b (s.row.key.time ∷ []) [] in
      times_of-append pname past (named_times_of (rows_of (take (i + 1) stored)))
      ∙ ap (λ (l : List ℤ). times_of pname past ++ l) (times_more stored i s b within is of)
      ∙ sym (append_assoc (times_of pname past) (times_of pname so_far) more)
      ∙ ap (λ (l : List ℤ). l ++ more) (sym (times_of-append pname past so_far))

-- the rows of a table that has those of a history at their positions
pub rows_of-placed : (table : ℕ) (history : List Row) → rows_of (placed table history) ≡ filter (is_in_table table) history
rows_of-placed table history = rows-stored_rest 0 table history
