-- The rows at the places of a partition are the rows of it.
use Rattle.std.proofs.Common.{◌≡◌, ℕ, zero, suc, ◌<◌, ◌≤◌, List, [], ◌∷◌, ◌++◌, length, take, reverse, Bool, true, false, cond, Option, Some, None, sym, ◌∙◌, ap, subst, refl, arith}
use Rattle.std.specs.Prelude.{filter, filter_map, nat_lt, slice_get, option_map, IsPermutation, IsSortedByKey}
use Rattle.std.specs.List.{AllByRecursion}
use Rattle.std.proofs.Math.Seq.{take-suc, take-length}
use Rattle.std.proofs.lemmas.List.{length-map, map-append, reverse-append, append-nil}
use Rattle.std.proofs.lemmas.List.Elements.{filter-append}
use Rattle.std.proofs.lemmas.List.Sorted.{IsPermutation-reverse, IsPermutation-trans}
use Rattle.std.proofs.lemmas.Option.{slice_get-map, slice_get_within, get_or_from_slice_get}
use Rattle.arch_types.specs.declared.row.Row.{Row}
use Rattle.arch_types.specs.Order.{key_cmp}
use Rattle.arch_types.proofs.Ordered.{filter-order}
use Rattle.arch_types.proofs.Ranks.{rows_rank}
use Rattle.partitions.specs.declared.partition.Partition.{Partition}
use Rattle.partitions.specs.Partition.{partition_of}
use Rattle.partitions.specs.Places.{is_noted_in, places_below, places_in}
use Rattle.partitions.specs.Rows.{is_of_partition, partitions_of}
use Rattle.yarch_table.specs.declared.table.Stored.{Stored}
use Rattle.yarch_table.specs.Stored.{rows_of, rows_below, seen_at}
use Rattle.yarch_table.specs.Index.{seen_row}
use Rattle.archive_history.specs.PartitionedTable.{rows_at_places, HaveOwnKeys}
use Rattle.archive_history.proofs.KeyOrder.{only_order, own-partition}

found_at : {X : Type 0} (xs : List X) (i : ℕ) → i < length xs → (x : X) × (slice_get xs i ≡ Some x)
found_at [] i lt = absurd (omega (arith, lt))
found_at (x ∷ xs) zero lt = (x, refl)
found_at (x ∷ xs) (suc i) lt = found_at xs i (omega (arith, lt))

module _ (stored : List Stored) (front : ℕ) (partition : Partition) where
  abbrev noted : List Partition
  noted = partitions_of (rows_of stored)

  abbrev at_place : ℕ → Option Row
  at_place place = seen_row front None (slice_get stored place)

  -- one stored row more
  one : (s : Stored) (n : ℕ) (places : List ℕ) (rows : List Row) → slice_get stored n ≡ Some s → filter_map at_place places ≡ reverse rows →
      (b d : Bool) → is_of_partition partition s.row ≡ b → nat_lt s.position front ≡ d →
      filter_map at_place (cond b (n ∷ places) places) ≡ reverse (rows ++ filter (is_of_partition partition) (rows_of (cond d (s ∷ []) [])))
  one s n places rows here later true true of below = rw (here, below, later, of) (sym (reverse-append rows (s.row ∷ [])))
  one s n places rows here later true false of below = rw (here, below, later) (ap reverse (sym (append-nil rows)))
  one s n places rows here later false true of below = rw (later, of) (ap reverse (sym (append-nil rows)))
  one s n places rows here later false false of below = rw later (ap reverse (sym (append-nil rows)))

  noted_at : (n : ℕ) (s : Stored) → slice_get stored n ≡ Some s → slice_get noted n ≡ Some (partition_of s.row.key.time s.row.pname)
  noted_at n s here =
      slice_get-map (λ (row : Row). partition_of row.key.time row.pname) (rows_of stored) n
      ∙ ap (option_map (λ (row : Row). partition_of row.key.time row.pname)) (slice_get-map (λ (t : Stored). t.row) stored n ∙ ap (option_map (λ (t : Stored). t.row)) here)

  more_below : (n : ℕ) (s : Stored) → slice_get stored n ≡ Some s →
      filter (is_of_partition partition) (rows_below front (take (suc n) stored)) ≡ filter (is_of_partition partition) (rows_below front (take n stored)) ++ filter (is_of_partition partition) (rows_of (cond (nat_lt s.position front) (s ∷ []) []))
  more_below n s here =
      let is_below : Stored → Bool = λ t. nat_lt t.position front in
      let taken : take (suc n) stored ≡ take n stored ++ s ∷ [] =
      take-suc stored n s (slice_get_within stored n s here) ∙ ap (λ (t : Stored). take n stored ++ t ∷ []) (get_or_from_slice_get stored n s s here) in
      ap (λ (l : List Stored). filter (is_of_partition partition) (rows_below front l)) taken
      ∙ ap (λ (l : List Stored). filter (is_of_partition partition) (rows_of l)) (filter-append is_below (take n stored) (s ∷ []))
      ∙ ap (filter (is_of_partition partition)) (map-append (λ (t : Stored). t.row) (filter is_below (take n stored)) (filter is_below (s ∷ [])))
      ∙ filter-append (is_of_partition partition) (rows_below front (take n stored)) (rows_of (filter is_below (s ∷ [])))

  -- those below a place, the last first
  gathered : (n : ℕ) → n ≤ length stored → rows_at_places stored front (places_below n partition noted) ≡ reverse (filter (is_of_partition partition) (rows_below front (take n stored)))
  gathered zero le = refl
  gathered (suc n) le = by (found_at stored n (omega (arith, le))) (gathered n (omega (arith, le)))
    where
      by : (s : Stored) × (slice_get stored n ≡ Some s) → rows_at_places stored front (places_below n partition noted) ≡ reverse (filter (is_of_partition partition) (rows_below front (take n stored))) →
          rows_at_places stored front (places_below (suc n) partition noted) ≡ reverse (filter (is_of_partition partition) (rows_below front (take (suc n) stored)))
      by (s, here) later =
          ap (λ (o : Option Partition). filter_map at_place (cond (is_noted_in partition o) (n ∷ places_below n partition noted) (places_below n partition noted))) (noted_at n s here)
          ∙ one s n (places_below n partition noted) (filter (is_of_partition partition) (rows_below front (take n stored))) here later (is_of_partition partition s.row) (nat_lt s.position front) refl refl
          ∙ ap reverse (sym (more_below n s here))

  -- they are stored
  pub all_stored : AllByRecursion (λ place. place < length stored) (places_in partition noted)
  all_stored = all_below (length noted) (omega (arith, length-noted))
    where
      length-noted : length noted ≡ length stored
      length-noted = length-map (rows_of stored) (λ (row : Row). partition_of row.key.time row.pname) ∙ length-map stored (λ (s : Stored). s.row)

      all_below : (n : ℕ) → n ≤ length stored → AllByRecursion (λ place. place < length stored) (places_below n partition noted)
      all_below zero le = tt
      all_below (suc n) le = by (is_noted_in partition (slice_get noted n)) (all_below n (omega (arith, le)))
        where
          by : (b : Bool) → AllByRecursion (λ place. place < length stored) (places_below n partition noted) → AllByRecursion (λ place. place < length stored) (cond b (n ∷ places_below n partition noted) (places_below n partition noted))
          by true later = (omega (arith, le), later)
          by false later = later

  -- the rows at the places of a partition, put in order, are the rows of it that are seen
  pub partition_in_order : (rows ordered : List Row) → HaveOwnKeys (rows_of stored) → rows ≡ rows_at_places stored front (places_in partition noted) → IsPermutation rows ordered →
      IsSortedByKey (λ row. row.key) key_cmp ordered → ordered ≡ filter (is_of_partition partition) (seen_at front stored)
  partition_in_order rows ordered own at_places moved up =
      let those : List Row = filter (is_of_partition partition) (rows_below front stored) in
      let long : length noted ≡ length stored = length-map (rows_of stored) (λ (row : Row). partition_of row.key.time row.pname) ∙ length-map stored (λ (s : Stored). s.row) in
      let whole : rows ≡ reverse those =
      at_places ∙ ap (λ (n : ℕ). rows_at_places stored front (places_below n partition noted)) long ∙ gathered (length stored) (omega arith)
      ∙ ap (λ (l : List Stored). reverse (filter (is_of_partition partition) (rows_below front l))) (take-length stored) in
      let same : IsPermutation those ordered = IsPermutation-trans those rows ordered (subst (IsPermutation those) (sym whole) (IsPermutation-reverse those)) moved in
      only_order those ordered (own-partition partition front stored own) same up ∙ sym (filter-order rows_rank (is_of_partition partition) (rows_below front stored))
