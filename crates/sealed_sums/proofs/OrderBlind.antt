-- The sums of rows don't look at the order of the rows.
use Rattle.std.proofs.Common.{◌≡◌, ℕ, suc, zero, ℤ, ◌+◌, ◌≤◌, List, [], ◌∷◌, ◌++◌, length, map, Bool, true, false, cond, Some, refl, sym, ap, subst, ◌∙◌, arith, length-append}
use Rattle.std.specs.Prelude.{◌==◌, filter, fold, int_lt, slice_get, Contains}
use Rattle.std.specs.Ordering.{is_eq}
use Rattle.std.proofs.lemmas.Int.{ints}
use Rattle.std.proofs.lemmas.List.{map-append}
use Rattle.std.proofs.lemmas.List.Elements.{filter-append}
use Rattle.std.proofs.lemmas.List.Sums.{fold-append}
use Rattle.arch_types.specs.declared.row.Row.{Row}
use Rattle.arch_types.specs.History.{is_in_table}
use Rattle.arch_types.specs.Order.{order_by, place_by}
use Rattle.histogram.specs.declared.histogram.NamedTime.{NamedTime}
use Rattle.histogram.specs.Spans.{histogram_of}
use Rattle.histogram.specs.Times.{times_of}
use Rattle.histogram.proofs.Addition.{false_lt, lt_false, lt_true}
use Rattle.histogram.proofs.Times.{times_of-append}
use Rattle.partitions.specs.declared.partition.Partition.{Partition}
use Rattle.partitions.specs.Counts.{times_in}
use Rattle.partitions.specs.Partition.{partition_cmp, partition_of}
use Rattle.partitions.specs.Rows.{partitions_of}
use Rattle.archive_history.specs.Limits.{interval_rows, octets_of}
use Rattle.archive_history.specs.PartitionedTable.{named_times_of}
use Rattle.archive_history.proofs.Sums.{interval_rows-append, octets-append}
use Rattle.sealed_sums.specs.InOrder.{AreInOrder}
use Rattle.sealed_sums.specs.Laws.{PlacedSumsAreSums}

-- ---- what is the same of rows at positions and of the rows in the order of their positions

-- where an item stands
parted : {X : Type 0} (xs : List X) (x : X) → Contains xs x → (a : List X) × (b : List X) × (xs ≡ a ++ x ∷ b)
parted [] x (k, lt, is) = absurd (omega (arith, lt))
parted (y ∷ xs) x (zero, lt, is) = ([], xs, ap (λ z. z ∷ xs) is)
parted (y ∷ xs) x (suc k, lt, is) =
    let rest = parted xs x (k, omega (arith, lt), is) in
    (y ∷ rest.0, rest.1, ap (λ l. y ∷ l) rest.2)

-- another item stands beside it
beside : {X : Type 0} (a b : List X) (x y : X) → (x ≡ y → ⊥) → Contains (a ++ x ∷ b) y → Contains (a ++ b) y
beside [] b x y other (zero, lt, is) = absurd (other is)
beside [] b x y other (suc k, lt, is) = (k, omega (arith, lt), is)
beside (z ∷ a) b x y other (zero, lt, is) = (0, omega arith, is)
beside (z ∷ a) b x y other (suc k, lt, is) =
    let rest = beside a b x y other (k, omega (arith, lt), is) in
    (suc rest.0, omega (arith, rest.1), rest.2)

-- the rows without their positions
abbrev pub bare : List (ℕ × Row) → List Row
bare placed = map (λ (at : ℕ × Row). at.1) placed

module _ {T : Type 0} (F : List Row → T) (front : (a : List Row) (x : Row) (b : List Row) → F (a ++ x ∷ b) ≡ F (x ∷ (a ++ b))) (behind : (x : Row) (a b : List Row) → F a ≡ F b → F (x ∷ a) ≡ F (x ∷ b)) where
  blind_from : (first : ℕ) (placed : List (ℕ × Row)) (rows : List Row) → ((i : ℕ) (row : Row) → slice_get rows i ≡ Some row → Contains placed (first + i, row)) → length placed ≤ length rows → F (bare placed) ≡ F rows
  blind_from first [] [] covers few = refl
  blind_from first (at ∷ placed) [] covers few = absurd (omega (arith, few))
  blind_from first placed (row ∷ rows) covers few =
      let there = parted placed (first, row) (let at : first + 0 ≡ first = omega arith in subst (λ (n : ℕ). Contains placed (n, row)) at (covers 0 row refl)) in
      let a = there.0 in
      let b = there.1 in
      let split : bare placed ≡ bare a ++ row ∷ bare b = ap bare there.2 ∙ map-append (λ (at : ℕ × Row). at.1) a ((first, row) ∷ b) in
      let rest : F (bare (a ++ b)) ≡ F rows = blind_from (suc first) (a ++ b) rows (λ i next at. others a b there.2 i next (covers (suc i) next at)) (omega (arith, few, ap length there.2, length-append a ((first, row) ∷ b), length-append a b)) in
      ap F split ∙ front (bare a) row (bare b) ∙ ap (λ (l : List Row). F (row ∷ l)) (sym (map-append (λ (at : ℕ × Row). at.1) a b)) ∙ behind row (bare (a ++ b)) rows rest
    where
      others : (a b : List (ℕ × Row)) → placed ≡ a ++ (first, row) ∷ b → (i : ℕ) (next : Row) → Contains placed (first + suc i, next) → Contains (a ++ b) (suc first + i, next)
      others a b is i next has =
          let place : first + suc i ≡ suc first + i = omega arith in
          subst (λ (n : ℕ). Contains (a ++ b) (n, next)) place
          (beside a b (first, row) (first + suc i, next) (λ same. let at = ap (λ (p : ℕ × Row). p.0) same in absurd (omega (arith, at))) (subst (λ (l : List (ℕ × Row)). Contains l (first + suc i, next)) is has))

  pub blind : (placed : List (ℕ × Row)) (rows : List Row) → AreInOrder placed rows → F (bare placed) ≡ F rows
  blind placed rows are = blind_from 0 placed rows (λ i row at. let place : i ≡ 0 + i = omega arith in subst (λ (n : ℕ). Contains placed (n, row)) place (are.each i row at)) (omega (arith, are.as_many))

-- ---- numbers

module _ (F : List Row → ℕ) (append : (a b : List Row) → F (a ++ b) ≡ F a + F b) where
  pub sum_blind : (placed : List (ℕ × Row)) (rows : List Row) → AreInOrder placed rows → F (bare placed) ≡ F rows
  sum_blind = blind F
      (λ a x b. omega (arith, append a (x ∷ b), append (x ∷ []) b, append (x ∷ []) (a ++ b), append a b))
      (λ x a b same. omega (arith, append (x ∷ []) a, append (x ∷ []) b, same))

-- ---- times in their order

abbrev placed_time : List ℤ → ℤ → List ℤ
placed_time xs t = place_by int_lt xs t

abbrev all_placed : List ℤ → List ℤ → List ℤ
all_placed xs ys = fold (place_by int_lt) xs ys

module _ (a b : ℤ) where
  pair : (rest : List ℤ) → cond (int_lt b a) (b ∷ a ∷ rest) (a ∷ b ∷ rest) ≡ cond (int_lt a b) (a ∷ b ∷ rest) (b ∷ a ∷ rest)
  pair rest = by (int_lt b a) refl (int_lt a b) refl
    where
      by : (x : Bool) → int_lt b a ≡ x → (y : Bool) → int_lt a b ≡ y → cond x (b ∷ a ∷ rest) (a ∷ b ∷ rest) ≡ cond y (a ∷ b ∷ rest) (b ∷ a ∷ rest)
      by true p true q = let less = lt_true b a p in let more = lt_true a b q in absurd (omega (arith, ints, less, more))
      by true p false q = refl
      by false p true q = refl
      by false p false q =
          let up = lt_false b a p in
          let down = lt_false a b q in
          let same : a ≡ b = omega (arith, ints, up, down) in
          subst (λ (x : ℤ). a ∷ x ∷ rest ≡ x ∷ a ∷ rest) same refl

  swap : (xs : List ℤ) → placed_time (placed_time xs a) b ≡ placed_time (placed_time xs b) a
  swap [] = pair []
  swap (u ∷ xs) = by (int_lt a u) refl (int_lt b u) refl (swap xs)
    where
      by : (x : Bool) → int_lt a u ≡ x → (y : Bool) → int_lt b u ≡ y → placed_time (placed_time xs a) b ≡ placed_time (placed_time xs b) a →
          placed_time (cond x (a ∷ u ∷ xs) (u ∷ placed_time xs a)) b ≡ placed_time (cond y (b ∷ u ∷ xs) (u ∷ placed_time xs b)) a
      by true p true q later = rw (p, q) (pair (u ∷ xs))
      by true p false q later =
          let less = lt_true a u p in
          let more = lt_false b u q in
          let first : int_lt b a ≡ false = false_lt b a (omega (arith, ints, less, more)) in
          rw (p, q, first) refl
      by false p true q later =
          let more = lt_false a u p in
          let less = lt_true b u q in
          let first : int_lt a b ≡ false = false_lt a b (omega (arith, ints, less, more)) in
          rw (p, q, first) refl
      by false p false q later = rw (p, q) (ap (λ (l : List ℤ). u ∷ l) later)

first_placed : (t : ℤ) (xs ys : List ℤ) → all_placed (placed_time xs t) ys ≡ placed_time (all_placed xs ys) t
first_placed t xs [] = refl
first_placed t xs (u ∷ ys) = ap (λ (l : List ℤ). all_placed l ys) (swap t u xs) ∙ first_placed t (placed_time xs u) ys

-- a time first, or behind others
pub order_first : (t : ℤ) (ys : List ℤ) → order_by int_lt (t ∷ ys) ≡ placed_time (order_by int_lt ys) t
order_first t ys = first_placed t [] ys

pub order_between : (xs : List ℤ) (t : ℤ) (ys : List ℤ) → order_by int_lt (xs ++ t ∷ ys) ≡ placed_time (order_by int_lt (xs ++ ys)) t
order_between xs t ys =
    fold-append (place_by int_lt) [] xs (t ∷ ys)
    ∙ first_placed t (order_by int_lt xs) ys
    ∙ ap (λ (l : List ℤ). placed_time l t) (sym (fold-append (place_by int_lt) [] xs ys))

module _ (G : List Row → List ℤ) (append : (a b : List Row) → G (a ++ b) ≡ G a ++ G b) (few : (x : Row) → length (G (x ∷ [])) ≤ 1) where
  -- one time or none in front
  in_front : (x : Row) (a : List Row) → G (x ∷ a) ≡ G (x ∷ []) ++ G a
  in_front x a = append (x ∷ []) a

  order_front : (own others : List ℤ) (xs ys : List ℤ) → length own ≤ 1 → order_by int_lt (xs ++ (own ++ ys)) ≡ order_by int_lt (own ++ (xs ++ ys))
  order_front [] others xs ys one = refl
  order_front (t ∷ []) others xs ys one = order_between xs t ys ∙ sym (order_first t (xs ++ ys))
  order_front (t ∷ u ∷ more) others xs ys one = absurd (omega (arith, one))

  order_behind : (own xs ys : List ℤ) → length own ≤ 1 → order_by int_lt xs ≡ order_by int_lt ys → order_by int_lt (own ++ xs) ≡ order_by int_lt (own ++ ys)
  order_behind [] xs ys one same = same
  order_behind (t ∷ []) xs ys one same = order_first t xs ∙ ap (λ (l : List ℤ). placed_time l t) same ∙ sym (order_first t ys)
  order_behind (t ∷ u ∷ more) xs ys one same = absurd (omega (arith, one))

  pub order_blind : (placed : List (ℕ × Row)) (rows : List Row) → AreInOrder placed rows → order_by int_lt (G (bare placed)) ≡ order_by int_lt (G rows)
  order_blind = blind (λ rows. order_by int_lt (G rows))
      (λ a x b.
      ap (order_by int_lt) (append a (x ∷ b) ∙ ap (λ (l : List ℤ). G a ++ l) (in_front x b))
      ∙ order_front (G (x ∷ [])) [] (G a) (G b) (few x)
      ∙ ap (order_by int_lt) (sym (in_front x (a ++ b) ∙ ap (λ (l : List ℤ). G (x ∷ []) ++ l) (append a b))))
      (λ x a b same. ap (order_by int_lt) (in_front x a) ∙ order_behind (G (x ∷ [])) (G a) (G b) (few x) same ∙ ap (order_by int_lt) (sym (in_front x b)))

-- ---- the sums

-- how many rows of a table stand in a partition
abbrev pub rows_in_partition : ℕ → Partition → List Row → ℕ
rows_in_partition table p rows = times_in p (partitions_of (filter (is_in_table table) rows))

pub in_partition-append : (table : ℕ) (p : Partition) (a b : List Row) → rows_in_partition table p (a ++ b) ≡ rows_in_partition table p a + rows_in_partition table p b
in_partition-append table p a b =
    let own = λ (l : List Row). filter (is_in_table table) l in
    let test = λ (other : Partition). is_eq (partition_cmp other p) in
    ap (λ (l : List Row). times_in p (partitions_of l)) (filter-append (is_in_table table) a b)
    ∙ ap (λ (l : List Partition). times_in p l) (map-append (λ (r : Row). partition_of r.key.time r.pname) (own a) (own b))
    ∙ ap length (filter-append test (partitions_of (own a)) (partitions_of (own b)))
    ∙ length-append (filter test (partitions_of (own a))) (filter test (partitions_of (own b)))

-- the times of a packet name among the rows of a table
abbrev pub times_in_table : ℕ → ℕ → List Row → List ℤ
times_in_table table pname rows = times_of pname (named_times_of (filter (is_in_table table) rows))

pub in_table-append : (table pname : ℕ) (a b : List Row) → times_in_table table pname (a ++ b) ≡ times_in_table table pname a ++ times_in_table table pname b
in_table-append table pname a b =
    let own = λ (l : List Row). filter (is_in_table table) l in
    ap (λ (l : List Row). times_of pname (named_times_of l)) (filter-append (is_in_table table) a b)
    ∙ ap (times_of pname) (map-append (λ (r : Row). let at : NamedTime = record { pname = r.pname; time = r.key.time } in at) (own a) (own b))
    ∙ times_of-append pname (named_times_of (own a)) (named_times_of (own b))

pub one_time : (table pname : ℕ) (row : Row) → length (times_in_table table pname (row ∷ [])) ≤ 1
one_time table pname row = by (table == row.table) (row.pname == pname)
  where
    by : (b d : Bool) → length (map (λ (at : NamedTime). at.time) (filter (λ (at : NamedTime). at.pname == pname) (map (λ (r : Row). let at : NamedTime = record { pname = r.pname; time = r.key.time } in at) (cond b (row ∷ []) [])))) ≤ 1
    by true d = own (row.pname == pname)
      where
        own : (d : Bool) → length (map (λ (at : NamedTime). at.time) (cond d ((let at : NamedTime = record { pname = row.pname; time = row.key.time } in at) ∷ []) [])) ≤ 1
        own true = omega arith
        own false = omega arith
    by false d = omega arith

pub placed_sums : PlacedSumsAreSums
placed_sums placed rows sums order are = record {
  count = are.count ∙ sum_blind length (λ a b. length-append a b) placed rows order;
  octets = are.octets ∙ sum_blind octets_of octets-append placed rows order;
  intervals = λ i. are.intervals i ∙ sum_blind (interval_rows sums.exponent i) (interval_rows-append sums.exponent i) placed rows order;
  tables = λ table those at.
      let was = are.tables table those at in
      record {
        partitions = λ p. was.partitions p ∙ sum_blind (rows_in_partition table p) (in_partition-append table p) placed rows order;
        spans = λ pname. was.spans pname ∙ ap histogram_of (order_blind (times_in_table table pname) (in_table-append table pname) (one_time table pname) placed rows order);
      };
}
