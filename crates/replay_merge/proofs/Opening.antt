-- Cursors at their opening, and at their end.
use Rattle.std.proofs.Common.{◌≡◌, inl, inr, ◌↔◌, ℕ, List, [], ◌∷◌, ◌++◌, Option, Some, None, Bool, true, false, cond, ◌<◌, refl, sym, ap, ◌∙◌, subst, arith}
use Rattle.std.specs.Prelude.{filter, Contains, ◌&&◌, ◌==◌, nat_lt}
use Rattle.std.specs.List.{AllByRecursion}
use Rattle.std.specs.List.Sorted.{IsPermutation, IsSorted}
use Rattle.std.specs.List.Retain.{IsFiltered, DiffersFromLast}
use Rattle.std.specs.Ordering.{eq_by_cmp, int_eq, int_cmp, nat_cmp, is_eq, ordering_then}
use Rattle.std.specs.declared.cmp.Ordering.{Ordering}
use Rattle.std.specs.declared.cmp.Ordering.TheVariants.{Less, Equal, Greater}
use Rattle.std.proofs.lemmas.Bool.Decides.{nat_tests}
use Rattle.std.specs.Cmp.{IsEquivalence, eq_by_cmp_equiv}
use Rattle.std.proofs.lemmas.List.{take_all}
use Rattle.std.proofs.lemmas.List.Elements.{filter_agree}
use Rattle.std.proofs.lemmas.List.Filters.{dedup_is}
use Rattle.std.proofs.lemmas.List.Folds.{Any-from_list_any, list_any-from_Any}
use Rattle.std.proofs.lemmas.List.Kept.{IsStrictlySortedBy-dedup, Contains-dedup, Contains-from_dedup}
use Rattle.std.proofs.lemmas.List.Sorted.{Contains-permutation, IsPermutation-sym}
use Rattle.arch_types.specs.declared.row.Row.{Row}
use Rattle.asks.specs.declared.ask.ReplayRequest.{ReplayRequest}
use Rattle.arch_types.specs.Table.{range_of}
use Rattle.arch_types.specs.Directions.{truncated}
use Rattle.partitions.specs.declared.partition.Partition.{Partition}
use Rattle.partitions.specs.Partition.{partition_cmp}
use Rattle.partitions.specs.Partitions.{AreRising}
use Rattle.partitions.specs.Rows.{is_of_partition, is_of_parts}
use Rattle.partitions.proofs.Order.{partition_cmp_total, exact_partitions}
use Rattle.partitions.proofs.Parted.{equal_by}
use Rattle.replay_merge.specs.Replay.{has_listed_name, rows_asked, HoldsEachRow}
use Rattle.replay_merge.specs.Cursor.{CursorView, rest_of, IsAtEnd, IsCursorOf}
use Rattle.replay_merge.proofs.Tied.{none_in_parts}
use Rattle.replay_merge.proofs.Reading.{all_pass}

-- ---- partitions in order, each once

numbers_alike : (m n : ℕ) (b c : Bool) → nat_lt m n ≡ b → (m == n) ≡ c → c ≡ is_eq (cond b Less (cond c Equal Greater))
numbers_alike m n true true less same = let lt : m < n = grind (arith, nat_tests) in let eq : m ≡ n = grind (arith, nat_tests) in absurd (omega arith)
numbers_alike m n true false less same = refl
numbers_alike m n false true less same = refl
numbers_alike m n false false less same = refl

days_alike : (r : Ordering) (m n : ℕ) → (is_eq r && (m == n)) ≡ is_eq (ordering_then r (nat_cmp m n))
days_alike Less m n = refl
days_alike Equal m n = numbers_alike m n (nat_lt m n) (m == n) refl refl
days_alike Greater m n = refl

-- whether two partitions are the same, as code asks it
abbrev pub are_same : Partition → Partition → Bool
are_same a b = int_eq a.day b.day && (a.pname == b.pname)

pub same_by_order : (a b : Partition) → are_same a b ≡ eq_by_cmp partition_cmp a b
same_by_order a b = days_alike (int_cmp a.day b.day) a.pname b.pname

module _ (E : Partition → Partition → Bool) (tests : (a b : Partition) → E a b ≡ eq_by_cmp partition_cmp a b) (given sorted left : List Partition) (same : IsPermutation given sorted) (in_order : IsSorted partition_cmp sorted)
    (once : IsFiltered (DiffersFromLast E) [] sorted left) where
  pub once_rising : AreRising left
  once_rising = subst AreRising (sym (dedup_is E sorted left once)) (IsStrictlySortedBy-dedup partition_cmp_total tests sorted in_order)

  equal : (a b : Partition) → E a b ≡ true → a ≡ b
  equal a b e = exact_partitions a b (equal_by _ (sym (tests a b) ∙ e))

  alike : IsEquivalence E
  alike = record {
    refl = λ a. tests a a ∙ (eq_by_cmp_equiv partition_cmp_total).refl a;
    symm = λ a b. tests a b ∙ (eq_by_cmp_equiv partition_cmp_total).symm a b ∙ sym (tests b a);
    congr = λ a b d e. tests a d ∙ (eq_by_cmp_equiv partition_cmp_total).congr a b d (sym (tests a b) ∙ e) ∙ sym (tests b d);
  }

  pub once_same : (partition : Partition) → Contains left partition ↔ Contains given partition
  once_same partition = (to, from)
    where
      to : Contains left partition → Contains given partition
      to is = Contains-permutation sorted given partition (IsPermutation-sym given sorted same) (Contains-from_dedup E sorted partition (subst (λ (l : List Partition). Contains l partition) (dedup_is E sorted left once) is))

      from : Contains given partition → Contains left partition
      from is = subst (λ (l : List Partition). Contains l partition) (sym (dedup_is E sorted left once)) (Contains-dedup alike equal sorted partition (Contains-permutation given sorted partition same is))

-- ---- what is left at the opening

there : (given parts : List Partition) → ((partition : Partition) → Contains parts partition ↔ Contains given partition) → (row : Row) → is_of_parts given row ≡ true → is_of_parts parts row ≡ true
there given parts same row is =
    let any = Any-from_list_any (λ partition. is_of_partition partition row) given is in
    let at = (same any.1).1 (any.0, any.2, any.3) in
    list_any-from_Any (λ partition. is_of_partition partition row) parts (at.0, any.1, at.1, at.2, any.4)

all_there : (given parts : List Partition) → ((partition : Partition) → Contains parts partition ↔ Contains given partition) → (rows : List Row) → HoldsEachRow given rows → AllByRecursion (λ row. is_of_parts parts row ≡ true) rows
all_there given parts same [] all = tt
all_there given parts same (row ∷ rows) all = (there given parts same row all.0, all_there given parts same rows all.1)

-- a cursor that was just opened, over all partitions that it needs, has the replay before it
pub opened_is_replay : (request : ReplayRequest) (table front : ℕ) (parts : List Partition) (names : Option (List ℕ)) (c : CursorView) → IsCursorOf request table front parts names c → (history : ℕ → List Row) →
    HoldsEachRow parts (rows_asked table request.from request.to names (history front)) →
    rest_of c history ≡ truncated request.limit (rows_asked table request.from request.to names (history front))
opened_is_replay request table front parts names c is history hold =
    let range = range_of table request.from request.to (history front) in
    let asked : rows_asked c.table c.from c.to c.names (history c.front) ≡ rows_asked table request.from request.to names (history front) =
    rw (is.of_table, is.at_front, is.starts, is.ends) (filter_agree (has_listed_name c.names) (has_listed_name names) (λ row. is.listed row.pname) range) in
    let held = all_pass (is_of_parts c.parts) (rows_asked table request.from request.to names (history front)) (all_there parts c.parts is.same_parts _ hold) in
    ap (λ (w : List Row). truncated c.left (w ++ filter (is_of_parts c.parts) (rows_asked c.table c.from c.to c.names (history c.front)))) is.unread
    ∙ ap (λ (w : List Row). truncated c.left (filter (is_of_parts c.parts) w)) asked
    ∙ ap (truncated c.left) held
    ∙ ap (λ (l : Option ℕ). truncated l (rows_asked table request.from request.to names (history front))) is.limit

-- ---- the end

truncated_none : (left : Option ℕ) → truncated {X = Row} left [] ≡ []
truncated_none None = refl
truncated_none (Some n) = take_all n [] (omega arith)

pub end_no_rest : (c : CursorView) (history : ℕ → List Row) → IsAtEnd c → rest_of c history ≡ []
end_no_rest c history (inl zero) = rw zero refl
end_no_rest c history (inr (ahead, parts)) =
    let asked = rows_asked c.table c.from c.to c.names (history c.front) in
    let none : filter (is_of_parts c.parts) asked ≡ [] = rw parts (none_in_parts [] asked refl) in
    ap (λ (w : List Row). truncated c.left (w ++ filter (is_of_parts c.parts) asked)) ahead ∙ ap (truncated c.left) none ∙ truncated_none c.left

-- ---- the front

pub rest_at_front : (c : CursorView) (one other : ℕ → List Row) → one c.front ≡ other c.front → rest_of c one ≡ rest_of c other
rest_at_front c one other same = ap (λ (rows : List Row). truncated c.left (c.ahead ++ filter (is_of_parts c.parts) (rows_asked c.table c.from c.to c.names rows))) same
