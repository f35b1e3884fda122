-- A row more in the indexes of partitions.
use Rattle.std.proofs.Common.{◌≡◌, ◌⊎◌, ◌↔◌, inl, inr, ℕ, List, [], ◌∷◌, ◌++◌, length, Bool, cond, Option, Some, None, sym, ◌∙◌, ap, subst, refl}
use Rattle.std.specs.Prelude.{Contains, IsSome, IfNone}
use Rattle.std.specs.Map.{lookup, keys_of}
use Rattle.std.specs.BTreeMap.{is_at, insert_entry}
use Rattle.std.specs.Cmp.{eq_by_cmp_equiv}
use Rattle.std.specs.Ordering.{is_eq}
use Rattle.std.proofs.lemmas.List.Elements.{Contains-append_left, Contains-push, Contains-push_cases}
use Rattle.block_map.specs.Index.{Listing}
use Rattle.block_map.specs.Rising.{IsRising}
use Rattle.block_map.proofs.KeyedLists.{lookup-insert_entry}
use Rattle.partitions.specs.declared.partition.Partition.{Partition}
use Rattle.partitions.specs.declared.name_day.NameDay.{NameDay}
use Rattle.partitions.specs.Partition.{partition_cmp}
use Rattle.partitions.specs.NameDay.{name_day_cmp, name_day}
use Rattle.partitions.specs.Places.{last_place_below}
use Rattle.partitions.specs.Partitions.{AreIndexed}
use Rattle.partitions.proofs.Order.{partition_cmp_total, exact_partitions}
use Rattle.partitions.proofs.NamedOrder.{named_cmp_total, exact_named}
use Rattle.partitions.proofs.LastPlaces.{last_push, last_is, contained, some_contained, contained_some}
use Rattle.partitions.proofs.Members.{found, looked_up, in_new, from_old, named_once}

-- what is said where a look-up finds none
pub at_none : {V : Type 0} (r : Option V) (P : Type 0) → r ≡ None → IfNone r P → P
at_none None P e h = h
at_none (Some v) P e h = cc

module _ (by_day : Listing Partition ℕ) (by_name : Listing NameDay Unit) (noted : List Partition) (are : AreIndexed by_day by_name noted) where
  -- the first index has the partitions that hold a row
  pub day_keys : (p : Partition) → Contains (keys_of by_day.entries) p ↔ Contains noted p
  day_keys p = (
    λ is. some_contained p noted (subst IsSome (are.last p) (looked_up partition_cmp_total exact_partitions p by_day.entries is)),
    λ is. found partition_cmp_total exact_partitions p by_day.entries (subst IsSome (sym (are.last p)) (contained_some p noted is)),
  )

  module _ (partition : Partition) (place : ℕ) (at : place ≡ length noted) where
    -- the place is the last of its partition
    last_more : (p : Partition) → lookup (is_at (partition_cmp p)) (insert_entry partition_cmp by_day.entries partition place) ≡ last_place_below (length (noted ++ partition ∷ [])) p (noted ++ partition ∷ [])
    last_more p =
        lookup-insert_entry partition_cmp_total p partition place by_day.entries
        ∙ ap (λ (b : Bool). cond b (Some place) (lookup (is_at (partition_cmp p)) by_day.entries)) ((eq_by_cmp_equiv partition_cmp_total).symm partition p)
        ∙ ap (λ (o : Option ℕ). cond (is_eq (partition_cmp p partition)) (Some place) o) (are.last p)
        ∙ ap (λ (k : ℕ). cond (is_eq (partition_cmp p partition)) (Some k) (last_place_below (length noted) p noted)) at
        ∙ sym (last_push p partition noted)

    -- a row of a partition that holds one
    pub indexed_known : (new_day : Listing Partition ℕ) (before : ℕ) → Some before ≡ lookup (is_at (partition_cmp partition)) by_day.entries →
        new_day.entries ≡ insert_entry partition_cmp by_day.entries partition place → IsRising partition_cmp new_day.entries → AreIndexed new_day by_name (noted ++ partition ∷ [])
    indexed_known new_day before was put rises = record {
      by_day_rises = rises;
      by_name_rises = are.by_name_rises;
      last = λ p. (ap (lookup (is_at (partition_cmp p))) put ∙ last_more p);
      names = λ p. (λ is. Contains-append_left noted (partition ∷ []) p ((are.names p).0 is), λ is. from p (Contains-push_cases noted partition p is));
    }
      where
        there : Contains noted partition
        there = contained partition noted before (last_is (length noted) partition noted before (sym (was ∙ are.last partition))).1

        from : (p : Partition) → Contains noted p ⊎ (partition ≡ p) → Contains (keys_of by_name.entries) (name_day p)
        from p (inl before) = (are.names p).1 before
        from p (inr one) = (are.names p).1 (subst (Contains noted) one there)

    -- the partition holds no row yet
    module _ (none : None ≡ lookup (is_at (partition_cmp partition)) by_day.entries) where
      absent : Contains noted partition → ⊥
      absent is = let some : IsSome (lookup (is_at (partition_cmp partition)) by_day.entries) = subst IsSome (sym (are.last partition)) (contained_some partition noted is) in cc

      -- and isn't among the names
      pub name_absent : (s : Option Unit) → s ≡ lookup (is_at (name_day_cmp (name_day partition))) by_name.entries → s ≡ None
      name_absent None is = refl
      name_absent (Some v) is = absurd (absent ((are.names partition).0 (found named_cmp_total exact_named (name_day partition) by_name.entries (rw (← is) refl))))

      pub indexed_new : (new_day : Listing Partition ℕ) (new_name : Listing NameDay Unit) → new_day.entries ≡ insert_entry partition_cmp by_day.entries partition place →
          IsRising partition_cmp new_day.entries → new_name.entries ≡ insert_entry name_day_cmp by_name.entries (name_day partition) tt → IsRising name_day_cmp new_name.entries →
          AreIndexed new_day new_name (noted ++ partition ∷ [])
      indexed_new new_day new_name put day_rises put_name name_rises = record {
        by_day_rises = day_rises;
        by_name_rises = name_rises;
        last = λ p. (ap (lookup (is_at (partition_cmp p))) put ∙ last_more p);
        names = rw put_name (λ p. (λ is. to p (in_new named_cmp_total exact_named (name_day partition) by_name.entries (name_day p) is), λ is. from_old named_cmp_total exact_named (name_day partition) by_name.entries (name_day p) (from p (Contains-push_cases noted partition p is))));
      }
        where
          to : (p : Partition) → Contains (keys_of by_name.entries) (name_day p) ⊎ (name_day p ≡ name_day partition) → Contains (noted ++ partition ∷ []) p
          to p (inl was) = Contains-append_left noted (partition ∷ []) p ((are.names p).0 was)
          to p (inr one) = subst (Contains (noted ++ partition ∷ [])) (sym (named_once p partition one)) (Contains-push noted partition)

          from : (p : Partition) → Contains noted p ⊎ (partition ≡ p) → Contains (keys_of by_name.entries) (name_day p) ⊎ (name_day p ≡ name_day partition)
          from p (inl was) = inl ((are.names p).1 was)
          from p (inr one) = inr (ap name_day (sym one))

-- ---- more room

pub roomier : (old_day new_day : Listing Partition ℕ) (old_name new_name : Listing NameDay Unit) (noted : List Partition) → AreIndexed old_day old_name noted →
    new_day.entries ≡ old_day.entries → new_name.entries ≡ old_name.entries → AreIndexed new_day new_name noted
roomier old_day new_day old_name new_name noted are day name = record {
  by_day_rises = rw day are.by_day_rises;
  by_name_rises = rw name are.by_name_rises;
  last = rw day are.last;
  names = rw name are.names;
}
