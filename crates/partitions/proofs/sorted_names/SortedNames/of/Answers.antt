use Rattle.std.proofs.Common.{ℕ, nat_eq, sym, ◌∙◌, ap}
use Rattle.std.specs.Prelude.{List}
use Rattle.std.specs.List.{list_any}
use Rattle.std.proofs.lemmas.List.Sorted.{IsNonDecreasingBy-from_sort, list_any-IsPermutation}
use Rattle.partitions.proofs.sorted_names.SortedNames.of.Goals as goal

pub invariant_of-result : goal.invariant_of-result
invariant_of-result c = IsNonDecreasingBy-from_sort (λ (x : ℕ). x) c.sort_unstable.new.self.items c.sort_unstable.ensures.sorted

pub returns : goal.returns
returns c = λ p.
    sym (list_any-IsPermutation (nat_eq p) c.in_ok-items.items.items c.sort_unstable.new.self.items c.sort_unstable.ensures.permutation)
    ∙ ap (λ (l : List ℕ). list_any (nat_eq p) l) c.in_ok-items.ensures.items
