use Rattle.std.proofs.Common.{ℕ, nat_eq, sym, ◌∙◌, ap}
use Rattle.std.specs.Prelude.{List}
use Rattle.std.specs.List.{list_any}
use Rattle.std.proofs.lemmas.List.Sorted.{IsNonDecreasingBy-from_sort, list_any-IsPermutation}
use Rattle.replay_merge.proofs.listed_names.ListedNames.of.Goals as goal

pub invariant_of-result : goal.invariant_of-result
invariant_of-result c = IsNonDecreasingBy-from_sort (λ (x : ℕ). x) c.sort_unstable.new.self.items c.sort_unstable.ensures.sorted

pub returns : goal.returns
returns c = λ pname.
    sym (list_any-IsPermutation (nat_eq pname) c.into_vec-items.result.items c.sort_unstable.new.self.items c.sort_unstable.ensures.permutation)
    ∙ ap (λ (l : List ℕ). list_any (nat_eq pname) l) c.into_vec-items.ensures
