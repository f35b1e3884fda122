use Rattle.std.proofs.Common.{◌≡◌, ◌⊎◌, ◌++◌, ◌∙◌, ap, subst}
use Rattle.std.specs.Prelude.{List, Contains, ◌↔◌}
use Rattle.partitions.specs.declared.partition.Partition.{Partition}
use Rattle.partitions.proofs.Once.{in_either}
use Rattle.partitions.proofs.lists.merged_parts.Goals as goal

pub returns-clause-both : goal.returns-clause-both
returns-clause-both c = λ p.
    let either = in_either c.args.first c.args.second p in
    let items : c.from_vec.result ≡ c.args.first ++ c.args.second =
    c.from_vec.ensures ∙ c.in_ok-append.ensures.items ∙ ap (λ (l : List Partition). l ++ c.into_vec-more.result.items) c.into_vec-parts.ensures ∙ ap (λ (l : List Partition). c.args.first ++ l) c.into_vec-more.ensures
    in
    let once = subst (λ (l : List Partition). Contains c.rising_once.result p ↔ Contains l p) items (c.rising_once.ensures.same p) in
    (λ has. either.0 (once.0 has), λ has. once.1 (either.1 has))
