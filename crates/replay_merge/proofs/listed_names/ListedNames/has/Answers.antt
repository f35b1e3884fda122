use Rattle.std.proofs.Common.{◌∙◌, ap, nat_eq, ℕ}
use Rattle.std.specs.Prelude.{List}
use Rattle.std.specs.List.{list_any}
use Rattle.replay_merge.proofs.LookUps.{looked}
use Rattle.replay_merge.proofs.listed_names.ListedNames.has.Goals as goal

pub returns : goal.returns
returns c =
    let items = c.self.inside.items.items in
    c.is_ok.ensures.value ∙ looked items c.args.pname c.binary_search.result (rw c.deref.ensures.value at c.binary_search.ensures.position) c.self.invariant
    ∙ ap (λ (l : List ℕ). list_any (nat_eq c.args.pname) l) c.self.view_is
