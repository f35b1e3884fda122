use Rattle.std.proofs.Common.{◌≡◌, ◌∙◌, ◌<◌, ℕ, List, [], get_or, length, map, true, sym, ap, subst}
use Rattle.std.specs.Prelude.{nat_eq}
use lib.Pointwise.{pointwise}
use Rattle.param_segments.specs.declared.group.Group.{Group}
use Rattle.param_segments.proofs.Places.{found_place, length-parameters, parameters_at}
use Rattle.param_segments.proofs.builder.number_of.Goals as goal

pub returns-then-are_parameters_of-clause-number : goal.returns-then-are_parameters_of-clause-number
returns-then-are_parameters_of-clause-number c =
    let groups = c.args.groups.now in
    let numbers = c.args.numbers.now in
    let guess = c.args.guess in
    let ps = map (λ v. v.parameter) c.args.values.now in
    let lt : guess < length numbers = subst (λ (n : ℕ). guess < n) (sym (ap length c.requires.numbered ∙ length-parameters groups)) c.if-guess-groups.true in
    let own : pointwise nat_eq ps (get_or numbers guess []) ≡ true =
    ap (λ (ns : List (List ℕ)). pointwise nat_eq ps (get_or ns guess [])) c.requires.numbered
    ∙ ap (pointwise nat_eq ps) (parameters_at groups guess c.index-groups-guess.result c.if-guess-groups.true c.index-groups-guess.is ∙ ap (λ (g : Group). g.parameters.items) c.index-groups-guess.is ∙ sym c.deref.ensures.value)
    ∙ sym c.are_parameters_of.ensures ∙ c.if-are_parameters_of.true in
    sym (found_place ps numbers guess c.requires.distinct lt own)
