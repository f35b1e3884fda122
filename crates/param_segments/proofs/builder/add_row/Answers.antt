use Rattle.std.proofs.Common.{◌≡◌, ◌∙◌, ◌<◌, ℕ, Some, None, [], length, map, sym, ap, subst}
use Rattle.std.specs.Prelude.{nat_eq}
use Rattle.std.specs.List.{position}
use lib.Pointwise.{pointwise}
use Rattle.std.proofs.lemmas.List.Quantifiers.{position-Some}
use Rattle.std.proofs.lemmas.Result.{on_err_weaker, on_ok_weaker}
use Rattle.param_segments.specs.GroupContents.{AreContents, group_contents}
use Rattle.param_segments.specs.Rows.{row_parameters, set_row}
use Rattle.param_segments.proofs.Places.{all_at, contents_stay, length-parameters, none_place, numbers_more, parameters_stay, same_parameters, some_place}
use Rattle.param_segments.proofs.builder.add_row.Goals as goal

pub add-requires : goal.add-requires
add-requires c =
    let groups = c.args.groups.now.items in
    let ps = map (λ v. v.parameter) c.args.values.now in
    let found : position (pointwise nat_eq ps) (map (λ g. g.parameters.items) groups) ≡ Some c.in-Some.number = ap (position (pointwise nat_eq ps)) (sym c.requires.numbered) ∙ sym c.in_ok-number_of.ensures.number ∙ c.in-Some.is in
    let lt : c.in-Some.number < length groups = subst (λ (n : ℕ). c.in-Some.number < n) (length-parameters groups) (position-Some (pointwise nat_eq ps) (map (λ g. g.parameters.items) groups) c.in-Some.number [] found).0 in
    all_at AreContents group_contents groups c.in-Some.number c.index_mut.result.now c.requires.contents lt c.index_mut.ensures.value

pub returns-in-None-clause-added : goal.returns-in-None-clause-added
returns-in-None-clause-added c =
    let groups = c.args.groups.now.items in
    let t = set_row c.args.key c.args.values.now in
    let found : position (pointwise nat_eq (row_parameters t)) (map (λ g. g.parameters.items) groups) ≡ None = ap (position (pointwise nat_eq (row_parameters t))) (sym c.requires.numbered) ∙ sym c.in_ok-number_of.ensures.number ∙ c.in-None.is in
    on_ok_weaker c.add_group.result (λ d. none_place groups c.add_group.new.groups.items t found d) c.add_group.ensures.groups

pub returns-in-None-clause-numbered : goal.returns-in-None-clause-numbered
returns-in-None-clause-numbered c =
    let t = set_row c.args.key c.args.values.now in
    numbers_more c.add_group.result c.args.groups.now.items c.add_group.new.groups.items c.args.numbers.now c.add_group.new.numbers c.deref-in-None.result.now t c.requires.numbered
    (c.deref-in-None.ensures.value ∙ c.in_ok-number_of.ensures.parameters c.in-None.is) c.add_group.ensures.groups c.add_group.ensures.numbers c.add_group.ensures.kept

pub returns-in-Some-clause-added : goal.returns-in-Some-clause-added
returns-in-Some-clause-added c =
    let groups = c.args.groups.now.items in
    let t = set_row c.args.key c.args.values.now in
    let ps = map (λ v. v.parameter) c.args.values.now in
    let found : position (pointwise nat_eq ps) (map (λ g. g.parameters.items) groups) ≡ Some c.in-Some.number = ap (position (pointwise nat_eq ps)) (sym c.requires.numbered) ∙ sym c.in_ok-number_of.ensures.number ∙ c.in-Some.is in
    let lt : c.in-Some.number < length groups = subst (λ (n : ℕ). c.in-Some.number < n) (length-parameters groups) (position-Some (pointwise nat_eq ps) (map (λ g. g.parameters.items) groups) c.in-Some.number [] found).0 in
    on_ok_weaker c.add.result (λ d. some_place groups t c.in-Some.number c.index_mut.result.now c.add.new.self found lt c.index_mut.ensures.value d) c.add.ensures.added

pub returns-in-Some-clause-kept : goal.returns-in-Some-clause-kept
returns-in-Some-clause-kept c =
    let groups = c.args.groups.now.items in
    let ps = map (λ v. v.parameter) c.args.values.now in
    let found : position (pointwise nat_eq ps) (map (λ g. g.parameters.items) groups) ≡ Some c.in-Some.number = ap (position (pointwise nat_eq ps)) (sym c.requires.numbered) ∙ sym c.in_ok-number_of.ensures.number ∙ c.in-Some.is in
    let lt : c.in-Some.number < length groups = subst (λ (n : ℕ). c.in-Some.number < n) (length-parameters groups) (position-Some (pointwise nat_eq ps) (map (λ g. g.parameters.items) groups) c.in-Some.number [] found).0 in
    on_err_weaker c.add.result (λ d. contents_stay groups c.in-Some.number c.index_mut.result.now c.add.new.self lt c.index_mut.ensures.value d) c.add.ensures.kept

pub returns-in-Some-clause-numbered : goal.returns-in-Some-clause-numbered
returns-in-Some-clause-numbered c =
    let groups = c.args.groups.now.items in
    let ps = map (λ v. v.parameter) c.args.values.now in
    let found : position (pointwise nat_eq ps) (map (λ g. g.parameters.items) groups) ≡ Some c.in-Some.number = ap (position (pointwise nat_eq ps)) (sym c.requires.numbered) ∙ sym c.in_ok-number_of.ensures.number ∙ c.in-Some.is in
    let lt : c.in-Some.number < length groups = subst (λ (n : ℕ). c.in-Some.number < n) (length-parameters groups) (position-Some (pointwise nat_eq ps) (map (λ g. g.parameters.items) groups) c.in-Some.number [] found).0 in
    let same = same_parameters c.add.result c.index_mut.result.now c.add.new.self c.args.key (map (λ v. v.raw) c.args.values.now) c.add.ensures.added c.add.ensures.kept in
    c.requires.numbered ∙ sym (parameters_stay groups c.in-Some.number c.index_mut.result.now c.add.new.self lt c.index_mut.ensures.value same)
