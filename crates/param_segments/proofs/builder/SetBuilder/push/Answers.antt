use Rattle.std.proofs.Common.{◌∙◌, ◌++◌, ◌∷◌, [], List, ap, sym, subst}
use Rattle.std.proofs.lemmas.Result.{on_ok_weaker, on_err_weaker}
use Rattle.param_segments.specs.Rows.{AreSetRows, SetRow, set_row}
use Rattle.param_segments.proofs.Contents.{contents_kept, numbers_distinct, push_adds, push_keeps, push_leaves}
use Rattle.param_segments.proofs.builder.SetBuilder.push.Goals as goal

pub add_row-requires : goal.add_row-requires
add_row-requires c = record {
  numbered = c.self.invariant.numbered;
  distinct = numbers_distinct c.self.inside.numbers c.self.inside.groups.items c.self.invariant;
  contents = contents_kept c.self.inside.numbers c.self.inside.groups.items c.self.invariant;
}

pub invariant_of-self : goal.invariant_of-self
invariant_of-self c =
    let t = set_row c.args.key c.args.values.now in
    push_keeps c.add_row.result c.self.inside.numbers c.add_row.new.numbers c.self.inside.groups.items c.add_row.new.groups.items t c.self.invariant
    (subst (λ (rows : List SetRow). AreSetRows (rows ++ t ∷ [])) (sym c.self.view_is) c.requires) c.add_row.ensures.added c.add_row.ensures.kept c.add_row.ensures.numbered

pub returns : goal.returns
returns c =
    let t = set_row c.args.key c.args.values.now in
    record {
      added = on_ok_weaker c.add_row.result (λ e. e ∙ ap (λ (rows : List SetRow). rows ++ t ∷ []) c.self.view_is)
          (push_adds c.add_row.result c.self.inside.numbers c.self.inside.groups.items c.add_row.new.groups.items t c.self.invariant (subst (λ (rows : List SetRow). AreSetRows (rows ++ t ∷ [])) (sym c.self.view_is) c.requires) c.add_row.ensures.added);
      kept = on_err_weaker c.add_row.result (λ e. e ∙ c.self.view_is) (push_leaves c.add_row.result c.self.inside.groups.items c.add_row.new.groups.items c.add_row.ensures.kept);
    }
