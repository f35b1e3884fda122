use Rattle.std.proofs.Common.{◌≡◌, List, sym, ap, ◌∙◌, subst}
use Rattle.std.specs.List.{Any, Contains, dedup}
use Rattle.arch_types.specs.declared.row.Row.{Row}
use Rattle.joined_rows.specs.Rising.{HaveRisingKeys, has_key_of}
use Rattle.joined_rows.proofs.Deduped.{each_key, no_others, rises}
use Rattle.joined_rows.proofs.rising.rising_by_key.Goals as goal

pub returns-clause-rising : goal.returns-clause-rising
returns-clause-rising c =
    let is = c.drop_repeated_keys.ensures ∙ ap (dedup has_key_of) c.into_vec-rising.ensures in
    let sorted = c.in_ok-merged_by_key.ensures in
    subst HaveRisingKeys (sym c.from_vec.ensures) (rises c.args.rows.items c.in_ok-merged_by_key.field-0 c.drop_repeated_keys.new.rows.items sorted.same sorted.sorted is)

pub returns-clause-no_others : goal.returns-clause-no_others
returns-clause-no_others c = λ row has.
    let is = c.drop_repeated_keys.ensures ∙ ap (dedup has_key_of) c.into_vec-rising.ensures in
    let sorted = c.in_ok-merged_by_key.ensures in
    no_others c.args.rows.items c.in_ok-merged_by_key.field-0 c.drop_repeated_keys.new.rows.items sorted.same sorted.sorted is row (subst (λ (l : List Row). Contains l row) c.from_vec.ensures has)

pub returns-clause-each_key : goal.returns-clause-each_key
returns-clause-each_key c = λ row has.
    let is = c.drop_repeated_keys.ensures ∙ ap (dedup has_key_of) c.into_vec-rising.ensures in
    let sorted = c.in_ok-merged_by_key.ensures in
    subst (λ (l : List Row). Any (λ (kept : Row). kept.key ≡ row.key) l) (sym c.from_vec.ensures)
    (each_key c.args.rows.items c.in_ok-merged_by_key.field-0 c.drop_repeated_keys.new.rows.items sorted.same sorted.sorted is row has)
