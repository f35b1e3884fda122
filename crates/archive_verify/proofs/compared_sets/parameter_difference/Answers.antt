use Rattle.std.proofs.Common.{◌≡◌, ◌∙◌, List, map, sym, ap, subst}
use Rattle.std.specs.Prelude.{IfSome, IfNone, Option, Some, None}
use Rattle.std.specs.List.Sorted.{IsStrictlySortedBy}
use Rattle.arch_types.specs.declared.cell.Cell.{Cell}
use Rattle.arch_types.specs.Order.{key_cmp}
use Rattle.archive_verify.specs.declared.differences.CellDifference.{CellDifference}
use Rattle.archive_verify.specs.Differences.{IsFirstDifference, raws_of}
use Rattle.archive_verify.proofs.Cells.{cells_rise, same_cells}
use Rattle.archive_verify.proofs.FirstDifferences.{cells_rising}
use Rattle.archive_verify.proofs.compared_sets.parameter_difference.Goals as goal

pub first_difference-requires-clause-stored : goal.first_difference-requires-clause-stored
first_difference-requires-clause-stored c =
    let q = c.args.parameter in
    subst (λ (cells : List Cell). IsStrictlySortedBy key_cmp (map (λ x. x.key) cells)) (sym (c.as_slice.ensures ∙ c.in_ok-stored.ensures))
    (cells_rising _ (cells_rise c.args.mdb.now q c.args.stored.now c.requires.stored_rows.rising))

pub first_difference-requires-clause-replayed : goal.first_difference-requires-clause-replayed
first_difference-requires-clause-replayed c =
    let q = c.args.parameter in
    subst (λ (cells : List Cell). IsStrictlySortedBy key_cmp (map (λ x. x.key) cells)) (sym (c.as_slice-2.ensures ∙ c.in_ok-replayed.ensures))
    (cells_rising _ (cells_rise c.args.mdb.now q c.args.replayed.now c.requires.replayed_rows.rising))

some_over : (a b s r : List Cell) (o : Option CellDifference) → a ≡ s → b ≡ r → IfSome o (IsFirstDifference a b) → IfSome o (IsFirstDifference s r)
some_over a b s r None ea eb is = tt
some_over a b s r (Some d) ea eb is = subst (λ (x : List Cell). IsFirstDifference x r d) ea (subst (λ (y : List Cell). IsFirstDifference a y d) eb is)

none_over : (a b s r : List Cell) (o : Option CellDifference) → a ≡ s → b ≡ r → (raws_of s ≡ raws_of r → s ≡ r) → IfNone o (raws_of a ≡ raws_of b) → IfNone o (s ≡ r)
none_over a b s r None ea eb same is = same (sym (ap raws_of ea) ∙ is ∙ ap raws_of eb)
none_over a b s r (Some d) ea eb same is = tt

pub returns-clause-some : goal.returns-clause-some
returns-clause-some c =
    some_over c.as_slice.result.now c.as_slice-2.result.now _ _ c.first_difference.result (c.as_slice.ensures ∙ c.in_ok-stored.ensures) (c.as_slice-2.ensures ∙ c.in_ok-replayed.ensures) c.first_difference.ensures.some

pub returns-clause-none : goal.returns-clause-none
returns-clause-none c =
    none_over c.as_slice.result.now c.as_slice-2.result.now _ _ c.first_difference.result (c.as_slice.ensures ∙ c.in_ok-stored.ensures) (c.as_slice-2.ensures ∙ c.in_ok-replayed.ensures)
    (same_cells c.args.mdb.now c.args.parameter c.args.stored.now c.args.replayed.now c.requires.stored_values c.requires.replayed_values) c.first_difference.ensures.none
