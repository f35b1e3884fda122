use Rattle.std.proofs.Common.{◌≡◌, [], ◌∷◌, ◌++◌, List, sym, ◌∙◌, ap, append_assoc}
use Rattle.std.proofs.lemmas.List.{append-nil}
use Rattle.arch_types.specs.declared.row.Row.{Row}
use Rattle.archive_store.proofs.history_source.copies_of.Goals as goal

pub loop-row-init : goal.loop-row-init
loop-row-init c = ap (λ (l : List Row). l ++ c.into_iter-row-iterator.result) c.in_ok-copies.ensures.items ∙ c.into_iter-row-iterator.ensures.into_iter_gives

pub loop-row-preserved : goal.loop-row-preserved
loop-row-preserved c =
    let step : c.loop-row.row-iterator ≡ c.in-Some.row.now ∷ c.next.new.self = let s = c.in-Some.ensures.steps in cc in
    let row : Row = c.in-Some.row.now in
    let rest : List Row = c.next.new.self in
    let copies : List Row = c.loop-row.copies.items in
    ap (λ (l : List Row). l ++ rest) (c.in_ok-push.ensures.items ∙ ap (λ (r : Row). copies ++ r ∷ []) c.in_ok-copy.ensures)
    ∙ append_assoc copies (row ∷ []) rest ∙ ap (λ (l : List Row). copies ++ l) (sym step) ∙ c.loop-row.invariant

pub returns : goal.returns
returns c =
    let none : c.loop-row.row-iterator ≡ [] = let s = c.in-None.ensures.steps in cc in
    let copies : List Row = c.loop-row.copies.items in
    c.from_vec.ensures ∙ sym (append-nil copies) ∙ ap (λ (l : List Row). copies ++ l) (sym none) ∙ c.loop-row.invariant
