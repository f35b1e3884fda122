use Rattle.std.proofs.Common.{◌≡◌, ◌<◌, ℕ, [], List, length, get_or, true, sym, ap, ◌∙◌, subst, arith}
use Rattle.std.specs.Str.{bytes_eq}
use Rattle.std.proofs.lemmas.List.{get_or_default}
use Rattle.asks.proofs.Places.{first_at, nowhere}
use Rattle.asks.proofs.refusal.table_number.Goals as goal

pub returns-then-eq-clause-value : goal.returns-then-eq-clause-value
returns-then-eq-clause-value c =
    let name : List ℕ = c.args.name.now in
    let tables : List (List ℕ) = c.args.tables.now in
    let list : List (List ℕ) = c.as_slice-table-items.result.now in
    let i = c.loop-i.i in
    let all : list ≡ tables = c.as_slice-table-items.ensures in
    let within : i < length list = omega (arith, c.loop-i-test.true) in
    let item : get_or list i [] ≡ c.table-item.result = get_or_default list i [] c.table-item.result within ∙ sym c.table-item.is in
    let test : bytes_eq c.as_slice.result.now c.as_slice-in-loop-i.result.now ≡ true = sym c.if-eq.ensures in
    let here : bytes_eq name (get_or list i []) ≡ true =
    ap (λ (n : List ℕ). bytes_eq n (get_or list i [])) (sym c.as_slice.ensures.value) ∙ ap (bytes_eq c.as_slice.result.now) (item ∙ sym c.as_slice-in-loop-i.ensures.value) ∙ test in
    let passes : bytes_eq name (get_or tables i []) ≡ true = subst (λ (l : List (List ℕ)). bytes_eq name (get_or l i []) ≡ true) all here in
    first_at (bytes_eq name) tables i [] c.loop-i.invariant (subst (λ (l : List (List ℕ)). i < length l) all within) passes

pub returns-clause-value : goal.returns-clause-value
returns-clause-value c =
    let tables : List (List ℕ) = c.args.tables.now in
    let same : length c.as_slice-table-items.result.now ≡ length tables = ap (λ (l : List (List ℕ)). length l) c.as_slice-table-items.ensures in
    nowhere (bytes_eq c.args.name.now) tables c.loop-i.i [] c.loop-i.invariant (omega (arith, same, c.loop-i-test.false, c.loop-i.auto.i-end))
