use Rattle.std.proofs.Common.{◌≡◌, ◌+◌, ◌<◌, ◌≤◌, List, ◌++◌, length, append_assoc, refl, sym, subst, arith, length-append}
use Rattle.arch_types.specs.declared.row.Row.{Row}
use Rattle.archive_history.specs.Limits.{interval_rows, octets_of}
use Rattle.run_pages.specs.Placed.{rows_of_placed}
use Rattle.sealed_history.specs.SealedHistory.{counted_rows}
use Rattle.sealed_history.proofs.Within.{not_more}
use Rattle.sealed_history.proofs.history.SealedHistory.limit_passed.Goals as goal

pub passes_octets-requires : goal.passes_octets-requires
passes_octets-requires c =
    let h = c.args.self.now in
    let rows = c.args.rows.now in
    let runs = rows_of_placed h.placed in
    let few : h.base + length (h.log ++ rows) ≤ 4194304 = not_more 4194304 _ (λ many. absurd (let no = c.if-passes_rows.ensures.1 many in cc)) in
    omega (arith, few, length-append h.log rows)

pub passes_interval-requires : goal.passes_interval-requires
passes_interval-requires c =
    let h = c.args.self.now in
    let rows = c.args.rows.now in
    let runs = rows_of_placed h.placed in
    let few : h.base + length (h.log ++ rows) ≤ 4194304 = not_more 4194304 _ (λ many. absurd (let no = c.if-passes_rows.ensures.1 many in cc)) in
    omega (arith, few, length-append h.log rows)

pub returns-then-passes_octets-clause-first : goal.returns-then-passes_octets-clause-first
returns-then-passes_octets-clause-first c =
    let h = c.args.self.now in
    let rows = c.args.rows.now in
    let runs = rows_of_placed h.placed in
    let few : h.base + length (h.log ++ rows) ≤ 4194304 = not_more 4194304 _ (λ many. absurd (let no = c.if-passes_rows.ensures.1 many in cc)) in
    let same : counted_rows h ++ rows ≡ runs ++ (h.log ++ rows) = append_assoc runs h.log rows in
    (few, subst (λ (l : List Row). 2147483648 < octets_of l) same (c.if-passes_octets.ensures.0 refl))

pub returns-then-passes_interval-clause-first : goal.returns-then-passes_interval-clause-first
returns-then-passes_interval-clause-first c =
    let h = c.args.self.now in
    let rows = c.args.rows.now in
    let runs = rows_of_placed h.placed in
    let few : h.base + length (h.log ++ rows) ≤ 4194304 = not_more 4194304 _ (λ many. absurd (let no = c.if-passes_rows.ensures.1 many in cc)) in
    let same : counted_rows h ++ rows ≡ runs ++ (h.log ++ rows) = append_assoc runs h.log rows in
    let octets : octets_of (runs ++ (h.log ++ rows)) ≤ 2147483648 =
    not_more 2147483648 _ (λ many. absurd (let no = c.if-passes_octets.ensures.1 (subst (λ (l : List Row). 2147483648 < octets_of l) (sym same) many) in cc)) in
    let many = c.if-passes_interval.ensures.0 refl in
    (few, octets, many.0, subst (λ (l : List Row). 262144 < interval_rows h.exponent many.0 l) same many.1)

pub returns-clause-none : goal.returns-clause-none
returns-clause-none c =
    let h = c.args.self.now in
    let rows = c.args.rows.now in
    let runs = rows_of_placed h.placed in
    let few : h.base + length (h.log ++ rows) ≤ 4194304 = not_more 4194304 _ (λ many. absurd (let no = c.if-passes_rows.ensures.1 many in cc)) in
    let same : counted_rows h ++ rows ≡ runs ++ (h.log ++ rows) = append_assoc runs h.log rows in
    let octets : octets_of (runs ++ (h.log ++ rows)) ≤ 2147483648 =
    not_more 2147483648 _ (λ many. absurd (let no = c.if-passes_octets.ensures.1 (subst (λ (l : List Row). 2147483648 < octets_of l) (sym same) many) in cc)) in
    record {
      few = few;
      octets = octets;
      intervals = λ i. not_more 262144 _ (λ many. absurd (let no = c.if-passes_interval.ensures.1 (i, subst (λ (l : List Row). 262144 < interval_rows h.exponent i l) (sym same) many) in cc));
    }
