use Rattle.std.proofs.Common.{◌≡◌, ◌∙◌, ◌+◌, ℕ, FitsSigned, arith, drop, length, take, rules, sym, ap}
use Rattle.std.specs.Int.{w64}
use Rattle.std.proofs.lemmas.Int.{to_z-of_z}
use Rattle.octet_fields.proofs.Exact.{some_is}
use Rattle.segment_codec.specs.OneColumn.{columns_end}
use Rattle.segment_codec.specs.RangeColumn.{IsSpanOf, count_in, start_in}
use Rattle.segment_codec.specs.RawColumn.{raw_column_at}
use Rattle.segment_codec.proofs.FirstRows.{asked_are, beside_span}
use Rattle.segment_codec.proofs.RangeColumns.{read_parts}
use Rattle.segment_codec.proofs.range_column.column_rows.Goals as goal

pub part_of_keys-requires : goal.part_of_keys-requires
part_of_keys-requires c = omega (arith, c.len.ensures, c.rows_asked-asked.ensures.within)

pub returns-then-asked-eq0 : goal.returns-then-asked-eq0
returns-then-asked-eq0 c = λ column e.
    let p = read_parts c.args.rows c.args.place c.args.octets.now column e in
    let span = c.in_ok-span.span in
    let asked = c.rows_asked-asked.result in
    let low : FitsSigned w64 c.args.range.from = search rules in
    let high : FitsSigned w64 c.args.range.to = search rules in
    let is : IsSpanOf c.args.range.from c.args.range.to column.keys span = simp to_z-of_z at (c.in_ok-span.ensures.span column.keys p.0 p.1) in
    let room = beside_span c.args.rows _ _ c.args.octets.now p.0 p.2 p.4 column span is p.1 p.5 in
    let long : c.len.result ≡ length span.keys = c.len.ensures in
    asked_are c.args.range.from c.args.range.to c.args.range.direction c.args.range.limit column _ span asked.first asked.count is (omega (arith, long, c.rows_asked-asked.ensures.within)) room
    (c.rows_asked-asked.ensures.count ∙ ap (count_in c.args.range.limit) long) (c.rows_asked-asked.ensures.first ∙ ap (λ (n : ℕ). start_in c.args.range.direction n asked.count) long)
    c.in_ok-keys.ensures (c.new-values.ensures ∙ sym (ap (λ (n : ℕ). take n (drop (span.before + asked.first) column.values)) c.if-asked-eq0.true))

pub values_in_rows-requires-clause-within : goal.values_in_rows-requires-clause-within
values_in_rows-requires-clause-within c = omega (arith, c.len.ensures, c.rows_asked-asked.ensures.within, c.in_ok-span.ensures.within, c.from.ensures)

pub returns : goal.returns
returns c = λ column e.
    let p = read_parts c.args.rows c.args.place c.args.octets.now column e in
    let span = c.in_ok-span.span in
    let asked = c.rows_asked-asked.result in
    let low : FitsSigned w64 c.args.range.from = search rules in
    let high : FitsSigned w64 c.args.range.to = search rules in
    let is : IsSpanOf c.args.range.from c.args.range.to column.keys span = simp to_z-of_z at (c.in_ok-span.ensures.span column.keys p.0 p.1) in
    let room = beside_span c.args.rows _ _ c.args.octets.now p.0 p.2 p.4 column span is p.1 p.5 in
    let long : c.len.result ≡ length span.keys = c.len.ensures in
    let gaps : c.in_ok-rest.rest.now ≡ p.0 = c.in_ok-rest.ensures p.0 (c.in_ok-span.ensures.unread column.keys p.0 p.1) in
    let there : c.in_ok-rest-2.rest.now ≡ p.2 = some_is c.in_ok-rest-2.rest.now p.2 (sym c.in_ok-rest-2.ensures ∙ ap (columns_end c.args.place c.args.rows) gaps ∙ p.3) in
    let values = c.in_ok-values.ensures column.values p.4 (ap (raw_column_at c.args.rows) there ∙ p.5) in
    asked_are c.args.range.from c.args.range.to c.args.range.direction c.args.range.limit column _ span asked.first asked.count is (omega (arith, long, c.rows_asked-asked.ensures.within)) room
    (c.rows_asked-asked.ensures.count ∙ ap (count_in c.args.range.limit) long) (c.rows_asked-asked.ensures.first ∙ ap (λ (n : ℕ). start_in c.args.range.direction n asked.count) long)
    c.in_ok-keys.ensures (values ∙ ap (λ (n : ℕ). take asked.count (drop (n + asked.first) column.values)) c.from.ensures)
