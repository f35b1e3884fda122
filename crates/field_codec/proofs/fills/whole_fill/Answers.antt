use Rattle.std.proofs.Common.{List, ◌++◌, ◌∙◌, sym, ap, append-nil, arith}
use Rattle.std.specs.Int.{w64}
use Rattle.octet_fields.specs.Spelling.{signed}
use Rattle.octet_fields.proofs.Numbers.{exact_i64}
use Rattle.row_codec.proofs.Ends.{behind_number, end_of_end}
use Rattle.field_codec.proofs.fills.whole_fill.Goals as goal

pub part_before-requires : goal.part_before-requires
part_before-requires c =
    let block = c.args.block.now in
    let rest = c.in_ok-interval.rest.now in
    let set = c.in_ok-base.set.now in
    let taken = exact_i64.takes c.args.octets.now (c.in_ok-interval.interval, rest) (λ i. omega (arith, c.type_inv.octets i)) c.in_ok-interval.ensures in
    let behind = end_of_end block c.args.octets.now (signed w64 c.in_ok-interval.interval) rest c.requires taken.0 in
    let end = behind_number w64 block rest (c.in_ok-base.base, set) behind c.in_ok-base.ensures in
    (end.0, end.1 ∙ ap (λ (l : List _). end.0 ++ l) (sym (append-nil set)))
