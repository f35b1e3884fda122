use Rattle.std.proofs.Common.{◌++◌, ◌∙◌, ap, get_or, List, ℕ}
use Rattle.std.proofs.lemmas.List.{take_all}
use Rattle.hex.specs.Hex.{encode_lower}
use Rattle.partitions.proofs.Parted.{default_free}
use Rattle.ssql_select.proofs.Hexes.{hex_none, hex_next}
use Rattle.ssql_select.proofs.values.put_hex.Goals as goal

pub loop-octet-init : goal.loop-octet-init
loop-octet-init c = hex_none c.args.line.now.items

pub loop-octet-preserved : goal.loop-octet-preserved
loop-octet-preserved c =
    let octets = c.args.octets.now in
    let i = c.loop-octet.octet-index in
    let b = get_or octets i 0 in
    hex_next c.args.line.now.items octets i b c.loop-octet.line.items c.put.new.line.items c.loop-octet-test.true (default_free octets i 0 b c.loop-octet-test.true) c.loop-octet.invariant
    (c.in_ok-put.ensures ∙ ap (λ (l : List ℕ). c.loop-octet.line.items ++ l) c.hex_of.ensures)

pub returns : goal.returns
returns c = c.loop-octet.invariant ∙ ap (λ (l : List ℕ). c.args.line.now.items ++ encode_lower l) (take_all c.loop-octet.octet-index c.args.octets.now c.loop-octet-test.false)
