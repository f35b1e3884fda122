-- The octets that the field touches hold it, and what stands before them doesn't reach it.
use Rattle.std.proofs.Common.{◌≡◌, ◌∙◌, ◌+◌, ◌-◌, ◌*◌, ◌/◌, ◌^◌, ◌<◌, ℕ, ap, arith, take, drop}
use Rattle.std.proofs.lemmas.List.Elements.{All-from_get_or}
use Rattle.container_extract.specs.Bits.{big_endian_number}
use Rattle.container_extract.proofs.Numbers.{field_is}
use Rattle.container_extract.proofs.fields.long_field.Goals as goal
use Rattle.container_extract.proofs.fields.long_field.Goals.{then-octets-le8, else-octets-le8}

pub returns-clause-value : goal.returns-clause-value
returns-clause-value c =
    let packet = c.args.packet.now in
    let at = c.args.at in
    let end = (at + c.args.width + 7) / 8 in
    let after = 8 * end - (at + c.args.width) in
    let small = All-from_get_or (λ (x : ℕ). x < 256) packet 0 (λ i lt. omega (arith, c.type_inv.packet i)) in
    let halved = λ (n : ℕ). n / 2 ^ after in
    let is : c.if-octets-le8.shifted ≡ big_endian_number (take (end - at / 8) (drop (at / 8) packet)) / 2 ^ after =
    elim c.if-octets-le8.branch [
      | then-octets-le8 w ↦ w.shifted-is ∙ ap halved w.number_of.ensures
      | else-octets-le8 w ↦ w.shifted-is ∙ ap halved w.wide_number_of.ensures
    ] in
    field_is packet at c.args.width c.if-octets-le8.shifted small c.requires.width.1 c.requires.inside is
