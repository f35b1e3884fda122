-- The word holds the field, and the mask clears what stands before it.
use Rattle.std.proofs.Common.{◌∙◌, ◌+◌, ◌-◌, ◌*◌, ◌/◌, ◌%◌, ◌^◌, ◌<◌, ◌≤◌, ℕ, ap, sym, arith, length}
use Rattle.std.proofs.lemmas.List.Elements.{All-from_get_or}
use Rattle.std.proofs.lemmas.Nat.{mod_below, pow_pos}
use Rattle.container_extract.proofs.Words.{masked_field, window_field}
use Rattle.container_extract.proofs.fields.word_field.Goals as goal

pub returns-clause-value : goal.returns-clause-value
returns-clause-value c =
    let packet = c.args.packet.now in
    let at = c.args.at in
    let w = c.args.width in
    let start = c.word_start-start.result in
    let s = 64 - (at - 8 * start + w) in
    let small = All-from_get_or (λ (x : ℕ). x < 256) packet 0 (λ i lt. omega (arith, c.type_inv.packet i)) in
    let before : 8 * start ≤ at = omega (arith, c.word_start-start.ensures.before) in
    let inside : start + 8 ≤ length packet = omega (arith, c.word_start-start.ensures.inside) in
    let fits : at - 8 * start + w ≤ 64 = omega arith in
    masked_field (c.eight_octets-word.result / 2 ^ s) w c.requires.width.1
    ∙ ap (λ (x : ℕ). x / 2 ^ s % 2 ^ w) c.eight_octets-word.ensures
    ∙ sym (window_field packet at w start small inside before fits)

pub returns-clause-bound : goal.returns-clause-bound
returns-clause-bound c =
    let s = 64 - (c.args.at - 8 * c.word_start-start.result + c.args.width) in
    rw (masked_field (c.eight_octets-word.result / 2 ^ s) c.args.width c.requires.width.1) (mod_below (c.eight_octets-word.result / 2 ^ s) (2 ^ c.args.width) (pow_pos c.args.width))
