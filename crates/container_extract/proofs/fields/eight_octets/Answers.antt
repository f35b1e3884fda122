-- Eight octets are a word.
use Rattle.std.proofs.Common.{◌≡◌, ◌∙◌, ◌+◌, ◌≤◌, refl, arith, take, drop, length, length-take, length-drop}
use Rattle.container_extract.proofs.Words.{word_is}
use Rattle.container_extract.proofs.fields.eight_octets.Goals as goal

pub returns : goal.returns
returns c =
    let packet = c.args.packet.now in
    let start = c.args.start in
    let inside : start + 8 ≤ length packet = c.requires in
    let long : length (take 8 (drop start packet)) ≡ 8 = omega (arith, length-take 8 (drop start packet), length-drop start packet) in
    c.from_be_bytes.ensures ∙ rw (c.split_at-2.ensures.front, c.split_at.ensures.back) refl ∙ word_is (take 8 (drop start packet)) long
