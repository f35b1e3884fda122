-- The fields of made packets, and their dumps.
use Rattle.std.proofs.Common.{◌≡◌, ℕ, ℤ, pos, zero, suc, ◌+◌, ◌-◌, ◌*◌, ◌/◌, ◌%◌, ◌^◌, ◌<◌, ◌≤◌, List, [], ◌∷◌, ◌++◌, length, Result, Ok, Err, append_assoc, append-nil, length-append, refl, sym, ap, arith}
use Rattle.std.specs.Prelude.{All, OnOk}
use Rattle.std.specs.List.{concat}
use Rattle.std.proofs.lemmas.List.Folds.{concat-append}
use Rattle.std.proofs.lemmas.List.Elements.{All-nil, All-push}
use Rattle.octet_fields.specs.Spelling.{number}
use Rattle.arch_types.specs.Packet.{IsPacket, secondary_flag}
use Rattle.arch_types.specs.Dump.{IsDump}
use Rattle.arch_types.specs.GenerationTime.{generation_time, number_of_2, number_of_4}
use Rattle.dump_maker.specs.Laws.{HasFieldsOf}
use Rattle.dump_maker.specs.Made.{made_packet, made_packets, made_dumps, shift_of}

pub on_ok : {X E P Q : Type 0} (result : Result X E) → (P → Q) → OnOk result P → OnOk result Q
on_ok (Ok x) f p = f p
on_ok (Err e) f p = tt

-- six fields put one behind the other
pub joined_fields : (o o1 o2 o3 o4 o5 o6 a b c d e f : List ℕ) → o1 ≡ o ++ a → o2 ≡ o1 ++ b → o3 ≡ o2 ++ c → o4 ≡ o3 ++ d → o5 ≡ o4 ++ e → o6 ≡ o5 ++ f →
    o6 ≡ o ++ (a ++ b ++ c ++ d ++ e ++ f)
joined_fields o o1 o2 o3 o4 o5 o6 a b c d e f p q r s t u = rw (u, t, s, r, q, p) (simp append_assoc)

-- one packet more
pub more_octets : (seed first i : ℕ) → concat (made_packets seed first (i + 1)) ≡ concat (made_packets seed first i) ++ made_packet seed (first + i)
more_octets seed first i =
    let on : i + 1 ≡ suc i = omega arith in
    let packet = made_packet seed (first + i) in
    rw (on, concat-append (made_packets seed first i) (packet ∷ []), append-nil packet) refl

-- one dump more
pub more_dumps : (seed packets links link behind : ℕ) (dumps : List (List ℕ)) → link < links → behind ≡ links - 1 - link →
    dumps ++ made_dumps seed packets (links - link) ≡ made_dumps seed packets links →
    (dumps ++ concat (made_packets seed (shift_of packets * behind) packets) ∷ []) ++ made_dumps seed packets (links - (link + 1)) ≡ made_dumps seed packets links
more_dumps seed packets links link behind dumps below is before =
    let here : links - link ≡ suc behind = omega arith in
    let next : links - (link + 1) ≡ behind = omega arith in
    let dump = concat (made_packets seed (shift_of packets * behind) packets) in
    rw (next, append_assoc dumps (dump ∷ []) (made_dumps seed packets behind)) (rw here at before)

-- two octets, and four, as the number that they spell
two_again : (n : ℕ) → n < 2 ^ 16 → 256 * (n / 2 ^ 8 % 2 ^ 8) + n % 2 ^ 8 ≡ n
two_again n h = omega arith

four_again : (n : ℕ) → n < 2 ^ 32 → 2 ^ 16 * (256 * (n / 2 ^ 24 % 2 ^ 8) + n / 2 ^ 16 % 2 ^ 8) + (256 * (n / 2 ^ 8 % 2 ^ 8) + n % 2 ^ 8) ≡ n
four_again n h =
    let high = two_again (n / 2 ^ 16) (omega arith) in
    let low = two_again (n % 2 ^ 16) (omega arith) in
    omega arith

timed_at : (p : List ℕ) (rectime : ℤ) (seconds : ℕ) → secondary_flag p ≡ 1 → length p ≡ 16 → number_of_4 p 6 ≡ seconds → number_of_2 p 10 ≡ 0 →
    generation_time p rectime ≡ pos (1000 * seconds)
timed_at p rectime seconds flag size whole none = rw (flag, size, whole, none) (ap pos (omega arith))

pub made_fields : (seed place : ℕ) → place < 2 ^ 24 → HasFieldsOf seed place (made_packet seed place)
unfolding made_packet number
made_fields seed place h = record {
  packet = record { header = omega arith; version = omega arith; whole = omega arith };
  size = refl;
  telemetry = omega arith;
  timed = omega arith;
  apid = omega arith;
  unsegmented = omega arith;
  count = omega arith;
  time = λ rectime. timed_at (made_packet seed place) rectime (1704067200 + 2 * place) (omega arith) refl (four_again (1704067200 + 2 * place) (omega arith)) (omega arith);
  value = four_again ((seed + 7919 * place) % 2 ^ 32) (omega arith);
}

nothing_left : (p more : List ℕ) → IsPacket p → [] ≡ p ++ more → ⊥
nothing_left p more packet e =
    let header = packet.header in
    let sum = length-append p more in
    let none : 0 ≡ length (p ++ more) = ap length e in
    omega arith

each_made : (seed first count : ℕ) → first + count ≤ 2 ^ 24 → All IsPacket (made_packets seed first count)
each_made seed first zero h = All-nil IsPacket
each_made seed first (suc count) h =
    let fields = made_fields seed (first + count) (omega arith) in
    All-push IsPacket (made_packets seed first count) (made_packet seed (first + count)) (each_made seed first count (omega arith)) fields.packet

pub made_is_split : (seed first count : ℕ) → first + count ≤ 2 ^ 24 → IsDump (concat (made_packets seed first count)) (made_packets seed first count) []
made_is_split seed first count h = record {
  joined = sym (append-nil (concat (made_packets seed first count)));
  each = each_made seed first count h;
  no_more = nothing_left;
}
