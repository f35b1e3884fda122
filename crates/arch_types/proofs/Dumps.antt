-- A dump has one list of packets and one rest.
use Rattle.std.proofs.Common.{◌≡◌, ℕ, List, [], ◌∷◌, ◌++◌, length, get_or, sym, ◌∙◌, ap, refl, arith, append_assoc}
use Rattle.std.specs.Prelude.{All}
use Rattle.std.specs.List.{concat}
use Rattle.std.proofs.Math.ListN.{get_or-append}
use Rattle.std.proofs.Math.Seq.{take-append_seam, drop-append_seam}
use Rattle.std.proofs.lemmas.List.Elements.{All-tail, All-head}
use Rattle.arch_types.specs.Packet.{IsPacket}
use Rattle.arch_types.specs.Dump.{IsDump, BeginsWithNoPacket}

same_length : (p q x y : List ℕ) → IsPacket p → IsPacket q → p ++ x ≡ q ++ y → length p ≡ length q
same_length p q x y hp hq e =
    let lp = hp.header in
    let lq = hq.header in
    let at4 : get_or p 4 0 ≡ get_or q 4 0 = sym (get_or-append p x 0 4 (omega arith)) ∙ ap (λ (l : List ℕ). get_or l 4 0) e ∙ get_or-append q y 0 4 (omega arith) in
    let at5 : get_or p 5 0 ≡ get_or q 5 0 = sym (get_or-append p x 0 5 (omega arith)) ∙ ap (λ (l : List ℕ). get_or l 5 0) e ∙ get_or-append q y 0 5 (omega arith) in
    let wp = hp.whole in
    let wq = hq.whole in
    omega arith

-- no packet is a proper prefix of another
pub same_packet : (p q x y : List ℕ) → IsPacket p → IsPacket q → p ++ x ≡ q ++ y → (p ≡ q) × (x ≡ y)
same_packet p q x y hp hq e =
    let n = same_length p q x y hp hq e in
    (sym (take-append_seam p x) ∙ (rw (e, n) (take-append_seam q y)), sym (drop-append_seam p x) ∙ (rw (e, n) (drop-append_seam q y)))

unique : (dump : List ℕ) (ps qs : List (List ℕ)) (r s : List ℕ) → dump ≡ concat ps ++ r → dump ≡ concat qs ++ s → All IsPacket ps → All IsPacket qs →
    BeginsWithNoPacket r → BeginsWithNoPacket s → (ps ≡ qs) × (r ≡ s)
unique dump [] [] r s d e ps_are qs_are r_has s_has = (refl, sym d ∙ e)
unique dump [] (q ∷ qs) r s d e ps_are qs_are r_has s_has = absurd (r_has q (concat qs ++ s) (All-head IsPacket q qs qs_are) (sym d ∙ e ∙ append_assoc q (concat qs) s))
unique dump (p ∷ ps) [] r s d e ps_are qs_are r_has s_has = absurd (s_has p (concat ps ++ r) (All-head IsPacket p ps ps_are) (sym e ∙ d ∙ append_assoc p (concat ps) r))
unique dump (p ∷ ps) (q ∷ qs) r s d e ps_are qs_are r_has s_has =
    let both : p ++ (concat ps ++ r) ≡ q ++ (concat qs ++ s) = sym (append_assoc p (concat ps) r) ∙ sym d ∙ e ∙ append_assoc q (concat qs) s in
    let first = same_packet p q (concat ps ++ r) (concat qs ++ s) (All-head IsPacket p ps ps_are) (All-head IsPacket q qs qs_are) both in
    let others = unique (concat ps ++ r) ps qs r s refl first.1 (All-tail IsPacket p ps ps_are) (All-tail IsPacket q qs qs_are) r_has s_has in
    (let same = first.0 in let more = others.0 in cc, others.1)

pub dump_is_one : (dump : List ℕ) (ps qs : List (List ℕ)) (r s : List ℕ) → IsDump dump ps r → IsDump dump qs s → (ps ≡ qs) × (r ≡ s)
dump_is_one dump ps qs r s h k = unique dump ps qs r s h.joined k.joined h.each k.each h.no_more k.no_more
