-- Packets before a place of a dump are the first of all.
use Rattle.std.proofs.Common.{◌≡◌, ◌⊎◌, inl, inr, ℕ, zero, suc, ◌<◌, ◌≤◌, List, [], ◌∷◌, ◌++◌, length, get_or, take, drop, Bool, true, false, refl, sym, ap, ◌∙◌, arith, append_assoc, length-append, ltb}
use Rattle.std.specs.List.{concat}
use Rattle.std.proofs.Math.ListN.{get_or-append}
use Rattle.std.proofs.lemmas.Bool.{ltb-true, ltb-false}
use Rattle.std.proofs.lemmas.List.{take-append-drop, length-take, length-drop, get_or-take}
use Rattle.std.proofs.lemmas.List.Elements.{All-nil, All-cons, All-append}
use Rattle.std.proofs.lemmas.List.Folds.{concat-append}
use Rattle.arch_types.specs.Dump.{IsDump, BeginsWithNoPacket}
use Rattle.arch_types.specs.Packet.{IsPacket, packet_length}
use Rattle.space_packet.specs.Cut.{IsCut}

-- ---- each dump has packets and a rest

abbrev First : List ℕ → Type 0
First octets = ((n : ℕ) × (n ≤ length octets) × IsPacket (take n octets)) ⊎ BeginsWithNoPacket octets

-- what a packet at the start of octets tells of them
short_none : (octets : List ℕ) → length octets < 7 → BeginsWithNoPacket octets
short_none octets short p more is e = let header = is.header in omega (arith, short, header, ap length e, length-append p more)

version_none : (octets : List ℕ) → 32 ≤ get_or octets 0 0 → BeginsWithNoPacket octets
version_none octets high p more is e =
    let header = is.header in
    let version = is.version in
    let same : get_or octets 0 0 ≡ get_or p 0 0 = ap (λ (l : List ℕ). get_or l 0 0) e ∙ get_or-append p more 0 0 (omega (arith, header)) in
    omega (arith, high, version, same)

cut_none : (octets : List ℕ) → length octets < packet_length octets → BeginsWithNoPacket octets
cut_none octets long p more is e =
    let header = is.header in
    let whole = is.whole in
    let at4 : get_or octets 4 0 ≡ get_or p 4 0 = ap (λ (l : List ℕ). get_or l 4 0) e ∙ get_or-append p more 0 4 (omega (arith, header)) in
    let at5 : get_or octets 5 0 ≡ get_or p 5 0 = ap (λ (l : List ℕ). get_or l 5 0) e ∙ get_or-append p more 0 5 (omega (arith, header)) in
    omega (arith, long, whole, at4, at5, ap length e, length-append p more)

is_packet : (octets : List ℕ) → get_or octets 0 0 < 32 → packet_length octets ≤ length octets → IsPacket (take (packet_length octets) octets)
is_packet octets low fits =
    let n = packet_length octets in
    let len : length (take n octets) ≡ n = rw (length-take n octets) (omega (arith, fits)) in
    let at0 = get_or-take n octets 0 0 (omega arith) in
    let at4 = get_or-take n octets 4 0 (omega arith) in
    let at5 = get_or-take n octets 5 0 (omega arith) in record {
      header = omega (arith, len);
      version = omega (arith, at0, low);
      whole = omega (arith, len, at4, at5);
    }

first_is : (octets : List ℕ) → First octets
first_is octets = by_length (ltb (length octets) 7) refl
  where
    by_end : (b : Bool) → ltb (length octets) (packet_length octets) ≡ b → get_or octets 0 0 < 32 → First octets
    by_end true long low = inr (cut_none octets (ltb-true (length octets) (packet_length octets) long))
    by_end false fits low =
        let within = ltb-false (length octets) (packet_length octets) fits in
        inl (packet_length octets, within, is_packet octets low within)

    by_version : (b : Bool) → ltb (get_or octets 0 0) 32 ≡ b → First octets
    by_version true low = by_end (ltb (length octets) (packet_length octets)) refl (ltb-true (get_or octets 0 0) 32 low)
    by_version false high = inr (version_none octets (ltb-false (get_or octets 0 0) 32 high))

    by_length : (b : Bool) → ltb (length octets) 7 ≡ b → First octets
    by_length true short = inr (short_none octets (ltb-true (length octets) 7 short))
    by_length false long = by_version (ltb (get_or octets 0 0) 32) refl

abbrev Split : List ℕ → Type 0
Split octets = (packets : List (List ℕ)) × (rest : List ℕ) × IsDump octets packets rest

none_split : (octets : List ℕ) → BeginsWithNoPacket octets → Split octets
none_split octets none = ([], octets, record { joined = refl; each = All-nil IsPacket; no_more = none })

first_split : (octets : List ℕ) (n : ℕ) → IsPacket (take n octets) → Split (drop n octets) → Split octets
first_split octets n is others =
    let d = others.2 in (
      take n octets ∷ others.0,
      others.1,
      record {
        joined = sym (take-append-drop n octets) ∙ ap (λ (l : List ℕ). take n octets ++ l) d.joined ∙ sym (append_assoc (take n octets) (concat others.0) others.1);
        each = All-cons IsPacket (take n octets) others.0 is d.each;
        no_more = d.no_more;
      },
    )

split_within : (fuel : ℕ) (octets : List ℕ) → length octets ≤ fuel → Split octets
split_within zero octets few = none_split octets (short_none octets (omega (arith, few)))
split_within (suc fuel) octets few =
    elim (first_is octets) [
      | inl w ↦
          let header = w.2.header in
          let len = length-take w.0 octets in
          let left = length-drop w.0 octets in
          first_split octets w.0 w.2 (split_within fuel (drop w.0 octets) (omega (arith, few, header, len, left, w.1)))
      | inr none ↦ none_split octets none
    ]

pub split_of : (octets : List ℕ) → Split octets
split_of octets = split_within (length octets) octets (omega arith)

-- packets before a place are the first of the dump's
pub completes : (dump : List ℕ) (packets : List (List ℕ)) (at : ℕ) → IsCut dump packets at → (more : List (List ℕ)) × (rest : List ℕ) × IsDump dump (packets ++ more) rest
completes dump packets at cut =
    let split = split_of (drop at dump) in
    let d = split.2 in (
      split.0,
      split.1,
      record {
        joined =
            cut.joined ∙ ap (λ (l : List ℕ). concat packets ++ l) d.joined ∙ sym (append_assoc (concat packets) (concat split.0) split.1)
            ∙ ap (λ (l : List ℕ). l ++ split.1) (sym (concat-append packets split.0));
        each = All-append IsPacket packets split.0 cut.each d.each;
        no_more = d.no_more;
      },
    )
