-- What was read of a dump and given of it, with a packet or a piece more.
use Rattle.std.proofs.Common.{◌≡◌, ◌⊎◌, ℕ, ◌+◌, ◌<◌, ◌≤◌, List, [], ◌∷◌, ◌++◌, length, drop, All, Bool, true, false, Option, inl, inr, refl, sym, ap, subst, ◌∙◌, arith, append_assoc, append-nil, length-append}
use Rattle.std.specs.Prelude.{IfSome, nat_lt, if◌then◌else◌}
use Rattle.std.specs.List.{concat}
use Rattle.std.proofs.Math.Seq.{drop-append_seam}
use Rattle.std.proofs.lemmas.Bool.Decides.{nat_tests}
use Rattle.std.proofs.lemmas.List.Elements.{All-head, All-nil, All-tail}
use Rattle.arch_types.specs.Dump.{BeginsWithNoPacket}
use Rattle.arch_types.specs.Packet.{IsPacket}
use Rattle.outer_traits.specs.declared.whole.ReadFault.{ReadFault}
use Rattle.outer_traits.specs.declared.whole.ReadFault.TheVariants as faulted
use Rattle.outer_traits.specs.Whole.{IsTaken}
use Rattle.outer_traits.proofs.Taken.{taken_end, taken_none}
use Rattle.space_packet.specs.declared.dump.Why.TheVariants.{Truncated, Version}
use Rattle.space_packet.specs.Rest.{why_of}
use Rattle.space_packet.specs.Waiting.{IsSplitSoFar, Waiting}
use Rattle.space_packet.proofs.Waiting.{fed_more, taken_more}
use Rattle.dump_pieces.specs.Pieces.{IsNoPiece}
use Rattle.dump_pieces.specs.Reading.{HasGiven, HasReadOn, IsDumpRead, IsNoPacket, IsPacketGiven, IsPieceKept, IsWholeDump, Reading, end_of_reading, octets_left, reading_of}
use Rattle.dump_pieces.proofs.Pieces.{read_fewer, taken_then}

-- ---- another packet version number

version_cases : (b : Bool) (x : ℕ) → (b ≡ false → x < 32 → ⊥) → (if b then Truncated else Version) ≡ Version → x < 32 → ⊥
version_cases true x not_small is small = cc
version_cases false x not_small is small = not_small refl small

not_below : (x : ℕ) → nat_lt x 32 ≡ false → x < 32 → ⊥
not_below x is small = let not : nat_lt x 32 ≡ true = grind (arith, nat_tests, small) in cc

-- no packet begins by one
pub version_is_none : (octets : List ℕ) → why_of octets ≡ Version → BeginsWithNoPacket octets
version_is_none [] is p more packet joined = cc
version_is_none (octet ∷ rest) is [] more packet joined = let header = packet.header in absurd (omega (arith, header))
version_is_none (octet ∷ rest) is (x ∷ p) more packet joined =
    let same : octet ≡ x = cc in
    let small : x < 32 = packet.version in
    version_cases (nat_lt octet 32) octet (not_below octet) is (rw same small)

-- whatever is behind it
version_more : (octets more : List ℕ) → why_of octets ≡ Version → why_of (octets ++ more) ≡ Version
version_more [] more is = cc
version_more (octet ∷ rest) more is = is

-- ---- how many packets there are

-- each packet has an octet or more
packets_long : (packets : List (List ℕ)) → All IsPacket packets → length packets ≤ length (concat packets)
packets_long [] each = omega arith
packets_long (p ∷ ps) each =
    let header = (All-head IsPacket p ps each).header in
    let more = packets_long ps (All-tail IsPacket p ps each) in
    let both = length-append p (concat ps) in
    omega (arith, header, more, both)

-- as many at most as octets were read
pub given_few : (limit : ℕ) (first left : Option (List ℕ)) (packets : List (List ℕ)) (reading : Reading) → HasGiven limit first left packets reading → length packets ≤ limit
given_few limit first left packets reading h =
    let long = packets_long packets h.split.each in
    let fed = ap length h.split.joined in
    let parts = length-append (concat packets) reading.waiting.octets in
    let all = length-append h.fed h.passed in
    let within = h.within in
    omega (arith, long, fed, parts, all, within)

-- ---- a dump of which nothing was read

pub nothing_given : (limit : ℕ) (first : Option (List ℕ)) → HasGiven limit first first [] (reading_of limit)
nothing_given limit first = record {
  fed = [];
  passed = [];
  taken = taken_none first;
  split = record { joined = refl; each = All-nil IsPacket; place = refl };
  passed_over = inl refl;
  within = omega arith;
}

-- ---- a packet more

pub packet_given : (limit : ℕ) (first left : Option (List ℕ)) (packets : List (List ℕ)) (old : Reading) (packet : List ℕ) (new : Reading)
    → HasGiven limit first left packets old → IsPacketGiven old packet new → HasGiven limit first left (packets ++ packet ∷ []) new
packet_given limit first left packets old packet new h given = record {
  fed = h.fed;
  passed = h.passed;
  taken = h.taken;
  split = taken_more h.fed packets old.waiting packet new.waiting h.split given.taken;
  passed_over = inl (nothing h.passed_over);
  within = rw given.room h.within;
} where
  nothing : (h.passed ≡ []) ⊎ (why_of old.waiting.octets ≡ Version) → h.passed ≡ []
  nothing (inl none) = none
  nothing (inr version) = absurd (version_is_none old.waiting.octets version packet new.waiting.octets given.taken.whole given.taken.joined)

-- ---- a piece more

module _ (limit : ℕ) (first left left' : Option (List ℕ)) (packets : List (List ℕ)) (old new : Reading) (h : HasGiven limit first left packets old) (on : HasReadOn left left' old new) where
  taken : IsTaken first ((h.fed ++ h.passed) ++ on.piece) left'
  taken = taken_then first left left' (h.fed ++ h.passed) on.piece h.taken on.taken

  longer : length ((h.fed ++ h.passed) ++ on.piece) + new.room ≡ limit
  longer =
      let parts = length-append (h.fed ++ h.passed) on.piece in
      let within = h.within in
      let room = on.room in
      omega (arith, parts, within, room)

  waits : h.passed ≡ [] → new.waiting ≡ record { at = old.waiting.at; octets = old.waiting.octets ++ on.piece } → HasGiven limit first left' packets new
  waits none is =
      let same : (h.fed ++ h.passed) ++ on.piece ≡ (h.fed ++ on.piece) ++ [] =
      ap (λ (l : List ℕ). (h.fed ++ l) ++ on.piece) none ∙ ap (λ (l : List ℕ). l ++ on.piece) (append-nil h.fed) ∙ sym (append-nil (h.fed ++ on.piece)) in
      record {
        fed = h.fed ++ on.piece;
        passed = [];
        taken = subst (λ (l : List ℕ). IsTaken first l left') same taken;
        split = fed_more h.fed packets old.waiting on.piece new.waiting h.split is;
        passed_over = inl refl;
        within = subst (λ (l : List ℕ). length l + new.room ≡ limit) same longer;
      }

  dropped : why_of old.waiting.octets ≡ Version → new.waiting ≡ old.waiting → HasGiven limit first left' packets new
  dropped version is =
      let same : (h.fed ++ h.passed) ++ on.piece ≡ h.fed ++ (h.passed ++ on.piece) = append_assoc h.fed h.passed on.piece in
      record {
        fed = h.fed;
        passed = h.passed ++ on.piece;
        taken = subst (λ (l : List ℕ). IsTaken first l left') same taken;
        split = subst (λ (w : Waiting). IsSplitSoFar h.fed packets w) (sym is) h.split;
        passed_over = inr (subst (λ (w : Waiting). why_of w.octets ≡ Version) (sym is) version);
        within = subst (λ (l : List ℕ). length l + new.room ≡ limit) same longer;
      }

  by_kept : IsPieceKept old.waiting on.piece new.waiting → (h.passed ≡ []) ⊎ (why_of old.waiting.octets ≡ Version) → HasGiven limit first left' packets new
  by_kept (inl kept) (inl none) = waits none kept.1
  by_kept (inl kept) (inr version) = absurd (kept.0 version)
  by_kept (inr passed) over = dropped passed.0 passed.1

  pub read_more : HasGiven limit first left' packets new
  read_more = by_kept on.kept h.passed_over

-- ---- how many octets there may still be

pub fewer_left : (old : Reading) (packet : List ℕ) (new : Reading) → IsPacketGiven old packet new → octets_left new < octets_left old
fewer_left old packet new given =
    let header = given.taken.whole.header in
    let all = ap length given.taken.joined in
    let parts = length-append packet new.waiting.octets in
    let room = given.room in
    omega (arith, header, all, parts, room)

pub no_more_left : (left left' : Option (List ℕ)) (old new : Reading) → HasReadOn left left' old new → octets_left new ≤ octets_left old
no_more_left left left' old new on = go on.kept
  where
    go : IsPieceKept old.waiting on.piece new.waiting → octets_left new ≤ octets_left old
    go (inl kept) =
        let all = ap (λ (w : Waiting). length w.octets) kept.1 in
        let parts = length-append old.waiting.octets on.piece in
        let room = on.room in
        omega (arith, all, parts, room)
    go (inr passed) =
        let all = ap (λ (w : Waiting). length w.octets) passed.1 in
        let room = on.room in
        omega (arith, all, room)

-- ---- the end

module _ (limit : ℕ) (first left : Option (List ℕ)) (packets : List (List ℕ)) (reading : Reading) (h : HasGiven limit first left packets reading) (none : BeginsWithNoPacket reading.waiting.octets) where
  abbrev rest : List ℕ
  rest = reading.waiting.octets ++ h.passed

  joined : h.fed ++ h.passed ≡ concat packets ++ rest
  joined = ap (λ (l : List ℕ). l ++ h.passed) h.split.joined ∙ append_assoc (concat packets) reading.waiting.octets h.passed

  rest_is : drop reading.waiting.at (h.fed ++ h.passed) ≡ rest
  rest_is = ap (λ (n : ℕ). drop n (h.fed ++ h.passed)) h.split.place ∙ ap (drop (length (concat packets))) joined ∙ drop-append_seam (concat packets) rest

  none_more : (h.passed ≡ []) ⊎ (why_of reading.waiting.octets ≡ Version) → BeginsWithNoPacket rest × (why_of reading.waiting.octets ≡ why_of rest)
  none_more (inl nothing) =
      let same : reading.waiting.octets ≡ rest = sym (ap (λ (l : List ℕ). reading.waiting.octets ++ l) nothing ∙ append-nil reading.waiting.octets) in
      (subst BeginsWithNoPacket same none, ap why_of same)
  none_more (inr version) =
      let all = version_more reading.waiting.octets h.passed version in
      (version_is_none rest all, version ∙ sym all)

  received : IsWholeDump (h.fed ++ h.passed) packets (end_of_reading reading)
  received =
      let long = packets_long packets h.split.each in
      let all = ap length joined in
      let parts = length-append (concat packets) rest in
      let place = h.split.place in
      let more = none_more h.passed_over in
      record {
        within = omega (arith, all, parts, place);
        parts = record {
          joined = joined ∙ ap (λ (l : List ℕ). concat packets ++ l) (sym rest_is);
          each = h.split.each;
          no_more = subst BeginsWithNoPacket (sym rest_is) more.0;
        };
        few = omega (arith, long, all, parts);
        why = more.1 ∙ ap why_of (sym rest_is);
      }

  -- where none is left, it was read to its end
  pub read_to_end : IfSome left (λ octets. octets ≡ []) → IsDumpRead limit first packets (end_of_reading reading)
  read_to_end ends = record {
    dump = h.fed ++ h.passed;
    whole = taken_end first left (h.fed ++ h.passed) h.taken ends;
    short = let within = h.within in omega (arith, within);
    received = received;
  }

-- where it may have no octet more and has one, it is too long
pub read_too_long : (limit : ℕ) (first left : Option (List ℕ)) (packets : List (List ℕ)) (reading : Reading) → HasGiven limit first left packets reading → reading.room ≡ 0
    → IfSome left (λ octets. 0 < length octets) → IfSome first (λ octets. limit < length octets)
read_too_long limit first left packets reading h none more =
    let within = h.within in
    let full : length (h.fed ++ h.passed) ≡ limit = omega (arith, within, none) in
    subst (λ (n : ℕ). IfSome first (λ octets. n < length octets)) full (read_fewer first left (h.fed ++ h.passed) h.taken more)

-- a piece wasn't read, and so no packet is given
pub no_packet : (left0 left : Option (List ℕ)) (old reading : Reading)
    → ((limit : ℕ) (first : Option (List ℕ)) (packets : List (List ℕ)) → HasGiven limit first left0 packets old → HasGiven limit first left packets reading)
    → (fault : ReadFault) → IsNoPiece left reading.room fault → IsNoPacket left0 old fault
no_packet left0 left old reading given faulted.Failed why = tt
no_packet left0 left old reading given faulted.TooLong why = λ limit first packets h. read_too_long limit first left packets reading (given limit first packets h) why.0 why.1
no_packet left0 left old reading given faulted.OutOfMemory why = tt
no_packet left0 left old reading given faulted.Missing why = why
