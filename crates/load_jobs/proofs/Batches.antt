-- The batches of a dump, one after the other.
use Rattle.std.proofs.Common.{◌≡◌, ◌⊎◌, inl, inr, ℕ, ◌+◌, ◌*◌, ◌≤◌, List, [], ◌∷◌, ◌++◌, length, take, drop, refl, sym, ap, subst, ◌∙◌, arith, append-nil, append_assoc, length-append}
use Rattle.std.specs.Prelude.{All}
use Rattle.std.specs.List.{concat}
use Rattle.std.proofs.Math.Seq.{take-append_seam, drop-append_seam}
use Rattle.std.proofs.lemmas.List.{take_all}
use Rattle.std.proofs.lemmas.List.Elements.{All-drop, All-head}
use Rattle.std.proofs.lemmas.List.Folds.{concat-append}
use Rattle.arch_types.specs.Dump.{IsDump, BeginsWithNoPacket}
use Rattle.arch_types.specs.Packet.{IsPacket}
use Rattle.space_packet.specs.Cut.{IsCut}
use Rattle.load_session.specs.declared.batches.NextBatch.{NextBatch}
use Rattle.load_session.specs.Batches.{IsBatchOf, batch_at}
use Rattle.load_session.specs.Receiving.{Receiving}
use Rattle.load_session.specs.Session.{IsBetweenBatches}

-- ---- one batch

-- the octets of a dump from one place to another are these packets joined
pub record IsPacketRun (dump : List ℕ) (start : ℕ) (packets : List (List ℕ)) (end : ℕ) : Type 0 where
  pub rising : start + length packets ≤ end
  pub follows : (before : List (List ℕ)) → IsCut dump before start → IsCut dump (before ++ packets) end

-- packets that were taken from a dump for a batch
pub record IsNextBatch (dump : List ℕ) (start end : ℕ) (r : Receiving) (taken : NextBatch) : Type 0 where
  pub packets : List (List ℕ)
  pub run : IsPacketRun dump start packets end
  pub count : taken.packets ≡ length packets
  pub few : length packets ≤ 64
  pub batch : IsBatchOf r packets taken.batch

-- ---- all batches

-- so many whole batches are these packets, or no packet follows their octet
abbrev pub AreWholeBatches : List ℕ → List (List ℕ) → ℕ → Type 0
AreWholeBatches dump packets at = ((batches : ℕ) × (length packets ≡ batches * 64)) ⊎ BeginsWithNoPacket (drop at dump)

-- where no packet follows an octet, no packets stand behind it
none_behind : (dump : List ℕ) (before packets : List (List ℕ)) (at : ℕ) (rest : List ℕ) → IsCut dump before at → dump ≡ concat (before ++ packets) ++ rest → All IsPacket (before ++ packets)
    → BeginsWithNoPacket (drop at dump) → packets ≡ []
none_behind dump before [] at rest cut joined each none = refl
none_behind dump before (p ∷ ps) at rest cut joined each none =
    let front = concat before in
    let first = subst (All IsPacket) (drop-append_seam before (p ∷ ps)) (All-drop IsPacket (length before) (before ++ p ∷ ps) each) in
    let apart : dump ≡ front ++ (p ++ (concat ps ++ rest)) =
    joined ∙ ap (λ (l : List ℕ). l ++ rest) (concat-append before (p ∷ ps)) ∙ append_assoc front (p ++ concat ps) rest
    ∙ ap (λ (l : List ℕ). front ++ l) (append_assoc p (concat ps) rest) in
    let after : drop at dump ≡ p ++ (concat ps ++ rest) =
    sym (drop-append_seam front (drop at dump)) ∙ ap (drop (length front)) (sym cut.joined ∙ apart) ∙ drop-append_seam front (p ++ (concat ps ++ rest)) in
    absurd (none p (concat ps ++ rest) (All-head IsPacket p ps first) after)

-- the place behind so many packets of a dump is between two batches
pub between_is : (dump : List ℕ) (so_far more : List (List ℕ)) (at : ℕ) (rest : List ℕ) → IsCut dump so_far at → AreWholeBatches dump so_far at → IsDump dump (so_far ++ more) rest → IsBetweenBatches (length so_far) (so_far ++ more)
between_is dump so_far more at rest cut (inl whole) parts = inr whole
between_is dump so_far more at rest cut (inr none) parts =
    let nothing = none_behind dump so_far more at rest cut parts.joined parts.each none in
    inl (omega (arith, length-append so_far more, ap length nothing))

-- the batch from a place on
pub batch_is : (first batch more : List (List ℕ)) → length batch ≤ 64 → (length batch ≡ 64) ⊎ (more ≡ []) → batch_at (length first) (first ++ (batch ++ more)) ≡ batch
batch_is first batch more few (inl full) =
    ap (take 64) (drop-append_seam first (batch ++ more)) ∙ ap (λ (n : ℕ). take n (batch ++ more)) (sym full) ∙ take-append_seam batch more
batch_is first batch more few (inr none) =
    ap (take 64) (drop-append_seam first (batch ++ more) ∙ ap (λ (l : List (List ℕ)). batch ++ l) none ∙ append-nil batch) ∙ take_all 64 batch few
