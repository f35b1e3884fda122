-- How the rest of a dump is answered.
use Rattle.std.proofs.Common.{◌≡◌, ℕ, ◌-◌, List, [], ◌∷◌, length, Some, arith, ◌+◌, ◌≤◌, drop, Bool, true, false, refl, ap}
use Rattle.refusals.specs.declared.refusal.Refusal.TheVariants.{BadPacket}
use Rattle.refusals.specs.declared.refusal.BadKind.{BadKind}
use Rattle.command_runs.specs.DumpRest.{ending_of, ending_of_rest, IsBadRest}
use Rattle.std.specs.Prelude.{nat_lt, if◌then◌else◌}
use Rattle.std.proofs.lemmas.List.{length-drop}
use Rattle.refusals.specs.declared.refusal.BadKind.TheVariants as bad
use Rattle.space_packet.specs.declared.dump.Why.{Why}
use Rattle.space_packet.specs.declared.dump.Why.TheVariants as why
use Rattle.space_packet.specs.Rest.{why_of}

pub bad_ending : (dump rest : List ℕ) (at : ℕ) (kind : BadKind) → IsBadRest dump rest at kind → Some (BadPacket at kind) ≡ ending_of_rest dump rest
bad_ending dump [] at kind h = absurd h
bad_ending dump (octet ∷ rest) at kind h =
    let place : at ≡ length dump - length (octet ∷ rest) = let sum = h.0 in omega arith in
    let why = h.1 in cc

pub rest_is_none : (rest : List ℕ) → why.End ≡ why_of rest → rest ≡ []
rest_is_none [] e = refl
rest_is_none (octet ∷ rest) e = absurd (none_cases (nat_lt octet 32) e)
  where
    none_cases : (b : Bool) → why.End ≡ (if b then why.Truncated else why.Version) → ⊥
    none_cases true h = cc
    none_cases false h = cc

-- the kind of a bad packet, as what the rest of a dump is
abbrev pub why_bad : BadKind → Why
why_bad bad.Version = why.Version
why_bad bad.Truncated = why.Truncated

kind_cases : (b : Bool) (kind : BadKind) → why_bad kind ≡ (if b then why.Truncated else why.Version) → kind ≡ (if b then bad.Truncated else bad.Version)
kind_cases true bad.Version e = cc
kind_cases true bad.Truncated e = refl
kind_cases false bad.Version e = refl
kind_cases false bad.Truncated e = cc

pub bad_rest : (dump rest : List ℕ) (at : ℕ) (kind : BadKind) → at + length rest ≡ length dump → why_bad kind ≡ why_of rest → IsBadRest dump rest at kind
bad_rest dump [] at bad.Version len e = cc
bad_rest dump [] at bad.Truncated len e = cc
bad_rest dump (octet ∷ rest) at kind len e = (len, kind_cases (nat_lt octet 32) kind e)

-- where a rest begins, and its length
pub end_is : (dump : List ℕ) (at : ℕ) → at ≤ length dump → at + length (drop at dump) ≡ length dump
end_is dump at within = let len = length-drop at dump in omega (arith, len, within)

-- the rest of a dump that begins at an octet tells why the dump ends there
pub ending_same : (dump rest : List ℕ) (at : ℕ) → at + length rest ≡ length dump → ending_of (why_of rest) at ≡ ending_of_rest dump rest
ending_same dump [] at len = refl
ending_same dump (octet ∷ rest) at len = go (nat_lt octet 32) (omega (arith, len))
  where
    go : (b : Bool) → at ≡ length dump - length (octet ∷ rest)
        → ending_of (if b then why.Truncated else why.Version) at ≡ Some (BadPacket (length dump - length (octet ∷ rest)) (if b then bad.Truncated else bad.Version))
    go true place = ap (λ (n : ℕ). Some (BadPacket n bad.Truncated)) place
    go false place = ap (λ (n : ℕ). Some (BadPacket n bad.Version)) place
