-- A dump that is printed.
use Rattle.std.proofs.Common.{◌≡◌, ◌⊎◌, ◌∙◌, inl, inr, ℤ, ℕ, ◌≤◌, ◌-◌, List, [], ◌∷◌, ◌++◌, length, true, Option, Some, None, refl, sym, ap, subst, append_assoc, arith}
use Rattle.std.specs.Prelude.{pos}
use Rattle.std.proofs.lemmas.List.{length-append}
use Rattle.std.specs.List.{concat}
use Rattle.arch_disk.specs.Disk.{Device}
use Rattle.arch_types.specs.Dump.{IsDump}
use Rattle.refusals.specs.declared.refusal.BadKind.{BadKind}
use Rattle.refusals.specs.declared.refusal.Refusal.{Refusal}
use Rattle.refusals.specs.declared.refusal.Refusal.TheVariants.{BadPacket}
use Rattle.outer_traits.specs.Outside.{WritesSome}
use Rattle.command_plans.specs.Plan.{Requires, Way, is_interruption, refusal_at}
use Rattle.command_runs.specs.Command.{Progress, printing_then_plan}
use Rattle.command_runs.specs.DumpRest.{IsBadRest, bad_kind_of, ending_of_rest}
use Rattle.command_runs.specs.Moment.{IsMomentOf}
use Rattle.command_runs.proofs.DumpRest.{bad_ending}
use Rattle.command_laws.specs.Calls.{Call, IsRefusedBy, Prints, PrintsSome, Succeeded, WasInterrupted}
use Rattle.command_laws.specs.Dumps.{IsDumpPrinted}
use Rattle.command_laws.proofs.Readings.{IsNoBadPacket}
use Rattle.command_laws.proofs.Runs.{IsEndOf, all_is_some, none_is_some, none_or_some, or_unwritten, reported, same_refusal}

-- there's a moment that the clock tells, or one in its range
pub some_moment : (clock : Option ℤ) → (moment : ℤ) × IsMomentOf clock moment
some_moment None = (pos 0, (omega arith, omega arith))
some_moment (Some known) = (known, refl)

-- ---- the rest

-- a rest is no longer than its dump
pub rest_fits : (dump rest : List ℕ) (packets : List (List ℕ)) → IsDump dump packets rest → length rest ≤ length dump
rest_fits dump rest packets parts = let all = ap (λ (l : List ℕ). length l) parts.joined in let two = length-append (concat packets) rest in omega (arith, all, two)

-- a BadPacket is that of the rest
pub bad_rest_of : (dump rest : List ℕ) (at : ℕ) (kind : BadKind) → length rest ≤ length dump → ending_of_rest dump rest ≡ Some (BadPacket at kind) → IsBadRest dump rest at kind
bad_rest_of dump [] at kind fits is = absurd (cc (is))
bad_rest_of dump (octet ∷ rest) at kind fits is =
    let place : length dump - length (octet ∷ rest) ≡ at = cc (is) in
    let why : bad_kind_of octet ≡ kind = cc (is) in
    (omega (arith, place, fits), sym why)

-- where there's no refusal nothing is left
pub none_left : (dump rest : List ℕ) → ending_of_rest dump rest ≡ None → rest ≡ []
none_left dump [] is = refl
none_left dump (octet ∷ rest) is = absurd (cc (is))

-- ---- the text

-- lines, and a last one where nothing is left
abbrev pub text_by : List ℕ → List ℕ → List ℕ → List ℕ
text_by [] lines last = lines ++ last
text_by (octet ∷ rest) lines last = lines

-- a prefix of a front is one of the whole
longer : (before now : Option (List ℕ)) (front last : List ℕ) → WritesSome before now front → WritesSome before now (front ++ last)
longer None now front last some = some
longer (Some octets) now front last some = (some.0, some.1 ++ last, sym (append_assoc some.0 some.1 last) ∙ ap (λ (t : List ℕ). t ++ last) some.2, some.3)

not_bad : {at : ℕ} {kind : BadKind} (refusal : Refusal) → refusal ≡ BadPacket at kind → (is_interruption refusal ≡ true) ⊎ IsNoBadPacket refusal → ⊥
not_bad {at = at} {kind = kind} refusal is other = go (subst (λ (r : Refusal). (is_interruption r ≡ true) ⊎ IsNoBadPacket r) is other)
  where
    go : (is_interruption (BadPacket at kind) ≡ true) ⊎ IsNoBadPacket (BadPacket at kind) → ⊥
    go (inl cut) = cc (cut)
    go (inr none) = none

module _ {D : Type 0} (e : Call D) (lines last : List ℕ) where
  some_of : (rest : List ℕ) → PrintsSome e (text_by rest lines last) → PrintsSome e (lines ++ last)
  some_of [] some = some
  some_of (octet ∷ rest) some = longer e.output.written e.output'.written lines last some

  all_but : (rest : List ℕ) → (rest ≡ [] → ⊥) → Prints e (text_by rest lines last) → Prints e lines
  all_but [] left all = absurd (left refl)
  all_but (octet ∷ rest) left all = all

  all_of : (rest : List ℕ) → rest ≡ [] → Prints e (text_by rest lines last) → Prints e (lines ++ last)
  all_of [] none all = all
  all_of (octet ∷ rest) none all = absurd (cc (none))

  bad_left : (dump rest : List ℕ) (at : ℕ) (kind : BadKind) → IsBadRest dump rest at kind → rest ≡ [] → ⊥
  bad_left dump [] at kind bad none = bad
  bad_left dump (octet ∷ rest) at kind bad none = cc (none)

  -- it was refused otherwise than by a BadPacket
  other_refusal : (refusal : Refusal) → is_interruption refusal ≡ true ⊎ IsNoBadPacket refusal → e.report.refusal ≡ Some refusal → PrintsSome e (lines ++ last) → (dump rest : List ℕ)
      → IsDumpPrinted e dump rest lines last
  other_refusal refusal other is some dump rest = record {
    some = some;
    whole = λ none. none_or_some e.report.refusal refusal is none;
    bad = λ at kind bad. absurd (not_bad refusal (same_refusal e.report.refusal refusal (BadPacket at kind) is bad) other);
  }

  -- nothing was printed
  pub silent_dump : (refusal : Refusal) → IsNoBadPacket refusal → e.report.refusal ≡ Some refusal → Prints e [] → (dump rest : List ℕ) → IsDumpPrinted e dump rest lines last
  silent_dump refusal other is silent dump rest = other_refusal refusal (inr other) is (none_is_some e (lines ++ last) silent) dump rest

  -- some of the text was printed
  pub some_dump : (refusal : Refusal) → is_interruption refusal ≡ true → e.report.refusal ≡ Some refusal → (dump rest : List ℕ) → PrintsSome e (text_by rest lines last) → IsDumpPrinted e dump rest lines last
  some_dump refusal cut is dump rest some = other_refusal refusal (inl cut) is (some_of rest some) dump rest

  -- or all of it
  pub whole_dump : (dump rest : List ℕ) (packets : List (List ℕ)) → IsDump dump packets rest → e.report.refusal ≡ ending_of_rest dump rest → Prints e (text_by rest lines last)
      → IsDumpPrinted e dump rest lines last
  whole_dump dump rest packets parts ended all = record {
    some = some_of rest (all_is_some e (text_by rest lines last) all);
    whole = λ none. let left = none_left dump rest (sym ended ∙ none) in (left, all_of rest left all);
    bad = λ at kind is.
        let bad = bad_rest_of dump rest at kind (rest_fits dump rest packets parts) (sym ended ∙ is) in
        (bad, all_but rest (bad_left dump rest at kind bad) all);
  }

-- ---- what is due

module _ {D : Type 0} {device : Device D} (e : Call D) (way : Way Progress ⊥) (at : IsEndOf device e way) (s : Progress) (text dump rest : List ℕ) where
  ends_so : Requires (printing_then_plan s text (ending_of_rest dump rest)) way → (e.report.refusal ≡ ending_of_rest dump rest) ⊎ WasInterrupted device e
  ends_so (inl is) = or_unwritten e way at (e.report.refusal ≡ ending_of_rest dump rest) _ is
  ends_so (inr is) = inl (reported e way at ∙ ap refusal_at is)

  -- all of a dump of packets alone
  pub whole_due : rest ≡ [] → Requires (printing_then_plan s text (ending_of_rest dump rest)) way → Succeeded e ⊎ WasInterrupted device e
  whole_due none required = elim (ends_so required) [
    | inl ended ↦ inl (ended ∙ ap (ending_of_rest dump) none)
    | inr cut ↦ inr cut
  ]

  -- and else the BadPacket of the rest
  pub bad_due : (place : ℕ) (kind : BadKind) → IsBadRest dump rest place kind → Requires (printing_then_plan s text (ending_of_rest dump rest)) way → IsRefusedBy device e (BadPacket place kind)
  bad_due place kind bad required = elim (ends_so required) [
    | inl ended ↦ inl (ended ∙ sym (bad_ending dump rest place kind bad))
    | inr cut ↦ inr cut
  ]
