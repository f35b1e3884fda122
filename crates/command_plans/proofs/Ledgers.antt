-- Ledgers add up.
use Rattle.std.proofs.Common.{◌≡◌, ℕ, zero, suc, ◌+◌, ◌-◌, ◌^◌, ◌≤◌, Bool, true, false, refl, arith, ◌∙◌}
use Rattle.std.specs.Prelude.{min}
use Rattle.outer_traits.specs.Outside.{HasRisen}
use Rattle.outer_traits.specs.States.{InputsState, ClockState}
use Rattle.command_plans.specs.Ledger.{Counted, given_more, UsedInputs, UsedClock}

-- ---- counts

-- no call failed, and then one did or none
pub counted_then : (a b c : ℕ) (failed : Bool) → Counted false a b → Counted failed b c → Counted failed a c
counted_then a b c true e h = rw (← e) h
counted_then a b c false e h = h ∙ e

-- a call failed
pub risen_counted : (before now : ℕ) → before ≤ now → HasRisen before now → Counted true before now
risen_counted before now least risen = (least, risen)

-- ---- uses

-- nothing was asked of the inputs
pub inputs_unused : (state : InputsState) → UsedInputs state state 0 false
inputs_unused state = record { files = refl; closed = λ _. refl; gave = refl; counted = refl; reliable = λ sure. (sure, refl) }

pub given_then : (a b c m n t : ℕ) → t ≡ m + n → b ≡ given_more m a → c ≡ given_more n b → c ≡ given_more t a
given_then a b c zero zero zero s e f = f ∙ e
given_then a b c zero zero (suc t) s e f = absurd (omega (arith, s))
given_then a b c zero (suc n) zero s e f = absurd (omega (arith, s))
given_then a b c zero (suc n) (suc t) s e f =
    let first : b ≡ a = e in let next : c ≡ min (b + suc n) (2 ^ 64 - 1) = f in omega (arith, s, first, next)
given_then a b c (suc m) zero zero s e f = absurd (omega (arith, s))
given_then a b c (suc m) zero (suc t) s e f =
    let first : b ≡ min (a + suc m) (2 ^ 64 - 1) = e in let next : c ≡ b = f in omega (arith, s, first, next)
given_then a b c (suc m) (suc n) zero s e f = absurd (omega (arith, s))
given_then a b c (suc m) (suc n) (suc t) s e f =
    let first : b ≡ min (a + suc m) (2 ^ 64 - 1) = e in let next : c ≡ min (b + suc n) (2 ^ 64 - 1) = f in omega (arith, s, first, next)

-- a use in which no call failed, and then another
pub used_inputs_then : (a b c : InputsState) (m n : ℕ) (failed : Bool) → UsedInputs a b m false → UsedInputs b c n failed → UsedInputs a c (m + n) failed
used_inputs_then a b c m n failed first next = record {
  files = next.files ∙ first.files;
  closed = λ few.
      let back = first.closed (omega (arith, few)) in
      next.closed (omega (arith, few, back)) ∙ back;
  gave = given_then a.given b.given c.given m n (m + n) refl first.gave next.gave;
  counted = counted_then a.faults b.faults c.faults failed first.counted next.counted;
  reliable = λ sure. let now = first.reliable sure in let after = next.reliable now.0 in (after.0, after.1 ∙ now.1);
}

-- nothing was asked of the clock
pub clock_unused : (state : ClockState) → UsedClock state state
clock_unused state = record { known = refl; stands = λ sure. (sure, refl) }
