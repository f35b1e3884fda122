-- Readings one after the other.
use Rattle.std.proofs.Common.{◌≡◌, inl, inr, ℕ, ◌+◌, false, Some, subst, arith}
use Rattle.std.specs.Prelude.{Err}
use Rattle.refusals.specs.declared.refusal.Refusal.{Refusal}
use Rattle.command_plans.specs.Plan.{CommandPlan, Returned, Stopped, Interrupted, Allows, and_then}
use Rattle.command_plans.proofs.Plans.{gave, ended, cut}
use Rattle.outer_traits.specs.States.{InputsState}
use Rattle.command_plans.proofs.Ledgers.{used_inputs_then}
use Rattle.command_plans.specs.Inputs.{WasRead, AnsweredByPlan, reading_fault}

-- the first was refused or cut off, and so all was
pub first_not_read : {X Y : Type 0} (p : ℕ → CommandPlan ℕ X) (f : ℕ → X → CommandPlan ℕ Y) (refusal : Refusal) (m n : ℕ) (a b : InputsState) → AnsweredByPlan {X = X} m p (Err refusal) a b →
    AnsweredByPlan {X = Y} n (λ before. and_then (p before) (f before)) (Err refusal) a b
first_not_read p f refusal m n a b (inl r) =
    inl (record { sources = r.sources; allows = λ before. ended (p before) (f before) (before + r.sources) (Some refusal) (r.allows before); used = r.used })
first_not_read p f refusal m n a b (inr r) = inr (record {
  failed = r.failed;
  sources = r.sources;
  refusal_is = r.refusal_is;
  allows = λ before. cut (p before) (f before) (before + r.sources) (reading_fault r.failed) (r.allows before);
  used = r.used;
})

behind : (before m n : ℕ) → (before + m) + n ≡ before + (m + n)
behind before m n = omega arith

module _ {X Y : Type 0} (p : ℕ → CommandPlan ℕ X) (g : ℕ → X → CommandPlan ℕ Y) (m : ℕ) (x : X) (a b c : InputsState) (first : WasRead p x m a b) where
  -- the first was read, and so was the second
  pub then_read : (y : Y) (n : ℕ) → WasRead (λ before. g before x) y n b c → WasRead (λ before. and_then (p before) (g (before + m))) y (m + n) a c
  then_read y n next = record {
    allows = λ before. gave (p before) (g (before + m)) x (Returned y) (first.allows before) (next.allows (before + m));
    used = used_inputs_then a b c m n false first.used next.used;
  }

  -- or the second wasn't
  pub then_not_read : (refusal : Refusal) (n : ℕ) → AnsweredByPlan {X = Y} n (λ before. g before x) (Err refusal) b c →
      AnsweredByPlan {X = Y} (m + n) (λ before. and_then (p before) (g (before + m))) (Err refusal) a c
  then_not_read refusal n (inl r) = inl (record {
    sources = m + r.sources;
    allows = λ before. subst (λ (s : ℕ). Allows (and_then (p before) (g (before + m))) (Stopped s (Some refusal))) (behind before m r.sources)
        (gave (p before) (g (before + m)) x (Stopped ((before + m) + r.sources) (Some refusal)) (first.allows before) (r.allows (before + m)));
    used = used_inputs_then a b c m r.sources false first.used r.used;
  })
  then_not_read refusal n (inr r) = inr (record {
    failed = r.failed;
    sources = m + r.sources;
    refusal_is = r.refusal_is;
    allows = λ before. subst (λ (s : ℕ). Allows (and_then (p before) (g (before + m))) (Interrupted s (reading_fault r.failed))) (behind before m r.sources)
        (gave (p before) (g (before + m)) x (Interrupted ((before + m) + r.sources) (reading_fault r.failed)) (first.allows before) (r.allows (before + m)));
    used = used_inputs_then a b c m r.sources r.failed first.used r.used;
  })
