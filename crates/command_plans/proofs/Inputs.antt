-- How inputs are read.
use Rattle.std.proofs.Common.{◌≡◌, inl, inr, ℕ, ◌+◌, ◌≤◌, ◌<◌, List, length, Bool, true, false, Option, Some, None, refl, sym, ◌∙◌, ap, arith}
use Rattle.std.specs.Prelude.{IfSome, IsNone, IsSome, IsSomeAnd}
use Rattle.std.specs.FinMap.{get}
use Rattle.refusals.specs.declared.refusal.Refusal.TheVariants as refused
use Rattle.refusals.specs.declared.refusal.Which.{Which}
use Rattle.refusals.specs.Limits.{limit_of}
use Rattle.outer_traits.specs.Outside.{Files}
use Rattle.outer_traits.specs.Whole.{IsInput, IsThere}
use Rattle.command_plans.specs.Plan.{OfMemory, OfInputs, Returned, Stopped, Interrupted, Allows, IsDetermined}
use Rattle.command_plans.specs.Inputs.{InputRead, OverLimit, WithinLimit, IsInputAs, IsThereAs, after_reading, after_look, input_plan}

module _ {X : Type 0} (files : Option Files) (which : Which) (of : List ℕ → X) (name : List ℕ) (sources : ℕ) where
  -- no memory, before a source was given or after,
  pub no_memory : Allows (input_plan files which of name sources) (Interrupted sources OfMemory)
  no_memory = inl refl

  pub no_memory_then : IsThere files name → Allows (input_plan files which of name sources) (Interrupted (sources + 1) OfMemory)
  no_memory_then there = inr (true, there, inr (inl refl))

  -- none of the name,
  pub input_missing : IfSome files (λ all. IsNone (get all name)) → Allows (input_plan files which of name sources) (Stopped sources (Some (refused.Missing name)))
  input_missing none = inr (false, none, refl)

  -- a call that failed: that of the opening, or a read,
  pub opening_failed : IsThere files name → Allows (input_plan files which of name sources) (Interrupted sources OfInputs)
  opening_failed there = inr (true, there, inl refl)

  pub read_failed : IsThere files name → Allows (input_plan files which of name sources) (Interrupted (sources + 1) OfInputs)
  read_failed there = inr (true, there, inr (inr (inl refl)))

some_long : (most : ℕ) (o : Option (List ℕ)) → IsSomeAnd o (λ octets. most < length octets) → IsSome o
some_long most None h = absurd h
some_long most (Some octets) h = refl

there_long : (files : Option Files) (name : List ℕ) (most : ℕ) → IfSome files (λ all. IsSomeAnd (get all name) (λ octets. most < length octets)) → IsThere files name
there_long None name most h = tt
there_long (Some all) name most h = some_long most (get all name) h

pub there_some : (files : Option Files) (name octets : List ℕ) → IsInput files name octets → IsThere files name
there_some None name octets h = tt
there_some (Some all) name octets h = rw h refl

-- one that is too long,
pub input_long : {X : Type 0} (files : Option Files) (which : Which) (of : List ℕ → X) (name : List ℕ) (sources : ℕ) →
    IfSome files (λ all. IsSomeAnd (get all name) (λ octets. limit_of which < length octets)) → Allows (input_plan files which of name sources) (Stopped (sources + 1) (Some (refused.Limit which (limit_of which))))
input_long files which of name sources long = inr (true, there_long files name (limit_of which) long, inr (inr (inr (OverLimit, long, refl))))

-- and one that was read
pub input_was_read : {X : Type 0} (files : Option Files) (which : Which) (of : List ℕ → X) (name octets : List ℕ) (sources : ℕ) → IsInput files name octets → length octets ≤ limit_of which →
    Allows (input_plan files which of name sources) (Returned (of octets))
input_was_read files which of name octets sources h short =
    inr (true, there_some files name octets h, inr (inr (inr (WithinLimit (of octets), (octets, h, short, refl), refl))))

-- ---- known inputs

there_or : (o : Option (List ℕ)) → IsSome o → IsNone o → ⊥
there_or None some none = cc
there_or (Some octets) some none = cc

pub there_once : (all : Files) (name : List ℕ) (a b : Bool) → IsThereAs (Some all) name a → IsThereAs (Some all) name b → a ≡ b
there_once all name true true h k = refl
there_once all name false false h k = refl
there_once all name true false h k = absurd (there_or (get all name) h k)
there_once all name false true h k = absurd (there_or (get all name) k h)

-- a known input was read as its octets are
pub read_as : {X : Type 0} (files : Option Files) (which : Which) (of : List ℕ → X) (name : List ℕ) (x : X) (P : List ℕ → Type 0) → IsInputAs files which of name (WithinLimit x) →
    ((octets : List ℕ) → length octets ≤ limit_of which → x ≡ of octets → P octets) → IfSome files (λ all. IsSomeAnd (get all name) P)
read_as None which of name x P h each = tt
read_as (Some all) which of name x P h each = rw h.1 (each h.0 h.2 h.3)

some_once : (o : Option (List ℕ)) (a b : List ℕ) → o ≡ Some a → o ≡ Some b → a ≡ b
some_once o a b h k = let same : ◌≡◌ {A = Option (List ℕ)} (Some a) (Some b) = sym h ∙ k in cc

module _ {X : Type 0} (which : Which) (of : List ℕ → X) where
  long_or : (o : Option (List ℕ)) (octets : List ℕ) → IsSomeAnd o (λ octets. limit_of which < length octets) → o ≡ Some octets → length octets ≤ limit_of which → ⊥
  long_or o octets h is few = let long : limit_of which < length octets = rw is at h in omega (arith, long, few)

  input_once : (all : Files) (name : List ℕ) (a b : InputRead X) → IsInputAs (Some all) which of name a → IsInputAs (Some all) which of name b → a ≡ b
  input_once all name OverLimit OverLimit h k = refl
  input_once all name OverLimit (WithinLimit x) h k = absurd (long_or (get all name) k.0 h k.1 k.2)
  input_once all name (WithinLimit x) OverLimit h k = absurd (long_or (get all name) h.0 k h.1 h.2)
  input_once all name (WithinLimit x) (WithinLimit y) h k = ap WithinLimit (h.3 ∙ ap of (some_once (get all name) h.0 k.0 h.1 k.1) ∙ sym k.3)

  each_input : (sources : ℕ) (a : InputRead X) → IsDetermined (after_reading which sources a)
  each_input sources OverLimit = tt
  each_input sources (WithinLimit x) = tt

  each_there : (all : Files) (name : List ℕ) (sources : ℕ) (b : Bool) → IsDetermined (after_look (Some all) which of name sources b)
  each_there all name sources true = (input_once all name, λ a h. each_input (sources + 1) a)
  each_there all name sources false = tt

  -- a known input is read in one way
  pub reads_determined : (all : Files) (name : List ℕ) (sources : ℕ) → IsDetermined (input_plan (Some all) which of name sources)
  reads_determined all name sources = (there_once all name, λ b h. each_there all name sources b)
