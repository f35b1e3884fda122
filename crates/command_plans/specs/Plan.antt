-- A plan: in which order a command looks, what it asks of the outside, and what it has done where it ends.
use Rattle.std.specs.Prelude.{◌≡◌, ◌⊎◌, Bool, true, false, Option, Some, None}
use Rattle.refusals.specs.declared.refusal.Refusal.{Refusal}
use Rattle.refusals.specs.declared.refusal.Refusal.TheVariants.{ReadFault, WriteFault, DiskFault, OutOfMemory}

-- what may end a plan though no answer of the outside does: want of memory, or a call of the inputs, the output or the disk that fails
pub data Interruption : Type 0 where
  OfMemory : Interruption
  OfInputs : Interruption
  OfOutput : Interruption
  OfDisk : Interruption

-- the refusal that an interruption is answered by
abbrev pub interruption_refusal : Interruption → Refusal
interruption_refusal OfMemory = OutOfMemory
interruption_refusal OfInputs = ReadFault
interruption_refusal OfOutput = WriteFault
interruption_refusal OfDisk = DiskFault

-- whether a refusal is that of an interruption
abbrev pub is_interruption : Refusal → Bool
is_interruption OutOfMemory = true
is_interruption ReadFault = true
is_interruption WriteFault = true
is_interruption DiskFault = true
is_interruption other = false

-- which kinds of calls failed
abbrev pub FailedCalls : Type 0
FailedCalls = Interruption → Bool

-- no call failed
abbrev pub no_failed_calls : FailedCalls
no_failed_calls kind = false

-- a call of this kind failed, beside those that had failed before
abbrev pub with_failed_call : Interruption → FailedCalls → FailedCalls
with_failed_call OfMemory failed OfMemory = true
with_failed_call OfInputs failed OfInputs = true
with_failed_call OfOutput failed OfOutput = true
with_failed_call OfDisk failed OfDisk = true
with_failed_call kind failed other = failed other

-- A plan that gives an X, or ends. S says what was done by then.
pub data CommandPlan (S X : Type 0) : Type 1 where
  -- it gives this, and goes on
  Return : X → CommandPlan S X
  -- it ends here, by a refusal or by none
  Stop : S → Option Refusal → CommandPlan S X
  -- this interruption may end it here; else it goes on
  May : Interruption → S → CommandPlan S X → CommandPlan S X
  -- the outside answers, in one way only where it is known
  Question : {A : Type 0} → (A → Type 0) → (A → CommandPlan S X) → CommandPlan S X
  -- nothing determines which: the moment of a clock that isn't known, the turns of threads
  Choose : {A : Type 0} → (A → Type 0) → (A → CommandPlan S X) → CommandPlan S X

-- one plan, and behind what it gives another
abbrev pub and_then : {S X Y : Type 0} → CommandPlan S X → (X → CommandPlan S Y) → CommandPlan S Y
and_then (Return x) f = f x
and_then (Stop s refusal) f = Stop s refusal
and_then (May interruption s p) f = May interruption s (and_then p f)
and_then (Question is next) f = Question is (λ a. and_then (next a) f)
and_then (Choose is next) f = Choose is (λ a. and_then (next a) f)

-- the way that a plan went: it gave an X, ended in its order, or was interrupted
pub data Way (S X : Type 0) : Type 0 where
  Returned : X → Way S X
  Stopped : S → Option Refusal → Way S X
  Interrupted : S → Interruption → Way S X

-- the plan may go this way
abbrev pub Allows : {S X : Type 0} → CommandPlan S X → Way S X → Type 0
Allows (Return x) way = way ≡ Returned x
Allows (Stop s refusal) way = way ≡ Stopped s refusal
Allows (May interruption s p) way = (way ≡ Interrupted s interruption) ⊎ Allows p way
Allows (Question {A = A} is next) way = (a : A) × is a × Allows (next a) way
Allows (Choose {A = A} is next) way = (a : A) × is a × Allows (next a) way

-- the plan has to go this way, but for an interruption at one of its places: by each answer of the outside, and by some choice
abbrev pub Requires : {S X : Type 0} → CommandPlan S X → Way S X → Type 0
Requires (Return x) way = way ≡ Returned x
Requires (Stop s refusal) way = way ≡ Stopped s refusal
Requires (May interruption s p) way = (way ≡ Interrupted s interruption) ⊎ Requires p way
Requires (Question {A = A} is next) way = (a : A) → is a → Requires (next a) way
Requires (Choose {A = A} is next) way = (a : A) × is a × Requires (next a) way

-- the outside has one answer to each question
abbrev pub IsDetermined : {S X : Type 0} → CommandPlan S X → Type 0
IsDetermined (Return x) = Unit {0}
IsDetermined (Stop s refusal) = Unit {0}
IsDetermined (May interruption s p) = IsDetermined p
IsDetermined (Question {A = A} is next) = ((a b : A) → is a → is b → a ≡ b) × ((a : A) → is a → IsDetermined (next a))
IsDetermined (Choose {A = A} is next) = (a : A) → is a → IsDetermined (next a)

-- each place at which the plan may end has this
abbrev pub EachEnd : {S X : Type 0} → (Way S ⊥ → Type 0) → CommandPlan S X → Type 0
EachEnd P (Return x) = Unit {0}
EachEnd P (Stop s refusal) = P (Stopped s refusal)
EachEnd P (May interruption s p) = P (Interrupted s interruption) × EachEnd P p
EachEnd P (Question {A = A} is next) = (a : A) → is a → EachEnd P (next a)
EachEnd P (Choose {A = A} is next) = (a : A) → is a → EachEnd P (next a)

-- the refusal at the end of a way
abbrev pub refusal_at : {S : Type 0} → Way S ⊥ → Option Refusal
refusal_at (Returned x) = None
refusal_at (Stopped s refusal) = refusal
refusal_at (Interrupted s interruption) = Some (interruption_refusal interruption)

-- the refusal is the one that has to come, but for an interruption at its place
abbrev pub IsDue : {S : Type 0} → CommandPlan S ⊥ → Option Refusal → Type 0
IsDue {S = S} plan refusal = (way : Way S ⊥) × Requires plan way × (refusal_at way ≡ refusal)

-- the same plan, with other words for what was done
abbrev pub map_done : {S T X : Type 0} → (S → T) → CommandPlan S X → CommandPlan T X
map_done f (Return x) = Return x
map_done f (Stop s refusal) = Stop (f s) refusal
map_done f (May interruption s p) = May interruption (f s) (map_done f p)
map_done f (Question is next) = Question is (λ a. map_done f (next a))
map_done f (Choose is next) = Choose is (λ a. map_done f (next a))

-- the same way, with other words for what was done
abbrev pub way_map_done : {S T X : Type 0} → (S → T) → Way S X → Way T X
way_map_done f (Returned x) = Returned x
way_map_done f (Stopped s refusal) = Stopped (f s) refusal
way_map_done f (Interrupted s interruption) = Interrupted (f s) interruption
