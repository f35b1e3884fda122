-- How the answer of a function stands to what is read on lists, and to the spellings.
use Rattle.std.specs.Prelude.{◌≡◌, ◌++◌, ℕ, List, Option, Some, None, Result, Ok, Err, IfOk, MatchResult}
use Rattle.octet_fields.specs.declared.fault.DecodeError.{DecodeError}
use Rattle.octet_fields.specs.declared.fault.DecodeError.TheVariants as errors

-- The answer, seen by view, is what reading gives, and a refusal is that it gives nothing.
abbrev pub Answers : {X Y E : Type 0} → (X → Y) → Result X E → Option Y → Type 0
Answers view (Ok x) read = read ≡ Some (view x)
Answers view (Err e) read = read ≡ None

-- A refusal is that nothing is read, or that memory ran out.
abbrev pub Fails : {Y : Type 0} → DecodeError → Option Y → Type 0
Fails errors.OutOfMemory read = Unit {0}
Fails errors.Malformed read = read ≡ None

-- The answer, seen by view, is what reading gives, unless memory ran out.
abbrev pub Gives : {X Y : Type 0} → (X → Y) → Result X DecodeError → Option Y → Type 0
Gives view (Ok x) read = read ≡ Some (view x)
Gives view (Err e) read = Fails e read

-- The octets are the spelling of what was read.
abbrev pub ReadsOnly : {X A E : Type 0} → (A → Type 0) → (A → List ℕ) → (X → A) → List ℕ → Result X E → Type 0
ReadsOnly Fits spell view octets result = IfOk result (λ x. Fits (view x) × (octets ≡ spell (view x)))

-- Where the octets are the spelling of a value, that value is read, or the refusal is one that was free.
abbrev pub ReadsEach : {X A E : Type 0} → (A → Type 0) → (A → List ℕ) → (X → A) → (E → Type 0) → List ℕ → Result X E → Type 0
ReadsEach {A = A} Fits spell view IsFree octets result = (a : A) → Fits a → octets ≡ spell a → MatchResult result (λ x. view x ≡ a) IsFree

-- The octets begin with the spelling of what was read, and go on with what was left.
abbrev pub ReadsOnlyFirst : {X A E : Type 0} → (A → Type 0) → (A → List ℕ) → (X → A × List ℕ) → List ℕ → Result X E → Type 0
ReadsOnlyFirst Fits spell view octets result = IfOk result (λ x. Fits (view x).0 × (octets ≡ spell (view x).0 ++ (view x).1))

-- Where the octets begin with the spelling of a value, that value is read, or the refusal is one that was free.
abbrev pub ReadsEachFirst : {X A E : Type 0} → (A → Type 0) → (A → List ℕ) → (X → A × List ℕ) → (E → Type 0) → List ℕ → Result X E → Type 0
ReadsEachFirst {A = A} Fits spell view IsFree octets result = (a : A) (rest : List ℕ) → Fits a → octets ≡ spell a ++ rest → MatchResult result (λ x. view x ≡ (a, rest)) IsFree
