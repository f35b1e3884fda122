-- The asks of a sheet as a function of its octets.
use Rattle.std.proofs.Common.{◌≡◌, ◌∙◌, ◌⊎◌, ◌<◌, ◌≤◌, inl, inr, ℕ, List, length, map, drop, Bool, true, false, Option, Some, None, refl, ap, sym, subst, arith}
use Rattle.std.specs.Prelude.{Result, Ok, Err, nat_lt, option_map, if◌then◌else◌}
use Rattle.std.proofs.lemmas.Bool.Decides.{nat_tests}
use Rattle.std.proofs.lemmas.List.{length-map}
use Rattle.asks.specs.declared.ask.Ask.{Ask}
use Rattle.refusals.specs.declared.refusal.Refusal.{Refusal}
use Rattle.refusals.specs.declared.refusal.Refusal.TheVariants.{BadSheet, Limit, OutOfMemory}
use Rattle.refusals.specs.declared.refusal.SheetName.{SheetName}
use Rattle.refusals.specs.declared.refusal.SheetName.TheVariants as sheet
use Rattle.refusals.specs.declared.refusal.Which.{Which}
use Rattle.refusals.specs.declared.refusal.Which.TheVariants as which
use Rattle.refusals.specs.Limits.{limit_of}
use Rattle.command_plans.specs.Plan.{is_interruption}
use Rattle.mdb_items.specs.Checks.{or_else}
use Rattle.mdb_sheets.specs.Asks.{IsAsksResult, IsSheetAnswer, ask_of, ask_sheet_fault, ask_sheet_refusal, asks_of, asks_unless}
use Rattle.mdb_sheets.specs.Sheets.{Fields, sheet_of}

not-longer : (limit n : ℕ) → n ≤ limit → nat_lt limit n ≡ false
not-longer limit n h = grind (arith, nat_tests)

longer : (limit n : ℕ) → limit < n → nat_lt limit n ≡ true
longer limit n h = grind (arith, nat_tests)

-- ---- why a sheet is refused

abbrev too_many : Bool → Option Refusal
too_many more = if more then Some (Limit which.Asks (limit_of which.Asks)) else None

abbrev by_fault : Bool → Option (ℕ × ℕ) → Option Refusal
by_fault more fault = or_else (option_map (λ (broken : ℕ × ℕ). BadSheet sheet.Asks broken.0 broken.1) fault) (too_many more)

abbrev more_than : List Fields → Bool
more_than records = nat_lt (limit_of which.Asks) (length (drop 1 records))

same_bad : (name : SheetName) (row rule : ℕ) → name ≡ sheet.Asks → ◌≡◌ {A = Option Refusal} (Some (BadSheet sheet.Asks row rule)) (Some (BadSheet name row rule))
same_bad name row rule e = cc

same_limit : (quantity : Which) (number : ℕ) → quantity ≡ which.Asks → number ≡ limit_of which.Asks →
    ◌≡◌ {A = Option Refusal} (Some (Limit which.Asks (limit_of which.Asks))) (Some (Limit quantity number))
same_limit quantity number is e = cc

-- it breaks a rule,
pub broken_refusal : (records : List Fields) (name : SheetName) (row rule : ℕ) → name ≡ sheet.Asks → ask_sheet_fault records ≡ Some (row, rule) →
    ask_sheet_refusal records ≡ Some (BadSheet name row rule)
broken_refusal records name row rule is e = ap (by_fault (more_than records)) e ∙ same_bad name row rule is

-- it has too many asks,
pub many_refusal : (records : List Fields) (quantity : Which) (number : ℕ) → quantity ≡ which.Asks → number ≡ limit_of which.Asks → ask_sheet_fault records ≡ None →
    limit_of which.Asks < length (drop 1 records) → ask_sheet_refusal records ≡ Some (Limit quantity number)
many_refusal records quantity number is same e h =
    ap (by_fault (more_than records)) e ∙ ap (λ (more : Bool). by_fault more None) (longer (limit_of which.Asks) (length (drop 1 records)) h) ∙ same_limit quantity number is same

-- or neither
pub no_refusal : (records : List Fields) → ask_sheet_fault records ≡ None → length (drop 1 records) ≤ limit_of which.Asks → ask_sheet_refusal records ≡ None
no_refusal records e h = ap (by_fault (more_than records)) e ∙ ap (λ (more : Bool). by_fault more None) (not-longer (limit_of which.Asks) (length (drop 1 records)) h)

-- ---- what was made of a sheet is what its octets say

few_asks : (records : List Fields) (asks : List Ask) → asks ≡ map ask_of (drop 1 records) → length asks ≡ length (drop 1 records)
few_asks records asks is = ap length is ∙ length-map (drop 1 records) ask_of

result_is : (records : List Fields) (result : Result (List Ask) Refusal) → IsAsksResult records result →
    (result ≡ Err OutOfMemory) ⊎ (result ≡ asks_unless (ask_sheet_refusal records) records)
result_is records (Ok asks) h =
    let few = few_asks records asks h.1 in
    let none = no_refusal records h.0 (omega (arith, few, h.2)) in
    inr (ap Ok h.1 ∙ ap (λ (refusal : Option Refusal). asks_unless refusal records) (sym none))
result_is records (Err (BadSheet name row rule)) h = inr (ap (λ (refusal : Option Refusal). asks_unless refusal records) (sym (broken_refusal records name row rule h.0 h.1)))
result_is records (Err (Limit quantity number)) h =
    inr (ap (λ (refusal : Option Refusal). asks_unless refusal records) (sym (many_refusal records quantity number h.0 h.1 h.2 h.3)))
result_is records (Err OutOfMemory) h = inl refl
result_is records (Err other) h = absurd h

-- but for want of memory
pub asks_are_of : (octets : List ℕ) (result : Result (List Ask) Refusal) → IsAsksResult (sheet_of octets) result → (result ≡ Err OutOfMemory) ⊎ (result ≡ asks_of octets)
unfolding asks_of
asks_are_of octets result h = result_is (sheet_of octets) result h

-- a fault interrupts a reading of octets for want of memory alone
of_memory : (records : List Fields) (refusal : Refusal) → IsAsksResult records (Err refusal) → is_interruption refusal ≡ true → refusal ≡ OutOfMemory
of_memory records (BadSheet name row rule) h is = absurd (cc (is))
of_memory records (Limit quantity number) h is = absurd (cc (is))
of_memory records OutOfMemory h is = refl
of_memory records other h is = absurd h

-- and else the octets say so
said : (octets : List ℕ) (refusal : Refusal) → IsAsksResult (sheet_of octets) (Err refusal) → is_interruption refusal ≡ false → Err refusal ≡ asks_of octets
said octets refusal h other = elim (asks_are_of octets (Err refusal) h) [
  | inl memory ↦ let is : refusal ≡ OutOfMemory = cc (memory) in absurd (let wanting : is_interruption OutOfMemory ≡ false = subst (λ (r : Refusal). is_interruption r ≡ false) is other in cc (wanting))
  | inr is ↦ is
]

-- what an answer is by the octets: what they say, or want of memory
pub answer_is : (octets : List ℕ) (asks : Result (List Ask) Refusal) (answer : Result (Result (List Ask) Refusal) Refusal) → IsAsksResult (sheet_of octets) asks → IsSheetAnswer asks answer →
    (answer ≡ Err OutOfMemory) ⊎ (answer ≡ Ok (asks_of octets))
answer_is octets (Ok asks) answer h is = elim (asks_are_of octets (Ok asks) h) [
  | inl memory ↦ absurd (cc (memory))
  | inr same ↦ inr (is ∙ ap Ok same)
]
answer_is octets (Err refusal) answer h (inl is) = inl (is.1 ∙ ap Err (of_memory (sheet_of octets) refusal h is.0))
answer_is octets (Err refusal) answer h (inr is) = inr (is.1 ∙ ap Ok (said octets refusal h is.0))
