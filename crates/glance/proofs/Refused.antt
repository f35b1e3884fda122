-- Why a request has no answer.
use Rattle.std.proofs.Common.{◌≡◌, ℕ, ℤ, ◌<ℤ◌, ◌≤ℤ◌, Bool, true, false, Option, Some, None, refl, ap, ◌∙◌, inl, inr, arith}
use Rattle.std.specs.Prelude.{int_lt, if◌then◌else◌}
use Rattle.std.specs.Option.{option_map_or}
use Rattle.std.proofs.lemmas.Int.{ints}
use Rattle.asks.specs.declared.ask.Request.{Request}
use Rattle.asks.specs.declared.refusal.AskRefusal.{AskRefusal}
use Rattle.asks.specs.declared.refusal.AskRefusal.TheVariants as asked
use Rattle.asks.specs.Names.{parameter_number}
use Rattle.asks.specs.Refusals.{range_refusal, request_refusal}
use Rattle.refusals.specs.declared.refusal.Refusal.TheVariants as refused
use Rattle.mdb_items.specs.Database.{Database}
use Rattle.glance.specs.Answers.{IsNotAsked}

less_is : (a b : ℤ) → a <ℤ b → int_lt a b ≡ true
less_is a b less = grind (arith, ints, less)

not_less : (a b : ℤ) → b ≤ℤ a → int_lt a b ≡ false
not_less a b most = grind (arith, ints, most)

module _ (db : Database) (request : Request) where
  abbrev By : Option ℕ → Option AskRefusal
  By o = option_map_or (λ number. range_refusal request.from request.to) o (Some asked.UnknownParameter)

  pub unknown_asked : parameter_number db request.parameter ≡ None → IsNotAsked db request refused.UnknownParameter
  unknown_asked none = inl (ap By none, refl)

  pub bad_asked : (number : ℕ) → parameter_number db request.parameter ≡ Some number → request.to <ℤ request.from → IsNotAsked db request (refused.BadRange request.from request.to)
  bad_asked number some less =
      inr (ap By some ∙ ap (λ (b : Bool). (if b then Some (asked.BadRange request.from request.to) else None)) (less_is request.to request.from less), refl)

  pub whole_asked : (number : ℕ) → parameter_number db request.parameter ≡ Some number → request.from ≤ℤ request.to → request_refusal db request ≡ None
  whole_asked number some whole =
      ap By some ∙ ap (λ (b : Bool). (if b then Some (asked.BadRange request.from request.to) else None)) (not_less request.to request.from whole)
