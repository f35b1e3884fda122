-- What the text of a script stands for.
use Rattle.std.proofs.Common.{◌≡◌, ◌≢◌, ◌⊎◌, ◌∙◌, inl, inr, ℕ, List, [], Option, Some, None, refl, sym, ap}
use Rattle.std.specs.Prelude.{option_map, Result, Ok, Err}
use Rattle.refusals.specs.declared.refusal.Refusal.{Refusal}
use Rattle.refusals.specs.declared.refusal.Refusal.TheVariants.{OutOfMemory}
use Rattle.command_plans.specs.Plan.{IsDetermined}
use Rattle.ssql_parse.specs.declared.not_a_script.NotAScript.{NotAScript}
use Rattle.ssql_parse.specs.declared.not_a_script.NotAScript.TheVariants as unread
use Rattle.ssql_parse.specs.Parsing.{IsNotAScript, IsScriptOf, WrittenScript}
use Rattle.ssql_parse.proofs.OneAnswer.{one_refusal, one_script, script_or_refusal}
use Rattle.ssql_types.specs.declared.place.ScriptPlace.{ScriptPlace}
use Rattle.ssql_types.specs.declared.statement.TypedStatement.{TypedStatement}
use Rattle.ssql_types.specs.Typed.{typed_script}
use Rattle.ssql_types.specs.declared.not_typed.NotTyped.{NotTyped}
use Rattle.ssql_types.specs.Typing.{IsNotTyped}
use Rattle.script_answers.specs.Scripts.{IsParseRefusal, IsScriptAnswer, after_answer, refusal_of_text, refusal_of_typing, script_plan, script_refusal}

module _ (place : ScriptPlace) (tables names : List (List ℕ)) (text : List ℕ) where
  -- a text that spells no script is refused so
  pub not_parsed : (why : NotAScript) → IsNotAScript text why → (refusal_of_text why ≡ OutOfMemory) ⊎ IsScriptAnswer place tables names text (Err (refusal_of_text why))
  not_parsed (unread.Limit quantity) is = inr (inl ((unread.Limit quantity, is, refl), λ same. absurd (cc (same))))
  not_parsed (unread.BadSql at rule) is = inr (inl ((unread.BadSql at rule, is, refl), λ same. absurd (cc (same))))
  not_parsed unread.OutOfMemory is = inl refl

  -- one that spells a script in which something is wrong is refused for that
  pub not_typed : (script : WrittenScript) (why : NotTyped) → IsScriptOf text script → IsNotTyped place tables script why →
      (refusal_of_typing why ≡ OutOfMemory) ⊎ IsScriptAnswer place tables names text (Err (refusal_of_typing why))
  not_typed script why reads (inl memory) = inl (ap refusal_of_typing memory)
  not_typed script why reads (inr wrong) = inr (inr (script, reads, ap (option_map refusal_of_typing) wrong))

  refusal_of_script : (script : WrittenScript) (a : Refusal) → IsScriptOf text script → IsParseRefusal text a × (a ≢ OutOfMemory) → ⊥
  refusal_of_script script a reads h = h.1 (h.0.2 ∙ ap refusal_of_text (script_or_refusal text script h.0.0 reads h.0.1))

  -- but for want of memory, a text is refused in one way
  one_parse_refusal : (a b : Refusal) → IsParseRefusal text a → IsParseRefusal text b → (a ≡ OutOfMemory) ⊎ ((b ≡ OutOfMemory) ⊎ (a ≡ b))
  one_parse_refusal a b h k = elim (one_refusal text h.0 k.0 h.1 k.1) [
    | inl memory ↦ inl (h.2 ∙ ap refusal_of_text memory)
    | inr more ↦ elim more [ inl memory ↦ inr (inl (k.2 ∙ ap refusal_of_text memory)) | inr is ↦ inr (inr (h.2 ∙ ap refusal_of_text is ∙ sym k.2)) ]
  ]

  same_refusal : (a b : WrittenScript) → a ≡ b → (x y : Option Refusal) → script_refusal place tables a ≡ x → script_refusal place tables b ≡ y → x ≡ y
  same_refusal a b same x y h k = sym h ∙ ap (script_refusal place tables) same ∙ k

  -- there is one answer
  pub one_script_answer : (a b : Result (List TypedStatement) Refusal) → IsScriptAnswer place tables names text a → IsScriptAnswer place tables names text b → a ≡ b
  one_script_answer (Ok a) (Ok b) h k =
      ap Ok (h.3 ∙ ap (λ (s : WrittenScript). typed_script tables names [] s.statements) (one_script text h.0 k.0 h.1 k.1) ∙ sym k.3)
  one_script_answer (Ok a) (Err b) h (inl k) = absurd (refusal_of_script h.0 b h.1 k)
  one_script_answer (Ok a) (Err b) h (inr k) =
      let none : ◌≡◌ {A = Option Refusal} None (Some b) = same_refusal h.0 k.0 (one_script text h.0 k.0 h.1 k.1) None (Some b) (ap (option_map refusal_of_typing) h.2) k.2 in absurd (cc (none))
  one_script_answer (Err a) (Ok b) (inl h) k = absurd (refusal_of_script k.0 a k.1 h)
  one_script_answer (Err a) (Ok b) (inr h) k =
      let none : ◌≡◌ {A = Option Refusal} (Some a) None = same_refusal h.0 k.0 (one_script text h.0 k.0 h.1 k.1) (Some a) None h.2 (ap (option_map refusal_of_typing) k.2) in absurd (cc (none))
  one_script_answer (Err a) (Err b) (inl h) (inl k) = ap Err (elim (one_parse_refusal a b h.0 k.0) [
    | inl memory ↦ absurd (h.1 memory)
    | inr more ↦ elim more [ inl memory ↦ absurd (k.1 memory) | inr is ↦ is ]
  ])
  one_script_answer (Err a) (Err b) (inl h) (inr k) = absurd (refusal_of_script k.0 a k.1 h)
  one_script_answer (Err a) (Err b) (inr h) (inl k) = absurd (refusal_of_script h.0 b h.1 k)
  one_script_answer (Err a) (Err b) (inr h) (inr k) =
      let some : ◌≡◌ {A = Option Refusal} (Some a) (Some b) = same_refusal h.0 k.0 (one_script text h.0 k.0 h.1 k.1) (Some a) (Some b) h.2 k.2 in
      let is : a ≡ b = cc in ap Err is

-- an answer leads to one thing
pub answered_determined : {S X : Type 0} (s : S) (answer : Result X Refusal) → IsDetermined (after_answer s answer)
answered_determined s (Ok x) = tt
answered_determined s (Err refusal) = tt

-- a text stands for one thing
pub script_determined : {S : Type 0} (s : S) (place : ScriptPlace) (tables names : List (List ℕ)) (text : List ℕ) → IsDetermined (script_plan s place tables names text)
script_determined s place tables names text = (one_script_answer place tables names text, λ answer is. answered_determined s answer)
