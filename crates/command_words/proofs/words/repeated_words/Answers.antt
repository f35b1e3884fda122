use Rattle.std.proofs.Common.{◌≡◌, ◌≢◌, ◌∙◌, sym, ap, refl, map, length, Bor, List, ℕ, Option, arith}
use Rattle.std.specs.Prelude.{option_map}
use Rattle.std.proofs.lemmas.Bool.{eqb-false, eqb-true}
use Rattle.std.proofs.lemmas.List.{length-map}
use Rattle.clap.specs.Words.{rows_of, found_of}
use Rattle.clap.specs.Walk.{all_of}
use Rattle.clap.proofs.WalkLemmas.{raw_values-rows}
use Rattle.command_words.proofs.Given.{none_given, none_there, some_given}
use Rattle.command_words.proofs.words.repeated_words.Goals as goal

abbrev texts_of : Option (Bor (List (Bor (List ℕ)))) → Option (List (List ℕ))
texts_of = option_map (λ (words : Bor (List (Bor (List ℕ)))). map (λ (word : Bor (List ℕ)). word.now) words.now)

pub returns-in_default-clause-none : goal.returns-in_default-clause-none
returns-in_default-clause-none c =
    let found = found_of c.args.found.now in
    (refl, none_given (all_of c.args.id.now (rows_of found)) (sym (raw_values-rows found c.args.id.now) ∙ sym c.get_strs.ensures ∙ ap texts_of c.in_default.is))

pub returns-then-is_empty-clause-none : goal.returns-then-is_empty-clause-none
returns-then-is_empty-clause-none c =
    let found = found_of c.args.found.now in
    let all = sym (raw_values-rows found c.args.id.now) ∙ sym c.get_strs.ensures ∙ ap texts_of c.in-Some.is in
    let none : length c.in-Some.words.now ≡ 0 = eqb-true _ _ (sym c.is_empty.ensures ∙ c.if-is_empty.true) in
    let same = length-map c.in-Some.words.now (λ (word : Bor (List ℕ)). word.now) in
    (refl, none_there (all_of c.args.id.now (rows_of found)) _ all (omega (arith, none, same)))

pub returns-clause-words : goal.returns-clause-words
returns-clause-words c =
    let found = found_of c.args.found.now in
    let all = sym (raw_values-rows found c.args.id.now) ∙ sym c.get_strs.ensures ∙ ap texts_of c.in-Some.is in
    let some : length c.in-Some.words.now ≢ 0 = eqb-false _ _ (sym c.is_empty.ensures ∙ c.if-is_empty.false) in
    let same = length-map c.in-Some.words.now (λ (word : Bor (List ℕ)). word.now) in
    some_given (all_of c.args.id.now (rows_of found)) _ all (λ none. some (omega (arith, none, same)))
