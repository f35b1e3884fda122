-- Words that were given for an argument which takes one or more.
use Rattle.std.proofs.Common.{◌≡◌, List, [], ◌∷◌, length, Option, Some, None, ap, refl, arith}
use Rattle.std.specs.Prelude.{option_and_then}
use Rattle.clap.specs.Walk.{Text}
use Rattle.command_words.specs.Given.{if_any}

-- nothing was found
pub none_given : (all : Option (List Text)) → all ≡ None → option_and_then if_any all ≡ None
none_given all is = ap (option_and_then if_any) is

-- no word was
pub none_there : (all : Option (List Text)) (words : List Text) → all ≡ Some words → length words ≡ 0 → option_and_then if_any all ≡ None
none_there all [] is none = ap (option_and_then if_any) is
none_there all (word ∷ words) is none = absurd (omega (arith, none))

-- one was, or more
pub some_given : (all : Option (List Text)) (words : List Text) → all ≡ Some words → (length words ≡ 0 → ⊥) → option_and_then if_any all ≡ Some words
some_given all [] is some = absurd (some refl)
some_given all (word ∷ words) is some = ap (option_and_then if_any) is
