-- The words that were given for one argument, or for one of two.
use Rattle.std.specs.Prelude.{◌⊎◌, List, [], ◌∷◌, Option, Some, None, option_and_then}
use mathlib.Core.Logic.{inl, inr}
use Rattle.clap.specs.Walk.{Row, Text, all_of}
use Rattle.command_words.specs.declared.words.OneOfTwo.{OneOfTwo}
use Rattle.command_words.specs.declared.words.OneOfTwo.TheVariants.{First, Second}

-- words, where there is one at least
abbrev pub if_any : List Text → Option (List Text)
if_any [] = None
if_any (word ∷ words) = Some (word ∷ words)

-- the words that were given for an argument that takes one or more
abbrev pub repeated_words : Text → List Row → Option (List Text)
repeated_words id rows = option_and_then if_any (all_of id rows)

-- the word of the one of two options that was given, where the other wasn't
abbrev pub one_of_two : Option Text → Option Text → Option (Text ⊎ Text)
one_of_two (Some first) None = Some (inl first)
one_of_two None (Some second) = Some (inr second)
one_of_two first second = None

-- that word, as the program holds it
abbrev pub one_view : OneOfTwo → Text ⊎ Text
one_view (First word) = inl word.now
one_view (Second word) = inr word.now
