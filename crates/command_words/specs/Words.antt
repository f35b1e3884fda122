-- The words behind a command, as clap reads them.
use Rattle.std.specs.Prelude.{◌≡◌, ℕ, ◌+◌, ◌==◌, ◌&&◌, ◌||◌, Bool, true, false, not, List, [], ◌∷◌, length, position, codes, nat_eq, Option, Some, None, if◌then◌else◌}
use Rattle.std.specs.List.{list_all, starts_with}
use Rattle.std.specs.Str.{bytes_eq}
use Rattle.refusals.specs.declared.refusal.Refusal.{Refusal}
use Rattle.refusals.specs.declared.refusal.Refusal.TheVariants.{Usage, OutOfMemory}
use Rattle.clap.specs.Walk.{Row, Text, is_empty}
use Rattle.clap.specs.Simple.{App, Shape, matches_of, new_app, on_top}
use Rattle.clap.specs.Faults.{fault_of}
use Rattle.clap.specs.Kinds.{Kinds}

-- whether the first `=` is the last octet of a word
abbrev pub is_last : Option ℕ → Text → Bool
is_last None word = false
is_last (Some at) word = at + 1 == length word

-- a word where options may stand, but for a lone `-` and an option with an empty value, as `--name=`
unfoldable pub is_whole_word : Text → Bool
is_whole_word word = not (bytes_eq word (codes "-")) && not (starts_with nat_eq word (codes "--") && is_last (position (λ octet. octet == 61) word) word)

-- no word is empty
abbrev pub are_filled : List Text → Bool
are_filled words = list_all (λ word. not (is_empty word)) words

-- the words are whole up to the end of the options, which is the first `--`
abbrev pub are_whole : List Text → Bool
are_whole [] = true
are_whole (word ∷ words) = bytes_eq word (codes "--") || (is_whole_word word && are_whole words)

-- words that clap may read: it takes empty words and values, and a lone `-`
abbrev pub are_plain : List Text → Bool
are_plain words = are_filled words && are_whole words

-- a command of one level, without flags of clap's own
abbrev pub plain_shape : Shape → Shape
plain_shape shape = record shape { no_binary_name = true; disable_help_flag = true; disable_version_flag = true }

-- a command as clap knows it, before its arguments are added: without help and version
abbrev pub plain_app : Text → App
plain_app name = on_top plain_shape (new_app name)

-- clap found no fault in the words
abbrev pub has_no_fault : Kinds → Bool
has_no_fault [] = true
has_no_fault (kind ∷ kinds) = false

-- the words that clap found, where it found no fault
abbrev pub rows_where : Bool → Kinds → List Row → Option (List Row)
rows_where plain faults rows = if plain && has_no_fault faults then Some rows else None

-- what clap finds in the words, where they are plain and it finds no fault in them
unfoldable pub rows_of_words : App → List Text → Option (List Row)
rows_of_words app words = rows_where (are_plain words) (fault_of app words) (matches_of app words)

-- why nothing was found: there is a fault, or want of memory
abbrev pub AreNoRows : Option (List Row) → Refusal → Type 0
AreNoRows rows Usage = rows ≡ None
AreNoRows rows OutOfMemory = Unit {0}
AreNoRows rows other = ⊥
