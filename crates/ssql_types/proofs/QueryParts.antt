-- The parts of a query one behind the other.
use Rattle.std.proofs.Common.{◌≡◌, inr, ℕ, List, [], ◌∷◌, ◌++◌, Option, Some, None, refl, sym, ap, arith}
use Rattle.std.specs.Prelude.{slice_index}
use Rattle.ssql_types.specs.declared.not_typed.NotTyped.{NotTyped}
use Rattle.ssql_tokens.specs.declared.symbols.Column.{Column}
use Rattle.ssql_parse.specs.declared.query.Columns.{Columns}
use Rattle.ssql_parse.specs.declared.query.Columns.TheVariants.{All, Listed}
use Rattle.arch_types.specs.declared.direction.Direction.{Direction}
use Rattle.ssql_parse.specs.Grammar.{AreColumns}
use Rattle.ssql_types.specs.declared.rules.Rule.TheVariants.{WrongForm}
use Rattle.ssql_types.specs.Rules.{TokenFault, broken, no_fault, first_sql_fault, later_places, sql_fault_at}
use Rattle.ssql_types.specs.Faults.{columns_faults, form_fault, order_faults}
use Rattle.ssql_types.specs.Typing.{IsPassed, IsTypedPart, IsPartNotTyped}
use Rattle.ssql_types.proofs.Joined.{refused_before, refused_behind, sound_both, rest_both}

pub passed : {A : Type 0} (faults : List TokenFault) (places : List ℕ) (value : A) (x : A × List ℕ) → IsTypedPart faults places value x → IsPassed faults places x.1
passed faults places value x part = record { sound = part.sound; at = part.rest }

pub passed_both : (a b : List TokenFault) (places middle rest : List ℕ) → IsPassed a places middle → IsPassed b middle rest → IsPassed (a ++ b) places rest
passed_both a b places middle rest first second = record {
  sound = sound_both a b places middle first.sound first.at second.sound;
  at = rest_both a b places middle rest first.at second.at;
}

-- a token of which no rule speaks
pub passed_token : (b : List TokenFault) (places next rest : List ℕ) → next ≡ later_places places → IsPassed b next rest → IsPassed (no_fault ∷ b) places rest
passed_token b places next rest at more = passed_both (no_fault ∷ []) b places next rest (record { sound = refl; at = at }) more

pub refused_token : (b : List TokenFault) (places next : List ℕ) (refusal : NotTyped) → next ≡ later_places places → IsPartNotTyped b next refusal → IsPartNotTyped (no_fault ∷ b) places refusal
refused_token b places next refusal at why = refused_behind (no_fault ∷ []) b places next refusal refl at why

pub refused_later : (a b : List TokenFault) (places rest : List ℕ) (refusal : NotTyped) → IsPassed a places rest → IsPartNotTyped b rest refusal → IsPartNotTyped (a ++ b) places refusal
refused_later a b places rest refusal first why = refused_behind a b places rest refusal first.sound first.at why

-- an ORDER that may stand
pub order_sound : (order : Option Direction) (places : List ℕ) → first_sql_fault (order_faults no_fault order) places ≡ None
order_sound None places = refl
order_sound (Some direction) places = refl

-- columns and FROM, a source, a condition, ORDER and LIMIT
module _ (cols source filter order limit : List TokenFault) where
  abbrev pub query_parts : List TokenFault
  query_parts = cols ++ (source ++ (filter ++ (order ++ limit)))

  pub query_passed : (places a b c d e : List ℕ) → IsPassed cols places a → IsPassed source a b → IsPassed filter b c → IsPassed order c d → IsPassed limit d e → IsPassed query_parts places e
  query_passed places a b c d e one two three four five =
      passed_both cols (source ++ (filter ++ (order ++ limit))) places a e one
      (passed_both source (filter ++ (order ++ limit)) a b e two
      (passed_both filter (order ++ limit) b c e three
      (passed_both order limit c d e four five)))

  pub refused_columns : (places : List ℕ) (refusal : NotTyped) → IsPartNotTyped cols places refusal → IsPartNotTyped query_parts places refusal
  refused_columns places refusal why = refused_before cols (source ++ (filter ++ (order ++ limit))) places refusal why

  pub refused_source : (places a : List ℕ) (refusal : NotTyped) → IsPassed cols places a → IsPartNotTyped source a refusal → IsPartNotTyped query_parts places refusal
  refused_source places a refusal one why =
      refused_later cols (source ++ (filter ++ (order ++ limit))) places a refusal one (refused_before source (filter ++ (order ++ limit)) a refusal why)

  pub refused_filter : (places a b : List ℕ) (refusal : NotTyped) → IsPassed cols places a → IsPassed source a b → IsPartNotTyped filter b refusal → IsPartNotTyped query_parts places refusal
  refused_filter places a b refusal one two why =
      refused_later cols (source ++ (filter ++ (order ++ limit))) places a refusal one
      (refused_later source (filter ++ (order ++ limit)) a b refusal two (refused_before filter (order ++ limit) b refusal why))

  pub refused_order : (places a b c : List ℕ) (refusal : NotTyped) → IsPassed cols places a → IsPassed source a b → IsPassed filter b c → IsPartNotTyped order c refusal → IsPartNotTyped query_parts places refusal
  refused_order places a b c refusal one two three why =
      refused_later cols (source ++ (filter ++ (order ++ limit))) places a refusal one
      (refused_later source (filter ++ (order ++ limit)) a b refusal two
      (refused_later filter (order ++ limit) b c refusal three (refused_before order limit c refusal why)))

  pub refused_limit : (places a b c d : List ℕ) (refusal : NotTyped) → IsPassed cols places a → IsPassed source a b → IsPassed filter b c → IsPassed order c d → IsPartNotTyped limit d refusal →
      IsPartNotTyped query_parts places refusal
  refused_limit places a b c d refusal one two three four why =
      refused_later cols (source ++ (filter ++ (order ++ limit))) places a refusal one
      (refused_later source (filter ++ (order ++ limit)) a b refusal two
      (refused_later filter (order ++ limit) b c refusal three (refused_later order limit c d refusal four why)))

-- listed columns where `*` alone may stand
pub listed_refused : (columns : Columns) (listed : List Column) (places : List ℕ) (refusal : NotTyped) → columns ≡ Listed listed → AreColumns columns →
    refusal ≡ sql_fault_at (slice_index places 0) (broken WrongForm) → IsPartNotTyped (columns_faults form_fault columns) places refusal
listed_refused All listed places refusal is are e = absurd cc
listed_refused (Listed []) listed places refusal is are e = absurd (omega (arith, are))
listed_refused (Listed (x ∷ xs)) listed places refusal is are e = inr (ap (λ (f : NotTyped). Some f) (sym e))
