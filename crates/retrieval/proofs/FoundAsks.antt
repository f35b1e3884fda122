-- Asks that were found, one after the other.
use Rattle.std.proofs.Common.{◌≡◌, ◌⊎◌, inl, inr, ◌≤ℤ◌, ◌<ℤ◌, ℕ, ℤ, Bool, true, false, List, [], ◌∷◌, ◌++◌, Option, Some, None, refl, sym, ◌∙◌, ap, arith, append-nil}
use Rattle.std.specs.Prelude.{int_lt, if◌then◌else◌, option_map}
use Rattle.std.specs.Option.{option_map_or}
use Rattle.std.proofs.lemmas.Int.{ints}
use Rattle.asks.specs.declared.ask.Ask.{Ask}
use Rattle.asks.specs.declared.refusal.AskRefusal.{AskRefusal}
use Rattle.asks.specs.declared.refusal.AskRefusal.TheVariants.{UnknownParameter, BadRange, UnknownTable}
use Rattle.asks.specs.Refusals.{ask_refusal, range_refusal}
use Rattle.refusals.specs.declared.refusal.Refusal.{Refusal}
use Rattle.refusals.specs.declared.refusal.Refusal.TheVariants.{OutOfMemory}
use Rattle.mdb_items.specs.Checks.{or_else}
use Rattle.history_items.specs.declared.items.Item.{Item}
use Rattle.history_items.specs.Databases.{database_in}
use Rattle.archive_store.specs.Head.{Head}
use Rattle.archive_store.specs.Finding.{IsNotFound, refusal_of_ask}
use Rattle.retrieval.specs.AskText.{asks_refusal}
use Rattle.retrieval.specs.declared.found_asks.FoundAsk.{FoundAsk}
use Rattle.retrieval.specs.declared.found_asks.FoundAsk.TheVariants.{Values, Replay}
use Rattle.retrieval.specs.FoundAsks.{AreFound, IsAskFound, ask_found, asks_found}

-- a range that doesn't end before it begins isn't refused
whole_range : (from to : ℤ) → from ≤ℤ to → range_refusal from to ≡ None
whole_range from to range = either (int_lt to from) refl
  where
    either : (b : Bool) → int_lt to from ≡ b → (if b then Some (BadRange from to) else None) ≡ None
    either true reversed = let less : to <ℤ from = grind (arith, ints, reversed) in absurd (omega (arith, ints, less, range))
    either false whole = refl

-- an ask that was found isn't refused
not_refused : (head : Head) (history : List Item) (found : FoundAsk) → IsAskFound head history found → ask_refusal head.tables (database_in head.mdb history) (ask_found found) ≡ None
not_refused head history (Values found) is =
    let request = found.request in
    ap (λ (o : Option ℕ). option_map_or (λ number. range_refusal request.from request.to) o (Some UnknownParameter)) is.number ∙ whole_range request.from request.to is.range
not_refused head history (Replay found) is =
    let request = found.request in
    ap (λ (o : Option ℕ). option_map_or (λ table. range_refusal request.from request.to) o (Some (UnknownTable request.table))) is.table
    ∙ whole_range request.from request.to is.range

-- what is refused of asks is refused behind those that were found
refused_behind : (head : Head) (history : List Item) (found : List FoundAsk) (rest : List Ask) → AreFound head history found → asks_refusal head history (asks_found found ++ rest) ≡ asks_refusal head history rest
refused_behind head history [] rest all = refl
refused_behind head history (f ∷ found) rest all =
    ap (λ (o : Option AskRefusal). or_else (option_map refusal_of_ask o) (asks_refusal head history (asks_found found ++ rest))) (not_refused head history f all.0)
    ∙ refused_behind head history found rest all.1

-- none is refused, where each was found
pub none_refused : (head : Head) (history : List Item) (found : List FoundAsk) → AreFound head history found → asks_refusal head history (asks_found found) ≡ None
none_refused head history found all = ap (asks_refusal head history) (sym (append-nil (asks_found found))) ∙ refused_behind head history found [] all

-- one more was found
pub found_push : (head : Head) (history : List Item) (found : List FoundAsk) (f : FoundAsk) → AreFound head history found → IsAskFound head history f → AreFound head history (found ++ f ∷ [])
found_push head history [] f all is = (is, tt)
found_push head history (g ∷ found) f all is = (all.0, found_push head history found f all.1 is)

pub asks_push : (found : List FoundAsk) (f : FoundAsk) → asks_found (found ++ f ∷ []) ≡ asks_found found ++ ask_found f ∷ []
asks_push [] f = refl
asks_push (g ∷ found) f = ap (λ (l : List Ask). ask_found g ∷ l) (asks_push found f)

-- the next one is refused, or there was no memory
pub next_refused : (head : Head) (history : List Item) (found : List FoundAsk) (ask : Ask) (rest asks : List Ask) (refusal : Refusal) → AreFound head history found → asks_found found ++ ask ∷ rest ≡ asks
    → IsNotFound (ask_refusal head.tables (database_in head.mdb history) ask) refusal → (asks_refusal head history asks ≡ Some refusal) ⊎ (refusal ≡ OutOfMemory)
next_refused head history found ask rest asks refusal all is not = either (ask_refusal head.tables (database_in head.mdb history) ask) refl not
  where
    either : (o : Option AskRefusal) → ask_refusal head.tables (database_in head.mdb history) ask ≡ o → IsNotFound o refusal → (asks_refusal head history asks ≡ Some refusal) ⊎ (refusal ≡ OutOfMemory)
    either (Some refused) at same =
        let first : asks_refusal head history (ask ∷ rest) ≡ Some (refusal_of_ask refused) =
        ap (λ (p : Option AskRefusal). or_else (option_map refusal_of_ask p) (asks_refusal head history rest)) at in
        inl (ap (asks_refusal head history) (sym is) ∙ refused_behind head history found (ask ∷ rest) all ∙ first ∙ ap (λ (r : Refusal). Some r) (sym same))
    either None at memory = inr memory
