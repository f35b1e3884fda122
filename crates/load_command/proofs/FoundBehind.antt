-- Asks that were found over a history are found behind it too, while the database in force stays.
use Rattle.std.proofs.Common.{◌≡◌, List, [], ◌∷◌, sym, subst}
use Rattle.history_items.specs.declared.items.Item.{Item}
use Rattle.history_items.specs.Databases.{database_in}
use Rattle.archive_store.specs.Finding.{IsRequestFound}
use Rattle.archive_store.specs.Head.{Head}
use Rattle.retrieval.specs.FoundAsks.{AreFound}
use Rattle.retrieval.specs.declared.found_asks.FoundAsk.{FoundAsk}
use Rattle.retrieval.specs.declared.found_asks.FoundAsk.TheVariants.{Values, Replay}

module _ (head : Head) (history later : List Item) (same : database_in head.mdb later ≡ database_in head.mdb history) where
  still_found : (asks : List FoundAsk) → AreFound head history asks → AreFound head later asks
  still_found [] found = tt
  still_found (Values request ∷ asks) found = (subst (λ db. IsRequestFound db request) (sym same) found.0, still_found asks found.1)
  still_found (Replay request ∷ asks) found = (found.0, still_found asks found.1)

  pub found_behind : (head' : Head) → head' ≡ head → (asks : List FoundAsk) → AreFound head history asks → AreFound head' later asks
  found_behind head' is asks found = subst (λ (h : Head). AreFound h later asks) (sym is) (still_found asks found)
