-- The orders of a load.
use Rattle.std.specs.Prelude.{◌≡◌, ℕ, suc, List, [], ◌∷◌, ◌++◌, length, map}
use Rattle.std.specs.List.{AllByRecursion, range_with_len}
use Rattle.live_session.specs.declared.order.Order.{Order}
use Rattle.live_session.specs.declared.order.Order.TheVariants as Ordered

-- the order of a link of this number, by this source
abbrev pub IsLinkOrder : {S : Type 0} → ℕ → S → Order S → Type 0
IsLinkOrder number source (Ordered.Link link from wake) = (link ≡ number) × (from ≡ source)
IsLinkOrder number source other = ⊥

-- those of links by these sources, whose numbers rise from this one
abbrev pub AreLinkOrders : {S : Type 0} → ℕ → List S → List (Order S) → Type 0
AreLinkOrders link [] [] = Unit {0}
AreLinkOrders link (source ∷ sources) (order ∷ orders) =
    IsLinkOrder link source order × AreLinkOrders (suc link) sources orders
AreLinkOrders link sources orders = ⊥

-- the order of a filler
abbrev pub IsFilling : {S : Type 0} → Order S → Type 0
IsFilling (Ordered.Filler wakes) = Unit {0}
IsFilling other = ⊥

-- those of the links, then of so many readers, and then of so many fillers
pub record AreOrdersFor {S : Type 0} (link : ℕ) (sources : List S) (readers fillers : ℕ) (orders : List (Order S))
    : Type 0 where
  pub of_links : List (Order S)
  pub of_fillers : List (Order S)
  pub parts : orders ≡ of_links ++ (map Ordered.Reader (range_with_len 0 readers) ++ of_fillers)
  pub links : AreLinkOrders link sources of_links
  pub fill : AllByRecursion IsFilling of_fillers
  pub fillers_are : length of_fillers ≡ fillers
