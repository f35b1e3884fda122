-- What the calls of a test leave of a store.
use Rattle.std.specs.Prelude.{◌≡◌}
use mathlib.Core.List.{IsPrefix}
use Rattle.archive_store.specs.StoreView.{StoreView}

-- the history goes on from the old one, and head and exponent stay
pub record GoesOnFrom {D : Type 0} (old new : StoreView D) : Type 0 where
  pub history : IsPrefix old.history new.history
  pub head : new.head ≡ old.head
  pub exponent : new.exponent ≡ old.exponent
