-- How often a fill list says that its archive was closed to glances.
use Rattle.std.specs.Prelude.{◌≡◌, ℕ, ◌+◌, Bool, true, false, List, filter, length}
use Rattle.history_items.specs.declared.fills.Fill.{Fill}
use Rattle.history_items.specs.declared.fills.Fill.TheVariants.{Closed}
use Rattle.archive_store.specs.StoreView.{StoreView}

-- whether an item says so
abbrev pub is_closing : Fill → Bool
is_closing Closed = true
is_closing _ = false

-- how many of a fill list do
abbrev pub closings : List Fill → ℕ
closings fills = length (filter is_closing fills)

-- Since the turns began with a store, its closing came to the fill list; one that the store had counts for nothing.
abbrev pub HasClosed : {D : Type 0} → StoreView D → List Fill → Type 0
HasClosed first fills = closings fills ≡ closings first.fills + 1

-- it hasn't come
abbrev pub HasNotClosed : {D : Type 0} → StoreView D → List Fill → Type 0
HasNotClosed first fills = closings fills ≡ closings first.fills

-- which of both
abbrev pub TellsClosing : {D : Type 0} → StoreView D → List Fill → Bool → Type 0
TellsClosing first fills true = HasClosed first fills
TellsClosing first fills false = HasNotClosed first fills
