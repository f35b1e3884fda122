-- What stays right of a publication.
use Rattle.std.specs.Prelude.{◌≡◌, ℕ, false, List, ◌++◌}
use Rattle.std.specs.List.{AllByRecursion}
use Rattle.intervals.specs.declared.interval.Interval.{Interval}
use Rattle.history_items.specs.declared.fills.Fill.{Fill}
use Rattle.history_items.specs.declared.items.Item.{Item}
use Rattle.history_items.specs.Fills.{base_in}
use Rattle.history_items.specs.Items.{changes_interval}
use Rattle.glance_board.specs.declared.contents.PublishedMark.{PublishedMark}
use Rattle.glance_board.specs.Listings.{IsMarkOf, StayingFacts}

-- none of these items changes an interval
abbrev pub LeaveInterval : ℕ → Interval → List Item → Type 0
LeaveInterval exponent interval more = AllByRecursion (λ item. changes_interval exponent interval item ≡ false) more

-- a mark of what stays of an archive stays right over longer lists, where neither a change nor a fill came to its
-- interval
abbrev pub MarksStay : {X : Type 0} → (X → StayingFacts) → Type 0
MarksStay {X} stays = (archive : X) (history more : List Item) (fills later : List Fill) (mark : PublishedMark) →
    IsMarkOf (stays archive) history fills mark → LeaveInterval (stays archive).exponent mark.interval more →
    base_in mark.interval later ≡ base_in mark.interval fills → IsMarkOf (stays archive) (history ++ more) later mark
