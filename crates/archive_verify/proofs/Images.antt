-- An image is sound where the fills of the archive that it stands for hold what their rows give.
use Rattle.std.proofs.Common.{◌≡◌, ◌≤◌, List, [], ◌∷◌, ◌++◌, length, Bool, true, false, Option, Some, None, sym, subst, arith, length-append}
use Rattle.std.specs.Prelude.{◌↔◌, if◌then◌else◌}
use Rattle.arch_disk.specs.Image.{Image}
use Rattle.intervals.specs.declared.interval.Interval.{Interval}
use Rattle.field_codec.specs.declared.entry.Entry.{Entry}
use Rattle.field_codec.specs.declared.entry.Entry.TheVariants as entries
use Rattle.history_items.specs.Fills.{is_same}
use Rattle.history_items.specs.declared.items.Item.{Item}
use Rattle.history_items.specs.Items.{items_of}
use Rattle.param_segments.specs.Rows.{SetRow}
use Rattle.store_fills.specs.Sound.{Filling, Fillings, with_filling}
use Rattle.archive_store.specs.Entries.{Applies, FilledArchive, IsSoundArchive, Replays}
use Rattle.archive_store.specs.Stands.{IsSoundImage, StandsFilled}
use Rattle.archive_store.proofs.Exact.{filled_once}
use Rattle.archive_verify.specs.Verified.{HoldCurrentFills}

-- the base of each fill is at most the number of rows
abbrev AreWithin : List Item → Fillings (List SetRow) → Type 0
AreWithin history fillings = (i : Interval) (f : Filling (List SetRow)) → fillings i ≡ Some f → f.base ≤ length history

abbrev IsWithinArchive : Option FilledArchive → Type 0
IsWithinArchive None = Unit {0}
IsWithinArchive (Some filled) = AreWithin filled.plain.history filled.fillings

within_grows : (history more : List Item) (fillings : Fillings (List SetRow)) → AreWithin history fillings → AreWithin (history ++ more) fillings
within_grows history more fillings within i f is = let few = within i f is in let long = length-append history more in omega (arith, few, long)

within_put : (history : List Item) (fillings : Fillings (List SetRow)) (interval : Interval) (g : Filling (List SetRow)) → g.base ≤ length history → AreWithin history fillings → AreWithin history (with_filling fillings interval g)
within_put history fillings interval g few within i f is = go (is_same i interval) is
  where
    go : (b : Bool) → (if b then Some g else fillings i) ≡ Some f → f.base ≤ length history
    go true is = let same : g ≡ f = cc (is) in subst (λ (h : Filling (List SetRow)). h.base ≤ length history) same few
    go false is = within i f is

within_after : (old : Option FilledArchive) (entry : Entry) (new : FilledArchive) → Applies old entry new → IsWithinArchive old → IsWithinArchive (Some new)
within_after None (entries.Head tables mdb) new applies within = subst (λ (a : FilledArchive). AreWithin a.plain.history a.fillings) (sym applies.1) (λ i f is. absurd cc)
within_after None (entries.Rows rows) new applies within = absurd applies
within_after None (entries.Fill interval base octets) new applies within = absurd applies
within_after None (entries.Seal seal) new applies within = absurd applies
within_after None (entries.LogHead rows) new applies within = absurd applies
within_after (Some old) (entries.Seal seal) new applies within = absurd applies
within_after (Some old) (entries.LogHead rows) new applies within = absurd applies
within_after (Some old) (entries.Head tables mdb) new applies within = absurd applies
within_after (Some old) (entries.Rows rows) new applies within =
    subst (λ (a : FilledArchive). AreWithin a.plain.history a.fillings) (sym applies.1) (within_grows old.plain.history (items_of rows) old.fillings within)
within_after (Some old) (entries.Fill interval base octets) new applies within =
    subst (λ (a : FilledArchive). AreWithin a.plain.history a.fillings) (sym applies.1) (within_put old.plain.history old.fillings interval _ applies.0.based.within within)

replays_within : (old : Option FilledArchive) (es : List Entry) (new : Option FilledArchive) → Replays old es new → IsWithinArchive old → IsWithinArchive new
replays_within old [] new replays within = subst IsWithinArchive (sym replays) within
replays_within old (entry ∷ es) new replays within = replays_within (Some replays.0) es new replays.2 (within_after old entry replays.0 replays.1 within)

sound_archive : (image : Image) (filled : FilledArchive) → StandsFilled image filled → HoldCurrentFills filled → IsSoundArchive filled
sound_archive image filled stands holds = record {
  within = replays_within None stands.entries (Some filled) stands.replays tt;
  each = λ i f there current. holds i f (record { there = there; current = current });
}

pub sound_images : (image : Image) (filled : FilledArchive) → StandsFilled image filled → HoldCurrentFills filled ↔ IsSoundImage image
sound_images image filled stands = (
  λ holds other also. subst IsSoundArchive (filled_once image filled other stands also) (sound_archive image filled stands holds),
  λ sound i f is. (sound filled stands).each i f is.there is.current,
)
