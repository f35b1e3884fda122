-- What the disk that a load hands back is, whatever became of its last write.
use Rattle.std.proofs.Common.{◌≡◌, ◌⊎◌, ◌∙◌, inl, inr, ℤ, List, [], ◌++◌, sym, ap}
use Rattle.std.proofs.lemmas.List.Elements.{Contains-push_cases}
use mathlib.Core.List.{IsPrefix}
use Rattle.arch_disk.specs.Image.{Image}
use Rattle.arch_disk.specs.Disk.{Device}
use Rattle.arch_disk.proofs.Moments.{weakens}
use Rattle.arch_types.specs.declared.row.Row.{Row}
use Rattle.outer_traits.specs.Outside.{Files}
use Rattle.history_items.specs.declared.items.Item.{Item}
use Rattle.history_items.specs.Items.{items_of}
use Rattle.archive_store.specs.Entries.{FilledArchive}
use Rattle.archive_store.specs.Stands.{StandsFilled}
use Rattle.archive_store.proofs.PendingFaults.{prefix_self}
use Rattle.load_session.specs.During.{IsDuring}
use Rattle.command_words.specs.Job.{LoadWords}
use Rattle.command_runs.specs.Durable.{FailedAtMostOnce}
use Rattle.command_runs.specs.Extension.{IsExtended, IsExtensionFailed, IsFillingFailed, batch_left, filled_at}
use Rattle.command_runs.specs.ReadOnly.{IsOpenedThen, IsReadOnly}
use Rattle.command_runs.proofs.Openings.{plain_stands}
use Rattle.command_laws.specs.Calls.{Call}
use Rattle.command_laws.specs.HandedBack.{IsHandedBack}
use Rattle.command_laws.specs.Links.{AreNewOfBatch}
use Rattle.command_laws.specs.Load.{IsOnTheWay, IsReachedIn}
use Rattle.command_laws.proofs.Left.{kept_back, none_contained, read_back}

-- ---- images on the way

module _ (files : Files) (moment : ℤ) (words : LoadWords) (before : FilledArchive) (reached : List Item) where
  module _ (c : Image) where
    abbrev Within : List Item → Type 0
    Within history = IsPrefix history reached ⊎ ((rows : List Row) × AreNewOfBatch files moment words before reached rows × (history ≡ reached ++ items_of rows))

    way_of : (in_hand : List (List Item)) (d : IsDuring before.plain reached in_hand c) → Within d.history → IsOnTheWay files moment words before reached c
    way_of in_hand d within = record { history = d.history; no_fewer = d.holds; stands = d.stands; within = within }

    -- an image during a call that has no batch in hand
    on_the_way : IsDuring before.plain reached [] c → IsOnTheWay files moment words before reached c
    on_the_way d = elim d.within [
      | inl begins ↦ way_of [] d (inl begins)
      | inr more ↦ absurd (none_contained more.0 more.1)
    ]

    -- or that has one
    with_batch : (rows : List Row) → AreNewOfBatch files moment words before reached rows → IsDuring before.plain reached (batch_left rows) c → IsOnTheWay files moment words before reached c
    with_batch rows batch d = elim d.within [
      | inl begins ↦ way_of (batch_left rows) d (inl begins)
      | inr more ↦ elim (Contains-push_cases [] (items_of rows) more.0 more.1) [
        | inl none ↦ absurd (none_contained more.0 none)
        | inr same ↦ way_of (batch_left rows) d (inr (rows, batch, more.2 ∙ ap (λ (l : List Item). reached ++ l) (sym same)))
      ]
    ]

  -- ---- the disk

  -- An archive was opened, each image since is on the way, and each that a crash now leaves has what was reached; where the disk failed at most once it is handed back in order.
  pub record IsDiskLoaded {D : Type 0} (device : Device D) (e : Call D) : Type 0 where
    pub stands : StandsFilled (device.reads e.disk) before
    pub images : IsOpenedThen device e.disk e.disk' (IsOnTheWay files moment words before reached)
    pub now : (c : Image) → device.images e.disk' c → IsReachedIn files moment words before reached c
    pub back : FailedAtMostOnce device e.disk e.disk' → IsHandedBack device e before reached

  module _ {D : Type 0} (device : Device D) (e : Call D) where
    pub opened_then : (P : Image → Type 0) → IsOpenedThen device e.disk e.disk' P → ((c : Image) → P c → IsOnTheWay files moment words before reached c)
        → IsOpenedThen device e.disk e.disk' (IsOnTheWay files moment words before reached)
    opened_then P then has = record {
      opened = then.opened;
      before = then.before;
      since = weakens device then.opened e.disk' P (IsOnTheWay files moment words before reached) then.since has;
      sound = then.sound;
    }

    pub extended_disk : IsExtended device e.disk e.disk' before reached → IsDiskLoaded device e
    extended_disk x = record {
      stands = x.stands;
      images = opened_then (IsDuring before.plain reached []) x.images on_the_way;
      now = λ c now. inl (plain_stands c (filled_at before reached x.kept.fillings) (x.kept.durable.now c now));
      back = λ once. kept_back device e before reached x.kept;
    }

    -- a fill failed
    pub unfilled_disk : IsFillingFailed device e.disk e.disk' before reached → IsDiskLoaded device e
    unfilled_disk x = record {
      stands = x.stands;
      images = opened_then (IsDuring before.plain reached []) x.images on_the_way;
      now = λ c now. inl (x.durable.now c now);
      back = λ once. kept_back device e before reached (x.healed once);
    }

    -- a batch failed
    pub failed_disk : (rows : List Row) → AreNewOfBatch files moment words before reached rows → IsExtensionFailed device e.disk e.disk' before reached rows → IsDiskLoaded device e
    failed_disk rows in_hand x = record {
      stands = x.stands;
      images = opened_then (IsDuring before.plain reached (batch_left rows)) x.images (λ c d. with_batch c rows in_hand d);
      now = λ c now. elim (x.now c now) [
        | inl without ↦ inl (plain_stands c (filled_at before reached x.fillings) without)
        | inr whole ↦ inr (rows, in_hand, plain_stands c (filled_at before (reached ++ items_of rows) x.fillings) whole)
      ];
      back = λ once. record { fillings = x.fillings; adds = x.adds; reads = (x.durable once).reads; images = (x.durable once).now };
    }

-- the archive was left as it was
pub read_only_disk : (files : Files) (moment : ℤ) (words : LoadWords) (before : FilledArchive) {D : Type 0} (device : Device D) (e : Call D) → IsReadOnly device e.disk e.disk' before
    → IsDiskLoaded files moment words before before.plain.history device e
read_only_disk files moment words before device e only =
    let history = before.plain.history in record {
      stands = only.stands;
      images = opened_then files moment words before history device e (λ (c : Image). StandsFilled c before) only.images
          (λ c s. record { history = history; no_fewer = prefix_self history; stands = plain_stands c before s; within = inl (prefix_self history) });
      now = λ c now. inl (plain_stands c before (only.now c now));
      back = λ once. read_back device e before only;
    }
