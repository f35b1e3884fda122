-- What power lost during a call leaves, beside what it left since the turns began.
use Rattle.std.proofs.Common.{◌≡◌, ◌⊎◌, inl, inr, ℕ, List, [], ◌∷◌, ◌++◌, true, false, Some, None, refl, sym, ap, subst, ◌∙◌, append-nil, append_assoc}
use Rattle.std.specs.List.{AllByRecursion}
use mathlib.Core.List.{IsPrefix}
use Rattle.arch_disk.specs.Image.{Image}
use Rattle.arch_disk.specs.Disk.{Device, LeavesOnly, OnlyReads}
use Rattle.arch_disk.proofs.Moments.{at_end, joins, weakens}
use Rattle.arch_types.specs.declared.row.Row.{Row}
use Rattle.history_items.specs.declared.fills.Addition.{Addition}
use Rattle.history_items.specs.declared.fills.Addition.TheVariants.{Rows}
use Rattle.history_items.specs.declared.fills.Fill.{Fill}
use Rattle.history_items.specs.declared.fills.Fill.TheVariants.{Begun, Done, Freed, Fault, Closed}
use Rattle.history_items.specs.declared.items.Item.{Item}
use Rattle.history_items.specs.Fills.{pending_fault_of, unacknowledged_in}
use Rattle.history_items.specs.Items.{after_rows, items_of}
use Rattle.history_items.specs.Outcomes.{fresh_of}
use Rattle.history_items.proofs.Outcomes.{fresh_added}
use Rattle.param_segments.specs.Rows.{SetRow}
use Rattle.store_fills.specs.Faults.{faults_in}
use Rattle.store_fills.proofs.Faults.{unacknowledged-in}
use Rattle.store_fills.specs.Built.{BuiltFill}
use Rattle.store_fills.specs.LastFills.{fill_over, fillings_in}
use Rattle.store_fills.specs.Sound.{Fillings, with_filling}
use Rattle.archive_store.specs.Head.{Head}
use Rattle.archive_store.specs.Calls.{archive_with}
use Rattle.archive_store.specs.Entries.{archive, filled_archive}
use Rattle.archive_store.specs.Installs.{filled_with}
use Rattle.archive_store.specs.Stands.{StandsFilled, StandsFor}
use Rattle.archive_store.specs.StoreView.{AddsFault, OnlyAppends, StoreView, filled_of}
use Rattle.archive_store.specs.UnreadRows.{IsFaultOfRead}
use Rattle.live_archive.specs.Images.{HasPendingRows, IsBetween, LeavesBetween}

prefix_on : {A : Type 0} (xs ys zs : List A) → IsPrefix xs ys → IsPrefix ys zs → IsPrefix xs zs
prefix_on xs ys zs p q = (p.0 ++ q.0, sym (append_assoc xs p.0 q.0) ∙ (ap (λ w. w ++ q.0) p.1 ∙ q.1))

pub appends_on : {D : Type 0} (a b c : StoreView D) → OnlyAppends a b → OnlyAppends b c → OnlyAppends a c
appends_on a b c p q = record {
  history = prefix_on a.history b.history c.history p.history q.history;
  fills = prefix_on a.fills b.fills c.fills p.fills q.fills;
  head = q.head ∙ p.head;
  exponent = q.exponent ∙ p.exponent;
  opened = q.opened ∙ p.opened;
  sealed = q.sealed ∙ p.sealed;
}

-- where no failed write is pending nothing is unacknowledged
none_unacknowledged : (fills : List Fill) (addition : Addition) → pending_fault_of fills ≡ None → unacknowledged_in fills ≡ Some addition → ⊥
none_unacknowledged [] addition none some = absurd (cc some)
none_unacknowledged (Begun i b ∷ fills) addition none some = none_unacknowledged fills addition none some
none_unacknowledged (Done i b ∷ fills) addition none some = none_unacknowledged fills addition none some
none_unacknowledged (Freed i ∷ fills) addition none some = none_unacknowledged fills addition none some
none_unacknowledged (Closed ∷ fills) addition none some = none_unacknowledged fills addition none some
none_unacknowledged (Fault count true unacknowledged ∷ fills) addition none some = absurd (cc none)
none_unacknowledged (Fault count false unacknowledged ∷ fills) addition none some = none_unacknowledged fills addition none some

-- the last failed write of a list is the one that is pending, where none was
pending_last : (fills : List Fill) (count : ℕ) (addition : Addition) → pending_fault_of fills ≡ None → unacknowledged_in (fills ++ Fault count true addition ∷ []) ≡ Some addition
pending_last [] count addition none = refl
pending_last (Begun i b ∷ fills) count addition none = pending_last fills count addition none
pending_last (Done i b ∷ fills) count addition none = pending_last fills count addition none
pending_last (Freed i ∷ fills) count addition none = pending_last fills count addition none
pending_last (Closed ∷ fills) count addition none = pending_last fills count addition none
pending_last (Fault c true unacknowledged ∷ fills) count addition none = absurd (cc none)
pending_last (Fault c false unacknowledged ∷ fills) count addition none = pending_last fills count addition none

-- faults of reads are nothing that is unacknowledged
reads_behind : (fills reads : List Fill) → AllByRecursion IsFaultOfRead reads → unacknowledged_in (fills ++ reads) ≡ unacknowledged_in fills
reads_behind [] [] each = refl
reads_behind [] (item ∷ reads) each = subst (λ (f : Fill). unacknowledged_in (f ∷ reads) ≡ unacknowledged_in []) (sym each.0.1) (reads_behind [] reads each.1)
reads_behind (Begun i b ∷ fills) reads each = reads_behind fills reads each
reads_behind (Done i b ∷ fills) reads each = reads_behind fills reads each
reads_behind (Freed i ∷ fills) reads each = reads_behind fills reads each
reads_behind (Closed ∷ fills) reads each = reads_behind fills reads each
reads_behind (Fault count true unacknowledged ∷ fills) reads each = refl
reads_behind (Fault count false unacknowledged ∷ fills) reads each = reads_behind fills reads each

module _ {D : Type 0} (device : Device D) (start a b : StoreView D) (since : LeavesBetween device start a) (grew : OnlyAppends a b) where
  -- rows that are pending are so behind the call, which left the history
  abbrev pub StillPending : Type 0
  StillPending = (rows : List Row) → unacknowledged_in a.fills ≡ Some (Rows rows) → (unacknowledged_in b.fills ≡ Some (Rows rows)) × (b.history ≡ a.history)

  pub none_pending : pending_fault_of a.fills ≡ None → StillPending
  none_pending none rows some = absurd (none_unacknowledged a.fills (Rows rows) none some)

  pub same_pending : (reads : List Fill) → AllByRecursion IsFaultOfRead reads → faults_in b.fills ≡ faults_in a.fills ++ reads → b.history ≡ a.history → StillPending
  same_pending reads each faults history rows some = (
    unacknowledged-in b.fills ∙ (ap unacknowledged_in faults ∙ (reads_behind (faults_in a.fills) reads each ∙ (sym (unacknowledged-in a.fills) ∙ some))),
    history,
  )

  -- what was left before the call
  before_it : StillPending → (c : Image) → IsBetween start a c → IsBetween start b c
  before_it still c i = record { history = i.history; holds = i.holds; within = go i.within; stands = i.stands }
    where
      go : IsPrefix i.history a.history ⊎ HasPendingRows a i.history → IsPrefix i.history b.history ⊎ HasPendingRows b i.history
      go (inl within) = inl (prefix_on i.history a.history b.history within grew.history)
      go (inr (rows, some, is)) = let s = still rows some in inr (rows, s.0, is ∙ ap (λ (h : List Item). h ++ items_of rows) (sym s.1))

  earlier : StillPending → LeavesOnly device start.disk a.disk (IsBetween start b)
  earlier still = weakens device start.disk a.disk (IsBetween start a) (IsBetween start b) since.images (before_it still)

  -- a call that makes none of the disk
  pub without_disk : StillPending → b.disk ≡ a.disk → LeavesBetween device start b
  without_disk still disk = record {
    appends = appends_on start a b since.appends grew;
    images = subst (λ (d : D). LeavesOnly device start.disk d (IsBetween start b)) (sym disk) (earlier still);
  }

  -- one that only looked
  pub looked : StillPending → OnlyReads device a.disk b.disk → LeavesBetween device start b
  looked still reads = record {
    appends = appends_on start a b since.appends grew;
    images = joins device start.disk a.disk b.disk (IsBetween start b) (device.images a.disk) (earlier still) reads.moments (λ c now. at_end device start.disk a.disk (IsBetween start b) (earlier still) c now);
  }

  -- one that leaves such images
  pub with_disk : StillPending → (Q : Image → Type 0) → LeavesOnly device a.disk b.disk Q → ((c : Image) → Q c → IsBetween start b c) → LeavesBetween device start b
  with_disk still Q run here = record {
    appends = appends_on start a b since.appends grew;
    images = joins device start.disk a.disk b.disk (IsBetween start b) Q (earlier still) run here;
  }

  -- an image that stands for a history of the archive
  stands_at : (c : Image) (history : List Item) (fillings : Fillings (List SetRow)) → StandsFilled c (filled_archive a.head a.exponent history fillings) → StandsFor c (archive start.head start.exponent history)
  stands_at c history fillings stands =
      subst (λ (e : ℕ). StandsFor c (archive start.head e history)) since.appends.exponent
      (subst (λ (h : Head). StandsFor c (archive h a.exponent history)) since.appends.head
      (record { filled = filled_archive a.head a.exponent history fillings; plain_is = refl; stands = stands }))

  -- the history that the call found
  pub at_found : (c : Image) (fillings : Fillings (List SetRow)) → StandsFilled c (filled_archive a.head a.exponent a.history fillings) → IsBetween start b c
  at_found c fillings stands = record { history = a.history; holds = since.appends.history; within = inl grew.history; stands = stands_at c a.history fillings stands }

  -- that with the rows of a batch, which stand in the history or are pending
  pub at_batch : (c : Image) (fillings : Fillings (List SetRow)) (rows : List Row) → (b.history ≡ after_rows a.history rows) ⊎ ((b.history ≡ a.history) × (unacknowledged_in b.fills ≡ Some (Rows (fresh_of a.history rows))))
      → StandsFilled c (filled_archive a.head a.exponent (after_rows a.history rows) fillings) → IsBetween start b c
  at_batch c fillings rows became stands = record {
    history = after_rows a.history rows;
    holds = prefix_on start.history a.history (after_rows a.history rows) since.appends.history (items_of (fresh_of a.history rows), sym (fresh_added a.history rows));
    within = go became;
    stands = stands_at c (after_rows a.history rows) fillings stands;
  }
    where
      go : (b.history ≡ after_rows a.history rows) ⊎ ((b.history ≡ a.history) × (unacknowledged_in b.fills ≡ Some (Rows (fresh_of a.history rows)))) → IsPrefix (after_rows a.history rows) b.history ⊎ HasPendingRows b (after_rows a.history rows)
      go (inl is) = inl ([], append-nil (after_rows a.history rows) ∙ sym is)
      go (inr (same, pending)) = inr (fresh_of a.history rows, pending, fresh_added a.history rows ∙ ap (λ (h : List Item). h ++ items_of (fresh_of a.history rows)) (sym same))

  -- ---- calls of the disk

  -- a batch came, or its rows are pending
  batch_since : (rows : List Row) → pending_fault_of a.fills ≡ None
      → (b.history ≡ after_rows a.history rows) ⊎ ((b.history ≡ a.history) × (unacknowledged_in b.fills ≡ Some (Rows (fresh_of a.history rows))))
      → LeavesOnly device a.disk b.disk (λ c. StandsFilled c (filled_of a) ⊎ StandsFilled c (archive_with a rows)) → LeavesBetween device start b
  batch_since rows healed became run =
      with_disk (none_pending healed) (λ c. StandsFilled c (filled_of a) ⊎ StandsFilled c (archive_with a rows)) run (λ c is. elim is [
        | inl stands ↦ at_found c (fillings_in a.filled) stands
        | inr stands ↦ at_batch c (fillings_in a.filled) rows became stands
      ])

  pub batch_came : (rows : List Row) → pending_fault_of a.fills ≡ None → b.history ≡ after_rows a.history rows
      → LeavesOnly device a.disk b.disk (λ c. StandsFilled c (filled_of a) ⊎ StandsFilled c (archive_with a rows)) → LeavesBetween device start b
  batch_came rows healed came run = batch_since rows healed (inl came) run

  pub batch_failed : (rows : List Row) → pending_fault_of a.fills ≡ None → AddsFault device a b true (Rows (fresh_of a.history rows))
      → LeavesOnly device a.disk b.disk (λ c. StandsFilled c (filled_of a) ⊎ StandsFilled c (archive_with a rows)) → LeavesBetween device start b
  batch_failed rows healed f run =
      let pending = ap unacknowledged_in f.fills ∙ pending_last a.fills f.count (Rows (fresh_of a.history rows)) healed in
      batch_since rows healed (inr (f.history, pending)) run

  -- a fill came, or didn't
  pub fill_tried : (done : BuiltFill) → pending_fault_of a.fills ≡ None → LeavesOnly device a.disk b.disk (λ c. StandsFilled c (filled_of a) ⊎ StandsFilled c (filled_with a done)) → LeavesBetween device start b
  fill_tried done healed run =
      with_disk (none_pending healed) (λ c. StandsFilled c (filled_of a) ⊎ StandsFilled c (filled_with a done)) run (λ c is. elim is [
        | inl stands ↦ at_found c (fillings_in a.filled) stands
        | inr stands ↦ at_found c (with_filling (fillings_in a.filled) done.interval (fill_over done.base done.set)) stands
      ])
