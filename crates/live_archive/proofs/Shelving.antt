-- The shelf of a store while turns go on.
use Rattle.std.proofs.Common.{◌≡◌, ◌⊎◌, inl, inr, ⊎_elim, ℕ, ◌+◌, Bool, true, false, true≢false, List, [], ◌∷◌, ◌++◌, length, Option, Some, None, Result, Ok, Err, IfOk, IfSome, MatchResult, OnErr, OnOk, refl, sym, ap, ◌∙◌, subst, append_assoc}
use Rattle.std.specs.Prelude.{if◌then◌else◌, IsSomeAnd, replicate}
use Rattle.std.specs.List.{flat_map}
use mathlib.Core.List.{IsPrefix}
use Rattle.arch_disk.specs.Disk.{Device}
use Rattle.arch_types.specs.declared.inserted.Inserted.{Inserted}
use Rattle.arch_types.specs.declared.row_fault.RowFault.{RowFault}
use Rattle.arch_types.specs.declared.row_fault.RowFault.TheVariants as unread
use Rattle.refusals.specs.Refusal.{refusal_of_rows}
use Rattle.refusals.specs.declared.refusal.Refusal.{Refusal}
use Rattle.refusals.specs.declared.refusal.Refusal.TheVariants as refused
use Rattle.history_items.specs.declared.fills.Fill.{Fill}
use Rattle.history_items.specs.declared.fills.Fill.TheVariants.{Closed}
use Rattle.history_items.specs.declared.items.Item.{Item}
use Rattle.turn_cell.specs.Pass.{Left, PassView}
use Rattle.archive_store.specs.declared.batch.Arrival.{Arrival}
use Rattle.archive_store.specs.Batches.{arrival_rows}
use Rattle.archive_store.specs.Calls.{AreIngested, IsIngestRefusal}
use Rattle.archive_store.specs.StoreView.{OnlyAppends, StoreView}
use Rattle.archive_store.specs.UnreadRows.{IsLeftByRefusal, IsReadRefusal, ReadsRows}
use Rattle.archive_store.proofs.Calls.{ingest_cases}
use Rattle.glance_board.specs.Shelves.{ShelfView, shelf_view}
use Rattle.glance_log.specs.Sightings.{Sighting}
use Rattle.glance_log.proofs.Chains.{follows_self, follows_trans}
use Rattle.store_shelf.specs.declared.kept.Kept.{Kept}
use Rattle.store_shelf.specs.Publications.{BeginsStore, IsMadeOrLeft, ShelvedView, made_of, published_of}
use Rattle.store_shelf.specs.Renewing.{CameBy}
use Rattle.store_shelf.proofs.Beginning.{begins_itself, begins_on}
use Rattle.store_shelf.proofs.Renewing.{came_rows, came_same}
use Rattle.live_archive.specs.declared.held.HeldStore.{HeldStore}
use Rattle.live_archive.specs.GoesOn.{GoesOn}
use Rattle.live_archive.specs.Closings.{HasClosed, TellsClosing, closings}
use Rattle.live_archive.specs.Shelving.{AreShownFirst, HeldGoesOn, IsBeside, IsClosedOnce, IsClosingNote, IsNoteIn, IsNoteOf, IsOfLog, IsPublished, KeepsShelf, LastIsClosing, MayClose, ShelfGoesOn, TakesClosing, TakesNoClosing, closed_once}
use Rattle.live_archive.proofs.Closings.{one_behind, tells_on}
use Rattle.live_archive.proofs.Going.{goes_closed, goes_same, goes_start, goes_trans}

-- what holds anyway holds of each answer
pub when_ok : {X E P : Type 0} (r : Result X E) → P → OnOk r P
when_ok (Ok x) p = p
when_ok (Err e) p = tt

pub when_err : {X E P : Type 0} (r : Result X E) → P → OnErr r P
when_err (Ok x) p = tt
when_err (Err e) p = p

module _ {D : Type 0} where
  -- what is made of a store goes on from what was made before
  pub made_goes : (last : Bool) (made : Sighting (Kept D)) (store : StoreView D) → BeginsStore made store → ShelfGoesOn made (made_of last made store) store
  made_goes last made store begins = go made.closed refl
    where
      go : (b : Bool) → made.closed ≡ b → ShelfGoesOn made (if b then made else published_of made.book last store) store
      go true closed = record { log = refl; follows = follows_self made; begins = begins }
      go false unclosed = record {
        log = refl;
        follows = record {
          book = refl;
          history = begins.history;
          fills = begins.fills;
          fixed = sym begins.fixed;
          last = λ closed. absurd (true≢false (sym closed ∙ unclosed));
        };
        begins = begins_itself made.book last store;
      }

  -- what begins a store begins it with its closing
  begins_closed : (has_closing : Bool) (made : Sighting (Kept D)) (store : StoreView D) → BeginsStore made store → BeginsStore made (closed_once has_closing store)
  begins_closed true made store begins = begins
  begins_closed false made store begins = record {
    history = begins.history;
    fills = (begins.fills.0 ++ Closed ∷ [], sym (append_assoc made.fills begins.fills.0 (Closed ∷ [])) ∙ ap (λ (l : List Fill). l ++ Closed ∷ []) begins.fills.1);
    fixed = begins.fixed;
  }

  pub beside_closed : (held : HeldStore D) → IsBeside held.shelf held.store → IsBeside held.shelf (closed_once held.has_closing held.store)
  beside_closed held beside = go held.shelf beside
    where
      go : (o : Option (ShelfView (Kept D))) → IsBeside o held.store → IsBeside o (closed_once held.has_closing held.store)
      go None beside = tt
      go (Some s) begins = begins_closed held.has_closing s.made held.store begins

  -- where the closing has come, nothing is asked of the last publication
  pub last_closing : (held : HeldStore D) → held.has_closing ≡ true → LastIsClosing held
  last_closing held closing = go held.shelf
    where
      go : (o : Option (ShelfView (Kept D))) → IfSome o (λ s. s.made.closed ≡ true → held.has_closing ≡ true)
      go None = tt
      go (Some s) = λ closed. closing

  shelf_trans : (a b c : Sighting (Kept D)) (s t : StoreView D) → ShelfGoesOn a b s → ShelfGoesOn b c t → ShelfGoesOn a c t
  shelf_trans a b c s t p q = record { log = q.log ∙ p.log; follows = follows_trans a b c p.follows q.follows; begins = q.begins }

  -- ---- the shelf, where there is one

  pub keeps_start : (shelf : Option (ShelfView (Kept D))) (store : StoreView D) → IsBeside shelf store → KeepsShelf shelf shelf store
  keeps_start None store beside = refl
  keeps_start (Some s) store beside = record { log = refl; follows = follows_self s.made; begins = beside }

  pub beside_of : (first now : Option (ShelfView (Kept D))) (store : StoreView D) → KeepsShelf first now store → IsBeside now store
  beside_of None now store none = subst (λ (o : Option (ShelfView (Kept D))). IsBeside o store) (sym none) tt
  beside_of (Some f) None store keeps = absurd keeps
  beside_of (Some f) (Some s) store keeps = keeps.begins

  -- over a store that goes on
  pub keeps_on : (first now : Option (ShelfView (Kept D))) (old new : StoreView D) → OnlyAppends old new → KeepsShelf first now old → KeepsShelf first now new
  keeps_on None now old new on none = none
  keeps_on (Some f) None old new on keeps = absurd keeps
  keeps_on (Some f) (Some s) old new on keeps = record { log = keeps.log; follows = keeps.follows; begins = begins_on s.made old new keeps.begins on }

  pub keeps_trans : (a b c : Option (ShelfView (Kept D))) (s t : StoreView D) → KeepsShelf a b s → KeepsShelf b c t → KeepsShelf a c t
  keeps_trans None b c s t p q = subst (λ (o : Option (ShelfView (Kept D))). KeepsShelf o c t) p q
  keeps_trans (Some x) None c s t p q = absurd p
  keeps_trans (Some x) (Some y) None s t p q = absurd q
  keeps_trans (Some x) (Some y) (Some z) s t p q = shelf_trans x.made y.made z.made s t p q

  -- ---- a note

  -- what the turns began with is of the log with what a turn found
  found_log : (first : HeldStore D) (held : HeldStore D) (had : ShelfView (Kept D)) → KeepsShelf first.shelf (Some had) held.store → IsOfLog first had.made
  found_log first held had keeps = go first.shelf keeps
    where
      go : (shelf : Option (ShelfView (Kept D))) → KeepsShelf shelf (Some had) held.store → IsSomeAnd shelf (λ s. had.made.book ≡ s.made.book)
      go None none = absurd (cc none)
      go (Some s) keeps = keeps.log

  -- where the closing is told, what was made last is the last publication only where it came
  closing_there : (first held : HeldStore D) → TellsClosing first.store held.store.fills held.has_closing → LastIsClosing held → IfSome held.shelf (λ had. had.made.closed ≡ true → HasClosed first.store held.store.fills)
  closing_there first held told last = go held.shelf last
    where
      go : (o : Option (ShelfView (Kept D))) → IfSome o (λ had. had.made.closed ≡ true → held.has_closing ≡ true) → IfSome o (λ had. had.made.closed ≡ true → HasClosed first.store held.store.fills)
      go None last = tt
      go (Some had) last = λ closed. subst (TellsClosing first.store held.store.fills) (last closed) told

  note_in : (last : Bool) (first held : HeldStore D) (shelf : Option (ShelfView (Kept D))) (note : Sighting (Kept D)) → KeepsShelf first.shelf held.shelf held.store → IfSome held.shelf (λ had. had.made.closed ≡ true → HasClosed first.store held.store.fills)
      → IsPublished last held shelf note → IsNoteIn last first held.store note
  note_in last first held shelf note keeps closing is = go held.shelf keeps closing is.0
    where
      go : (o : Option (ShelfView (Kept D))) → KeepsShelf first.shelf o held.store → IfSome o (λ had. had.made.closed ≡ true → HasClosed first.store held.store.fills) → IsSomeAnd o (λ had. note ≡ made_of last had.made held.store) → IsNoteIn last first held.store note
      go None keeps closing none = absurd none
      go (Some had) keeps closing same = record { made = had.made; log = found_log first held had keeps; begins = beside_of first.shelf (Some had) held.store keeps; published = same; closing = closing }

  -- it is of the archive's log
  note_log : (last : Bool) (first : HeldStore D) (store : StoreView D) (note : Sighting (Kept D)) → IsNoteIn last first store note → IsOfLog first note
  note_log last first store note n = go first.shelf n.log
    where
      same : note.book ≡ n.made.book
      same = ap (λ (s : Sighting (Kept D)). s.book) n.published ∙ (made_goes last n.made store n.begins).log

      go : (shelf : Option (ShelfView (Kept D))) → IsSomeAnd shelf (λ s. n.made.book ≡ s.made.book) → IsSomeAnd shelf (λ s. note.book ≡ s.made.book)
      go None none = none
      go (Some s) is = same ∙ is

  -- one that isn't the last has the whole lists
  unclosed_whole : (last : Bool) (made : Sighting (Kept D)) (store : StoreView D) → (made_of last made store).closed ≡ false
      → ((made_of last made store).history ≡ store.history) × ((made_of last made store).fills ≡ store.fills)
  unclosed_whole last made store unclosed = go made.closed refl unclosed
    where
      go : (b : Bool) → made.closed ≡ b → (if b then made else published_of made.book last store).closed ≡ false
          → ((if b then made else published_of made.book last store).history ≡ store.history) × ((if b then made else published_of made.book last store).fills ≡ store.fills)
      go true closed still = absurd (true≢false (sym closed ∙ still))
      go false unclosed_yet still = (refl, refl)

  -- the last is closed
  last_closed : (made : Sighting (Kept D)) (store : StoreView D) → (made_of true made store).closed ≡ true
  last_closed made store = go made.closed refl
    where
      go : (b : Bool) → made.closed ≡ b → (if b then made else published_of made.book true store).closed ≡ true
      go true closed = closed
      go false unclosed = refl

  -- what isn't made as the last is that only where the last was made before
  last_before : (made : Sighting (Kept D)) (store : StoreView D) → (made_of false made store).closed ≡ true → made.closed ≡ true
  last_before made store closed = go made.closed refl closed
    where
      go : (b : Bool) → made.closed ≡ b → (if b then made else published_of made.book false store).closed ≡ true → made.closed ≡ true
      go true was closed = was
      go false unclosed closed = absurd (true≢false (sym closed))

  -- a note of what a pass has seen, of the store that its turn left
  note_of : {T : Type 0} (last : Bool) (first : HeldStore D) (store : StoreView D) (note : Sighting (Kept D)) (pass : PassView Item Fill T) → IsNoteIn last first store note
      → (note.closed ≡ true → HasClosed first.store store.fills) → pass.history.seen ≡ store.history → pass.fills.seen ≡ store.fills → IsNoteOf first.store pass note
  note_of last first store note pass n closing history fills =
      let begins : BeginsStore note store = subst (λ (s : Sighting (Kept D)). BeginsStore s store) (sym n.published) (made_goes last n.made store n.begins).begins in
      record {
        history = subst (IsPrefix note.history) (sym history) begins.history;
        fills = subst (IsPrefix note.fills) (sym fills) begins.fills;
        all = λ unclosed.
            let whole = unclosed_whole last n.made store (sym (ap (λ (s : Sighting (Kept D)). s.closed) n.published) ∙ unclosed) in
            (ap (λ (s : Sighting (Kept D)). s.history) n.published ∙ whole.0 ∙ sym history, ap (λ (s : Sighting (Kept D)). s.fills) n.published ∙ whole.1 ∙ sym fills);
        closing = λ closed. subst (HasClosed first.store) (sym fills) (closing closed);
      }

  -- the closing came once, so it has come
  once_closed : (first before after : StoreView D) → IsClosedOnce first before after → HasClosed first after.fills
  once_closed first before after (inl (unclosed, is)) = ap (λ (s : StoreView D). closings s.fills) is ∙ (one_behind before.fills ∙ ap (λ (n : ℕ). n + 1) unclosed)
  once_closed first before after (inr (has, is)) = ap (λ (s : StoreView D). closings s.fills) is ∙ has

  once_may : (first before after : StoreView D) → IsClosedOnce first before after → MayClose first before after
  once_may first before after (inl came) = inl came
  once_may first before after (inr (has, is)) = inr is

  -- the same of a call that may be refused

  pub notes_log : {E : Type 0} (last : Bool) (first : HeldStore D) (store : StoreView D) (r : Result (Sighting (Kept D)) E) → IfOk r (IsNoteIn last first store) → IfOk r (IsOfLog first)
  notes_log last first store (Ok note) is = note_log last first store note is
  notes_log last first store (Err e) is = tt

  pub notes_of : {E T : Type 0} (first : HeldStore D) (store : StoreView D) (r : Result (Sighting (Kept D)) E) (mid new : PassView Item Fill T) → Left mid new store.history store.fills → IfOk r (IsNoteIn false first store) → IfOk r (IsNoteOf first.store new)
  notes_of {T = T} first store (Ok note) mid new left is =
      note_of false first store note new is (λ closed. is.closing (last_before is.made store (sym (ap (λ (s : Sighting (Kept D)). s.closed) is.published) ∙ closed)))
      (ap (λ (p : PassView Item Fill T). p.history.seen) left) (ap (λ (p : PassView Item Fill T). p.fills.seen) left)
  notes_of first store (Err e) mid new left is = tt

  -- and of the last publication

  module _ {E : Type 0} (first : HeldStore D) (before after : StoreView D) (may : E → Type 0) where
    pub last_notes : (r : Result (Sighting (Kept D)) E) → MatchResult r (IsClosingNote first before after) may → IfOk r (IsNoteIn true first after)
    last_notes (Ok note) is = is.1
    last_notes (Err e) is = tt

    pub last_notes_closed : (r : Result (Sighting (Kept D)) E) → MatchResult r (IsClosingNote first before after) may → IfOk r (λ note. note.closed ≡ true)
    last_notes_closed (Ok note) is = ap (λ (s : Sighting (Kept D)). s.closed) is.1.published ∙ last_closed is.1.made after
    last_notes_closed (Err e) is = tt

    pub last_notes_of : {T : Type 0} (r : Result (Sighting (Kept D)) E) (mid new : PassView Item Fill T) → Left mid new after.history after.fills → MatchResult r (IsClosingNote first before after) may → IfOk r (IsNoteOf first.store new)
    last_notes_of {T = T} (Ok note) mid new left is =
        note_of true first after note new is.1 (λ _. once_closed first.store before after is.0)
        (ap (λ (p : PassView Item Fill T). p.history.seen) left) (ap (λ (p : PassView Item Fill T). p.fills.seen) left)
    last_notes_of (Err e) mid new left is = tt

  -- ---- what a shelf is left with by a publication

  view_is : (s : ShelfView (Kept D)) (note : Sighting (Kept D)) → s.shown ≡ note → s.made ≡ note → s ≡ shelf_view note note
  view_is s note shown made = ap (λ (x : Sighting (Kept D)). shelf_view x s.made) shown ∙ ap (shelf_view note) made

  module _ (last : Bool) (held : HeldStore D) (had : ShelfView (Kept D)) (has : held.shelf ≡ Some had) (beside : IsBeside held.shelf held.store) (before after : ShelvedView D) (before_store : before.store ≡ held.store) (before_shelf : before.shelf ≡ had) where
    begins : BeginsStore had.made held.store
    begins = subst (λ (o : Option (ShelfView (Kept D))). IsBeside o held.store) has beside

    made_is : made_of last before.shelf.made before.store ≡ made_of last had.made held.store
    made_is = ap (λ (s : ShelfView (Kept D)). made_of last s.made before.store) before_shelf ∙ ap (made_of last had.made) before_store

    goes_made : after.shelf.made ≡ made_of last before.shelf.made before.store → ShelfGoesOn had.made after.shelf.made held.store
    goes_made is = subst (λ (s : Sighting (Kept D)). ShelfGoesOn had.made s held.store) (sym (is ∙ made_is)) (made_goes last had.made held.store begins)

    goes_left : after.shelf.made ≡ before.shelf.made → ShelfGoesOn had.made after.shelf.made held.store
    goes_left is = subst (λ (s : Sighting (Kept D)). ShelfGoesOn had.made s held.store) (sym (is ∙ ap (λ (s : ShelfView (Kept D)). s.made) before_shelf)) (record { log = refl; follows = follows_self had.made; begins = begins })

    went_on : {E : Type 0} (r : Result (Sighting (Kept D)) E) → OnOk r (after.shelf.made ≡ made_of last before.shelf.made before.store) → OnErr r (IsMadeOrLeft last before after) → ShelfGoesOn had.made after.shelf.made held.store
    went_on (Ok note) made refused = goes_made made
    went_on (Err e) made refused = ⊎_elim goes_made goes_left refused

    pub left_keeps : {E : Type 0} (r : Result (Sighting (Kept D)) E) (now : Option (ShelfView (Kept D))) → OnOk r (after.shelf.made ≡ made_of last before.shelf.made before.store) → OnErr r (IsMadeOrLeft last before after) → now ≡ Some after.shelf → KeepsShelf held.shelf now held.store
    left_keeps r now made refused is =
        let goes : KeepsShelf (Some had) now held.store = subst (λ (o : Option (ShelfView (Kept D))). KeepsShelf (Some had) o held.store) (sym is) (went_on r made refused) in
        subst (λ (o : Option (ShelfView (Kept D))). KeepsShelf o now held.store) (sym has) goes

    pub left_published : {E : Type 0} (r : Result (Sighting (Kept D)) E) (now : Option (ShelfView (Kept D))) → OnOk r (after.shelf.made ≡ made_of last before.shelf.made before.store) → OnOk r (after.shelf.shown ≡ after.shelf.made) → IfOk r (λ note. note ≡ after.shelf.made) → now ≡ Some after.shelf
        → IfOk r (IsPublished last held now)
    left_published (Err e) now made shown note_is is = tt
    left_published (Ok note) now made shown note_is is = (
      subst (λ (o : Option (ShelfView (Kept D))). IsSomeAnd o (λ s. note ≡ made_of last s.made held.store)) (sym has) (note_is ∙ (made ∙ made_is)),
      is ∙ ap Some (view_is after.shelf note (shown ∙ sym note_is) (sym note_is)),
    )

    -- the last publication is made by a call that makes no last one only where it was made before
    pub left_last : {E : Type 0} (r : Result (Sighting (Kept D)) E) (next : HeldStore D) → last ≡ false → OnOk r (after.shelf.made ≡ made_of last before.shelf.made before.store) → OnErr r (IsMadeOrLeft last before after)
        → next.shelf ≡ Some after.shelf → next.has_closing ≡ held.has_closing → LastIsClosing held → LastIsClosing next
    left_last r next unlast made refused is kept closing =
        subst (λ (o : Option (ShelfView (Kept D))). IfSome o (λ s. s.made.closed ≡ true → next.has_closing ≡ true)) (sym is) (λ closed. kept ∙ was (was_closed r made refused closed))
      where
        was : had.made.closed ≡ true → held.has_closing ≡ true
        was = subst (λ (o : Option (ShelfView (Kept D))). IfSome o (λ s. s.made.closed ≡ true → held.has_closing ≡ true)) has closing

        by_made : after.shelf.made ≡ made_of last before.shelf.made before.store → after.shelf.made.closed ≡ true → had.made.closed ≡ true
        by_made is closed = last_before had.made held.store (subst (λ (b : Bool). (made_of b had.made held.store).closed ≡ true) unlast (sym (ap (λ (s : Sighting (Kept D)). s.closed) (is ∙ made_is)) ∙ closed))

        by_left : after.shelf.made ≡ before.shelf.made → after.shelf.made.closed ≡ true → had.made.closed ≡ true
        by_left is closed = sym (ap (λ (s : Sighting (Kept D)). s.closed) (is ∙ ap (λ (s : ShelfView (Kept D)). s.made) before_shelf)) ∙ closed

        was_closed : {E : Type 0} (r : Result (Sighting (Kept D)) E) → OnOk r (after.shelf.made ≡ made_of last before.shelf.made before.store) → OnErr r (IsMadeOrLeft last before after) → after.shelf.made.closed ≡ true → had.made.closed ≡ true
        was_closed (Ok note) made refused closed = by_made made closed
        was_closed (Err e) made refused closed = ⊎_elim (λ is. by_made is closed) (λ is. by_left is closed) refused

  -- the turns begin with a store that is shown whole
  pub shown_first : (first : HeldStore D) (readers : ℕ) (glances : List (Sighting (Kept D))) (store : StoreView D) (shelved : ShelvedView D) → first.store ≡ shelved.store → first.shelf ≡ Some shelved.shelf
      → shelved.store ≡ store → shelved.shelf.made ≡ published_of shelved.shelf.made.book false store → shelved.shelf.shown ≡ shelved.shelf.made → glances ≡ replicate readers shelved.shelf.shown → AreShownFirst first readers glances
  shown_first first readers glances store shelved part_is shelf_is store_is made shown seen =
      let at = shelved.shelf.made in
      record {
        at = at;
        shelf = shelf_is ∙ ap Some (view_is shelved.shelf at shown refl);
        all = made ∙ ap (published_of at.book false) (sym (part_is ∙ store_is));
        seen = seen ∙ ap (replicate readers) shown;
      }

-- ---- the value of the turns

module _ {D : Type 0} (device : Device D) where
  -- reading leaves the history
  reads_history : (a b : StoreView D) → ReadsRows device a b → b.history ≡ a.history
  reads_history a b (inl same) = ap (λ (s : StoreView D). s.history) same
  reads_history a b (inr pages) = ap (λ (s : StoreView D). s.history) pages.0.same

  unread_history_for : (a b : StoreView D) (fault : RowFault) → IsLeftByRefusal device a b (refusal_of_rows fault) → b.history ≡ a.history
  unread_history_for a b unread.DiskFault left = ap (λ (s : StoreView D). s.history) left.same
  unread_history_for a b (unread.Damaged file at) left = reads_history a b left
  unread_history_for a b unread.OutOfMemory left = reads_history a b left

  unread_history : (a b : StoreView D) (e : Refusal) → IsReadRefusal device a b e → IsLeftByRefusal device a b e → b.history ≡ a.history
  unread_history a b e (fault, is, of) left = unread_history_for a b fault (subst (IsLeftByRefusal device a b) of left)

  -- what an ingest puts behind the history comes by its packets
  came_reads : (a b : StoreView D) (arrivals : List Arrival) → ReadsRows device a b → CameBy b (length a.history) arrivals
  came_reads a b arrivals reads = came_same a b arrivals (reads_history a b reads)

  came_refused : (a b : StoreView D) (arrivals : List Arrival) (e : Refusal) → IsIngestRefusal device a b (flat_map arrival_rows arrivals) e → CameBy b (length a.history) arrivals
  came_refused a b arrivals e i =
      ingest_cases device a b (flat_map arrival_rows arrivals) (λ _. CameBy b (length a.history) arrivals) e i (λ n r. came_same a b arrivals (ap (λ (s : StoreView D). s.history) r.1)) (λ w n r. came_reads a b arrivals r.2)
      (λ failed. came_same a b arrivals failed.fault.history) (λ refusal r. came_same a b arrivals (unread_history a b refusal r.unread r.left)) (λ r. came_reads a b arrivals r.1)

  pub came_ingested : {X : Type 0} (a b : StoreView D) (arrivals : List Arrival) (r : Result X Refusal) (outcomes : X → List Inserted)
      → MatchResult r (λ x. AreIngested device a b (flat_map arrival_rows arrivals) (outcomes x)) (IsIngestRefusal device a b (flat_map arrival_rows arrivals)) → CameBy b (length a.history) arrivals
  came_ingested a b arrivals (Ok x) outcomes i = came_rows a b arrivals i.fresh i.of_batch i.history
  came_ingested a b arrivals (Err e) outcomes i = came_refused a b arrivals e i

  held_start : (held : HeldStore D) → IsBeside held.shelf held.store → LastIsClosing held → held.has_closing ≡ false → HeldGoesOn device held held
  held_start held beside last unclosed = record {
    store = goes_start device held.store;
    shelf = keeps_start held.shelf held.store beside;
    closing = subst (TellsClosing held.store held.store.fills) (sym unclosed) refl;
    last = last;
  }

  pub unshelved_start : (held : HeldStore D) → held.shelf ≡ None → held.has_closing ≡ false → HeldGoesOn device held held
  unshelved_start held alone unclosed =
      held_start held (subst (λ (o : Option (ShelfView (Kept D))). IsBeside o held.store) (sym alone) tt)
      (subst (λ (o : Option (ShelfView (Kept D))). IfSome o (λ s. s.made.closed ≡ true → held.has_closing ≡ true)) (sym alone) tt) unclosed

  pub shelved_start : (held : HeldStore D) (shelf : ShelfView (Kept D)) → IsBeside held.shelf held.store → held.shelf ≡ Some shelf → shelf.made.closed ≡ false → held.has_closing ≡ false → HeldGoesOn device held held
  shelved_start held shelf beside is made_unclosed unclosed =
      held_start held beside
      (subst (λ (o : Option (ShelfView (Kept D))). IfSome o (λ s. s.made.closed ≡ true → held.has_closing ≡ true)) (sym is) (λ closed. absurd (true≢false (sym closed ∙ made_unclosed)))) unclosed

  pub held_beside : (first held : HeldStore D) (after : StoreView D) → HeldGoesOn device first held → GoesOn device held.store after → IsBeside held.shelf after
  held_beside first held after entered goes = beside_of first.shelf held.shelf after (keeps_on first.shelf held.shelf held.store after goes.appends entered.shelf)

  -- a store that went on, with its shelf as it was
  pub held_on : (first held : HeldStore D) (after : StoreView D) → HeldGoesOn device first held → GoesOn device held.store after → closings after.fills ≡ closings held.store.fills → HeldGoesOn device first (record held { store = after })
  held_on first held after entered goes none = record {
    store = goes_trans device first.store held.store after entered.store goes;
    shelf = keeps_on first.shelf held.shelf held.store after goes.appends entered.shelf;
    closing = tells_on first.store held.store.fills after.fills held.has_closing none entered.closing;
    last = entered.last;
  }

  -- and with a shelf that went on
  pub held_published : (first held next : HeldStore D) (after : StoreView D) → HeldGoesOn device first held → GoesOn device held.store after → closings after.fills ≡ closings held.store.fills
      → TakesNoClosing (record held { store = after }) next → KeepsShelf held.shelf next.shelf after → LastIsClosing next → HeldGoesOn device first next
  held_published first held next after entered goes none takes keeps last = record {
    store = subst (GoesOn device first.store) (sym takes.store) (goes_trans device first.store held.store after entered.store goes);
    shelf = subst (KeepsShelf first.shelf next.shelf) (sym takes.store) (keeps_trans first.shelf held.shelf next.shelf held.store after entered.shelf keeps);
    closing = subst (TellsClosing first.store next.store.fills) (sym takes.closing)
        (subst (λ (s : StoreView D). TellsClosing first.store s.fills held.has_closing) (sym takes.store) (tells_on first.store held.store.fills after.fills held.has_closing none entered.closing));
    last = last;
  }

  -- one without a shelf gets none
  pub stays_alone : (first held : HeldStore D) → first.shelf ≡ None → HeldGoesOn device first held → held.shelf ≡ None
  stays_alone first held alone goes = subst (λ (o : Option (ShelfView (Kept D))). KeepsShelf o held.shelf held.store) alone goes.shelf

  -- ---- the last publication

  module _ (first held next : HeldStore D) (entered : HeldGoesOn device first held) where
    -- the closing came once
    took_once : TakesClosing held next → IsClosedOnce first.store held.store next.store
    took_once takes = go held.has_closing entered.closing takes.store
      where
        go : (b : Bool) → TellsClosing first.store held.store.fills b → next.store ≡ closed_once b held.store → IsClosedOnce first.store held.store next.store
        go true has is = inr (has, is)
        go false unclosed is = inl (unclosed, is)

    goes_once : IsClosedOnce first.store held.store next.store → GoesOn device held.store next.store
    goes_once (inl (unclosed, is)) = subst (GoesOn device held.store) (sym is) (goes_closed device held.store)
    goes_once (inr (has, is)) = goes_same device held.store next.store is

    pub goes_last : TakesClosing held next ⊎ TakesNoClosing held next → GoesOn device held.store next.store
    goes_last (inl takes) = goes_once (took_once takes)
    goes_last (inr takes) = goes_same device held.store next.store takes.store

    tells_last : TakesClosing held next ⊎ TakesNoClosing held next → TellsClosing first.store next.store.fills next.has_closing
    tells_last (inl takes) = subst (TellsClosing first.store next.store.fills) (sym takes.closing) (once_closed first.store held.store next.store (took_once takes))
    tells_last (inr takes) = subst (TellsClosing first.store next.store.fills) (sym takes.closing)
        (subst (λ (s : StoreView D). TellsClosing first.store s.fills held.has_closing) (sym takes.store) entered.closing)

    pub held_last : TakesClosing held next ⊎ TakesNoClosing held next → KeepsShelf held.shelf next.shelf next.store → LastIsClosing next → HeldGoesOn device first next
    held_last takes keeps last = record {
      store = goes_trans device first.store held.store next.store entered.store (goes_last takes);
      shelf = keeps_trans first.shelf held.shelf next.shelf held.store next.store entered.shelf keeps;
      closing = tells_last takes;
      last = last;
    }

    pub took_or_not : {X E : Type 0} (r : Result X E) → OnOk r (TakesClosing held next) → OnErr r (TakesClosing held next ⊎ TakesNoClosing held next) → TakesClosing held next ⊎ TakesNoClosing held next
    took_or_not (Ok x) takes refused = inl takes
    took_or_not (Err e) takes refused = refused

    -- what its turn says
    pub last_says : {E : Type 0} (r : Result (Sighting (Kept D)) E) → OnOk r (TakesClosing held next) → OnErr r (TakesClosing held next ⊎ TakesNoClosing held next)
        → IfOk r (IsPublished true (record held { store = next.store }) next.shelf) → MatchResult r (IsClosingNote first held.store next.store) (λ _. MayClose first.store held.store next.store)
    last_says (Ok note) takes refused is =
        let once = took_once takes in
        let keeps = keeps_on first.shelf held.shelf held.store next.store (goes_once once).appends entered.shelf in
        (once, note_in true first (record held { store = next.store }) next.shelf note keeps (any_shelf held.shelf (once_closed first.store held.store next.store once)) is)
      where
        any_shelf : (o : Option (ShelfView (Kept D))) → HasClosed first.store next.store.fills → IfSome o (λ had. had.made.closed ≡ true → HasClosed first.store next.store.fills)
        any_shelf None has = tt
        any_shelf (Some had) has = λ _. has
    last_says (Err e) takes refused is = ⊎_elim (λ (t : TakesClosing held next). once_may first.store held.store next.store (took_once t)) (λ (t : TakesNoClosing held next). inr t.store) refused

  pub notes_in : {E : Type 0} (first held : HeldStore D) (shelf : Option (ShelfView (Kept D))) (r : Result (Sighting (Kept D)) E) → HeldGoesOn device first held → IfOk r (IsPublished false held shelf) → IfOk r (IsNoteIn false first held.store)
  notes_in first held shelf (Ok note) entered is = note_in false first held shelf note entered.shelf (closing_there first held entered.closing entered.last) is
  notes_in first held shelf (Err e) entered is = tt
