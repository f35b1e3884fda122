-- A session whose archive is closed.
use Rattle.std.proofs.Common.{◌≡◌, ◌⊎◌, inl, inr, ℕ, List, [], ◌∷◌, length, map, fold, Bool, true, false, Option, None, if◌then◌else◌, Contains, refl, sym, ap, ◌∙◌, subst, arith}
use mathlib.Core.List.{IsPrefix}
use Rattle.arch_disk.specs.Disk.{Device}
use Rattle.outer_traits.specs.States.{SourceState}
use Rattle.intervals.specs.declared.interval.Interval.{Interval}
use Rattle.history_items.specs.declared.fills.Fill.{Fill}
use Rattle.history_items.specs.declared.items.Item.{Item}
use Rattle.history_items.specs.declared.fills.Fill.TheVariants.{Begun, Done, Freed, Fault, Closed}
use Rattle.history_items.specs.Fills.{flight_after, in_flight, is_same}
use Rattle.interval_fills.specs.Steps.{all_freed}
use Rattle.std.specs.List.{AllByRecursion}
use Rattle.store_fills.specs.Faults.{IsDone}
use Rattle.turn_cell.specs.declared.view.SeenList.{SeenList}
use Rattle.turn_cell.specs.Lists.{first_seen}
use Rattle.turn_cell.specs.Pass.{PassView}
use Rattle.turn_passes.specs.Passes.{HasSeenAsMuch}
use Rattle.turn_passes.proofs.Joining.{fill_places_of_passes, places_of_passes}
use Rattle.archive_store.specs.StoreView.{StoreView}
use Rattle.live_archive.specs.declared.held.HeldStore.{HeldStore}
use Rattle.live_archive.specs.GoesOn.{GoesOn}
use Rattle.live_archive.specs.Turns.{IsClosed}
use Rattle.live_archive.proofs.Going.{goes_start, prefix_trans}
use Rattle.live_session.specs.declared.order.JobEnd.{JobEnd}
use Rattle.live_session.specs.declared.order.Order.{Order}
use Rattle.live_session.specs.Jobs.{JobPass, JobSetting, job_pass}
use Rattle.live_session.specs.Session.{BeganWith, EndedWithin, HaveRun, IsSessionOver, NothingCame}
use Rattle.live_session.proofs.Lists.{all_of, contains_map, mapped_contains, one_of, whole_prefix}

module _ {D S : Type 0} (device : Device D) (state : S → SourceState) (first closed : StoreView D) (g : JobSetting) (old now : PassView Item Fill (HeldStore D))
    (history : old.history ≡ first_seen first.history) (fills : old.fills ≡ first_seen first.fills) (goes : GoesOn device first closed) (end : IsClosed now closed) where
  pub session_over : (orders : List (Order S)) (ends : List (JobEnd S)) → HaveRun device state first g (job_pass old now) orders ends → ((interval : Interval) → in_flight interval closed.fills ≡ None)
      → IsSessionOver device state first closed g orders ends
  session_over orders ends ran idle = record {
    goes = goes;
    idle = idle;
    passes = ran.passes;
    each = ran.each;
    began = all_of (BeganWith first) ran.passes (λ p inside. began p (one_of (λ (q : JobPass (HeldStore D)). HasSeenAsMuch old q.began) ran.passes p ran.began inside));
    last = end.last;
    settled = end.settled;
    within = all_of (EndedWithin closed.history end.last) ran.passes (λ p inside. within p (ran.joined.seen p.ended (mapped_contains (λ (q : JobPass (HeldStore D)). q.ended) ran.passes p inside)));
    placed = λ place low high. placed_by place (places_of_passes Item Fill (HeldStore D) (map (λ (q : JobPass (HeldStore D)). q.ended) ran.passes) ran.split now (length first.history) (length closed.history) ran.joined
        (ap (λ (s : SeenList Item). s.places) (ran.same.0 ∙ history)) end.placed place low high);
    fills_placed = λ place low high. fills_placed_by place (fill_places_of_passes Item Fill (HeldStore D) (map (λ (q : JobPass (HeldStore D)). q.ended) ran.passes) ran.split now (length first.fills) (length end.last) ran.joined
        (ap (λ (s : SeenList Fill). s.places) (ran.same.1 ∙ fills)) end.fills_placed place low high);
  }
    where
      began : (p : JobPass (HeldStore D)) → HasSeenAsMuch old p.began → BeganWith first p
      began p much = record {
        history = ap (λ (s : SeenList Item). s.seen) much.history ∙ ap (λ (s : SeenList Item). s.seen) history;
        fills = ap (λ (s : SeenList Fill). s.seen) much.fills ∙ ap (λ (s : SeenList Fill). s.seen) fills;
        none = (ap (λ (s : SeenList Item). s.places) much.history, ap (λ (s : SeenList Fill). s.places) much.fills);
      }

      none_left : (p : PassView Item Fill (HeldStore D)) → Contains [] p → ⊥
      none_left p (k, low, e) = absurd (omega (arith, low))

      within : (p : JobPass (HeldStore D)) → Contains [] p.ended ⊎ (IsPrefix p.ended.history.seen now.history.seen × IsPrefix p.ended.fills.seen now.fills.seen) → EndedWithin closed.history end.last p
      within p (inl left) = absurd (none_left p.ended left)
      within p (inr seen) = (
        prefix_trans p.ended.history.seen now.history.seen closed.history seen.0 end.begins,
        prefix_trans p.ended.fills.seen now.fills.seen end.last seen.1 end.fills_begin,
      )

      placed_by : (place : ℕ) → (q : PassView Item Fill (HeldStore D)) × Contains (map (λ (p : JobPass (HeldStore D)). p.ended) ran.passes) q × Contains q.history.places place
          → (p : JobPass (HeldStore D)) × Contains ran.passes p × Contains p.ended.history.places place
      placed_by place (q, inside, has) =
          let p = contains_map (λ (x : JobPass (HeldStore D)). x.ended) ran.passes q inside in
          (p.0, p.1, subst (λ (x : PassView Item Fill (HeldStore D)). Contains x.history.places place) (sym p.2) has)

      fills_placed_by : (place : ℕ) → (q : PassView Item Fill (HeldStore D)) × Contains (map (λ (p : JobPass (HeldStore D)). p.ended) ran.passes) q × Contains q.fills.places place
          → (p : JobPass (HeldStore D)) × Contains ran.passes p × Contains p.ended.fills.places place
      fills_placed_by place (q, inside, has) =
          let p = contains_map (λ (x : JobPass (HeldStore D)). x.ended) ran.passes q inside in
          (p.0, p.1, subst (λ (x : PassView Item Fill (HeldStore D)). Contains x.fills.places place) (sym p.2) has)

  -- no job was run
  pub untouched : now ≡ old → ((interval : Interval) → in_flight interval closed.fills ≡ None) → NothingCame device first closed
  untouched same idle =
      let seen : now.history ≡ first_seen first.history = ap (λ (p : PassView Item Fill (HeldStore D)). p.history) same ∙ history in
      let noted : now.fills ≡ first_seen first.fills = ap (λ (p : PassView Item Fill (HeldStore D)). p.fills) same ∙ fills in
      let begins : IsPrefix first.history closed.history = subst (λ (l : List Item). IsPrefix l closed.history) (ap (λ (s : SeenList Item). s.seen) seen) end.begins in
      let fills_begin : IsPrefix first.fills end.last = subst (λ (l : List Fill). IsPrefix l end.last) (ap (λ (s : SeenList Fill). s.seen) noted) end.fills_begin in
      record {
        goes = goes;
        history = whole_prefix first.history closed.history begins (end.added ∙ ap (λ (s : SeenList Item). s.added) seen);
        fills = inr (end.settled ∙ ap all_freed (whole_prefix first.fills end.last fills_begin (end.fills_added ∙ ap (λ (s : SeenList Fill). s.added) noted)));
        idle = λ done. idle;
      }

-- where each item is a fill, none is in flight
idle_from : (j : Interval) (fills : List Fill) → AllByRecursion IsDone fills → (o : Option ℕ) → o ≡ None → fold (flight_after j) o fills ≡ None
idle_from j [] all o none = none
idle_from j (Begun i b ∷ fills) all o none = absurd all.0
idle_from j (Done i b ∷ fills) all o none = idle_from j fills all.1 (if is_same j i then None else o) (go (is_same j i))
  where
    go : (t : Bool) → (if t then None else o) ≡ None
    go true = refl
    go false = none
idle_from j (Freed i ∷ fills) all o none = absurd all.0
idle_from j (Closed ∷ fills) all o none = absurd all.0
idle_from j (Fault count wrote unacknowledged ∷ fills) all o none = absurd all.0

idle_done : (fills : List Fill) → AllByRecursion IsDone fills → (j : Interval) → in_flight j fills ≡ None
idle_done fills all j = idle_from j fills all None refl

-- the store that was given back as it was
pub given_back : {D : Type 0} (device : Device D) (first now : StoreView D) → now ≡ first → NothingCame device first now
given_back device first now same =
    subst (NothingCame device first) (sym same) (record { goes = goes_start device first; history = refl; fills = inl refl; idle = λ done interval. idle_done first.fills done interval })
