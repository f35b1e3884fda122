-- What a filler's turns come to.
use Rattle.std.proofs.Common.{◌≡◌, ◌⊎◌, inl, inr, ℕ, ◌+◌, ◌<◌, ◌≤◌, List, [], ◌++◌, length, Contains, Option, Result, Err, refl, sym, ap, ◌∙◌, subst, arith, append-nil}
use Rattle.std.specs.Prelude.{slice_get, take}
use Rattle.std.specs.List.{range_with_len}
use Rattle.std.proofs.lemmas.List.FromFn.{get_or-range_with_len, length-range_with_len}
use Rattle.std.proofs.lemmas.List.Elements.{Contains-append_cases}
use mathlib.Core.List.{IsPrefix}
use Rattle.arch_disk.specs.Disk.{Device}
use Rattle.arch_types.specs.declared.inserted.Installed.{Installed}
use Rattle.intervals.specs.declared.interval.Interval.{Interval}
use Rattle.refusals.specs.declared.refusal.Refusal.{Refusal}
use Rattle.refusals.specs.declared.refusal.Refusal.TheVariants.{OutOfMemory}
use Rattle.history_items.specs.declared.fills.Fill.{Fill}
use Rattle.history_items.specs.declared.items.Item.{Item}
use Rattle.store_fills.specs.declared.task.FillTask.{FillTask}
use Rattle.turn_cell.specs.Pass.{PassView}
use Rattle.archive_store.specs.StoreView.{StoreView}
use Rattle.live_archive.specs.Added.{AddsTo, flight_ended}
use Rattle.live_archive.proofs.Added.{abandons_add, begins_add, installs_add}
use Rattle.live_archive.proofs.Going.{prefix_trans}
use Rattle.live_archive.proofs.Places.{at_behind}
use Rattle.live_fills.specs.Filler.{FillsAlone, IsFillNote}
use Rattle.live_fills.specs.LiveTarget.{BeginsInTurn, BuildsAndInstalls, GivesUpInTurn, InstallsInTurn, WasLate}
use Rattle.live_fills.proofs.Notes.{AreQuiet, IsQuiet, before_place, begun_quiet, ended_quiet, installed_quiet, note_stays, some_at}
use Rattle.live_fills.proofs.Tasks.{late_on}

-- an interval was late when a turn found a store
abbrev LateThen : {D : Type 0} → StoreView D → StoreView D → Interval → Type 0
LateThen first before i = WasLate first.exponent first.fills before.history before.fills i

module _ {D T : Type 0} (first : StoreView D) where
  pub alone_same : (pass : PassView Item Fill T) → FillsAlone first pass pass
  alone_same pass = record {
    share = refl;
    begins = ([], append-nil pass.history.seen);
    fills_begin = ([], append-nil pass.fills.seen);
    put_none = (refl, refl);
    noted = λ place c. inl c;
  }

  abbrev Note : PassView Item Fill T → ℕ → Type 0
  Note pass place = IsFillNote first pass.history.seen pass.fills.seen place

  pub alone_on : (a b c : PassView Item Fill T) → FillsAlone first a b → FillsAlone first b c → FillsAlone first a c
  alone_on a b c p q = record {
    share = q.share ∙ p.share;
    begins = prefix_trans a.history.seen b.history.seen c.history.seen p.begins q.begins;
    fills_begin = prefix_trans a.fills.seen b.fills.seen c.fills.seen p.fills_begin q.fills_begin;
    put_none = (q.put_none.0 ∙ p.put_none.0, q.put_none.1 ∙ p.put_none.1);
    noted = λ place has. go place (q.noted place has);
  }
    where
      earlier : (place : ℕ) → Contains a.fills.places place ⊎ Note b place → Contains a.fills.places place ⊎ Note c place
      earlier place (inl has) = inl has
      earlier place (inr note) = inr (note_stays first b.history.seen c.history.seen b.fills.seen c.fills.seen place q.begins q.fills_begin note)

      go : (place : ℕ) → Contains b.fills.places place ⊎ Note c place → Contains a.fills.places place ⊎ Note c place
      go place (inl has) = earlier place (p.noted place has)
      go place (inr note) = inr note

  module _ (before : StoreView D) (old new : PassView Item Fill T) (noted : List Fill) (adds : AddsTo before old new [] noted) (quiet : AreQuiet first.sealed (LateThen first before) noted) where
    history_on : IsPrefix before.history new.history.seen
    history_on = ([], sym adds.history.seen)

    fills_on : IsPrefix before.fills new.fills.seen
    fills_on = (noted, sym adds.fills.seen)

    -- at a place of the turn
    at_turn : (place : ℕ) → Contains (range_with_len (length before.fills) (length noted)) place → IsFillNote first new.history.seen new.fills.seen place
    at_turn place (i, low, is) =
        let within : i < length noted = subst (λ (n : ℕ). i < n) (length-range_with_len (length before.fills) (length noted)) low in
        let at : place ≡ length before.fills + i = sym is ∙ get_or-range_with_len (length before.fills) (length noted) i place within in
        let x = some_at (IsQuiet first.sealed (LateThen first before)) noted i within quiet in
        let behind : length before.fills ≤ place = omega (arith, at) in
        record {
          item = x.0;
          there = ap (λ (l : List Fill). slice_get l place) adds.fills.seen ∙ (ap (slice_get (before.fills ++ noted)) at ∙ (at_behind before.fills noted i ∙ x.1));
          of_fill = x.2.0;
          late = λ j base e.
              late_on first.exponent first.fills before.history new.history.seen before.fills (take place new.fills.seen) j history_on (before_place before.fills new.fills.seen place fills_on behind) (x.2.1 j base e);
        }

    alone_turn : FillsAlone first old new
    alone_turn = record {
      share = adds.share;
      begins = prefix_trans old.history.seen before.history new.history.seen adds.history.begins history_on;
      fills_begin = prefix_trans old.fills.seen before.fills new.fills.seen adds.fills.begins fills_on;
      put_none = (let h = adds.history.added in omega (arith, h), adds.history.places ∙ append-nil old.history.places);
      noted = λ place has. go place (Contains-append_cases old.fills.places (range_with_len (length before.fills) (length noted)) place (subst (λ (l : List ℕ). Contains l place) adds.fills.places has));
    }
      where
        go : (place : ℕ) → Contains old.fills.places place ⊎ Contains (range_with_len (length before.fills) (length noted)) place → Contains old.fills.places place ⊎ IsFillNote first new.history.seen new.fills.seen place
        go place (inl has) = inl has
        go place (inr has) = inr (at_turn place has)

module _ {D T : Type 0} (device : Device D) (first : StoreView D) (old new : PassView Item Fill T) where
  pub begin_alone : (answer : Result (Option FillTask) Refusal) → BeginsInTurn device first old answer new → FillsAlone first old new
  begin_alone answer turn =
      let adds = begins_add T device first turn.before turn.after old new answer turn.turned turn.said in
      alone_turn first turn.before old new adds.0 adds.2 (begun_quiet first.sealed (LateThen first turn.before) turn.before turn.turned.found.appends.sealed answer adds.0 adds.1)

  pub give_up_alone : (task : FillTask) → GivesUpInTurn device first old task new → FillsAlone first old new
  give_up_alone task turn =
      alone_turn first turn.before old new (flight_ended task.interval turn.before.fills) (abandons_add T device first turn.before turn.after old new task.interval turn.turned turn.said)
      (ended_quiet first.sealed (LateThen first turn.before) task.interval turn.before.fills)

  pub install_alone : (task : FillTask) (answer : Result Installed Refusal) → InstallsInTurn device first old task answer new → FillsAlone first old new
  install_alone task answer installs = go installs.turn
    where
      go : BuildsAndInstalls device first old task answer new ⊎ ((answer ≡ Err OutOfMemory) × GivesUpInTurn device first old task new) → FillsAlone first old new
      go (inl (done, of, turn)) =
          let before = turn.before in
          let adds = installs_add T device first before turn.after old new done answer turn.turned turn.said in
          let late = late_on first.exponent first.fills old.history.seen before.history old.fills.seen before.fills task.interval turn.turned.begins turn.turned.fills_begin installs.own.late in
          alone_turn first before old new adds.0 adds.2
          (installed_quiet first.sealed (LateThen first before) before.fills done answer adds.0 (subst (LateThen first before) (sym of.interval) late) adds.1)
      go (inr (none, turn)) = give_up_alone task turn
