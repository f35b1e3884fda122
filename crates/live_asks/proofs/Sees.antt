-- A pass that sees more and puts nothing but faults of reads.
use Rattle.std.proofs.Common.{◌≡◌, ◌⊎◌, inl, inr, ℕ, ◌+◌, ◌≤◌, List, [], ◌∷◌, ◌++◌, length, false, Some, None, Result, Ok, Err, IfErr, OnOk, refl, sym, ap, ◌∙◌, subst, arith, append-nil, append_assoc}
use Rattle.std.specs.Prelude.{slice_get}
use Rattle.std.specs.List.{AllByRecursion, range_with_len}
use Rattle.std.specs.Result.{result_err}
use mathlib.Core.List.{IsPrefix}
use Rattle.arch_disk.specs.Disk.{Device}
use Rattle.refusals.specs.declared.refusal.Refusal.{Refusal}
use Rattle.refusals.specs.declared.refusal.Refusal.TheVariants as refused
use Rattle.history_items.specs.declared.fills.Addition.TheVariants.{Nothing}
use Rattle.history_items.specs.declared.fills.Fill.{Fill}
use Rattle.history_items.specs.declared.fills.Fill.TheVariants.{Fault}
use Rattle.history_items.specs.declared.items.Item.{Item}
use Rattle.turn_cell.specs.declared.view.SeenList.{SeenList}
use Rattle.turn_cell.specs.Pass.{PassView}
use Rattle.archive_store.specs.StoreView.{StoreView}
use Rattle.archive_store.specs.UnreadRows.{IsLeftByRefusal, IsReadRefusal, ReadsRows}
use Rattle.live_archive.specs.Added.{AddsTo, AreReadFaults, IsReadNoted}
use Rattle.live_archive.specs.Reads.{IsReadFaultAt, NotedRead, NotesReads}
use Rattle.live_archive.specs.Turns.{TookTurn, Turned}
use Rattle.live_archive.proofs.Added.{asks_add, asks_add_nothing}
use Rattle.live_archive.proofs.Going.{prefix_length, prefix_trans}
use Rattle.live_archive.proofs.Places.{at_behind, at_later}
use Rattle.live_asks.specs.LiveAsks.{OnlySees, TurnBetween, reader_view}

-- what is said of a refusal is said of the one that is kept of it
pub noted_of : {X P : Type 0} (r : Result X Refusal) → IfErr r (λ refusal. refusal ≡ refused.DiskFault → P) → result_err r ≡ Some refused.DiskFault → P
noted_of (Ok x) noted failed = absurd (cc failed)
noted_of (Err refusal) noted failed = let is : refusal ≡ refused.DiskFault = cc failed in noted is

-- and what is said of an answer where there is no refusal
pub silent_of : {X P : Type 0} (r : Result X Refusal) → OnOk r P → result_err r ≡ None → P
silent_of (Ok x) silent none = silent
silent_of (Err refusal) silent none = absurd (cc none)

-- ---- faults of reads

notes_none : (sealed : ℕ) (list : SeenList Fill) → NotesReads sealed list list
notes_none sealed list = record { places = []; noted = sym (append-nil list.places); each = tt; plain = λ _. refl }

each_later : (noted fills : List Fill) (places : List ℕ) → IsPrefix noted fills → AllByRecursion (IsReadFaultAt noted) places → AllByRecursion (IsReadFaultAt fills) places
each_later noted fills [] more each = tt
each_later noted fills (place ∷ places) more each =
    ((each.0.0, at_later noted fills place (Fault each.0.0 false Nothing) more each.0.1), each_later noted fills places more each.1)

each_both : (fills : List Fill) (a b : List ℕ) → AllByRecursion (IsReadFaultAt fills) a → AllByRecursion (IsReadFaultAt fills) b → AllByRecursion (IsReadFaultAt fills) (a ++ b)
each_both fills [] b x y = y
each_both fills (place ∷ a) b x y = (x.0, each_both fills a b x.1 y)

notes_on : (sealed : ℕ) (a b c : SeenList Fill) → IsPrefix b.seen c.seen → NotesReads sealed a b → NotesReads sealed b c → NotesReads sealed a c
notes_on sealed a b c more p q = record {
  places = p.places ++ q.places;
  noted = q.noted ∙ (ap (λ (l : List ℕ). l ++ q.places) p.noted ∙ append_assoc a.places p.places q.places);
  each = each_both c.seen p.places q.places (each_later b.seen c.seen p.places more p.each) q.each;
  plain = λ none. ap (λ (l : List ℕ). l ++ q.places) (p.plain none) ∙ q.plain none;
}

module _ {T : Type 0} where
  -- ---- passes

  pub sees_same : {sealed : ℕ} (pass : PassView Item Fill T) → OnlySees sealed pass pass
  sees_same {sealed} pass = record {
    share = refl;
    begins = ([], append-nil pass.history.seen);
    fills_begin = ([], append-nil pass.fills.seen);
    put_none = refl;
    notes = notes_none sealed pass.fills;
  }

  pub sees_on : {sealed : ℕ} (a b c : PassView Item Fill T) → OnlySees sealed a b → OnlySees sealed b c → OnlySees sealed a c
  sees_on {sealed} a b c p q = record {
    share = q.share ∙ p.share;
    begins = prefix_trans a.history.seen b.history.seen c.history.seen p.begins q.begins;
    fills_begin = prefix_trans a.fills.seen b.fills.seen c.fills.seen p.fills_begin q.fills_begin;
    put_none = q.put_none ∙ p.put_none;
    notes = notes_on sealed a.fills b.fills c.fills q.fills_begin p.notes q.notes;
  }

  module _ {D : Type 0} (device : Device D) (first before after : StoreView D) (old new : PassView Item Fill T)
      (turn : Turned device first before after old new) where
    -- a turn that noted nothing, or a fault of a read
    pub record OnlyReads : Type 0 where
      pub noted : List Fill
      pub adds : AddsTo before old new [] noted
      pub quiet : (noted ≡ []) ⊎ IsReadNoted before noted

    pub as_found : ReadsRows device before after → OnlyReads
    as_found reads = record { noted = []; adds = asks_add_nothing T device first before after old new turn reads; quiet = inl refl }

    -- it noted nothing then
    pub found_silent : ReadsRows device before after → new.fills.places ≡ old.fills.places
    found_silent reads = let adds = asks_add_nothing T device first before after old new turn reads in adds.fills.places ∙ append-nil old.fills.places

    pub unread : (refusal : Refusal) → IsReadRefusal device before after refusal → IsLeftByRefusal device before after refusal → OnlyReads
    unread refusal is left = let adds = asks_add T device first before after old new refusal turn is left in record { noted = adds.0; adds = adds.2; quiet = quiet_of refusal adds.0 adds.1 }
      where
        quiet_of : (e : Refusal) (noted : List Fill) → AreReadFaults before e noted → (noted ≡ []) ⊎ IsReadNoted before noted
        quiet_of refused.DiskFault noted are = inr are
        quiet_of _ noted are = inl are

    -- a read failed
    pub unread_noted : (refusal : Refusal) → IsReadRefusal device before after refusal → IsLeftByRefusal device before after refusal → refusal ≡ refused.DiskFault → NotedRead old.fills new.fills
    unread_noted refusal is left failed =
        let adds = asks_add T device first before after old new refusal turn is left in
        let read = subst (λ (e : Refusal). AreReadFaults before e adds.0) failed adds.1 in
        let here : length before.fills ≡ length before.fills + 0 = omega arith in
        record {
          place = length before.fills;
          behind = prefix_length old.fills.seen before.fills turn.fills_begin;
          there = (
            read.1.0,
            ap (λ (l : List Fill). slice_get l (length before.fills)) adds.2.fills.seen
                ∙ (ap (slice_get (before.fills ++ adds.0)) here ∙ (at_behind before.fills adds.0 0 ∙ ap (λ (l : List Fill). slice_get l 0) read.1.1)),
          );
        }

    module _ (t : OnlyReads) where
      -- the history that an ask found is the one seen from then on
      pub found_is_seen : new.history.seen ≡ before.history
      found_is_seen = t.adds.history.seen ∙ append-nil before.history

      pub found_begins : IsPrefix before.history new.history.seen
      found_begins = ([], append-nil before.history ∙ sym found_is_seen)

      pub fills_begin : IsPrefix before.fills new.fills.seen
      fills_begin = (t.noted, sym t.adds.fills.seen)

      notes_turn : NotesReads first.sealed old.fills new.fills
      notes_turn = go t.quiet
        where
          go : (t.noted ≡ []) ⊎ IsReadNoted before t.noted → NotesReads first.sealed old.fills new.fills
          go (inl none) = record {
            places = [];
            noted = t.adds.fills.places ∙ ap (λ (l : List Fill). old.fills.places ++ range_with_len (length before.fills) (length l)) none;
            each = tt;
            plain = λ _. refl;
          }
          go (inr (paged, (count, is))) =
              let here : length before.fills ≡ length before.fills + 0 = omega arith in
              let there : slice_get new.fills.seen (length before.fills) ≡ Some (Fault count false Nothing) =
              ap (λ (l : List Fill). slice_get l (length before.fills)) t.adds.fills.seen
              ∙ (ap (slice_get (before.fills ++ t.noted)) here ∙ (at_behind before.fills t.noted 0 ∙ ap (λ (l : List Fill). slice_get l 0) is)) in
              record {
                places = length before.fills ∷ [];
                noted = t.adds.fills.places ∙ ap (λ (l : List Fill). old.fills.places ++ range_with_len (length before.fills) (length l)) is;
                each = ((count, there), tt);
                plain = λ none. let same = turn.found.appends.sealed in absurd (omega (arith, paged, same, none));
              }

      -- an ask in a turn
      pub sees_turn : OnlySees first.sealed old new
      sees_turn = record {
        share = t.adds.share;
        begins = subst (IsPrefix old.history.seen) (sym found_is_seen) t.adds.history.begins;
        fills_begin = prefix_trans old.fills.seen before.fills new.fills.seen t.adds.fills.begins fills_begin;
        put_none = t.adds.history.places ∙ append-nil old.history.places;
        notes = notes_turn;
      }

      -- what it found stands between what was seen before it and after
      abbrev pub turn_between : (taken taken' : ℕ) → TurnBetween (reader_view old taken) (reader_view new taken')
      turn_between taken taken' = record {
        history = before.history;
        fills = before.fills;
        later = turn.begins;
        fills_later = turn.fills_begin;
        begins = found_begins;
        fills_begin = fills_begin;
      }

  -- a turn that left the store as it was
  pub note_sees : {D : Type 0} {P : StoreView D → Type 0} (device : Device D) (first : StoreView D) (old new : PassView Item Fill T) → TookTurn device first old new (λ before after. (after ≡ before) × P before) → OnlySees first.sealed old new
  note_sees device first old new turn =
      sees_turn device first turn.before turn.after old new turn.turned (as_found device first turn.before turn.after old new turn.turned (inl turn.said.0))

  pub note_silent : {D : Type 0} {P : StoreView D → Type 0} (device : Device D) (first : StoreView D) (old new : PassView Item Fill T) → TookTurn device first old new (λ before after. (after ≡ before) × P before) → new.fills.places ≡ old.fills.places
  note_silent device first old new turn = found_silent device first turn.before turn.after old new turn.turned (inl turn.said.0)

  -- what was noted was so since an older pass, and stays so
  pub noted_since : {sealed : ℕ} (a b c : PassView Item Fill T) → OnlySees sealed a b → NotedRead b.fills c.fills → NotedRead a.fills c.fills
  noted_since a b c sees noted =
      let longer = prefix_length a.fills.seen b.fills.seen sees.fills_begin in
      let low = noted.behind in
      record { place = noted.place; behind = omega (arith, longer, low); there = noted.there }

  pub noted_later : {sealed : ℕ} (a b c : PassView Item Fill T) → NotedRead a.fills b.fills → OnlySees sealed b c → NotedRead a.fills c.fills
  noted_later a b c noted sees =
      let at = noted.there in
      record { place = noted.place; behind = noted.behind; there = (at.0, at_later b.fills.seen c.fills.seen noted.place (Fault at.0 false Nothing) sees.fills_begin at.1) }

  -- a front that was within what was seen stays so
  pub still_within : {sealed : ℕ} (front : ℕ) (old new : PassView Item Fill T) → OnlySees sealed old new → front ≤ length old.history.seen → front ≤ length new.history.seen
  still_within front old new sees low = let longer = prefix_length old.history.seen new.history.seen sees.begins in omega (arith, low, longer)
