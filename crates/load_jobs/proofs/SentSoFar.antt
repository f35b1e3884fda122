-- What a link's turns come to.
use Rattle.std.proofs.Common.{◌≡◌, ℕ, zero, suc, List, [], ◌∷◌, Contains, ◌++◌, length, ◌≤◌, refl, sym, ap, subst, ◌∙◌, arith, append-nil, length-append}
use Rattle.std.specs.List.{AllByRecursion, range_with_len}
use Rattle.arch_types.specs.declared.row.Row.{Row}
use Rattle.history_items.specs.declared.fills.Fill.{Fill}
use Rattle.history_items.specs.declared.items.Item.{Item}
use Rattle.history_items.specs.Items.{after_rows, items_of}
use Rattle.history_items.specs.Outcomes.{fresh_of}
use Rattle.history_items.proofs.ItemLists.{length-items_of}
use Rattle.history_items.proofs.Outcomes.{fresh_added}
use Rattle.turn_cell.specs.Pass.{PassView}
use Rattle.archive_store.specs.StoreView.{StoreView}
use Rattle.live_archive.specs.Added.{AddsTo}
use Rattle.live_archive.proofs.Going.{prefix_length, prefix_trans}
use Rattle.shared_history.specs.Sent.{HasSent}
use Rattle.shared_history.specs.Turns.{HasPut, places_behind}
use Rattle.shared_history.proofs.Putting.{turn_puts_more}
use Rattle.shared_history.proofs.Sending.{batch_is_sent}
use Rattle.load_session.specs.Receiving.{Receiving, rows_received}
use Rattle.load_session.proofs.Arrived.{rows-append}
use Rattle.load_jobs.specs.Links.{HasAdded, work_of}
use Rattle.load_jobs.specs.Underway.{IsSentSoFar}
use Rattle.load_jobs.proofs.Received.{received_of_link}

-- a pass without places has put nothing
pub none_added : {T : Type 0} (link : ℕ) (pass : PassView Item Fill T) → pass.history.places ≡ [] → HasAdded link [] pass pass
none_added link pass none = record {
  has_put = subst (λ (l : List ℕ). HasPut (length pass.history.seen) pass.history.seen (record { link = link; places = l; rows = [] })) (sym none) (record { rising = tt; stand = tt; of_link = tt });
  added = omega arith;
  begins = (([], append-nil pass.history.seen), ([], append-nil pass.fills.seen));
  share = refl;
}

-- what holds of each row of a list holds of some of them
member : {X : Type 0} (P : X → Type 0) (xs : List X) (x : X) → AllByRecursion P xs → Contains xs x → P x
member P [] x all (i, low, is) = absurd (omega (arith, low))
member P (y ∷ ys) x all (zero, low, is) = subst P is all.0
member P (y ∷ ys) x all (suc i, low, is) = member P ys x all.1 (i, omega (arith, low), is)

members : {X : Type 0} (P : X → Type 0) (xs some : List X) → AllByRecursion P xs → AllByRecursion (Contains xs) some → AllByRecursion P some
members P xs [] all are = tt
members P xs (x ∷ some) all are = (member P xs x all are.0, members P xs some all are.1)

module _ {T told : Type 0} (r : Receiving) where
  -- nothing yet
  pub sent_none : (pass : PassView Item Fill T) → pass.history.places ≡ [] → IsSentSoFar told r [] pass pass
  sent_none pass none = record { put = []; added = none_added r.link pass none; few = omega arith; has_sent = λ _. record { some = refl; kept = tt } }

  -- a turn put the new ones of the rows of more packets
  pub sent_more : {D : Type 0} (before : StoreView D) (old mid new : PassView Item Fill T) (packets batch : List (List ℕ)) (rows fresh : List Row) (noted : List Fill) → rows ≡ rows_received r batch
      → AllByRecursion (Contains rows) fresh → length fresh ≤ length rows → (told → fresh ≡ fresh_of before.history rows)
      → AddsTo before mid new (items_of fresh) noted → IsSentSoFar told r packets old mid → IsSentSoFar told r (packets ++ batch) old new
  sent_more before old mid new packets batch rows fresh noted is are fewer known adds s =
      let found = before.history in
      let a = adds.history in
      let had = s.added in
      let link = subst (λ (l : List Row). AllByRecursion (λ row. row.link ≡ r.link) l) (sym is) (received_of_link r batch) in
      let long = prefix_length old.history.seen mid.history.seen had.begins.0 in
      let put = turn_puts_more (length old.history.seen) mid.history.seen found (work_of r.link s.put mid) fresh long a.begins had.has_put (members (λ (row : Row). row.link ≡ r.link) rows fresh link are) in
      let places : new.history.places ≡ mid.history.places ++ places_behind found fresh = a.places ∙ ap (λ (n : ℕ). mid.history.places ++ range_with_len (length found) n) (length-items_of fresh) in
      let count = had.added in
      let more = a.added in
      let items = length-items_of fresh in
      let both = length-append s.put fresh in
      record {
        put = s.put ++ fresh;
        added = record {
          has_put = subst (λ (l : List Item). HasPut (length old.history.seen) l (work_of r.link (s.put ++ fresh) new)) (sym a.seen)
              (subst (λ (l : List ℕ). HasPut (length old.history.seen) (found ++ items_of fresh) (record { link = r.link; places = l; rows = s.put ++ fresh })) (sym places) put);
          added = omega (arith, count, more, items, both);
          begins = (
            prefix_trans old.history.seen mid.history.seen new.history.seen had.begins.0 (prefix_trans mid.history.seen found new.history.seen a.begins (items_of fresh, sym a.seen)),
            prefix_trans old.fills.seen mid.fills.seen new.fills.seen had.begins.1 (prefix_trans mid.fills.seen before.fills new.fills.seen adds.fills.begins (noted, sym adds.fills.seen)),
          );
          share = adds.share ∙ had.share;
        };
        few = let had_few = s.few in let all = ap length (rows-append r packets batch) in let sum = length-append (rows_received r packets) (rows_received r batch) in let long = ap length is in omega (arith, had_few, fewer, both, all, sum, long);
        has_sent = λ tells.
            let e = known tells in
            let whole : after_rows found rows ≡ new.history.seen = fresh_added found rows ∙ ap (λ (l : List Row). found ++ items_of l) (sym e) ∙ sym a.seen in
            let sent = batch_is_sent (rows_received r packets) s.put rows mid.history.seen found a.begins (s.has_sent tells) in
            let here = subst (λ (l : List Row). HasSent (rows_received r packets ++ rows) (after_rows found rows) (s.put ++ l)) (sym e) sent in
            subst (λ (l : List Item). HasSent (rows_received r (packets ++ batch)) l (s.put ++ fresh)) whole
            (subst (λ (l : List Row). HasSent l (after_rows found rows) (s.put ++ fresh)) (ap (λ (l : List Row). rows_received r packets ++ l) is ∙ sym (rows-append r packets batch)) here);
      }

  -- a turn that puts nothing
  pub sent_same : {D : Type 0} (before : StoreView D) (old mid new : PassView Item Fill T) (packets : List (List ℕ)) (noted : List Fill) → AddsTo before mid new [] noted
      → IsSentSoFar told r packets old mid → IsSentSoFar told r packets old new
  sent_same before old mid new packets noted adds s = subst (λ (l : List (List ℕ)). IsSentSoFar told r l old new) (append-nil packets) (sent_more before old mid new packets [] [] [] noted refl tt (omega arith) (λ _. refl) adds s)
