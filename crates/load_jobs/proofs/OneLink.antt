-- One link alone sends to an archive: its session is one of the packets of its dump.
use Rattle.std.proofs.Common.{◌≡◌, ◌==◌, ◌⊎◌, inl, inr, ℕ, zero, suc, ◌+◌, ◌<◌, ◌≤◌, List, [], ◌∷◌, ◌++◌, length, take, drop, filter, Bool, true, false, cond, Contains, Option, Some, None, Result, refl, sym, ap, subst, ◌∙◌, arith, append-nil, length-append, eq-eqb}
use Rattle.std.specs.Prelude.{slice_get}
use Rattle.std.proofs.Math.Seq.{drop-append_seam}
use mathlib.Core.List.{IsPrefix}
use Rattle.arch_disk.specs.Disk.{Device}
use Rattle.refusals.specs.declared.refusal.Refusal.{Refusal}
use Rattle.refusals.specs.declared.refusal.Refusal.TheVariants.{DiskFault}
use Rattle.arch_types.specs.declared.row.Row.{Row}
use Rattle.history_items.specs.declared.fills.Addition.{Addition}
use Rattle.history_items.specs.declared.fills.Addition.TheVariants.{Nothing, Rows}
use Rattle.history_items.specs.declared.fills.Fill.{Fill}
use Rattle.history_items.specs.declared.fills.Fill.TheVariants.{Begun, Done, Freed, Fault, Closed}
use Rattle.history_items.specs.declared.items.Item.{Item}
use Rattle.history_items.specs.declared.items.Item.TheVariants as items
use Rattle.history_items.specs.Items.{after_rows, items_of, row_item, rows_in}
use Rattle.store_fills.specs.Faults.{faults_in}
use Rattle.shared_history.specs.Turns.{ArePlaced, HasPut, LinksDiffer, LinkWork, StandAt}
use Rattle.shared_history.proofs.Members.{IsIn, below_length, contains_from, in_from}
use Rattle.shared_history.proofs.Own.{each_row_is_of_a_link, get_drop, rows_of_a_link}
use Rattle.shared_history.proofs.Sending.{one_link_ingests, sent_stays}
use Rattle.shared_history.proofs.Putting.{get_begins, put_stays}
use Rattle.turn_cell.specs.Pass.{PassView}
use Rattle.archive_store.specs.Pages.{HasPages, TellsRows}
use Rattle.archive_store.specs.StoreView.{StoreView}
use Rattle.load_session.specs.declared.session.DumpSummary.{DumpSummary}
use Rattle.load_session.specs.Receiving.{Receiving, rows_received}
use Rattle.load_session.specs.Session.{next_fresh_rows}
use Rattle.load_jobs.specs.Laws.{FaultIsOfTheBatch, IsOneLink, OneLinkReaches}
use Rattle.load_jobs.specs.Links.{FailedAt, HasNoted, IsDumpSent, work_of}

-- ---- what one link put is all that came

-- items that are rows of one link
all_rows : (link : ℕ) (xs : List Item) → ((i : ℕ) (item : Item) → slice_get xs i ≡ Some item → (row : Row) × (item ≡ row_item row) × (row.link ≡ link))
    → items_of (filter (λ row. row.link == link) (rows_in xs)) ≡ xs
all_rows link [] each = refl
all_rows link (items.Mdb database ∷ xs) each = let is = (each 0 (items.Mdb database) refl).1 in absurd (cc is)
all_rows link (items.Row row ∷ xs) each =
    let here = each 0 (items.Row row) refl in
    let is = here.1 in
    let same : row ≡ here.0 = cc is in
    go (row.link == link) (eq-eqb row.link link (ap (λ (x : Row). x.link) same ∙ here.2)) (all_rows link xs (λ i item at. each (suc i) item at))
  where
    go : (b : Bool) → b ≡ true → items_of (filter (λ row. row.link == link) (rows_in xs)) ≡ xs
        → items_of (cond b (row ∷ filter (λ row. row.link == link) (rows_in xs)) (filter (λ row. row.link == link) (rows_in xs))) ≡ items.Row row ∷ xs
    go true own others = ap (λ (l : List Item). items.Row row ∷ l) others
    go false own others = absurd (cc own)

one_only : {X : Type 0} (x y : X) → Contains (x ∷ []) y → y ≡ x
one_only x y has = go (in_from y (x ∷ []) has)
  where
    go : IsIn y (x ∷ []) → y ≡ x
    go (inl e) = sym e
    go (inr none) = absurd none

module _ (low : ℕ) (after : List Item) (work : LinkWork) (put : HasPut low after work) (placed : ArePlaced low after (work ∷ [])) where
  pub one_put : drop low after ≡ items_of work.rows
  one_put =
      let own = rows_of_a_link low after (work ∷ []) (put, tt) placed differ work (contains_from work (work ∷ []) (inl refl)) in
      sym (all_rows work.link (drop low after) each) ∙ ap items_of own
    where
      differ : LinksDiffer (work ∷ [])
      differ a b p q same = one_only work a p ∙ sym (one_only work b q)

      each : (i : ℕ) (item : Item) → slice_get (drop low after) i ≡ Some item → (row : Row) × (item ≡ row_item row) × (row.link ≡ work.link)
      each i item at =
          let o = each_row_is_of_a_link low after (work ∷ []) (put, tt) placed (low + i) item (omega arith) (sym (get_drop low after i) ∙ at) in
          (o.2.0, o.2.1, o.2.2 ∙ ap (λ (w : LinkWork). w.link) (one_only work o.0 o.1))

-- a place at which something stands is one of the list
stands_below : {X : Type 0} (whole : List X) (places : List ℕ) (xs : List X) (place : ℕ) → StandAt whole places xs → IsIn place places → place < length whole
stands_below whole [] xs place s i = absurd i
stands_below whole (p ∷ ps) [] place s i = absurd s
stands_below whole (p ∷ ps) (x ∷ xs) place s (inl e) = omega (arith, e, below_length whole p x s.0)
stands_below whole (p ∷ ps) (x ∷ xs) place s (inr i) = stands_below whole ps xs place s.1 i

-- where each item behind the old ones is the link's, it has seen all
pub all_seen : (low : ℕ) (seen after : List Item) (work : LinkWork) → low ≤ length seen → HasPut low seen work → ArePlaced low after (work ∷ []) → IsPrefix seen after → after ≡ seen
all_seen low seen after work long put placed (more, is) = go more is
  where
    beyond : length seen < length after → ⊥
    beyond less =
        let w = placed (length seen) long less in
        let there = subst (λ (x : LinkWork). Contains x.places (length seen)) (one_only work w.0 w.1) w.2 in
        let low = stands_below seen work.places (items_of work.rows) (length seen) put.stand (in_from (length seen) work.places there) in
        omega (arith, low)

    go : (rest : List Item) → seen ++ rest ≡ after → after ≡ seen
    go [] e = sym e ∙ append-nil seen
    go (x ∷ xs) e = let long = length-append seen (x ∷ xs) in let whole = ap length e in absurd (beyond (omega (arith, long, whole)))

-- ---- the fault of a batch

-- a list with a fault at some place has one
pub some_fault : (fills : List Fill) (place count : ℕ) (wrote : Bool) (addition : Addition) → slice_get fills place ≡ Some (Fault count wrote addition) → faults_in fills ≡ [] → ⊥
some_fault [] place count wrote addition at none = absurd cc
some_fault (Begun i b ∷ fills) zero count wrote addition at none = absurd cc
some_fault (Begun i b ∷ fills) (suc place) count wrote addition at none = some_fault fills place count wrote addition at none
some_fault (Done i b ∷ fills) zero count wrote addition at none = absurd cc
some_fault (Done i b ∷ fills) (suc place) count wrote addition at none = some_fault fills place count wrote addition at none
some_fault (Freed i ∷ fills) zero count wrote addition at none = absurd cc
some_fault (Freed i ∷ fills) (suc place) count wrote addition at none = some_fault fills place count wrote addition at none
some_fault (Closed ∷ fills) zero count wrote addition at none = absurd cc
some_fault (Closed ∷ fills) (suc place) count wrote addition at none = some_fault fills place count wrote addition at none
some_fault (Fault c w a ∷ fills) place count wrote addition at none = absurd (cc none)

-- a fault at some place, where there's one alone
pub fault_alone : (fills : List Fill) (place count : ℕ) (wrote : Bool) (addition : Addition) (x : Fill) → slice_get fills place ≡ Some (Fault count wrote addition) → faults_in fills ≡ x ∷ []
    → faults_in fills ≡ Fault count wrote addition ∷ []
fault_alone [] place count wrote addition x at one = absurd cc
fault_alone (Begun i b ∷ fills) zero count wrote addition x at one = absurd cc
fault_alone (Begun i b ∷ fills) (suc place) count wrote addition x at one = fault_alone fills place count wrote addition x at one
fault_alone (Done i b ∷ fills) zero count wrote addition x at one = absurd cc
fault_alone (Done i b ∷ fills) (suc place) count wrote addition x at one = fault_alone fills place count wrote addition x at one
fault_alone (Freed i ∷ fills) zero count wrote addition x at one = absurd cc
fault_alone (Freed i ∷ fills) (suc place) count wrote addition x at one = fault_alone fills place count wrote addition x at one
fault_alone (Closed ∷ fills) zero count wrote addition x at one = absurd cc
fault_alone (Closed ∷ fills) (suc place) count wrote addition x at one = fault_alone fills place count wrote addition x at one
fault_alone (Fault c w a ∷ fills) zero count wrote addition x at one =
    let same : Fault c w a ≡ Fault count wrote addition = cc at in
    let rest : faults_in fills ≡ [] = cc one in
    ap (λ (l : List Fill). Fault c w a ∷ l) rest ∙ ap (λ (f : Fill). f ∷ []) same
fault_alone (Fault c w a ∷ fills) (suc place) count wrote addition x at one =
    let rest : faults_in fills ≡ [] = cc one in
    absurd (some_fault fills place count wrote addition at rest)

module _ {D T : Type 0} (device : Device D) (first : StoreView D) (dump : List ℕ) (r : Receiving) (put : List Row) (old new : PassView Item Fill T) (answer : Result DumpSummary Refusal) (sent : IsDumpSent device first dump r put old new answer) where
  -- its turns noted nothing, unless the disk failed
  pub silent_unless_failed : (new.fills.places ≡ old.fills.places) ⊎ (sent.came_to.refusal ≡ Some DiskFault)
  silent_unless_failed = go sent.came_to.refusal sent.noted
    where
      go : (refusal : Option Refusal) → HasNoted device first r sent.came_to old new refusal → (new.fills.places ≡ old.fills.places) ⊎ (refusal ≡ Some DiskFault)
      go None noted = inl noted
      go (Some DiskFault) noted = inr refl
      go (Some other) noted = inl noted

  -- the one fault of a later fill list is that of the batch in hand, or of a read
  pub batch_in_hand : sent.came_to.refusal ≡ Some DiskFault → (later : List Fill) (x : Fill) → IsPrefix new.fills.seen later → faults_in later ≡ x ∷ [] → TellsRows device first
      → ((count : ℕ) × (faults_in later ≡ Fault count true (Rows (next_fresh_rows r sent.came_to)) ∷ [])) ⊎ (HasPages first × ((count : ℕ) × (faults_in later ≡ Fault count false Nothing ∷ [])))
  batch_in_hand is later x begins one told = go noted.2
    where
      noted : HasNoted device first r sent.came_to old new (Some DiskFault)
      noted = subst (HasNoted device first r sent.came_to old new) is sent.noted

      alone : (count : ℕ) (wrote : Bool) (addition : Addition) → slice_get new.fills.seen noted.0 ≡ Some (Fault count wrote addition) → faults_in later ≡ Fault count wrote addition ∷ []
      alone count wrote addition at =
          let there = subst (λ (l : List Fill). slice_get l noted.0 ≡ Some (Fault count wrote addition)) begins.1 (get_begins new.fills.seen begins.0 noted.0 _ at) in
          fault_alone later noted.0 count wrote addition x there one

      go : FailedAt device first r sent.came_to new.fills.seen noted.0
          → ((count : ℕ) × (faults_in later ≡ Fault count true (Rows (next_fresh_rows r sent.came_to)) ∷ [])) ⊎ (HasPages first × ((count : ℕ) × (faults_in later ≡ Fault count false Nothing ∷ [])))
      go (inl (count, rows, at, known)) = inl (count, alone count true (Rows rows) at ∙ ap (λ (l : List Row). Fault count true (Rows l) ∷ []) (known told))
      go (inr (paged, (count, at))) = inr (paged, (count, alone count false Nothing at))

  -- ---- the session

  module _ (after : List Item) (one : IsOneLink first r.link put old new after) where
    put_first : HasPut (length first.history) new.history.seen (work_of r.link put new)
    put_first = subst (λ (h : List Item). HasPut (length h) new.history.seen (work_of r.link put new)) one.found one.added.has_put

    first_begins : IsPrefix first.history new.history.seen
    first_begins = subst (λ (h : List Item). IsPrefix h new.history.seen) one.found one.added.begins.0

    -- it has seen the whole history
    pub reached_all : after ≡ sent.came_to.reached
    reached_all =
        let whole = ap length first_begins.1 in
        let parts = length-append first.history first_begins.0 in
        let long : length first.history ≤ length new.history.seen = omega (arith, whole, parts) in
        all_seen (length first.history) new.history.seen after (work_of r.link put new) long put_first one.placed one.begins ∙ sym sent.reached

    whole_put : after ≡ first.history ++ items_of put
    whole_put =
        let put_after = put_stays (length first.history) new.history.seen after (work_of r.link put new) one.begins put_first in
        let all = one_put (length first.history) after (work_of r.link put new) put_after one.placed in
        let begins : first.history ++ first_begins.0 ≡ after = first_begins.1 ∙ sym (reached_all ∙ sent.reached) in
        let more : first_begins.0 ≡ items_of put = sym (drop-append_seam first.history first_begins.0) ∙ (ap (drop (length first.history)) begins ∙ all) in
        sym begins ∙ ap (λ (l : List Item). first.history ++ l) more

    -- the history is the first one followed by the rows of the packets that were sent
    pub one_link_history : TellsRows device first → after ≡ after_rows first.history (rows_received r (take sent.came_to.place sent.came_to.packets))
    one_link_history told =
        let arrived = rows_received r (take sent.came_to.place sent.came_to.packets) in
        one_link_ingests first.history after arrived put one.is_history whole_put (sent_stays arrived put new.history.seen after one.begins (sent.sent told))

-- ---- the laws

module _ {D : Type 0} (T : Type 0) (device : Device D) where
  pub one_link_reaches : OneLinkReaches T device
  one_link_reaches first dump r put old new answer later sent one told = (
    reached_all device first dump r put old new answer sent later one,
    one_link_history device first dump r put old new answer sent later one told,
  )

  pub fault_is_of_the_batch : FaultIsOfTheBatch T device
  fault_is_of_the_batch first dump r put old new answer later fault sent failed begins one told = batch_in_hand device first dump r put old new answer sent failed later fault begins one told
