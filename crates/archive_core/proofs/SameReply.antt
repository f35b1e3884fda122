-- States that are alike have the same replies.
use Rattle.std.proofs.Common.{◌≡◌, ℕ, List, [], ◌∷◌, ◌++◌, Bool, true, false, true≢false, Option, refl, sym, ◌∙◌, ap, subst}
use Rattle.std.specs.Prelude.{MatchOption, ⊤, if◌then◌else◌}
use Rattle.std.specs.Option.{is_some}
use Rattle.arch_types.specs.declared.inserted.Installed.TheVariants as became
use Rattle.intervals.specs.declared.interval.Interval.{Interval}
use Rattle.history_items.specs.declared.fills.Addition.{Addition}
use Rattle.history_items.specs.declared.fills.Fill.{Fill}
use Rattle.history_items.specs.declared.fills.Fill.TheVariants.{Begun, Done, Freed, Fault}
use Rattle.history_items.specs.Fills.{base_in, base_after, in_flight, flight_after, reopened}
use Rattle.history_items.specs.declared.items.Item.{Item}
use Rattle.history_items.specs.Late.{IsChangedSince, IsLate}
use Rattle.history_items.proofs.FillLists.{base_after_item, flight_after_item, base_in-reopened, in_flight-reopened}
use Rattle.archive_core.specs.Alike.{AreAlike}
use Rattle.archive_core.specs.Machine.{MachineStep}
use Rattle.archive_core.specs.declared.event.Event.{Event}
use Rattle.archive_core.specs.declared.event.Event.TheVariants.{Ingest, Begin, Install, Abandon, Retrieve, Replay}
use Rattle.archive_core.specs.declared.reply.Reply.{Reply}
use Rattle.archive_core.specs.declared.reply.Reply.TheVariants.{Ingested, NoTask, Task, Void, Installed, Abandoned}
use Rattle.interval_fills.specs.Steps.{MachineState, IsLateFree, state_of, filled, given_up}
use Rattle.mdb_items.specs.Database.{Database}

-- ---- lateness is by the base, and freedom by the flight

late_too : (e : ℕ) (i : Interval) (h : List Item) (f g : List Fill) → base_in i f ≡ base_in i g → IsLate e i h f → IsLate e i h g
late_too e i h f g base late = record { row = late.row; unseen = subst (λ (o : Option ℕ). MatchOption o ⊤ (λ b. IsChangedSince e i b h)) base late.unseen }

free_too : (e : ℕ) (i : Interval) (h : List Item) (f g : List Fill) → base_in i f ≡ base_in i g → in_flight i f ≡ in_flight i g → IsLateFree e i (state_of h f) → IsLateFree e i (state_of h g)
free_too e i h f g base flight x = record { late = late_too e i h f g base x.late; free = sym flight ∙ x.free }

-- ---- the same item more

module _ (h : List Item) (f g : List Fill) (are : AreAlike (state_of h f) (state_of h g)) where
  item_more : (item : Fill) → AreAlike (state_of h (f ++ item ∷ [])) (state_of h (g ++ item ∷ []))
  item_more item = record {
    history = refl;
    bases = λ j. base_after_item j f item ∙ ap (λ (o : Option ℕ). base_after j o item) (are.bases j) ∙ sym (base_after_item j g item);
    flights = λ j. flight_after_item j f item ∙ ap (λ (o : Option ℕ). flight_after j o item) (are.flights j) ∙ sym (flight_after_item j g item);
  }

  freed_more : (i : Interval) → AreAlike (given_up i (state_of h f)) (given_up i (state_of h g))
  freed_more i = go (is_some (in_flight i f)) (is_some (in_flight i g)) (ap is_some (are.flights i))
    where
      go : (p q : Bool) → p ≡ q → AreAlike (state_of h (if p then f ++ Freed i ∷ [] else f)) (state_of h (if q then g ++ Freed i ∷ [] else g))
      go true true same = item_more (Freed i)
      go true false same = absurd (true≢false same)
      go false true same = absurd (true≢false (sym same))
      go false false same = are

  -- ---- a step

  stays : (new : MachineState) → new ≡ state_of h f → AreAlike new (state_of h g)
  stays new is = subst (λ (s : MachineState). AreAlike s (state_of h g)) (sym is) are

  module _ (e : ℕ) (tables : List (List ℕ)) (db : Database) where
    pub follows : (new : MachineState) (event : Event) (reply : Reply) → MachineStep e tables db (state_of h f) event reply new
        → (next : MachineState) × MachineStep e tables db (state_of h g) event reply next × AreAlike new next
    follows new (Ingest caller rows) (Ingested outcomes) x = (
      state_of new.history g,
      record { outcomes_are = x.outcomes_are; history = x.history; fills = refl },
      record { history = refl; bases = λ j. ap (base_in j) x.fills ∙ are.bases j; flights = λ j. ap (in_flight j) x.fills ∙ are.flights j },
    )
    follows new (Ingest caller rows) _ x = absurd x
    follows new (Begin caller) NoTask x = (
      state_of h g,
      (λ j late free. x.0 j (late_too e j h g f (sym (are.bases j)) late) (are.flights j ∙ free), refl),
      stays new x.1,
    )
    follows new (Begin caller) (Task i base rows) x =
        let more = item_more (Begun i base) in (
          state_of h (g ++ Begun i base ∷ []),
          record {
            next = (
              free_too e i h f g (are.bases i) (are.flights i) x.next.0,
              λ j free. x.next.1 j (free_too e j h g f (sym (are.bases j)) (sym (are.flights j)) free),
            );
            base_is = x.base_is;
            rows_are = x.rows_are;
            history = refl;
            fills = refl;
          },
          record { history = x.history; bases = λ j. ap (base_in j) x.fills ∙ more.bases j; flights = λ j. ap (in_flight j) x.fills ∙ more.flights j },
        )
    follows new (Begin caller) _ x = absurd x
    follows new (Install caller i base) Void x = (state_of h g, (x.0, refl), stays new x.1)
    follows new (Install caller i base) (Installed became.Done) x = (
      filled i base (state_of h g),
      (x.0, (x.1.0, refl)),
      subst (λ (s : MachineState). AreAlike s (filled i base (state_of h g))) (sym x.1.1) (item_more (Done i base)),
    )
    follows new (Install caller i base) (Installed (became.Stale position)) x = (
      given_up i (state_of h g),
      (x.0, (x.1.0, x.1.1, refl)),
      subst (λ (s : MachineState). AreAlike s (given_up i (state_of h g))) (sym x.1.2) (freed_more i),
    )
    follows new (Install caller i base) _ x = absurd x
    follows new (Abandon caller i) Abandoned x = (
      given_up i (state_of h g),
      refl,
      subst (λ (s : MachineState). AreAlike s (given_up i (state_of h g))) (sym x) (freed_more i),
    )
    follows new (Abandon caller i) _ x = absurd x
    follows new (Retrieve caller request) reply x = (state_of h g, (x.0, refl), stays new x.1)
    follows new (Replay caller request) reply x = (state_of h g, (x.0, refl), stays new x.1)

-- of any two states that are alike
pub alike_replies : (e : ℕ) (tables : List (List ℕ)) (db : Database) (old new alike : MachineState) (event : Event) (reply : Reply) → AreAlike old alike → MachineStep e tables db old event reply new
    → (next : MachineState) × MachineStep e tables db alike event reply next × AreAlike new next
alike_replies e tables db old new alike event reply are step =
    let here : AreAlike (state_of alike.history old.fills) alike = record { history = refl; bases = are.bases; flights = are.flights } in
    follows alike.history old.fills alike.fills here e tables db new event reply
    (subst (λ (l : List Item). MachineStep e tables db (state_of l old.fills) event reply new) are.history step)

-- ---- faults

pub faults_alike : (s : MachineState) (count : ℕ) (wrote : Bool) (unacknowledged : Addition) → AreAlike s (state_of s.history (s.fills ++ Fault count wrote unacknowledged ∷ [])) × AreAlike s (state_of s.history (reopened s.fills))
faults_alike s count wrote unacknowledged =
    let fault = Fault count wrote unacknowledged in (
      record { history = refl; bases = λ j. sym (base_after_item j s.fills fault); flights = λ j. sym (flight_after_item j s.fills fault) },
      record { history = refl; bases = λ j. sym (base_in-reopened j s.fills); flights = λ j. sym (in_flight-reopened j s.fills) },
    )
