-- Steps and runs.
use Rattle.std.proofs.Common.{◌≡◌, ℕ, List, [], ◌∷◌, ◌++◌, length, drop, Bool, true, false, Some, ◌+◌, ◌≤◌, refl, sym, ◌∙◌, ap, subst, arith, append-nil, append_assoc}
use Rattle.std.specs.Prelude.{◌↔◌, fold, map, slice_get, if◌then◌else◌}
use Rattle.std.specs.Option.{is_some}
use mathlib.Core.List.{IsPrefix}
use Rattle.arch_types.specs.declared.inserted.Installed.TheVariants as became
use Rattle.intervals.specs.declared.interval.Interval.{Interval}
use Rattle.history_items.specs.declared.fills.Fill.{Fill}
use Rattle.history_items.specs.declared.fills.Fill.TheVariants.{Begun, Done, Freed}
use Rattle.history_items.specs.FillList.{flights_of}
use Rattle.history_items.specs.Fills.{in_flight}
use Rattle.history_items.specs.declared.items.Item.{Item}
use Rattle.history_items.specs.Items.{items_of}
use Rattle.history_items.specs.Outcomes.{fresh_of}
use Rattle.history_items.proofs.Outcomes.{fresh_added}
use Rattle.archive_core.specs.declared.event.Event.{Event}
use Rattle.archive_core.specs.declared.event.Event.TheVariants.{Ingest, Begin, Install, Abandon, Retrieve, Replay}
use Rattle.archive_core.specs.declared.reply.Reply.{Reply}
use Rattle.archive_core.specs.declared.reply.Reply.TheVariants.{Ingested, NoTask, Task, Void, Installed, Abandoned}
use Rattle.archive_core.specs.Machine.{MachineStep, MachineRun}
use Rattle.archive_core.proofs.Ingested.{cut_at, none_from}
use Rattle.interval_fills.specs.Invariant.{MachineInvariant}
use Rattle.interval_fills.specs.Steps.{MachineState, first_state, state_of, freed, all_freed, given_up}
use Rattle.interval_fills.proofs.Steps.{first, ingests, begins, installs, gives_up}
use Rattle.mdb_items.specs.Database.{Database}

-- ---- what a step puts behind

-- both lists of a state begin with those of another
abbrev pub Adds : MachineState → MachineState → Type 0
Adds old new = IsPrefix old.history new.history × IsPrefix old.fills new.fills

stays : {X : Type 0} (xs ys : List X) → ys ≡ xs → IsPrefix xs ys
stays xs ys is = ([], append-nil xs ∙ sym is)

same_adds : (old new : MachineState) → new ≡ old → Adds old new
same_adds old new is = (stays old.history new.history (ap (λ (s : MachineState). s.history) is), stays old.fills new.fills (ap (λ (s : MachineState). s.fills) is))

pub freed_adds : (i : Interval) (fills : List Fill) → IsPrefix fills (freed i fills)
freed_adds i fills = go (is_some (in_flight i fills))
  where
    go : (b : Bool) → IsPrefix fills (if b then fills ++ Freed i ∷ [] else fills)
    go true = (Freed i ∷ [], refl)
    go false = ([], append-nil fills)

module _ (e : ℕ) (tables : List (List ℕ)) (db : Database) where
  same : (old new : MachineState) → MachineInvariant e old → new ≡ old → MachineInvariant e new
  same old new s is = subst (MachineInvariant e) (sym is) s

  pub keeps : (old new : MachineState) (event : Event) (reply : Reply) → MachineInvariant e old → MachineStep e tables db old event reply new → MachineInvariant e new
  keeps old new (Ingest caller rows) (Ingested outcomes) s is = ingests e old new rows outcomes s is
  keeps old new (Ingest caller rows) _ s is = absurd is
  keeps old new (Begin caller) NoTask s is = same old new s is.1
  keeps old new (Begin caller) (Task interval base rows) s is = begins e old new interval base rows s is
  keeps old new (Begin caller) _ s is = absurd is
  keeps old new (Install caller interval base) Void s is = same old new s is.1
  keeps old new (Install caller interval base) (Installed installed) s is = installs e old new interval base installed s is.0 is.1
  keeps old new (Install caller interval base) _ s is = absurd is
  keeps old new (Abandon caller interval) Abandoned s is = subst (MachineInvariant e) (sym is) (gives_up e old interval s)
  keeps old new (Abandon caller interval) _ s is = absurd is
  keeps old new (Retrieve caller request) reply s is = same old new s is.1
  keeps old new (Replay caller request) reply s is = same old new s is.1

  pub adds : (old new : MachineState) (event : Event) (reply : Reply) → MachineStep e tables db old event reply new → Adds old new
  adds old new (Ingest caller rows) (Ingested outcomes) is =
      ((items_of (fresh_of old.history rows), sym (is.history ∙ fresh_added old.history rows)), stays old.fills new.fills is.fills)
  adds old new (Ingest caller rows) _ is = absurd is
  adds old new (Begin caller) NoTask is = same_adds old new is.1
  adds old new (Begin caller) (Task interval base rows) is = (stays old.history new.history is.history, (Begun interval base ∷ [], sym is.fills))
  adds old new (Begin caller) _ is = absurd is
  adds old new (Install caller interval base) Void is = same_adds old new is.1
  adds old new (Install caller interval base) (Installed became.Done) is =
      subst (Adds old) (sym is.1.1) (stays old.history old.history refl, (Done interval base ∷ [], refl))
  adds old new (Install caller interval base) (Installed (became.Stale position)) is =
      subst (Adds old) (sym is.1.2) (stays old.history old.history refl, freed_adds interval old.fills)
  adds old new (Install caller interval base) _ is = absurd is
  adds old new (Abandon caller interval) Abandoned is = subst (Adds old) (sym is) (stays old.history old.history refl, freed_adds interval old.fills)
  adds old new (Abandon caller interval) _ is = absurd is
  adds old new (Retrieve caller request) reply is = same_adds old new is.1
  adds old new (Replay caller request) reply is = same_adds old new is.1

  -- ---- runs

  run_keeps : (events : List Event) (replies : List Reply) (old new : MachineState) → MachineInvariant e old → MachineRun e tables db old events replies new → MachineInvariant e new
  run_keeps [] [] old new s is = same old new s is
  run_keeps [] (reply ∷ replies) old new s is = absurd is
  run_keeps (event ∷ events) [] old new s is = absurd is
  run_keeps (event ∷ events) (reply ∷ replies) old new s is = run_keeps events replies is.0 new (keeps old is.0 event reply s is.1) is.2

  pub runs : (events : List Event) (replies : List Reply) (new : MachineState) → MachineRun e tables db first_state events replies new → MachineInvariant e new
  runs events replies new is = run_keeps events replies first_state new (first e) is

  -- flights end one after the other
  ends : (caller : ℕ) (history : List Item) (flights : List Interval) (fills : List Fill) → MachineRun e tables db (state_of history fills) (map (Abandon caller) flights) (map (λ _. Abandoned) flights)
      (state_of history (fold (λ ended interval. freed interval ended) fills flights))
  ends caller history [] fills = refl
  ends caller history (i ∷ flights) fills = (given_up i (state_of history fills), refl, ends caller history flights (freed i fills))

  pub settling : (caller : ℕ) (s : MachineState) → MachineRun e tables db s (map (Abandon caller) (flights_of s.fills)) (map (λ _. Abandoned) (flights_of s.fills)) (state_of s.history (all_freed s.fills))
  settling caller s = ends caller s.history (flights_of s.fills) s.fills

  there : (events later : List Event) (replies more : List Reply) (old new : MachineState) → length events ≡ length replies → MachineRun e tables db old (events ++ later) (replies ++ more) new
      → (mid : MachineState) × MachineRun e tables db old events replies mid × MachineRun e tables db mid later more new
  there [] later [] more old new len run = (old, refl, run)
  there [] later (reply ∷ replies) more old new len run = absurd (omega (arith, len))
  there (event ∷ events) later [] more old new len run = absurd (omega (arith, len))
  there (event ∷ events) later (reply ∷ replies) more old new len run =
      let rest = there events later replies more run.0 new (omega (arith, len)) run.2 in
      (rest.0, (run.0, run.1, rest.1), rest.2)

  back : (events later : List Event) (replies more : List Reply) (old mid new : MachineState) → MachineRun e tables db old events replies mid → MachineRun e tables db mid later more new
      → MachineRun e tables db old (events ++ later) (replies ++ more) new
  back [] later [] more old mid new before run = subst (λ (s : MachineState). MachineRun e tables db s later more new) before run
  back [] later (reply ∷ replies) more old mid new before run = absurd before
  back (event ∷ events) later [] more old mid new before run = absurd before
  back (event ∷ events) later (reply ∷ replies) more old mid new before run =
      (before.0, before.1, back events later replies more before.0 mid new before.2 run)

  pub in_turn : (old new : MachineState) (events later : List Event) (replies more : List Reply) → length events ≡ length replies →
      MachineRun e tables db old (events ++ later) (replies ++ more) new
      ↔ ((mid : MachineState) × MachineRun e tables db old events replies mid × MachineRun e tables db mid later more new)
  in_turn old new events later replies more len =
      (there events later replies more old new len, λ run. back events later replies more old run.0 new run.1 run.2)

  -- ---- a run event by event

  -- whatever run goes on from here over the events that are left, it completes the run from the beginning
  abbrev pub GoesOn : MachineState → List Event → MachineState → List Reply → List Event → Type 0
  GoesOn old events now replies left =
      (rest : List Reply) (new : MachineState) → MachineRun e tables db now left rest new → MachineRun e tables db old events (replies ++ rest) new

  pub goes_on_next : (old : MachineState) (events : List Event) (now next : MachineState) (replies : List Reply) (event : Event) (reply : Reply) (left : List Event)
      → GoesOn old events now replies (event ∷ left) → MachineStep e tables db now event reply next → GoesOn old events next (replies ++ reply ∷ []) left
  goes_on_next old events now next replies event reply left before step = λ rest new run.
      subst (λ (l : List Reply). MachineRun e tables db old events l new) (sym (append_assoc replies (reply ∷ []) rest)) (before (reply ∷ rest) new (next, step, run))

  pub goes_on_end : (old : MachineState) (events : List Event) (now : MachineState) (replies : List Reply) → GoesOn old events now replies [] → MachineRun e tables db old events replies now
  goes_on_end old events now replies before = subst (λ (l : List Reply). MachineRun e tables db old events l now) (append-nil replies) (before [] now refl)

  -- one event more
  pub run_more : (old now next : MachineState) (events : List Event) (replies pushed : List Reply) (i : ℕ) (event : Event) (reply : Reply) → slice_get events i ≡ Some event → pushed ≡ replies ++ reply ∷ []
      → MachineStep e tables db now event reply next → GoesOn old events now replies (drop i events) → GoesOn old events next pushed (drop (i + 1) events)
  run_more old now next events replies pushed i event reply at is step before =
      subst (λ (l : List Reply). GoesOn old events next l (drop (i + 1) events)) (sym is)
      (goes_on_next old events now next replies event reply (drop (i + 1) events) (subst (GoesOn old events now replies) (cut_at events i event at) before) step)

  -- no event is left
  pub run_all : (old now : MachineState) (events : List Event) (replies : List Reply) (i : ℕ) → length events ≤ i → GoesOn old events now replies (drop i events) → MachineRun e tables db old events replies now
  run_all old now events replies i all before = goes_on_end old events now replies (subst (GoesOn old events now replies) (none_from events i all) before)

-- the same step of a machine with the same tables and database
pub step_of_same : (e : ℕ) (tables others : List (List ℕ)) (db other : Database) (old new : MachineState) (event : Event) (reply : Reply) → tables ≡ others → db ≡ other
    → MachineStep e tables db old event reply new → MachineStep e others other old event reply new
step_of_same e tables others db other old new event reply one two step =
    subst (λ (t : List (List ℕ)). MachineStep e t other old event reply new) one (subst (λ (d : Database). MachineStep e tables d old event reply new) two step)

-- ---- beginnings of lists

adds_more : {X : Type 0} (xs ys zs : List X) → IsPrefix xs ys → IsPrefix ys zs → IsPrefix xs zs
adds_more xs ys zs one two =
    (one.0 ++ two.0, sym (append_assoc xs one.0 two.0) ∙ ap (λ (l : List _). l ++ two.0) one.1 ∙ two.1)

pub adds_then : (old now next : MachineState) → Adds old now → Adds now next → Adds old next
adds_then old now next one two = (adds_more old.history now.history next.history one.0 two.0, adds_more old.fills now.fills next.fills one.1 two.1)
