-- Each event has one reply.
use Rattle.std.proofs.Common.{◌≡◌, ℕ, ℤ, ◌≤ℤ◌, ◌<ℤ◌, List, [], ◌∷◌, ◌++◌, length, Bool, true, false, Option, Some, None, refl, sym, ◌∙◌, ap, subst, arith}
use Rattle.std.specs.Prelude.{int_lt, if◌then◌else◌}
use Rattle.std.specs.Option.{option_map_or}
use Rattle.std.proofs.lemmas.Int.{ints}
use Rattle.asks.specs.declared.ask.Answer.{Answer}
use Rattle.asks.specs.declared.ask.ReplayRequest.{ReplayRequest}
use Rattle.asks.specs.declared.ask.Request.{Request}
use Rattle.arch_types.specs.declared.inserted.Inserted.{Inserted}
use Rattle.intervals.specs.declared.interval.Interval.{Interval}
use Rattle.asks.specs.declared.refusal.AskRefusal.{AskRefusal}
use Rattle.asks.specs.declared.refusal.AskRefusal.TheVariants.{UnknownParameter, BadRange, UnknownTable}
use Rattle.asks.specs.Refusals.{range_refusal, replay_refusal, request_refusal}
use Rattle.arch_types.specs.declared.row.Row.{Row}
use Rattle.history_items.specs.declared.fills.Fill.TheVariants.{Begun}
use Rattle.history_items.specs.declared.items.Item.{Item}
use Rattle.history_items.specs.Items.{rows_in}
use Rattle.history_items.specs.Databases.{database_in, names_in}
use Rattle.container_extract.specs.Answer.{answer_of}
use Rattle.replay_merge.specs.Replay.{replay_of}
use Rattle.archive_core.specs.Asks.{IsAnswered, IsReplayed}
use Rattle.archive_core.specs.Machine.{MachineStep, MachineRun}
use Rattle.archive_core.specs.Replies.{RepliesToBegin, RepliesToInstall, RepliesToRequest, RepliesToReplay}
use Rattle.archive_core.specs.declared.event.Event.{Event}
use Rattle.archive_core.specs.declared.event.Event.TheVariants.{Ingest, Begin, Install, Abandon, Retrieve, Replay}
use Rattle.archive_core.specs.declared.reply.Reply.{Reply}
use Rattle.archive_core.specs.declared.reply.Reply.TheVariants.{Ingested, NoTask, Task, Void, Installed, Abandoned, Answered, Replayed, Refused}
use Rattle.interval_fills.proofs.Steps.{one_outcome, some_is}
use Rattle.interval_fills.specs.Intervals.{rows_of_interval}
use Rattle.interval_fills.specs.Steps.{MachineState, state_of, Ingests, AllLateInFlight, BeginsFill}
use Rattle.mdb_items.specs.Database.{Database}
use Rattle.mdb_items.specs.Texts.{Text}

same_state : (a b : MachineState) → a.history ≡ b.history → a.fills ≡ b.fills → a ≡ b
same_state a b history fills = ap (λ (h : List Item). state_of h a.fills) history ∙ ap (state_of b.history) fills

-- ---- rows that come in

ingest_is_one : (old new other : MachineState) (rows : List Row) (a b : List Inserted) → Ingests old rows a new → Ingests old rows b other → (Ingested a ≡ Ingested b) × (new ≡ other)
ingest_is_one old new other rows a b x y =
    (ap Ingested (x.outcomes_are ∙ sym y.outcomes_are), same_state new other (x.history ∙ sym y.history) (x.fills ∙ sym y.fills))

-- ---- tasks

no_task : (e : ℕ) (old new : MachineState) (interval : Interval) (base : ℕ) (rows : List Row) → AllLateInFlight e old → BeginsFill e old interval base rows new → ⊥
no_task e old new interval base rows all y = all interval y.next.0.late y.next.0.free

meet : (a b : ℤ) → a ≤ℤ b → b ≤ℤ a → a ≡ b
meet a b one two = grind (arith, ints)

-- the next interval to fill is one
least_is_one : (e : ℕ) (old new other : MachineState) (i j : Interval) (a b : ℕ) (xs ys : List Row) → BeginsFill e old i a xs new → BeginsFill e old j b ys other → i ≡ j
least_is_one e old new other i j a b xs ys x y =
    ap (λ (n : ℤ). let k : Interval = record { 0 = n } in k) (meet i.0 j.0 (x.next.1 j y.next.0) (y.next.1 i x.next.0))

task_is_one : (e : ℕ) (old new other : MachineState) (i j : Interval) (a b : ℕ) (xs ys : List Row) → BeginsFill e old i a xs new → BeginsFill e old j b ys other → (Task i a xs ≡ Task j b ys) × (new ≡ other)
task_is_one e old new other i j a b xs ys x y =
    let interval = least_is_one e old new other i j a b xs ys x y in
    let base : a ≡ b = x.base_is ∙ sym y.base_is in
    let rows : xs ≡ ys = x.rows_are ∙ ap (λ (k : Interval). rows_of_interval e k old.history) interval ∙ sym y.rows_are in
    let noted : old.fills ++ Begun i a ∷ [] ≡ old.fills ++ Begun j b ∷ [] =
    ap (λ (k : Interval). old.fills ++ Begun k a ∷ []) interval ∙ ap (λ (n : ℕ). old.fills ++ Begun j n ∷ []) base in (
      ap (λ (k : Interval). Task k a xs) interval ∙ ap (λ (n : ℕ). Task j n xs) base ∙ ap (Task j b) rows,
      same_state new other (x.history ∙ sym y.history) (x.fills ∙ noted ∙ sym y.fills),
    )

begin_is_one : (e : ℕ) (old new other : MachineState) (r s : Reply) → RepliesToBegin e old r new → RepliesToBegin e old s other → (r ≡ s) × (new ≡ other)
begin_is_one e old new other NoTask NoTask x y = (refl, x.1 ∙ sym y.1)
begin_is_one e old new other NoTask (Task j b ys) x y = absurd (no_task e old other j b ys x.0 y)
begin_is_one e old new other NoTask _ x y = absurd y
begin_is_one e old new other (Task i a xs) NoTask x y = absurd (no_task e old new i a xs y.0 x)
begin_is_one e old new other (Task i a xs) (Task j b ys) x y = task_is_one e old new other i j a b xs ys x y
begin_is_one e old new other (Task i a xs) _ x y = absurd y
begin_is_one e old new other _ s x y = absurd x

-- ---- fills that are there

install_is_one : (e : ℕ) (old new other : MachineState) (interval : Interval) (base : ℕ) (r s : Reply) → RepliesToInstall e old interval base r new → RepliesToInstall e old interval base s other → (r ≡ s) × (new ≡ other)
install_is_one e old new other interval base Void Void x y = (refl, x.1 ∙ sym y.1)
install_is_one e old new other interval base Void (Installed b) x y = absurd (x.0 y.0)
install_is_one e old new other interval base Void _ x y = absurd y
install_is_one e old new other interval base (Installed a) Void x y = absurd (y.0 x.0)
install_is_one e old new other interval base (Installed a) (Installed b) x y =
    let one = one_outcome e old new other interval base a b x.1 y.1 in
    (ap Installed one.0, one.1)
install_is_one e old new other interval base (Installed a) _ x y = absurd y
install_is_one e old new other interval base _ s x y = absurd x

-- ---- what is asked

some_refusal : (r s : AskRefusal) → ◌≡◌ {A = Option AskRefusal} (Some r) (Some s) → r ≡ s
some_refusal r s e = cc

-- a range that doesn't end before it begins isn't refused
no_range_refused : (from to : ℤ) (s : AskRefusal) → from ≤ℤ to → range_refusal from to ≡ Some s → ⊥
no_range_refused from to s range refused = either (int_lt to from) refl refused
  where
    either : (b : Bool) → int_lt to from ≡ b → (if b then Some (BadRange from to) else None) ≡ Some s → ⊥
    either true reversed e = let less : to <ℤ from = grind (arith, ints, reversed) in absurd (omega (arith, ints, less, range))
    either false whole e = cc

-- ---- values

module _ (db : Database) (front : ℕ) (rows : List Row) (request : Request) where
  answer_is_one : (a b : Answer) → IsAnswered db front rows request a → IsAnswered db front rows request b → a ≡ b
  answer_is_one a b x y =
      let number : x.number ≡ y.number = some_is x.number y.number (sym x.named ∙ y.named) in
      let fronts : a.front ≡ b.front = x.front_is ∙ sym y.front_is in
      let cells : a.cells ≡ b.cells = x.cells ∙ ap (λ (n : ℕ). answer_of db n request rows) number ∙ sym y.cells in
      ap (λ (n : ℕ). let r : Answer = record { front = n; cells = a.cells } in r) fronts
      ∙ ap (λ (l : List _). let r : Answer = record { front = b.front; cells = l } in r) cells

  -- what has an answer isn't refused
  answered_or_refused : (a : Answer) (s : AskRefusal) → IsAnswered db front rows request a → request_refusal db request ≡ Some s → ⊥
  answered_or_refused a s x y =
      no_range_refused request.from request.to s x.range
      (ap (λ (o : Option ℕ). option_map_or (λ number. range_refusal request.from request.to) o (Some UnknownParameter)) (sym x.named) ∙ y)

  request_is_one : (r s : Reply) → RepliesToRequest db front rows request r → RepliesToRequest db front rows request s → r ≡ s
  request_is_one (Answered a) (Answered b) x y = ap Answered (answer_is_one a b x y)
  request_is_one (Answered a) (Refused s) x y = absurd (answered_or_refused a s x y)
  request_is_one (Answered a) _ x y = absurd y
  request_is_one (Refused r) (Answered b) x y = absurd (answered_or_refused b r y x)
  request_is_one (Refused r) (Refused s) x y = ap Refused (some_refusal r s (sym x ∙ y))
  request_is_one (Refused r) _ x y = absurd y
  request_is_one _ s x y = absurd x

-- ---- rows

module _ (tables names : List Text) (front : ℕ) (history : List Row) (request : ReplayRequest) where
  rows_are_one : (n m : ℕ) (xs ys : List Row) → IsReplayed tables names front history request n xs → IsReplayed tables names front history request m ys → Replayed n xs ≡ Replayed m ys
  rows_are_one n m xs ys x y =
      let table : x.table ≡ y.table = some_is x.table y.table (sym x.named ∙ y.named) in
      let rows : xs ≡ ys = x.rows_are ∙ ap (λ (t : ℕ). replay_of names t request history) table ∙ sym y.rows_are in
      ap (λ (k : ℕ). Replayed k xs) (x.front_is ∙ sym y.front_is) ∙ ap (Replayed m) rows

  -- what has rows isn't refused
  replayed_or_refused : (n : ℕ) (xs : List Row) (s : AskRefusal) → IsReplayed tables names front history request n xs → replay_refusal tables request ≡ Some s → ⊥
  replayed_or_refused n xs s x y =
      no_range_refused request.from request.to s x.range
      (ap (λ (o : Option ℕ). option_map_or (λ table. range_refusal request.from request.to) o (Some (UnknownTable request.table))) (sym x.named) ∙ y)

  replay_is_one : (r s : Reply) → RepliesToReplay tables names front history request r → RepliesToReplay tables names front history request s → r ≡ s
  replay_is_one (Replayed n xs) (Replayed m ys) x y = rows_are_one n m xs ys x y
  replay_is_one (Replayed n xs) (Refused s) x y = absurd (replayed_or_refused n xs s x y)
  replay_is_one (Replayed n xs) _ x y = absurd y
  replay_is_one (Refused r) (Replayed m ys) x y = absurd (replayed_or_refused m ys r y x)
  replay_is_one (Refused r) (Refused s) x y = ap Refused (some_refusal r s (sym x ∙ y))
  replay_is_one (Refused r) _ x y = absurd y
  replay_is_one _ s x y = absurd x

-- ---- all events

module _ (e : ℕ) (tables : List (List ℕ)) (db : Database) where
  pub one : (old new other : MachineState) (event : Event) (r s : Reply) → MachineStep e tables db old event r new → MachineStep e tables db old event s other → (r ≡ s) × (new ≡ other)
  one old new other (Ingest caller rows) (Ingested a) (Ingested b) x y = ingest_is_one old new other rows a b x y
  one old new other (Ingest caller rows) (Ingested a) _ x y = absurd y
  one old new other (Ingest caller rows) _ s x y = absurd x
  one old new other (Begin caller) r s x y = begin_is_one e old new other r s x y
  one old new other (Install caller interval base) r s x y = install_is_one e old new other interval base r s x y
  one old new other (Abandon caller interval) Abandoned Abandoned x y = (refl, x ∙ sym y)
  one old new other (Abandon caller interval) Abandoned _ x y = absurd y
  one old new other (Abandon caller interval) _ s x y = absurd x
  one old new other (Retrieve caller request) r s x y = (request_is_one (database_in db old.history) (length old.history) (rows_in old.history) request r s x.0 y.0, x.1 ∙ sym y.1)
  one old new other (Replay caller request) r s x y = (replay_is_one tables (names_in db old.history) (length old.history) (rows_in old.history) request r s x.0 y.0, x.1 ∙ sym y.1)

  pub all_one : (old new other : MachineState) (events : List Event) (rs ss : List Reply) → MachineRun e tables db old events rs new → MachineRun e tables db old events ss other → (rs ≡ ss) × (new ≡ other)
  all_one old new other [] [] [] x y = (refl, x ∙ sym y)
  all_one old new other [] [] (s ∷ ss) x y = absurd y
  all_one old new other [] (r ∷ rs) ss x y = absurd x
  all_one old new other (event ∷ events) [] ss x y = absurd x
  all_one old new other (event ∷ events) (r ∷ rs) [] x y = absurd y
  all_one old new other (event ∷ events) (r ∷ rs) (s ∷ ss) x y =
      let first = one old x.0 y.0 event r s x.1 y.1 in
      let rest = all_one y.0 new other events rs ss (subst (λ (m : MachineState). MachineRun e tables db m events rs new) first.1 x.2) y.2 in
      (ap (λ (t : Reply). t ∷ rs) first.0 ∙ ap (λ (l : List Reply). s ∷ l) rest.0, rest.1)
