-- The rule of the cell, and what its steps tell.
use Rattle.std.specs.Prelude.{◌≡◌, ◌⊎◌, ℕ, ◌+◌, ◌-◌, ◌/◌, ◌<◌, ◌≤◌, ◌^◌, List, [], ◌∷◌, length, eqb, Option, Some, None, MatchBool}
use mathlib.Core.Option.{some}
use mathlib.Core.Option as maybe
use mathlib.Core.List.{IsPrefix}
use lib.ListN.{get_elem?}
use Rattle.atomic_table.specs.Table.{State, Me, Step}
use Rattle.atomic_table.specs.Seated.{TableId}
use Rattle.turn_cell.specs.declared.view.View.{View}
use Rattle.turn_cell.specs.declared.view.ListView.{ListView}
use Rattle.turn_cell.specs.declared.view.Stage.{Stage}
use Rattle.turn_cell.specs.declared.view.Stage.TheVariants.{Idle, Waits, Turn}
use Rattle.turn_cell.specs.Lists.{total, IsUnused, first_list, spent_list, given_list, both_lists, found_list, left_list, ListKept}

-- three words, and a slot for the value
abbrev pub IsCell : TableId → Type 0
IsCell table = (table.words ≡ 3) × (table.slots ≡ 1)

-- whoever is at this stage has the ticket t
abbrev pub HasTicket : Stage → ℕ → Type 0
HasTicket Idle t = ⊥
HasTicket (Waits u) t = u ≡ t
HasTicket (Turn u) t = u ≡ t

-- tickets that are out lie from the one served to the next one to be drawn, and who has the turn has the one served
abbrev pub StageFits : ℕ → ℕ → Stage → Type 0
StageFits ticket serving Idle = Unit {0}
StageFits ticket serving (Waits t) = (serving ≤ t) × (t < ticket)
StageFits ticket serving (Turn t) = (t ≡ serving) × (t < ticket)

-- how many tickets whoever is at this stage has
abbrev pub tickets_at : Stage → ℕ
tickets_at Idle = 0
tickets_at (Waits t) = 1
tickets_at (Turn t) = 1

-- whoever is at this stage has no turn: he is idle, or waits for one
abbrev pub HasNoTurn : Stage → Type 0
HasNoTurn Idle = Unit {0}
HasNoTurn (Waits t) = Unit {0}
HasNoTurn (Turn t) = ⊥

module _ {I F T : Type 0} where
  abbrev pub history_of : View I F T → ListView I
  history_of v = v.history

  abbrev pub fills_of : View I F T → ListView F
  fills_of v = v.fills

  abbrev pub share_of : View I F T → ℕ
  share_of v = v.share

  abbrev pub tickets_of : View I F T → ℕ
  tickets_of v = tickets_at v.stage

  abbrev pub Unused : View I F T → Type 0
  Unused v = (v.stage ≡ Idle) × IsUnused v.history × IsUnused v.fills

  -- who has a share knows what the cell was made of, and who has none has added nothing
  abbrev pub Fits : T → ℕ → ℕ → View I F T → Type 0
  Fits x ticket serving v = StageFits ticket serving v.stage × (v.share ≡ 0 → Unused v) × (0 < v.share → v.first ≡ Some x)

  abbrev pub spent_view : View I F T
  spent_view = record { history = spent_list; fills = spent_list; share = 0; turns = 0; stage = Idle; first = None }

  abbrev pub both_views : View I F T → View I F T → View I F T
  both_views v w = record {
    history = both_lists v.history w.history;
    fills = both_lists v.fills w.fills;
    share = v.share + w.share;
    turns = v.turns + w.turns;
    stage = v.stage;
    first = v.first;
  }

  abbrev pub kept_view : View I F T → View I F T
  kept_view v = record v { share = v.share - v.share / 2 }

  abbrev pub given_view : View I F T → View I F T
  given_view v = record { history = given_list v.history; fills = given_list v.fills; share = v.share / 2; turns = 0; stage = Idle; first = v.first }

  -- the turn has come, and found these lists
  abbrev pub found_view : View I F T → ℕ → List I → List F → View I F T
  found_view v t xs fs = record v { history = found_list v.history xs; fills = found_list v.fills fs; turns = v.turns + 1; stage = Turn t }

  -- the turn leaves these lists
  abbrev pub left_view : View I F T → List I → List F → View I F T
  left_view v xs fs = record v { history = left_list v.history xs; fills = left_list v.fills fs }

  -- so much of the history was seen
  abbrev pub seen_more : View I F T → List I → View I F T
  seen_more v xs = record v { history = record v.history { list = record v.history.list { seen = xs } } }

module _ {T I F : Type 0} (history_in : T → List I) (fills_in : T → List F) (goes_on : T → T → Type 0) where
  -- the slot holds a value with these lists, which goes on from x, and nobody has the turn
  abbrev pub Home : T → List I → List F → List (maybe.Option (Option T)) → List (View I F T) → Type 0
  Home x history fills homes views =
      (y : T) × (homes ≡ some (Some y) ∷ []) × (history_in y ≡ history) × (fills_in y ≡ fills) × goes_on x y
      × ((j : ℕ) (v : View I F T) → get_elem? views j ≡ some v → HasNoTurn v.stage)

  -- whoever has the turn has seen the whole lists
  abbrev pub Away : List I → List F → ℕ → List (maybe.Option (Option T)) → List (View I F T) → Type 0
  Away history fills serving homes views =
      (homes ≡ maybe.none ∷ [])
      × ((j : ℕ) × (v : View I F T) × (get_elem? views j ≡ some v) × (v.stage ≡ Turn serving) × (v.history.list.seen ≡ history) × (v.fills.list.seen ≡ fills))

  abbrev pub Slot : T → List I → List F → ℕ → List (maybe.Option (Option T)) → List (View I F T) → Type 0
  Slot x history fills serving homes views = Home x history fills homes views ⊎ Away history fills serving homes views

  -- The cell was made of x. There are one history and one fill list, which the value has, or whoever has the turn. No
  -- ticket is out twice, and as many are out as were drawn and not yet served.
  pub record Kept (x : T) (s : State (Option T) (View I F T)) : Type 0 where
    pub ticket : ℕ
    pub serving : ℕ
    pub history : List I
    pub fills : List F
    pub words_are : s.words ≡ ticket ∷ serving ∷ length history ∷ []
    pub slot : Slot x history fills serving s.homes s.views
    pub each : (j : ℕ) (v : View I F T) → get_elem? s.views j ≡ some v → Fits x ticket serving v
    pub apart : (i j t : ℕ) (v w : View I F T) → get_elem? s.views i ≡ some v → get_elem? s.views j ≡ some w → HasTicket v.stage t → HasTicket w.stage t → i ≡ j
    pub counted : serving + total tickets_of s.views ≡ ticket
    pub shares : total share_of s.views ≡ 2 ^ 63
    pub history_kept : ListKept history_of history s.views
    pub fills_kept : ListKept fills_of fills s.views

  abbrev Sat : Type 0
  Sat = Me (Option T) (View I F T)

  -- the turn has come: the value goes on from the first one, and its lists from those seen
  abbrev pub Served : Sat → Sat → ℕ → Type 0
  Served m m' t =
      (y : T) × ((x : T) → m.0.first ≡ Some x → goes_on x y) × IsPrefix m.0.history.list.seen (history_in y) × IsPrefix m.0.fills.list.seen (fills_in y)
      × (m' ≡ (found_view m.0 t (history_in y) (fills_in y), (0, Some y) ∷ []))

  -- whose ticket is served has the slot
  abbrev pub Looked : Step (Option T) → Sat → ℕ → Sat → Type 0
  Looked st m n m' = (t : ℕ) → m.0.stage ≡ Waits t → MatchBool (eqb n t) (Served m m' t) (m' ≡ m)

module _ {T I F : Type 0} (history_in : T → List I) (fills_in : T → List F) where
  abbrev pub first_view : T → View I F T
  first_view x = record { history = first_list (history_in x); fills = first_list (fills_in x); share = 2 ^ 63; turns = 0; stage = Idle; first = Some x }

  -- the slot that is out has a value whose lists begin with those seen, and whose history has this length
  abbrev pub HasGrown : Me (Option T) (View I F T) → ℕ → Type 0
  HasGrown m n =
      (t : ℕ) × (y : T) × (m.0.stage ≡ Turn t) × (m.1 ≡ (0, Some y) ∷ [])
      × IsPrefix m.0.history.list.seen (history_in y) × IsPrefix m.0.fills.list.seen (fills_in y)
      × (n ≡ length (history_in y))

  -- the lists of the value in hand are those seen from now on
  abbrev pub FrontTold : Me (Option T) (View I F T) → Me (Option T) (View I F T) → Type 0
  FrontTold m m' = (y : T) → m.1 ≡ (0, Some y) ∷ [] → m' ≡ (left_view m.0 (history_in y) (fills_in y), m.1)

  abbrev pub Wrote : Step (Option T) → Me (Option T) (View I F T) → ℕ → Me (Option T) (View I F T) → Type 0
  Wrote st m n m' = FrontTold m m'

  -- a history as long as the front read needs no telling, and of a longer one nothing was told
  abbrev pub FrontFound : Step (Option T) → Me (Option T) (View I F T) → ℕ → Me (Option T) (View I F T) → Type 0
  FrontFound st m n m' = (y : T) → m.1 ≡ (0, Some y) ∷ [] →
      MatchBool (eqb n (length (history_in y))) (m' ≡ (left_view m.0 (history_in y) (fills_in y), m.1)) (m' ≡ m)

module _ {T I F : Type 0} where
  -- the ticket was drawn, or was no longer the next one
  abbrev pub Drawn : Step (Option T) → Me (Option T) (View I F T) → ℕ → Me (Option T) (View I F T) → Type 0
  Drawn st m n m' = MatchBool (eqb n st.first) (m' ≡ (record m.0 { stage = Waits st.first }, m.1)) (m' ≡ m)

  abbrev pub Passed : Step (Option T) → Me (Option T) (View I F T) → ℕ → Me (Option T) (View I F T) → Type 0
  Passed st m n m' = m' ≡ (record m.0 { stage = Idle }, [])

  -- a longer beginning of the history was seen, of the length read
  abbrev pub FrontRead : Step (Option T) → Me (Option T) (View I F T) → ℕ → Me (Option T) (View I F T) → Type 0
  FrontRead st m n m' = (xs : List I) × (m' ≡ (seen_more m.0 xs, m.1)) × IsPrefix m.0.history.list.seen xs × (length xs ≡ n)

  -- the lesser list of a join begins the one seen, where it is no longer
  abbrev pub Settled : Step (Option T) → Me (Option T) (View I F T) → ℕ → Me (Option T) (View I F T) → Type 0
  Settled st m n m' =
      (m' ≡ m)
      × (length m.0.history.lesser ≤ length m.0.history.list.seen → IsPrefix m.0.history.lesser m.0.history.list.seen)
      × (length m.0.fills.lesser ≤ length m.0.fills.list.seen → IsPrefix m.0.fills.lesser m.0.fills.list.seen)

  -- a seat of the cell that was made of x, with some share
  abbrev pub IsSeatOf : TableId → T → TableId → Me (Option T) (View I F T) → Type 0
  IsSeatOf cell x own me = (own ≡ cell) × (0 < me.0.share) × (me.0.first ≡ Some x)

  -- a seat that has no ticket and no slot
  abbrev pub IsAtRest : Me (Option T) (View I F T) → Type 0
  IsAtRest me = (me.0.stage ≡ Idle) × (me.1 ≡ [])
