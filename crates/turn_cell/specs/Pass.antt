-- What contracts see of a cell and of a pass.
use Rattle.std.specs.Prelude.{◌≡◌, ℕ, ◌+◌, ◌-◌, ◌/◌, ◌<◌, ◌^◌, List, [], ◌∷◌, Option, Some, None}
use Rattle.atomic_table.specs.Table.{Me}
use Rattle.atomic_table.specs.Seated.{TableId}
use Rattle.turn_cell.specs.declared.view.SeenList.{SeenList}
use Rattle.turn_cell.specs.declared.view.View.{View}
use Rattle.turn_cell.specs.declared.view.Stage.{Stage}
use Rattle.turn_cell.specs.declared.view.Stage.TheVariants.{Idle, Turn}
use Rattle.turn_cell.specs.Lists.{given_seen, both_seen, found_seen, left_seen}

-- which cell it is, and the value that it was made of
pub record CellView (T : Type 0) : Type 0 where
  pub id : TableId
  pub first : T

-- where the turn of a pass stands, the slot that it has, and its last ticket
pub record Standing (T : Type 0) : Type 0 where
  pub stage : Stage
  pub held : List (ℕ × Option T)
  pub ticket : ℕ

-- its cell, and what that was made of; how much of the two lists it has seen, and what it added to them; its share of
-- the cell; how many turns it had; and where its turn stands
pub record PassView (I F T : Type 0) : Type 0 where
  pub cell : TableId
  pub first : Option T
  pub history : SeenList I
  pub fills : SeenList F
  pub share : ℕ
  pub turns : ℕ
  pub standing : Standing T

module _ {I F T : Type 0} where
  abbrev pub pass_of : TableId → Me (Option T) (View I F T) → ℕ → PassView I F T
  pass_of cell me ticket = record {
    cell = cell;
    first = me.0.first;
    history = me.0.history.list;
    fills = me.0.fills.list;
    share = me.0.share;
    turns = me.0.turns;
    standing = record { stage = me.0.stage; held = me.1; ticket = ticket };
  }

  -- a pass of the cell, with some share
  pub record IsPassOf (cell : CellView T) (pass : PassView I F T) : Type 0 where
    pub here : pass.cell ≡ cell.id
    pub shares : 0 < pass.share
    pub first : pass.first ≡ Some cell.first

  -- one that has no turn
  pub record IsFree (cell : CellView T) (pass : PassView I F T) : Type 0 where
    pub of_cell : IsPassOf cell pass
    pub idle : pass.standing.stage ≡ Idle
    pub none : pass.standing.held ≡ []

  -- one whose turn has come, and which has the slot
  pub record HasTurn (cell : CellView T) (pass : PassView I F T) : Type 0 where
    pub of_cell : IsPassOf cell pass
    pub turn : pass.standing.stage ≡ Turn pass.standing.ticket
    pub slot : pass.standing.held ≡ (0, None) ∷ []
    pub next : pass.standing.ticket + 1 < 2 ^ 64

  -- its turn found these lists, and is one turn more
  abbrev pub Found : PassView I F T → PassView I F T → List I → List F → Type 0
  Found old new xs fs = new ≡ record old { history = found_seen old.history xs; fills = found_seen old.fills fs; turns = old.turns + 1; standing = new.standing }

  -- its turn left these lists
  abbrev pub Left : PassView I F T → PassView I F T → List I → List F → Type 0
  Left old new xs fs = new ≡ record old { history = left_seen old.history xs; fills = left_seen old.fills fs; standing = new.standing }

  -- all is the same but how much of the history was seen
  abbrev pub SameButFront : PassView I F T → PassView I F T → Type 0
  SameButFront old new = new ≡ record old { history = record old.history { seen = new.history.seen } }

  -- what a pass is left with that is split
  abbrev pub kept_half : PassView I F T → PassView I F T
  kept_half p = record p { share = p.share - p.share / 2 }

  -- the pass that is split off: it has seen as much, had no turn, and added nothing
  abbrev pub given_half : PassView I F T → PassView I F T
  given_half p = record {
    cell = p.cell;
    first = p.first;
    history = given_seen p.history;
    fills = given_seen p.fills;
    share = p.share / 2;
    turns = 0;
    standing = record { stage = Idle; held = []; ticket = 0 };
  }

  -- the longer lists, both shares, and the turns of both with what they added
  abbrev pub both_passes : PassView I F T → PassView I F T → PassView I F T
  both_passes p q = record p { history = both_seen p.history q.history; fills = both_seen p.fills q.fills; share = p.share + q.share; turns = p.turns + q.turns }
