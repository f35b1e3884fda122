use Rattle.replay_merge.specs.RowSource.{IsPositionOf}
use Rattle.sealed_rows.specs.Calls.{IsPlaceOf}
use Rattle.sealed_rows.specs.Rows.{rows_below, rows_of_runs}
use Rattle.sealed_rows.proofs.Faults.{ok_follows, still_sealed, told_result}
use Rattle.sealed_rows.proofs.KeyPlaces.{place_told}
use Rattle.sealed_rows.proofs.sealed.SealedRowsRowSource.position.Goals as goal

pub find_position-requires : goal.find_position-requires
find_position-requires g c = record { held = λ transparent. (c.self.invariant transparent).held }

pub returns-clause-told : goal.returns-clause-told
returns-clause-told g c =
    let device = g.D.Disk.device in
    let inside = c.self.inside in
    let placed = rows_of_runs (device.reads inside.disk.now) inside.runs.now in
    rw (← c.self.view_is) (told_result c.find_position.result device.is_transparent (rows_below placed) (λ found history. IsPositionOf history c.args.table c.args.key found) (λ transparent.
    ok_follows c.find_position.result (IsPlaceOf placed c.args.table c.args.key) (IsPositionOf (rows_below placed) c.args.table c.args.key)
    (λ found is. place_told placed c.args.table c.args.key found (c.self.invariant transparent).histories is) (c.find_position.ensures.place transparent)))

pub invariant_of-self : goal.invariant_of-self
invariant_of-self g c = still_sealed g.D.Disk.device c.self.inside.runs.now c.self.inside.disk.now c.find_position.new.disk c.find_position.ensures.looked c.self.invariant
