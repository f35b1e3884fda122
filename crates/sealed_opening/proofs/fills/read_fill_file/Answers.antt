use Rattle.std.proofs.Common.{inl, ℕ, refl}
use Rattle.sealed_opening.specs.Fills.{IsFillTaken, IsInFillFile, MayBeFill}
use Rattle.sealed_opening.specs.ReadRefusals.{IsReadRefusal}
use Rattle.sealed_opening.specs.LogHead.{HasNoHead}
use Rattle.sealed_opening.specs.Records.{IsStop}
use Rattle.sealed_opening.specs.declared.fills.FillRecords.{FillRecords}
use Rattle.sealed_opening.proofs.Refused.{handed_on, refused_as, refused_behind}
use Rattle.sealed_opening.proofs.TakenFills.{all_fills, fills_of_file, stop_in_fills}
use Rattle.sealed_opening.proofs.fills.read_fill_file.Goals as goal

pub returns-in_err-opening-clause-refused : goal.returns-in_err-opening-clause-refused
returns-in_err-opening-clause-refused g c =
    let device = g.D.Disk.device in
    let was = c.args.disk.now in
    let now = c.begin_behind_head.new.disk in
    let seal = c.args.seal.now in
    let fault = c.in_err-opening.field-0.0 in
    let Damage : ℕ → ℕ → Type 0 = IsInFillFile (device.reads was) c.args.head.now seal c.args.so_far in
    handed_on c.from_residual.result fault (IsReadRefusal Damage device was now) c.from_residual.ensures.1
    (refused_as device (HasNoHead (device.reads was) seal.fills seal.rows) Damage was now fault (λ transparent file at never are. (never.0, inl (never.1, never.2))) c.in_err-opening.ensures.refused)

pub returns-in_err-read-clause-refused : goal.returns-in_err-read-clause-refused
returns-in_err-read-clause-refused g c =
    let device = g.D.Disk.device in
    let was = c.args.disk.now in
    let mid = c.begin_behind_head.new.disk in
    let now = c.read_records.new.disk in
    let so_far = c.args.so_far in
    let seal = c.args.seal.now in
    let begun = c.in_ok-opening.ensures.begun in
    let opening = c.in_ok-opening.opening in
    let start : FillRecords = record { head = c.args.head; exponent = c.exponent.result; rows = seal.rows; tracker = so_far.tracker; sets = so_far.sets } in
    let fault = c.in_err-read.field-0.0 in
    let Damage : ℕ → ℕ → Type 0 = IsInFillFile (device.reads was) c.args.head.now seal so_far in
    handed_on c.from_residual-in_err-read.result fault (IsReadRefusal Damage device was now) c.from_residual-in_err-read.ensures.1
    (refused_behind device Damage was mid now fault c.in_ok-opening.ensures.no_fault
    (refused_as device (IsStop MayBeFill IsFillTaken device mid opening start) Damage mid now fault
    (λ transparent. stop_in_fills device was mid c.args.head.now seal so_far start opening refl c.exponent.ensures refl refl begun.in_file c.in_ok-opening.ensures.looked.reads_same (begun.read transparent))
    c.in_err-read.ensures.refused))

pub returns-clause-read : goal.returns-clause-read
returns-clause-read g c =
    let device = g.D.Disk.device in
    let was = c.args.disk.now in
    let mid = c.begin_behind_head.new.disk in
    let so_far = c.args.so_far in
    let seal = c.args.seal.now in
    let begun = c.in_ok-opening.ensures.begun in
    let opening = c.in_ok-opening.opening in
    let start : FillRecords = record { head = c.args.head; exponent = c.exponent.result; rows = seal.rows; tracker = so_far.tracker; sets = so_far.sets } in
    let read = c.in_ok-read.ensures.read in
    let all = all_fills start c.in_ok-read.read.1 read.bodies read.reads in
    record {
      fills = all.fills;
      file = λ transparent. fills_of_file device was mid c.args.head.now seal so_far start opening refl c.exponent.ensures refl refl begun.in_file c.in_ok-opening.ensures.looked.reads_same (begun.read transparent) c.in_ok-read.read.1 read.bodies read.reads (read.has transparent);
      dones = all.dones;
      marks = all.marks;
      sets = all.sets;
      sums = refl;
      runs = refl;
      told = refl;
      positions = refl;
      placed = refl;
    }
