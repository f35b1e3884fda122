use Rattle.std.proofs.Common.{◌≡◌, ℕ, List, take, drop, Some, sym, ◌∙◌, ap, arith}
use Rattle.disk_journal.specs.Calls.{records_of, next_body_of}
use Rattle.disk_journal.proofs.Bodies.{found, weaker}
use Rattle.disk_journal.proofs.Calls.{has_records}
use Rattle.disk_journal.proofs.journal.Journal.record.Goals as goal

pub octets_at-requires : goal.octets_at-requires
octets_at-requires g c transparent =
    let k = c.requires.sound transparent in
    let e = c.index-extent.result.now in
    let l = found g.D.Disk.device c.args.self.now k.bodies k.pending c.args.disk.now c.args.i e k.keeps transparent c.requires.place (sym c.index-extent.ensures) in
    omega (arith, l.at_is, l.within)

pub returns-clause-body : goal.returns-clause-body
returns-clause-body g c transparent =
    let device = g.D.Disk.device in
    let now = c.args.self.now in
    let disk = c.args.disk.now in
    let e = c.index-extent.result.now in
    let keeps = has_records device now disk transparent (c.requires.sound transparent) in
    let l = found device now (records_of device now disk) (next_body_of device now disk) disk c.args.i e keeps transparent c.requires.place (sym c.index-extent.ensures) in
    let file = device.reads disk now.file in
    let at_is : e.at ≡ l.offset = omega (arith, l.at_is) in
    weaker c.octets_at.result (λ x octets. l.body_is ∙ ap (λ (b : List ℕ). Some b) (sym (octets transparent ∙ ap (λ (n : ℕ). take e.len (drop n file)) at_is))) c.octets_at.ensures.octets
