use Rattle.std.proofs.Common.{refl}
use Rattle.arch_disk.specs.Image.{overwritten}
use Rattle.arch_disk.specs.declared.files.File.{File}
use Rattle.arch_disk.proofs.Places.{changed, unchanged, on_err}
use Rattle.arch_disk.proofs.files.Files.write.Goals as goal

pub returns-clause-ok : goal.returns-clause-ok
returns-clause-ok c =
    let now : File = record { number = c.index_mut.result.now.number; octets = c.overwrite.new.octets } in
    changed c.args.self.now.list.items c.place.new.files.items c.args.file c.in_ok-i.i c.index_mut.result.now now (overwritten c.args.at c.args.from.now)
    c.in_ok-i.ensures.same c.in_ok-i.ensures.place c.index_mut.ensures.value refl c.in_ok-overwrite.ensures.ok

pub returns-in_err-overwrite-clause-err : goal.returns-in_err-overwrite-clause-err
returns-in_err-overwrite-clause-err c =
    let now : File = record { number = c.index_mut.result.now.number; octets = c.overwrite.new.octets } in
    on_err c.from_residual-in_err-overwrite.result (unchanged c.args.file _ _ (changed c.args.self.now.list.items c.place.new.files.items c.args.file c.in_ok-i.i c.index_mut.result.now now (λ x. x)
    c.in_ok-i.ensures.same c.in_ok-i.ensures.place c.index_mut.ensures.value refl c.in_err-overwrite.ensures.err))
