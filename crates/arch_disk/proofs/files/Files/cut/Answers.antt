use Rattle.std.proofs.Common.{◌≡◌, ◌∙◌, [], ap, ℕ, length, arith, List, take, sym, subst, refl}
use Rattle.std.proofs.lemmas.List.{take_all}
use Rattle.arch_disk.specs.Files.{IsFirstAt, AreOthers}
use Rattle.arch_disk.specs.declared.files.File.{File}
use Rattle.arch_disk.proofs.Places.{changed, others_all}
use Rattle.arch_disk.proofs.files.Files.cut.Goals as goal

pub returns-in-Some : goal.returns-in-Some
returns-in-Some c =
    let now : File = record { number = c.index_mut.result.now.number; octets = c.truncate.new.self } in
    let first = subst (λ (l : List File). IsFirstAt l c.args.file c.in-Some.i) c.deref.ensures.value c.in-Some.ensures in
    changed c.args.self.now.list.items c.args.self.now.list.items c.args.file c.in-Some.i c.index_mut.result.now now (take c.args.len)
    (λ g. refl) first c.index_mut.ensures.value refl c.truncate.ensures.items

pub returns-in-None : goal.returns-in-None
returns-in-None c =
    let others = subst (λ (l : List File). AreOthers l c.args.file (length l)) c.deref.ensures.value c.in-None.ensures in
    let none = others_all c.args.self.now.list.items c.args.file others in
    let empty : take c.args.len [] ≡ [] = take_all c.args.len [] (omega arith) in
    record { here = none ∙ sym (ap (λ (l : List ℕ). take c.args.len l) none ∙ empty); others = λ g other. refl }
