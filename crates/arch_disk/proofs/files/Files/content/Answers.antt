use Rattle.std.proofs.Common.{◌∙◌, sym, subst, List, length}
use Rattle.arch_disk.specs.Files.{IsFirstAt, AreOthers}
use Rattle.arch_disk.specs.declared.files.File.{File}
use Rattle.arch_disk.proofs.Places.{found_content, others_all}
use Rattle.arch_disk.proofs.files.Files.content.Goals as goal

pub returns-in-Some : goal.returns-in-Some
returns-in-Some c =
    let files = c.args.self.now.list.items in
    let first = subst (λ (l : List File). IsFirstAt l c.args.file c.in-Some.i) c.deref.ensures.value c.in-Some.ensures in
    c.deref-in-Some.ensures.value ∙ sym (found_content files c.args.file c.in-Some.i c.index.result.now first c.index.ensures)

pub returns-in-None : goal.returns-in-None
returns-in-None c = let h = c.in-None.ensures in sym (others_all c.args.self.now.list.items c.args.file (subst (λ (l : List File). AreOthers l c.args.file (length l)) c.deref.ensures.value h))
