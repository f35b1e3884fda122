use Rattle.std.proofs.Common.{◌≡◌, ◌-◌, ◌∷◌, [], ◌++◌, length, List, ap, ◌∙◌, subst, arith, refl, length-append}
use Rattle.arch_disk.proofs.Places.{push_first, push_content}
use Rattle.arch_disk.specs.Files.{content_of, AreOthers}
use Rattle.arch_disk.specs.declared.files.File.{File}
use Rattle.arch_disk.proofs.files.place.Goals as goal

pub returns-clause-place : goal.returns-clause-place
returns-clause-place c =
    let new : File = record { number = c.args.number; octets = c.new-octets.result } in
    let is : c.push.new.self.items ≡ c.args.files.now.items ++ new ∷ [] = c.in_ok-push.ensures.items in
    push_first c.args.files.now.items c.push.new.self.items c.args.number (c.len.result - 1) new is
    (omega (arith, c.len.ensures, c.push.new.self.ok, ap length is, length-append c.args.files.now.items (new ∷ []))) refl
    (subst (λ (l : List File). AreOthers l c.args.number (length l)) c.deref.ensures.value c.in-None.ensures)

pub returns-clause-same : goal.returns-clause-same
returns-clause-same c =
    let new : File = record { number = c.args.number; octets = c.new-octets.result } in
    let is : c.push.new.self.items ≡ c.args.files.now.items ++ new ∷ [] = c.in_ok-push.ensures.items in
    λ g. ap (λ (l : List File). content_of l g) is ∙ push_content c.args.files.now.items new c.new-octets.ensures.items g
