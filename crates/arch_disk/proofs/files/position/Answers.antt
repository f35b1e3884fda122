use Rattle.std.proofs.Common.{◌≡◌, ℕ, suc, ◌+◌, length, sym, ◌∙◌, ap, subst, arith}
use Rattle.arch_disk.specs.Files.{AreOthers}
use Rattle.arch_disk.specs.declared.files.File.{File}
use Rattle.arch_disk.proofs.Places.{get_any, others_step}
use Rattle.arch_disk.proofs.files.position.Goals as goal

pub returns-then-file-number : goal.returns-then-file-number
returns-then-file-number c = (
  c.loop-i-test.true,
  λ d. ap (λ (x : File). x.number) (get_any c.args.files.now c.loop-i.i d c.index-files-i.result c.loop-i-test.true ∙ sym c.index-files-i.is) ∙ c.if-file-number.true,
  c.loop-i.invariant,
)

pub loop-i-preserved : goal.loop-i-preserved
loop-i-preserved c =
    let one : suc c.loop-i.i ≡ c.loop-i.i + 1 = omega arith in
    subst (λ (n : ℕ). AreOthers c.args.files.now c.args.number n) one
    (others_step c.args.files.now c.args.number c.loop-i.i c.index-files-i.result c.loop-i-test.true (sym c.index-files-i.is) c.if-file-number.false c.loop-i.invariant)

pub returns : goal.returns
returns c =
    let end : c.loop-i.i ≡ length c.args.files.now = omega arith in
    subst (λ (n : ℕ). AreOthers c.args.files.now c.args.number n) end c.loop-i.invariant
