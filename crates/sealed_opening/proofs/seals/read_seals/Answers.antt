use Rattle.std.proofs.Common.{◌≡◌, ◌+◌, ◌++◌, [], ◌∷◌, ℕ, List, take, drop, refl, sym, ◌∙◌, ap, subst, arith}
use Rattle.std.proofs.lemmas.List.{take_all, take_more}
use Rattle.arch_disk.proofs.Moments.{looked_none, looked_on}
use Rattle.seal_codec.specs.declared.seal.Seal.{Seal}
use Rattle.sealed_opening.specs.ReadRefusals.{IsReadRefusal}
use Rattle.sealed_opening.specs.Seals.{AreSealsRead, IsInSeals}
use Rattle.sealed_opening.proofs.NotedSeals.{no_seals, seals_damaged, seals_more, split_item}
use Rattle.sealed_opening.proofs.Refused.{handed_on, refused_as, refused_behind}
use Rattle.sealed_opening.proofs.seals.read_seals.Goals as goal

pub seals-init : goal.seals-init
seals-init g c = record {
  looked = looked_none g.D.Disk.device c.args.disk.now;
  no_fault = refl;
  read = no_seals g.D.Disk.device c.args.disk.now c.args.head.now c.args.so_far;
}

pub seals-preserved : goal.seals-preserved
seals-preserved g c =
    let device = g.D.Disk.device in
    let was = c.args.disk.now in
    let inv = c.seals.invariant in
    let all : List Seal = c.args.seals.now in
    let i = c.seals.seal-index in
    let seal : Seal = c.seal-item.result in
    let step : take (i + 1) all ≡ take i all ++ seal ∷ [] = take_more all i seal (omega (arith, c.seals-test.true)) ∙ ap (λ (s : Seal). take i all ++ s ∷ []) (sym c.seal-item.is) in
    record {
      looked = looked_on device was c.seals.disk c.read_seal.new.disk inv.looked c.read_seal.ensures.looked;
      no_fault = c.in_ok-so_far.ensures.no_fault ∙ inv.no_fault;
      read = subst (λ (l : List Seal). AreSealsRead device was c.args.head.now l c.args.so_far c.in_ok-so_far.so_far) (sym step)
          (seals_more device was c.seals.disk c.args.head.now (take i all) c.args.so_far c.seals.so_far inv.looked.reads_same inv.read (seal ∷ []) c.in_ok-so_far.so_far c.in_ok-so_far.ensures.read);
    }

pub returns-in_err-so_far-clause-refused : goal.returns-in_err-so_far-clause-refused
returns-in_err-so_far-clause-refused g c =
    let device = g.D.Disk.device in
    let was = c.args.disk.now in
    let mid = c.seals.disk in
    let now = c.read_seal.new.disk in
    let inv = c.seals.invariant in
    let all : List Seal = c.args.seals.now in
    let head = c.args.head.now in
    let i = c.seals.seal-index in
    let seal : Seal = c.seal-item.result in
    let fault = c.in_err-so_far.field-0.0 in
    let Damage : ℕ → ℕ → Type 0 = IsInSeals (device.reads was) head all c.args.so_far in
    let split : all ≡ take i all ++ seal ∷ drop (i + 1) all = split_item all i seal (omega (arith, c.seals-test.true)) c.seal-item.is in
    handed_on c.from_residual.result fault (IsReadRefusal Damage device was now) c.from_residual.ensures.1
    (refused_behind device Damage was mid now fault inv.no_fault
    (refused_as device (IsInSeals (device.reads mid) head (seal ∷ []) c.seals.so_far) Damage mid now fault
    (λ transparent file at bad. subst (λ (l : List Seal). IsInSeals (device.reads was) head l c.args.so_far file at) (sym split)
    (seals_damaged device was mid head (take i all) c.args.so_far c.seals.so_far inv.looked.reads_same inv.read seal (drop (i + 1) all) transparent file at bad))
    c.in_err-so_far.ensures.refused))

pub returns-clause-read : goal.returns-clause-read
returns-clause-read g c =
    let all : List Seal = c.args.seals.now in
    subst (λ (l : List Seal). AreSealsRead g.D.Disk.device c.args.disk.now c.args.head.now l c.args.so_far c.seals.so_far) (take_all c.seals.seal-index all (omega (arith, c.seals-test.false))) c.seals.invariant.read
