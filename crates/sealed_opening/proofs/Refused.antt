-- Readings that are refused.
use Rattle.std.proofs.Common.{◌≡◌, ℕ, Result, Ok, Err, sym, ◌∙◌, subst, arith}
use Rattle.std.specs.Prelude.{IfErr, IsErrAnd, IsTrue}
use Rattle.arch_disk.specs.Disk.{Device, NoFault}
use Rattle.refusals.specs.declared.refusal.Refusal.{Refusal}
use Rattle.refusals.specs.declared.refusal.Refusal.TheVariants as refused
use Rattle.sealed_opening.specs.ReadRefusals.{IsReadRefusal}

-- the answer of a call that hands on another one's refusal
pub handed_on : {T E : Type 0} (result : Result T E) (fault : E) (P : E → Type 0) → IsErrAnd result (λ e. e ≡ fault) → P fault → IfErr result P
handed_on (Ok x) fault P is here = absurd is
handed_on (Err e) fault P is here = subst P (sym is) here

module _ {D : Type 0} (device : Device D) where
  -- the same refusal, by a damage that says as much
  pub refused_as : (P Q : ℕ → ℕ → Type 0) (before after : D) (e : Refusal) → (IsTrue device.is_transparent → (file at : ℕ) → P file at → Q file at) → IsReadRefusal P device before after e → IsReadRefusal Q device before after e
  refused_as P Q before after (refused.Damaged file at) says is = (λ transparent. says transparent file at (is.0 transparent), is.1)
  refused_as P Q before after refused.DiskFault says is = is
  refused_as P Q before after refused.OutOfMemory says is = is
  refused_as P Q before after refused.Usage says is = is
  refused_as P Q before after (refused.Missing name) says is = is
  refused_as P Q before after refused.ReadFault says is = is
  refused_as P Q before after refused.WriteFault says is = is
  refused_as P Q before after (refused.BadPacket at kind) says is = is
  refused_as P Q before after (refused.BadSheet sheet row rule) says is = is
  refused_as P Q before after (refused.BadSql at rule) says is = is
  refused_as P Q before after refused.NoArchive says is = is
  refused_as P Q before after refused.Exists says is = is
  refused_as P Q before after (refused.NeedsReopen faults) says is = is
  refused_as P Q before after refused.UnknownParameter says is = is
  refused_as P Q before after (refused.BadRange from to) says is = is
  refused_as P Q before after (refused.UnknownTable name) says is = is
  refused_as P Q before after (refused.Limit which number) says is = is
  refused_as P Q before after (refused.Mismatch interval parameter key stored replayed) says is = is
  refused_as P Q before after (refused.Late interval) says is = is

  -- a refusal behind reads that did not fail
  pub refused_behind : (P : ℕ → ℕ → Type 0) (before mid after : D) (e : Refusal) → NoFault device before mid → IsReadRefusal P device mid after e → IsReadRefusal P device before after e
  refused_behind P before mid after (refused.Damaged file at) none is = (is.0, is.1 ∙ none)
  refused_behind P before mid after refused.DiskFault none is = omega (arith, is, none)
  refused_behind P before mid after refused.OutOfMemory none is = is ∙ none
  refused_behind P before mid after refused.Usage none is = absurd is
  refused_behind P before mid after (refused.Missing name) none is = absurd is
  refused_behind P before mid after refused.ReadFault none is = absurd is
  refused_behind P before mid after refused.WriteFault none is = absurd is
  refused_behind P before mid after (refused.BadPacket at kind) none is = absurd is
  refused_behind P before mid after (refused.BadSheet sheet row rule) none is = absurd is
  refused_behind P before mid after (refused.BadSql at rule) none is = absurd is
  refused_behind P before mid after refused.NoArchive none is = absurd is
  refused_behind P before mid after refused.Exists none is = absurd is
  refused_behind P before mid after (refused.NeedsReopen faults) none is = absurd is
  refused_behind P before mid after refused.UnknownParameter none is = absurd is
  refused_behind P before mid after (refused.BadRange from to) none is = absurd is
  refused_behind P before mid after (refused.UnknownTable name) none is = absurd is
  refused_behind P before mid after (refused.Limit which number) none is = absurd is
  refused_behind P before mid after (refused.Mismatch interval parameter key stored replayed) none is = absurd is
  refused_behind P before mid after (refused.Late interval) none is = absurd is
