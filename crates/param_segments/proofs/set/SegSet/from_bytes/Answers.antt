use Rattle.std.proofs.Common.{◌≡◌, List, ℕ, subst}
use Rattle.octet_fields.specs.Answers.{ReadsEach, ReadsOnly}
use Rattle.octet_fields.specs.declared.fault.DecodeError.TheVariants.{OutOfMemory}
use Rattle.param_segments.specs.Extracted.{IsSetOf}
use Rattle.param_segments.specs.Octets.{set_octets}
use Rattle.param_segments.proofs.set.SegSet.from_bytes.Goals as goal

pub returns-clause-spelled : goal.returns-clause-spelled
returns-clause-spelled c =
    subst (λ (octets : List ℕ). ReadsOnly (IsSetOf c.args.mdb.now c.args.exponent c.args.interval.0) set_octets (λ s. s) octets c.spelled_set.result) c.in_ok-block.ensures c.spelled_set.ensures.spelled

pub returns-clause-each : goal.returns-clause-each
returns-clause-each c =
    subst (λ (octets : List ℕ). ReadsEach (IsSetOf c.args.mdb.now c.args.exponent c.args.interval.0) set_octets (λ s. s) (λ e. e ≡ OutOfMemory) octets c.spelled_set.result) c.in_ok-block.ensures c.spelled_set.ensures.each
