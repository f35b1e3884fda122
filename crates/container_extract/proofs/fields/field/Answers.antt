use Rattle.std.proofs.Common.{◌≡◌, ◌^◌, ◌<◌, ℕ, Option, subst}
use Rattle.std.specs.Prelude.{IfSome}
use Rattle.container_extract.specs.Bits.{field_at}
use Rattle.container_extract.proofs.fields.field.Goals as goal

pub returns-in-Some-clause-value : goal.returns-in-Some-clause-value
returns-in-Some-clause-value c = subst (λ (o : Option ℕ). IfSome o (λ field. field ≡ field_at c.args.packet.now c.args.at c.args.width)) c.in-Some.is c.word_field.ensures.value

pub returns-in-Some-clause-bound : goal.returns-in-Some-clause-bound
returns-in-Some-clause-bound c = subst (λ (o : Option ℕ). IfSome o (λ field. field < 2 ^ c.args.width)) c.in-Some.is c.word_field.ensures.bound
