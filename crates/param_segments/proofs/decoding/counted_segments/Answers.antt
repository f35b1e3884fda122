use Rattle.std.proofs.Common.{◌≡◌, ◌<◌, ◌^◌, ◌++◌, arith, drop, length, rules}
use Rattle.std.specs.Prelude.{Err, IfOk, Ok, Result, flat_map}
use Rattle.std.specs.Int.{w32}
use Rattle.octet_fields.specs.Spelling.{counted}
use Rattle.segment_codec.specs.Segment.{segment_octets}
use Rattle.param_segments.specs.declared.decoding.ReadSegments.{ReadSegments}
use Rattle.std.proofs.lemmas.Result.{IfOk-weaker}
use Rattle.param_segments.proofs.Decoded.{all_counted, behind_count, is_count, some_count}
use Rattle.param_segments.proofs.decoding.counted_segments.Goals as goal

pub returns-in-Err-clause-each : goal.returns-in-Err-clause-each
returns-in-Err-clause-each c = λ segments known few is. absurd (some_count c.args.octets.now segments few is c.in-Err.ensures)

pub returns-in-Ok-clause-each : goal.returns-in-Ok-clause-each
returns-in-Ok-clause-each c = λ segments known few is.
    c.segments_at.ensures.each segments known (is_count c.args.octets.now segments _ few is c.in-Ok.ensures) (behind_count c.args.octets.now segments is)

pub returns-in-Ok-clause-few : goal.returns-in-Ok-clause-few
returns-in-Ok-clause-few c =
    let bound : c.in-Ok.count < 2 ^ 32 = search rules in
    IfOk-weaker c.segments_at.result (λ read. length read.segments.items ≡ c.in-Ok.count) (λ read. length read.segments.items < 2 ^ 32) (λ read e. omega (arith, e, bound)) c.segments_at.ensures.count

both : {A E : Type 0} (P Q R : A → Type 0) → ((a : A) → P a → Q a → R a) → (r : Result A E) → IfOk r P → IfOk r Q → IfOk r R
both P Q R by (Ok a) p q = by a p q
both P Q R by (Err e) p q = tt

pub returns-in-Ok-clause-whole : goal.returns-in-Ok-clause-whole
returns-in-Ok-clause-whole c =
    let octets = c.args.octets.now in
    both (λ (read : ReadSegments). length read.segments.items ≡ c.in-Ok.count) (λ read. drop 4 octets ≡ flat_map segment_octets read.segments.items ++ drop read.end octets)
    (λ read. read.end ≡ length octets → octets ≡ counted w32 segment_octets read.segments.items)
    (λ read len spelled ends. all_counted octets read.segments.items _ read.end (λ i. omega (arith, c.type_inv.octets i)) c.in-Ok.ensures len spelled ends) c.segments_at.result c.segments_at.ensures.count c.segments_at.ensures.spelled
