-- The records of a packet name, as entries are walked over.
use Rattle.std.proofs.Common.{◌≡◌, ◌≢◌, ℕ, ◌≤◌, eqb, inl, inr, List, [], ◌∷◌, Bool, cond, refl, sym, ◌∙◌, ap, arith}
use Rattle.std.specs.Prelude.{neg_ℤ, pos, ◌^◌}
use Rattle.std.specs.List.{AllByRecursion}
use Rattle.std.specs.Ordering.{is_le}
use Rattle.std.specs.declared.cmp.Ordering.{Ordering}
use Rattle.std.specs.declared.cmp.Ordering.TheVariants.{Less, Equal, Greater}
use Rattle.std.specs.BTreeMap.Range.{entries_from}
use Rattle.std.proofs.lemmas.Bool.{ne_eqb}
use Rattle.std.proofs.lemmas.Int.{ints}
use Rattle.arch_types.specs.declared.spans.Span.{Span}
use Rattle.block_map.specs.Rising.{IsRising}
use Rattle.histogram.specs.declared.histogram.NamedTime.{NamedTime}
use Rattle.histogram.specs.declared.near.SpanStart.{SpanStart}
use Rattle.histogram.specs.Times.{named_time_cmp}
use Rattle.histogram.specs.SpanEntries.{span_at, spans_in, IsSpanEntry}
use Rattle.histogram.specs.Walk.{AreAhead}
use Rattle.histogram.proofs.Order.{IsBefore, ranked_as}
use Rattle.histogram.proofs.Entries.{past_name}

-- the entries that are kept
kept : (pname : ℕ) (least : NamedTime) → least.pname ≡ pname → least.time ≡ neg_ℤ (pos (2 ^ 63)) → (es : List (NamedTime × SpanStart)) → AllByRecursion IsSpanEntry es →
    (spans_in pname (entries_from (named_time_cmp least) es) ≡ spans_in pname es) × AllByRecursion (λ e. pname ≤ e.0.pname) (entries_from (named_time_cmp least) es)
kept pname least name time [] all = (refl, tt)
kept pname least name time (e ∷ es) all = by (named_time_cmp least e.0) refl (kept pname least name time es all.1)
  where
    above : IsBefore least e.0 → pname ≤ e.0.pname
    above (inl names) = omega (arith, names, name)
    above (inr times) = omega (arith, times.0, name)

    below : IsBefore e.0 least → e.0.pname ≡ pname → ⊥
    below (inl names) same = omega (arith, names, name, same)
    below (inr times) same = omega (arith, ints, times.1, time, all.0.0)

    by : (r : Ordering) → named_time_cmp least e.0 ≡ r → (spans_in pname (entries_from (named_time_cmp least) es) ≡ spans_in pname es) × AllByRecursion (λ e. pname ≤ e.0.pname) (entries_from (named_time_cmp least) es) →
        (spans_in pname (cond (is_le r) (e ∷ entries_from (named_time_cmp least) es) (entries_from (named_time_cmp least) es)) ≡ spans_in pname (e ∷ es)) × AllByRecursion (λ e. pname ≤ e.0.pname) (cond (is_le r) (e ∷ entries_from (named_time_cmp least) es) (entries_from (named_time_cmp least) es))
    by Less less later = (ap (λ (l : List Span). cond (eqb e.0.pname pname) (span_at e ∷ l) l) later.0, (above (ranked_as least e.0 Less less), later.1))
    by Equal same later = (ap (λ (l : List Span). cond (eqb e.0.pname pname) (span_at e ∷ l) l) later.0, (omega (arith, (ranked_as least e.0 Equal same).0, name), later.1))
    by Greater greater later = (later.0 ∙ sym (ap (λ (b : Bool). cond b (span_at e ∷ spans_in pname es) (spans_in pname es)) (ne_eqb e.0.pname pname (below (ranked_as least e.0 Greater greater)))), later.1)

pub from_least : (pname : ℕ) (least : NamedTime) (es : List (NamedTime × SpanStart)) → least.pname ≡ pname → least.time ≡ neg_ℤ (pos (2 ^ 63)) → AllByRecursion IsSpanEntry es → IsRising named_time_cmp (entries_from (named_time_cmp least) es) →
    AreAhead pname (entries_from (named_time_cmp least) es) × (spans_in pname (entries_from (named_time_cmp least) es) ≡ spans_in pname es)
from_least pname least es name time all up =
    let k = kept pname least name time es all in
    (record { rising = up; names = k.1 }, k.0)

-- past a name there is none of its records
pub none_from : (pname : ℕ) (e : NamedTime × SpanStart) (old new : List (NamedTime × SpanStart)) → AreAhead pname old → old ≡ e ∷ new → e.0.pname ≢ pname → spans_in pname old ≡ []
none_from pname e old new ahead is other =
    let names = rw is at ahead.names in
    let up = rw is at ahead.rising in
    rw (is, ne_eqb e.0.pname pname other) (past_name pname e.0 new up.0 (omega (arith, names.0, other)))
