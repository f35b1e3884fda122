-- How a link ends.
use Rattle.std.proofs.Common.{◌≡◌, ◌⊎◌, inl, inr, ℕ, List, Option, Some, None, Result, Ok, Err, refl, sym, ap, subst, ◌∙◌}
use Rattle.std.specs.Prelude.{IfOk, IfSome}
use Rattle.refusals.specs.declared.refusal.BadKind.TheVariants as bad
use Rattle.refusals.specs.declared.refusal.Refusal.{Refusal}
use Rattle.outer_traits.specs.Outside.{Stays}
use Rattle.space_packet.specs.declared.dump.Why.TheVariants as why
use Rattle.space_packet.specs.Rest.{why_of}
use Rattle.load_session.specs.declared.session.DumpSummary.{DumpSummary}
use Rattle.load_jobs.specs.declared.ending.LinkEnd.{LinkEnd}
use Rattle.load_jobs.specs.declared.ending.LinkEnd.TheVariants.{Whole, Rest}
use Rattle.load_jobs.specs.declared.reading.ReadingEnd.{ReadingEnd}
use Rattle.load_jobs.specs.declared.reading.ReadingEnd.TheVariants as reading
use Rattle.load_jobs.specs.Ends.{IsAllTaken, IsEndOf, IsEndOfReading, IsEndOfSummary, IsReadCounted, IsReadTo, kind_of_rest}
use Rattle.load_jobs.specs.Reading.{IsReadOf, IsReadingCounted, IsReadingEnd}
use Rattle.load_jobs.proofs.Pieces.{read_to_limit}

-- ---- the sending

end_of_summary : (summary : DumpSummary) (end : LinkEnd) → IsEndOfSummary summary end → IsEndOf (Ok summary) end
end_of_summary summary (Whole other) is = is
end_of_summary summary (Rest at kind) is = is
end_of_summary summary other is = absurd is

pub end_of_reading : (left left' : Option (List ℕ)) (read waits : List ℕ) (by : ReadingEnd) (answer : Result DumpSummary Refusal) (end : LinkEnd) → IsEndOfReading by answer end → IsReadingEnd left left' read waits by
    → IfOk answer (λ summary. summary.why ≡ why_of waits) → IsEndOf answer end
end_of_reading left left' read waits reading.Failed answer end is ends why_is = subst (IsEndOf answer) (sym is) refl
end_of_reading left left' read waits reading.NoMore (Ok summary) end is ends why_is = end_of_summary summary end is
end_of_reading left left' read waits reading.NoMore (Err refusal) end is ends why_is = subst (IsEndOf (Err refusal)) (sym is) refl
end_of_reading left left' read waits reading.TooLong (Ok summary) end is ends why_is = subst (IsEndOf (Ok summary)) (sym is) (summary, refl, λ version. ends.1 (sym why_is ∙ version))
end_of_reading left left' read waits reading.TooLong (Err refusal) end is ends why_is = subst (IsEndOf (Err refusal)) (sym is) refl

-- ---- the reading

module _ (left : Option (List ℕ)) (read waits : List ℕ) (of : IsReadOf left read) where
  -- a dump that was read to its end, or to an octet where no packet begins
  no_more : (summary : DumpSummary) (end : LinkEnd) → IsEndOfSummary summary end → summary.why ≡ why_of waits → IfSome left (λ octets. octets ≡ read) ⊎ (why_of waits ≡ why.Version) → IsReadTo left read end
  no_more summary (Whole other) is why_is (inl all) = all
  no_more summary (Whole other) is why_is (inr version) =
      let same : summary ≡ other = cc is.0 in
      let none : kind_of_rest summary.why ≡ None = ap (λ (s : DumpSummary). kind_of_rest s.why) same ∙ is.1 in
      let some : kind_of_rest summary.why ≡ Some bad.Version = ap kind_of_rest (why_is ∙ version) in
      absurd (let both = sym some ∙ none in cc both)
  no_more summary (Rest at bad.Version) is why_is ends = of
  no_more summary (Rest at bad.Truncated) is why_is (inl all) = all
  no_more summary (Rest at bad.Truncated) is why_is (inr version) =
      let same : summary ≡ is.0 = cc is.1 in
      let kind : kind_of_rest summary.why ≡ Some bad.Truncated = ap (λ (s : DumpSummary). kind_of_rest s.why) same ∙ is.3 in
      let some : kind_of_rest summary.why ≡ Some bad.Version = ap kind_of_rest (why_is ∙ version) in
      absurd (let both = sym some ∙ kind in cc both)
  no_more summary other is why_is ends = absurd is

  pub read_to : (left' : Option (List ℕ)) (by : ReadingEnd) (answer : Result DumpSummary Refusal) (end : LinkEnd) → IsEndOfReading by answer end → IsReadingEnd left left' read waits by → IfOk answer (λ summary. summary.why ≡ why_of waits)
      → IsReadTo left read end
  read_to left' reading.Failed answer end is ends why_is = subst (IsReadTo left read) (sym is) of
  read_to left' reading.NoMore (Ok summary) end is ends why_is = no_more summary end is why_is ends
  read_to left' reading.NoMore (Err refusal) end is ends why_is = subst (IsReadTo left read) (sym is) of
  read_to left' reading.TooLong (Ok summary) end is ends why_is = subst (IsReadTo left read) (sym is) (read_to_limit left read ends.0 of ends.2)
  read_to left' reading.TooLong (Err refusal) end is ends why_is = subst (IsReadTo left read) (sym is) of

module _ (left left' : Option (List ℕ)) (read waits : List ℕ) where
  summary_taken : (summary : DumpSummary) (end : LinkEnd) → IsEndOfSummary summary end → IsAllTaken left left' read end
  summary_taken summary (Whole other) is = tt
  summary_taken summary (Rest at kind) is = tt
  summary_taken summary other is = absurd is

  -- where a read failed, all that was taken was read
  pub all_taken : (by : ReadingEnd) (answer : Result DumpSummary Refusal) (end : LinkEnd) → IsEndOfReading by answer end → IsReadingEnd left left' read waits by → IsAllTaken left left' read end
  all_taken reading.Failed answer end is ends = subst (IsAllTaken left left' read) (sym is) ends
  all_taken reading.NoMore (Ok summary) end is ends = summary_taken summary end is
  all_taken reading.NoMore (Err refusal) end is ends = subst (IsAllTaken left left' read) (sym is) tt
  all_taken reading.TooLong (Ok summary) end is ends = subst (IsAllTaken left left' read) (sym is) tt
  all_taken reading.TooLong (Err refusal) end is ends = subst (IsAllTaken left left' read) (sym is) tt

-- ---- the count of its source's faults

counted_summary : (summary : DumpSummary) (end : LinkEnd) (before now : ℕ) → IsEndOfSummary summary end → Stays before now → IsReadCounted end before now
counted_summary summary (Whole other) before now is same = same
counted_summary summary (Rest at kind) before now is same = same
counted_summary summary other before now is same = absurd is

pub read_counted : (by : ReadingEnd) (answer : Result DumpSummary Refusal) (end : LinkEnd) (before now : ℕ) → IsEndOfReading by answer end → IsReadingCounted by before now → IsReadCounted end before now
read_counted reading.Failed answer end before now is counted = subst (λ (e : LinkEnd). IsReadCounted e before now) (sym is) counted
read_counted reading.NoMore (Ok summary) end before now is counted = counted_summary summary end before now is counted
read_counted reading.NoMore (Err refusal) end before now is counted = subst (λ (e : LinkEnd). IsReadCounted e before now) (sym is) counted
read_counted reading.TooLong (Ok summary) end before now is counted = subst (λ (e : LinkEnd). IsReadCounted e before now) (sym is) counted
read_counted reading.TooLong (Err refusal) end before now is counted = subst (λ (e : LinkEnd). IsReadCounted e before now) (sym is) counted
