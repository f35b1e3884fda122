-- The records near times, taken out of an index and put in as one.
use Rattle.std.proofs.Common.{◌≡◌, ◌≢◌, ℕ, pos, ◌≤ℤ◌, ◌+◌, ◌<◌, eqb, inl, inr, List, [], ◌∷◌, length, Bool, true, false, cond, Some, None, refl, sym, ◌∙◌, ap, subst, arith}
use Rattle.std.specs.Prelude.{neg_ℤ, ◌^◌, ◌+ℤ◌, int_lt, map, filter}
use Rattle.std.specs.List.{AllByRecursion}
use Rattle.std.specs.Ordering.{is_eq, is_le}
use Rattle.std.specs.declared.cmp.Ordering.{Ordering}
use Rattle.std.specs.declared.cmp.Ordering.TheVariants.{Less, Equal, Greater}
use Rattle.std.specs.Map.{lookup, remove_entry}
use Rattle.std.specs.BTreeMap.{is_at, insert_entry}
use Rattle.std.specs.BTreeMap.Range.{entries_from}
use Rattle.std.proofs.lemmas.Bool.{eq-eqb, ne_eqb, eqb-true, eqb-false}
use Rattle.std.proofs.lemmas.Int.{ints, clamps}
use Rattle.arch_types.specs.declared.spans.Span.{Span}
use Rattle.block_map.specs.Rising.{IsRising, IsBelow}
use Rattle.block_map.proofs.Rising.{below_all}
use Rattle.histogram.specs.declared.histogram.NamedTime.{NamedTime}
use Rattle.histogram.specs.declared.near.SpanStart.{SpanStart}
use Rattle.histogram.specs.Times.{named_time_cmp}
use Rattle.histogram.specs.Near.{is_apart, joined, joined_near, with_span}
use Rattle.histogram.specs.SpanEntries.{span_at, named_span, spans_in, total, earliest_key, near_span, last_key, IsSpanEntry, IsClear}
use Rattle.histogram.proofs.Order.{named_cmp_total, IsBefore, ranked_as, same_from_equal}
use Rattle.histogram.proofs.Addition.{lt_true, lt_false, true_lt, false_lt}

-- ---- lists

all_both : {X : Type 0} (P Q R : X → Type 0) → ((x : X) → P x → Q x → R x) → (xs : List X) → AllByRecursion P xs → AllByRecursion Q xs → AllByRecursion R xs
all_both P Q R f [] p q = tt
all_both P Q R f (x ∷ xs) p q = (f x p.0 q.0, all_both P Q R f xs p.1 q.1)

is_true_false : {b : Bool} → b ≡ true → b ≡ false → ⊥
is_true_false t f = cc

-- ---- the order

rank_less : (a b : NamedTime) → IsBefore a b → named_time_cmp a b ≡ Less
rank_less a b before = by (named_time_cmp a b) refl
  where
    by : (r : Ordering) → named_time_cmp a b ≡ r → r ≡ Less
    by Less is = refl
    by Equal is = absurd (no before (ranked_as a b Equal is))
      where
        no : IsBefore a b → (a.pname ≡ b.pname) × (a.time ≡ b.time) → ⊥
        no (inl names) same = omega (arith, names, same.0)
        no (inr times) same = omega (arith, ints, times.1, same.1)
    by Greater is = absurd (no before (ranked_as a b Greater is))
      where
        no : IsBefore a b → IsBefore b a → ⊥
        no (inl names) (inl other) = omega (arith, names, other)
        no (inl names) (inr other) = omega (arith, names, other.0)
        no (inr times) (inl other) = omega (arith, times.0, other)
        no (inr times) (inr other) = omega (arith, ints, times.1, other.1)

rank_greater : (a b : NamedTime) → IsBefore b a → named_time_cmp a b ≡ Greater
rank_greater a b before = by (named_time_cmp a b) refl
  where
    by : (r : Ordering) → named_time_cmp a b ≡ r → r ≡ Greater
    by Less is = absurd (no before (ranked_as a b Less is))
      where
        no : IsBefore b a → IsBefore a b → ⊥
        no (inl names) (inl other) = omega (arith, names, other)
        no (inl names) (inr other) = omega (arith, names, other.0)
        no (inr times) (inl other) = omega (arith, times.0, other)
        no (inr times) (inr other) = omega (arith, ints, times.1, other.1)
    by Equal is = absurd (no before (ranked_as a b Equal is))
      where
        no : IsBefore b a → (a.pname ≡ b.pname) × (a.time ≡ b.time) → ⊥
        no (inl names) same = omega (arith, names, same.0)
        no (inr times) same = omega (arith, ints, times.1, same.1)
    by Greater is = refl

-- the records that contracts see are those of the entries
pub spans_are : (pname : ℕ) (es : List (NamedTime × SpanStart)) → map (λ (r : ℕ × Span). r.1) (filter (λ (r : ℕ × Span). eqb r.0 pname) (map named_span es)) ≡ spans_in pname es
spans_are pname [] = refl
spans_are pname (e ∷ es) = by (eqb e.0.pname pname) (spans_are pname es)
  where
    by : (b : Bool) → map (λ (r : ℕ × Span). r.1) (filter (λ (r : ℕ × Span). eqb r.0 pname) (map named_span es)) ≡ spans_in pname es →
        map (λ (r : ℕ × Span). r.1) (cond b (named_span e ∷ filter (λ (r : ℕ × Span). eqb r.0 pname) (map named_span es)) (filter (λ (r : ℕ × Span). eqb r.0 pname) (map named_span es)))
        ≡ cond b (span_at e ∷ spans_in pname es) (spans_in pname es)
    by true later = ap (λ (l : List Span). span_at e ∷ l) later
    by false later = later

lookup_below : (k : NamedTime) (es : List (NamedTime × SpanStart)) → IsBelow named_time_cmp k es → lookup (is_at (named_time_cmp k)) es ≡ None
lookup_below k [] below = refl
lookup_below k (e ∷ es) below = rw below.0 (lookup_below k es below.1)

-- no entry of a name is past an entry of a later one
pub past_name : (pname : ℕ) (k : NamedTime) (es : List (NamedTime × SpanStart)) → IsBelow named_time_cmp k es → pname < k.pname → spans_in pname es ≡ []
past_name pname k [] below above = refl
past_name pname k (e ∷ es) below above =
    let other : eqb e.0.pname pname ≡ false = ne_eqb e.0.pname pname (λ same. no (ranked_as k e.0 Less below.0) same) in
    rw other (past_name pname k es below.1 above)
  where
    no : IsBefore k e.0 → e.0.pname ≡ pname → ⊥
    no (inl names) same = omega (arith, names, same, above)
    no (inr times) same = omega (arith, times.0, same, above)

-- ---- where times stand among entries

module _ (pname : ℕ) (at : Span) where
  -- an entry below the earliest place
  below_earliest : (e : NamedTime × SpanStart) → IsSpanEntry e → named_time_cmp (earliest_key pname at) e.0 ≡ Greater → e.0.pname ≡ pname → is_apart e.0.time at.first ≡ true
  below_earliest e whole is same = by (ranked_as (earliest_key pname at) e.0 Greater is)
    where
      by : IsBefore e.0 (earliest_key pname at) → is_apart e.0.time at.first ≡ true
      by (inl names) = absurd (omega (arith, names, same))
      by (inr times) = true_lt (e.0.time +ℤ pos 60_000) at.first (omega (arith, ints, clamps, times.1, whole.0))

  from_earliest : (e : NamedTime × SpanStart) → is_le (named_time_cmp (earliest_key pname at) e.0) ≡ true → e.0.pname ≡ pname → is_apart e.0.time at.first ≡ false
  from_earliest e from same = by (named_time_cmp (earliest_key pname at) e.0) refl from
    where
      by : (r : Ordering) → named_time_cmp (earliest_key pname at) e.0 ≡ r → is_le r ≡ true → is_apart e.0.time at.first ≡ false
      by Less is le = less (ranked_as (earliest_key pname at) e.0 Less is)
        where
          less : IsBefore (earliest_key pname at) e.0 → is_apart e.0.time at.first ≡ false
          less (inl names) = absurd (omega (arith, names, same))
          less (inr times) = false_lt (e.0.time +ℤ pos 60_000) at.first (omega (arith, ints, clamps, times.1))
      by Equal is le = let equal = ranked_as (earliest_key pname at) e.0 Equal is in false_lt (e.0.time +ℤ pos 60_000) at.first (omega (arith, ints, clamps, equal.1))
      by Greater is le = cc

  -- where no entry is apart before the times, a record put in grows at the head
  grows : (span : Span) (spans : List Span) → AllByRecursion (λ s. is_apart s.last at.first ≡ false) spans → with_span at span spans ≡ joined_near at.last span spans
  grows span [] all = refl
  grows span (s ∷ spans) all = rw all.0 refl

  -- what the records after an entry end with
  ends_after : (k : NamedTime) (es : List (NamedTime × SpanStart)) → k.pname ≡ pname → is_apart k.time at.first ≡ false → IsBelow named_time_cmp k es →
      AllByRecursion (λ s. is_apart s.last at.first ≡ false) (spans_in pname es)
  ends_after k [] name near below = tt
  ends_after k (e ∷ es) name near below = by (eqb e.0.pname pname) refl (ends_after k es name near below.1)
    where
      later : IsBefore k e.0 → e.0.pname ≡ pname → is_apart e.0.time at.first ≡ false
      later (inl names) same = absurd (omega (arith, names, same, name))
      later (inr times) same = false_lt (e.0.time +ℤ pos 60_000) at.first (let limit = lt_false (k.time +ℤ pos 60_000) at.first near in omega (arith, ints, times.1, limit))

      by : (b : Bool) → eqb e.0.pname pname ≡ b → AllByRecursion (λ s. is_apart s.last at.first ≡ false) (spans_in pname es) →
          AllByRecursion (λ s. is_apart s.last at.first ≡ false) (cond b (span_at e ∷ spans_in pname es) (spans_in pname es))
      by true same rest = (later (ranked_as k e.0 Less below.0) (eqb-true e.0.pname pname same), rest)
      by false other rest = rest

  -- where each record of the name has ended more than 60,000 ms before the times begin, none is near them
  pub none_near : (es : List (NamedTime × SpanStart)) → AllByRecursion (λ s. is_apart s.last at.first ≡ true) (spans_in pname es) → near_span pname at (entries_from (named_time_cmp (earliest_key pname at)) es) ≡ None
  none_near [] all = refl
  none_near (e ∷ es) all = by (eqb e.0.pname pname) refl all (named_time_cmp (earliest_key pname at) e.0) refl (none_near es)
    where
      by : (b : Bool) → eqb e.0.pname pname ≡ b → AllByRecursion (λ s. is_apart s.last at.first ≡ true) (cond b (span_at e ∷ spans_in pname es) (spans_in pname es)) →
          (r : Ordering) → named_time_cmp (earliest_key pname at) e.0 ≡ r →
          (AllByRecursion (λ s. is_apart s.last at.first ≡ true) (spans_in pname es) → near_span pname at (entries_from (named_time_cmp (earliest_key pname at)) es) ≡ None) →
          near_span pname at (cond (is_le r) (e ∷ entries_from (named_time_cmp (earliest_key pname at)) es) (entries_from (named_time_cmp (earliest_key pname at)) es)) ≡ None
      by true same ended Greater is later = later ended.1
      by false other ended Greater is later = later ended
      by true same ended Less is later = absurd (is_true_false ended.0 (from_earliest e (ap is_le is) (eqb-true e.0.pname pname same)))
      by true same ended Equal is later = absurd (is_true_false ended.0 (from_earliest e (ap is_le is) (eqb-true e.0.pname pname same)))
      by false other ended Less is later = rw other refl
      by false other ended Equal is later = rw other refl

  -- ---- a record that is taken out

  module _ (span s : Span) where
    abbrev key : NamedTime
    key = last_key pname s

    abbrev without : List (NamedTime × SpanStart) → List (NamedTime × SpanStart)
    without es = remove_entry (is_at (named_time_cmp key)) es

    -- what is true of entries and of those without the record
    pub record Taken (es : List (NamedTime × SpanStart)) : Type 0 where
      pub from : is_le (named_time_cmp (earliest_key pname at) key) ≡ true
      pub found : (v : SpanStart) × (lookup (is_at (named_time_cmp key)) es ≡ Some v)
      pub own : with_span at (joined span s) (spans_in pname (without es)) ≡ with_span at span (spans_in pname es)
      pub others : (other : ℕ) → other ≢ pname → spans_in other (without es) ≡ spans_in other es
      pub whole : AllByRecursion IsSpanEntry (without es)
      pub clear : AllByRecursion (IsClear pname at (joined span s)) (without es)
      pub shorter : length (without es) + 1 ≡ length es
      pub ordered : s.first ≤ℤ s.last
      pub counted : total (without es) + s.count ≡ total es

    -- past an entry below the earliest place
    later_taken : (e : NamedTime × SpanStart) (es : List (NamedTime × SpanStart)) → named_time_cmp (earliest_key pname at) e.0 ≡ Greater → IsSpanEntry e → Taken es → Taken (e ∷ es)
    later_taken e es is whole t = record {
      from = t.from;
      found = rw other t.found;
      own = rw other (own (eqb e.0.pname pname) refl);
      others = λ name ne. rw other (ap (λ (l : List Span). cond (eqb e.0.pname name) (span_at e ∷ l) l) (t.others name ne));
      whole = rw other (whole, t.whole);
      clear = rw other ((λ from near. absurd (no from)), t.clear);
      shorter = rw other (omega (arith, t.shorter));
      ordered = t.ordered;
      counted = rw other (omega (arith, t.counted));
    }
      where
        no : is_le (named_time_cmp (earliest_key pname at) e.0) ≡ true → ⊥
        no from = cc

        differs : (r : Ordering) → named_time_cmp key e.0 ≡ r → is_eq r ≡ false
        differs Less is₁ = refl
        differs Equal is₁ = absurd (no (subst (λ (k : NamedTime). is_le (named_time_cmp (earliest_key pname at) k) ≡ true) (same_from_equal key e.0 is₁) t.from))
        differs Greater is₁ = refl

        other : is_at (named_time_cmp key) e.0 ≡ false
        other = differs (named_time_cmp key e.0) refl

        own : (b : Bool) → eqb e.0.pname pname ≡ b → with_span at (joined span s) (cond b (span_at e ∷ spans_in pname (without es)) (spans_in pname (without es)))
            ≡ with_span at span (cond b (span_at e ∷ spans_in pname es) (spans_in pname es))
        own true same =
            let past = below_earliest e whole is (eqb-true e.0.pname pname same) in
            rw past (ap (λ (l : List Span). span_at e ∷ l) t.own)
        own false differ = t.own

    -- at the record itself
    here_taken : (e : NamedTime × SpanStart) (es : List (NamedTime × SpanStart)) → is_le (named_time_cmp (earliest_key pname at) e.0) ≡ true → IsSpanEntry e → e.0.pname ≡ pname → is_apart at.last e.1.first ≡ false → span_at e ≡ s →
        IsBelow named_time_cmp e.0 es → AllByRecursion IsSpanEntry es → AllByRecursion (IsClear pname at span) es → Taken (e ∷ es)
    here_taken e es from whole name near is below wholes clear = record {
      from = subst (λ (k : NamedTime). is_le (named_time_cmp (earliest_key pname at) k) ≡ true) (sym place) from;
      found = (e.1, rw found refl);
      own = rw found (rw (eq-eqb e.0.pname pname name, from_earliest e from name, near) (grows (joined span s) (spans_in pname es) (ends_after e.0 es name (from_earliest e from name) below) ∙ ap (λ (x : Span). joined_near at.last (joined span x) (spans_in pname es)) (sym is)));
      others = λ n ne. rw found (rw (ne_eqb e.0.pname n (λ same. ne (sym same ∙ name))) refl);
      whole = rw found wholes;
      clear = rw found (all_both (λ f. named_time_cmp e.0 f.0 ≡ Less) (IsClear pname at span) (IsClear pname at (joined span s)) clears es below clear);
      shorter = rw found (omega arith);
      ordered = subst (λ (x : Span). x.first ≤ℤ x.last) is whole.1;
      counted = rw found (let count = ap (λ (x : Span). x.count) is in omega (arith, count));
    }
      where
        place : key ≡ e.0
        place = ap (λ (x : Span). last_key pname x) (sym is) ∙ ap (λ (n : ℕ). let k : NamedTime = record { pname = n; time = e.0.time } in k) (sym name)

        itself : (r : Ordering) → named_time_cmp e.0 e.0 ≡ r → r ≡ Equal
        itself Less is₁ = absurd (no (ranked_as e.0 e.0 Less is₁))
          where
            no : IsBefore e.0 e.0 → ⊥
            no (inl names) = omega (arith, names)
            no (inr times) = omega (arith, ints, times.1)
        itself Equal is₁ = refl
        itself Greater is₁ = absurd (no (ranked_as e.0 e.0 Greater is₁))
          where
            no : IsBefore e.0 e.0 → ⊥
            no (inl names) = omega (arith, names)
            no (inr times) = omega (arith, ints, times.1)

        found : is_at (named_time_cmp key) e.0 ≡ true
        found = ap (λ (k : NamedTime). is_eq (named_time_cmp k e.0)) place ∙ ap is_eq (itself (named_time_cmp e.0 e.0) refl)

        clears : (f : NamedTime × SpanStart) → named_time_cmp e.0 f.0 ≡ Less → IsClear pname at span f → IsClear pname at (joined span s) f
        clears f less old = λ from₁ none. by (int_lt s.last span.last) (old from₁ none)
          where
            by : (b : Bool) → named_time_cmp (last_key pname span) f.0 ≡ Less → named_time_cmp (record { pname = pname; time = cond b span.last s.last }) f.0 ≡ Less
            by true first = first
            by false first = ap (λ (k : NamedTime). named_time_cmp k f.0) place ∙ less

    pub taken : (es : List (NamedTime × SpanStart)) → IsRising named_time_cmp es → AllByRecursion IsSpanEntry es → AllByRecursion (IsClear pname at span) es →
        near_span pname at (entries_from (named_time_cmp (earliest_key pname at)) es) ≡ Some s → Taken es
    taken [] up whole clear near = cc
    taken (e ∷ es) up whole clear near = by (named_time_cmp (earliest_key pname at) e.0) refl near (taken es up.1 whole.1 clear.1)
      where
        head : (b : Bool) → eqb e.0.pname pname ≡ b → (c : Bool) → is_apart at.last e.1.first ≡ c → cond b (cond c None (Some (span_at e))) None ≡ Some s → (e.0.pname ≡ pname) × (is_apart at.last e.1.first ≡ false) × (span_at e ≡ s)
        head true same true far near₁ = cc
        head true same false close near₁ = (eqb-true e.0.pname pname same, close, cc)
        head false other c is₁ near₁ = cc

        at_entry : is_le (named_time_cmp (earliest_key pname at) e.0) ≡ true → near_span pname at (e ∷ []) ≡ Some s → Taken (e ∷ es)
        at_entry from near₁ =
            let h = head (eqb e.0.pname pname) refl (is_apart at.last e.1.first) refl near₁ in
            here_taken e es from whole.0 h.0 h.1 h.2 up.0 whole.1 clear.1

        by : (r : Ordering) → named_time_cmp (earliest_key pname at) e.0 ≡ r → near_span pname at (cond (is_le r) (e ∷ entries_from (named_time_cmp (earliest_key pname at)) es) (entries_from (named_time_cmp (earliest_key pname at)) es)) ≡ Some s →
            (near_span pname at (entries_from (named_time_cmp (earliest_key pname at)) es) ≡ Some s → Taken es) → Taken (e ∷ es)
        by Less is near₁ later = at_entry (ap is_le is) near₁
        by Equal is near₁ later = at_entry (ap is_le is) near₁
        by Greater is near₁ later = later_taken e es is whole.0 (later near₁)

  -- ---- a record that is put in

  module _ (span : Span) (holds : at.last ≤ℤ span.last) (ordered : span.first ≤ℤ span.last) (least : neg_ℤ (pos (2 ^ 63)) ≤ℤ at.last) (rises : at.first ≤ℤ at.last) where
    abbrev place : NamedTime
    place = last_key pname span

    abbrev start : SpanStart
    start = record { first = span.first; count = span.count }

    abbrev with_it : List (NamedTime × SpanStart) → List (NamedTime × SpanStart)
    with_it es = insert_entry named_time_cmp es place start

    -- what is true of entries and of those with the record
    pub record Put (es : List (NamedTime × SpanStart)) : Type 0 where
      pub absent : lookup (is_at (named_time_cmp place)) es ≡ None
      pub own : spans_in pname (with_it es) ≡ with_span at span (spans_in pname es)
      pub others : (other : ℕ) → other ≢ pname → spans_in other (with_it es) ≡ spans_in other es
      pub whole : AllByRecursion IsSpanEntry (with_it es)
      pub counted : total (with_it es) ≡ total es + span.count

    it_is_whole : IsSpanEntry (place, start)
    it_is_whole = (omega (arith, ints, holds, least), ordered)

    own_name : eqb pname pname ≡ true
    own_name = eq-eqb pname pname refl

    other_name : (other : ℕ) → other ≢ pname → eqb pname other ≡ false
    other_name other ne = ne_eqb pname other (λ same. ne (sym same))

    at_end : Put []
    at_end = record {
      absent = refl;
      own = rw own_name refl;
      others = λ other ne. rw (other_name other ne) refl;
      whole = (it_is_whole, tt);
      counted = omega arith;
    }

    later_put : (e : NamedTime × SpanStart) (es : List (NamedTime × SpanStart)) → named_time_cmp (earliest_key pname at) e.0 ≡ Greater → IsSpanEntry e → Put es → Put (e ∷ es)
    later_put e es is whole p = record {
      absent = rw after p.absent;
      own = rw after (own (eqb e.0.pname pname) refl);
      others = λ other ne. rw after (ap (λ (l : List Span). cond (eqb e.0.pname other) (span_at e ∷ l) l) (p.others other ne));
      whole = rw after (whole, p.whole);
      counted = rw after (omega (arith, p.counted));
    }
      where
        before : IsBefore e.0 (earliest_key pname at) → IsBefore e.0 place
        before (inl names) = inl names
        before (inr times) = inr (times.0, omega (arith, ints, clamps, times.1, holds, least, rises))

        after : named_time_cmp place e.0 ≡ Greater
        after = rank_greater place e.0 (before (ranked_as (earliest_key pname at) e.0 Greater is))

        own : (b : Bool) → eqb e.0.pname pname ≡ b → cond b (span_at e ∷ spans_in pname (with_it es)) (spans_in pname (with_it es))
            ≡ with_span at span (cond b (span_at e ∷ spans_in pname es) (spans_in pname es))
        own true same =
            let past = below_earliest e whole is (eqb-true e.0.pname pname same) in
            rw past (ap (λ (l : List Span). span_at e ∷ l) p.own)
        own false differ = p.own

    here_put : (e : NamedTime × SpanStart) (es : List (NamedTime × SpanStart)) → is_le (named_time_cmp (earliest_key pname at) e.0) ≡ true → near_span pname at (e ∷ []) ≡ None → named_time_cmp place e.0 ≡ Less → IsRising named_time_cmp (e ∷ es) →
        AllByRecursion IsSpanEntry (e ∷ es) → Put (e ∷ es)
    here_put e es from none less up whole = record {
      absent = lookup_below place (e ∷ es) (less, below_all named_cmp_total place e.0 es less up.0);
      own = rw (less, own_name) (own (eqb e.0.pname pname) refl (is_apart at.last e.1.first) refl none);
      others = λ other ne. rw (less, other_name other ne) refl;
      whole = rw less (it_is_whole, whole);
      counted = rw less (omega arith);
    }
      where
        passed : IsBefore place e.0 → e.0.pname ≢ pname → pname < e.0.pname
        passed (inl names) ne = names
        passed (inr times) ne = absurd (ne (sym times.0))

        own : (b : Bool) → eqb e.0.pname pname ≡ b → (c : Bool) → is_apart at.last e.1.first ≡ c → cond b (cond c None (Some (span_at e))) None ≡ None →
            span ∷ cond b (span_at e ∷ spans_in pname es) (spans_in pname es) ≡ with_span at span (cond b (span_at e ∷ spans_in pname es) (spans_in pname es))
        own true same true far none₁ = rw (from_earliest e from (eqb-true e.0.pname pname same), far) refl
        own true same false close none₁ = cc
        own false other c is₁ none₁ =
            let above = passed (ranked_as place e.0 Less less) (eqb-false e.0.pname pname other) in
            rw (past_name pname e.0 es up.0 above) refl

    pub put : (es : List (NamedTime × SpanStart)) → IsRising named_time_cmp es → AllByRecursion IsSpanEntry es → AllByRecursion (IsClear pname at span) es →
        near_span pname at (entries_from (named_time_cmp (earliest_key pname at)) es) ≡ None → Put es
    put [] up whole clear none = at_end
    put (e ∷ es) up whole clear none = by (named_time_cmp (earliest_key pname at) e.0) refl none (put es up.1 whole.1 clear.1)
      where
        by : (r : Ordering) → named_time_cmp (earliest_key pname at) e.0 ≡ r → near_span pname at (cond (is_le r) (e ∷ entries_from (named_time_cmp (earliest_key pname at)) es) (entries_from (named_time_cmp (earliest_key pname at)) es)) ≡ None →
            (near_span pname at (entries_from (named_time_cmp (earliest_key pname at)) es) ≡ None → Put es) → Put (e ∷ es)
        by Less is none₁ later = here_put e es (ap is_le is) none₁ (clear.0 (ap is_le is) none₁) up whole
        by Equal is none₁ later = here_put e es (ap is_le is) none₁ (clear.0 (ap is_le is) none₁) up whole
        by Greater is none₁ later = later_put e es is whole.0 (later none₁)

-- before anything is taken out, each entry that isn't near times comes before them or after them
pub clear_first : (pname : ℕ) (at span : Span) → span.last ≡ at.last → (es : List (NamedTime × SpanStart)) → AllByRecursion IsSpanEntry es → AllByRecursion (IsClear pname at span) es
clear_first pname at span last [] whole = tt
clear_first pname at span last (e ∷ es) whole = (λ from none. clear (named_time_cmp (earliest_key pname at) e.0) refl from (eqb e.0.pname pname) refl (is_apart at.last e.1.first) refl none, clear_first pname at span last es whole.1)
  where
    names : (r : Ordering) → named_time_cmp (earliest_key pname at) e.0 ≡ r → is_le r ≡ true → e.0.pname ≢ pname → pname < e.0.pname
    names Less is from ne = by (ranked_as (earliest_key pname at) e.0 Less is)
      where
        by : IsBefore (earliest_key pname at) e.0 → pname < e.0.pname
        by (inl less) = less
        by (inr times) = absurd (ne (sym times.0))
    names Equal is from ne = absurd (ne (sym (ranked_as (earliest_key pname at) e.0 Equal is).0))
    names Greater is from ne = cc

    clear : (r : Ordering) → named_time_cmp (earliest_key pname at) e.0 ≡ r → is_le r ≡ true → (b : Bool) → eqb e.0.pname pname ≡ b → (c : Bool) → is_apart at.last e.1.first ≡ c → cond b (cond c None (Some (span_at e))) None ≡ None →
        named_time_cmp (last_key pname span) e.0 ≡ Less
    clear r is from true same true far none =
        let gap = lt_true (at.last +ℤ pos 60_000) e.1.first far in
        rank_less (last_key pname span) e.0 (inr (sym (eqb-true e.0.pname pname same), omega (arith, ints, gap, whole.0.1, last)))
    clear r is from true same false close none = cc
    clear r is from false other c is₁ none = rank_less (last_key pname span) e.0 (inl (names r is from (eqb-false e.0.pname pname other)))
