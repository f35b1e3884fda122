-- What a fold over a fill list gives is what the last item says that says anything.
use Rattle.std.proofs.Common.{◌≡◌, ◌⊎◌, inl, inr, ⊎_elim, ℕ, zero, suc, ℤ, ◌<◌, List, [], ◌∷◌, Bool, true, false, Option, Some, None, refl, sym, ap, subst, ◌∙◌, arith}
use Rattle.std.specs.Prelude.{slice_get, fold, if◌then◌else◌, ◌↔◌}
use Rattle.std.proofs.lemmas.Option.{same_Some}
use Rattle.std.proofs.lemmas.Bool.{cases_lt}
use Rattle.std.proofs.lemmas.Bool.Decides.{Decides-int_eq}
use Rattle.intervals.specs.declared.interval.Interval.{Interval}
use Rattle.history_items.specs.declared.fills.Fill.{Fill}
use Rattle.history_items.specs.declared.fills.Fill.TheVariants.{Begun, Done, Freed, Fault, Closed}
use Rattle.history_items.specs.Fills.{is_same, base_in, base_after, in_flight, flight_after, IsLastDone, EndsFlight, IsBegunLast}

-- what an item says, if it says anything, else what was said before
abbrev said : Option (Option ℕ) → Option ℕ → Option ℕ
said None before = before
said (Some now) before = now

-- ---- of any fold of that kind

module _ (says : Fill → Option (Option ℕ)) (after : Option ℕ → Fill → Option ℕ) (is_after : (before : Option ℕ) (item : Fill) → after before item ≡ said (says item) before) where
  -- no item says anything
  abbrev IsSilent : List Fill → Type 0
  IsSilent fills = (place : ℕ) (item : Fill) → slice_get fills place ≡ Some item → says item ≡ None

  -- an item at a place says this, and none behind says anything
  record SaysLast (fills : List Fill) (what : Option ℕ) : Type 0 where
    place : ℕ
    item : Fill
    there : slice_get fills place ≡ Some item
    is : says item ≡ Some what
    last : (later : ℕ) (other : Fill) → place < later → slice_get fills later ≡ Some other → says other ≡ None

  decided : (fills : List Fill) (before : Option ℕ) → (IsSilent fills × (fold after before fills ≡ before)) ⊎ SaysLast fills (fold after before fills)
  decided [] before = inl (λ place item at. absurd cc, refl)
  decided (item ∷ fills) before = go (decided fills (after before item))
    where
      behind : (place : ℕ) → IsSilent fills → (later : ℕ) (other : Fill) → place < later → slice_get (item ∷ fills) later ≡ Some other → says other ≡ None
      behind place silent zero other lt at = absurd (omega arith)
      behind place silent (suc later) other lt at = silent later other at

      shifted : (place : ℕ) → ((later : ℕ) (other : Fill) → place < later → slice_get fills later ≡ Some other → says other ≡ None)
          → (later : ℕ) (other : Fill) → suc place < later → slice_get (item ∷ fills) later ≡ Some other → says other ≡ None
      shifted place last zero other lt at = absurd (omega arith)
      shifted place last (suc later) other lt at = last later other (omega arith) at

      all : says item ≡ None → IsSilent fills → IsSilent (item ∷ fills)
      all none silent zero other at = let same : item ≡ other = cc in ap says (sym same) ∙ none
      all none silent (suc place) other at = silent place other at

      first : (o : Option (Option ℕ)) → says item ≡ o → IsSilent fills → (IsSilent (item ∷ fills) × (said o before ≡ before)) ⊎ SaysLast (item ∷ fills) (said o before)
      first None is silent = inl (all is silent, refl)
      first (Some now) is silent = inr (record { place = 0; item = item; there = refl; is = is; last = behind 0 silent })

      go : (IsSilent fills × (fold after (after before item) fills ≡ after before item)) ⊎ SaysLast fills (fold after (after before item) fills)
          → (IsSilent (item ∷ fills) × (fold after (after before item) fills ≡ before)) ⊎ SaysLast (item ∷ fills) (fold after (after before item) fills)
      go (inl (silent, same)) = subst (λ (o : Option ℕ). (IsSilent (item ∷ fills) × (o ≡ before)) ⊎ SaysLast (item ∷ fills) o) (sym (same ∙ is_after before item)) (first (says item) refl silent)
      go (inr s) = inr (record { place = suc s.place; item = s.item; there = s.there; is = s.is; last = shifted s.place s.last })

  -- where one item says this and none behind says anything, the fold gives this
  last_decides : (fills : List Fill) (before what : Option ℕ) → SaysLast fills what → fold after before fills ≡ what
  last_decides fills before what s = go (decided fills before)
    where
      same_said : (a b : Fill) → a ≡ b → says a ≡ Some what → (x : Option ℕ) → says b ≡ Some x → x ≡ what
      same_said a b e one x two = same_Some x what (sym two ∙ ap says (sym e) ∙ one)

      order : (m n : ℕ) → (m < n) ⊎ ((m ≡ n) ⊎ (n < m))
      order m n = ⊎_elim (λ lt. inl lt) (λ ge. ⊎_elim (λ lt. inr (inr lt)) (λ le. inr (inl (omega arith))) (cases_lt n m)) (cases_lt m n)

      go : (IsSilent fills × (fold after before fills ≡ before)) ⊎ SaysLast fills (fold after before fills) → fold after before fills ≡ what
      go (inl (silent, same)) = absurd (cc (silent s.place s.item s.there, s.is))
      go (inr t) = at (order s.place t.place)
        where
          at : (s.place < t.place) ⊎ ((s.place ≡ t.place) ⊎ (t.place < s.place)) → fold after before fills ≡ what
          at (inl lt) = absurd (cc (s.last t.place t.item lt t.there, t.is))
          at (inr (inl same)) = same_said s.item t.item (same_Some s.item t.item (sym s.there ∙ ap (slice_get fills) same ∙ t.there)) s.is (fold after before fills) t.is
          at (inr (inr lt)) = absurd (cc (t.last s.place s.item lt s.there, s.is))

-- ---- one interval

some_some : (x y : ℕ) → ◌≡◌ {A = Option (Option ℕ)} (Some (Some x)) (Some (Some y)) → x ≡ y
some_some x y e = cc

one_interval : (a b : Interval) → a.0 ≡ b.0 → a ≡ b
one_interval a b e = ap (λ (n : ℤ). let i : Interval = record { 0 = n } in i) e

same_is : (a b : Interval) → is_same a b ≡ true → b ≡ a
same_is a b e = sym (one_interval a b ((Decides-int_eq a.0 b.0).0 e))

same_self : (a b : Interval) → b ≡ a → is_same a b ≡ true
same_self a b e = (Decides-int_eq a.0 b.0).1 (ap (λ (i : Interval). i.0) (sym e))

-- an option by whether two are one interval, and only then something
abbrev where_same : Bool → Option ℕ → Option (Option ℕ)
where_same same what = if same then Some what else None

said_where : (same : Bool) (what before : Option ℕ) → (if same then what else before) ≡ said (where_same same what) before
said_where true what before = refl
said_where false what before = refl

where_some : (same : Bool) (what now : Option ℕ) → where_same same what ≡ Some now → (same ≡ true) × (what ≡ now)
where_some true what now e = (refl, cc)
where_some false what now e = absurd cc

where_none : (same : Bool) (what : Option ℕ) → (same ≡ true → ⊥) → where_same same what ≡ None
where_none true what differs = absurd (differs refl)
where_none false what differs = refl

where_not : (same : Bool) (what : Option ℕ) → where_same same what ≡ None → same ≡ true → ⊥
where_not true what e is = absurd cc
where_not false what e is = absurd cc

-- ---- bases

module _ (interval : Interval) where
  abbrev base_said : Fill → Option (Option ℕ)
  base_said (Begun i b) = None
  base_said (Done i b) = where_same (is_same interval i) (Some b)
  base_said (Freed i) = None
  base_said (Fault count wrote unacknowledged) = None
  base_said Closed = None

  base_is_said : (before : Option ℕ) (item : Fill) → base_after interval before item ≡ said (base_said item) before
  base_is_said before (Begun i b) = refl
  base_is_said before (Done i b) = said_where (is_same interval i) (Some b) before
  base_is_said before (Freed i) = refl
  base_is_said before (Fault count wrote unacknowledged) = refl
  base_is_said before Closed = refl

  done_says : (item : Fill) (base : ℕ) → item ≡ Done interval base → base_said item ≡ Some (Some base)
  done_says item base e = ap base_said e ∙ ap (λ (b : Bool). where_same b (Some base)) (same_self interval interval refl)

  -- an item that says a base is a Done of the interval with it
  says_done : (item : Fill) (what : Option ℕ) → base_said item ≡ Some what → (base : ℕ) × (what ≡ Some base) × (item ≡ Done interval base)
  says_done (Begun i b) what e = absurd cc
  says_done (Done i b) what e =
      let both = where_some (is_same interval i) (Some b) what e in
      (b, sym both.1, ap (λ (i : Interval). Done i b) (same_is interval i both.0))
  says_done (Freed i) what e = absurd cc
  says_done (Fault count wrote unacknowledged) what e = absurd cc
  says_done Closed what e = absurd cc

  -- one that is none says nothing
  not_done : (item : Fill) → ((base : ℕ) → item ≡ Done interval base → ⊥) → base_said item ≡ None
  not_done (Begun i b) none = refl
  not_done (Done i b) none = where_none (is_same interval i) (Some b) (λ same. none b (ap (λ (i : Interval). Done i b) (same_is interval i same)))
  not_done (Freed i) none = refl
  not_done (Fault count wrote unacknowledged) none = refl
  not_done Closed none = refl

  last_done : (base : ℕ) (fills : List Fill) → (base_in interval fills ≡ Some base) ↔ IsLastDone interval base fills
  last_done base fills = (λ e. there e (decided base_said (base_after interval) base_is_said fills None), back)
    where
      there : base_in interval fills ≡ Some base → (IsSilent base_said (base_after interval) base_is_said fills × (base_in interval fills ≡ None)) ⊎ SaysLast base_said (base_after interval) base_is_said fills (base_in interval fills) → IsLastDone interval base fills
      there e (inl (silent, none)) = absurd (cc (e, none))
      there e (inr s) =
          let one = says_done s.item (base_in interval fills) s.is in
          let same : one.0 ≡ base = cc (one.1, e) in
          record {
            place = s.place;
            there = s.there ∙ ap Some (one.2 ∙ ap (λ (b : ℕ). Done interval b) same);
            last = λ later other lt at. absurd (cc (s.last later (Done interval other) lt at, done_says (Done interval other) other refl));
          }

      back : IsLastDone interval base fills → base_in interval fills ≡ Some base
      back d = last_decides base_said (base_after interval) base_is_said fills None (Some base) (record {
        place = d.place;
        item = Done interval base;
        there = d.there;
        is = done_says (Done interval base) base refl;
        last = λ later other lt at. not_done other (λ b e. d.last later b lt (at ∙ ap Some e));
      })

  no_done : (fills : List Fill) → (base_in interval fills ≡ None) ↔ ((place base : ℕ) → slice_get fills place ≡ Some (Done interval base) → ⊥)
  no_done fills = (λ e. there e (decided base_said (base_after interval) base_is_said fills None), λ none. back none (decided base_said (base_after interval) base_is_said fills None))
    where
      there : base_in interval fills ≡ None → (IsSilent base_said (base_after interval) base_is_said fills × (base_in interval fills ≡ None)) ⊎ SaysLast base_said (base_after interval) base_is_said fills (base_in interval fills)
          → (place base : ℕ) → slice_get fills place ≡ Some (Done interval base) → ⊥
      there e (inl (silent, none)) place base at = absurd (cc (silent place (Done interval base) at, done_says (Done interval base) base refl))
      there e (inr s) place base at = let one = says_done s.item (base_in interval fills) s.is in absurd (cc (one.1, e))

      back : ((place base : ℕ) → slice_get fills place ≡ Some (Done interval base) → ⊥) → (IsSilent base_said (base_after interval) base_is_said fills × (base_in interval fills ≡ None)) ⊎ SaysLast base_said (base_after interval) base_is_said fills (base_in interval fills)
          → base_in interval fills ≡ None
      back none (inl (silent, same)) = same
      back none (inr s) = let one = says_done s.item (base_in interval fills) s.is in absurd (none s.place one.0 (s.there ∙ ap Some one.2))

  -- ---- flights

  abbrev flight_said : Fill → Option (Option ℕ)
  flight_said (Begun i b) = where_same (is_same interval i) (Some b)
  flight_said (Done i b) = where_same (is_same interval i) None
  flight_said (Freed i) = where_same (is_same interval i) None
  flight_said (Fault count wrote unacknowledged) = None
  flight_said Closed = None

  flight_is_said : (before : Option ℕ) (item : Fill) → flight_after interval before item ≡ said (flight_said item) before
  flight_is_said before (Begun i b) = said_where (is_same interval i) (Some b) before
  flight_is_said before (Done i b) = said_where (is_same interval i) None before
  flight_is_said before (Freed i) = said_where (is_same interval i) None before
  flight_is_said before (Fault count wrote unacknowledged) = refl
  flight_is_said before Closed = refl

  -- an item that says that the interval is in flight is a Begun of it
  says_begun : (item : Fill) (base : ℕ) → flight_said item ≡ Some (Some base) → item ≡ Begun interval base
  says_begun (Begun i b) base e =
      let both = where_some (is_same interval i) (Some b) (Some base) e in
      let same : b ≡ base = cc (both.1) in
      ap (λ (i : Interval). Begun i b) (same_is interval i both.0) ∙ ap (λ (b : ℕ). Begun interval b) same
  says_begun (Done i b) base e = let both = where_some (is_same interval i) None (Some base) e in absurd (cc (both.1))
  says_begun (Freed i) base e = let both = where_some (is_same interval i) None (Some base) e in absurd (cc (both.1))
  says_begun (Fault count wrote unacknowledged) base e = absurd cc
  says_begun Closed base e = absurd cc

  -- one that says nothing neither begins nor ends a flight of the interval
  silent_ends : (item : Fill) → flight_said item ≡ None → EndsFlight interval item → ⊥
  silent_ends (Begun i b) e ends = where_not (is_same interval i) (Some b) e (same_self interval i ends)
  silent_ends (Done i b) e ends = where_not (is_same interval i) None e (same_self interval i ends)
  silent_ends (Freed i) e ends = where_not (is_same interval i) None e (same_self interval i ends)
  silent_ends (Fault count wrote unacknowledged) e ends = ends
  silent_ends Closed e ends = ends

  ends_silent : (item : Fill) → (EndsFlight interval item → ⊥) → flight_said item ≡ None
  ends_silent (Begun i b) none = where_none (is_same interval i) (Some b) (λ same. none (same_is interval i same))
  ends_silent (Done i b) none = where_none (is_same interval i) None (λ same. none (same_is interval i same))
  ends_silent (Freed i) none = where_none (is_same interval i) None (λ same. none (same_is interval i same))
  ends_silent (Fault count wrote unacknowledged) none = refl
  ends_silent Closed none = refl

  begun_last : (base : ℕ) (fills : List Fill) → (in_flight interval fills ≡ Some base) ↔ IsBegunLast interval base fills
  begun_last base fills = (λ e. there e (decided flight_said (flight_after interval) flight_is_said fills None), back)
    where
      there : in_flight interval fills ≡ Some base → (IsSilent flight_said (flight_after interval) flight_is_said fills × (in_flight interval fills ≡ None)) ⊎ SaysLast flight_said (flight_after interval) flight_is_said fills (in_flight interval fills) → IsBegunLast interval base fills
      there e (inl (silent, none)) = absurd (cc (e, none))
      there e (inr s) = record {
        place = s.place;
        there = s.there ∙ ap Some (says_begun s.item base (s.is ∙ ap Some e));
        last = λ later item lt at ends. silent_ends item (s.last later item lt at) ends;
      }

      back : IsBegunLast interval base fills → in_flight interval fills ≡ Some base
      back d = last_decides flight_said (flight_after interval) flight_is_said fills None (Some base) (record {
        place = d.place;
        item = Begun interval base;
        there = d.there;
        is = ap (λ (b : Bool). where_same b (Some base)) (same_self interval interval refl);
        last = λ later other lt at. ends_silent other (λ ends. d.last later other lt at ends);
      })

pub base_is_of_last_done : (interval : Interval) (fills : List Fill) →
    ((base : ℕ) → (base_in interval fills ≡ Some base) ↔ IsLastDone interval base fills)
    × ((base_in interval fills ≡ None) ↔ ((place base : ℕ) → slice_get fills place ≡ Some (Done interval base) → ⊥))
base_is_of_last_done interval fills = (λ base. last_done interval base fills, no_done interval fills)

pub flight_is_begun_last : (interval : Interval) (base : ℕ) (fills : List Fill) → (in_flight interval fills ≡ Some base) ↔ IsBegunLast interval base fills
flight_is_begun_last interval base fills = begun_last interval base fills
