-- Sources that are opened, used and closed.
use Rattle.std.proofs.Common.{◌≡◌, ◌∙◌, inl, inr, ℕ, zero, suc, ◌+◌, ◌-◌, ◌^◌, ◌<◌, ◌≤◌, List, [], ◌∷◌, ◌++◌, length, map, take, drop, get_or, Bor, Bool, true, false, Option, Some, None, refl, sym, ap, subst, arith, append-nil, append_assoc, length-append, ltb-false, ltb-true}
use Rattle.std.specs.Prelude.{◌||◌, ◌↔◌, max, min, nat_lt, IfSome, IsErrOf, IsNone, IsSome, IsSomeAnd, Result, Err}
use Rattle.std.specs.FinMap.{get}
use Rattle.std.specs.List.{AllByRecursion}
use Rattle.std.proofs.lemmas.List.{drop_more, length-map, length-take-le, map-append, take-append-drop, take_more}
use Rattle.std.proofs.lemmas.List.Folds.{list_any-append}
use Rattle.refusals.specs.declared.refusal.Refusal.{Refusal}
use Rattle.refusals.specs.declared.refusal.Refusal.TheVariants as refused
use Rattle.outer_traits.specs.declared.fault.OpenFault.{OpenFault}
use Rattle.outer_traits.specs.declared.fault.OpenFault.TheVariants.{Missing, Failed, OutOfMemory}
use Rattle.outer_traits.specs.Outside.{Files, HasRisen, IsLeftAtFirst, OpeningCounted, Stays}
use Rattle.outer_traits.specs.Whole.{IsThere}
use Rattle.outer_traits.specs.States.{InputsState, SourceState, GaveOne, GaveNone, ClosedOne}
use Rattle.command_plans.specs.Ledger.{Counted, UsedInputs, given_more}
use Rattle.command_plans.specs.Plan.{OfMemory, OfInputs, CommandPlan, Way, Returned, Stopped, Interrupted, Allows, IsDetermined}
use Rattle.command_plans.specs.Reading.{IsOpeningFault}
use Rattle.command_plans.specs.Sources.{AreNewSources, EachUsed, GaveSources, IsNewSource, TookSources, UsedSources, WereNotOpened, WereOpened, any_failed, have_failed, opened_if_there, opening_all_plan}
use Rattle.command_plans.proofs.Inputs.{there_once}
use Rattle.command_plans.proofs.Ledgers.{given_then, inputs_unused, risen_counted}

-- ---- what the plan allows

-- what a source has at first is there
pub left_there : (files : Option Files) (name : List ℕ) (left : Option (List ℕ)) → IsLeftAtFirst files name left → IsThere files name
left_there None name left has = tt
left_there (Some all) name left has = go (get all name) has
  where
    go : (o : Option (List ℕ)) → IsSomeAnd o (λ octets. left ≡ Some octets) → IsSome o
    go None is = absurd is
    go (Some octets) is = refl

module _ (files : Option Files) where
  -- each of the names is there
  abbrev pub AreThere : List (List ℕ) → Type 0
  AreThere names = AllByRecursion (IsThere files) names

  -- so all are opened
  pub all_there_opened : (names : List (List ℕ)) → AreThere names → (before : ℕ) → Allows (opening_all_plan files names before) (Returned tt)
  all_there_opened [] there before = refl
  all_there_opened (name ∷ names) there before = inr (true, there.0, inr (all_there_opened names there.1 (before + 1)))

  -- or there is no memory for the sources
  no_room : (names : List (List ℕ)) → (length names ≡ 0 → ⊥) → (before : ℕ) → Allows (opening_all_plan files names before) (Interrupted (before + 0) OfMemory)
  no_room [] some before = absurd (some refl)
  no_room (name ∷ names) some before =
      let same : before ≡ before + 0 = omega arith in
      subst (λ (n : ℕ). Allows (opening_all_plan files (name ∷ names) before) (Interrupted n OfMemory)) same (inl refl)

  -- or the plan goes on at the first that isn't
  opened_first : (done rest : List (List ℕ)) (before at : ℕ) → at ≡ before + length done → AreThere done → (way : Way ℕ (Unit {0})) → Allows (opening_all_plan files rest at) way →
      Allows (opening_all_plan files (done ++ rest) before) way
  opened_first [] rest before at is there way goes =
      let same : at ≡ before = omega (arith, is) in subst (λ (n : ℕ). Allows (opening_all_plan files rest n) way) same goes
  opened_first (name ∷ done) rest before at is there way goes =
      inr (true, there.0, inr (opened_first done rest (before + 1) at (omega (arith, is)) there.1 way goes))

-- ---- sources that were just given

module _ {S : Type 0} (state : S → SourceState) where
  abbrev AreFresh : List S → Type 0
  AreFresh sources = AllByRecursion (λ source. (state source).faults ≡ 0) sources

  abbrev NeverFail : List S → Type 0
  NeverFail sources = AllByRecursion (λ source. (state source).never_fails) sources

  none_failed : (sources : List S) → AreFresh sources → have_failed state sources ≡ false
  none_failed [] fresh = refl
  none_failed (source ∷ sources) fresh = rw (fresh.0, none_failed sources fresh.1) refl

  module _ (inputs : InputsState) where
    new_are_fresh : (names : List (List ℕ)) (sources : List S) → AreNewSources state inputs names sources → AreFresh sources
    new_are_fresh [] [] new = tt
    new_are_fresh [] (source ∷ sources) new = absurd new
    new_are_fresh (name ∷ names) [] new = absurd new
    new_are_fresh (name ∷ names) (source ∷ sources) new = (new.0.fresh, new_are_fresh names sources new.1)

    new_never_fail : inputs.never_fails → (names : List (List ℕ)) (sources : List S) → AreNewSources state inputs names sources → NeverFail sources
    new_never_fail sure [] [] new = tt
    new_never_fail sure [] (source ∷ sources) new = absurd new
    new_never_fail sure (name ∷ names) [] new = absurd new
    new_never_fail sure (name ∷ names) (source ∷ sources) new = (new.0.reliable sure, new_never_fail sure names sources new.1)

    pub new_sources_there : (names : List (List ℕ)) (sources : List S) → AreNewSources state inputs names sources → AreThere inputs.files names
    new_sources_there [] [] new = tt
    new_sources_there [] (source ∷ sources) new = absurd new
    new_sources_there (name ∷ names) [] new = absurd new
    new_sources_there (name ∷ names) (source ∷ sources) new =
        (left_there inputs.files name (state source).left new.0.left, new_sources_there names sources new.1)

    pub new_sources_length : (names : List (List ℕ)) (sources : List S) → AreNewSources state inputs names sources → length sources ≡ length names
    new_sources_length [] [] new = refl
    new_sources_length [] (source ∷ sources) new = absurd new
    new_sources_length (name ∷ names) [] new = absurd new
    new_sources_length (name ∷ names) (source ∷ sources) new = ap suc (new_sources_length names sources new.1)

    new_source_more : (names : List (List ℕ)) (sources : List S) (name : List ℕ) (source : S) → AreNewSources state inputs names sources → IsNewSource inputs name (state source) →
        AreNewSources state inputs (names ++ name ∷ []) (sources ++ source ∷ [])
    new_source_more [] [] name source new one = (one, tt)
    new_source_more [] (other ∷ sources) name source new one = absurd new
    new_source_more (other ∷ names) [] name source new one = absurd new
    new_source_more (other ∷ names) (first ∷ sources) name source new one = (new.0, new_source_more names sources name source new.1 one)

-- ---- the names of a slice

abbrev pub names_of : List (Bor (List ℕ)) → List (List ℕ)
names_of names = map (λ (name : Bor (List ℕ)). name.now) names

pub names_more : (names : List (Bor (List ℕ))) (i : ℕ) (d : Bor (List ℕ)) → i < length names → names_of (take (i + 1) names) ≡ names_of (take i names) ++ (get_or names i d).now ∷ []
names_more names i d lt = ap names_of (take_more names i d lt) ∙ map-append (λ (name : Bor (List ℕ)). name.now) (take i names) (get_or names i d ∷ [])

pub names_at : (names : List (Bor (List ℕ))) (i : ℕ) (d : Bor (List ℕ)) → i < length names → names_of names ≡ names_of (take i names) ++ (get_or names i d).now ∷ names_of (drop (i + 1) names)
names_at names i d lt =
    ap names_of (sym (take-append-drop i names)) ∙ map-append (λ (name : Bor (List ℕ)). name.now) (take i names) (drop i names)
    ∙ ap (λ (l : List (Bor (List ℕ))). names_of (take i names) ++ names_of l) (drop_more names i d lt)

pub names_count : (names : List (Bor (List ℕ))) (i : ℕ) → i ≤ length names → i ≡ length (names_of (take i names))
names_count names i le = sym (length-map (take i names) (λ (name : Bor (List ℕ)). name.now) ∙ length-take-le i names le)

-- ---- opening, one by one

pub gave_none : (state : InputsState) → GaveSources state state 0
gave_none state = record { files = refl; are_open = refl; gave = refl; still = refl; reliable = λ sure. sure }

pub gave_more : (a m b : InputsState) (n : ℕ) → GaveSources a m n → b.files ≡ m.files → GaveOne m b → Stays m.faults b.faults → (m.never_fails → b.never_fails × Stays m.faults b.faults) → GaveSources a b (n + 1)
gave_more a m b n before files one still reliable = record {
  files = files ∙ before.files;
  are_open = given_then a.open_sources m.open_sources b.open_sources n 1 (n + 1) refl before.are_open one.0;
  gave = given_then a.given m.given b.given n 1 (n + 1) refl before.gave one.1;
  still = still ∙ before.still;
  reliable = λ sure. (reliable (before.reliable sure)).0;
}

pub new_source : {S : Type 0} (state : S → SourceState) (a m : InputsState) (n : ℕ) (names names' : List (List ℕ)) (sources sources' : List S) (name : List ℕ) (source : S) → GaveSources a m n →
    AreNewSources state a names sources → IsLeftAtFirst m.files name (state source).left → (state source).faults ≡ 0 → (m.never_fails → (state source).never_fails) → names' ≡ names ++ name ∷ [] →
    sources' ≡ sources ++ source ∷ [] → AreNewSources state a names' sources'
new_source state a m n names names' sources sources' name source given new left fresh reliable named pushed =
    rw (named, pushed) (new_source_more state a names sources name source new (record {
      left = subst (λ (f : Option Files). IsLeftAtFirst f name (state source).left) given.files left;
      fresh = fresh;
      reliable = λ sure. reliable (given.reliable sure);
    }))

-- ---- closing, one by one

pub taken_front : {X : Type 0} (done : List X) (x : X) (left rest all : List X) → left ≡ x ∷ rest → done ++ left ≡ all → (done ++ x ∷ []) ++ rest ≡ all
taken_front done x left rest all step is = append_assoc done (x ∷ []) rest ∙ (ap (λ (l : List _). done ++ l) (sym step) ∙ is)

pub no_more : {X : Type 0} (done rest all : List X) → length rest ≡ 0 → done ++ rest ≡ all → done ≡ all
no_more done [] all none is = sym (append-nil done) ∙ is
no_more done (x ∷ rest) all none is = absurd (omega (arith, none))

pub took_none : {S : Type 0} (state : S → SourceState) (inputs : InputsState) → TookSources state [] inputs inputs
took_none state inputs = record { files = refl; are_closed = omega arith; gave = refl; counted = refl; reliable = λ sure none. sure }

neither : (x y : Bool) → (x || y) ≡ false → (x ≡ false) × (y ≡ false)
neither true y is = absurd (cc (is))
neither false y is = (refl, is)

counted_more : (failed : Bool) (source a m b : ℕ) → Counted failed a m → m ≤ b → (source ≡ 0 → Stays m b) → (0 < source → HasRisen m b) → Counted (failed || nat_lt 0 source) a b
counted_more true source a m b counted later kept risen =
    let first = counted.0 in
    (omega (arith, first, later), λ few. let more : a < m = counted.1 (omega (arith, few, later)) in omega (arith, more, later))
counted_more false source a m b counted later kept risen = subst (λ (n : ℕ). Counted (nat_lt 0 source) n b) counted (go (nat_lt 0 source) refl)
  where
    go : (test : Bool) → nat_lt 0 source ≡ test → Counted test m b
    go true is = risen_counted m b later (risen (ltb-true 0 source is))
    go false is = kept (let none = ltb-false 0 source is in omega (arith, none))

module _ {S : Type 0} (state : S → SourceState) (done : List S) (source : S) where
  took_failed : have_failed state (done ++ source ∷ []) ≡ (have_failed state done || nat_lt 0 (state source).faults)
  took_failed = list_any-append (λ (s : S). nat_lt 0 (state s).faults) done (source ∷ []) ∙ ap (λ (b : Bool). have_failed state done || b) (or_false (nat_lt 0 (state source).faults))
    where
      or_false : (b : Bool) → (b || false) ≡ b
      or_false true = refl
      or_false false = refl

  pub took_more : (a m b : InputsState) → TookSources state done a m → b.files ≡ m.files → m.faults ≤ b.faults → ClosedOne m b → ((state source).faults ≡ 0 → Stays m.faults b.faults)
      → (0 < (state source).faults → HasRisen m.faults b.faults) → (m.never_fails → (state source).faults ≡ 0 → b.never_fails × Stays m.faults b.faults) → TookSources state (done ++ source ∷ []) a b
  took_more a m b before files later one kept risen reliable = record {
    files = files ∙ before.files;
    are_closed =
        let first = before.are_closed in
        let next = one.0 in
        let many = length-append done (source ∷ []) in
        omega (arith, first, next, many);
    gave = one.1 ∙ before.gave;
    counted = subst (λ (f : Bool). Counted f a.faults b.faults) (sym took_failed) (counted_more (have_failed state done) (state source).faults a.faults m.faults b.faults before.counted later kept risen);
    reliable = λ sure none.
        let both = neither (have_failed state done) (nat_lt 0 (state source).faults) (sym took_failed ∙ none) in
        let least = ltb-false 0 (state source).faults both.1 in
        (reliable (before.reliable sure both.0) (omega (arith, least))).0;
  }

-- ---- sources that were opened, used and taken back

one_failed : (failed : Bool) (n : ℕ) → Counted failed 0 n → nat_lt 0 n ≡ failed
one_failed false n counted = let none : n ≡ 0 = counted in rw none refl
one_failed true n counted = go (nat_lt 0 n) refl
  where
    go : (test : Bool) → nat_lt 0 n ≡ test → test ≡ true
    go true is = refl
    go false is =
        let least = ltb-false 0 n is in
        let none : n ≡ 0 = omega (arith, least) in
        let few : n + 1 < 2 ^ 64 = omega (arith, none) in
        let more : 0 < n = counted.1 few in
        absurd (omega (arith, none, more))

closed_again : (n a m b : ℕ) → m ≡ given_more n a → b ≡ m - n → a + max 1 n < 2 ^ 64 → b ≡ a
closed_again zero a m b given back few = let first : m ≡ a = given in omega (arith, first, back)
closed_again (suc n) a m b given back few = let first : m ≡ min (a + suc n) (2 ^ 64 - 1) = given in omega (arith, first, back, few)

module _ {S : Type 0} (state : S → SourceState) where
  used_length : (firsts lasts : List S) (flags : List Bool) → EachUsed state firsts lasts flags → length lasts ≡ length firsts
  used_length [] [] [] each = refl
  used_length (first ∷ firsts) (last ∷ lasts) (failed ∷ flags) each = ap suc (used_length firsts lasts flags each.1)
  used_length firsts lasts flags each = absurd each

  used_failed : (firsts lasts : List S) (flags : List Bool) → AreFresh state firsts → EachUsed state firsts lasts flags → have_failed state lasts ≡ any_failed flags
  used_failed [] [] [] fresh each = refl
  used_failed (first ∷ firsts) (last ∷ lasts) (failed ∷ flags) fresh each =
      let one = one_failed failed (state last).faults (subst (λ (n : ℕ). Counted failed n (state last).faults) fresh.0 each.0.counted) in
      let others = used_failed firsts lasts flags fresh.1 each.1 in
      ap (λ (b : Bool). b || have_failed state lasts) one ∙ ap (λ (b : Bool). failed || b) others
  used_failed firsts lasts flags fresh each = absurd each

  used_none_failed : (firsts lasts : List S) (flags : List Bool) → AreFresh state firsts → NeverFail state firsts → EachUsed state firsts lasts flags → have_failed state lasts ≡ false
  used_none_failed [] [] [] fresh sure each = refl
  used_none_failed (first ∷ firsts) (last ∷ lasts) (failed ∷ flags) fresh sure each =
      let still : (state last).faults ≡ 0 = each.0.reliable sure.0 ∙ fresh.0 in
      rw (still, used_none_failed firsts lasts flags fresh.1 sure.1 each.1) refl
  used_none_failed firsts lasts flags fresh sure each = absurd each

  -- inputs gave sources, which were used, and taken back
  pub used_sources : (names : List (List ℕ)) (firsts lasts : List S) (failed : Bool) (a m b : InputsState) → GaveSources a m (length names) → AreNewSources state a names firsts →
      UsedSources state firsts lasts failed → TookSources state lasts m b → UsedInputs a b (length names) failed
  used_sources names firsts lasts failed a m b given new used took = record {
    files = took.files ∙ given.files;
    closed = λ few.
        closed_again (length names) a.open_sources m.open_sources b.open_sources given.are_open
        (took.are_closed ∙ ap (λ (n : ℕ). m.open_sources - n) (used_length firsts lasts used.flags used.each ∙ new_sources_length state a names firsts new)) few;
    gave = took.gave ∙ given.gave;
    counted =
        let same = used_failed firsts lasts used.flags fresh used.each ∙ sym used.any in
        subst (λ (f : Bool). Counted f a.faults b.faults) same (subst (λ (n : ℕ). Counted (have_failed state lasts) n b.faults) given.still took.counted);
    reliable = λ sure.
        let none = used_none_failed firsts lasts used.flags fresh (new_never_fail state a sure names firsts new) used.each in
        let still : b.faults ≡ m.faults = subst (λ (f : Bool). Counted f m.faults b.faults) none took.counted in
        (took.reliable (given.reliable sure) none, still ∙ given.still);
  }
    where
      fresh : AreFresh state firsts
      fresh = new_are_fresh state a names firsts new

  abbrev flags_of : List S → List Bool
  flags_of sources = map (λ (source : S). false) sources

  unused : (sources : List S) → EachUsed state sources sources (flags_of sources)
  unused [] = tt
  unused (source ∷ sources) = (record { counted = refl; reliable = λ sure. refl }, unused sources)

  none_of : (sources : List S) → false ≡ any_failed (flags_of sources)
  none_of [] = refl
  none_of (source ∷ sources) = none_of sources

  -- nothing was done to sources
  pub unused_sources : (sources : List S) → UsedSources state sources sources false
  unused_sources sources = record { flags = flags_of sources; each = unused sources; any = none_of sources }

-- all were opened
pub were_opened : {S : Type 0} (state : S → SourceState) (names : List (List ℕ)) (sources : List S) (a b : InputsState) (n : ℕ) → n ≡ length names → GaveSources a b n → AreNewSources state a names sources →
    WereOpened state names sources a b
were_opened state names sources a b n all given new = record {
  allows = all_there_opened a.files names (new_sources_there state a names sources new);
  gave = subst (GaveSources a b) all given;
  are_new = new;
}

-- ---- an opening that was refused

-- there was no memory for the sources
pub unopened_without_memory : (names : List (List ℕ)) (inputs : InputsState) → (length names ≡ 0 → ⊥) → WereNotOpened names inputs inputs refused.OutOfMemory
unopened_without_memory names inputs some =
    inr (record { failed = false; sources = 0; refusal_is = refl; allows = no_room inputs.files names some; used = inputs_unused inputs })

module _ {S : Type 0} (state : S → SourceState) (done : List (List ℕ)) (sources : List S) (a m c b : InputsState) (given : GaveSources a m (length done)) (new : AreNewSources state a done sources)
    (files : c.files ≡ m.files) (none : GaveNone m c) (reliable : m.never_fails → c.never_fails × Stays m.faults c.faults) (took : TookSources state sources c b) where
  none_of_them : have_failed state sources ≡ false
  none_of_them = none_failed state sources (new_are_fresh state a done sources new)

  still : b.faults ≡ c.faults
  still = subst (λ (f : Bool). Counted f c.faults b.faults) none_of_them took.counted

  -- those that were opened are closed again
  used_unopened : (failed : Bool) → Counted failed m.faults c.faults → UsedInputs a b (length done) failed
  used_unopened failed counted = record {
    files = took.files ∙ files ∙ given.files;
    closed = λ few.
        closed_again (length done) a.open_sources c.open_sources b.open_sources (none.0 ∙ given.are_open)
        (took.are_closed ∙ ap (λ (n : ℕ). c.open_sources - n) (new_sources_length state a done sources new)) few;
    gave = took.gave ∙ none.1 ∙ given.gave;
    counted = subst (λ (n : ℕ). Counted failed a.faults n) (sym still) (subst (λ (n : ℕ). Counted failed n c.faults) given.still counted);
    reliable = λ sure.
        let was = reliable (given.reliable sure) in
        (took.reliable was.0 none_of_them, still ∙ was.1 ∙ given.still);
  }

  module _ (name : List ℕ) (rest : List (List ℕ)) where
    abbrev names : List (List ℕ)
    names = done ++ name ∷ rest

    at_name : (before : ℕ) (way : Way ℕ (Unit {0})) → Allows (opening_all_plan a.files (name ∷ rest) (before + length done)) way → Allows (opening_all_plan a.files names before) way
    at_name before way goes = opened_first a.files done (name ∷ rest) before (before + length done) refl (new_sources_there state a done sources new) way goes

    memory : c.faults ≡ m.faults → WereNotOpened names a b refused.OutOfMemory
    memory still = inr (record {
      failed = false;
      sources = length done;
      refusal_is = refl;
      allows = λ before. at_name before (Interrupted (before + length done) OfMemory) (inl refl);
      used = used_unopened false still;
    })

    -- a name was missing, a call failed, or there was no memory
    pub not_opened : (X : Type 0) (fault : OpenFault) (refusal : Refusal) → IfSome m.files (λ all. IsErrOf {T = X} (Err fault) Missing ↔ IsNone (get all name)) → IsOpeningFault name fault refusal
        → m.faults ≤ c.faults → OpeningCounted {X = X} (Err fault) m.faults c.faults → WereNotOpened names a b refusal
    not_opened X Missing refusal only (inl is) later counted = subst (WereNotOpened names a b) (sym is) (inl (record {
      sources = length done;
      allows = λ before. at_name before (Stopped (before + length done) (Some (refused.Missing name))) (inr (false, subst (λ (f : Option Files). IfSome f (λ all. IsNone (get all name))) given.files (gone m.files only), refl));
      used = used_unopened false counted;
    }))
      where
        gone : (files : Option Files) → IfSome files (λ all. IsErrOf {T = X} (Err Missing) Missing ↔ IsNone (get all name)) → IfSome files (λ all. IsNone (get all name))
        gone None h = tt
        gone (Some all) h = h.0 refl
    not_opened X Missing refusal only (inr is) later counted = subst (WereNotOpened names a b) (sym is) (memory counted)
    not_opened X Failed refusal only is later counted = subst (WereNotOpened names a b) (sym is) (inr (record {
      failed = true;
      sources = length done;
      refusal_is = refl;
      allows = λ before. at_name before (Interrupted (before + length done) OfInputs) (inr (true, subst (λ (f : Option Files). IsThere f name) given.files (there m.files only), inl refl));
      used = used_unopened true (risen_counted m.faults c.faults later counted);
    }))
      where
        differs : ◌≡◌ {A = Result X OpenFault} (Err Failed) (Err Missing) → ⊥
        differs e = cc

        found : (o : Option (List ℕ)) → (IsNone o → ◌≡◌ {A = Result X OpenFault} (Err Failed) (Err Missing)) → IsSome o
        found None h = absurd (differs (h refl))
        found (Some octets) h = refl

        there : (files : Option Files) → IfSome files (λ all. IsErrOf {T = X} (Err Failed) Missing ↔ IsNone (get all name)) → IsThere files name
        there None h = tt
        there (Some all) h = found (get all name) h.1
    not_opened X OutOfMemory refusal only is later counted = subst (WereNotOpened names a b) (sym is) (memory counted)

-- ---- known inputs

if_there : (name : List ℕ) (sources : ℕ) (next : CommandPlan ℕ (Unit {0})) → IsDetermined next → (there : Bool) → IsDetermined (opened_if_there name sources next there)
if_there name sources next one true = one
if_there name sources next one false = tt

module _ (all : Files) where
  -- known inputs are opened in one way
  pub opening_all_determined : (names : List (List ℕ)) (sources : ℕ) → IsDetermined (opening_all_plan (Some all) names sources)
  opening_all_determined [] sources = tt
  opening_all_determined (name ∷ names) sources =
      (there_once all name, λ there h. if_there name sources (opening_all_plan (Some all) names (sources + 1)) (opening_all_determined names (sources + 1)) there)
