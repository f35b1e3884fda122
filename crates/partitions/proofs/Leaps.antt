-- Entries that are wanted, found by leaps.
use Rattle.std.proofs.Common.{◌≡◌, ◌<◌, ◌≤◌, List, [], ◌∷◌, ◌++◌, length, Bool, true, false, cond, sym, ◌∙◌, ap, subst, refl, arith}
use Rattle.std.specs.Prelude.{filter}
use Rattle.std.specs.Ordering.{is_le}
use Rattle.std.specs.List.{AllByRecursion}
use Rattle.std.specs.Map.{keys_of}
use Rattle.std.specs.BTreeMap.Range.{entries_from}
use Rattle.std.specs.Cmp.{IsTotalOrder}
use Rattle.std.specs.declared.cmp.Ordering.{Ordering}
use Rattle.std.specs.declared.cmp.Ordering.TheVariants.{Less, Equal, Greater}
use Rattle.std.proofs.lemmas.List.{append-nil, append_assoc}
use Rattle.block_map.specs.Rising.{IsRising, IsAbove, IsBelow}
use Rattle.block_map.proofs.Rising.{flip_less, flip_greater, above_left, below_all, below_same, rising_right}

module _ {K V : Type 0} (cmp : K → K → Ordering) where
  from_skip : (k : K) (lows es : List (K × V)) → IsAbove cmp k lows → entries_from (cmp k) (lows ++ es) ≡ entries_from (cmp k) es
  from_skip k [] es above = refl
  from_skip k (x ∷ lows) es above = rw above.0 (from_skip k lows es above.1)

  from_below : (k : K) (es : List (K × V)) → IsBelow cmp k es → entries_from (cmp k) es ≡ es
  from_below k [] below = refl
  from_below k (x ∷ es) below = rw below.0 (ap (λ (l : List (K × V)). x ∷ l) (from_below k es below.1))

  -- no entry from a key on is below it
  pub from_above : (k : K) (es : List (K × V)) → AllByRecursion (λ e. cmp k e.0 ≡ Greater → ⊥) (entries_from (cmp k) es)
  from_above k [] = tt
  from_above k (e ∷ es) = by (cmp k e.0) refl (from_above k es)
    where
      by : (r : Ordering) → cmp k e.0 ≡ r → AllByRecursion (λ x. cmp k x.0 ≡ Greater → ⊥) (entries_from (cmp k) es) →
          AllByRecursion (λ x. cmp k x.0 ≡ Greater → ⊥) (cond (is_le r) (e ∷ entries_from (cmp k) es) (entries_from (cmp k) es))
      by Less less later = (λ greater. cc, later)
      by Equal same later = (λ greater. cc, later)
      by Greater above later = later

module _ {K V : Type 0} {cmp : K → K → Ordering} (o : IsTotalOrder cmp) where
  -- the entries from a key on are the last ones
  from_last : (k : K) (es : List (K × V)) → IsRising cmp es → (low : List (K × V)) × (es ≡ low ++ entries_from (cmp k) es)
  from_last k [] up = ([], refl)
  from_last k (e ∷ es) up = by (cmp k e.0) refl (from_last k es up.1)
    where
      by : (r : Ordering) → cmp k e.0 ≡ r → (low : List (K × V)) × (es ≡ low ++ entries_from (cmp k) es) →
          (low : List (K × V)) × (e ∷ es ≡ low ++ cond (is_le r) (e ∷ entries_from (cmp k) es) (entries_from (cmp k) es))
      by Less less later = ([], ap (λ (l : List (K × V)). e ∷ l) (sym (from_below cmp k es (below_all o k e.0 es less up.0))))
      by Equal same later = ([], ap (λ (l : List (K × V)). e ∷ l) (sym (from_below cmp k es (below_same o k e.0 es same up.0))))
      by Greater above later = (e ∷ later.0, ap (λ (l : List (K × V)). e ∷ l) later.1)

  from_shorter : (k : K) (es : List (K × V)) → length (entries_from (cmp k) es) ≤ length es
  from_shorter k [] = omega arith
  from_shorter k (e ∷ es) = by (is_le (cmp k e.0)) (from_shorter k es)
    where
      by : (b : Bool) → length (entries_from (cmp k) es) ≤ length es → length (cond b (e ∷ entries_from (cmp k) es) (entries_from (cmp k) es)) ≤ length (e ∷ es)
      by true less = omega (arith, less)
      by false less = omega (arith, less)

-- a key isn't above itself
itself : {K : Type 0} {cmp : K → K → Ordering} → IsTotalOrder cmp → (k : K) → cmp k k ≡ Greater → ⊥
itself o k greater = let less = flip_greater o k k greater in cc

module _ {K V : Type 0} (test : K → Bool) where
  -- the keys that pass the test
  abbrev pub passing : List (K × V) → List K
  passing es = filter test (keys_of es)

  -- what is given so far and the entries left have all keys that pass, and what is left are the last entries
  pub record IsUnderWay (all entries : List (K × V)) (given : List K) : Type 0 where
    pub past : List (K × V)
    pub parted : all ≡ past ++ entries
    pub same : given ++ passing entries ≡ passing all

  pub begun : (all : List (K × V)) → IsUnderWay all all []
  begun all = record { past = []; parted = refl; same = refl }

  pub ended : (all : List (K × V)) (given : List K) → IsUnderWay all [] given → given ≡ passing all
  ended all given way = sym (append-nil given) ∙ way.same

  pub passing_first : (e : K × V) (es : List (K × V)) → test e.0 ≡ true → passing (e ∷ es) ≡ e.0 ∷ passing es
  passing_first e es passes = rw passes

  -- the first entry left passes, and is given
  pub given_one : (all es : List (K × V)) (e : K × V) (given : List K) → IsUnderWay all (e ∷ es) given → test e.0 ≡ true → IsUnderWay all es (given ++ e.0 ∷ [])
  given_one all es e given way passes = record {
    past = way.past ++ e ∷ [];
    parted = way.parted ∙ sym (append_assoc way.past (e ∷ []) es);
    same = append_assoc given (e.0 ∷ []) (passing es) ∙ ap (λ (l : List K). given ++ l) (sym (passing_first e es passes)) ∙ way.same;
  }

  module _ {cmp : K → K → Ordering} (o : IsTotalOrder cmp) where
    -- entries behind one key and below another, none of which passes
    passing_from : (k next : K) (es : List (K × V)) → IsBelow cmp k es → ((q : K) → (cmp k q ≡ Greater → ⊥) → cmp q next ≡ Less → test q ≡ false) →
        passing (entries_from (cmp next) es) ≡ passing es
    passing_from k next [] below none = refl
    passing_from k next (e ∷ es) below none = by (cmp next e.0) refl (passing_from k next es below.1 none)
      where
        kept : (b : Bool) → passing (entries_from (cmp next) es) ≡ passing es → cond b (e.0 ∷ passing (entries_from (cmp next) es)) (passing (entries_from (cmp next) es)) ≡ cond b (e.0 ∷ passing es) (passing es)
        kept true later = ap (λ (l : List K). e.0 ∷ l) later
        kept false later = later

        by : (r : Ordering) → cmp next e.0 ≡ r → passing (entries_from (cmp next) es) ≡ passing es → passing (cond (is_le r) (e ∷ entries_from (cmp next) es) (entries_from (cmp next) es)) ≡ passing (e ∷ es)
        by Less less later = kept (test e.0) later
        by Equal same later = kept (test e.0) later
        by Greater above later = let not : cmp k e.0 ≡ Greater → ⊥ = λ greater. (let less = below.0 in cc) in
            rw (none e.0 not (flip_greater o next e.0 above)) later

    -- entries below a key, none of which passes
    passing_upto : (next : K) (es : List (K × V)) → ((q : K) → cmp q next ≡ Less → test q ≡ false) → passing (entries_from (cmp next) es) ≡ passing es
    passing_upto next [] none = refl
    passing_upto next (e ∷ es) none = by (cmp next e.0) refl (passing_upto next es none)
      where
        kept : (b : Bool) → passing (entries_from (cmp next) es) ≡ passing es → cond b (e.0 ∷ passing (entries_from (cmp next) es)) (passing (entries_from (cmp next) es)) ≡ cond b (e.0 ∷ passing es) (passing es)
        kept true later = ap (λ (l : List K). e.0 ∷ l) later
        kept false later = later

        by : (r : Ordering) → cmp next e.0 ≡ r → passing (entries_from (cmp next) es) ≡ passing es → passing (cond (is_le r) (e ∷ entries_from (cmp next) es) (entries_from (cmp next) es)) ≡ passing (e ∷ es)
        by Less less later = kept (test e.0) later
        by Equal same later = kept (test e.0) later
        by Greater above later = rw (none e.0 (flip_greater o next e.0 above)) later

    -- a start at a key below which none passes
    pub begun_from : (start : K) (all : List (K × V)) → IsRising cmp all → ((q : K) → cmp q start ≡ Less → test q ≡ false) → IsUnderWay all (entries_from (cmp start) all) []
    begun_from start all up none = let last = from_last o start all up in record { past = last.0; parted = last.1; same = passing_upto start all none }

    passing_none : (k : K) (es : List (K × V)) → IsBelow cmp k es → ((q : K) → (cmp k q ≡ Greater → ⊥) → test q ≡ false) → passing es ≡ []
    passing_none k [] below none = refl
    passing_none k (e ∷ es) below none = let not : cmp k e.0 ≡ Greater → ⊥ = λ greater. (let less = below.0 in cc) in
        rw (none e.0 not) (passing_none k es below.1 none)

    -- no entry from the first one left on passes
    pub ended_early : (all es : List (K × V)) (e : K × V) (given : List K) → IsRising cmp all → IsUnderWay all (e ∷ es) given →
        ((q : K) → (cmp e.0 q ≡ Greater → ⊥) → test q ≡ false) → given ≡ passing all
    ended_early all es e given up way none =
        let left = rising_right cmp way.past (e ∷ es) (subst (IsRising cmp) way.parted up) in
        let nothing : passing (e ∷ es) ≡ [] = rw (none e.0 (itself o e.0)) (passing_none e.0 es left.0 none) in
        sym (append-nil given) ∙ ap (λ (l : List K). given ++ l) (sym nothing) ∙ way.same

    module _ (all es : List (K × V)) (e : K × V) (next : K) (up : IsRising cmp all) (past : List (K × V)) (parted : all ≡ past ++ e ∷ es) (less : cmp e.0 next ≡ Less) where
      above_first : cmp next e.0 ≡ Greater
      above_first = flip_less o e.0 next less

      leapt : entries_from (cmp next) all ≡ entries_from (cmp next) es
      leapt =
          let not : cmp next e.0 ≡ Less → ⊥ = λ l. (let greater = above_first in cc) in
          let above = above_left o next e past es (subst (IsRising cmp) parted up) not in
          ap (entries_from (cmp next)) parted ∙ from_skip cmp next past (e ∷ es) above ∙ rw above_first

      pub leap_shorter : length (entries_from (cmp next) all) < length (e ∷ es)
      leap_shorter = let shorter = from_shorter o next es in let same = ap length leapt in omega (arith, shorter, same)

    -- a leap to the first key behind that passes: what it passes over doesn't
    pub leap : (all es : List (K × V)) (e : K × V) (given : List K) (next : K) → IsRising cmp all → IsUnderWay all (e ∷ es) given → cmp e.0 next ≡ Less →
        ((q : K) → (cmp e.0 q ≡ Greater → ⊥) → cmp q next ≡ Less → test q ≡ false) → IsUnderWay all (entries_from (cmp next) all) given
    leap all es e given next up way less none =
        let left = rising_right cmp way.past (e ∷ es) (subst (IsRising cmp) way.parted up) in
        let to = leapt all es e next up way.past way.parted less in
        let last = from_last o next es left.1 in
        let here : passing (e ∷ es) ≡ passing es = rw (none e.0 (itself o e.0) less) in
        record {
          past = way.past ++ e ∷ last.0;
          parted = way.parted ∙ ap (λ (l : List (K × V)). way.past ++ e ∷ l) last.1 ∙ sym (append_assoc way.past (e ∷ last.0) (entries_from (cmp next) es)) ∙ ap (λ (l : List (K × V)). (way.past ++ e ∷ last.0) ++ l) (sym to);
          same = ap (λ (l : List K). given ++ l) (ap passing to ∙ passing_from e.0 next es left.0 none ∙ sym here) ∙ way.same;
        }
