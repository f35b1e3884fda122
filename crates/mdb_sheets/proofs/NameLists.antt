-- The names of a text, taken in one after the other.
use Rattle.std.proofs.Common.{◌≡◌, ◌⊎◌, ◌∙◌, ◌+◌, ◌-◌, ◌<◌, ◌≤◌, ℕ, suc, List, [], ◌∷◌, ◌++◌, map, take, drop, length, get_or, option_map, Bool, true, false, Option, Some, None, Bor, inl, inr, refl, ap, sym, subst, arith, append-nil, drop-drop, length-drop}
use Rattle.std.specs.Prelude.{◌==◌, if◌then◌else◌, slice_range}
use Rattle.std.proofs.lemmas.Bool.{cases_Bool}
use Rattle.std.proofs.lemmas.List.{drop_more}
use Rattle.std.proofs.lemmas.List.Splits.{length-slice_split}
use Rattle.std.specs.List.{onto_first}
use Rattle.std.specs.List.{slice_split}
use Rattle.text_forms.specs.Names.{is_name}
use Rattle.mdb_items.specs.Conditions.{all_of, put}
use Rattle.mdb_rules.proofs.Pieces.{joined, joined-none, joined-put}
use Rattle.mdb_sheets.specs.Asks.{listed_names, name_from}

-- the names of these parts, where each is one
abbrev pub names_in : List (List ℕ) → Option (List (List ℕ))
names_in parts = all_of (map name_from parts)

-- ---- what is made of a part

by_some : (b : Bool) (octets name : List ℕ) → ◌≡◌ {A = Option (List ℕ)} (Some name) (if b then Some octets else None) → (b ≡ true) × (name ≡ octets)
by_some true octets name e = (refl, cc)
by_some false octets name e = absurd (cc (e))

by_none : (b : Bool) (octets : List ℕ) → ◌≡◌ {A = Option (List ℕ)} None (if b then Some octets else None) → b ≡ false
by_none true octets e = absurd (cc (e))
by_none false octets e = refl

-- a name, which it is then
pub made_of : (octets part name : List ℕ) (made : Option (List ℕ)) → octets ≡ part → option_map (λ (n : List ℕ). n) made ≡ name_from octets → made ≡ Some name →
    (is_name part ≡ true) × (name ≡ part)
made_of octets part name made same is some =
    let e : ◌≡◌ {A = Option (List ℕ)} (Some name) (name_from octets) = sym (ap (λ (o : Option (List ℕ)). option_map (λ (n : List ℕ). n) o) some) ∙ is in
    let cases = by_some (is_name octets) octets name e in
    (subst (λ (o : List ℕ). is_name o ≡ true) same cases.0, cases.1 ∙ same)

-- or none, where it is none
pub none_of : (octets part : List ℕ) (made : Option (List ℕ)) → octets ≡ part → option_map (λ (n : List ℕ). n) made ≡ name_from octets → made ≡ None → is_name part ≡ false
none_of octets part made same is none =
    let e : ◌≡◌ {A = Option (List ℕ)} None (name_from octets) = sym (ap (λ (o : Option (List ℕ)). option_map (λ (n : List ℕ). n) o) none) ∙ is in
    subst (λ (o : List ℕ). is_name o ≡ false) same (by_none (is_name octets) octets e)

-- ---- the parts of a text

-- the part at a place is the first of those that are left
pub next_part : (parts : List (Bor (List ℕ))) (i : ℕ) (d : Bor (List ℕ)) → i < length parts →
    map (λ (part : Bor (List ℕ)). part.now) (drop i parts) ≡ (get_or parts i d).now ∷ map (λ (part : Bor (List ℕ)). part.now) (drop (i + 1) parts)
next_part parts i d within = ap (map (λ (part : Bor (List ℕ)). part.now)) (drop_more parts i d within)

-- before the first part
pub none_taken : (text : List ℕ) (parts : List (List ℕ)) → parts ≡ slice_split (λ b. b == 59) text → joined [] (names_in parts) ≡ listed_names text
unfolding listed_names
none_taken text parts is = joined-none (names_in parts) ∙ ap names_in is

-- a part that is a name
pub name_taken : (done : List (List ℕ)) (part : List ℕ) (later : List (List ℕ)) (whole : Option (List (List ℕ))) → is_name part ≡ true →
    joined done (names_in (part ∷ later)) ≡ whole → joined (done ++ part ∷ []) (names_in later) ≡ whole
name_taken done part later whole is all =
    let now : joined done (put (name_from part) (names_in later)) ≡ whole = all in
    let some : joined done (put (Some part) (names_in later)) ≡ whole = rw is at now in
    joined-put done part (names_in later) ∙ some

-- a part that is none
pub no_name_taken : (done : List (List ℕ)) (part : List ℕ) (later : List (List ℕ)) (whole : Option (List (List ℕ))) → is_name part ≡ false →
    joined done (names_in (part ∷ later)) ≡ whole → None ≡ whole
no_name_taken done part later whole is all =
    let now : joined done (put (name_from part) (names_in later)) ≡ whole = all in
    rw is at now

-- behind the last part
pub all_taken : (done : List (List ℕ)) (whole : Option (List (List ℕ))) → joined done (names_in []) ≡ whole → Some done ≡ whole
all_taken done whole all =
    let now : Some (done ++ []) ≡ whole = all in
    ap (λ (names : List (List ℕ)). Some names) (sym (append-nil done)) ∙ now

-- ---- where the parts stand

-- the parts that come behind one that ends at a place: none, or those of the text behind the `;` there
abbrev pub AreBehind : List ℕ → ℕ → List (List ℕ) → Type 0
AreBehind text end later = (later ≡ []) ⊎ ((end < length text) × (slice_split (λ b. b == 59) (drop (end + 1) text) ≡ later))

-- the first part of a text
pub record IsFirstPart (text part : List ℕ) (later : List (List ℕ)) : Type 0 where
  pub is : take (length part) text ≡ part
  pub within : length part ≤ length text
  pub behind : AreBehind text (length part) later

behind_more : (b : ℕ) (text : List ℕ) (n : ℕ) (later : List (List ℕ)) → AreBehind text n later → AreBehind (b ∷ text) (suc n) later
behind_more b text n later (inl none) = inl none
behind_more b text n later (inr some) =
    let more : suc (n + 1) ≡ suc n + 1 = omega arith in
    inr (omega (arith, some.0), subst (λ (k : ℕ). slice_split (λ c. c == 59) (drop k (b ∷ text)) ≡ later) more some.1)

with_front : (b : ℕ) (text part : List ℕ) (parts later : List (List ℕ)) → slice_split (λ c. c == 59) text ≡ parts → onto_first b parts ≡ part ∷ later →
    ((q : List ℕ) (qs : List (List ℕ)) → slice_split (λ c. c == 59) text ≡ q ∷ qs → IsFirstPart text q qs) → IsFirstPart (b ∷ text) part later
with_front b text part [] later is e next = absurd (omega (arith, length-slice_split (λ c. c == 59) text, ap length is))
with_front b text part (q ∷ qs) later is e next =
    let first = next q qs is in
    let same : part ≡ b ∷ q = cc in
    let rest : later ≡ qs = cc in
    rw (same, rest) (record { is = ap (λ (xs : List ℕ). b ∷ xs) first.is; within = omega (arith, first.within); behind = behind_more b text (length q) qs first.behind })

pub first_part : (text part : List ℕ) (later : List (List ℕ)) → slice_split (λ c. c == 59) text ≡ part ∷ later → IsFirstPart text part later
first_part [] part later e =
    let same : part ≡ [] = cc in
    let rest : later ≡ [] = cc in
    rw (same, rest) (record { is = refl; within = omega arith; behind = inl refl })
first_part (b ∷ text) part later e = elim (cases_Bool (b == 59)) [
  | inl is ↦
      let f : [] ∷ slice_split (λ c. c == 59) text ≡ part ∷ later = rw is at e in
      let same : part ≡ [] = cc in
      let rest : later ≡ slice_split (λ c. c == 59) text = cc in
      rw (same, rest) (record { is = refl; within = omega arith; behind = inr (omega arith, refl) })
  | inr isnt ↦
      let f : onto_first b (slice_split (λ c. c == 59) text) ≡ part ∷ later = rw isnt at e in
      with_front b text part (slice_split (λ c. c == 59) text) later refl f (first_part text)
]

-- the parts that are left from a place of the text on
abbrev pub AreLeft : List ℕ → ℕ → List (List ℕ) → Type 0
AreLeft text start left = (left ≡ []) ⊎ ((start ≤ length text) × (slice_split (λ b. b == 59) (drop start text) ≡ left))

-- the next of them stands there
pub record StandsAt (text : List ℕ) (start : ℕ) (part : List ℕ) (later : List (List ℕ)) : Type 0 where
  pub is : slice_range text start (start + length part) ≡ part
  pub within : start + length part ≤ length text
  pub left : AreLeft text (start + length part + 1) later

left_of : (text : List ℕ) (start n : ℕ) (later : List (List ℕ)) → start ≤ length text → AreBehind (drop start text) n later → AreLeft text (start + n + 1) later
left_of text start n later within (inl none) = inl none
left_of text start n later within (inr some) =
    let on : start + (n + 1) ≡ start + n + 1 = omega arith in
    let there : drop (n + 1) (drop start text) ≡ drop (start + n + 1) text = drop-drop (n + 1) start text ∙ ap (λ (k : ℕ). drop k text) on in
    inr (omega (arith, some.0, length-drop start text), subst (λ (l : List ℕ). slice_split (λ b. b == 59) l ≡ later) there some.1)

pub stands_at : (text : List ℕ) (start : ℕ) (part : List ℕ) (later : List (List ℕ)) → AreLeft text start (part ∷ later) → StandsAt text start part later
stands_at text start part later (inl none) = absurd (cc)
stands_at text start part later (inr some) =
    let first = first_part (drop start text) part later some.1 in
    let cut : start + length part - start ≡ length part = omega arith in
    record {
      is = ap (λ (k : ℕ). take k (drop start text)) cut ∙ first.is;
      within = omega (arith, first.within, some.0, length-drop start text);
      left = left_of text start (length part) later some.0 first.behind;
    }

pub next_stands : (text : List ℕ) (start : ℕ) (parts : List (Bor (List ℕ))) (i : ℕ) (d : Bor (List ℕ)) → i < length parts →
    AreLeft text start (map (λ (part : Bor (List ℕ)). part.now) (drop i parts)) → StandsAt text start (get_or parts i d).now (map (λ (part : Bor (List ℕ)). part.now) (drop (i + 1) parts))
next_stands text start parts i d within left = stands_at text start (get_or parts i d).now (map (λ (part : Bor (List ℕ)). part.now) (drop (i + 1) parts))
    (subst (AreLeft text start) (next_part parts i d within) left)
