-- Answers and places in general.
use Rattle.std.proofs.Common.{◌≡◌, ℕ, zero, suc, ◌+◌, ◌<◌, ◌≤◌, List, [], ◌∷◌, ◌++◌, length, map, take, drop, get_or, append_assoc, Bool, true, false, Option, Some, None, Result, Ok, Err, refl, sym, ◌∙◌, ap, subst, arith}
use Rattle.std.specs.Prelude.{OnOk, IfOk, MatchResult, IfSome, IfNone, replicate, filter, if◌then◌else◌}
use Rattle.std.specs.List.{AllByRecursion, flat_map}
use Rattle.std.proofs.Math.Seq.{take-suc}
use Rattle.std.proofs.lemmas.List.{take_all, append-nil, map-append}

pub on_ok : {T E : Type 0} (r : Result T E) (P Q : Type 0) → (P → Q) → OnOk r P → OnOk r Q
on_ok (Ok x) P Q f p = f p
on_ok (Err e) P Q f p = p

pub on_both : {T E : Type 0} (r : Result T E) (P Q R : Type 0) → (P → Q → R) → OnOk r P → OnOk r Q → OnOk r R
on_both (Ok x) P Q R f p q = f p q
on_both (Err e) P Q R f p q = p

-- what is known whatever the answer
pub match_known : {T E : Type 0} (r : Result T E) (B : Type 0) (Q : E → Type 0) → B → MatchResult r (λ x. B) (λ e. Q e → B)
match_known (Ok x) B Q known = known
match_known (Err e) B Q known = λ q. known

pub if_ok : {T E : Type 0} (r : Result T E) (P Q : T → Type 0) → ((x : T) → P x → Q x) → IfOk r P → IfOk r Q
if_ok (Ok x) P Q f p = f x p
if_ok (Err e) P Q f p = p

pub if_ok_both : {T E : Type 0} (r : Result T E) (P Q R : T → Type 0) → ((x : T) → P x → Q x → R x) → IfOk r P → IfOk r Q → IfOk r R
if_ok_both (Ok x) P Q R f p q = f x p q
if_ok_both (Err e) P Q R f p q = p

pub if_some : {T : Type 0} (o : Option T) (P Q : T → Type 0) → ((x : T) → P x → Q x) → IfSome o P → IfSome o Q
if_some (Some x) P Q f p = f x p
if_some None P Q f p = p

pub if_none : {T : Type 0} (o : Option T) (P Q : Type 0) → (P → Q) → IfNone o P → IfNone o Q
if_none (Some x) P Q f p = p
if_none None P Q f p = f p

-- within a list the default is never given
pub default_free : {X : Type 0} (xs : List X) (i : ℕ) (d e : X) → i < length xs → get_or xs i d ≡ get_or xs i e
default_free [] i d e within = absurd (omega (arith, within))
default_free (x ∷ xs) zero d e within = refl
default_free (x ∷ xs) (suc i) d e within = default_free xs i d e (omega (arith, within))

-- a whole list that was written back
pub written_back : {X : Type 0} (n : ℕ) (items now : List X) → n ≡ length items → length now ≡ length items → take n (now ++ drop (length now) items) ≡ now
written_back {X} n items now same long =
    ap (λ (l : List X). take n (now ++ l)) (drop_all (length now) items (omega (arith, long))) ∙ ap (take n) (append-nil now) ∙ take_all n now (omega (arith, same, long))
  where
    drop_all : (k : ℕ) (xs : List X) → length xs ≤ k → drop k xs ≡ []
    drop_all zero [] le = refl
    drop_all (suc k) [] le = refl
    drop_all zero (x ∷ xs) le = absurd (omega (arith, le))
    drop_all (suc k) (x ∷ xs) le = drop_all k xs (omega (arith, le))

-- one copy more
pub replicate_more : {X : Type 0} (n : ℕ) (x : X) → replicate (n + 1) x ≡ replicate n x ++ x ∷ []
replicate_more {X} n x = let next : n + 1 ≡ suc n = omega arith in ap (λ (k : ℕ). replicate k x) next ∙ behind n
  where
    behind : (k : ℕ) → replicate (suc k) x ≡ replicate k x ++ x ∷ []
    behind zero = refl
    behind (suc k) = ap (λ (l : List X). x ∷ l) (behind k)

pub all_take_more : {X : Type 0} (P : X → Type 0) (xs : List X) (i : ℕ) (x : X) → i < length xs → x ≡ get_or xs i x → AllByRecursion P (take i xs) → P x → AllByRecursion P (take (i + 1) xs)
all_take_more {X} P xs i x within is all here =
    let next : i + 1 ≡ suc i = omega arith in
    subst (AllByRecursion P) (sym (ap (λ (n : ℕ). take n xs) next ∙ take-suc xs i x within)) (push (take i xs) all (subst P is here))
  where
    push : {y : X} (ys : List X) → AllByRecursion P ys → P y → AllByRecursion P (ys ++ y ∷ [])
    push [] all last = (last, tt)
    push (z ∷ ys) all last = (all.0, push ys all.1 last)

pub few_filter : {X : Type 0} (p : X → Bool) (xs : List X) → length (filter p xs) ≤ length xs
few_filter p [] = omega arith
few_filter {X} p (x ∷ xs) = go (p x) (few_filter p xs)
  where
    go : (b : Bool) → length (filter p xs) ≤ length xs → length (if b then x ∷ filter p xs else filter p xs) ≤ length (x ∷ xs)
    go true le = omega (arith, le)
    go false le = omega (arith, le)

pub ended : {X : Type 0} (done rest all : List X) → done ++ rest ≡ all → rest ≡ [] → done ≡ all
ended {X} done rest all is none = sym (append-nil done) ∙ ap (λ (l : List X). done ++ l) (sym none) ∙ is

pub map_more : {Y : Type 0} (f : ℕ → Y) (xs : List ℕ) (i : ℕ) → i < length xs → map f (take (i + 1) xs) ≡ map f (take i xs) ++ f (get_or xs i 0) ∷ []
map_more f xs i within =
    let next : i + 1 ≡ suc i = omega arith in
    ap (λ (n : ℕ). map f (take n xs)) next ∙ ap (map f) (take-suc xs i 0 within) ∙ map-append f (take i xs) (get_or xs i 0 ∷ [])

flat_push : {X Y : Type 0} (f : X → List Y) (xs : List X) (x : X) → flat_map f (xs ++ x ∷ []) ≡ flat_map f xs ++ f x
flat_push f [] x = append-nil (f x)
flat_push {X} {Y} f (y ∷ xs) x = ap (λ (l : List Y). f y ++ l) (flat_push f xs x) ∙ sym (append_assoc (f y) (flat_map f xs) (f x))

pub flat_more : {X Y : Type 0} (f : X → List Y) (xs : List X) (i : ℕ) (x : X) → i < length xs → x ≡ get_or xs i x → flat_map f (take (i + 1) xs) ≡ flat_map f (take i xs) ++ f x
flat_more {X} {Y} f xs i x within is =
    let next : i + 1 ≡ suc i = omega arith in
    ap (λ (n : ℕ). flat_map f (take n xs)) next ∙ ap (flat_map f) (take-suc xs i x within) ∙ flat_push f (take i xs) (get_or xs i x) ∙ ap (λ (y : X). flat_map f (take i xs) ++ f y) (sym is)
