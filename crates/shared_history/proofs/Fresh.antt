-- What a batch adds to a history that others add to as well, for any kind of item.
use Rattle.std.proofs.Common.{◌≡◌, ◌⊎◌, inl, inr, List, [], ◌∷◌, ◌++◌, Bool, true, false, ◌||◌, refl, sym, ap, subst, ◌∙◌, true≢false, append_assoc, append-nil}
use Rattle.std.specs.Prelude.{if◌then◌else◌}
use Rattle.std.specs.List.{list_any}
use mathlib.Core.List.{IsPrefix}
use Rattle.shared_history.specs.Sent.{AreSomeOf}

-- a relation of likeness
pub record IsLikeness {I : Type 0} (same : I → I → Bool) : Type 0 where
  pub back : (a b : I) → same a b ≡ true → same b a ≡ true
  pub each_other : (x a b : I) → same x a ≡ true → same x b ≡ true → same a b ≡ true

module _ {I : Type 0} (same : I → I → Bool) where
  abbrev pub with_item : List I → I → List I
  with_item history x = if list_any (same x) history then history else history ++ x ∷ []

  abbrev pub ingested : List I → List I → List I
  ingested history [] = history
  ingested history (x ∷ xs) = ingested (with_item history x) xs

  abbrev pub fresh_of : List I → List I → List I
  fresh_of history [] = []
  fresh_of history (x ∷ xs) = if list_any (same x) history then fresh_of history xs else x ∷ fresh_of (history ++ x ∷ []) xs

  -- what is like an item of the second list is like one of the first
  abbrev pub Covers : List I → List I → Type 0
  Covers whole some = (x : I) → list_any (same x) some ≡ true → list_any (same x) whole ≡ true

  -- what was put is some of what is new of the arrivals by themselves, and these are covered
  pub record HasSentItems (arrived seen own : List I) : Type 0 where
    pub some : AreSomeOf own (ingested [] arrived)
    pub kept : Covers seen arrived

pub some_itself : {I : Type 0} (xs : List I) → AreSomeOf xs xs
some_itself [] = refl
some_itself (x ∷ xs) = inr (xs, refl, some_itself xs)

pub some_append : {I : Type 0} (xs xs' ys ys' : List I) → AreSomeOf xs ys → AreSomeOf xs' ys' → AreSomeOf (xs ++ xs') (ys ++ ys')
some_append {I = I} xs xs' [] ys' a b = subst (λ (l : List I). AreSomeOf (l ++ xs') ys') (sym a) b
some_append xs xs' (y ∷ ys) ys' (inl a) b = inl (some_append xs xs' ys ys' a b)
some_append {I = I} xs xs' (y ∷ ys) ys' (inr a) b = inr (a.0 ++ xs', ap (λ (l : List I). l ++ xs') a.1, some_append a.0 xs' ys ys' a.2 b)

pub or_cases : (a b : Bool) → (a || b) ≡ true → (a ≡ true) ⊎ (b ≡ true)
or_cases true b e = inl refl
or_cases false b e = inr e

pub or_left : (a b : Bool) → a ≡ true → (a || b) ≡ true
or_left true b e = refl
or_left false b e = absurd cc

pub or_right : (a b : Bool) → b ≡ true → (a || b) ≡ true
or_right true b e = refl
or_right false b e = e

module _ {I : Type 0} (same : I → I → Bool) (like : IsLikeness same) where
  pub any_append : (x : I) (xs ys : List I) → list_any (same x) (xs ++ ys) ≡ true → (list_any (same x) xs ≡ true) ⊎ (list_any (same x) ys ≡ true)
  any_append x [] ys e = inr e
  any_append x (z ∷ xs) ys e = go (or_cases (same x z) (list_any (same x) (xs ++ ys)) e) (any_append x xs ys)
    where
      go : (same x z ≡ true) ⊎ (list_any (same x) (xs ++ ys) ≡ true) → (list_any (same x) (xs ++ ys) ≡ true → (list_any (same x) xs ≡ true) ⊎ (list_any (same x) ys ≡ true)) → (list_any (same x) (z ∷ xs) ≡ true) ⊎ (list_any (same x) ys ≡ true)
      go (inl h) deep = inl (or_left (same x z) (list_any (same x) xs) h)
      go (inr h) deep = deeper (deep h)
        where
          deeper : (list_any (same x) xs ≡ true) ⊎ (list_any (same x) ys ≡ true) → (list_any (same x) (z ∷ xs) ≡ true) ⊎ (list_any (same x) ys ≡ true)
          deeper (inl k) = inl (or_right (same x z) (list_any (same x) xs) k)
          deeper (inr k) = inr k

  pub any_left : (x : I) (xs ys : List I) → list_any (same x) xs ≡ true → list_any (same x) (xs ++ ys) ≡ true
  any_left x [] ys e = absurd cc
  any_left x (z ∷ xs) ys e = go (or_cases (same x z) (list_any (same x) xs) e) (any_left x xs ys)
    where
      go : (same x z ≡ true) ⊎ (list_any (same x) xs ≡ true) → (list_any (same x) xs ≡ true → list_any (same x) (xs ++ ys) ≡ true) → list_any (same x) (z ∷ (xs ++ ys)) ≡ true
      go (inl h) deep = or_left (same x z) (list_any (same x) (xs ++ ys)) h
      go (inr h) deep = or_right (same x z) (list_any (same x) (xs ++ ys)) (deep h)

  pub any_right : (x : I) (xs ys : List I) → list_any (same x) ys ≡ true → list_any (same x) (xs ++ ys) ≡ true
  any_right x [] ys e = e
  any_right x (z ∷ xs) ys e = or_right (same x z) (list_any (same x) (xs ++ ys)) (any_right x xs ys e)

  -- what is like x is like what x is like
  pub any_like : (x z : I) (xs : List I) → same x z ≡ true → list_any (same x) xs ≡ true → list_any (same z) xs ≡ true
  any_like x z [] s e = absurd cc
  any_like x z (y ∷ xs) s e = go (or_cases (same x y) (list_any (same x) xs) e) (any_like x z xs s)
    where
      go : (same x y ≡ true) ⊎ (list_any (same x) xs ≡ true) → (list_any (same x) xs ≡ true → list_any (same z) xs ≡ true) → list_any (same z) (y ∷ xs) ≡ true
      go (inl h) deep = or_left (same z y) (list_any (same z) xs) (like.each_other x z y s h)
      go (inr h) deep = or_right (same z y) (list_any (same z) xs) (deep h)

  pub one_only : (z x : I) → list_any (same z) (x ∷ []) ≡ true → same z x ≡ true
  one_only z x e = go (same z x) e
    where
      go : (b : Bool) → (b || false) ≡ true → b ≡ true
      go true h = refl
      go false h = absurd cc

  pub itself : (z x : I) → same z x ≡ true → list_any (same z) (x ∷ []) ≡ true
  itself z x e = or_left (same z x) false e

  pub covers_skip : (whole some : List I) (x : I) → Covers same whole some → list_any (same x) whole ≡ true → Covers same whole (some ++ x ∷ [])
  covers_skip whole some x c here z e = go (any_append z some (x ∷ []) e)
    where
      go : (list_any (same z) some ≡ true) ⊎ (list_any (same z) (x ∷ []) ≡ true) → list_any (same z) whole ≡ true
      go (inl h) = c z h
      go (inr h) = any_like x z whole (like.back z x (one_only z x h)) here

  pub covers_both : (whole some : List I) (x : I) → Covers same whole some → Covers same (whole ++ x ∷ []) (some ++ x ∷ [])
  covers_both whole some x c z e = go (any_append z some (x ∷ []) e)
    where
      go : (list_any (same z) some ≡ true) ⊎ (list_any (same z) (x ∷ []) ≡ true) → list_any (same z) (whole ++ x ∷ []) ≡ true
      go (inl h) = any_left z whole (x ∷ []) (c z h)
      go (inr h) = any_right z whole (x ∷ []) h

  -- what a longer history takes of a batch is some of what a shorter one takes
  pub fresh_is_some : (xs whole some : List I) → Covers same whole some → AreSomeOf (fresh_of same whole xs) (fresh_of same some xs)
  fresh_is_some [] whole some c = refl
  fresh_is_some (x ∷ xs) whole some c = go (list_any (same x) some) (list_any (same x) whole) refl refl (fresh_is_some xs)
    where
      go : (a b : Bool) → list_any (same x) some ≡ a → list_any (same x) whole ≡ b → ((w s : List I) → Covers same w s → AreSomeOf (fresh_of same w xs) (fresh_of same s xs)) →
          AreSomeOf (if b then fresh_of same whole xs else x ∷ fresh_of same (whole ++ x ∷ []) xs) (if a then fresh_of same some xs else x ∷ fresh_of same (some ++ x ∷ []) xs)
      go true true p q deep = deep whole some c
      go true false p q deep = absurd (true≢false (sym (c x p) ∙ q))
      go false true p q deep = inl (deep whole (some ++ x ∷ []) (covers_skip whole some x c q))
      go false false p q deep = inr (fresh_of same (whole ++ x ∷ []) xs, refl, deep (whole ++ x ∷ []) (some ++ x ∷ []) (covers_both whole some x c))

  pub ingested_fresh : (whole xs : List I) → ingested same whole xs ≡ whole ++ fresh_of same whole xs
  ingested_fresh whole [] = sym (append-nil whole)
  ingested_fresh whole (x ∷ xs) = go (list_any (same x) whole) (λ h. ingested_fresh h xs)
    where
      go : (b : Bool) → ((h : List I) → ingested same h xs ≡ h ++ fresh_of same h xs) → ingested same (if b then whole else whole ++ x ∷ []) xs ≡ whole ++ (if b then fresh_of same whole xs else x ∷ fresh_of same (whole ++ x ∷ []) xs)
      go true deep = deep whole
      go false deep = deep (whole ++ x ∷ []) ∙ append_assoc whole (x ∷ []) (fresh_of same (whole ++ x ∷ []) xs)

  pub ingested_append : (whole xs ys : List I) → ingested same whole (xs ++ ys) ≡ ingested same (ingested same whole xs) ys
  ingested_append whole [] ys = refl
  ingested_append whole (x ∷ xs) ys = ingested_append (with_item same whole x) xs ys

  any_grows : (z : I) (whole xs : List I) → list_any (same z) whole ≡ true → list_any (same z) (ingested same whole xs) ≡ true
  any_grows z whole xs e = subst (λ (l : List I). list_any (same z) l ≡ true) (sym (ingested_fresh whole xs)) (any_left z whole (fresh_of same whole xs) e)

  -- each item of a batch is like one of the history after it
  pub covers_batch : (whole xs : List I) → Covers same (ingested same whole xs) xs
  covers_batch whole [] z e = absurd cc
  covers_batch whole (x ∷ xs) z e = go (or_cases (same z x) (list_any (same z) xs) e) (covers_batch (with_item same whole x) xs z)
    where
      here : (b : Bool) → list_any (same x) whole ≡ b → same z x ≡ true → list_any (same z) (if b then whole else whole ++ x ∷ []) ≡ true
      here true p s = any_like x z whole (like.back z x s) p
      here false p s = any_right z whole (x ∷ []) (itself z x s)

      go : (same z x ≡ true) ⊎ (list_any (same z) xs ≡ true) → (list_any (same z) xs ≡ true → list_any (same z) (ingested same (with_item same whole x) xs) ≡ true) → list_any (same z) (ingested same (with_item same whole x) xs) ≡ true
      go (inl h) deep = any_grows z (with_item same whole x) xs (here (list_any (same x) whole) refl h)
      go (inr h) deep = deep h

  -- what is like an item after a batch is like one before it or of it
  from_batch : (whole xs : List I) (z : I) → list_any (same z) (ingested same whole xs) ≡ true → (list_any (same z) whole ≡ true) ⊎ (list_any (same z) xs ≡ true)
  from_batch whole [] z e = inl e
  from_batch whole (x ∷ xs) z e = go (from_batch (with_item same whole x) xs z e)
    where
      split : (b : Bool) → list_any (same z) (if b then whole else whole ++ x ∷ []) ≡ true → (list_any (same z) whole ≡ true) ⊎ (same z x ≡ true)
      split true h = inl h
      split false h = cases (any_append z whole (x ∷ []) h)
        where
          cases : (list_any (same z) whole ≡ true) ⊎ (list_any (same z) (x ∷ []) ≡ true) → (list_any (same z) whole ≡ true) ⊎ (same z x ≡ true)
          cases (inl k) = inl k
          cases (inr k) = inr (one_only z x k)

      late : (list_any (same z) whole ≡ true) ⊎ (same z x ≡ true) → (list_any (same z) whole ≡ true) ⊎ (list_any (same z) (x ∷ xs) ≡ true)
      late (inl k) = inl k
      late (inr k) = inr (or_left (same z x) (list_any (same z) xs) k)

      go : (list_any (same z) (with_item same whole x) ≡ true) ⊎ (list_any (same z) xs ≡ true) → (list_any (same z) whole ≡ true) ⊎ (list_any (same z) (x ∷ xs) ≡ true)
      go (inl h) = late (split (list_any (same x) whole) h)
      go (inr h) = inr (or_right (same z x) (list_any (same z) xs) h)

  firsts_covered : (xs : List I) → Covers same xs (ingested same [] xs)
  firsts_covered xs z e = go (from_batch [] xs z e)
    where
      go : (list_any (same z) [] ≡ true) ⊎ (list_any (same z) xs ≡ true) → list_any (same z) xs ≡ true
      go (inl h) = absurd cc
      go (inr h) = h

  pub batch_goes_on : (arrived seen own now batch : List I) → HasSentItems same arrived seen own → IsPrefix seen now → HasSentItems same (arrived ++ batch) (ingested same now batch) (own ++ fresh_of same now batch)
  batch_goes_on arrived seen own now batch sent begins = record { some = some; kept = kept }
    where
      now_covers : Covers same now arrived
      now_covers z e = subst (λ (l : List I). list_any (same z) l ≡ true) begins.1 (any_left z seen begins.0 (sent.kept z e))

      is : ingested same [] (arrived ++ batch) ≡ ingested same [] arrived ++ fresh_of same (ingested same [] arrived) batch
      is = ingested_append [] arrived batch ∙ ingested_fresh (ingested same [] arrived) batch

      some : AreSomeOf (own ++ fresh_of same now batch) (ingested same [] (arrived ++ batch))
      some = subst (λ (l : List I). AreSomeOf (own ++ fresh_of same now batch) l) (sym is)
          (some_append own (fresh_of same now batch) (ingested same [] arrived) (fresh_of same (ingested same [] arrived) batch) sent.some
          (fresh_is_some batch now (ingested same [] arrived) (λ z e. now_covers z (firsts_covered arrived z e))))

      kept : Covers same (ingested same now batch) (arrived ++ batch)
      kept z e = go (any_append z arrived batch e)
        where
          go : (list_any (same z) arrived ≡ true) ⊎ (list_any (same z) batch ≡ true) → list_any (same z) (ingested same now batch) ≡ true
          go (inl h) = any_grows z now batch (now_covers z h)
          go (inr h) = covers_batch now batch z h
