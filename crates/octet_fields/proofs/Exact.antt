-- Exactness of a whole from that of its parts, so that the proof for a record is one term.
use Rattle.std.proofs.Common.{◌≡◌, ℕ, zero, suc, ◌+◌, ◌≤◌, Bool, true, false, cond, ltb, eqb, List, [], ◌∷◌, ◌++◌, length, take, drop, Option, Some, None, refl, sym, ap, subst, ◌∙◌, append_assoc, arith}
use Rattle.std.specs.List.{flat_map, AllByRecursion}
use Rattle.std.proofs.lemmas.Bool.{ltb-false, le-ltb, eqb-true}
use Rattle.std.proofs.lemmas.List.{append-nil, nil_from_length, get_or-append-add, take_at, drop_at, take-append-drop, length-append, length-take}
use Rattle.octet_fields.specs.Reading.{Reader, ◌>>=◌, octets_at, rest_at, nothing_at, both_at, tested_at, mapped_at, decoded_at, times_at, whole}
use Rattle.octet_fields.specs.Exact.{IsOctets, IsExactBefore, IsExact, IsExactAtEnd}

-- ---- steps of a reader

pub bind_some : {A B : Type 0} (r : Option A) (f : A → Option B) (y : B) → (r >>= f) ≡ Some y → (x : A) × (r ≡ Some x) × (f x ≡ Some y)
bind_some (Some x) f y e = (x, refl, e)
bind_some None f y e = absurd cc

pub some_is : {A : Type 0} (x y : A) → ◌≡◌ {A = Option A} (Some x) (Some y) → x ≡ y
some_is x y e = cc

pub test_some : {A : Type 0} (b : Bool) (x : Option A) (y : A) → cond b x None ≡ Some y → (b ≡ true) × (x ≡ Some y)
test_some true x y e = (refl, e)
test_some false x y e = absurd cc

pub guard_some : {A : Type 0} (b : Bool) (x : Option A) (y : A) → cond b None x ≡ Some y → (b ≡ false) × (x ≡ Some y)
guard_some true x y e = absurd cc
guard_some false x y e = (refl, e)

pub rest_octets : (front rest : List ℕ) → IsOctets (front ++ rest) → IsOctets rest
rest_octets front rest are i = rw (← get_or-append-add front rest i 0) (are (length front + i))

-- ---- what follows from exactness

-- No spelling begins another.
pub one_form : {A : Type 0} {Fits : A → Type 0} {spell : A → List ℕ} {read : Reader A} → IsExact Fits spell read →
    (a b : A) (x y : List ℕ) → Fits a → Fits b → spell a ++ x ≡ spell b ++ y → (a ≡ b) × (x ≡ y)
one_form {read = read} exact a b x y fa fb e =
    let same : ◌≡◌ {A = Option (_ × List ℕ)} (Some (a, x)) (Some (b, y)) = sym (exact.again a x tt fa) ∙ ap read e ∙ exact.again b y tt fb in
    let p = some_is (a, x) (b, y) same in
    (ap (λ q. q.0) p, ap (λ q. q.1) p)

-- Exact whatever follows, so exact at the end.
pub at_end : {A : Type 0} {Fits : A → Type 0} {spell : A → List ℕ} {read : Reader A} → IsExact Fits spell read → IsExactAtEnd Fits spell read
at_end exact = record { takes = exact.takes; again = λ a rest no fits. exact.again a rest tt fits }

module _ {A : Type 0} {MayFollow : List ℕ → Type 0} {Fits : A → Type 0} {spell : A → List ℕ} {read : Reader A} (exact : IsExactBefore MayFollow Fits spell read) where
  -- What all of the octets spell.
  pub whole_takes : (octets : List ℕ) (a : A) → IsOctets octets → whole read octets ≡ Some a → Fits a × (octets ≡ spell a)
  whole_takes octets a are e =
      let p = bind_some (read octets) (λ x. cond (eqb (length x.1) 0) (Some x.0) None) a e in
      let g = test_some (eqb (length p.0.1) 0) (Some p.0.0) a p.2 in
      let t = exact.takes octets p.0 are p.1 in
      let end : p.0.1 ≡ [] = nil_from_length p.0.1 (eqb-true _ _ g.0) in
      subst (λ (y : A). Fits y × (octets ≡ spell y)) (some_is p.0.0 a g.1) (t.1, t.0 ∙ ap (λ (rest : List ℕ). spell p.0.0 ++ rest) end ∙ append-nil (spell p.0.0))

  pub whole_again : (a : A) → MayFollow [] → Fits a → whole read (spell a) ≡ Some a
  whole_again a may fits = ap (λ (octets : List ℕ). whole read octets) (sym (append-nil (spell a))) ∙ rw (exact.again a [] may fits) refl

  -- Other words for what fits, and for the spelling.
  pub IsExact-as : (G : A → Type 0) (t : A → List ℕ) → ((a : A) → Fits a → G a × (spell a ≡ t a)) → ((a : A) → G a → Fits a) → IsExactBefore MayFollow G t read
  IsExact-as G t there here = record {
    takes = λ octets x are e.
        let u = exact.takes octets x are e in
        let v = there x.0 u.1 in
        (u.0 ∙ ap (λ (w : List ℕ). w ++ x.1) v.1, v.0);
    again = λ a rest may fits. ap (λ (w : List ℕ). read (w ++ rest)) (sym (there a (here a fits)).1) ∙ exact.again a rest may (here a fits);
  }

  pub IsExact-tested : (test : A → Bool) → IsExactBefore MayFollow (λ (a : A). Fits a × (test a ≡ true)) spell (tested_at test read)
  IsExact-tested test = record {
    takes = λ octets x are e.
        let p = bind_some (read octets) (λ a. cond (test a.0) (Some a) None) x e in
        let g = test_some (test p.0.0) (Some p.0) x p.2 in
        let t = exact.takes octets p.0 are p.1 in
        subst (λ (y : A × List ℕ). (octets ≡ spell y.0 ++ y.1) × (Fits y.0 × (test y.0 ≡ true))) (some_is p.0 x g.1) (t.0, (t.1, g.0));
    again = λ a rest may fits. rw (exact.again a rest may fits.0, fits.1) refl;
  }

  -- view and back undo each other: what is seen so is spelled as what it is seen of.
  pub IsExact-mapped : {B : Type 0} (G : B → Type 0) (view : A → B) (back : B → A) →
      ((a : A) → Fits a → G (view a) × (back (view a) ≡ a)) → ((b : B) → G b → Fits (back b) × (view (back b) ≡ b)) → IsExactBefore MayFollow G (λ b. spell (back b)) (mapped_at view read)
  IsExact-mapped {B} G view back there here = record {
    takes = λ octets x are e.
        let p = bind_some (read octets) (λ a. Some (view a.0, a.1)) x e in
        let u = exact.takes octets p.0 are p.1 in
        let v = there p.0.0 u.1 in
        let made : B × List ℕ = (view p.0.0, p.0.1) in
        subst (λ (y : B × List ℕ). (octets ≡ spell (back y.0) ++ y.1) × G y.0) (some_is made x p.2) (u.0 ∙ ap (λ (a : A). spell a ++ p.0.1) (sym v.1), v.0);
    again = λ b rest may fits. let h = here b fits in rw (exact.again (back b) rest may h.0, h.1) refl;
  }

  -- The same where not each value is seen as one.
  pub IsExact-decoded : {B : Type 0} (G : B → Type 0) (view : A → Option B) (back : B → A) →
      ((a : A) (b : B) → Fits a → view a ≡ Some b → G b × (a ≡ back b)) → ((b : B) → G b → Fits (back b) × (view (back b) ≡ Some b)) → IsExactBefore MayFollow G (λ b. spell (back b)) (decoded_at view read)
  IsExact-decoded {B} G view back there here = record {
    takes = λ octets x are e.
        let p = bind_some (read octets) (λ a. view a.0 >>= λ b. Some (b, a.1)) x e in
        let q = bind_some (view p.0.0) (λ b. Some (b, p.0.1)) x p.2 in
        let u = exact.takes octets p.0 are p.1 in
        let v = there p.0.0 q.0 u.1 q.1 in
        let made : B × List ℕ = (q.0, p.0.1) in
        subst (λ (y : B × List ℕ). (octets ≡ spell (back y.0) ++ y.1) × G y.0) (some_is made x q.2) (u.0 ∙ ap (λ (a : A). spell a ++ p.0.1) v.1, v.0);
    again = λ b rest may fits. let h = here b fits in rw (exact.again (back b) rest may h.0, h.1) refl;
  }

pub IsExact-both : {A B : Type 0} {MayFollow : List ℕ → Type 0} {FA : A → Type 0} {FB : A → B → Type 0} {sA : A → List ℕ} {sB : A → B → List ℕ} {rA : Reader A} {rB : A → Reader B} →
    IsExact FA sA rA → ((a : A) → FA a → IsExactBefore MayFollow (FB a) (sB a) (rB a)) →
    IsExactBefore MayFollow (λ (p : A × B). FA p.0 × FB p.0 p.1) (λ (p : A × B). sA p.0 ++ sB p.0 p.1) (both_at rA rB)
IsExact-both {A} {B} {FA = FA} {FB} {sA} {sB} {rA} {rB} first second = record {
  takes = λ octets x are e.
      let p = bind_some (rA octets) (λ a. rB a.0 a.1 >>= λ b. Some ((a.0, b.0), b.1)) x e in
      let t = first.takes octets p.0 are p.1 in
      let q = bind_some (rB p.0.0 p.0.1) (λ b. Some ((p.0.0, b.0), b.1)) x p.2 in
      let u = (second p.0.0 t.1).takes p.0.1 q.0 (rest_octets (sA p.0.0) p.0.1 (subst IsOctets t.0 are)) q.1 in
      let made : (A × B) × List ℕ = ((p.0.0, q.0.0), q.0.1) in
      let parts : octets ≡ (sA p.0.0 ++ sB p.0.0 q.0.0) ++ q.0.1 = t.0 ∙ ap (λ (r : List ℕ). sA p.0.0 ++ r) u.0 ∙ sym (append_assoc (sA p.0.0) (sB p.0.0 q.0.0) q.0.1) in
      subst (λ (y : (A × B) × List ℕ). (octets ≡ (sA y.0.0 ++ sB y.0.0 y.0.1) ++ y.1) × (FA y.0.0 × FB y.0.0 y.0.1)) (some_is made x q.2) (parts, (t.1, u.1));
  again = λ p rest may fits.
      rw (append_assoc (sA p.0) (sB p.0 p.1) rest, first.again p.0 (sB p.0 p.1 ++ rest) tt fits.0, (second p.0 fits.0).again p.1 rest may fits.1) refl;
}

-- ---- leaves

pub IsExact-octets : (n : ℕ) → IsExact (λ octets. length octets ≡ n) (λ octets. octets) (octets_at n)
unfolding octets_at
IsExact-octets n = record {
  takes = λ octets x are e.
      let g = guard_some (ltb (length octets) n) (Some (take n octets, drop n octets)) x e in
      let long : n ≤ length octets = ltb-false _ _ g.0 in
      let made : List ℕ × List ℕ = (take n octets, drop n octets) in
      subst (λ (y : List ℕ × List ℕ). (octets ≡ y.0 ++ y.1) × (length y.0 ≡ n)) (some_is made x g.1) (sym (take-append-drop n octets), omega (arith, length-take n octets));
  again = λ octets rest may len.
      let long : ltb (length (octets ++ rest)) n ≡ false = le-ltb _ _ (omega (arith, length-append octets rest, len)) in
      rw (long, take_at octets rest n len, drop_at octets rest n len) refl;
}

pub IsExact-rest : IsExactAtEnd IsOctets (λ octets. octets) rest_at
IsExact-rest = record {
  takes = λ octets x are e. subst (λ (y : List ℕ × List ℕ). (octets ≡ y.0 ++ y.1) × IsOctets y.0) (some_is (octets, []) x e) (sym (append-nil octets), are);
  again = λ octets rest no are. subst (λ (r : List ℕ). rest_at (octets ++ r) ≡ Some (octets, r)) (sym no) (ap (λ (o : List ℕ). Some (o, [])) (append-nil octets));
}

pub IsExact-nothing : {A : Type 0} {MayFollow : List ℕ → Type 0} (Fits : A → Type 0) (spell : A → List ℕ) → ((a : A) → Fits a → ⊥) → IsExactBefore MayFollow Fits spell nothing_at
IsExact-nothing Fits spell none = record { takes = λ octets x are e. absurd cc; again = λ a rest may fits. absurd (none a fits) }

-- ---- so many values

module _ {A : Type 0} {Fits : A → Type 0} {spell : A → List ℕ} {read : Reader A} (exact : IsExact Fits spell read) where
  times_take : (n : ℕ) (octets : List ℕ) (x : List A × List ℕ) → IsOctets octets → times_at read n octets ≡ Some x →
      (octets ≡ flat_map spell x.0 ++ x.1) × ((length x.0 ≡ n) × AllByRecursion Fits x.0)
  unfolding times_at
  times_take zero octets x are e =
      let made : List A × List ℕ = ([], octets) in
      subst (λ (y : List A × List ℕ). (octets ≡ flat_map spell y.0 ++ y.1) × ((length y.0 ≡ 0) × AllByRecursion Fits y.0)) (some_is made x e) (refl, (refl, tt))
  times_take (suc n) octets x are e =
      let p = bind_some (read octets) (λ a. times_at read n a.1 >>= λ more. Some (a.0 ∷ more.0, more.1)) x e in
      let t = exact.takes octets p.0 are p.1 in
      let q = bind_some (times_at read n p.0.1) (λ more. Some (p.0.0 ∷ more.0, more.1)) x p.2 in
      let u = times_take n p.0.1 q.0 (rest_octets (spell p.0.0) p.0.1 (subst IsOctets t.0 are)) q.1 in
      let made : List A × List ℕ = (p.0.0 ∷ q.0.0, q.0.1) in
      let parts : octets ≡ flat_map spell (p.0.0 ∷ q.0.0) ++ q.0.1 = t.0 ∙ ap (λ (w : List ℕ). spell p.0.0 ++ w) u.0 ∙ sym (append_assoc (spell p.0.0) (flat_map spell q.0.0) q.0.1) in
      subst (λ (y : List A × List ℕ). (octets ≡ flat_map spell y.0 ++ y.1) × ((length y.0 ≡ suc n) × AllByRecursion Fits y.0)) (some_is made x q.2) (parts, (ap suc u.1.0, (t.1, u.1.1)))

  times_again : (items : List A) (rest : List ℕ) → AllByRecursion Fits items → times_at read (length items) (flat_map spell items ++ rest) ≡ Some (items, rest)
  unfolding times_at
  times_again [] rest fits = refl
  times_again (a ∷ items) rest fits =
      let regrouped : flat_map spell (a ∷ items) ++ rest ≡ spell a ++ (flat_map spell items ++ rest) = append_assoc (spell a) (flat_map spell items) rest in
      ap (times_at read (suc (length items))) regrouped ∙ rw (exact.again a (flat_map spell items ++ rest) tt fits.0, times_again items rest fits.1) refl

  pub IsExact-times : (n : ℕ) → IsExact (λ (items : List A). (length items ≡ n) × AllByRecursion Fits items) (λ (items : List A). flat_map spell items) (times_at read n)
  IsExact-times n = record { takes = times_take n; again = λ items rest may fits. rw (sym fits.0) (times_again items rest fits.1) }
