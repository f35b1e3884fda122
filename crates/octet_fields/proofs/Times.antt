-- Reading so many values, as a loop does. The invariant of `for _ in 0..count`, with what was read so far at its front, is
-- `Remaining read front (count - i) rest (times_at read count octets)`; its three goals are `goes_on`, `ends` and `is_done`.
use Rattle.std.proofs.Common.{◌≡◌, ℕ, suc, ◌-◌, ◌+◌, ◌≤◌, ◌<◌, List, [], ◌∷◌, ◌++◌, Option, Some, None, Result, refl, sym, ap, ◌∙◌, append_assoc, arith}
use Rattle.std.specs.Prelude.{IsErrAnd}
use Rattle.std.proofs.lemmas.List.{append-nil}
use Rattle.std.proofs.lemmas.Result.{err_from_is_err_and}
use Rattle.octet_fields.specs.declared.fault.DecodeError.{DecodeError}
use Rattle.octet_fields.specs.declared.fault.DecodeError.TheVariants as errors
use Rattle.octet_fields.specs.Answers.{Fails, Gives}
use Rattle.octet_fields.specs.Reading.{Reader, ◌>>=◌, times_at}

module _ {A : Type 0} where
  -- what was read before, and what is still read
  abbrev pub with_front : List A → Option (List A × List ℕ) → Option (List A × List ℕ)
  with_front front read = read >>= λ x. Some (front ++ x.0, x.1)

  regroup : (front : List A) (a : A) (read : Option (List A × List ℕ)) → with_front front (read >>= λ x. Some (a ∷ x.0, x.1)) ≡ with_front (front ++ a ∷ []) read
  regroup front a (Some x) = ap (λ (items : List A). Some (items, x.1)) (simp append_assoc)
  regroup front a None = refl

  module _ (read : Reader A) where
    -- The front and so many values more are the whole.
    abbrev pub Remaining : List A → ℕ → List ℕ → Option (List A × List ℕ) → Type 0
    Remaining front left rest total = with_front front (times_at read left rest) ≡ total

    -- One more is read, and the loop goes on.
    pub goes_on : (front pushed : List A) (count i : ℕ) (rest : List ℕ) (a : A) (after : List ℕ) (total : Option (List A × List ℕ)) →
        pushed ≡ front ++ a ∷ [] → i < count → read rest ≡ Some (a, after) → Remaining front (count - i) rest total → Remaining pushed (count - (i + 1)) after total
    unfolding times_at
    goes_on front pushed count i rest a after total is lt h so_far =
        let k : count - i ≡ suc (count - (i + 1)) = omega arith in
        let here : with_front front (times_at read (count - i) rest) ≡ with_front (front ++ a ∷ []) (times_at read (count - (i + 1)) after) = rw (k, h) (regroup front a (times_at read (count - (i + 1)) after)) in
        rw is (sym here ∙ so_far)

    fails : (e : DecodeError) (front : List A) (count i : ℕ) (rest : List ℕ) (total : Option (List A × List ℕ)) → i < count → Fails e (read rest) → Remaining front (count - i) rest total → Fails e total
    unfolding times_at
    fails errors.OutOfMemory front count i rest total lt h so_far = tt
    fails errors.Malformed front count i rest total lt h so_far =
        let k : count - i ≡ suc (count - (i + 1)) = omega arith in
        let here : with_front front (times_at read (count - i) rest) ≡ None = rw (k, h) refl in
        sym so_far ∙ here

    -- One isn't read, so the whole isn't, by the same error.
    pub ends : {Y : Type 0} (seen : Y → List A × List ℕ) (result : Result Y DecodeError) (e : DecodeError) (front : List A) (count i : ℕ) (rest : List ℕ) (total : Option (List A × List ℕ)) →
        IsErrAnd result (λ f. f ≡ e) → i < count → Fails e (read rest) → Remaining front (count - i) rest total → Gives seen result total
    ends seen result e front count i rest total is lt h so_far =
        let p = err_from_is_err_and result is in
        rw (p.1, p.2) (fails e front count i rest total lt h so_far)

    -- All are read.
    pub is_done : (front : List A) (count i : ℕ) (rest : List ℕ) (total : Option (List A × List ℕ)) → count ≤ i → Remaining front (count - i) rest total → total ≡ Some (front, rest)
    unfolding times_at
    is_done front count i rest total le so_far =
        let k : count - i ≡ 0 = omega arith in
        let here : with_front front (times_at read (count - i) rest) ≡ Some (front, rest) = rw k (ap (λ (items : List A). Some (items, rest)) (append-nil front)) in
        sym so_far ∙ here
