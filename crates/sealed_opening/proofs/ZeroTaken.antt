-- The records of file 0, one more at a time.
use Rattle.std.proofs.Common.{◌≡◌, inl, inr, ℕ, List, [], ◌∷◌, ◌++◌, length, map, Bool, true, false, true≢false, Option, Some, None, refl, sym, ◌∙◌, ap, subst, append_assoc, append-nil, arith}
use Rattle.std.specs.Prelude.{◌==◌, not}
use Rattle.std.specs.Option.{is_some}
use Rattle.std.proofs.lemmas.Bool.{eqb-true}
use Rattle.history_items.specs.declared.fills.Fill.{Fill}
use Rattle.field_codec.specs.declared.entry.Entry.{Entry}
use Rattle.field_codec.specs.declared.entry.Entry.TheVariants as entries
use Rattle.field_codec.specs.Spelling.{entry_octets}
use Rattle.field_codec.proofs.EntryKinds.{one_spelling}
use Rattle.seal_codec.specs.declared.seal.Seal.{Seal}
use Rattle.seal_codec.specs.Seals.{IsSeal}
use Rattle.archive_images.specs.Entries.{Applies, FilledArchive, Replays, dones_of}
use Rattle.archive_images.specs.Moments.{MayFollow}
use Rattle.archive_images.specs.SealFiles.{seal_record}
use Rattle.archive_images.proofs.Exact.{takes_entry}
use Rattle.archive_reading.specs.declared.partial.PartialArchive.{PartialArchive}
use Rattle.archive_reading.specs.PartialArchive.{archive_made, filled_made, fills_made}
use Rattle.archive_reading.proofs.Archives.{dones-append, no_entries}
use Rattle.sealed_images.specs.Damage.{FollowsInZero}
use Rattle.sealed_images.specs.Records.{CanFollow, ReadsTo}
use Rattle.sealed_images.proofs.Rules.{zero_so_far}
use Rattle.sealed_opening.specs.Zero.{IsTakenInZero, zero_said}
use Rattle.sealed_opening.specs.declared.zero.ZeroRecords.{ZeroRecords}
use Rattle.sealed_opening.proofs.SealsBehind.{last_fits}

-- ---- one record

pub taken_follows : (was : ZeroRecords) (body : List ℕ) (now : ZeroRecords) → IsTakenInZero was body now → FollowsInZero (zero_said was) body (zero_said now)
taken_follows was body now (inl t) = inl (record {
  entry = t.entry;
  after = t.after;
  body_is = t.body_is;
  no_seal = t.no_seal;
  applies = t.applies;
  now_is = ap (λ (o : Option FilledArchive). zero_so_far o now.seals.items) t.archive_is ∙ ap (zero_so_far (Some t.after)) t.still_none;
})
taken_follows was body now (inr t) = inr (record {
  seal = t.seal;
  filled = t.filled;
  archive_is = t.archive_is;
  body_is = t.body_is;
  follows = t.follows;
  now_is = ap (λ (m : Option PartialArchive). zero_so_far (archive_made m) now.seals.items) t.same ∙ ap (zero_so_far (archive_made was.made)) t.seals_are;
})

no_seal_applies : (old : Option FilledArchive) (seal : Seal) (after : FilledArchive) → Applies old (entries.Seal seal) after → ⊥
no_seal_applies None seal after applies = applies
no_seal_applies (Some old) seal after applies = applies

pub no_entry_more : (was : ZeroRecords) (body : List ℕ) → ((seal : Seal) → IsSeal seal → body ≡ seal_record seal → ⊥)
    → ((entry : Entry) (after : FilledArchive) → was.seals.items ≡ [] → body ≡ entry_octets entry → Applies (archive_made was.made) entry after → ⊥) → CanFollow FollowsInZero (zero_said was) body → ⊥
no_entry_more was body none breaks can = by can.1
  where
    by : FollowsInZero (zero_said was) body can.0 → ⊥
    by (inl e) = breaks e.entry e.after e.no_seal e.body_is e.applies
    by (inr s) = none s.seal (last_fits was.seals.items s.seal s.follows.fit) s.body_is

some_made : (m : Option PartialArchive) (filled : FilledArchive) → archive_made m ≡ Some filled → is_some m ≡ true
some_made None filled is = absurd (let bad : ◌≡◌ {A = Option FilledArchive} None (Some filled) = is in cc)
some_made (Some made) filled is = refl

pub made_some : (m : Option PartialArchive) → is_some m ≡ true → (filled : FilledArchive) × (archive_made m ≡ Some filled)
made_some None is = absurd (true≢false (sym is))
made_some (Some made) is = (filled_made made, refl)

pub no_seal_more : (was : ZeroRecords) (seal : Seal) → IsSeal seal → (is_some was.made ≡ true → MayFollow (was.seals.items ++ seal ∷ []) → ⊥) → CanFollow FollowsInZero (zero_said was) (seal_record seal) → ⊥
no_seal_more was seal fits breaks can = by can.1
  where
    by : FollowsInZero (zero_said was) (seal_record seal) can.0 → ⊥
    by (inl e) =
        let same : e.entry ≡ entries.Seal seal = one_spelling e.entry (entries.Seal seal) (takes_entry (archive_made was.made) e.entry e.after e.applies) fits (sym e.body_is) in
        no_seal_applies (archive_made was.made) seal e.after (subst (λ (x : Entry). Applies (archive_made was.made) x e.after) same e.applies)
    by (inr s) =
        let same : entries.Seal s.seal ≡ entries.Seal seal = one_spelling (entries.Seal s.seal) (entries.Seal seal) (last_fits was.seals.items s.seal s.follows.fit) fits (sym s.body_is) in
        let seals : s.seal ≡ seal = cc in
        breaks (some_made was.made s.filled s.archive_is) (subst (λ (x : Seal). MayFollow (was.seals.items ++ x ∷ [])) seals s.follows)

-- ---- all of them

-- these records are entries and seals behind them
pub record AreZeroRecords (was : ZeroRecords) (bodies : List (List ℕ)) (now : ZeroRecords) : Type 0 where
  pub before : List Entry
  pub more : List Seal
  pub bodies_are : bodies ≡ map entry_octets before ++ map seal_record more
  pub seals_are : now.seals.items ≡ was.seals.items ++ more
  pub replays : Replays (archive_made was.made) before (archive_made now.made)
  pub fills : fills_made now.made ≡ fills_made was.made ++ dones_of before
  pub behind : (was.seals.items ≡ [] → ⊥) → before ≡ []
  pub none : archive_made now.made ≡ None → bodies ≡ []

some_none : (a b : Option FilledArchive) (x : FilledArchive) → a ≡ Some x → a ≡ b → b ≡ None → ⊥
some_none a b x some same none = absurd (let bad : ◌≡◌ {A = Option FilledArchive} (Some x) None = sym some ∙ same ∙ none in cc)

not_empty : (xs : List Seal) (x : Seal) → xs ++ x ∷ [] ≡ [] → ⊥
not_empty [] x is = absurd cc
not_empty (y ∷ xs) x is = absurd cc

pub all_taken : (was now : ZeroRecords) (bodies : List (List ℕ)) → ReadsTo IsTakenInZero was bodies now → AreZeroRecords was bodies now
all_taken was now [] is = record {
  before = [];
  more = [];
  bodies_are = refl;
  seals_are = ap (λ (r : ZeroRecords). r.seals.items) is ∙ sym (append-nil was.seals.items);
  replays = ap (λ (r : ZeroRecords). archive_made r.made) is;
  fills = ap (λ (r : ZeroRecords). fills_made r.made) is ∙ sym (append-nil (fills_made was.made));
  behind = λ some. refl;
  none = λ nothing. refl;
}
all_taken was now (body ∷ bodies) (mid, inl t, rest) =
    let r = all_taken mid now bodies rest in
    let told : List Fill = fills_made was.made in
    record {
      before = t.entry ∷ r.before;
      more = r.more;
      bodies_are = ap (λ (b : List ℕ). b ∷ bodies) t.body_is ∙ ap (λ (l : List (List ℕ)). entry_octets t.entry ∷ l) r.bodies_are;
      seals_are = r.seals_are ∙ ap (λ (l : List Seal). l ++ r.more) (t.still_none ∙ sym t.no_seal);
      replays = (t.after, t.applies, subst (λ (o : Option FilledArchive). Replays o r.before (archive_made now.made)) t.archive_is r.replays);
      fills = r.fills ∙ ap (λ (l : List Fill). l ++ dones_of r.before) t.fills ∙ append_assoc told (dones_of (t.entry ∷ [])) (dones_of r.before)
          ∙ ap (λ (l : List Fill). told ++ l) (sym (dones-append (t.entry ∷ []) r.before));
      behind = λ some. absurd (some t.no_seal);
      none = λ nothing. absurd (some_none (archive_made mid.made) (archive_made mid.made) t.after t.archive_is refl (no_entries (archive_made mid.made) (archive_made now.made) r.before r.replays nothing).0);
    }
all_taken was now (body ∷ bodies) (mid, inr t, rest) =
    let r = all_taken mid now bodies rest in
    let none : r.before ≡ [] = r.behind (λ empty. not_empty was.seals.items t.seal (sym t.seals_are ∙ empty)) in
    record {
      before = [];
      more = t.seal ∷ r.more;
      bodies_are = ap (λ (b : List ℕ). b ∷ bodies) t.body_is
          ∙ ap (λ (l : List (List ℕ)). seal_record t.seal ∷ l) (r.bodies_are ∙ ap (λ (es : List Entry). map entry_octets es ++ map seal_record r.more) none);
      seals_are = r.seals_are ∙ ap (λ (l : List Seal). l ++ r.more) t.seals_are ∙ append_assoc was.seals.items (t.seal ∷ []) r.more;
      replays = subst (λ (es : List Entry). Replays (archive_made mid.made) es (archive_made now.made)) none r.replays ∙ ap archive_made t.same;
      fills = r.fills ∙ ap (λ (es : List Entry). fills_made mid.made ++ dones_of es) none ∙ ap (λ (m : Option PartialArchive). fills_made m ++ []) t.same;
      behind = λ some. refl;
      none = λ nothing. absurd (some_none (archive_made was.made) (archive_made mid.made) t.filled t.archive_is (sym (ap archive_made t.same)) (no_entries (archive_made mid.made) (archive_made now.made) r.before r.replays nothing).0);
    }

-- ---- tests

pub none_left : (items slice : List Seal) (b : Bool) → slice ≡ items → b ≡ (length slice == 0) → b ≡ true → items ≡ []
none_left items slice b same is on = by items (eqb-true (length items) 0 (sym (ap (λ (l : List Seal). length l == 0) same) ∙ sym is ∙ on))
  where
    by : (l : List Seal) → length l ≡ 0 → l ≡ []
    by [] e = refl
    by (x ∷ l) e = absurd (omega (arith, e))

pub some_left : (items slice : List Seal) (b : Bool) → slice ≡ items → b ≡ (length slice == 0) → b ≡ false → items ≡ [] → ⊥
some_left items slice b same is off empty = true≢false (sym (ap (λ (l : List Seal). length l == 0) (same ∙ empty)) ∙ sym is ∙ off)

pub some_if : (m : Option PartialArchive) (b : Bool) → is_some m ≡ not b → b ≡ false → is_some m ≡ true
some_if m b is off = is ∙ ap not off

pub none_if : (m : Option PartialArchive) (b : Bool) → is_some m ≡ not b → b ≡ true → is_some m ≡ true → ⊥
none_if m b is on some = true≢false (sym some ∙ is ∙ ap not on)

pub none_follow : (seals : List Seal) → seals ≡ [] → MayFollow seals
none_follow seals is = subst MayFollow (sym is) (record { fit = tt; rising = refl; grown = tt })
