-- A journal is read as one thing, whatever its rules are: as records that follow one another, or as damaged at one gate.
use Rattle.std.proofs.Common.{◌≡◌, ◌⊎◌, inl, inr, ℕ, ◌<◌, ◌^◌, List, [], ◌∷◌, ◌++◌, length, take, drop, refl, sym, ◌∙◌, ap, subst, arith, append_assoc, append-nil, length-append}
use Rattle.std.specs.Int.{w32, from_be_bytes}
use Rattle.disk_journal.specs.Format.{AreSmall, HasRecords, IsClosed, framed, written}
use Rattle.disk_journal.proofs.Files.{length-framed}
use Rattle.disk_journal.proofs.Once.{frame_body_once, frame_rest_once, frame_size}
use Rattle.archive_images.specs.SealFiles.{log_head_record}
use Rattle.archive_images.specs.Stands.{IsCutShort}
use Rattle.sealed_images.specs.Records.{BeginsWithHead, CanFollow, IsBehindHeadDamagedAt, IsRecordDamagedAt, MayNotFollow, ReadsTo}

-- what stands behind the gate of the first record
behind : (body : List ℕ) (bodies : List (List ℕ)) (p : List ℕ) → drop 1 (written (body ∷ bodies) ++ p) ≡ framed body ++ (written bodies ++ p)
behind body bodies p = append_assoc (framed body) (written bodies) p

some_left : (w t : List ℕ) → IsClosed t → 0 < length (w ++ t)
some_left w [] none = absurd none
some_left w (g ∷ t) shut = omega (arith, length-append w (g ∷ t))

some_behind : (w t : List ℕ) → 0 < length (w ++ 1 ∷ t)
some_behind w t = omega (arith, length-append w (1 ∷ t))

not_open : (tail rest : List ℕ) → IsClosed tail → tail ≡ 1 ∷ rest → ⊥
not_open tail rest shut is = let open_gate : IsClosed (1 ∷ rest) = subst IsClosed is shut in open_gate refl

-- a first record before others
head_first : (head : List ℕ) (bodies : List (List ℕ)) (p : List ℕ) → written (head ∷ bodies) ++ p ≡ written (head ∷ []) ++ (written bodies ++ p)
head_first head bodies p =
    append_assoc (1 ∷ framed head) (written bodies) p ∙ ap (λ (l : List ℕ). l ++ (written bodies ++ p)) (sym (append-nil (1 ∷ framed head)))

module _ {S : Type 0} (Follows : S → List ℕ → S → Type 0) (once : (was : S) (body : List ℕ) (x y : S) → Follows was body x → Follows was body y → x ≡ y) where
  abbrev IsBad : S → List ℕ → Type 0
  IsBad now rest = IsCutShort rest ⊎ MayNotFollow (CanFollow Follows) now rest

  -- a record that follows is not bad
  good : (was mid : S) (body r q : List ℕ) → Follows was body mid → length body < 2 ^ 32 → 0 < length q → r ≡ framed body ++ q → IsBad was r → ⊥
  good was mid body r q follows small some is (inl short) =
      let size : from_be_bytes w32 (take 4 r) ≡ length body = ap (λ (l : List ℕ). from_be_bytes w32 (take 4 l)) is ∙ frame_size body q small in
      absurd (omega (arith, short, size, ap length is, length-append (framed body) q, length-framed body, some))
  good was mid body r q follows small some is (inr wrong) =
      let same : wrong.body ≡ body = frame_body_once wrong.body body wrong.more q wrong.small small (sym wrong.is ∙ is) in
      wrong.breaks (mid, subst (λ (b : List ℕ). Follows was b mid) (sym same) follows)

  -- records come to one thing
  pub reads_once : (was x y : S) (bodies : List (List ℕ)) → ReadsTo Follows was bodies x → ReadsTo Follows was bodies y → x ≡ y
  reads_once was x y [] p q = p ∙ sym q
  reads_once was x y (body ∷ bodies) p q =
      reads_once p.0 x y bodies p.2 (subst (λ (mid : S). ReadsTo Follows mid bodies y) (once was body q.0 p.0 q.1 p.1) q.2)

  -- ---- without the records that a file begins with

  not_both : (was x y : S) (es fs : List (List ℕ)) (p r : List ℕ) → ReadsTo Follows was es x → ReadsTo Follows was fs y → AreSmall es → AreSmall fs → IsClosed p → IsBad y r → written es ++ p ≡ written fs ++ 1 ∷ r → ⊥
  not_both was x y [] [] p r reads reads' small small' shut bad is = not_open p r shut is
  not_both was x y [] (f ∷ fs) p r reads reads' small small' shut bad is = not_open p (framed f ++ written fs ++ 1 ∷ r) shut is
  not_both was x y (e ∷ es) [] p r reads reads' small small' shut bad is =
      good was reads.0 e r (written es ++ p) reads.1 small.0 (some_left (written es) p shut) (sym (ap (drop 1) is) ∙ behind e es p) (subst (λ (s : S). IsBad s r) reads' bad)
  not_both was x y (e ∷ es) (f ∷ fs) p r reads reads' small small' shut bad is =
      let inside : framed e ++ (written es ++ p) ≡ framed f ++ (written fs ++ 1 ∷ r) = sym (behind e es p) ∙ ap (drop 1) is ∙ behind f fs (1 ∷ r) in
      let body : e ≡ f = frame_body_once e f (written es ++ p) (written fs ++ 1 ∷ r) small.0 small'.0 inside in
      let mid : reads'.0 ≡ reads.0 = once was f reads'.0 reads.0 reads'.1 (subst (λ (b : List ℕ). Follows was b reads.0) body reads.1) in
      not_both reads.0 x y es fs p r reads.2 (subst (λ (s : S). ReadsTo Follows s fs y) mid reads'.2) small.1 small'.1 shut bad
      (frame_rest_once e f (written es ++ p) (written fs ++ 1 ∷ r) small.0 small'.0 inside)

  same_place : (was x y : S) (es fs : List (List ℕ)) (p r : List ℕ) → ReadsTo Follows was es x → ReadsTo Follows was fs y → AreSmall es → AreSmall fs → IsBad x p → IsBad y r → written es ++ 1 ∷ p ≡ written fs ++ 1 ∷ r → length (written es) ≡ length (written fs)
  same_place was x y [] [] p r reads reads' small small' bad bad' is = refl
  same_place was x y [] (f ∷ fs) p r reads reads' small small' bad bad' is =
      absurd (good was reads'.0 f p (written fs ++ 1 ∷ r) reads'.1 small'.0 (some_behind (written fs) r) (ap (drop 1) is ∙ behind f fs (1 ∷ r)) (subst (λ (s : S). IsBad s p) reads bad))
  same_place was x y (e ∷ es) [] p r reads reads' small small' bad bad' is =
      absurd (good was reads.0 e r (written es ++ 1 ∷ p) reads.1 small.0 (some_behind (written es) p) (sym (ap (drop 1) is) ∙ behind e es (1 ∷ p)) (subst (λ (s : S). IsBad s r) reads' bad'))
  same_place was x y (e ∷ es) (f ∷ fs) p r reads reads' small small' bad bad' is =
      let inside : framed e ++ (written es ++ 1 ∷ p) ≡ framed f ++ (written fs ++ 1 ∷ r) = sym (behind e es (1 ∷ p)) ∙ ap (drop 1) is ∙ behind f fs (1 ∷ r) in
      let body : e ≡ f = frame_body_once e f (written es ++ 1 ∷ p) (written fs ++ 1 ∷ r) small.0 small'.0 inside in
      let mid : reads'.0 ≡ reads.0 = once was f reads'.0 reads.0 reads'.1 (subst (λ (b : List ℕ). Follows was b reads.0) body reads.1) in
      let rest = same_place reads.0 x y es fs p r reads.2 (subst (λ (s : S). ReadsTo Follows s fs y) mid reads'.2) small.1 small'.1 bad bad'
      (frame_rest_once e f (written es ++ 1 ∷ p) (written fs ++ 1 ∷ r) small.0 small'.0 inside) in
      omega (arith, rest, ap length body, length-append (framed e) (written es), length-append (framed f) (written fs), length-framed e, length-framed f)

  -- ---- behind them

  not_both_behind : (was x y : S) (front es fs : List (List ℕ)) (p r : List ℕ) → ReadsTo Follows was es x → ReadsTo Follows was fs y → AreSmall (front ++ es) → AreSmall (front ++ fs) → IsClosed p → IsBad y r
      → written (front ++ es) ++ p ≡ written (front ++ fs) ++ 1 ∷ r → ⊥
  not_both_behind was x y [] es fs p r reads reads' small small' shut bad is = not_both was x y es fs p r reads reads' small small' shut bad is
  not_both_behind was x y (b ∷ front) es fs p r reads reads' small small' shut bad is =
      not_both_behind was x y front es fs p r reads reads' small.1 small'.1 shut bad
      (frame_rest_once b b (written (front ++ es) ++ p) (written (front ++ fs) ++ 1 ∷ r) small.0 small'.0 (sym (behind b (front ++ es) p) ∙ ap (drop 1) is ∙ behind b (front ++ fs) (1 ∷ r)))

  same_place_behind : (was x y : S) (front es fs : List (List ℕ)) (p r : List ℕ) → ReadsTo Follows was es x → ReadsTo Follows was fs y → AreSmall (front ++ es) → AreSmall (front ++ fs) → IsBad x p → IsBad y r
      → written (front ++ es) ++ 1 ∷ p ≡ written (front ++ fs) ++ 1 ∷ r → length (written (front ++ es)) ≡ length (written (front ++ fs))
  same_place_behind was x y [] es fs p r reads reads' small small' bad bad' is = same_place was x y es fs p r reads reads' small small' bad bad' is
  same_place_behind was x y (b ∷ front) es fs p r reads reads' small small' bad bad' is =
      let rest = same_place_behind was x y front es fs p r reads reads' small.1 small'.1 bad bad'
      (frame_rest_once b b (written (front ++ es) ++ 1 ∷ p) (written (front ++ fs) ++ 1 ∷ r) small.0 small'.0 (sym (behind b (front ++ es) (1 ∷ p)) ∙ ap (drop 1) is ∙ behind b (front ++ fs) (1 ∷ r))) in
      omega (arith, rest, length-append (framed b) (written (front ++ es)), length-append (framed b) (written (front ++ fs)))

  -- a file is damaged at the gate of one record at most
  pub record_damage_once : (content : List ℕ) (beginning : List (List ℕ)) (was : S) (a b : ℕ) → IsRecordDamagedAt Follows content beginning was a → IsRecordDamagedAt Follows content beginning was b → a ≡ b
  record_damage_once content beginning was a b d e =
      d.at_is ∙ same_place_behind was d.now e.now beginning d.bodies e.bodies d.rest e.rest d.reads e.reads d.small e.small d.bad e.bad (sym d.content_is ∙ e.content_is) ∙ sym e.at_is

  -- and at none where all of its records follow
  pub records_are_whole : (content : List ℕ) (beginning bodies : List (List ℕ)) (was now : S) (at : ℕ) → HasRecords content (beginning ++ bodies) → ReadsTo Follows was bodies now → IsRecordDamagedAt Follows content beginning was at → ⊥
  records_are_whole content beginning bodies was now at has reads d =
      not_both_behind was now d.now beginning bodies d.bodies has.tail d.rest reads d.reads has.small d.small has.closed d.bad (sym has.file_is ∙ d.content_is)

  -- ---- with a log head

  -- a file that is damaged behind its head begins with it
  damaged_begins : (content : List ℕ) (rows : ℕ) (was : S) (at : ℕ) → IsRecordDamagedAt Follows content (log_head_record rows ∷ []) was at → BeginsWithHead content rows
  damaged_begins content rows was at d = (
    written d.bodies ++ 1 ∷ d.rest,
    d.content_is ∙ head_first (log_head_record rows) d.bodies (1 ∷ d.rest),
    some_behind (written d.bodies) d.rest,
  )

  pub head_damage_once : (content : List ℕ) (rows : ℕ) (was : S) (a b : ℕ) → IsBehindHeadDamagedAt Follows content rows was a → IsBehindHeadDamagedAt Follows content rows was b → a ≡ b
  head_damage_once content rows was a b (inl p) (inl q) = p.1 ∙ sym q.1
  head_damage_once content rows was a b (inl p) (inr q) = absurd (p.0 (damaged_begins content rows was b q))
  head_damage_once content rows was a b (inr p) (inl q) = absurd (q.0 (damaged_begins content rows was a p))
  head_damage_once content rows was a b (inr p) (inr q) = record_damage_once content (log_head_record rows ∷ []) was a b p q

  pub heads_are_whole : (content : List ℕ) (rows : ℕ) (bodies : List (List ℕ)) (was now : S) (at : ℕ) → HasRecords content (log_head_record rows ∷ bodies) → ReadsTo Follows was bodies now → IsBehindHeadDamagedAt Follows content rows was at → ⊥
  heads_are_whole content rows bodies was now at has reads (inl headless) =
      headless.0 (written bodies ++ has.tail, has.file_is ∙ head_first (log_head_record rows) bodies has.tail, some_left (written bodies) has.tail has.closed)
  heads_are_whole content rows bodies was now at has reads (inr d) = records_are_whole content (log_head_record rows ∷ []) bodies was now at has reads d
