-- Records that are read one after the other.
use Rattle.std.proofs.Common.{◌≡◌, ◌⊎◌, inl, inr, ℕ, ◌<◌, ◌≤◌, ◌^◌, List, [], ◌∷◌, ◌++◌, length, refl, ◌∙◌, ap, subst, arith, length-append}
use Rattle.std.specs.Prelude.{true, false, IsTrue}
use Rattle.arch_disk.specs.Disk.{Device, NoFault}
use Rattle.disk_journal.specs.Calls.{IsNextRefusal, content_read, read_so_far}
use Rattle.disk_journal.specs.Faults.{IsToldBy}
use Rattle.disk_journal.specs.Format.{framed, written}
use Rattle.disk_journal.specs.Reading.{IsAt, IsCutShortAt, file_read, gate_of}
use Rattle.disk_journal.specs.declared.opening.Opening.{Opening}
use Rattle.disk_journal.specs.declared.fault.JournalFault.{JournalFault}
use Rattle.disk_journal.specs.declared.fault.JournalFault.TheVariants.{Exists, NoArchive, Damaged, NeedsReopen, Limit, DiskFault, OutOfMemory}
use Rattle.disk_journal.proofs.Files.{written-push}
use Rattle.archive_reading.specs.PartialArchive.{read_refusal}
use Rattle.archive_images.specs.Stands.{IsCutShort}
use Rattle.sealed_images.specs.Records.{MayNotFollow, ReadsTo, StopsAt}
use Rattle.sealed_opening.specs.ReadRefusals.{IsReadRefusal}
use Rattle.sealed_opening.specs.Records.{IsStop}

module _ {S : Type 0} (Follows : S → List ℕ → S → Type 0) where
  -- one record more
  pub reads_more : (was mid now : S) (bodies : List (List ℕ)) (body : List ℕ) → ReadsTo Follows was bodies mid → Follows mid body now → ReadsTo Follows was (bodies ++ body ∷ []) now
  reads_more was mid now [] body is follows = (now, subst (λ (s : S). Follows s body now) is follows, refl)
  reads_more was mid now (b ∷ bodies) body is follows = (is.0, is.1, reads_more is.0 mid now bodies body is.2 follows)

module _ {S : Type 0} (May : S → List ℕ → Type 0) (Follows : S → List ℕ → S → Type 0) where
  module _ (content : List ℕ) (beginning bodies : List (List ℕ)) (was now : S) (long : 2 ≤ length content) (reads : ReadsTo Follows was bodies now) where
    -- a record that is cut short
    pub stops_short : (at : ℕ) (opening : Opening) → IsAt opening content (beginning ++ bodies) → at ≡ gate_of opening → IsCutShortAt content (beginning ++ bodies) → StopsAt May Follows content beginning was at
    stops_short at opening is at_is short = record {
      bodies = bodies;
      now = now;
      rest = short.rest;
      long = long;
      small = is.up_to.small;
      reads = reads;
      content_is = short.file_is;
      at_is = at_is ∙ is.up_to.at_is;
      bad = inl short.short;
    }

    -- a record that may not follow
    pub stops_wrong : (at : ℕ) (old new : Opening) (body : List ℕ) → IsAt old content (beginning ++ bodies) → IsAt new content ((beginning ++ bodies) ++ body ∷ []) → at ≡ gate_of old → length body < 2 ^ 32 → (May now body → ⊥) → StopsAt May Follows content beginning was at
    stops_wrong at old new body is next at_is small breaks =
        let all : List (List ℕ) = beginning ++ bodies in
        let more : List ℕ = next.up_to.rest in
        record {
          bodies = bodies;
          now = now;
          rest = framed body ++ more;
          long = long;
          small = is.up_to.small;
          reads = reads;
          content_is = next.up_to.file_is ∙ written-push all body more;
          at_is = at_is ∙ is.up_to.at_is;
          bad = inr (record {
            body = body;
            more = more;
            small = small;
            some = omega (arith, next.inside, next.len, next.up_to.at_is, ap length next.up_to.file_is, length-append (written (all ++ body ∷ [])) more);
            is = refl;
            breaks = breaks;
          });
        }

  -- why the next record was not read is why not all were
  module _ {D : Type 0} (device : Device D) where
    pub next_stops : (first opening : Opening) (was : S) (old before after : D) (fault : JournalFault) → IsNextRefusal device opening before after fault → IsToldBy device before after fault → NoFault device old before
        → (IsTrue device.is_transparent → (at : ℕ) → (at ≡ gate_of opening) × IsCutShortAt (content_read device opening before) (read_so_far device opening before) → StopsAt May Follows (content_read device first old) (read_so_far device first old) was at)
        → IsReadRefusal (IsStop May Follows device old first was) device old after (read_refusal (file_read first) fault)
    next_stops first opening was old before after Exists refusal told none cut = absurd refusal
    next_stops first opening was old before after NoArchive refusal told none cut = absurd refusal
    next_stops first opening was old before after (Damaged at) refusal told none cut = (λ transparent. (refl, cut transparent at (refusal transparent)), told ∙ none)
    next_stops first opening was old before after (NeedsReopen faults) refusal told none cut = absurd refusal
    next_stops first opening was old before after Limit refusal told none cut = absurd refusal
    next_stops first opening was old before after (DiskFault true) refusal told none cut = absurd refusal
    next_stops first opening was old before after (DiskFault false) refusal told none cut = omega (arith, refusal, none)
    next_stops first opening was old before after OutOfMemory refusal told none cut = told ∙ none

-- ---- the same records by what they mean

module _ {S T : Type 0} (m : S → T) (FollowsS : S → List ℕ → S → Type 0) (FollowsT : T → List ℕ → T → Type 0) (follow : (a : S) (body : List ℕ) (b : S) → FollowsS a body b → FollowsT (m a) body (m b)) where
  pub reads_as : (was now : S) (bodies : List (List ℕ)) → ReadsTo FollowsS was bodies now → ReadsTo FollowsT (m was) bodies (m now)
  reads_as was now [] is = ap m is
  reads_as was now (body ∷ bodies) is = (m is.0, follow was body is.0 is.1, reads_as is.0 now bodies is.2)

  module _ (MayS : S → List ℕ → Type 0) (MayT : T → List ℕ → Type 0) (may : (a : S) (body : List ℕ) → MayT (m a) body → MayS a body) where
    bad_as : (now : S) (rest : List ℕ) → IsCutShort rest ⊎ MayNotFollow MayS now rest → IsCutShort rest ⊎ MayNotFollow MayT (m now) rest
    bad_as now rest (inl short) = inl short
    bad_as now rest (inr p) = inr (record { body = p.body; more = p.more; small = p.small; some = p.some; is = p.is; breaks = λ ok. p.breaks (may now p.body ok) })

    pub stops_as : (content : List ℕ) (beginning : List (List ℕ)) (was : S) (at : ℕ) → StopsAt MayS FollowsS content beginning was at → StopsAt MayT FollowsT content beginning (m was) at
    stops_as content beginning was at p = record {
      bodies = p.bodies;
      now = m p.now;
      rest = p.rest;
      long = p.long;
      small = p.small;
      reads = reads_as was p.now p.bodies p.reads;
      content_is = p.content_is;
      at_is = p.at_is;
      bad = bad_as p.now p.rest p.bad;
    }
