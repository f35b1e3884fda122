-- The records of a journal, read one after the other, whatever their rules are.
use Rattle.std.specs.Prelude.{◌≡◌, ◌⊎◌, ℕ, ◌<◌, ◌≤◌, ◌^◌, List, [], ◌∷◌, ◌++◌, length}
use Rattle.disk_journal.specs.Format.{AreSmall, framed, written}
use Rattle.archive_images.specs.SealFiles.{log_head_record}
use Rattle.archive_images.specs.Stands.{IsCutShort}

-- `Follows was body now`: a record of this body may stand behind what was read, which is this from then on
module _ {S : Type 0} (Follows : S → List ℕ → S → Type 0) where
  -- these records, one after the other
  abbrev pub ReadsTo : S → List (List ℕ) → S → Type 0
  ReadsTo was [] now = now ≡ was
  ReadsTo was (body ∷ bodies) now = (mid : S) × Follows was body mid × ReadsTo mid bodies now

  -- a record of this body may stand there
  abbrev pub CanFollow : S → List ℕ → Type 0
  CanFollow was body = (now : S) × Follows was body now

-- a whole record stands there, with the gate octet after it, and may not follow
pub record MayNotFollow {S : Type 0} (May : S → List ℕ → Type 0) (now : S) (rest : List ℕ) : Type 0 where
  pub body : List ℕ
  pub more : List ℕ
  pub small : length body < 2 ^ 32
  pub some : 0 < length more
  pub is : rest ≡ framed body ++ more
  pub breaks : May now body → ⊥

-- Behind records that a file begins with stand some that may follow; at this gate stands the first open record that
-- passes the file's end or may not follow.
pub record StopsAt {S : Type 0} (May : S → List ℕ → Type 0) (Follows : S → List ℕ → S → Type 0) (content : List ℕ)
    (beginning : List (List ℕ)) (was : S) (at : ℕ) : Type 0 where
  pub bodies : List (List ℕ)
  pub now : S
  pub rest : List ℕ
  pub long : 2 ≤ length content
  pub small : AreSmall (beginning ++ bodies)
  pub reads : ReadsTo Follows was bodies now
  pub content_is : content ≡ written (beginning ++ bodies) ++ 1 ∷ rest
  pub at_is : at ≡ length (written (beginning ++ bodies))
  pub bad : IsCutShort rest ⊎ MayNotFollow May now rest

-- the file is damaged at the gate of a record, by what may follow what
abbrev pub IsRecordDamagedAt : {S : Type 0} → (S → List ℕ → S → Type 0) → List ℕ → List (List ℕ) → S → ℕ → Type 0
IsRecordDamagedAt Follows content beginning was at = StopsAt (CanFollow Follows) Follows content beginning was at

-- a file begins with a log head over so many rows, with the gate octet after it
abbrev pub BeginsWithHead : List ℕ → ℕ → Type 0
BeginsWithHead content rows =
    (rest : List ℕ) × (content ≡ written (log_head_record rows ∷ []) ++ rest) × (0 < length rest)

-- a journal without that head is damaged at octet 0, and one with it at the gate of a record
abbrev pub IsBehindHeadDamagedAt : {S : Type 0} → (S → List ℕ → S → Type 0) → List ℕ → ℕ → S → ℕ → Type 0
IsBehindHeadDamagedAt Follows content rows was at =
    ((BeginsWithHead content rows → ⊥) × (at ≡ 0))
    ⊎ IsRecordDamagedAt Follows content (log_head_record rows ∷ []) was at
