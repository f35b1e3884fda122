-- What a crash leaves after a call that was kept, or that memory was wanting for.
use Rattle.std.proofs.Common.{◌≡◌, ◌⊎◌, inl, inr, ℕ, List, ◌∷◌, length, sym, subst}
use Rattle.std.specs.Prelude.{Result, Ok, Err, OnOk, OnErr}
use Rattle.arch_disk.specs.declared.call_log.Call.{Call}
use Rattle.arch_disk.specs.declared.call_log.Call.TheVariants.{Wrote, FailedWrite, Cut, FailedCut}
use Rattle.arch_disk.specs.declared.call_log.Write.{Write}
use Rattle.arch_disk.specs.Image.{Image, Torn, Shortened, InFile}
use Rattle.arch_disk.specs.CallLog.{images_of}
use Rattle.arch_disk.specs.Steps.{torn_still, cut_still}

-- each image of the later calls is one of the earlier ones after the step
abbrev pub Comes : (Image → Image → Type 0) → List Call → List Call → Type 0
Comes step past now = (c : Image) → images_of now c → (d : Image) × images_of past d × step d c

noted : {T E : Type 0} (result : Result T E) (past now : List Call) (call : Call) (P : List Call → Type 0) → OnOk result (now ≡ call ∷ past) → OnErr result (now ≡ past) → P (call ∷ past) → P past → P now
noted (Ok x) past now call P ok err with_it without = subst P (sym ok) with_it
noted (Err e) past now call P ok err with_it without = subst P (sym err) without

-- the call was kept, or not
pub kept_or_not : {T E : Type 0} (result : Result T E) (past now : List Call) (call : Call) → OnOk result (now ≡ call ∷ past) → OnErr result (now ≡ past) → (now ≡ call ∷ past) ⊎ (now ≡ past)
kept_or_not (Ok x) past now call ok err = inl ok
kept_or_not (Err e) past now call ok err = inr err

pub cut_noted : {T E : Type 0} (result : Result T E) (past now : List Call) (file len : ℕ) → OnOk result (now ≡ Cut file len ∷ past) → OnErr result (now ≡ past) → Comes (InFile (Shortened len) file) past now
cut_noted result past now file len ok err = noted result past now (Cut file len) (Comes (InFile (Shortened len) file) past) ok err (λ c left. left) (λ c left. (c, left, cut_still len file c))

pub failed_cut_noted : {T E : Type 0} (result : Result T E) (past now : List Call) (file len : ℕ) → OnOk result (now ≡ FailedCut file len ∷ past) → OnErr result (now ≡ past) → Comes (InFile (Shortened len) file) past now
failed_cut_noted result past now file len ok err = noted result past now (FailedCut file len) (Comes (InFile (Shortened len) file) past) ok err (λ c left. left) (λ c left. (c, left, cut_still len file c))

-- the write is one of these octets at this place
module _ (w : Write) (file at : ℕ) (from : List ℕ) (asked : (w.file ≡ file) × (w.at ≡ at) × (w.octets.items ≡ from)) where
  as_asked : (past now : List Call) → Comes (InFile (Torn w.at (length w.octets.items)) w.file) past now → Comes (InFile (Torn at (length from)) file) past now
  as_asked past now h = subst (λ (f : ℕ). Comes (InFile (Torn at (length from)) f) past now) asked.0 (subst (λ (n : ℕ). Comes (InFile (Torn n (length from)) w.file) past now) asked.1 (subst (λ (l : List ℕ). Comes (InFile (Torn w.at (length l)) w.file) past now) asked.2 h))

  pub write_noted : {T E : Type 0} (result : Result T E) (past now : List Call) → OnOk result (now ≡ Wrote w ∷ past) → OnErr result (now ≡ past) → Comes (InFile (Torn at (length from)) file) past now
  write_noted result past now ok err = as_asked past now (noted result past now (Wrote w) (Comes (InFile (Torn w.at (length w.octets.items)) w.file) past) ok err (λ c left. left) (λ c left. (c, left, torn_still w.at (length w.octets.items) w.file c)))

  pub failed_write_noted : {T E : Type 0} (result : Result T E) (past now : List Call) → OnOk result (now ≡ FailedWrite w ∷ past) → OnErr result (now ≡ past) → Comes (InFile (Torn at (length from)) file) past now
  failed_write_noted result past now ok err = as_asked past now (noted result past now (FailedWrite w) (Comes (InFile (Torn w.at (length w.octets.items)) w.file) past) ok err (λ c left. left) (λ c left. (c, left, torn_still w.at (length w.octets.items) w.file c)))

-- nothing was kept
pub none_noted : (past now : List Call) (at n file : ℕ) → now ≡ past → Comes (InFile (Torn at n) file) past now
none_noted past now at n file is = subst (Comes (InFile (Torn at n) file) past) (sym is) (λ c left. (c, left, torn_still at n file c))
