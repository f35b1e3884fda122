-- A log of calls that holds an image and nothing else.
use Rattle.std.proofs.Common.{◌≡◌, ◌≢◌, ◌⊎◌, inl, inr, ⊎_elim, ℕ, zero, suc, ◌+◌, ◌-◌, ◌<◌, ◌≤◌, List, [], ◌∷◌, ◌++◌, length, take, drop, reverse, refl, sym, ◌∙◌, ap, subst, arith, get_or, length-drop, take-append-drop}
use Rattle.std.proofs.lemmas.List.{append-nil, drop_at, drop_all, reverse-append, length-reverse}
use Rattle.std.proofs.lemmas.Bool.{cases_eq}
use Rattle.arch_disk.specs.declared.call_log.Call.{Call}
use Rattle.arch_disk.specs.declared.call_log.Call.TheVariants.{Wrote, Synced}
use Rattle.arch_disk.specs.declared.call_log.Write.{Write}
use Rattle.arch_disk.specs.declared.files.File.{File}
use Rattle.arch_disk.specs.Image.{Image, overwritten}
use Rattle.arch_disk.specs.Files.{content_of, AreOthers}
use Rattle.arch_disk.specs.CallLog.{reads_of, images_of, first_calls, HoldsOnly}
use Rattle.arch_disk.specs.Steps.{at_itself, elsewhere}

-- the first calls, the oldest first, turned round
pub first_reversed : (t : ℕ) (calls : List Call) → t ≤ length calls → reverse (take t calls) ≡ first_calls t (reverse calls)
first_reversed t calls le =
    let whole : reverse calls ≡ reverse (drop t calls) ++ reverse (take t calls) = ap reverse (sym (take-append-drop t calls)) ∙ reverse-append (take t calls) (drop t calls) in
    let front : length (reverse (drop t calls)) ≡ length (reverse calls) - t = omega (arith, length-reverse (drop t calls), length-drop t calls, length-reverse calls) in
    sym (ap (drop (length (reverse calls) - t)) whole ∙ drop_at (reverse (drop t calls)) (reverse (take t calls)) (length (reverse calls) - t) front)

-- octets written over nothing or over themselves
write_whole : (at : ℕ) (octets old : List ℕ) → at ≡ 0 → (old ≡ octets) ⊎ (old ≡ []) → overwritten at octets old ≡ octets
write_whole at octets old zero_at (inl same) = subst (λ (n : ℕ). overwritten n octets old ≡ octets) (sym zero_at) (subst (λ (l : List ℕ). overwritten 0 octets l ≡ octets) (sym same) (ap (λ (l : List ℕ). octets ++ l) (drop_all (0 + length octets) octets (omega arith)) ∙ append-nil octets))
write_whole at octets old zero_at (inr none) = subst (λ (n : ℕ). overwritten n octets old ≡ octets) (sym zero_at) (subst (λ (l : List ℕ). overwritten 0 octets l ≡ octets) (sym none) (ap (λ (l : List ℕ). octets ++ l) (drop_all (0 + length octets) [] (omega arith)) ∙ append-nil octets))

-- the first i files of the list were written and synced
pub record IsSyncedAs (files : List File) (i : ℕ) (calls : List Call) : Type 0 where
  pub reads : (f : ℕ) → (reads_of calls f ≡ content_of files f) ⊎ ((reads_of calls f ≡ []) × AreOthers files f i)
  pub durable : (c : Image) → images_of calls c → (f : ℕ) → c f ≡ reads_of calls f

pub synced_none : (files : List File) (calls : List Call) → calls ≡ [] → IsSyncedAs files 0 calls
synced_none files calls is = subst (IsSyncedAs files 0) (sym is) (record { reads = λ f. inr (refl, tt); durable = λ c left f. left f })

-- a file has another number than the next one, or the same
others_more : (files : List File) (f i : ℕ) → i < length files → ((d : File) → (get_or files i d).number ≢ f) → AreOthers files f i → AreOthers files f (suc i)
others_more [] f i lt other others = absurd (omega arith)
others_more (x ∷ files) f zero lt other others = (other x, tt)
others_more (x ∷ files) f (suc i) lt other others = (others.0, others_more files f i (omega arith) other others.1)

pub synced_more : (files : List File) (i : ℕ) (calls : List Call) (w : Write) (number : ℕ) → i < length files → ((d : File) → number ≡ (get_or files i d).number) → w.file ≡ number → w.at ≡ 0 → w.octets.items ≡ content_of files number
    → IsSyncedAs files i calls → IsSyncedAs files (suc i) (Synced number ∷ Wrote w ∷ calls)
synced_more files i calls w number lt number_is file_is at_is octets_is so_far = record { reads = reads; durable = durable }
  where
    here : reads_of (Wrote w ∷ calls) number ≡ content_of files number
    here =
        let at : reads_of (Wrote w ∷ calls) w.file ≡ w.octets.items =
        at_itself w.file (overwritten w.at w.octets.items (reads_of calls w.file)) (reads_of calls w.file) ∙ write_whole w.at w.octets.items (reads_of calls w.file) at_is
        (⊎_elim (λ same. inl (same ∙ ap (content_of files) file_is ∙ sym octets_is)) (λ none. inr none.0) (so_far.reads w.file)) in
        ap (reads_of (Wrote w ∷ calls)) (sym file_is) ∙ at ∙ octets_is

    other : (f : ℕ) → f ≢ number → reads_of (Wrote w ∷ calls) f ≡ reads_of calls f
    other f ne = elsewhere w.file f (overwritten w.at w.octets.items (reads_of calls f)) (reads_of calls f) (λ e. ne (e ∙ file_is))

    reads : (f : ℕ) → (reads_of (Synced number ∷ Wrote w ∷ calls) f ≡ content_of files f) ⊎ ((reads_of (Synced number ∷ Wrote w ∷ calls) f ≡ []) × AreOthers files f (suc i))
    reads f = elim (cases_eq f number) [
      | inl is ↦ inl (ap (reads_of (Wrote w ∷ calls)) is ∙ here ∙ ap (content_of files) (sym is))
      | inr ne ↦ ⊎_elim (λ same. inl (other f ne ∙ same)) (λ none. inr (other f ne ∙ none.0, others_more files f i lt (λ d e. ne (sym e ∙ sym (number_is d))) none.1)) (so_far.reads f)
    ]

    durable : (c : Image) → images_of (Synced number ∷ Wrote w ∷ calls) c → (f : ℕ) → c f ≡ reads_of (Synced number ∷ Wrote w ∷ calls) f
    durable c left f = elim (cases_eq f number) [
      | inl is ↦ ap c is ∙ left.1 ∙ ap (reads_of (Wrote w ∷ calls)) (sym is)
      | inr ne ↦ left.0.2.others f (λ e. ne (e ∙ file_is)) ∙ so_far.durable left.0.0 left.0.1 f ∙ sym (other f ne)
    ]

pub synced_all : (files : List File) (calls : List Call) → ((f : ℕ) → AreOthers files f (length files) → content_of files f ≡ []) → IsSyncedAs files (length files) calls → HoldsOnly calls (content_of files)
synced_all files calls none so_far =
    let reads : (f : ℕ) → reads_of calls f ≡ content_of files f = λ f. ⊎_elim (λ same. same) (λ nothing. nothing.0 ∙ sym (none f nothing.1)) (so_far.reads f) in
    record { reads = reads; durable = λ c left f. so_far.durable c left f ∙ reads f }
