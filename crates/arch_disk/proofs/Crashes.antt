-- A crash of a kind leaves one of the images of its moment.
use Rattle.std.proofs.Common.{◌≡◌, inl, inr, ℕ, suc, ◌+◌, ◌-◌, ◌<◌, ◌≤◌, min, List, [], ◌∷◌, ◌++◌, length, get_or, take, drop, reverse, refl, sym, ◌∙◌, ap, subst, arith, length-append, length-drop}
use Rattle.std.specs.Prelude.{Bool, true, false, if◌then◌else◌, ◌==◌, replicate}
use Rattle.std.proofs.lemmas.List.{length-take, length-replicate, take_all, take-take, drop_all, reverse-append}
use Rattle.std.proofs.Math.Seq.{take-suc}
use Rattle.std.proofs.lemmas.Bool.{cases_lt}
use Rattle.arch_disk.specs.declared.crash.Unsynced.{Unsynced}
use Rattle.arch_disk.specs.declared.crash.Unsynced.TheVariants.{Before, Written, Zeros, Ones}
use Rattle.arch_disk.specs.declared.crash.Length.{Length}
use Rattle.arch_disk.specs.declared.crash.Length.TheVariants.{Old, New}
use Rattle.arch_disk.specs.declared.crash.Crash.{Crash}
use Rattle.arch_disk.specs.declared.call_log.Call.{Call}
use Rattle.arch_disk.specs.declared.call_log.Call.TheVariants.{Wrote, FailedWrite, Cut, FailedCut, Synced}
use Rattle.arch_disk.specs.Image.{Image, Torn, Shortened, InFile, overwritten}
use Rattle.arch_disk.specs.CallLog.{reads_of, images_of, since_of, first_calls}
use Rattle.arch_disk.specs.Crash.{filling, at_length, written_as, cut_as, crash_of}
use Rattle.arch_disk.specs.Laws.{reads_as_image}
use Rattle.arch_disk.specs.Steps.{at_itself, in_file, torn_done, cut_done, length-overwritten}

length-filling : (unsynced : Unsynced) (written here : List ℕ) → length (filling unsynced written here) ≡ length written
length-filling Before written here = omega (arith, length-append (take (length written) here) (replicate (length written - length here) 0), length-take (length written) here, length-replicate {A = ℕ} (length written - length here) 0)
length-filling Written written here = refl
length-filling Zeros written here = length-replicate {A = ℕ} (length written) 0
length-filling Ones written here = length-replicate {A = ℕ} (length written) 255

-- a torn file cut back to its old length is torn too
torn_short : (at n : ℕ) (old new : List ℕ) → Torn at n old new → Torn at n old (take (length old) new)
torn_short at n old new torn = record {
  no_shorter = omega (arith, length-take (length old) new, torn.no_shorter);
  no_longer = omega (arith, length-take (length old) new);
  before = take-take (min at (length old)) (length old) new (omega arith) ∙ torn.before;
  after = elim (cases_lt (length old) (at + n)) [
    | inl lt ↦ drop_all (at + n) (take (length old) new) (omega (arith, length-take (length old) new)) ∙ sym (drop_all (at + n) old (omega arith))
    | inr le ↦ ap (drop (at + n)) (take_all (length old) new (omega (arith, torn.no_longer))) ∙ torn.after
  ];
}

written_torn : (crash : Crash) (at : ℕ) (written old : List ℕ) → Torn at (length written) old (written_as crash at written old)
written_torn crash at written old = go crash.length
  where
    octets : List ℕ
    octets = filling crash.unsynced written (drop at old)

    done : Torn at (length written) old (overwritten at octets old)
    done = subst (λ (n : ℕ). Torn at n old (overwritten at octets old)) (length-filling crash.unsynced written (drop at old)) (torn_done at octets old)

    go : (len : Length) → Torn at (length written) old (at_length len (length old) (overwritten at octets old))
    go Old = torn_short at (length written) old (overwritten at octets old) done
    go New = done

cut_shortened : (crash : Crash) (n : ℕ) (old : List ℕ) → Shortened n old (cut_as crash n old)
cut_shortened crash n old = go crash.length
  where
    go : (len : Length) → Shortened n old (elim len [ Old ↦ overwritten n (filling crash.unsynced (drop n old) (drop n old)) old | New ↦ take n old ])
    go Old =
        let octets = filling crash.unsynced (drop n old) (drop n old) in
        let size = length-filling crash.unsynced (drop n old) (drop n old) in
        let whole = length-overwritten n octets old in
        record {
          no_shorter = omega (arith, size, whole, length-drop n old);
          no_longer = omega (arith, size, whole, length-drop n old);
          front = (torn_done n octets old).before;
        }
    go New = cut_done n old

-- two images of the same calls, taken together by a choice of one file
choose : (step : List ℕ → List ℕ → Type 0) (b : Bool) (x y x' y' : List ℕ) → step x y → step x' y' → step (if b then x else x') (if b then y else y')
choose step true x y x' y' p q = p
choose step false x y x' y' p q = q

chosen : (b : Bool) (x y z : List ℕ) → x ≡ z → y ≡ z → (if b then x else y) ≡ z
chosen true x y z p q = p
chosen false x y z p q = q

abbrev mix : ℕ → Image → Image → Image
mix file c d = λ g. if g == file then c g else d g

mix_step : (step : List ℕ → List ℕ → Type 0) (file at : ℕ) (c c' d d' : Image) → InFile step at c c' → InFile step at d d' → InFile step at (mix file c d) (mix file c' d')
mix_step step file at c c' d d' p q = record {
  here = choose step (at == file) (c at) (c' at) (d at) (d' at) p.here q.here;
  others = λ g ne. ap (λ (l : List ℕ). if g == file then l else d' g) (p.others g ne) ∙ ap (λ (l : List ℕ). if g == file then c g else l) (q.others g ne);
}

mixed : (file : ℕ) (calls : List Call) (c d : Image) → images_of calls c → images_of calls d → images_of calls (mix file c d)
mixed file [] c d p q = λ f. chosen (f == file) (c f) (d f) [] (p f) (q f)
mixed file (Wrote w ∷ past) c d p q = (mix file p.0 q.0, mixed file past p.0 q.0 p.1 q.1, mix_step (Torn w.at (length w.octets.items)) file w.file p.0 c q.0 d p.2 q.2)
mixed file (FailedWrite w ∷ past) c d p q = (mix file p.0 q.0, mixed file past p.0 q.0 p.1 q.1, mix_step (Torn w.at (length w.octets.items)) file w.file p.0 c q.0 d p.2 q.2)
mixed file (Cut at len ∷ past) c d p q = (mix file p.0 q.0, mixed file past p.0 q.0 p.1 q.1, mix_step (Shortened len) file at p.0 c q.0 d p.2 q.2)
mixed file (FailedCut at len ∷ past) c d p q = (mix file p.0 q.0, mixed file past p.0 q.0 p.1 q.1, mix_step (Shortened len) file at p.0 c q.0 d p.2 q.2)
mixed file (Synced at ∷ past) c d p q = (mixed file past c d p.0 q.0, chosen (at == file) (c at) (d at) (reads_of past at) p.1 q.1)

pub crash_is_image : (crash : Crash) (calls : List Call) → images_of calls (crash_of crash calls)
crash_is_image crash [] = λ f. refl
crash_is_image crash (Wrote w ∷ past) = (crash_of crash past, crash_is_image crash past, in_file (Torn w.at (length w.octets.items)) w.file (written_as crash w.at w.octets.items) (crash_of crash past) (written_torn crash w.at w.octets.items (crash_of crash past w.file)))
crash_is_image crash (FailedWrite w ∷ past) = (crash_of crash past, crash_is_image crash past, in_file (Torn w.at (length w.octets.items)) w.file (written_as crash w.at w.octets.items) (crash_of crash past) (written_torn crash w.at w.octets.items (crash_of crash past w.file)))
crash_is_image crash (Cut file len ∷ past) = (crash_of crash past, crash_is_image crash past, in_file (Shortened len) file (cut_as crash len) (crash_of crash past) (cut_shortened crash len (crash_of crash past file)))
crash_is_image crash (FailedCut file len ∷ past) = (crash_of crash past, crash_is_image crash past, in_file (Shortened len) file (cut_as crash len) (crash_of crash past) (cut_shortened crash len (crash_of crash past file)))
crash_is_image crash (Synced file ∷ past) = (mixed file past (reads_of past) (crash_of crash past) (reads_as_image past) (crash_is_image crash past), at_itself file (reads_of past file) (crash_of crash past file))

-- an image is what its files hold
step_same : (step : List ℕ → List ℕ → Type 0) (file : ℕ) (old c d : Image) → ((f : ℕ) → d f ≡ c f) → InFile step file old c → InFile step file old d
step_same step file old c d same p = record { here = subst (step (old file)) (sym (same file)) p.here; others = λ g ne. same g ∙ p.others g ne }

pub images_same : (calls : List Call) (c d : Image) → ((f : ℕ) → d f ≡ c f) → images_of calls c → images_of calls d
images_same [] c d same p = λ f. same f ∙ p f
images_same (Wrote w ∷ past) c d same p = (p.0, p.1, step_same (Torn w.at (length w.octets.items)) w.file p.0 c d same p.2)
images_same (FailedWrite w ∷ past) c d same p = (p.0, p.1, step_same (Torn w.at (length w.octets.items)) w.file p.0 c d same p.2)
images_same (Cut file len ∷ past) c d same p = (p.0, p.1, step_same (Shortened len) file p.0 c d same p.2)
images_same (FailedCut file len ∷ past) c d same p = (p.0, p.1, step_same (Shortened len) file p.0 c d same p.2)
images_same (Synced file ∷ past) c d same p = (images_same past c d same p.0, same file ∙ p.1)

-- an image of an earlier moment is one since that moment
pub since_first : (calls : List Call) (t : ℕ) (c : Image) → t ≤ length calls → images_of (first_calls t calls) c → since_of calls t c
since_first [] t c le p = subst (λ (l : List Call). images_of l c) (drop_all (0 - t) [] (omega arith)) p
since_first (call ∷ past) t c le p = elim (cases_lt (length past) t) [
  | inl lt ↦
      let zero_left : length (call ∷ past) - t ≡ 0 = omega arith in
      inl (subst (λ (n : ℕ). images_of (drop n (call ∷ past)) c) zero_left p)
  | inr before ↦
      let one_more : length (call ∷ past) - t ≡ suc (length past - t) = omega arith in
      let earlier : images_of (first_calls t past) c = subst (λ (n : ℕ). images_of (drop n (call ∷ past)) c) one_more p in
      inr (before, since_first past t c before earlier)
]

-- one call more, the oldest first, turned round
pub more_reversed : (calls : List Call) (i : ℕ) (call : Call) → i < length calls → call ≡ get_or calls i call → reverse (take (i + 1) calls) ≡ call ∷ reverse (take i calls)
more_reversed calls i call lt is =
    let one : i + 1 ≡ suc i = omega arith in
    ap (λ (n : ℕ). reverse (take n calls)) one ∙ ap reverse (take-suc calls i call lt ∙ ap (λ (x : Call). take i calls ++ (x ∷ [])) (sym is)) ∙ reverse-append (take i calls) (call ∷ [])
