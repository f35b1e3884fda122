-- How a run of calls of a disk goes on.
use Rattle.std.proofs.Common.{◌≡◌, ℕ, ◌≤◌, inl, inr, ⊎_elim, arith, refl, ◌∙◌}
use Rattle.arch_disk.specs.Image.{Image}
use Rattle.arch_disk.specs.Disk.{Device, Elapses, LeavesOnly, LeavesOthers, AddsNoImage, IsOldBut, OnlyReads}

module _ {D : Type 0} (device : Device D) where
  -- before the first call
  pub started : (old : D) (P : Image → Type 0) → ((c : Image) → device.images old c → P c) → LeavesOnly device old old P
  started old P here = record { later = omega arith; each = λ c left. here c (device.only_now old c left); before = λ t c le left. inl left }

  -- one call more, after which a crash leaves what has P
  pub goes_on : (old mid new : D) (P : Image → Type 0) → LeavesOnly device old mid P → Elapses device mid new → ((c : Image) → device.images new c → P c) → LeavesOnly device old new P
  goes_on old mid new P so_far time here = record {
    later = omega (arith, so_far.later, time.later);
    each = λ c left. ⊎_elim (so_far.each c) (here c) (time.nothing_else (device.moment old) c so_far.later left);
    before = λ t c le left. ⊎_elim (so_far.before t c le) (λ now. inr (here c now)) (time.nothing_else t c (omega (arith, le, so_far.later)) left);
  }

  -- a whole run more
  pub joins : (old mid new : D) (P Q : Image → Type 0) → LeavesOnly device old mid P → LeavesOnly device mid new Q → ((c : Image) → Q c → P c) → LeavesOnly device old new P
  joins old mid new P Q first second here = record {
    later = omega (arith, first.later, second.later);
    each = λ c left. ⊎_elim (first.each c) (λ now. here c now) (second.before (device.moment old) c first.later left);
    before = λ t c le left. ⊎_elim (first.before t c le) (λ now. inr (here c now)) (second.before t c (omega (arith, le, first.later)) left);
  }

  pub weakens : (old new : D) (P Q : Image → Type 0) → LeavesOnly device old new P → ((c : Image) → P c → Q c) → LeavesOnly device old new Q
  weakens old new P Q run here = record {
    later = run.later;
    each = λ c left. here c (run.each c left);
    before = λ t c le left. ⊎_elim inl (λ now. inr (here c now)) (run.before t c le left);
  }

  -- what two clauses say of the same moments
  pub both : (old new : D) (P Q : Image → Type 0) → LeavesOnly device old new P → LeavesOnly device old new Q → LeavesOnly device old new (λ c. P c × Q c)
  both old new P Q p q = record {
    later = p.later;
    each = λ c left. (p.each c left, q.each c left);
    before = λ t c le left. ⊎_elim (λ was. inl was) (λ here. ⊎_elim (λ was. inl was) (λ too. inr (here, too)) (q.before t c le left)) (p.before t c le left);
  }

  -- an image of the end of a run is one of its images
  pub at_end : (old new : D) (P : Image → Type 0) → LeavesOnly device old new P → (c : Image) → device.images new c → P c
  at_end old new P run c now = run.each c (device.now_counts new (device.moment old) c run.later now)

  -- no call
  pub looked_none : (old : D) → OnlyReads device old old
  looked_none old = record { reads_same = refl; moments = started old (device.images old) (λ c now. now); images = λ c now. now; later = omega arith; no_write = refl }

  -- one call more
  pub looked_more : (old mid new : D) → OnlyReads device old mid → device.reads new ≡ device.reads mid → AddsNoImage device mid new → Elapses device mid new → device.fault_count mid ≤ device.fault_count new → device.failed_writes new ≡ device.failed_writes mid → OnlyReads device old new
  looked_more old mid new so_far same images time later no_write = record {
    reads_same = same ∙ so_far.reads_same;
    moments = goes_on old mid new (device.images old) so_far.moments time (λ c now. so_far.images c (images c now));
    images = λ c now. so_far.images c (images c now);
    later = omega (arith, so_far.later, later);
    no_write = no_write ∙ so_far.no_write;
  }

  -- a whole run more
  pub looked_on : (old mid new : D) → OnlyReads device old mid → OnlyReads device mid new → OnlyReads device old new
  looked_on old mid new first second = record {
    reads_same = second.reads_same ∙ first.reads_same;
    moments = joins old mid new (device.images old) (device.images mid) first.moments second.moments (λ c now. first.images c now);
    images = λ c now. first.images c (second.images c now);
    later = omega (arith, first.later, second.later);
    no_write = second.no_write ∙ first.no_write;
  }

  -- other files over two runs of calls
  pub elsewhere_on : (file : ℕ) (old mid new : D) → LeavesOnly device old mid (IsOldBut device file old) → LeavesOnly device mid new (IsOldBut device file mid) → LeavesOnly device old new (IsOldBut device file old)
  elsewhere_on file old mid new first second =
      joins old mid new _ _ first second
      (λ c other. let from = at_end old mid _ first other.0 other.1 in (from.0, from.1, λ g ne. other.2 g ne ∙ from.2 g ne))

  pub others_on : (file : ℕ) (old mid new : D) → LeavesOthers device file old mid → LeavesOthers device file mid new → LeavesOthers device file old new
  others_on file old mid new first second = record {
    reads = λ transparent g ne. second.reads transparent g ne ∙ first.reads transparent g ne;
    crash = elsewhere_on file old mid new first.crash second.crash;
  }
