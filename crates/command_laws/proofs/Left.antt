-- What the end of a plan leaves of the disk and of the archive.
use Rattle.std.proofs.Common.{◌≡◌, ◌⊎◌, ◌∙◌, inl, inr, List, [], length, Bool, true, false, Option, Some, refl, sym, ap, subst, arith}
use Rattle.std.specs.Prelude.{Contains, IsSome, IsTrue}
use Rattle.arch_disk.specs.Image.{Image}
use Rattle.arch_disk.specs.Disk.{Device, LeavesOnly}
use Rattle.arch_disk.proofs.Moments.{both, joins, started, weakens}
use Rattle.refusals.specs.declared.refusal.Refusal.{Refusal}
use Rattle.history_items.specs.declared.items.Item.{Item}
use Rattle.archive_store.specs.Entries.{FilledArchive}
use Rattle.archive_store.specs.Stands.{IsSoundImage, StandsFilled}
use Rattle.command_runs.specs.declared.report.Report.{Report}
use Rattle.command_runs.specs.Extension.{KeepsFills}
use Rattle.command_runs.specs.ReadOnly.{IsOpenedThen, IsReadAsBefore, IsReadOnly}
use Rattle.command_runs.specs.Report.{read_only, unopened}
use Rattle.command_laws.specs.HandedBack.{IsHandedBack}
use Rattle.command_laws.specs.Calls.{Call, IsSameArchive, IsUnopened, LeavesDisk, LeavesAll, LeavesSinceOpening, Prints}

-- a call says that an archive was opened, or that none was
pub opened_once : {Q : Type 0} (b : Bool) → b ≡ true → b ≡ false → Q
opened_once b is other = let never : ◌≡◌ {A = Bool} true false = sym is ∙ other in absurd (cc (never))

pub none_contained : {X : Type 0} (x : X) → Contains {X = X} [] x → ⊥
none_contained x (place, below, is) = omega (arith, below)

module _ {D : Type 0} (device : Device D) (e : Call D) where
  -- nothing was asked of the disk
  pub not_asked : e.disk' ≡ e.disk → IsReadAsBefore device e.disk e.disk'
  not_asked same = subst (λ (disk : D). IsReadAsBefore device e.disk disk) (sym same) (record { reads = refl; images = started device e.disk (device.images e.disk) (λ c now. now) })

  pub untouched : IsReadAsBefore device e.disk e.disk' → LeavesDisk device e
  untouched kept = record { reads = kept.reads; images = kept.images }

  pub is_unopened : (refusal : Refusal) → e.report ≡ unopened (Some refusal) → Prints e [] → IsUnopened e
  is_unopened refusal report silent = let is : e.report.refusal ≡ Some refusal = ap (λ (r : Report). r.refusal) report in record {
    refused = subst IsSome (sym is) refl;
    report = report ∙ sym (ap unopened is);
    silent = silent;
  }

  pub since_opening : (P Q : Image → Type 0) → IsOpenedThen device e.disk e.disk' P → ((c : Image) → P c → Q c) → LeavesSinceOpening device e Q
  since_opening P Q then has = record { opened = then.opened; before = then.before; since = weakens device then.opened e.disk' P Q then.since has; sound = then.sound }

  -- no archive was opened
  pub all_unopened : (refusal : Refusal) → e.report ≡ unopened (Some refusal) → Prints e [] → IsReadAsBefore device e.disk e.disk' → LeavesAll device e
  all_unopened refusal report silent kept = let closed : e.report.opened ≡ false = ap (λ (r : Report). r.opened) report in record {
    reads = kept.reads;
    unopened = λ no. untouched kept;
    opened = λ is. opened_once e.report.opened is closed;
    report = inl (is_unopened refusal report silent);
  }

  -- one was, and left as it was
  pub all_opened : (filled : FilledArchive) → IsReadOnly device e.disk e.disk' filled → (refusal : Option Refusal) → e.report ≡ read_only refusal (length filled.plain.history) → LeavesAll device e
  all_opened filled only refusal report =
      let is : e.report.refusal ≡ refusal = ap (λ (r : Report). r.refusal) report in
      let is_open : e.report.opened ≡ true = ap (λ (r : Report). r.opened) report in record {
        reads = only.reads;
        unopened = λ no. opened_once e.report.opened is_open no;
        opened = λ yes'. since_opening (λ (c : Image). StandsFilled c filled) (IsSameArchive device e) only.images (λ c stands. (filled, only.stands, stands));
        report = inr (filled, only.stands, report ∙ ap (λ (r : Option Refusal). read_only r (length filled.plain.history)) (sym is));
      }

  -- it is handed back as it was,
  abbrev pub read_back : (before : FilledArchive) → IsReadOnly device e.disk e.disk' before → IsHandedBack device e before before.plain.history
  read_back before only = record {
    fillings = before.fillings;
    adds = λ i. inl refl;
    reads = subst (λ (i : Image). StandsFilled i before) (sym only.reads) only.stands;
    images = only.now;
  }

  -- or with more fills
  abbrev pub kept_back : (before : FilledArchive) (history : List Item) → KeepsFills device e.disk' before history → IsHandedBack device e before history
  kept_back before history kept = record { fillings = kept.fillings; adds = kept.adds; reads = kept.durable.reads; images = kept.durable.now }

  -- where each image of the disk handed in is sound and has Q, so is each of a moment: before the opening's syncs and since
  sound_since : IsTrue device.is_transparent → (Q : Image → Type 0) → LeavesSinceOpening device e Q → ((c : Image) → device.images e.disk c → IsSoundImage c × Q c)
      → LeavesOnly device e.disk e.disk' (λ c. IsSoundImage c × Q c)
  sound_since known Q then all =
      joins device e.disk then.opened e.disk' (λ (c : Image). IsSoundImage c × Q c) (λ (c : Image). IsSoundImage c × Q c)
      (weakens device e.disk then.opened (device.images e.disk) (λ (c : Image). IsSoundImage c × Q c) then.before all)
      (both device then.opened e.disk' IsSoundImage Q (then.sound (all (device.reads e.disk) (device.reads_as_image e.disk known)).0) then.since)
      (λ c s. s)

  -- and where the disk was left as it was
  pub sound_moments : IsTrue device.is_transparent → (Q : Image → Type 0) → LeavesDisk device e ⊎ LeavesSinceOpening device e Q → ((c : Image) → device.images e.disk c → IsSoundImage c × Q c)
      → LeavesOnly device e.disk e.disk' (λ c. IsSoundImage c × Q c)
  sound_moments known Q (inl left) all = weakens device e.disk e.disk' (device.images e.disk) (λ (c : Image). IsSoundImage c × Q c) left.images all
  sound_moments known Q (inr then) all = sound_since known Q then all
