-- Fill lists that note faults of reads, which tell of no failed write.
use Rattle.std.proofs.Common.{◌≡◌, ◌∙◌, ℕ, ◌≤◌, ◌^◌, ◌-◌, Bool, true, false, List, [], ◌∷◌, ◌++◌, Option, None, refl, sym, ap, subst, append_assoc, arith}
use Rattle.std.specs.Prelude.{option_map}
use Rattle.std.specs.List.{AllByRecursion, cons_option}
use Rattle.arch_disk.specs.Disk.{Device, raised}
use Rattle.history_items.specs.declared.fills.Addition.{Addition}
use Rattle.history_items.specs.declared.fills.Addition.TheVariants.{Nothing}
use Rattle.history_items.specs.declared.fills.Fill.{Fill}
use Rattle.history_items.specs.declared.fills.Fill.TheVariants.{Fault}
use Rattle.history_items.specs.Noted.{NotedFault, items_of_fault}
use Rattle.history_items.specs.Fills.{CountsRise, Rising, above, first_pending, noted_faults, pending_fault_of, reopened, rows_of_faults, unacknowledged_in}
use Rattle.store_fills.specs.Faults.{faults_in}
use Rattle.store_fills.proofs.Faults.{Rising-in, faults_in-reopened, pending_fault_of-in, rows_of_faults-in, unacknowledged-in}
use Rattle.archive_store.specs.StoreView.{FaultInvariant, StoreView}
use Rattle.archive_store.specs.UnreadRows.{IsFaultOfRead}
use Rattle.command_runs.specs.Healing.{HasOneFault}

-- all faults of a fill list are of reads
abbrev pub NotesReads : List Fill → Type 0
NotesReads fills = AllByRecursion IsFaultOfRead (faults_in fills)

-- ---- lists of such faults

pub both_reads : (first then : List Fill) → AllByRecursion IsFaultOfRead first → AllByRecursion IsFaultOfRead then → AllByRecursion IsFaultOfRead (first ++ then)
both_reads [] then all more = more
both_reads (item ∷ first) then all more = (all.0, both_reads first then all.1 more)

pub first_reads : (first then : List Fill) → AllByRecursion IsFaultOfRead (first ++ then) → AllByRecursion IsFaultOfRead first
first_reads [] then all = tt
first_reads (item ∷ first) then all = (all.0, first_reads first then all.1)

pub then_reads : (first then : List Fill) → AllByRecursion IsFaultOfRead (first ++ then) → AllByRecursion IsFaultOfRead then
then_reads [] then all = all
then_reads (item ∷ first) then all = then_reads first then all.1

-- each of them is one
pub noted_reads : (reads : List Fill) → AllByRecursion IsFaultOfRead reads → NotesReads reads
noted_reads [] all = tt
noted_reads (item ∷ reads) all = subst (λ (x : Fill). NotesReads (x ∷ reads)) (sym all.0.1) ((all.0.0, refl), noted_reads reads all.1)

none_pending : (reads : List Fill) → AllByRecursion IsFaultOfRead reads → first_pending (noted_faults reads) ≡ None
none_pending [] all = refl
none_pending (item ∷ reads) all = subst (λ (x : Fill). first_pending (noted_faults (x ∷ reads)) ≡ None) (sym all.0.1) (none_pending reads all.1)

no_rows : (reads : List Fill) → AllByRecursion IsFaultOfRead reads → rows_of_faults reads ≡ []
no_rows [] all = refl
no_rows (item ∷ reads) all = subst (λ (x : Fill). rows_of_faults (x ∷ reads) ≡ []) (sym all.0.1) (no_rows reads all.1)

-- no failed write is pending
pub reads_pending : (fills : List Fill) → NotesReads fills → pending_fault_of fills ≡ None
reads_pending fills all = pending_fault_of-in fills ∙ ap (λ (o : Option NotedFault). option_map (λ (fault : NotedFault). fault.count) o) (none_pending (faults_in fills) all)

-- and no fault holds rows
pub reads_rows : (fills : List Fill) → NotesReads fills → rows_of_faults fills ≡ []
reads_rows fills all = rows_of_faults-in fills ∙ no_rows (faults_in fills) all

-- a fill list that has none notes no others
pub none_notes : (fills : List Fill) → faults_in fills ≡ [] → NotesReads fills
none_notes fills none = subst (AllByRecursion IsFaultOfRead) (sym none) tt

-- ---- one fault that is none of them

module _ (count : ℕ) (wrote : Bool) (addition : Addition) where
  abbrev fault : Fill
  fault = Fault count wrote addition

  one_pending : (behind : List Fill) → AllByRecursion IsFaultOfRead behind → (before : List Fill) → AllByRecursion IsFaultOfRead before
      → first_pending (noted_faults (before ++ fault ∷ behind)) ≡ first_pending (noted_faults (fault ∷ []))
  one_pending behind all [] tt = go wrote
    where
      go : (w : Bool) → first_pending (noted_faults (Fault count w addition ∷ behind)) ≡ first_pending (noted_faults (Fault count w addition ∷ []))
      go true = refl
      go false = none_pending behind all
  one_pending behind all (item ∷ before) reads =
      subst (λ (x : Fill). first_pending (noted_faults (x ∷ (before ++ fault ∷ behind))) ≡ first_pending (noted_faults (fault ∷ []))) (sym reads.0.1) (one_pending behind all before reads.1)

  one_rows : (behind : List Fill) → AllByRecursion IsFaultOfRead behind → (before : List Fill) → AllByRecursion IsFaultOfRead before → rows_of_faults (before ++ fault ∷ behind) ≡ rows_of_faults (fault ∷ [])
  one_rows behind all [] tt = ap (cons_option (items_of_fault (record { count = count; wrote = wrote; unacknowledged = addition }))) (no_rows behind all)
  one_rows behind all (item ∷ before) reads = subst (λ (x : Fill). rows_of_faults (x ∷ (before ++ fault ∷ behind)) ≡ rows_of_faults (fault ∷ [])) (sym reads.0.1) (one_rows behind all before reads.1)

  one_rises : (behind before : List Fill) (low high : ℕ) → low ≤ 2 ^ 64 - 1 → AllByRecursion IsFaultOfRead before → CountsRise low high (noted_faults (before ++ fault ∷ behind)) → (low ≤ count) × (count ≤ high)
  one_rises behind [] low high small tt rises = (rises.0, rises.1)
  one_rises behind (item ∷ before) low high small reads rises =
      let here = subst (λ (x : Fill). CountsRise low high (noted_faults (x ∷ (before ++ fault ∷ behind)))) reads.0.1 rises in
      let next = one_rises behind before (above reads.0.0) high (omega arith) reads.1 here.2 in
      (omega (arith, small, here.0, next.0), next.1)

  one_reopened : (behind : List Fill) → AllByRecursion IsFaultOfRead behind → (before : List Fill) → AllByRecursion IsFaultOfRead before → reopened (before ++ fault ∷ behind) ≡ before ++ Fault count false addition ∷ behind
  one_reopened behind all [] tt = ap (λ (l : List Fill). Fault count false addition ∷ l) (same_reads behind all)
    where
      same_reads : (reads : List Fill) → AllByRecursion IsFaultOfRead reads → reopened reads ≡ reads
      same_reads [] all = refl
      same_reads (item ∷ reads) all =
          subst (λ (x : Fill). reopened (x ∷ reads) ≡ x ∷ reads) (sym all.0.1) (ap (λ (l : List Fill). Fault all.0.0 false Nothing ∷ l) (same_reads reads all.1))
  one_reopened behind all (item ∷ before) reads =
      subst (λ (x : Fill). reopened (x ∷ (before ++ fault ∷ behind)) ≡ x ∷ (before ++ Fault count false addition ∷ behind)) (sym reads.0.1)
      (ap (λ (l : List Fill). Fault reads.0.0 false Nothing ∷ l) (one_reopened behind all before reads.1))

  module _ (fills : List Fill) (one : HasOneFault fills count wrote addition) where
    before_reads : AllByRecursion IsFaultOfRead one.before
    before_reads = first_reads one.before one.behind one.each

    behind_reads : AllByRecursion IsFaultOfRead one.behind
    behind_reads = then_reads one.before one.behind one.each

    pending_alike : first_pending (noted_faults (faults_in fills)) ≡ first_pending (noted_faults (fault ∷ []))
    pending_alike = ap (λ (l : List Fill). first_pending (noted_faults l)) one.faults ∙ one_pending one.behind behind_reads one.before before_reads

    -- it alone may be pending,
    pub one_pending_is : pending_fault_of fills ≡ pending_fault_of (fault ∷ [])
    one_pending_is = pending_fault_of-in fills ∙ ap (λ (o : Option NotedFault). option_map (λ (f : NotedFault). f.count) o) pending_alike

    pub one_unacknowledged_is : unacknowledged_in fills ≡ unacknowledged_in (fault ∷ [])
    one_unacknowledged_is = unacknowledged-in fills ∙ ap (λ (o : Option NotedFault). option_map (λ (f : NotedFault). f.unacknowledged) o) pending_alike

    -- and hold rows,
    pub one_rows_is : rows_of_faults fills ≡ rows_of_faults (fault ∷ [])
    one_rows_is = rows_of_faults-in fills ∙ ap rows_of_faults one.faults ∙ one_rows one.behind behind_reads one.before before_reads

    -- and stands at a count that the disk came to
    pub one_counted : (low high : ℕ) → low ≤ 2 ^ 64 - 1 → Rising low high fills → (low ≤ count) × (count ≤ high)
    one_counted low high small rising =
        one_rises one.behind one.before low high small before_reads (subst (λ (l : List Fill). Rising low high l) one.faults (Rising-in fills low high rising))

    -- it is cleared by a reopen that succeeds
    pub one_cleared : HasOneFault (reopened fills) count false addition
    one_cleared = record {
      before = one.before;
      behind = one.behind;
      each = one.each;
      faults = faults_in-reopened fills ∙ ap reopened one.faults ∙ one_reopened one.behind behind_reads one.before before_reads;
    }

    -- faults of reads come behind it
    pub one_with_reads : (more reads : List Fill) → AllByRecursion IsFaultOfRead reads → faults_in more ≡ faults_in fills ++ reads → HasOneFault more count wrote addition
    one_with_reads more reads all is = record {
      before = one.before;
      behind = one.behind ++ reads;
      each = both_reads one.before (one.behind ++ reads) before_reads (both_reads one.behind reads behind_reads all);
      faults = is ∙ ap (λ (l : List Fill). l ++ reads) one.faults ∙ append_assoc one.before (fault ∷ one.behind) reads;
    }

-- behind faults of reads one came, and then again such ones
pub one_behind : (old new before behind : List Fill) (count : ℕ) (wrote : Bool) (addition : Addition) → NotesReads old → AllByRecursion IsFaultOfRead (before ++ behind)
    → faults_in new ≡ faults_in old ++ (before ++ Fault count wrote addition ∷ behind) → HasOneFault new count wrote addition
one_behind old new before behind count wrote addition reads each is = record {
  before = faults_in old ++ before;
  behind = behind;
  each = subst (AllByRecursion IsFaultOfRead) (sym (append_assoc (faults_in old) before behind)) (both_reads (faults_in old) (before ++ behind) reads each);
  faults = is ∙ sym (append_assoc (faults_in old) before (Fault count wrote addition ∷ behind));
}

-- a store that notes a fault has more faults than at its opening
pub more_faults : {D : Type 0} (device : Device D) (store : StoreView D) (count : ℕ) (wrote : Bool) (addition : Addition) → FaultInvariant device store → HasOneFault store.fills count wrote addition
    → raised (device.fault_count store.opened) ≤ device.fault_count store.disk
more_faults device store count wrote addition keeps one =
    let counted = one_counted count wrote addition store.fills one (above (device.fault_count store.opened)) (device.fault_count store.disk) (omega arith) keeps.rising in
    omega (arith, counted.0, counted.1)
