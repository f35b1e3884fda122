-- What an opening of all pages is refused for.
use Rattle.std.proofs.Common.{◌≡◌, inl, inr, ℕ, ◌<◌, ◌≤◌, true, false, List, length, Result, Ok, Err, sym, ap, ◌∙◌, subst, arith}
use Rattle.std.specs.Prelude.{IfErr, IfOk, IsErrAnd, IsTrue}
use Rattle.arch_disk.specs.Image.{Image}
use Rattle.arch_disk.specs.Disk.{AddsNoImage, Device, IsDurable, NoFault, NoWriteFailed, raised}
use Rattle.run_pages.specs.Placed.{Placed}
use Rattle.run_pages.specs.Runs.{entries_from, footer_of_pages}
use Rattle.run_pages.specs.Damage.{HasNoIndex, IsBrokenPage}
use Rattle.run_pages.specs.declared.footer.Footer.{Footer}
use Rattle.run_pages.proofs.Ends.{index_once}
use Rattle.run_pages.proofs.RunIndex.{run_has_index}
use Rattle.run_pages.proofs.WholePages.{whole_run}
use Rattle.run_files.specs.Opening.{IsOpenRefusal, IsPageReadRefusal, IsReadingRun, IsRunBeginRefusal, IsRunFinished, IsRunOpened, IsRunStartRefusal, StandsInRun, file_opened, footer_rows, index_pages, most_run_rows, pages_read, rows_of_pages}
use Rattle.run_files.specs.Run.{IsRunInMemory, run_file}
use Rattle.run_files.specs.declared.run.Run.{Run}
use Rattle.run_files.specs.declared.opening.RunOpening.{RunOpening}
use Rattle.run_files.specs.declared.fault.RunFault.{RunFault}
use Rattle.run_files.specs.declared.fault.RunFault.TheVariants.{Damaged, DiskFault, Limit, OutOfMemory}

pub handed_on : {T E : Type 0} (result : Result T E) (fault : E) (P : E → Type 0) → IsErrAnd result (λ e. e ≡ fault) → P fault → IfErr result P
handed_on (Ok x) fault P is here = absurd is
handed_on (Err e) fault P is here = subst P (sym is) here

pub err_too : {T E : Type 0} (result : Result T E) (P Q : E → Type 0) → ((e : E) → P e → Q e) → IfErr result P → IfErr result Q
err_too (Ok x) P Q then h = tt
err_too (Err e) P Q then h = then e h

pub ok_too : {T E : Type 0} (result : Result T E) (P Q : T → Type 0) → ((x : T) → P x → Q x) → IfOk result P → IfOk result Q
ok_too (Ok x) P Q then h = then x h
ok_too (Err e) P Q then h = tt

module _ {D : Type 0} (device : Device D) (file : ℕ) where
  pub not_started : (before mid after : D) (fault : RunFault) → device.reads mid ≡ device.reads before → NoFault device before mid → NoWriteFailed device before mid → NoWriteFailed device mid after
      → IsRunStartRefusal device file mid after fault → IsRunBeginRefusal device file before after fault
  not_started before mid after (Damaged f at) same none first second h = (h.0, h.1, (λ transparent. subst (λ (r : Image). HasNoIndex (r file)) same (h.2 transparent)), (h.3 ∙ none, second ∙ first))
  not_started before mid after Limit same none first second h = absurd h
  not_started before mid after (DiskFault true) same none first second h = absurd h
  not_started before mid after (DiskFault false) same none first second h = record { rose = subst (λ (n : ℕ). raised n ≤ device.fault_count after) none h; writes = second ∙ first }
  not_started before mid after OutOfMemory same none first second h = (h ∙ none, second ∙ first)

  pub not_begun : (before after : D) (fault : RunFault) → IsRunBeginRefusal device file before after fault → IsOpenRefusal device file before after fault
  not_begun before after (Damaged f at) h = (h.0, (λ transparent. inl (h.2 transparent, h.1)), h.3)
  not_begun before after Limit h = absurd h
  not_begun before after (DiskFault wrote) h = h
  not_begun before after OutOfMemory h = h

  pub not_next : (opening : RunOpening) (before mid after : D) (fault : RunFault) → file_opened opening ≡ file → device.reads mid ≡ device.reads before → NoFault device before mid → NoWriteFailed device before mid → NoWriteFailed device mid after
      → IsPageReadRefusal device opening mid after fault → IsOpenRefusal device file before after fault
  not_next opening before mid after (Damaged f at) file_is same none first second h =
      (h.0 ∙ file_is, (λ transparent. inr (subst (λ (n : ℕ). IsBrokenPage (device.reads before n) at) file_is (subst (λ (r : Image). IsBrokenPage (r (file_opened opening)) at) same (h.1 transparent)))), (h.2 ∙ none, second ∙ first))
  not_next opening before mid after Limit file_is same none first second h = absurd h
  not_next opening before mid after (DiskFault true) file_is same none first second h = absurd h
  not_next opening before mid after (DiskFault false) file_is same none first second h = record { rose = subst (λ (n : ℕ). raised n ≤ device.fault_count after) none h; writes = second ∙ first }
  not_next opening before mid after OutOfMemory file_is same none first second h = (h ∙ none, second ∙ first)

  pub too_many : (opening : RunOpening) (before mid : D) (fault : RunFault) → file_opened opening ≡ file → device.reads mid ≡ device.reads before → NoFault device before mid → NoWriteFailed device before mid
      → (IsTrue device.is_transparent → (pages : List (List Placed)) × IsReadingRun opening (device.reads mid (file_opened opening)) pages) → index_pages opening ≤ pages_read opening → fault ≡ Limit → most_run_rows < footer_rows opening
      → IsOpenRefusal device file before mid fault
  too_many opening before mid fault file_is same none writes reading all is passed = subst (IsOpenRefusal device file before mid) (sym is) (
    (λ transparent.
        let r = reading transparent in
        let content = device.reads before file in
        let k : IsReadingRun opening content r.0 = subst (λ (n : ℕ). IsReadingRun opening (device.reads before n) r.0) file_is (subst (λ (i : Image). IsReadingRun opening (i (file_opened opening)) r.0) same r.1) in
        let rows = rows_of_pages r.0 in
        let run = whole_run content opening.index.entries.items opening.index.footer opening.table r.0 k.has k.are (omega (arith, k.count, k.are.within, all)) in
        let footers = (index_once content opening.index.entries.items (entries_from 0 run.pages) opening.index.footer (footer_of_pages run.pages (length rows)) k.has (run_has_index content opening.table rows run)).0 in
        let count : opening.index.footer.rows ≡ length rows = ap (λ (f : Footer). f.rows) footers in
        (opening.table, rows, run, omega (arith, passed, count))),
    (none, writes),
  )

  durable_on : (old new : D) → AddsNoImage device old new → device.reads new ≡ device.reads old → IsDurable device file (device.reads old file) old → IsDurable device file (device.reads new file) new
  durable_on old new images same durable c now = durable c (images c now) ∙ sym (ap (λ (r : Image). r file) same)

  -- all pages were read
  pub opened : (opening : RunOpening) (run : Run) (before begun now : D) → file_opened opening ≡ file → device.reads now ≡ device.reads begun → AddsNoImage device begun now → IsDurable device file (device.reads begun file) begun → NoWriteFailed device before now
      → StandsInRun device opening now → footer_rows opening ≤ most_run_rows → IsRunFinished opening run → IsRunOpened device file before now run
  opened opening run before begun now file_is same images durable writes reading few fin =
      let in_file : run_file run ≡ file = fin.in_file ∙ file_is in
      record {
        in_file = in_file;
        within = omega (arith, fin.rows, few);
        held = λ transparent.
            let r = reading transparent in
            let rows = rows_of_pages r.0 in (
              rows,
              record {
                reads = subst (λ (n : ℕ). IsRunInMemory (device.reads now n) run rows) (sym fin.in_file) (fin.is_run (device.reads now (file_opened opening)) r.0 r.1);
                durable = subst (λ (n : ℕ). IsDurable device n (device.reads now n) now) (sym in_file) (durable_on begun now images same durable);
              },
            );
        no_failed_write = writes;
      }
