-- The run that written pages, an index and a footer are.
use Rattle.std.proofs.Common.{◌≡◌, ℕ, pos, ◌+◌, ◌-◌, ◌*◌, ◌<◌, ◌≤◌, true, None, List, [], ◌∷◌, ◌++◌, length, get_or, refl, sym, ap, ◌∙◌, subst, arith}
use Rattle.std.specs.Prelude.{IsTrue}
use Rattle.std.specs.List.{AllByRecursion}
use Rattle.arch_disk.specs.Disk.{Device, IsDurable}
use Rattle.arch_types.specs.declared.key.Key.{Key}
use Rattle.arch_types.specs.declared.row.Row.{Row}
use Rattle.run_pages.specs.Placed.{Placed, placed_rows, rows_of_placed}
use Rattle.run_pages.specs.Order.{are_ordered}
use Rattle.run_pages.specs.Index.{IsPageEntry, index_octets, is_index}
use Rattle.run_pages.specs.Footer.{IsFooter, footer_octets}
use Rattle.run_pages.specs.Runs.{AreRunRows, IsRunFile, entries_from, first_row_key, footer_of_pages, pages_octets}
use Rattle.run_pages.specs.declared.index.PageEntry.{PageEntry}
use Rattle.run_pages.specs.declared.footer.Footer.{Footer}
use Rattle.run_pages.proofs.Beside.{placed_rows_len, rows_back}
use Rattle.run_pages.proofs.FoundPages.{length-entries}
use Rattle.run_pages.proofs.RunIndex.{page_number, run_has_index}
use Rattle.run_files.specs.Opening.{most_run_rows}
use Rattle.run_files.specs.Run.{HoldsRun}
use Rattle.run_files.specs.Writing.{ArePagesWritten}
use Rattle.run_files.specs.declared.run.Run.{Run}
use Rattle.run_files.proofs.Openings.{last_row, table_is}

record RunMade (content : List ℕ) (table : ℕ) (rows : List Placed) (entries : List PageEntry) (footer : Footer) : Type 0 where
  is : IsRunFile content table rows
  entries_are : entries ≡ entries_from 0 is.pages
  footer_is : footer ≡ footer_of_pages is.pages (length rows)
  index : is_index entries footer ≡ true

some_placed : (table : ℕ) (rows : List Placed) → AreRunRows table rows → 1 ≤ length rows
some_placed table [] are = absurd (cc are.ordered)
some_placed table (x ∷ rows) are = omega arith

module _ {D : Type 0} (device : Device D) (file : ℕ) (disk : D) (positions : List ℕ) (rows : List Row) (beside : length positions ≡ length rows) (given : (table : ℕ) × AreRunRows table (placed_rows positions rows)) (few : length rows ≤ most_run_rows) (entries : List PageEntry) (end : ℕ) (w : ArePagesWritten device file disk (placed_rows positions rows) entries end) where
  abbrev all : List Placed
  all = placed_rows positions rows

  abbrev end_footer : Footer
  end_footer = record { at = end; pages = length entries; rows = length rows }

  long : length all ≡ length rows
  long = placed_rows_len positions rows beside

  pub some_rows : 1 ≤ length rows
  some_rows = omega (arith, some_placed given.0 all given.1, long)

  -- there are no more pages than rows
  pub few_pages : length entries ≤ length rows
  few_pages =
      let pages = length-entries 0 w.pages in
      let number = page_number w.pages all w.pages_are in
      omega (arith, ap (λ (l : List PageEntry). length l) w.entries_are, pages, number.0, number.1, long)

  pub footer_told : (footer : Footer) → footer.at ≡ end → footer.pages ≡ length entries → footer.rows ≡ length rows → footer ≡ end_footer
  footer_told footer at pages count =
      let by_at : (n : ℕ) → Footer = λ n. record { at = n; pages = footer.pages; rows = footer.rows } in
      let by_pages : (n : ℕ) → Footer = λ n. record { at = end; pages = n; rows = footer.rows } in
      let by_rows : (n : ℕ) → Footer = λ n. record { at = end; pages = length entries; rows = n } in
      ap by_at at ∙ ap by_pages pages ∙ ap by_rows count

  pub footer_fits : IsFooter end_footer
  footer_fits = record {
    at = omega (arith, w.short, long, few);
    pages = omega (arith, few_pages, few);
    rows = omega (arith, few);
  }

  made : (table : ℕ) → AreRunRows table all → (content : List ℕ) → content ≡ pages_octets w.pages ++ (index_octets entries ++ footer_octets end_footer) → RunMade content table all entries end_footer
  made table run_rows content content_is =
      let by : (at pages count : ℕ) → Footer = λ at pages count. record { at = at; pages = pages; rows = count } in
      let pages : length entries ≡ length w.pages = ap (λ (l : List PageEntry). length l) w.entries_are ∙ length-entries 0 w.pages in
      let footer_is : end_footer ≡ footer_of_pages w.pages (length all) =
      ap (λ (n : ℕ). by n (length entries) (length rows)) w.end_is ∙ ap (λ (n : ℕ). by (length (pages_octets w.pages)) n (length rows)) pages ∙ ap (by (length (pages_octets w.pages)) (length w.pages)) (sym long) in
      let run : IsRunFile content table all = record {
        pages = w.pages;
        run_rows = run_rows;
        pages_are = w.pages_are;
        content_is = content_is ∙ ap (λ (l : List PageEntry). pages_octets w.pages ++ (index_octets l ++ footer_octets end_footer)) w.entries_are ∙ ap (λ (f : Footer). pages_octets w.pages ++ (index_octets (entries_from 0 w.pages) ++ footer_octets f)) footer_is;
        entries_fit = subst (AllByRecursion IsPageEntry) w.entries_are w.fit;
        footer_fits = subst IsFooter footer_is footer_fits;
      } in
      record {
        is = run;
        entries_are = w.entries_are;
        footer_is = footer_is;
        index = subst (λ (l : List PageEntry). is_index l end_footer ≡ true) (sym w.entries_are) (subst (λ (f : Footer). is_index (entries_from 0 w.pages) f ≡ true) (sym footer_is) (run_has_index content table all run).index);
      }

  -- the index says by itself what one must
  pub index_made : is_index entries end_footer ≡ true
  index_made = (made given.0 given.1 (pages_octets w.pages ++ (index_octets entries ++ footer_octets end_footer)) refl).index

  module _ (run : Run) (new : D) (first last : Row) where
    -- the run in memory and the file are one
    pub run_made : run.file ≡ file → run.index.entries.items ≡ entries → run.index.footer ≡ end_footer → run.table ≡ first.table → first ≡ get_or rows 0 first → run.last ≡ last.key → last ≡ get_or rows (length rows - 1) last
        → IsDurable device file (device.reads new file) new → device.reads new file ≡ device.reads disk file ++ (index_octets entries ++ footer_octets end_footer) → IsTrue device.is_transparent → HoldsRun device run all new
    run_made file_is entries_are footer_is table_of_first first_is last_is last_row_is durable written transparent =
        let ordered : are_ordered given.0 (first_row_key all) None None rows ≡ true = subst (λ (l : List Row). are_ordered given.0 (first_row_key all) None None l ≡ true) (rows_back positions rows beside) given.1.ordered in
        let table : given.0 ≡ run.table = sym (table_of_first ∙ table_is rows first (first_row_key all) None given.0 (omega (arith, some_rows)) first_is ordered) in
        let content = device.reads new run.file in
        let content_is : content ≡ pages_octets w.pages ++ (index_octets entries ++ footer_octets end_footer) =
        ap (device.reads new) file_is ∙ written ∙ ap (λ (l : List ℕ). l ++ (index_octets entries ++ footer_octets end_footer)) (w.written transparent) in
        let m = made run.table (subst (λ (t : ℕ). AreRunRows t all) table given.1) content content_is in
        let none : Key = record { time = pos 0; seq = 0 } in
        record {
          reads = record {
            is = m.is;
            entries = entries_are ∙ m.entries_are;
            footer = footer_is ∙ m.footer_is;
            last = last_is ∙ sym (last_row positions rows (length rows - 1) last none beside (omega (arith, some_rows)) last_row_is);
          };
          durable = subst (λ (n : ℕ). IsDurable device n (device.reads new n) new) (sym file_is) durable;
        }
