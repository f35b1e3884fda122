-- Pages that were written, one behind the other.
use Rattle.std.proofs.Common.{◌≡◌, ◌≢◌, ◌⊎◌, ⊎_elim, ℕ, zero, suc, ◌+◌, ◌-◌, ◌*◌, ◌<◌, ◌≤◌, min, true, false, List, [], ◌∷◌, ◌++◌, length, get_or, take, drop, refl, sym, ap, ◌∙◌, subst, append_assoc, append-nil, length-append, arith}
use Rattle.std.specs.Prelude.{IsTrue}
use Rattle.std.specs.List.{AllByRecursion}
use Rattle.std.proofs.lemmas.Bool.{cases_lt}
use Rattle.std.proofs.lemmas.Grind.{flat_map-append}
use Rattle.std.proofs.lemmas.List.{drop-drop, length-take, length-drop, drop_all, take_min}
use Rattle.arch_disk.specs.Image.{Image, AgreesBut}
use Rattle.arch_disk.specs.Disk.{Device, IsOldBut, LeavesOnly, LeavesOthers, NoFault, NoWriteFailed, raised}
use Rattle.arch_disk.proofs.Moments.{others_on, started, weakens}
use Rattle.arch_types.specs.declared.row.Row.{Row}
use Rattle.row_codec.specs.Rows.{IsStored}
use Rattle.run_pages.specs.Placed.{Placed, placed_rows, row_placed}
use Rattle.run_pages.specs.Pages.{FitsPage, IsPage, page_octets}
use Rattle.run_pages.specs.Index.{IsPageEntry}
use Rattle.run_pages.specs.Runs.{ArePages, entries_from, first_row_key, pages_octets}
use Rattle.run_pages.specs.declared.index.PageEntry.{PageEntry}
use Rattle.run_pages.proofs.Beside.{placed_rows_len}
use Rattle.run_files.specs.Faults.{IsWriteFault}
use Rattle.run_files.specs.Writing.{ArePagesWritten, entry_of_page}
use Rattle.run_files.specs.declared.fault.RunFault.{RunFault}
use Rattle.run_files.specs.declared.fault.RunFault.TheVariants.{Damaged, DiskFault, Limit, OutOfMemory}

-- ---- lists of pages

pub entries_push : (at : ℕ) (done : List (List Placed)) (page : List Placed) → entries_from at (done ++ page ∷ []) ≡ entries_from at done ++ entry_of_page (at + length (pages_octets done)) page ∷ []
entries_push at [] page = let same : at ≡ at + 0 = omega arith in ap (λ (n : ℕ). entry_of_page n page ∷ []) same
entries_push at (first ∷ done) page =
    let len = length (page_octets first) in
    let place : at + len + length (pages_octets done) ≡ at + length (page_octets first ++ pages_octets done) = omega (arith, length-append (page_octets first) (pages_octets done)) in
    ap (λ (l : List PageEntry). entry_of_page at first ∷ l) (entries_push (at + len) done page ∙ ap (λ (n : ℕ). entries_from (at + len) done ++ entry_of_page n page ∷ []) place)

pub pages_push : (done : List (List Placed)) (page : List Placed) → pages_octets (done ++ page ∷ []) ≡ pages_octets done ++ page_octets page
pages_push done page = flat_map-append page_octets done (page ∷ []) ∙ ap (λ (l : List ℕ). pages_octets done ++ l) (append-nil (page_octets page))

pub all_push : {X : Type 0} (P : X → Type 0) (xs : List X) (x : X) → AllByRecursion P xs → P x → AllByRecursion P (xs ++ x ∷ [])
all_push P [] x all here = (here, tt)
all_push P (y ∷ xs) x all here = (all.0, all_push P xs x all.1 here)

all_take : {X : Type 0} (P : X → Type 0) (n : ℕ) (xs : List X) → AllByRecursion P xs → AllByRecursion P (take n xs)
all_take P zero xs all = tt
all_take P (suc n) [] all = tt
all_take P (suc n) (x ∷ xs) all = (all.0, all_take P n xs all.1)

all_drop : {X : Type 0} (P : X → Type 0) (n : ℕ) (xs : List X) → AllByRecursion P xs → AllByRecursion P (drop n xs)
all_drop P zero xs all = all
all_drop P (suc n) [] all = tt
all_drop P (suc n) (x ∷ xs) all = all_drop P n xs all.1

-- with the pages of the other rows they are the pages of all
abbrev pub AreFirstPages : List (List Placed) → ℕ → List Placed → Type 0
AreFirstPages done from rows = (more : List (List Placed)) → ArePages more (drop from rows) → ArePages (done ++ more) rows

pub first_more : (done : List (List Placed)) (from next : ℕ) (rows : List Placed) → from < length rows → next ≡ min (length rows) (from + 64) → AreFirstPages done from rows → AreFirstPages (done ++ take 64 (drop from rows) ∷ []) next rows
first_more done from next rows lt is first more are =
    let page = take 64 (drop from rows) in
    let some : drop from rows ≢ [] = λ none. absurd (omega (arith, ap length none, length-drop from rows, lt)) in
    subst (λ (l : List (List Placed)). ArePages l rows) (sym (append_assoc done (page ∷ []) more)) (first (page ∷ more) (refl, some, subst (ArePages more) (rest from next rows is) are))
  where
    rest : (from next : ℕ) (rows : List Placed) → next ≡ min (length rows) (from + 64) → drop next rows ≡ drop 64 (drop from rows)
    rest from next rows is = ⊎_elim
        (λ lt. drop_all next rows (omega (arith, is, lt)) ∙ sym (drop_all 64 (drop from rows) (omega (arith, length-drop from rows, lt))))
        (λ le. let same : next ≡ from + 64 = omega (arith, is, le) in ap (λ (n : ℕ). drop n rows) same ∙ sym (drop-drop 64 from rows))
        (cases_lt (length rows) (from + 64))

pub first_all : (done : List (List Placed)) (from : ℕ) (rows : List Placed) → length rows ≤ from → AreFirstPages done from rows → ArePages done rows
first_all done from rows le first = subst (λ (l : List (List Placed)). ArePages l rows) (append-nil done) (first [] (drop_all from rows le))

-- ---- parts of rows beside their positions

placed_take : (n : ℕ) (positions : List ℕ) (rows : List Row) → placed_rows (take n positions) (take n rows) ≡ take n (placed_rows positions rows)
placed_take zero positions rows = refl
placed_take (suc n) [] rows = refl
placed_take (suc n) (p ∷ positions) [] = refl
placed_take (suc n) (p ∷ positions) (r ∷ rows) = ap (λ (l : List Placed). row_placed p r ∷ l) (placed_take n positions rows)

placed_drop : (n : ℕ) (positions : List ℕ) (rows : List Row) → length positions ≡ length rows → placed_rows (drop n positions) (drop n rows) ≡ drop n (placed_rows positions rows)
placed_drop zero positions rows beside = refl
placed_drop (suc n) [] [] beside = refl
placed_drop (suc n) [] (r ∷ rows) beside = absurd (omega (arith, beside))
placed_drop (suc n) (p ∷ positions) [] beside = absurd (omega (arith, beside))
placed_drop (suc n) (p ∷ positions) (r ∷ rows) beside = placed_drop n positions rows (omega (arith, beside))

-- a page's part of a list
page_part : {X : Type 0} (xs : List X) (from to : ℕ) → from ≤ length xs → to ≡ min (length xs) (from + 64) → take (to - from) (drop from xs) ≡ take 64 (drop from xs)
page_part xs from to le is =
    let size : to - from ≡ min 64 (length (drop from xs)) = omega (arith, is, le, length-drop from xs) in
    ap (λ (n : ℕ). take n (drop from xs)) size ∙ take_min 64 (drop from xs)

pub page_rows : (positions : List ℕ) (rows : List Row) (from to : ℕ) → length positions ≡ length rows → from ≤ length rows → to ≡ min (length rows) (from + 64)
    → placed_rows (take (to - from) (drop from positions)) (take (to - from) (drop from rows)) ≡ take 64 (drop from (placed_rows positions rows))
page_rows positions rows from to beside le is =
    let long = placed_rows_len positions rows beside in
    placed_take (to - from) (drop from positions) (drop from rows) ∙ ap (take (to - from)) (placed_drop from positions rows beside)
    ∙ page_part (placed_rows positions rows) from to (omega (arith, le, long)) (is ∙ ap (λ (n : ℕ). min n (from + 64)) (sym long))

pub is_page : (rows : List Placed) (from : ℕ) → from < length rows → AllByRecursion FitsPage rows → IsPage (take 64 (drop from rows))
is_page rows from lt each = record {
  some = omega (arith, length-take 64 (drop from rows), length-drop from rows, lt);
  few = omega (arith, length-take 64 (drop from rows));
  each = all_take FitsPage 64 (drop from rows) (all_drop FitsPage from rows each);
}

pub stored_each : (positions : List ℕ) (rows : List Row) → length positions ≡ length rows → AllByRecursion FitsPage (placed_rows positions rows) → AllByRecursion IsStored rows
stored_each [] [] beside each = tt
stored_each [] (r ∷ rows) beside each = absurd (omega (arith, beside))
stored_each (p ∷ positions) [] beside each = tt
stored_each (p ∷ positions) (r ∷ rows) beside each = (each.0.stored, stored_each positions rows (omega (arith, beside)) each.1)

pub first_placed : (positions : List ℕ) (rows : List Row) (row : Row) → length positions ≡ length rows → 0 < length rows → row ≡ get_or rows 0 row → row.key ≡ first_row_key (placed_rows positions rows)
first_placed [] [] row beside some is = absurd (omega (arith, some))
first_placed [] (r ∷ rows) row beside some is = absurd (omega (arith, beside))
first_placed (p ∷ positions) [] row beside some is = absurd (omega (arith, some))
first_placed (p ∷ positions) (r ∷ rows) row beside some is = ap (λ (x : Row). x.key) is

-- ---- the disk

module _ {D : Type 0} (device : Device D) (file : ℕ) where
  pub others_none : (old : D) → LeavesOthers device file old old
  others_none old = record { reads = λ transparent g other. refl; crash = started device old (IsOldBut device file old) (λ c now. (c, now, λ g other. refl)) }

  -- a sync leaves what stands in files
  pub others_synced : (old new : D) → device.reads new ≡ device.reads old → LeavesOnly device old new (device.images old) → LeavesOthers device file old new
  others_synced old new same moments = record {
    reads = λ transparent g other. ap (λ (r : Image). r g) same;
    crash = weakens device old new (device.images old) (IsOldBut device file old) moments (λ c was. (c, was, λ g other. refl));
  }

  -- a file that was emptied, and a sync
  pub others_emptied : (old mid new : D) → (IsTrue device.is_transparent → AgreesBut file (device.reads old) (device.reads mid)) → LeavesOnly device old mid (IsOldBut device file old) → device.reads new ≡ device.reads mid → LeavesOnly device mid new (device.images mid)
      → LeavesOthers device file old new
  others_emptied old mid new reads elsewhere same moments = others_on device file old mid new (record { reads = reads; crash = elsewhere }) (others_synced mid new same moments)

  pub fault_behind : (old mid new : D) (fault : RunFault) → NoFault device old mid → NoWriteFailed device old mid → IsWriteFault device mid new fault → IsWriteFault device old new fault
  fault_behind old mid new (Damaged f at) none writes h = absurd h
  fault_behind old mid new Limit none writes h = absurd h
  fault_behind old mid new (DiskFault false) none writes h = absurd h
  fault_behind old mid new (DiskFault true) none writes h = (subst (λ (n : ℕ). raised n ≤ device.fault_count new) none h.0, h.1 ∙ ap raised writes)
  fault_behind old mid new OutOfMemory none writes h = (h.0 ∙ none, h.1 ∙ writes)

-- ---- what was written so far

pub record WrittenSoFar {D : Type 0} (device : Device D) (file : ℕ) (start now : D) (rows : List Placed) (done : List (List Placed)) (entries : List PageEntry) (end from : ℕ) : Type 0 where
  pub first : AreFirstPages done from rows
  pub entries_are : entries ≡ entries_from 0 done
  pub fit : AllByRecursion IsPageEntry entries
  pub end_is : end ≡ length (pages_octets done)
  pub short : end ≤ 4195970 * from
  pub within : from ≤ length rows
  pub content : IsTrue device.is_transparent → device.reads now file ≡ pages_octets done
  pub others : LeavesOthers device file start now
  pub no_fault : NoFault device start now
  pub no_failed_write : NoWriteFailed device start now

module _ {D : Type 0} (device : Device D) (file : ℕ) (start now : D) (rows : List Placed) (done : List (List Placed)) (entries : List PageEntry) (end from : ℕ) (so_far : WrittenSoFar device file start now rows done entries end from) where
  -- one page more
  pub page_more : (after : D) (page : List Placed) (entry : PageEntry) (next : ℕ) → page ≡ take 64 (drop from rows) → from < length rows → next ≡ min (length rows) (from + 64)
      → entry ≡ entry_of_page end page → IsPageEntry entry → entry.len ≤ 4195970 → (IsTrue device.is_transparent → device.reads after file ≡ device.reads now file ++ page_octets page)
      → LeavesOthers device file now after → NoFault device now after → NoWriteFailed device now after
      → WrittenSoFar device file start after rows (done ++ page ∷ []) (entries ++ entry ∷ []) (end + entry.len) next
  page_more after page entry next page_is lt next_is entry_is fits short written others told writes = record {
    first = subst (λ (p : List Placed). AreFirstPages (done ++ p ∷ []) next rows) (sym page_is) (first_more done from next rows lt next_is so_far.first);
    entries_are = ap (λ (l : List PageEntry). l ++ entry ∷ []) so_far.entries_are ∙ ap (λ (e : PageEntry). entries_from 0 done ++ e ∷ []) (entry_is ∙ ap (λ (n : ℕ). entry_of_page n page) (so_far.end_is ∙ zero_more)) ∙ sym (entries_push 0 done page);
    fit = all_push IsPageEntry entries entry so_far.fit fits;
    end_is = omega (arith, so_far.end_is, ap (λ (e : PageEntry). e.len) entry_is, ap length (pages_push done page), length-append (pages_octets done) (page_octets page));
    short = omega (arith, so_far.short, short, next_is, lt);
    within = omega (arith, next_is);
    content = λ transparent. written transparent ∙ ap (λ (l : List ℕ). l ++ page_octets page) (so_far.content transparent) ∙ sym (pages_push done page);
    others = others_on device file start now after so_far.others others;
    no_fault = told ∙ so_far.no_fault;
    no_failed_write = writes ∙ so_far.no_failed_write;
  }
    where
      zero_more : length (pages_octets done) ≡ 0 + length (pages_octets done)
      zero_more = omega arith

  pub all_pages : length rows ≤ from → ArePagesWritten device file now rows entries end
  all_pages le = record {
    pages = done;
    pages_are = first_all done from rows le so_far.first;
    entries_are = so_far.entries_are;
    fit = so_far.fit;
    end_is = so_far.end_is;
    short = omega (arith, so_far.short, so_far.within);
    written = so_far.content;
  }

pub none_written : {D : Type 0} (device : Device D) (file : ℕ) (start : D) (rows : List Placed) → (IsTrue device.is_transparent → device.reads start file ≡ []) → WrittenSoFar device file start start rows [] [] 0 0
none_written device file start rows empty = record {
  first = λ more are. are;
  entries_are = refl;
  fit = tt;
  end_is = refl;
  short = omega arith;
  within = omega arith;
  content = empty;
  others = others_none device file start;
  no_fault = refl;
  no_failed_write = refl;
}
