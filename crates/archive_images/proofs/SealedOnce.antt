-- An image stands for one archive, also where its history is sealed.
use Rattle.std.proofs.Common.{◌≡◌, inl, inr, ℕ, suc, ◌<◌, ◌^◌, List, [], ◌∷◌, ◌++◌, length, map, Option, Some, None, refl, sym, ap, subst, ◌∙◌, arith, append-nil}
use Rattle.std.specs.Prelude.{slice_get}
use Rattle.std.specs.List.{AllByRecursion}
use Rattle.arch_disk.specs.Image.{Image}
use Rattle.arch_types.specs.declared.row.Row.{Row}
use Rattle.intervals.specs.declared.interval.Interval.{Interval}
use Rattle.disk_journal.specs.Format.{HasRecords}
use Rattle.disk_journal.proofs.Once.{records_once}
use Rattle.history_items.specs.Items.{items_of}
use Rattle.field_codec.specs.declared.entry.Entry.{Entry}
use Rattle.field_codec.specs.declared.entry.Entry.TheVariants as entries
use Rattle.field_codec.specs.Entries.{IsArchiveEntry}
use Rattle.field_codec.specs.Spelling.{entry_octets}
use Rattle.field_codec.proofs.EntryKinds.{one_spelling}
use Rattle.run_pages.specs.Placed.{Placed, behind_positions}
use Rattle.run_pages.proofs.RunOnce.{run_once}
use Rattle.seal_codec.specs.declared.seal.Seal.{Seal}
use Rattle.seal_codec.specs.declared.seal.SealedRun.{SealedRun}
use Rattle.seal_codec.specs.Seals.{IsSeal}
use Rattle.sealed_sums.specs.InOrder.{AreInOrder}
use Rattle.archive_images.specs.Entries.{Applies, FilledArchive, Replays, filled_archive}
use Rattle.archive_images.specs.Images.{IsPlainLog}
use Rattle.archive_images.specs.Stands.{StandsInFile}
use Rattle.archive_images.proofs.Exact.{replays_once, takes_entry}
use Rattle.archive_images.proofs.FileRecords.{file_once}
use Rattle.archive_images.specs.SealFiles.{HasFills, HaveParts, HaveRuns, Part, StoredFill, fill_entry, fill_record, log_head_record, seal_record}
use Rattle.archive_images.specs.Below.{IsBelow, IsSealed, PartsMake, StandsSealed, fillings_of, rows_of_parts}

-- ---- the records of file 0

-- a seal makes no archive
makes_none : (a : Option FilledArchive) (seal : Seal) (b : FilledArchive) → Applies a (entries.Seal seal) b → ⊥
makes_none None seal b makes = makes
makes_none (Some old) seal b makes = makes

-- and so an entry that makes one is no seal
no_seal : (a : Option FilledArchive) (b : FilledArchive) (entry : Entry) (seal : Seal) → Applies a entry b → IsSeal seal → entry_octets entry ≡ seal_record seal → ⊥
no_seal a b entry seal makes fits is =
    makes_none a seal b (subst (λ (e : Entry). Applies a e b) (one_spelling entry (entries.Seal seal) (takes_entry a entry b makes) fits is) makes)

seal_once : (s t : Seal) → IsSeal s → IsSeal t → seal_record s ≡ seal_record t → s ≡ t
seal_once s t fs ft is = let same : entries.Seal s ≡ entries.Seal t = one_spelling (entries.Seal s) (entries.Seal t) fs ft is in cc

seals_once : (ss ts : List Seal) → AllByRecursion IsSeal ss → AllByRecursion IsSeal ts → map seal_record ss ≡ map seal_record ts → ss ≡ ts
seals_once [] [] fs ft is = refl
seals_once [] (t ∷ ts) fs ft is = absurd cc
seals_once (s ∷ ss) [] fs ft is = absurd cc
seals_once (s ∷ ss) (t ∷ ts) fs ft is =
    let head : seal_record s ≡ seal_record t = cc in
    let rest : map seal_record ss ≡ map seal_record ts = cc in
    ap (λ (x : Seal). x ∷ ss) (seal_once s t fs.0 ft.0 head) ∙ ap (λ (l : List Seal). t ∷ l) (seals_once ss ts fs.1 ft.1 rest)

-- an entry makes one archive
takes_same : (a : Option FilledArchive) (b c : FilledArchive) (e : Entry) → Applies a e b → Applies a e c → b ≡ c
takes_same a b c e p q =
    let same : ◌≡◌ {A = Option FilledArchive} (Some b) (Some c) = replays_once a (Some b) (Some c) (e ∷ []) (b, p, refl) (c, q, refl) in
    cc

-- entries, and seals behind them, are read once
split_once : (a b c : Option FilledArchive) (es fs : List Entry) (ss ts : List Seal) → Replays a es b → Replays a fs c → AllByRecursion IsSeal ss → AllByRecursion IsSeal ts
    → map entry_octets es ++ map seal_record ss ≡ map entry_octets fs ++ map seal_record ts → (es ≡ fs) × (ss ≡ ts)
split_once a b c [] [] ss ts p q fit fit' is = (refl, seals_once ss ts fit fit' is)
split_once a b c [] (y ∷ fs) [] ts p q fit fit' is = absurd cc
split_once a b c [] (y ∷ fs) (s ∷ ss) ts p q fit fit' is = let head : entry_octets y ≡ seal_record s = cc in absurd (no_seal a q.0 y s q.1 fit.0 head)
split_once a b c (x ∷ es) [] ss [] p q fit fit' is = absurd cc
split_once a b c (x ∷ es) [] ss (t ∷ ts) p q fit fit' is = let head : entry_octets x ≡ seal_record t = cc in absurd (no_seal a p.0 x t p.1 fit'.0 head)
split_once a b c (x ∷ es) (y ∷ fs) ss ts p q fit fit' is =
    let head : entry_octets x ≡ entry_octets y = cc in
    let rest : map entry_octets es ++ map seal_record ss ≡ map entry_octets fs ++ map seal_record ts = cc in
    let same = one_spelling x y (takes_entry a x p.0 p.1) (takes_entry a y q.0 q.1) head in
    let mid : q.0 ≡ p.0 = takes_same a q.0 p.0 y q.1 (subst (λ (e : Entry). Applies a e p.0) same p.1) in
    let more = split_once (Some p.0) b c es fs ss ts p.2 (subst (λ (z : FilledArchive). Replays (Some z) fs c) mid q.2) fit fit' rest in
    (ap (λ (e : Entry). e ∷ es) same ∙ ap (λ (l : List Entry). y ∷ l) more.0, more.1)

-- ---- the files that seals name

same_fill : (f g : StoredFill) → fill_entry f ≡ fill_entry g → f ≡ g
same_fill f g is =
    let interval : f.interval ≡ g.interval = cc in
    let base : f.base ≡ g.base = cc in
    let octets : f.octets ≡ g.octets = cc in
    ap (λ (i : Interval). let s : StoredFill = record { interval = i; base = f.base; octets = f.octets } in s) interval
    ∙ ap (λ (b : ℕ). let s : StoredFill = record { interval = g.interval; base = b; octets = f.octets } in s) base
    ∙ ap (λ (o : List ℕ). let s : StoredFill = record { interval = g.interval; base = g.base; octets = o } in s) octets

fills_once : (fs gs : List StoredFill) → AllByRecursion (λ fill. IsArchiveEntry (fill_entry fill)) fs → AllByRecursion (λ fill. IsArchiveEntry (fill_entry fill)) gs → map fill_record fs ≡ map fill_record gs → fs ≡ gs
fills_once [] [] ff fg is = refl
fills_once [] (g ∷ gs) ff fg is = absurd cc
fills_once (f ∷ fs) [] ff fg is = absurd cc
fills_once (f ∷ fs) (g ∷ gs) ff fg is =
    let head : fill_record f ≡ fill_record g = cc in
    let rest : map fill_record fs ≡ map fill_record gs = cc in
    ap (λ (x : StoredFill). x ∷ fs) (same_fill f g (one_spelling (fill_entry f) (fill_entry g) ff.0 fg.0 head)) ∙ ap (λ (l : List StoredFill). g ∷ l) (fills_once fs gs ff.1 fg.1 rest)

pub fill_file_once : (c : Image) (seal : Seal) (fs gs : List StoredFill) → HasFills c seal fs → HasFills c seal gs → fs ≡ gs
fill_file_once c seal fs gs p q =
    let head = log_head_record seal.rows in
    let all : head ∷ map fill_record fs ≡ head ∷ map fill_record gs = records_once (c seal.fills) (head ∷ map fill_record fs) (head ∷ map fill_record gs) p.has q.has in
    let rest : map fill_record fs ≡ map fill_record gs = cc in
    fills_once fs gs p.fit q.fit rest

runs_once : (c : Image) (runs : List SealedRun) (p q : List (List Placed)) → HaveRuns c runs p → HaveRuns c runs q → p ≡ q
runs_once c [] [] [] has has' = refl
runs_once c [] [] (y ∷ q) has has' = absurd has'
runs_once c [] (x ∷ p) q has has' = absurd has
runs_once c (run ∷ runs) [] q has has' = absurd has
runs_once c (run ∷ runs) (x ∷ p) [] has has' = absurd has'
runs_once c (run ∷ runs) (x ∷ p) (y ∷ q) has has' =
    ap (λ (r : List Placed). r ∷ p) (run_once (c run.file) run.table run.table x y has.0 has'.0).0 ∙ ap (λ (l : List (List Placed)). y ∷ l) (runs_once c runs p q has.1 has'.1)

parts_once : (c : Image) (all : List Seal) (p q : List Part) → HaveParts c all p → HaveParts c all q → p ≡ q
parts_once c [] [] [] has has' = refl
parts_once c [] [] (y ∷ q) has has' = absurd has'
parts_once c [] (x ∷ p) q has has' = absurd has
parts_once c (seal ∷ all) [] q has has' = absurd has
parts_once c (seal ∷ all) (x ∷ p) [] has has' = absurd has'
parts_once c (seal ∷ all) (x ∷ p) (y ∷ q) has has' =
    ap (λ (r : List (List Placed)). (let part : Part = record { runs = r; fills = x.fills } in part) ∷ p) (runs_once c seal.runs x.runs y.runs has.0 has'.0)
    ∙ ap (λ (f : List StoredFill). (let part : Part = record { runs = y.runs; fills = f } in part) ∷ p) (fill_file_once c seal x.fills y.fills has.1 has'.1)
    ∙ ap (λ (l : List Part). y ∷ l) (parts_once c all p q has.2 has'.2)

-- ---- what parts make

same_list : (r s : List Row) → length r ≡ length s → ((i : ℕ) (row : Row) → slice_get r i ≡ Some row → slice_get s i ≡ Some row) → r ≡ s
same_list [] [] long each = refl
same_list [] (y ∷ s) long each = absurd (omega (arith, long))
same_list (x ∷ r) [] long each = absurd (omega (arith, long))
same_list (x ∷ r) (y ∷ s) long each =
    let first : ◌≡◌ {A = Option Row} (Some y) (Some x) = each 0 x refl in
    let head : x ≡ y = cc in
    ap (λ (row : Row). row ∷ r) head ∙ ap (λ (l : List Row). y ∷ l) (same_list r s (omega (arith, long)) (λ i row at. each (suc i) row at))

-- rows at positions are one list in the order of their positions
pub in_order_once : (placed : List (ℕ × Row)) (r s : List Row) → AreInOrder placed r → AreInOrder placed s → r ≡ s
in_order_once placed r s p q = same_list r s (omega (arith, p.as_many, q.as_many)) (λ i row at. q.only i row (p.each i row at))

made_once : (old older : FilledArchive) (all others : List Seal) (n m : ℕ) (ps qs : List Part) (a b : FilledArchive) → old ≡ older → ps ≡ qs → PartsMake old.plain all n ps a → PartsMake older.plain others m qs b → a ≡ b
made_once old older all others n m ps qs a b is parts p q =
    let rows : p.rows ≡ q.rows = in_order_once (behind_positions (rows_of_parts qs)) p.rows q.rows (subst (λ (l : List Part). AreInOrder (behind_positions (rows_of_parts l)) p.rows) parts p.in_order) q.in_order in
    p.made_is
    ∙ ap (λ (o : FilledArchive). filled_archive o.plain.head o.plain.exponent (items_of p.rows) (fillings_of ps)) is
    ∙ ap (λ (r : List Row). filled_archive older.plain.head older.plain.exponent (items_of r) (fillings_of ps)) rows
    ∙ ap (λ (l : List Part). filled_archive older.plain.head older.plain.exponent (items_of q.rows) (fillings_of l)) parts
    ∙ sym q.made_is

-- ---- what stands below a log

same_last : (xs ys : List Seal) (x y : Seal) → xs ++ x ∷ [] ≡ ys ++ y ∷ [] → x ≡ y
same_last [] [] x y is = cc
same_last [] (b ∷ []) x y is = absurd cc
same_last [] (b ∷ c ∷ ys) x y is = absurd cc
same_last (a ∷ []) [] x y is = absurd cc
same_last (a ∷ c ∷ xs) [] x y is = absurd cc
same_last (a ∷ xs) (b ∷ ys) x y is = let rest : xs ++ x ∷ [] ≡ ys ++ y ∷ [] = cc in same_last xs ys x y rest

not_none : (xs : List Seal) (x : Seal) → [] ≡ xs ++ x ∷ [] → ⊥
not_none [] x is = absurd cc
not_none (y ∷ xs) x is = absurd cc

-- the same log, which begins with the same records and goes on from the same archive
abbrev AreSame : ℕ → ℕ → List (List ℕ) → List (List ℕ) → Option FilledArchive → Option FilledArchive → Type 0
AreSame log other beginning begun base over = (log ≡ other) × (beginning ≡ begun) × (base ≡ over)

sealed_once : (c : Image) (log other : ℕ) (beginning begun : List (List ℕ)) (base over : Option FilledArchive) → IsSealed c log beginning base → IsSealed c other begun over → AreSame log other beginning begun base over
sealed_once c log other beginning begun base over x y =
    let all = x.earlier ++ x.last ∷ [] in
    let others = y.earlier ++ y.last ∷ [] in
    let split = split_once None (Some x.old) (Some y.old) x.before y.before all others x.replays y.replays x.manifest.fit y.manifest.fit
    (records_once (c 0) (map entry_octets x.before ++ map seal_record all) (map entry_octets y.before ++ map seal_record others) x.manifest.has y.manifest.has)
    in
    let olds : ◌≡◌ {A = Option FilledArchive} (Some x.old) (Some y.old) = replays_once None (Some x.old) (Some y.old) y.before (subst (λ (es : List Entry). Replays None es (Some x.old)) split.0 x.replays) y.replays in
    let old : x.old ≡ y.old = cc in
    let last = same_last x.earlier y.earlier x.last y.last split.1 in
    let parts = parts_once c others x.parts y.parts (subst (λ (l : List Seal). HaveParts c l x.parts) split.1 x.have) y.have in
    let made = made_once x.old y.old all others x.last.rows y.last.rows x.parts y.parts x.made y.made old parts x.make y.make in (
      x.log_is ∙ ap (λ (s : Seal). s.log) last ∙ sym y.log_is,
      x.beginning_is ∙ ap (λ (s : Seal). log_head_record s.rows ∷ []) last ∙ sym y.beginning_is,
      x.base_is ∙ ap (λ (a : FilledArchive). Some a) made ∙ sym y.base_is,
    )

-- file 0 can't be a log and have seals
not_both : (c : Image) (filled : FilledArchive) (s : StandsSealed c filled) (log : ℕ) (beginning : List (List ℕ)) (base : Option FilledArchive) → IsPlainLog {A = FilledArchive} c s.log s.beginning s.base → IsSealed c log beginning base → ⊥
not_both c filled s log beginning base plain sealed =
    let all = sealed.earlier ++ sealed.last ∷ [] in
    let has : HasRecords (c 0) (map entry_octets s.entries ++ map seal_record []) =
    subst (λ (l : List (List ℕ)). HasRecords (c 0) l) (sym (append-nil (map entry_octets s.entries)))
    (subst (λ (b : List (List ℕ)). HasRecords (c 0) (b ++ map entry_octets s.entries)) plain.1 (subst (λ (f : ℕ). HasRecords (c f) (s.beginning ++ map entry_octets s.entries)) plain.0 s.has))
    in
    let replays : Replays None s.entries (Some filled) = subst (λ (b : Option FilledArchive). Replays b s.entries (Some filled)) plain.2 s.replays in
    let split = split_once None (Some filled) (Some sealed.old) s.entries sealed.before [] all replays sealed.replays tt sealed.manifest.fit
    (records_once (c 0) (map entry_octets s.entries ++ map seal_record []) (map entry_octets sealed.before ++ map seal_record all) has sealed.manifest.has)
    in
    not_none sealed.earlier sealed.last split.1

below_once : (c : Image) (a b : FilledArchive) (x : StandsSealed c a) (y : StandsSealed c b) → IsBelow c x.log x.beginning x.base → IsBelow c y.log y.beginning y.base → AreSame x.log y.log x.beginning y.beginning x.base y.base
below_once c a b x y (inl p) (inl q) = (p.0 ∙ sym q.0, p.1 ∙ sym q.1, p.2 ∙ sym q.2)
below_once c a b x y (inl p) (inr q) = absurd (not_both c a x y.log y.beginning y.base p q)
below_once c a b x y (inr p) (inl q) = absurd (not_both c b y x.log x.beginning x.base q p)
below_once c a b x y (inr p) (inr q) = sealed_once c x.log y.log x.beginning y.beginning x.base y.base p q

pub stands_once : (c : Image) (a b : FilledArchive) → StandsSealed c a → StandsSealed c b → a ≡ b
stands_once c a b x y =
    let same = below_once c a b x y x.has_base y.has_base in
    file_once c y.log y.beginning y.base a b
    (subst (λ (o : Option FilledArchive). StandsInFile c y.log y.beginning o a) same.2
    (subst (λ (l : List (List ℕ)). StandsInFile c y.log l x.base a) same.1
    (subst (λ (f : ℕ). StandsInFile c f x.beginning x.base a) same.0 (record { entries = x.entries; has = x.has; replays = x.replays }))))
    (record { entries = y.entries; has = y.has; replays = y.replays })
