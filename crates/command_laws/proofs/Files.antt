-- A file of a name has one content, and is read in one way.
use Rattle.std.proofs.Common.{◌≡◌, ◌∙◌, ℕ, List, [], ◌∷◌, ◌++◌, Option, Some, None, sym, ap}
use Rattle.std.specs.Prelude.{Result, Ok, Err}
use Rattle.std.specs.FinMap.{get}
use Rattle.asks.specs.declared.ask.Ask.{Ask}
use Rattle.mdb_items.specs.declared.sheet.RawMdb.{RawMdb}
use Rattle.mdb_sheets.specs.Asks.{asks_of}
use Rattle.mdb_sheets.specs.Sheets.{Fields, sheet_of}
use Rattle.outer_traits.specs.Outside.{Files}
use Rattle.refusals.specs.declared.refusal.Refusal.{Refusal}
use Rattle.refusals.specs.declared.refusal.Which.{Which}
use Rattle.refusals.specs.declared.refusal.Which.TheVariants.{ScriptOctets, SheetOctets}
use Rattle.command_words.specs.Job.{LoadWords}
use Rattle.command_laws.specs.Links.{HasAsks, HasRouteText, HaveFiles, load_files}
use Rattle.command_laws.specs.NamedFiles.{HasAsksSheet, HasFile, HasScript, HasSheet, HasSheets, named_file}

pub one_content : (o : Option (List ℕ)) (a b : List ℕ) → o ≡ Some a → o ≡ Some b → a ≡ b
one_content o a b is other = let same : ◌≡◌ {A = Option (List ℕ)} (Some a) (Some b) = sym is ∙ other in cc

pub one_file : (files : Files) (which : Which) (name a b : List ℕ) → HasFile files which name a → HasFile files which name b → a ≡ b
one_file files which name a b h k = one_content (get files name) a b h.there k.there

-- ---- sheets

-- the records of three sheets
pub sheets_raw : List Fields → List Fields → List Fields → RawMdb
sheets_raw parameters calibrations containers = record { parameters = parameters; calibrations = calibrations; containers = containers }

pub raw_of_parts : (r s : RawMdb) → r.parameters ≡ s.parameters → r.calibrations ≡ s.calibrations → r.containers ≡ s.containers → r ≡ s
unfolding sheets_raw
raw_of_parts r s one two three =
    ap (λ (l : List Fields). sheets_raw l r.calibrations r.containers) one ∙ ap (λ (l : List Fields). sheets_raw s.parameters l r.containers) two ∙ ap (λ (l : List Fields). sheets_raw s.parameters s.calibrations l) three

one_sheet : (files : Files) (name : List ℕ) (a b : List Fields) → HasSheet files name a → HasSheet files name b → a ≡ b
one_sheet files name a b h k = h.records_are ∙ ap sheet_of (one_content (get files name) h.octets k.octets h.file.there k.file.there) ∙ sym k.records_are

pub one_raw : (files : Files) (a b c : List ℕ) (r s : RawMdb) → HasSheets files a b c r → HasSheets files a b c s → r ≡ s
one_raw files a b c r s h k = raw_of_parts r s (one_sheet files a r.parameters s.parameters h.first k.first) (one_sheet files b r.calibrations s.calibrations h.second k.second)
    (one_sheet files c r.containers s.containers h.third k.third)

-- ---- scripts

pub one_script : (files : Files) (name : Option (List ℕ)) (a b : List ℕ) → HasScript files name a → HasScript files name b → a ≡ b
one_script files None a b h k = h ∙ sym k
one_script files (Some name) a b h k = one_content (get files name) a b h.there k.there

-- ---- sheets of asks

pub one_asks_sheet : (files : Files) (name : List ℕ) (a b : Result (List Ask) Refusal) → HasAsksSheet files name a → HasAsksSheet files name b → a ≡ b
one_asks_sheet files name a b h k = h.sheet_is ∙ ap asks_of (one_content (get files name) h.octets k.octets h.file.there k.file.there) ∙ sym k.sheet_is

pub not_both : (asks : List Ask) (refusal : Refusal) → ◌≡◌ {A = Result (List Ask) Refusal} (Ok asks) (Err refusal) → ⊥
not_both asks refusal is = cc (is)

pub same_asks : (a b : List Ask) → ◌≡◌ {A = Result (List Ask) Refusal} (Ok a) (Ok b) → a ≡ b
same_asks a b is = cc (is)

pub same_fault : (a b : Refusal) → ◌≡◌ {A = Result (List Ask) Refusal} (Err a) (Err b) → a ≡ b
same_fault a b is = cc (is)

-- ---- files of a load that were read

both_files : (files : Files) (a b : List (Which × List ℕ)) → HaveFiles files a → HaveFiles files b → HaveFiles files (a ++ b)
both_files files [] b have others = others
both_files files (file ∷ a) b have others = (have.0, both_files files a b have.1 others)

route_files : (files : Files) (name text : Option (List ℕ)) → HasRouteText files name text → HaveFiles files (named_file ScriptOctets name)
route_files files None text has = tt
route_files files (Some name) text has = ((has.0, has.1), tt)

ask_files : (files : Files) (name : Option (List ℕ)) (sheet : Result (List Ask) Refusal) → HasAsks files name sheet → HaveFiles files (named_file SheetOctets name)
ask_files files None sheet has = tt
ask_files files (Some name) sheet has = ((has.octets, has.file), tt)

pub have_read : (files : Files) (words : LoadWords) (text : Option (List ℕ)) (sheet : Result (List Ask) Refusal) → HasRouteText files words.route text → HasAsks files words.asks sheet → HaveFiles files (load_files words)
have_read files words text sheet named has =
    both_files files (named_file ScriptOctets words.route) (named_file SheetOctets words.asks) (route_files files words.route text named) (ask_files files words.asks sheet has)
