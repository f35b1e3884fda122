use Rattle.std.proofs.Common.{arith, refl, ◌≡◌, ◌<◌, ◌≤◌, ◌∙◌, sym, length, true, false, get_or, map, Some}
use Rattle.std.specs.Prelude.{nat_eq, string_bytes}
use Rattle.std.specs.FinMap.{get, get-from_entries}
use Rattle.std.proofs.lemmas.Cmp.{nat_list_cmp_total}
use Rattle.std.proofs.lemmas.List.{get_or_default}
use Rattle.std.proofs.Math.ListN.{drop_of_length-le}
use Rattle.outer_traits.specs.MemInputs.{entry_of, files_of}
use Rattle.outer_traits.specs.declared.mem_inputs.File.{File}
use Rattle.outer_traits.proofs.Files.{find_hit, find_miss}
use Rattle.outer_traits.proofs.mem_inputs.find_file.Goals as goal
use lib.Pointwise.{pointwise}

pub returns-then-eq : goal.returns-then-eq
returns-then-eq c =
    let within : c.loop-i.i < length c.args.files.now = omega arith in
    let test : pointwise nat_eq c.args.name.now (string_bytes c.index-files-i.result.name) ≡ true = rw (← c.as_str.ensures.value) (sym c.if-eq.ensures) in
    let here : pointwise nat_eq c.args.name.now (string_bytes (get_or c.args.files.now c.loop-i.i c.index-files-i.result).name) ≡ true = rw (← c.index-files-i.is) test in
    let found : (d : File) → get (files_of c.args.files.now) c.args.name.now ≡ Some (get_or c.args.files.now c.loop-i.i d).octets.items = λ (d : File).
    rw (get-from_entries nat_list_cmp_total (map entry_of c.args.files.now) c.args.name.now, get_or_default c.args.files.now c.loop-i.i d c.index-files-i.result within)
    (sym c.loop-i.invariant ∙ find_hit c.args.name.now c.args.files.now c.loop-i.i c.index-files-i.result within here) in
    (within, rw (found c.index-files-i.result) refl, found)

pub loop-i-preserved : goal.loop-i-preserved
loop-i-preserved c =
    let within : c.loop-i.i < length c.args.files.now = omega arith in
    let test : pointwise nat_eq c.args.name.now (string_bytes c.index-files-i.result.name) ≡ false = rw (← c.as_str.ensures.value) (sym c.if-eq.ensures) in
    let here : pointwise nat_eq c.args.name.now (string_bytes (get_or c.args.files.now c.loop-i.i c.index-files-i.result).name) ≡ false = rw (← c.index-files-i.is) test in
    sym (find_miss c.args.name.now c.args.files.now c.loop-i.i c.index-files-i.result within here) ∙ c.loop-i.invariant

pub returns : goal.returns
returns c =
    let over : length c.args.files.now ≤ c.loop-i.i = omega arith in
    let none = rw (drop_of_length-le c.args.files.now over) at c.loop-i.invariant in
    rw (get-from_entries nat_list_cmp_total (map entry_of c.args.files.now) c.args.name.now) (sym none)
