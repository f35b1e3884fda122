use Rattle.std.proofs.Common.{◌≡◌, ℕ, List, ◌++◌, length, Result, Ok, Err, OnOk, sym, ap, ◌∙◌, append_assoc, arith}
use Rattle.std.specs.Int.{w16}
use Rattle.std.specs.List.{flat_map}
use Rattle.octet_fields.specs.Spelling.{counted, number}
use Rattle.run_pages.specs.Placed.{placed_rows}
use Rattle.run_pages.specs.Pages.{placed_octets}
use Rattle.run_pages.proofs.Beside.{placed_rows_len}
use Rattle.run_pages.proofs.page.put_page.Goals as goal

ok_too : {T E : Type 0} (r : Result T E) (P Q : Type 0) → (P → Q) → OnOk r P → OnOk r Q
ok_too (Ok x) P Q then p = then p
ok_too (Err e) P Q then p = tt

pub overflow_cast-rows : goal.overflow_cast-rows
overflow_cast-rows c = omega (arith, placed_rows_len c.args.positions.now c.args.rows.now c.requires.beside, c.requires.page.few)

pub returns : goal.returns
unfolding counted
returns c =
    let out = c.args.out.now.items in
    let rows = placed_rows c.args.positions.now c.args.rows.now in
    let octets = flat_map placed_octets rows in
    let count : length rows ≡ length c.args.rows.now = placed_rows_len c.args.positions.now c.args.rows.now c.requires.beside in
    ok_too c.put_placed_rows.result _ _
    (λ e. e ∙ ap (λ (l : List ℕ). l ++ octets) c.in_ok-put_u16.ensures.ok ∙ append_assoc out (number w16 (length c.args.rows.now)) octets ∙ ap (λ (n : ℕ). out ++ (number w16 n ++ octets)) (sym count))
    c.put_placed_rows.ensures
