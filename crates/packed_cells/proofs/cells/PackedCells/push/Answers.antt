use Rattle.std.proofs.Common.{◌≡◌, ◌∙◌, ◌+◌, ◌++◌, ◌∷◌, ℕ, List, [], arith, sym, ap, subst}
use Rattle.arch_types.specs.declared.cell.Cell.{Cell}
use Rattle.packed_cells.specs.Kept.{AreKept}
use Rattle.packed_cells.specs.Packed.{packed_after, cell_octets, cells_in, origin}
use Rattle.packed_cells.specs.declared.reading.Before.{Before}
use Rattle.packed_cells.proofs.Again.{cells_more, kept_more}
use Rattle.packed_cells.proofs.Room.{cell_room, sized_last}
use Rattle.packed_cells.proofs.cells.PackedCells.push.Goals as goal

pub put_cell-requires : goal.put_cell-requires
put_cell-requires c =
    let last = sized_last c.self.inside.count c.self.inside.octets.items c.self.inside.last c.self.invariant in
    omega (arith, cell_room c.self.inside.last c.args.cell last c.is_sized.ensures, c.in_ok-reserve.ensures.ok, c.in_ok-reserve.ensures.len)

more : (c : goal.After-self-2-1) → c.put_cell.new.out.items ≡ c.self.inside.octets.items ++ cell_octets c.self.inside.last c.args.cell
more c = c.put_cell.ensures ∙ ap (λ (w : List ℕ). w ++ cell_octets c.self.inside.last c.args.cell) c.in_ok-reserve.ensures.items

count : (c : goal.After-self-2-1) → c.in-Some.count ≡ c.self.inside.count + 1
count c = omega (arith, c.in-Some.ensures)

kept : (c : goal.After-self-2-1) → AreKept (c.self.inside.count + 1) c.put_cell.new.out.items (packed_after c.self.inside.last c.args.cell)
kept c = kept_more c.self.inside.count c.self.inside.octets.items c.put_cell.new.out.items c.self.inside.last c.args.cell c.self.invariant c.is_sized.ensures (more c)

pub invariant_of-self-2 : goal.invariant_of-self-2
invariant_of-self-2 c =
    subst (λ (n : ℕ). AreKept n c.put_cell.new.out.items c.after-self-inside.result) (sym (count c))
    (subst (λ (b : Before). AreKept (c.self.inside.count + 1) c.put_cell.new.out.items b) (sym c.after-self-inside.ensures) (kept c))

pub returns-clause-added : goal.returns-clause-added
returns-clause-added c =
    ap (λ (n : ℕ). cells_in n origin c.put_cell.new.out.items) (count c)
    ∙ cells_more c.self.inside.count c.self.inside.octets.items c.put_cell.new.out.items c.self.inside.last c.args.cell c.self.invariant c.is_sized.ensures (more c)
    ∙ ap (λ (cells : List Cell). cells ++ c.args.cell ∷ []) c.self.view_is
