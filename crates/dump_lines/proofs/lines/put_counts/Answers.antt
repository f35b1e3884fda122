use Rattle.std.proofs.Common.{◌≡◌, ℕ, List, ◌++◌, append_assoc, refl}
use Rattle.std.specs.Prelude.{codes, decimal}
use Rattle.dump_lines.proofs.lines.put_counts.Goals as goal

-- the two halves of a line, put behind what is buffered
put_halves : (old mid new a b c d e f g h i : List ℕ) → mid ≡ old ++ a ++ b ++ c ++ d → new ≡ mid ++ e ++ f ++ g ++ h ++ i → new ≡ old ++ ((a ++ b ++ c ++ d) ++ (e ++ f ++ g ++ h ++ i))
put_halves old mid new a b c d e f g h i first second = rw (second, first) (simp append_assoc refl)

pub returns : goal.returns
returns c =
    put_halves c.args.line_buffer.now c.put_kept.new.line_buffer c.put_left_out.new.line_buffer (codes "scan packets ") (decimal c.args.counts.packets) (codes " rows ") (decimal c.args.counts.rows)
    (codes " duplicates ") (decimal c.args.counts.duplicates) (codes " idle ") (decimal c.args.counts.idle) (codes "\n") c.put_kept.ensures.text c.put_left_out.ensures
