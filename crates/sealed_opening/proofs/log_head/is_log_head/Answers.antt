use Rattle.std.proofs.Common.{◌≡◌, ℕ, true≢false, sym, ◌∙◌, ap}
use Rattle.std.specs.Prelude.{◌==◌}
use Rattle.std.proofs.lemmas.Bool.{eqb-true}
use Rattle.std.proofs.lemmas.Cmp.{nat_eq_equiv}
use Rattle.field_codec.specs.declared.entry.Entry.TheVariants as entries
use Rattle.field_codec.proofs.EntryKinds.{one_spelling}
use Rattle.archive_images.specs.SealFiles.{log_head_record}
use Rattle.sealed_opening.proofs.log_head.is_log_head.Goals as goal

pub returns-in-Err-Malformed : goal.returns-in-Err-Malformed
returns-in-Err-Malformed c =
    let each = rw c.in-Err-Malformed.field-0-is at c.in-Err-Malformed.ensures.each in
    ((λ said. absurd (true≢false (sym said))), λ same. absurd (let bad = each (entries.LogHead c.args.rows) c.ranges.rows.fits same in cc (bad)))

pub returns : goal.returns
returns c =
    let spelled = rw c.in-LogHead.is at c.in-Ok.ensures.spelled in (
      λ said. spelled.1 ∙ ap log_head_record (eqb-true c.in-LogHead.said c.args.rows said),
      λ same.
          let one : entries.LogHead c.in-LogHead.said ≡ entries.LogHead c.args.rows = one_spelling (entries.LogHead c.in-LogHead.said) (entries.LogHead c.args.rows) spelled.0 c.ranges.rows.fits (sym spelled.1 ∙ same) in
          let rows : c.in-LogHead.said ≡ c.args.rows = cc in
          ap (λ (n : ℕ). n == c.args.rows) rows ∙ nat_eq_equiv.refl c.args.rows,
    )

pub returns-in_default : goal.returns-in_default
returns-in_default c = (
  λ said. absurd (true≢false (sym said)),
  λ same. absurd (c.in_default.not-LogHead c.args.rows (one_spelling c.in-Ok.entry (entries.LogHead c.args.rows) c.in-Ok.ensures.spelled.0 c.ranges.rows.fits (sym c.in-Ok.ensures.spelled.1 ∙ same))),
)
