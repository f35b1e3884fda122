use Rattle.std.proofs.Common.{◌≡◌, ℕ, List, None, Result, Ok, Err, sym, ap, ◌∙◌, arith}
use Rattle.std.specs.Option.{IfSome}
use Rattle.std.specs.Result.{result_ok}
use Rattle.octet_fields.specs.declared.fault.Short.{Short}
use Rattle.octet_fields.specs.Answers.{Answers}
use Rattle.octet_fields.specs.Exact.{IsOctets}
use Rattle.octet_fields.specs.Reading.{whole}
use Rattle.octet_fields.proofs.Exact.{whole_again, whole_takes}
use Rattle.run_pages.specs.Footer.{IsFooter, footer_at, footer_octets}
use Rattle.run_pages.specs.declared.footer.Footer.{Footer}
use Rattle.run_pages.proofs.IndexSpelling.{footer_exact}
use Rattle.run_pages.proofs.footer.read_footer.Goals as goal

some : (octets : List ℕ) (result : Result Footer Short) → IsOctets octets → Answers (λ (f : Footer). f) result (whole footer_at octets) → IfSome (result_ok result) (λ f. IsFooter f × (octets ≡ footer_octets f))
some octets (Ok f) are given = whole_takes footer_exact octets f are given
some octets (Err e) are given = tt

none : (octets : List ℕ) (result : Result Footer Short) → Answers (λ (f : Footer). f) result (whole footer_at octets) → result_ok result ≡ None → (f : Footer) → IsFooter f → octets ≡ footer_octets f → ⊥
none octets (Ok g) given none_is f fits is = absurd (cc none_is)
none octets (Err e) given none_is f fits is = absurd (cc (sym given ∙ ap (λ (o : List ℕ). whole footer_at o) is ∙ whole_again footer_exact f tt fits))

pub returns-clause-some : goal.returns-clause-some
returns-clause-some c = rw c.ok.ensures.value (some c.args.octets.now c.whole_footer.result (λ i. omega (arith, c.type_inv.octets i)) c.whole_footer.ensures)

pub returns-clause-none : goal.returns-clause-none
returns-clause-none c = rw c.ok.ensures.value (none c.args.octets.now c.whole_footer.result c.whole_footer.ensures)
