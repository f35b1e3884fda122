use Rattle.std.proofs.Common.{[], sym, arith}
use Rattle.octet_fields.proofs.Answers.{reads_each, reads_only}
use Rattle.run_pages.specs.Pages.{rows_of_page}
use Rattle.run_pages.proofs.PageSpelling.{page_exact}
use Rattle.run_pages.proofs.page.spelled_page.Goals as goal

pub whole_page-requires : goal.whole_page-requires
whole_page-requires c = ([], sym c.requires)

pub returns-clause-spelled : goal.returns-clause-spelled
returns-clause-spelled c = reads_only page_exact tt (λ page. rows_of_page page) c.args.octets.now c.whole_page.result (λ i. omega (arith, c.type_inv.octets i)) c.whole_page.ensures

pub returns-clause-each : goal.returns-clause-each
returns-clause-each c = reads_each page_exact tt (λ page. rows_of_page page) c.args.octets.now c.whole_page.result c.whole_page.ensures
