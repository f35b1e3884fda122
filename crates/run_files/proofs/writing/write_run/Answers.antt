use Rattle.std.proofs.Common.{◌≡◌, ◌++◌, true, List, length, refl, sym, ap, ◌∙◌, subst, arith}
use Rattle.arch_disk.proofs.Moments.{others_on}
use Rattle.arch_types.specs.declared.row.Row.{Row}
use Rattle.run_pages.specs.Index.{index_octets, is_index}
use Rattle.run_pages.specs.Footer.{IsFooter, footer_octets}
use Rattle.run_pages.specs.declared.index.PageEntry.{PageEntry}
use Rattle.run_pages.specs.declared.footer.Footer.{Footer}
use Rattle.run_files.proofs.RunMade.{few_pages, footer_fits, footer_told, index_made, run_made}
use Rattle.run_files.proofs.Written.{others_emptied}
use Rattle.run_files.proofs.writing.write_run.Goals as goal

pub returns-in_err-flush-clause-others : goal.returns-in_err-flush-clause-others
returns-in_err-flush-clause-others g c =
    let emptied = c.in_ok-empty.ensures in
    others_emptied g.D.Disk.device c.args.file c.args.disk.now c.empty.new.disk c.flush.new.disk emptied.reads emptied.elsewhere c.in_err-flush.ensures.reads c.in_err-flush.ensures.moments

pub returns-in_err-written-clause-others : goal.returns-in_err-written-clause-others
returns-in_err-written-clause-others g c =
    let emptied = c.in_ok-empty.ensures in
    let begun = others_emptied g.D.Disk.device c.args.file c.args.disk.now c.empty.new.disk c.flush.new.disk emptied.reads emptied.elsewhere c.in_ok-flush.ensures.reads c.in_ok-flush.ensures.moments in
    others_on g.D.Disk.device c.args.file c.args.disk.now c.flush.new.disk c.write_pages.new.disk begun c.in_err-written.ensures.others

pub overflow_cast-footer : goal.overflow_cast-footer
overflow_cast-footer g c =
    let entries = c.in_ok-written.written.entries.items in
    let few = few_pages g.D.Disk.device c.args.file c.write_pages.new.disk c.args.positions.now c.args.rows.now c.requires.beside c.requires.rows c.requires.few entries c.in_ok-written.written.end c.in_ok-written.ensures.pages in
    omega (arith, few, c.requires.few, c.len.ensures)

pub write_end-requires-clause-footer : goal.write_end-requires-clause-footer
write_end-requires-clause-footer g c =
    let device = g.D.Disk.device in
    let positions = c.args.positions.now in
    let rows = c.args.rows.now in
    let entries = c.in_ok-written.written.entries.items in
    let end = c.in_ok-written.written.end in
    let pages = c.in_ok-written.ensures.pages in
    let footer : Footer = record { at = end; pages = c.len.result; rows = length rows } in
    let count : c.len.result ≡ length entries = omega (arith, c.len.ensures) in
    subst IsFooter (sym (footer_told device c.args.file c.write_pages.new.disk positions rows c.requires.beside c.requires.rows c.requires.few entries end pages footer refl count refl))
    (footer_fits device c.args.file c.write_pages.new.disk positions rows c.requires.beside c.requires.rows c.requires.few entries end pages)

pub returns-in_err-write_end-clause-others : goal.returns-in_err-write_end-clause-others
returns-in_err-write_end-clause-others g c =
    let device = g.D.Disk.device in
    let file = c.args.file in
    let old = c.args.disk.now in
    let emptied = c.in_ok-empty.ensures in
    let begun = others_emptied device file old c.empty.new.disk c.flush.new.disk emptied.reads emptied.elsewhere c.in_ok-flush.ensures.reads c.in_ok-flush.ensures.moments in
    let paged = others_on device file old c.flush.new.disk c.write_pages.new.disk begun c.in_ok-written.ensures.others in
    others_on device file old c.write_pages.new.disk c.write_end.new.disk paged c.in_err-write_end.ensures.others

pub invariant_of-result : goal.invariant_of-result
invariant_of-result g c =
    let device = g.D.Disk.device in
    let positions = c.args.positions.now in
    let rows = c.args.rows.now in
    let entries = c.in_ok-written.written.entries.items in
    let end = c.in_ok-written.written.end in
    let pages = c.in_ok-written.ensures.pages in
    let footer : Footer = record { at = end; pages = c.len.result; rows = length rows } in
    let count : c.len.result ≡ length entries = omega (arith, c.len.ensures) in
    let few = few_pages device c.args.file c.write_pages.new.disk positions rows c.requires.beside c.requires.rows c.requires.few entries end pages in
    let told = footer_told device c.args.file c.write_pages.new.disk positions rows c.requires.beside c.requires.rows c.requires.few entries end pages footer refl count refl in
    record {
      count = sym count;
      few = omega (arith, few, c.requires.few);
      index = subst (λ (f : Footer). is_index entries f ≡ true) (sym told) (index_made device c.args.file c.write_pages.new.disk positions rows c.requires.beside c.requires.rows c.requires.few entries end pages);
    }

pub returns-clause-written : goal.returns-clause-written
returns-clause-written g c =
    let device = g.D.Disk.device in
    let file = c.args.file in
    let disk = c.write_pages.new.disk in
    let positions = c.args.positions.now in
    let rows = c.args.rows.now in
    let entries = c.in_ok-written.written.entries.items in
    let end = c.in_ok-written.written.end in
    let pages = c.in_ok-written.ensures.pages in
    let footer : Footer = record { at = end; pages = c.len.result; rows = length rows } in
    let count : c.len.result ≡ length entries = omega (arith, c.len.ensures) in
    let told = footer_told device file disk positions rows c.requires.beside c.requires.rows c.requires.few entries end pages footer refl count refl in
    let ended = c.in_ok-write_end.ensures in
    record {
      in_file = refl;
      held = λ transparent.
          let written = ended.written transparent ∙ ap (λ (l : List PageEntry). device.reads disk file ++ (index_octets l ++ footer_octets footer)) c.deref.ensures.value
          ∙ ap (λ (f : Footer). device.reads disk file ++ (index_octets entries ++ footer_octets f)) told in
          run_made device file disk positions rows c.requires.beside c.requires.rows c.requires.few entries end pages _ c.write_end.new.disk c.index-rows-0.result c.index-rows-rows.result
          refl refl told (ap (λ (x : Row). x.table) (sym c.index-rows-0.is)) c.index-rows-0.is (ap (λ (x : Row). x.key) (sym c.index-rows-rows.is)) c.index-rows-rows.is ended.durable written transparent;
      no_failed_write = ended.no_failed_write ∙ c.in_ok-written.ensures.no_failed_write ∙ c.in_ok-flush.ensures.no_failed_write ∙ c.in_ok-empty.ensures.no_failed_write;
    }

pub returns-clause-others : goal.returns-clause-others
returns-clause-others g c =
    let device = g.D.Disk.device in
    let file = c.args.file in
    let old = c.args.disk.now in
    let emptied = c.in_ok-empty.ensures in
    let begun = others_emptied device file old c.empty.new.disk c.flush.new.disk emptied.reads emptied.elsewhere c.in_ok-flush.ensures.reads c.in_ok-flush.ensures.moments in
    let paged = others_on device file old c.flush.new.disk c.write_pages.new.disk begun c.in_ok-written.ensures.others in
    others_on device file old c.write_pages.new.disk c.write_end.new.disk paged c.in_ok-write_end.ensures.others
