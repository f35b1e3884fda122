use Rattle.std.proofs.Common.{◌≡◌, ◌*◌, false, List, sym, ap, ◌∙◌, subst, arith}
use Rattle.arch_disk.specs.Image.{Image}
use Rattle.run_pages.specs.Index.{is_index}
use Rattle.run_pages.specs.Damage.{HasNoIndex}
use Rattle.run_pages.specs.declared.index.PageEntry.{PageEntry}
use Rattle.run_pages.proofs.Ends.{has_index}
use Rattle.run_files.proofs.FileEnds.{footer_read, no_entries, no_index, octets_read, other_size}
use Rattle.run_files.proofs.end.read_end.Goals as goal

pub returns-in_default-clause-none : goal.returns-in_default-clause-none
returns-in_default-clause-none g c = λ transparent none.
    subst (λ (r : Image). HasNoIndex (r c.args.file)) c.in_ok-len.ensures.looked.reads_same (c.in_ok-footer.ensures.none transparent c.in_default.is)

pub returns-in_default-index_size-clause-none : goal.returns-in_default-index_size-clause-none
returns-in_default-index_size-clause-none g c = λ transparent none.
    let reads = g.D.Disk.device.reads in
    let long = c.in_ok-len.ensures.len transparent in
    let f = footer_read (reads c.args.disk.now) (reads c.len_of.new.disk) c.args.file c.in_ok-len.len c.in_ok-footer.field-0 c.in-Some.footer c.in_ok-len.ensures.looked.reads_same long c.in-Some.is (c.in_ok-footer.ensures.some transparent) in
    other_size (reads c.args.disk.now c.args.file) c.in-Some.footer f.0 f.1 (λ e. c.index_size.ensures.none c.in_default-index_size.is (e ∙ sym long))

pub returns-in-Err-Malformed-clause-none : goal.returns-in-Err-Malformed-clause-none
returns-in-Err-Malformed-clause-none g c = λ transparent none.
    let reads = g.D.Disk.device.reads in
    let f = footer_read (reads c.args.disk.now) (reads c.len_of.new.disk) c.args.file c.in_ok-len.len c.in_ok-footer.field-0 c.in-Some.footer c.in_ok-len.ensures.looked.reads_same (c.in_ok-len.ensures.len transparent) c.in-Some.is (c.in_ok-footer.ensures.some transparent) in
    let size : c.in-Ok.size ≡ 24 * c.in-Some.footer.pages = omega (arith, c.in-Ok.ensures, c.in-Some-index_size.ensures.some.0) in
    let octets = octets_read (reads c.args.disk.now) (reads c.footer_at_end.new.disk) c.args.file c.in-Some.footer.at c.in-Ok.size (24 * c.in-Some.footer.pages) c.in_ok-octets.octets
    (c.in_ok-footer.ensures.looked.reads_same ∙ c.in_ok-len.ensures.looked.reads_same) size (c.in_ok-octets.ensures.octets transparent) in
    no_entries (reads c.args.disk.now c.args.file) c.in-Some.footer f.0 f.1 (λ entries fits e. cc (c.in-Err-Malformed.ensures.each entries fits (c.as_slice.ensures ∙ octets ∙ e), c.in-Err-Malformed.field-0-is))

pub returns-then-not-is_index-clause-none : goal.returns-then-not-is_index-clause-none
returns-then-not-is_index-clause-none g c = λ transparent none.
    let reads = g.D.Disk.device.reads in
    let footer = c.in-Some.footer in
    let entries = c.in-Ok-read_index.entries.items in
    let f = footer_read (reads c.args.disk.now) (reads c.len_of.new.disk) c.args.file c.in_ok-len.len c.in_ok-footer.field-0 footer c.in_ok-len.ensures.looked.reads_same (c.in_ok-len.ensures.len transparent) c.in-Some.is (c.in_ok-footer.ensures.some transparent) in
    let size : c.in-Ok.size ≡ 24 * footer.pages = omega (arith, c.in-Ok.ensures, c.in-Some-index_size.ensures.some.0) in
    let octets = octets_read (reads c.args.disk.now) (reads c.footer_at_end.new.disk) c.args.file footer.at c.in-Ok.size (24 * footer.pages) c.in_ok-octets.octets
    (c.in_ok-footer.ensures.looked.reads_same ∙ c.in_ok-len.ensures.looked.reads_same) size (c.in_ok-octets.ensures.octets transparent) in
    let spelled = c.in-Ok-read_index.ensures.spelled in
    let wrong : is_index entries footer ≡ false = ap (λ (l : List PageEntry). is_index l footer) (sym c.deref.ensures.value) ∙ sym c.is_index.ensures ∙ c.if-not-is_index.true in
    no_index (reads c.args.disk.now c.args.file) footer f.0 f.1 entries spelled.0 (sym octets ∙ sym c.as_slice.ensures ∙ spelled.1) wrong

pub returns-clause-some : goal.returns-clause-some
returns-clause-some g c = λ transparent.
    let reads = g.D.Disk.device.reads in
    let footer = c.in-Some.footer in
    let entries = c.in-Ok-read_index.entries.items in
    let long = c.in_ok-len.ensures.len transparent in
    let f = footer_read (reads c.args.disk.now) (reads c.len_of.new.disk) c.args.file c.in_ok-len.len c.in_ok-footer.field-0 footer c.in_ok-len.ensures.looked.reads_same long c.in-Some.is (c.in_ok-footer.ensures.some transparent) in
    let size : c.in-Ok.size ≡ 24 * footer.pages = omega (arith, c.in-Ok.ensures, c.in-Some-index_size.ensures.some.0) in
    let octets = octets_read (reads c.args.disk.now) (reads c.footer_at_end.new.disk) c.args.file footer.at c.in-Ok.size (24 * footer.pages) c.in_ok-octets.octets
    (c.in_ok-footer.ensures.looked.reads_same ∙ c.in_ok-len.ensures.looked.reads_same) size (c.in_ok-octets.ensures.octets transparent) in
    let spelled = c.in-Ok-read_index.ensures.spelled in
    has_index (reads c.args.disk.now c.args.file) entries footer (omega (arith, c.in-Some-index_size.ensures.some.0, c.in-Some-index_size.ensures.some.1, long)) (spelled.0, sym octets ∙ sym c.as_slice.ensures ∙ spelled.1) f
    (ap (λ (l : List PageEntry). is_index l footer) (sym c.deref.ensures.value) ∙ sym c.is_index.ensures ∙ c.if-not-is_index.false)
