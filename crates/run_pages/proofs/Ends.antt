-- The index and the footer at the end of a file.
use Rattle.std.proofs.Common.{◌≡◌, ℕ, ◌+◌, ◌-◌, ◌*◌, true, List, [], ◌∷◌, ◌++◌, length, take, drop, Option, refl, sym, ap, ◌∙◌, subst, append_assoc, append-nil, length-append, arith}
use Rattle.std.proofs.lemmas.List.{take_at, drop_at, drop-drop, length-take, length-drop, take-append-drop, take_all}
use Rattle.octet_fields.specs.Exact.{IsExact}
use Rattle.octet_fields.specs.Spelling.{number, signed}
use Rattle.octet_fields.proofs.Exact.{one_form}
use Rattle.run_pages.specs.Index.{AreEntries, page_entry_octets, index_octets, is_index}
use Rattle.run_pages.specs.Footer.{IsFooter, footer_octets}
use Rattle.run_pages.specs.Damage.{HasIndex}
use Rattle.run_pages.specs.declared.index.PageEntry.{PageEntry}
use Rattle.run_pages.specs.declared.footer.Footer.{Footer}
use Rattle.run_pages.proofs.IndexSpelling.{footer_exact, index_exact}

-- the spellings of a value that is read exactly are one
pub once : {A : Type 0} {Fits : A → Type 0} {spell : A → List ℕ} {read : List ℕ → Option (A × List ℕ)} → IsExact Fits spell read → (a b : A) → Fits a → Fits b → spell a ≡ spell b → a ≡ b
once {spell = spell} exact a b fa fb e = (one_form exact a b [] [] fa fb (append-nil (spell a) ∙ e ∙ sym (append-nil (spell b)))).0

pub length-footer : (footer : Footer) → length (footer_octets footer) ≡ 20
unfolding footer_octets number
length-footer footer = omega arith

length-entry : (entry : PageEntry) → length (page_entry_octets entry) ≡ 24
unfolding page_entry_octets number signed
length-entry entry = omega arith

pub length-index : (entries : List PageEntry) → length (index_octets entries) ≡ 24 * length entries
length-index [] = refl
length-index (entry ∷ entries) = omega (arith, length-append (page_entry_octets entry) (index_octets entries), length-entry entry, length-index entries)

module _ (content : List ℕ) where
  -- what stands behind two places is what stands between them, and the rest
  between : (at size : ℕ) → drop at content ≡ take size (drop at content) ++ drop (at + size) content
  between at size = sym (take-append-drop size (drop at content)) ∙ ap (λ (l : List ℕ). take size (drop at content) ++ l) (drop-drop size at content)

  -- an index and a footer that were read
  pub has_index : (entries : List PageEntry) (footer : Footer) → footer.at + 24 * footer.pages + 20 ≡ length content
      → AreEntries footer.pages entries × (take (24 * footer.pages) (drop footer.at content) ≡ index_octets entries)
      → IsFooter footer × (take 20 (drop (length content - 20) content) ≡ footer_octets footer)
      → is_index entries footer ≡ true → HasIndex content entries footer
  has_index entries footer size e f index =
      let behind : drop (footer.at + 24 * footer.pages) content ≡ footer_octets footer =
      let same : footer.at + 24 * footer.pages ≡ length content - 20 = omega (arith, size) in
      ap (λ (n : ℕ). drop n content) same ∙ sym (take_all 20 (drop (length content - 20) content) (omega (arith, length-drop (length content - 20) content))) ∙ f.1 in
      record {
        before = take footer.at content;
        fits = e.0;
        footer_fits = f.0;
        content_is = sym (take-append-drop footer.at content) ∙ ap (λ (l : List ℕ). take footer.at content ++ l) (between footer.at (24 * footer.pages) ∙ ap (λ (l : List ℕ). l ++ drop (footer.at + 24 * footer.pages) content) e.1 ∙ ap (λ (l : List ℕ). index_octets entries ++ l) behind);
        at_is = omega (arith, length-take footer.at content, size);
        index = index;
      }

  -- where a file has one, its last octets are its footer,
  pub footer_is : (entries : List PageEntry) (footer : Footer) → HasIndex content entries footer → take 20 (drop (length content - 20) content) ≡ footer_octets footer
  footer_is entries footer h =
      let front = h.before ++ index_octets entries in
      let split : content ≡ front ++ footer_octets footer = h.content_is ∙ sym (append_assoc h.before (index_octets entries) (footer_octets footer)) in
      let place : length front ≡ length content - 20 = omega (arith, ap length split, length-append front (footer_octets footer), length-footer footer) in
      ap (take 20) (ap (drop (length content - 20)) split ∙ drop_at front (footer_octets footer) (length content - 20) place) ∙ take_all 20 (footer_octets footer) (omega (arith, length-footer footer))

  -- it has the length that the footer names,
  pub size_is : (entries : List PageEntry) (footer : Footer) → HasIndex content entries footer → footer.at + 24 * footer.pages + 20 ≡ length content
  size_is entries footer h = omega (arith, h.at_is, h.fits.count_is, ap length h.content_is, length-append h.before (index_octets entries ++ footer_octets footer), length-append (index_octets entries) (footer_octets footer), length-index entries, length-footer footer)

  -- and before the footer stands its index
  pub index_is : (entries : List PageEntry) (footer : Footer) → HasIndex content entries footer → take (24 * footer.pages) (drop footer.at content) ≡ index_octets entries
  index_is entries footer h =
      ap (take (24 * footer.pages)) (ap (drop footer.at) h.content_is ∙ drop_at h.before (index_octets entries ++ footer_octets footer) footer.at (sym h.at_is))
      ∙ take_at (index_octets entries) (footer_octets footer) (24 * footer.pages) (omega (arith, length-index entries, h.fits.count_is))

  -- so a file has one index at most
  pub index_once : (entries more : List PageEntry) (footer other : Footer) → HasIndex content entries footer → HasIndex content more other → (footer ≡ other) × (entries ≡ more)
  index_once entries more footer other a b =
      let footers : footer ≡ other = once footer_exact footer other a.footer_fits b.footer_fits (sym (footer_is entries footer a) ∙ footer_is more other b) in
      let pages : footer.pages ≡ other.pages = ap (λ (f : Footer). f.pages) footers in (
        footers,
        once (index_exact footer.pages) entries more a.fits (subst (λ (n : ℕ). AreEntries n more) (sym pages) b.fits)
            (sym (index_is entries footer a) ∙ ap (λ (f : Footer). take (24 * f.pages) (drop f.at content)) footers ∙ index_is more other b),
      )
