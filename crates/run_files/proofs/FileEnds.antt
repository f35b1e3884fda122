-- A file whose end is no index and footer.
use Rattle.std.proofs.Common.{◌≡◌, ℕ, ◌+◌, ◌-◌, ◌*◌, false, List, length, take, drop, Option, Some, sym, ap, ◌∙◌, subst}
use Rattle.std.specs.Prelude.{IfSome}
use Rattle.arch_disk.specs.Image.{Image}
use Rattle.run_pages.specs.Index.{AreEntries, index_octets, is_index}
use Rattle.run_pages.specs.Footer.{IsFooter, footer_octets}
use Rattle.run_pages.specs.Damage.{HasIndex, HasNoIndex}
use Rattle.run_pages.specs.declared.index.PageEntry.{PageEntry}
use Rattle.run_pages.specs.declared.footer.Footer.{Footer}
use Rattle.run_pages.proofs.IndexSpelling.{footer_exact, index_exact}
use Rattle.run_pages.proofs.Ends.{footer_is, index_is, once, size_is}

-- ---- what is read on a disk that reads as before

pub footer_read : (reads mid : Image) (file len : ℕ) (found : Option Footer) (footer : Footer) → mid ≡ reads → len ≡ length (reads file) → found ≡ Some footer
    → IfSome found (λ f. IsFooter f × (take 20 (drop (len - 20) (mid file)) ≡ footer_octets f)) → IsFooter footer × (take 20 (drop (length (reads file) - 20) (reads file)) ≡ footer_octets footer)
footer_read reads mid file len found footer same long is there =
    let f = subst (λ (o : Option Footer). IfSome o (λ f. IsFooter f × (take 20 (drop (len - 20) (mid file)) ≡ footer_octets f))) is there in
    (f.0, subst (λ (n : ℕ). take 20 (drop (n - 20) (reads file)) ≡ footer_octets footer) long (subst (λ (r : Image). take 20 (drop (len - 20) (r file)) ≡ footer_octets footer) same f.1))

pub octets_read : (reads mid : Image) (file at size n : ℕ) (octets : List ℕ) → mid ≡ reads → size ≡ n → octets ≡ take size (drop at (mid file)) → octets ≡ take n (drop at (reads file))
octets_read reads mid file at size n octets same size_is is = is ∙ ap (λ (r : Image). take size (drop at (r file))) same ∙ ap (λ (k : ℕ). take k (drop at (reads file))) size_is

-- ---- no index

module _ (content : List ℕ) (footer : Footer) (fits : IsFooter footer) (is : take 20 (drop (length content - 20) content) ≡ footer_octets footer) where
  -- the footer that was read is that of each index
  told : (entries : List PageEntry) (other : Footer) → HasIndex content entries other → HasIndex content entries footer
  told entries other h = subst (HasIndex content entries) (sym (once footer_exact footer other fits h.footer_fits (sym is ∙ footer_is content entries other h))) h

  pub other_size : (footer.at + 24 * footer.pages + 20 ≡ length content → ⊥) → HasNoIndex content
  other_size none entries other h = none (size_is content entries footer (told entries other h))

  pub no_entries : ((entries : List PageEntry) → AreEntries footer.pages entries → take (24 * footer.pages) (drop footer.at content) ≡ index_octets entries → ⊥) → HasNoIndex content
  no_entries none entries other h = let there = told entries other h in none entries there.fits (index_is content entries footer there)

  pub no_index : (entries : List PageEntry) → AreEntries footer.pages entries → take (24 * footer.pages) (drop footer.at content) ≡ index_octets entries → is_index entries footer ≡ false → HasNoIndex content
  no_index entries fit are none others other h =
      let there = told others other h in
      let same : entries ≡ others = once (index_exact footer.pages) entries others fit there.fits (sym are ∙ index_is content others footer there) in
      absurd (cc (sym none ∙ ap (λ (l : List PageEntry). is_index l footer) same ∙ there.index))
