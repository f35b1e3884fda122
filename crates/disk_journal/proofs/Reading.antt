-- One record more in a reading.
use Rattle.std.proofs.Common.{◌≡◌, ℕ, zero, suc, ◌+◌, ◌^◌, ◌<◌, List, [], ◌∷◌, ◌++◌, length, get_or, take, drop, refl, sym, ◌∙◌, ap, subst, arith, append_assoc, length-drop, take-append-drop}
use Rattle.std.proofs.lemmas.List.{drop_at, drop_more, drop-drop, length-take-le}
use Rattle.std.specs.Int.{w32, to_be_bytes}
use Rattle.disk_journal.specs.Format.{framed, written, HasUpTo}
use Rattle.disk_journal.specs.State.{extents_from}
use Rattle.disk_journal.specs.Reading.{IsWholeAt}
use Rattle.disk_journal.specs.declared.journal.Extent.{Extent}
use Rattle.disk_journal.proofs.Files.{length-written, written-push, small-push}
use Rattle.disk_journal.proofs.Appending.{extent, extents-push}

pub pushed : (bodies : List (List ℕ)) (body : List ℕ) (old new : List Extent) (end len : ℕ) → old ≡ extents_from 0 bodies → end ≡ length (written bodies) → len ≡ length body → new ≡ old ++ extent (end + 5) len ∷ [] → new ≡ extents_from 0 (bodies ++ body ∷ [])
pushed bodies body old new end len old_is end_is len_is new_is =
    let same : end + 5 ≡ 0 + length (written bodies) + 5 = omega arith in
    new_is ∙ ap (λ (l : List Extent). l ++ extent (end + 5) len ∷ []) old_is
    ∙ sym (extents-push 0 bodies body (extent (end + 5) len) (ap (λ (n : ℕ). extent n len) same ∙ ap (extent (0 + length (written bodies) + 5)) len_is))

module _ (content : List ℕ) (at size : ℕ) (fits : at + 5 + size < length content) where
  pub next_body : List ℕ
  next_body = take size (drop (at + 5) content)

  pub next_body_is : next_body ≡ take size (drop (at + 5) content)
  unfolding next_body
  next_body_is = refl

  pub length-next_body : length next_body ≡ size
  unfolding next_body
  length-next_body = length-take-le size (drop (at + 5) content) (omega (arith, length-drop (at + 5) content))

  framed_next : to_be_bytes w32 size ≡ take 4 (drop (at + 1) content) → framed next_body ++ drop (at + 5 + size) content ≡ drop (at + 1) content
  unfolding framed next_body
  framed_next number =
      let rest = drop (at + 5) content in
      let five : drop 4 (drop (at + 1) content) ≡ rest = drop-drop 4 (at + 1) content ∙ ap (λ (n : ℕ). drop n content) (let same : at + 1 + 4 ≡ at + 5 = omega arith in same) in
      let behind : next_body ++ drop (at + 5 + size) content ≡ rest = ap (λ (l : List ℕ). next_body ++ l) (sym (drop-drop size (at + 5) content)) ∙ take-append-drop size rest in
      let head : to_be_bytes w32 (length next_body) ≡ take 4 (drop (at + 1) content) = ap (to_be_bytes w32) length-next_body ∙ number in
      append_assoc (to_be_bytes w32 (length next_body)) next_body (drop (at + 5 + size) content)
      ∙ ap (λ (l : List ℕ). l ++ (next_body ++ drop (at + 5 + size) content)) head
      ∙ ap (λ (l : List ℕ). take 4 (drop (at + 1) content) ++ l) (behind ∙ sym five)
      ∙ take-append-drop 4 (drop (at + 1) content)

  pub next_record : (bodies : List (List ℕ)) → HasUpTo content at bodies → get_or content at 0 ≡ 1 → to_be_bytes w32 size ≡ take 4 (drop (at + 1) content) → size < 2 ^ 32 → HasUpTo content (at + (5 + size)) (bodies ++ next_body ∷ [])
  next_record bodies h gate number small =
      let rest : h.rest ≡ drop at content = sym (ap (drop at) h.file_is ∙ drop_at (written bodies) h.rest at (sym h.at_is)) in
      let opens : drop at content ≡ 1 ∷ drop (at + 1) content = drop_more content at 0 (omega arith) ∙ ap (λ (n : ℕ). n ∷ drop (at + 1) content) gate in
      record {
        rest = drop (at + 5 + size) content;
        small = small-push bodies next_body h.small (omega (arith, length-next_body));
        file_is = h.file_is ∙ ap (λ (l : List ℕ). written bodies ++ l) (rest ∙ opens ∙ ap (λ (l : List ℕ). 1 ∷ l) (sym (framed_next number))) ∙ sym (written-push bodies next_body (drop (at + 5 + size) content));
        at_is = omega (arith, h.at_is, length-written bodies next_body, length-next_body);
      }

-- a whole record that stands next is one body more
pub one_more : (content : List ℕ) (at : ℕ) (bodies : List (List ℕ)) (e : Extent) → IsWholeAt content at e → HasUpTo content at bodies → HasUpTo content (e.at + e.len) (bodies ++ take e.len (drop e.at content) ∷ [])
one_more content at bodies e w h =
    let next = next_record content at e.len w.fits bodies h w.gate w.number w.small in
    let body : next_body content at e.len w.fits ≡ take e.len (drop e.at content) = next_body_is content at e.len w.fits ∙ ap (λ (n : ℕ). take e.len (drop n content)) (sym w.body_at) in
    let place : at + (5 + e.len) ≡ e.at + e.len = omega (arith, w.body_at) in
    subst (λ (n : ℕ). HasUpTo content n (bodies ++ take e.len (drop e.at content) ∷ [])) place (subst (λ (b : List ℕ). HasUpTo content (at + (5 + e.len)) (bodies ++ b ∷ [])) body next)

-- and so is its extent
pub more_extents : (content : List ℕ) (at : ℕ) (bodies : List (List ℕ)) (e : Extent) (old new : List Extent) → IsWholeAt content at e → HasUpTo content at bodies → old ≡ extents_from 0 bodies → new ≡ old ++ e ∷ [] → new ≡ extents_from 0 (bodies ++ take e.len (drop e.at content) ∷ [])
more_extents content at bodies e old new w h old_is new_is =
    let body : next_body content at e.len w.fits ≡ take e.len (drop e.at content) = next_body_is content at e.len w.fits ∙ ap (λ (n : ℕ). take e.len (drop n content)) (sym w.body_at) in
    let long : e.len ≡ length (take e.len (drop e.at content)) = sym (length-next_body content at e.len w.fits) ∙ ap length body in
    pushed bodies (take e.len (drop e.at content)) old new at e.len old_is h.at_is long (new_is ∙ ap (λ (n : ℕ). old ++ extent n e.len ∷ []) w.body_at)

pub four_of : (l : List ℕ) → length l ≡ 4 → get_or l 0 0 ∷ get_or l 1 0 ∷ get_or l 2 0 ∷ get_or l 3 0 ∷ [] ≡ l
four_of [] is = absurd (omega arith)
four_of (a ∷ []) is = absurd (omega arith)
four_of (a ∷ b ∷ []) is = absurd (omega arith)
four_of (a ∷ b ∷ c ∷ []) is = absurd (omega arith)
four_of (a ∷ b ∷ c ∷ d ∷ []) is = refl
four_of (a ∷ b ∷ c ∷ d ∷ e ∷ l) is = absurd (omega arith)

pub four_fit : (a b c d : ℕ) → a < 256 → b < 256 → c < 256 → d < 256 → (i : ℕ) → get_or (a ∷ b ∷ c ∷ d ∷ []) i 0 < 256
four_fit a b c d p q r s zero = p
four_fit a b c d p q r s (suc zero) = q
four_fit a b c d p q r s (suc (suc zero)) = r
four_fit a b c d p q r s (suc (suc (suc zero))) = s
four_fit a b c d p q r s (suc (suc (suc (suc i)))) = omega arith
