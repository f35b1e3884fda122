-- Texts that are written piece by piece.
use Rattle.std.proofs.Common.{◌≡◌, ◌<◌, length, get_or, ℕ, ◌+◌, List, [], ◌∷◌, ◌++◌, take, drop, Option, Some, None, append_assoc, append-nil, refl, sym, ap, subst, ◌∙◌}
use Rattle.std.proofs.lemmas.List.{drop_more, take-append-drop}
use Rattle.std.proofs.Math.Seq.{take-add}
use Rattle.outer_traits.specs.Outside.{Writes, WritesSome}
use Rattle.line_buffer.specs.Output.{Appends, IsBuffered}
use Rattle.std.specs.Prelude.{flat_map, Result, Ok, Err, OnOk, OnErr}

pub wrote_none : (first : Option (List ℕ)) → Appends first first []
wrote_none None = refl
wrote_none (Some b) = rw (append-nil b)

-- the next octets of a text
pub wrote_more : (first now new : Option (List ℕ)) (text rest : List ℕ) (at n : ℕ) → rest ≡ drop at text →
    Appends first now (take at text) → Writes now new n rest → Appends first new (take (at + n) text)
wrote_more None now new text rest at n e h w = rw h at w
wrote_more (Some b) now new text rest at n e h w = let w' = rw (h, e) at w in rw (take-add at n text, ← append_assoc) w'

-- some of the next octets of a text
pub wrote_some : (first now new : Option (List ℕ)) (text rest : List ℕ) (at : ℕ) → rest ≡ drop at text →
    Appends first now (take at text) → WritesSome now new rest → WritesSome first new text
wrote_some None now new text rest at e h w = rw h at w
wrote_some (Some b) now new text rest at e h w =
    let w' = rw (h, e) at w in
    (take at text ++ w'.0, w'.1, rw (append_assoc, w'.2, take-append-drop at text), rw (← append_assoc) w'.3)

-- one text, and then another
pub wrote_both : (first now new : Option (List ℕ)) (text more : List ℕ) → Appends first now text → Appends now new more → Appends first new (text ++ more)
wrote_both None now new text more h k = rw h at k
wrote_both (Some b) now new text more h k = let k' = rw h at k in rw (← append_assoc) k'

-- one text, and then some of another
pub wrote_then : (first now new : Option (List ℕ)) (text more : List ℕ) → Appends first now text → WritesSome now new more → WritesSome first new (text ++ more)
wrote_then None now new text more h w = rw h at w
wrote_then (Some b) now new text more h w =
    let w' = rw h at w in
    (text ++ w'.0, w'.1, rw (append_assoc, w'.2), rw (← append_assoc) w'.3)

-- some of a text that is longer
pub wrote_front : (first new : Option (List ℕ)) (text more : List ℕ) → WritesSome first new text → WritesSome first new (text ++ more)
wrote_front None new text more w = w
wrote_front (Some b) new text more w = (w.0, w.1 ++ more, rw (← append_assoc, w.2), w.3)

-- what is buffered and what is added to it
pub buffered_more : (first now new : Option (List ℕ)) (all held left rest : List ℕ) → IsBuffered first now all (held ++ rest) → IsBuffered now new held left → IsBuffered first new all (left ++ rest)
buffered_more first now new all held left rest h k =
    (h.0 ++ k.0, rw (append_assoc, ← append_assoc k.0 left rest, ← k.1) h.1, wrote_both first now new h.0 k.0 h.2 k.2)

-- some of what is buffered
pub buffered_some : (first now new : Option (List ℕ)) (all held rest : List ℕ) → IsBuffered first now all (held ++ rest) → WritesSome now new held → WritesSome first new all
buffered_some first now new all held rest h w = rw h.1 (wrote_then first now new h.0 (held ++ rest) h.2 (wrote_front now new held rest w))

-- all of what is left
pub buffered_all : (first now new : Option (List ℕ)) (all held : List ℕ) → IsBuffered first now all held → Appends now new held → Appends first new all
buffered_all first now new all held h k = rw h.1 (wrote_both first now new h.0 held h.2 k)

-- the first of the rows that are left, its line beside what is buffered
pub regroup : {A : Type 0} (line : A → List ℕ) (first now : Option (List ℕ)) (all held : List ℕ) (rows rest : List A) (row : A) → rows ≡ row ∷ rest →
    IsBuffered first now all (held ++ flat_map line rows) → IsBuffered first now all ((held ++ line row) ++ flat_map line rest)
regroup line first now all held rows rest row step h = let h' = rw step at h in rw (append_assoc held (line row) (flat_map line rest)) h'

-- a front went on
pub buffered_front : (first now : Option (List ℕ)) (all left : List ℕ) → IsBuffered first now all left → WritesSome first now all
buffered_front None now all left h = h.2
buffered_front (Some before) now all left h = (h.0, left, sym h.1, h.2)

-- nothing went on yet
pub buffered_none : (first : Option (List ℕ)) (text : List ℕ) → IsBuffered first first text text
buffered_none first text = ([], refl, wrote_none first)

-- the lines went on but for what is buffered, and then that with the end
pub buffered_end : (first now new : Option (List ℕ)) (lines held end : List ℕ) → IsBuffered first now lines held → Appends now new (held ++ end) → Appends first new (lines ++ end)
buffered_end first now new lines held end h k = rw (h.1, append_assoc) (wrote_both first now new h.0 (held ++ end) h.2 k)

-- and then some of that
pub buffered_end_some : (first now new : Option (List ℕ)) (lines held end : List ℕ) → IsBuffered first now lines held → WritesSome now new (held ++ end) → WritesSome first new (lines ++ end)
buffered_end_some first now new lines held end h k = rw (h.1, append_assoc) (wrote_then first now new h.0 (held ++ end) h.2 k)

pub on_ok : {T E : Type 0} (r : Result T E) (P Q : Type 0) → (P → Q) → OnOk r P → OnOk r Q
on_ok (Ok x) P Q f p = f p
on_ok (Err x) P Q f p = tt

pub on_err : {T E : Type 0} (r : Result T E) (P Q : Type 0) → (P → Q) → OnErr r P → OnErr r Q
on_err (Ok x) P Q f p = tt
on_err (Err x) P Q f p = f p

-- a text went on but for what is left, and then that with more
pub buffered_then : (first now new : Option (List ℕ)) (mid left more last : List ℕ) → IsBuffered first now mid left → IsBuffered now new (left ++ more) last → IsBuffered first new (mid ++ more) last
buffered_then first now new mid left more last h k = (
  h.0 ++ k.0,
  ap (λ (l : List ℕ). l ++ more) h.1 ∙ append_assoc h.0 left more ∙ ap (λ (l : List ℕ). h.0 ++ l) k.1 ∙ sym (append_assoc h.0 k.0 last),
  wrote_both first now new h.0 k.0 h.2 k.2,
)

-- and then some of that
pub buffered_then_some : (first now new : Option (List ℕ)) (mid left more : List ℕ) → IsBuffered first now mid left → WritesSome now new (left ++ more) → WritesSome first new (mid ++ more)
buffered_then_some first now new mid left more h w =
    subst (WritesSome first new) (sym (ap (λ (l : List ℕ). l ++ more) h.1 ∙ append_assoc h.0 left more)) (wrote_then first now new h.0 (left ++ more) h.2 w)

-- the three parts of a text, put one behind the other
pub three_parts : (held front lines end mid : List ℕ) → mid ≡ held ++ front → (mid ++ lines) ++ end ≡ held ++ ((front ++ lines) ++ end)
three_parts held front lines end mid e =
    ap (λ (l : List ℕ). (l ++ lines) ++ end) e ∙ ap (λ (l : List ℕ). l ++ end) (append_assoc held front lines) ∙ append_assoc held (front ++ lines) end

-- the line of the next of what is printed, put behind what is buffered
pub next_line : {A : Type 0} (line : A → List ℕ) (items : List A) (i : ℕ) (d : A) (first now : Option (List ℕ)) (all held put : List ℕ) → i < length items →
    put ≡ held ++ line (get_or items i d) → IsBuffered first now all (held ++ flat_map line (drop i items)) → IsBuffered first now all (put ++ flat_map line (drop (i + 1) items))
next_line line items i d first now all held put lt e h =
    subst (λ (l : List ℕ). IsBuffered first now all (l ++ flat_map line (drop (i + 1) items))) (sym e)
    (regroup line first now all held (drop i items) (drop (i + 1) items) (get_or items i d) (drop_more items i d lt) h)
