-- Ends of a block, and the parts that stand before them.
use Rattle.std.proofs.Common.{◌≡◌, ℕ, ◌+◌, ◌<◌, ltb, List, [], ◌∷◌, ◌++◌, length, take, drop, get_or, Some, sym, ap, subst, ◌∙◌, append_assoc, append-nil, add-one, length-append}
use Rattle.std.specs.Int.{Width, byte_len, from_be_bytes}
use Rattle.std.specs.List.{flat_map}
use Rattle.std.proofs.Math.Seq.{take-suc}
use Rattle.std.proofs.lemmas.Grind.{flat_map-append}
use Rattle.std.proofs.lemmas.List.{take-append-drop}
use Rattle.octet_fields.specs.Reading.{number_at}
use Rattle.octet_fields.proofs.Exact.{guard_some, some_is}
use Rattle.row_codec.specs.Block.{IsEndOf}

-- an end of an end
pub end_behind : (block front rest : List ℕ) → IsEndOf (front ++ rest) block → IsEndOf rest block
end_behind block front rest e = (e.0 ++ front, e.1 ∙ sym (append_assoc e.0 front rest))

pub end_of_end : (block octets front rest : List ℕ) → IsEndOf octets block → octets ≡ front ++ rest → IsEndOf rest block
end_of_end block octets front rest e is = end_behind block front rest (e.0, e.1 ∙ ap (λ (l : List ℕ). e.0 ++ l) is)

-- what follows a number
pub number_end : (w : Width) (octets : List ℕ) (x : ℕ × List ℕ) → number_at w octets ≡ Some x → IsEndOf x.1 octets
unfolding number_at
number_end w octets x e =
    let made : ℕ × List ℕ = (from_be_bytes w (take (byte_len w) octets), drop (byte_len w) octets) in
    let g = guard_some (ltb (length octets) (byte_len w)) (Some made) x e in
    subst (λ (y : ℕ × List ℕ). IsEndOf y.1 octets) (some_is made x g.1) (take (byte_len w) octets, sym (take-append-drop (byte_len w) octets))

pub behind_number : (w : Width) (block octets : List ℕ) (x : ℕ × List ℕ) → IsEndOf octets block → number_at w octets ≡ Some x → IsEndOf x.1 block
behind_number w block octets x e read = let f = number_end w octets x read in end_of_end block octets f.0 x.1 e f.1

-- the octets of one item more
pub size_more : {X : Type 0} (f : X → List ℕ) (xs : List X) (i : ℕ) (x : X) → i < length xs → x ≡ get_or xs i x → length (flat_map f (take (i + 1) xs)) ≡ length (flat_map f (take i xs)) + length (f x)
size_more f xs i x lt is =
    ap (λ n. length (flat_map f (take n xs))) (add-one i)
    ∙ ap (λ l. length (flat_map f l)) (take-suc xs i x lt ∙ ap (λ y. take i xs ++ y ∷ []) (sym is))
    ∙ ap length (flat_map-append f (take i xs) (x ∷ []))
    ∙ length-append (flat_map f (take i xs)) (f x ++ [])
    ∙ ap (λ l. length (flat_map f (take i xs)) + length l) (append-nil (f x))
