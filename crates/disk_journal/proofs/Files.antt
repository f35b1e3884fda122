-- What files of records stand for.
use Rattle.std.proofs.Common.{◌≤◌, ◌≡◌, inl, inr, ℕ, ◌+◌, ◌-◌, ◌^◌, ◌<◌, min, List, [], ◌∷◌, ◌++◌, length, get_or, take, drop, refl, sym, ◌∙◌, ap, arith, append_assoc, length-append, take-append-drop}
use Rattle.std.proofs.lemmas.List.{append-nil, take_at, drop_at, drop_more}
use Rattle.std.specs.Int.{w32, to_be_bytes}
use Rattle.std.proofs.lemmas.Bool.{cases_eq}
use Rattle.arch_disk.specs.Image.{Torn, overwritten}
use Rattle.disk_journal.specs.Format.{framed, written, AreSmall, IsClosed, HasRecords, HasStaged, IsBeforeOrAfter}
use Rattle.disk_journal.specs.Frame.{body_in}

pub length-framed : (body : List ℕ) → length (framed body) ≡ 4 + length body
unfolding framed
length-framed body = length-append (to_be_bytes w32 (length body)) body

pub body_in_framed : (body : List ℕ) → body_in (framed body ++ 0 ∷ []) ≡ body
unfolding framed
body_in_framed body =
    let four : length (to_be_bytes w32 (length body)) ≡ 4 = refl in
    let long : length (framed body ++ 0 ∷ []) - 5 ≡ length body = omega (arith, length-append (framed body) (0 ∷ []), length-append (to_be_bytes w32 (length body)) body) in
    let behind : drop 4 (framed body ++ 0 ∷ []) ≡ body ++ 0 ∷ [] = ap (drop 4) (append_assoc (to_be_bytes w32 (length body)) body (0 ∷ [])) ∙ drop_at (to_be_bytes w32 (length body)) (body ++ 0 ∷ []) 4 four in
    ap (λ (n : ℕ). take n (drop 4 (framed body ++ 0 ∷ []))) long ∙ ap (take (length body)) behind ∙ take_at body (0 ∷ []) (length body) refl

-- octets that are a frame are the frame of the body in them
pub frame_whole : (octets body : List ℕ) → octets ≡ framed body ++ 0 ∷ [] → octets ≡ framed (body_in octets) ++ 0 ∷ []
frame_whole octets body is = is ∙ ap (λ (b : List ℕ). framed b ++ 0 ∷ []) (sym (ap body_in is ∙ body_in_framed body))

pub frame_body : (octets body : List ℕ) → octets ≡ framed body ++ 0 ∷ [] → body_in octets ≡ body
frame_body octets body is = ap body_in is ∙ body_in_framed body

pub length-written : (bodies : List (List ℕ)) (body : List ℕ) → length (written (bodies ++ body ∷ [])) ≡ length (written bodies) + 5 + length body
length-written [] body = omega (arith, length-framed body, length-append (framed body) [])
length-written (b ∷ bodies) body = omega (arith, length-written bodies body, length-append (framed b) (written bodies), length-append (framed b) (written (bodies ++ body ∷ [])))

pub written-push : (bodies : List (List ℕ)) (body rest : List ℕ) → written (bodies ++ body ∷ []) ++ rest ≡ written bodies ++ (1 ∷ framed body ++ rest)
written-push [] body rest = ap (λ (l : List ℕ). 1 ∷ l ++ rest) (append-nil (framed body))
written-push (b ∷ bodies) body rest =
    append_assoc (1 ∷ framed b) (written (bodies ++ body ∷ [])) rest ∙ ap (λ (l : List ℕ). 1 ∷ framed b ++ l) (written-push bodies body rest) ∙ sym (append_assoc (1 ∷ framed b) (written bodies) (1 ∷ framed body ++ rest))

pub small-push : (bodies : List (List ℕ)) (body : List ℕ) → AreSmall bodies → length body < 2 ^ 32 → AreSmall (bodies ++ body ∷ [])
small-push [] body small too = (too, tt)
small-push (b ∷ bodies) body small too = (small.0, small-push bodies body small.1 too)

-- a whole record behind any gate counts or it doesn't
pub staged_either : (file : List ℕ) (bodies : List (List ℕ)) (body : List ℕ) → HasStaged file bodies body → IsBeforeOrAfter bodies body file
staged_either file bodies body s = elim (cases_eq s.gate 1) [
  | inl is ↦ inr (record { tail = s.tail; small = small-push bodies body s.small s.small_too; file_is = s.file_is ∙ ap (λ (g : ℕ). written bodies ++ (g ∷ framed body ++ s.tail)) is ∙ sym (written-push bodies body s.tail); closed = s.closed })
  | inr shut ↦ inl (record { tail = s.gate ∷ framed body ++ s.tail; small = s.small; file_is = s.file_is; closed = shut })
]

-- what stands before a torn range stays
pub front_stays : (p q file c : List ℕ) (at n : ℕ) → file ≡ p ++ q → at ≡ length p → Torn at n file c → c ≡ p ++ drop at c
front_stays p q file c at n is at_is torn =
    let long : length file ≡ length p + length q = ap length is ∙ length-append p q in
    let all : min at (length file) ≡ at = omega arith in
    let same : take at c ≡ p = sym (ap (λ (k : ℕ). take k c) all) ∙ torn.before ∙ ap (take at) is ∙ take_at p q at (sym at_is) in
    sym (take-append-drop at c) ∙ ap (λ (l : List ℕ). l ++ drop at c) same

-- and what stands behind it
pub back_stays : (p m q file c : List ℕ) (at n : ℕ) → file ≡ p ++ (m ++ q) → at ≡ length p → n ≡ length m → Torn at n file c → drop (at + n) c ≡ q
back_stays p m q file c at n is at_is n_is torn =
    torn.after ∙ ap (drop (at + n)) (is ∙ sym (append_assoc p m q)) ∙ drop_at (p ++ m) q (at + n) (omega (arith, length-append p m))

pub overwritten_is : (p m q file bytes : List ℕ) (at : ℕ) → file ≡ p ++ (m ++ q) → at ≡ length p → length bytes ≡ length m → overwritten at bytes file ≡ p ++ (bytes ++ q)
overwritten_is p m q file bytes at is at_is n_is =
    let front : take at file ≡ p = ap (take at) is ∙ take_at p (m ++ q) at (sym at_is) in
    let back : drop (at + length bytes) file ≡ q = ap (drop (at + length bytes)) (is ∙ sym (append_assoc p m q)) ∙ drop_at (p ++ m) q (at + length bytes) (omega (arith, length-append p m)) in
    ap (λ (l : List ℕ). l ++ bytes ++ drop (at + length bytes) file) front ∙ ap (λ (l : List ℕ). p ++ bytes ++ l) back ∙ append_assoc p bytes q

-- a write behind the closed gate leaves the records, however it is cut short
pub behind_gate : (file : List ℕ) (bodies : List (List ℕ)) (at n : ℕ) (c : List ℕ) → HasRecords file bodies → at ≡ length (written bodies) + 1 → Torn at n file c → HasRecords c bodies
behind_gate file bodies at n c h at_is torn = go h.tail h.file_is h.closed
  where
    go : (tail : List ℕ) → file ≡ written bodies ++ tail → IsClosed tail → HasRecords c bodies
    go [] is none = absurd none
    go (g ∷ t) is shut = record {
      tail = g ∷ drop at c;
      small = h.small;
      file_is = front_stays (written bodies ++ g ∷ []) t file c at n (is ∙ sym (append_assoc (written bodies) (g ∷ []) t)) (omega (arith, length-append (written bodies) (g ∷ []))) torn ∙ append_assoc (written bodies) (g ∷ []) (drop at c);
      closed = shut;
    }

-- a write of the gate leaves the record behind it whole
pub at_gate : (file : List ℕ) (bodies : List (List ℕ)) (body : List ℕ) (at : ℕ) (c : List ℕ) → HasStaged file bodies body → at ≡ length (written bodies) → Torn at 1 file c → HasStaged c bodies body
at_gate file bodies body at c s at_is torn =
    let long : length file ≡ length (written bodies) + length (s.gate ∷ framed body ++ s.tail) = ap length s.file_is ∙ length-append (written bodies) (s.gate ∷ framed body ++ s.tail) in
    let front = front_stays (written bodies) (s.gate ∷ framed body ++ s.tail) file c at 1 s.file_is at_is torn in
    let back = back_stays (written bodies) (s.gate ∷ []) (framed body ++ s.tail) file c at 1 s.file_is at_is refl torn in
    let rest = drop_more c at 0 (omega (arith, torn.no_shorter)) ∙ ap (λ (l : List ℕ). get_or c at 0 ∷ l) back in
    record { gate = get_or c at 0; tail = s.tail; small = s.small; small_too = s.small_too; file_is = front ∙ ap (λ (l : List ℕ). written bodies ++ l) rest; closed = s.closed }

-- a record that is written behind the closed gate
pub staged_done : (file : List ℕ) (bodies : List (List ℕ)) (body : List ℕ) (at : ℕ) → length body < 2 ^ 32 → HasRecords file bodies → at ≡ length (written bodies) + 1 → HasStaged (overwritten at (framed body ++ 0 ∷ []) file) bodies body
staged_done file bodies body at too h at_is = go h.tail h.file_is h.closed
  where
    bytes : List ℕ
    bytes = framed body ++ 0 ∷ []

    go : (tail : List ℕ) → file ≡ written bodies ++ tail → IsClosed tail → HasStaged (overwritten at bytes file) bodies body
    go [] is none = absurd none
    go (g ∷ t) is shut =
        let front : take at file ≡ written bodies ++ g ∷ [] = ap (take at) (is ∙ sym (append_assoc (written bodies) (g ∷ []) t)) ∙ take_at (written bodies ++ g ∷ []) t at (omega (arith, length-append (written bodies) (g ∷ []))) in
        let rest = drop (at + length bytes) file in
        let whole : overwritten at bytes file ≡ written bodies ++ (g ∷ framed body ++ (0 ∷ rest)) =
        ap (λ (l : List ℕ). l ++ bytes ++ rest) front ∙ append_assoc (written bodies ++ g ∷ []) bytes rest ∙ append_assoc (written bodies) (g ∷ []) (bytes ++ rest) ∙ ap (λ (l : List ℕ). written bodies ++ (g ∷ l)) (append_assoc (framed body) (0 ∷ []) rest) in
        record { gate = g; tail = 0 ∷ rest; small = h.small; small_too = too; file_is = whole; closed = omega arith }

pub gate_done : (file : List ℕ) (bodies : List (List ℕ)) (body : List ℕ) (at gate : ℕ) (s : HasStaged file bodies body) → at ≡ length (written bodies) → overwritten at (gate ∷ []) file ≡ written bodies ++ (gate ∷ framed body ++ s.tail)
gate_done file bodies body at gate s at_is = overwritten_is (written bodies) (s.gate ∷ []) (framed body ++ s.tail) file (gate ∷ []) at s.file_is at_is refl

pub opened_done : (file : List ℕ) (bodies : List (List ℕ)) (body : List ℕ) (at : ℕ) → HasStaged file bodies body → at ≡ length (written bodies) → HasRecords (overwritten at (1 ∷ []) file) (bodies ++ body ∷ [])
opened_done file bodies body at s at_is = record { tail = s.tail; small = small-push bodies body s.small s.small_too; file_is = gate_done file bodies body at 1 s at_is ∙ sym (written-push bodies body s.tail); closed = s.closed }

pub closed_done : (file : List ℕ) (bodies : List (List ℕ)) (body : List ℕ) (at : ℕ) → HasStaged file bodies body → at ≡ length (written bodies) → HasRecords (overwritten at (0 ∷ []) file) bodies
closed_done file bodies body at s at_is = record { tail = 0 ∷ framed body ++ s.tail; small = s.small; file_is = gate_done file bodies body at 0 s at_is; closed = omega arith }

-- there is room for the gate, and for a record that stands
pub gate_inside : (file : List ℕ) (bodies : List (List ℕ)) → HasRecords file bodies → length (written bodies) + 1 ≤ length file
gate_inside file bodies h = go h.tail h.file_is h.closed
  where
    go : (tail : List ℕ) → file ≡ written bodies ++ tail → IsClosed tail → length (written bodies) + 1 ≤ length file
    go [] is none = absurd none
    go (g ∷ t) is shut = omega (arith, ap length is, length-append (written bodies) (g ∷ t))

pub record_inside : (file : List ℕ) (bodies : List (List ℕ)) (body : List ℕ) → HasStaged file bodies body → length (written bodies) + 5 + length body ≤ length file
record_inside file bodies body s = omega (arith, ap length s.file_is, length-append (written bodies) (s.gate ∷ framed body ++ s.tail), length-append (framed body) s.tail, length-framed body)

pub sum_is : (end k sum : ℕ) → sum ≡ min (end + k) (2 ^ 64 - 1) → end + k < 2 ^ 64 → sum ≡ end + k
sum_is end k sum is lt = omega arith
