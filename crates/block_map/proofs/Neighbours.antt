-- Two blocks that stand beside each other: their entries shared out in another way, or merged.
use Rattle.std.proofs.Common.{◌≡◌, ℕ, zero, suc, ◌+◌, ◌<◌, ◌≤◌, List, [], ◌∷◌, ◌++◌, length, get_or, set, sym, ◌∙◌, ap, subst, refl, arith, append_assoc}
use Rattle.std.specs.Prelude.{remove}
use Rattle.std.specs.Global.{Vec}
use Rattle.std.proofs.Math.ListN.{length-set}
use Rattle.std.proofs.lemmas.List.{get_or-set_other, get_or_default}
use Rattle.std.proofs.lemmas.List.Edits.{get_or-remove_below, length-remove}
use Rattle.block_map.specs.Blocks.{entries_of}

module _ {X : Type 0} (P : X → Type 0) where
  -- what holds of the new item at its place, and of the old ones at the others, holds at each place
  pub set_either : (xs : List X) (b : ℕ) (w : X) (i : ℕ) (d : X) → i < length xs → (i ≡ b → P w) → ((i ≡ b → ⊥) → P (get_or xs i d)) → P (get_or (set xs b w) i d)
  set_either [] b w i d h here other = absurd (omega arith)
  set_either (x ∷ xs) zero w zero d h here other = here refl
  set_either (x ∷ xs) zero w (suc i) d h here other = other (λ e. omega (arith, e))
  set_either (x ∷ xs) (suc b) w zero d h here other = other (λ e. omega (arith, e))
  set_either (x ∷ xs) (suc b) w (suc i) d h here other = set_either xs b w i d (omega arith) (λ e. here (ap suc e)) (λ apart. other (λ e. apart (omega (arith, e))))

  -- what holds of the items before and after one holds at each place once that one is gone
  pub remove_either : (xs : List X) (c i : ℕ) (d : X) → c < length xs → (i < c → P (get_or xs i d)) → (c ≤ i → P (get_or xs (suc i) d)) → P (get_or (remove xs c) i d)
  remove_either [] c i d h low high = absurd (omega arith)
  remove_either (x ∷ xs) zero i d h low high = high (omega arith)
  remove_either (x ∷ xs) (suc c) zero d h low high = low (omega arith)
  remove_either (x ∷ xs) (suc c) (suc i) d h low high = remove_either xs c i d (omega arith) (λ k. low (omega (arith, k))) (λ k. high (omega (arith, k)))

-- the item before the one that went is the one before
pub before_removed : {X : Type 0} (old rest : List X) (b : ℕ) (x d : X) → rest ≡ remove old (b + 1) → b + 1 < length old → x ≡ get_or rest b x → x ≡ get_or old b d
before_removed old rest b x d gone h is =
    let before : b < b + 1 = omega arith in
    let here : b < length old = omega arith in
    let same = rw (gone, get_or-remove_below old (b + 1) x b before h) at is in
    same ∙ get_or_default old b x d here

-- the item after the one that was changed is the one before
pub after_changed : {X : Type 0} (old : List X) (b : ℕ) (w x d : X) → b + 1 < length old → x ≡ get_or (set old b w) (b + 1) x → x ≡ get_or old (b + 1) d
after_changed old b w x d h is =
    let same = rw (get_or-set_other old b (b + 1) w x (λ e. omega (arith, e))) at is in
    same ∙ get_or_default old (b + 1) x d h

module _ {K V : Type 0} where
  shared_next : (blocks : List (Vec (K × V))) (b : ℕ) (d l r : Vec (K × V)) → suc b < length blocks → l.items ++ r.items ≡ (get_or blocks b d).items ++ (get_or blocks (suc b) d).items →
      entries_of (set (set blocks b l) (suc b) r) ≡ entries_of blocks
  shared_next [] b d l r h same = absurd (omega arith)
  shared_next (x ∷ []) zero d l r h same = absurd (omega arith)
  shared_next (x ∷ y ∷ bs) zero d l r h same = sym (append_assoc l.items r.items (entries_of bs)) ∙ ap (λ (es : List (K × V)). es ++ entries_of bs) same ∙ append_assoc x.items y.items (entries_of bs)
  shared_next (x ∷ bs) (suc b) d l r h same = ap (λ (es : List (K × V)). x.items ++ es) (shared_next bs b d l r (omega arith) same)

  joined_next : (blocks : List (Vec (K × V))) (b : ℕ) (d w : Vec (K × V)) → suc b < length blocks → w.items ≡ (get_or blocks b d).items ++ (get_or blocks (suc b) d).items →
      entries_of (set (remove blocks (suc b)) b w) ≡ entries_of blocks
  joined_next [] b d w h is = absurd (omega arith)
  joined_next (x ∷ []) zero d w h is = absurd (omega arith)
  joined_next (x ∷ y ∷ bs) zero d w h is = ap (λ (es : List (K × V)). es ++ entries_of bs) is ∙ append_assoc x.items y.items (entries_of bs)
  joined_next (x ∷ bs) (suc b) d w h is = ap (λ (es : List (K × V)). x.items ++ es) (joined_next bs b d w (omega arith) is)

  -- two blocks that hold the entries of the two before
  pub entries_shared : (blocks : List (Vec (K × V))) (b : ℕ) (d l r : Vec (K × V)) → b + 1 < length blocks → l.items ++ r.items ≡ (get_or blocks b d).items ++ (get_or blocks (b + 1) d).items →
      entries_of (set (set blocks b l) (b + 1) r) ≡ entries_of blocks
  entries_shared blocks b d l r h same =
      let next : b + 1 ≡ suc b = omega arith in
      subst (λ (c : ℕ). c < length blocks → l.items ++ r.items ≡ (get_or blocks b d).items ++ (get_or blocks c d).items → entries_of (set (set blocks b l) c r) ≡ entries_of blocks) (sym next) (shared_next blocks b d l r) h same

  -- one block that holds the entries of two
  pub entries_joined : (blocks : List (Vec (K × V))) (b : ℕ) (d w : Vec (K × V)) → b + 1 < length blocks → w.items ≡ (get_or blocks b d).items ++ (get_or blocks (b + 1) d).items →
      entries_of (set (remove blocks (b + 1)) b w) ≡ entries_of blocks
  entries_joined blocks b d w h is =
      let next : b + 1 ≡ suc b = omega arith in
      subst (λ (c : ℕ). c < length blocks → w.items ≡ (get_or blocks b d).items ++ (get_or blocks c d).items → entries_of (set (remove blocks c) b w) ≡ entries_of blocks) (sym next) (joined_next blocks b d w) h is

  module _ (n : ℕ) where
    abbrev HasLeast : Vec (K × V) → Type 0
    HasLeast block = n ≤ length block.items

    -- one block changed, and another that may have too few
    pub filled_but : (blocks : List (Vec (K × V))) (b c : ℕ) (w : Vec (K × V)) → ((i : ℕ) (d : Vec (K × V)) → 0 < i → i < length blocks → (i ≡ c → ⊥) → n ≤ length (get_or blocks i d).items) →
        (0 < b → n ≤ length w.items) → (i : ℕ) (d : Vec (K × V)) → 0 < i → i < length (set blocks b w) → (i ≡ c → ⊥) → n ≤ length (get_or (set blocks b w) i d).items
    filled_but blocks b c w filled more i d p l apart =
        let within : i < length blocks = omega (arith, l, length-set blocks b w) in
        set_either HasLeast blocks b w i d within (λ e. more (omega (arith, p, e))) (λ other. filled i d p within apart)

    -- the block that may have too few is changed
    pub filled_mended : (blocks : List (Vec (K × V))) (b : ℕ) (w : Vec (K × V)) → ((i : ℕ) (d : Vec (K × V)) → 0 < i → i < length blocks → (i ≡ b → ⊥) → n ≤ length (get_or blocks i d).items) →
        (0 < b → n ≤ length w.items) → (i : ℕ) (d : Vec (K × V)) → 0 < i → i < length (set blocks b w) → n ≤ length (get_or (set blocks b w) i d).items
    filled_mended blocks b w filled more i d p l =
        let within : i < length blocks = omega (arith, l, length-set blocks b w) in
        set_either HasLeast blocks b w i d within (λ e. more (omega (arith, p, e))) (λ other. filled i d p within other)

    -- one block loses entries
    pub filled_thinned : (blocks : List (Vec (K × V))) (b : ℕ) (w : Vec (K × V)) → ((i : ℕ) (d : Vec (K × V)) → 0 < i → i < length blocks → n ≤ length (get_or blocks i d).items) →
        (i : ℕ) (d : Vec (K × V)) → 0 < i → i < length (set blocks b w) → (i ≡ b → ⊥) → n ≤ length (get_or (set blocks b w) i d).items
    filled_thinned blocks b w filled i d p l apart =
        let within : i < length blocks = omega (arith, l, length-set blocks b w) in
        set_either HasLeast blocks b w i d within (λ e. absurd (apart e)) (λ other. filled i d p within)

    -- the block that may have too few is gone
    pub filled_removed : (blocks : List (Vec (K × V))) (c : ℕ) → c < length blocks → ((i : ℕ) (d : Vec (K × V)) → 0 < i → i < length blocks → (i ≡ c → ⊥) → n ≤ length (get_or blocks i d).items) →
        (i : ℕ) (d : Vec (K × V)) → 0 < i → i < length (remove blocks c) → n ≤ length (get_or (remove blocks c) i d).items
    filled_removed blocks c h filled i d p l =
        let len = length-remove blocks c h in
        remove_either HasLeast blocks c i d h (λ k. filled i d p (omega (arith, k, h)) (λ e. omega (arith, k, e))) (λ k. filled (suc i) d (omega arith) (omega (arith, l, len)) (λ e. omega (arith, k, e)))
