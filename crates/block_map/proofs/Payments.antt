-- What entries paid for splits, and what splits took of it.
use Rattle.std.proofs.Common.{◌≡◌, ℕ, ◌+◌, ◌-◌, ◌*◌, ◌/◌, ◌^◌, ◌<◌, ◌≤◌, length, vec_len, vec_capacity, Bool, true, false, inl, inr, arith, sym, ◌∙◌, ap}
use Rattle.std.specs.Global.{Vec}
use Rattle.std.specs.declared.cmp.Ordering.{Ordering}
use Rattle.std.proofs.Math.Nat.{add-mul, lt-div-mul-add}
use Rattle.std.proofs.lemmas.Bool.{cases_lt}
use Rattle.std.proofs.lemmas.Nat.{mul-le}
use Rattle.block_map.specs.declared.blocks.TheConstants.{CAPACITY, MIN_FILL}
use Rattle.block_map.specs.Blocks.{entries_of, excess_of, AreFilled, AreReady, AreRisingBlocks, HasSpares, IsBlocks, IsOpenFor}
use Rattle.block_map.specs.Index.{IsIndex}
use Rattle.block_map.proofs.Counted.{excess_counts}

parts : (spares left part : ℕ) → left ≤ spares → (spares - left) * part + left * part ≡ spares * part
parts spares left part fewer =
    let whole : (spares - left) + left ≡ spares = omega (arith, fewer) in
    sym (add-mul (spares - left) left part) ∙ ap (λ (i : ℕ). i * part) whole

-- so many spare blocks suffice for what may come to be paid
pub spares_suffice : (paid part spares : ℕ) → 0 < part → paid / part ≤ spares → paid < part + spares * part
spares_suffice paid part spares some enough = omega (arith, lt-div-mul-add {a = paid} {b = part} some, mul-le (paid / part) part spares part enough (omega arith))

-- more spare blocks suffice too
more_spared : (paid part spares more : ℕ) → paid < part + spares * part → spares ≤ more → paid < part + more * part
more_spared paid part spares more enough fewer = omega (arith, enough, mul-le spares part more part fewer (omega arith))

-- what a block has beyond `keep` grows by no more than its entry pays, and by no less where those beyond pay alone
module _ {len keep payment : ℕ} (beyond : keep ≤ len → payment ≡ 1) where
  pub beyond_paid : len + 1 - keep ≤ (len - keep) + payment
  beyond_paid = elim (cases_lt len keep) [
    | inl below ↦ omega (arith, below)
    | inr full ↦ omega (arith, full, beyond full)
  ]

  pub beyond_alone_paid : (len < keep → payment ≡ 0) → len + 1 - keep ≡ (len - keep) + payment
  beyond_alone_paid alone = elim (cases_lt len keep) [
    | inl below ↦ omega (arith, below, alone below)
    | inr full ↦ omega (arith, full, beyond full)
  ]

-- what splits take was paid, and what is left pays for the rest
module _ (spares left part was now paid : ℕ) (fewer : left ≤ spares) (same : now + spares * part ≡ was + left * part) (covers : was ≤ paid) where
  pub split_paid : (spares - left) * part ≤ paid
  split_paid = omega (arith, parts spares left part fewer, same, covers)

  still_covers : now ≤ paid - (spares - left) * part
  still_covers = omega (arith, parts spares left part fewer, same, covers)

  still_alone : paid ≡ was → paid - (spares - left) * part ≡ now
  still_alone exact = omega (arith, parts spares left part fewer, same, exact)

  still_spared : (room : ℕ) → paid + room < part + spares * part → paid - (spares - left) * part + room < part + left * part
  still_spared room enough = omega (arith, parts spares left part fewer, same, covers, enough)

  still_all : (blocks more len : ℕ) → more + left ≡ blocks + spares → paid + blocks * part ≡ len + part → paid - (spares - left) * part + more * part ≡ len + part
  still_all blocks more len moved all = omega (arith, parts spares left part fewer, same, covers, all, add-mul more left part, add-mul blocks spares part, ap (λ (i : ℕ). i * part) moved)

module _ {K V : Type 0} {cmp : K → K → Ordering} (keep : ℕ) (each : Bool) where
  -- after the splits that open a block
  pub opened : {key : K} {b : ℕ} (old_blocks old_spare blocks spare : Vec (Vec (K × V))) (len paid room : ℕ) → keep < CAPACITY → IsIndex cmp keep each old_blocks old_spare len paid room →
      IsOpenFor cmp key keep old_blocks old_spare blocks spare b → IsIndex cmp keep each blocks spare len (paid - (vec_len old_spare - vec_len spare) * (CAPACITY - keep)) room
  opened old_blocks old_spare blocks spare len paid room less index splits =
      let s = vec_len old_spare in
      let t = vec_len spare in
      let was = excess_of keep old_blocks.items in
      let now = excess_of keep blocks.items in
      record {
        blocks_in_order = splits.blocks;
        ready = splits.ready;
        fits = splits.fits;
        fits_spare = omega (arith, splits.moved, splits.spare_capacity, index.fits_spare);
        counted = index.counted ∙ ap length (sym splits.same);
        beyond = still_covers s t (CAPACITY - keep) was now paid splits.fewer splits.excess index.beyond;
        beyond_alone = λ e. still_alone s t (CAPACITY - keep) was now paid splits.fewer splits.excess index.beyond (index.beyond_alone e);
        at_most = omega (arith, index.at_most);
        spared = still_spared s t (CAPACITY - keep) was now paid splits.fewer splits.excess index.beyond room index.spared;
        filled = λ e. splits.filled (CAPACITY - keep) (omega (arith, less)) (index.filled e);
        paid_all = λ e. still_all s t (CAPACITY - keep) was now paid splits.fewer splits.excess index.beyond (vec_len old_blocks) (vec_len blocks) len splits.moved (index.paid_all e);
        small = index.small;
      }

  -- after one more entry in a block that had a place
  pub added : (blocks spare more : Vec (Vec (K × V))) (len paid room payment : ℕ) → IsIndex cmp keep each blocks spare len paid room → 0 < room → AreRisingBlocks cmp more.items →
      ((fill : ℕ) → AreFilled fill blocks.items → AreFilled fill more.items) → excess_of keep more.items ≤ excess_of keep blocks.items + payment →
      (each ≡ false → excess_of keep more.items ≡ excess_of keep blocks.items + payment) →
      length (entries_of more.items) ≡ length (entries_of blocks.items) + 1 → vec_len more ≡ vec_len blocks → vec_capacity more ≡ vec_capacity blocks →
      payment ≤ 1 → (each ≡ true → payment ≡ 1) → IsIndex cmp keep each more spare (len + 1) (paid + payment) (room - 1)
  added blocks spare more len paid room payment index some rising filled grown grown_alone counted same_len same_capacity most all = record {
    blocks_in_order = rising;
    ready = index.ready;
    fits = omega (arith, index.fits, same_len, same_capacity);
    fits_spare = omega (arith, index.fits_spare, same_len);
    counted = omega (arith, index.counted, counted);
    beyond = omega (arith, index.beyond, grown);
    beyond_alone = λ e. (let before = index.beyond_alone e in let after = grown_alone e in omega (arith, before, after));
    at_most = omega (arith, index.at_most, most);
    spared = omega (arith, index.spared, most, some);
    filled = λ e. filled (CAPACITY - keep) (index.filled e);
    paid_all = λ e. (let one = all e in let before = index.paid_all e in rw same_len (omega (arith, one, before)));
    small = omega (arith, index.small, some);
  }

  -- after another value of an entry
  pub changed : (blocks spare more : Vec (Vec (K × V))) (len paid room : ℕ) → IsIndex cmp keep each blocks spare len paid room → AreRisingBlocks cmp more.items →
      ((fill : ℕ) → AreFilled fill blocks.items → AreFilled fill more.items) → excess_of keep more.items ≡ excess_of keep blocks.items →
      length (entries_of more.items) ≡ length (entries_of blocks.items) → vec_len more ≡ vec_len blocks → vec_capacity more ≡ vec_capacity blocks → IsIndex cmp keep each more spare len paid room
  changed blocks spare more len paid room index rising filled same counted same_len same_capacity = record {
    blocks_in_order = rising;
    ready = index.ready;
    fits = omega (arith, index.fits, same_len, same_capacity);
    fits_spare = omega (arith, index.fits_spare, same_len);
    counted = omega (arith, index.counted, counted);
    beyond = omega (arith, index.beyond, same);
    beyond_alone = λ e. (let before = index.beyond_alone e in omega (arith, before, same));
    at_most = index.at_most;
    spared = index.spared;
    filled = λ e. filled (CAPACITY - keep) (index.filled e);
    paid_all = λ e. (let before = index.paid_all e in rw same_len before);
    small = index.small;
  }

  -- after spare blocks came, which suffice for another room
  pub reserved : (old_blocks old_spare blocks spare : Vec (Vec (K × V))) (len paid room more : ℕ) → IsIndex cmp keep each old_blocks old_spare len paid room → blocks.items ≡ old_blocks.items →
      AreReady spare.items → vec_len blocks + vec_len spare ≤ vec_capacity blocks → vec_len blocks + vec_len spare ≤ vec_capacity spare → HasSpares keep (paid + more) (vec_len spare) → len + more < 2 ^ 64 →
      IsIndex cmp keep each blocks spare len paid more
  reserved old_blocks old_spare blocks spare len paid room more index same ready fits fits_spare enough small = record {
    blocks_in_order = rw same index.blocks_in_order;
    ready = ready;
    fits = fits;
    fits_spare = fits_spare;
    counted = rw same index.counted;
    beyond = rw same index.beyond;
    beyond_alone = λ e. rw same (index.beyond_alone e);
    at_most = index.at_most;
    spared = enough;
    filled = λ e. rw same (index.filled e);
    paid_all = λ e. (let before = index.paid_all e in let lens : vec_len blocks ≡ vec_len old_blocks = omega (arith, blocks.ok.0, old_blocks.ok.0, ap length same) in rw lens before);
    small = small;
  }

  -- after spare blocks came, and no room
  pub spared_more : (old_blocks old_spare blocks spare : Vec (Vec (K × V))) (len paid room : ℕ) → IsIndex cmp keep each old_blocks old_spare len paid room → blocks.items ≡ old_blocks.items →
      AreReady spare.items → vec_len blocks + vec_len spare ≤ vec_capacity blocks → vec_len blocks + vec_len spare ≤ vec_capacity spare → vec_len old_spare ≤ vec_len spare → IsIndex cmp keep each blocks spare len paid room
  spared_more old_blocks old_spare blocks spare len paid room index same ready fits fits_spare more =
      reserved old_blocks old_spare blocks spare len paid room room index same ready fits fits_spare (more_spared (paid + room) (CAPACITY - keep) (vec_len old_spare) (vec_len spare) index.spared more) index.small

-- entries at least as many as each block but the first must have
pub all_filled : {K V : Type 0} {cmp : K → K → Ordering} (keep : ℕ) (blocks : Vec (Vec (K × V))) → MIN_FILL ≤ keep → IsBlocks cmp blocks.items →
    (0 < vec_len blocks) × (excess_of keep blocks.items + vec_len blocks * MIN_FILL ≤ length (entries_of blocks.items) + MIN_FILL)
all_filled keep blocks enough filled =
    (omega (arith, filled.some, blocks.ok.0), omega (arith, blocks.ok.0, excess_counts keep MIN_FILL enough blocks.items filled.filled))
