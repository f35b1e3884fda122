-- Which fills may come, and what one that came leaves.
use Rattle.std.proofs.Common.{◌≡◌, ℕ, ◌≤◌, List, [], ◌∷◌, ◌++◌, length, Bool, true, false, true≢false, Option, Some, None, refl, sym, ◌∙◌, ap, subst}
use Rattle.std.specs.Prelude.{if◌then◌else◌}
use Rattle.std.specs.Option.{is_some}
use Rattle.std.proofs.lemmas.Option.{slice_get_within}
use Rattle.intervals.specs.declared.interval.Interval.{Interval}
use Rattle.history_items.specs.declared.fills.Fill.{Fill}
use Rattle.history_items.specs.declared.fills.Fill.TheVariants.{Done}
use Rattle.history_items.specs.Fills.{base_after, base_in, in_flight, is_same}
use Rattle.history_items.specs.declared.items.Item.{Item}
use Rattle.history_items.specs.Items.{databases_in, prefix, row_item}
use Rattle.history_items.specs.Late.{IsLastIn, last_in}
use Rattle.history_items.proofs.FillLists.{base_after_item}
use Rattle.history_items.proofs.Late.{last_is_greatest}
use Rattle.fill_tracker.specs.FillTracker.{AreMarksOf, mark_by}
use Rattle.late_marks.specs.declared.mark.Mark.{Mark}
use Rattle.late_marks.specs.Marks.{Marks, has_rows}
use Rattle.interval_fills.specs.Steps.{IsStoredBase}
use Rattle.interval_fills.proofs.Steps.{same_interval}
use Rattle.param_segments.specs.Extracted.{IsSetOf}
use Rattle.param_segments.specs.Rows.{SetRow}
use Rattle.store_fills.specs.LastFills.{PlacedFills, fill_over, fillings_in}
use Rattle.store_fills.specs.Sound.{Filling, Fillings, base_of_filling, with_filling}
use Rattle.store_fills.proofs.Bases.{base_with}
use Rattle.mdb_items.specs.Database.{Database}
use Rattle.history_items.specs.Databases.{database_in}
use Rattle.archive_images.specs.declared.head.Head.{Head}
use Rattle.archive_reading.specs.PartialArchive.{HoldsFills}
use Rattle.archive_images.proofs.RowsAlone.{in_force_below}

-- ---- an interval that has a row

module _ (exponent : ℕ) (items : List Item) (interval : Interval) (base : ℕ) (last : Option ℕ) (is : last ≡ last_in exponent interval items) where
  last_row : IsLastIn exponent interval items last
  last_row = subst (IsLastIn exponent interval items) (sym is) (last_is_greatest exponent interval items)

  pub stored_by : base ≤ length items → is_some last ≡ true → IsStoredBase exponent interval base items
  stored_by within some = go last some last_row
    where
      go : (o : Option ℕ) → is_some o ≡ true → IsLastIn exponent interval items o → IsStoredBase exponent interval base items
      go None none row = absurd (true≢false (sym none))
      go (Some l) some row = record {
        within = within;
        row = record { position = row.0.position; stands = row.0.stands; below = slice_get_within items row.0.position (row_item row.0.stands.row) row.0.stands.there };
      }

  pub stored_has : IsStoredBase exponent interval base items → is_some last ≡ true
  stored_has based = go last last_row
    where
      go : (o : Option ℕ) → IsLastIn exponent interval items o → is_some o ≡ true
      go None never = absurd (never (record { position = based.row.position; stands = based.row.stands }))
      go (Some l) row = refl

marked : (last base : Option ℕ) (taken : Bool) → is_some last ≡ true → is_some (mark_by last base taken) ≡ true
marked None base taken none = absurd (true≢false (sym none))
marked (Some position) base taken some = refl

-- the marks have an interval with a row
pub marked_has : (exponent : ℕ) (items : List Item) (fills : List Fill) (marks : Marks) (interval : Interval) (base : ℕ) → AreMarksOf exponent items fills marks → IsStoredBase exponent interval base items → has_rows marks interval ≡ true
marked_has exponent items fills marks interval base are based =
    let last = last_in exponent interval items in
    ap (λ (mark : Option Mark). is_some mark) (are.each interval) ∙ marked last (base_in interval fills) (is_some (in_flight interval fills)) (stored_has exponent items interval base last refl based)

-- ---- one fill more

some_is : {A : Type 0} (x y : A) → ◌≡◌ {A = Option A} (Some x) (Some y) → x ≡ y
some_is x y e = cc

pub holds_done : (head : Head) (exponent : ℕ) (history : List Item) (fills more : List Fill) (filled next : PlacedFills) (i : Interval) (base : ℕ) (set : List SetRow) → HoldsFills head exponent history fills filled
    → more ≡ fills ++ Done i base ∷ [] → fillings_in next ≡ with_filling (fillings_in filled) i (fill_over base set) → IsSetOf (database_in head.mdb (prefix base history)) exponent i.0 set → HoldsFills head exponent history more next
holds_done head exponent history fills more filled next i base set holds noted put is = record {
  bases = λ j. ap (base_in j) noted ∙ base_after_item j fills (Done i base) ∙ ap (λ (o : Option ℕ). base_after j o (Done i base)) (holds.bases j) ∙ sym (base_with (fillings_in filled) i j base set)
      ∙ ap (λ (f : Fillings (List SetRow)). base_of_filling f j) (sym put);
  fits = λ j f there. chosen j f (is_same j i) refl (sym (ap (λ (g : Fillings (List SetRow)). g j) put) ∙ there);
}
  where
    chosen : (j : Interval) (f : Filling (List SetRow)) (b : Bool) → is_same j i ≡ b → (if b then Some (fill_over base set) else fillings_in filled j) ≡ Some f → IsSetOf (database_in head.mdb (prefix f.base history)) exponent j.0 f.set
    chosen j f true same there =
        subst (λ (k : Interval). IsSetOf (database_in head.mdb (prefix f.base history)) exponent k.0 f.set) (sym (same_interval j i same))
        (subst (λ (g : Filling (List SetRow)). IsSetOf (database_in head.mdb (prefix g.base history)) exponent i.0 g.set) (some_is (fill_over base set) f there) is)
    chosen j f false other there = holds.fits j f there

-- ---- a fill list that tells the same bases

pub holds_same : (head : Head) (exponent : ℕ) (history : List Item) (fills more : List Fill) (filled : PlacedFills) → HoldsFills head exponent history fills filled → ((i : Interval) → base_in i more ≡ base_in i fills) → HoldsFills head exponent history more filled
holds_same head exponent history fills more filled holds same = record { bases = λ i. same i ∙ holds.bases i; fits = holds.fits }

-- ---- another history of rows alone

pub holds_later : (head : Head) (exponent : ℕ) (history later : List Item) (fills : List Fill) (filled : PlacedFills) → databases_in history ≡ [] → databases_in later ≡ [] → HoldsFills head exponent history fills filled → HoldsFills head exponent later fills filled
holds_later head exponent history later fills filled alone alone_later holds = record {
  bases = holds.bases;
  fits = λ i f there.
      let same : database_in head.mdb (prefix f.base history) ≡ database_in head.mdb (prefix f.base later) = in_force_below head.mdb f.base history alone ∙ sym (in_force_below head.mdb f.base later alone_later) in
      subst (λ (db : Database). IsSetOf db exponent i.0 f.set) same (holds.fits i f there);
}

-- ---- no fill

pub holds_none : (head : Head) (exponent : ℕ) (history : List Item) (fills : List Fill) (filled : PlacedFills) → fills ≡ [] → fillings_in filled ≡ (λ i. None) → HoldsFills head exponent history fills filled
holds_none head exponent history fills filled none empty = record {
  bases = λ i. ap (base_in i) none ∙ sym (ap (λ (f : Fillings (List SetRow)). base_of_filling f i) empty);
  fits = λ i f there. absurd (no_fill f (sym (ap (λ (g : Fillings (List SetRow)). g i) empty) ∙ there));
}
  where
    no_fill : (f : Filling (List SetRow)) → ◌≡◌ {A = Option (Filling (List SetRow))} None (Some f) → ⊥
    no_fill f e = cc
