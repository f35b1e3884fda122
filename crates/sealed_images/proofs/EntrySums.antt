-- What a log's entries come to.
use Rattle.std.proofs.Common.{◌≡◌, List, [], ◌∷◌, ◌++◌, Option, Some, sym, ◌∙◌, ap, append_assoc}
use Rattle.std.specs.Prelude.{fold}
use Rattle.std.proofs.lemmas.List.{append-nil}
use Rattle.history_items.specs.declared.items.Item.{Item}
use Rattle.history_items.specs.Items.{items_of}
use Rattle.history_items.proofs.ItemLists.{items_of-append}
use Rattle.field_codec.specs.declared.entry.Entry.{Entry}
use Rattle.field_codec.specs.declared.entry.Entry.TheVariants as entries
use Rattle.param_segments.specs.Rows.{SetRow}
use Rattle.store_fills.specs.Sound.{Fillings}
use Rattle.archive_images.specs.Entries.{FilledArchive, Replays}
use Rattle.archive_images.specs.SealFiles.{StoredFill}
use Rattle.archive_images.specs.Below.{after_fill}
use Rattle.sealed_images.specs.Sealing.{fills_of_entries, rows_of_entries}

some_is : (x y : FilledArchive) → ◌≡◌ {A = Option FilledArchive} (Some x) (Some y) → x ≡ y
some_is x y is = cc

-- the history behind entries is the one before, and their rows
pub replays_rows : (es : List Entry) (made filled : FilledArchive) → Replays (Some made) es (Some filled) → filled.plain.history ≡ made.plain.history ++ items_of (rows_of_entries es)
replays_rows [] made filled r = ap (λ (a : FilledArchive). a.plain.history) (some_is filled made r) ∙ sym (append-nil made.plain.history)
replays_rows (entries.Head tables mdb ∷ es) made filled r = absurd r.1
replays_rows (entries.Seal seal ∷ es) made filled r = absurd r.1
replays_rows (entries.LogHead rows ∷ es) made filled r = absurd r.1
replays_rows (entries.Rows rows ∷ es) made filled r =
    let mid : r.0.plain.history ≡ made.plain.history ++ items_of rows = ap (λ (a : FilledArchive). a.plain.history) r.1.1 in
    replays_rows es r.0 filled r.2 ∙ ap (λ (l : List Item). l ++ items_of (rows_of_entries es)) mid
    ∙ append_assoc made.plain.history (items_of rows) (items_of (rows_of_entries es))
    ∙ ap (λ (l : List Item). made.plain.history ++ l) (sym (items_of-append rows (rows_of_entries es)))
replays_rows (entries.Fill interval base octets ∷ es) made filled r =
    let mid : r.0.plain.history ≡ made.plain.history = ap (λ (a : FilledArchive). a.plain.history) r.1.1 in
    replays_rows es r.0 filled r.2 ∙ ap (λ (l : List Item). l ++ items_of (rows_of_entries es)) mid

-- head and exponent stay
pub replays_head : (es : List Entry) (made filled : FilledArchive) → Replays (Some made) es (Some filled) → (filled.plain.head ≡ made.plain.head) × (filled.plain.exponent ≡ made.plain.exponent)
replays_head [] made filled r = let same = some_is filled made r in (ap (λ (a : FilledArchive). a.plain.head) same, ap (λ (a : FilledArchive). a.plain.exponent) same)
replays_head (entries.Head tables mdb ∷ es) made filled r = absurd r.1
replays_head (entries.Seal seal ∷ es) made filled r = absurd r.1
replays_head (entries.LogHead rows ∷ es) made filled r = absurd r.1
replays_head (entries.Rows rows ∷ es) made filled r =
    let rest = replays_head es r.0 filled r.2 in
    (rest.0 ∙ ap (λ (a : FilledArchive). a.plain.head) r.1.1, rest.1 ∙ ap (λ (a : FilledArchive). a.plain.exponent) r.1.1)
replays_head (entries.Fill interval base octets ∷ es) made filled r =
    let rest = replays_head es r.0 filled r.2 in
    (rest.0 ∙ ap (λ (a : FilledArchive). a.plain.head) r.1.1, rest.1 ∙ ap (λ (a : FilledArchive). a.plain.exponent) r.1.1)

-- the fills behind entries are those before, and theirs over them
pub replays_fills : (es : List Entry) (made filled : FilledArchive) → Replays (Some made) es (Some filled) → filled.fillings ≡ fold after_fill made.fillings (fills_of_entries es)
replays_fills [] made filled r = ap (λ (a : FilledArchive). a.fillings) (some_is filled made r)
replays_fills (entries.Head tables mdb ∷ es) made filled r = absurd r.1
replays_fills (entries.Seal seal ∷ es) made filled r = absurd r.1
replays_fills (entries.LogHead rows ∷ es) made filled r = absurd r.1
replays_fills (entries.Rows rows ∷ es) made filled r =
    let mid : r.0.fillings ≡ made.fillings = ap (λ (a : FilledArchive). a.fillings) r.1.1 in
    replays_fills es r.0 filled r.2 ∙ ap (λ (f : Fillings (List SetRow)). fold after_fill f (fills_of_entries es)) mid
replays_fills (entries.Fill interval base octets ∷ es) made filled r =
    let fill : StoredFill = record { interval = interval; base = base; octets = octets } in
    let mid : r.0.fillings ≡ after_fill made.fillings fill = ap (λ (a : FilledArchive). a.fillings) r.1.1 in
    replays_fills es r.0 filled r.2 ∙ ap (λ (f : Fillings (List SetRow)). fold after_fill f (fills_of_entries es)) mid
