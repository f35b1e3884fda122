use Rattle.std.proofs.Common.{◌≡◌, ◌∙◌, ◌++◌, ◌<◌, ◌^◌, List, ℕ, ap, length, map, rules, subst, sym}
use Rattle.std.specs.Prelude.{flat_map}
use Rattle.std.specs.Int.{w32}
use Rattle.std.specs.List.{AllByRecursion}
use Rattle.octet_fields.specs.Spelling.{number}
use Rattle.param_segments.specs.declared.group.Group.{Group}
use Rattle.param_segments.specs.GroupContents.{AreContents, all_starts, group_contents, group_octets, rows_in_groups, segment_count}
use Rattle.param_segments.proofs.Contents.{contents_kept, set_read, set_spelled}
use Rattle.param_segments.proofs.builder.SetBuilder.set.Goals as goal

pub put_groups-requires : goal.put_groups-requires
put_groups-requires c = subst (λ (gs : List Group). AllByRecursion AreContents (map group_contents gs)) (sym c.deref-2.ensures.value) (contents_kept c.self.inside.numbers c.self.inside.groups.items c.self.invariant)

pub of_spelling-requires : goal.of_spelling-requires
of_spelling-requires c =
    let groups = c.self.inside.groups.items in
    let count = c.in_ok-count.count in
    let few : count < 2 ^ 32 = search rules in
    let counted : count ≡ segment_count (map group_contents groups) = c.in_ok-count.ensures ∙ ap (λ (gs : List Group). segment_count (map group_contents gs)) c.deref.ensures.value in
    let front : c.put_u32.new.out.items ≡ number w32 count = c.in_ok-put_u32.ensures.ok ∙ ap (λ (xs : List ℕ). xs ++ number w32 count) c.new-octets.ensures.items in
    let spelled : c.in_ok-from_vec.field-0 ≡ number w32 count ++ flat_map group_octets (map group_contents groups) =
    c.in_ok-from_vec.ensures ∙ c.in_ok-put_groups.ensures.octets ∙ ap (λ (xs : List ℕ). xs ++ flat_map group_octets (map group_contents c.deref-2.result.now)) front
    ∙ ap (λ (gs : List Group). number w32 count ++ flat_map group_octets (map group_contents gs)) c.deref-2.ensures.value in
    let places : c.put_groups.new.starts.items ≡ all_starts (length (number w32 count)) (map group_contents groups) =
    c.in_ok-put_groups.ensures.starts ∙ ap (λ (xs : List ℕ). xs ++ all_starts (length c.put_u32.new.out.items) (map group_contents c.deref-2.result.now)) c.in_ok-starts.ensures.items
    ∙ ap (λ (xs : List ℕ). all_starts (length xs) (map group_contents c.deref-2.result.now)) front
    ∙ ap (λ (gs : List Group). all_starts (length (number w32 count)) (map group_contents gs)) c.deref-2.ensures.value in
    set_spelled groups (rows_in_groups groups) c.in_ok-from_vec.field-0 c.put_groups.new.starts.items count c.self.invariant.rows c.self.invariant.contents few counted spelled places

pub returns : goal.returns
returns c =
    let groups = c.self.inside.groups.items in
    let count = c.in_ok-count.count in
    let few : count < 2 ^ 32 = search rules in
    let counted : count ≡ segment_count (map group_contents groups) = c.in_ok-count.ensures ∙ ap (λ (gs : List Group). segment_count (map group_contents gs)) c.deref.ensures.value in
    let front : c.put_u32.new.out.items ≡ number w32 count = c.in_ok-put_u32.ensures.ok ∙ ap (λ (xs : List ℕ). xs ++ number w32 count) c.new-octets.ensures.items in
    let spelled : c.in_ok-from_vec.field-0 ≡ number w32 count ++ flat_map group_octets (map group_contents groups) =
    c.in_ok-from_vec.ensures ∙ c.in_ok-put_groups.ensures.octets ∙ ap (λ (xs : List ℕ). xs ++ flat_map group_octets (map group_contents c.deref-2.result.now)) front
    ∙ ap (λ (gs : List Group). number w32 count ++ flat_map group_octets (map group_contents gs)) c.deref-2.ensures.value in
    c.of_spelling.ensures ∙ set_read groups (rows_in_groups groups) c.in_ok-from_vec.field-0 count c.self.invariant.rows c.self.invariant.contents few counted spelled ∙ c.self.view_is
