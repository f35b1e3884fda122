use Rattle.std.proofs.Common.{◌≡◌, ◌+◌, ◌∙◌, length, ap}
use Rattle.std.proofs.lemmas.List.{length-append}
use Rattle.mdb_items.proofs.Records.{ends_push, parts_push}
use Rattle.mdb_items.proofs.sheet.Record.push.Goals as goal

-- the end of the octets with the field
end_is : (c : goal.After-push_reserved) → c.in_ok-end.end ≡ length c.self.inside.octets.items + length c.args.field.now
end_is c = c.in_ok-end.ensures ∙ ap (λ n. n + length c.args.field.now) (ap length c.as_slice.ensures.value)

pub invariant_of-self-2 : goal.invariant_of-self-2
invariant_of-self-2 c =
    rw (c.in_ok-extend_from_slice.ensures.items, c.push_reserved.ensures.items, c.in_ok-reserve.ensures.items, end_is c, length-append c.self.inside.octets.items c.args.field.now)
    (ends_push 0 c.self.inside.ends.items (length c.self.inside.octets.items) (length c.args.field.now) c.self.invariant)

pub returns-clause-pushed : goal.returns-clause-pushed
returns-clause-pushed c =
    rw (c.in_ok-extend_from_slice.ensures.items, c.push_reserved.ensures.items, c.in_ok-reserve.ensures.items, end_is c, ← c.self.view_is)
    (parts_push 0 c.self.inside.ends.items c.self.inside.octets.items c.args.field.now c.self.invariant)
