-- Each turn is one step of the walk, and the last one ends it with the chain.
use Rattle.std.proofs.Common.{arith, length, Option, subst, sym}
use Rattle.std.specs.Prelude.{ℕ}
use Rattle.container_extract.specs.Step.{IsStep}
use Rattle.container_extract.proofs.Childless.{childless_step}
use Rattle.container_extract.proofs.Down.{begins, chain_fits, entries_fit, goes_on, is_extraction, is_one, smaller, values_above}
use Rattle.container_extract.proofs.raw_extraction.RawExtracted.descend.Goals as goal

pub down-init : goal.down-init
down-init c = record {
  goes = begins c.args.mdb.now c.args.packet.now c.restart.new.self.chain.items c.restart.new.self.values.items c.is_sound.ensures c.restart.ensures.chain c.restart.ensures.values;
  room = c.restart.ensures.room;
}

pub push_reserved-requires : goal.push_reserved-requires
push_reserved-requires c =
    omega (arith, c.down.self.chain.ok.0, c.down.invariant.room.containers, chain_fits c.args.mdb.now c.args.packet.now c.down.self.chain.items c.down.self.values.items c.down.number c.is_sound.ensures c.down.invariant.goes)

-- where the container has no child the chain ends with it, whatever its entries say
pub returns-then-is_childless-clause-chain : goal.returns-then-is_childless-clause-chain
returns-then-is_childless-clause-chain c =
    let db = c.args.mdb.now in
    let packet = c.args.packet.now in
    let values = c.down.self.values.items in
    let goes = c.down.invariant.goes in
    let s = childless_step db packet values c.down.number (values_above db packet c.down.self.chain.items values c.down.number goes) (c.is_childless.ensures c.if-is_childless.true) in
    is_one db packet c.down.self.chain.items c.push_reserved.new.self.items values _ c.down.number c.is_sound.ensures goes s c.push_reserved.ensures.items

pub returns-then-is_childless-clause-but_last : goal.returns-then-is_childless-clause-but_last
returns-then-is_childless-clause-but_last c =
    let db = c.args.mdb.now in
    let packet = c.args.packet.now in
    let values = c.down.self.values.items in
    let goes = c.down.invariant.goes in
    let s = childless_step db packet values c.down.number (values_above db packet c.down.self.chain.items values c.down.number goes) (c.is_childless.ensures c.if-is_childless.true) in
    record {
      known = goes.known;
      rest = sym (is_extraction db packet c.down.self.chain.items c.push_reserved.new.self.items values _ c.down.number c.is_sound.ensures goes s c.push_reserved.ensures.items);
    }

pub returns-then-is_childless-clause-last_room : goal.returns-then-is_childless-clause-last_room
returns-then-is_childless-clause-last_room c =
    omega (arith, c.down.self.values.ok.0, c.down.invariant.room.values, entries_fit c.args.mdb.now c.args.packet.now c.down.self.chain.items c.down.self.values.items c.down.number c.is_sound.ensures c.down.invariant.goes)

pub next_of-requires-clause-above : goal.next_of-requires-clause-above
next_of-requires-clause-above c = values_above c.args.mdb.now c.args.packet.now c.down.self.chain.items c.down.self.values.items c.down.number c.down.invariant.goes

pub next_of-requires-clause-room : goal.next_of-requires-clause-room
next_of-requires-clause-room c =
    omega (arith, c.down.self.values.ok.0, c.down.invariant.room.values, entries_fit c.args.mdb.now c.args.packet.now c.down.self.chain.items c.down.self.values.items c.down.number c.is_sound.ensures c.down.invariant.goes)

pub returns-in-None-clause-chain : goal.returns-in-None-clause-chain
returns-in-None-clause-chain c =
    let db = c.args.mdb.now in
    let packet = c.args.packet.now in
    let s = subst (λ (o : Option ℕ). IsStep db packet c.down.self.values.items c.down.number c.next_of.new.values.items o) c.in-None.is c.next_of.ensures.step in
    is_one db packet c.down.self.chain.items c.push_reserved.new.self.items c.down.self.values.items c.next_of.new.values.items c.down.number c.is_sound.ensures c.down.invariant.goes s c.push_reserved.ensures.items

pub returns-in-None-clause-whole : goal.returns-in-None-clause-whole
returns-in-None-clause-whole c =
    let db = c.args.mdb.now in
    let packet = c.args.packet.now in
    let s = subst (λ (o : Option ℕ). IsStep db packet c.down.self.values.items c.down.number c.next_of.new.values.items o) c.in-None.is c.next_of.ensures.step in
    is_extraction db packet c.down.self.chain.items c.push_reserved.new.self.items c.down.self.values.items c.next_of.new.values.items c.down.number c.is_sound.ensures c.down.invariant.goes s c.push_reserved.ensures.items

pub down-smaller : goal.down-smaller
down-smaller c =
    let db = c.args.mdb.now in
    let packet = c.args.packet.now in
    let s = subst (λ (o : Option ℕ). IsStep db packet c.down.self.values.items c.down.number c.next_of.new.values.items o) c.in-Some.is c.next_of.ensures.step in
    let next = goes_on db packet c.down.self.chain.items c.push_reserved.new.self.items c.down.self.values.items c.next_of.new.values.items c.down.number c.in-Some.child c.is_sound.ensures c.down.invariant.goes s c.push_reserved.ensures.items in
    smaller (length db.containers) c.down.number c.in-Some.child next.1 next.2

pub down-preserved : goal.down-preserved
down-preserved c =
    let db = c.args.mdb.now in
    let packet = c.args.packet.now in
    let s = subst (λ (o : Option ℕ). IsStep db packet c.down.self.values.items c.down.number c.next_of.new.values.items o) c.in-Some.is c.next_of.ensures.step in
    record {
      goes = (goes_on db packet c.down.self.chain.items c.push_reserved.new.self.items c.down.self.values.items c.next_of.new.values.items c.down.number c.in-Some.child c.is_sound.ensures c.down.invariant.goes s c.push_reserved.ensures.items).0;
      room = record {
        values = omega (arith, c.next_of.ensures.capacity, c.down.invariant.room.values);
        containers = omega (arith, c.push_reserved.ensures.capacity, c.down.invariant.room.containers);
      };
    }
