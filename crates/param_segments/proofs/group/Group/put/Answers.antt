use Rattle.param_segments.proofs.group.Group.put.Goals as goal

pub put_rows-requires : goal.put_rows-requires
put_rows-requires c = record {
  len = rw (c.deref-3.ensures.value, c.deref-4.ensures.value, c.deref-5.ensures.value) c.requires.raw_count;
  segment = rw (c.deref-3.ensures.value, c.deref-4.ensures.value, c.deref-5.ensures.value) c.requires.segment;
}
