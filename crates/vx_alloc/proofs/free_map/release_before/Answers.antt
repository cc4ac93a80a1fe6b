use Rattle.std.proofs.Common.{◌≡◌, ◌<◌, ◌+◌, Bool, None, List, length, set, get_or, ap, sym, ◌∙◌, subst, arith}
use Rattle.std.proofs.lemmas.List.{get_or_read}
use Rattle.vx_alloc.specs.FreeMaps.{is_before}
use Rattle.vx_alloc.proofs.Releases.{IsReleasedTo, release_yes, release_no, release_bits, release_places}
use Rattle.vx_alloc.proofs.free_map.release_before.Goals as goal
use Rattle.vx_alloc.proofs.free_map.release_before.Goals.{then-is_before, else-is_before}

pub loop-i-preserved : goal.loop-i-preserved
loop-i-preserved c =
    let known = c.loop-i.invariant.released in
    let old_bits = c.args.free.now.items in
    let old_places = c.args.pending.now.items in
    let in_bits : c.loop-i.i < length old_bits = omega (arith, c.loop-i-test.true, c.len-i-end.ensures) in
    let in_places : c.loop-i.i < length old_places = omega (arith, in_bits, c.requires.same) in
    let places = c.loop-i.pending.items in
    let in_list : c.loop-i.i < length places = omega (arith, in_places, known.as_many_places) in
    let read : is_before c.args.upto (get_or places c.loop-i.i None) ≡ c.is_before.result = ap (is_before c.args.upto) (sym (get_or_read places c.loop-i.i c.index.result.now in_list c.index.ensures None)) ∙ sym c.is_before.ensures in
    elim c.if-is_before.branch [
      | then-is_before w ↦
          rw (w.free-is, w.pending-is, w.count-is, w.runs-is) (record {
            released = subst (λ (bits : List Bool). IsReleasedTo c.args.upto old_bits old_places (c.loop-i.count + 1) (c.loop-i.i + 1) bits (set c.loop-i.pending.items c.loop-i.i None)) (sym w.set_free.ensures.free)
                (release_yes c.args.upto old_bits old_places c.loop-i.count c.loop-i.i c.loop-i.free.items c.loop-i.pending.items known in_bits in_places (read ∙ w.if-is_before.true));
            covered = w.set_free.ensures.covered;
            room = w.set_free.ensures.room ∙ c.loop-i.invariant.room;
            free_capacity = w.set_free.ensures.capacity ∙ c.loop-i.invariant.free_capacity;
            pending_capacity = c.loop-i.invariant.pending_capacity;
          })
      | else-is_before w ↦
          rw (w.free-is, w.pending-is, w.count-is, w.runs-is) (record {
            released = release_no c.args.upto old_bits old_places c.loop-i.count c.loop-i.i c.loop-i.free.items c.loop-i.pending.items known in_bits in_places (read ∙ w.if-is_before.false);
            covered = c.loop-i.invariant.covered;
            room = c.loop-i.invariant.room;
            free_capacity = c.loop-i.invariant.free_capacity;
            pending_capacity = c.loop-i.invariant.pending_capacity;
          })
    ]

pub returns-clause-free : goal.returns-clause-free
returns-clause-free c = release_bits c.args.upto c.args.free.now.items c.args.pending.now.items c.loop-i.count c.loop-i.i c.loop-i.free.items c.loop-i.pending.items c.loop-i.invariant.released (omega arith)

pub returns-clause-pending : goal.returns-clause-pending
returns-clause-pending c = release_places c.args.upto c.args.free.now.items c.args.pending.now.items c.loop-i.count c.loop-i.i c.loop-i.free.items c.loop-i.pending.items c.loop-i.invariant.released (omega (arith, c.requires.same))
