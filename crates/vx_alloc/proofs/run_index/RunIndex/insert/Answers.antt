use Rattle.std.proofs.Common.{ap, ◌∙◌, ◌||◌, sym, subst, ◌+◌, ◌≤◌}
use Rattle.std.specs.Vec.{vec_capacity}
use Rattle.vx_alloc.specs.RunIndexes.{RunIndexView, in_run, covers}
use Rattle.vx_alloc.proofs.RunLists.{more_covers}
use Rattle.vx_alloc.proofs.SameRuns.{more_room, more_index}
use Rattle.vx_alloc.proofs.run_index.RunIndex.insert.Goals as goal

pub insert_by_length-requires-clause-room : goal.insert_by_length-requires-clause-room
insert_by_length-requires-clause-room c =
    let fields = c.self.inside in
    more_room fields.room (vec_capacity fields.by_length) fields.by_start.items c.insert_by_start.new.runs.items fields.by_length.items c.args.run c.insert_by_start.ensures.apart c.self.invariant.inside c.insert_by_start.ensures.runs c.requires.some (subst (λ (v : RunIndexView). c.args.run.start + c.args.run.len ≤ v.room) (sym c.self.view_is) c.requires.end) c.self.invariant.length_rooms c.self.invariant.as_many

pub invariant_of-self : goal.invariant_of-self
invariant_of-self c =
    let fields = c.self.inside in
    more_index fields.room fields.by_start.items fields.by_length.items c.insert_by_start.new.runs.items c.insert_by_length.new.runs.items c.args.run (vec_capacity fields.by_start) (vec_capacity fields.by_length) _ _ c.self.invariant c.insert_by_start.ensures.apart c.insert_by_start.ensures.runs
    c.insert_by_length.ensures.ranked c.insert_by_length.ensures.runs c.requires.some (subst (λ (v : RunIndexView). c.args.run.start + c.args.run.len ≤ v.room) (sym c.self.view_is) c.requires.end) c.insert_by_start.ensures.capacity c.insert_by_length.ensures.capacity

pub returns-clause-covers : goal.returns-clause-covers
returns-clause-covers c i = more_covers c.self.inside.by_start.items c.insert_by_start.new.runs.items c.args.run c.insert_by_start.ensures.runs i ∙ ap (λ (v : RunIndexView). in_run i c.args.run || covers v.runs i) c.self.view_is
