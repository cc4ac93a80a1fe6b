use Rattle.vx_core.proofs.Founding.{lines_new, facts_new, room_new, order_new}
use Rattle.vx_core.proofs.engine.Core.new.Goals as goal

pub returns-clause-kept : goal.returns-clause-kept
returns-clause-kept g c = λ o begins keeps same mode.
    let lists = c.args.lines in
    let sessions = c.args.sessions.items in
    let v = g.M.Calls.view c.args.mount in
    record {
      facts = facts_new lists sessions c.requires.each g.M.Calls.built v c.requires.new c.requires.script c.requires.few c.requires.count o.world (g.M.Calls.kept o.world c.args.mount) begins keeps;
      order = order_new lists sessions c.requires.each g.M.Calls.built v c.requires.new c.requires.script c.requires.few c.requires.count o.write_faults same;
      logging = mode;
    }

pub returns-clause-sound : goal.returns-clause-sound
returns-clause-sound g c = λ o begins keeps.
    let lists = c.args.lines in
    let sessions = c.args.sessions.items in
    let v = g.M.Calls.view c.args.mount in
    record {
      free = c.requires.free;
      world = o.world;
      facts = facts_new lists sessions c.requires.each g.M.Calls.built v c.requires.new c.requires.script c.requires.few c.requires.count o.world (g.M.Calls.kept o.world c.args.mount) begins keeps;
      room = room_new lists sessions c.requires.each g.M.Calls.built v c.requires.new c.requires.script c.requires.few c.requires.count c.requires.room;
    }

pub returns-clause-lines : goal.returns-clause-lines
returns-clause-lines g c =
    lines_new c.args.lines c.args.sessions.items c.requires.each g.M.Calls.built (g.M.Calls.view c.args.mount) c.requires.new c.requires.script c.requires.few c.requires.count
