use Rattle.vx_blockmaps.proofs.Calls.{cut_can, cut_left, cut_maps}
use Rattle.vx_blockmaps.proofs.pages.cut_pages.Goals as goal

pub cut-requires-clause-used : goal.cut-requires-clause-used
cut-requires-clause-used c =
    let h = c.requires.stands in
    cut_can c.args.free.now c.args.maps.now h.state h.ino h.file h.stands c.give_laws.ensures c.args.place c.args.from c.args.n c.requires.all

pub returns-clause-free : goal.returns-clause-free
returns-clause-free c = λ s ino f is.
    cut_left c.args.free.now c.args.maps.now s ino f is c.give_laws.ensures c.args.place c.args.from c.args.n c.requires.all c.leave_laws.ensures c.args.size c.cut.new.free c.cut.ensures.free

pub returns-clause-maps : goal.returns-clause-maps
returns-clause-maps c = λ s ino f is. cut_maps c.args.free.now c.args.maps.now s ino f is c.args.place c.args.from c.args.size c.cut.new.self c.cut.ensures.cut
