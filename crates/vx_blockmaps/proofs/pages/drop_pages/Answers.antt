use Rattle.vx_blockmaps.proofs.Closing.{drop_can, drop_left, drop_maps}
use Rattle.vx_blockmaps.proofs.pages.drop_pages.Goals as goal

pub drop_reserved-requires : goal.drop_reserved-requires
drop_reserved-requires c =
    let h = c.requires.stands in
    drop_can c.args.free.now c.args.maps.now h.state h.ino h.file h.stands c.give_laws.ensures c.args.n c.requires.all

pub returns-clause-free : goal.returns-clause-free
returns-clause-free c = λ s place ino f is unreserved.
    drop_left c.args.free.now c.args.maps.now s ino f is c.give_laws.ensures c.args.n c.requires.all c.leave_laws.ensures c.close_laws.ensures place unreserved c.drop_reserved.new.free c.drop_reserved.ensures.free

pub returns-clause-maps : goal.returns-clause-maps
returns-clause-maps c = λ s place ino f is unreserved.
    drop_maps c.args.free.now c.args.maps.now s ino f is c.give_laws.ensures c.args.n c.requires.all c.leave_laws.ensures c.close_laws.ensures place unreserved c.drop_reserved.new.self c.drop_reserved.ensures.dropped
