use Rattle.vx_blockmaps.proofs.Calls.{settle_can, settle_left, settle_maps}
use Rattle.vx_blockmaps.proofs.leave.settle.Goals as goal

pub settle-requires : goal.settle-requires
settle-requires c =
    let h = c.requires.stands in
    settle_can c.args.free.now c.args.maps.now h.state h.ino h.file h.stands c.give_laws.ensures c.args.noreserve c.args.size c.args.place

pub returns-clause-free : goal.returns-clause-free
returns-clause-free c = λ s ino f is same long.
    settle_left c.args.free.now c.args.maps.now s ino f is c.give_laws.ensures c.args.noreserve c.args.size c.args.place same long c.settle.new.free c.settle.ensures.free

pub returns-clause-maps : goal.returns-clause-maps
returns-clause-maps c = λ s ino f is same long.
    settle_maps c.args.free.now c.args.maps.now s ino f is c.give_laws.ensures c.args.noreserve c.args.size c.args.place same long c.settle.new.self c.settle.ensures.settled
