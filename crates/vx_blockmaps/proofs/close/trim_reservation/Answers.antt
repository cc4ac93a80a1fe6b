use Rattle.vx_blockmaps.proofs.Closing.{trim_left, trim_maps}
use Rattle.vx_blockmaps.proofs.close.trim_reservation.Goals as goal

pub returns-clause-free : goal.returns-clause-free
returns-clause-free c = λ s ino f is end.
    trim_left c.args.free.now c.args.maps.now s ino f is c.leave_laws.ensures c.close_laws.ensures c.args.place c.args.from end c.size-size.result c.size-size.ensures c.cut_pages.new.free (c.cut_pages.ensures.free s ino f is)

pub returns-clause-maps : goal.returns-clause-maps
returns-clause-maps c = λ s ino f is end.
    trim_maps c.args.free.now c.args.maps.now s ino f is c.leave_laws.ensures c.close_laws.ensures c.args.place c.args.from end c.size-size.result c.size-size.ensures c.cut_pages.new.maps (c.cut_pages.ensures.maps s ino f is)
