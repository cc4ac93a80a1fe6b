use Rattle.vx_blockmaps.proofs.Blocks.{ready}
use Rattle.vx_blockmaps.proofs.Writing.{asked, filling_by, refusal}
use Rattle.vx_blockmaps.proofs.place.place_write.Goals as goal

pub place_write-requires-clause-ready : goal.place_write-requires-clause-ready
place_write-requires-clause-ready c = let h = c.requires.stands in ready c.args.free.now h.state.layout h.stands.free

pub returns-clause-done : goal.returns-clause-done
returns-clause-done c = λ s ino f is plain.
    let r = asked c.args.free.now c.args.maps.now s ino f is c.args.first c.args.from c.args.n c.place_laws-2.ensures c.place_laws.ensures.request c.place_laws.ensures.count plain c.requires.within in
    filling_by c.args.free.now c.args.maps.now s ino f is c.args.first c.args.from c.args.n c.place_laws.ensures.write c.place_laws-2.ensures c.requires.first c.place_write.new.free c.place_write.new.self
    c.place_write.ensures.settled c.place_write.ensures.taken c.place_write.result (c.place_write.ensures.done _ r)

pub returns-clause-refused : goal.returns-clause-refused
returns-clause-refused c = λ s ino f is plain.
    let r = asked c.args.free.now c.args.maps.now s ino f is c.args.first c.args.from c.args.n c.place_laws-2.ensures c.place_laws.ensures.request c.place_laws.ensures.count plain c.requires.within in
    refusal c.args.free.now c.args.maps.now s ino f is c.args.first c.args.from c.args.n c.place_laws.ensures.write c.place_write.result (c.place_write.ensures.refused _ r)
