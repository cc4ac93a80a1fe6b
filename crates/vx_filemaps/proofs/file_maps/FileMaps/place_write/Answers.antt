use Rattle.std.proofs.Common.{refl, subst}
use Rattle.vx_space.specs.Space.{Space}
use Rattle.vx_space.specs.Placing.{place_fill}
use Rattle.vx_filemaps.specs.Files.{FileView}
use Rattle.vx_filemaps.specs.FileMaps.{IsRequest, IsRefusal, filling_of}
use Rattle.vx_filemaps.proofs.Free.{has_taken, none_has_taken}
use Rattle.vx_filemaps.proofs.file_maps.FileMaps.place_write.Goals as goal

pub returns-in-Err-clause-refused : goal.returns-in-Err-clause-refused
returns-in-Err-clause-refused c = λ r is.
    let x : Space = record { settled = c.self.inside.settled.pages; present = c.self.inside.present.pages; size = c.self.inside.size } in
    subst (λ (m : FileView). IsRequest r m.space.present c.args.free.now c.args.first c.args.from c.args.n → IsRefusal (place_fill r m.space c.args.from c.args.n (filling_of c.args.free.now m)) c.in-Err.why)
    c.self.view_is (λ there. c.in-Err.ensures.refused r x there refl) is

pub returns-in-Ok-clause-taken : goal.returns-in-Ok-clause-taken
returns-in-Ok-clause-taken c = has_taken c.args.free.now c.place_all.new.taken.items c.place_all.new.free c.place_all.ensures.taken

pub returns-in-Err-clause-taken : goal.returns-in-Err-clause-taken
returns-in-Err-clause-taken c = none_has_taken c.args.free.now c.give_back.new.free (c.give_back.ensures.given c.args.free.now c.requires.ready c.place_all.ensures.taken)
