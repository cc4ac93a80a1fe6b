use Rattle.std.proofs.Common.{ℕ, subst}
use Rattle.vx_blockmaps.specs.BlockMaps.{IsFreeMapOf, IsMapsOf, layout_cut}
use Rattle.vx_blockmaps.proofs.GivingUp.{given_free, given_maps, then_can}
use Rattle.vx_blockmaps.proofs.leave.give_up.Goals as goal

pub settle-requires : goal.settle-requires
settle-requires c =
    let h = c.requires in
    then_can c.args.free.now c.args.maps.now h.state h.ino h.file h.stands c.give_laws.ensures c.args.place c.cut_pages.new.free c.cut_pages.new.maps
    (subst (λ (n : ℕ). IsFreeMapOf c.cut_pages.new.free (layout_cut h.state.layout c.args.place h.ino n 0)) c.new.ensures (c.cut_pages.ensures.free h.state h.ino h.file h.stands))
    (subst (λ (n : ℕ). IsMapsOf c.cut_pages.new.maps (layout_cut h.state.layout c.args.place h.ino n 0) h.ino) c.new.ensures (c.cut_pages.ensures.maps h.state h.ino h.file h.stands))

pub returns-clause-free : goal.returns-clause-free
returns-clause-free c = λ s ino f is.
    given_free c.args.free.now c.args.maps.now s ino f is c.give_laws.ensures c.args.place c.cut_pages.new.free c.cut_pages.new.maps
    (subst (λ (n : ℕ). IsFreeMapOf c.cut_pages.new.free (layout_cut s.layout c.args.place ino n 0)) c.new.ensures (c.cut_pages.ensures.free s ino f is))
    (subst (λ (n : ℕ). IsMapsOf c.cut_pages.new.maps (layout_cut s.layout c.args.place ino n 0) ino) c.new.ensures (c.cut_pages.ensures.maps s ino f is)) c.settle.new.free c.settle.ensures.free

pub returns-clause-maps : goal.returns-clause-maps
returns-clause-maps c = λ s ino f is.
    given_maps c.args.free.now c.args.maps.now s ino f is c.give_laws.ensures c.args.place c.cut_pages.new.free c.cut_pages.new.maps
    (subst (λ (n : ℕ). IsFreeMapOf c.cut_pages.new.free (layout_cut s.layout c.args.place ino n 0)) c.new.ensures (c.cut_pages.ensures.free s ino f is))
    (subst (λ (n : ℕ). IsMapsOf c.cut_pages.new.maps (layout_cut s.layout c.args.place ino n 0) ino) c.new.ensures (c.cut_pages.ensures.maps s ino f is)) c.settle.new.self c.settle.ensures.settled
