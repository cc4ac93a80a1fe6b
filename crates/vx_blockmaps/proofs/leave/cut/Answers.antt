use Rattle.std.proofs.Common.{ℕ, ◌∙◌, subst}
use Rattle.vx_blockmaps.specs.BlockMaps.{IsFreeMapOf, IsMapsOf, layout_cut}
use Rattle.vx_blockmaps.proofs.leave.cut.Goals as goal

pub returns-clause-free : goal.returns-clause-free
returns-clause-free c = λ s ino f is.
    subst (λ (n : ℕ). IsFreeMapOf c.cut_pages.new.free (layout_cut s.layout c.args.place ino n c.args.size)) (c.new.ensures ∙ c.div_ceil-from.ensures) (c.cut_pages.ensures.free s ino f is)

pub returns-clause-maps : goal.returns-clause-maps
returns-clause-maps c = λ s ino f is.
    subst (λ (n : ℕ). IsMapsOf c.cut_pages.new.maps (layout_cut s.layout c.args.place ino n c.args.size) ino) (c.new.ensures ∙ c.div_ceil-from.ensures) (c.cut_pages.ensures.maps s ino f is)
