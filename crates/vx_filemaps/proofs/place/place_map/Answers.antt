use Rattle.std.proofs.Common.{ℕ, List, sym, ap, ◌∙◌}
use Rattle.vx_filemaps.specs.FileMaps.{filling_in, place_map}
use Rattle.vx_filemaps.proofs.place.place_map.Goals as goal

pub returns-in-Ok-clause-placed : goal.returns-in-Ok-clause-placed
returns-in-Ok-clause-placed c = λ v pages is same.
    ap (λ (maps : List ℕ). place_map v (filling_in c.args.free.now pages maps)) (sym c.in-Ok.ensures.items) ∙ c.take_map.ensures.placed v pages is same

pub returns-in-Ok-clause-full : goal.returns-in-Ok-clause-full
returns-in-Ok-clause-full c = λ v pages is same.
    ap (λ (maps : List ℕ). place_map v (filling_in c.args.free.now pages maps)) (sym c.in-Ok.ensures.items) ∙ c.take_map.ensures.full v pages is same
