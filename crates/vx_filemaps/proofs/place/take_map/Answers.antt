use Rattle.std.proofs.Common.{◌≡◌, ◌++◌, ◌∷◌, [], ℕ, List, Some, refl, sym, ap, rules, ◌∙◌, subst}
use Rattle.std.specs.Option.{option_map}
use Rattle.vx_layout.specs.Places.{Volume}
use Rattle.vx_alloc.specs.FreeMaps.{FreeMapView, is_free}
use Rattle.vx_space.specs.Placing.{with_map}
use Rattle.vx_filemaps.specs.FileMaps.{filling_in, IsTaken}
use Rattle.vx_filemaps.proofs.Free.{taken_more, taken_test}
use Rattle.vx_filemaps.proofs.Placing.{longest_placed, longest_nowhere}
use Rattle.vx_filemaps.proofs.place.take_map.Goals as goal

pub returns-in-Some-clause-placed : goal.returns-in-Some-clause-placed
returns-in-Some-clause-placed c = λ v pages is same.
    let w = c.args.free.now in
    let b = c.in-Some.b in
    let items : c.push-in-Some.new.self.items ≡ c.args.chain.now.items ++ b ∷ [] = search rules in
    ap (option_map (with_map (filling_in w pages c.args.chain.now.items)))
    (longest_placed w v (is_free w) (λ _. refl) (sym (ap (λ (u : Volume). u.first) is)) (sym (ap (λ (u : Volume). u.units) is)) c.requires.ready.per_unit b c.in-Some.ensures.placed)
    ∙ (λ i. Some (record { free = sym (taken_test w b c.in-Some.ensures.free) i; pages = pages; maps = sym items i }))
    ∙ ap (λ (u : FreeMapView). Some (filling_in u pages c.push-in-Some.new.self.items)) (sym c.in-Some.ensures.taken)

pub returns-in-Some-clause-taken : goal.returns-in-Some-clause-taken
returns-in-Some-clause-taken c = λ base is.
    let b = c.in-Some.b in
    let items : c.push.new.self.items ≡ c.args.taken.now.items ++ b ∷ [] = search rules in
    subst (λ (bs : List ℕ). IsTaken base bs c.take_next.new.self) (sym items)
    (subst (λ (w : FreeMapView). IsTaken base (c.args.taken.now.items ++ b ∷ []) w) (sym c.in-Some.ensures.taken) (taken_more base c.args.taken.now.items c.args.free.now b is c.in-Some.ensures.free))

pub returns-in-None-clause-full : goal.returns-in-None-clause-full
returns-in-None-clause-full c = λ v pages is same.
    let w = c.args.free.now in
    ap (option_map (with_map (filling_in w pages c.args.chain.now.items)))
    (longest_nowhere w v (is_free w) (λ _. refl) (sym (ap (λ (u : Volume). u.first) is)) (sym (ap (λ (u : Volume). u.units) is)) c.requires.ready.per_unit c.in-None.ensures.full)
