use Rattle.std.proofs.Common.{◌≡◌, [], ap}
use Rattle.std.specs.Option.{option_copied}
use Rattle.vx_modes.specs.Parse.{elements_of}
use Rattle.vx_modes.proofs.elements.ElementsIterator.next.Goals as goal

pub returns-in-None-clause-steps : goal.returns-in-None-clause-steps
unfolding elements_of
returns-in-None-clause-steps c =
    let none : elements_of (option_copied c.args.self.now.rest) ≡ [] = ap (λ o. elements_of (option_copied o)) c.in-None.is in
    (none, none)
