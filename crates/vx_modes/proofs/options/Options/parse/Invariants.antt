use Rattle.std.proofs.Common.{◌≡◌}
use Rattle.std.specs.Option.{option_copied}
use Rattle.vx_modes.specs.Parse.{elements_of, options_of, options_after}
use Rattle.vx_modes.specs.Words.{count_of}
use Rattle.vx_modes.proofs.options.Options.parse.Given as goal

-- what the elements that are left add to the choices so far
abbrev pub invariant-loop-word : goal.invariant-loop-word
invariant-loop-word l = record {
  whole : options_of l.list ≡ options_after l.at l.choices (elements_of (option_copied l.word-iterator.rest));
  few : l.at ≡ count_of l.choices;
}
