use Rattle.std.proofs.Common.{◌≡◌, ◌<◌, ◌^◌, take}
use Rattle.vx_admin.specs.Words.{number_of}
use Rattle.vx_admin.proofs.words.number_of.Given as goal

-- the value of the digits so far
abbrev pub invariant-loop-digit : goal.invariant-loop-digit
invariant-loop-digit l = record {
  value : l.value ≡ number_of (take l.digit-index l.digits);
  small : l.value < 10 ^ l.digit-index;
}
