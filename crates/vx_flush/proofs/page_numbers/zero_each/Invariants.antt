use Rattle.std.proofs.Common.{◌≡◌, vec_capacity}
use Rattle.vx_flush.proofs.Zeroes.{zeroed_to}
use Rattle.vx_flush.proofs.page_numbers.zero_each.Given as goal

abbrev pub invariant-loop-i : goal.invariant-loop-i
invariant-loop-i l = record {
  items : l.entries.items ≡ zeroed_to l.i l.initial.entries.items;
  capacity : vec_capacity l.entries ≡ vec_capacity l.initial.entries;
}
