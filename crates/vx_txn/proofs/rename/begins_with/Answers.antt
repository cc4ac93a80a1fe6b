use Rattle.std.proofs.Common.{◌≡◌, ℕ, ◌<◌, ◌≤◌, List, [], length, drop, false, sym, ◌∙◌, ap}
use Rattle.std.proofs.lemmas.List.{drop_all}
use Rattle.std.proofs.Math.Seq.{drop-cons}
use Rattle.vx_base.specs.Paths.{FileName}
use Rattle.vx_model.specs.Moving.{begins_with}
use Rattle.vx_txn.proofs.rename.begins_with.Goals as goal

-- no names begin with more names
short : (above names : List FileName) (i : ℕ) → i < length above → length names ≤ i → begins_with (drop i above) (drop i names) ≡ false
short above names i more few =
    ap (begins_with (drop i above)) (drop_all i names few) ∙ ap (λ xs. begins_with xs []) (drop-cons above i [] more)

pub returns-then-i-names : goal.returns-then-i-names
returns-then-i-names c = sym (c.loop-i.invariant ∙ short c.args.above.now c.args.names.now c.loop-i.i c.loop-i-test.true c.if-i-names.true)
