use Rattle.std.proofs.Common.{◌≡◌, ℕ, [], ◌∙◌, ap, rules}
use Rattle.vx_alloc.specs.FreeMaps.{all_free}
use Rattle.vx_txn.proofs.Loading.{empty_is}
use Rattle.vx_txn.proofs.meta.Meta.empty.Goals as goal

pub returns : goal.returns
returns c = λ s sizes.
    empty_is _ s c.args.log_blocks c.args.units sizes c.in_ok-inodes.ensures (let e : c.new-directories.result.items ≡ [] = search rules in e)
    (c.in_ok-free.ensures ∙ ap (λ (n : ℕ). all_free n 4063 c.args.units) c.new-first.ensures) c.new-first.ensures
