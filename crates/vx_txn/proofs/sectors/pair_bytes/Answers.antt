use Rattle.std.proofs.Common.{◌≡◌, ◌+◌, ◌*◌, ◌++◌, ap, ◌∙◌}
use Rattle.std.specs.Option.{option_copied}
use Rattle.vx_layout.specs.Inodes.{slot_bytes}
use Rattle.vx_model.specs.Contents.{inode_value}
use Rattle.vx_txn.proofs.sectors.pair_bytes.Goals as goal

pub returns : goal.returns
returns c = λ s stands.
    let even : option_copied c.as_ref.result ≡ inode_value s (2 * c.args.pair) = c.as_ref.ensures.value ∙ c.inode_value-even.ensures s stands.laid_out stands.plain stands.is ∙ ap (inode_value s) c.new.ensures in
    let odd : option_copied c.as_ref-2.result ≡ inode_value s (2 * c.args.pair + 1) = c.as_ref-2.ensures.value ∙ c.inode_value-odd.ensures s stands.laid_out stands.plain stands.is ∙ ap (inode_value s) c.new-2.ensures in
    c.inode_sector.ensures ∙ (λ i. slot_bytes (even i) ++ slot_bytes (odd i))
