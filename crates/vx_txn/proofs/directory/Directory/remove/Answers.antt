use Rattle.std.proofs.Common.{◌∙◌, ℕ, ap, subst, Option, Some}
use Rattle.std.specs.Option.{unwrap_or}
use Rattle.vx_dir.specs.Directories.{Directory}
use Rattle.vx_model.specs.Touching.{IsOnlyIn}
use Rattle.vx_txn.specs.Directories.{DirectoryValue, blocks_in, without}
use Rattle.vx_txn.proofs.EntryLaws.{removed_by, only_there}
use Rattle.vx_txn.proofs.directory.Directory.remove.Goals as goal

pub returns-clause-removed : goal.returns-clause-removed
returns-clause-removed c =
    ap (λ (n : Directory). record { names = n; maps = c.self.inside.maps })
    (removed_by c.remove.result c.self.inside.names c.remove.new.self c.args.name.now c.kept.ensures c.remove.ensures.inode c.remove.ensures.missing c.remove.ensures.removed c.remove.ensures.unchanged)
    ∙ ap (without c.args.name.now) c.self.view_is

pub returns-clause-only : goal.returns-clause-only
returns-clause-only c =
    subst (λ (d : DirectoryValue). IsOnlyIn c.args.name.now c.unwrap_or.result (blocks_in (Some d))) c.self.view_is
    (only_there c.args.name.now c.self.inside.maps.space.present c.self.inside.names c.unwrap_or.result c.kept.ensures (c.unwrap_or.ensures ∙ ap (λ (o : Option ℕ). unwrap_or o 0) c.block_of-at.ensures))
