use Rattle.vx_dir.proofs.Gaining.{as_before}
use Rattle.vx_dir.proofs.name_index.NameIndex.insert_entries.Goals as goal

pub returns-in-Err-clause-err : goal.returns-in-Err-clause-err
returns-in-Err-clause-err c =
    as_before c.args.entries.now c.args.self.now c.insert_each.new.index c.remove_each.new.index c.requires.new c.in-Err.ensures.others c.remove_each.ensures
