use Rattle.std.proofs.Common.{List, sym, ◌∙◌, ap, subst}
use Rattle.std.specs.FinMap as map
use Rattle.vx_base.specs.declared.inode.DirEntry.{DirEntry}
use Rattle.vx_dir.specs.Sizes.{Entries}
use Rattle.vx_dir.specs.Directories.{blocks_with}
use Rattle.vx_dir.specs.Index.{Spots, Indexes}
use Rattle.vx_dir.proofs.NameMap.{taken_back}
use Rattle.vx_dir.proofs.Indexing.{indexes_with, lacks_new}
use Rattle.vx_dir.proofs.dir_blocks.enter.Goals as goal

pub returns-in-Ok-clause-indexed : goal.returns-in-Ok-clause-indexed
returns-in-Ok-clause-indexed c =
    let e : DirEntry = record { ino = c.args.ino; name = c.args.name.now } in
    subst (λ (bs : List Entries). Indexes bs c.insert.new.self) (sym c.in-Ok.ensures.ok)
    (subst (Indexes (blocks_with c.args.blocks.now.items c.args.at e)) (sym c.in_ok-insert.ensures.ok) (indexes_with c.args.blocks.now.items c.args.index.now c.requires.indexed c.args.at e c.requires.new c.requires.place))

pub returns-in-Err-clause-indexed : goal.returns-in-Err-clause-indexed
returns-in-Err-clause-indexed c =
    let none = lacks_new c.args.blocks.now.items c.args.index.now c.requires.indexed c.args.name.now c.requires.new in
    let back = c.remove.ensures.removed ∙ ap (λ (m : Spots). map.remove m c.args.name.now) c.in_ok-insert.ensures.ok ∙ taken_back c.args.index.now c.args.name.now (record { block = c.args.at; ino = c.args.ino }) none in
    subst (λ (bs : List Entries). Indexes bs c.remove.new.self) (sym c.in-Err.ensures.err) (subst (Indexes c.args.blocks.now.items) (sym back) c.requires.indexed)
