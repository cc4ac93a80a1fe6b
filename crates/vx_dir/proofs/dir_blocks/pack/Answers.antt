use Rattle.std.proofs.Common.{◌≤◌, List, [], sym, ◌∙◌, ap, subst, take}
use Rattle.std.proofs.lemmas.List.Sums.{fold_more}
use Rattle.vx_base.specs.declared.inode.DirEntry.{DirEntry}
use Rattle.vx_dir.specs.Sizes.{Entries, entry_size}
use Rattle.vx_dir.specs.Directories.{put_last, packed}
use Rattle.vx_dir.proofs.Packing.{Fits, fits_put}
use Rattle.vx_dir.proofs.dir_blocks.pack.Goals as goal

pub loop-entry-preserved : goal.loop-entry-preserved
loop-entry-preserved c =
    let size : entry_size c.entry-item.result ≤ c.args.room = subst (λ (e : DirEntry). entry_size e ≤ c.args.room) (sym c.entry-item.is) (c.requires.fits c.loop-entry.entry-index c.entry-item.result c.loop-entry-test.true) in
    let more = fold_more (put_last c.args.room) [] c.args.entries.now c.loop-entry.entry-index c.entry-item.result c.loop-entry-test.true in
    record {
      packed_so_far =
          c.in_ok-put_last.ensures ∙ ap (λ (bs : List Entries). put_last c.args.room bs c.entry-item.result) c.loop-entry.invariant.packed_so_far
          ∙ ap (put_last c.args.room (packed c.args.room (take c.loop-entry.entry-index c.args.entries.now))) c.entry-item.is ∙ sym more;
      fits = subst (Fits c.args.room) (sym c.in_ok-put_last.ensures) (fits_put c.args.room c.loop-entry.blocks.items c.entry-item.result size c.loop-entry.invariant.fits);
    }
