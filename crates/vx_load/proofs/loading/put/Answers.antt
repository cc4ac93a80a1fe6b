use Rattle.std.proofs.Common.{ℕ, List, ◌∙◌, ap, sym, subst}
use Rattle.std.specs.Option.{option_map}
use Rattle.vx_base.specs.declared.inode.Extent.{Extent}
use Rattle.vx_base.specs.declared.inode.InodeValue.{InodeValue}
use Rattle.vx_dir.specs.Sizes.{Entries}
use Rattle.vx_txn.specs.Loads.{IsDirectoryThere}
use Rattle.vx_load.proofs.loading.put.Goals as goal

pub put_file-requires : goal.put_file-requires
put_file-requires c = record {
  state = c.requires.state;
  laid_out = c.requires.laid_out;
  loaded = c.requires.loaded;
  there = record { inode_is = ap (option_map (λ (v : InodeValue). v.inode)) (c.requires.there.inode_is ∙ c.in-Some.is); kind_is = c.in-File.is; nothing = c.requires.there.file c.in-Some.value c.in-Some.is c.in-File.is };
}

pub put_directory-requires : goal.put_directory-requires
put_directory-requires c =
    let s = c.requires.state in
    let n = c.args.ino in
    let inode = c.in-Some.value.inode in
    let now = c.args.contents.now in
    let there : IsDirectoryThere s n inode now.extents now.maps now.blocks = c.requires.there.directory c.in-Some.value c.in-Some.is c.in-Directory.is in
    record {
      state = s;
      laid_out = c.requires.laid_out;
      loaded = c.requires.loaded;
      there = subst (λ (es : List Extent). IsDirectoryThere s n inode es c.maps.result.now c.blocks-in-Directory.result.now) (sym c.extents.ensures)
          (subst (λ (ms : List ℕ). IsDirectoryThere s n inode now.extents ms c.blocks-in-Directory.result.now) (sym c.maps.ensures)
          (subst (λ (bs : List Entries). IsDirectoryThere s n inode now.extents now.maps bs) (sym c.blocks-in-Directory.ensures) there));
    }
