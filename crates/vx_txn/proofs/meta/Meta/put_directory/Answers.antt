use Rattle.std.proofs.Common.{◌<◌, ◌*◌, ℕ, Some, refl, sym, ◌∙◌, ap, arith, subst}
use Rattle.vx_space.specs.Space.{page_blocks}
use Rattle.vx_txn.specs.Directories.{DirectoryValue}
use Rattle.vx_txn.specs.Edits.{HasPages}
use Rattle.vx_txn.specs.Loads.{CanTake, loaded_directory, without_blocks}
use Rattle.vx_txn.proofs.LoadingDirectories.{blocks_fit, can_take_all, directory_facts, directory_loaded, extents_next, paged, take_behind, take_front}
use Rattle.vx_txn.proofs.meta.Meta.put_directory.Goals as goal

pub load-requires : goal.load-requires
load-requires c =
    let r = c.requires in
    record {
      next = extents_next r.state c.args.ino c.args.inode.now c.args.extents.now c.args.maps.now c.args.blocks.now r.laid_out r.there;
      blocks = blocks_fit r.state c.args.ino c.args.inode.now c.args.extents.now c.args.maps.now c.args.blocks.now r.laid_out r.there;
    }

pub put-requires : goal.put-requires
put-requires c =
    let r = c.requires in
    let facts = directory_facts r.state c.args.ino c.args.inode.now c.args.extents.now c.args.maps.now c.args.blocks.now r.laid_out r.there in
    record {
      low = facts.low;
      high = subst (λ (u : ℕ). c.args.ino < 128 * u) r.loaded.units facts.high;
      unused = r.loaded.no_others c.args.ino (omega arith);
      links = facts.links;
    }

pub take_pages-requires : goal.take_pages-requires
take_pages-requires c =
    let r = c.requires in
    let d : DirectoryValue = loaded_directory c.args.extents.now c.args.maps.now c.args.blocks.now in
    let all = can_take_all r.state c.args.ino c.args.inode.now c.args.extents.now c.args.maps.now c.args.blocks.now r.laid_out r.there c.args.self.now r.loaded in
    record {
      free = subst (λ (x : DirectoryValue). CanTake (page_blocks x.maps.space.present) c.args.self.now.free) (sym c.in_ok-directory.ensures) (take_front (page_blocks d.maps.space.present) c.args.maps.now c.args.self.now.free all);
      paged = subst HasPages (sym c.in_ok-directory.ensures) (paged r.state c.args.ino c.args.inode.now c.args.extents.now c.args.maps.now c.args.blocks.now r.laid_out r.there);
    }

pub take_chain-requires : goal.take_chain-requires
take_chain-requires c =
    let r = c.requires in
    let d : DirectoryValue = loaded_directory c.args.extents.now c.args.maps.now c.args.blocks.now in
    let all = can_take_all r.state c.args.ino c.args.inode.now c.args.extents.now c.args.maps.now c.args.blocks.now r.laid_out r.there c.args.self.now r.loaded in
    let free = c.take_pages.ensures ∙ ap (λ (x : DirectoryValue). without_blocks (page_blocks x.maps.space.present) c.args.self.now.free) c.in_ok-directory.ensures in
    subst (CanTake c.args.maps.now) (sym free) (take_behind (page_blocks d.maps.space.present) c.args.maps.now c.args.self.now.free all)

pub returns-clause-loaded : goal.returns-clause-loaded
returns-clause-loaded c = λ s laid loaded there.
    directory_loaded s c.args.ino c.args.inode.now c.args.extents.now c.args.maps.now c.args.blocks.now laid there c.args.self.now loaded _ c.in_ok-put.ensures.ok
    (c.put_into.ensures.here ∙ ap Some c.in_ok-directory.ensures)
    (λ q ne. c.put_into.ensures.others q ne ∙ c.in_ok-make_room.ensures.same q)
    (c.take_chain.ensures ∙ ap (without_blocks c.args.maps.now) (c.take_pages.ensures ∙ ap (λ (x : DirectoryValue). without_blocks (page_blocks x.maps.space.present) c.args.self.now.free) c.in_ok-directory.ensures))
    refl
