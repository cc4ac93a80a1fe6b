use Rattle.std.proofs.Common.{◌≡◌, ◌<◌, ℕ, List, [], length, get_or, set, Some, None, ◌∙◌, sym, ap, subst, arith}
use Rattle.std.specs.FinMap as map
use Rattle.std.proofs.lemmas.List.{with_items_is}
use Rattle.vx_dir.specs.Sizes.{Entries}
use Rattle.vx_dir.specs.Directories.{Directory, holds, block_of, inode_of, without_entry, without_name}
use Rattle.vx_dir.specs.Index.{Indexes}
use Rattle.vx_dir.proofs.Removing.{held, kept_without}
use Rattle.vx_dir.proofs.Indexing.{found, found_there, indexes_without, indexes_as_before}
use Rattle.vx_dir.proofs.dir_blocks.DirBlocks.remove.Goals as goal

pub remove_at-requires-clause-within : goal.remove_at-requires-clause-within
remove_at-requires-clause-within c =
    let bs : List Entries = c.self.inside.blocks.items in
    let got : map.get c.self.inside.index c.args.name.now ≡ Some c.in-Some.spot = sym c.remove.ensures.spot ∙ c.in-Some.is in
    let is : block_of c.args.name.now bs ≡ c.in-Some.spot.block = (found bs c.self.inside.index c.self.invariant.1 c.args.name.now c.in-Some.spot got).0 in
    let there : block_of c.args.name.now bs < length bs = found_there bs c.self.inside.index c.self.invariant.1 c.args.name.now c.in-Some.spot got in
    omega (arith, ap (λ (x : List Entries). length x) c.as_mut_slice.ensures.value)

pub remove_at-requires-clause-holds : goal.remove_at-requires-clause-holds
remove_at-requires-clause-holds c =
    let d : Directory = record { block_size = c.self.inside.block_size; limit = c.self.inside.limit; blocks = c.self.inside.blocks.items } in
    let got : map.get c.self.inside.index c.args.name.now ≡ Some c.in-Some.spot = sym c.remove.ensures.spot ∙ c.in-Some.is in
    let is : block_of c.args.name.now d.blocks ≡ c.in-Some.spot.block = (found d.blocks c.self.inside.index c.self.invariant.1 c.args.name.now c.in-Some.spot got).0 in
    let there : block_of c.args.name.now d.blocks < length d.blocks = found_there d.blocks c.self.inside.index c.self.invariant.1 c.args.name.now c.in-Some.spot got in
    ap (λ (bs : List Entries). holds c.args.name.now (get_or bs c.in-Some.spot.block [])) c.as_mut_slice.ensures.value
    ∙ held d c.self.invariant.0 c.args.name.now c.in-Some.spot.block (sym is) (omega arith)

pub invariant_of-self : goal.invariant_of-self
invariant_of-self c =
    let d : Directory = record { block_size = c.self.inside.block_size; limit = c.self.inside.limit; blocks = c.self.inside.blocks.items } in
    let got : map.get c.self.inside.index c.args.name.now ≡ Some c.in-Some.spot = sym c.remove.ensures.spot ∙ c.in-Some.is in
    let is : block_of c.args.name.now d.blocks ≡ c.in-Some.spot.block = (found d.blocks c.self.inside.index c.self.invariant.1 c.args.name.now c.in-Some.spot got).0 in
    let there : block_of c.args.name.now d.blocks < length d.blocks = found_there d.blocks c.self.inside.index c.self.invariant.1 c.args.name.now c.in-Some.spot got in
    let items = with_items_is c.self.inside.blocks c.remove_at.new.blocks (c.remove_at.auto.blocks ∙ c.as_mut_slice.ensures.len) in
    rw (items, c.remove_at.ensures, c.as_mut_slice.ensures.value, c.remove.ensures.removed) (
      kept_without d c.self.invariant.0 c.args.name.now c.in-Some.spot.block (sym is) (omega arith),
      indexes_without d.blocks c.self.inside.index c.self.invariant.1 c.args.name.now c.in-Some.spot.block (sym is) (omega arith) c.self.invariant.0.distinct,
    )

pub invariant_of-self-in-None : goal.invariant_of-self-in-None
invariant_of-self-in-None c =
    let none : map.get c.self.inside.index c.args.name.now ≡ None = sym c.remove.ensures.spot ∙ c.in-None.is in (
      c.self.invariant.0,
      subst (Indexes c.self.inside.blocks.items) (sym c.remove.ensures.removed) (indexes_as_before c.self.inside.blocks.items c.self.inside.index c.self.invariant.1 c.args.name.now none),
    )

pub returns-in-Some-clause-inode : goal.returns-in-Some-clause-inode
returns-in-Some-clause-inode c =
    let got : map.get c.self.inside.index c.args.name.now ≡ Some c.in-Some.spot = sym c.remove.ensures.spot ∙ c.in-Some.is in
    ap (λ (x : Directory). inode_of x c.args.name.now) (sym c.self.view_is) ∙ (found c.self.inside.blocks.items c.self.inside.index c.self.invariant.1 c.args.name.now c.in-Some.spot got).1

pub returns-in-Some-clause-removed : goal.returns-in-Some-clause-removed
returns-in-Some-clause-removed c =
    let d : Directory = record { block_size = c.self.inside.block_size; limit = c.self.inside.limit; blocks = c.self.inside.blocks.items } in
    let name = c.args.name.now in
    let got : map.get c.self.inside.index c.args.name.now ≡ Some c.in-Some.spot = sym c.remove.ensures.spot ∙ c.in-Some.is in
    let is : block_of c.args.name.now d.blocks ≡ c.in-Some.spot.block = (found d.blocks c.self.inside.index c.self.invariant.1 c.args.name.now c.in-Some.spot got).0 in
    let items = with_items_is c.self.inside.blocks c.remove_at.new.blocks (c.remove_at.auto.blocks ∙ c.as_mut_slice.ensures.len) in
    let at : ℕ → List Entries → List Entries = λ i bs. set bs i (without_entry name (get_or bs i [])) in
    ap (λ (bs : List Entries). record d { blocks = bs }) (items ∙ c.remove_at.ensures ∙ ap (at c.in-Some.spot.block) c.as_mut_slice.ensures.value ∙ ap (λ (i : ℕ). at i d.blocks) (sym is))
    ∙ ap (λ (x : Directory). without_name x name) c.self.view_is
