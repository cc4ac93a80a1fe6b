use Rattle.std.proofs.Common.{rules, ◌≡◌, ◌*◌, get_or, None, Option, sym, subst, arith}
use Rattle.std.proofs.lemmas.Grind.{common_steps}
use Rattle.std.proofs.lemmas.List.{get_or_default}
use Rattle.vx_base.specs.declared.inode.InodeValue.{InodeValue}
use Rattle.vx_check.specs.Contents.{InodeContents, no_contents}
use Rattle.vx_txn.specs.Loads.{IsLoadedTo}
use Rattle.vx_load.specs.Listed.{IsThere}
use Rattle.vx_load.proofs.loading.metadata_of.Goals as goal

pub inodes-init : goal.inodes-init
inodes-init c = λ s are. c.in_ok-meta.ensures s are.sizes

pub put-requires : goal.put-requires
put-requires c =
    let s = c.requires.listed.state in
    let are = c.requires.listed.are in
    let n = c.inodes.n in
    let inode : get_or c.args.inodes.now n None ≡ c.index-inodes-n.result = first_of (search (rules, get_or_default), grind (arith, common_steps, get_or_default)) in
    let contents : get_or c.args.contents.now n no_contents ≡ c.index-contents-n.result = first_of (search (rules, get_or_default), grind (arith, common_steps, get_or_default)) in
    let there : IsThere s n c.index-inodes-n.result c.index-contents-n.result =
    subst (λ (o : Option InodeValue). IsThere s n o c.index-contents-n.result) inode (subst (λ (k : InodeContents). IsThere s n (get_or c.args.inodes.now n None) k) contents (are.each n)) in
    record {
      state = s;
      laid_out = are.laid_out;
      loaded = subst (λ k. IsLoadedTo s k c.inodes.meta) (sym c.new.ensures) (c.inodes.invariant s are);
      there = subst (λ k. IsThere s k c.index-inodes-n.result c.index-contents-n.result) (sym c.new.ensures) there;
    }

pub returns : goal.returns
returns c = λ s are.
    let count = are.inodes_count in
    let units = are.sizes.units_are in
    let end : c.inodes.n ≡ 128 * s.layout.units = omega (arith, c.inodes-test.false, c.inodes.auto, count, units) in
    c.loading_laws.ensures.whole s c.inodes.meta are.laid_out are.nothing_waits (subst (λ k. IsLoadedTo s k c.inodes.meta) end (c.inodes.invariant s are))
