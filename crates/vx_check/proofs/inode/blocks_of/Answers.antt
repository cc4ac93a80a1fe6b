use Rattle.std.proofs.Common.{rules, ◌≡◌, ◌<◌, ◌+◌, ◌^◌, length, get_or, subst, arith}
use Rattle.std.proofs.lemmas.Grind.{common_steps}
use Rattle.std.proofs.lemmas.List.{get_or_default}
use Rattle.vx_base.specs.declared.inode.Extent.{Extent}
use Rattle.vx_check.proofs.OneInode.{run_below}
use Rattle.vx_check.proofs.inode.blocks_of.Goals as goal

pub add_run-requires : goal.add_run-requires
add_run-requires c =
    let e = c.extent-item.result in
    let t = c.loop-extent.extent-index in
    let lt : t < length c.args.extents.now = omega arith in
    let is : get_or c.args.extents.now t e ≡ e = first_of (search (rules, get_or_default), grind (arith, common_steps, get_or_default)) in
    λ i. subst (λ (x : Extent). i < x.len → x.start + i < 2 ^ 32) is (run_below (2 ^ 32) c.args.extents.now t e i lt c.requires)
