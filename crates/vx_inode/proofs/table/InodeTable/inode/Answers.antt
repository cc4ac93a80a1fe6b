use Rattle.std.proofs.Common.{◌≡◌, ◌<◌, ◌≤◌, Option, Some, length, ◌∙◌, ap, sym, subst, arith}
use Rattle.std.specs.Prelude.{is_some}
use Rattle.vx_base.specs.declared.inode.Inode.{Inode}
use Rattle.vx_inode.specs.Tables.{inode_at, links_of, Table}
use Rattle.vx_inode.proofs.Stored.{used_slot, read_inode}
use Rattle.vx_inode.proofs.table.InodeTable.inode.Goals as goal

pub index-requires : goal.index-requires
index-requires c =
    let within : c.get.result < length c.self.inside.slots.items = used_slot c.self.inside.units c.self.inside.slots.items c.get.result c.args.ino c.args.self.now c.self.view_is c.get.ensures c.requires in
    omega arith

pub unwrap-requires : goal.unwrap-requires
unwrap-requires c =
    ap is_some (sym (read_inode c.self.inside.units c.self.inside.slots.items c.get.result c.args.ino c.args.self.now c.self.view_is c.get.ensures c.index.result.now
    (used_slot c.self.inside.units c.self.inside.slots.items c.get.result c.args.ino c.args.self.now c.self.view_is c.get.ensures c.requires)
    c.index.ensures)) ∙ c.requires

pub returns-clause-value : goal.returns-clause-value
returns-clause-value c =
    read_inode c.self.inside.units c.self.inside.slots.items c.get.result c.args.ino c.args.self.now c.self.view_is c.get.ensures c.index.result.now
    (used_slot c.self.inside.units c.self.inside.slots.items c.get.result c.args.ino c.args.self.now c.self.view_is c.get.ensures c.requires)
    c.index.ensures ∙ c.unwrap.ensures

pub returns-clause-links : goal.returns-clause-links
returns-clause-links c =
    let is : inode_at c.args.self.now c.args.ino ≡ Some c.unwrap.result =
    read_inode c.self.inside.units c.self.inside.slots.items c.get.result c.args.ino c.args.self.now c.self.view_is c.get.ensures c.index.result.now
    (used_slot c.self.inside.units c.self.inside.slots.items c.get.result c.args.ino c.args.self.now c.self.view_is c.get.ensures c.requires)
    c.index.ensures ∙ c.unwrap.ensures in
    subst (λ (o : Option Inode). links_of o ≤ 32767) is (subst (λ (t : Table). links_of (inode_at t c.args.ino) ≤ 32767) c.self.view_is (c.self.invariant.few_links c.args.ino))
