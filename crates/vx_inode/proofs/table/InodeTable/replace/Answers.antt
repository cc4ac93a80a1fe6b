use Rattle.std.proofs.Common.{◌<◌, length, arith}
use Rattle.vx_inode.proofs.Kept.{used_range}
use Rattle.vx_inode.proofs.Stored.{stored, used_slot, used_here, set_inode, kept_set}
use Rattle.vx_inode.proofs.table.InodeTable.replace.Goals as goal

pub index_mut-requires : goal.index_mut-requires
index_mut-requires c =
    let within : c.get.result < length c.self.inside.slots.items = used_slot c.self.inside.units c.self.inside.slots.items c.get.result c.args.ino c.args.self.now c.self.view_is c.get.ensures c.requires.used in
    omega arith

pub invariant_of-self : goal.invariant_of-self
invariant_of-self c =
    let used = used_here c.self.inside.units c.self.inside.slots.items c.get.result c.args.ino c.args.self.now c.self.view_is c.get.ensures c.requires.used in
    let range = used_range (stored c.self.inside.units c.self.inside.slots.items) c.self.inside.lowest c.get.result c.self.invariant used in
    kept_set c.self.inside.units c.self.inside.lowest c.self.inside.slots.items c.get.result c.self.invariant
    (used_slot c.self.inside.units c.self.inside.slots.items c.get.result c.args.ino c.args.self.now c.self.view_is c.get.ensures c.requires.used)
    c.args.inode range.0 range.1 c.requires.links

pub returns : goal.returns
returns c =
    set_inode c.self.inside.units c.self.inside.slots.items c.get.result c.args.ino c.args.self.now c.self.view_is c.get.ensures c.args.inode
    (used_slot c.self.inside.units c.self.inside.slots.items c.get.result c.args.ino c.args.self.now c.self.view_is c.get.ensures c.requires.used)
