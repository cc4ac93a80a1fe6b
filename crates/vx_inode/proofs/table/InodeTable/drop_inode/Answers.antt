use Rattle.std.proofs.Common.{◌<◌, length, arith}
use Rattle.vx_inode.proofs.Stored.{used_slot, clear_inode, kept_clear}
use Rattle.vx_inode.proofs.table.InodeTable.drop_inode.Goals as goal

pub index_mut-requires : goal.index_mut-requires
index_mut-requires c =
    let within : c.get.result < length c.self.inside.slots.items = used_slot c.self.inside.units c.self.inside.slots.items c.get.result c.args.ino c.args.self.now c.self.view_is c.get.ensures c.requires in
    omega arith

pub invariant_of-self : goal.invariant_of-self
invariant_of-self c =
    kept_clear c.self.inside.units c.self.inside.lowest c.self.inside.slots.items c.get.result c.self.invariant
    (used_slot c.self.inside.units c.self.inside.slots.items c.get.result c.args.ino c.args.self.now c.self.view_is c.get.ensures c.requires)
    c.min-self-inside.result (omega arith) (omega arith) (λ h. omega arith)

pub returns : goal.returns
returns c =
    clear_inode c.self.inside.units c.self.inside.slots.items c.get.result c.args.ino c.args.self.now c.self.view_is c.get.ensures
    (used_slot c.self.inside.units c.self.inside.slots.items c.get.result c.args.ino c.args.self.now c.self.view_is c.get.ensures c.requires)
