use Rattle.std.proofs.Common.{sym, ◌∙◌, ap, subst, arith}
use Rattle.vx_inode.specs.Tables.{Inodes, Table, IsKept}
use Rattle.vx_inode.proofs.Stored.{set_inode, kept_set, with_inodes}
use Rattle.vx_inode.proofs.table.InodeTable.put.Goals as goal

pub invariant_of-self-2 : goal.invariant_of-self-2
invariant_of-self-2 c =
    let kept = subst (λ (m : Inodes). IsKept (with_inodes c.self.inside.units m) c.self.inside.lowest) (sym c.in_ok-make_room.ensures.same) c.self.invariant in
    kept_set c.self.inside.units c.self.inside.lowest c.make_room.new.slots.items c.get-2.result kept (omega (arith, c.in_ok-make_room.ensures.ok))
    c.args.value.now (omega arith) (omega (arith, ap (λ (t : Table). t.units) c.self.view_is)) c.requires.links

pub returns-clause-ok : goal.returns-clause-ok
returns-clause-ok c =
    set_inode c.self.inside.units c.make_room.new.slots.items c.get-2.result c.args.ino c.args.self.now
    (ap (with_inodes c.self.inside.units) c.in_ok-make_room.ensures.same ∙ c.self.view_is) c.get-2.ensures
    c.args.value.now (omega (arith, c.in_ok-make_room.ensures.ok))
