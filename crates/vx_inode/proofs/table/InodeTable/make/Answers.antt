use Rattle.std.proofs.Common.{◌≡◌, ◌<◌, ◌≤◌, ℕ, List, Option, true, sym, ◌∙◌, ap, subst, inl, arith, Ok}
use Rattle.std.specs.Prelude.{is_some}
use Rattle.std.specs.FinMap as map
use Rattle.vx_base.specs.declared.inode.Inode.{Inode}
use Rattle.vx_inode.specs.Slots.{by_number}
use Rattle.vx_inode.specs.Tables.{Inodes, Table, is_used, with_inode, make_answer, IsKept}
use Rattle.vx_inode.proofs.Lowest.{lowest_within, kept_raised, found, nothing_found}
use Rattle.vx_inode.proofs.Stored.{stored, set_inode, kept_set, with_inodes}
use Rattle.vx_inode.proofs.table.InodeTable.make.Goals as goal

pub returns-then-ino-end-clause-answer : goal.returns-then-ino-end-clause-answer
returns-then-ino-end-clause-answer c =
    let t : Table = stored c.self.inside.units c.self.inside.slots.items in
    let used : (q : ℕ) → c.self.inside.lowest ≤ q → q < c.first_unused-self-inside.result → is_used t q ≡ true = λ q low high.
    ap (λ (s : List (Option Inode)). is_some (map.get (by_number s) q)) (sym c.as_slice.ensures.value) ∙ c.first_unused-self-inside.ensures.used q low high in
    let root : is_used t 2 ≡ true = ap (λ (x : Table). is_used x 2) c.self.view_is ∙ c.requires in
    inl (sym (nothing_found t c.self.inside.lowest c.first_unused-self-inside.result c.self.invariant used root c.if-ino-end.true) ∙ ap make_answer c.self.view_is)

pub invariant_of-self-in-Ok : goal.invariant_of-self-in-Ok
invariant_of-self-in-Ok c =
    let t : Table = stored c.self.inside.units c.self.inside.slots.items in
    let used : (q : ℕ) → c.self.inside.lowest ≤ q → q < c.first_unused-self-inside.result → is_used t q ≡ true = λ q low high.
    ap (λ (s : List (Option Inode)). is_some (map.get (by_number s) q)) (sym c.as_slice.ensures.value) ∙ c.first_unused-self-inside.ensures.used q low high in
    let from : 3 ≤ c.first_unused-self-inside.result =
    omega (arith, c.first_unused-self-inside.ensures.low (lowest_within t c.self.inside.lowest c.self.invariant), c.self.invariant.from_3) in
    let raised : IsKept t c.first_unused-self-inside.result = kept_raised t c.self.inside.lowest c.first_unused-self-inside.result c.self.invariant used from in
    let kept = subst (λ (m : Inodes). IsKept (with_inodes c.self.inside.units m) c.first_unused-self-inside.result) (sym c.in-Ok.ensures.same) raised in
    kept_set c.self.inside.units c.first_unused-self-inside.result c.make_room.new.slots.items c.first_unused-self-inside.result kept (omega (arith, c.in-Ok.ensures.ok))
    c.new_inode.result (omega arith) c.if-ino-end.false (rw c.new_inode.ensures (omega arith))

pub returns-in-Ok-clause-answer : goal.returns-in-Ok-clause-answer
returns-in-Ok-clause-answer c =
    let t : Table = stored c.self.inside.units c.self.inside.slots.items in
    let used : (q : ℕ) → c.self.inside.lowest ≤ q → q < c.first_unused-self-inside.result → is_used t q ≡ true = λ q low high.
    ap (λ (s : List (Option Inode)). is_some (map.get (by_number s) q)) (sym c.as_slice.ensures.value) ∙ c.first_unused-self-inside.ensures.used q low high in
    let from : 3 ≤ c.first_unused-self-inside.result =
    omega (arith, c.first_unused-self-inside.ensures.low (lowest_within t c.self.inside.lowest c.self.invariant), c.self.invariant.from_3) in
    let none = ap (λ (s : List (Option Inode)). map.get (by_number s) c.first_unused-self-inside.result) (sym c.as_slice.ensures.value) ∙ c.first_unused-self-inside.ensures.unused c.if-ino-end.false in
    inl (ap Ok c.new.ensures ∙ sym (found t c.self.inside.lowest c.first_unused-self-inside.result c.self.invariant used from c.if-ino-end.false none) ∙ ap make_answer c.self.view_is)

pub returns-in-Ok-clause-made : goal.returns-in-Ok-clause-made
returns-in-Ok-clause-made c =
    set_inode c.self.inside.units c.make_room.new.slots.items c.first_unused-self-inside.result c.new.result c.args.self.now
    (ap (with_inodes c.self.inside.units) c.in-Ok.ensures.same ∙ c.self.view_is) (sym c.new.ensures)
    c.new_inode.result (omega (arith, c.in-Ok.ensures.ok))
    ∙ ap (with_inode c.args.self.now c.new.result) c.new_inode.ensures
