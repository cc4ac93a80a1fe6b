use Rattle.std.proofs.Common.{◌≡◌, ℕ, ◌+◌, ◌-◌, ◌*◌, List, length, take, drop, ap, sym, ◌∙◌, arith, length-take, length-drop, Option, Some, None, refl}
use Rattle.vx_base.specs.declared.inode.InodeValue.{InodeValue}
use Rattle.vx_base.specs.declared.geom.Geom.{Geom}
use Rattle.vx_layout.specs.Inodes.{slot_at, slot_bytes, half_of, IsSlot}
use Rattle.vx_layout.proofs.Numbers.{IsBytes-drop, IsBytes-take}
use Rattle.vx_codec.proofs.InodeLaws.{slot_again, slot_found}
use Rattle.vx_codec.proofs.inode.read_inode_with.Goals as goal

half_is : (g : Geom) (s : List ℕ) (h : ℕ) → slot_at g (take (256 * h + 256 - 256 * h) (drop (256 * h) s)) ≡ slot_at g (half_of s h)
half_is g s h = let e : 256 * h + 256 - 256 * h ≡ 256 = omega arith in rw e refl

-- what a half that is spelled so is read as
again : (g : Geom) (s : List ℕ) (h : ℕ) (r : Option (Option InodeValue)) (v : Option InodeValue) → r ≡ slot_at g (take (256 * h + 256 - 256 * h) (drop (256 * h) s))
    → IsSlot g v → half_of s h ≡ slot_bytes v → r ≡ Some v
again g s h r v is fits e = is ∙ half_is g s h ∙ ap (slot_at g) e ∙ slot_again g v fits

pub returns-in-Some-clause-found : goal.returns-in-Some-clause-found
returns-in-Some-clause-found c =
    let s = c.args.sector.now in
    let h = c.args.half in
    let len : length (half_of s h) ≡ 256 = omega (arith, length-take 256 (drop (256 * h) s), length-drop (256 * h) s, c.told-sector, c.requires.half) in
    slot_found c.args.geom.now (half_of s h) c.in-Some.value len (IsBytes-take 256 (drop (256 * h) s) (IsBytes-drop (256 * h) s c.fits-sector))
    (sym (half_is c.args.geom.now s h) ∙ sym c.slot_of.ensures ∙ c.in-Some.is)

pub returns-in-Some-clause-only : goal.returns-in-Some-clause-only
returns-in-Some-clause-only c = λ v fits e.
    let read : c.slot_of.result ≡ Some v = again c.args.geom.now c.args.sector.now c.args.half c.slot_of.result v c.slot_of.ensures fits e in
    let is : c.slot_of.result ≡ Some c.in-Some.value = c.in-Some.is in
    cc

pub returns-in-None-clause-only : goal.returns-in-None-clause-only
returns-in-None-clause-only c = λ v fits e.
    let read : c.slot_of.result ≡ Some v = again c.args.geom.now c.args.sector.now c.args.half c.slot_of.result v c.slot_of.ensures fits e in
    let is : c.slot_of.result ≡ None = c.in-None.is in
    cc

pub returns-in-Some-clause-said : goal.returns-in-Some-clause-said
returns-in-Some-clause-said c = sym c.in-Some.is ∙ c.slot_of.ensures ∙ half_is c.args.geom.now c.args.sector.now c.args.half

pub returns-in-None-clause-said : goal.returns-in-None-clause-said
returns-in-None-clause-said c = sym c.in-None.is ∙ c.slot_of.ensures ∙ half_is c.args.geom.now c.args.sector.now c.args.half
