use Rattle.std.proofs.Common.{rules, ◌≡◌, ◌%◌, ℕ, List, length, sym, subst, arith}
use Rattle.std.proofs.lemmas.Grind.{common_steps}
use Rattle.std.specs.Prelude.{Some, None}
use Rattle.vx_layout.specs.Places.{inode_sector}
use Rattle.vx_layout.specs.Inodes.{layout1, half_of, slot_at, slot_bytes}
use Rattle.vx_check.proofs.Halves.{good_slot, bad_slot}
use Rattle.vx_check.proofs.slots.read_slot.Goals as goal

pub returns-in-Ok-read_inode-clause-slot : goal.returns-in-Ok-read_inode-clause-slot
returns-in-Ok-read_inode-clause-slot g c = λ image known.
    let v = c.args.volume.now in
    let n = c.args.ino in
    let sector : List ℕ = c.in-Ok.sector in
    let here : image (inode_sector v n) ≡ sector = subst (λ (x : ℕ). image x ≡ sector) c.inode_place.ensures.sector (c.in-Ok.ensures.bytes image known) in
    let long : length sector ≡ 512 = first_of (search rules, grind (arith, common_steps)) in
    let o = c.in-Ok-read_inode.value in
    good_slot v image n c.requires.inode sector here long o
    (subst (λ (x : ℕ). Some o ≡ slot_at layout1 (half_of sector (x % 2))) c.get.ensures c.in-Ok-read_inode.ensures.said)
    (subst (λ (x : ℕ). half_of sector (x % 2) ≡ slot_bytes o) c.get.ensures c.in-Ok-read_inode.ensures.found.1)
    (λ w is e. let read = c.in-Ok-read_inode.ensures.only w is (subst (λ (x : ℕ). half_of sector (x % 2) ≡ slot_bytes w) (sym c.get.ensures) e) in cc)

pub returns-in-Err-clause-slot : goal.returns-in-Err-clause-slot
returns-in-Err-clause-slot g c = λ image known.
    let v = c.args.volume.now in
    let n = c.args.ino in
    let sector : List ℕ = c.in-Ok.sector in
    let here : image (inode_sector v n) ≡ sector = subst (λ (x : ℕ). image x ≡ sector) c.inode_place.ensures.sector (c.in-Ok.ensures.bytes image known) in
    let long : length sector ≡ 512 = first_of (search rules, grind (arith, common_steps)) in
    bad_slot v image n c.requires.inode sector here long
    (subst (λ (x : ℕ). None ≡ slot_at layout1 (half_of sector (x % 2))) c.get.ensures c.in-Err.ensures.said)
    (λ w is e. let read = c.in-Err.ensures.only w is (subst (λ (x : ℕ). half_of sector (x % 2) ≡ slot_bytes w) (sym c.get.ensures) e) in absurd (cc))
