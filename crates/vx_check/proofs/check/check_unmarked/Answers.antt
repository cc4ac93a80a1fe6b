use Rattle.std.proofs.Common.{List, sym, subst}
use Rattle.std.specs.Prelude.{Option}
use Rattle.vx_base.specs.declared.inode.InodeValue.{InodeValue}
use Rattle.vx_check.specs.Links.{AreInodes, AreChildren}
use Rattle.vx_check.specs.Reaching.{Children}
use Rattle.vx_check.proofs.SlotLists.{inodes_are}
use Rattle.vx_check.proofs.Passing.{in_slots, in_inodes, in_links, in_bitmaps, is_sound}
use Rattle.vx_check.proofs.check.check_unmarked.Goals as goal

pub returns-in-Err-clause-finds : goal.returns-in-Err-clause-finds
returns-in-Err-clause-finds g c = λ image known.
    in_slots c.args.strict c.args.volume.now image c.in-Err.stop (c.in-Err.ensures.finds c.args.strict image known)

pub returns-in-Err-check_inodes-clause-finds : goal.returns-in-Err-check_inodes-clause-finds
returns-in-Err-check_inodes-clause-finds g c = λ image known.
    in_inodes c.args.strict c.args.volume.now image c.in-Err-check_inodes.stop (c.in-Err-check_inodes.ensures.finds c.args.strict image known)

pub returns-in-Err-check_links-clause-finds : goal.returns-in-Err-check_links-clause-finds
returns-in-Err-check_links-clause-finds g c = λ image known.
    let v = c.args.volume.now in
    let slots = c.in-Ok.slots in
    let inodes = subst (λ (l : List (Option InodeValue)). AreInodes l v image) (sym c.deref.ensures.value) (inodes_are v image slots.values.items slots.bad.items slots.used.items c.in-Ok.ensures.long (c.in-Ok.ensures.slots image (c.check_inodes.ensures.read.seen image known))) in
    let children = subst (λ (l : Children). AreChildren l v image) (sym c.deref-2.ensures.value) (c.in-Ok-check_inodes.ensures.children image known) in
    in_links c.args.strict v image (c.in-Ok-check_inodes.ensures.finds c.args.strict image known) c.in-Err-check_links.stop (c.in-Err-check_links.ensures.finds image inodes children)

pub returns-in-Ok-check_bitmaps-clause-finds : goal.returns-in-Ok-check_bitmaps-clause-finds
returns-in-Ok-check_bitmaps-clause-finds g c = λ image known.
    let v = c.args.volume.now in
    let slots = c.in-Ok.slots in
    let now = c.check_bitmaps.ensures.read.seen image known in
    let inodes = subst (λ (l : List (Option InodeValue)). AreInodes l v image) (sym c.deref.ensures.value) (inodes_are v image slots.values.items slots.bad.items slots.used.items c.in-Ok.ensures.long (c.in-Ok.ensures.slots image (c.check_inodes.ensures.read.seen image now))) in
    let children = subst (λ (l : Children). AreChildren l v image) (sym c.deref-2.ensures.value) (c.in-Ok-check_inodes.ensures.children image now) in
    is_sound c.args.strict v image (c.in-Ok-check_inodes.ensures.finds c.args.strict image now) (c.in-Ok-check_links.ensures.finds image inodes children)
    (c.in-Ok-check_bitmaps.ensures.finds c.args.strict image known)

pub returns-in-Ok-check_bitmaps-clause-inodes : goal.returns-in-Ok-check_bitmaps-clause-inodes
returns-in-Ok-check_bitmaps-clause-inodes g c = λ image known.
    let slots = c.in-Ok.slots in
    inodes_are c.args.volume.now image slots.values.items slots.bad.items slots.used.items c.in-Ok.ensures.long (c.in-Ok.ensures.slots image (c.check_inodes.ensures.read.seen image (c.check_bitmaps.ensures.read.seen image known)))

pub returns-in-Err-check_bitmaps-clause-finds : goal.returns-in-Err-check_bitmaps-clause-finds
returns-in-Err-check_bitmaps-clause-finds g c = λ image known.
    let v = c.args.volume.now in
    let slots = c.in-Ok.slots in
    let now = c.check_bitmaps.ensures.read.seen image known in
    let inodes = subst (λ (l : List (Option InodeValue)). AreInodes l v image) (sym c.deref.ensures.value) (inodes_are v image slots.values.items slots.bad.items slots.used.items c.in-Ok.ensures.long (c.in-Ok.ensures.slots image (c.check_inodes.ensures.read.seen image now))) in
    let children = subst (λ (l : Children). AreChildren l v image) (sym c.deref-2.ensures.value) (c.in-Ok-check_inodes.ensures.children image now) in
    in_bitmaps c.args.strict v image (c.in-Ok-check_inodes.ensures.finds c.args.strict image now) (c.in-Ok-check_links.ensures.finds image inodes children) c.in-Err-check_bitmaps.stop
    (c.in-Err-check_bitmaps.ensures.finds c.args.strict image known)
