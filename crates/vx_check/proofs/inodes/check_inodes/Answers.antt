use Rattle.std.proofs.Common.{rules, ◌≡◌, ◌+◌, ◌<◌, ◌++◌, ◌∷◌, [], ℕ, Bool, List, true, false, length, get_or, sym, ap, subst, ◌∙◌, arith, length-append}
use Rattle.std.proofs.lemmas.Grind.{common_steps}
use Rattle.std.proofs.lemmas.List.{get_or_default}
use Rattle.std.specs.Prelude.{None}
use Rattle.std.specs.List.{flat_map, AllByRecursion}
use Rattle.vx_base.specs.declared.inode.InodeValue.{InodeValue}
use Rattle.std.specs.Prelude.{Option}
use Rattle.vx_layout.specs.Inodes.{layout1, IsSlot}
use Rattle.vx_sound.specs.FirstFault.{numbers}
use Rattle.vx_sound.specs.Said.{inode_count, inode_said, claims_below, entries_of}
use Rattle.vx_sound.specs.Checks.{Holds, inode_checks}
use Rattle.vx_check.specs.Parts.{Stops, AreMarksOf}
use Rattle.vx_check.specs.Slots.{IsSlotRead}
use Rattle.vx_check.specs.Directories.{targets_of}
use Rattle.vx_check.specs.Reaching.{Children, AreInside}
use Rattle.vx_check.proofs.Going.{no_read, read_on, stops_at}
use Rattle.vx_check.proofs.SlotLists.{used_are}
use Rattle.vx_check.proofs.Passing.{ArePassed, none_passed, more_passed, inside_more, all_children}
use Rattle.vx_check.specs.Contents.{InodeContents, contents_said}
use Rattle.vx_check.proofs.Keeping.{AreContentsBelow, no_contents_yet, contents_more, all_contents}
use Rattle.vx_check.proofs.inodes.check_inodes.Goals as goal

pub loop-n-init : goal.loop-n-init
loop-n-init g c =
    let v = c.args.volume.now in
    record {
      read = no_read (g.D.Sectors.view c.args.dev.now);
      room = c.requires.room;
      count = ap (λ (l : Children). length l) c.new-children.ensures.items;
      inside = subst (AreInside (inode_count v)) (sym c.new-children.ensures.items) (λ d. tt);
      kept = λ keep. ap (λ (l : List InodeContents). length l) c.new-contents.ensures.items;
      contents = λ image known keep. no_contents_yet v image c.new-contents.result.items;
      known = λ image known. subst (ArePassed v image 0 c.args.marks.now) (sym c.new-children.ensures.items) (none_passed v image c.args.marks.now c.requires.marks);
    }

pub check_inode-requires-clause-is : goal.check_inode-requires-clause-is
check_inode-requires-clause-is g c =
    let at : get_or c.args.slots.now.values.items c.loop-n.n None ≡ c.index.result.now = first_of (search (rules, get_or_default), grind (arith, common_steps, get_or_default)) in
    subst (IsSlot layout1) at (c.requires.forms c.loop-n.n)

pub check_inode-requires-clause-slot : goal.check_inode-requires-clause-slot
check_inode-requires-clause-slot g c = λ image now.
    let v = c.args.volume.now in
    let n = c.loop-n.n in
    let less : n < inode_count v = omega arith in
    let at : get_or c.args.slots.now.values.items n None ≡ c.index.result.now = first_of (search (rules, get_or_default), grind (arith, common_steps, get_or_default)) in
    let bad : get_or c.args.slots.now.bad.items n false ≡ c.index-in-loop-n.result.now = first_of (search (rules, get_or_default), grind (arith, common_steps, get_or_default)) in
    let known = c.loop-n.invariant.read.seen image now in
    subst (λ (m : ℕ). IsSlotRead v image m c.index.result.now c.index-in-loop-n.result.now) (sym c.new.ensures)
    (subst (λ (o : Option InodeValue). IsSlotRead v image n o c.index-in-loop-n.result.now) at
    (subst (IsSlotRead v image n (get_or c.args.slots.now.values.items n None)) bad ((c.requires.slots image known).each n less)))

pub check_inode-requires-clause-used : goal.check_inode-requires-clause-used
check_inode-requires-clause-used g c = λ image now n.
    let known = c.loop-n.invariant.read.seen image now in
    let slots = c.args.slots.now in
    ap (λ (l : List Bool). get_or l n false) c.deref.ensures.value
    ∙ used_are c.args.volume.now image slots.values.items slots.bad.items slots.used.items c.requires.long (c.requires.slots image known) n

pub returns-in-Err-clause-finds : goal.returns-in-Err-clause-finds
returns-in-Err-clause-finds g c = λ strict image known.
    let v = c.args.volume.now in
    let n = c.loop-n.n in
    let less : n < inode_count v = omega arith in
    let before = c.check_inode.ensures.read.seen image known in
    stops_at strict v image (inode_checks v image) (inode_count v) n c.in-Err.stop less ((c.loop-n.invariant.known image before).all strict)
    (subst (λ (m : ℕ). Stops strict v image (inode_checks v image m) c.in-Err.stop) c.new.ensures (c.in-Err.ensures.finds strict image known))

pub loop-n-preserved : goal.loop-n-preserved
loop-n-preserved g c =
    let v = c.args.volume.now in
    let n = c.loop-n.n in
    let less : n < inode_count v = omega arith in
    let old : Children = c.loop-n.children.items in
    let ts : List ℕ = c.new-in-Ok.result in
    let e : c.push.new.self.items ≡ old ++ ts ∷ [] = c.in-Ok-push.ensures.items in
    let same : ts ≡ c.in-Ok.inspected.targets.items = c.new-in-Ok.ensures in
    let shown : length c.deref.result.now ≡ inode_count v = ap (λ (l : List Bool). length l) c.deref.ensures.value ∙ c.requires.long.used_are in
    let below : AllByRecursion (λ x. x < inode_count v) ts = subst (λ (k : ℕ). AllByRecursion (λ x. x < k) ts) shown (subst (AllByRecursion (λ x. x < length c.deref.result.now)) (sym same) c.in-Ok.ensures.inside) in
    let new : InodeContents = c.in-Ok.inspected.contents in
    let added : c.args.keep ≡ true → c.keep_contents.new.kept.items ≡ c.loop-n.contents.items ++ new ∷ [] = c.in-Ok-keep_contents.ensures in
    record {
      read = read_on (g.D.Sectors.view c.args.dev.now) (g.D.Sectors.view c.loop-n.dev) (g.D.Sectors.view c.check_inode.new.dev) c.loop-n.invariant.read c.check_inode.ensures.read;
      room = c.check_inode.ensures.room;
      count = ap (λ (l : Children). length l) e ∙ length-append old (ts ∷ []) ∙ ap (λ (k : ℕ). k + 1) c.loop-n.invariant.count;
      inside = subst (AreInside (inode_count v)) (sym e) (inside_more (inode_count v) old ts c.loop-n.invariant.inside below);
      kept = λ keep. ap (λ (l : List InodeContents). length l) (added keep) ∙ length-append c.loop-n.contents.items (new ∷ []) ∙ ap (λ (k : ℕ). k + 1) (c.loop-n.invariant.kept keep);
      contents = λ image known keep.
          contents_more v image n c.loop-n.contents.items c.keep_contents.new.kept.items new (c.loop-n.invariant.kept keep) (added keep)
          (c.in-Ok.ensures.contents image known ∙ ap (λ (m : ℕ). contents_said v image (inode_said v image m)) c.new.ensures) (c.loop-n.invariant.contents image (c.check_inode.ensures.read.seen image known) keep);
      known = λ image known.
          let before = c.check_inode.ensures.read.seen image known in
          more_passed v image n c.loop-n.marks c.check_inode.new.marks old c.push.new.self.items ts c.loop-n.invariant.count (c.loop-n.invariant.known image before)
          (λ strict. subst (λ (m : ℕ). AllByRecursion (Holds strict v image) (inode_checks v image m)) c.new.ensures (c.in-Ok.ensures.finds strict image known))
          (subst (λ (m : ℕ). AreMarksOf c.check_inode.new.marks (claims_below v image (m + 1))) c.new.ensures (c.in-Ok.ensures.marks image known))
          (same ∙ c.in-Ok.ensures.targets image known ∙ ap (λ (m : ℕ). targets_of (entries_of v image m)) c.new.ensures) e;
    }

pub returns-clause-finds : goal.returns-clause-finds
returns-clause-finds g c = λ strict image known.
    let v = c.args.volume.now in
    let end : c.loop-n.n ≡ inode_count v = omega arith in
    subst (λ (k : ℕ). AllByRecursion (Holds strict v image) (flat_map (inode_checks v image) (numbers 0 k))) end ((c.loop-n.invariant.known image known).all strict)

pub returns-clause-children : goal.returns-clause-children
returns-clause-children g c = λ image known.
    let v = c.args.volume.now in
    let end : c.loop-n.n ≡ inode_count v = omega arith in
    all_children v image c.loop-n.marks c.loop-n.children.items (c.loop-n.invariant.count ∙ end)
    (subst (λ (k : ℕ). ArePassed v image k c.loop-n.marks c.loop-n.children.items) end (c.loop-n.invariant.known image known))

pub returns-clause-contents : goal.returns-clause-contents
returns-clause-contents g c = λ keep image known.
    let v = c.args.volume.now in
    let end : c.loop-n.n ≡ inode_count v = omega arith in
    all_contents v image c.loop-n.contents.items (c.loop-n.invariant.kept keep ∙ end)
    (subst (λ (k : ℕ). AreContentsBelow v image k c.loop-n.contents.items) end (c.loop-n.invariant.contents image known keep))

pub returns-clause-contents_count : goal.returns-clause-contents_count
returns-clause-contents_count g c = λ keep.
    let end : c.loop-n.n ≡ inode_count c.args.volume.now = omega arith in
    c.loop-n.invariant.kept keep ∙ end
