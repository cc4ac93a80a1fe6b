use Rattle.std.proofs.Common.{rules, ◌≡◌, ◌-◌, ◌^◌, ◌<◌, ℕ, min, true, false, length, get_or, sym, ap, subst, ◌∙◌, arith}
use Rattle.std.specs.Prelude.{Option, None}
use Rattle.std.specs.List.{flat_map, AllByRecursion}
use Rattle.std.proofs.lemmas.Grind.{common_steps}
use Rattle.std.proofs.lemmas.List.{get_or_default}
use Rattle.vx_base.specs.declared.inode.InodeValue.{InodeValue}
use Rattle.vx_layout.specs.Places.{inode_sector}
use Rattle.vx_layout.specs.Inodes.{layout1, IsSlot}
use Rattle.vx_sound.specs.FirstFault.{numbers}
use Rattle.vx_sound.specs.Said.{inode_count, names_of}
use Rattle.vx_sound.specs.Checks.{Holds, link_checks}
use Rattle.vx_sound.proofs.Faults as faults
use Rattle.vx_check.proofs.Going.{stops_at}
use Rattle.vx_check.specs.declared.stop.Stop.TheVariants as stop
use Rattle.vx_check.proofs.Counting.{names_are}
use Rattle.vx_check.proofs.Linking.{reached_on, reached_back, links_right, bad_links}
use Rattle.vx_check.proofs.links.check_links.Goals as goal

pub returns-then-not-links_fit-clause-finds : goal.returns-then-not-links_fit-clause-finds
returns-then-not-links_fit-clause-finds c = λ image values children.
    let v = c.args.volume.now in
    let n = c.loop-n.n in
    let less : n < inode_count v = omega arith in
    let long = c.in-Ok.ensures.length in let low : n < length c.in-Ok.counts.items = omega arith in
    let o : Option InodeValue = c.index-values-at.result in
    let at : get_or c.args.values.now n None ≡ o = first_of (search (rules, get_or_default), grind (arith, common_steps, get_or_default)) in
    let names : c.index.result.now ≡ get_or c.in-Ok.counts.items n 0 = first_of (search (rules, get_or_default), grind (arith, common_steps, get_or_default)) in
    let mark : c.index-in-loop-n.result.now ≡ get_or c.in-Ok-mark_reached.marks.items n false = first_of (search (rules, get_or_default), grind (arith, common_steps, get_or_default)) in
    let count : get_or c.in-Ok.counts.items n 0 ≡ min (names_of v image n) (2 ^ 32 - 1) = c.in-Ok.ensures.counts n low ∙ ap (λ (x : ℕ). min x (2 ^ 32 - 1)) (names_are v image n c.args.children.now c.requires.children children) in
    let misfits : c.links_fit.result ≡ false = first_of (search rules, grind (arith, common_steps)) in
    stops_at c.args.strict v image link_checks (inode_count v) n (stop.BadMeta c.get.result) less (c.loop-n.invariant image values children)
    (bad_links c.args.strict v image n c.index.result.now c.index-in-loop-n.result.now (names ∙ count)
    (λ r. reached_on v image c.args.children.now children n (c.in-Ok-mark_reached.ensures.only n (sym mark ∙ r)))
    (λ r. mark ∙ c.in-Ok-mark_reached.ensures.all n (reached_back v image c.args.children.now children n r))
    o (sym (values n) ∙ at) (subst (IsSlot layout1) at (c.requires.forms n)) c.get.result (c.get.ensures ∙ c.inode_place.ensures.sector ∙ ap (inode_sector v) c.new.ensures) (sym c.links_fit.ensures ∙ misfits))

pub loop-n-preserved : goal.loop-n-preserved
loop-n-preserved c = λ image values children.
    let v = c.args.volume.now in
    let n = c.loop-n.n in
    let long = c.in-Ok.ensures.length in let low : n < length c.in-Ok.counts.items = omega arith in
    let o : Option InodeValue = c.index-values-at.result in
    let at : get_or c.args.values.now n None ≡ o = first_of (search (rules, get_or_default), grind (arith, common_steps, get_or_default)) in
    let names : c.index.result.now ≡ get_or c.in-Ok.counts.items n 0 = first_of (search (rules, get_or_default), grind (arith, common_steps, get_or_default)) in
    let mark : c.index-in-loop-n.result.now ≡ get_or c.in-Ok-mark_reached.marks.items n false = first_of (search (rules, get_or_default), grind (arith, common_steps, get_or_default)) in
    let count : get_or c.in-Ok.counts.items n 0 ≡ min (names_of v image n) (2 ^ 32 - 1) = c.in-Ok.ensures.counts n low ∙ ap (λ (x : ℕ). min x (2 ^ 32 - 1)) (names_are v image n c.args.children.now c.requires.children children) in
    let fits : c.links_fit.result ≡ true = first_of (search rules, grind (arith, common_steps)) in
    faults.more_from_0 (Holds c.args.strict v image) link_checks n (c.loop-n.invariant image values children) (
      links_right c.args.strict v image n c.index.result.now c.index-in-loop-n.result.now (names ∙ count)
          (λ r. reached_on v image c.args.children.now children n (c.in-Ok-mark_reached.ensures.only n (sym mark ∙ r)))
          (λ r. mark ∙ c.in-Ok-mark_reached.ensures.all n (reached_back v image c.args.children.now children n r))
          o (sym (values n) ∙ at) (subst (IsSlot layout1) at (c.requires.forms n)) (sym c.links_fit.ensures ∙ fits),
      tt,
    )

pub returns-clause-finds : goal.returns-clause-finds
returns-clause-finds c = λ image values children.
    let end : c.loop-n.n ≡ inode_count c.args.volume.now = omega arith in
    subst (λ (k : ℕ). AllByRecursion (Holds c.args.strict c.args.volume.now image) (flat_map link_checks (numbers 0 k))) end (c.loop-n.invariant image values children)
