use Rattle.std.proofs.Common.{◌≡◌, ◌<◌, ◌≤◌, ℕ, length, get_or, arith, rules, refl}
use Rattle.std.proofs.Common.{List, subst, sym}
use Rattle.std.proofs.lemmas.Grind.{common_steps}
use Rattle.std.proofs.lemmas.List.{get_or_default}
use Rattle.vx_check.specs.Reaching.{Marks, children_of}
use Rattle.vx_check.proofs.Marking.{walk_more, walk_all}
use Rattle.vx_check.proofs.reaching.mark_reached.Goals as goal

pub loop-next-preserved : goal.loop-next-preserved
loop-next-preserved c =
    let lt : c.loop-next.next < length c.loop-next.found.items = omega arith in
    let d = get_or c.loop-next.found.items c.loop-next.next 0 in
    let read : c.as_slice.result.now ≡ children_of c.args.children.now d = first_of (search (rules, get_or_default), grind (arith, common_steps, get_or_default)) in
    let marked = subst (λ (xs : List ℕ). Marks c.loop-next.marks.items c.loop-next.found.items xs (length xs) c.mark_all.new.marks.items c.mark_all.new.found.items) read c.in_ok-mark_all.ensures in
    walk_more c.args.children.now c.args.root c.loop-next.marks.items c.loop-next.found.items c.loop-next.next (get_or c.loop-next.found.items c.loop-next.next 0) _ _ lt refl
    (c.requires.inside (get_or c.loop-next.found.items c.loop-next.next 0)) c.loop-next.invariant marked

pub returns-clause-all : goal.returns-clause-all
returns-clause-all c =
    let end : length c.loop-next.found.items ≤ c.loop-next.next = omega arith in
    walk_all c.args.children.now c.args.root c.loop-next.marks.items c.loop-next.found.items c.loop-next.next end c.loop-next.invariant

pub mark_all-requires : goal.mark_all-requires
mark_all-requires c =
    let d = get_or c.loop-next.found.items c.loop-next.next 0 in
    let read : c.as_slice.result.now ≡ children_of c.args.children.now d = first_of (search (rules, get_or_default), grind (arith, common_steps, get_or_default)) in
    let long = c.loop-next.invariant.length_is in
    record {
      inside = λ j. subst (λ (xs : List ℕ). j < length xs → get_or xs j 0 < length c.loop-next.marks.items) (sym read)
          (λ less. subst (λ (n : ℕ). get_or (children_of c.args.children.now d) j 0 < n) (sym long) (c.requires.inside d j less));
    }
