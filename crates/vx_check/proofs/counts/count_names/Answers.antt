use Rattle.std.proofs.Common.{rules, ◌≡◌, ◌+◌, ◌<◌, ℕ, List, length, get_or, sym, subst, arith}
use Rattle.std.proofs.lemmas.Grind.{common_steps}
use Rattle.std.proofs.lemmas.List.{get_or_default}
use Rattle.vx_check.specs.Reaching.{children_of}
use Rattle.vx_check.specs.Links.{AreCounts, count_of}
use Rattle.vx_check.proofs.Counting.{counted_more}
use Rattle.vx_check.proofs.counts.count_names.Goals as goal

pub bump-requires : goal.bump-requires
bump-requires c =
    let d = c.loop-targets.targets-index in
    let read : c.as_slice.result.now ≡ children_of c.args.children.now d = first_of (search (rules, get_or_default), grind (arith, common_steps, get_or_default)) in
    let long = c.loop-targets.invariant.length_is in
    record {
      inside = λ j. subst (λ (xs : List ℕ). j < length xs → get_or xs j 0 < length c.loop-targets.counts.items) (sym read)
          (λ less. subst (λ (n : ℕ). get_or (children_of c.args.children.now d) j 0 < n) (sym long) (c.requires.inside d j less));
    }

pub loop-targets-preserved : goal.loop-targets-preserved
loop-targets-preserved c =
    let d = c.loop-targets.targets-index in
    let lt : d < length c.args.children.now = omega arith in
    let read : c.as_slice.result.now ≡ children_of c.args.children.now d = first_of (search (rules, get_or_default), grind (arith, common_steps, get_or_default)) in
    counted_more c.loop-targets.counts.items c.bump.new.counts.items c.args.children.now d lt c.loop-targets.invariant c.bump.ensures.length
    (subst (λ (ts : List ℕ). (f : ℕ → ℕ) → AreCounts c.loop-targets.counts.items f → AreCounts c.bump.new.counts.items (λ n. f n + count_of ts n)) read c.bump.ensures.counts)
